use Rattle.std.proofs.Common.{◌≡◌, ◌+◌, ◌++◌, ℕ, List, length, Some, slice_get, subst, sym, ap, ◌∙◌}
use Rattle.std.proofs.lemmas.List.{length_push}
use Rattle.q_aig.specs.Prelude.{gate_of, tree_at}
use Rattle.q_validate.specs.Stands.{known_along, AreTold}
use Rattle.q_validate.proofs.KnownValues.{told-more}
use Rattle.q_validate.proofs.known.fill.Goals as goal

pub literal_known-first-requires-clause-row : goal.literal_known-first-requires-clause-row
literal_known-first-requires-clause-row g c =
    subst (λ (row : List _). AreTold g.T.Below.Says c.args.aig.now c.args.path.now row) (sym c.deref.ensures.value) c.loop-gate.invariant.told

pub literal_known-second-requires-clause-row : goal.literal_known-second-requires-clause-row
literal_known-second-requires-clause-row g c =
    subst (λ (row : List _). AreTold g.T.Below.Says c.args.aig.now c.args.path.now row) (sym c.deref-in-loop-gate.ensures.value) c.loop-gate.invariant.told

pub loop-gate-preserved : goal.loop-gate-preserved
loop-gate-preserved g c =
    let a = c.args.aig.now in
    let p = c.args.path.now in
    let items = c.in_ok-push.ensures.items in record {
      room = ap (λ (row : List _). length row) items ∙ length_push c.loop-gate.row.items c.and.result ∙ ap (λ (n : ℕ). n + 1) c.loop-gate.invariant.room;
      told = told-more g.T.Below.Says a p c.loop-gate.row.items c.push.new.self.items c.operands-left.result.0 c.operands-left.result.1 c.and.result
          c.gates-gate-end.ensures.net c.loop-gate.invariant.told
          (subst (λ (k : ℕ). slice_get a.gates k ≡ Some (gate_of c.operands-left.result)) (sym c.loop-gate.invariant.room) c.operands-left.ensures.value)
          (c.and.ensures (λ w. known_along a.inputs (p ++ w) (tree_at a c.operands-left.result.0)) (λ w. known_along a.inputs (p ++ w) (tree_at a c.operands-left.result.1))
          c.literal_known-first.ensures c.literal_known-second.ensures)
          items;
    }
