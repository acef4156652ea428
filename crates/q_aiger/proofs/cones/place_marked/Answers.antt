use Rattle.std.proofs.Common.{◌≡◌, ◌+◌, ℕ, Bool, Vec, Global, true, false, refl, sym, ap, subst, length, get_or, arith, ◌∙◌}
use Rattle.q_aiger.specs.Cones.{ArePlaced}
use Rattle.q_aiger.proofs.OutputCones.{placed-push, placed-plain, bit-read}
use Rattle.q_aiger.proofs.cones.place_marked.Goals as goal
use Rattle.q_aiger.proofs.cones.place_marked.Goals.{then-index+in_ok-push, else-index}

pub loop-gate-preserved : goal.loop-gate-preserved
loop-gate-preserved c =
    let bit : (d : Bool) → c.index.result.now ≡ d → get_or c.args.marks.now.items c.loop-gate.gate false ≡ d =
    λ d e. bit-read c.args.marks.now.items (length c.args.marks.now.items) _ c.index.result.now d refl (omega arith) c.index.ensures e in
    elim c.if-index.branch [
      | then-index+in_ok-push w ↦
          placed-push c.args.marks.now.items c.loop-gate.gate w.len-then-index.result c.loop-gate.kept.items c.if-index.kept.items c.loop-gate.places.items c.if-index.places.items c.loop-gate.invariant (omega arith) (bit true w.if-index.true)
          (omega arith) (ap (λ (v : Vec ℕ Global). v.items) w.kept-is ∙ w.in_ok-push.ensures.items) (ap (λ (v : Vec ℕ Global). v.items) w.places-is)
      | else-index w ↦
          subst (λ (v : Vec ℕ Global). ArePlaced c.args.marks.now.items (c.loop-gate.gate + 1) c.if-index.kept.items v.items) (sym w.places-is) (
          subst (λ (v : Vec ℕ Global). ArePlaced c.args.marks.now.items (c.loop-gate.gate + 1) v.items c.loop-gate.places.items) (sym w.kept-is)
          (placed-plain c.args.marks.now.items c.loop-gate.gate c.loop-gate.kept.items c.loop-gate.places.items c.loop-gate.invariant (bit false w.if-index.false)))
    ]
