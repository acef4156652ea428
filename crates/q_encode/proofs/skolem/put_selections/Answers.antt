use Rattle.std.proofs.Common.{◌≡◌, ◌++◌, ◌+◌, ◌∙◌, ℕ, ap, sym, subst, drop, length}
use Rattle.q_logic.specs.Prelude.{Literal, Matrix}
use Rattle.q_aig.specs.Prelude.{Net}
use Rattle.q_miter.specs.Miters.{selector, denials, selections, in_order}
use Rattle.q_encode.proofs.MadeRows.{put-more, selections-next}
use Rattle.q_encode.proofs.skolem.put_selections.Goals as goal

pub loop-at-preserved : goal.loop-at-preserved
loop-at-preserved c =
    let n : c.gates-gates.result ≡ length c.args.circuits.now.gates = c.gates-gates.ensures.value ∙ ap (λ (a : Net). length a.gates) c.aig.ensures in
    let q : c.selector_lit.result ≡ selector c.args.top (length c.args.circuits.now.gates) c.loop-at.at =
    c.selector_lit.ensures ∙ ap (λ (k : ℕ). selector c.args.top k c.loop-at.at) n in
    let part = in_order (denials c.args.top c.args.circuits.now (selector c.args.top (length c.args.circuits.now.gates) c.loop-at.at) c.clause.result.now) in
    let rest = in_order (selections c.args.top c.args.circuits.now (c.loop-at.at + 1) (drop (c.loop-at.at + 1) c.args.clauses.now)) in
    put-more c.loop-at.rows c.put_denials.new.rows _ part rest
    (subst (λ (k : Literal). c.put_denials.new.rows ≡ c.loop-at.rows ++ in_order (denials c.args.top c.args.circuits.now k c.clause.result.now)) q
    (c.in_ok-put_denials.ensures c.args.top c.args.circuits.now c.requires.lits))
    (ap (λ (X : Matrix). c.loop-at.rows ++ X) (sym (selections-next c.args.top c.args.circuits.now c.args.clauses.now c.loop-at.at c.clause.result.now c.clause.ensures)) ∙
    c.loop-at.invariant)
