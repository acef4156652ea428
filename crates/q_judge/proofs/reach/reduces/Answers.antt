use Rattle.std.proofs.Common.{sym, true≢false}
use Rattle.q_logic.specs.Prelude.{Literal, negation, Clause, Matrix, Prefix, IsIn, Reached, Reducible}
use Rattle.q_prop.specs.Slots.{filled}
use Rattle.q_judge.proofs.reach.reduces.Goals as goal

negated : (P : Prefix) (X : Matrix) (C : Clause) (l : Literal) → IsIn (negation l) C → Reducible P X C l → ⊥
negated P X C l m h = h.no_negation C Reached.first m

pub returns-then-holds : goal.returns-then-holds
returns-then-holds c =
    let m = rw c.negated.ensures at c.holds.ensures in
    ((λ t. absurd (true≢false (sym t))), (λ h. absurd (negated c.args.view.now.prefix (filled c.args.view.now.slots) c.args.clause.now c.args.lit (m.0 c.if-holds.true) h)))
