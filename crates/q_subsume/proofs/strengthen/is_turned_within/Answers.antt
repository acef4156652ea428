use Rattle.std.proofs.Common.{◌≡◌, ◌≢◌, Some, None, subst, sym, ◌∙◌, true≢false}
use Rattle.q_logic.specs.Prelude.{Literal, IsIn}
use Rattle.q_subsume.proofs.PairTests.{turned-told, not-turned}
use Rattle.q_subsume.proofs.strengthen.is_turned_within.Goals as goal

pub returns-then-is_new : goal.returns-then-is_new
returns-then-is_new c = turned-told c.args.c.now c.args.d.now c.args.l c.first_missing.result c.is_none.result c.is_none.ensures (c.is_new.ensures.0 c.if-is_new.true)
    (subst (λ (m : Literal). (k : Literal) → c.first_missing.result ≡ Some k → IsIn k c.args.c.now × (Some m ≢ Some k) × (IsIn k c.args.d.now → ⊥)) c.negated.ensures c.first_missing.ensures.some)
    (subst (λ (m : Literal). c.first_missing.result ≡ None → (k : Literal) → IsIn k c.args.c.now → Some m ≢ Some k → IsIn k c.args.d.now) c.negated.ensures c.first_missing.ensures.none)

pub returns-else-is_new : goal.returns-else-is_new
returns-else-is_new c = (
  (λ t. absurd (true≢false (sym t ∙ c.if-is_new.false))),
  (λ h. c.is_new.ensures.1 (h.held, (λ m. not-turned c.args.c.now c.args.d.now c.args.l m h))),
)
