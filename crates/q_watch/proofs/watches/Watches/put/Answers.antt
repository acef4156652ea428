use Rattle.std.proofs.Common.{◌≡◌, ℕ, Some, inl, inr, refl, sym, subst}
use Rattle.std.proofs.lemmas.Bool.{cases_eq}
use Rattle.std.proofs.lemmas.Result.{on_ok_weaker}
use Rattle.q_logic.specs.Prelude.{Clause, IsIn, slot}
use Rattle.q_kernel.specs.Prelude.{slots}
use Rattle.q_rule.proofs.IdClauses.{slot-one}
use Rattle.q_watch.specs.Watches.{IsPairOf, IsPaired}
use Rattle.q_watch.proofs.watches.Watches.put.Goals as goal

pub returns-in_default : goal.returns-in_default
returns-in_default c d D j s m a = elim a [
  | inl q ↦ absurd (c.in_default.ensures j (subst (λ (C : Clause). IsIn j C) (slot-one (slots c.args.kernel.now) c.args.id D c.lits.result.now (subst (λ (x : ℕ). slot (slots c.args.kernel.now) x ≡ Some D) q s) c.lits.ensures.clause) m))
  | inr r ↦ r
]
