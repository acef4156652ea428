use Rattle.std.proofs.Common.{sym, ◌∙◌, subst, Some, ℕ, true, ◌≡◌}
use Rattle.q_logic.specs.Prelude.{is_bound}
use Rattle.q_kernel.proofs.NextVariables.{after-bound}
use Rattle.q_kernel.proofs.joining.mate_after.Goals as goal

same : (a b : ℕ) → Some a ≡ Some b → a ≡ b
same a b e = cc

pub outer_or_same-requires-clause-a : goal.outer_or_same-requires-clause-a
outer_or_same-requires-clause-a c = after-bound c.args.prefix.now.bounds c.args.var c.in-Some.after (sym c.after.ensures ∙ c.in-Some.is)

pub returns-in-Some : goal.returns-in-Some
returns-in-Some c w e = subst (λ (x : ℕ). is_bound c.args.prefix.now.bounds x ≡ true) (same c.in-Some.after.var w e) (after-bound c.args.prefix.now.bounds c.args.var c.in-Some.after (sym c.after.ensures ∙ c.in-Some.is))
