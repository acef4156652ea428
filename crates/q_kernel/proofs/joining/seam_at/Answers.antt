use Rattle.std.proofs.Common.{sym, ◌∙◌, subst, Some, true, ◌≡◌}
use Rattle.q_logic.specs.Prelude.{is_bound}
use Rattle.q_kernel.specs.declared.joining.Seam.{Seam}
use Rattle.q_kernel.proofs.NextVariables.{after-bound}
use Rattle.q_kernel.proofs.joining.seam_at.Goals as goal

same : (s t : Seam) → Some s ≡ Some t → s ≡ t
same s t e = cc

pub outer_or_same-requires-clause-a : goal.outer_or_same-requires-clause-a
outer_or_same-requires-clause-a c = after-bound c.args.prefix.now.bounds c.args.var c.in-Some-after.after (sym c.after.ensures ∙ c.in-Some-after.is)

pub returns-clause-first : goal.returns-clause-first
returns-clause-first c s e =
    subst (λ (x : Seam). is_bound c.args.prefix.now.bounds x.first ≡ true) (same (record { last = c.in-Some.before.var; first = c.in-Some-after.after.var }) s e)
    (after-bound c.args.prefix.now.bounds c.args.var c.in-Some-after.after (sym c.after.ensures ∙ c.in-Some-after.is))
