use Rattle.std.proofs.Common.{◌≡◌, ℕ, Bool, true, sym, ◌∙◌, true≢false}
use Rattle.q_logic.specs.Prelude.{Prefix, is_existential}
use Rattle.q_logic.proofs.Common.{existential-is_bound}
use Rattle.q_logic.proofs.MergeRun.{outer_or_same-is_bound}
use Rattle.q_equiv.proofs.merge.can_stand_for.Goals as goal

told : (b : Bool) (P : Prefix) (v : ℕ) → b ≡ is_existential P v → b ≡ true → is_existential P v ≡ true
told b P v e f = sym e ∙ f

pub returns-then-not-contains : goal.returns-then-not-contains
returns-then-not-contains c =
    let P = c.args.kernel.now.prefix in
    let b = rw (c.prefix.ensures, c.var-3.ensures.value) at c.if-not-contains.ensures in
    ((λ t. absurd (true≢false (sym t))), (λ h. absurd (true≢false (sym (outer_or_same-is_bound P c.args.keep.var c.args.gone.var h.kept_outer) ∙ sym b))))

pub outer_or_same-requires-clause-b : goal.outer_or_same-requires-clause-b
outer_or_same-requires-clause-b c =
    let P = c.args.kernel.now.prefix in
    let e : is_existential P c.args.gone.var ≡ true = told c.is_existential.result P c.args.gone.var (rw c.var-else-var.ensures.value at c.is_existential.ensures) c.if-not-is_existential.false in
    rw (c.prefix-2.ensures, c.var-5.ensures.value) (existential-is_bound P c.args.gone.var e)
