use Rattle.std.proofs.Common.{ℕ, List, [], ◌∷◌, ◌++◌, ◌∙◌, ap, subst, inl, inr}
use Rattle.q_logic.specs.Prelude.{Literal, IsIn}
use Rattle.q_kernel.specs.Prelude.{slots}
use Rattle.q_reduce.specs.Paths.{Leads}
use Rattle.q_reduce.proofs.sides.Sides.begin.Goals as goal

pub returns : goal.returns
returns c =
    let k = c.args.kernel.now in
    record {
      from_start = λ s m l. elim (subst (λ (xs : List ℕ). IsIn s xs) (c.in_ok-push.ensures.items ∙ ap (λ (xs : List ℕ). xs ++ c.args.c ∷ []) c.clear.ensures.items) m) [
        | inl e ↦ subst (λ (x : ℕ). Leads k.prefix (slots k) c.args.lit x) e l
        | inr none ↦ absurd none
      ];
      from_end = λ e m. elim (c.in_ok-put_free.ensures e m) [
        | inl a ↦ absurd (subst (λ (xs : List ℕ). IsIn e xs) c.clear-2.ensures.items a)
        | inr b ↦ (Leads.there e b.0.0 b.0.1 (subst (λ (l : Literal). IsIn l b.0.0) c.negated.ensures b.0.2), b.1)
      ];
    }
