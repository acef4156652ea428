-- What stands before a variable.
use Rattle.std.proofs.Common.{◌≡◌, ℕ, List, [], ◌∷◌, None, Some, refl, sym, ◌∙◌, ap, inl, inr}
use Rattle.std.proofs.lemmas.Option.{same_Some, none-some}
use Rattle.std.proofs.lemmas.Bool.{cases_eq}
use Rattle.q_arena.specs.Prelude.{Has, preceding, preceding_from}
use Rattle.q_prefix.specs.declared.marks.Mark.{Mark}
use Rattle.q_prefix.specs.Order.{bound_of, bounds_of, bound_before, bound_before_from}
use Rattle.q_prefix.proofs.ListedBounds.{cond-same, cond-other}
use Rattle.q_prefix.proofs.ListDirections.{preceding-has}
use Rattle.q_arena.proofs.ListNeighbours.{preceding-here, preceding-later}

module _ (marks : List Mark) where
  before_from-some : (u : ℕ) (L : List ℕ) (v x : ℕ) → preceding_from v u L ≡ Some x → bound_before_from (bound_of marks u) (bounds_of marks L) v ≡ Some (bound_of marks x)
  before_from-some u [] v x e = absurd (none-some x e)
  before_from-some u (c ∷ L) v x e = elim (cases_eq c v) [
    | inl q ↦ cond-same c v (Some (bound_of marks u)) (bound_before_from (bound_of marks c) (bounds_of marks L) v) q
        ∙ ap (λ (k : ℕ). Some (bound_of marks k)) (same_Some u x (sym (preceding-here v u c L q) ∙ e))
    | inr n ↦ cond-other c v (Some (bound_of marks u)) (bound_before_from (bound_of marks c) (bounds_of marks L) v) n
        ∙ before_from-some c L v x (sym (preceding-later v u c L n) ∙ e)
  ]

  pub before-some : (L : List ℕ) (v x : ℕ) → preceding v L ≡ Some x → bound_before (bounds_of marks L) v ≡ Some (bound_of marks x)
  before-some [] v x e = absurd (none-some x e)
  before-some (u ∷ L) v x e = before_from-some u L v x e

  before_from-none : (u : ℕ) (L : List ℕ) (v : ℕ) → preceding_from v u L ≡ None → bound_before_from (bound_of marks u) (bounds_of marks L) v ≡ None
  before_from-none u [] v e = refl
  before_from-none u (c ∷ L) v e = elim (cases_eq c v) [
    | inl q ↦ absurd (none-some u (sym e ∙ preceding-here v u c L q))
    | inr n ↦ cond-other c v (Some (bound_of marks u)) (bound_before_from (bound_of marks c) (bounds_of marks L) v) n
        ∙ before_from-none c L v (sym (preceding-later v u c L n) ∙ e)
  ]

  pub before-none : (L : List ℕ) (v : ℕ) → preceding v L ≡ None → bound_before (bounds_of marks L) v ≡ None
  before-none [] v e = refl
  before-none (u ∷ L) v e = before_from-none u L v e

pub before-has : (L : List ℕ) (v x : ℕ) → preceding v L ≡ Some x → Has L x
before-has [] v x e = absurd (none-some x e)
before-has (u ∷ L) v x e = preceding-has v u x L e
