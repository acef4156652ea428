-- Walks along the list of variables.
use Rattle.std.proofs.Common.{◌≡◌, ℕ, zero, suc, ◌+◌, ◌<◌, List, [], ◌∷◌, length, slice_get, None, Some, refl, sym, ◌∙◌, ap, subst, arith, not-suc-le-zero}
use Rattle.std.proofs.lemmas.Option.{same_Some, none-some}
use Rattle.q_logic.specs.declared.formulas.Bound.{Bound}
use Rattle.q_arena.specs.Prelude.{Has, AreApart, following}
use Rattle.q_arena.proofs.RingPaths.{Misses-not}
use Rattle.q_arena.proofs.ListNeighbours.{get-has, following-here, following-later}
use Rattle.q_prefix.specs.declared.marks.Mark.{Mark}
use Rattle.q_prefix.specs.Order.{quant_of, mark_at, bound_of, bounds_of}
use Rattle.q_prefix.proofs.ListedBounds.{quant-has}

next-of : (L : List ℕ) (i v : ℕ) → AreApart L → slice_get L i ≡ Some v → following v L ≡ slice_get L (suc i)
next-of [] i v a e = absurd (none-some v e)
next-of (u ∷ L) zero v a e = following-here v u L (same_Some u v e)
next-of (u ∷ L) (suc i) v a e = following-later v u L (λ q. Misses-not u v L a.0 (get-has L i v e) q) ∙ next-of L i v a.1 e

pub get-next : (L : List ℕ) (i v : ℕ) → AreApart L → slice_get L i ≡ Some v → following v L ≡ slice_get L (i + 1)
get-next L i v a e = let n : suc i ≡ i + 1 = omega arith in subst (λ (k : ℕ). following v L ≡ slice_get L k) n (next-of L i v a e)

none-next : (L : List ℕ) (i : ℕ) → slice_get L i ≡ None → slice_get L (suc i) ≡ None
none-next [] i e = refl
none-next (u ∷ L) zero e = absurd (none-some u (sym e))
none-next (u ∷ L) (suc i) e = none-next L i e

pub get-none : (L : List ℕ) (i : ℕ) → slice_get L i ≡ None → slice_get L (i + 1) ≡ None
get-none L i e = let n : suc i ≡ i + 1 = omega arith in subst (λ (k : ℕ). slice_get L k ≡ None) n (none-next L i e)

pub get-bounds : (marks : List Mark) (L : List ℕ) (i v : ℕ) → slice_get L i ≡ Some v → slice_get (bounds_of marks L) i ≡ Some (bound_of marks v)
get-bounds marks [] i v e = absurd (none-some v e)
get-bounds marks (u ∷ L) zero v e = ap (λ (k : ℕ). Some (bound_of marks k)) (same_Some u v e)
get-bounds marks (u ∷ L) (suc i) v e = get-bounds marks L i v e

pub get-within : (marks : List Mark) (L : List ℕ) (i : ℕ) → i < length (bounds_of marks L) → slice_get L i ≡ None → ⊥
get-within marks [] i h e = not-suc-le-zero h
get-within marks (u ∷ L) zero h e = none-some u (sym e)
get-within marks (u ∷ L) (suc i) h e = get-within marks L i (omega arith) e

-- a bound is known by its variable and its quantifier
pub bound-is : (marks : List Mark) (L : List ℕ) (v : ℕ) (b : Bound) → Has L v → b.var ≡ v → quant_of (bounds_of marks L) v ≡ Some b.quant → b ≡ bound_of marks v
bound-is marks L v b h e q =
    let same : b.quant ≡ (mark_at marks v).quant = same_Some b.quant (mark_at marks v).quant (sym q ∙ quant-has marks L v h) in
    λ i. record { quant = same i; var = e i }
