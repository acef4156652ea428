-- What a path says of a variable, by its place.
use Rattle.std.proofs.Common.{◌≡◌, ℕ, zero, suc, ◌+◌, ◌<◌, ◌≤◌, Bool, true, false, cond, not, eqb, List, [], ◌∷◌, length, drop, get_or, refl, sym, ap, ◌∙◌, subst, arith, add-one}
use Rattle.std.proofs.Math.Seq.{drop-cons}
use Rattle.q_logic.specs.declared.formulas.Bound.{Bound}
use Rattle.q_logic.specs.Prelude.{Prefix, Assignment, with_value}
use Rattle.q_logic.specs.Prefixes.{is_exists, is_bound, is_universal, place, Distinct}
use Rattle.q_search.specs.Paths.{along, rest_of}

-- one element of what is left of a list
pub drop-step : {X Y : Type 0} (f : List X → Y) (xs : List X) (i : ℕ) (x : X) → i < length xs → x ≡ get_or xs i x →
    f (drop i xs) ≡ f (x ∷ drop (i + 1) xs)
drop-step f xs i x h e = ap f (rw add-one (drop-cons xs i x h ∙ ap (λ y. y ∷ drop (suc i) xs) (sym e)))

pub place-bound : (P : Prefix) (v : ℕ) → is_bound P v ≡ true → place P v < length P
place-bound [] v h = absurd (cc)
place-bound (b ∷ P) v h = go (eqb b.var v) h (place-bound P v)
  where
    go : (x : Bool) → cond x true (is_bound P v) ≡ true → (is_bound P v ≡ true → place P v < length P) →
        cond x 0 (suc (place P v)) < suc (length P)
    go true h f = omega arith
    go false h f = let z : place P v < length P = f h in omega arith

rest-unbound : (P : Prefix) (vs : List Bool) (v : ℕ) → is_bound P v ≡ false → is_bound (rest_of P vs) v ≡ false
rest-unbound P [] v h = h
rest-unbound [] (w ∷ vs) v h = refl
rest-unbound (b ∷ P) (w ∷ vs) v h = rest-unbound P vs v (grind arith)

along-unbound : (P : Prefix) (vs : List Bool) (A : Assignment) (v : ℕ) → is_bound P v ≡ false → along P vs A v ≡ A v
along-unbound [] vs A v h = refl
along-unbound (b ∷ P) [] A v h = refl
along-unbound (b ∷ P) (w ∷ vs) A v h =
    let p : is_bound P v ≡ false = grind arith in
    let q : eqb v b.var ≡ false = grind arith in
    along-unbound P vs (with_value A b.var w) v p ∙ ap (λ c. cond c w (A v)) q

pub set-unbound : (P : Prefix) (vs : List Bool) (v : ℕ) → Distinct P → place P v < length vs →
    is_bound (rest_of P vs) v ≡ false
set-unbound P [] v d h = absurd (omega arith)
set-unbound [] (w ∷ vs) v d h = refl
set-unbound (b ∷ P) (w ∷ vs) v d h = go (eqb b.var v) refl h (set-unbound P vs v d.1)
  where
    go : (x : Bool) → eqb b.var v ≡ x → cond x 0 (suc (place P v)) < suc (length vs) →
        (place P v < length vs → is_bound (rest_of P vs) v ≡ false) → is_bound (rest_of P vs) v ≡ false
    go true e h f = let s : b.var ≡ v = grind arith in rest-unbound P vs v (subst (λ n. is_bound P n ≡ false) s d.0)
    go false e h f = f (omega arith)

pub set-value : (P : Prefix) (vs : List Bool) (A : Assignment) (v : ℕ) → Distinct P → place P v < length vs →
    is_bound P v ≡ true → along P vs A v ≡ get_or vs (place P v) false
set-value P [] A v d h k = absurd (omega arith)
set-value [] (w ∷ vs) A v d h k = absurd (cc)
set-value (b ∷ P) (w ∷ vs) A v d h k = go (eqb b.var v) refl h k (set-value P vs (with_value A b.var w) v d.1)
  where
    go : (x : Bool) → eqb b.var v ≡ x → cond x 0 (suc (place P v)) < suc (length vs) → cond x true (is_bound P v) ≡ true →
        (place P v < length vs → is_bound P v ≡ true → along P vs (with_value A b.var w) v ≡ get_or vs (place P v) false) →
        along P vs (with_value A b.var w) v ≡ get_or (w ∷ vs) (cond x 0 (suc (place P v))) false
    go true e h k f =
        let s : b.var ≡ v = grind arith in
        let q : eqb v b.var ≡ true = grind arith in
        along-unbound P vs (with_value A b.var w) v (subst (λ n. is_bound P n ≡ false) s d.0) ∙ ap (λ c. cond c w (A v)) q
    go false e h k f = f (omega arith) k

pub open-bound : (P : Prefix) (vs : List Bool) (v : ℕ) → length vs ≤ place P v → is_bound (rest_of P vs) v ≡ is_bound P v
open-bound P [] v h = refl
open-bound [] (w ∷ vs) v h = refl
open-bound (b ∷ P) (w ∷ vs) v h = go (eqb b.var v) h (open-bound P vs v)
  where
    go : (x : Bool) → suc (length vs) ≤ cond x 0 (suc (place P v)) → (length vs ≤ place P v → is_bound (rest_of P vs) v ≡ is_bound P v) →
        is_bound (rest_of P vs) v ≡ cond x true (is_bound P v)
    go true h f = absurd (omega arith)
    go false h f = f (omega arith)

pub open-universal : (P : Prefix) (vs : List Bool) (v : ℕ) → length vs ≤ place P v → is_universal (rest_of P vs) v ≡ is_universal P v
open-universal P [] v h = refl
open-universal [] (w ∷ vs) v h = refl
open-universal (b ∷ P) (w ∷ vs) v h = go (eqb b.var v) h (open-universal P vs v)
  where
    go : (x : Bool) → suc (length vs) ≤ cond x 0 (suc (place P v)) → (length vs ≤ place P v → is_universal (rest_of P vs) v ≡ is_universal P v) →
        is_universal (rest_of P vs) v ≡ cond x (not (is_exists b.quant)) (is_universal P v)
    go true h f = absurd (omega arith)
    go false h f = f (omega arith)

pub place-universal : (P : Prefix) (v : ℕ) (d : Bound) → is_bound P v ≡ true →
    is_universal P v ≡ not (is_exists (get_or P (place P v) d).quant)
place-universal [] v d h = absurd (cc)
place-universal (b ∷ P) v d h = go (eqb b.var v) h (place-universal P v d)
  where
    go : (x : Bool) → cond x true (is_bound P v) ≡ true →
        (is_bound P v ≡ true → is_universal P v ≡ not (is_exists (get_or P (place P v) d).quant)) →
        cond x (not (is_exists b.quant)) (is_universal P v) ≡ not (is_exists (get_or (b ∷ P) (cond x 0 (suc (place P v))) d).quant)
    go true h f = refl
    go false h f = f h

-- What is left of a prefix behind a path.
pub rest-at : (P : Prefix) (vs : List Bool) (d : Bound) → length vs < length P → rest_of P vs ≡ get_or P (length vs) d ∷ drop (suc (length vs)) P
rest-at [] vs d h = absurd (omega arith)
rest-at (b ∷ P) [] d h = refl
rest-at (b ∷ P) (v ∷ vs) d h = rest-at P vs d (omega arith)

pub rest-none : (P : Prefix) (vs : List Bool) → length P ≤ length vs → rest_of P vs ≡ []
rest-none [] [] h = refl
rest-none [] (v ∷ vs) h = refl
rest-none (b ∷ P) [] h = absurd (omega arith)
rest-none (b ∷ P) (v ∷ vs) h = rest-none P vs (omega arith)

-- what was read, whatever the default
pub read-at : {X : Type 0} (xs : List X) (i : ℕ) (x d : X) → i < length xs → x ≡ get_or xs i x → x ≡ get_or xs i d
read-at [] i x d h e = absurd (omega arith)
read-at (y ∷ xs) zero x d h e = e
read-at (y ∷ xs) (suc i) x d h e = read-at xs i x d (omega arith) e

pub last-bound : (P Q : Prefix) (vs : List Bool) (n : ℕ) (d : Bound) → Q ≡ P → n ≡ length vs → length vs < length P →
    rest_of P vs ≡ get_or Q n d ∷ drop (suc (length vs)) P
last-bound P Q vs n d e f h =
    rest-at P vs d h
    ∙ ap (λ i. get_or P i d ∷ drop (suc (length vs)) P) (sym f)
    ∙ ap (λ (R : Prefix). get_or R n d ∷ drop (suc (length vs)) P) (sym e)
