-- Places of a list, and what holds of all its items.
use Rattle.std.proofs.Common.{◌≡◌, ℕ, zero, suc, ◌+◌, ◌<◌, Bool, true, false, List, [], ◌∷◌, ◌++◌, length, take, drop, get_or, slice_get, inl, inr, refl, sym, ap, arith, Option, Some}
use Rattle.std.specs.List.{AllByRecursion}
use Rattle.std.proofs.lemmas.List.{take_more}
use Rattle.std.proofs.lemmas.Option.{slice_get_within, get_or_from_slice_get}
use Rattle.q_logic.specs.Prelude.{IsIn}

pub all-append : {X : Type 0} (P : X → Type 0) (xs ys : List X) → AllByRecursion P xs → AllByRecursion P ys → AllByRecursion P (xs ++ ys)
all-append P [] ys h k = k
all-append P (x ∷ xs) ys h k = (h.0, all-append P xs ys h.1 k)

pub get_or-IsIn : {X : Type 0} (xs : List X) (i : ℕ) (d : X) → i < length xs → IsIn (get_or xs i d) xs
get_or-IsIn [] i d h = absurd (omega arith)
get_or-IsIn (x ∷ xs) zero d h = inl refl
get_or-IsIn (x ∷ xs) (suc i) d h = inr (get_or-IsIn xs i d (omega arith))

pub slice_get-IsIn : {X : Type 0} (xs : List X) (at : ℕ) (x : X) → slice_get xs at ≡ Some x → IsIn x xs
slice_get-IsIn [] at x e = absurd (cc)
slice_get-IsIn (y ∷ xs) zero x e = inl (cc)
slice_get-IsIn (y ∷ xs) (suc at) x e = inr (slice_get-IsIn xs at x e)

pub IsIn-slice_get : {X : Type 0} (xs : List X) (x : X) → IsIn x xs → (i : ℕ) × (i < length xs) × (slice_get xs i ≡ Some x)
IsIn-slice_get [] x m = absurd m
IsIn-slice_get (y ∷ xs) x (inl e) = (0, omega arith, ap Some (sym e))
IsIn-slice_get (y ∷ xs) x (inr m) = let r = IsIn-slice_get xs x m in (suc r.0, (let h = r.1 in omega arith), r.2)

pub slice_get-before : {X : Type 0} (xs ys : List X) (i : ℕ) (x : X) → i < length xs → slice_get (xs ++ ys) i ≡ Some x → slice_get xs i ≡ Some x
slice_get-before [] ys i x l e = absurd (omega arith)
slice_get-before (y ∷ xs) ys zero x l e = e
slice_get-before (y ∷ xs) ys (suc i) x l e = slice_get-before xs ys i x (omega arith) e

pub slice_get-append : {X : Type 0} (xs ys : List X) (i : ℕ) (x : X) → slice_get xs i ≡ Some x → slice_get (xs ++ ys) i ≡ Some x
slice_get-append [] ys i x e = absurd (cc)
slice_get-append (y ∷ xs) ys zero x e = e
slice_get-append (y ∷ xs) ys (suc i) x e = slice_get-append xs ys i x e

pub IsIn-drop : {X : Type 0} (xs : List X) (i : ℕ) (x : X) → IsIn x (drop i xs) → IsIn x xs
IsIn-drop [] zero x m = m
IsIn-drop [] (suc i) x m = m
IsIn-drop (y ∷ xs) zero x m = m
IsIn-drop (y ∷ xs) (suc i) x m = inr (IsIn-drop xs i x m)

pub IsIn-take : {X : Type 0} (xs : List X) (i : ℕ) (x : X) → IsIn x (take i xs) → IsIn x xs
IsIn-take [] zero x m = m
IsIn-take [] (suc i) x m = m
IsIn-take (y ∷ xs) zero x m = elim m [ ]
IsIn-take (y ∷ xs) (suc i) x (inl e) = inl e
IsIn-take (y ∷ xs) (suc i) x (inr m) = inr (IsIn-take xs i x m)

pub taken : {X : Type 0} (xs : List X) (n : ℕ) (y : X) → n < length xs → y ≡ get_or xs n y → take (n + 1) xs ≡ take n xs ++ y ∷ []
taken xs n y h e = let t = take_more xs n y h in rw (t, ← e) refl

pub take-slice_get : {X : Type 0} (xs : List X) (i : ℕ) (x : X) → slice_get xs i ≡ Some x → take (i + 1) xs ≡ take i xs ++ x ∷ []
take-slice_get xs i x e = taken xs i x (slice_get_within xs i x e) (sym (get_or_from_slice_get xs i x x e))

pub mark_room : (marks : List Bool) (n : ℕ) → get_or marks n false ≡ true → n < length marks
mark_room [] n e = absurd (cc)
mark_room (b ∷ marks) zero e = omega arith
mark_room (b ∷ marks) (suc n) e = let h = mark_room marks n e in omega arith
