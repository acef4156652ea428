-- Membership, by recursion and as std says it.
use Rattle.std.proofs.Common.{◌≡◌, ℕ, zero, suc, ◌<◌, List, [], ◌∷◌, length, drop, get_or, ◌⊎◌, inl, inr, sym, arith, Contains}
use Rattle.q_logic.specs.Prelude.{IsIn}

pub IsIn-Contains : {X : Type 0} (x : X) (xs : List X) → IsIn x xs → Contains xs x
IsIn-Contains x [] m = elim m [ ]
IsIn-Contains x (y ∷ ys) (inl e) = (0, omega arith, sym e)
IsIn-Contains x (y ∷ ys) (inr m) =
    let r : Contains ys x = IsIn-Contains x ys m in (suc r.0, omega arith, r.2)

pub Contains-IsIn : {X : Type 0} (x : X) (xs : List X) → Contains xs x → IsIn x xs
Contains-IsIn x [] c = absurd (omega (arith, c.1))
Contains-IsIn x (y ∷ ys) (zero, h, e) = inl (sym e)
Contains-IsIn x (y ∷ ys) (suc k, h, e) = inr (Contains-IsIn x ys (k, omega arith, e))

-- What is held from a place on stands at that place or is held from the next one on.
pub IsIn-drop_within : {X : Type 0} (x : X) (xs : List X) (at : ℕ) → IsIn x (drop at xs) → at < length xs
IsIn-drop_within x [] zero m = elim m [ ]
IsIn-drop_within x [] (suc at) m = elim m [ ]
IsIn-drop_within x (y ∷ ys) zero m = omega arith
IsIn-drop_within x (y ∷ ys) (suc at) m = let h = IsIn-drop_within x ys at m in omega arith

pub IsIn-drop_next : {X : Type 0} (x : X) (xs : List X) (at : ℕ) → IsIn x (drop at xs) →
    (get_or xs at x ≡ x) ⊎ IsIn x (drop (suc at) xs)
IsIn-drop_next x [] zero m = elim m [ ]
IsIn-drop_next x [] (suc at) m = elim m [ ]
IsIn-drop_next x (y ∷ ys) zero (inl e) = inl (sym e)
IsIn-drop_next x (y ∷ ys) zero (inr m) = inr m
IsIn-drop_next x (y ∷ ys) (suc at) m = IsIn-drop_next x ys at m
