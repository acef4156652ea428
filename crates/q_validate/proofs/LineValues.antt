-- What is known along a line, and the lines of paths.
use Rattle.std.proofs.Common.{◌≡◌, ◌+◌, ◌-◌, ◌≤◌, ◌++◌, ℕ, zero, suc, Bool, true, false, cond, nat_lt, List, [], ◌∷◌, length, take, get_or, slice_get, Some, None, refl, sym, ap, ◌∙◌, inl, inr, arith}
use Rattle.std.proofs.lemmas.List.{append_assoc, length_push, take-append-le}
use Rattle.std.proofs.lemmas.Option.{slice_get-get_or, slice_get_past}
use Rattle.std.proofs.lemmas.Bool.{cases_lt}
use Rattle.q_validate.specs.Lines.{zeros, Follows}

pub value-follows : (v : Bool) → Follows (record { after = 0; value = v }) (λ w. Some v)
value-follows v n = let e : nat_lt n 0 ≡ false = grind arith in ap (λ b. cond b None (Some v)) e

zeros-length : (n : ℕ) → length (zeros n) ≡ n
zeros-length zero = refl
zeros-length (suc n) = ap suc (zeros-length n)

zeros-at : (n i : ℕ) → get_or (zeros n) i false ≡ false
zeros-at zero i = refl
zeros-at (suc n) zero = refl
zeros-at (suc n) (suc i) = zeros-at n i

pub input-follows : (i : ℕ) → Follows (record { after = i + 1; value = false }) (λ w. slice_get w i)
input-follows i n = elim (cases_lt i n) [
  | inl h ↦
      let e : nat_lt n (i + 1) ≡ false = grind arith in
      let k : length (zeros n) ≡ n = zeros-length n in
      ap (λ b. cond b None (Some false)) e ∙ sym (slice_get-get_or (zeros n) i false (omega arith) ∙ ap (λ (b : Bool). Some b) (zeros-at n i))
  | inr h ↦
      let e : nat_lt n (i + 1) ≡ true = grind arith in
      let k : length (zeros n) ≡ n = zeros-length n in
      ap (λ b. cond b None (Some false)) e ∙ sym (slice_get_past (zeros n) i (omega arith))
]

zeros-push : (n : ℕ) → zeros n ++ false ∷ [] ≡ zeros (suc n)
zeros-push zero = refl
zeros-push (suc n) = ap (λ (w : List Bool). false ∷ w) (zeros-push n)

-- A line goes on with a 0.
pub line-on : (path : List Bool) (base : ℕ) → base ≤ length path → path ≡ take base path ++ zeros (length path - base) →
    path ++ false ∷ [] ≡ take base (path ++ false ∷ []) ++ zeros (length (path ++ false ∷ []) - base)
line-on path base h e =
    let n : length (path ++ false ∷ []) ≡ length path + 1 = length_push path false in
    let m : length (path ++ false ∷ []) - base ≡ suc (length path - base) = omega arith in
    ap (λ (p : List Bool). p ++ false ∷ []) e
    ∙ append_assoc (take base path) (zeros (length path - base)) (false ∷ [])
    ∙ ap (λ (p : List Bool). take base path ++ p) (zeros-push (length path - base))
    ∙ sym (ap (λ k. take base (path ++ false ∷ []) ++ zeros k) m
    ∙ ap (λ (p : List Bool). p ++ zeros (suc (length path - base))) (take-append-le base path (false ∷ []) h))
