-- A clause in literal order without one of its literals.
use Rattle.std.proofs.Common.{◌≡◌, ℕ, zero, suc, ◌+◌, ◌<◌, Bool, true, false, cond, List, [], ◌∷◌, ◌++◌, length, get_or, take, drop, refl, sym, ◌∙◌, ap, subst, arith, not-suc-le-zero}
use Rattle.std.specs.List.{AllByRecursion}
use Rattle.q_logic.specs.Prelude.{Literal, IsBelow, literal_eq, ArePairs, without}
use Rattle.q_logic.proofs.Common.{literal_eq-itself}

above-differs : (k l : Literal) → IsBelow k l → literal_eq l k ≡ false
above-differs k l h = grind arith

below-differs : (k l : Literal) → IsBelow k l → literal_eq k l ≡ false
below-differs k l h = grind arith

without-none : (l : Literal) (c : List Literal) → AllByRecursion (IsBelow l) c → without l c ≡ c
without-none l [] a = refl
without-none l (k ∷ c) a =
    ap (λ (b : Bool). cond b (without l c) (k ∷ without l c)) (above-differs l k a.0)
    ∙ ap (λ (xs : List Literal). k ∷ xs) (without-none l c a.1)

all-at : (P : Literal → Type 0) (c : List Literal) (k : ℕ) (d : Literal) → AllByRecursion P c → k < length c → P (get_or c k d)
all-at P [] k d a h = absurd (not-suc-le-zero h)
all-at P (x ∷ c) zero d a h = a.0
all-at P (x ∷ c) (suc k) d a h = all-at P c k d a.1 (omega arith)

without-next : (c : List Literal) (k : ℕ) (l : Literal) → ArePairs IsBelow c → k < length c → ((d : Literal) → get_or c k d ≡ l) → take k c ++ drop (suc k) c ≡ without l c
without-next [] k l p h e = absurd (not-suc-le-zero h)
without-next (x ∷ c) zero l p h e =
    let here : x ≡ l = e x in
    let same : literal_eq x l ≡ true = subst (λ (y : Literal). literal_eq x y ≡ true) here (literal_eq-itself x) in
    sym (ap (λ (b : Bool). cond b (without l c) (x ∷ without l c)) same
    ∙ without-none l c (subst (λ (y : Literal). AllByRecursion (IsBelow y) c) here p.0))
without-next (x ∷ c) (suc k) l p h e =
    let hk : k < length c = omega arith in
    let below : IsBelow x l = subst (IsBelow x) (e x) (all-at (IsBelow x) c k x p.0 hk) in
    ap (λ (xs : List Literal). x ∷ xs) (without-next c k l p.1 hk e)
    ∙ sym (ap (λ (b : Bool). cond b (without l c) (x ∷ without l c)) (below-differs x l below))

pub without-place : (c : List Literal) (k : ℕ) (l : Literal) → ArePairs IsBelow c → k < length c → ((d : Literal) → get_or c k d ≡ l) → take k c ++ drop (k + 1) c ≡ without l c
without-place c k l p h e = let n : suc k ≡ k + 1 = omega arith in subst (λ (m : ℕ). take k c ++ drop m c ≡ without l c) n (without-next c k l p h e)
