-- In a clause that is in order, a literal and its negation are neighbours.
use Rattle.std.proofs.Common.{◌≡◌, ◌≢◌, ◌⊎◌, ℕ, zero, suc, ◌+◌, ◌<◌, true, false, not, [], ◌∷◌, get_or, length, refl, sym, ◌∙◌, ap, subst, inl, inr, arith}
use Rattle.std.specs.List.{AllByRecursion}
use Rattle.q_logic.specs.Prelude.{Literal, IsBelow, negation, literal_eq, Clause, IsIn, ArePairs, IsTautology}
use Rattle.q_logic.proofs.ClauseLemmas.{literal_eq-itself, literal_eq-negation}
use Rattle.q_logic.proofs.MemberPlaces.{item-in}

-- no two neighbours before a place have one variable
pub record AreOther (C : Clause) (upto : ℕ) : Type 0 where
  pub other : (n : ℕ) (j k : Literal) → suc n < upto → j ≡ get_or C n j → k ≡ get_or C (suc n) k → j.var ≢ k.var

pub other-begun : (C : Clause) → AreOther C 1
other-begun C = record { other = λ n j k h e f. absurd (omega arith) }

last_or : (n i : ℕ) → suc n < i + 1 → (suc n < i) ⊎ (suc n ≡ i)
last_or n i h = grind arith

pub item-same : (C : Clause) (n : ℕ) (j k : Literal) → n < length C → j ≡ get_or C n j → k ≡ get_or C n k → j ≡ k
item-same [] n j k h e f = absurd (omega arith)
item-same (x ∷ C) zero j k h e f = e ∙ sym f
item-same (x ∷ C) (suc n) j k h e f = item-same C n j k (omega arith) e f

pub other-more : (C : Clause) (i m : ℕ) (j k : Literal) → i < length C → suc m ≡ i → j ≡ get_or C m j → k ≡ get_or C i k → j.var ≢ k.var → AreOther C i → AreOther C (i + 1)
other-more C i m j k within s e f d h = record {
  other = λ n a b l g o. elim (last_or n i l) [
    | inl before ↦ h.other n a b before g o
    | inr is ↦
        let nm : n ≡ m = omega arith in
        let aj : a ≡ j = item-same C m a j (omega arith) (subst (λ (x : ℕ). a ≡ get_or C x a) nm g) e in
        let bk : b ≡ k = item-same C i b k within (subst (λ (x : ℕ). b ≡ get_or C x b) is o) f in
        λ v. d (sym (ap (λ (x : Literal). x.var) aj) ∙ v ∙ ap (λ (x : Literal). x.var) bk)
  ];
}

next-below : (C : Clause) (n : ℕ) (j k : Literal) → ArePairs IsBelow C → suc n < length C → j ≡ get_or C n j → k ≡ get_or C (suc n) k → IsBelow j k
next-below [] n j k p h e f = absurd (omega arith)
next-below (x ∷ []) n j k p h e f = absurd (omega arith)
next-below (x ∷ y ∷ C) zero j k p h e f = subst (λ (z : Literal). IsBelow z k) (sym e) (subst (λ (z : Literal). IsBelow x z) (sym f) p.0.0)
next-below (x ∷ y ∷ C) (suc n) j k p h e f = next-below (y ∷ C) n j k p.1 (omega arith) e f

same_variable : (j k : Literal) → IsBelow j k → j.var ≡ k.var → k ≡ negation j
same_variable j k (inl b) e = absurd (omega arith)
same_variable j k (inr b) e = λ i. record { var = (sym e) i; negative = (b.2 ∙ sym (ap not b.1)) i }

pub neighbours-tautology : (C : Clause) (n : ℕ) (j k : Literal) → ArePairs IsBelow C → suc n < length C → j ≡ get_or C n j → k ≡ get_or C (suc n) k → j.var ≡ k.var → IsTautology C
neighbours-tautology C n j k p h e f v = (
  j,
  item-in C n j (omega arith) e,
  subst (λ (z : Literal). IsIn z C) (same_variable j k (next-below C n j k p h e f) v) (item-in C (suc n) k h f),
)

-- a variable below that of the next literal is below all that follow
below_all : (v : ℕ) (C : Clause) → AllByRecursion (λ (z : Literal). v < z.var) C → (m : Literal) → IsIn m C → v < m.var
below_all v [] a m i = absurd i
below_all v (x ∷ C) a m (inl e) = subst (λ (z : Literal). v < z.var) (sym e) a.0
below_all v (x ∷ C) a m (inr i) = below_all v C a.1 m i

far_below : (v : ℕ) (y : Literal) (C : Clause) → v < y.var → AllByRecursion (IsBelow y) C → AllByRecursion (λ (z : Literal). v < z.var) C
far_below v y [] h a = tt
far_below v y (z ∷ C) h a = (elim a.0 [ inl b ↦ omega arith | inr b ↦ let e = b.0 in omega arith ], far_below v y C h a.1)

first_below : (x y : Literal) → IsBelow x y → x.var ≢ y.var → x.var < y.var
first_below x y (inl b) n = b
first_below x y (inr b) n = absurd (n b.0)

pub not_own : (k x : Literal) → k ≡ x → negation k ≡ x → ⊥
not_own k x e f = let a = literal_eq-negation k in let b : literal_eq k (negation k) ≡ true = subst (λ (z : Literal). literal_eq k z ≡ true) (e ∙ sym f) (literal_eq-itself k) in let z : true ≡ false = sym b ∙ a in absurd (cc)

pub neighbours-none : (C : Clause) → ArePairs IsBelow C → AreOther C (length C) → IsTautology C → ⊥
neighbours-none [] p o (k, m, n) = m
neighbours-none (x ∷ []) p o (k, inl e, inl f) = not_own k x e f
neighbours-none (x ∷ []) p o (k, inl e, inr f) = f
neighbours-none (x ∷ []) p o (k, inr e, f) = e
neighbours-none (x ∷ y ∷ C) p o (k, inl e, inl f) = not_own k x e f
neighbours-none (x ∷ y ∷ C) p o (k, inl e, inr n) =
    let d = first_below x y p.0.0 (o.other 0 x y (omega arith) refl refl) in
    let v : x.var < k.var = below_all x.var (y ∷ C) (d, far_below x.var y C d p.1.0) (negation k) n in
    let s : k.var ≡ x.var = ap (λ (z : Literal). z.var) e in
    omega arith
neighbours-none (x ∷ y ∷ C) p o (k, inr m, inl f) =
    let d = first_below x y p.0.0 (o.other 0 x y (omega arith) refl refl) in
    let v : x.var < k.var = below_all x.var (y ∷ C) (d, far_below x.var y C d p.1.0) k m in
    let s : k.var ≡ x.var = ap (λ (z : Literal). z.var) f in
    omega arith
neighbours-none (x ∷ y ∷ C) p o (k, inr m, inr n) = neighbours-none (y ∷ C) p.1 (record { other = λ i j l h e f. o.other (suc i) j l (omega arith) e f }) (k, m, n)
