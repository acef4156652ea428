-- The clauses of an expansion, by kind.
use Rattle.std.proofs.Common.{◌≡◌, ℕ, ◌+◌, Bool, true, false, cond, List, [], ◌∷◌, inl, inr, arith, refl, sym, subst, nat_lt, ◌==◌}
use Rattle.std.proofs.lemmas.Bool.Decides.{nat_tests}
use Rattle.q_logic.specs.Prelude.{insert, positive, Literal, literal_eq, pack, Clause, Matrix, IsIn, without, copies, has, shares, copied, expanded}
use Rattle.q_logic.proofs.ClauseLemmas.{literal_eq-itself}
use Rattle.q_logic.proofs.ChangeRuns.{mapped}
use Rattle.q_logic.proofs.NumberedClauses.{without-same}
use Rattle.q_logic.proofs.ExpandLinks.{minus}

-- With u; with not u; with neither and a variable of V; the others.
abbrev pub with_u : ℕ → List ℕ → Matrix → Matrix
with_u u V [] = []
with_u u V (D ∷ X) = cond (has (positive u) D) (D ∷ with_u u V X) (with_u u V X)

abbrev pub with_minus : ℕ → List ℕ → Matrix → Matrix
with_minus u V [] = []
with_minus u V (D ∷ X) = cond (has (positive u) D) (with_minus u V X) (cond (has (minus u) D) (D ∷ with_minus u V X) (with_minus u V X))

abbrev pub sharing : ℕ → List ℕ → Matrix → Matrix
sharing u V [] = []
sharing u V (D ∷ X) = cond (has (positive u) D) (sharing u V X) (cond (has (minus u) D) (sharing u V X) (cond (shares V D) (D ∷ sharing u V X) (sharing u V X)))

abbrev pub apart : ℕ → List ℕ → Matrix → Matrix
apart u V [] = []
apart u V (D ∷ X) = cond (has (positive u) D) (apart u V X) (cond (has (minus u) D) (apart u V X) (cond (shares V D) (apart u V X) (D ∷ apart u V X)))

pub parts-copies : (u : ℕ) (V : List ℕ) (X : Matrix) (C : Clause) → copies C X ≡ copies C (with_u u V X) + (copies C (with_minus u V X) + (copies C (sharing u V X) + copies C (apart u V X)))
parts-copies u V [] C = grind arith
parts-copies u V (D ∷ X) C = go (has (positive u) D) refl (has (minus u) D) refl (shares V D) refl (parts-copies u V X C)
  where
    go : (a : Bool) → has (positive u) D ≡ a → (b : Bool) → has (minus u) D ≡ b → (c : Bool) → shares V D ≡ c
        → copies C X ≡ copies C (with_u u V X) + (copies C (with_minus u V X) + (copies C (sharing u V X) + copies C (apart u V X)))
        → copies C (D ∷ X) ≡ copies C (cond a (D ∷ with_u u V X) (with_u u V X)) + (copies C (cond a (with_minus u V X) (cond b (D ∷ with_minus u V X) (with_minus u V X)))
        + (copies C (cond a (sharing u V X) (cond b (sharing u V X) (cond c (D ∷ sharing u V X) (sharing u V X)))) + copies C (cond a (apart u V X) (cond b (apart u V X) (cond c (apart u V X) (D ∷ apart u V X))))))
    go true p b q c r ih = grind arith
    go false p true q c r ih = grind arith
    go false p false q true r ih = grind arith
    go false p false q false r ih = grind arith

-- The clause over the copies, without not u.
abbrev pub copied_rest : ℕ → List ℕ → ℕ → Clause → Clause
copied_rest u V t D = copied V t (without (minus u) D)

pub expanded-copies : (u : ℕ) (V : List ℕ) (t : ℕ) (X : Matrix) (C : Clause) → copies C (expanded u V t X) ≡
    copies C (mapped (without (positive u)) (with_u u V X)) + (copies C (mapped (copied_rest u V t) (with_minus u V X)) + (copies C (sharing u V X) + (copies C (mapped (copied_rest u V t) (sharing u V X)) + copies C (apart u V X))))
expanded-copies u V t [] C = grind arith
expanded-copies u V t (D ∷ X) C = go (has (positive u) D) refl (has (minus u) D) refl (shares V D) refl (expanded-copies u V t X C)
  where
    E : Matrix
    E = expanded u V t X

    go : (a : Bool) → has (positive u) D ≡ a → (b : Bool) → has (minus u) D ≡ b → (c : Bool) → shares V D ≡ c
        → copies C (expanded u V t X) ≡ copies C (mapped (without (positive u)) (with_u u V X)) + (copies C (mapped (copied_rest u V t) (with_minus u V X)) + (copies C (sharing u V X) + (copies C (mapped (copied_rest u V t) (sharing u V X)) + copies C (apart u V X))))
        → copies C (cond a (without (positive u) D ∷ expanded u V t X) (cond b (copied V t (without (minus u) D) ∷ expanded u V t X) (cond c (D ∷ copied V t D ∷ expanded u V t X) (D ∷ expanded u V t X))))
        ≡ copies C (mapped (without (positive u)) (cond a (D ∷ with_u u V X) (with_u u V X)))
        + (copies C (mapped (copied_rest u V t) (cond a (with_minus u V X) (cond b (D ∷ with_minus u V X) (with_minus u V X))))
        + (copies C (cond a (sharing u V X) (cond b (sharing u V X) (cond c (D ∷ sharing u V X) (sharing u V X))))
        + (copies C (mapped (copied_rest u V t) (cond a (sharing u V X) (cond b (sharing u V X) (cond c (D ∷ sharing u V X) (sharing u V X)))))
        + copies C (cond a (apart u V X) (cond b (apart u V X) (cond c (apart u V X) (D ∷ apart u V X)))))))
    go true p b q c r ih = grind arith
    go false p true q c r ih = grind arith
    go false p false q true r ih = let s : without (minus u) D ≡ D = without-same (minus u) D q in rw s (grind arith)
    go false p false q false r ih = grind arith

pub with_u-IsIn : (u : ℕ) (V : List ℕ) (X : Matrix) (D : Clause) → IsIn D (with_u u V X) → IsIn D X × (has (positive u) D ≡ true)
with_u-IsIn u V [] D m = elim m [ ]
with_u-IsIn u V (E ∷ X) D m = go (has (positive u) E) refl m (with_u-IsIn u V X D)
  where
    go : (a : Bool) → has (positive u) E ≡ a → IsIn D (cond a (E ∷ with_u u V X) (with_u u V X)) → (IsIn D (with_u u V X) → IsIn D X × (has (positive u) D ≡ true)) → IsIn D (E ∷ X) × (has (positive u) D ≡ true)
    go true p (inl e) ih = (inl e, subst (λ y. has (positive u) y ≡ true) (sym e) p)
    go true p (inr n) ih = (inr (ih n).0, (ih n).1)
    go false p n ih = (inr (ih n).0, (ih n).1)

pub with_minus-IsIn : (u : ℕ) (V : List ℕ) (X : Matrix) (D : Clause) → IsIn D (with_minus u V X) → IsIn D X × (has (positive u) D ≡ false) × (has (minus u) D ≡ true)
with_minus-IsIn u V [] D m = elim m [ ]
with_minus-IsIn u V (E ∷ X) D m = go (has (positive u) E) refl (has (minus u) E) refl m (with_minus-IsIn u V X D)
  where
    go : (a : Bool) → has (positive u) E ≡ a → (b : Bool) → has (minus u) E ≡ b → IsIn D (cond a (with_minus u V X) (cond b (E ∷ with_minus u V X) (with_minus u V X)))
        → (IsIn D (with_minus u V X) → IsIn D X × (has (positive u) D ≡ false) × (has (minus u) D ≡ true)) → IsIn D (E ∷ X) × (has (positive u) D ≡ false) × (has (minus u) D ≡ true)
    go true p b q n ih = (inr (ih n).0, (ih n).1, (ih n).2)
    go false p true q (inl e) ih = (inl e, subst (λ y. has (positive u) y ≡ false) (sym e) p, subst (λ y. has (minus u) y ≡ true) (sym e) q)
    go false p true q (inr n) ih = (inr (ih n).0, (ih n).1, (ih n).2)
    go false p false q n ih = (inr (ih n).0, (ih n).1, (ih n).2)

abbrev Shared : ℕ → List ℕ → Matrix → Clause → Bool → Type 0
Shared u V X D s = IsIn D X × (has (positive u) D ≡ false) × (has (minus u) D ≡ false) × (shares V D ≡ s)

pub sharing-IsIn : (u : ℕ) (V : List ℕ) (X : Matrix) (D : Clause) → IsIn D (sharing u V X) → IsIn D X × (has (positive u) D ≡ false) × (has (minus u) D ≡ false) × (shares V D ≡ true)
sharing-IsIn u V [] D m = elim m [ ]
sharing-IsIn u V (E ∷ X) D m = go (has (positive u) E) refl (has (minus u) E) refl (shares V E) refl m (sharing-IsIn u V X D)
  where
    go : (a : Bool) → has (positive u) E ≡ a → (b : Bool) → has (minus u) E ≡ b → (c : Bool) → shares V E ≡ c → IsIn D (cond a (sharing u V X) (cond b (sharing u V X) (cond c (E ∷ sharing u V X) (sharing u V X))))
        → (IsIn D (sharing u V X) → Shared u V X D true) → Shared u V (E ∷ X) D true
    go true p b q c r n ih = (inr (ih n).0, (ih n).1, (ih n).2, (ih n).3)
    go false p true q c r n ih = (inr (ih n).0, (ih n).1, (ih n).2, (ih n).3)
    go false p false q true r (inl e) ih = (inl e, subst (λ y. has (positive u) y ≡ false) (sym e) p, subst (λ y. has (minus u) y ≡ false) (sym e) q, subst (λ y. shares V y ≡ true) (sym e) r)
    go false p false q true r (inr n) ih = (inr (ih n).0, (ih n).1, (ih n).2, (ih n).3)
    go false p false q false r n ih = (inr (ih n).0, (ih n).1, (ih n).2, (ih n).3)

pub apart-IsIn : (u : ℕ) (V : List ℕ) (X : Matrix) (D : Clause) → IsIn D (apart u V X) → IsIn D X × (has (positive u) D ≡ false) × (has (minus u) D ≡ false) × (shares V D ≡ false)
apart-IsIn u V [] D m = elim m [ ]
apart-IsIn u V (E ∷ X) D m = go (has (positive u) E) refl (has (minus u) E) refl (shares V E) refl m (apart-IsIn u V X D)
  where
    go : (a : Bool) → has (positive u) E ≡ a → (b : Bool) → has (minus u) E ≡ b → (c : Bool) → shares V E ≡ c → IsIn D (cond a (apart u V X) (cond b (apart u V X) (cond c (apart u V X) (E ∷ apart u V X))))
        → (IsIn D (apart u V X) → Shared u V X D false) → Shared u V (E ∷ X) D false
    go true p b q c r n ih = (inr (ih n).0, (ih n).1, (ih n).2, (ih n).3)
    go false p true q c r n ih = (inr (ih n).0, (ih n).1, (ih n).2, (ih n).3)
    go false p false q false r (inl e) ih = (inl e, subst (λ y. has (positive u) y ≡ false) (sym e) p, subst (λ y. has (minus u) y ≡ false) (sym e) q, subst (λ y. shares V y ≡ false) (sym e) r)
    go false p false q false r (inr n) ih = (inr (ih n).0, (ih n).1, (ih n).2, (ih n).3)
    go false p false q true r n ih = (inr (ih n).0, (ih n).1, (ih n).2, (ih n).3)

-- A literal put in and left out again.
pub without-insert : (l : Literal) (C : Clause) → has l C ≡ false → without l (insert l C) ≡ C
without-insert l [] h = let e : literal_eq l l ≡ true = literal_eq-itself l in rw e refl
without-insert l (j ∷ C) h = go (nat_lt (pack l) (pack j)) (pack l == pack j) refl (without-insert l C (grind arith))
  where
    self : literal_eq l l ≡ true
    self = literal_eq-itself l

    other : literal_eq j l ≡ false
    other = grind arith

    rest : without l C ≡ C
    rest = without-same l C (grind arith)

    same : (pack l == pack j) ≡ true → j ≡ l
    same e = grind (arith, nat_tests)

    go : (a b : Bool) → (pack l == pack j) ≡ b → without l (insert l C) ≡ C → without l (cond a (l ∷ j ∷ C) (cond b (j ∷ C) (j ∷ insert l C))) ≡ j ∷ C
    go true b q ih = rw (self, other, rest) refl
    go false true q ih = let z : literal_eq l l ≡ false = subst (λ y. literal_eq y l ≡ false) (same q) other in let y : literal_eq l l ≡ true = self in grind arith
    go false false q ih = rw (other, ih) refl
