-- The clauses that come of an expansion's split: none with u is connected to one with not u.
use Rattle.std.proofs.Common.{◌≡◌, ◌⊎◌, ◌≤◌, ◌<◌, ℕ, Bool, true, false, cond, List, [], ◌∷◌, refl, sym, ◌∙◌, subst, inl, inr, arith, true≢false}
use Rattle.q_logic.specs.Prelude.{Literal, literal_eq, Clause, Matrix, Prefix, IsIn, is_existential, insert, has, positive, without, in_list, shares, inner_existential, copy_of, copied, copied_literal, Reached, each_without}
use Rattle.q_logic.proofs.Common.{IsIn-append, literal_eq-itself, universal-not_existential, insert-IsIn, IsIn-insert, without-IsIn, has-IsIn, IsIn-has, IsIn-has_not, Expansion, copied-IsIn, not_in_list, ClassU, ClassM, ClassA, Classes}
use Rattle.q_logic.proofs.ExpandPrefix.{CopyOf, copy_of-in, copy_of-out}
use Rattle.q_logic.proofs.ExpandLinks.{minus, Guarded}
use Rattle.q_logic.proofs.LeastClosure.{shares-of}
use Rattle.q_logic.proofs.ExpandRun.{no_literal, reached_u, reached_m, shares-IsIn}
use Rattle.q_expand.specs.Steps.{over_copies}
use Rattle.q_expand.proofs.ExpansionRun.{parted_one, parted}

module _ (Q : Prefix) (X : Matrix) (u : ℕ) (V : List ℕ) (t : ℕ) (x : Expansion Q X u V t) where
  -- no variable of the list is left in a clause over the copies
  pub over-free : (D : Clause) (k : Literal) → IsIn k (over_copies u V t D) → in_list k.var V ≡ false
  over-free D k i = elim (insert-IsIn (minus u) (copied V t (without (minus u) D)) k i) [
    | inl e ↦ subst (λ (y : Literal). in_list y.var V ≡ false) (sym e) (not_in_list Q u t V u x.originals (inr refl))
    | inr n ↦ go (copied-IsIn V t (without (minus u) D) k n)
  ]
    where
      one : (j : Literal) → (b : Bool) → in_list j.var V ≡ b → in_list (copy_of V t j.var) V ≡ false
      one j true q = not_in_list Q u t V (copy_of V t j.var) x.originals (inl (copy_of-in (CopyOf Q) V t j.var x.copies_there q).1)
      one j false q = subst (λ (v : ℕ). in_list v V ≡ false) (sym (copy_of-out V t j.var q)) q

      go : ((j : Literal) × IsIn j (without (minus u) D) × (k ≡ copied_literal V t j)) → in_list k.var V ≡ false
      go (j, a, e) = subst (λ (y : Literal). in_list y.var V ≡ false) (sym e) (one j (in_list j.var V) refl)

  -- what a clause of the split is
  pub data Kind (E : Clause) : Type 0 where
    kept : IsIn E X → has (positive u) E ≡ true → Kind E
    rest : IsIn E X → has (positive u) E ≡ false → shares V E ≡ false → Kind E
    over : (D : Clause) → IsIn D X → has (positive u) D ≡ false → shares V D ≡ true → E ≡ over_copies u V t D → Kind E
    beside : (D : Clause) → IsIn D X → has (positive u) D ≡ false → has (minus u) D ≡ false → shares V D ≡ true → E ≡ insert (positive u) D → Kind E

  kind-one : (D E : Clause) → IsIn D X → IsIn E (parted_one u V t D) → Kind E
  kind-one D E m i = go (has (positive u) D) refl (shares V D) refl (has (minus u) D) refl i
    where
      go : (a : Bool) → has (positive u) D ≡ a → (b : Bool) → shares V D ≡ b → (c : Bool) → has (minus u) D ≡ c
          → IsIn E (cond a (D ∷ []) (cond b (cond c (over_copies u V t D ∷ []) (insert (positive u) D ∷ over_copies u V t D ∷ [])) (D ∷ []))) → Kind E
      go true p b q c r (inl e) = subst Kind (sym e) (Kind.kept m p)
      go true p b q c r (inr n) = absurd n
      go false p false q c r (inl e) = subst Kind (sym e) (Kind.rest m p q)
      go false p false q c r (inr n) = absurd n
      go false p true q true r (inl e) = Kind.over D m p q e
      go false p true q true r (inr n) = absurd n
      go false p true q false r (inl e) = Kind.beside D m p r q e
      go false p true q false r (inr (inl e)) = Kind.over D m p q e
      go false p true q false r (inr (inr n)) = absurd n

  pub kind-of : (W : Matrix) → ((D : Clause) → IsIn D W → IsIn D X) → (E : Clause) → IsIn E (parted u V t W) → Kind E
  kind-of [] w E m = absurd m
  kind-of (D ∷ W) w E m = elim (IsIn-append E (parted_one u V t D) (parted u V t W) m) [
    | inl a ↦ kind-one D E (w D (inl refl)) a
    | inr b ↦ kind-of W (λ C i. w C (inr i)) E b
  ]

  -- where a variable of the list is, u is
  pub guarded-kinds : (Z : Matrix) → ((E : Clause) → IsIn E Z → Kind E) → Guarded u V Z
  guarded-kinds Z z E m k i h = go (z E m)
    where
      go : Kind E → IsIn (positive u) E
      go (Kind.kept n p) = has-IsIn (positive u) E p
      go (Kind.rest n p q) = absurd (true≢false (sym (shares-of V E k i h) ∙ q))
      go (Kind.over D n p q e) = absurd (true≢false (sym h ∙ over-free D k (subst (λ (y : Clause). IsIn k y) e i)))
      go (Kind.beside D n p r q e) = subst (λ (y : Clause). IsIn (positive u) y) (sym e) (IsIn-insert (positive u) D (positive u) (inl refl))

  -- Three sides: over the originals, over the copies, and neither.
  side-kept : (D : Clause) → IsIn D X → has (positive u) D ≡ true → ClassU Q u V t D
  side-kept D m p k i = (x.below D m k i, x.closed D m (inl p) k i, no_literal (minus u) D (x.not_both D m p) k i)

  side-beside : (D : Clause) → IsIn D X → has (minus u) D ≡ false → shares V D ≡ true → ClassU Q u V t (insert (positive u) D)
  side-beside D m n s k i = elim (insert-IsIn (positive u) D k i) [
    | inl e ↦ subst (λ (y : Literal). (y.var < t) × (inner_existential Q u y.var ≡ true → in_list y.var V ≡ true) × (literal_eq y (minus u) ≡ false)) (sym e)
        (x.u_below, (λ h. let a : is_existential Q u ≡ false = universal-not_existential Q u x.universal in grind arith), grind arith)
    | inr j ↦ (x.below D m k j, x.closed D m (inr (inr s)) k j, no_literal (minus u) D n k j)
  ]

  abbrev Fine : Literal → Type 0
  Fine y = (in_list y.var V ≡ false) × (y.var < t → inner_existential Q u y.var ≡ false) × (literal_eq y (positive u) ≡ false)

  plain : (D : Clause) → IsIn D X → has (positive u) D ≡ false → (has (minus u) D ≡ true) ⊎ (shares V D ≡ true) → (j : Literal) → IsIn j D → in_list j.var V ≡ false → Fine j
  plain D m p h j a q = (q, (λ l. inner (inner_existential Q u j.var) refl), no_literal (positive u) D p j a)
    where
      inner : (b : Bool) → inner_existential Q u j.var ≡ b → inner_existential Q u j.var ≡ false
      inner true e = absurd (true≢false (sym (x.closed D m (inr h) j a e) ∙ q))
      inner false e = e

  copy : (j : Literal) → in_list j.var V ≡ true → Fine (copied_literal V t j)
  copy j q =
      let l : t ≤ copy_of V t j.var = (copy_of-in (CopyOf Q) V t j.var x.copies_there q).1 in
      let ul : u < t = x.u_below in
      (not_in_list Q u t V (copy_of V t j.var) x.originals (inl l), (λ b. grind arith), grind arith)

  side-over : (D : Clause) → IsIn D X → has (positive u) D ≡ false → shares V D ≡ true → ClassM Q u V t (over_copies u V t D)
  side-over D m p s k i = elim (insert-IsIn (minus u) (copied V t (without (minus u) D)) k i) [
    | inl e ↦ subst Fine (sym e)
        (not_in_list Q u t V u x.originals (inr refl), (λ l. let a : is_existential Q u ≡ false = universal-not_existential Q u x.universal in grind arith), grind arith)
    | inr n ↦ go (copied-IsIn V t (without (minus u) D) k n)
  ]
    where
      one : (j : Literal) → IsIn j D → (b : Bool) → in_list j.var V ≡ b → Fine (copied_literal V t j)
      one j a true q = copy j q
      one j a false q = subst Fine (λ i. record { var = (sym (copy_of-out V t j.var q)) i; negative = j.negative }) (plain D m p (inr s) j a q)

      go : ((j : Literal) × IsIn j (without (minus u) D) × (k ≡ copied_literal V t j)) → Fine k
      go (j, a, e) = subst Fine (sym e) (one j (without-IsIn (minus u) D j a) (in_list j.var V) refl)

  side-rest : (D : Clause) → IsIn D X → shares V D ≡ false → ClassA Q u V t D
  side-rest D m s k i = (x.below D m k i, shares-IsIn V D s k i)

  side-minus : (D : Clause) → IsIn D X → has (positive u) D ≡ false → shares V D ≡ false → IsIn (minus u) D → ClassM Q u V t D
  side-minus D m p s n k i = plain D m p (inl (IsIn-has (minus u) D n)) k i (shares-IsIn V D s k i)

  -- the sides of all clauses, of those with u, and of those with not u
  pub kinds-classes : (Z : Matrix) → ((E : Clause) → IsIn E Z → Kind E) → Classes Q u V t Z
  kinds-classes Z z E m = go (z E m)
    where
      go : Kind E → ClassU Q u V t E ⊎ (ClassM Q u V t E ⊎ ClassA Q u V t E)
      go (Kind.kept n p) = inl (side-kept E n p)
      go (Kind.rest n p q) = inr (inr (side-rest E n q))
      go (Kind.over D n p q e) = inr (inl (subst (ClassM Q u V t) (sym e) (side-over D n p q)))
      go (Kind.beside D n p r q e) = inl (subst (ClassU Q u V t) (sym e) (side-beside D n r q))

  own : (l : Literal) (E : Clause) → ((k : Literal) → IsIn k E → literal_eq k l ≡ false) → IsIn l E → ⊥
  own l E h m = true≢false (sym (literal_eq-itself l) ∙ h l m)

  pub kind-positive : (E : Clause) → Kind E → IsIn (positive u) E → ClassU Q u V t E
  kind-positive E (Kind.kept n p) m = side-kept E n p
  kind-positive E (Kind.rest n p q) m = absurd (IsIn-has_not (positive u) E p m)
  kind-positive E (Kind.over D n p q e) m = absurd (own (positive u) E (λ k i. (side-over D n p q k (subst (λ (y : Clause). IsIn k y) e i)).2) m)
  kind-positive E (Kind.beside D n p r q e) m = subst (ClassU Q u V t) (sym e) (side-beside D n r q)

  pub kind-minus : (E : Clause) → Kind E → IsIn (minus u) E → ClassM Q u V t E
  kind-minus E (Kind.kept n p) m = absurd (own (minus u) E (λ k i. (side-kept E n p k i).2) m)
  kind-minus E (Kind.rest n p q) m = side-minus E n p q m
  kind-minus E (Kind.over D n p q e) m = subst (ClassM Q u V t) (sym e) (side-over D n p q)
  kind-minus E (Kind.beside D n p r q e) m = absurd (own (minus u) E (λ k i. (side-beside D n r q k (subst (λ (y : Clause). IsIn k y) e i)).2) m)

  -- u may leave all clauses, and then not u
  pub apart-positive : (Z : Matrix) → ((E : Clause) → IsIn E Z → Kind E) → (C D : Clause) → IsIn C Z → IsIn (positive u) C → Reached Q Z C (positive u) D → IsIn (minus u) D → ⊥
  apart-positive Z z C D m i r n = own (minus u) D (λ k j. (reached_u Q u V t Z C (kinds-classes Z z) (kind-positive C (z C m) i) D r k j).2) n

  shorter-classes : (Z : Matrix) → Classes Q u V t Z → Classes Q u V t (each_without (positive u) Z)
  shorter-classes [] h E m = absurd m
  shorter-classes (D ∷ Z) h E (inl e) = elim (h D (inl refl)) [
    | inl a ↦ inl (λ k i. a k (without-IsIn (positive u) D k (subst (λ (y : Clause). IsIn k y) e i)))
    | inr (inl a) ↦ inr (inl (λ k i. a k (without-IsIn (positive u) D k (subst (λ (y : Clause). IsIn k y) e i))))
    | inr (inr a) ↦ inr (inr (λ k i. a k (without-IsIn (positive u) D k (subst (λ (y : Clause). IsIn k y) e i))))
  ]
  shorter-classes (D ∷ Z) h E (inr m) = shorter-classes Z (λ C i. h C (inr i)) E m

  shorter-from : (Z : Matrix) (E : Clause) → IsIn E (each_without (positive u) Z) → (D : Clause) × IsIn D Z × (E ≡ without (positive u) D)
  shorter-from [] E m = absurd m
  shorter-from (D ∷ Z) E (inl e) = (D, inl refl, e)
  shorter-from (D ∷ Z) E (inr m) = let r = shorter-from Z E m in (r.0, inr r.1, r.2)

  pub apart-minus : (Z : Matrix) → ((E : Clause) → IsIn E Z → Kind E) → (C D : Clause) → IsIn C (each_without (positive u) Z) → IsIn (minus u) C → Reached Q (each_without (positive u) Z) C (minus u) D → IsIn (positive u) D → ⊥
  apart-minus Z z C D m i r n =
      let s = shorter-from Z C m in
      let j : IsIn (minus u) s.0 = without-IsIn (positive u) s.0 (minus u) (subst (λ (y : Clause). IsIn (minus u) y) s.2 i) in
      let side = kind-minus s.0 (z s.0 s.1) j in
      let c : ClassM Q u V t C = λ k a. side k (without-IsIn (positive u) s.0 k (subst (λ (y : Clause). IsIn k y) s.2 a)) in
      own (positive u) D (λ k a. (reached_m Q u V t (each_without (positive u) Z) C (shorter-classes Z (kinds-classes Z z)) c D r k a).2) n
