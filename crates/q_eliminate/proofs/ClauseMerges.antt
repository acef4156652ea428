-- Two clauses merged in literal order.
use Rattle.std.proofs.Common.{◌≡◌, ◌<◌, ◌≤◌, ◌+◌, ◌++◌, ◌⊎◌, ℕ, zero, suc, Bool, true, false, cond, [], ◌∷◌, length, drop, get_or, inl, inr, arith, refl, sym, ap, ◌∙◌, subst}
use Rattle.std.proofs.lemmas.Bool.Decides.{nat_tests}
use Rattle.std.proofs.lemmas.List.{append-nil, drop_all}
use Rattle.q_logic.specs.Prelude.{Literal, IsBelow, literal_eq, pack, Clause, IsIn, without, union}
use Rattle.q_logic.proofs.Common.{literal_eq-sound, Ordered, Before, without-ordered, without-IsIn, IsIn-drop, pack-same}
use Rattle.q_logic.proofs.ClauseSets.{below-trans}
use Rattle.q_eliminate.proofs.IdWalks.{next-item}
use Rattle.q_eliminate.proofs.ClauseUnions.{union-none, union-first, union-second, union-both}

below-code : (a b : Literal) → pack a < pack b → IsBelow a b
below-code a b h = grind (arith, nat_tests)

before-all : (a b : Literal) (D : Clause) → pack a < pack b → Ordered (b ∷ D) → Before a (b ∷ D)
before-all a b D h o j (inl e) = subst (λ (z : Literal). IsBelow a z) (sym e) (below-code a b h)
before-all a b D h o j (inr m) = below-trans a b j (below-code a b h) (o.0 j m)

before-without : (a m : Literal) (D : Clause) → Before a D → Before a (without m D)
before-without a m D b j i = b j (without-IsIn m D j i)

module _ (l n a b : Literal) (C D : Clause) (o : Ordered (a ∷ C)) (p : Ordered (b ∷ D)) where
  pub merge-first : pack a < pack b → union (without l (a ∷ C)) (without n (b ∷ D)) ≡ without l (a ∷ []) ++ union (without l C) (without n (b ∷ D))
  merge-first h = go (literal_eq a l)
    where
      go : (t : Bool) → union (cond t (without l C) (a ∷ without l C)) (without n (b ∷ D)) ≡ cond t [] (a ∷ []) ++ union (without l C) (without n (b ∷ D))
      go true = refl
      go false = union-first a (without l C) (without n (b ∷ D)) (before-without a l C o.0) (before-without a n (b ∷ D) (before-all a b D h p))

  pub merge-second : pack b < pack a → union (without l (a ∷ C)) (without n (b ∷ D)) ≡ without n (b ∷ []) ++ union (without l (a ∷ C)) (without n D)
  merge-second h = go (literal_eq b n)
    where
      go : (t : Bool) → union (without l (a ∷ C)) (cond t (without n D) (b ∷ without n D)) ≡ cond t [] (b ∷ []) ++ union (without l (a ∷ C)) (without n D)
      go true = refl
      go false = union-second b (without l (a ∷ C)) (without n D) (before-without b l (a ∷ C) (before-all b a C h o))

  pub merge-both : a ≡ b → (a ≡ l → ⊥) → (b ≡ n → ⊥) → union (without l (a ∷ C)) (without n (b ∷ D)) ≡ without n (b ∷ []) ++ union (without l C) (without n D)
  merge-both e x y = go (literal_eq a l) refl (literal_eq b n) refl
    where
      go : (s : Bool) → literal_eq a l ≡ s → (t : Bool) → literal_eq b n ≡ t → union (cond s (without l C) (a ∷ without l C)) (cond t (without n D) (b ∷ without n D)) ≡ cond t [] (b ∷ []) ++ union (without l C) (without n D)
      go true q t r = absurd (x (literal_eq-sound a l q))
      go false q true r = absurd (y (literal_eq-sound b n r))
      go false q false r = subst (λ (z : Literal). union (a ∷ without l C) (z ∷ without n D) ≡ z ∷ union (without l C) (without n D)) e (union-both a (without l C) (without n D) (before-without a l C o.0))

drop-ordered : (C : Clause) (i : ℕ) → Ordered C → Ordered (drop i C)
drop-ordered [] zero o = o
drop-ordered [] (suc i) o = o
drop-ordered (k ∷ C) zero o = o
drop-ordered (k ∷ C) (suc i) o = drop-ordered C i o.1

-- The same at places of two clauses.
module _ (l n : Literal) (C D : Clause) (i j : ℕ) (a b : Literal) (oC : Ordered C) (oD : Ordered D) (hi : i < length C) (hj : j < length D) (ea : a ≡ get_or C i a) (eb : b ≡ get_or D j b) where
  left : drop i C ≡ a ∷ drop (i + 1) C
  left = next-item C i a hi ea

  right : drop j D ≡ b ∷ drop (j + 1) D
  right = next-item D j b hj eb

  ordered_left : Ordered (a ∷ drop (i + 1) C)
  ordered_left = subst Ordered left (drop-ordered C i oC)

  ordered_right : Ordered (b ∷ drop (j + 1) D)
  ordered_right = subst Ordered right (drop-ordered D j oD)

  whole : union (without l (drop i C)) (without n (drop j D)) ≡ union (without l (a ∷ drop (i + 1) C)) (without n (b ∷ drop (j + 1) D))
  whole = ap (λ (X : Clause). union (without l X) (without n (drop j D))) left ∙ ap (λ (Y : Clause). union (without l (a ∷ drop (i + 1) C)) (without n Y)) right

  pub next-first : pack a < pack b → union (without l (drop i C)) (without n (drop j D)) ≡ without l (a ∷ []) ++ union (without l (drop (i + 1) C)) (without n (drop j D))
  next-first h = whole ∙ (merge-first l n a b (drop (i + 1) C) (drop (j + 1) D) ordered_left ordered_right h ∙ ap (λ (Y : Clause). without l (a ∷ []) ++ union (without l (drop (i + 1) C)) (without n Y)) (sym right))

  pub next-second : pack b < pack a → union (without l (drop i C)) (without n (drop j D)) ≡ without n (b ∷ []) ++ union (without l (drop i C)) (without n (drop (j + 1) D))
  next-second h = whole ∙ (merge-second l n a b (drop (i + 1) C) (drop (j + 1) D) ordered_left ordered_right h ∙ ap (λ (X : Clause). without n (b ∷ []) ++ union (without l X) (without n (drop (j + 1) D))) (sym left))

  pub next-both : pack a ≤ pack b → pack b ≤ pack a → (IsIn n C → ⊥) → (IsIn l D → ⊥) → union (without l (drop i C)) (without n (drop j D)) ≡ without n (b ∷ []) ++ union (without l (drop (i + 1) C)) (without n (drop (j + 1) D))
  next-both h g x y =
      let c : pack a ≡ pack b = omega arith in
      let e = pack-same a b c in
      whole ∙ merge-both l n a b (drop (i + 1) C) (drop (j + 1) D) ordered_left ordered_right e
      (λ q. y (IsIn-drop D j l (subst (λ (X : Clause). IsIn l X) (sym right) (inl (sym q ∙ e)))))
      (λ q. x (IsIn-drop C i n (subst (λ (X : Clause). IsIn n X) (sym left) (inl (sym q ∙ sym e)))))

-- Where one clause is used up.
pub merged-end : (l n : Literal) (C D : Clause) (i j : ℕ) → Ordered C → (length C ≤ i) ⊎ (length D ≤ j) → union (without l (drop i C)) (without n (drop j D)) ≡ without l (drop i C) ++ without n (drop j D)
merged-end l n C D i j o (inl h) = ap (λ (X : Clause). union (without l X) (without n (drop j D))) (drop_all i C h) ∙ sym (ap (λ (X : Clause). without l X ++ without n (drop j D)) (drop_all i C h))
merged-end l n C D i j o (inr h) =
    ap (λ (Y : Clause). union (without l (drop i C)) (without n Y)) (drop_all j D h)
    ∙ (union-none (without l (drop i C)) (without-ordered l (drop i C) (drop-ordered C i o))
    ∙ (sym (append-nil (without l (drop i C))) ∙ sym (ap (λ (Y : Clause). without l (drop i C) ++ without n Y) (drop_all j D h))))
