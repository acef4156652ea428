-- What two clauses together are: their length, and when they are a tautology.
use Rattle.std.proofs.Common.{◌≡◌, ◌<◌, ◌+◌, ◌==◌, nat_lt, ℕ, Bool, true, false, cond, [], ◌∷◌, length, None, Some, inl, inr, arith, refl, sym, ap, ◌∙◌, subst, true≢false}
use Rattle.std.proofs.lemmas.Bool.Decides.{nat_tests}
use Rattle.q_logic.specs.Prelude.{Literal, IsBelow, negation, pack, Clause, IsIn, insert, has, union, missing, negated_in, IsTautology, is_tautology, IsSubset}
use Rattle.q_logic.proofs.Common.{not_itself_below, not_below, has_none, negation-negation, Ordered, Before, union-ordered, ordered-same, union-IsIn, IsIn-union, has-IsIn, IsIn-has, IsIn-has_not, codes-grow, is_tautology-whole, is_tautology-none}
use Rattle.q_logic.proofs.Decided.{negated_in-is, is-negated_in}
use Rattle.q_eliminate.specs.Gains.{joined_length}

-- A literal put into a clause that is in order.
insert-least : (k : Literal) (C : Clause) → Before k C → insert k C ≡ k ∷ C
insert-least k [] b = refl
insert-least k (j ∷ C) b = let l : pack k < pack j = codes-grow k j (b j (inl refl)) in let t : nat_lt (pack k) (pack j) ≡ true = grind (arith, nat_tests) in ap (λ (s : Bool). cond s (k ∷ j ∷ C) (cond (pack k == pack j) (j ∷ C) (j ∷ insert k C))) t

insert-same : (k : Literal) (C : Clause) → insert k (k ∷ C) ≡ k ∷ C
insert-same k C = let t : nat_lt (pack k) (pack k) ≡ false = grind (arith, nat_tests) in let e : (pack k == pack k) ≡ true = grind (arith, nat_tests) in
    ap (λ (s : Bool). cond s (k ∷ k ∷ C) (cond (pack k == pack k) (k ∷ C) (k ∷ insert k C))) t ∙ ap (λ (s : Bool). cond s (k ∷ C) (k ∷ insert k C)) e

insert-later : (k j : Literal) (C : Clause) → IsBelow j k → insert k (j ∷ C) ≡ j ∷ insert k C
insert-later k j C b = let l : pack j < pack k = codes-grow j k b in let t : nat_lt (pack k) (pack j) ≡ false = grind (arith, nat_tests) in let e : (pack k == pack j) ≡ false = grind (arith, nat_tests) in
    ap (λ (s : Bool). cond s (k ∷ j ∷ C) (cond (pack k == pack j) (j ∷ C) (j ∷ insert k C))) t ∙ ap (λ (s : Bool). cond s (j ∷ C) (j ∷ insert k C)) e

-- The next literal of two clauses.
pub union-none : (C : Clause) → Ordered C → union C [] ≡ C
union-none [] o = refl
union-none (k ∷ C) o = ap (insert k) (union-none C o.1) ∙ insert-least k C o.0

before-union : (k : Literal) (C D : Clause) → Before k C → Before k D → Before k (union C D)
before-union k C D b d j m = elim (union-IsIn C D j m) [ inl x ↦ b j x | inr y ↦ d j y ]

pub union-first : (k : Literal) (C D : Clause) → Before k C → Before k D → union (k ∷ C) D ≡ k ∷ union C D
union-first k C D b d = insert-least k (union C D) (before-union k C D b d)

pub union-second : (k : Literal) (C D : Clause) → Before k C → union C (k ∷ D) ≡ k ∷ union C D
union-second k [] D b = refl
union-second k (j ∷ C) D b = ap (insert j) (union-second k C D (λ i m. b i (inr m))) ∙ insert-later j k (union C D) (b j (inl refl))

pub union-both : (k : Literal) (C D : Clause) → Before k C → union (k ∷ C) (k ∷ D) ≡ k ∷ union C D
union-both k C D b = ap (insert k) (union-second k C D b) ∙ insert-same k (union C D)

-- The length.
insert-new : (k : Literal) (C : Clause) → has k C ≡ false → length (insert k C) ≡ length C + 1
insert-new k [] h = refl
insert-new k (j ∷ C) h = go (nat_lt (pack k) (pack j)) (pack k == pack j) refl (insert-new k C)
  where
    go : (s t : Bool) → (pack k == pack j) ≡ t → (has k C ≡ false → length (insert k C) ≡ length C + 1) → length (cond s (k ∷ j ∷ C) (cond t (j ∷ C) (j ∷ insert k C))) ≡ length (j ∷ C) + 1
    go true t e ih = omega arith
    go false true e ih = let q : k ≡ j = Rattle.q_logic.proofs.ClauseSets.same-pack k j e in absurd (true≢false (sym (IsIn-has k (j ∷ C) (inl q)) ∙ h))
    go false false e ih = let n : has k C ≡ false = has_none k C (λ m. true≢false (sym (IsIn-has k (j ∷ C) (inr m)) ∙ h)) in let i = ih n in omega arith

insert-there : (k : Literal) (C : Clause) → Ordered C → IsIn k C → insert k C ≡ C
insert-there k [] o m = absurd m
insert-there k (j ∷ C) o (inl e) = subst (λ (x : Literal). insert k (x ∷ C) ≡ x ∷ C) e (insert-same k C)
insert-there k (j ∷ C) o (inr m) = insert-later k j C (o.0 k m) ∙ ap (λ (D : Clause). j ∷ D) (insert-there k C o.1 m)

not-before : (k : Literal) (C : Clause) → Before k C → IsIn k C → ⊥
not-before k C b m = not_itself_below k k refl (b k m)

-- B together with A is as long as A and what B has beside it
pub union-length : (A B : Clause) → Ordered A → Ordered B → length (union B A) ≡ length A + length (missing B A)
union-length A [] o p = omega arith
union-length A (k ∷ B) o p = go (has k A) refl (union-length A B o p.1)
  where
    go : (b : Bool) → has k A ≡ b → length (union B A) ≡ length A + length (missing B A) → length (insert k (union B A)) ≡ length A + length (cond b (missing B A) (k ∷ missing B A))
    go true h i = ap length (insert-there k (union B A) (union-ordered B A o) (IsIn-union B A k (inr (has-IsIn k A h)))) ∙ i
    go false h i =
        let n : has k (union B A) ≡ false = has_none k (union B A) (λ m. elim (union-IsIn B A k m) [ inl x ↦ not-before k B p.0 x | inr y ↦ IsIn-has_not k A h y ]) in
        let e = insert-new k (union B A) n in omega arith

pub union-swap : (A B : Clause) → Ordered A → Ordered B → union A B ≡ union B A
union-swap A B o p = ordered-same (union A B) (union B A) (union-ordered A B p) (union-ordered B A o) (turn A B) (turn B A)
  where
    turn : (A B : Clause) → IsSubset (union A B) (union B A)
    turn A B k m = IsIn-union B A k (elim (union-IsIn A B k m) [ inl x ↦ inr x | inr y ↦ inl y ])

pub joined-length : (A B : Clause) → Ordered A → Ordered B → length (union A B) ≡ length A + length (missing B A)
joined-length A B o p = ap length (union-swap A B o p) ∙ union-length A B o p

pub joined-clash : (A B : Clause) → negated_in B A ≡ true → is_tautology (union A B) ≡ true
joined-clash A B h = let r = negated_in-is B A h in is_tautology-whole (union A B) (r.0, IsIn-union A B r.0 (inr r.1), IsIn-union A B (negation r.0) (inl r.2))

pub joined-plain : (A B : Clause) → (IsTautology A → ⊥) → (IsTautology B → ⊥) → negated_in B A ≡ false → IsTautology (union A B) → ⊥
joined-plain A B a b h (k, m, n) = elim (union-IsIn A B k m) [
  | inl x ↦ elim (union-IsIn A B (negation k) n) [
    | inl y ↦ a (k, x, y)
    | inr y ↦ true≢false (sym (is-negated_in B A (negation k, y, subst (λ (z : Literal). IsIn z A) (sym (negation-negation k)) x)) ∙ h)
  ]
  | inr x ↦ elim (union-IsIn A B (negation k) n) [
    | inl y ↦ true≢false (sym (is-negated_in B A (k, x, y)) ∙ h)
    | inr y ↦ b (k, x, y)
  ]
]

-- What the code counts of two clauses.
module _ (A B : Clause) where
  told : (b : Bool) (n : ℕ) → cond b None (Some n) ≡ None → b ≡ true
  told true n e = refl
  told false n e = absurd (let z : Some n ≡ None = e in cc)

  told-some : (b : Bool) (n m : ℕ) → cond b None (Some n) ≡ Some m → (b ≡ false) × (n ≡ m)
  told-some true n m e = absurd (let z : None ≡ Some m = e in cc)
  told-some false n m e = (refl, let z : Some n ≡ Some m = e in cc)

  pub joined-none : joined_length A B ≡ None → is_tautology (union A B) ≡ true
  joined-none e = joined-clash A B (told (negated_in B A) (length A + length (missing B A)) e)

  pub joined-some : (n : ℕ) → Ordered A → Ordered B → (IsTautology A → ⊥) → (IsTautology B → ⊥) → joined_length A B ≡ Some n → (is_tautology (union A B) ≡ false) × (length (union A B) ≡ n)
  joined-some n o p a b e =
      let t = told-some (negated_in B A) (length A + length (missing B A)) n e in (
        is_tautology-none (union A B) (joined-plain A B a b t.0),
        joined-length A B o p ∙ t.1,
      )
