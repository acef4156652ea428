-- Membership and length of clauses that are put together.
use Rattle.std.proofs.Common.{◌≡◌, ◌≤◌, ◌+◌, length, Bool, true, false, cond, [], ◌∷◌, ◌⊎◌, inl, inr, arith, refl, sym, subst, nat_lt, ◌==◌, List}
use Rattle.q_logic.specs.Prelude.{insert, Literal, negation, literal_eq, pack, Clause, Matrix, Prefix, IsIn, keeps, outer, without, has, union, is_tautology, IsTautology, put_unless_tautology, clause_of}
use Rattle.q_logic.proofs.ClauseLemmas.{has-IsIn}

pub insert-IsIn : (l : Literal) (C : Clause) (k : Literal) → IsIn k (insert l C) → (k ≡ l) ⊎ IsIn k C
insert-IsIn l C k m = Rattle.q_logic.proofs.ClauseSets.IsIn-insert k l C m

pub IsIn-insert : (l : Literal) (C : Clause) (k : Literal) → (k ≡ l) ⊎ IsIn k C → IsIn k (insert l C)
IsIn-insert l C k m = Rattle.q_logic.proofs.ClauseSets.insert-IsIn k l C m

pub union-IsIn : (C D : Clause) (k : Literal) → IsIn k (union C D) → IsIn k C ⊎ IsIn k D
union-IsIn [] D k m = inr m
union-IsIn (j ∷ C) D k m = elim (insert-IsIn j (union C D) k m) [ inl e ↦ inl (inl e) | inr n ↦ elim (union-IsIn C D k n) [ inl a ↦ inl (inr a) | inr b ↦ inr b ] ]

pub IsIn-union : (C D : Clause) (k : Literal) → IsIn k C ⊎ IsIn k D → IsIn k (union C D)
IsIn-union [] D k m = elim m [ inl a ↦ elim a [ ] | inr b ↦ b ]
IsIn-union (j ∷ C) D k (inl (inl e)) = IsIn-insert j (union C D) k (inl e)
IsIn-union (j ∷ C) D k (inl (inr m)) = IsIn-insert j (union C D) k (inr (IsIn-union C D k (inl m)))
IsIn-union (j ∷ C) D k (inr m) = IsIn-insert j (union C D) k (inr (IsIn-union C D k (inr m)))

pub is_tautology-sound : (C : Clause) → is_tautology C ≡ true → IsTautology C
is_tautology-sound [] h = grind arith
is_tautology-sound (j ∷ C) h = go (has (negation j) C) refl (is_tautology-sound C)
  where
    go : (b : Bool) → has (negation j) C ≡ b → (is_tautology C ≡ true → IsTautology C) → IsTautology (j ∷ C)
    go true q ih = (j, inl refl, inr (has-IsIn (negation j) C q))
    go false q ih = let r : IsTautology C = ih (grind arith) in (r.0, inr r.1, inr r.2)

pub IsIn-outer_in : (P : Prefix) (m : Literal) (D : Clause) (k : Literal) → IsIn k D → keeps P m k ≡ true → IsIn k (outer P m D)
IsIn-outer_in P m [] k i h = elim i [ ]
IsIn-outer_in P m (j ∷ D) k i h = go (keeps P m j) refl i (λ n. IsIn-outer_in P m D k n h)
  where
    go : (b : Bool) → keeps P m j ≡ b → (k ≡ j) ⊎ IsIn k D → (IsIn k D → IsIn k (outer P m D)) → IsIn k (cond b (j ∷ outer P m D) (outer P m D))
    go true q (inl e) ih = inl e
    go true q (inr n) ih = inr (ih n)
    go false q (inl e) ih = let z : keeps P m j ≡ true = subst (λ y. keeps P m y ≡ true) e h in grind arith
    go false q (inr n) ih = ih n

pub without-other : (l : Literal) (C : Clause) (k : Literal) → IsIn k (without l C) → literal_eq k l ≡ false
without-other l [] k m = elim m [ ]
without-other l (j ∷ C) k m = go (literal_eq j l) refl m (without-other l C k)
  where
    go : (b : Bool) → literal_eq j l ≡ b → IsIn k (cond b (without l C) (j ∷ without l C)) → (IsIn k (without l C) → literal_eq k l ≡ false) → literal_eq k l ≡ false
    go true q n ih = ih n
    go false q (inl e) ih = subst (λ y. literal_eq y l ≡ false) (sym e) q
    go false q (inr n) ih = ih n

pub IsIn-put_unless : (R : Clause) (X : Matrix) (U : Clause) → IsIn U (put_unless_tautology R X) → (U ≡ R) ⊎ IsIn U X
IsIn-put_unless R X U m = go (is_tautology R) m
  where
    go : (b : Bool) → IsIn U (cond b X (R ∷ X)) → (U ≡ R) ⊎ IsIn U X
    go true n = inr n
    go false n = n

pub put_unless-IsIn : (R : Clause) (X : Matrix) → IsTautology R ⊎ IsIn R (put_unless_tautology R X)
put_unless-IsIn R X = go (is_tautology R) refl
  where
    go : (b : Bool) → is_tautology R ≡ b → IsTautology R ⊎ IsIn R (cond b X (R ∷ X))
    go true q = inl (is_tautology-sound R q)
    go false q = inr (inl refl)

pub put_unless-more : (R : Clause) (X : Matrix) (U : Clause) → IsIn U X → IsIn U (put_unless_tautology R X)
put_unless-more R X U m = go (is_tautology R)
  where
    go : (b : Bool) → IsIn U (cond b X (R ∷ X))
    go true = m
    go false = inr m

-- Lengths.
pub without-shorter : (l : Literal) (C : Clause) → length (without l C) ≤ length C
without-shorter l [] = grind arith
without-shorter l (k ∷ C) = let i : length (without l C) ≤ length C = without-shorter l C in go (literal_eq k l) i
  where
    go : (b : Bool) → length (without l C) ≤ length C → length (cond b (without l C) (k ∷ without l C)) ≤ length (k ∷ C)
    go true i = grind arith
    go false i = grind arith

pub insert-length : (l : Literal) (C : Clause) → length (insert l C) ≤ length C + 1
insert-length l [] = grind arith
insert-length l (k ∷ C) = let i : length (insert l C) ≤ length C + 1 = insert-length l C in go (nat_lt (pack l) (pack k)) (pack l == pack k) i
  where
    go : (a b : Bool) → length (insert l C) ≤ length C + 1 → length (cond a (l ∷ k ∷ C) (cond b (k ∷ C) (k ∷ insert l C))) ≤ length (k ∷ C) + 1
    go true b i = grind arith
    go false true i = grind arith
    go false false i = grind arith

pub clause_of-length : (ls : List Literal) → length (clause_of ls) ≤ length ls
clause_of-length [] = omega arith
clause_of-length (l ∷ ls) =
    let i : length (clause_of ls) ≤ length ls = clause_of-length ls in
    let j : length (insert l (clause_of ls)) ≤ length (clause_of ls) + 1 = insert-length l (clause_of ls) in
    omega arith
