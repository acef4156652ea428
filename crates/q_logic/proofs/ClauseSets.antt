-- The set of some literals as a clause: what it holds, that it is in order, and that both together
-- determine it.
use Rattle.std.proofs.Common.{◌≡◌, ◌==◌, nat_lt, Bool, true, false, cond, List, [], ◌∷◌, refl, sym, ◌∙◌, subst, arith, inl, inr}
use Rattle.std.proofs.lemmas.Bool.Decides.{nat_tests}
use Rattle.std.specs.List.{AllByRecursion}
use Rattle.q_logic.specs.Prelude.{Literal, IsBelow, pack, Clause, IsIn, ArePairs, insert, clause_of}

-- the three cases of an insertion
abbrev placed : Bool → Bool → Literal → Literal → Clause → Clause
placed t s l k C = cond t (l ∷ k ∷ C) (cond s (k ∷ C) (k ∷ insert l C))

pub below-pack : (k l : Literal) → nat_lt (pack k) (pack l) ≡ true → IsBelow k l
below-pack k l e = grind (arith, nat_tests)

above-pack : (k l : Literal) → nat_lt (pack l) (pack k) ≡ false → (pack l == pack k) ≡ false → IsBelow k l
above-pack k l e f = grind (arith, nat_tests)

pub same-pack : (k l : Literal) → (pack k == pack l) ≡ true → k ≡ l
same-pack k l e = grind (arith, nat_tests)

pub below-trans : (a b c : Literal) → IsBelow a b → IsBelow b c → IsBelow a c
below-trans a b c h k = grind arith

pub not_below : (k l : Literal) → IsBelow k l → IsBelow l k → ⊥
not_below k l h g = grind arith

pub not_itself_below : (k l : Literal) → k ≡ l → IsBelow k l → ⊥
not_itself_below k l e h = grind arith

below-all : (a b : Literal) (C : Clause) → IsBelow a b → AllByRecursion (IsBelow b) C →
    AllByRecursion (IsBelow a) C
below-all a b [] h k = tt
below-all a b (x ∷ C) h k = (below-trans a b x h k.0, below-all a b C h k.1)

insert-all : (a l : Literal) (C : Clause) → IsBelow a l → AllByRecursion (IsBelow a) C →
    AllByRecursion (IsBelow a) (insert l C)
insert-all a l [] h k = (h, tt)
insert-all a l (x ∷ C) h k = go (nat_lt (pack l) (pack x)) (pack l == pack x) (insert-all a l C h k.1)
  where
    go : (t s : Bool) → AllByRecursion (IsBelow a) (insert l C) →
        AllByRecursion (IsBelow a) (placed t s l x C)
    go true s ih = (h, k)
    go false true ih = k
    go false false ih = (k.0, ih)

pub insert-ordered : (l : Literal) (C : Clause) → ArePairs IsBelow C → ArePairs IsBelow (insert l C)
insert-ordered l [] h = (tt, tt)
insert-ordered l (x ∷ C) h =
    go (nat_lt (pack l) (pack x)) (pack l == pack x) refl refl (insert-ordered l C h.1)
  where
    go : (t s : Bool) → nat_lt (pack l) (pack x) ≡ t → (pack l == pack x) ≡ s →
        ArePairs IsBelow (insert l C) → ArePairs IsBelow (placed t s l x C)
    go true s e f ih = ((below-pack l x e, below-all l x C (below-pack l x e) h.0), h)
    go false true e f ih = h
    go false false e f ih = (insert-all x l C (above-pack x l e f) h.0, ih)

pub clause_of-ordered : (ls : List Literal) → ArePairs IsBelow (clause_of ls)
clause_of-ordered [] = tt
clause_of-ordered (l ∷ ls) = insert-ordered l (clause_of ls) (clause_of-ordered ls)

pub IsIn-insert : (m l : Literal) (C : Clause) → IsIn m (insert l C) → IsIn m (l ∷ C)
IsIn-insert m l [] h = h
IsIn-insert m l (k ∷ C) h = go (nat_lt (pack l) (pack k)) (pack l == pack k) h (IsIn-insert m l C)
  where
    go : (t s : Bool) → IsIn m (placed t s l k C) → (IsIn m (insert l C) → IsIn m (l ∷ C)) →
        IsIn m (l ∷ k ∷ C)
    go true s h ih = h
    go false true h ih = inr h
    go false false (inl e) ih = inr (inl e)
    go false false (inr h) ih = elim (ih h) [ inl e ↦ inl e | inr d ↦ inr (inr d) ]

pub insert-IsIn : (m l : Literal) (C : Clause) → IsIn m (l ∷ C) → IsIn m (insert l C)
insert-IsIn m l [] h = h
insert-IsIn m l (k ∷ C) h = go (nat_lt (pack l) (pack k)) (pack l == pack k) refl h (insert-IsIn m l C)
  where
    go : (t s : Bool) → (pack l == pack k) ≡ s → IsIn m (l ∷ k ∷ C) →
        (IsIn m (l ∷ C) → IsIn m (insert l C)) → IsIn m (placed t s l k C)
    go true s e h ih = h
    go false true e (inl h) ih = inl (h ∙ same-pack l k e)
    go false true e (inr h) ih = h
    go false false e (inl h) ih = inr (ih (inl h))
    go false false e (inr (inl h)) ih = inl h
    go false false e (inr (inr h)) ih = inr (ih (inr h))

pub IsIn-clause_of : (m : Literal) (ls : List Literal) → IsIn m (clause_of ls) → IsIn m ls
IsIn-clause_of m [] h = h
IsIn-clause_of m (l ∷ ls) h =
    elim (IsIn-insert m l (clause_of ls) h) [ inl e ↦ inl e | inr d ↦ inr (IsIn-clause_of m ls d) ]

pub clause_of-IsIn : (m : Literal) (ls : List Literal) → IsIn m ls → IsIn m (clause_of ls)
clause_of-IsIn m [] h = h
clause_of-IsIn m (l ∷ ls) (inl e) = insert-IsIn m l (clause_of ls) (inl e)
clause_of-IsIn m (l ∷ ls) (inr h) = insert-IsIn m l (clause_of ls) (inr (clause_of-IsIn m ls h))

pub IsIn-below : (k l : Literal) (C : Clause) → AllByRecursion (IsBelow k) C → IsIn l C → IsBelow k l
IsIn-below k l [] a h = elim h [ ]
IsIn-below k l (x ∷ C) a (inl e) = subst (IsBelow k) (sym e) a.0
IsIn-below k l (x ∷ C) a (inr h) = IsIn-below k l C a.1 h

-- Clauses in literal order with the same members are equal.
pub ordered-same : (C D : Clause) → ArePairs IsBelow C → ArePairs IsBelow D →
    ((l : Literal) → IsIn l C → IsIn l D) → ((l : Literal) → IsIn l D → IsIn l C) → C ≡ D
ordered-same [] [] p q f g = refl
ordered-same [] (y ∷ D) p q f g = absurd (g y (inl refl))
ordered-same (x ∷ C) [] p q f g = absurd (f x (inl refl))
ordered-same (x ∷ C) (y ∷ D) p q f g =
    both (heads (f x (inl refl)) (g y (inl refl))) (ordered-same C D p.1 q.1)
  where
    heads : IsIn x (y ∷ D) → IsIn y (x ∷ C) → x ≡ y
    heads (inl e) h = e
    heads (inr e) (inl h) = sym h
    heads (inr e) (inr h) = absurd (not_below y x (IsIn-below y x D q.0 e) (IsIn-below x y C p.0 h))

    tail_left : x ≡ y → (l : Literal) → IsIn l C → IsIn l (y ∷ D) → IsIn l D
    tail_left e l h (inl d) = absurd (not_itself_below x l (e ∙ sym d) (IsIn-below x l C p.0 h))
    tail_left e l h (inr d) = d

    tail_right : x ≡ y → (l : Literal) → IsIn l D → IsIn l (x ∷ C) → IsIn l C
    tail_right e l h (inl d) = absurd (not_itself_below y l (sym e ∙ sym d) (IsIn-below y l D q.0 h))
    tail_right e l h (inr d) = d

    both : x ≡ y → (((l : Literal) → IsIn l C → IsIn l D) → ((l : Literal) → IsIn l D → IsIn l C) → C ≡ D) →
        x ∷ C ≡ y ∷ D
    both e ih =
        let t = ih (λ l h. tail_left e l h (f l (inr h))) (λ l h. tail_right e l h (g l (inr h))) in cc

-- A clause in literal order with the members of a list is the list's set.
pub is_clause_of : (C : Clause) (ls : List Literal) → ArePairs IsBelow C →
    ((l : Literal) → IsIn l C → IsIn l ls) → ((l : Literal) → IsIn l ls → IsIn l C) → C ≡ clause_of ls
is_clause_of C ls p f g =
    ordered-same C (clause_of ls) p (clause_of-ordered ls) (λ l h. clause_of-IsIn l ls (f l h))
    (λ l h. g l (IsIn-clause_of l ls h))

pub clause_of-ordered_clause : (C : Clause) → ArePairs IsBelow C → clause_of C ≡ C
clause_of-ordered_clause C p = sym (is_clause_of C C p (λ l h. h) (λ l h. h))
