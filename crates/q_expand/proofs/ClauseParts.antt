-- What is to become of a clause, and the clauses that come of it.
use Rattle.std.proofs.Common.{◌≡◌, ◌≤◌, ◌<◌, ◌+◌, ℕ, suc, Bool, true, false, cond, List, [], ◌∷◌, ◌++◌, length, take, get_or, Some, None, Option, refl, sym, ◌∙◌, ap, subst, arith, true≢false, append_assoc, append-nil}
use Rattle.q_logic.specs.Prelude.{Literal, IsBelow, negation, literal_eq, Clause, Matrix, IsIn, insert, clause_of, has, positive, ProofStep, without, ArePairs, Slots, slot, put_first, clauses_at, shares, copied, copied_literal}
use Rattle.q_logic.proofs.Common.{IsIn-has, has_none, taken}
use Rattle.q_expand.specs.declared.splitting.Part.TheVariants.{Turns, Splits}
use Rattle.q_expand.specs.Steps.{over_copies, split_steps, steps_for, all_split}

-- the test of a literal tells the same as the test of the clause
pub has-told : (l : Literal) (C : Clause) (b : Bool) → (b ≡ true → IsIn l C) → (IsIn l C → b ≡ true) → has l C ≡ b
has-told l C true f g = IsIn-has l C (f refl)
has-told l C false f g = has_none l C (λ m. true≢false (sym (g m)))

pub positive-of : (u : Literal) → u.negative ≡ false → u ≡ positive u.var
positive-of u s = λ i. record { var = u.var; negative = s i }

module _ (u : ℕ) (V : List ℕ) (D : Clause) where
  pub stays-held : has (positive u) D ≡ true → (t : ℕ) → split_steps u V t D ≡ []
  stays-held h t = rw h refl

  pub stays-apart : has (positive u) D ≡ false → shares V D ≡ false → (t : ℕ) → split_steps u V t D ≡ []
  stays-apart h s t = rw (h, s) refl

  pub turns-over : has (positive u) D ≡ false → shares V D ≡ true → has (negation (positive u)) D ≡ true → (t : ℕ) → split_steps u V t D ≡ steps_for Turns u V t D
  turns-over h s n t = rw (h, s, n) refl

  pub splits-over : has (positive u) D ≡ false → shares V D ≡ true → has (negation (positive u)) D ≡ false → (t : ℕ) → split_steps u V t D ≡ steps_for Splits u V t D
  splits-over h s n t = rw (h, s, n) refl

-- Lists of clauses.
pub all_split-append : (u : ℕ) (V : List ℕ) (t : ℕ) (X Y : Matrix) → all_split u V t (X ++ Y) ≡ all_split u V t X ++ all_split u V t Y
all_split-append u V t [] Y = refl
all_split-append u V t (D ∷ X) Y = ap (λ (ss : List ProofStep). split_steps u V t D ++ ss) (all_split-append u V t X Y) ∙ sym (append_assoc (split_steps u V t D) (all_split u V t X) (all_split u V t Y))

pub clauses-append : (N : Slots) (cs ds : List ℕ) → clauses_at N (cs ++ ds) ≡ clauses_at N cs ++ clauses_at N ds
clauses-append N [] ds = refl
clauses-append N (c ∷ cs) ds = go (slot N c) (clauses-append N cs ds)
  where
    go : (o : Option Clause) → clauses_at N (cs ++ ds) ≡ clauses_at N cs ++ clauses_at N ds → put_first o (clauses_at N (cs ++ ds)) ≡ put_first o (clauses_at N cs) ++ clauses_at N ds
    go None i = i
    go (Some C) i = ap (λ (X : Matrix). C ∷ X) i

-- the literals of copies, in the order of the clause
abbrev pub imaged : List ℕ → ℕ → List Literal → List Literal
imaged V t [] = []
imaged V t (k ∷ C) = copied_literal V t k ∷ imaged V t C

pub imaged-append : (V : List ℕ) (t : ℕ) (C D : List Literal) → imaged V t (C ++ D) ≡ imaged V t C ++ imaged V t D
imaged-append V t [] D = refl
imaged-append V t (k ∷ C) D = ap (λ (ks : List Literal). copied_literal V t k ∷ ks) (imaged-append V t C D)

pub imaged-length : (V : List ℕ) (t : ℕ) (C : List Literal) → length (imaged V t C) ≡ length C
imaged-length V t [] = refl
imaged-length V t (k ∷ C) = ap suc (imaged-length V t C)

imaged-clause : (V : List ℕ) (t : ℕ) (C : List Literal) → clause_of (imaged V t C) ≡ copied V t C
imaged-clause V t [] = refl
imaged-clause V t (k ∷ C) = ap (insert (copied_literal V t k)) (imaged-clause V t C)

without-append : (l : Literal) (C D : Clause) → without l (C ++ D) ≡ without l C ++ without l D
without-append l [] D = refl
without-append l (k ∷ C) D = go (literal_eq k l) (without-append l C D)
  where
    go : (b : Bool) → without l (C ++ D) ≡ without l C ++ without l D → cond b (without l (C ++ D)) (k ∷ without l (C ++ D)) ≡ cond b (without l C) (k ∷ without l C) ++ without l D
    go true i = i
    go false i = ap (λ (ks : List Literal). k ∷ ks) i

-- what a loop has written
pub over-begun : (u : ℕ) (V : List ℕ) (t : ℕ) → negation (positive u) ∷ [] ≡ negation (positive u) ∷ imaged V t (without (negation (positive u)) [])
over-begun u V t = refl

pub over-left : (l : Literal) (V : List ℕ) (t : ℕ) (C : Clause) (n : ℕ) (k : Literal) → n < length C → k ≡ get_or C n k → k ≡ l → imaged V t (without l (take (n + 1) C)) ≡ imaged V t (without l (take n C))
over-left l V t C n k h e q =
    let s = literal-same k l q in
    ap (λ (D : Clause). imaged V t (without l D)) (taken C n k h e) ∙ (ap (imaged V t) (without-append l (take n C) (k ∷ [])) ∙ ap (λ (b : Bool). imaged V t (without l (take n C) ++ cond b [] (k ∷ []))) s ∙ ap (imaged V t) (append-nil (without l (take n C))))
  where
    literal-same : (k l : Literal) → k ≡ l → literal_eq k l ≡ true
    literal-same k l q = subst (λ (x : Literal). literal_eq k x ≡ true) q (Rattle.q_logic.proofs.ClauseLemmas.literal_eq-itself k)

pub over-put : (l : Literal) (V : List ℕ) (t : ℕ) (C : Clause) (n : ℕ) (k : Literal) → n < length C → k ≡ get_or C n k → (k ≡ l → ⊥) → imaged V t (without l (take (n + 1) C)) ≡ imaged V t (without l (take n C)) ++ copied_literal V t k ∷ []
over-put l V t C n k h e d =
    let s = literal-other (literal_eq k l) refl in
    ap (λ (D : Clause). imaged V t (without l D)) (taken C n k h e) ∙ (ap (imaged V t) (without-append l (take n C) (k ∷ [])) ∙ ap (λ (b : Bool). imaged V t (without l (take n C) ++ cond b [] (k ∷ []))) s ∙ imaged-append V t (without l (take n C)) (k ∷ []))
  where
    literal-other : (b : Bool) → literal_eq k l ≡ b → literal_eq k l ≡ false
    literal-other true q = absurd (d (Rattle.q_logic.proofs.ClauseLemmas.literal_eq-sound k l q))
    literal-other false q = q

pub over-room : (l : Literal) (V : List ℕ) (t : ℕ) (C : Clause) (n : ℕ) → n ≤ length C → length (imaged V t (without l (take n C))) ≤ n
over-room l V t C n h =
    let a = imaged-length V t (without l (take n C)) in
    let b = Rattle.q_logic.proofs.JoinedClauses.without-shorter l (take n C) in
    let c = Rattle.std.proofs.lemmas.List.length-take-le n C h in
    omega arith

pub over-done : (u : ℕ) (V : List ℕ) (t : ℕ) (C : Clause) → clause_of (negation (positive u) ∷ imaged V t (without (negation (positive u)) C)) ≡ over_copies u V t C
over-done u V t C = ap (insert (negation (positive u))) (imaged-clause V t (without (negation (positive u)) C))

pub over-ordered : (u : ℕ) (V : List ℕ) (t : ℕ) (C : Clause) → ArePairs IsBelow (over_copies u V t C)
over-ordered u V t C = subst (ArePairs IsBelow) (over-done u V t C) (Rattle.q_logic.proofs.ClauseSets.clause_of-ordered (negation (positive u) ∷ imaged V t (without (negation (positive u)) C)))
