-- A step's literals: the first in front, the others in literal order.
use Rattle.std.proofs.Common.{◌≡◌, ℕ, zero, suc, ◌+◌, ◌-◌, ◌<◌, Bool, true, false, cond, List, [], ◌∷◌, ◌++◌, length, take, drop, get_or, ◌⊎◌, inl, inr, refl, sym, ap, ◌∙◌, subst, arith, not-suc-le-zero, le_of_suc-le-suc}
use Rattle.std.proofs.lemmas.List.{take_at}
use Rattle.std.specs.List.{AllByRecursion}
use Rattle.q_logic.specs.declared.steps.Kind.{Kind}
use Rattle.q_logic.specs.declared.steps.Kind.TheVariants.{Add, Delete, Drop, Fresh, Remove}
use Rattle.q_logic.specs.Prelude.{Literal, IsBelow, literal_eq, Clause, IsIn, clause_of, ArePairs, without, ProofStep}
use Rattle.q_logic.specs.StepForms.{IsStepForm, IsStep, IsFirst, AreStepParts, step_of, in_front, first_of, arranged}
use Rattle.q_logic.proofs.ClauseLemmas.{literal_eq-sound, literal_eq-itself}
use Rattle.q_logic.proofs.UniversalPivot.{without-IsIn}
use Rattle.q_logic.proofs.ClauseSets.{is_clause_of, clause_of-ordered, clause_of-IsIn, not_itself_below}

-- without a literal

pub without-IsIn_other : (l m : Literal) (C : Clause) → IsIn m C → IsIn m (l ∷ without l C)
without-IsIn_other l m [] h = elim h [ ]
without-IsIn_other l m (k ∷ C) h = go (literal_eq k l) refl h (without-IsIn_other l m C)
  where
    go : (b : Bool) → literal_eq k l ≡ b → IsIn m (k ∷ C) → (IsIn m C → IsIn m (l ∷ without l C)) →
        IsIn m (l ∷ cond b (without l C) (k ∷ without l C))
    go true q (inl e) ih = inl (e ∙ literal_eq-sound k l q)
    go true q (inr h) ih = ih h
    go false q (inl e) ih = inr (inl e)
    go false q (inr h) ih = elim (ih h) [ inl e ↦ inl e | inr d ↦ inr (inr d) ]

pub without-above : (l : Literal) (C : Clause) → AllByRecursion (IsBelow l) C → without l C ≡ C
without-above l [] a = refl
without-above l (k ∷ C) a = go (literal_eq k l) refl (without-above l C a.1)
  where
    go : (b : Bool) → literal_eq k l ≡ b → without l C ≡ C → cond b (without l C) (k ∷ without l C) ≡ k ∷ C
    go true q ih = absurd (not_itself_below l k (sym (literal_eq-sound k l q)) a.0)
    go false q ih = ap (λ (D : Clause). k ∷ D) ih

-- a literal of a clause moved to its front

front-take : (C : Clause) (at : ℕ) (l : Literal) → at < length C → take at (take (suc at) C) ≡ take at C
front-take [] at l h = absurd (not-suc-le-zero h)
front-take (k ∷ C) zero l h = refl
front-take (k ∷ C) (suc at) l h = ap (λ (D : Clause). k ∷ D) (front-take C at l (le_of_suc-le-suc h))

front-drop : (C : Clause) (at : ℕ) (l : Literal) → at < length C →
    drop at (take (suc at) C) ≡ get_or C at l ∷ []
front-drop [] at l h = absurd (not-suc-le-zero h)
front-drop (k ∷ C) zero l h = refl
front-drop (k ∷ C) (suc at) l h = front-drop C at l (le_of_suc-le-suc h)

front-length : (C : Clause) (at : ℕ) → at < length C → length (take (suc at) C) ≡ suc at
front-length [] at h = absurd (not-suc-le-zero h)
front-length (k ∷ C) zero h = refl
front-length (k ∷ C) (suc at) h = ap suc (front-length C at (le_of_suc-le-suc h))

around-without : (C : Clause) (at : ℕ) (l : Literal) → ArePairs IsBelow C → at < length C →
    get_or C at l ≡ l → take at C ++ drop (suc at) C ≡ without l C
around-without [] at l p h e = absurd (not-suc-le-zero h)
around-without (k ∷ C) zero l p h e = go (literal_eq k l) refl
  where
    go : (b : Bool) → literal_eq k l ≡ b → C ≡ cond b (without l C) (k ∷ without l C)
    go true q = sym (without-above l C (subst (λ (m : Literal). AllByRecursion (IsBelow m) C) e p.0))
    go false q = absurd (differs (sym q ∙ (ap (λ (m : Literal). literal_eq m l) e ∙ literal_eq-itself l)))
      where
        differs : false ≡ true → ⊥
        differs d = cc
around-without (k ∷ C) (suc at) l p h e =
    go (literal_eq k l) refl (around-without C at l p.1 (le_of_suc-le-suc h) e)
  where
    there : (D : Clause) (i : ℕ) → AllByRecursion (IsBelow k) D → i < length D → get_or D i l ≡ l →
        IsBelow k l
    there [] i a b f = absurd (not-suc-le-zero b)
    there (m ∷ D) zero a b f = subst (IsBelow k) f a.0
    there (m ∷ D) (suc i) a b f = there D i a.1 (le_of_suc-le-suc b) f

    go : (b : Bool) → literal_eq k l ≡ b → take at C ++ drop (suc at) C ≡ without l C →
        k ∷ take at C ++ drop (suc at) C ≡ cond b (without l C) (k ∷ without l C)
    go true q ih =
        absurd (not_itself_below k l (literal_eq-sound k l q) (there C at p.0 (le_of_suc-le-suc h) e))
    go false q ih = ap (λ (D : Clause). k ∷ D) ih

pub forward : (C front turned : Clause) (at : ℕ) (l : Literal) → ArePairs IsBelow C → at < length C →
    get_or C at l ≡ l → front ≡ take (at + 1) C →
    turned ≡ drop (length front - 1) front ++ take (length front - 1) front →
    turned ++ drop (at + 1) C ≡ l ∷ without l C
forward C front turned at l p h e f g =
    ap (λ (D : Clause). D ++ drop (at + 1) C) turned_is ∙
    (ap (λ (i : ℕ). l ∷ take at C ++ drop i C) one_more ∙
    ap (λ (D : Clause). l ∷ D) (around-without C at l p h e))
  where
    one_more : at + 1 ≡ suc at
    one_more = omega arith

    front_is : front ≡ take (suc at) C
    front_is = f ∙ ap (λ (i : ℕ). take i C) one_more

    short : length front - 1 ≡ at
    short = let n : length front ≡ suc at = ap length front_is ∙ front-length C at h in omega arith

    turned_is : turned ≡ l ∷ take at C
    turned_is =
        g ∙ (ap (λ (i : ℕ). drop i front ++ take i front) short ∙
        (ap (λ (D : Clause). drop at D ++ take at D) front_is ∙
        (ap (λ (D : Clause). D ++ take at (take (suc at) C)) (front-drop C at l h) ∙
        cc (front-take C at l h, e))))

-- a row whose places are all written
pub whole-take : (n : ℕ) (xs ys : List Literal) → n ≡ length ys → length xs ≡ length ys →
    take n (xs ++ drop (length xs) ys) ≡ xs
whole-take n xs ys e f =
    ap (λ (i : ℕ). take i (xs ++ drop (length xs) ys)) (e ∙ sym f) ∙
    take_at xs (drop (length xs) ys) (length xs) refl

-- the arranged literals have the same set

pub first-held : (ls C : List Literal) (l : Literal) → 0 < length ls → l ≡ get_or ls 0 l →
    C ≡ clause_of ls → IsIn l C
first-held [] C l n e f = absurd (not-suc-le-zero n)
first-held (k ∷ ls) C l n e f = subst (IsIn l) (sym f) (clause_of-IsIn l (k ∷ ls) (inl e))

pub arranged-cons : (ls C : List Literal) (l : Literal) → 0 < length ls → l ≡ get_or ls 0 l →
    C ≡ clause_of ls → l ∷ without l C ≡ arranged ls
arranged-cons [] C l n e f = absurd (not-suc-le-zero n)
arranged-cons (k ∷ ls) C l n e f = cc

first_of-IsFirst : (ls : List Literal) → IsFirst (first_of ls) (clause_of ls)
first_of-IsFirst [] = refl
first_of-IsFirst (l ∷ ls) = clause_of-IsIn l (l ∷ ls) (inl refl)

pub clause_of-in_front : (l : Literal) (C : Clause) → ArePairs IsBelow C → IsIn l C →
    clause_of (l ∷ without l C) ≡ C
clause_of-in_front l C p h =
    sym (is_clause_of C (l ∷ without l C) p (λ m g. without-IsIn_other l m C g) back)
  where
    back : (m : Literal) → IsIn m (l ∷ without l C) → IsIn m C
    back m (inl e) = subst (λ (k : Literal). IsIn k C) (sym e) h
    back m (inr g) = without-IsIn l C m g

clause_of-arranged : (ls : List Literal) → clause_of (arranged ls) ≡ clause_of ls
clause_of-arranged [] = refl
clause_of-arranged (l ∷ ls) =
    clause_of-in_front l (clause_of (l ∷ ls)) (clause_of-ordered (l ∷ ls))
    (clause_of-IsIn l (l ∷ ls) (inl refl))

first_of-arranged : (ls : List Literal) → first_of (arranged ls) ≡ first_of ls
first_of-arranged [] = refl
first_of-arranged (l ∷ ls) = refl

-- the step of a kind and its literals

pub step_of-IsStep : (k : Kind) (ls : List Literal) → IsStepForm k ls → IsStep (step_of k ls)
step_of-IsStep Add ls f = (clause_of-ordered ls, first_of-IsFirst ls)
step_of-IsStep Delete ls f = (clause_of-ordered ls, first_of-IsFirst ls)
step_of-IsStep Drop [] f = absurd (omega arith)
step_of-IsStep Drop (l ∷ ls) f = (clause_of-ordered (l ∷ ls), clause_of-IsIn l (l ∷ ls) (inl refl))
step_of-IsStep Fresh [] f = tt
step_of-IsStep Fresh (v ∷ []) f = tt
step_of-IsStep Fresh (v ∷ w ∷ ls) f = tt
step_of-IsStep Remove [] f = tt
step_of-IsStep Remove (v ∷ ls) f = tt

arranged-added : (ls : List Literal) → ProofStep.add (first_of (arranged ls)) (clause_of (arranged ls)) ≡
    ProofStep.add (first_of ls) (clause_of ls)
arranged-added ls = cc (clause_of-arranged ls, first_of-arranged ls)

arranged-deleted : (ls : List Literal) → ProofStep.delete (first_of (arranged ls))
    (clause_of (arranged ls)) ≡ ProofStep.delete (first_of ls) (clause_of ls)
arranged-deleted ls = cc (clause_of-arranged ls, first_of-arranged ls)

arranged-again : (ls : List Literal) → arranged ls ≡
    in_front (first_of (arranged ls)) (clause_of (arranged ls))
arranged-again ls = cc (clause_of-arranged ls, first_of-arranged ls)

arranged-dropped : (ls : List Literal) → step_of Drop (arranged ls) ≡ step_of Drop ls
arranged-dropped [] = refl
arranged-dropped (l ∷ ls) = ap (λ (C : Clause). ProofStep.drop_literal l C) (clause_of-arranged (l ∷ ls))

arranged-dropped_parts : (ls : List Literal) → 0 < length ls → AreStepParts Drop (arranged ls)
arranged-dropped_parts [] h = absurd (not-suc-le-zero h)
arranged-dropped_parts (l ∷ ls) h = record { form = omega arith; same = arranged-again (l ∷ ls) }

-- the kinds that have a clause
abbrev pub HasClause : Kind → Type 0
HasClause k = (k ≡ Add) ⊎ ((k ≡ Delete) ⊎ (k ≡ Drop))

pub step_of-arranged : (k : Kind) (ls : List Literal) → HasClause k → step_of k (arranged ls) ≡ step_of k ls
step_of-arranged k ls (inl e) =
    subst (λ (j : Kind). step_of j (arranged ls) ≡ step_of j ls) (sym e) (arranged-added ls)
step_of-arranged k ls (inr (inl e)) =
    subst (λ (j : Kind). step_of j (arranged ls) ≡ step_of j ls) (sym e) (arranged-deleted ls)
step_of-arranged k ls (inr (inr e)) =
    subst (λ (j : Kind). step_of j (arranged ls) ≡ step_of j ls) (sym e) (arranged-dropped ls)

pub arranged-parts : (k : Kind) (ls : List Literal) → HasClause k → IsStepForm k ls →
    AreStepParts k (arranged ls)
arranged-parts k ls (inl e) f =
    subst (λ (j : Kind). AreStepParts j (arranged ls)) (sym e)
    (record { form = tt; same = arranged-again ls })
arranged-parts k ls (inr (inl e)) f =
    subst (λ (j : Kind). AreStepParts j (arranged ls)) (sym e)
    (record { form = tt; same = arranged-again ls })
arranged-parts k ls (inr (inr e)) f =
    subst (λ (j : Kind). AreStepParts j (arranged ls)) (sym e)
    (arranged-dropped_parts ls (subst (λ (j : Kind). IsStepForm j ls) e f))
