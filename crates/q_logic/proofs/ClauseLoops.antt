-- For loops over numbered clauses: each turn keeps the change that is still to come, and at the end nothing is left to change.
use Rattle.std.proofs.Common.{◌≡◌, ℕ, zero, suc, Bool, true, false, cond, eqb, [], ◌∷◌, inl, inr, arith, refl, sym, ap, ◌∙◌, subst, Option, Some, None}
use Rattle.q_logic.specs.Prelude.{has_variable, Literal, negation, literal_eq, Clause, Matrix, IsIn, without, has, without_literal, each_without, is_tautology, Slots, slot, set_slot, live, put_first, merged, merged_one, renamed}
use Rattle.q_logic.proofs.NumberedClauses.{without_literal-slot, without-same}
use Rattle.q_logic.proofs.JoinedClauses.{without-other}
use Rattle.q_logic.proofs.ExpandRun.{has_none}
use Rattle.q_logic.proofs.MergeRun.{renamed-free}
use Rattle.q_logic.proofs.ClauseLemmas.{has-IsIn}

-- A function of matrices that goes clause by clause does not see a change that it does not see at one clause.
abbrev pub folded : (Clause → Matrix → Matrix) → Matrix → Matrix
folded f [] = []
folded f (C ∷ X) = f C (folded f X)

abbrev pub at_slot : (Clause → Matrix → Matrix) → Option Clause → Matrix → Matrix
at_slot f None X = X
at_slot f (Some C) X = f C X

pub folded-set : (f : Clause → Matrix → Matrix) (N : Slots) (c : ℕ) (C : Clause) (o : Option Clause) → slot N c ≡ Some C → ((X : Matrix) → at_slot f o X ≡ f C X) → folded f (live (set_slot c o N)) ≡ folded f (live N)
folded-set f [] c C o s h = refl
folded-set f (p ∷ N) zero C o s h = subst (λ q. folded f (put_first o (live N)) ≡ folded f (put_first q (live N))) (sym s) (go o h)
  where
    go : (o : Option Clause) → ((X : Matrix) → at_slot f o X ≡ f C X) → folded f (put_first o (live N)) ≡ f C (folded f (live N))
    go None h = h (folded f (live N))
    go (Some D) h = h (folded f (live N))
folded-set f (None ∷ N) (suc c) C o s h = folded-set f N c C o s h
folded-set f (Some D ∷ N) (suc c) C o s h = ap (f D) (folded-set f N c C o s h)

-- The three changes are such functions.
abbrev pub drop_with : Literal → Clause → Matrix → Matrix
drop_with l D X = cond (has l D) X (D ∷ X)

without_literal-folded : (l : Literal) (X : Matrix) → without_literal l X ≡ folded (drop_with l) X
without_literal-folded l [] = refl
without_literal-folded l (D ∷ X) = ap (λ Y. cond (has l D) Y (D ∷ Y)) (without_literal-folded l X)

merged-folded : (keep gone : Literal) (X : Matrix) → merged keep gone X ≡ folded (merged_one keep gone) X
merged-folded keep gone [] = refl
merged-folded keep gone (D ∷ X) = ap (merged_one keep gone D) (merged-folded keep gone X)

-- A turn of Pure: a clause with l goes.
pub turn-pure : (l : Literal) (N : Slots) (c : ℕ) (C : Clause) → slot N c ≡ Some C → has l C ≡ true → without_literal l (live (set_slot c None N)) ≡ without_literal l (live N)
turn-pure l N c C s h = without_literal-folded l (live (set_slot c None N)) ∙ (folded-set (drop_with l) N c C None s (λ X. rw h refl) ∙ sym (without_literal-folded l (live N)))

pub has_not-without : (l : Literal) (C : Clause) → has l (without l C) ≡ false
has_not-without l C = has_none l (without l C) (λ m. let a : literal_eq l l ≡ false = without-other l C l m in let b : literal_eq l l ≡ true = Rattle.q_logic.proofs.ClauseLemmas.literal_eq-itself l in grind arith)

-- A turn of Unit: a clause loses not l, or goes.
abbrev pub assign_one : Literal → Clause → Matrix → Matrix
assign_one l D X = cond (has l D) X (without (negation l) D ∷ X)

assigned-folded : (l : Literal) (X : Matrix) → each_without (negation l) (without_literal l X) ≡ folded (assign_one l) X
assigned-folded l [] = refl
assigned-folded l (D ∷ X) = go (has l D) (assigned-folded l X)
  where
    go : (b : Bool) → each_without (negation l) (without_literal l X) ≡ folded (assign_one l) X → each_without (negation l) (cond b (without_literal l X) (D ∷ without_literal l X)) ≡ cond b (folded (assign_one l) X) (without (negation l) D ∷ folded (assign_one l) X)
    go true i = i
    go false i = ap (λ Y. without (negation l) D ∷ Y) i

pub turn-unit_gone : (l : Literal) (N : Slots) (c : ℕ) (C : Clause) → slot N c ≡ Some C → has l C ≡ true → each_without (negation l) (without_literal l (live (set_slot c None N))) ≡ each_without (negation l) (without_literal l (live N))
turn-unit_gone l N c C s h = assigned-folded l (live (set_slot c None N)) ∙ (folded-set (assign_one l) N c C None s (λ X. rw h refl) ∙ sym (assigned-folded l (live N)))

has-without : (l : Literal) (m : Literal) (C : Clause) → has l C ≡ false → has l (without m C) ≡ false
has-without l m C h = has_none l (without m C) (λ i. Rattle.q_logic.proofs.NumberedClauses.IsIn-has_not l C h (Rattle.q_logic.proofs.UniversalPivot.without-IsIn m C l i))

pub turn-unit_shorter : (l : Literal) (N : Slots) (c : ℕ) (C : Clause) → slot N c ≡ Some C → has l C ≡ false → each_without (negation l) (without_literal l (live (set_slot c (Some (without (negation l) C)) N))) ≡ each_without (negation l) (without_literal l (live N))
turn-unit_shorter l N c C s h = assigned-folded l (live (set_slot c (Some (without (negation l) C)) N)) ∙ (folded-set (assign_one l) N c C (Some (without (negation l) C)) s same ∙ sym (assigned-folded l (live N)))
  where
    same : (X : Matrix) → assign_one l (without (negation l) C) X ≡ assign_one l C X
    same X = let a : has l (without (negation l) C) ≡ false = has-without l (negation l) C h in let b : without (negation l) (without (negation l) C) ≡ without (negation l) C = without-same (negation l) (without (negation l) C) (has_not-without (negation l) C) in rw (a, h, b) refl

-- A turn of Merge: a clause is renamed, or goes where that is a tautology.
abbrev pub renamed_slot : Literal → Literal → Clause → Option Clause
renamed_slot keep gone C = cond (is_tautology (renamed keep gone C)) None (Some (renamed keep gone C))

pub no_var : (v : ℕ) (C : Clause) → ((k : Literal) → IsIn k C → eqb k.var v ≡ false) → has_variable v C ≡ false
no_var v [] h = refl
no_var v (k ∷ C) h = let a : eqb k.var v ≡ false = h k (inl refl) in let b : has_variable v C ≡ false = no_var v C (λ j m. h j (inr m)) in rw (a, b) refl

pub turn-merge : (keep gone : Literal) (N : Slots) (c : ℕ) (C : Clause) → eqb keep.var gone.var ≡ false → slot N c ≡ Some C → has_variable gone.var C ≡ true → merged keep gone (live (set_slot c (renamed_slot keep gone C) N)) ≡ merged keep gone (live N)
turn-merge keep gone N c C d s h = merged-folded keep gone (live (set_slot c (renamed_slot keep gone C) N)) ∙ (folded-set (merged_one keep gone) N c C (renamed_slot keep gone C) s same ∙ sym (merged-folded keep gone (live N)))
  where
    same : (X : Matrix) → at_slot (merged_one keep gone) (renamed_slot keep gone C) X ≡ merged_one keep gone C X
    same X = let n : has_variable gone.var (renamed keep gone C) ≡ false = no_var gone.var (renamed keep gone C) (renamed-free keep gone C d) in rw h (go (is_tautology (renamed keep gone C)) n)
      where
        go : (b : Bool) → has_variable gone.var (renamed keep gone C) ≡ false → at_slot (merged_one keep gone) (cond b None (Some (renamed keep gone C))) X ≡ cond b X (renamed keep gone C ∷ X)
        go true n = refl
        go false n = rw n refl
