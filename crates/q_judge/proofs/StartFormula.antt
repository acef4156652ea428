-- A formula whose clauses are put into slots one after the other.
use Rattle.std.proofs.Common.{◌≡◌, ◌≤◌, ◌+◌, ◌∙◌, ℕ, zero, suc, Some, None, sym, ap, refl, subst, arith, length, take, [], ◌∷◌, ◌++◌, add-one, slice_get, inl, inr}
use Rattle.q_logic.specs.Prelude.{PrenexFormula, Prefix, Matrix, Clause, Slots, numbered, IsFormula, literals_in}
use Rattle.q_logic.proofs.Common.{taken-all}
use Rattle.q_prop.specs.Slots.{filled, IsPut}
use Rattle.q_prop.proofs.SlotLemmas.{take-slice_get}
use Rattle.q_judge.specs.Tried.{IsCounted}
use Rattle.q_judge.proofs.TriedSteps.{of}

literals-append : (X : Matrix) (C : Clause) → literals_in (X ++ C ∷ []) ≡ literals_in X + length C
literals-append [] C = omega arith
literals-append (D ∷ X) C = let i : literals_in (X ++ C ∷ []) ≡ literals_in X + length C = literals-append X C in omega arith

pub literals-more : (M : Matrix) (i : ℕ) (C : Clause) → slice_get M i ≡ Some C → literals_in (take (i + 1) M) ≡ literals_in (take i M) + length C
literals-more M i C e = rw (add-one, take-slice_get M i C e) (literals-append (take i M) C)

numbered-append : (X : Matrix) (C : Clause) → numbered (X ++ C ∷ []) ≡ numbered X ++ Some C ∷ []
numbered-append [] C = refl
numbered-append (D ∷ X) C = ap (λ (N : Slots). Some D ∷ N) (numbered-append X C)

none-empty : (X : Matrix) (n : ℕ) → slice_get (numbered X) n ≡ Some None → ⊥
none-empty [] n e = cc
none-empty (C ∷ X) zero e = cc
none-empty (C ∷ X) (suc n) e = none-empty X n e

-- no slot is empty, so a clause that is put comes to the end
numbered-put : (X : Matrix) (n : ℕ) (C : Clause) (t : Slots) → IsPut (numbered X) n C t → t ≡ numbered (X ++ C ∷ [])
numbered-put X n C t (inl p) = p.1 ∙ sym (numbered-append X C)
numbered-put X n C t (inr p) = absurd (none-empty X n p.0)

pub numbered-more : (M : Matrix) (i : ℕ) (C : Clause) (s t : Slots) (n : ℕ) → slice_get M i ≡ Some C → s ≡ numbered (take i M) → IsPut s n C t → t ≡ numbered (take (i + 1) M)
numbered-more M i C s t n e h p =
    rw (add-one, take-slice_get M i C e) (numbered-put (take i M) n C t (subst (λ (r : Slots). IsPut r n C t) h p))

pub filled-numbered : (X : Matrix) → filled (numbered X) ≡ X
filled-numbered [] = refl
filled-numbered (C ∷ X) = ap (λ (Y : Matrix). C ∷ Y) (filled-numbered X)

pub counted-start : (F : PrenexFormula) (P Q : Prefix) (s : Slots) (n lits i : ℕ) → IsFormula F → P ≡ Q → Q ≡ F.prefix → n ≡ length F.matrix → length F.matrix ≤ i → s ≡ numbered (take i F.matrix) → lits ≡ literals_in (take i F.matrix) → IsCounted (of P (filled s)) n lits
counted-start F P Q s n lits i f e g l h k o =
    let all : take i F.matrix ≡ F.matrix = taken-all F.matrix i h in
    let whole : filled s ≡ F.matrix = ap filled (k ∙ ap numbered all) ∙ filled-numbered F.matrix in
    rw (e ∙ g, whole) (record { formula = f; clauses_are = l; lits_are = o ∙ ap literals_in all })
