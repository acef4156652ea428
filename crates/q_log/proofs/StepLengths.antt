-- The text of a step is short: at most 16 bytes for each literal, and 16 more.
use Rattle.std.proofs.Common.{◌≡◌, suc, ◌+◌, ◌*◌, ◌^◌, ◌<◌, ◌≤◌, Bool, true, false, cond, List, [], ◌∷◌, ◌++◌, length, refl, sym, ap, subst, arith, inl, inr, length-append}
use Rattle.std.specs.List.{AllByRecursion}
use Rattle.q_logic.specs.declared.steps.Kind.{Kind}
use Rattle.q_logic.specs.declared.steps.Kind.TheVariants.{Add, Delete, Drop, Fresh, Remove}
use Rattle.q_logic.specs.Prelude.{Literal, literal_eq, number_of, IsBelow, Clause, IsIn, ArePairs, without, ProofStep, kind_of, literals_of}
use Rattle.q_logic.proofs.Common.{literal_eq-sound, literal_eq-itself, not_itself_below}
use Rattle.q_text.specs.Numbers.{number_text, line_end}
use Rattle.q_log.specs.Texts.{letter_text, literals_text, step_text}
use Rattle.q_text.proofs.LiteralLengths.{literal-short}

-- the text of a step is short
literals-short : (ls : List Literal) → AllByRecursion (λ l. l.var < 2 ^ 31) ls → length (literals_text ls) ≤ 12 * length ls
literals-short [] a = omega arith
literals-short (l ∷ ls) (h, hs) =
    let e = literal-short l h in
    let f = literals-short ls hs in
    rw (length-append (number_text (number_of l)) (literals_text ls)) (omega arith)

letter-short : (k : Kind) → length (letter_text k) ≤ 2
letter-short Add = omega arith
letter-short Delete = omega arith
letter-short Drop = omega arith
letter-short Fresh = omega arith
letter-short Remove = omega arith

pub step_text-short : (s : ProofStep) → AllByRecursion (λ l. l.var < 2 ^ 31) (literals_of s) → length (step_text s) ≤ 16 * (length (literals_of s) + 1)
step_text-short s a =
    let k = letter-short (kind_of s) in
    let e = literals-short (literals_of s) a in
    let f = length-append (letter_text (kind_of s)) (literals_text (literals_of s) ++ line_end) in
    let g = length-append (literals_text (literals_of s)) line_end in
    let h : length line_end ≡ 2 = refl in
    omega arith

-- a clause with one of its literals in front is as long as the clause
without-none : (l : Literal) (C : Clause) → AllByRecursion (IsBelow l) C → length (without l C) ≡ length C
without-none l [] a = refl
without-none l (k ∷ C) (a, as_) = go (literal_eq k l) refl (without-none l C as_)
  where
    go : (b : Bool) → literal_eq k l ≡ b → length (without l C) ≡ length C → length (cond b (without l C) (k ∷ without l C)) ≡ suc (length C)
    go true e ih = absurd (not_itself_below l k (sym (literal_eq-sound k l e)) a)
    go false e ih = ap suc ih

pub in_front-length : (l : Literal) (C : Clause) → ArePairs IsBelow C → IsIn l C → length (l ∷ without l C) ≡ length C
in_front-length l [] o h = elim h [ ]
in_front-length l (k ∷ C) (a, o) h = go (literal_eq k l) refl h (λ i. in_front-length l C o i)
  where
    different : literal_eq k l ≡ false → l ≡ k → ⊥
    different e i = let t : literal_eq k l ≡ true = subst (λ (j : Literal). literal_eq j l ≡ true) i (literal_eq-itself l) in cc

    go : (b : Bool) → literal_eq k l ≡ b → IsIn l (k ∷ C) → (IsIn l C → suc (length (without l C)) ≡ length C) →
        suc (length (cond b (without l C) (k ∷ without l C))) ≡ suc (length C)
    go true e i ih = ap suc (without-none l C (subst (λ (j : Literal). AllByRecursion (IsBelow j) C) (literal_eq-sound k l e) a))
    go false e (inl i) ih = absurd (different e i)
    go false e (inr i) ih = ap suc (ih i)
