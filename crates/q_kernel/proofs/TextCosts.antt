-- The text of a step is short: at most 16 bytes for each literal of its clause, and 16 more.
use Rattle.std.proofs.Common.{◌≡◌, ◌≤◌, ◌<◌, ◌+◌, ◌*◌, ◌^◌, ℕ, Bool, true, false, cond, eqb, List, [], ◌∷◌, ◌++◌, length, inl, inr, arith, refl, sym, subst, Option, Some, None, length-append}
use Rattle.std.specs.List.{AllByRecursion}
use Rattle.q_logic.specs.Prelude.{Literal, IsBelow, literal_eq, number_of, Clause, Prefix, IsIn, PrenexFormula, ArePairs, IsProper, without, is_bound, add, delete, drop_literal, fresh, remove_variable, Within, positive, in_front, IsFirst, first_of}
use Rattle.q_logic.proofs.Common.{AllByRecursion-IsIn, without-shorter}
use Rattle.q_log.specs.Texts.{step_text, literals_text}
use Rattle.q_text.specs.Numbers.{number_text, line_end}
use Rattle.q_log.proofs.StepLengths.{step_text-short, in_front-length}
use Rattle.q_log.proofs.LiteralTexts.{literal-short}
use Rattle.q_log.proofs.WritableRuns.{first-of}

-- Literals whose variables the code can hold.
abbrev pub AreSmall : List Literal → Type 0
AreSmall ls = AllByRecursion (λ l. l.var < 2 ^ 31) ls

small-member : (C : Clause) (l : Literal) → AreSmall C → IsIn l C → l.var < 2 ^ 31
small-member [] l a m = elim m [ ]
small-member (k ∷ C) l a (inl e) = subst (λ (j : Literal). j.var < 2 ^ 31) (sym e) a.0
small-member (k ∷ C) l a (inr m) = small-member C l a.1 m

small-without : (l : Literal) (C : Clause) → AreSmall C → AreSmall (without l C)
small-without l [] a = tt
small-without l (k ∷ C) a = go (literal_eq k l) (small-without l C a.1)
  where
    go : (b : Bool) → AreSmall (without l C) → AreSmall (cond b (without l C) (k ∷ without l C))
    go true i = i
    go false i = (a.0, i)

small-front : (p : Option Literal) (C : Clause) → IsFirst p C → AreSmall C → AreSmall (in_front p C)
small-front None C f a = a
small-front (Some l) C f a = (small-member C l a f, small-without l C a)

length-front : (p : Option Literal) (C : Clause) → ArePairs IsBelow C → IsFirst p C → length (in_front p C) ≡ length C
length-front None C o f = refl
length-front (Some l) C o f = in_front-length l C o f

at-length : (t n k : ℕ) → n ≡ k → t ≤ 16 * (n + 1) → t ≤ 16 * (k + 1)
at-length t n k e h = omega arith

pub cost-add : (p : Option Literal) (C : Clause) → ArePairs IsBelow C → IsFirst p C → AreSmall C → length (step_text (add p C)) ≤ 16 * (length C + 1)
cost-add p C o f a = at-length (length (step_text (add p C))) (length (in_front p C)) (length C) (length-front p C o f) (step_text-short (add p C) (small-front p C f a))

pub cost-delete : (p : Option Literal) (C : Clause) → ArePairs IsBelow C → IsFirst p C → AreSmall C → length (step_text (delete p C)) ≤ 16 * (length C + 1)
cost-delete p C o f a = at-length (length (step_text (delete p C))) (length (in_front p C)) (length C) (length-front p C o f) (step_text-short (delete p C) (small-front p C f a))

pub cost-drop : (l : Literal) (C : Clause) → ArePairs IsBelow C → IsIn l C → AreSmall C → length (step_text (drop_literal l C)) ≤ 16 * (length C + 1)
cost-drop l C o m a = at-length (length (step_text (drop_literal l C))) (length (l ∷ without l C)) (length C) (in_front-length l C o m) (step_text-short (drop_literal l C) (small-member C l a m, small-without l C a))

-- The same for the addition of the shorter clause and the deletion of the longer one.
pub cost-shrink : (l : Literal) (C : Clause) → ArePairs IsBelow C → ArePairs IsBelow (without l C) → AreSmall C
    → length (step_text (add (first_of (without l C)) (without l C))) + length (step_text (delete (first_of C) C)) ≤ 32 * (length C + 1)
cost-shrink l C o p a = both (length (step_text (add (first_of (without l C)) (without l C)))) (length (step_text (delete (first_of C) C))) (length (without l C)) (length C)
    (cost-add (first_of (without l C)) (without l C) p (first-of (without l C)) (small-without l C a))
    (cost-delete (first_of C) C o (first-of C) a) (without-shorter l C)
  where
    both : (s t m n : ℕ) → s ≤ 16 * (m + 1) → t ≤ 16 * (n + 1) → m ≤ n → s + t ≤ 32 * (n + 1)
    both s t m n x y z = omega arith

pub cost-fresh : (v w : ℕ) → v < 2 ^ 31 → w < 2 ^ 31 → length (step_text (fresh v w)) ≤ 32
cost-fresh v w a b =
    let x : length (number_text (number_of (positive v))) ≤ 12 = literal-short (positive v) a in
    let y : length (number_text (number_of (positive w))) ≤ 12 = literal-short (positive w) b in
    let e : length (literals_text (positive v ∷ positive w ∷ [])) ≡ length (number_text (number_of (positive v))) + length (literals_text (positive w ∷ [])) = length-append (number_text (number_of (positive v))) (literals_text (positive w ∷ [])) in
    let f : length (literals_text (positive w ∷ [])) ≡ length (number_text (number_of (positive w))) + 0 = length-append (number_text (number_of (positive w))) [] in
    let g : length (literals_text (positive v ∷ positive w ∷ []) ++ line_end) ≡ length (literals_text (positive v ∷ positive w ∷ [])) + 2 = length-append (literals_text (positive v ∷ positive w ∷ [])) line_end in
    let h : length (step_text (fresh v w)) ≡ 2 + length (literals_text (positive v ∷ positive w ∷ []) ++ line_end) = length-append (101 ∷ 32 ∷ []) (literals_text (positive v ∷ positive w ∷ []) ++ line_end) in
    omega arith

pub cost-remove : (v : ℕ) → v < 2 ^ 31 → length (step_text (remove_variable v)) ≤ 16
cost-remove v a =
    let x : length (number_text (number_of (positive v))) ≤ 12 = literal-short (positive v) a in
    let f : length (literals_text (positive v ∷ [])) ≡ length (number_text (number_of (positive v))) + 0 = length-append (number_text (number_of (positive v))) [] in
    let g : length (literals_text (positive v ∷ []) ++ line_end) ≡ length (literals_text (positive v ∷ [])) + 2 = length-append (literals_text (positive v ∷ [])) line_end in
    let h : length (step_text (remove_variable v)) ≡ 2 + length (literals_text (positive v ∷ []) ++ line_end) = length-append (114 ∷ 32 ∷ []) (literals_text (positive v ∷ []) ++ line_end) in
    omega arith

-- The clauses of a proper formula have such literals.
in-range : (P : Prefix) (v : ℕ) → AllByRecursion (λ q. (1 ≤ q.var) × (q.var < 2 ^ 31)) P → is_bound P v ≡ true → (1 ≤ v) × (v < 2 ^ 31)
in-range [] v r e = grind arith
in-range (b ∷ P) v r e = go (eqb b.var v) refl e (in-range P v r.1)
  where
    go : (t : Bool) → eqb b.var v ≡ t → cond t true (is_bound P v) ≡ true → (is_bound P v ≡ true → (1 ≤ v) × (v < 2 ^ 31)) → (1 ≤ v) × (v < 2 ^ 31)
    go true q e ih = let i : b.var ≡ v = grind arith in subst (λ (n : ℕ). (1 ≤ n) × (n < 2 ^ 31)) i r.0
    go false q e ih = ih e

pub proper-var : (F : PrenexFormula) (v : ℕ) → IsProper F → is_bound F.prefix v ≡ true → (1 ≤ v) × (v < 2 ^ 31)
proper-var F v p h = in-range F.prefix v p.ranges h

pub within-small : (F : PrenexFormula) (C : Clause) → IsProper F → Within F.prefix C → AreSmall C
within-small F [] p w = tt
within-small F (k ∷ C) p w = ((proper-var F k.var p (w k (inl refl))).1, within-small F C p (λ j m. w j (inr m)))

pub proper-small : (F : PrenexFormula) (C : Clause) → IsProper F → IsIn C F.matrix → AreSmall C
proper-small F C p m = within-small F C p (λ k i. p.formula.closed C m k i)

pub proper-in_order : (F : PrenexFormula) (C : Clause) → IsProper F → IsIn C F.matrix → ArePairs IsBelow C
proper-in_order F C p m = AllByRecursion-IsIn (ArePairs IsBelow) F.matrix C p.ordered m
