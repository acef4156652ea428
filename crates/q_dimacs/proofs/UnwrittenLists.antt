-- What is left to write of a list behind a place of it, and the blocks of a prefix.
use Rattle.std.proofs.Common.{◌≡◌, ℕ, zero, suc, ◌+◌, ◌<◌, ◌≤◌, List, [], ◌∷◌, ◌++◌, map, length, drop, slice_get, get_or, Option, Some, None, Result, Ok, Err, OnErr, refl, ap, sym, ◌∙◌, add-one, append_assoc, append-nil, not-suc-le-zero, le_of_suc-le-suc, pos, arith, length-append}
use Rattle.q_logic.specs.declared.formulas.Bound.{Bound}
use Rattle.q_logic.specs.declared.formulas.Quant.{Quant}
use Rattle.q_logic.specs.declared.formulas.Quant.TheVariants.{Exists, Forall}
use Rattle.q_logic.specs.Prelude.{Literal, number_of, Clause, Matrix, Prefix, Block, blocks, push_block}
use Rattle.q_text.specs.Numbers.{number_text, numbers_text, line_end}
use Rattle.q_dimacs.specs.Writing.{quant_text, blocks_text, clause_text, matrix_text, bound_text, closing, bounds_text}

-- what is written next fits where all that is left fits
pub next-fits : (a r b w x y : List ℕ) → a ++ r ≡ b ++ w → r ≡ x ++ y → length a + length x ≤ length b + length w
next-fits a r b w x y e f =
    let l = ap length e in
    let m = ap length f in
    omega (arith, length-append a r, length-append b w, length-append x y)

pub bounds-done : (P : Prefix) (o : Option Quant) (i : ℕ) → length P ≤ i → bounds_text o (drop i P) ≡ closing o
bounds-done [] o zero l = refl
bounds-done [] o (suc i) l = refl
bounds-done (b ∷ P) o zero l = absurd (not-suc-le-zero l)
bounds-done (b ∷ P) o (suc i) l = bounds-done P o i (le_of_suc-le-suc l)

bounds-at : (P : Prefix) (o : Option Quant) (i : ℕ) (d : Bound) → i < length P → bounds_text o (drop i P) ≡ bound_text o (get_or P i d) ++ bounds_text (Some (get_or P i d).quant) (drop (suc i) P)
bounds-at [] o i d h = absurd (not-suc-le-zero h)
bounds-at (b ∷ P) o zero d h = refl
bounds-at (b ∷ P) o (suc i) d h = bounds-at P o i d (le_of_suc-le-suc h)

pub bounds-next : (P : Prefix) (o : Option Quant) (i : ℕ) (d : Bound) → i < length P → bounds_text o (drop i P) ≡ bound_text o (get_or P i d) ++ bounds_text (Some (get_or P i d).quant) (drop (i + 1) P)
bounds-next P o i d h = rw add-one (bounds-at P o i d h)

literal-at : (C : Clause) (i : ℕ) (d : Literal) → i < length C →
    numbers_text (map number_of (drop i C)) ≡ number_text (number_of (get_or C i d)) ++ numbers_text (map number_of (drop (suc i) C))
literal-at [] i d h = absurd (not-suc-le-zero h)
literal-at (l ∷ C) zero d h = refl
literal-at (l ∷ C) (suc i) d h = literal-at C i d (le_of_suc-le-suc h)

pub literal-next : (C : Clause) (i : ℕ) (d : Literal) → i < length C →
    numbers_text (map number_of (drop i C)) ≡ number_text (number_of (get_or C i d)) ++ numbers_text (map number_of (drop (i + 1) C))
literal-next C i d h = rw add-one (literal-at C i d h)

matrix-at : (X : Matrix) (i : ℕ) (C : Clause) → slice_get X i ≡ Some C → matrix_text (drop i X) ≡ clause_text C ++ matrix_text (drop (suc i) X)
matrix-at [] i C e = absurd (cc)
matrix-at (D ∷ X) zero C e = let f : D ≡ C = cc in ap (λ B. clause_text B ++ matrix_text X) f
matrix-at (D ∷ X) (suc i) C e = matrix-at X i C e

pub matrix-next : (X : Matrix) (i : ℕ) (C : Clause) → slice_get X i ≡ Some C → matrix_text (drop i X) ≡ clause_text C ++ matrix_text (drop (i + 1) X)
matrix-next X i C e = rw add-one (matrix-at X i C e)

-- a prefix begins a block, whose text goes on as the bounds do
record Begins (b : Bound) (P : Prefix) (Bs : List Block) : Type 0 where
  vars : List ℕ
  later : List Block
  is : Bs ≡ record { quant = b.quant; vars = vars } ∷ later
  text : (numbers_text (map pos vars) ++ line_end) ++ blocks_text later ≡ number_text (pos b.var) ++ bounds_text (Some b.quant) P

one-more : (a b c : List ℕ) → ((a ++ b) ++ line_end) ++ c ≡ a ++ ((b ++ line_end) ++ c)
one-more a b c = ap (λ x. x ++ c) (append_assoc a b line_end) ∙ append_assoc a (b ++ line_end) c

alone : (a c : List ℕ) → ((a ++ []) ++ line_end) ++ c ≡ a ++ (line_end ++ c)
alone a c = ap (λ x. (x ++ line_end) ++ c) (append-nil a) ∙ append_assoc a line_end c

begins : (q : Quant) (v : ℕ) (P : Prefix) → Begins (record { quant = q; var = v }) P (blocks (record { quant = q; var = v } ∷ P))
begins q v [] = record { vars = v ∷ []; later = []; is = refl; text = alone (number_text (pos v)) [] }
begins q v (c ∷ P) = go q c.quant (begins c.quant c.var P) where
  go : (q p : Quant) → Begins (record { quant = p; var = c.var }) P (blocks (record { quant = p; var = c.var } ∷ P))
      → Begins (record { quant = q; var = v }) (record { quant = p; var = c.var } ∷ P) (blocks (record { quant = q; var = v } ∷ record { quant = p; var = c.var } ∷ P))
  go Exists Exists o = record {
    vars = v ∷ o.vars;
    later = o.later;
    is = ap (push_block (record { quant = Exists; var = v })) o.is;
    text = one-more (number_text (pos v)) (numbers_text (map pos o.vars)) (blocks_text o.later) ∙ ap (λ x. number_text (pos v) ++ x) o.text;
  }
  go Forall Forall o = record {
    vars = v ∷ o.vars;
    later = o.later;
    is = ap (push_block (record { quant = Forall; var = v })) o.is;
    text = one-more (number_text (pos v)) (numbers_text (map pos o.vars)) (blocks_text o.later) ∙ ap (λ x. number_text (pos v) ++ x) o.text;
  }
  go Exists Forall o = record {
    vars = v ∷ [];
    later = record { quant = Forall; vars = o.vars } ∷ o.later;
    is = ap (push_block (record { quant = Exists; var = v })) o.is;
    text = alone (number_text (pos v)) (blocks_text (record { quant = Forall; vars = o.vars } ∷ o.later)) ∙ ap (λ x. number_text (pos v) ++ 48 ∷ 10 ∷ 97 ∷ 32 ∷ x) o.text;
  }
  go Forall Exists o = record {
    vars = v ∷ [];
    later = record { quant = Exists; vars = o.vars } ∷ o.later;
    is = ap (push_block (record { quant = Forall; var = v })) o.is;
    text = alone (number_text (pos v)) (blocks_text (record { quant = Exists; vars = o.vars } ∷ o.later)) ∙ ap (λ x. number_text (pos v) ++ 48 ∷ 10 ∷ 101 ∷ 32 ∷ x) o.text;
  }

pub blocks-bounds : (P : Prefix) → bounds_text None P ≡ blocks_text (blocks P)
blocks-bounds [] = refl
blocks-bounds (b ∷ P) =
    let o = begins b.quant b.var P in
    let t = append_assoc (quant_text b.quant) (numbers_text (map pos o.vars) ++ line_end) (blocks_text o.later) ∙ ap (λ x. quant_text b.quant ++ x) o.text in
    append_assoc (quant_text b.quant) (number_text (pos b.var)) (bounds_text (Some b.quant) P) ∙ (sym t ∙ sym (ap blocks_text o.is))
