-- The text of a formula within the limits of the program keeps the limit on bytes too, so that it is read as this formula.
use Rattle.std.proofs.Common.{◌≡◌, ◌≤◌, ◌<◌, ◌+◌, ◌*◌, ◌^◌, ℕ, zero, suc, Bool, true, false, cond, eqb, List, [], ◌∷◌, ◌++◌, inl, inr, refl, sym, ap, ◌∙◌, subst, arith, length, length-append, map, ℤ, pos, negsuc, Option, Some, None}
use Rattle.std.specs.Int.Signed.{mag}
use Rattle.std.specs.Fmt.{decimal, signed_decimal}
use Rattle.std.proofs.lemmas.Fmt.{length-decimal-le, length_signed_le}
use Rattle.q_logic.specs.declared.formulas.Quant.{Quant}
use Rattle.q_logic.specs.declared.formulas.Quant.TheVariants.{Exists, Forall}
use Rattle.q_logic.specs.Prelude.{Literal, number_of, Clause, Matrix, Prefix, IsIn, PrenexFormula, blocks, is_bound, same_quant, Distinct, IsProper, literals_in, removed_from, standard, AreModerate, IsInLimits, greatest}
use Rattle.q_logic.proofs.Common.{removed-is_bound, removed-unbound, removed-distinct, is_bound-greatest, bound-range, InRange}
use Rattle.q_text.proofs.LiteralLengths.{literal-short}
use Rattle.q_text.specs.Numbers.{number_text, numbers_text, line_end}
use Rattle.q_dimacs.specs.Dimacs.{Dimacs, total}
use Rattle.q_dimacs.specs.Writing.{formula_text, header_text, blocks_text, matrix_text, clause_text, quant_text, opening, bounds_text, greatest_bound}
use Rattle.q_dimacs.proofs.UnwrittenLists.{blocks-bounds}
use Rattle.q_dimacs.proofs.RoundTrip.{written_is_read}

-- a prefix has no more variables than its greatest one says

removed-length : (v : ℕ) (P : Prefix) → length P ≤ suc (length (removed_from v P))
removed-length v [] = omega arith
removed-length v (b ∷ P) = go (eqb b.var v) (removed-length v P)
  where
    go : (t : Bool) → length P ≤ suc (length (removed_from v P)) → suc (length P) ≤ suc (length (cond t P (b ∷ removed_from v P)))
    go true h = omega arith
    go false h = omega arith

pub few-bound : (n : ℕ) (P : Prefix) → Distinct P → ((v : ℕ) → is_bound P v ≡ true → (1 ≤ v) × (v ≤ n)) → length P ≤ n
few-bound n [] d h = omega arith
few-bound zero (b ∷ P) d h =
    let r : (1 ≤ b.var) × (b.var ≤ 0) = h b.var (grind arith) in
    let i : 1 ≤ b.var = r.0 in let j : b.var ≤ 0 = r.1 in absurd (omega arith)
few-bound (suc n) (b ∷ P) d h =
    let Q : Prefix = removed_from (suc n) (b ∷ P) in
    let l : length (b ∷ P) ≤ suc (length Q) = removed-length (suc n) (b ∷ P) in
    let i : length Q ≤ n = few-bound n Q (removed-distinct (suc n) (b ∷ P) d) within in
    omega arith
  where
    within : (v : ℕ) → is_bound (removed_from (suc n) (b ∷ P)) v ≡ true → (1 ≤ v) × (v ≤ n)
    within v e = go (eqb v (suc n)) refl
      where
        go : (t : Bool) → eqb v (suc n) ≡ t → (1 ≤ v) × (v ≤ n)
        go true q =
            let s : v ≡ suc n = grind arith in
            let u : is_bound (removed_from (suc n) (b ∷ P)) (suc n) ≡ false = removed-unbound (suc n) (b ∷ P) d in
            let w : is_bound (removed_from (suc n) (b ∷ P)) (suc n) ≡ true = subst (λ (x : ℕ). is_bound (removed_from (suc n) (b ∷ P)) x ≡ true) s e in
            absurd (let c : true ≡ false = sym w ∙ u in cc)
        go false q =
            let r : (1 ≤ v) × (v ≤ suc n) = h v (sym (removed-is_bound (suc n) (b ∷ P) v q) ∙ e) in
            let i : 1 ≤ v = r.0 in let j : v ≤ suc n = r.1 in
            (i, grind arith)

-- texts

pub greatest-same : (P : Prefix) → greatest_bound P ≤ greatest P
greatest-same [] = omega arith
greatest-same (b ∷ P) = let i : greatest_bound P ≤ greatest P = greatest-same P in omega arith

pub total-same : (X : Matrix) → total X ≡ literals_in X
total-same [] = refl
total-same (C ∷ X) = ap (λ n. length C + n) (total-same X)

pub numbers-short : (C : Clause) → ((k : Literal) → IsIn k C → k.var < 2 ^ 31) → length (numbers_text (map number_of C)) ≤ 12 * length C
numbers-short [] h = omega arith
numbers-short (k ∷ C) h =
    let e : length (number_text (number_of k)) ≤ 12 = literal-short k (h k (inl refl)) in
    let i : length (numbers_text (map number_of C)) ≤ 12 * length C = numbers-short C (λ j m. h j (inr m)) in
    let a : length (number_text (number_of k) ++ numbers_text (map number_of C)) ≡ length (number_text (number_of k)) + length (numbers_text (map number_of C)) = length-append (number_text (number_of k)) (numbers_text (map number_of C)) in
    omega arith

pub matrix-short : (X : Matrix) → ((D : Clause) → IsIn D X → (k : Literal) → IsIn k D → k.var < 2 ^ 31) → length (matrix_text X) ≤ 12 * literals_in X + 2 * length X
matrix-short [] h = omega arith
matrix-short (C ∷ X) h =
    let e : length (numbers_text (map number_of C)) ≤ 12 * length C = numbers-short C (h C (inl refl)) in
    let i : length (matrix_text X) ≤ 12 * literals_in X + 2 * length X = matrix-short X (λ D m. h D (inr m)) in
    let a : length (numbers_text (map number_of C) ++ line_end) ≡ length (numbers_text (map number_of C)) + length line_end = length-append (numbers_text (map number_of C)) line_end in
    let b : length (clause_text C ++ matrix_text X) ≡ length (clause_text C) + length (matrix_text X) = length-append (clause_text C) (matrix_text X) in
    let c : length line_end ≡ 2 = refl in
    omega arith

quant-short : (q : Quant) → length (quant_text q) ≡ 2
quant-short Exists = refl
quant-short Forall = refl

pub opening-short : (o : Option Quant) (q : Quant) → length (opening o q) ≤ 4
opening-short None q = let e : length (quant_text q) ≡ 2 = quant-short q in omega arith
opening-short (Some p) q = go (same_quant p q)
  where
    go : (t : Bool) → length (cond t [] (line_end ++ quant_text q)) ≤ 4
    go true = omega arith
    go false = let e : length (quant_text q) ≡ 2 = quant-short q in omega arith

pub bounds-short : (o : Option Quant) (P : Prefix) → InRange P → length (bounds_text o P) ≤ 16 * length P + 2
bounds-short None [] h = omega arith
bounds-short (Some q) [] h = omega arith
bounds-short o (b ∷ P) h =
    let e : length (number_text (pos b.var)) ≤ 12 = literal-short (record { var = b.var; negative = false }) h.0.1 in
    let p : length (opening o b.quant) ≤ 4 = opening-short o b.quant in
    let i : length (bounds_text (Some b.quant) P) ≤ 16 * length P + 2 = bounds-short (Some b.quant) P h.1 in
    let a : length (opening o b.quant ++ number_text (pos b.var)) ≡ length (opening o b.quant) + length (number_text (pos b.var)) = length-append (opening o b.quant) (number_text (pos b.var)) in
    let c : length ((opening o b.quant ++ number_text (pos b.var)) ++ bounds_text (Some b.quant) P) ≡ length (opening o b.quant ++ number_text (pos b.var)) + length (bounds_text (Some b.quant) P) = length-append (opening o b.quant ++ number_text (pos b.var)) (bounds_text (Some b.quant) P) in
    omega arith

pub header-short : (v c : ℕ) → v < 10 ^ 10 → c < 10 ^ 10 → length (header_text v c) ≤ 28
header-short v c p q =
    let a : length (decimal v) ≤ 10 = length-decimal-le 10 v (omega arith) p (omega arith) in
    let b : length (decimal c) ≤ 10 = length-decimal-le 10 c (omega arith) q (omega arith) in
    let e : length (header_text v c) ≡ length (112 ∷ 32 ∷ 99 ∷ 110 ∷ 102 ∷ 32 ∷ decimal v) + length (32 ∷ decimal c ++ 10 ∷ []) = length-append (112 ∷ 32 ∷ 99 ∷ 110 ∷ 102 ∷ 32 ∷ decimal v) (32 ∷ decimal c ++ 10 ∷ []) in
    let f : length (32 ∷ decimal c ++ 10 ∷ []) ≡ length (32 ∷ decimal c) + 1 = length-append (32 ∷ decimal c) (10 ∷ []) in
    omega arith

pub within-is_read : (F : PrenexFormula) → IsProper F → IsInLimits standard F → Dimacs standard (formula_text F) F
within-is_read F p l =
    let m : AreModerate standard = record { vars = omega arith; clauses = omega arith; lits = omega arith; bytes = omega arith } in
    let g : greatest_bound F.prefix ≤ greatest F.prefix = greatest-same F.prefix in
    let n : length F.prefix ≤ greatest F.prefix = few-bound (greatest F.prefix) F.prefix p.formula.distinct (λ v e. ((bound-range F.prefix v p.ranges e).0, is_bound-greatest F.prefix v e)) in
    let range : (D : Clause) → IsIn D F.matrix → (k : Literal) → IsIn k D → k.var < 2 ^ 31 = λ D d k i. (bound-range F.prefix k.var p.ranges (p.formula.closed D d k i)).1 in
    let a : length (matrix_text F.matrix) ≤ 12 * literals_in F.matrix + 2 * length F.matrix = matrix-short F.matrix range in
    let b : length (bounds_text None F.prefix) ≤ 16 * length F.prefix + 2 = bounds-short None F.prefix p.ranges in
    let c : length (bounds_text None F.prefix) ≡ length (blocks_text (blocks F.prefix)) = ap (λ (xs : List ℕ). length xs) (blocks-bounds F.prefix) in
    let vars : greatest F.prefix ≤ 16777215 = l.vars in
    let clauses : length F.matrix ≤ 33554432 = l.clauses in
    let lits : literals_in F.matrix ≤ 134217728 = l.lits in
    let h : length (header_text (greatest_bound F.prefix) (length F.matrix)) ≤ 28 = header-short (greatest_bound F.prefix) (length F.matrix) (omega arith) (omega arith) in
    let d : length (blocks_text (blocks F.prefix) ++ matrix_text F.matrix) ≡ length (blocks_text (blocks F.prefix)) + length (matrix_text F.matrix) = length-append (blocks_text (blocks F.prefix)) (matrix_text F.matrix) in
    let e : length (formula_text F) ≡ length (header_text (greatest_bound F.prefix) (length F.matrix)) + length (blocks_text (blocks F.prefix) ++ matrix_text F.matrix) = length-append (header_text (greatest_bound F.prefix) (length F.matrix)) (blocks_text (blocks F.prefix) ++ matrix_text F.matrix) in
    written_is_read standard F m p (record {
      vars = omega arith;
      clauses = l.clauses;
      lits = subst (λ k. k ≤ standard.lits) (sym (total-same F.matrix)) l.lits;
      bytes = omega arith;
    })
