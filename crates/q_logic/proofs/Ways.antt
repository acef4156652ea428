-- Runs that add at most three times the limits, and how much a formula within the limits weighs.
use Rattle.std.proofs.Common.{◌≡◌, ◌≤◌, ℕ, ◌+◌, ◌*◌, ◌++◌, sym, subst, arith, length}
use Rattle.q_logic.specs.Prelude.{Matrix, Prefix, PrenexFormula, literals_in, standard, IsInLimits, formula_of}
use Rattle.q_logic.proofs.Heights.{weight, one, Way, modest-more, weight-one, weight-length}
use Rattle.q_logic.proofs.ExpandSize.{weight-append}

abbrev pub ShortWay : PrenexFormula → PrenexFormula → Type 0
ShortWay F G = Way (3 * standard.clauses) (3 * standard.lits) F G

pub at-most : (a b : ℕ) (F G : PrenexFormula) → a ≤ 3 * 33554432 → b ≤ 3 * 134217728 → Way a b F G → ShortWay F G
at-most a b F G i j (ss, r, m) = (ss, r, modest-more a b (3 * standard.clauses) (3 * standard.lits) ss i j m)

pub clauses-weight : (P : Prefix) (X : Matrix) → IsInLimits standard (formula_of P X) → weight one X ≤ 33554432
clauses-weight P X l = subst (λ n. n ≤ 33554432) (sym (weight-one X)) l.clauses

pub lits-weight : (P : Prefix) (X : Matrix) → IsInLimits standard (formula_of P X) → weight length X ≤ 134217728
lits-weight P X l = subst (λ n. n ≤ 134217728) (sym (weight-length X)) l.lits

-- a few clauses and literals beside them
pub few-clauses : (a x : ℕ) → a ≤ 2 → x ≤ 33554432 → a + (x + 0) ≤ 3 * 33554432
few-clauses a x s i = omega arith

pub few-lits : (a x : ℕ) → a ≤ 100000000 → x ≤ 134217728 → a + x ≤ 3 * 134217728
few-lits a x s i = omega arith

-- the clauses r that come beside k
pub new-clauses : (r k : Matrix) → length (k ++ r) ≤ 33554432 → weight one r + (0 + 0) ≤ 3 * 33554432
new-clauses r k i = last (weight one (k ++ r)) (weight one k) (weight one r) (weight-append one k r) (subst (λ n. n ≤ 33554432) (sym (weight-one (k ++ r))) i)
  where
    last : (x y z : ℕ) → x ≡ y + z → x ≤ 33554432 → z + (0 + 0) ≤ 3 * 33554432
    last x y z e i = omega arith

pub new-lits : (r k : Matrix) → literals_in (k ++ r) ≤ 134217728 → weight length r + (0 + 0) ≤ 3 * 134217728
new-lits r k i = last (weight length (k ++ r)) (weight length k) (weight length r) (weight-append length k r) (subst (λ n. n ≤ 134217728) (sym (weight-length (k ++ r))) i)
  where
    last : (x y z : ℕ) → x ≡ y + z → x ≤ 134217728 → z + (0 + 0) ≤ 3 * 134217728
    last x y z e i = omega arith
