use Rattle.std.proofs.Common.{◌≡◌, ◌≤◌, ◌+◌, ℕ, sym, subst, length, arith}
use Rattle.q_logic.specs.Prelude.{greatest, size_of, literals_in, live, IsSwept}
use Rattle.q_logic.proofs.Common.{sweep-twice}
use Rattle.q_kernel.specs.Prelude.{slots, formula_in}
use Rattle.q_kernel.proofs.SlotLists.{size-parts}
use Rattle.q_tests.proofs.taking.make_ready.Goals as goal

pub returns : goal.returns
returns c =
    let k = c.sweep.new.self in
    let v : greatest k.prefix ≤ 1000 = omega (arith, c.greatest_var.ensures, c.if-greatest_var-gt1000.false) in
    let n : length (live (slots k)) ≤ 1000 = omega (arith, c.clauses.ensures, c.if-clauses-gt1000.false) in
    let s : size_of (live (slots k)) ≤ 10000 = omega (arith, c.size.ensures, c.if-size-gt10000.false) in
    let parts : size_of (live (slots k)) ≡ literals_in (live (slots k)) + length (live (slots k)) = size-parts (live (slots k)) in
    record {
      swept = subst IsSwept (sym c.in_ok-sweep.ensures.formula) (sweep-twice (formula_in c.args.kernel.now));
      limits = record { vars = far (greatest k.prefix) v; clauses = many (length (live (slots k))) n; lits = most (literals_in (live (slots k))) (length (live (slots k))) (size_of (live (slots k))) s parts };
    }
  where
    far : (x : ℕ) → x ≤ 1000 → x ≤ 16777215
    far x h = omega arith

    many : (x : ℕ) → x ≤ 1000 → x ≤ 33554432
    many x h = omega arith

    most : (l n s : ℕ) → s ≤ 10000 → s ≡ l + n → l ≤ 134217728
    most l n s h e = omega arith
