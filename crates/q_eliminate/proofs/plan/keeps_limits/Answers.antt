use Rattle.std.proofs.Common.{◌≡◌, ◌≤◌, ◌+◌, ◌-◌, ℕ, IsTrue, nat_le, length, ap, arith}
use Rattle.std.proofs.lemmas.Bool.Decides.{nat_tests}
use Rattle.q_logic.specs.declared.limits.Limits.{Limits}
use Rattle.q_logic.specs.Prelude.{live, size_of, literals_in}
use Rattle.q_kernel.specs.Prelude.{slots}
use Rattle.q_kernel.proofs.SlotLists.{size-parts}
use Rattle.q_eliminate.proofs.plan.keeps_limits.Goals as goal

at_most : (a b : ℕ) → IsTrue (nat_le a b) → a ≤ b
at_most a b t = grind (arith, nat_tests)

is_at_most : (a b : ℕ) → a ≤ b → IsTrue (nat_le a b)
is_at_most a b t = grind (arith, nat_tests)

pub overflow_sub-lits : goal.overflow_sub-lits
overflow_sub-lits c =
    let s = size-parts (live (slots c.args.kernel.now)) in
    let a = c.clauses-clauses.ensures in let b = c.size.ensures in omega arith

pub overflow_add-clauses : goal.overflow_add-clauses
overflow_add-clauses c =
    let s = size-parts (live (slots c.args.kernel.now)) in
    let a = c.clauses-clauses.ensures in let t = c.sound.ensures.size in let g = c.requires.gain in omega arith

pub returns-then-clauses-gain : goal.returns-then-clauses-gain
returns-then-clauses-gain c =
    let s = size-parts (live (slots c.args.kernel.now)) in
    let a = c.clauses-clauses.ensures in
    let b = c.size.ensures in
    let u : c.standard-limits.result.clauses ≡ 33554432 = ap (λ (m : Limits). m.clauses) c.standard-limits.ensures in
    let v : c.standard-limits.result.lits ≡ 134217728 = ap (λ (m : Limits). m.lits) c.standard-limits.ensures in
    let h = c.if-clauses-gain.true in
    let X = live (slots c.args.kernel.now) in (
      (λ t. both (length X) (literals_in X) (size_of X) c.clauses-clauses.result c.size.result c.args.gain.clauses c.args.gain.lits c.args.count c.args.size c.standard-limits.result.clauses c.standard-limits.result.lits s a b u v h
          (at_most (c.size.result - c.clauses-clauses.result + c.args.gain.lits + c.args.count) (c.standard-limits.result.lits + c.args.size) t)),
      (λ t. is_at_most (c.size.result - c.clauses-clauses.result + c.args.gain.lits + c.args.count) (c.standard-limits.result.lits + c.args.size)
          (back (length X) (literals_in X) (size_of X) c.clauses-clauses.result c.size.result c.args.gain.lits c.args.count c.args.size c.standard-limits.result.lits s a b v t.1)),
    )
  where
    both : (n l z n' z' g h k w p q : ℕ) → z ≡ l + n → n' ≡ n → z' ≡ z → p ≡ 33554432 → q ≡ 134217728 → n' + g ≤ p + k → z' - n' + h + k ≤ q + w → (n + g ≤ 33554432 + k) × (l + h + k ≤ 134217728 + w)
    both n l z n' z' g h k w p q a b c d e f i = (omega arith, omega arith)

    back : (n l z n' z' h k w q : ℕ) → z ≡ l + n → n' ≡ n → z' ≡ z → q ≡ 134217728 → l + h + k ≤ 134217728 + w → z' - n' + h + k ≤ q + w
    back n l z n' z' h k w q a b c e i = omega arith
