use Rattle.std.proofs.Common.{◌≡◌, ◌≤◌, ℕ, IsTrue, nat_eq, inl, inr, arith}
use Rattle.std.proofs.lemmas.Bool.Decides.{nat_tests}
use Rattle.std.proofs.lemmas.Bool.{cases_eq}
use Rattle.q_logic.specs.Prelude.{Literal, negation, OccursIn, live}
use Rattle.q_logic.proofs.Common.{live-slot}
use Rattle.q_kernel.specs.Prelude.{Seen, slots, HoldsLiteral}
use Rattle.q_reduce.proofs.pure.fits_pure.Goals as goal

occurs : (k : Seen) (l : Literal) → ((c : ℕ) × HoldsLiteral k c l) → OccursIn l (live (slots k))
occurs k l (c, (C, e, m)) = (C, live-slot (slots k) c C e, m)

is_zero : (n : ℕ) → IsTrue (nat_eq n 0) → n ≡ 0
is_zero n t = grind (arith, nat_tests)

zero_is : (n : ℕ) → n ≡ 0 → IsTrue (nat_eq n 0)
zero_is n e = grind (arith, nat_tests)

pub returns-then-count-gt0 : goal.returns-then-count-gt0
returns-then-count-gt0 c =
    let k = c.args.kernel.now in
    let n = c.count-then-count-gt0.result in
    let some = rw c.negated.ensures at c.count-then-count-gt0.ensures.some in
    let none = rw c.negated.ensures at c.count-then-count-gt0.ensures.none in
    let here = occurs k c.args.l (c.count.ensures.some c.if-count-gt0.true) in (
      λ t. (
        c.sound.ensures.proper.formula.closed here.0 here.1 c.args.l here.2,
        here,
        λ (D, m, i). none (is_zero n t) D m i,
      ),
      λ h. elim (cases_eq n 0) [
        | inl e ↦ zero_is n e
        | inr d ↦ absurd (h.2 (occurs k (negation c.args.l) (some (let z : 1 ≤ n = omega arith in z))))
      ],
    )
