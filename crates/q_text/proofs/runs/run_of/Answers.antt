use Rattle.std.proofs.Common.{sym, subst, ◌+◌, ℕ, ◌≡◌, get_or, true, arith}
use Rattle.std.proofs.lemmas.Bool.Decides.{nat_tests}
use Rattle.q_text.specs.Words.{is_digit}
use Rattle.q_text.specs.Pieces.{AreDigits}
use Rattle.q_text.proofs.BytePieces.{digits-more}
use Rattle.q_text.proofs.runs.run_of.Goals as goal

pub loop-i-preserved : goal.loop-i-preserved
loop-i-preserved c =
    let d : is_digit (get_or c.args.bytes.now c.loop-i.i 0) ≡ true = grind (arith, nat_tests, c.is_ascii_digit.ensures.cases, c.if-not-is_ascii_digit.false) in
    subst (λ (m : ℕ). AreDigits c.args.bytes.now c.args.from (c.loop-i.i + 1) m) (sym c.with_digit-magnitude.ensures)
    (digits-more c.args.bytes.now c.args.from c.loop-i.i c.loop-i.magnitude c.loop-i.invariant c.loop-i-test.true d)
