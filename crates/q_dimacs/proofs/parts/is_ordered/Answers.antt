use Rattle.std.proofs.Common.{◌<◌, subst, sym, arith}
use Rattle.std.proofs.lemmas.Bool.Decides.{nat_tests}
use Rattle.q_logic.specs.Prelude.{pack}
use Rattle.q_dimacs.proofs.RisingLiterals.{IsRising, rising-more}
use Rattle.std.proofs.Common.{take, ◌+◌, ℕ}
use Rattle.q_dimacs.proofs.parts.is_ordered.Goals as goal

pub loop-i-preserved : goal.loop-i-preserved
loop-i-preserved c =
    let k : c.loop-i.last < pack c.index-lits-i.result = grind (arith, nat_tests, c.index-code.ensures, c.if-code-last.false) in
    subst (λ (n : ℕ). IsRising (take (c.loop-i.i + 1) c.args.lits.now) n) (sym c.index-code.ensures)
    (rising-more c.args.lits.now c.loop-i.i c.loop-i.last c.index-lits-i.result (sym c.index-lits-i.is) c.loop-i.invariant c.loop-i-test.true k)
