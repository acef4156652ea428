use Rattle.std.proofs.Common.{◌≤◌, arith, length}
use Rattle.q_judge.proofs.StartFormula.{numbered-more, literals-more, counted-start}
use Rattle.q_judge.proofs.ledger.Ledger.start.Goals as goal

pub loop-at-preserved : goal.loop-at-preserved
loop-at-preserved c =
    let M = c.args.formula.now.matrix in
    let C = c.clause-clause.result.now in
    let e = c.clause-clause.ensures.value in (
      numbered-more M c.loop-at.at C c.loop-at.store c.add.new.self c.in_ok-add.field-0 e c.loop-at.invariant.0 c.in_ok-add.ensures.ok,
      (let l = literals-more M c.loop-at.at C e in omega (arith, l, c.in_ok-lits.ensures, c.loop-at.invariant.1)),
    )

pub invariant_of-result : goal.invariant_of-result
invariant_of-result c =
    let F = c.args.formula.now in
    let n : length F.matrix ≤ c.loop-at.at = omega (arith, c.loop-at-test.false, c.clauses-at-end.ensures.value) in (
      counted-start F c.in_ok-scope.scope c.prefix.result.now c.loop-at.store c.clauses-2.result c.loop-at.lits c.loop-at.at c.prefix.ensures.proper.formula c.in_ok-scope.ensures c.prefix.ensures.value c.clauses-2.ensures.value n c.loop-at.invariant.0 c.loop-at.invariant.1,
      rw c.new-2.ensures (λ R m. absurd m),
      rw c.new-3.ensures (λ R m. absurd m),
    )
