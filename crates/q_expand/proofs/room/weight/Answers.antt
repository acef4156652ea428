use Rattle.std.proofs.Common.{◌≡◌, ◌+◌, drop, arith}
use Rattle.q_kernel.proofs.Basics.{get-has}
use Rattle.q_kernel.specs.Prelude.{slots}
use Rattle.q_expand.specs.Dependents.{tally}
use Rattle.q_expand.proofs.ExpansionBounds.{long}
use Rattle.q_expand.proofs.Budgets.{weight-size}
use Rattle.q_expand.proofs.ClauseWeights.{tally-most}
use Rattle.q_expand.proofs.ExpansionRequirements.{weighed-more}
use Rattle.q_expand.proofs.room.weight.Goals as goal

pub lits-requires : goal.lits-requires
lits-requires c = let p = c.requires.dependents.connected c.clause.result (get-has c.args.dependents.now.met c.loop-i.i c.clause.result c.clause.ensures) in (p.0, p.1)

pub overflow_add-sum-in-loop-i : goal.overflow_add-sum-in-loop-i
overflow_add-sum-in-loop-i c =
    let N = slots c.args.kernel.now in
    let a = weighed-more long N c.args.dependents.now.met c.loop-i.i c.clause.result c.lits.result.now c.clause.ensures c.lits.ensures.clause in
    let b = tally-most long c.args.dependents.now.met N c.requires.dependents.apart in
    let d = Rattle.q_expand.proofs.Budgets.weight-size (Rattle.q_logic.specs.Numbered.live N) in
    let e = c.sound.ensures.size in
    let f : c.loop-i.sum + tally long N (drop c.loop-i.i c.args.dependents.now.met) ≡ tally long N c.args.dependents.now.met = c.loop-i.invariant in
    omega arith

pub loop-i-preserved : goal.loop-i-preserved
loop-i-preserved c =
    let N = slots c.args.kernel.now in
    let a = weighed-more long N c.args.dependents.now.met c.loop-i.i c.clause.result c.lits.result.now c.clause.ensures c.lits.ensures.clause in
    let f : c.loop-i.sum + tally long N (drop c.loop-i.i c.args.dependents.now.met) ≡ tally long N c.args.dependents.now.met = c.loop-i.invariant in
    omega arith
