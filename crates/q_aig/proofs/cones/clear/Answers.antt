use Rattle.std.proofs.Common.{◌≡◌, arith, subst}
use Rattle.q_aig.specs.Walking.{AreLeft}
use Rattle.q_aig.proofs.ConeSearch.{left-more, left-none}
use Rattle.q_aig.proofs.cones.clear.Goals as goal

pub loop-j-preserved : goal.loop-j-preserved
loop-j-preserved c = left-more c.loop-j.marks c.args.queue.now c.args.tail c.loop-j.j c.loop-j.invariant

pub returns : goal.returns
returns c =
    let e : c.loop-j.j ≡ c.args.tail = omega arith in
    left-none c.loop-j.marks c.args.queue.now c.args.tail (subst (AreLeft c.loop-j.marks c.args.queue.now c.args.tail) e c.loop-j.invariant)
