use Rattle.std.proofs.Common.{arith}
use Rattle.q_prefix.proofs.FilledPrefix.{greatest-least}
use Rattle.q_prefix.proofs.prefix.Prefix.new.Goals as goal

pub fill-requires-clause-reserved : goal.fill-requires-clause-reserved
fill-requires-clause-reserved c = λ k b e.
    let l = greatest-least c.args.bounds.now k b e in
    omega (arith, l, c.greatest_of-greatest.ensures, c.in_ok-grow_marks.ensures.room)
