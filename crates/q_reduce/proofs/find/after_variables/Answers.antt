use Rattle.std.proofs.Common.{arith}
use Rattle.q_reduce.proofs.ReduceSearch.{greatest-small}
use Rattle.q_reduce.proofs.find.after_variables.Goals as goal

pub overflow_add-result : goal.overflow_add-result
overflow_add-result c = let g = greatest-small c.args.kernel.now c.sound.ensures.proper in omega (arith, c.greatest_var.ensures, g)
