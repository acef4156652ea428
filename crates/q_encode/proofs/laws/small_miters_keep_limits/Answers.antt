use Rattle.q_encode.proofs.GivenCircuits.{miter-within}
use Rattle.q_encode.proofs.laws.small_miters_keep_limits.Goals as goal

pub returns : goal.returns
returns c side F given X f m s = miter-within side F given X f m s
