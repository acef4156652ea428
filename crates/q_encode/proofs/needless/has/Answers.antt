use Rattle.std.proofs.Common.{◌∙◌}
use Rattle.q_encode.proofs.HeldLiterals.{found-held}
use Rattle.q_encode.proofs.needless.has.Goals as goal

pub returns : goal.returns
returns c =
    c.is_ok.ensures.value ∙
    found-held c.args.clause.now c.args.lit c.binary_search.result c.requires c.binary_search.ensures.bound c.binary_search.ensures.position
