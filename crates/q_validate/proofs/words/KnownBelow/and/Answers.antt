use Rattle.std.proofs.Common.{refl}
use Rattle.q_validate.proofs.WordBits.{both-told}
use Rattle.q_validate.proofs.words.KnownBelow.and.Goals as goal

pub returns : goal.returns
returns c f g t u = both-told c.args.self c.args.other _ f g refl refl t u
