use Rattle.std.proofs.Common.{refl}
use Rattle.q_extract.proofs.Chained.{saying-more}
use Rattle.q_extract.proofs.drops.say.Goals as goal

pub returns : goal.returns
returns c =
    saying-more c.args.drops.now _ c.args.var c.args.merge c.requires.sound c.requires.there refl refl refl refl
    (λ g x. rw (← c.len-guard.ensures) (c.in_ok-put.ensures g x))
