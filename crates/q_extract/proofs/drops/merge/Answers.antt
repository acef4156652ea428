use Rattle.std.proofs.Common.{◌≡◌, length, refl}
use Rattle.q_extract.proofs.Chained.{merge-more}
use Rattle.q_extract.proofs.drops.merge.Goals as goal

pub returns : goal.returns
returns c =
    let place : c.len-place.result ≡ length c.args.drops.now.merges.items = let v = c.args.drops.now.merges.ok.0 in let e = c.len-place.ensures in cc in
    merge-more c.args.drops.now _ c.args.merge c.requires.sound c.requires.first c.requires.second c.in_ok-push.ensures.items refl refl refl refl c.len-place.result place
