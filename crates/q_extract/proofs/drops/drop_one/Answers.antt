use Rattle.std.proofs.Common.{◌≡◌, length, refl}
use Rattle.q_extract.proofs.Chained.{more-one}
use Rattle.q_extract.proofs.drops.drop_one.Goals as goal

pub returns : goal.returns
returns c =
    let place : c.len-place.result ≡ length c.args.drops.now.row.items = let v = c.args.drops.now.row.ok.0 in let e = c.len-place.ensures in cc in
    more-one c.args.drops.now (record { guards = c.args.drops.now.guards; row = c.push.new.self; last = c.put.new.row; merges = c.args.drops.now.merges; said = c.args.drops.now.said })
    (record { lit = c.args.lit; guard = c.args.guard; before = c.look-before.result })
    c.requires.sound c.requires.guard refl refl refl c.in_ok-push.ensures.items
    (rw (c.var.ensures.value) at c.look-before.ensures)
    (λ x. rw (← place, ← c.var-2.ensures.value) (c.in_ok-put.ensures.ok x))
