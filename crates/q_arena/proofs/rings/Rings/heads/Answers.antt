use Rattle.std.proofs.Common.{◌∙◌, sym}
use Rattle.q_arena.proofs.ArenaView.{length-lists}
use Rattle.q_arena.proofs.rings.Rings.heads.Goals as goal

pub returns : goal.returns
returns c =
    rw (← c.self.view_is) (c.len.ensures.value ∙ sym (length-lists c.self.inside.places.items c.self.inside.heads.items))
