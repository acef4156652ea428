use Rattle.std.proofs.Common.{refl}
use Rattle.q_rebuild.proofs.UndoLists.{undos-alike}
use Rattle.q_rebuild.proofs.laws.undo_lists_take_back_alike.Goals as goal

pub returns : goal.returns
returns c F ss us vs s A x u v = (undos-alike F ss us vs s s A u v (λ y. (refl, refl)) x).1
