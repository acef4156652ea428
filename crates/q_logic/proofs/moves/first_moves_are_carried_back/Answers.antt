use Rattle.std.proofs.Common.{inl, refl}
use Rattle.q_logic.proofs.Justified.{Run-justified}
use Rattle.q_logic.proofs.MovesBack.{run-agree}
use Rattle.q_logic.proofs.moves.first_moves_are_carried_back.Goals as goal

pub returns : goal.returns
returns c = λ F G ss us k d A f r u h. run-agree F ss G us 0 k d A f (Run-justified F ss G r) u (inl refl) h
