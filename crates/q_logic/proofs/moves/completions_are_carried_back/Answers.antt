use Rattle.std.proofs.Common.{inl, inr, refl}
use Rattle.q_logic.proofs.Justified.{Run-justified}
use Rattle.q_logic.proofs.FirstMoves.{completion-back}
use Rattle.q_logic.proofs.moves.completions_are_carried_back.Goals as goal

pub returns : goal.returns
returns c =
    record {
      first = λ F G ss us k f r u h. completion-back F ss G us 0 k f (Run-justified F ss G r) u (inl refl) h;
      rounds = λ F G ss us k n f r u l h. completion-back F ss G us n k f (Run-justified F ss G r) u (inr l) h;
    }
