use Rattle.q_logic.proofs.Common.{on_both}
use Rattle.q_herbrand.proofs.RunReversals.{noted-more}
use Rattle.q_herbrand.proofs.trail.Trail.note.Goals as goal

pub returns-clause-noted : goal.returns-clause-noted
returns-clause-noted c =
    on_both c.note_made.result c.note_made.ensures.formula c.note_made.ensures.reversals
    (λ a g F ss h. noted-more F ss c.args.self.now c.note_made.new.self c.args.step.now h c.requires a g)
