use Rattle.std.proofs.Common.{refl}
use Rattle.q_logic.proofs.StepForms.{forward}
use Rattle.q_logic.proofs.steps.bring_forward.Goals as goal

pub returns : goal.returns
returns c = forward c.args.clause.now _ _ c.place_of-at.result c.args.lit c.requires.ordered c.place_of-at.ensures.inside c.place_of-at.ensures.there refl c.rotate_right.ensures.after
