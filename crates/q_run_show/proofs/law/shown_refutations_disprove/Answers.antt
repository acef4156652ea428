use Rattle.q_run_show.proofs.ShownLog.{left-accepted, left-hinted, whole-due, whole-text}
use Rattle.q_run_show.proofs.law.shown_refutations_disprove.Goals as goal

pub returns-clause-due : goal.returns-clause-due
returns-clause-due c = whole-due

pub returns-clause-text : goal.returns-clause-text
returns-clause-text c = whole-text

pub returns-clause-hinted : goal.returns-clause-hinted
returns-clause-hinted c = λ j w n steps binary before after h short. left-hinted j w n steps binary before after h short

pub returns-clause-accepted : goal.returns-clause-accepted
returns-clause-accepted c = λ j w n steps binary before after a h short. left-accepted j w n steps binary before after h short a
