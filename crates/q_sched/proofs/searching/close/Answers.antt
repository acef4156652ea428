use Rattle.std.proofs.Common.{subst}
use Rattle.q_sched.specs.declared.looking.Look.{Look}
use Rattle.q_sched.specs.Looks.{LooksAny}
use Rattle.q_sched.proofs.searching.close.Goals as goal

pub returns-in-Ok-Found-clause-closes : goal.returns-in-Ok-Found-clause-closes
returns-in-Ok-Found-clause-closes g c =
    λ d. d _ (subst (λ (l : Look). LooksAny c.args.bounds.now c.args.kernel.now l) c.in-Ok-Found.field-0-is c.in-Ok-Found.ensures.looks).1
