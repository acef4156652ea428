use Rattle.q_log.proofs.LiteralTexts.{step-ordered}
use Rattle.q_log.proofs.text.step_len.Goals as goal

pub lits_len-requires : goal.lits_len-requires
lits_len-requires c = rw c.lits.ensures.value (step-ordered c.args.step.now c.lits.ensures.lawful)
