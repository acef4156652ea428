use Rattle.q_log.proofs.LogSpelledIsRead.{spelled-read}
use Rattle.q_log.proofs.LogReadIsSpelled.{read-spelled}
use Rattle.q_log.proofs.law.grammar_is_read.Goals as goal

pub returns : goal.returns
returns c = λ limit bytes steps. (spelled-read limit bytes steps, read-spelled limit bytes steps)
