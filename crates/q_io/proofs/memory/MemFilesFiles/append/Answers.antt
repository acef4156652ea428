use Rattle.q_logic.proofs.Common.{on_err}
use Rattle.q_io.proofs.MemoryStore.{appended_front, part_of_front}
use Rattle.q_io.proofs.memory.MemFilesFiles.append.Goals as goal

pub returns-in_err-append-in-Some-clause-err : goal.returns-in_err-append-in-Some-clause-err
returns-in_err-append-in-Some-clause-err c =
    rw (← c.self.view_is) (on_err _ (part_of_front _ _ _ _ _ c.in_err-append-in-Some.ensures.err))

pub returns-in_ok-append-in-Some-clause-err : goal.returns-in_ok-append-in-Some-clause-err
returns-in_ok-append-in-Some-clause-err c =
    rw (← c.self.view_is) (appended_front _ _ _ _ _ c.in_ok-append-in-Some.ensures.all)
