use Rattle.std.proofs.Common.{◌∙◌}
use Rattle.q_logic.proofs.Common.{on_err}
use Rattle.q_io.proofs.MemoryStore.{unchanged_may_empty, emptied}
use Rattle.q_io.proofs.steady.SteadyFilesFiles.create.Goals as goal

pub returns-in_err-store-clause-err : goal.returns-in_err-store-clause-err
returns-in_err-store-clause-err c = on_err _ (unchanged_may_empty _ _ _ (c.in_err-store.ensures.err ∙ c.self.view_is))

pub returns-clause-empty : goal.returns-clause-empty
returns-clause-empty c = rw (← c.self.view_is) (emptied _ _ _ c.in_ok-store.ensures.ok c.in_ok-store.ensures.others)
