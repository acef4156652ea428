use Rattle.std.proofs.Common.{ap}
use Rattle.q_io.proofs.MemoryStore.{unchanged_may_empty}
use Rattle.q_io.proofs.memory.MemFilesFiles.create.Goals as goal

pub returns-then-is_some-clause-err : goal.returns-then-is_some-clause-err
returns-then-is_some-clause-err c = unchanged_may_empty _ _ _ (ap (λ m. m.disk) c.self.view_is)
