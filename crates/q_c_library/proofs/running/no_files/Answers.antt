use Rattle.std.specs.FinMap.{get-empty}
use Rattle.q_c_library.proofs.running.no_files.Goals as goal

pub returns : goal.returns
returns c q = rw c.new-files.ensures (get-empty _ q)
