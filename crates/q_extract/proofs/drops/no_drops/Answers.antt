use Rattle.q_extract.proofs.Chained.{none-sound}
use Rattle.q_extract.proofs.drops.no_drops.Goals as goal

pub returns-clause-sound : goal.returns-clause-sound
returns-clause-sound c = (none-sound (record { guards = c.new.result; row = c.new-2.result; last = c.new-3.result; merges = c.new-4.result; said = c.new-5.result }) c.new-2.ensures.items c.new-3.ensures c.new-4.ensures.items c.new-5.ensures).0

pub returns-clause-none : goal.returns-clause-none
returns-clause-none c = (none-sound (record { guards = c.new.result; row = c.new-2.result; last = c.new-3.result; merges = c.new-4.result; said = c.new-5.result }) c.new-2.ensures.items c.new-3.ensures c.new-4.ensures.items c.new-5.ensures).1
