use Rattle.q_long.proofs.Winning.{any-lawful, some-leaf}
use Rattle.q_long.proofs.laws.valued_derivations_win.Goals as goal

pub returns : goal.returns
returns c = record { lawful = any-lawful; wins = some-leaf }
