use Rattle.q_offences.proofs.RowsAndFiles.{rows-at, rows-at-end}
use Rattle.q_offences.proofs.laws.rows_stop_formulas.Goals as goal

pub returns : goal.returns
returns c = record { token = rows-at; end = rows-at-end }
