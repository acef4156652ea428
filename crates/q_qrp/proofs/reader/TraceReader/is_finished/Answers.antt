use Rattle.std.proofs.Common.{sym, ap, ◌∙◌}
use Rattle.q_qrp.specs.Scanning.{Scan, has_finished}
use Rattle.q_qrp.proofs.ByteLimit.{finished-reads_on}
use Rattle.q_qrp.proofs.reader.TraceReader.is_finished.Goals as goal

pub returns-in-Finished-clause-lasting : goal.returns-in-Finished-clause-lasting
returns-in-Finished-clause-lasting c e rest =
    finished-reads_on c.args.self.now (ap has_finished (sym (ap (λ (s : Scan). s.standing) c.self.view_is) ∙ c.in-Finished.is)) rest
