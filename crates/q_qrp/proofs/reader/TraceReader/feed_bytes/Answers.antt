use Rattle.std.proofs.Common.{◌∙◌, sym, ap}
use Rattle.q_qrp.specs.Scanning.{Scan}
use Rattle.q_qrp.proofs.FedBytes.{feeds-stopped}
use Rattle.q_qrp.proofs.reader.TraceReader.feed_bytes.Goals as goal

pub returns-in-Stopped-clause-fed : goal.returns-in-Stopped-clause-fed
returns-in-Stopped-clause-fed c = feeds-stopped c.args.self.now c.in-Stopped.error c.args.piece.now (sym (ap (λ (s : Scan). s.standing) c.self.view_is) ∙ c.in-Stopped.is)
