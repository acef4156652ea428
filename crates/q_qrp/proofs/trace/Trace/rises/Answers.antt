use Rattle.q_qrp.specs.Lines.{Proof, AreRising}
use Rattle.std.proofs.Common.{subst}
use Rattle.q_qrp.proofs.TraceLines.{lines-rise}
use Rattle.q_qrp.proofs.trace.Trace.rises.Goals as goal

pub returns : goal.returns
returns c = subst (λ (p : Proof). AreRising p.lines) c.self.view_is (lines-rise c.self.inside.rows.items c.self.inside.terms c.self.invariant.0 c.self.invariant.1)
