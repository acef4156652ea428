use Rattle.std.proofs.Common.{ap, length}
use Rattle.q_qrp.specs.Lines.{Proof}
use Rattle.q_qrp.proofs.TraceLines.{lines-length}
use Rattle.q_qrp.proofs.trace.Trace.len.Goals as goal

pub returns : goal.returns
returns c =
    let e = ap (λ (p : Proof). length p.lines) c.self.view_is in
    let l = lines-length c.self.inside.rows.items c.self.inside.terms c.self.invariant.0 in
    let v = c.self.inside.rows.ok.0 in
    cc
