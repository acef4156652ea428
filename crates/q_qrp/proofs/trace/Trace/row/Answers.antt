use Rattle.std.proofs.Common.{arith, sym, ap, ◌∙◌, slice_get}
use Rattle.q_qrp.specs.Lines.{Proof, row_of}
use Rattle.q_qrp.proofs.TraceLines.{lines-length, row-at, get-is}
use Rattle.q_qrp.proofs.trace.Trace.row.Goals as goal

pub index-requires : goal.index-requires
index-requires c =
    let i = c.self.invariant.0 in
    let l = lines-length c.self.inside.rows.items c.self.inside.terms i in
    let v = c.self.view_is in
    let r = rw (sym v) at c.requires in
    omega arith

pub returns : goal.returns
returns c =
    let i = c.self.invariant.0 in
    let l = lines-length c.self.inside.rows.items c.self.inside.terms i in
    let v = c.self.view_is in
    let r = rw (sym v) at c.requires in
    sym (ap (λ (p : Proof). row_of (slice_get p.lines c.args.at)) (sym c.self.view_is)
    ∙ (row-at c.self.inside.rows.items c.self.inside.terms c.args.at i
    ∙ get-is c.self.inside.rows.items c.args.at c.index.result.now (omega arith) c.index.ensures))
