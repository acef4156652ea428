use Rattle.std.proofs.Common.{arith, sym, ap, ◌∙◌, slice_get}
use Rattle.q_qrp.specs.Lines.{Proof, literals_of}
use Rattle.q_qrp.proofs.TraceLines.{lines-length, literals-at}
use Rattle.q_qrp.proofs.trace.Trace.literals.Goals as goal

pub clause-requires : goal.clause-requires
clause-requires c =
    let l = lines-length c.self.inside.rows.items c.self.inside.terms c.self.invariant.0 in
    let v = c.self.view_is in
    let r = rw (sym v) at c.requires in
    omega arith

pub returns : goal.returns
returns c =
    sym (ap (λ (p : Proof). literals_of (slice_get p.lines c.args.at)) (sym c.self.view_is)
    ∙ (literals-at c.self.inside.rows.items c.self.inside.terms c.args.at c.self.invariant.0 ∙ c.clause.ensures))
