use Rattle.std.proofs.Common.{subst}
use Rattle.q_hinted.specs.Logs.{Entries}
use Rattle.q_hinted.specs.Reading.{Ends}
use Rattle.q_binary.proofs.FormSteps.{ends-binary, ends-text}
use Rattle.q_binary.proofs.form.ProofReader.finish.Goals as goal

pub returns-in_default : goal.returns-in_default
returns-in_default c =
    let r = c.self.inside in
    let e = ends-text r.form r.text r.binary c.args.self c.self.view_is c.in_default.not-Binary in
    record { end = subst (λ (p : Entries). Ends c.finish-in_default.result p) e c.finish-in_default.ensures.end }

pub returns-in-Binary : goal.returns-in-Binary
returns-in-Binary c =
    let r = c.self.inside in
    record { end = ends-binary c.finish.result c.of_end.result r.form r.text r.binary c.args.self c.self.view_is c.in-Binary.is c.of_end.ensures c.finish.ensures.end }
