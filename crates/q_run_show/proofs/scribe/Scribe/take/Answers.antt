use Rattle.q_run_show.proofs.ShownEnds.{found-ends, found-no_fault, goes}
use Rattle.q_run_show.proofs.scribe.Scribe.take.Goals as goal

pub returns-then-brings_empty-clause-ends : goal.returns-then-brings_empty-clause-ends
returns-then-brings_empty-clause-ends c =
    found-ends c.args.line c.args.step.now c.args.self.now c.make.new.self c.found.result c.in_default.ensures.takes c.brings_empty.ensures.lawful (c.brings_empty.ensures.yes c.if-brings_empty.true) c.found.ensures

pub returns-then-brings_empty-clause-fault : goal.returns-then-brings_empty-clause-fault
returns-then-brings_empty-clause-fault c = found-no_fault c.make.new.self c.found.result c.found.ensures

pub returns-clause-goes : goal.returns-clause-goes
returns-clause-goes c =
    goes c.args.step.now c.args.self.now c.make.new.self c.requires.under_way c.in_default.ensures.takes c.brings_empty.ensures.lawful (c.brings_empty.ensures.no c.if-brings_empty.false)
