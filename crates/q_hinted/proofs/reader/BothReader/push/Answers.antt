use Rattle.std.proofs.Common.{◌-◌, Ok, arith}
use Rattle.std.proofs.lemmas.Grind.{common_steps}
use Rattle.q_hinted.specs.Builders.{place_of}
use Rattle.q_hinted.specs.Reading.{BothState, Answers, transition}
use Rattle.q_hinted.proofs.HintedBytes.{next-leads}
use Rattle.q_hinted.proofs.reader.BothReader.push.Goals as goal

pub returns-in-Ok-clause-next : goal.returns-in-Ok-clause-next
returns-in-Ok-clause-next c rest =
    let new : BothState = record {
      tokens = c.push.new.self;
      left = c.self.inside.left - 1;
      place = place_of c.take.new.self;
      refused = c.self.inside.refused;
    } in
    let h : Answers (Ok c.in-Ok.entry) new (transition c.args.self.now c.args.byte) = grind (arith, common_steps) in
    next-leads (Ok c.in-Ok.entry) new c.args.self.now c.args.byte rest h
