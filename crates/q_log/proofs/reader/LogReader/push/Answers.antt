use Rattle.std.proofs.Common.{◌-◌, Ok, arith}
use Rattle.std.proofs.lemmas.Grind.{common_steps}
use Rattle.q_log.specs.Reading.{LogState, Answers, open_of, transition}
use Rattle.q_log.proofs.LogBytes.{leads}
use Rattle.q_log.proofs.reader.LogReader.push.Goals as goal

pub returns-in-Ok-clause-next : goal.returns-in-Ok-clause-next
returns-in-Ok-clause-next c rest =
    let new : LogState = record {
      tokens = c.push.new.self;
      left = c.self.inside.left - 1;
      begun = open_of c.take.new.self.begun c.take.new.self.lits;
      refused = c.self.inside.refused;
    } in
    let h : Answers (Ok c.in-Ok.step) new (transition c.args.self.now c.args.byte) = grind (arith, common_steps) in
    leads (Ok c.in-Ok.step) new c.args.self.now c.args.byte rest h
