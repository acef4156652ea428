use Rattle.std.proofs.Common.{refl, None}
use Rattle.q_log.specs.Reading.{LogState, open_of}
use Rattle.q_log.proofs.LogBytes.{start-reads}
use Rattle.q_log.proofs.reader.LogReader.new.Goals as goal

pub returns-clause-log : goal.returns-clause-log
returns-clause-log c text =
    let s : LogState = record {
      tokens = c.new.result;
      left = c.args.bytes;
      begun = open_of c.new-2.result.begun c.new-2.result.lits;
      refused = None;
    } in
    start-reads s c.args.bytes text c.new.ensures.start refl
    c.new-2.ensures
