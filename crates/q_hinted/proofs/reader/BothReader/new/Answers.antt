use Rattle.std.proofs.Common.{refl, None}
use Rattle.q_hinted.specs.Builders.{place_of}
use Rattle.q_hinted.specs.Reading.{BothState}
use Rattle.q_hinted.proofs.HintedBytes.{start-reads}
use Rattle.q_hinted.proofs.reader.BothReader.new.Goals as goal

pub returns-clause-log : goal.returns-clause-log
returns-clause-log c text =
    let s : BothState = record {
      tokens = c.new.result;
      left = c.args.bytes;
      place = place_of c.new-2.result;
      refused = None;
    } in
    start-reads s c.args.bytes text c.new.ensures.start refl c.new-2.ensures
