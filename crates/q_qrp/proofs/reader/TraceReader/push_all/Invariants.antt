use Rattle.std.proofs.Common.{◌≡◌, take, true}
use Rattle.q_qrp.specs.Scanning.{fed, goes_on}
use Rattle.q_qrp.proofs.reader.TraceReader.push_all.Given as goal

abbrev pub invariant-loop-byte : goal.invariant-loop-byte
invariant-loop-byte l = (l.self ≡ fed l.fn.self (take l.byte-index l.piece)) × (goes_on l.self.standing ≡ true)
