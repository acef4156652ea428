use Rattle.q_binary.proofs.BinaryProofs.{read-entry, read-proof}
use Rattle.q_binary.proofs.law.binary_proofs_are_read.Goals as goal

pub returns : goal.returns
returns c = record { step = read-entry; whole = read-proof }
