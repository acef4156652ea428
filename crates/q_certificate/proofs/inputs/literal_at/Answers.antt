use Rattle.q_certificate.proofs.InputReads.{tree-of-output}
use Rattle.q_certificate.proofs.inputs.literal_at.Goals as goal

pub returns-clause-tree : goal.returns-clause-tree
returns-clause-tree c = tree-of-output c.args.given.now c.outputs.result.now c.args.k c.outputs.ensures.value c.outputs.ensures.lawful c.requires
