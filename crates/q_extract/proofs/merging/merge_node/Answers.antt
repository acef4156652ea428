use Rattle.q_certificate.proofs.LiteralRows.{literal-there}
use Rattle.q_extract.proofs.Merged.{merge-node-is}
use Rattle.q_extract.proofs.merging.merge_node.Goals as goal

pub choose-requires-clause-choice : goal.choose-requires-clause-choice
choose-requires-clause-choice c =
    literal-there c.args.aig.now c.args.tables.now.inputs.items c.args.tables.now.circuits.items c.args.merge.pivot c.literal-pivot.result c.literal-pivot.ensures c.requires.inputs c.requires.circuits

pub choose-requires-clause-first : goal.choose-requires-clause-first
choose-requires-clause-first c = c.said_node-first.ensures.there c.args.aig.now c.requires.nodes

pub choose-requires-clause-second : goal.choose-requires-clause-second
choose-requires-clause-second c = c.said_node-second.ensures.there c.args.aig.now c.requires.nodes

pub returns : goal.returns
returns c =
    merge-node-is c.args.aig.now c.choose.new.aig c.args.tables.now.inputs.items c.args.tables.now.circuits.items c.args.nodes.now c.args.merge c.literal-pivot.result c.said_node-first.result c.said_node-second.result c.in_ok-lit.lit
    c.literal-pivot.ensures c.said_node-first.ensures c.said_node-second.ensures c.in_ok-lit.ensures
