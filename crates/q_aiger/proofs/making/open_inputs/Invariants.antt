use Rattle.std.proofs.Common.{◌≡◌, take, []}
use Rattle.q_aiger.specs.Making.{IsInputRow}
use Rattle.q_aiger.proofs.making.open_inputs.Given as goal

abbrev pub invariant-loop-name : goal.invariant-loop-name
invariant-loop-name l = record {
  inputs : l.aig.inputs ≡ take l.name-index l.names;
  gates : l.aig.gates ≡ [];
  row : IsInputRow l.name-index l.row.items;
}
