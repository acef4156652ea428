use Rattle.std.proofs.Common.{◌≡◌, take}
use Rattle.q_logic.specs.Branches.{as_prefix}
use Rattle.q_validate.proofs.node.universals.Given as goal

abbrev pub invariant-loop-name : goal.invariant-loop-name
invariant-loop-name l = l.prefix.items ≡ as_prefix (take l.name-index l.names)
