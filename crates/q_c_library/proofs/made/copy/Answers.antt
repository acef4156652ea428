use Rattle.std.proofs.Common.{◌≡◌, ◌≤◌, ◌+◌, ◌++◌, length, flat_map, take, arith, append_assoc}
use Rattle.std.proofs.lemmas.Slice.{take-put_mid}
use Rattle.std.proofs.lemmas.Grind.{common_steps}
use Rattle.q_c_library.proofs.made.copy.Goals as goal

pub loop-name-preserved : goal.loop-name-preserved
loop-name-preserved c = record {
  within = grind (arith, common_steps);
  whole = grind (arith, common_steps, take-put_mid);
}
