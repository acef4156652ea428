use Rattle.std.proofs.Common.{◌≡◌, take, map, length, string_bytes}
use Rattle.q_c_library.specs.Jobs.{made_at}
use Rattle.q_c_library.proofs.made.tell_lengths.Given as goal

abbrev pub invariant-loop-i : goal.invariant-loop-i
invariant-loop-i l = take l.i l.lengths ≡ map (λ n. length (made_at l.words l.files (string_bytes n))) (take l.i l.names)
