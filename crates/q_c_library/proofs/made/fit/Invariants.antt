use Rattle.std.proofs.Common.{◌≡◌, ◌+◌, drop, flat_map, length, string_bytes}
use Rattle.q_c_library.specs.Jobs.{made_at}
use Rattle.q_c_library.proofs.made.fit.Given as goal

abbrev pub invariant-loop-name : goal.invariant-loop-name
invariant-loop-name l =
    length (flat_map (λ n. made_at l.words l.files (string_bytes n)) l.names) + l.left
    ≡ length (flat_map (λ n. made_at l.words l.files (string_bytes n)) (drop l.name-index l.names)) + l.room
