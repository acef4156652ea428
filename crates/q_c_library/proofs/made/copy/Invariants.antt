use Rattle.std.proofs.Common.{◌≡◌, ◌≤◌, ◌++◌, take, drop, flat_map, length, string_bytes}
use Rattle.q_c_library.specs.Jobs.{made_at}
use Rattle.q_c_library.proofs.made.copy.Given as goal

abbrev pub invariant-loop-name : goal.invariant-loop-name
invariant-loop-name l =
    record {
      within : l.at ≤ length l.buffer;
      whole : take l.at l.buffer ++ flat_map (λ n. made_at l.words l.files (string_bytes n)) (drop l.name-index l.names)
          ≡ flat_map (λ n. made_at l.words l.files (string_bytes n)) l.names;
    }
