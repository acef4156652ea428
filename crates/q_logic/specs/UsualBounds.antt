-- The bounds of a command without options.
use Rattle.std.proofs.Common.{arith}
use Rattle.q_logic.specs.declared.rule_bounds.Bounds.{Bounds}

abbrev pub usual : Bounds
usual = record { grow = 0; expand = 16; small_grow = omega arith; small_expand = omega arith }
