-- What a caller sees of a table: what stands at each number, and nothing behind them.
use Rattle.std.specs.Prelude.{ℕ, List, Option}

pub record Cells : Type 0 where
  pub items : List (Option ℕ)
