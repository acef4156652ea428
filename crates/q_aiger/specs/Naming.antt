-- Names as the code keeps them.
use Rattle.std.specs.Prelude.{◌≡◌, ◌≤◌, ℕ, List, nat_eq}
use Rattle.std.specs.HashSet.{HashSet, contains}
use Rattle.q_aiger.specs.declared.symbols.Symbol.{Symbol as Code}
use Rattle.q_aiger.specs.declared.symbols.Symbol.TheVariants.{Nothing, Comment, Input, Output, Strange}
use Rattle.q_aiger.specs.Symbols.{Symbol, nothing, comment, input_name, output_name, strange, is_used, AreApart}

abbrev pub symbol_view : Code → Symbol
symbol_view Nothing = nothing
symbol_view Comment = comment
symbol_view (Input i v) = input_name i v
symbol_view (Output i v) = output_name i v
symbol_view Strange = strange

-- the set has the names that were given, and none was given twice
pub record AreUsed {S : Type 0} (used : HashSet ℕ S) (names : List ℕ) : Type 0 where
  pub known : (v : ℕ) → 1 ≤ v → contains nat_eq used v ≡ is_used names v
  pub apart : AreApart names
