-- The names that operands are.
use Rattle.std.specs.Prelude.{◌≢◌, ℕ, Bool, true, false, not, ◌&&◌, cond, List, [], ◌∷◌, map, Option, Some, None, String, string_bytes}
use Rattle.std.specs.declared.alloc.Global.{Global}
use Rattle.std.specs.Str.{bytes_eq}
use Rattle.q_command.specs.Names.{ThreeNames, three}

-- the bytes of each word
abbrev pub texts : List (String Global) → List (List ℕ)
texts ws = map (λ w. string_bytes w) ws

abbrev pub are_different : List ℕ → List ℕ → List ℕ → Bool
are_different a b c = not (bytes_eq a b) && not (bytes_eq a c) && not (bytes_eq b c)

-- the names of three files that the operands begin with, where they differ, and the words behind them
unfoldable pub three_names : List (List ℕ) → Option (ThreeNames × List (List ℕ))
three_names [] = None
three_names (i ∷ []) = None
three_names (i ∷ o ∷ []) = None
three_names (i ∷ o ∷ l ∷ rest) = cond (are_different i o l) (Some (three i o l, rest)) None

-- the three names, where no word stands behind them
abbrev pub just_three : Option (ThreeNames × List (List ℕ)) → Option ThreeNames
just_three None = None
just_three (Some (n, [])) = Some n
just_three (Some (n, word ∷ words)) = None

-- the names of two files that the operands begin with, where they differ, and the words behind them
unfoldable pub two_names : List (List ℕ) → Option (List ℕ × List ℕ × List (List ℕ))
two_names [] = None
two_names (a ∷ []) = None
two_names (a ∷ b ∷ rest) = cond (not (bytes_eq a b)) (Some (a, b, rest)) None

-- a name other than three
abbrev pub is_fourth : ThreeNames → List ℕ → Bool
is_fourth n d = not (bytes_eq n.input d) && not (bytes_eq n.output d) && not (bytes_eq n.log d)

-- the name of a fourth file behind those of three, where it differs from them, and the words behind it
unfoldable pub fourth : Option (ThreeNames × List (List ℕ)) → Option (ThreeNames × List ℕ × List (List ℕ))
fourth None = None
fourth (Some (n, [])) = None
fourth (Some (n, word ∷ words)) = cond (is_fourth n word) (Some (n, word, words)) None

-- whether the only word is this one; none where there are other words
unfoldable pub flag_in : List ℕ → List (List ℕ) → Option Bool
flag_in flag [] = Some false
flag_in flag (word ∷ []) = cond (bytes_eq word flag) (Some true) None
flag_in flag (word ∷ other ∷ words) = None

-- the three names differ
pub record Differ (n : ThreeNames) : Type 0 where
  pub input_output : n.input ≢ n.output
  pub input_log : n.input ≢ n.log
  pub output_log : n.output ≢ n.log

-- the four names differ
pub record DifferFour (n : ThreeNames) (last : List ℕ) : Type 0 where
  pub output_log : n.output ≢ n.log
  pub input_last : n.input ≢ last
  pub output_last : n.output ≢ last
  pub log_last : n.log ≢ last
