-- The words of `rebuild`.
use Rattle.std.specs.Prelude.{ℕ, Bool, not, ◌&&◌, cond, List, [], ◌∷◌, Option, Some, None}
use Rattle.std.specs.Str.{bytes_eq}
use Rattle.q_app.specs.Rebuilds.{FiveNames, five}

-- the first name is none of the other four
abbrev pub is_new : List ℕ → List ℕ → List ℕ → List ℕ → List ℕ → Bool
is_new a b c d e = not (bytes_eq a b) && not (bytes_eq a c) && not (bytes_eq a d) && not (bytes_eq a e)

-- no two of four names are equal
abbrev pub are_four : List ℕ → List ℕ → List ℕ → List ℕ → Bool
are_four a b c d =
    not (bytes_eq a b) && not (bytes_eq a c) && not (bytes_eq a d) && not (bytes_eq b c) && not (bytes_eq b d)
    && not (bytes_eq c d)

-- the five names, where no two are equal
abbrev pub apart : FiveNames → Option FiveNames
apart n =
    cond (is_new n.input n.output n.log n.skolem n.cert && are_four n.output n.log n.skolem n.cert) (Some n) None

-- the operands IN OUT LOG SKOLEM CERT, the five names different
unfoldable pub rebuild_names : List (List ℕ) → Option FiveNames
rebuild_names [] = None
rebuild_names (i ∷ []) = None
rebuild_names (i ∷ o ∷ []) = None
rebuild_names (i ∷ o ∷ l ∷ []) = None
rebuild_names (i ∷ o ∷ l ∷ s ∷ []) = None
rebuild_names (i ∷ o ∷ l ∷ s ∷ c ∷ []) = apart (five i o l s c)
rebuild_names (i ∷ o ∷ l ∷ s ∷ c ∷ w ∷ words) = None
