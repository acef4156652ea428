-- Moves as a text: a line for each, which has a rule's word and then numbers of clauses or variables, and literals, with one space before
-- each. A line may be empty.
use Rattle.std.specs.Prelude.{◌≡◌, ◌⊎◌, ℕ, Bool, true, false, ◌==◌, ◌||◌, ◌+◌, cond, nat_le, if◌then◌else◌, is_some, List, [], ◌∷◌, drop, option_map, Option, Some, None, codes}
use Rattle.std.specs.Str.{bytes_eq}
use Rattle.q_logic.specs.Prelude.{Literal}
use Rattle.q_logic.specs.Targets.{Target, tautology, unit, cut, pure, subsumed, strengthen, merge, blocked, blocked_forall, cover, eliminate, expand_universal}
use Rattle.q_text.specs.Words.{digits}
use Rattle.q_guides.specs.declared.listed.NoMoves.{NoMoves}
use Rattle.q_guides.specs.declared.listed.NoMoves.TheVariants.{Line, NoMemory}
use Rattle.q_guides.specs.declared.move_text.Rule.{Rule}
use Rattle.q_guides.specs.declared.move_text.Rule.TheVariants as rule

-- a number of one or more digits, which is at most so much
abbrev pub up_to : ℕ → Option ℕ → Option ℕ
up_to most None = None
up_to most (Some n) = if nat_le n most then Some n else None

abbrev pub number_of : ℕ → List ℕ → Option ℕ
number_of most text = up_to most (digits text)

-- the number of a clause or of a variable
abbrev pub number : List ℕ → Option ℕ
number text = number_of 4294967295 text

-- a variable from 1 on, where a minus negates it
abbrev pub is_negated : List ℕ → Bool
is_negated [] = false
is_negated (b ∷ bs) = b == 45

abbrev pub signed : Bool → Option ℕ → Option Literal
signed negative None = None
signed negative (Some v) = if v == 0 then None else Some (record { var = v; negative = negative })

abbrev pub literal : List ℕ → Option Literal
literal text = signed (is_negated text) (number_of 2147483647 (if is_negated text then drop 1 text else text))

-- what stands before the first byte of this value, and behind it
abbrev pub with_front : ℕ → Option (List ℕ × List ℕ) → Option (List ℕ × List ℕ)
with_front b None = None
with_front b (Some (front, back)) = Some (b ∷ front, back)

abbrev pub halves : ℕ → List ℕ → Option (List ℕ × List ℕ)
halves divider [] = None
halves divider (b ∷ bs) = if b == divider then Some ([], bs) else with_front b (halves divider bs)

-- two things with a space between them
abbrev pub both : {A B : Type 0} → Option A → Option B → Option (A × B)
both None y = None
both (Some x) None = None
both (Some x) (Some y) = Some (x, y)

abbrev pub each : {A B : Type 0} → (List ℕ → Option A) → (List ℕ → Option B) → Option (List ℕ × List ℕ) → Option (A × B)
each f g None = None
each f g (Some (front, back)) = both (f front) (g back)

abbrev pub pair : {A B : Type 0} → (List ℕ → Option A) → (List ℕ → Option B) → List ℕ → Option (A × B)
pair f g text = each f g (halves 32 text)

-- the rules by their words
abbrev pub rule_of : List ℕ → Option Rule
rule_of word =
    cond (bytes_eq word (codes "tautology")) (Some rule.Tautology)
    (cond (bytes_eq word (codes "unit")) (Some rule.Unit)
    (cond (bytes_eq word (codes "cut")) (Some rule.Cut)
    (cond (bytes_eq word (codes "pure")) (Some rule.Pure)
    (cond (bytes_eq word (codes "subsumed")) (Some rule.Subsumed)
    (cond (bytes_eq word (codes "strengthen")) (Some rule.Strengthen)
    (cond (bytes_eq word (codes "merge")) (Some rule.Merge)
    (cond (bytes_eq word (codes "blocked")) (Some rule.Blocked)
    (cond (bytes_eq word (codes "blocked-forall")) (Some rule.BlockedForall)
    (cond (bytes_eq word (codes "cover")) (Some rule.Cover)
    (cond (bytes_eq word (codes "eliminate")) (Some rule.Eliminate)
    (cond (bytes_eq word (codes "expand")) (Some rule.Expand) None)))))))))))

-- what stands behind the word of each rule
abbrev pub target_by : Rule → List ℕ → Option Target
target_by rule.Tautology text = option_map (λ c. tautology c) (number text)
target_by rule.Unit text = option_map (λ c. unit c) (number text)
target_by rule.Cut text = option_map (λ p. cut p.0 p.1) (pair number literal text)
target_by rule.Pure text = option_map (λ l. pure l) (literal text)
target_by rule.Subsumed text = option_map (λ p. subsumed p.0 p.1) (pair number number text)
target_by rule.Strengthen text = option_map (λ p. strengthen p.0 p.1.0 p.1.1) (pair number (pair number literal) text)
target_by rule.Merge text = option_map (λ p. merge p.0 p.1) (pair literal literal text)
target_by rule.Blocked text = option_map (λ p. blocked p.0 p.1) (pair number literal text)
target_by rule.BlockedForall text = option_map (λ p. blocked_forall p.0 p.1) (pair number literal text)
target_by rule.Cover text = option_map (λ c. cover c) (number text)
target_by rule.Eliminate text = option_map (λ x. eliminate x) (number text)
target_by rule.Expand text = option_map (λ u. expand_universal u) (number text)

-- the last six rules
abbrev pub IsOther : Rule → Type 0
IsOther rule.Tautology = ⊥
IsOther rule.Unit = ⊥
IsOther rule.Cut = ⊥
IsOther rule.Pure = ⊥
IsOther rule.Subsumed = ⊥
IsOther rule.Strengthen = ⊥
IsOther r = Unit {0}

abbrev pub target_of_rule : Option Rule → List ℕ → Option Target
target_of_rule None text = None
target_of_rule (Some r) text = target_by r text

abbrev pub target_at : Option (List ℕ × List ℕ) → Option Target
target_at None = None
target_at (Some (word, text)) = target_of_rule (rule_of word) text

-- the target of a line
abbrev pub target_in : List ℕ → Option Target
target_in line = target_at (halves 32 line)

-- a text's lines: what stands before, between and behind its LF bytes
abbrev pub onto : ℕ → List (List ℕ) → List (List ℕ)
onto b [] = (b ∷ []) ∷ []
onto b (line ∷ lines) = (b ∷ line) ∷ lines

abbrev pub lines : List ℕ → List (List ℕ)
lines [] = [] ∷ []
lines (b ∷ bs) = if b == 10 then [] ∷ lines bs else onto b (lines bs)

-- a line is empty, or has a target
abbrev pub is_empty : List ℕ → Bool
is_empty [] = true
is_empty (b ∷ bs) = false

abbrev pub is_right : List ℕ → Bool
is_right line = is_empty line || is_some (target_in line)

-- a text's first line, and what is left: lines, or nothing
abbrev pub IsFirstLine : List ℕ → List ℕ → List ℕ → Type 0
IsFirstLine text line rest = (lines text ≡ line ∷ lines rest) ⊎ ((lines text ≡ line ∷ []) × (rest ≡ []))

-- the number of the first line that is wrong, where they are counted from n
abbrev pub wrong_from : ℕ → List (List ℕ) → Option ℕ
wrong_from n [] = None
wrong_from n (line ∷ lines) = if is_right line then wrong_from (n + 1) lines else Some n

-- the number of the first line of a text that is wrong; the first line is 1
abbrev pub wrong_line : List ℕ → Option ℕ
wrong_line text = wrong_from 1 (lines text)

-- the number of the line that is told to be wrong
abbrev pub line_of : NoMoves → Option ℕ
line_of (Line n) = Some n
line_of NoMemory = None
