-- Rounds of the game on a prefix: which moves are made in the first ones, when two strategies make the same, and when
-- moves are a beginning of winning ones.
use Rattle.std.specs.Prelude.{◌≡◌, ◌≤◌, ℕ, ◌+◌, Bool, true, cond, not, ◌&&◌, eqb, [], ◌∷◌, ◌++◌}
use Rattle.q_logic.specs.declared.formulas.Quant.{Quant}
use Rattle.q_logic.specs.Formulas.{Matrix, Prefix, PrenexFormula}
use Rattle.q_logic.specs.Prefixes.{is_exists, is_existential}
use Rattle.q_logic.specs.Truth.{Assignment, Holds}
use Rattle.q_logic.specs.Skolems.{Strategy, given, outcome, SkolemOf}

-- 1 where a universal block begins: behind an existential (or at the start of the prefix) stands a universal
abbrev pub turn : Bool → Quant → ℕ
turn after_exists q = cond (after_exists && not (is_exists q)) 1 0

-- how many universal blocks begin at x or before it, behind an existential or not
abbrev pub turns : Bool → Prefix → ℕ → ℕ
turns after_exists [] x = 0
turns after_exists (b ∷ P) x =
    turn after_exists b.quant + cond (eqb b.var x) 0 (turns (is_exists b.quant) P x)

-- how many universal blocks begin at x or before it
abbrev pub rounds : Prefix → ℕ → ℕ
rounds P x = turns true P x

-- x is an existential behind at most n universal blocks
abbrev pub IsWithin : Prefix → ℕ → ℕ → Type 0
IsWithin P n x = (is_existential P x ≡ true) × (rounds P x ≤ n)

-- x is an existential before all universals
abbrev pub IsFirst : Prefix → ℕ → Type 0
IsFirst P x = IsWithin P 0 x

-- both have a circuit for x, or none has; and the values of x are equal where the inputs are as in A
abbrev pub AgreeAt : Strategy → Strategy → Assignment → ℕ → Type 0
AgreeAt c d A x = (given (c x) ≡ given (d x)) × (outcome c A x ≡ outcome d A x)

-- they agree on the existentials behind at most n universal blocks
abbrev pub Agree : Prefix → ℕ → Strategy → Strategy → Assignment → Type 0
Agree P n c d A = (x : ℕ) → IsWithin P n x → AgreeAt c d A x

-- on these, the strategy is as some Skolem functions of the formula are
abbrev pub CanBeCompleted : PrenexFormula → ℕ → Strategy → Type 0
CanBeCompleted F n c = (d : Strategy) × SkolemOf F d × ((A : Assignment) → Agree F.prefix n c d A)

-- the values of the existentials before all universals, each as a clause of one literal
abbrev pub first_values : Prefix → Assignment → Matrix
first_values [] a = []
first_values (b ∷ P) a =
    cond (is_exists b.quant) ((record { var = b.var; negative = not (a b.var) } ∷ []) ∷ first_values P a) []

-- the formula with these values set
abbrev pub set_first : PrenexFormula → Assignment → PrenexFormula
set_first F a = record { prefix = F.prefix; matrix = first_values F.prefix a ++ F.matrix }

-- the formula stays true where the existentials before all universals have their values in a
abbrev pub Wins : PrenexFormula → Assignment → Type 0
Wins F a = Holds (set_first F a)

-- there is a circuit for each existential before all universals
abbrev pub HasFirst : PrenexFormula → Strategy → Type 0
HasFirst F c = (x : ℕ) → IsFirst F.prefix x → given (c x) ≡ true

-- the prefix without the existentials before all universals
abbrev pub later : Prefix → Prefix
later [] = []
later (b ∷ P) = cond (is_exists b.quant) (later P) (b ∷ P)
