-- The nodes of the search for truth: the variables of a prefix have no value, those before it have the values of an
-- assignment.
use Rattle.std.specs.Prelude.{ℕ, Bool, true, false, cond, not, ◌&&◌, ◌||◌, eqb, [], ◌∷◌}
use Rattle.q_logic.specs.declared.formulas.Quant.{Quant}
use Rattle.q_logic.specs.declared.formulas.Quant.TheVariants.{Exists, Forall}
use Rattle.q_logic.specs.Literals.{Literal, negation}
use Rattle.q_logic.specs.Formulas.{Clause, Matrix, Prefix, PrenexFormula}
use Rattle.q_logic.specs.Prefixes.{is_bound, is_universal}
use Rattle.q_logic.specs.Truth.{Assignment, literal_true, with_value}
use Rattle.q_logic.specs.Circuits.{Circuit, constant, choice}
use Rattle.q_logic.specs.Skolems.{Strategy, strategy_of}
use Rattle.q_logic.specs.Sets.{has}
use Rattle.q_logic.specs.declared.verdict.Verdict.{Verdict}
use Rattle.q_logic.specs.declared.verdict.Verdict.TheVariants.{Lost, Won, Open}
use Rattle.q_logic.specs.Searching.{Test, Tally, explored, nothing, worse}
use Rattle.q_logic.specs.declared.verdict.Standing.{Standing}
use Rattle.q_logic.specs.declared.verdict.Standing.TheVariants.{True, False, Chosen, Free}

-- what is known of a literal: its value, or the quantifier that has yet to give one
abbrev pub standing : Prefix → Assignment → Literal → Standing
standing P A k =
    cond (is_bound P k.var) (cond (is_universal P k.var) Free Chosen) (cond (literal_true A k) True False)

abbrev pub is_true : Standing → Bool
is_true True = true
is_true False = false
is_true Chosen = false
is_true Free = false

-- no choice is left that could make the literal true
abbrev pub is_hopeless : Standing → Bool
is_hopeless True = false
is_hopeless False = true
is_hopeless Chosen = false
is_hopeless Free = true

-- some literal is true
abbrev pub has_true : Prefix → Assignment → Clause → Bool
has_true P A [] = false
has_true P A (k ∷ C) = is_true (standing P A k) || has_true P A C

-- no literal is true, and all literals without a value are universal
abbrev pub all_hopeless : Prefix → Assignment → Clause → Bool
all_hopeless P A [] = true
all_hopeless P A (k ∷ C) = is_hopeless (standing P A k) && all_hopeless P A C

-- the clause holds a variable without a value in both signs
abbrev pub both_signs : Prefix → Clause → Bool
both_signs P [] = false
both_signs P (k ∷ C) = (is_bound P k.var && has (negation k) C) || both_signs P C

abbrev pub clause_verdict : Prefix → Assignment → Clause → Verdict
clause_verdict P A C =
    cond (has_true P A C) Won (cond (all_hopeless P A C && not (both_signs P C)) Lost Open)

-- the node is lost if some clause is, and won if each clause has a true literal
abbrev pub verdict : Matrix → Test
verdict [] P A = Won
verdict (C ∷ X) P A = worse (clause_verdict P A C) (verdict X P A)

-- the search from no values on
abbrev pub search_of : PrenexFormula → Tally
search_of F = explored (verdict F.matrix) F.prefix nothing

-- the number of decisions
abbrev pub decisions : PrenexFormula → ℕ
decisions F = (search_of F).decisions

-- the variable has this value
abbrev pub picked : ℕ → Bool → (ℕ → Circuit) → ℕ → Circuit
picked v b c x = cond (eqb x v) (constant b) (c x)

-- the circuits of a decision that is won, by those of its two sides
abbrev pub joined : Quant → ℕ → Bool → (ℕ → Circuit) → (ℕ → Circuit) → ℕ → Circuit
joined Exists v first_won c0 c1 = cond first_won (picked v false c0) (picked v true c1)
joined Forall v first_won c0 c1 = λ x. choice v (c1 x) (c0 x)

abbrev pub is_open : Verdict → Bool
is_open Lost = false
is_open Won = false
is_open Open = true

-- the circuits below a node that is won; at a node without a decision each is 0
abbrev pub circuits_at : Test → Prefix → Assignment → ℕ → Circuit
circuits_at f [] A = λ x. constant false
circuits_at f (b ∷ P) A =
    cond (is_open (f (b ∷ P) A))
    (joined b.quant b.var (explored f P (with_value A b.var false)).won
    (circuits_at f P (with_value A b.var false))
    (circuits_at f P (with_value A b.var true)))
    (λ x. constant false)

-- for the existentials alone
abbrev pub circuits_of : PrenexFormula → Strategy
circuits_of F = strategy_of F.prefix (circuits_at (verdict F.matrix) F.prefix nothing)
