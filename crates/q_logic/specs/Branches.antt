-- The nodes of the search for values of the inputs under which some clause is false.
use Rattle.std.specs.Prelude.{◌≡◌, ℕ, Bool, true, false, cond, not, ◌&&◌, ◌||◌, eqb, List, [], ◌∷◌, Option, Some, None}
use Rattle.q_logic.specs.declared.formulas.Quant.TheVariants.{Forall}
use Rattle.q_logic.specs.Literals.{Literal, negation}
use Rattle.q_logic.specs.Formulas.{Clause, Matrix, Prefix, PrenexFormula}
use Rattle.q_logic.specs.Prefixes.{is_exists, is_bound, is_existential}
use Rattle.q_logic.specs.Truth.{Assignment, signed}
use Rattle.q_logic.specs.Sets.{has}
use Rattle.q_logic.specs.Circuits.{Circuit, constant, input, inverter, conjunction, Reads}
use Rattle.q_logic.specs.Certificates.{CertificateView, trees_of}
use Rattle.q_logic.specs.Skolems.{Strategy, circuit_of}
use Rattle.q_logic.specs.declared.verdict.Verdict.{Verdict}
use Rattle.q_logic.specs.declared.verdict.Verdict.TheVariants.{Lost, Won, Open}
use Rattle.q_logic.specs.Searching.{Test, Node, Tally, explored, nothing, worse}

-- 0 where one side is 0, 1 where both are 1, and else open
abbrev pub known_both : Option Bool → Option Bool → Option Bool
known_both None None = None
known_both None (Some false) = Some false
known_both None (Some true) = None
known_both (Some false) y = Some false
known_both (Some true) y = y

-- turned round where the sign is negative
abbrev pub known_signed : Bool → Option Bool → Option Bool
known_signed negative None = None
known_signed negative (Some b) = Some (signed negative b)

-- the value of a circuit, where the variables of the prefix have no value and the others those of the assignment
abbrev pub known : Prefix → Assignment → Circuit → Option Bool
known P A (constant b) = Some b
known P A (input u) = cond (is_bound P u) None (Some (A u))
known P A (inverter t) = known_signed true (known P A t)
known P A (conjunction s t) = known_both (known P A s) (known P A t)

-- circuits over inputs, that are to be Skolem functions
pub record Claim : Type 0 where
  pub formula : PrenexFormula
  pub inputs : List ℕ
  pub circuits : Strategy

-- what a certificate claims
abbrev pub claim_of : PrenexFormula → CertificateView → Claim
claim_of F c = record { formula = F; inputs = c.inputs; circuits = trees_of c }

-- the inputs, in their order, as universals
abbrev pub as_prefix : List ℕ → Prefix
as_prefix [] = []
as_prefix (u ∷ us) = record { quant = Forall; var = u } ∷ as_prefix us

abbrev pub is_input : Claim → ℕ → Bool
is_input q v = is_bound (as_prefix q.inputs) v

-- a universal that is no input
abbrev pub is_missing : Claim → ℕ → Bool
is_missing q v = not (is_existential q.formula.prefix v) && not (is_input q v)

-- a literal of a universal that is no input counts as 0
abbrev pub literal_value : Claim → Prefix → Assignment → Literal → Option Bool
literal_value q P A k =
    cond (is_existential q.formula.prefix k.var) (known_signed k.negative (known P A (circuit_of q.circuits k.var)))
    (cond (is_input q k.var) (known_signed k.negative (known P A (input k.var))) (Some false))

abbrev pub is_one : Option Bool → Bool
is_one None = false
is_one (Some b) = b

abbrev pub is_zero : Option Bool → Bool
is_zero None = false
is_zero (Some b) = not b

abbrev pub has_one : Claim → Prefix → Assignment → Clause → Bool
has_one q P A [] = false
has_one q P A (k ∷ C) = is_one (literal_value q P A k) || has_one q P A C

abbrev pub all_zero : Claim → Prefix → Assignment → Clause → Bool
all_zero q P A [] = true
all_zero q P A (k ∷ C) = is_zero (literal_value q P A k) && all_zero q P A C

-- the clause holds a literal of a universal that is no input together with its negation
abbrev pub both_missing : Claim → Clause → Bool
both_missing q [] = false
both_missing q (k ∷ C) = (is_missing q k.var && has (negation k) C) || both_missing q C

abbrev pub clause_verdict : Claim → Prefix → Assignment → Clause → Verdict
clause_verdict q P A C =
    cond (has_one q P A C || both_missing q C) Won (cond (all_zero q P A C) Lost Open)

-- a node is lost (hit) if some clause is false, and won (closed) if all clauses are true
abbrev pub verdict : Claim → Matrix → Test
verdict q [] P A = Won
verdict q (C ∷ X) P A = worse (clause_verdict q P A C) (verdict q X P A)

-- the search from no values on: it is lost where some node is hit, and the last node is then the first such
abbrev pub search_of : Claim → Tally
search_of q = explored (verdict q q.formula.matrix) (as_prefix q.inputs) nothing

-- the number of branches
abbrev pub branches : Claim → ℕ
branches q = (search_of q).decisions

-- the first false clause
abbrev pub is_false : Verdict → Bool
is_false Lost = true
is_false Won = false
is_false Open = false

abbrev pub first_false : Claim → Node → Matrix → Clause
first_false q n [] = []
first_false q n (C ∷ X) = cond (is_false (clause_verdict q n.rest n.values C)) C (first_false q n X)

-- the value that makes the literal of a variable in a clause false, and 0 where there is none
abbrev pub denial : Clause → ℕ → Bool
denial [] v = false
denial (k ∷ C) v = cond (eqb k.var v) k.negative (denial C v)

-- the values of the universals at a node that is hit
abbrev pub counter_at : Claim → Node → Assignment
counter_at q n v = cond (is_input q v) (n.values v) (denial (first_false q n q.formula.matrix) v)

-- one literal for each universal, in prefix order: the one that is true
abbrev pub true_literals : Prefix → Assignment → List Literal
true_literals [] A = []
true_literals (b ∷ P) A =
    cond (is_exists b.quant) (true_literals P A) (record { var = b.var; negative = not (A b.var) } ∷ true_literals P A)

-- none where no node is hit
abbrev pub counter : Claim → Option (List Literal)
counter q =
    cond (search_of q).won None (Some (true_literals q.formula.prefix (counter_at q (search_of q).last)))

-- the circuits read nothing but inputs
abbrev pub AreFed : Claim → Type 0
AreFed q = (x u : ℕ) → is_existential q.formula.prefix x ≡ true → Reads (circuit_of q.circuits x) u → is_input q u ≡ true
