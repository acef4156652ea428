-- Where the search stands, and the rows that it reads.
use Rattle.std.specs.Prelude.{◌≡◌, ◌<◌, ◌≤◌, ◌++◌, ◌-◌, ℕ, Bool, true, false, List, [], length, take, slice_get, slice_index_or, Option, Some, None}
use Rattle.q_logic.specs.declared.verdict.Verdict.{Verdict}
use Rattle.q_logic.specs.Prelude.{Literal, Clause, Prefix, PrenexFormula, Assignment, Circuit, CertificateView, gate_trees, trees_of, given, Node, nothing}
use Rattle.q_logic.specs.Prefixes.{place, is_bound, is_existential}
use Rattle.q_logic.specs.Branches.{Claim, claim_of, as_prefix, known, literal_value, clause_verdict, verdict}
use Rattle.q_aig.specs.Prelude.{Net, IsNet, net_of}
use Rattle.q_search.specs.Paths.{along, rest_of}
use Rattle.q_search.specs.PlaceTables.{PlaceRow, ArePlaces}
use Rattle.q_search.specs.Walks.{Walk}
use Rattle.q_certificate.specs.Prelude.{AreCircuits}
use Rattle.q_validate.specs.Below.{known_clause, known_clauses}
use Rattle.q_validate.specs.Words.{Tells}
use Rattle.q_validate.specs.Lines.{zeros, Follows}
use Rattle.q_validate.specs.declared.node.Block.{Block}
use Rattle.q_validate.specs.declared.node.Line.{Line}
use Rattle.std.proofs.Common.{refl, ◌∙◌}

-- a formula, a certificate, and values of the first inputs
pub record Spot : Type 0 where
  pub formula : PrenexFormula
  pub certificate : CertificateView
  pub path : List Bool

abbrev pub claim_at : Spot → Claim
claim_at s = claim_of s.formula s.certificate

-- the inputs without a value, and the values of the others
abbrev pub unset : List ℕ → List Bool → Prefix
unset inputs path = rest_of (as_prefix inputs) path

abbrev pub values : List ℕ → List Bool → Assignment
values inputs path = along (as_prefix inputs) path nothing

-- the node of the search where the program stands
abbrev pub node_of : Spot → Node
node_of s = record { rest = unset s.certificate.inputs s.path; values = values s.certificate.inputs s.path }

abbrev pub walk_of : Spot → Walk
walk_of s = record { test = verdict (claim_at s) s.formula.matrix; prefix = as_prefix s.certificate.inputs; path = s.path }

-- what is known of a circuit at the end of a path
abbrev pub known_along : List ℕ → List Bool → Circuit → Option Bool
known_along inputs path t = known (unset inputs path) (values inputs path) t

-- what is known of a literal there, and what is said of a clause and of the formula
abbrev pub literal_along : Claim → List Bool → Literal → Option Bool
literal_along q path k = literal_value q (unset q.inputs path) (values q.inputs path) k

abbrev pub clause_along : Claim → List Bool → Clause → Verdict
clause_along q path C = clause_verdict q (unset q.inputs path) (values q.inputs path) C

abbrev pub clause_known : Claim → List Bool → Clause → Option Bool
clause_known q path C = known_clause q (unset q.inputs path) (values q.inputs path) C

abbrev pub formula_known : Claim → List Bool → Option Bool
formula_known q path = known_clauses q (unset q.inputs path) (values q.inputs path) q.formula.matrix

-- what is known of each of the first gates, at all nodes of a shape below the end of a path
abbrev pub AreTold : {T : Type 0} → (T → (List Bool → Option Bool) → Type 0) → Net → List Bool → List T → Type 0
AreTold Says a path row =
    (g : ℕ) (k : _) → slice_get row g ≡ Some k →
    Says k (λ w. known_along a.inputs (path ++ w) (slice_index_or (gate_trees a.inputs [] a.gates) g (Circuit.constant false)))

-- the same of each gate
abbrev pub IsRow : {T : Type 0} → (T → (List Bool → Option Bool) → Type 0) → CertificateView → List Bool → List T → Type 0
IsRow Says c path row = (length row ≡ length c.gates) × AreTold Says (net_of c) path row

-- what is known of the formula at all nodes of a subtree that holds the end of the path, if this was found
abbrev pub IsBlock : Claim → List Bool → Option Block → Type 0
IsBlock q path None = Unit {0}
IsBlock q path (Some b) =
    (b.base ≤ length path) × Tells b.told (λ w. formula_known q (take b.base path ++ w))

-- the same at all nodes of a line that holds it
abbrev pub IsLine : Claim → List Bool → Option Line → Type 0
IsLine q path None = Unit {0}
IsLine q path (Some l) =
    (l.base ≤ length path) × (path ≡ take l.base path ++ zeros (length path - l.base))
    × Follows l.told (λ w. formula_known q (take l.base path ++ w))

-- what holds of each node
pub record IsStand (F : PrenexFormula) (c : CertificateView) (tb : List (Option ℕ)) (places : PlaceRow) (path : List Bool) (block : Option Block) (line : Option Line) : Type 0 where
  pub net : IsNet (net_of c)
  pub circuits : AreCircuits (net_of c) (trees_of c) tb
  pub are_places : ArePlaces (as_prefix c.inputs) places
  pub trees : (x : ℕ) → given (trees_of c x) ≡ is_existential F.prefix x
  pub within : length path ≤ length c.inputs
  pub told : IsBlock (claim_of F c) path block
  pub straight : IsLine (claim_of F c) path line

-- formula and certificate stay
pub record KeepsClaim (s t : Spot) : Type 0 where
  pub formula : t.formula ≡ s.formula
  pub certificate : t.certificate ≡ s.certificate

pub KeepsClaim-itself : (s : Spot) → KeepsClaim s s
KeepsClaim-itself s = record { formula = refl; certificate = refl }

pub KeepsClaim-on : (s t u : Spot) → KeepsClaim s t → KeepsClaim t u → KeepsClaim s u
KeepsClaim-on s t u p q = record { formula = q.formula ∙ p.formula; certificate = q.certificate ∙ p.certificate }

-- the place of an input, or none for what is no input
abbrev pub IsPlace : List ℕ → ℕ → Option ℕ → Type 0
IsPlace names v None = is_bound (as_prefix names) v ≡ false
IsPlace names v (Some i) = (i ≡ place (as_prefix names) v) × (i < length names) × (is_bound (as_prefix names) v ≡ true)
