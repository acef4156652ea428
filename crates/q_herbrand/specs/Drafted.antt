-- Circuits copied into a graph over slots, and out of it.
use Rattle.std.specs.Prelude.{◌≡◌, ◌≤◌, ◌<◌, ℕ, ◌+◌, Bool, true, false, List, length, slice_index_or, Option, Some, None}
use Rattle.q_logic.specs.Prelude.{Circuit, input, Prefix, PrenexFormula, is_existential, CertificateView, trees_of, Lawful, ProofStep, standard}
use Rattle.q_logic.specs.Herbrands.{LawfulHerbrand}
use Rattle.q_logic.specs.Exchanging.{exchanged}
use Rattle.q_logic.specs.Reversals.{Reversal, Forth, Reversals as ReversalsOf}
use Rattle.q_refutation.specs.Refutations.{AreMade}
use Rattle.q_aig.specs.Prelude.{Net, IsLiteral, tree_at, operand_of, marked_count}
use Rattle.q_certificate.specs.Prelude.{look_at, AreLiterals, IsAt, AreExistentials, copied_operand, HasCones}
use Rattle.q_herbrand.specs.declared.building.Settled.{Settled}
use Rattle.q_herbrand.specs.declared.drafting.Draft.{Draft}
use Rattle.q_herbrand.specs.Under.{under}
use Rattle.q_herbrand.specs.Inputs.{has_input}
use Rattle.q_herbrand.specs.Covered.{AreCovered, weights}
use Rattle.q_herbrand.specs.Following.{Follows, IsReady}

abbrev pub either : Option ℕ → Option ℕ → Option ℕ
either (Some l) m = Some l
either None m = m

-- the first row, and the second where that has none
abbrev pub AreMerged : List (Option ℕ) → List (Option ℕ) → List (Option ℕ) → Type 0
AreMerged tb ins row = (x : ℕ) → look_at row x ≡ either (look_at tb x) (look_at ins x)

-- circuits that are lawful for the end of steps with these reversals, which may be made
pub record IsLawfulRun (F : PrenexFormula) (rs : List Reversal) (gave : CertificateView) : Type 0 where
  pub last : PrenexFormula
  pub steps : List ProofStep
  pub made : AreMade false standard F steps last
  pub reversals : ReversalsOf F steps rs
  pub lawful : LawfulHerbrand last.prefix (trees_of gave)

-- a graph without gates got those that the circuits need; the row has the circuits, and the inputs where there is none
pub record IsCopiedInto (old new : Net) (ins : List (Option ℕ)) (gave : CertificateView) (row : List (Option ℕ)) :
    Type 0 where
  pub inputs : new.inputs ≡ old.inputs
  pub gates : length new.gates ≤ length old.gates + length gave.gates
  pub cones : (marks : List Bool) → HasCones gave marks → length new.gates ≤ length old.gates + marked_count marks
  pub literals : AreLiterals new row
  pub at : (P : Prefix) → Lawful (exchanged P) (trees_of gave) →
      ((x : ℕ) → is_existential P x ≡ true → has_input ins x ≡ true) → (tb : List (Option ℕ)) ×
      AreMerged tb ins row × IsAt new ins tb (has_input ins) (trees_of gave)

-- so many inputs, each named by its place
pub record AreByPlaces (n : ℕ) (names : List ℕ) : Type 0 where
  pub room : length names ≡ n
  pub each : (i : ℕ) → i < n → slice_index_or names i 0 ≡ i

-- the input that is named by the variable of a place
abbrev pub variable_at : List ℕ → ℕ → Circuit
variable_at names i = input (slice_index_or names i 0)

-- inputs are named by their places; with the variables in place of these, each literal stands for what it stood for
pub record IsByPlaces (named new : Net) : Type 0 where
  pub inputs : AreByPlaces (length named.inputs) new.inputs
  pub gates : length new.gates ≡ length named.gates
  pub trees : (l : ℕ) → IsLiteral named l →
      IsLiteral new l × (under (variable_at named.inputs) (tree_at new l) ≡ tree_at named l)

-- the draft of the circuits, with the entries taken
pub record IsDrafted (opened : Net) (ins : List (Option ℕ)) (gave : CertificateView) (rs : List Reversal) (d :
    Draft) : Type 0 where
  pub inputs : d.tables.inputs.items ≡ ins
  pub ready : IsReady d.aig ins d.tables.circuits.items d.slots
  pub gates : length d.aig.gates ≤ length gave.gates + weights rs
  pub cones : (marks : List Bool) → HasCones gave marks → length d.aig.gates ≤ marked_count marks + weights rs
  pub follows : (P : Prefix) → Lawful (exchanged P) (trees_of gave) →
      ((x : ℕ) → is_existential P x ≡ true → has_input ins x ≡ true) →
      AreCovered (has_input ins) rs (trees_of gave) →
      Follows d.aig ins d.tables.circuits.items d.slots (Forth rs (trees_of gave))

-- the rows that were built are those of the draft
pub record IsWritten (d : Draft) (m : Settled) : Type 0 where
  pub circuits : AreLiterals d.aig d.tables.circuits.items
  pub room : length m.gates.items ≡ length d.aig.gates

-- the literal is that of a circuit of the draft
abbrev pub IsBuiltFrom : Draft → Settled → Option ℕ → ℕ → Type 0
IsBuiltFrom d m None k = k ≡ 0
IsBuiltFrom d m (Some l) k =
    operand_of k ≡ copied_operand d.aig.inputs m.slots.items m.gates.items (operand_of l)

-- the circuits of the existentials of a prefix, and no others
pub record IsChosen (P : Prefix) (d : Draft) (m : Settled) (row : List (Option ℕ)) : Type 0 where
  pub existentials : AreExistentials P row
  pub built : (x k : ℕ) → look_at row x ≡ Some k → IsBuiltFrom d m (look_at d.tables.circuits.items x) k
