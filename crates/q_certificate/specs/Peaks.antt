-- The greatest weight of the inputs that circuits read.
use Rattle.std.specs.Prelude.{◌≡◌, ◌<◌, ◌≤◌, ◌⊎◌, ℕ, ◌-◌, Bool, true, false, cond, List, length, take, slice_index, slice_index_or}
use Rattle.q_logic.specs.Prelude.{Prefix, is_universal, Circuit, Reads, CertificateView}
use Rattle.q_aig.specs.Prelude.{Net, IsNet}
use Rattle.q_certificate.specs.Copied.{tree_of_gate}
use Rattle.q_certificate.specs.Refusals.{ReadsInput}
use Rattle.q_certificate.specs.Testing.{name_at}

-- no input that the circuit reads weighs more, and some weighs so much if this is not 0
pub record IsPeak (a : Net) (weights : List ℕ) (t : Circuit) (m : ℕ) : Type 0 where
  pub bound : (i : ℕ) → i < length a.inputs → Reads t (slice_index_or a.inputs i 0) → slice_index_or weights i 0 ≤ m
  pub met : (m ≡ 0) ⊎ ((i : ℕ) × (i < length a.inputs) × Reads t (slice_index_or a.inputs i 0) × (slice_index_or weights i 0 ≡ m))

-- for each of the first gates
abbrev pub ArePeaks : Net → List ℕ → List ℕ → Type 0
ArePeaks a weights row = (g : ℕ) → g < length row → IsPeak a weights (tree_of_gate a g) (slice_index_or row g 0)

-- for the first outputs together
pub record IsTop (c : CertificateView) (n : ℕ) (weights : List ℕ) (m : ℕ) : Type 0 where
  pub bound : (k i : ℕ) → k < n → ReadsInput c (name_at c k) i → slice_index_or weights i 0 ≤ m
  pub met : (m ≡ 0) ⊎ ((k : ℕ) × (i : ℕ) × (k < n) × ReadsInput c (name_at c k) i × (slice_index_or weights i 0 ≡ m))

-- what is not allowed weighs the more the earlier it stands
abbrev pub AreStrangeWeights : List Bool → ℕ → List ℕ → Type 0
AreStrangeWeights allowed n weights =
    (i : ℕ) → i < n → slice_index_or weights i 0 ≡ cond (slice_index_or allowed i false) 0 (length allowed - i)

-- what stands no deeper than a place is a universal before that place
abbrev pub AreDepths : Prefix → List ℕ → List ℕ → Type 0
AreDepths P names depths =
    (k p : ℕ) → k < length names → p < length P → slice_index depths k ≤ p →
    is_universal (take p P) (slice_index names k) ≡ true

-- how deep each gate reads, where the inputs have these depths
pub record AreGateDepths (a : Net) (depths row : List ℕ) : Type 0 where
  pub inputs : length depths ≡ length a.inputs
  pub gates : length row ≡ length a.gates
  pub peaks : ArePeaks a depths row
  pub net : IsNet a
