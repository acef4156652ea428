-- What the parts of the test answer.
use Rattle.std.specs.Prelude.{◌≡◌, ◌<◌, ℕ, Bool, true, false, List, slice_index_or, Option, Some, None}
use Rattle.q_logic.specs.Prelude.{Prefix, CertificateView}
use Rattle.q_aig.specs.Prelude.{no_output, output_of}
use Rattle.q_certificate.specs.declared.error.Misfit.{Misfit}
use Rattle.q_certificate.specs.declared.error.Misfit.TheVariants.{MissingOutput, StrangeOutput, StrangeInput, Reads as ReadsInner, NoMemory}
use Rattle.q_certificate.specs.Refusals.{first_missing, first_strange, ReadsInput, IsStrangeInput, IsTooInner}

-- the name of an output
abbrev pub name_at : CertificateView → ℕ → ℕ
name_at c k = (slice_index_or c.outputs k (output_of no_output)).name

-- the first input that is read in x and not allowed
abbrev pub IsFirstIn : CertificateView → ℕ → List Bool → Option ℕ → Type 0
IsFirstIn c x allowed None = (i : ℕ) → ReadsInput c x i → slice_index_or allowed i false ≡ true
IsFirstIn c x allowed (Some f) = ReadsInput c x f × (slice_index_or allowed f false ≡ false) × ((i : ℕ) → i < f → ReadsInput c x i → slice_index_or allowed i false ≡ true)

-- the same over the first outputs
abbrev pub IsFirstOver : CertificateView → ℕ → List Bool → Option ℕ → Type 0
IsFirstOver c n allowed None = (k i : ℕ) → k < n → ReadsInput c (name_at c k) i → slice_index_or allowed i false ≡ true
IsFirstOver c n allowed (Some f) = ((k : ℕ) × (k < n) × ReadsInput c (name_at c k) f) × (slice_index_or allowed f false ≡ false) × ((k i : ℕ) → k < n → i < f → ReadsInput c (name_at c k) i → slice_index_or allowed i false ≡ true)

-- what each part of the test may answer
abbrev pub IsNameMisfit : Prefix → CertificateView → Misfit → Type 0
IsNameMisfit P c (MissingOutput v) = first_missing P c ≡ Some v
IsNameMisfit P c (StrangeOutput v) = (first_missing P c ≡ None) × (first_strange P c.outputs ≡ Some v)
IsNameMisfit P c (StrangeInput v) = ⊥
IsNameMisfit P c (ReadsInner v u) = ⊥
IsNameMisfit P c NoMemory = Unit {0}

abbrev pub IsInputMisfit : Prefix → CertificateView → Misfit → Type 0
IsInputMisfit P c (MissingOutput v) = ⊥
IsInputMisfit P c (StrangeOutput v) = ⊥
IsInputMisfit P c (StrangeInput v) = IsStrangeInput P c v
IsInputMisfit P c (ReadsInner v u) = ⊥
IsInputMisfit P c NoMemory = Unit {0}

abbrev pub IsReadMisfit : Prefix → CertificateView → Misfit → Type 0
IsReadMisfit P c (MissingOutput v) = ⊥
IsReadMisfit P c (StrangeOutput v) = ⊥
IsReadMisfit P c (StrangeInput v) = ⊥
IsReadMisfit P c (ReadsInner v u) = IsTooInner P c v u
IsReadMisfit P c NoMemory = Unit {0}
