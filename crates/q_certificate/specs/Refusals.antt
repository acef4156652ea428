-- Why circuits do not fit a prefix.
use Rattle.std.specs.Prelude.{◌≡◌, ◌<◌, ◌&&◌, ℕ, true, false, not, cond, [], ◌∷◌, List, length, slice_index_or, slice_get, Option, Some, None}
use Rattle.q_logic.specs.declared.formulas.Bound.{Bound}
use Rattle.q_logic.specs.Prelude.{Prefix, is_exists, is_existential, is_universal, universal_before, Reads, NamedOutput, CertificateView, trees_of, circuit_of, given}
use Rattle.q_certificate.specs.declared.error.Misfit.{Misfit}
use Rattle.q_certificate.specs.declared.error.Misfit.TheVariants.{MissingOutput, StrangeOutput, StrangeInput, Reads as ReadsInner, NoMemory}

-- the first existential of the prefix without a circuit
abbrev pub first_missing : Prefix → CertificateView → Option ℕ
first_missing [] c = None
first_missing (b ∷ P) c = cond (is_exists b.quant && not (given (trees_of c b.var))) (Some b.var) (first_missing P c)

-- the first name that is no existential of the prefix
abbrev pub first_strange : Prefix → List NamedOutput → Option ℕ
first_strange P [] = None
first_strange P (o ∷ os) = cond (is_existential P o.name) (first_strange P os) (Some o.name)

abbrev pub input_name : CertificateView → ℕ → ℕ
input_name c i = slice_index_or c.inputs i 0

-- the circuit of x reads the input at the place i
abbrev pub ReadsInput : CertificateView → ℕ → ℕ → Type 0
ReadsInput c x i = (given (trees_of c x) ≡ true) × (i < length c.inputs) × Reads (circuit_of (trees_of c) x) (input_name c i)

-- the first input in a circuit that is no universal of the prefix
pub record IsStrangeInput (P : Prefix) (c : CertificateView) (v : ℕ) : Type 0 where
  pub place : ℕ
  pub named : input_name c place ≡ v
  pub strange : is_universal P v ≡ false
  pub read : (x : ℕ) × ReadsInput c x place
  pub first : (i x : ℕ) → i < place → ReadsInput c x i → is_universal P (input_name c i) ≡ true

abbrev pub NoStrangeInput : Prefix → CertificateView → Type 0
NoStrangeInput P c = (i x : ℕ) → ReadsInput c x i → is_universal P (input_name c i) ≡ true

-- the circuit of x reads only universals before x
abbrev pub IsOuter : Prefix → CertificateView → ℕ → Type 0
IsOuter P c x = (i : ℕ) → ReadsInput c x i → universal_before P (input_name c i) x ≡ true

-- the first existential whose circuit reads what does not stand before it, and its first such input
pub record IsTooInner (P : Prefix) (c : CertificateView) (x u : ℕ) : Type 0 where
  pub at : ℕ
  pub bound : Bound
  pub is : slice_get P at ≡ Some bound
  pub existential : is_exists bound.quant ≡ true
  pub var : bound.var ≡ x
  pub outer_before : (j : ℕ) → (b : Bound) → j < at → slice_get P j ≡ Some b → is_exists b.quant ≡ true → IsOuter P c b.var
  pub place : ℕ
  pub named : input_name c place ≡ u
  pub read : ReadsInput c x place
  pub inner : universal_before P u x ≡ false
  pub first : (i : ℕ) → i < place → ReadsInput c x i → universal_before P (input_name c i) x ≡ true

abbrev pub AllOuter : Prefix → CertificateView → Type 0
AllOuter P c = (j : ℕ) → (b : Bound) → slice_get P j ≡ Some b → is_exists b.quant ≡ true → IsOuter P c b.var

-- none of the four comes
pub record Fits (P : Prefix) (c : CertificateView) : Type 0 where
  pub none_missing : first_missing P c ≡ None
  pub none_strange : first_strange P c.outputs ≡ None
  pub inputs : NoStrangeInput P c
  pub outer : AllOuter P c

-- which of the four comes
abbrev pub IsMisfit : Prefix → CertificateView → Misfit → Type 0
IsMisfit P c (MissingOutput v) = first_missing P c ≡ Some v
IsMisfit P c (StrangeOutput v) = (first_missing P c ≡ None) × (first_strange P c.outputs ≡ Some v)
IsMisfit P c (StrangeInput v) =
    (first_missing P c ≡ None) × (first_strange P c.outputs ≡ None) × IsStrangeInput P c v
IsMisfit P c (ReadsInner v u) =
    (first_missing P c ≡ None) × (first_strange P c.outputs ≡ None) × NoStrangeInput P c × IsTooInner P c v u
IsMisfit P c NoMemory = Unit {0}
