-- A derivation of the lines of a cone, and what it takes away.
use Rattle.std.specs.Prelude.{◌≡◌, ℕ, ◌+◌, ◌<◌, List, map, length, slice_get, Option, Some, None}
use Rattle.q_logic.specs.Prelude.{Literal, Prefix, Matrix, is_universal}
use Rattle.q_long.specs.Valued.{Line, IsDerivation, AreOf}
use Rattle.q_long.specs.Decided.{drops}
use Rattle.q_derive.specs.Traces.{Entry, InCone}
use Rattle.q_extract.specs.Saying.{said_in}
use Rattle.q_extract.specs.Merges.{merge_circuits, HavePivotsIn}
use Rattle.q_extract.specs.Rows.{drops_in}
use Rattle.q_extract.specs.declared.drops.Drops.{Drops}
use Rattle.q_extract.specs.declared.said.Sayings.{Sayings}
use Rattle.q_resolve.specs.declared.leaves.Owner.{Owner}
use Rattle.q_resolve.specs.declared.fault.Fault.{Fault}
use Rattle.q_resolve.specs.declared.fault.Wrong.{Wrong}
use Rattle.q_resolve.specs.Sides.{sided, line_values}
use Rattle.q_resolve.specs.Merging.{IsSayingOf, IsReady}
use Rattle.q_resolve.specs.Leaves.{MayStand}
use Rattle.q_resolve.specs.Judged.{AreRight, IsFirst}

-- the literals are those of a line that may stand by itself, read as a term
abbrev pub IsSided : Owner → Matrix → List Literal → Type 0
IsSided o X T = (S : List Literal) × MayStand o X S × (T ≡ map (sided o) S)

-- a line with these literals stands in the derivation, with its merges
pub record IsCovered (o : Owner) (P : Prefix) (lines : List Line) (d : Drops) (f : ℕ → Option ℕ) (T : List Literal) : Type 0 where
  pub saying : IsSayingOf P f T
  pub there : (i : ℕ) × (l : Line) × (slice_get lines i ≡ Some l) × (l.values ≡ line_values (merge_circuits d.merges.items) f o T)

-- the lines of the cone before n stand in a derivation, which takes these drops away
pub record IsDerivedFrom (o : Owner) (P : Prefix) (X : Matrix) (es : List Entry) (n : ℕ) (d : Drops) (s : Sayings) : Type 0 where
  pub lines : List Line
  pub derivation : IsDerivation P (AreOf (IsSided o X)) lines
  pub same : drops_in d ≡ drops lines
  pub covers : (m : ℕ) → m < n → InCone es m → (e : Entry) → slice_get es m ≡ Some e → IsCovered o P lines d (said_in s m) e.literals

-- all lines of the cone before n are right, and these are their drops, over pivots of the opponent
pub record IsStood (o : Owner) (P : Prefix) (X : Matrix) (es : List Entry) (n : ℕ) (d : Drops) (s : Sayings) : Type 0 where
  pub right : AreRight o P X es n
  pub ready : IsReady n d s
  pub pivots : HavePivotsIn (is_universal P) d.merges.items
  pub derived : IsDerivedFrom o P X es n d s

-- the line at n: the lines up to it are right, or it is the first that is not
abbrev pub IsTurn : Owner → Prefix → Matrix → List Entry → ℕ → Drops → Sayings → Option Fault → Type 0
IsTurn o P X es n d s None = IsStood o P X es (n + 1) d s
IsTurn o P X es n d s (Some f) = IsFirst o P X es n f

abbrev pub IsConeJudged : Owner → Prefix → Matrix → List Entry → Drops → Sayings → Option Wrong → Type 0
IsConeJudged o P X es d s None = IsStood o P X es (length es) d s
IsConeJudged o P X es d s (Some w) = IsFirst o P X es w.at w.fault
