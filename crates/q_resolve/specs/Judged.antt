-- What the judge says of one line, and of a trace.
use Rattle.std.specs.Prelude.{◌≡◌, ◌↔◌, ◌⊎◌, ℕ, ◌<◌, Bool, cond, nat_lt, true, false, List, [], map, length, slice_index_or, slice_get, Option, Some, None}
use Rattle.q_logic.specs.Prelude.{Literal, Prefix, Matrix, IsIn, PrenexFormula, CertificateView, trees_of, Lawful, SkolemOf}
use Rattle.q_logic.specs.Herbrands.{HerbrandOf}
use Rattle.q_certificate.specs.Prelude.{universals, existentials}
use Rattle.q_derive.specs.Traces.{Entry, Sources, none, one, two, Parents, nothing, missing, single, double, parents, earlier, IsNamed, literals_in, IsPivot, resolvent, MayMerge, MergesOnly, IsKept, IsShed, IsLeaf, AreBound, Stands, IsRight, InCone, IsEnd, IsEndless, IsTermTrace, IsClauseTrace}
use Rattle.q_extract.specs.declared.drops.Drops.{Drops}
use Rattle.q_extract.specs.declared.said.Sayings.{Sayings}
use Rattle.q_extract.specs.Saying.{said_in}
use Rattle.q_extract.specs.Rows.{said_next}
use Rattle.q_qrp.specs.Lines.{Line, Proof}
use Rattle.q_qrp.specs.declared.trace.Antecedents.{Antecedents}
use Rattle.q_qrp.specs.declared.trace.Antecedents.TheVariants.{Zero, One, Two}
use Rattle.q_resolve.specs.declared.leaves.Owner.{Owner}
use Rattle.q_resolve.specs.declared.leaves.Owner.TheVariants.{Exists, Forall}
use Rattle.q_resolve.specs.declared.fault.Fault.{Fault}
use Rattle.q_resolve.specs.declared.fault.Fault.TheVariants.{Unbound, Missing, NoLeaf, NoPivot, Merged, Lost, Shed}
use Rattle.q_resolve.specs.declared.finding.Found.{Found}
use Rattle.q_resolve.specs.declared.finding.Found.TheVariants.{Nothing, Gone, Single, Double}
use Rattle.q_resolve.specs.declared.lines.Tried.{Tried}
use Rattle.q_resolve.specs.declared.lines.Tried.TheVariants.{Resolved, Wrong}
use Rattle.q_resolve.specs.declared.judged.Judged.{Judged}
use Rattle.q_resolve.specs.declared.judged.Judged.TheVariants.{Proved, Refused}
use Rattle.q_resolve.specs.Faults.{IsLeastFault, number_of}
use Rattle.q_resolve.specs.Leaves.{MayStand, prefix_for}
use Rattle.q_resolve.specs.Reduced.{IsSame}
use Rattle.q_resolve.specs.Merging.{IsSaidSame, IsSaidUpto, IsKeptSaid, IsTakenFrom}

-- the lines of a text as lines of a trace
abbrev pub sources_of : Antecedents → Sources
sources_of Zero = none
sources_of (One a) = one a
sources_of (Two a b) = two a b

abbrev pub entry_of : Line → Entry
entry_of l = record { number = l.row.id; literals = l.literals; sources = sources_of l.row.antecedents }

abbrev pub entries_of : List Line → List Entry
entries_of lines = map entry_of lines

-- the named lines, by their places
abbrev pub found_parents : List Entry → Found → Parents
found_parents es Nothing = nothing
found_parents es Gone = missing
found_parents es (Single i) = single (literals_in (slice_get es i))
found_parents es (Double i j) = double (literals_in (slice_get es i)) (literals_in (slice_get es j))

abbrev pub found_one : Option ℕ → Found
found_one None = Gone
found_one (Some i) = Single i

abbrev pub found_two : Option ℕ → Option ℕ → Found
found_two None j = Gone
found_two (Some i) None = Gone
found_two (Some i) (Some j) = Double i j

-- the places of the named lines before n
abbrev pub found_of : List Entry → ℕ → Sources → Found
found_of es n none = Nothing
found_of es n (one a) = found_one (earlier es n a)
found_of es n (two a b) = found_two (earlier es n a) (earlier es n b)

abbrev pub AreBefore : ℕ → Found → Type 0
AreBefore n Nothing = Unit {0}
AreBefore n Gone = Unit {0}
AreBefore n (Single i) = i < n
AreBefore n (Double i j) = (i < n) × (j < n)

abbrev pub AreParentsBound : Prefix → Parents → Type 0
AreParentsBound P nothing = Unit {0}
AreParentsBound P missing = Unit {0}
AreParentsBound P (single S) = AreBound P S
AreParentsBound P (double S U) = AreBound P S × AreBound P U

-- a literal of the first line is a pivot, and all that is merged may be
abbrev pub IsUsable : Prefix → List Literal → List Literal → List Literal → Literal → Type 0
IsUsable P S U T k = IsPivot P S U k × MayMerge P S U k × MergesOnly P (resolvent S U k) T

-- why a literal of the first line will not do as a pivot
abbrev pub IsBad : Prefix → List Literal → List Literal → List Literal → Literal → Fault → Type 0
IsBad P S U T k Unbound = ⊥
IsBad P S U T k Missing = ⊥
IsBad P S U T k NoLeaf = ⊥
IsBad P S U T k NoPivot = ¬ IsPivot P S U k
IsBad P S U T k Merged = ¬ IsUsable P S U T k
IsBad P S U T k Lost = IsUsable P S U T k → ¬ IsKept P (resolvent S U k) T
IsBad P S U T k Shed = IsUsable P S U T k → IsKept P (resolvent S U k) T → ¬ IsShed P (resolvent S U k) T

-- some literal has no lower fault
abbrev pub IsReached : Prefix → List Literal → List Literal → List Literal → Fault → Type 0
IsReached P S U T Unbound = ⊥
IsReached P S U T Missing = ⊥
IsReached P S U T NoLeaf = ⊥
IsReached P S U T NoPivot = Unit {0}
IsReached P S U T Merged = (k : Literal) × IsPivot P S U k
IsReached P S U T Lost = (k : Literal) × IsUsable P S U T k
IsReached P S U T Shed = (k : Literal) × IsUsable P S U T k × IsKept P (resolvent S U k) T

-- the literals of V will not do, and this is the last of their faults
abbrev pub IsWorst : Prefix → List Literal → List Literal → List Literal → List Literal → Fault → Type 0
IsWorst P S U T V f = IsReached P S U T f × ((k : Literal) → IsIn k V → IsBad P S U T k f)

-- the resolvent R by k reduces to T
abbrev pub IsResolved : Prefix → List Literal → List Literal → List Literal → Literal → List Literal → Type 0
IsResolved P S U T k R =
    IsUsable P S U T k × IsKept P (resolvent S U k) T × IsShed P (resolvent S U k) T × IsSame (resolvent S U k) R

abbrev pub IsTrial : Prefix → List Literal → List Literal → List Literal → Literal → List Literal → Option Fault → Type 0
IsTrial P S U T k R None = IsResolved P S U T k R
IsTrial P S U T k R (Some f) = IsReached P S U T f × IsBad P S U T k f

abbrev pub IsTried : Prefix → List Literal → List Literal → List Literal → List Literal → Tried → Type 0
IsTried P S U T R (Resolved k) = IsResolved P S U T k R
IsTried P S U T R (Wrong f) = IsWorst P S U T S f

-- the fault with the higher number
abbrev pub later_of : Fault → Fault → Fault
later_of f g = cond (nat_lt (number_of f) (number_of g)) g f

-- a line with T, of the number n, that follows from R: what it says, and what it takes away
pub record IsDone (o : Owner) (P : Prefix) (R T : List Literal) (n : ℕ) (old new : Drops) (s t : Sayings) : Type 0 where
  pub kept : IsKeptSaid P T n (said_next old) s t
  pub taken : IsTakenFrom o P R T old new

-- a line that follows from one with S
abbrev pub IsSingleStep : Owner → Prefix → List Literal → List Literal → (ℕ → Option ℕ) → ℕ → Drops → Drops → Sayings → Sayings → Type 0
IsSingleStep o P S T f n old new s t =
    MergesOnly P S T × IsKept P S T × IsShed P S T ×
    (mid : Drops) × IsSaidSame f S old mid × IsDone o P S T n mid new s t

-- a line that follows from two, with S and U
abbrev pub IsDoubleStep : Owner → Prefix → List Literal → List Literal → List Literal → (ℕ → Option ℕ) → (ℕ → Option ℕ) → ℕ → Drops → Drops → Sayings → Sayings → Type 0
IsDoubleStep o P S U T f g n old new s t =
    (k : Literal) × (R : List Literal) × IsResolved P S U T k R ×
    (mid : Drops) × IsSaidUpto o P k f g S U R R old mid × IsDone o P R T n mid new s t

-- a line that may stand by itself alone: no fault where it does
abbrev pub IsLeafJudged : Prefix → (List Literal → Type 0) → List Literal → Fault → Option Fault → Type 0
IsLeafJudged P L T f None = IsLeaf P L T
IsLeafJudged P L T f (Some g) = (g ≡ f) × ¬ IsLeaf P L T

-- the literals of the line at a place
abbrev pub line_at : List Entry → ℕ → List Literal
line_at es i = literals_in (slice_get es i)

-- what any line says and takes away
abbrev pub IsAnyStep : Owner → Prefix → List Entry → ℕ → Found → List Literal → Drops → Drops → Sayings → Sayings → Type 0
IsAnyStep o P es n Nothing T old new s t = (new ≡ old) × (t ≡ s)
IsAnyStep o P es n Gone T old new s t = (new ≡ old) × (t ≡ s)
IsAnyStep o P es n (Single i) T old new s t = IsSingleStep o P (line_at es i) T (said_in s i) n old new s t
IsAnyStep o P es n (Double i j) T old new s t =
    IsDoubleStep o P (line_at es i) (line_at es j) T (said_in s i) (said_in s j) n old new s t

abbrev pub IsLineJudged : Owner → Prefix → Matrix → List Entry → ℕ → Found → List Literal → Drops → Drops → Sayings → Sayings → Option Fault → Type 0
IsLineJudged o P X es n found T old new s t None =
    AreBound P T × Stands P (MayStand o X) (found_parents es found) T × IsAnyStep o P es n found T old new s t
IsLineJudged o P X es n found T old new s t (Some f) = IsLeastFault P (MayStand o X) (found_parents es found) T f

-- the same of a line that follows from one, or from two
abbrev pub IsSingleJudged : Owner → Prefix → List Literal → List Literal → (ℕ → Option ℕ) → ℕ → Drops → Drops → Sayings → Sayings → Option Fault → Type 0
IsSingleJudged o P S T f n old new s t None = IsSingleStep o P S T f n old new s t
IsSingleJudged o P S T f n old new s t (Some x) = IsLeastFault P (λ V. Unit {0}) (single S) T x

abbrev pub IsDoubleJudged : Owner → Prefix → List Literal → List Literal → List Literal → (ℕ → Option ℕ) → (ℕ → Option ℕ) → ℕ → Drops → Drops → Sayings → Sayings → Option Fault → Type 0
IsDoubleJudged o P S U T f g n old new s t None = IsDoubleStep o P S U T f g n old new s t
IsDoubleJudged o P S U T f g n old new s t (Some x) = IsLeastFault P (λ V. Unit {0}) (double S U) T x

-- the sources of a line, if it is there
abbrev pub sources_in : Option Entry → Sources
sources_in None = none
sources_in (Some e) = e.sources

-- from what the line at a place follows
abbrev pub parents_at : List Entry → ℕ → Parents
parents_at es n = parents es n (sources_in (slice_get es n))

-- the places of the lines from which the line at a place follows
abbrev pub found_at : List Entry → ℕ → Found
found_at es n = found_of es n (sources_in (slice_get es n))

-- the last of the first n lines that has no literals
abbrev pub IsEndUpto : List Entry → ℕ → Option ℕ → Type 0
IsEndUpto es n None = (i : ℕ) → i < n → (e : Entry) → slice_get es i ≡ Some e → ¬ (e.literals ≡ [])
IsEndUpto es n (Some m) =
    (m < n) × ((e : Entry) × (slice_get es m ≡ Some e) × (e.literals ≡ [])) ×
    ((i : ℕ) → m < i → i < n → (e : Entry) → slice_get es i ≡ Some e → ¬ (e.literals ≡ []))

abbrev pub IsEndOf : List Entry → Option ℕ → Type 0
IsEndOf es None = IsEndless es
IsEndOf es (Some n) = IsEnd es n × (n < length es)

-- so many marks, none of which is set
pub record AreClear (n : ℕ) (marks : List Bool) : Type 0 where
  pub size : length marks ≡ n
  pub clear : (i : ℕ) → slice_index_or marks i false ≡ false

-- the marks are those of the cone
pub record AreCone (es : List Entry) (marks : List Bool) : Type 0 where
  pub size : length marks ≡ length es
  pub there : (n : ℕ) → (slice_index_or marks n false ≡ true) ↔ InCone es n

-- the sources of a line are marked as well
abbrev pub AreMarkedBy : List Entry → ℕ → Sources → List Bool → List Bool → Type 0
AreMarkedBy es n s old new =
    (length new ≡ length old) ×
    ((i : ℕ) → (slice_index_or new i false ≡ true) ↔ ((slice_index_or old i false ≡ true) ⊎ ((a : ℕ) × IsNamed s a × (earlier es n a ≡ Some i))))

-- the fault of the line at a place, which is in the cone
abbrev pub IsFaultAt : Owner → Prefix → Matrix → List Entry → ℕ → Fault → Type 0
IsFaultAt o P X es n f = IsLeastFault P (MayStand o X) (parents_at es n) (literals_in (slice_get es n)) f

-- all lines of the cone before n are right
abbrev pub AreRight : Owner → Prefix → Matrix → List Entry → ℕ → Type 0
AreRight o P X es n = (m : ℕ) → m < n → InCone es m → (e : Entry) → slice_get es m ≡ Some e → IsRight P (MayStand o X) es m e

-- the first line of the cone that is not right, with its least fault
abbrev pub IsFirst : Owner → Prefix → Matrix → List Entry → ℕ → Fault → Type 0
IsFirst o P X es n f = InCone es n × (n < length es) × AreRight o P X es n × IsFaultAt o P X es n f

-- the first fault of a trace: there is no end, and the empty line is no leaf; or a line of the cone
abbrev pub IsFirstFault : Owner → PrenexFormula → Proof → ℕ → ℕ → Type 0
IsFirstFault o F proof line cause =
    (IsEndless (entries_of proof.lines) × (¬ MayStand o F.matrix []) × (line ≡ proof.place) × (cause ≡ 5)) ⊎
    ((n : ℕ) × (l : Line) × (f : Fault) × (slice_get proof.lines n ≡ Some l) × (line ≡ l.row.place) × (cause ≡ number_of f) ×
    IsFirst o (prefix_for o F.prefix) F.matrix (entries_of proof.lines) n f)

-- the refusal of a line
abbrev pub IsRefusal : Proof → ℕ → Fault → Judged → Type 0
IsRefusal proof n f (Proved made) = ⊥
IsRefusal proof n f (Refused line cause) =
    (l : Line) × (slice_get proof.lines n ≡ Some l) × (line ≡ l.row.place) × (cause ≡ number_of f)

-- a trace of the owner
abbrev pub IsProofOf : Owner → PrenexFormula → List Entry → Type 0
IsProofOf Exists F es = IsTermTrace F es
IsProofOf Forall F es = IsClauseTrace F es

-- the circuits decide the formula
abbrev pub Decide : Owner → PrenexFormula → CertificateView → Type 0
Decide Exists F made = SkolemOf F (trees_of made)
Decide Forall F made = HerbrandOf F (trees_of made)

-- circuits of the owner's variables over the others before them, in the order of the prefix
pub record IsMadeFor (P : Prefix) (made : CertificateView) : Type 0 where
  pub inputs : made.inputs ≡ universals P
  pub outputs : map (λ o. o.name) made.outputs ≡ existentials P
  pub lawful : Lawful P (trees_of made)

-- what the judge says of a trace
abbrev pub IsAnswer : Owner → PrenexFormula → Proof → Judged → Type 0
IsAnswer o F proof (Proved made) =
    IsProofOf o F (entries_of proof.lines) × IsMadeFor (prefix_for o F.prefix) made × Decide o F made
IsAnswer o F proof (Refused line cause) =
    (¬ IsProofOf o F (entries_of proof.lines)) × IsFirstFault o F proof line cause

abbrev pub IsCertified : PrenexFormula → Proof → Judged → Type 0
IsCertified F proof judged = IsAnswer Exists F proof judged

abbrev pub IsRefuted : PrenexFormula → Proof → Judged → Type 0
IsRefuted F proof judged = IsAnswer Forall F proof judged
