-- A prefix of quantified variables (QDIMACS 1.1), and where each variable is scoped: the number of its
-- block, and its neighbours.
use Rattle.std.specs.Prelude.{◌≡◌, ◌≢◌, ◌^◌, ℕ, zero, suc, ◌+◌, ◌<◌, ◌&&◌, Bool, true, false, cond, eqb, List, [], ◌∷◌, Option, None, Some, slice_index_or, set, length}
use Rattle.q_logic.specs.declared.formulas.Quant.{Quant}
use Rattle.q_logic.specs.declared.formulas.Bound.{Bound}
use Rattle.q_logic.specs.Prelude.{bool_eq, Prefix, IsNext, Distinct, is_bound, same_quant, is_exists}
use Rattle.q_pages.specs.Rows.{Row, IsMade}
use Rattle.q_judge.specs.declared.bindings.Binding.{Binding}

-- the binding of a variable
abbrev pub binding_at : List (Option Binding) → ℕ → Option Binding
binding_at bindings v = slice_index_or bindings v None

abbrev pub rank_in : Option Binding → ℕ
rank_in None = 0
rank_in (Some s) = s.rank

-- the number of a variable's block
abbrev pub rank_at : List (Option Binding) → ℕ → ℕ
rank_at bindings v = rank_in (binding_at bindings v)

abbrev pub after_in : Option Binding → Option ℕ
after_in None = None
after_in (Some s) = s.after

-- the first variable of a prefix, and else the one that follows it
abbrev pub first_or : Prefix → Option ℕ → Option ℕ
first_or [] n = n
first_or (b ∷ P) n = Some b.var

-- the last variable of a prefix, and else the one that comes before it
abbrev pub last_or : Prefix → Option Bound → Option Bound
last_or [] o = o
last_or (b ∷ P) o = last_or P (Some b)

abbrev pub var_of : Option Bound → Option ℕ
var_of None = None
var_of (Some b) = Some b.var

-- a variable's binding tells its quantifier, and what stands beside it
pub record IsBindingOf (f : ℕ → Option Binding) (o : Option Bound) (b : Bound) (n : Option ℕ) : Type 0 where
  pub binding : Binding
  pub there : f b.var ≡ Some binding
  pub quant : binding.quant ≡ b.quant
  pub before : binding.before ≡ var_of o
  pub after : binding.after ≡ n

-- the variables of a prefix are linked in order, between two others
abbrev pub AreLinked : (ℕ → Option Binding) → Option Bound → Prefix → Option ℕ → Type 0
AreLinked f o [] n = Unit {0}
AreLinked f o (b ∷ P) n = IsBindingOf f o b (first_or P n) × AreLinked f (Some b) P n

abbrev pub Follows : (ℕ → ℕ) → Option Bound → Bound → Type 0
Follows rank None c = Unit {0}
Follows rank (Some b) c = IsNext rank b c

-- the numbers tell the order of the blocks, where a variable stands before
abbrev pub AreRanked : (ℕ → ℕ) → Option Bound → Prefix → Type 0
AreRanked rank o [] = Unit {0}
AreRanked rank o (c ∷ P) = Follows rank o c × AreRanked rank (Some c) P

-- how many variables are in a block
abbrev pub in_block : (ℕ → ℕ) → ℕ → Prefix → ℕ
in_block rank r [] = 0
in_block rank r (b ∷ P) = cond (eqb (rank b.var) r) (in_block rank r P + 1) (in_block rank r P)

-- each variable of the prefix is scoped, and no other one
pub record AreScoped (P : Prefix) (first : Option ℕ) (bindings : List (Option Binding)) (counts : List ℕ) : Type 0 where
  pub distinct : Distinct P
  pub first_is : first ≡ first_or P None
  pub linked : AreLinked (binding_at bindings) None P None
  pub only : (v : ℕ) (s : Binding) → binding_at bindings v ≡ Some s → is_bound P v ≡ true
  pub ranked : AreRanked (rank_at bindings) None P
  pub counted : (r : ℕ) → slice_index_or counts r 0 ≡ in_block (rank_at bindings) r P

-- a variable that is scoped, before others
abbrev pub scoped_before : ℕ → Option Binding → Prefix → Prefix
scoped_before v None P = []
scoped_before v (Some s) P = record { quant = s.quant; var = v } ∷ P

-- the variables from one on, each with its quantifier, but no more than a number of them
abbrev pub bounds_from : List (Option Binding) → Option ℕ → ℕ → Prefix
bounds_from bindings None n = []
bounds_from bindings (Some v) zero = []
bounds_from bindings (Some v) (suc n) = scoped_before v (binding_at bindings v) (bounds_from bindings (after_in (binding_at bindings v)) n)

-- a row of this length has a place for each variable
abbrev pub HaveRoom : Prefix → ℕ → Type 0
HaveRoom P n = (v : ℕ) → is_bound P v ≡ true → v < n

-- the row has memory for the binding of each variable
abbrev pub HavePages : Prefix → Row (Option Binding) → Type 0
HavePages P r = (v : ℕ) → is_bound P v ≡ true → IsMade r v

-- the number of the next variable's block, where a variable with a number stands before
abbrev pub next_rank : Option Bound → ℕ → Quant → ℕ
next_rank None n q = n
next_rank (Some b) n q = cond (same_quant b.quant q) n (n + 1)

-- the blocks are numbered without a gap, where a variable with a number stands before
abbrev pub IsNumbered : (ℕ → ℕ) → Option Bound → ℕ → Prefix → Type 0
IsNumbered rank o n [] = Unit {0}
IsNumbered rank o n (b ∷ P) = (rank b.var ≡ next_rank o n b.quant) × IsNumbered rank (Some b) (next_rank o n b.quant) P

-- the bindings of a prefix whose blocks are numbered from 0 on
pub record AreNumbered (P : Prefix) (bindings : List (Option Binding)) (counts : List ℕ) : Type 0 where
  pub scoped : AreScoped P (first_or P None) bindings counts
  pub numbered : IsNumbered (rank_at bindings) None 0 P

-- no binding twice, or the same block's number and quantifier
abbrev pub is_same_binding : Option Binding → Option Binding → Bool
is_same_binding None None = true
is_same_binding None (Some t) = false
is_same_binding (Some s) None = false
is_same_binding (Some s) (Some t) = eqb s.rank t.rank && bool_eq (is_exists s.quant) (is_exists t.quant)

-- whether it is this variable
abbrev pub is_there : Option ℕ → ℕ → Bool
is_there None v = false
is_there (Some w) v = eqb w v

abbrev pub with_after : Option ℕ → Option Binding → Option Binding
with_after n None = None
with_after n (Some s) = Some (record { rank = s.rank; quant = s.quant; before = s.before; after = n })

abbrev pub with_before : Option ℕ → Option Binding → Option Binding
with_before o None = None
with_before o (Some s) = Some (record { rank = s.rank; quant = s.quant; before = o; after = s.after })

abbrev pub with_rank : ℕ → Option Binding → Option Binding
with_rank r None = None
with_rank r (Some s) = Some (record { rank = r; quant = s.quant; before = s.before; after = s.after })

-- the bindings of one number get another one
abbrev pub renumbered : ℕ → ℕ → Option Binding → Option Binding
renumbered from to o = cond (eqb (rank_in o) from) (with_rank to o) o

-- the bindings of some variables have changed, and no others
abbrev pub HaveChanged : (ℕ → Bool) → (Option Binding → Option Binding) → List (Option Binding) → List (Option Binding) → Type 0
HaveChanged test change old new = (v : ℕ) → binding_at new v ≡ cond (test v) (change (binding_at old v)) (binding_at old v)

abbrev pub is_among : List ℕ → ℕ → Bool
is_among [] v = false
is_among (x ∷ S) v = cond (eqb x v) true (is_among S v)

-- the neighbour in one direction
abbrev pub beside : Bool → Binding → Option ℕ
beside forward s = cond forward s.after s.before

-- the variables stand side by side, from one on in one direction
abbrev pub IsRun : (ℕ → Option Binding) → Bool → Option ℕ → List ℕ → Type 0
IsRun f forward o [] = Unit {0}
IsRun f forward o (x ∷ S) = (o ≡ Some x) × (is_among S x ≡ false) × (s : Binding) × (f x ≡ Some s) × IsRun f forward (beside forward s) S

-- the first variable, where what stands behind one changes, or in front of all
abbrev pub first_after : Option ℕ → Option ℕ → Option ℕ → Option ℕ
first_after None n first = n
first_after (Some v) n first = first

-- a block that begins at a variable can take another number
pub record IsMovable (bindings : List (Option Binding)) (counts : List ℕ) (start : Option ℕ) (from to : ℕ) (forward : Bool) : Type 0 where
  pub vars : List ℕ
  pub run : IsRun (binding_at bindings) forward start vars
  pub size : length vars ≡ slice_index_or counts from 0
  pub all_there : (v : ℕ) (s : Binding) → binding_at bindings v ≡ Some s → is_among vars v ≡ eqb s.rank from
  pub from_in : from < length counts
  pub to_in : to < length counts
  pub apart : from ≢ to
  pub few : slice_index_or counts from 0 + slice_index_or counts to 0 < 2 ^ 63

-- the block took the other number
pub record IsMoved (bindings : List (Option Binding)) (counts : List ℕ) (from to : ℕ) (bindings' : List (Option Binding)) (counts' : List ℕ) : Type 0 where
  pub bindings_are : (v : ℕ) → binding_at bindings' v ≡ renumbered from to (binding_at bindings v)
  pub counts_are : counts' ≡ set (set counts from 0) to (slice_index_or counts to 0 + slice_index_or counts from 0)
  pub long : length bindings' ≡ length bindings
