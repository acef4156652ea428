-- What the drop of a universal literal leaves.
use Rattle.std.specs.Prelude.{◌≡◌, ℕ, true, List, [], ◌∷◌, Option, None}
use Rattle.q_logic.specs.Prelude.{Literal, negation, Clause, Matrix, Prefix, IsIn, ForallPivot, outer, IsTautology, inner_existential, OutersOf}
use Rattle.q_logic.specs.Reversals.{IsPlainDrop, inner, plain, turned}
use Rattle.q_herbrand.specs.declared.drops.DropKind.{DropKind}
use Rattle.q_herbrand.specs.declared.drops.DropKind.TheVariants.{Turned, Plain, Nothing, Extended}
use Rattle.q_herbrand.specs.declared.reversal.Reversal.{Reversal as Entry}
use Rattle.q_herbrand.specs.Entries.{entries_of}

-- some existential of the clause is inner to u
abbrev pub HasInner : Prefix → Clause → ℕ → Type 0
HasInner P C u = (k : Literal) × IsIn k C × (inner_existential P u k.var ≡ true)

-- which of the four it is, beside the clauses X
abbrev pub IsDropKind : Prefix → Matrix → Clause → Literal → DropKind → Type 0
IsDropKind P X C l Turned = ForallPivot P X C l
IsDropKind P X C l Plain = ¬ ForallPivot P X C l × IsPlainDrop P C l × ¬ IsTautology C
IsDropKind P X C l Nothing = ¬ ForallPivot P X C l × IsPlainDrop P C l × IsTautology C
IsDropKind P X C l Extended = ¬ ForallPivot P X C l × ¬ IsPlainDrop P C l

-- the entry of each kind
abbrev pub IsDropEntry : Prefix → Matrix → Clause → Literal → DropKind → Option Entry → Type 0
IsDropEntry P X C l Turned r =
    (outers : List Clause) × OutersOf P X (negation l) outers × (entries_of r ≡ turned l outers ∷ [])
IsDropEntry P X C l Plain r = entries_of r ≡ plain l (outer P l C) (inner P l C) ∷ []
IsDropEntry P X C l Nothing r = r ≡ None
IsDropEntry P X C l Extended r = ⊥
