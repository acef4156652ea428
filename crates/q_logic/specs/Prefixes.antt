-- The order of a prefix. (QDIMACS 1.1; neighbours of one quantifier form one block.)
use Rattle.std.specs.Prelude.{◌≡◌, ◌↔◌, ℕ, Bool, true, false, cond, not, ◌&&◌, eqb, List, [], ◌∷◌, ◌⊎◌, ◌≤◌, ◌<◌, zero, suc}
use Rattle.q_logic.specs.declared.formulas.Quant.{Quant}
use Rattle.q_logic.specs.declared.formulas.Bound.{Bound}
use Rattle.q_logic.specs.declared.formulas.Quant.TheVariants.{Exists, Forall}
use Rattle.q_logic.specs.Literals.{Literal}
use Rattle.q_logic.specs.Formulas.{Clause, Matrix, Prefix, IsIn, PrenexFormula}

-- whether the quantifier is "there is"
abbrev pub is_exists : Quant → Bool
is_exists Exists = true
is_exists Forall = false

-- whether v is an existential variable of the prefix
abbrev pub is_existential : Prefix → ℕ → Bool
is_existential [] v = false
is_existential (b ∷ P) v = cond (eqb b.var v) (is_exists b.quant) (is_existential P v)

-- whether v is a universal variable of the prefix
abbrev pub is_universal : Prefix → ℕ → Bool
is_universal [] v = false
is_universal (b ∷ P) v = cond (eqb b.var v) (not (is_exists b.quant)) (is_universal P v)

-- whether v is a variable of the prefix
abbrev pub is_bound : Prefix → ℕ → Bool
is_bound [] v = false
is_bound (b ∷ P) v = cond (eqb b.var v) true (is_bound P v)

-- whether u is a universal variable that stands before x
abbrev pub universal_before : Prefix → ℕ → ℕ → Bool
universal_before [] u x = false
universal_before (b ∷ P) u x =
    cond (eqb b.var x) false
    (cond (eqb b.var u) (not (is_exists b.quant) && is_bound P x) (universal_before P u x))

-- whether the two quantifiers are equal
abbrev pub same_quant : Quant → Quant → Bool
same_quant Exists q = is_exists q
same_quant Forall q = not (is_exists q)

-- whether a is there, and all variables up to it have the quantifier q
abbrev pub run_to : Quant → Prefix → ℕ → Bool
run_to q [] a = false
run_to q (b ∷ P) a = same_quant q b.quant && cond (eqb b.var a) true (run_to q P a)

-- whether a stands at or before v, or all variables from v to a have v's quantifier
abbrev pub outer_or_same : Prefix → ℕ → ℕ → Bool
outer_or_same [] a v = false
outer_or_same (b ∷ P) a v =
    cond (eqb b.var a) true (cond (eqb b.var v) (run_to b.quant P a) (outer_or_same P a v))

-- the place of a variable, which is the length where it is absent
abbrev pub place : Prefix → ℕ → ℕ
place [] v = 0
place (b ∷ P) v = cond (eqb b.var v) 0 (suc (place P v))

-- the quantifier at a place
abbrev pub quant_at : Prefix → ℕ → Quant
quant_at [] i = Exists
quant_at (b ∷ P) zero = b.quant
quant_at (b ∷ P) (suc i) = quant_at P i

-- the same as `outer_or_same`, told by places
abbrev pub OuterOrSame : Prefix → ℕ → ℕ → Type 0
OuterOrSame P a v =
    (place P a ≤ place P v)
    ⊎ ((i : ℕ) → place P v ≤ i → i ≤ place P a → quant_at P i ≡ quant_at P (place P v))

-- no variable stands twice in the prefix
abbrev pub Distinct : Prefix → Type 0
Distinct [] = Unit {0}
Distinct (b ∷ P) = (is_bound P b.var ≡ false) × Distinct P

-- each variable of a clause is in the prefix
abbrev pub Closed : Prefix → Matrix → Type 0
Closed P X = (D : Clause) → IsIn D X → (k : Literal) → IsIn k D → is_bound P k.var ≡ true

-- what is a formula: no free variable, and none that is bound twice
pub record IsFormula (F : PrenexFormula) : Type 0 where
  pub distinct : Distinct F.prefix
  pub closed : Closed F.prefix F.matrix

-- variables that stand next to each other under one quantifier
pub record Block : Type 0 where
  pub quant : Quant
  pub vars : List ℕ

-- a variable before the blocks joins the first one, or begins one
abbrev pub push_block : Bound → List Block → List Block
push_block b [] = record { quant = b.quant; vars = b.var ∷ [] } ∷ []
push_block b (B ∷ Bs) =
    cond (same_quant b.quant B.quant) (record { quant = B.quant; vars = b.var ∷ B.vars } ∷ Bs)
    (record { quant = b.quant; vars = b.var ∷ [] } ∷ B ∷ Bs)

-- the longest runs of one quantifier
abbrev pub blocks : Prefix → List Block
blocks [] = []
blocks (b ∷ P) = push_block b (blocks P)

-- the same lists of sets of variables
abbrev pub SameBlocks : List Block → List Block → Type 0
SameBlocks [] [] = Unit {0}
SameBlocks [] (C ∷ Cs) = ⊥
SameBlocks (B ∷ Bs) [] = ⊥
SameBlocks (B ∷ Bs) (C ∷ Cs) =
    (B.quant ≡ C.quant) × ((x : ℕ) → IsIn x B.vars ↔ IsIn x C.vars) × SameBlocks Bs Cs

-- neighbours of one quantifier have one number, others rising numbers
abbrev pub IsNext : (ℕ → ℕ) → Bound → Bound → Type 0
IsNext rank b c = ((same_quant b.quant c.quant ≡ true) × (rank b.var ≡ rank c.var)) ⊎ ((same_quant b.quant c.quant ≡ false) × (rank b.var < rank c.var))
