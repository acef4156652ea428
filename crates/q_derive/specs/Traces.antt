-- Resolution proofs as solvers trace them: numbered lines, each with its literals and the numbers of the lines from which it
-- follows. Such a trace is read over the variables of one player, the owner, who is written as the existentials of a prefix:
-- of the formula's own prefix for a proof by term resolution, of the exchanged one for a refutation by Q-resolution.
-- (Kleine Büning, Karpinski, Flögel, "Resolution for Quantified Boolean Formulas", Information and Computation 117, 1995;
-- Giunchiglia, Narizzano, Tacchella 2006; of traces: Niemetz, Preiner, Lonsing, Seidl, Biere, "Resolution-Based Certificate
-- Extraction for QBF", SAT 2012.)
use Rattle.std.specs.Prelude.{◌≡◌, ℕ, suc, ◌<◌, true, false, cond, eqb, List, [], ◌∷◌, ◌++◌, take, ◌⊎◌, slice_get, Option, Some, None}
use Rattle.std.specs.Option.{option_map}
use Rattle.q_logic.specs.Literals.{Literal, negation}
use Rattle.q_logic.specs.Formulas.{Clause, Matrix, Prefix, IsIn, PrenexFormula}
use Rattle.q_logic.specs.Prefixes.{is_bound, is_existential, place}
use Rattle.q_logic.specs.Pivots.{without}
use Rattle.q_logic.specs.Sets.{IsSubset}
use Rattle.q_logic.specs.Exchanging.{exchanged}
use Rattle.q_derive.specs.Derivations.{IsHitting}

-- the numbers of the lines from which a line follows
pub data Sources : Type 0 where
  none : Sources
  one : ℕ → Sources
  two : ℕ → ℕ → Sources

-- a line of a trace
pub record Entry : Type 0 where
  pub number : ℕ
  pub literals : List Literal
  pub sources : Sources

-- the place of the line with this number
abbrev pub place_of : List Entry → ℕ → Option ℕ
place_of [] a = None
place_of (e ∷ es) a = cond (eqb e.number a) (Some 0) (option_map suc (place_of es a))

-- the place of the line with this number before the place n
abbrev pub earlier : List Entry → ℕ → ℕ → Option ℕ
earlier es n a = place_of (take n es) a

-- the literals of a line, if it is there
abbrev pub literals_in : Option Entry → List Literal
literals_in None = []
literals_in (Some e) = e.literals

-- from what a line follows: no line is named; one is named that does not stand before it; one line, or two, by their literals
pub data Parents : Type 0 where
  nothing : Parents
  missing : Parents
  single : List Literal → Parents
  double : List Literal → List Literal → Parents

abbrev pub single_of : List Entry → Option ℕ → Parents
single_of es None = missing
single_of es (Some i) = single (literals_in (slice_get es i))

abbrev pub double_of : List Entry → Option ℕ → Option ℕ → Parents
double_of es None j = missing
double_of es (Some i) None = missing
double_of es (Some i) (Some j) = double (literals_in (slice_get es i)) (literals_in (slice_get es j))

-- from what the line with the place n follows
abbrev pub parents : List Entry → ℕ → Sources → Parents
parents es n none = nothing
parents es n (one a) = single_of es (earlier es n a)
parents es n (two a b) = double_of es (earlier es n a) (earlier es n b)

-- a literal of the opponent that the first line holds, and whose negation the second holds
abbrev pub IsPivot : Prefix → List Literal → List Literal → Literal → Type 0
IsPivot P S U k = (is_existential P k.var ≡ false) × IsIn k S × IsIn (negation k) U

-- the literals of both lines without the pivot
abbrev pub resolvent : List Literal → List Literal → Literal → List Literal
resolvent S U k = without k S ++ without (negation k) U

-- what is reduced: the one line, or a resolvent of the two
abbrev pub IsParent : Prefix → Parents → List Literal → Type 0
IsParent P nothing R = ⊥
IsParent P missing R = ⊥
IsParent P (single S) R = R ≡ S
IsParent P (double S U) R = (k : Literal) × IsPivot P S U k × (R ≡ resolvent S U k)

-- the pivot stands before each variable of the owner of which the lines hold different signs; a line that holds both signs differs
-- from each that holds one
abbrev pub MayMerge : Prefix → List Literal → List Literal → Literal → Type 0
MayMerge P S U k =
    (g : Literal) → IsIn g S → IsIn (negation g) U → is_existential P g.var ≡ true → place P k.var < place P g.var

-- the one line, or a resolvent of the two by a pivot that may merge
abbrev pub IsLawful : Prefix → Parents → List Literal → Type 0
IsLawful P nothing R = ⊥
IsLawful P missing R = ⊥
IsLawful P (single S) R = R ≡ S
IsLawful P (double S U) R = (k : Literal) × IsPivot P S U k × MayMerge P S U k × (R ≡ resolvent S U k)

-- T holds both signs of a variable of the owner only where R does
abbrev pub MergesOnly : Prefix → List Literal → List Literal → Type 0
MergesOnly P R T =
    (g : Literal) → is_existential P g.var ≡ true → IsIn g T → IsIn (negation g) T → IsIn g R × IsIn (negation g) R

-- what is reduced to T, where all merges are lawful
abbrev pub IsSource : Prefix → Parents → List Literal → List Literal → Type 0
IsSource P from T R = IsLawful P from R × MergesOnly P R T

-- each literal of the opponent stays
abbrev pub IsKept : Prefix → List Literal → List Literal → Type 0
IsKept P R T = (k : Literal) → IsIn k R → is_existential P k.var ≡ false → IsIn k T

-- a literal of the owner goes only where each literal of the opponent stands before it
abbrev pub IsShed : Prefix → List Literal → List Literal → Type 0
IsShed P R T =
    (g : Literal) → IsIn g R → is_existential P g.var ≡ true →
    IsIn g T ⊎ ((k : Literal) → IsIn k R → is_existential P k.var ≡ false → place P k.var < place P g.var)

-- the literals hold both signs of a variable of the owner
abbrev pub IsMerged : Prefix → List Literal → Type 0
IsMerged P T = (g : Literal) × (is_existential P g.var ≡ true) × IsIn g T × IsIn (negation g) T

-- a line that stands by itself; L says which may
abbrev pub IsLeaf : Prefix → (List Literal → Type 0) → List Literal → Type 0
IsLeaf P L T = L T × ¬ IsMerged P T

-- a line that follows from others: a resolvent, if there are two, of which literals of the owner are taken away, and to which
-- others may come
abbrev pub IsInner : Prefix → Parents → List Literal → Type 0
IsInner P from T = (R : List Literal) × IsSource P from T R × IsKept P R T × IsShed P R T

-- a line that names none, or one that does not stand before it, stands by itself
abbrev pub Stands : Prefix → (List Literal → Type 0) → Parents → List Literal → Type 0
Stands P L nothing T = IsLeaf P L T
Stands P L missing T = IsLeaf P L T
Stands P L (single S) T = IsInner P (single S) T
Stands P L (double S U) T = IsInner P (double S U) T

-- each variable is in the prefix
abbrev pub AreBound : Prefix → List Literal → Type 0
AreBound P T = (k : Literal) → IsIn k T → is_bound P k.var ≡ true

-- the line with the place n is right
pub record IsRight (P : Prefix) (L : List Literal → Type 0) (es : List Entry) (n : ℕ) (e : Entry) : Type 0 where
  pub bound : AreBound P e.literals
  pub stands : Stands P L (parents es n e.sources) e.literals

-- the last line without literals
pub record IsEnd (es : List Entry) (n : ℕ) : Type 0 where
  pub empty : (e : Entry) × (slice_get es n ≡ Some e) × (e.literals ≡ [])
  pub last : (m : ℕ) → n < m → (e : Entry) → slice_get es m ≡ Some e → ¬ (e.literals ≡ [])

-- whether a line names this one
abbrev pub IsNamed : Sources → ℕ → Type 0
IsNamed none a = ⊥
IsNamed (one b) a = b ≡ a
IsNamed (two b c) a = (b ≡ a) ⊎ (c ≡ a)

-- the cone of the end: the end, and the lines before that a line of it names
pub data InCone (es : List Entry) : ℕ → Type 0 where
  end : (n : ℕ) → IsEnd es n → InCone es n
  further : (m : ℕ) → {n : ℕ} → (e : Entry) → (a : ℕ) → InCone es n → slice_get es n ≡ Some e → IsNamed e.sources a →
      earlier es n a ≡ Some m → InCone es m

-- no line is empty
abbrev pub IsEndless : List Entry → Type 0
IsEndless es = (n : ℕ) → (e : Entry) → slice_get es n ≡ Some e → ¬ (e.literals ≡ [])

-- a proof: the lines of the cone are right; where there is no end, the empty line stands by itself
pub record IsTrace (P : Prefix) (L : List Literal → Type 0) (es : List Entry) : Type 0 where
  pub right : (n : ℕ) → InCone es n → (e : Entry) → slice_get es n ≡ Some e → IsRight P L es n e
  pub ends : IsEndless es → L []

-- the literals are those of a clause
abbrev pub IsOneOf : Matrix → List Literal → Type 0
IsOneOf X T = (D : Clause) × IsIn D X × IsSubset D T × IsSubset T D

-- a trace of a proof by term resolution that the formula is true: its lines are terms
abbrev pub IsTermTrace : PrenexFormula → List Entry → Type 0
IsTermTrace F es = IsTrace F.prefix (IsHitting F.matrix) es

-- a trace of a refutation by Q-resolution: its lines are clauses
abbrev pub IsClauseTrace : PrenexFormula → List Entry → Type 0
IsClauseTrace F es = IsTrace (exchanged F.prefix) (IsOneOf F.matrix) es
