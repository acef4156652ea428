-- The program that decides whether lines are a proof.
use Rattle.std.specs.Prelude.{ℕ, suc, Bool, true, false, cond, not, ◌&&◌, ◌||◌, nat_lt, List, [], ◌∷◌, slice_get, Option, Some, None}
use Rattle.q_logic.specs.Literals.{Literal, negation, literal_eq}
use Rattle.q_logic.specs.Formulas.{Matrix, Prefix, PrenexFormula}
use Rattle.q_logic.specs.Prefixes.{is_existential, place}
use Rattle.q_logic.specs.Sets.{has, is_tautology}
use Rattle.q_logic.specs.Exchanging.{exchanged}
use Rattle.q_derive.specs.Derivations.{Line, Reason, leaf, resolve, reduce}

abbrev pub every : {X : Type 0} → (X → Bool) → List X → Bool
every f [] = true
every f (x ∷ xs) = f x && every f xs

abbrev pub some : {X : Type 0} → (X → Bool) → List X → Bool
some f [] = false
some f (x ∷ xs) = f x || some f xs

-- whether each literal of S but k is in T
abbrev pub is_rest : List Literal → Literal → List Literal → Bool
is_rest S k T = every (λ (j : Literal). literal_eq j k || has j T) S

-- whether the literal of S may be taken away
abbrev pub is_taken : Prefix → List Literal → List Literal → Literal → Bool
is_taken P S T g =
    is_existential P g.var && (not (has (negation g) S) &&
    every (λ (k : Literal). nat_lt (place P k.var) (place P g.var)) T)

-- whether each literal of S stays or may be taken away
abbrev pub is_reduced : Prefix → List Literal → List Literal → Bool
is_reduced P S T = every (λ (g : Literal). has g T || is_taken P S T g) S

-- the line with number i, if it is before n
abbrev pub earlier : List Line → ℕ → ℕ → Option Line
earlier lines n i = cond (nat_lt i n) (slice_get lines i) None

abbrev pub rest_of : Option Line → Literal → List Literal → Bool
rest_of None k T = false
rest_of (Some line) k T = is_rest line.literals k T

abbrev pub reduced_of : Prefix → Option Line → List Literal → Bool
reduced_of P None T = false
reduced_of P (Some line) T = is_reduced P line.literals T

-- whether the line with number n, which holds T, stands by its reason
abbrev pub follows : Prefix → (List Literal → Bool) → List Line → ℕ → List Literal → Reason → Bool
follows P L lines n T leaf = L T
follows P L lines n T (resolve i j k) =
    rest_of (earlier lines n i) k T && rest_of (earlier lines n j) (negation k) T
follows P L lines n T (reduce i) = reduced_of P (earlier lines n i) T

-- whether the last lines, the first of which has the number n, stand by their reasons
abbrev pub all_follow : Prefix → (List Literal → Bool) → List Line → ℕ → List Line → Bool
all_follow P L lines n [] = true
all_follow P L lines n (line ∷ last) =
    follows P L lines n line.literals line.reason && all_follow P L lines (suc n) last

abbrev pub is_nothing : List Literal → Bool
is_nothing [] = true
is_nothing (k ∷ T) = false

abbrev pub has_empty : List Line → Bool
has_empty lines = some (λ (line : Line). is_nothing line.literals) lines

-- whether each clause that is no tautology holds a literal of the term
abbrev pub is_hitting : Matrix → List Literal → Bool
is_hitting X T = every (λ (D : List Literal). is_tautology D || some (λ (k : Literal). has k T) D) X

-- whether the literals of some clause are among these
abbrev pub holds_clause : Matrix → List Literal → Bool
holds_clause X T = some (λ (D : List Literal). every (λ (k : Literal). has k T) D) X

abbrev pub is_term_proof : PrenexFormula → List Line → Bool
is_term_proof F lines = all_follow F.prefix (is_hitting F.matrix) lines 0 lines && has_empty lines

abbrev pub is_refutation : PrenexFormula → List Line → Bool
is_refutation F lines = all_follow (exchanged F.prefix) (holds_clause F.matrix) lines 0 lines && has_empty lines
