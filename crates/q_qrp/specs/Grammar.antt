-- The grammar of traces: what is written in a file, and what it has to obey. The format is QRP, that of QRPcert (Niemetz,
-- Preiner, Lonsing, Seidl, Biere, "Resolution-Based Certificate Extraction for QBF", SAT 2012), as DepQBF writes it.
use Rattle.std.specs.Prelude.{◌≡◌, ◌⊎◌, ℕ, ◌<◌, ◌≤◌, ◌^◌, nat_le, List, [], ◌∷◌, ◌++◌, length, map, take, if◌then◌else◌, pos}
use Rattle.std.specs.List.{AllByRecursion}
use Rattle.q_logic.specs.Prelude.{Literal, ArePairs}
use Rattle.q_text.specs.declared.tokens.TokenKind.{TokenKind}
use Rattle.q_text.specs.declared.tokens.TokenKind.TheVariants.{Number, P, E, A, R}
use Rattle.q_text.specs.Tokens.{literals_kinds}
use Rattle.q_qrp.specs.declared.words.Spoken.{Spoken}
use Rattle.q_qrp.specs.declared.trace.Antecedents.{Antecedents}
use Rattle.q_qrp.specs.declared.trace.Antecedents.TheVariants.{Zero, One, Two}
use Rattle.q_qrp.specs.declared.trace.Verdict.{Verdict}
use Rattle.q_qrp.specs.declared.trace.Verdict.TheVariants.{Sat, Unsat, Unknown}
use Rattle.q_qrp.specs.Words.{words_of, words_ended, qrp_name, sat_name, unsat_name, unknown_name}
use Rattle.q_qrp.specs.Lines.{Line, Proof}

abbrev pub kinds_of : List Spoken → List TokenKind
kinds_of ws = map (λ w. w.token.kind) ws

-- numbers are at most 2147483647
abbrev pub IsSmall : ℕ → Type 0
IsSmall n = n < 2 ^ 31

-- the number of a line or of a variable
abbrev pub IsNumber : ℕ → Type 0
IsNumber n = (1 ≤ n) × (n < 2 ^ 31)

-- the header: p, qrp, and two numbers, which are not used
pub record IsHeader (ws : List Spoken) : Type 0 where
  pub problem : Spoken
  pub format : Spoken
  pub first : Spoken
  pub second : Spoken
  pub vars : ℕ
  pub count : ℕ
  pub words : ws ≡ problem ∷ format ∷ first ∷ second ∷ []
  pub begins : problem.token.kind ≡ P
  pub name : format.name ≡ qrp_name
  pub vars_are : first.token.kind ≡ Number (pos vars)
  pub count_is : second.token.kind ≡ Number (pos count)
  pub small : IsSmall vars × IsSmall count

-- numbers and the 0 behind them
abbrev pub vars_kinds : List ℕ → List TokenKind
vars_kinds [] = Number (pos 0) ∷ []
vars_kinds (v ∷ vs) = Number (pos v) ∷ vars_kinds vs

-- a set: e or a, numbers, and 0. It is not used, since the prefix is that of the formula
pub record IsSet (ws : List Spoken) : Type 0 where
  pub letter : TokenKind
  pub vars : List ℕ
  pub kinds : kinds_of ws ≡ letter ∷ vars_kinds vars
  pub begins : (letter ≡ E) ⊎ (letter ≡ A)
  pub small : AllByRecursion IsNumber vars

-- the antecedents, and the 0 behind them
abbrev pub antecedents_kinds : Antecedents → List TokenKind
antecedents_kinds Zero = Number (pos 0) ∷ []
antecedents_kinds (One a) = Number (pos a) ∷ Number (pos 0) ∷ []
antecedents_kinds (Two a b) = Number (pos a) ∷ Number (pos b) ∷ Number (pos 0) ∷ []

abbrev pub AreNumbers : Antecedents → Type 0
AreNumbers Zero = Unit {0}
AreNumbers (One a) = IsNumber a
AreNumbers (Two a b) = IsNumber a × IsNumber b

-- a line of the proof: its number, its literals and 0, its antecedents and 0; and the line of the text where it begins
pub record IsLine (ws : List Spoken) (l : Line) : Type 0 where
  pub first : Spoken
  pub others : List Spoken
  pub words : ws ≡ first ∷ others
  pub number : first.token.kind ≡ Number (pos l.row.id)
  pub kinds : kinds_of others ≡ literals_kinds l.literals ++ antecedents_kinds l.row.antecedents
  pub place : first.token.line ≡ l.row.place
  pub small : IsNumber l.row.id
  pub literals : AllByRecursion (λ k. IsNumber k.var) l.literals
  pub antecedents : AreNumbers l.row.antecedents

abbrev pub verdict_name : Verdict → ℕ
verdict_name Sat = sat_name
verdict_name Unsat = unsat_name
verdict_name Unknown = unknown_name

-- sets behind one another, and lines behind one another
abbrev pub AreSets : List (List Spoken) → Type 0
AreSets texts = AllByRecursion IsSet texts

abbrev pub AreLines : List (List Spoken) → List Line → Type 0
AreLines [] [] = Unit {0}
AreLines [] (l ∷ ls) = ⊥
AreLines (t ∷ ts) [] = ⊥
AreLines (t ∷ ts) (l ∷ ls) = IsLine t l × AreLines ts ls

abbrev pub joined : List (List Spoken) → List Spoken
joined [] = []
joined (t ∷ ts) = t ++ joined ts

-- the words are a header, sets, lines whose numbers rise, r and the verdict; what stands behind these is not read
pub record Spells (ws : List Spoken) (p : Proof) : Type 0 where
  pub header : List Spoken
  pub sets : List (List Spoken)
  pub lines : List (List Spoken)
  pub answer : Spoken
  pub verdict : Spoken
  pub rest : List Spoken
  pub words : ws ≡ header ++ (joined sets ++ (joined lines ++ answer ∷ verdict ∷ rest))
  pub is_header : IsHeader header
  pub are_sets : AreSets sets
  pub are_lines : AreLines lines p.lines
  pub rising : ArePairs (λ a b. a.row.id < b.row.id) p.lines
  pub answers : answer.token.kind ≡ R
  pub says : verdict.name ≡ verdict_name p.verdict
  pub place : verdict.token.line ≡ p.place

-- the words that end within so many bytes
abbrev pub words_within : ℕ → List ℕ → List Spoken
words_within most bytes = if nat_le (length bytes) most then words_of bytes else words_ended (take most bytes)

-- the bytes are a trace, whose verdict ends within the limit, and this is its proof
abbrev pub Trace : ℕ → List ℕ → Proof → Type 0
Trace most bytes p = Spells (words_within most bytes) p
