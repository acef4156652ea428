-- The grammar of proof logs: what is written in a file, and what it has to obey. Additions, deletions (d) and drops of a
-- universal literal (u) are those of QRAT (Heule, Seidl, Biere 2014, 2017); e brings a fresh variable behind another, and
-- r removes a variable.
use Rattle.std.specs.Prelude.{◌≡◌, ◌≤◌, ◌<◌, ◌^◌, ℕ, List, [], ◌∷◌, ◌++◌, length, map, pos}
use Rattle.std.specs.List.{AllByRecursion}
use Rattle.q_logic.specs.declared.steps.Kind.{Kind}
use Rattle.q_logic.specs.declared.steps.Kind.TheVariants.{Add, Delete, Drop, Fresh, Remove}
use Rattle.q_logic.specs.Prelude.{Literal, number_of, ProofStep, IsStepForm, step_of}
use Rattle.q_text.specs.Tokens.{literals_kinds}
use Rattle.q_text.specs.declared.tokens.Token.{Token}
use Rattle.q_text.specs.declared.tokens.TokenKind.{TokenKind}
use Rattle.q_text.specs.declared.tokens.TokenKind.TheVariants.{Number, E, D, U, R}
use Rattle.q_text.specs.Texts.{tokens_of}

-- a step as it is written: its tokens, its kind, and its literals in the order of the text
pub record StepText : Type 0 where
  pub tokens : List Token
  pub kind : Kind
  pub lits : List Literal

-- the letter in front, or nothing for an addition
abbrev pub letter_kinds : Kind → List TokenKind
letter_kinds Add = []
letter_kinds Delete = D ∷ []
letter_kinds Drop = U ∷ []
letter_kinds Fresh = E ∷ []
letter_kinds Remove = R ∷ []

-- the tokens spell the step: its literals are those that its kind takes, of variables from 1 to 2147483647
pub record IsSpelled (t : StepText) : Type 0 where
  pub kinds : map (λ k. k.kind) t.tokens ≡ letter_kinds t.kind ++ literals_kinds t.lits
  pub form : IsStepForm t.kind t.lits
  pub numbers : AllByRecursion (λ l. (1 ≤ l.var) × (l.var < 2 ^ 31)) t.lits

-- the line of the first token
abbrev pub first_line : List Token → ℕ
first_line [] = 1
first_line (t ∷ ts) = t.line

-- the step, with the line where it begins
abbrev pub step_in : StepText → ℕ × ProofStep
step_in t = (first_line t.tokens, step_of t.kind t.lits)

-- the tokens of all steps, one step behind the other
abbrev pub tokens_in : List StepText → List Token
tokens_in [] = []
tokens_in (t ∷ ts) = t.tokens ++ tokens_in ts

-- the bytes are a log within the limit, and these are its steps with their lines
pub record Log (limit : ℕ) (bytes : List ℕ) (steps : List (ℕ × ProofStep)) : Type 0 where
  pub texts : List StepText
  pub short : length bytes ≤ limit
  pub tokens : tokens_of bytes ≡ tokens_in texts
  pub spelled : AllByRecursion IsSpelled texts
  pub steps_are : steps ≡ map step_in texts
