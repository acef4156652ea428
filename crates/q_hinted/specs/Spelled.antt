-- The grammar of logs of the second profile: what is written in a file, and what it has to obey.
use Rattle.std.specs.Prelude.{◌≡◌, ◌≤◌, ℕ, List, [], ◌∷◌, ◌++◌, length, map, pos}
use Rattle.std.specs.List.{AllByRecursion}
use Rattle.q_logic.specs.Prelude.{Hinted, ProofPart, step_of}
use Rattle.q_text.specs.declared.tokens.Token.{Token}
use Rattle.q_text.specs.declared.tokens.TokenKind.{TokenKind}
use Rattle.q_text.specs.declared.tokens.TokenKind.TheVariants.{Number, P, Qrat}
use Rattle.q_text.specs.Texts.{tokens_of}
use Rattle.q_log.specs.Spelled.{StepText, IsSpelled, first_line}
use Rattle.q_hinted.specs.Parts.{IsPartOf, part_numbers}

-- a step with its proof part as it is written: the step, the tokens behind its 0, and what they say
pub record HintedText : Type 0 where
  pub step : StepText
  pub behind : List Token
  pub proof : ProofPart

abbrev pub kinds_of : List Token → List TokenKind
kinds_of ts = map (λ t. t.kind) ts

abbrev pub numbers_kinds : List ℕ → List TokenKind
numbers_kinds ns = map (λ n. Number (pos n)) ns

-- the step is spelled as in a plain log, and its proof part is one that its kind takes
pub record IsHintedSpelled (t : HintedText) : Type 0 where
  pub step : IsSpelled t.step
  pub kinds : kinds_of t.behind ≡ numbers_kinds (part_numbers t.step.kind t.proof)
  pub part : IsPartOf t.step.kind t.proof

-- the step and its proof part, with the line where the step begins
abbrev pub hinted_of : HintedText → ℕ × Hinted
hinted_of t = (first_line t.step.tokens, record { step = step_of t.step.kind t.step.lits; proof = t.proof })

-- the tokens of all steps, one step behind the other
abbrev pub tokens_in : List HintedText → List Token
tokens_in [] = []
tokens_in (t ∷ ts) = t.step.tokens ++ (t.behind ++ tokens_in ts)

-- p qrat 2
abbrev pub header_kinds : List TokenKind
header_kinds = P ∷ Qrat ∷ Number (pos 2) ∷ []

-- the bytes are a log of the second profile within the limit, and these are its steps with their proof parts and lines
pub record HintedLog (limit : ℕ) (bytes : List ℕ) (hs : List (ℕ × Hinted)) : Type 0 where
  pub header : List Token
  pub texts : List HintedText
  pub short : length bytes ≤ limit
  pub opens : kinds_of header ≡ header_kinds
  pub tokens : tokens_of bytes ≡ header ++ tokens_in texts
  pub spelled : AllByRecursion IsHintedSpelled texts
  pub hinted_are : hs ≡ map hinted_of texts
