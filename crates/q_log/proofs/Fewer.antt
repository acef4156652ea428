-- A byte that is taken leaves one byte fewer to take.
use Rattle.std.proofs.Common.{◌≡◌, ◌+◌, ◌-◌, ◌==◌, ◌∙◌, refl, ap, arith, ℕ, Bool, true, false, if◌then◌else◌, Result, Ok, Err, Option, Some, None}
use Rattle.std.proofs.lemmas.Bool.Decides.{nat_tests}
use Rattle.q_logic.specs.Prelude.{ProofStep}
use Rattle.q_text.specs.declared.tokens.Token.{Token}
use Rattle.q_text.specs.Tokens as tokens
use Rattle.q_log.specs.declared.error.LogError.{LogError}
use Rattle.q_log.specs.declared.error.LogError.TheVariants as log
use Rattle.q_log.specs.Grammar.{Move, ends_step, goes_on, unfit, move}
use Rattle.q_log.specs.Reading.{LogState, Transition, transition, transition_unless, open_transition, token_transition, moved, Answers}

abbrev OneFewer : LogState → Transition → Type 0
OneFewer r t = (o : Option (ℕ × ProofStep)) → Ok o ≡ t.answer → t.state.left + 1 ≡ r.left

moved-fewer : (r s : LogState) (m : Move) (n : ℕ) → s.left + 1 ≡ r.left → OneFewer r (moved s m n)
moved-fewer r s (ends_step k p) n e o h = e
moved-fewer r s (goes_on q) n e o h = e
moved-fewer r s unfit n e o h = cc

token_transition-fewer : (r s : LogState) (o : Option Token) → s.left + 1 ≡ r.left → OneFewer r (token_transition s o)
token_transition-fewer r s None e o h = e
token_transition-fewer r s (Some t) e o h = moved-fewer r s (move s.begun t) t.line e o h

open_transition-fewer : (r : LogState) (b : ℕ) → OneFewer r (open_transition r b)
open_transition-fewer r b = go (r.left == 0) refl
  where
    next : LogState
    next = record r { tokens = tokens.after r.tokens b; left = r.left - 1 }

    go : (c : Bool) → (r.left == 0) ≡ c → OneFewer r (if c then record { answer = Err (log.Limit (tokens.line_of r.tokens)); state = record r { refused = Some (log.Limit (tokens.line_of r.tokens)) } } else token_transition next (tokens.handed r.tokens b))
    go true e o h = cc
    go false e o h = token_transition-fewer r next (tokens.handed r.tokens b) (grind (arith, nat_tests, e)) o h

transition-fewer : (r : LogState) (b : ℕ) → OneFewer r (transition r b)
transition-fewer r b = go r.refused
  where
    go : (e : Option LogError) → OneFewer r (transition_unless e r (open_transition r b))
    go None o h = open_transition-fewer r b o h
    go (Some e) o h = cc

pub taken-fewer : (r new : LogState) (b : ℕ) (o : Option (ℕ × ProofStep)) → Answers (Ok o) new (transition r b) → new.left + 1 ≡ r.left
taken-fewer r new b o a = ap (λ (s : LogState). s.left + 1) a.1 ∙ transition-fewer r b o a.0
