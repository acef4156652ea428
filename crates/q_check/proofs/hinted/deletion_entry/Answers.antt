use Rattle.std.proofs.Common.{◌≡◌, ℕ, Bool, true, false, Option, None, Some, inl, inr, refl, sym, ◌∙◌, subst, true≢false}
use denote.Enum.Bare.{sameb}
use Rattle.q_logic.specs.contracts.proof_part.ProofKind.{the_type}
use Rattle.q_logic.specs.declared.proof_part.ProofKind.{ProofKind}
use Rattle.q_logic.specs.declared.proof_part.ProofKind.TheVariants.{Pivot}
use Rattle.q_logic.specs.Prelude.{Literal, Clause, NumberedFormula, ProofPart, Shows, beside, plain, slot, live, delete, one_less}
use Rattle.q_logic.proofs.Common.{implied-within}
use Rattle.q_logic.proofs.HintChains.{chained-implied}
use Rattle.q_logic.proofs.HintedRuns.{forward, shows-warranted}
use Rattle.q_judge.specs.Tried.{IsEntry}
use Rattle.q_check.proofs.hinted.deletion_entry.Goals as goal

-- a deletion that is not by a pivot is of an implied clause
implied-entry : (keep : Bool) (F : NumberedFormula) (n : ℕ) (C : Clause) (p : Option Literal) (t : ProofPart) → slot F.slots n ≡ Some C → Shows F.prefix (beside n F) C p t → (t.kind ≡ Pivot → ⊥) → IsEntry keep (plain F) (delete p C) None
implied-entry false F n C p t h s other = refl
implied-entry true F n C p t h (inl (k, (hints, g, w))) other =
    inl (implied-within (live (beside n F)) (one_less C (live F.slots)) C (forward F.slots n C h) (chained-implied (beside n F) C hints w), refl)
implied-entry true F n C p t h (inr (k, v)) other = absurd (other k)

pub deletion_entry-requires-clause-warranted : goal.deletion_entry-requires-clause-warranted
deletion_entry-requires-clause-warranted c =
    let F = c.args.book.now in
    shows-warranted F.prefix (beside c.args.number F) c.args.named.now.clause.now c.args.named.now.first c.args.proof.now c.requires.shown

pub returns-clause-exact : goal.returns-clause-exact
returns-clause-exact c =
    implied-entry c.args.keep c.args.book.now c.args.number c.args.named.now.clause.now c.args.named.now.first c.args.proof.now c.requires.there c.requires.shown
    (λ q. true≢false (subst (λ (k : ProofKind). sameb the_type k Pivot ≡ false) (c.kind.ensures ∙ q) (sym c.eq.ensures ∙ c.if-eq.false)))
