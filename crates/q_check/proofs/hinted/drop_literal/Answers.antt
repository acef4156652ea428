use Rattle.std.proofs.Common.{◌≡◌, ℕ, Err, refl, sym, subst, inl, inr}
use Rattle.std.proofs.lemmas.Result.{err_from_is_err_and}
use Rattle.q_logic.specs.declared.limits.Limits.{Limits}
use Rattle.q_logic.specs.Prelude.{Literal, Clause, NumberedFormula, ProofPart, beside, plain, slot, Within, drop_literal}
use Rattle.q_logic.proofs.Common.{test-false}
use Rattle.q_judge.specs.declared.error.CheckError.{CheckError}
use Rattle.q_judge.specs.declared.error.CheckError.TheVariants.{Refused, NoMemory}
use Rattle.q_judge.proofs.TriedSteps.{drop-entry}
use Rattle.q_check.specs.HintChecks.{IsDropJudged, IsHintTried}
use Rattle.q_check.proofs.HintCauses.{drop-unbound, drop-missing, drop-undroppable, drop-bad}
use Rattle.q_check.proofs.hinted.drop_literal.Goals as goal

drop-judged : (keep : Rattle.std.proofs.Common.Bool) (m : Limits) (F : NumberedFormula) (j : Literal) (C : Clause) (t : ProofPart) (e : CheckError) → Within F.prefix C → slot F.slots t.number ≡ Rattle.std.proofs.Common.Some C → IsDropJudged F.prefix (beside t.number F) C j t (Err e) → IsHintTried keep m F (drop_literal j C) t F (Err e)
drop-judged keep m F j C t (Refused n) w h (inl (q, u)) = (refl, rw q (drop-undroppable m F j C t w h u))
drop-judged keep m F j C t (Refused n) w h (inr (q, u, s)) = (refl, rw q (drop-bad m F j C t w h u s))
drop-judged keep m F j C t NoMemory w h s = refl

pub returns-then-not-binds_all : goal.returns-then-not-binds_all
returns-then-not-binds_all c keep m =
    let b = rw c.scope.ensures at c.binds_all.ensures in
    rw c.refusal.ensures (refl, drop-unbound m c.args.book.now c.args.cut.now.lit c.args.cut.now.clause.now c.args.proof.now (test-false c.binds_all.result b c.if-not-binds_all.true))

pub returns-then-not-is_clause : goal.returns-then-not-is_clause
returns-then-not-is_clause c keep m =
    let b = rw c.scope.ensures at c.binds_all.ensures in
    let i = rw c.number-number.ensures at c.is_clause.ensures in
    rw c.refusal-then-not-is_clause.ensures (refl, drop-missing m c.args.book.now c.args.cut.now.lit c.args.cut.now.clause.now c.args.proof.now (b.0 c.if-not-binds_all.false) (test-false c.is_clause.result i c.if-not-is_clause.true))

pub judge_drop-requires : goal.judge_drop-requires
judge_drop-requires c =
    let b = rw c.scope.ensures at c.binds_all.ensures in
    record {
      there = c.is_clause.ensures.0 c.if-not-is_clause.false;
      within = b.0 c.if-not-binds_all.false;
      held = c.requires.held;
      rest = c.requires.rest;
    }

pub returns-in_err-judge_drop : goal.returns-in_err-judge_drop
returns-in_err-judge_drop c keep m =
    let F = c.args.book.now in
    let e = c.in_err-judge_drop.field-0.0 in
    let b = rw c.scope.ensures at c.binds_all.ensures in
    let i = rw c.number-number.ensures at c.is_clause.ensures in
    let r = err_from_is_err_and c.from_residual.result c.from_residual.ensures.1 in
    let j = subst (λ (n : ℕ). IsDropJudged F.prefix (beside n F) c.args.cut.now.clause.now c.args.cut.now.lit c.args.proof.now (Err e)) c.number-number.ensures c.in_err-judge_drop.ensures.judged in
    let h = drop-judged keep m F c.args.cut.now.lit c.args.cut.now.clause.now c.args.proof.now e (b.0 c.if-not-binds_all.false) (i.0 c.if-not-is_clause.false) j in
    rw (r.1, r.2) (subst (λ (G : NumberedFormula). IsHintTried keep m F (drop_literal c.args.cut.now.lit c.args.cut.now.clause.now) c.args.proof.now G (Err e)) (sym c.in_err-judge_drop.ensures.same) h)

pub shorten-requires : goal.shorten-requires
shorten-requires c =
    rw c.in_ok-judge_drop.ensures.same (record { there = c.is_clause.ensures.0 c.if-not-is_clause.false; ordered = c.requires.ordered; rest = (c.args.cut.now.lit, c.requires.rest) })

pub returns-in_err-shorten : goal.returns-in_err-shorten
returns-in_err-shorten c keep m =
    let r = err_from_is_err_and c.from_residual-in_err-shorten.result c.from_residual-in_err-shorten.ensures.1 in
    rw (r.1, r.2, c.in_err-shorten.ensures.err, c.in_ok-judge_drop.ensures.same) refl

pub returns : goal.returns
returns c keep m =
    let b = rw c.scope.ensures at c.binds_all.ensures in
    let i = rw c.number-number.ensures at c.is_clause.ensures in
    let j = rw c.number-number.ensures at c.in_ok-judge_drop.ensures.judged in
    rw (c.in_ok-shorten.ensures.ok, c.in_ok-judge_drop.ensures.same, c.number-number.ensures, c.requires.rest) ((b.0 c.if-not-binds_all.false, i.0 c.if-not-is_clause.false, j), refl, drop-entry keep (plain c.args.book.now) c.args.cut.now.lit c.args.cut.now.clause.now)
