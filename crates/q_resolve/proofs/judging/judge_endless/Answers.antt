use Rattle.std.proofs.Common.{◌≡◌, ◌∙◌, [], sym, subst, ℕ, true, false, arith}
use Rattle.q_logic.specs.Prelude.{is_universal}
use Rattle.q_extract.specs.Rows.{drops_in}
use Rattle.q_resolve.specs.declared.judged.Judged.TheVariants.{Refused}
use Rattle.q_resolve.specs.Judged.{IsAnswer}
use Rattle.q_resolve.proofs.Standing.{may-decides}
use Rattle.q_resolve.proofs.Answered.{refused-endless, proved-endless, no-pivots}
use Rattle.q_resolve.proofs.judging.judge_endless.Goals as goal

pub returns-then-not-may_stand : goal.returns-then-not-may_stand
returns-then-not-may_stand c =
    let F = c.args.formula.now in
    let o = c.args.owner in
    let f : c.may_stand.result ≡ false = let x = c.if-not-may_stand.true in grind arith in
    subst (λ (x : ℕ). IsAnswer o F c.args.trace.now (Refused x 5)) (sym c.place.ensures)
    (refused-endless o F c.args.trace.now c.requires.endless (λ m. let t : c.may_stand.result ≡ true = c.may_stand.ensures ∙ (may-decides o F.matrix []).1 m in absurd (cc)))

pub extract-requires-clause-sound : goal.extract-requires-clause-sound
extract-requires-clause-sound c = c.new_desk-desk.ensures.ready.sound

pub extract-requires-clause-pivots : goal.extract-requires-clause-pivots
extract-requires-clause-pivots c = no-pivots (is_universal c.args.prefix.now) c.new_desk-desk.result.away.drops.merges.items c.new_desk-desk.ensures.merges

pub returns : goal.returns
returns c =
    let F = c.args.formula.now in
    let o = c.args.owner in
    let t : c.may_stand.result ≡ true = let x = c.if-not-may_stand.false in grind arith in
    proved-endless o F c.args.trace.now c.args.prefix.now (drops_in c.new_desk-desk.result.away.drops) _ c.in_ok-made.made c.requires.prefix c.requires.formula c.requires.endless
    ((may-decides o F.matrix []).0 (sym c.may_stand.ensures ∙ t)) c.new_desk-desk.ensures.none c.in_ok-made.ensures.extracted
