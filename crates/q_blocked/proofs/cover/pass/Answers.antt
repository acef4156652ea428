use Rattle.std.proofs.Common.{◌≡◌, ◌∙◌, ◌<◌, ◌≤◌, Bool, false, length, sym, subst, arith, true≢false}
use Rattle.q_logic.proofs.Common.{item-in}
use Rattle.q_blocked.specs.Progress.{is_grown}
use Rattle.q_blocked.proofs.CoverPass.{IsPassing, passing-begun, passing-more, passing-all}
use Rattle.q_blocked.proofs.cover.pass.Goals as goal
use Rattle.q_blocked.proofs.cover.pass.Goals.{then-grew-2, else-grew-2}

pub loop-at-init : goal.loop-at-init
loop-at-init c = record { passing = passing-begun c.args.kernel.now c.args.c c.args.growth.now c.requires.growing; apart = c.requires.apart }

pub cover_at-requires-clause-there : goal.cover_at-requires-clause-there
cover_at-requires-clause-there c =
    let here : c.loop-at.at < length c.loop-at.growth.asked.items = omega (arith, c.len.ensures, c.if-at-len.false) in
    c.loop-at.invariant.passing.growing.3.inside c.index-place.result.now (item-in c.loop-at.growth.asked.items c.loop-at.at c.index-place.result.now here c.index-place.ensures)

pub loop-at-preserved : goal.loop-at-preserved
loop-at-preserved c =
    let more : c.if-grew-2.grew ≡ false → (c.loop-at.grew ≡ false) × (is_grown c.in_ok-progress.progress ≡ false) = λ q. elim c.if-grew-2.branch [
      | then-grew-2 w ↦ absurd (true≢false (sym w.if-grew-2.true ∙ (sym w.grew-is ∙ q)))
      | else-grew-2 w ↦ (w.if-grew-2.false, sym w.is_grown-grew.ensures ∙ (sym w.grew-is ∙ q))
    ] in
    let here : c.loop-at.at < length c.loop-at.growth.asked.items = omega (arith, c.len.ensures, c.if-at-len.false) in
    record {
      passing = passing-more c.args.kernel.now c.args.c c.args.growth.now c.loop-at.growth c.cover_at.new.growth c.loop-at.at c.loop-at.grew c.if-grew-2.grew c.index-place.result.now c.in_ok-progress.progress here c.index-place.ensures
          (sym c.is_ended.ensures ∙ c.if-is_ended.false) more c.in_ok-progress.ensures.looked c.loop-at.invariant.passing;
      apart = c.cover_at.ensures.apart;
    }

pub returns-then-at-len-clause-looked : goal.returns-then-at-len-clause-looked
returns-then-at-len-clause-looked c =
    let past : length c.loop-at.growth.asked.items ≤ c.loop-at.at = omega (arith, c.len.ensures, c.if-at-len.true) in
    passing-all c.args.kernel.now c.args.c c.args.growth.now c.loop-at.growth c.loop-at.at c.requires.growing past
    (subst (λ (b : Bool). IsPassing c.args.kernel.now c.args.c c.args.growth.now c.loop-at.growth c.loop-at.at b) c.if-grew.false c.loop-at.invariant.passing)

pub returns-then-grew-clause-looked : goal.returns-then-grew-clause-looked
returns-then-grew-clause-looked c = (c.loop-at.invariant.passing.growing, c.loop-at.invariant.passing.longer)
