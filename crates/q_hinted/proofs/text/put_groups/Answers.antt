use Rattle.std.proofs.Common.{◌++◌, ◌+◌, ◌∙◌, ap, sym, append_assoc, drop}
use Rattle.q_text.proofs.LongerTexts.{extends-more, extends-append}
use Rattle.q_logic.specs.ProofParts.{group_at}
use Rattle.q_logic.proofs.Common.{on_err}
use Rattle.q_hinted.specs.Parts.{groups_numbers}
use Rattle.q_hinted.specs.Texts.{plain_text}
use Rattle.q_hinted.proofs.NumberTexts.{group_numbers, groups-next}
use Rattle.q_hinted.proofs.text.put_groups.Goals as goal

pub returns-in_err-put_group-clause-err : goal.returns-in_err-put_group-clause-err
returns-in_err-put_group-clause-err c = on_err c.from_residual.result (extends-more _ _ _ c.loop-at.invariant.before c.in_err-put_group.ensures.err)

pub loop-at-preserved : goal.loop-at-preserved
loop-at-preserved c =
    let mid = c.loop-at.text.items in
    let gs = c.args.proof.now.groups in
    let g = group_at gs c.loop-at.at in
    let part = plain_text (group_numbers g.target g.hints) in
    let rest = plain_text (groups_numbers (drop (c.loop-at.at + 1) gs)) in
    let put = rw (c.target.ensures, c.hints.ensures) at c.in_ok-put_group.ensures.ok in
    let next = groups-next gs c.loop-at.at (rw c.groups-at-end.ensures at c.loop-at-test.true) in
    record {
      text = ap (λ x. x ++ rest) put ∙ (append_assoc mid part rest ∙ (ap (λ x. mid ++ x) (sym next) ∙ c.loop-at.invariant.text));
      before = rw put (extends-append _ mid part c.loop-at.invariant.before);
    }
