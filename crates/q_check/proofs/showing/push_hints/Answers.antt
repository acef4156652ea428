use Rattle.std.proofs.Common.{◌∙◌, List, ℕ, ap, sym, take, get_or}
use Rattle.std.proofs.lemmas.List.{take_more}
use Rattle.q_logic.specs.ProofParts.{with_hint}
use Rattle.q_check.specs.Annotations.{with_hints}
use Rattle.q_check.proofs.PushedHints.{hints_last-some, with_hints-push}
use Rattle.q_check.proofs.showing.push_hints.Goals as goal

pub hint-requires : goal.hint-requires
hint-requires c =
    rw c.loop-hint.invariant (hints_last-some (take c.loop-hint.hint-index c.args.hints.now) c.args.proof.now.groups c.requires)

pub loop-hint-preserved : goal.loop-hint-preserved
loop-hint-preserved c =
    let hints = c.args.hints.now in
    let i = c.loop-hint.hint-index in
    let h = get_or hints i 0 in
    let p = c.args.proof.now in
    c.in_ok-hint.ensures.ok ∙ ap (with_hint h) c.loop-hint.invariant ∙ sym (with_hints-push (take i hints) h p) ∙
    ap (λ (ns : List ℕ). with_hints ns p) (sym (take_more hints i 0 c.loop-hint-test.true))
