use Rattle.std.proofs.Common.{◌∙◌, ◌++◌, ◌∷◌, [], ◌<◌, length, sym, ap, arith}
use Rattle.q_logic.specs.Prelude.{Clause}
use Rattle.q_logic.proofs.Common.{taken-all, taken}
use Rattle.q_blocked.proofs.ListFronts.{place-get}
use Rattle.q_blocked.proofs.growth.copy.Goals as goal

pub loop-place-preserved : goal.loop-place-preserved
loop-place-preserved c =
    let S : Clause = c.args.set.now in
    let here : c.loop-place.place < length S = omega (arith, c.loop-place-test.true, c.len-place-end.ensures) in
    c.in_ok-push.ensures.items ∙ (ap (λ (xs : Clause). xs ++ c.at.result ∷ []) c.loop-place.invariant ∙ sym (taken S c.loop-place.place c.at.result here (place-get S c.loop-place.place c.at.result c.at.ensures)))

pub returns : goal.returns
returns c =
    let S : Clause = c.args.set.now in
    c.loop-place.invariant ∙ taken-all S c.loop-place.place (omega (arith, c.loop-place-test.false, c.len-place-end.ensures))
