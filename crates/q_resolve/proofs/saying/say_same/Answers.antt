use Rattle.std.proofs.Common.{◌≡◌, ◌+◌, ◌++◌, ◌∷◌, ◌≤◌, [], take, length, ap, ◌∙◌, subst, List}
use Rattle.std.proofs.lemmas.List.{take_all}
use Rattle.q_logic.specs.Prelude.{Literal}
use Rattle.q_logic.proofs.Common.{taken}
use Rattle.q_extract.specs.Saying.{said_in}
use Rattle.q_resolve.specs.Merging.{IsSaidOne, IsSaidSame}
use Rattle.q_resolve.proofs.Sayings.{same-start, same-more}
use Rattle.q_resolve.proofs.saying.say_same.Goals as goal

pub loop-k-init : goal.loop-k-init
loop-k-init c = same-start (said_in c.args.said.now c.args.number) c.args.drops.now c.requires.sound c.requires.fresh

pub loop-k-preserved : goal.loop-k-preserved
loop-k-preserved c =
    let S = c.args.source.now in
    let f = said_in c.args.said.now c.args.number in
    let V = take c.loop-k.k-index S in
    let k = c.k-item.result in
    let e : take (c.loop-k.k-index + 1) S ≡ V ++ k ∷ [] = taken S c.loop-k.k-index k c.loop-k-test.true c.k-item.is in
    same-more f V (take (c.loop-k.k-index + 1) S) k c.args.drops.now c.loop-k.drops c.say_one.new.drops c.get.result e
    (c.get.ensures ∙ ap f c.var-in-loop-k.ensures.value) c.loop-k.invariant
    (subst (λ x. IsSaidOne c.loop-k.drops c.say_one.new.drops x c.get.result) c.var.ensures.value c.in_ok-say_one.ensures)

pub returns : goal.returns
returns c =
    let le : length c.args.source.now ≤ c.loop-k.k-index = c.loop-k-test.false in
    subst (λ (V : List Literal). IsSaidSame (said_in c.args.said.now c.args.number) V c.args.drops.now c.loop-k.drops) (take_all c.loop-k.k-index c.args.source.now le) c.loop-k.invariant
