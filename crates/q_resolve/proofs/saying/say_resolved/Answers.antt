use Rattle.std.proofs.Common.{◌≡◌, ◌+◌, ◌++◌, ◌∷◌, ◌≤◌, [], take, length, sym, ◌∙◌, subst, List}
use Rattle.std.proofs.lemmas.List.{take_all}
use Rattle.q_logic.specs.Prelude.{Literal}
use Rattle.q_logic.proofs.Common.{taken}
use Rattle.q_extract.specs.Saying.{said_in}
use Rattle.q_resolve.specs.Merging.{IsSaidUpto}
use Rattle.q_resolve.proofs.Sayings.{resolved-start, resolved-skip, resolved-more}
use Rattle.q_resolve.proofs.saying.say_resolved.Goals.{then-is_both+in_ok-say_merged, else-is_both}
use Rattle.q_resolve.proofs.saying.say_resolved.Goals as goal

pub loop-k-init : goal.loop-k-init
loop-k-init c =
    resolved-start c.args.owner c.args.prefix.now c.args.pivot (said_in c.args.said.now c.args.i) (said_in c.args.said.now c.args.j) c.args.first.now c.args.second.now c.args.parent.now
    c.args.drops.now c.requires.sound c.requires.fresh

pub loop-k-preserved : goal.loop-k-preserved
loop-k-preserved c =
    let P = c.args.prefix.now in
    let R = c.args.parent.now in
    let L = c.as_slice-lits.result.now in
    let V = take c.loop-k.k-index L in
    let k = c.k-item.result in
    let e : take (c.loop-k.k-index + 1) L ≡ V ++ k ∷ [] = taken L c.loop-k.k-index k c.loop-k-test.true c.k-item.is in
    elim c.if-is_both.branch [
      | then-is_both+in_ok-say_merged w ↦
          let b = sym c.is_both.ensures ∙ w.if-is_both.true in
          subst (IsSaidUpto c.args.owner P c.args.pivot (said_in c.args.said.now c.args.i) (said_in c.args.said.now c.args.j) c.args.first.now c.args.second.now (take (c.loop-k.k-index + 1) L) R c.args.drops.now) (sym w.drops-is)
          (resolved-more c.args.owner P c.args.pivot (said_in c.args.said.now c.args.i) (said_in c.args.said.now c.args.j) c.args.first.now c.args.second.now R c.args.drops.now
          V (take (c.loop-k.k-index + 1) L) k c.loop-k.drops w.say_merged.new.drops e b c.loop-k.invariant w.in_ok-say_merged.ensures)
      | else-is_both w ↦
          let b = sym c.is_both.ensures ∙ w.if-is_both.false in
          subst (IsSaidUpto c.args.owner P c.args.pivot (said_in c.args.said.now c.args.i) (said_in c.args.said.now c.args.j) c.args.first.now c.args.second.now (take (c.loop-k.k-index + 1) L) R c.args.drops.now) (sym w.drops-is)
          (resolved-skip c.args.owner P c.args.pivot (said_in c.args.said.now c.args.i) (said_in c.args.said.now c.args.j) c.args.first.now c.args.second.now R c.args.drops.now
          V (take (c.loop-k.k-index + 1) L) k c.loop-k.drops e b c.loop-k.invariant)
    ]

pub returns : goal.returns
returns c =
    let le : length c.as_slice-lits.result.now ≤ c.loop-k.k-index = c.loop-k-test.false in
    subst (λ (V : List Literal). IsSaidUpto c.args.owner c.args.prefix.now c.args.pivot (said_in c.args.said.now c.args.i) (said_in c.args.said.now c.args.j) c.args.first.now c.args.second.now V c.args.parent.now c.args.drops.now c.loop-k.drops)
    (take_all c.loop-k.k-index c.as_slice-lits.result.now le ∙ c.as_slice-lits.ensures) c.loop-k.invariant
