use Rattle.std.proofs.Common.{◌≡◌, ◌+◌, ◌++◌, ◌∷◌, ◌≤◌, [], take, length, sym, ◌∙◌, subst, List}
use Rattle.std.proofs.lemmas.List.{take_all}
use Rattle.q_logic.specs.Prelude.{Literal}
use Rattle.q_logic.proofs.Common.{taken}
use Rattle.q_extract.specs.Rows.{said_next}
use Rattle.q_resolve.proofs.Sayings.{KeptUpto, kept-start, kept-skip, kept-more}
use Rattle.q_resolve.proofs.saying.keep.Goals.{then-is_both+in_ok-keep_one, else-is_both}
use Rattle.q_resolve.proofs.saying.keep.Goals as goal

pub loop-k-init : goal.loop-k-init
loop-k-init c = kept-start c.args.prefix.now c.args.own.now c.args.number (said_next c.args.drops.now) c.args.said.now

pub loop-k-preserved : goal.loop-k-preserved
loop-k-preserved c =
    let P = c.args.prefix.now in
    let T = c.args.own.now in
    let L = c.as_slice-lits.result.now in
    let V = take c.loop-k.k-index L in
    let k = c.k-item.result in
    let n = c.args.number in
    let f = said_next c.args.drops.now in
    let e : take (c.loop-k.k-index + 1) L ≡ V ++ k ∷ [] = taken L c.loop-k.k-index k c.loop-k-test.true c.k-item.is in
    elim c.if-is_both.branch [
      | then-is_both+in_ok-keep_one w ↦
          subst (λ s. KeptUpto P (take (c.loop-k.k-index + 1) L) T n f c.args.said.now s) (sym w.said-is)
          (kept-more P V (take (c.loop-k.k-index + 1) L) T k n w.var.result f c.args.said.now c.loop-k.said w.keep_one.new.said e (sym c.is_both.ensures ∙ w.if-is_both.true) w.var.ensures.value c.requires.later
          c.loop-k.invariant w.in_ok-keep_one.ensures)
      | else-is_both w ↦
          subst (λ s. KeptUpto P (take (c.loop-k.k-index + 1) L) T n f c.args.said.now s) (sym w.said-is)
          (kept-skip P V (take (c.loop-k.k-index + 1) L) T k n f c.args.said.now c.loop-k.said e (sym c.is_both.ensures ∙ w.if-is_both.false) c.loop-k.invariant)
    ]

pub returns : goal.returns
returns c =
    let le : length c.as_slice-lits.result.now ≤ c.loop-k.k-index = c.loop-k-test.false in
    subst (λ (V : List Literal). KeptUpto c.args.prefix.now V c.args.own.now c.args.number (said_next c.args.drops.now) c.args.said.now c.loop-k.said)
    (take_all c.loop-k.k-index c.as_slice-lits.result.now le ∙ c.as_slice-lits.ensures) c.loop-k.invariant
