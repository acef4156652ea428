use Rattle.std.proofs.Common.{◌≡◌, ◌∙◌, ◌+◌, ◌<◌, ◌≤◌, ◌++◌, ◌∷◌, [], List, length, take, get_or, sym, ap, subst, arith}
use Rattle.q_logic.proofs.Common.{taken-all, taken}
use Rattle.q_blocked.specs.declared.plan.Stage.{Stage}
use Rattle.q_blocked.specs.Plans.{words_of}
use Rattle.q_blocked.proofs.plan.Plan.size.Goals as goal

words_of-last : (ss : List Stage) (s : Stage) → words_of (ss ++ s ∷ []) ≡ words_of ss + s.to
words_of-last [] s = omega arith
words_of-last (r ∷ ss) s = let i = words_of-last ss s in omega arith

pub loop-stage-preserved : goal.loop-stage-preserved
loop-stage-preserved c =
    let ss = c.args.self.now.stages.items in
    let i = c.loop-stage.stage-index in
    let s = c.stage-item.result in
    let e = c.deref-stage-items.ensures.value in
    let more : i < length ss = subst (λ (xs : List Stage). i < length xs) e c.loop-stage-test.true in
    let is : s ≡ get_or ss i s = subst (λ (xs : List Stage). s ≡ get_or xs i s) e c.stage-item.is in
    record {
      words = ap (λ n. n + s.to) c.loop-stage.invariant.words ∙ (sym (words_of-last (take i ss) s) ∙ ap words_of (sym (taken ss i s more is)));
      most = omega (arith, c.if-stage-words.false, c.loop-stage.invariant.most);
    }

pub returns-clause-words : goal.returns-clause-words
returns-clause-words c =
    let ss = c.args.self.now.stages.items in
    let i = c.loop-stage.stage-index in
    let e = c.deref-stage-items.ensures.value in
    (c.loop-stage.invariant.words ∙ ap words_of (taken-all ss i (subst (λ (xs : List Stage). length xs ≤ i) e c.loop-stage-test.false)), c.loop-stage.invariant.most)
