use Rattle.std.proofs.Common.{◌∙◌, ◌++◌, ◌∷◌, [], sym, ap, take, append_assoc, append-nil}
use Rattle.q_logic.specs.Prelude.{Clause}
use Rattle.q_logic.proofs.Common.{taken-all, taken}
use Rattle.q_blocked.proofs.cover.push_all.Goals as goal

pub loop-k-init : goal.loop-k-init
loop-k-init c = sym (append-nil c.args.set.now)

pub loop-k-preserved : goal.loop-k-preserved
loop-k-preserved c =
    let n = c.loop-k.k-index in
    c.in_ok-push.ensures.ok ∙ (ap (λ (xs : Clause). xs ++ c.k-item.result ∷ []) c.loop-k.invariant
    ∙ (append_assoc c.args.set.now (take n c.args.lits.now) (c.k-item.result ∷ [])
    ∙ ap (λ (xs : Clause). c.args.set.now ++ xs) (sym (taken c.args.lits.now n c.k-item.result c.loop-k-test.true c.k-item.is))))

pub returns : goal.returns
returns c = c.loop-k.invariant ∙ ap (λ (xs : Clause). c.args.set.now ++ xs) (taken-all c.args.lits.now c.loop-k.k-index c.loop-k-test.false)
