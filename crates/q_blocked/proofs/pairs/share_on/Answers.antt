use Rattle.std.proofs.Common.{subst}
use Rattle.q_logic.specs.Prelude.{negation, Clause, IsIn}
use Rattle.q_kernel.specs.Prelude.{slots}
use Rattle.q_rule.proofs.IdClauses.{slot-one}
use Rattle.q_blocked.specs.Walks.{HasShared}
use Rattle.q_blocked.proofs.pairs.share_on.Goals as goal

pub share-requires-clause-bound : goal.share-requires-clause-bound
share-requires-clause-bound c =
    let r = c.requires.first in
    let q = slot-one (slots c.args.kernel.now) c.args.pair.first r.0 c.clause_of-first.result.now r.1 c.clause_of-first.ensures.clause in
    rw c.negated.ensures (c.clause_of-first.ensures.within (negation c.args.l) (subst (λ (D : Clause). IsIn (negation c.args.l) D) q r.2))

pub returns : goal.returns
returns c C D f g =
    let k = c.args.kernel.now in
    let N = slots k in
    let S = c.args.set.now in
    let m = negation c.args.l in
    let a = slot-one N c.args.pair.first c.clause_of-first.result.now C c.clause_of-first.ensures.clause f in
    let b = slot-one N c.args.pair.second c.clause_of-second.result.now D c.clause_of-second.ensures.clause g in
    let s = rw c.negated.ensures at c.share.ensures in
    subst (λ (E : Clause). HasShared k.prefix m S C E c.share.result) b (subst (λ (E : Clause). HasShared k.prefix m S E c.clause_of-second.result.now c.share.result) a s)
