use Rattle.std.proofs.Common.{subst}
use Rattle.q_logic.specs.Prelude.{Literal, negation, Clause}
use Rattle.q_kernel.specs.Prelude.{slots}
use Rattle.q_blocked.specs.declared.pairs.Shared.{Shared}
use Rattle.q_blocked.specs.Walks.{IsParted, HasShared}
use Rattle.q_blocked.proofs.CoveredLiterals.{closed-parted}
use Rattle.q_blocked.proofs.pairs.covers_nothing.Goals as goal

pub share_on-requires-clause-first : goal.share_on-requires-clause-first
share_on-requires-clause-first c = let r = c.is_open.ensures c.if-not-is_open.false in (r.0, r.1.1, r.2)

pub share_on-requires-clause-second : goal.share_on-requires-clause-second
share_on-requires-clause-second c = let r = c.is_open-2.ensures c.if-not-is_open-2.false in (r.0, r.1.1)

pub returns-in-OfSet-clause-nothing : goal.returns-in-OfSet-clause-nothing
returns-in-OfSet-clause-nothing c e =
    let P = c.args.kernel.now.prefix in
    let m : Literal = negation c.args.l in
    let S : Clause = c.args.set.now in
    closed-parted P (slots c.args.kernel.now) c.args.c c.args.l S c.of-pair.result.first c.of-pair.result.second (c.is_open.ensures c.if-not-is_open.false) (c.is_open-2.ensures c.if-not-is_open-2.false)
    (λ C D s t. subst (λ (v : Shared). HasShared P m S C D v) c.in-OfSet.is (c.share_on.ensures C D s t))

pub returns-in-Nothing-clause-nothing : goal.returns-in-Nothing-clause-nothing
returns-in-Nothing-clause-nothing c e =
    let P = c.args.kernel.now.prefix in
    let m : Literal = negation c.args.l in
    let S : Clause = c.args.set.now in
    closed-parted P (slots c.args.kernel.now) c.args.c c.args.l S c.of-pair.result.first c.of-pair.result.second (c.is_open.ensures c.if-not-is_open.false) (c.is_open-2.ensures c.if-not-is_open-2.false)
    (λ C D s t k i z j n. let h : IsParted P m C D = subst (λ (v : Shared). HasShared P m S C D v) c.in-Nothing.is (c.share_on.ensures C D s t) in h k i z j)

pub returns-in-Nothing-clause-apart : goal.returns-in-Nothing-clause-apart
returns-in-Nothing-clause-apart c =
    let k = c.args.kernel.now in
    let m : Literal = negation c.args.l in
    let S : Clause = c.args.set.now in
    let a = c.is_open.ensures c.if-not-is_open.false in
    let b = c.is_open-2.ensures c.if-not-is_open-2.false in
    let h : IsParted k.prefix m a.0 b.0 = subst (λ (v : Shared). HasShared k.prefix m S a.0 b.0 v) c.in-Nothing.is (c.share_on.ensures a.0 b.0 a.1.1 b.1.1) in
    c.note-had_room.ensures k c.requires (a.0, b.0, a.1.1, b.1.1, a.2, b.2, h)
