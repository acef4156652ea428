use Rattle.std.proofs.Common.{arith, ◌≡◌, false, subst}
use Rattle.q_logic.specs.Prelude.{Literal, negation, Clause, IsIn}
use Rattle.q_logic.specs.Blocking.{Clashes}
use Rattle.q_logic.proofs.Common.{test-false}
use Rattle.q_kernel.specs.Prelude.{slots}
use Rattle.q_rule.proofs.IdClauses.{slot-one}
use Rattle.q_blocked.proofs.ApartNotes.{noted-apart, apart-covers}
use Rattle.q_blocked.proofs.apart.Apart.cover_nothing.Goals as goal

pub clause_of-requires : goal.clause_of-requires
clause_of-requires c =
    let k = c.args.kernel.now in
    let l : Literal = c.args.l in
    let a = noted-apart k c.args.self.now l c.get-pair.result c.index.result c.requires (c.has.ensures.0 c.if-not-has.false) c.get-pair.ensures c.index.ensures in
    (a.0, a.2)

pub clashes-requires-clause-bound : goal.clashes-requires-clause-bound
clashes-requires-clause-bound c =
    let k = c.args.kernel.now in
    let l : Literal = c.args.l in
    let a = noted-apart k c.args.self.now l c.get-pair.result c.index.result c.requires (c.has.ensures.0 c.if-not-has.false) c.get-pair.ensures c.index.ensures in
    let q = slot-one (slots k) c.get-pair.result.first a.0 c.clause_of.result.now a.2 c.clause_of.ensures.clause in
    c.clause_of.ensures.within (negation l) (subst (λ (D : Clause). IsIn (negation l) D) q a.4)

pub clause_of-requires-2 : goal.clause_of-requires-2
clause_of-requires-2 c =
    let k = c.args.kernel.now in
    let l : Literal = c.args.l in
    let a = noted-apart k c.args.self.now l c.get-pair.result c.index.result c.requires (c.has.ensures.0 c.if-not-has.false) c.get-pair.ensures c.index.ensures in
    (a.1, a.3)

pub clashes-requires-2-clause-bound : goal.clashes-requires-2-clause-bound
clashes-requires-2-clause-bound c =
    let k = c.args.kernel.now in
    let l : Literal = c.args.l in
    let a = noted-apart k c.args.self.now l c.get-pair.result c.index.result c.requires (c.has.ensures.0 c.if-not-has.false) c.get-pair.ensures c.index.ensures in
    let q = slot-one (slots k) c.get-pair.result.second a.1 c.clause_of-2.result.now a.3 c.clause_of-2.ensures.clause in
    c.clause_of-2.ensures.within (negation l) (subst (λ (D : Clause). IsIn (negation l) D) q a.5)

pub returns : goal.returns
returns c t =
    let k = c.args.kernel.now in
    let N = slots k in
    let l : Literal = c.args.l in
    let S : Clause = c.args.set.now in
    let a = noted-apart k c.args.self.now l c.get-pair.result c.index.result c.requires (c.has.ensures.0 c.if-not-has.false) c.get-pair.ensures c.index.ensures in
    let q : c.clashes-2.result ≡ false = grind arith in
    apart-covers k.prefix N c.args.c c.get-pair.result.first c.get-pair.result.second l S a c.if-pair-c.false c.if-pair-c-2.false
    (λ C s z. test-false c.clashes.result c.clashes.ensures c.if-clashes.false (subst (λ (E : Clause). Clashes k.prefix l S E) (slot-one N c.get-pair.result.first C c.clause_of.result.now s c.clause_of.ensures.clause) z))
    (λ D s z. test-false c.clashes-2.result c.clashes-2.ensures q (subst (λ (E : Clause). Clashes k.prefix l S E) (slot-one N c.get-pair.result.second D c.clause_of-2.result.now s c.clause_of-2.ensures.clause) z))
