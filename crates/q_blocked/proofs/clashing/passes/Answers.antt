use Rattle.std.proofs.Common.{refl, subst}
use Rattle.q_logic.specs.Prelude.{Clause, IsIn, negation}
use Rattle.q_logic.specs.Blocking.{Clashes}
use Rattle.q_kernel.specs.Prelude.{slots}
use Rattle.q_rule.proofs.IdClauses.{slot-one}
use Rattle.q_blocked.proofs.clashing.passes.Goals as goal

pub clashes-requires-clause-bound : goal.clashes-requires-clause-bound
clashes-requires-clause-bound c =
    let q = slot-one (slots c.args.kernel.now) c.args.d c.requires.0 c.clause_of.result.now c.requires.1 c.clause_of.ensures.clause in
    c.clause_of.ensures.within (negation c.args.l) (subst (λ (D : Clause). IsIn (negation c.args.l) D) q c.requires.2)

pub returns-then-d-c : goal.returns-then-d-c
returns-then-d-c c = ((λ t. record { each = λ D b. absurd (b.0 c.if-d-c.true) }), (λ z. refl))

pub returns : goal.returns
returns c = (
  (λ t. record { each = λ D b. subst (λ (E : Clause). Clashes c.args.kernel.now.prefix c.args.l c.args.set.now E) (slot-one (slots c.args.kernel.now) c.args.d c.clause_of.result.now D c.clause_of.ensures.clause b.1) (c.clashes.ensures.0 t) }),
  (λ z. c.clashes.ensures.1 (z.each c.clause_of.result.now (c.if-d-c.false, c.clause_of.ensures.clause))),
)
