use Rattle.std.proofs.Common.{◌∙◌, refl, sym, inr, inl, subst, true≢false}
use Rattle.q_logic.specs.Prelude.{negation, Clause, IsIn}
use Rattle.q_logic.specs.Blocking.{Clashes}
use Rattle.q_kernel.specs.Prelude.{slots}
use Rattle.q_rule.proofs.IdClauses.{slot-one}
use Rattle.q_logic.proofs.Common.{test-false}
use Rattle.q_blocked.proofs.covered.narrow.Goals as goal

pub clashes-requires-clause-bound : goal.clashes-requires-clause-bound
clashes-requires-clause-bound c =
    let q = slot-one (slots c.args.kernel.now) c.args.d c.requires.0 c.clause_of-clause.result.now c.requires.1 c.clause_of-clause.ensures.clause in
    c.clause_of-clause.ensures.within (negation c.args.l) (subst (λ (D : Clause). IsIn (negation c.args.l) D) q c.requires.2)

pub begin-requires-clause-bound : goal.begin-requires-clause-bound
begin-requires-clause-bound c =
    let q = slot-one (slots c.args.kernel.now) c.args.d c.requires.0 c.clause_of-clause.result.now c.requires.1 c.clause_of-clause.ensures.clause in
    rw c.negated.ensures (c.clause_of-clause.ensures.within (negation c.args.l) (subst (λ (D : Clause). IsIn (negation c.args.l) D) q c.requires.2))

pub returns-then-clashes : goal.returns-then-clashes
returns-then-clashes c = inl (
  (λ D b. subst (λ (E : Clause). Clashes c.args.kernel.now.prefix c.args.l c.args.set.now E) (slot-one (slots c.args.kernel.now) c.args.d c.clause_of-clause.result.now D c.clause_of-clause.ensures.clause b.1) (c.clashes.ensures.0 c.if-clashes.true)),
  refl,
  refl,
)

pub returns-then-was : goal.returns-then-was
returns-then-was c =
    let q = slot-one (slots c.args.kernel.now) c.args.d c.requires.0 c.clause_of-clause.result.now c.requires.1 c.clause_of-clause.ensures.clause in
    inr (record {
      opened = refl;
      by = c.clause_of-clause.result.now;
      beside = (c.if-d-c.false, c.clause_of-clause.ensures.clause);
      holds = subst (λ (D : Clause). IsIn (negation c.args.l) D) q c.requires.2;
      clear = test-false c.clashes.result c.clashes.ensures c.if-clashes.false;
      first = λ e. absurd (true≢false (sym c.if-was.true ∙ e));
      next = λ e. c.in_ok-keep.ensures;
    })

pub returns : goal.returns
returns c =
    let q = slot-one (slots c.args.kernel.now) c.args.d c.requires.0 c.clause_of-clause.result.now c.requires.1 c.clause_of-clause.ensures.clause in
    inr (record {
      opened = refl;
      by = c.clause_of-clause.result.now;
      beside = (c.if-d-c.false, c.clause_of-clause.ensures.clause);
      holds = subst (λ (D : Clause). IsIn (negation c.args.l) D) q c.requires.2;
      clear = test-false c.clashes.result c.clashes.ensures c.if-clashes.false;
      first = λ e. rw c.negated.ensures at c.in_ok-begin.ensures;
      next = λ e. absurd (true≢false (sym (sym c.if-was.false ∙ e)));
    })
