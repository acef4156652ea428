use Rattle.std.proofs.Common.{sym, inl, inr}
use Rattle.q_logic.specs.Prelude.{negation}
use Rattle.q_logic.proofs.Common.{none_of, has_variable-IsIn}
use Rattle.q_kernel.specs.Prelude.{HoldsLiteral}
use Rattle.q_equiv.proofs.ClauseNumbers.{variable-literal}
use Rattle.q_equiv.proofs.bridge.next_clause.Goals as goal

pub returns-then-is_some-clause-some : goal.returns-then-is_some-clause-some
returns-then-is_some-clause-some c id e =
    let r = c.clause_beside-found.ensures.some id e in
    (r.0, r.1, r.2.0, r.2.1, has_variable-IsIn r.2.0 c.args.gone r.2.2)

pub returns-clause-some : goal.returns-clause-some
returns-clause-some c id e =
    let r = c.clause_beside.ensures.some id e in
    let h : HoldsLiteral c.args.kernel.now id (negation c.args.gone) = rw c.negated.ensures at r.2 in
    (r.0, r.1, h.0, h.1, has_variable-IsIn h.0 (negation c.args.gone) h.2)

pub returns-clause-none : goal.returns-clause-none
returns-clause-none c e d C s h = elim (variable-literal c.args.gone C h) [
  | inl m ↦ c.clause_beside-found.ensures.none (none_of c.clause_beside-found.result (sym c.if-is_some.ensures)) d (C, s, m)
  | inr m ↦
      let f = rw c.negated.ensures at c.clause_beside.ensures.none in
      f e d (C, s, m)
]
