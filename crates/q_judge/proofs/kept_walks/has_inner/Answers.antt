use Rattle.std.proofs.Common.{Contains, sym, ap, ◌∙◌, subst, inl, inr}
use Rattle.q_logic.specs.Prelude.{Literal, IsIn}
use Rattle.q_logic.proofs.Common.{item-in, taken-cases, taken-all}
use Rattle.q_judge.specs.Walks.{is_inner}
use Rattle.q_judge.proofs.kept_walks.has_inner.Goals as goal

pub loop-k-init : goal.loop-k-init
loop-k-init c k m t = absurd m

pub is_met-requires-clause-first : goal.is_met-requires-clause-first
is_met-requires-clause-first c = c.requires.within c.k-item.result (item-in c.args.clause.now c.loop-k.k-index c.k-item.result c.loop-k-test.true c.k-item.is)

pub loop-k-preserved : goal.loop-k-preserved
loop-k-preserved c k m t = elim (taken-cases c.args.clause.now c.loop-k.k-index c.k-item.result k c.loop-k-test.true c.k-item.is m) [
  | inl a ↦ c.loop-k.invariant k a t
  | inr e ↦ subst (λ (j : Literal). Contains c.args.known.now j) (sym e) (c.is_met.ensures c.if-not-is_met.false (sym (ap (is_inner c.args.scope.now c.args.u) e) ∙ t))
]

pub returns : goal.returns
returns c t k m = c.loop-k.invariant k (subst (λ xs. IsIn k xs) (sym (taken-all c.args.clause.now c.loop-k.k-index c.loop-k-test.false)) m)
