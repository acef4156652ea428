use Rattle.std.proofs.Common.{◌≡◌, ◌∙◌, sym, ap, subst, Some, inl, inr}
use Rattle.q_logic.specs.Prelude.{Literal, Clause, IsIn}
use Rattle.q_blocked.specs.Searches.{IsOn}
use Rattle.q_logic.proofs.Common.{item-in, taken-cases, taken-all, none_of}
use Rattle.q_blocked.proofs.BlockedSearch.{AreNone, found-on, found-pivot}
use Rattle.q_blocked.proofs.find.find_pivot.Goals as goal

pub target_on-found-requires : goal.target_on-found-requires
target_on-found-requires c =
    let e : c.fill.new.set ≡ c.lits-clause.result.now = c.in_ok-fill.ensures in (
      c.lits-clause.ensures.clause ∙ ap (λ (C : Clause). Some C) (sym e),
      subst (λ (C : Clause). IsIn c.l-item.result C) (sym e) (item-in c.lits-clause.result.now c.loop-l.l-index c.l-item.result c.loop-l-test.true c.l-item.is),
    )

pub returns-then-is_some : goal.returns-then-is_some
returns-then-is_some c = found-on c.args.kernel.now c.args.c c.l-item.result c.target_on-found.result (sym c.is_some.ensures ∙ c.if-is_some.true) c.target_on-found.ensures

pub loop-l-init : goal.loop-l-init
loop-l-init c l m = absurd m

pub loop-l-preserved : goal.loop-l-preserved
loop-l-preserved c k m t q B f = elim (taken-cases c.lits-clause.result.now c.loop-l.l-index c.l-item.result k c.loop-l-test.true c.l-item.is m) [
  | inl a ↦ c.loop-l.invariant k a t q B f
  | inr e ↦ c.target_on-found.ensures.none (none_of c.target_on-found.result (sym c.is_some.ensures ∙ c.if-is_some.false)) t (subst (λ (l : Literal). IsOn c.args.c l t) e q) B f
]

pub returns : goal.returns
returns c = found-pivot c.args.kernel.now c.args.c c.lits-clause.result.now c.lits-clause.ensures.clause
    (subst (λ (C : Clause). AreNone c.args.kernel.now c.args.c C) (taken-all c.lits-clause.result.now c.loop-l.l-index c.loop-l-test.false) c.loop-l.invariant)
