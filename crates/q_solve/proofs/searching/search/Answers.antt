use Rattle.std.proofs.Common.{sym, ◌∙◌, subst}
use Rattle.q_logic.specs.Prelude.{Prefix}
use Rattle.q_certificate.specs.Prelude.{IsOpened}
use Rattle.q_solve.specs.Written.{IsWritten}
use Rattle.q_search.proofs.NodeSteps.{going-out}
use Rattle.q_solve.specs.Places.{walk_of}
use Rattle.q_solve.proofs.DecisionReturns.{ready-won, ready-lost}
use Rattle.q_solve.proofs.SearchAnswer.{start_of, going-here, ready-here, down-here, won-next, lost-next, root-row, root-within, yes-here, no-here}
use Rattle.q_solve.proofs.searching.search.Goals as goal

pub loop-left-init : goal.loop-left-init
loop-left-init c = record {
  going = going-here c.args.formula.now c.in_ok-node.node c.args.budget c.in_ok-node.ensures.value;
  ready = ready-here c.args.formula.now c.in_ok-node.node c.in_ok-circuits.circuits c.in_ok-node.ensures.value c.in_ok-node.ensures.formula (subst (IsOpened c.in_ok-circuits.circuits.aig c.in_ok-circuits.circuits.inputs.items) c.prefix.ensures.value c.in_ok-circuits.ensures.opened) c.in_ok-circuits.ensures.aside;
}

pub returns-then-not-pay : goal.returns-then-not-pay
returns-then-not-pay c =
    going-out (walk_of (start_of c.args.formula.now)) (walk_of c.loop-left.node) c.args.budget c.loop-left.left c.pay.new.left c.loop-left.invariant.going (sym c.look.ensures.value ∙ c.in-Open.is) (c.look.ensures.open c.in-Open.is) c.if-not-pay.ensures

pub loop-left-smaller-in_ok-give-in-Open : goal.loop-left-smaller-in_ok-give-in-Open
loop-left-smaller-in_ok-give-in-Open c =
    (down-here (walk_of (start_of c.args.formula.now)) c.loop-left.circuits c.loop-left.node c.give.new.self c.args.budget c.loop-left.left c.pay.new.left c.loop-left.invariant.going c.loop-left.invariant.ready (sym c.look.ensures.value ∙ c.in-Open.is) (c.look.ensures.open c.in-Open.is) c.if-not-pay.ensures c.in_ok-give-in-Open.ensures.ok).0.1

pub loop-left-preserved-in_ok-give-in-Open : goal.loop-left-preserved-in_ok-give-in-Open
loop-left-preserved-in_ok-give-in-Open c =
    let r = down-here (walk_of (start_of c.args.formula.now)) c.loop-left.circuits c.loop-left.node c.give.new.self c.args.budget c.loop-left.left c.pay.new.left c.loop-left.invariant.going c.loop-left.invariant.ready (sym c.look.ensures.value ∙ c.in-Open.is) (c.look.ensures.open c.in-Open.is) c.if-not-pay.ensures c.in_ok-give-in-Open.ensures.ok in
    record { going = r.0.0; ready = r.1 }

pub climb_won-requires : goal.climb_won-requires
climb_won-requires c =
    ready-won c.loop-left.circuits c.begin.new.self (walk_of c.loop-left.node) c.loop-left.invariant.ready (sym c.look.ensures.value ∙ c.in-Won.is) c.begin.ensures.graph c.begin.ensures.current c.begin.ensures.aside

pub certificate-requires-clause-row : goal.certificate-requires-clause-row
certificate-requires-clause-row c = root-row c.climb_won.new.circuits c.climb_won.new.node c.in_ok-climb_won-in-Won.field-0 c.if-not-branch.true c.in_ok-climb_won-in-Won.ensures.circuits

pub certificate-requires-clause-within : goal.certificate-requires-clause-within
certificate-requires-clause-within c =
    root-within (walk_of (start_of c.args.formula.now)) c.climb_won.new.circuits c.loop-left.node c.climb_won.new.node c.args.budget c.loop-left.left c.prefix-then-not-branch.result.now c.in_ok-climb_won-in-Won.field-0 c.if-not-branch.true c.in_ok-climb_won-in-Won.ensures.circuits c.loop-left.invariant.going c.in_ok-climb_won-in-Won.ensures.same c.prefix-then-not-branch.ensures.value

pub returns-then-not-branch : goal.returns-then-not-branch
returns-then-not-branch c =
    yes-here c.args.formula.now c.climb_won.new.circuits c.loop-left.node c.climb_won.new.node c.args.budget c.loop-left.left c.in_ok-made-in-Won.made c.in_ok-climb_won-in-Won.field-0 c.in_ok-node.ensures.formula (c.won_is_true.ensures c.args.formula.now c.in_ok-node.ensures.formula) c.if-not-branch.true c.loop-left.invariant.going (sym c.look.ensures.value ∙ c.in-Won.is) c.in_ok-climb_won-in-Won.ensures.turned c.in_ok-climb_won-in-Won.ensures.circuits c.in_ok-climb_won-in-Won.ensures.same
    (subst (λ (P : Prefix). IsWritten c.climb_won.new.circuits.aig P c.climb_won.new.circuits.current c.in_ok-made-in-Won.made) c.prefix-then-not-branch.ensures.value c.in_ok-made-in-Won.ensures)

pub loop-left-smaller-else-not-branch : goal.loop-left-smaller-else-not-branch
loop-left-smaller-else-not-branch c =
    (won-next (walk_of (start_of c.args.formula.now)) c.climb_won.new.circuits c.loop-left.node c.climb_won.new.node c.args.budget c.loop-left.left c.loop-left.invariant.going (sym c.look.ensures.value ∙ c.in-Won.is) c.in_ok-climb_won-in-Won.field-0 c.if-not-branch.false c.in_ok-climb_won-in-Won.ensures.turned c.in_ok-climb_won-in-Won.ensures.circuits).0.1

pub loop-left-preserved-else-not-branch : goal.loop-left-preserved-else-not-branch
loop-left-preserved-else-not-branch c =
    let r = won-next (walk_of (start_of c.args.formula.now)) c.climb_won.new.circuits c.loop-left.node c.climb_won.new.node c.args.budget c.loop-left.left c.loop-left.invariant.going (sym c.look.ensures.value ∙ c.in-Won.is) c.in_ok-climb_won-in-Won.field-0 c.if-not-branch.false c.in_ok-climb_won-in-Won.ensures.turned c.in_ok-climb_won-in-Won.ensures.circuits in
    record { going = r.0.0; ready = r.1 }

pub climb_lost-requires : goal.climb_lost-requires
climb_lost-requires c = ready-lost c.loop-left.circuits (walk_of c.loop-left.node) c.loop-left.invariant.ready (sym c.look.ensures.value ∙ c.in-Lost.is)

pub returns-then-not-branch-2 : goal.returns-then-not-branch-2
returns-then-not-branch-2 c =
    no-here c.args.formula.now c.loop-left.node c.climb_lost.new.node c.args.budget c.loop-left.left c.in_ok-climb_lost-in-Lost.field-0 (c.won_is_true.ensures c.args.formula.now c.in_ok-node.ensures.formula) c.if-not-branch-2.true c.loop-left.invariant.going (sym c.look.ensures.value ∙ c.in-Lost.is) c.in_ok-climb_lost-in-Lost.ensures.turned

pub loop-left-smaller : goal.loop-left-smaller
loop-left-smaller c =
    (lost-next (walk_of (start_of c.args.formula.now)) c.climb_lost.new.circuits c.loop-left.node c.climb_lost.new.node c.args.budget c.loop-left.left c.loop-left.invariant.going (sym c.look.ensures.value ∙ c.in-Lost.is) c.in_ok-climb_lost-in-Lost.field-0 c.if-not-branch-2.false c.in_ok-climb_lost-in-Lost.ensures.turned c.in_ok-climb_lost-in-Lost.ensures.circuits).0.1

pub loop-left-preserved : goal.loop-left-preserved
loop-left-preserved c =
    let r = lost-next (walk_of (start_of c.args.formula.now)) c.climb_lost.new.circuits c.loop-left.node c.climb_lost.new.node c.args.budget c.loop-left.left c.loop-left.invariant.going (sym c.look.ensures.value ∙ c.in-Lost.is) c.in_ok-climb_lost-in-Lost.field-0 c.if-not-branch-2.false c.in_ok-climb_lost-in-Lost.ensures.turned c.in_ok-climb_lost-in-Lost.ensures.circuits in
    record { going = r.0.0; ready = r.1 }
