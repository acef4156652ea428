use Rattle.std.proofs.Common.{[], false}
use Rattle.q_logic.specs.Prelude.{Follows}
use Rattle.q_prop.specs.Slots.{without}
use Rattle.q_prop.specs.Working.{Clashes, IsAssumed}
use Rattle.q_prop.specs.Plain.{IsExplained}
use Rattle.q_prop.proofs.HintSteps.{clash-tautology}
use Rattle.q_prop.proofs.PlainLemmas.{not-implied, follows-implied, tautology-shown, yes-implied, no-implied}
use Rattle.q_prop.proofs.plain.explain_plainly.Goals as goal

pub returns-then-branch-clause-exact : goal.returns-then-branch-clause-exact
returns-then-branch-clause-exact c =
    let s = without c.args.clauses.now.slots c.args.skip in
    let clash : Clashes c.truncate.new.self c.args.lits.now = rw c.if-branch.true at c.in_ok-assume.ensures.ends in
    yes-implied s c.args.lits.now [] (tautology-shown s c.args.lits.now (clash-tautology c.args.lits.now (rw c.truncate.ensures at clash)))

pub returns-then-branch-clause-shown : goal.returns-then-branch-clause-shown
returns-then-branch-clause-shown c =
    let s = without c.args.clauses.now.slots c.args.skip in
    let clash : Clashes c.truncate.new.self c.args.lits.now = rw c.if-branch.true at c.in_ok-assume.ensures.ends in
    rw c.clear.ensures.items (tautology-shown s c.args.lits.now (clash-tautology c.args.lits.now (rw c.truncate.ensures at clash)))

pub returns-then-branch-2-clause-exact : goal.returns-then-branch-2-clause-exact
returns-then-branch-2-clause-exact c =
    let s = without c.args.clauses.now.slots c.args.skip in
    let assumed : IsAssumed c.truncate.new.self c.args.lits.now c.assume.new.trail = rw c.if-branch.false at c.in_ok-assume.ensures.ends in
    let f : Follows s c.assume.new.trail c.search.new.hints.items = rw c.if-branch-2.true at c.in_ok-search.ensures in
    yes-implied s c.args.lits.now c.search.new.hints.items (follows-implied s c.args.lits.now c.assume.new.trail c.search.new.hints.items (rw c.truncate.ensures at assumed) f)

pub returns-then-branch-2-clause-shown : goal.returns-then-branch-2-clause-shown
returns-then-branch-2-clause-shown c =
    let s = without c.args.clauses.now.slots c.args.skip in
    let assumed : IsAssumed c.truncate.new.self c.args.lits.now c.assume.new.trail = rw c.if-branch.false at c.in_ok-assume.ensures.ends in
    let f : Follows s c.assume.new.trail c.search.new.hints.items = rw c.if-branch-2.true at c.in_ok-search.ensures in
    follows-implied s c.args.lits.now c.assume.new.trail c.search.new.hints.items (rw c.truncate.ensures at assumed) f

pub returns-clause-exact : goal.returns-clause-exact
returns-clause-exact c =
    let s = without c.args.clauses.now.slots c.args.skip in
    let assumed : IsAssumed c.truncate.new.self c.args.lits.now c.assume.new.trail = rw c.if-branch.false at c.in_ok-assume.ensures.ends in
    let e : IsExplained s c.assume.new.trail c.search.new.trail c.search.new.hints.items false = rw c.if-branch-2.false at c.in_ok-search.ensures in
    no-implied s c.args.lits.now (not-implied s c.args.lits.now c.assume.new.trail c.search.new.trail (rw c.truncate.ensures at assumed) e.0 e.1 e.2)
