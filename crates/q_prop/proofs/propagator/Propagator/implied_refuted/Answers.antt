use Rattle.std.proofs.Common.{Some, refl}
use Rattle.q_prop.specs.Slots.{filled, without}
use Rattle.q_prop.proofs.CompleteRoot.{root_implied}
use Rattle.q_prop.proofs.RootRemoval.{hung_alone, taken_of, derived_taken, falsified_taken}
use Rattle.q_prop.proofs.propagator.Propagator.implied_refuted.Goals as goal

pub returns-clause-exact : goal.returns-clause-exact
returns-clause-exact c =
    let w = c.self.inside.watched in
    let r = c.self.inside.root in
    let v = c.self.invariant in
    let q = rw (← c.self.view_is) at c.requires in
    let l = c.args.lit in
    let t = taken_of l r.trail in
    let hung = hung_alone w.clauses.slots q.0 l r.trail q.2 in
    let known = c.has.ensures.0 c.if-not-has.false in
    let falsified = v.falsified c.if-not-self.false in
    let derived' = derived_taken w.clauses.slots q.0 l r.trail t.0 hung known v.rooted.ready.consistent t.1 v.rooted.derived in
    let falsified' = falsified_taken w.clauses.slots q.0 l r.trail t.0 hung known v.rooted.ready.consistent t.1 falsified in
    rw (← c.self.view_is, q.1) (λ _. root_implied (filled (without w.clauses.slots (Some q.0))) t.0 c.args.lits.now derived' falsified', λ _. refl)
