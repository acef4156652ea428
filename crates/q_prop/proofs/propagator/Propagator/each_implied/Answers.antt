use Rattle.std.proofs.Common.{◌++◌, length, arith, refl, ◌∙◌}
use Rattle.q_prop.specs.Slots.{filled, without}
use Rattle.q_prop.proofs.CompleteRoot.{root_implied}
use Rattle.q_prop.proofs.KeptRoot.{rooted_kept, rooted_free, derived_skip, falsified_skip}
use Rattle.q_prop.proofs.propagator.Propagator.each_implied.Goals as goal

pub returns-then-self : goal.returns-then-self
returns-then-self c =
    let w = c.self.inside.watched in
    let r = c.self.inside.root in
    let v = c.self.invariant in
    let free = c.stands.ensures c.if-not-stands.false in
    let derived = derived_skip w.clauses.slots c.args.skip r.trail free v.rooted.derived in
    let falsified = falsified_skip w.clauses.slots c.args.skip r.trail free (v.falsified c.if-self.true) in
    record {
      same = refl;
      exact = rw (← c.self.view_is) (λ _ t h. root_implied (filled (without w.clauses.slots c.args.skip)) r.trail (c.args.lits.now ++ t) derived falsified, λ _. refl);
    }

pub query_each-requires : goal.query_each-requires
query_each-requires c =
    let w = c.self.inside.watched in
    let r = c.self.inside.root in
    let v = c.self.invariant in
    let free = c.stands.ensures c.if-not-stands.false in
    let complete = c.is_complete.ensures c.if-not-is_complete.false in
    let whole = rw (complete.0, complete.1) at v.rooted in
    record {
      rooted = rw c.deref.ensures.value (rooted_free w.clauses.slots c.args.skip w.clauses.pairs r.singles.items (length r.singles.items) r.trail (length r.trail) free whole);
      covered = v.covered;
    }

pub invariant_of-self : goal.invariant_of-self
invariant_of-self c =
    let w = c.self.inside.watched in
    let r = c.self.inside.root in
    let v = c.self.invariant in
    let m = c.query_each.ensures.moved in
    let complete = c.is_complete.ensures c.if-not-is_complete.false in
    let whole = rw (complete.0, complete.1) at v.rooted in
    rw (c.query_each.ensures.same, complete.0, complete.1) (record {
      covered = m.covered;
      rooted = rw m.same (rooted_kept w.clauses.slots w.clauses.pairs c.query_each.new.watched.clauses.pairs r.singles.items (length r.singles.items) r.trail whole m.kept);
      done_in = omega arith;
      standing = rw m.same v.standing;
      once = v.once;
      falsified = rw m.same v.falsified;
    })

pub invariant_of-self-2 : goal.invariant_of-self-2
invariant_of-self-2 c =
    let w = c.self.inside.watched in
    let r = c.self.inside.root in
    let v = c.self.invariant in
    let m = c.query_each.ensures.moved in
    let complete = c.is_complete.ensures c.if-not-is_complete.false in
    let whole = rw (complete.0, complete.1) at v.rooted in
    rw (c.query_each.ensures.same, complete.0, complete.1) (record {
      covered = m.covered;
      rooted = rw m.same (rooted_kept w.clauses.slots w.clauses.pairs c.query_each.new.watched.clauses.pairs r.singles.items (length r.singles.items) r.trail whole m.kept);
      done_in = omega arith;
      standing = rw m.same v.standing;
      once = v.once;
      falsified = rw m.same v.falsified;
    })

pub returns-clause-same : goal.returns-clause-same
returns-clause-same c = c.query_each.ensures.moved.same ∙ c.self.view_is

pub returns-clause-exact : goal.returns-clause-exact
returns-clause-exact c = rw (← c.self.view_is) c.in_ok-answer.ensures.exact
