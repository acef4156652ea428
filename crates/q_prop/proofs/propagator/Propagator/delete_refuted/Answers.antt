use Rattle.std.proofs.Common.{[], Some, true, arith, take}
use Rattle.q_prop.proofs.KeptRoot.{rooted_empty, rooted_cleared, none_watched, listed_fewer, standing_cleared, covered_cleared}
use Rattle.q_prop.proofs.RootRemoval.{rooted_refuted, falsified_loosened}
use Rattle.q_prop.proofs.ListLemmas.{lost-members}
use Rattle.q_prop.proofs.propagator.Propagator.delete_refuted.Goals as goal
use Rattle.q_prop.proofs.propagator.Propagator.delete_refuted.Goals.{then-not-rest, else-not-rest}

pub unlist-requires-clause-paired : goal.unlist-requires-clause-paired
unlist-requires-clause-paired c p e h =
    let r = c.self.invariant.rooted in
    let d = c.self.invariant.standing c.args.slot h in
    let w = r.ready.watched c.args.slot d.0 p d.1 e in
    w.differ (r.listed.short c.args.slot d.0 h d.1 p.first p.second w.first_in w.second_in)

pub loosen-rest-requires-clause-support : goal.loosen-rest-requires-clause-support
loosen-rest-requires-clause-support c = c.without_units.ensures.kept c.self.inside.watched.clauses.slots (Some c.args.slot) (rw (← c.self.view_is) at c.requires.support)

pub loosen-rest-requires-clause-units : goal.loosen-rest-requires-clause-units
loosen-rest-requires-clause-units c l e h = absurd (c.without_units.ensures.none l e)

pub invariant_of-self : goal.invariant_of-self
invariant_of-self c =
    let w = c.self.inside.watched in
    let r = c.self.inside.root in
    let v = c.self.invariant in
    let slot = c.args.slot in
    let left = c.unlist.new.singles.items in
    let u = c.unlist.ensures in
    let lost = lost-members slot r.singles.items left u.lost v.once in
    let standing' = standing_cleared w.clauses.slots slot r.singles.items left v.standing lost in
    let covered' = covered_cleared w.clauses.slots slot w.clauses.pairs w.rows v.covered in
    elim c.if-not-rest.branch [
      | then-not-rest b ↦
          let few = listed_fewer w.clauses.slots slot w.clauses.pairs r.singles.items left v.rooted.listed lost in
          let none = none_watched (take r.head r.trail) r.trail w.clauses.slots w.clauses.pairs v.rooted.ready.watched in
          rw (c.clear.ensures.slots, c.clear.ensures.pairs, b.self-inside-is, b.truncate.ensures) (record {
            covered = covered';
            rooted = rooted_cleared w.clauses.slots slot w.clauses.pairs left 0 [] 0 (rooted_empty w.clauses.slots slot w.clauses.pairs left few none);
            done_in = omega arith;
            standing = standing';
            once = u.lost.distinct v.once;
            falsified = λ e. cc;
          })
      | else-not-rest b ↦
          let loose = c.loosen-rest.ensures b.if-not-rest.false in
          let rest = c.loosen-rest.new.trail in
          rw (c.clear.ensures.slots, c.clear.ensures.pairs, b.self-inside-is) (record {
            covered = covered';
            rooted = rooted_refuted w.clauses.slots slot w.clauses.pairs r.singles.items left r.done 0 r.trail rest r.head true v.rooted loose lost;
            done_in = omega arith;
            standing = standing';
            once = u.lost.distinct v.once;
            falsified = λ e. falsified_loosened w.clauses.slots slot w.clauses.pairs r.singles.items left r.done 0 r.trail rest r.head true v.rooted loose (v.falsified e);
          })
    ]
