use Rattle.std.proofs.Common.{Contains, inr}
use Rattle.q_prop.specs.Slots.{without}
use Rattle.q_prop.proofs.SlotLemmas.{filled-in, test_fails}
use Rattle.q_prop.proofs.glance.look.Goals as goal

pub returns-in-Nothing-clause-falsified : goal.returns-in-Nothing-clause-falsified
returns-in-Nothing-clause-falsified c =
    let s = without c.args.clauses.now.slots c.args.skip in
    let clause = c.in-Some.clause.now in
    λ _. (clause, filled-in s c.args.entry.slot clause c.in-Some.ensures, rw c.note_conflict.ensures c.in-Nothing.ensures)

pub returns-in_ok-force-in-One-clause-grown : goal.returns-in_ok-force-in-One-clause-grown
returns-in_ok-force-in-One-clause-grown c =
    let s = without c.args.clauses.now.slots c.args.skip in
    let clause = c.in-Some.clause.now in
    let l = c.in-One.lit in
    let new = test_fails c.has-in-One.result (Contains c.args.trail.now l) c.has-in-One.ensures c.if-not-has.true in
    inr (
      l,
      c.in_ok-force-in-One.ensures.ok,
      (
        record {
          clause = clause;
          of_matrix = filled-in s c.args.entry.slot clause c.in-Some.ensures;
          of_clause = c.in-One.ensures.0;
          others = c.in-One.ensures.2;
        },
        new,
        c.in-One.ensures.1,
      ),
    )
