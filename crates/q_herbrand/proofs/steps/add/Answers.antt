use Rattle.std.proofs.Common.{arith}
use Rattle.q_judge.proofs.TriedSteps.{add-after}
use Rattle.q_herbrand.proofs.steps.add.Goals as goal

pub put-requires : goal.put-requires
put-requires c =
    let v = c.requires.valid in
    let k = v.2 in
    rw c.in_ok-entry.ensures.same (record {
      ordered = c.requires.ordered;
      within = v.0;
      few_clauses = omega (arith, k.clauses);
      few_lits = omega (arith, k.lits);
    })

pub returns : goal.returns
returns c =
    let L = c.args.ledger.now in
    let put = rw c.in_ok-entry.ensures.same at c.in_ok-put.ensures.ok in
    rw (c.in_ok-put.ensures.prefix, c.in_ok-entry.ensures.same) (
      add-after L.prefix L.slots c.put.new.self.slots c.in_ok-put.field-0 c.args.first c.args.clause.now put,
      c.in_ok-entry.ensures.entry,
    )
