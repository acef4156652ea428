use Rattle.std.proofs.Common.{sym}
use Rattle.q_logic.proofs.ClauseBounds.{AreEnds-start, AreEnds-end, start_of-later}
use Rattle.q_logic.proofs.clause_row.bounds.Goals as goal

pub returns-then-at-eq0-clause-within : goal.returns-then-at-eq0-clause-within
returns-then-at-eq0-clause-within c = AreEnds-end 0 c.args.ends.now c.args.lits c.args.at c.requires.ends c.requires.at

pub returns-clause-start : goal.returns-clause-start
returns-clause-start c = sym (start_of-later 0 c.args.ends.now c.args.at c.if-at-eq0.false c.requires.at)

pub returns-clause-order : goal.returns-clause-order
returns-clause-order c =
    let e = start_of-later 0 c.args.ends.now c.args.at c.if-at-eq0.false c.requires.at in
    let h = AreEnds-start 0 c.args.ends.now c.args.lits c.args.at c.requires.ends c.requires.at in
    rw e at h

pub returns-clause-within : goal.returns-clause-within
returns-clause-within c = AreEnds-end 0 c.args.ends.now c.args.lits c.args.at c.requires.ends c.requires.at
