use Rattle.std.proofs.Common.{sym, arith, add-one}
use Rattle.q_logic.proofs.HintGroups.{start-end, end-within, end-next, end-last}
use Rattle.q_logic.proofs.proof_part.bounds.Goals as goal

pub returns-then-groups-at-eq1-clause-end : goal.returns-then-groups-at-eq1-clause-end
returns-then-groups-at-eq1-clause-end c =
    sym (end-last c.args.groups.now c.args.hints c.args.at (omega arith))

pub returns-then-groups-at-eq1-clause-order : goal.returns-then-groups-at-eq1-clause-order
returns-then-groups-at-eq1-clause-order c =
    let h = start-end 0 c.args.groups.now c.args.hints c.args.at c.requires.starts c.requires.at in
    let w = end-within 0 c.args.groups.now c.args.hints c.args.at c.requires.starts in
    omega (arith, h, w)

pub returns-clause-end : goal.returns-clause-end
returns-clause-end c =
    rw add-one (sym (end-next c.args.groups.now c.args.hints c.args.at (omega arith)))

pub returns-clause-order : goal.returns-clause-order
returns-clause-order c =
    let e = end-next c.args.groups.now c.args.hints c.args.at (omega arith) in
    let h = start-end 0 c.args.groups.now c.args.hints c.args.at c.requires.starts c.requires.at in
    rw (add-one, ← e) h

pub returns-clause-within : goal.returns-clause-within
returns-clause-within c =
    let e = end-next c.args.groups.now c.args.hints c.args.at (omega arith) in
    let w = end-within 0 c.args.groups.now c.args.hints c.args.at c.requires.starts in
    rw (add-one, ← e) w
