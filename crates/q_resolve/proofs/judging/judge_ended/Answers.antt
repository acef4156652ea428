use Rattle.std.proofs.Common.{subst}
use Rattle.q_resolve.specs.Judged.{entries_of}
use Rattle.q_resolve.specs.Derived.{IsConeJudged}
use Rattle.q_resolve.proofs.Answered.{refused-line, proved-ended, ended-behind}
use Rattle.q_resolve.proofs.judging.judge_ended.Goals as goal

pub returns-in-Some : goal.returns-in-Some
returns-in-Some c =
    let F = c.args.formula.now in
    let o = c.args.owner in
    refused-line o F c.args.trace.now c.args.prefix.now c.in-Some.wrong.at c.in-Some.wrong.fault c.refused.result c.requires.prefix
    (subst (IsConeJudged o c.args.prefix.now F.matrix (entries_of c.args.trace.now.lines) c.judge_cone.new.desk.away.drops c.judge_cone.new.desk.said) c.in-Some.is c.in_ok-found.ensures) c.refused.ensures

pub extract-requires-clause-sound : goal.extract-requires-clause-sound
extract-requires-clause-sound c =
    (subst (IsConeJudged c.args.owner c.args.prefix.now c.args.formula.now.matrix (entries_of c.args.trace.now.lines) c.judge_cone.new.desk.away.drops c.judge_cone.new.desk.said) c.in-None.is c.in_ok-found.ensures).ready.sound

pub extract-requires-clause-pivots : goal.extract-requires-clause-pivots
extract-requires-clause-pivots c =
    (subst (IsConeJudged c.args.owner c.args.prefix.now c.args.formula.now.matrix (entries_of c.args.trace.now.lines) c.judge_cone.new.desk.away.drops c.judge_cone.new.desk.said) c.in-None.is c.in_ok-found.ensures).pivots

pub extract-requires-clause-behind : goal.extract-requires-clause-behind
extract-requires-clause-behind c =
    let F = c.args.formula.now in
    let o = c.args.owner in
    ended-behind o F c.args.trace.now c.args.prefix.now c.args.end c.judge_cone.new.desk.away.drops c.judge_cone.new.desk.said c.requires.prefix c.requires.end
    (subst (IsConeJudged o c.args.prefix.now F.matrix (entries_of c.args.trace.now.lines) c.judge_cone.new.desk.away.drops c.judge_cone.new.desk.said) c.in-None.is c.in_ok-found.ensures)

pub returns : goal.returns
returns c =
    let F = c.args.formula.now in
    let o = c.args.owner in
    proved-ended o F c.args.trace.now c.args.prefix.now c.args.end c.judge_cone.new.desk.away.drops c.judge_cone.new.desk.said _ c.in_ok-made-in-None.made c.requires.prefix c.requires.formula c.requires.end
    (subst (IsConeJudged o c.args.prefix.now F.matrix (entries_of c.args.trace.now.lines) c.judge_cone.new.desk.away.drops c.judge_cone.new.desk.said) c.in-None.is c.in_ok-found.ensures)
    c.in_ok-made-in-None.ensures.extracted
