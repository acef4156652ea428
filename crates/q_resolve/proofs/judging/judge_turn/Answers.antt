use Rattle.std.proofs.Common.{◌≡◌, ◌∙◌, sym, true, false, arith}
use Rattle.q_resolve.specs.Judged.{entries_of}
use Rattle.q_resolve.proofs.Stood.{stood-skip, stood-bound, turn-is, lines-within}
use Rattle.q_resolve.proofs.judging.judge_turn.Goals as goal

pub returns-then-not-is_in : goal.returns-then-not-is_in
returns-then-not-is_in c =
    let f : c.is_in.result ≡ false = let x = c.if-not-is_in.true in grind arith in
    stood-skip c.args.owner c.args.prefix.now c.args.formula.now.matrix (entries_of c.args.trace.now.lines) c.args.n c.args.desk.now.away.drops c.args.desk.now.said c.args.cone.now
    c.requires.cone (sym c.is_in.ensures ∙ f) c.requires.stood

pub judge_at-requires-clause-bound : goal.judge_at-requires-clause-bound
judge_at-requires-clause-bound c =
    let t : c.is_in.result ≡ true = let x = c.if-not-is_in.false in grind arith in
    stood-bound c.args.owner c.args.prefix.now c.args.formula.now.matrix (entries_of c.args.trace.now.lines) c.args.n c.args.desk.now.away.drops c.args.desk.now.said c.args.cone.now
    c.requires.cone (sym c.is_in.ensures ∙ t) (lines-within c.args.trace.now.lines c.args.n c.requires.place) c.requires.stood

pub returns : goal.returns
returns c =
    let t : c.is_in.result ≡ true = let x = c.if-not-is_in.false in grind arith in
    turn-is c.args.owner c.args.prefix.now c.args.formula.now.matrix (entries_of c.args.trace.now.lines) c.args.n c.args.desk.now.away.drops c.judge_at.new.desk.away.drops c.args.desk.now.said c.judge_at.new.desk.said c.args.cone.now
    c.in_ok-fault.fault c.requires.cone (sym c.is_in.ensures ∙ t) (lines-within c.args.trace.now.lines c.args.n c.requires.place) c.requires.stood c.in_ok-fault.ensures
