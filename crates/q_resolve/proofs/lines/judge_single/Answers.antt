use Rattle.std.proofs.Common.{◌∙◌, sym, subst}
use Rattle.q_resolve.specs.Reduced.{IsReduction}
use Rattle.q_resolve.proofs.LineFaults.{anew-yes, anew-no, single-merged, single-fault}
use Rattle.q_resolve.proofs.lines.judge_single.Goals as goal

pub returns-then-anew : goal.returns-then-anew
returns-then-anew c =
    single-merged c.args.prefix.now c.args.source.now c.args.own.now c.requires.bound (anew-yes c.args.prefix.now c.args.own.now c.args.source.now (sym c.in_ok-anew.ensures ∙ c.if-anew.true))

pub returns-in-Some : goal.returns-in-Some
returns-in-Some c =
    let P = c.args.prefix.now in
    let S = c.args.source.now in
    let T = c.args.own.now in
    single-fault P S T c.in-Some.fault c.requires.bound (anew-no P T S (sym c.in_ok-anew.ensures ∙ c.if-anew.false)) (subst (IsReduction P S T) c.in-Some.is c.fault_of.ensures)

pub returns-in_ok-finish-in-None : goal.returns-in_ok-finish-in-None
returns-in_ok-finish-in-None c =
    let P = c.args.prefix.now in
    let S = c.args.source.now in
    let T = c.args.own.now in
    let r = subst (IsReduction P S T) c.in-None.is c.fault_of.ensures in (
      anew-no P T S (sym c.in_ok-anew.ensures ∙ c.if-anew.false),
      r.0,
      r.1,
      c.say_same.new.drops,
      c.in_ok-say_same-in-None.ensures,
      c.in_ok-finish-in-None.ensures,
    )
