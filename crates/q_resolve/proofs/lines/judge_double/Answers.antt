use Rattle.std.proofs.Common.{sym, subst, List}
use Rattle.q_logic.specs.Prelude.{Literal}
use Rattle.q_derive.specs.Traces.{AreBound}
use Rattle.q_extract.specs.Saying.{said_in}
use Rattle.q_resolve.specs.Merging.{IsSaidUpto}
use Rattle.q_resolve.specs.Judged.{IsTried, IsDone}
use Rattle.q_resolve.proofs.LineFaults.{resolved-bound, double-fault}
use Rattle.q_resolve.proofs.lines.judge_double.Goals as goal

pub finish-requires-clause-bound : goal.finish-requires-clause-bound
finish-requires-clause-bound c =
    let P = c.args.prefix.now in
    let S = c.args.first.now in
    let U = c.args.second.now in
    let R = c.try_pivots.new.parent in
    let w = subst (IsTried P S U c.args.own.now R) c.in-Resolved.is c.in_ok-tried.ensures in
    subst (AreBound P) (sym c.as_slice.ensures) (resolved-bound P S U R c.in-Resolved.pivot c.requires.first c.requires.second w.3)

pub returns-in-Wrong : goal.returns-in-Wrong
returns-in-Wrong c =
    let P = c.args.prefix.now in
    let S = c.args.first.now in
    let U = c.args.second.now in
    let T = c.args.own.now in
    double-fault P S U T c.in-Wrong.fault c.requires.bound (subst (IsTried P S U T c.try_pivots.new.parent) c.in-Wrong.is c.in_ok-tried.ensures)

pub returns-in_ok-finish-in-Resolved : goal.returns-in_ok-finish-in-Resolved
returns-in_ok-finish-in-Resolved c =
    let o = c.args.owner in
    let P = c.args.prefix.now in
    let S = c.args.first.now in
    let U = c.args.second.now in
    let T = c.args.own.now in
    let R = c.try_pivots.new.parent in
    let k = c.in-Resolved.pivot in
    let s = c.args.said.now in
    let mid = c.say_all.new.away.drops in (
      k,
      R,
      subst (IsTried P S U T R) c.in-Resolved.is c.in_ok-tried.ensures,
      mid,
      subst (λ (V : List Literal). IsSaidUpto o P k (said_in s c.args.i) (said_in s c.args.j) S V R R c.args.away.now.drops mid) c.in_ok-mark.ensures c.in_ok-say_all-in-Resolved.ensures,
      subst (λ (V : List Literal). IsDone o P V T c.args.n mid c.finish.new.away.drops s c.finish.new.said) c.as_slice.ensures c.in_ok-finish-in-Resolved.ensures,
    )
