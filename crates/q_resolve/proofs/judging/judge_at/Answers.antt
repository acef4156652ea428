use Rattle.std.proofs.Common.{◌≡◌, ◌∙◌, sym, ap, subst, slice_get, List}
use Rattle.q_logic.specs.Prelude.{Literal}
use Rattle.q_resolve.specs.declared.finding.Found.{Found}
use Rattle.q_resolve.specs.Judged.{AreParentsBound, entries_of, sources_in, found_parents, found_at, line_at, IsLineJudged}
use Rattle.q_resolve.proofs.Deriving.{found-parents}
use Rattle.q_resolve.proofs.Lined.{source-is}
use Rattle.q_resolve.proofs.Stood.{found-there}
use Rattle.q_resolve.proofs.judging.judge_at.Goals as goal

pub judge_line-requires-clause-bound : goal.judge_line-requires-clause-bound
judge_line-requires-clause-bound c =
    let es = entries_of c.args.trace.now.lines in
    let n = c.args.n in
    let e : c.sources-found.result ≡ found_at es n = c.sources-found.ensures.same ∙ found-there c.args.trace.now.lines n c.row.result c.row.ensures in
    subst (AreParentsBound c.args.prefix.now) (sym (ap (found_parents es) e ∙ found-parents es n (sources_in (slice_get es n)))) c.requires.bound

pub returns : goal.returns
returns c =
    let o = c.args.owner in
    let P = c.args.prefix.now in
    let X = c.args.formula.now.matrix in
    let lines = c.args.trace.now.lines in
    let es = entries_of lines in
    let n = c.args.n in
    let old = c.args.desk.now.away.drops in
    let new = c.judge_line.new.desk.away.drops in
    let s = c.args.desk.now.said in
    let t = c.judge_line.new.desk.said in
    let f = c.in_ok-fault.fault in
    let e : c.sources-found.result ≡ found_at es n = c.sources-found.ensures.same ∙ found-there lines n c.row.result c.row.ensures in
    let q : line_at es n ≡ c.literals-term.result.now = source-is lines n c.literals-term.result.now c.literals-term.ensures in
    subst (λ (T : List Literal). IsLineJudged o P X es n (found_at es n) T old new s t f) (sym q)
    (subst (λ (x : Found). IsLineJudged o P X es n x c.literals-term.result.now old new s t f) e c.in_ok-fault.ensures)
