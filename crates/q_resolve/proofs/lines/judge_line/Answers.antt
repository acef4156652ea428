use Rattle.std.proofs.Common.{◌≡◌, ◌∙◌, sym, subst, true, false, List, arith}
use Rattle.q_logic.specs.Prelude.{Literal}
use Rattle.q_derive.specs.Traces.{AreBound}
use Rattle.q_extract.specs.Saying.{said_in}
use Rattle.q_resolve.specs.declared.finding.Found.{Found}
use Rattle.q_resolve.specs.Leaves.{MayStand}
use Rattle.q_resolve.specs.Judged.{AreParentsBound, entries_of, found_parents, IsSingleJudged, IsDoubleJudged, IsLineJudged}
use Rattle.q_resolve.proofs.LineFaults.{least-unbound, bound-yes, bound-no, line-single, line-double}
use Rattle.q_resolve.proofs.Lined.{line-leaf, line-gone, source-is}
use Rattle.q_resolve.proofs.lines.judge_line.Goals as goal

pub returns-then-not-are_bound : goal.returns-then-not-are_bound
returns-then-not-are_bound c =
    let P = c.args.prefix.now in
    let T = c.args.term.now in
    let f : c.are_bound.result ≡ false = let x = c.if-not-are_bound.true in grind arith in
    let r = bound-no P T (sym c.are_bound.ensures ∙ f) in
    least-unbound P (MayStand c.args.owner c.args.formula.now.matrix) (found_parents (entries_of c.args.trace.now.lines) c.args.found) T r.0 r.1 r.2

pub judge_single-requires-clause-bound : goal.judge_single-requires-clause-bound
judge_single-requires-clause-bound c =
    let t : c.are_bound.result ≡ true = let x = c.if-not-are_bound.false in grind arith in
    subst (AreBound c.args.prefix.now) (sym c.in_ok-mark.ensures) (bound-yes c.args.prefix.now c.args.term.now (sym c.are_bound.ensures ∙ t))

pub judge_single-requires-clause-source : goal.judge_single-requires-clause-source
judge_single-requires-clause-source c =
    let P = c.args.prefix.now in
    let lines = c.args.trace.now.lines in
    subst (AreBound P) (source-is lines c.in-Single.i c.literals-source.result.now c.literals-source.ensures)
    (subst (λ (f : Found). AreParentsBound P (found_parents (entries_of lines) f)) c.in-Single.is c.requires.bound)

pub judge_double-requires-clause-bound : goal.judge_double-requires-clause-bound
judge_double-requires-clause-bound c =
    let t : c.are_bound.result ≡ true = let x = c.if-not-are_bound.false in grind arith in
    subst (AreBound c.args.prefix.now) (sym c.in_ok-mark.ensures) (bound-yes c.args.prefix.now c.args.term.now (sym c.are_bound.ensures ∙ t))

pub judge_double-requires-clause-first : goal.judge_double-requires-clause-first
judge_double-requires-clause-first c =
    let P = c.args.prefix.now in
    let lines = c.args.trace.now.lines in
    subst (AreBound P) (source-is lines c.in-Double.i c.literals-first.result.now c.literals-first.ensures)
    (subst (λ (f : Found). AreParentsBound P (found_parents (entries_of lines) f)) c.in-Double.is c.requires.bound).0

pub judge_double-requires-clause-second : goal.judge_double-requires-clause-second
judge_double-requires-clause-second c =
    let P = c.args.prefix.now in
    let lines = c.args.trace.now.lines in
    subst (AreBound P) (source-is lines c.in-Double.j c.literals-second.result.now c.literals-second.ensures)
    (subst (λ (f : Found). AreParentsBound P (found_parents (entries_of lines) f)) c.in-Double.is c.requires.bound).1

pub returns-in-Nothing : goal.returns-in-Nothing
returns-in-Nothing c =
    let P = c.args.prefix.now in
    let T = c.args.term.now in
    let d = c.args.desk.now.away.drops in
    let s = c.args.desk.now.said in
    let t : c.are_bound.result ≡ true = let x = c.if-not-are_bound.false in grind arith in
    subst (λ (f : Found). IsLineJudged c.args.owner P c.args.formula.now.matrix (entries_of c.args.trace.now.lines) c.args.n f T d d s s c.judge_leaf-fault.result) (sym c.in-Nothing.is)
    (line-leaf c.args.owner P c.args.formula.now.matrix (entries_of c.args.trace.now.lines) c.args.n T d s c.judge_leaf-fault.result (bound-yes P T (sym c.are_bound.ensures ∙ t)) c.judge_leaf-fault.ensures)

pub returns-in-Gone : goal.returns-in-Gone
returns-in-Gone c =
    let P = c.args.prefix.now in
    let T = c.args.term.now in
    let d = c.args.desk.now.away.drops in
    let s = c.args.desk.now.said in
    let t : c.are_bound.result ≡ true = let x = c.if-not-are_bound.false in grind arith in
    subst (λ (f : Found). IsLineJudged c.args.owner P c.args.formula.now.matrix (entries_of c.args.trace.now.lines) c.args.n f T d d s s c.judge_leaf-fault-in-Gone.result) (sym c.in-Gone.is)
    (line-gone c.args.owner P c.args.formula.now.matrix (entries_of c.args.trace.now.lines) c.args.n T d s c.judge_leaf-fault-in-Gone.result (bound-yes P T (sym c.are_bound.ensures ∙ t)) c.judge_leaf-fault-in-Gone.ensures)

pub returns-in_ok-fault-in-Single : goal.returns-in_ok-fault-in-Single
returns-in_ok-fault-in-Single c =
    let o = c.args.owner in
    let P = c.args.prefix.now in
    let T = c.args.term.now in
    let X = c.args.formula.now.matrix in
    let lines = c.args.trace.now.lines in
    let i = c.in-Single.i in
    let n = c.args.n in
    let old = c.args.desk.now.away.drops in
    let new = c.judge_single.new.away.drops in
    let s = c.args.desk.now.said in
    let u = c.judge_single.new.said in
    let r = c.in_ok-fault-in-Single.fault in
    let t : c.are_bound.result ≡ true = let x = c.if-not-are_bound.false in grind arith in
    subst (λ (f : Found). IsLineJudged o P X (entries_of lines) n f T old new s u r) (sym c.in-Single.is)
    (line-single o P X (entries_of lines) n i c.literals-source.result.now T old new s u r (source-is lines i c.literals-source.result.now c.literals-source.ensures)
    (bound-yes P T (sym c.are_bound.ensures ∙ t))
    (subst (λ (V : List Literal). IsSingleJudged o P c.literals-source.result.now V (said_in s i) n old new s u r) c.in_ok-mark.ensures c.in_ok-fault-in-Single.ensures))

pub returns-in_ok-fault-in-Double : goal.returns-in_ok-fault-in-Double
returns-in_ok-fault-in-Double c =
    let o = c.args.owner in
    let P = c.args.prefix.now in
    let T = c.args.term.now in
    let X = c.args.formula.now.matrix in
    let lines = c.args.trace.now.lines in
    let i = c.in-Double.i in
    let j = c.in-Double.j in
    let n = c.args.n in
    let old = c.args.desk.now.away.drops in
    let new = c.judge_double.new.away.drops in
    let s = c.args.desk.now.said in
    let u = c.judge_double.new.said in
    let r = c.in_ok-fault-in-Double.fault in
    let S = c.literals-first.result.now in
    let U = c.literals-second.result.now in
    let t : c.are_bound.result ≡ true = let x = c.if-not-are_bound.false in grind arith in
    subst (λ (f : Found). IsLineJudged o P X (entries_of lines) n f T old new s u r) (sym c.in-Double.is)
    (line-double o P X (entries_of lines) n i j S U T old new s u r (source-is lines i S c.literals-first.ensures) (source-is lines j U c.literals-second.ensures)
    (bound-yes P T (sym c.are_bound.ensures ∙ t))
    (subst (λ (V : List Literal). IsDoubleJudged o P S U V (said_in s i) (said_in s j) n old new s u r) c.in_ok-mark.ensures c.in_ok-fault-in-Double.ensures))
