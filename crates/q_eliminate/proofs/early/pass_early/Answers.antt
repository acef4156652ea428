use Rattle.std.proofs.Common.{◌+◌, length, drop, get_or, sym, ap, subst, arith}
use Rattle.q_logic.specs.Prelude.{IsBelow, Clause, Matrix, ArePairs, size_of, resolve_one, resolve_all, clauses_at}
use Rattle.q_logic.proofs.Common.{without-shorter, without-in_order}
use Rattle.q_logic.proofs.MeasureFalls.{size-append}
use Rattle.q_kernel.specs.Prelude.{slots}
use Rattle.q_eliminate.specs.Gains.{joined}
use Rattle.q_eliminate.specs.Plans.{IsPlain}
use Rattle.q_eliminate.proofs.IdWalks.{live-at, all-at, at-next}
use Rattle.q_eliminate.proofs.GainCounts.{resolved-first, clause-short, plain-without}
use Rattle.q_eliminate.proofs.early.pass_early.Goals as goal

pub lits-clause-requires : goal.lits-clause-requires
lits-clause-requires c = live-at (slots c.args.kernel.now) c.args.ids.now c.loop-id.id-index c.requires.live c.loop-id-test.true

pub sum_with-requires-clause-ordered : goal.sum_with-requires-clause-ordered
sum_with-requires-clause-ordered c = subst (λ (A : Clause). ArePairs IsBelow A) (sym c.in_ok-mark.ensures) (without-in_order c.args.lit c.lits-clause.result.now c.lits-clause.ensures.ordered)

pub sum_with-requires-clause-short : goal.sum_with-requires-clause-short
sum_with-requires-clause-short c =
    let s = clause-short (slots c.args.kernel.now) (get_or c.args.ids.now c.loop-id.id-index 0) c.lits-clause.result.now c.lits-clause.ensures.clause in
    let t = c.sound.ensures.size in
    let w = without-shorter c.args.lit c.lits-clause.result.now in
    let e = ap length c.in_ok-mark.ensures in omega arith

pub loop-id-preserved-then-clause-lt-LONG : goal.loop-id-preserved-then-clause-lt-LONG
loop-id-preserved-then-clause-lt-LONG c a b =
    let N = slots c.args.kernel.now in
    let l = c.args.lit in
    let Y = clauses_at N c.args.others.now in
    let C = c.lits-clause.result.now in
    let Z = clauses_at N (drop (c.loop-id.id-index + 1) c.args.ids.now) in
    let p = ap (λ (X : Matrix). size_of (resolve_all l X Y)) (at-next N c.args.ids.now c.loop-id.id-index C c.loop-id-test.true c.lits-clause.ensures.clause) in
    let q = size-append (resolve_one l C Y) (resolve_all l Z Y) in
    let i = c.loop-id.invariant a b in omega arith

pub returns-in-None : goal.returns-in-None
returns-in-None c t a b =
    let N = slots c.args.kernel.now in
    let l = c.args.lit in
    let Y = clauses_at N c.args.others.now in
    let C = c.lits-clause.result.now in
    let X = clauses_at N (drop c.loop-id.id-index c.args.ids.now) in
    let Z = clauses_at N (drop (c.loop-id.id-index + 1) c.args.ids.now) in
    let M = c.mark.new.marks in
    let p = ap size_of (resolved-first l c.negated.result M C X Y Z c.in_ok-mark.ensures c.negated.ensures (at-next N c.args.ids.now c.loop-id.id-index C c.loop-id-test.true c.lits-clause.ensures.clause)) in
    let q = size-append (joined M c.negated.result Y) (resolve_all l Z Y) in
    let d = subst IsPlain (sym c.in_ok-mark.ensures) (plain-without l C (all-at IsPlain N c.args.ids.now c.loop-id.id-index C c.loop-id-test.true c.lits-clause.ensures.clause a)) in
    let r = c.sum_with.ensures.none c.in-None.is d b in
    let i = c.loop-id.invariant a b in omega arith

pub loop-id-preserved : goal.loop-id-preserved
loop-id-preserved c a b =
    let N = slots c.args.kernel.now in
    let l = c.args.lit in
    let Y = clauses_at N c.args.others.now in
    let C = c.lits-clause.result.now in
    let X = clauses_at N (drop c.loop-id.id-index c.args.ids.now) in
    let Z = clauses_at N (drop (c.loop-id.id-index + 1) c.args.ids.now) in
    let M = c.mark.new.marks in
    let p = ap size_of (resolved-first l c.negated.result M C X Y Z c.in_ok-mark.ensures c.negated.ensures (at-next N c.args.ids.now c.loop-id.id-index C c.loop-id-test.true c.lits-clause.ensures.clause)) in
    let q = size-append (joined M c.negated.result Y) (resolve_all l Z Y) in
    let d = subst IsPlain (sym c.in_ok-mark.ensures) (plain-without l C (all-at IsPlain N c.args.ids.now c.loop-id.id-index C c.loop-id-test.true c.lits-clause.ensures.clause a)) in
    let r = c.sum_with.ensures.some c.in-Some.more c.in-Some.is d b in
    let i = c.loop-id.invariant a b in omega arith
