use Rattle.std.proofs.Common.{◌≡◌, ◌+◌, ◌++◌, ◌∷◌, length, drop, get_or, Option, sym, ap, ◌∙◌, subst, arith}
use Rattle.q_logic.specs.Prelude.{Literal, IsBelow, negation, Clause, Matrix, ArePairs, without, resolve_all, clauses_at}
use Rattle.q_logic.proofs.Common.{without-shorter, without-in_order}
use Rattle.q_kernel.specs.Prelude.{slots}
use Rattle.q_eliminate.specs.declared.counting.Gain.{Gain}
use Rattle.q_eliminate.specs.Gains.{no_gain, joined, IsGain}
use Rattle.q_eliminate.specs.Plans.{IsPlain}
use Rattle.q_eliminate.proofs.IdWalks.{live-at, all-at, at-next}
use Rattle.q_eliminate.proofs.GainCounts.{IsGaining, gaining-part, gaining-part_passed, gain-none, resolved-first, clause-short, plain-without}
use Rattle.q_eliminate.proofs.counting.gain_of.Goals as goal

pub lits-requires : goal.lits-requires
lits-requires c = live-at (slots c.args.kernel.now) c.args.ids.now c.loop-id.id-index c.requires.live c.loop-id-test.true

pub gain_with-requires-clause-ordered : goal.gain_with-requires-clause-ordered
gain_with-requires-clause-ordered c = subst (λ (A : Clause). ArePairs IsBelow A) (sym c.in_ok-mark.ensures) (without-in_order c.args.lit c.lits.result.now c.lits.ensures.ordered)

pub gain_with-requires-clause-plain_marks : goal.gain_with-requires-clause-plain_marks
gain_with-requires-clause-plain_marks c = subst IsPlain (sym c.in_ok-mark.ensures) (plain-without c.args.lit c.lits.result.now
    (all-at IsPlain (slots c.args.kernel.now) c.args.ids.now c.loop-id.id-index c.lits.result.now c.loop-id-test.true c.lits.ensures.clause c.requires.plain))

pub gain_with-requires-clause-short : goal.gain_with-requires-clause-short
gain_with-requires-clause-short c =
    let s = clause-short (slots c.args.kernel.now) (get_or c.args.ids.now c.loop-id.id-index 0) c.lits.result.now c.lits.ensures.clause in
    let t = c.sound.ensures.size in
    let w = without-shorter c.args.lit c.lits.result.now in
    let e = ap length c.in_ok-mark.ensures in omega arith

pub returns-in-None : goal.returns-in-None
returns-in-None c =
    let N = slots c.args.kernel.now in
    let l = c.args.lit in
    let Y = clauses_at N c.args.others.now in
    let X = clauses_at N (drop c.loop-id.id-index c.args.ids.now) in
    let Z = clauses_at N (drop (c.loop-id.id-index + 1) c.args.ids.now) in
    let V = resolve_all l (clauses_at N c.args.ids.now) Y in
    let p = resolved-first l c.negated.result c.mark.new.marks c.lits.result.now X Y Z c.in_ok-mark.ensures c.negated.ensures (at-next N c.args.ids.now c.loop-id.id-index c.lits.result.now c.loop-id-test.true c.lits.ensures.clause) in
    gain-none no_gain c.args.bound V
    (gaining-part_passed no_gain c.loop-id.gain c.args.bound V (joined c.mark.new.marks c.negated.result Y) (resolve_all l Z Y)
    (subst (λ (o : Option Gain). IsGain c.loop-id.gain (joined c.mark.new.marks c.negated.result Y) c.args.bound o) c.in-None.is c.gain_with.ensures)
    (subst (λ (W : Matrix). IsGaining no_gain c.loop-id.gain c.args.bound V W) p c.loop-id.invariant))

pub loop-id-preserved : goal.loop-id-preserved
loop-id-preserved c =
    let N = slots c.args.kernel.now in
    let l = c.args.lit in
    let Y = clauses_at N c.args.others.now in
    let X = clauses_at N (drop c.loop-id.id-index c.args.ids.now) in
    let Z = clauses_at N (drop (c.loop-id.id-index + 1) c.args.ids.now) in
    let V = resolve_all l (clauses_at N c.args.ids.now) Y in
    let p = resolved-first l c.negated.result c.mark.new.marks c.lits.result.now X Y Z c.in_ok-mark.ensures c.negated.ensures (at-next N c.args.ids.now c.loop-id.id-index c.lits.result.now c.loop-id-test.true c.lits.ensures.clause) in
    gaining-part no_gain c.loop-id.gain c.in-Some.more c.args.bound V (joined c.mark.new.marks c.negated.result Y) (resolve_all l Z Y)
    (subst (λ (o : Option Gain). IsGain c.loop-id.gain (joined c.mark.new.marks c.negated.result Y) c.args.bound o) c.in-Some.is c.gain_with.ensures)
    (subst (λ (W : Matrix). IsGaining no_gain c.loop-id.gain c.args.bound V W) p c.loop-id.invariant)
