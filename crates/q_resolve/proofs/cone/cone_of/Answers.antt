use Rattle.std.proofs.Common.{◌≡◌, ◌<◌, ◌≤◌, ◌+◌, ◌-◌, ◌∙◌, sym, subst, length, false, arith}
use Rattle.q_resolve.specs.Judged.{entries_of}
use Rattle.q_extract.proofs.Walked.{any-default}
use Rattle.q_resolve.proofs.Coned.{IsMarkedDown, entries-length, marked-start, marked-skip, marked-down, marked-all}
use Rattle.q_resolve.proofs.cone.cone_of.Goals.{then-index, else-index}
use Rattle.q_resolve.proofs.cone.cone_of.Goals as goal

pub loop-back-init : goal.loop-back-init
loop-back-init c =
    let es = entries_of c.args.trace.now.lines in
    let l = entries-length c.args.trace.now.lines in
    let n = c.len.ensures in
    let s = c.in_ok-marks.ensures.size in
    marked-start es c.args.end c.in_ok-marks.marks.items c.requires.end (s ∙ n ∙ sym l)
    (omega (arith, s, n, c.requires.within)) c.in_ok-marks.ensures.clear

pub loop-back-preserved : goal.loop-back-preserved
loop-back-preserved c =
    let es = entries_of c.args.trace.now.lines in
    let l = entries-length c.args.trace.now.lines in
    let n = c.args.end - c.loop-back.back in
    let le : c.loop-back.back ≤ c.args.end = (let z = c.loop-back-test.true in omega arith) in
    let s : n + c.loop-back.back ≡ c.args.end = omega arith in
    let lt : n < length es = omega (arith, l, c.requires.within) in
    let lm : n < length c.loop-back.marks.items = omega (arith, lt, c.loop-back.invariant.size) in
    let at = any-default c.loop-back.marks.items n c.index.result.now false lm in
    elim c.if-index.branch [
      | then-index w ↦
          subst (λ m. IsMarkedDown es c.args.end (c.loop-back.back + 1) m.items) (sym w.marks-is)
          (marked-down es c.args.end c.loop-back.back n c.loop-back.marks.items w.mark_sources.new.marks.items s lt (sym at ∙ sym c.index.ensures ∙ w.if-index.true) c.loop-back.invariant w.mark_sources.ensures)
      | else-index w ↦
          subst (λ m. IsMarkedDown es c.args.end (c.loop-back.back + 1) m.items) (sym w.marks-is)
          (marked-skip es c.args.end c.loop-back.back n c.loop-back.marks.items s (sym at ∙ sym c.index.ensures ∙ w.if-index.false) c.loop-back.invariant)
    ]

pub returns : goal.returns
returns c =
    let es = entries_of c.args.trace.now.lines in
    let lt : c.args.end < c.loop-back.back = (let z = c.loop-back-test.false in omega arith) in
    marked-all es c.args.end c.loop-back.back c.loop-back.marks.items c.requires.end lt c.loop-back.invariant
