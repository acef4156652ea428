use Rattle.std.proofs.Common.{◌≤◌, ◌++◌, ℕ, [], ◌∷◌, take, sym, subst}
use Rattle.q_logic.specs.Prelude.{standard, Valid}
use Rattle.q_logic.specs.Reversals.{IsExtended}
use Rattle.q_herbrand.specs.Trails.{HasNoted, IsNoted}
use Rattle.q_command.specs.Logs.{steps_of}
use Rattle.q_command.specs.Taken.{entries_of}
use Rattle.q_command.specs.declared.taken.TakenStep.{TakenStep}
use Rattle.q_run_refute.specs.Extended.{FirstExtended}
use Rattle.q_run_refute.specs.Reversing.{IsUnreversed, reason_of}
use Rattle.q_run_refute.proofs.NotedSteps.{walked-begun, walked-valid, walked-extended, walked-more, walked-all, entries-item, entries-length, item-same, refused-by}
use Rattle.q_run_refute.proofs.reversing.reversals_of.Goals as goal

pub note-requires : goal.note-requires
note-requires c =
    let ts = c.args.taken.now in
    let n = c.loop-at.at in
    let t = c.index-taken-at.result in
    subst (λ (x : TakenStep). Valid standard c.loop-at.trail.formula x.step) c.index-taken-at.is
    (walked-valid c.args.from.now (entries_of ts) n c.loop-at.trail c.loop-at.invariant (t.line, t.step)
    (entries-item ts n t c.loop-at-test.true c.index-taken-at.is))

pub loop-at-init : goal.loop-at-init
loop-at-init c =
    walked-begun c.args.from.now (entries_of c.args.taken.now) c.in-Ok.trail c.in-Ok.ensures.noted c.requires

pub loop-at-preserved : goal.loop-at-preserved
loop-at-preserved c =
    let F = c.args.from.now in
    let ts = c.args.taken.now in
    let n = c.loop-at.at in
    let t = c.index-taken-at.result in
    let w = c.loop-at.invariant in
    walked-more F (entries_of ts) n c.loop-at.trail w (t.line, t.step)
    (entries-item ts n t c.loop-at-test.true c.index-taken-at.is) c.note.new.self
    (subst (λ (x : TakenStep). IsExtended c.loop-at.trail.formula x.step → ⊥) (sym c.index-taken-at.is)
    c.in-Ok-note.ensures.plain)
    (subst (λ (x : TakenStep). HasNoted F (steps_of (take n (entries_of ts)) ++ x.step ∷ []) c.note.new.self)
    (sym c.index-taken-at.is) (c.in-Ok-note.ensures.noted F (steps_of (take n (entries_of ts))) w.noted))

pub returns-in-Err-note-clause-refused : goal.returns-in-Err-note-clause-refused
returns-in-Err-note-clause-refused c =
    let F = c.args.from.now in
    let ts = c.args.taken.now in
    let n = c.loop-at.at in
    let G = c.loop-at.trail.formula in
    let a = c.index-taken-at.result in
    let b = c.index-taken-at-in-Err-note.result in
    let same = item-same ts n a b c.loop-at-test.true c.index-taken-at.is c.index-taken-at-in-Err-note.is in
    let i = subst (λ (x : TakenStep). IsNoted G x.step c.in-Err-note.error) (sym c.index-taken-at.is)
    c.in-Err-note.ensures.refused in
    rw c.reason_of.ensures
    (subst (λ (x : TakenStep). IsUnreversed F (entries_of ts) (reason_of c.in-Err-note.error x.line))
    c.index-taken-at-in-Err-note.is
    (refused-by F (entries_of ts) G a.step b.line c.in-Err-note.error i
    (λ x. subst (λ (y : TakenStep). FirstExtended F (entries_of ts) y.line) same
    (walked-extended F (entries_of ts) n c.loop-at.trail c.loop-at.invariant (a.line, a.step)
    (entries-item ts n a c.loop-at-test.true c.index-taken-at.is) x))))

pub returns : goal.returns
returns c =
    let F = c.args.from.now in
    let ts = c.args.taken.now in
    let n = c.loop-at.at in
    record {
      reversals = c.finish.ensures.reversals F (steps_of (entries_of ts))
          (walked-all F (entries_of ts) n c.loop-at.trail
          (subst (λ (m : ℕ). m ≤ n) (sym (entries-length ts)) c.loop-at-test.false) c.loop-at.invariant);
      refused = tt;
    }
