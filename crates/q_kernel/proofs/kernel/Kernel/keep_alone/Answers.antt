use Rattle.std.proofs.Common.{◌≤◌, length, refl, sym, arith}
use Rattle.q_logic.proofs.Common.{slot-below}
use Rattle.q_log.proofs.WritableRuns.{first-of}
use Rattle.q_kernel.specs.Kernels.{slots}
use Rattle.q_kernel.proofs.SweepSteps.{may-delete, alone-live}
use Rattle.q_kernel.proofs.KeptView.{cleared-first, cleared-more}
use Rattle.q_kernel.proofs.kernel.Kernel.keep_alone.Goals as goal

pub loop-id-init : goal.loop-id-init
loop-id-init c = cleared-first c.args.self.now c.args.kept c.requires.kept c.requires.bytes

pub delete_other-requires : goal.delete_other-requires
delete_other-requires c = λ n.
    let r = c.in-Some.ensures.some c.in-Some.id refl in
    let k = c.loop-id.self in
    record { clause = r.1; there = r.2; first = first-of r.1; step = may-delete k c.args.kept c.in-Some.id r.1 c.sound.ensures.proper c.loop-id.invariant.alone.there r.2 (λ q. n (sym q)) c.loop-id.invariant.swept.bytes }

pub overflow_add-from : goal.overflow_add-from
overflow_add-from c =
    let few : length (slots c.args.self.now) ≤ 4294967295 = rw (← c.self.view_is) c.apart.ensures.few_ids in
    let r = c.in-Some.ensures.some c.in-Some.id refl in
    let b = slot-below (slots c.loop-id.self) c.in-Some.id r.1 r.2 in
    omega (arith, c.loop-id.invariant.long)

pub loop-id-preserved : goal.loop-id-preserved
loop-id-preserved c =
    let r = c.in-Some.ensures.some c.in-Some.id refl in
    cleared-more c.args.self.now c.loop-id.self c.delete_other.new.self c.args.kept c.loop-id.from c.in-Some.id r.1 c.sound.ensures.proper c.loop-id.invariant (λ j f b. c.in-Some.ensures.least c.in-Some.id j refl f b) r.2 c.delete_other.ensures.same c.delete_other.ensures.gone

pub loop-id-smaller : goal.loop-id-smaller
loop-id-smaller c =
    let r = c.in-Some.ensures.some c.in-Some.id refl in
    let b = slot-below (slots c.loop-id.self) c.in-Some.id r.1 r.2 in
    let n = cleared-more c.args.self.now c.loop-id.self c.delete_other.new.self c.args.kept c.loop-id.from c.in-Some.id r.1 c.sound.ensures.proper c.loop-id.invariant (λ j f b. c.in-Some.ensures.least c.in-Some.id j refl f b) r.2 c.delete_other.ensures.same c.delete_other.ensures.gone in
    omega (arith, r.0, n.long, c.loop-id.invariant.long)

pub returns-clause-matrix : goal.returns-clause-matrix
returns-clause-matrix c = alone-live (slots c.loop-id.self) c.args.kept c.loop-id.from c.loop-id.invariant.alone (λ j f. c.next_live.ensures.none c.in_default.is j f)
