use Rattle.std.proofs.Common.{length, refl, arith, ap}
use Rattle.q_logic.specs.Prelude.{Prefix}
use Rattle.q_kernel.proofs.SweepSteps.{may-remove, length-removed}
use Rattle.q_kernel.proofs.KeptView.{ridding-first, ridding-more, ridding-last}
use Rattle.q_kernel.proofs.kernel.Kernel.remove_idle.Goals as goal

pub loop-v-init : goal.loop-v-init
loop-v-init c = ridding-first c.args.self.now c.requires

pub remove-requires : goal.remove-requires
remove-requires c =
    let r = c.in-Some.ensures.some c.in-Some.v refl in
    may-remove c.loop-v.self c.in-Some.v c.sound.ensures.proper r.0 r.1 c.loop-v.invariant.swept.bytes

pub loop-v-smaller : goal.loop-v-smaller
loop-v-smaller c =
    let r = c.in-Some.ensures.some c.in-Some.v refl in
    let n = length-removed c.in-Some.v c.loop-v.self.prefix r.0 in
    let m = ap (λ (P : Prefix). length P) c.remove.ensures.prefix in
    omega arith

pub loop-v-preserved : goal.loop-v-preserved
loop-v-preserved c =
    let r = c.in-Some.ensures.some c.in-Some.v refl in
    ridding-more c.args.self.now c.loop-v.self c.remove.new.self c.in-Some.v c.sound.ensures.proper c.loop-v.invariant r.0 r.1 c.remove.ensures

pub returns-clause-prefix : goal.returns-clause-prefix
returns-clause-prefix c = ridding-last c.args.self.now c.loop-v.self c.loop-v.invariant (c.first_idle.ensures.none c.in_default.is)
