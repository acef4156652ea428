use Rattle.std.proofs.Common.{refl, arith}
use Rattle.q_kernel.proofs.KernelInvariant.{kernel-moved}
use Rattle.q_kernel.proofs.ListUpdates.{lists-same, clauses-kept}
use Rattle.q_kernel.proofs.KeptView.{same-slots, view-clauses}
use Rattle.q_kernel.proofs.kernel.Kernel.reserve_clauses.Goals as goal

pub invariant_of-self : goal.invariant_of-self
invariant_of-self c =
    let k = c.self.inside in
    let i = c.self.invariant in
    kernel-moved k.prefix k.arena k.occ k.uses k.count k.size k.empties k.units k.top k.greatest c.self.invariant k.arena c.reserve.new.self (λ j. refl) (omega (arith, i.roomy.places, c.reserve.ensures.kept.places))
    (lists-same k.occ c.reserve.new.self k.arena c.reserve.ensures.lists c.reserve.ensures.owners i.linked) c.reserve.ensures.kept.lists

pub invariant_of-self-in_err-reserve-2 : goal.invariant_of-self-in_err-reserve-2
invariant_of-self-in_err-reserve-2 c =
    let k = c.self.inside in
    let i = c.self.invariant in
    kernel-moved k.prefix k.arena k.occ k.uses k.count k.size k.empties k.units k.top k.greatest c.self.invariant c.reserve-2.new.self c.reserve.new.self (same-slots k.arena c.reserve-2.new.self c.reserve-2.ensures.same)
    (omega (arith, c.reserve-2.ensures.grown, c.in_ok-room.ensures, c.in_ok-reserve.ensures.words))
    (clauses-kept c.reserve.new.self k.arena c.reserve-2.new.self c.reserve-2.ensures.same (lists-same k.occ c.reserve.new.self k.arena c.reserve.ensures.lists c.reserve.ensures.owners i.linked)) c.reserve.ensures.kept.lists

pub returns-in_err-reserve-2-clause-view : goal.returns-in_err-reserve-2-clause-view
returns-in_err-reserve-2-clause-view c = rw (← c.self.view_is) (view-clauses _ _ (same-slots c.self.inside.arena c.reserve-2.new.self c.reserve-2.ensures.same) refl refl)

pub invariant_of-self-2 : goal.invariant_of-self-2
invariant_of-self-2 c =
    let k = c.self.inside in
    let i = c.self.invariant in
    kernel-moved k.prefix k.arena k.occ k.uses k.count k.size k.empties k.units k.top k.greatest c.self.invariant c.reserve-2.new.self c.reserve.new.self (same-slots k.arena c.reserve-2.new.self c.reserve-2.ensures.same)
    (omega (arith, c.reserve-2.ensures.grown, c.in_ok-room.ensures, c.in_ok-reserve.ensures.words))
    (clauses-kept c.reserve.new.self k.arena c.reserve-2.new.self c.reserve-2.ensures.same (lists-same k.occ c.reserve.new.self k.arena c.reserve.ensures.lists c.reserve.ensures.owners i.linked)) c.reserve.ensures.kept.lists

pub returns-clause-view : goal.returns-clause-view
returns-clause-view c = rw (← c.self.view_is) (view-clauses _ _ (same-slots c.self.inside.arena c.reserve-2.new.self c.reserve-2.ensures.same) refl refl)
