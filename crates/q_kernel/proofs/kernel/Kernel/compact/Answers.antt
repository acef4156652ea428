use Rattle.std.proofs.Common.{ap, arith}
use Rattle.q_logic.specs.Prelude.{Slots, slot}
use Rattle.q_kernel.proofs.KernelInvariant.{kernel-moved}
use Rattle.q_kernel.proofs.kernel.Kernel.compact.Goals as goal

pub invariant_of-self : goal.invariant_of-self
invariant_of-self c =
    let k = c.self.inside in
    let i = c.self.invariant in
    kernel-moved k.prefix k.arena k.occ k.uses k.count k.size k.empties k.units k.top k.greatest i c.compact.new.arena c.compact.new.occ
    (λ j. ap (λ (N : Slots). slot N j) c.compact.ensures.clauses) (omega (arith, i.roomy.places, c.compact.ensures.room, c.compact.ensures.kept.places)) c.compact.ensures.linked c.compact.ensures.kept.lists
