use Rattle.std.proofs.Common.{arith}
use Rattle.q_logic.specs.Prelude.{live, formula_of}
use Rattle.q_kernel.proofs.KernelSizes.{size-small}
use Rattle.q_kernel.proofs.LiteralLists.{owned-place}
use Rattle.q_kernel.proofs.VariableCounts.{prefix-short}
use Rattle.q_kernel.proofs.kernel.Kernel.sound.Goals as goal

pub returns : goal.returns
returns c =
    let k = c.self.inside in
    let i = c.self.invariant in
    let short = prefix-short (formula_of k.prefix.bounds (live k.arena.clauses)) i.proper in
    let m = c.dead.ensures.meaning in
    rw (← c.self.view_is) (record {
      proper = i.proper;
      linked = i.linked;
      apart = c.distinct.ensures.apart;
      owned = λ id l h. owned-place k.occ k.arena i.linked c.apart.ensures.apart id l h.0 h.1 h.2;
      size = size-small k.arena _ c.dead.result m.0 m.1 m.2 c.apart.ensures.within i.roomy.places c.distinct.ensures.few c.apart.ensures.ids c.apart.ensures.few_ids;
      vars = omega arith;
    })
