use Rattle.std.proofs.Common.{None, arith, refl}
use Rattle.q_logic.specs.Prelude.{live}
use Rattle.q_logic.proofs.Common.{live-slot}
use Rattle.q_kernel.proofs.KernelInvariant.{kernel-gone, changed-slots, clause-proper, counted-bounds}
use Rattle.q_kernel.proofs.KernelSizes.{slot-live, clause_at-slot}
use Rattle.q_kernel.proofs.kernel.Kernel.take_out.Goals as goal

pub unlink-requires-clause-live : goal.unlink-requires-clause-live
unlink-requires-clause-live c =
    let r = rw (← c.self.view_is) at c.requires in
    (r.0, clause_at-slot c.self.inside.arena c.args.id r.0 r.1)

pub lits-lits-requires : goal.lits-lits-requires
lits-lits-requires c =
    let r = rw (← c.self.view_is) at c.requires in
    (r.0, clause_at-slot c.self.inside.arena c.args.id r.0 r.1)

pub vanish_all-requires-clause-within : goal.vanish_all-requires-clause-within
vanish_all-requires-clause-within c =
    let k = c.self.inside in
    let C = c.lits-lits.result.now in
    (clause-proper k.prefix.bounds (live k.arena.clauses) C c.self.invariant.proper (live-slot k.arena.clauses c.args.id C (slot-live k.arena c.args.id C c.lits-lits.ensures.clause))).1

pub overflow_sub-self : goal.overflow_sub-self
overflow_sub-self c =
    let k = c.self.inside in
    let C = c.lits-lits.result.now in
    let b = counted-bounds k.arena.clauses c.args.id C k.count k.size k.empties k.units (slot-live k.arena c.args.id C c.lits-lits.ensures.clause) c.self.invariant.counted in
    omega (arith, b.0)

pub overflow_sub-self-2 : goal.overflow_sub-self-2
overflow_sub-self-2 c =
    let k = c.self.inside in
    let C = c.lits-lits.result.now in
    let b = counted-bounds k.arena.clauses c.args.id C k.count k.size k.empties k.units (slot-live k.arena c.args.id C c.lits-lits.ensures.clause) c.self.invariant.counted in
    omega (arith, b.1)

pub overflow_sub-self-3 : goal.overflow_sub-self-3
overflow_sub-self-3 c =
    let k = c.self.inside in
    let C = c.lits-lits.result.now in
    let b = counted-bounds k.arena.clauses c.args.id C k.count k.size k.empties k.units (slot-live k.arena c.args.id C c.lits-lits.ensures.clause) c.self.invariant.counted in
    omega (arith, b.2, c.empty_ones.ensures.value)

pub overflow_sub-self-4 : goal.overflow_sub-self-4
overflow_sub-self-4 c =
    let k = c.self.inside in
    let C = c.lits-lits.result.now in
    let b = counted-bounds k.arena.clauses c.args.id C k.count k.size k.empties k.units (slot-live k.arena c.args.id C c.lits-lits.ensures.clause) c.self.invariant.counted in
    omega (arith, b.3, c.unit_ones.ensures.value)

pub invariant_of-self : goal.invariant_of-self
invariant_of-self c =
    let k = c.self.inside in
    let C = c.lits-lits.result.now in
    rw (c.empty_ones.ensures.value, c.unit_ones.ensures.value)
    (kernel-gone k.prefix k.arena k.occ k.uses k.count k.size k.empties k.units k.top k.greatest c.self.invariant c.delete.new.arena c.unlink.new.occ c.vanish_all.new.uses c.args.id
    c.delete.ensures.linked c.delete.ensures.room c.unlink.ensures.kept c.vanish_all.ensures.room C (slot-live k.arena c.args.id C c.lits-lits.ensures.clause) c.delete.ensures.clauses c.vanish_all.ensures.occurring)

pub returns : goal.returns
returns c =
    let k = c.self.inside in
    rw (← c.self.view_is) (record {
      change = changed-slots k.arena c.delete.new.arena c.args.id None c.delete.ensures.clauses;
      kept = record { words = c.delete.ensures.words; ids = c.delete.ensures.ids };
      rest = record { prefix = refl; text = refl; vars = refl; greatest = refl; bytes = refl };
    })
