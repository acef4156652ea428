use Rattle.std.proofs.Common.{Some, arith, refl, ◌∙◌}
use Rattle.q_kernel.proofs.KernelInvariant.{kernel-put, roomy-lists, changed-slots}
use Rattle.q_kernel.proofs.KernelSizes.{counts-small, slot-live}
use Rattle.q_kernel.proofs.SlotLists.{slot-get}
use Rattle.q_logic.specs.Prelude.{live}
use Rattle.q_kernel.proofs.kernel.Kernel.put_at.Goals as goal

pub add_at-requires-clause-lists : goal.add_at-requires-clause-lists
add_at-requires-clause-lists c =
    let k = c.self.inside in
    let w = rw (← c.self.view_is) at c.requires.within in
    roomy-lists k.prefix k.arena k.occ k.uses k.greatest c.args.lits.now c.self.invariant.roomy w

pub overflow_add-self : goal.overflow_add-self
overflow_add-self c =
    let k = c.self.inside in
    let i = c.self.invariant.counted in
    let b = counts-small (live k.arena.clauses) k.count k.size k.empties k.units i in
    let s = rw (← c.self.view_is) at c.sound.ensures.size in
    omega (arith, s, i.size)

pub overflow_add-self-4 : goal.overflow_add-self-4
overflow_add-self-4 c =
    let k = c.self.inside in
    let i = c.self.invariant.counted in
    let b = counts-small (live k.arena.clauses) k.count k.size k.empties k.units i in
    let s = rw (← c.self.view_is) at c.sound.ensures.size in
    omega (arith, s, i.size, c.empty_ones.ensures.small)

pub overflow_add-self-5 : goal.overflow_add-self-5
overflow_add-self-5 c =
    let k = c.self.inside in
    let i = c.self.invariant.counted in
    let b = counts-small (live k.arena.clauses) k.count k.size k.empties k.units i in
    let s = rw (← c.self.view_is) at c.sound.ensures.size in
    omega (arith, s, i.size, b.2, c.unit_ones.ensures.small)

pub invariant_of-self : goal.invariant_of-self
invariant_of-self c =
    let k = c.self.inside in
    let f = rw (← c.self.view_is) at c.requires.free in
    let w = rw (← c.self.view_is) at c.requires.within in
    rw (c.empty_ones.ensures.value, c.unit_ones.ensures.value)
    (kernel-put k.prefix k.arena k.occ k.uses k.count k.size k.empties k.units k.top k.greatest c.self.invariant c.add_at.new.arena c.add_at.new.occ c.occur_all.new.uses c.args.id
    c.add_at.ensures.linked c.add_at.ensures.room c.add_at.ensures.kept c.occur_all.ensures.room c.args.lits.now (slot-get k.arena.clauses c.args.id ∙ f.free) f.within c.add_at.ensures.clauses c.requires.ordered w c.occur_all.ensures.occurring)

pub returns : goal.returns
returns c =
    let k = c.self.inside in
    rw (← c.self.view_is) (record {
      change = changed-slots k.arena c.add_at.new.arena c.args.id (Some c.args.lits.now) c.add_at.ensures.clauses;
      there = slot-live c.add_at.new.arena c.args.id c.args.lits.now c.add_at.ensures.there;
      words = c.add_at.ensures.words;
      ids = c.add_at.ensures.ids;
      rest = record { prefix = refl; text = refl; vars = refl; greatest = refl; bytes = refl };
    })
