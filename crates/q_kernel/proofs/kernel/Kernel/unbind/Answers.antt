use Rattle.std.proofs.Common.{refl, arith}
use Rattle.q_logic.specs.Prelude.{live, formula_of}
use Rattle.q_kernel.proofs.TextCosts.{proper-var}
use Rattle.q_kernel.proofs.VariableCounts.{greatest-removed_most}
use Rattle.q_kernel.proofs.KernelRuns.{led-removed}
use Rattle.q_kernel.proofs.KernelSteps.{kernel-removed, removed-idle}
use Rattle.q_kernel.proofs.LoggedSteps.{logged-remove}
use Rattle.q_kernel.proofs.kernel.Kernel.unbind.Goals as goal

pub new-requires-clause-positive : goal.new-requires-clause-positive
new-requires-clause-positive c =
    let k = c.self.inside in
    let m = rw (← c.self.view_is) at c.requires in
    (proper-var (formula_of k.prefix.bounds (live k.arena.clauses)) c.args.v c.self.invariant.proper m.valid.0).0

pub new-requires-clause-small : goal.new-requires-clause-small
new-requires-clause-small c =
    let k = c.self.inside in
    let m = rw (← c.self.view_is) at c.requires in
    (proper-var (formula_of k.prefix.bounds (live k.arena.clauses)) c.args.v c.self.invariant.proper m.valid.0).1

pub remove-requires : goal.remove-requires
remove-requires c =
    let k = c.self.inside in
    let m = rw (← c.self.view_is) at c.requires in
    removed-idle k.prefix k.prefix k.arena k.occ k.uses k.uses k.count k.size k.empties k.units k.top k.greatest c.self.invariant refl refl c.args.v m.valid

pub top_of-self-inside-requires : goal.top_of-self-inside-requires
top_of-self-inside-requires c =
    let k = c.self.inside in
    let g = greatest-removed_most c.args.v k.prefix.bounds in
    rw c.remove-2.ensures.bounds (omega (arith, c.self.invariant.top))

pub invariant_of-self : goal.invariant_of-self
invariant_of-self c =
    let k = c.self.inside in
    let m = rw (← c.self.view_is) at c.requires in
    let i = removed-idle k.prefix k.prefix k.arena k.occ k.uses k.uses k.count k.size k.empties k.units k.top k.greatest c.self.invariant refl refl c.args.v m.valid in
    kernel-removed k.prefix c.remove-2.new.self k.arena k.occ k.uses c.remove.new.self k.count k.size k.empties k.units k.top k.greatest c.self.invariant c.remove.ensures.room c.remove-2.ensures.greatest
    c.args.v m.valid c.remove-2.ensures.bounds i c.remove.ensures.idle c.remove.ensures.existentials c.remove.ensures.universals _ c.top_of-self-inside.ensures

pub returns : goal.returns
returns c =
    let k = c.self.inside in
    let m = rw (← c.self.view_is) at c.requires in
    let t = rw c.new.ensures at c.append.ensures.text in
    let b = rw c.new.ensures at c.append.ensures.spare in
    rw (← c.self.view_is) (record {
      prefix = c.remove-2.ensures.bounds;
      change = refl;
      logged = record { text = t; bytes = b; led = led-removed _ _ c.args.v (logged-remove _ c.args.v c.self.invariant.proper m.valid) m.valid t c.remove-2.ensures.bounds refl };
      room = record { words = omega arith; ids = omega arith; vars = omega (arith, c.remove-2.ensures.spare); greatest = omega arith };
    })
