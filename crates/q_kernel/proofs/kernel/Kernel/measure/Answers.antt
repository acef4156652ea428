use Rattle.std.proofs.Common.{◌+◌, refl, sym, ◌∙◌, arith, ℕ}
use Rattle.q_logic.specs.Prelude.{live, occurs}
use Rattle.q_kernel.specs.Listing.{is_listed}
use Rattle.q_kernel.proofs.GroupChanges.{uses-same}
use Rattle.q_kernel.proofs.KernelInvariant.{listed-occurs}
use Rattle.q_kernel.proofs.VariableCounts.{existentials-counted, universals-counted}
use Rattle.q_kernel.proofs.KernelSizes.{first-fits, measure-fits}
use Rattle.q_kernel.proofs.kernel.Kernel.measure.Goals as goal

pub overflow_add-result : goal.overflow_add-result
overflow_add-result c =
    let s = rw (← c.self.view_is) at c.sound.ensures.size in
    let f = first-fits c.self.inside.size (c.from-grow.result + 1) c.from.result (omega (arith, s, c.self.invariant.counted.size)) (omega (arith, c.from-grow.ensures, c.args.bounds.now.small_grow)) (omega (arith, c.from.ensures, c.existentials.type_inv)) in
    omega arith

pub overflow_add-result-4 : goal.overflow_add-result-4
overflow_add-result-4 c =
    let s = rw (← c.self.view_is) at c.sound.ensures.size in
    let f = measure-fits c.self.inside.size (c.from-grow.result + 1) c.from.result c.from-expand.result c.from-2.result (omega (arith, s, c.self.invariant.counted.size)) (omega (arith, c.from-grow.ensures, c.args.bounds.now.small_grow)) (omega (arith, c.from.ensures, c.existentials.type_inv))
    (omega (arith, c.from-expand.ensures, c.args.bounds.now.small_expand)) (omega (arith, c.from-2.ensures, c.universals.type_inv)) in
    omega arith

pub returns : goal.returns
returns c =
    let k = c.self.inside in
    let u = uses-same k.uses k.prefix.bounds (is_listed k.occ) (λ (v : ℕ). occurs v (live k.arena.clauses)) (λ v b. sym (listed-occurs k.occ k.arena c.self.invariant.linked v)) c.self.invariant.grouped in
    let e = c.from.ensures ∙ c.existentials.ensures ∙ existentials-counted k.uses k.prefix.bounds (live k.arena.clauses) c.self.invariant.proper.formula.distinct u in
    let a = c.from-2.ensures ∙ c.universals.ensures ∙ universals-counted k.uses k.prefix.bounds (live k.arena.clauses) c.self.invariant.proper.formula.distinct u in
    rw (← c.self.view_is) (rw (e, a, c.from-grow.ensures, c.from-expand.ensures, c.self.invariant.counted.size) refl)
