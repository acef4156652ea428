use Rattle.std.proofs.Common.{length, ap, refl, rules, arith}
use Rattle.q_logic.proofs.Common.{slot-below}
use Rattle.q_kernel.specs.Kernels.{slots}
use Rattle.q_kernel.proofs.LiveIds.{ids-step, ids-end}
use Rattle.q_kernel.proofs.ids.IdsIterator.next.Goals as goal

pub overflow_add-self : goal.overflow_add-self
overflow_add-self c =
    let r = c.in-Some.ensures.some c.in-Some.id refl in
    let b = slot-below (slots c.self.inside.kernel.now) c.in-Some.id r.1 r.2 in
    omega (arith, c.self.invariant)

pub returns-in_default-clause-steps : goal.returns-in_default-clause-steps
returns-in_default-clause-steps c =
    let i = c.self.inside in
    let e = ids-end (slots i.kernel.now) i.from (c.in_default.ensures.none refl) in
    rw (← c.self.view_is) (e, e)

pub returns-clause-steps : goal.returns-clause-steps
returns-clause-steps c =
    let i = c.self.inside in
    let id = c.in-Some.id in
    let r = c.in-Some.ensures.some id refl in
    rw (← c.self.view_is) (ids-step (slots i.kernel.now) i.from id r.1 r.0 r.2 (λ d h b. c.in-Some.ensures.least id d refl h b))

pub returns-clause-goes : goal.returns-clause-goes
returns-clause-goes c = let shorter = ap length (returns-clause-steps c) in search rules
