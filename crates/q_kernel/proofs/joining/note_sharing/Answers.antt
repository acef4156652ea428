use Rattle.std.proofs.Common.{◌∙◌, ap, ◌≡◌, true}
use Rattle.q_logic.specs.Prelude.{is_bound}
use Rattle.q_kernel.specs.Kernels.{formula_in, Seen}
use Rattle.q_kernel.proofs.TextCosts.{proper-var}
use Rattle.q_kernel.proofs.joining.note_sharing.Goals as goal

pub new-requires-clause-positive : goal.new-requires-clause-positive
new-requires-clause-positive c =
    let b : is_bound c.loop.kernel.prefix c.in-Some.var ≡ true = ap (λ (k : Seen). is_bound k.prefix c.in-Some.var) c.loop.invariant.same ∙ c.loop.invariant.bound c.in-Some.var c.in-Some.is in
    (proper-var (formula_in c.loop.kernel) c.in-Some.var c.sound.ensures.proper b).0

pub new-requires-clause-small : goal.new-requires-clause-small
new-requires-clause-small c =
    let b : is_bound c.loop.kernel.prefix c.in-Some.var ≡ true = ap (λ (k : Seen). is_bound k.prefix c.in-Some.var) c.loop.invariant.same ∙ c.loop.invariant.bound c.in-Some.var c.in-Some.is in
    (proper-var (formula_in c.loop.kernel) c.in-Some.var c.sound.ensures.proper b).1
