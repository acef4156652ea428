use Rattle.std.proofs.Common.{ap, sym, ◌∙◌}
use Rattle.q_logic.specs.Prelude.{Prefix, live, occurring}
use Rattle.q_kernel.specs.Kernels.{slots}
use Rattle.q_kernel.proofs.KernelRuns.{led-through}
use Rattle.q_kernel.proofs.KeptView.{whole-sweep}
use Rattle.q_kernel.proofs.kernel.Kernel.sweep_now.Goals as goal

pub returns-clause-formula : goal.returns-clause-formula
returns-clause-formula c =
    let same = ap live c.remove_idle.ensures.clauses in
    let prefix = c.remove_idle.ensures.prefix ∙ ap (λ (P : Prefix). occurring P (live (slots c.drop_others.new.self))) c.drop_others.ensures.prefix ∙ ap (occurring c.args.self.now.prefix) (sym same) in
    whole-sweep c.args.self.now.prefix c.remove_idle.new.self.prefix (live (slots c.args.self.now)) (live (slots c.remove_idle.new.self)) (same ∙ c.drop_others.ensures.matrix) prefix

pub returns-clause-led : goal.returns-clause-led
returns-clause-led c = led-through c.args.self.now c.drop_others.new.self c.remove_idle.new.self c.drop_others.ensures.swept.led c.remove_idle.ensures.swept.led
