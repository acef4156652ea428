use Rattle.std.proofs.Common.{◌∙◌, sym}
use Rattle.q_kernel.proofs.NextVariables.{after-bound}
use Rattle.q_reduce.proofs.forests.innermost.Goals as goal

pub loop-init : goal.loop-init
loop-init c = record {
  inner = c.requires.bound;
  bound = λ b e. after-bound c.args.kernel.now.prefix c.args.var b (sym (rw c.prefix.ensures at c.after-at.ensures) ∙ e);
}

pub loop-preserved : goal.loop-preserved
loop-preserved c = record {
  inner = c.inner_of-inner.ensures;
  bound = λ b e. after-bound c.args.kernel.now.prefix c.in-Some.bound.var b (sym (rw c.prefix-in-loop.ensures at c.after-at-in-loop.ensures) ∙ e);
}
