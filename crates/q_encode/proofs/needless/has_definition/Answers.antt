use Rattle.std.proofs.Common.{◌-◌, ◌<◌, ◌∙◌, sym, inl, inr, arith}
use Rattle.q_encode.proofs.GateParts.{definition-behind, definition-gate, zero-part, zero-none, some-part, some-none}
use Rattle.q_encode.proofs.needless.has_definition.Goals as goal

pub returns-then-var-top-clause-none : goal.returns-then-var-top-clause-none
returns-then-var-top-clause-none c R m a =
    absurd (let z : c.args.top < c.args.lit.var = definition-behind c.args.top c.args.aig.now c.args.lit R m in omega arith)

pub returns-then-var-top-2-clause-part : goal.returns-then-var-top-2-clause-part
returns-then-var-top-2-clause-part c n m =
    zero-part c.args.top c.args.aig.now c.args.clause.now c.args.lit (omega arith) (sym c.negative.ensures ∙ n) m

pub returns-then-var-top-2-clause-none : goal.returns-then-var-top-2-clause-none
returns-then-var-top-2-clause-none c R m a =
    c.negative.ensures ∙ zero-none c.args.top c.args.aig.now c.args.lit R (omega arith) m

pub returns-then-gate-gates-clause-none : goal.returns-then-gate-gates-clause-none
returns-then-gate-gates-clause-none c R m a = absurd (elim (definition-gate c.args.top c.args.aig.now c.args.lit R m) [
  | inl v ↦ omega arith
  | inr (g, v, l) ↦ omega arith
])

pub returns-clause-part : goal.returns-clause-part
returns-clause-part c r m = some-part c.args.top c.args.aig.now c.args.clause.now c.args.lit (c.var-var.result - c.args.top - 2) c.has_gate.result c.negative-2.result (omega arith) (omega arith) c.negative-2.ensures c.has_gate.ensures r m

pub returns-clause-none : goal.returns-clause-none
returns-clause-none c R m a = some-none c.args.top c.args.aig.now c.args.clause.now c.args.lit R (c.var-var.result - c.args.top - 2) c.has_gate.result c.negative-2.result (omega arith) (omega arith) c.negative-2.ensures c.has_gate.ensures m a
