use Rattle.std.proofs.Common.{◌∙◌, sym, arith}
use Rattle.q_logic.proofs.Common.{is_bound-universal}
use Rattle.q_rule.proofs.TargetChanges.{change-clear}
use Rattle.q_reduce.proofs.pure.take_pure.Goals as goal

pub drop_all-requires-clause-universal : goal.drop_all-requires-clause-universal
drop_all-requires-clause-universal c =
    let e = rw c.var.ensures.value at c.is_existential.ensures in
    is_bound-universal c.args.kernel.now.prefix c.args.l.var c.requires.bound (sym e ∙ c.if-is_existential.false)

pub drop_all-requires-clause-bytes : goal.drop_all-requires-clause-bytes
drop_all-requires-clause-bytes c = change-clear 16 c.args.l c.args.kernel.now (omega arith) c.requires.bytes
