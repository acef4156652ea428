use Rattle.std.proofs.Common.{◌∙◌, refl, sym}
use Rattle.q_logic.proofs.Common.{test-false}
use Rattle.q_check.proofs.HintCauses.{remove-unbound, remove-occurring}
use Rattle.q_check.proofs.hinted.remove.Goals as goal

pub returns-then-not-binds : goal.returns-then-not-binds
returns-then-not-binds c m =
    let b = rw c.scope.ensures at c.binds.ensures in
    rw c.refusal.ensures (refl, remove-unbound m c.args.book.now c.args.var c.args.proof.now (sym b ∙ c.if-not-binds.true))

pub returns-then-not-is_absent : goal.returns-then-not-is_absent
returns-then-not-is_absent c m =
    let b = rw c.scope.ensures at c.binds.ensures in
    rw c.refusal-then-not-is_absent.ensures (refl, remove-occurring m c.args.book.now c.args.var c.args.proof.now (sym b ∙ c.if-not-binds.false) (test-false c.is_absent.result c.is_absent.ensures c.if-not-is_absent.true))

pub remove-requires : goal.remove-requires
remove-requires c =
    let b = rw c.scope.ensures at c.binds.ensures in
    record { bound = sym b ∙ c.if-not-binds.false; absent = c.is_absent.ensures.0 c.if-not-is_absent.false }
