use Rattle.std.proofs.Common.{◌∙◌, refl, sym}
use Rattle.q_logic.specs.Prelude.{live}
use Rattle.q_logic.proofs.Common.{test-false}
use Rattle.q_judge.proofs.TriedSteps.{remove-unbound, remove-occurring}
use Rattle.q_check.proofs.annotating.remove.Goals as goal

pub returns-then-not-binds : goal.returns-then-not-binds
returns-then-not-binds c m =
    let F = c.args.book.now in
    let b = rw c.scope.ensures at c.binds.ensures in
    rw c.refusal.ensures (refl, remove-unbound m F.prefix (live F.slots) c.args.var (sym b ∙ c.if-not-binds.true))

pub returns-then-not-is_absent : goal.returns-then-not-is_absent
returns-then-not-is_absent c m =
    let F = c.args.book.now in
    let b = rw c.scope.ensures at c.binds.ensures in
    rw c.refusal-then-not-is_absent.ensures (refl, remove-occurring m F.prefix (live F.slots) c.args.var (sym b ∙ c.if-not-binds.false) (test-false c.is_absent.result c.is_absent.ensures c.if-not-is_absent.true))

pub remove-requires : goal.remove-requires
remove-requires c =
    let b = rw c.scope.ensures at c.binds.ensures in
    record { bound = sym b ∙ c.if-not-binds.false; absent = c.is_absent.ensures.0 c.if-not-is_absent.false }

pub returns : goal.returns
returns c m =
    let b = rw c.scope.ensures at c.binds.ensures in
    rw (c.remove.ensures, c.new.ensures) ((sym b ∙ c.if-not-binds.false, c.is_absent.ensures.0 c.if-not-is_absent.false, refl), refl, refl)
