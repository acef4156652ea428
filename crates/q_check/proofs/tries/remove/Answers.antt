use Rattle.std.proofs.Common.{◌≡◌, ◌∙◌, true, refl, sym}
use Rattle.q_logic.specs.Prelude.{is_bound, removed_from, IsAbsent}
use Rattle.q_prop.specs.Slots.{filled}
use Rattle.q_logic.proofs.Common.{test-false, alike_itself}
use Rattle.q_judge.proofs.TriedSteps.{of, remove-unbound, remove-occurring, removed-entry}
use Rattle.q_check.proofs.tries.remove.Goals as goal

pub returns-then-not-binds : goal.returns-then-not-binds
returns-then-not-binds c m =
    let L = c.args.ledger.now in
    let b = rw c.scope.ensures at c.binds.ensures in
    rw c.refusal.ensures (refl, remove-unbound m L.prefix (filled L.slots) c.args.var (sym b ∙ c.if-not-binds.true))

pub returns-then-not-is_absent : goal.returns-then-not-is_absent
returns-then-not-is_absent c m =
    let L = c.args.ledger.now in
    let b = rw c.scope.ensures at c.binds.ensures in
    let a = rw c.store.ensures at c.is_absent.ensures in
    rw c.refusal-then-not-is_absent.ensures (refl, remove-occurring m L.prefix (filled L.slots) c.args.var (sym b ∙ c.if-not-binds.false) (test-false c.is_absent.result a c.if-not-is_absent.true))

pub remove-requires : goal.remove-requires
remove-requires c =
    let b = rw c.scope.ensures at c.binds.ensures in
    let a = rw c.store.ensures at c.is_absent.ensures in
    record { bound = sym b ∙ c.if-not-binds.false; absent = a.0 c.if-not-is_absent.false }

pub returns : goal.returns
returns c m =
    let L = c.args.ledger.now in
    let X = filled L.slots in
    let b = rw c.scope.ensures at c.binds.ensures in
    let a = rw c.store.ensures at c.is_absent.ensures in
    let v : (is_bound L.prefix c.args.var ≡ true) × IsAbsent X c.args.var = (sym b ∙ c.if-not-binds.false, a.0 c.if-not-is_absent.false) in
    let x = rw c.scope-2.ensures at c.is_existential-existential.ensures in
    rw c.remove.ensures (v, alike_itself (of (removed_from c.args.var L.prefix) X), removed-entry c.args.keep (of L.prefix X) c.args.var c.is_existential-existential.result c.removed_entry.result x c.removed_entry.ensures)
