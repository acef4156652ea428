use Rattle.std.proofs.Common.{Err, refl, sym, subst, arith}
use Rattle.std.proofs.lemmas.Result.{err_from_is_err_and}
use Rattle.q_prop.specs.Slots.{filled}
use Rattle.q_logic.specs.Prelude.{add}
use Rattle.q_judge.specs.Ledgers.{Slotted, formula_in}
use Rattle.q_judge.specs.Tried.{IsTried}
use Rattle.q_logic.proofs.Common.{test-false}
use Rattle.q_judge.proofs.TriedSteps.{of, add-unbound, add-refused, add-roomless, add-after, add-entry}
use Rattle.q_check.proofs.tries.add.Goals as goal

pub returns-then-not-binds_all : goal.returns-then-not-binds_all
returns-then-not-binds_all c keep =
    let L = c.args.ledger.now in
    let b = rw c.scope.ensures at c.binds_all.ensures in
    rw c.refusal.ensures (refl, add-unbound c.args.limits L.prefix (filled L.slots) c.args.first c.args.clause.now (test-false c.binds_all.result b c.if-not-binds_all.true))

pub permit-requires-clause-within : goal.permit-requires-clause-within
permit-requires-clause-within c =
    let b = rw c.scope.ensures at c.binds_all.ensures in
    b.0 c.if-not-binds_all.false

pub returns-in_err-permit : goal.returns-in_err-permit
returns-in_err-permit c keep =
    let L = c.args.ledger.now in
    let e = c.in_err-permit.field-0.0 in
    let r = err_from_is_err_and c.from_residual.result c.from_residual.ensures.1 in
    let b = rw c.scope.ensures at c.binds_all.ensures in
    let h = add-refused keep c.args.limits L.prefix (filled L.slots) c.args.first c.args.clause.now e (b.0 c.if-not-binds_all.false) c.in_err-permit.ensures.refused in
    rw (r.1, r.2) (subst (λ (M : Slotted). IsTried keep c.args.limits (formula_in L) (add c.args.first c.args.clause.now) (formula_in M) (Err e)) (sym c.in_err-permit.ensures.same) h)

pub returns-then-not-has_room : goal.returns-then-not-has_room
returns-then-not-has_room c keep =
    let L = c.args.ledger.now in
    let X = filled L.slots in
    let b = rw c.scope.ensures at c.binds_all.ensures in
    let w = b.0 c.if-not-binds_all.false in
    let v = c.in_ok-permit.ensures.ok in
    let o = rw c.in_ok-permit.ensures.same at c.has_room.ensures in
    rw (c.refusal-then-not-has_room.ensures, c.in_ok-permit.ensures.same) (refl, add-roomless c.args.limits L.prefix X c.args.first c.args.clause.now w v (test-false c.has_room.result o c.if-not-has_room.true))

pub put-requires : goal.put-requires
put-requires c =
    let b = rw c.scope.ensures at c.binds_all.ensures in
    let k = c.has_room.ensures.0 c.if-not-has_room.false in
    record {
      ordered = c.requires.ordered;
      within = rw c.in_ok-permit.ensures.same (b.0 c.if-not-binds_all.false);
      few_clauses = omega (arith, k.clauses, c.requires.limits.clauses);
      few_lits = omega (arith, k.lits, c.requires.limits.lits);
    }

pub returns-in_err-put : goal.returns-in_err-put
returns-in_err-put c keep =
    let r = err_from_is_err_and c.from_residual-in_err-put.result c.from_residual-in_err-put.ensures.1 in
    rw (r.1, r.2, c.in_err-put.ensures.err, c.in_ok-permit.ensures.same) refl

pub returns : goal.returns
returns c keep =
    let L = c.args.ledger.now in
    let C = c.args.clause.now in
    let p = c.args.first in
    let X = filled L.slots in
    let b = rw c.scope.ensures at c.binds_all.ensures in
    let k = rw c.in_ok-permit.ensures.same at (c.has_room.ensures.0 c.if-not-has_room.false) in
    let v = c.in_ok-permit.ensures.ok in
    let put = rw c.in_ok-permit.ensures.same at c.in_ok-put.ensures.ok in
    rw (c.in_ok-put.ensures.prefix, c.in_ok-permit.ensures.same) ((b.0 c.if-not-binds_all.false, v, k), add-after L.prefix L.slots c.put.new.self.slots c.in_ok-put.field-0 p C put, add-entry keep (of L.prefix X) p C)
