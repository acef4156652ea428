use Rattle.std.proofs.Common.{false, Option, Some, Err, refl, sym, subst}
use Rattle.std.proofs.lemmas.Result.{err_from_is_err_and}
use Rattle.q_logic.specs.Prelude.{first_of, Literal, delete}
use Rattle.q_prop.specs.Slots.{filled, without}
use Rattle.q_judge.specs.Ledgers.{Slotted, formula_in}
use Rattle.q_judge.specs.Tried.{IsTried}
use Rattle.q_judge.specs.Warrants.{IsAnswered}
use Rattle.q_judge.proofs.TriedSteps.{delete-refused, delete-valid, delete-after}
use Rattle.q_check.proofs.tries.delete_permitted.Goals as goal

pub returns-in_err-permit : goal.returns-in_err-permit
returns-in_err-permit c m =
    let L = c.args.ledger.now in
    let p = first_of c.args.lits.now in
    let C = c.args.clause.now in
    let e = c.in_err-permit.field-0.0 in
    let r = err_from_is_err_and c.from_residual.result c.from_residual.ensures.1 in
    let x = subst (λ (q : Option Literal). IsAnswered L.prefix (filled (without L.slots (Some c.args.at))) C q (Err e)) c.first_lit.ensures c.in_err-permit.ensures.refused in
    let h = delete-refused L.prefix L.slots c.args.at C c.requires.there false m p e c.requires.within x in
    rw (r.1, r.2) (subst (λ (M : Slotted). IsTried false m (formula_in L) (delete p C) (formula_in M) (Err e)) (sym c.in_err-permit.ensures.same) h)

pub delete-requires : goal.delete-requires
delete-requires c = rw c.in_ok-permit.ensures.same c.requires.there

pub returns : goal.returns
returns c m =
    let L = c.args.ledger.now in
    let p = first_of c.args.lits.now in
    let C = c.args.clause.now in
    let n = c.args.at in
    let h = c.requires.there in
    let v = delete-valid L.prefix L.slots n C h m p c.requires.within (rw c.first_lit.ensures at c.in_ok-permit.ensures.ok) in
    rw (c.delete.ensures, c.in_ok-permit.ensures.same) (v, delete-after L.prefix L.slots n C h p, refl)
