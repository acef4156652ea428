use Rattle.std.proofs.Common.{true, Option, Some, Err, refl, sym, subst}
use Rattle.std.proofs.lemmas.Result.{err_from_is_err_and}
use Rattle.q_prop.specs.Slots.{filled, without}
use Rattle.q_logic.specs.Prelude.{first_of, Literal, delete}
use Rattle.q_judge.specs.Ledgers.{Slotted, formula_in}
use Rattle.q_judge.specs.Tried.{IsTried}
use Rattle.q_judge.specs.Warrants.{IsAnswered}
use Rattle.q_judge.proofs.TriedSteps.{delete-refused, delete-valid, delete-after, delete-entry, warranted}
use Rattle.q_check.proofs.tries.delete_noted.Goals as goal

pub returns-in_err-warrant : goal.returns-in_err-warrant
returns-in_err-warrant c m =
    let L = c.args.ledger.now in
    let p = first_of c.args.lits.now in
    let C = c.args.clause.now in
    let e = c.in_err-warrant.field-0.0 in
    let r = err_from_is_err_and c.from_residual.result c.from_residual.ensures.1 in
    let x = subst (λ (q : Option Literal). IsAnswered L.prefix (filled (without L.slots (Some c.args.at))) C q (Err e)) c.first_lit.ensures c.in_err-warrant.ensures.exact in
    let h = delete-refused L.prefix L.slots c.args.at C c.requires.there true m p e c.requires.within x in
    rw (r.1, r.2) (subst (λ (M : Slotted). IsTried true m (formula_in L) (delete p C) (formula_in M) (Err e)) (sym c.in_err-warrant.ensures.same) h)

pub returns-in_err-entry : goal.returns-in_err-entry
returns-in_err-entry c m =
    let r = err_from_is_err_and c.from_residual-in_err-entry.result c.from_residual-in_err-entry.ensures.1 in
    rw (r.1, r.2, c.in_err-entry.ensures.same, c.in_ok-warrant.ensures.same) refl

pub delete-requires : goal.delete-requires
delete-requires c = rw (c.in_ok-entry.ensures.same, c.in_ok-warrant.ensures.same) c.requires.there

pub returns : goal.returns
returns c m =
    let L = c.args.ledger.now in
    let p = first_of c.args.lits.now in
    let C = c.args.clause.now in
    let n = c.args.at in
    let h = c.requires.there in
    let x = rw c.first_lit.ensures at c.in_ok-warrant.ensures.exact in
    let v = delete-valid L.prefix L.slots n C h m p c.requires.within (warranted L.prefix (filled (without L.slots (Some n))) p C c.in_ok-warrant.warrant x) in
    let q = rw (c.kept_pivot-pivot.ensures, c.first_lit-2.ensures, c.in_ok-warrant.ensures.same) at c.in_ok-entry.ensures.exact in
    rw (c.delete.ensures, c.in_ok-entry.ensures.same, c.in_ok-warrant.ensures.same) (v, delete-after L.prefix L.slots n C h p, delete-entry L.prefix L.slots n C h true p c.in_ok-warrant.warrant c.in_ok-entry.entry x q)
