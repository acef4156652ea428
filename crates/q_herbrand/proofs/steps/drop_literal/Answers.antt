use Rattle.std.proofs.Common.{◌∙◌, Some, Err, sym, subst}
use Rattle.std.proofs.lemmas.Result.{err_from_is_err_and}
use Rattle.q_prop.specs.Slots.{filled, without}
use Rattle.q_logic.specs.Prelude.{drop_literal}
use Rattle.q_judge.specs.Ledgers.{Slotted, formula_in}
use Rattle.q_judge.proofs.TriedSteps.{drop-after}
use Rattle.q_herbrand.specs.Drops.{IsDropKind}
use Rattle.q_herbrand.specs.Trails.{IsPassed}
use Rattle.q_herbrand.proofs.DropKinds.{drop-reversed, drop-extended, drop-refused}
use Rattle.q_herbrand.proofs.steps.drop_literal.Goals as goal

pub returns-in_err-entry : goal.returns-in_err-entry
returns-in_err-entry c =
    let L = c.args.ledger.now in
    let C = c.args.clause.now in
    let l = c.args.lit in
    let n = c.place_of-at.result in
    let e = c.in_err-entry.field-0.0 in
    let r = err_from_is_err_and c.from_residual-in_err-entry.result c.from_residual-in_err-entry.ensures.1 in
    let x = drop-refused (formula_in L) l C e
    (λ q. drop-extended L.prefix L.slots n C c.place_of-at.ensures l
    (subst (IsDropKind L.prefix (filled (without L.slots (Some n))) C l) (c.in_err-entry.ensures.refused q)
    c.in_ok-kind.ensures.kind)) in
    rw (r.1, r.2)
    (subst (λ (M : Slotted). IsPassed (formula_in L) (drop_literal l C) (formula_in M) (Err e))
    (sym (c.in_err-entry.ensures.same ∙ c.in_ok-kind.ensures.same)) x)

pub shorten-requires : goal.shorten-requires
shorten-requires c =
    rw (c.in_ok-entry.ensures.same, c.in_ok-kind.ensures.same) (record {
      there = c.place_of-at.ensures;
      ordered = c.requires.ordered;
      rest = (c.args.lit, c.requires.rest);
    })

pub returns : goal.returns
returns c =
    let L = c.args.ledger.now in
    let C = c.args.clause.now in
    let l = c.args.lit in
    let n = c.place_of-at.result in
    let h = c.place_of-at.ensures in
    let s = rw (c.in_ok-entry.ensures.same, c.in_ok-kind.ensures.same, c.requires.rest) at c.in_ok-shorten.ensures.ok in
    let q = rw c.in_ok-kind.ensures.same at c.in_ok-entry.ensures.entry in
    rw s.2 (
      drop-after L.prefix L.slots s.0 n c.in_ok-shorten.field-0 l C h s.1,
      drop-reversed L.prefix L.slots n C h l c.in_ok-kind.kind c.in_ok-entry.entry c.in_ok-kind.ensures.kind q,
    )
