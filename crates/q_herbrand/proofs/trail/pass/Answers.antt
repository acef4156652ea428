use Rattle.std.proofs.Common.{◌∙◌, Ok, None, ap, refl, sym, subst}
use Rattle.q_logic.specs.declared.steps.Kind.{Kind}
use Rattle.q_logic.specs.Prelude.{step_of, first_of, ProofStep}
use Rattle.q_judge.specs.Ledgers.{formula_in}
use Rattle.q_herbrand.specs.Trails.{IsPassed}
use Rattle.q_herbrand.proofs.trail.pass.Goals as goal

pub returns-in_ok-load_clause-in-Delete : goal.returns-in_ok-load_clause-in-Delete
returns-in_ok-load_clause-in-Delete c =
    let w = c.lits-lits.ensures.whole
    ∙ ap (λ (k : Kind). step_of k c.lits-lits.result.now) (sym c.kind.ensures ∙ c.in-Delete.is) in
    let t = rw (c.deref-in-Delete.ensures.value, c.in_ok-load_clause-in-Delete.ensures) at
    c.delete.ensures (first_of c.lits-lits.result.now) in
    subst (λ (s : ProofStep). IsPassed (formula_in c.args.ledger.now) s (formula_in c.delete.new.ledger) (Ok None))
    (sym w) (t, refl)
