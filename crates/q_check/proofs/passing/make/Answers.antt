use Rattle.std.proofs.Common.{◌≡◌, ◌∙◌, Option, sym, ap, subst}
use Rattle.std.specs.Prelude.{OnOk}
use Rattle.q_logic.specs.declared.steps.Kind.{Kind}
use Rattle.q_logic.specs.declared.limits.Limits.{Limits}
use Rattle.q_logic.specs.Prelude.{Literal, step_of, clause_of, first_of, IsStepForm, ProofStep, AreAlike, after, add, delete, drop_literal, remove_variable}
use Rattle.q_judge.specs.Ledgers.{formula_in}
use Rattle.q_same_steps.specs.Making.{Applies}
use Rattle.q_check.proofs.FirstLiterals.{first-dropped, first-removed}
use Rattle.q_check.proofs.UnfitSteps.{on_ok}
use Rattle.q_check.proofs.passing.make.Goals as goal

pub returns-in_ok-load_clause-in-Add-clause-fit : goal.returns-in_ok-load_clause-in-Add-clause-fit
returns-in_ok-load_clause-in-Add-clause-fit c =
    let F = formula_in c.args.ledger.now in
    let ls = c.lits-lits.result.now in
    let w = c.lits-lits.ensures.whole ∙ ap (λ (k : Kind). step_of k ls) (sym c.kind.ensures ∙ c.in-Add.is) in
    let t = rw (c.deref.ensures.value, c.in_ok-load_clause-in-Add.ensures) at c.add.ensures.fit in
    subst (λ (s : ProofStep). OnOk c.add.result (Applies c.args.limits F s)) (sym w)
    (on_ok c.add.result ((p : Option Literal) → Applies c.args.limits F (add p (clause_of ls))) (Applies c.args.limits F (add (first_of ls) (clause_of ls))) (λ h. h (first_of ls)) t)

pub returns-in_ok-load_clause-in-Add-clause-after : goal.returns-in_ok-load_clause-in-Add-clause-after
returns-in_ok-load_clause-in-Add-clause-after c =
    let F = formula_in c.args.ledger.now in
    let G = formula_in c.add.new.ledger in
    let ls = c.lits-lits.result.now in
    let w = c.lits-lits.ensures.whole ∙ ap (λ (k : Kind). step_of k ls) (sym c.kind.ensures ∙ c.in-Add.is) in
    let t = rw (c.deref.ensures.value, c.in_ok-load_clause-in-Add.ensures) at c.add.ensures.after in
    subst (λ (s : ProofStep). OnOk c.add.result (AreAlike (after F s) G)) (sym w)
    (on_ok c.add.result ((p : Option Literal) → AreAlike (after F (add p (clause_of ls))) G) (AreAlike (after F (add (first_of ls) (clause_of ls))) G) (λ h. h (first_of ls)) t)

pub returns-in_ok-load_clause-in-Delete-clause-fit : goal.returns-in_ok-load_clause-in-Delete-clause-fit
returns-in_ok-load_clause-in-Delete-clause-fit c =
    let F = formula_in c.args.ledger.now in
    let ls = c.lits-lits.result.now in
    let w = c.lits-lits.ensures.whole ∙ ap (λ (k : Kind). step_of k ls) (sym c.kind.ensures ∙ c.in-Delete.is) in
    let t = rw (c.deref-in-Delete.ensures.value, c.in_ok-load_clause-in-Delete.ensures) at c.delete.ensures.fit in
    subst (λ (s : ProofStep). OnOk c.delete.result (Applies c.args.limits F s)) (sym w)
    (on_ok c.delete.result ((m : Limits) → (p : Option Literal) → Applies m F (delete p (clause_of ls))) (Applies c.args.limits F (delete (first_of ls) (clause_of ls))) (λ h. h c.args.limits (first_of ls)) t)

pub returns-in_ok-load_clause-in-Delete-clause-after : goal.returns-in_ok-load_clause-in-Delete-clause-after
returns-in_ok-load_clause-in-Delete-clause-after c =
    let F = formula_in c.args.ledger.now in
    let G = formula_in c.delete.new.ledger in
    let ls = c.lits-lits.result.now in
    let w = c.lits-lits.ensures.whole ∙ ap (λ (k : Kind). step_of k ls) (sym c.kind.ensures ∙ c.in-Delete.is) in
    let t = rw (c.deref-in-Delete.ensures.value, c.in_ok-load_clause-in-Delete.ensures) at c.delete.ensures.after in
    subst (λ (s : ProofStep). OnOk c.delete.result (AreAlike (after F s) G)) (sym w)
    (on_ok c.delete.result ((p : Option Literal) → AreAlike (after F (delete p (clause_of ls))) G) (AreAlike (after F (delete (first_of ls) (clause_of ls))) G) (λ h. h (first_of ls)) t)

pub returns-in_ok-load_rest-in-Drop-clause-fit : goal.returns-in_ok-load_rest-in-Drop-clause-fit
returns-in_ok-load_rest-in-Drop-clause-fit c =
    let F = formula_in c.args.ledger.now in
    let ls = c.lits-lits.result.now in
    let k = sym c.kind.ensures ∙ c.in-Drop.is in
    let f = subst (λ (x : Kind). IsStepForm x ls) k c.lits-lits.ensures.form in
    let w = c.lits-lits.ensures.whole ∙ ap (λ (x : Kind). step_of x ls) k ∙ first-dropped ls c.index-lits-0.result f c.index-lits-0.is in
    let t = rw (c.deref-in-Drop.ensures.value, c.in_ok-load_clause-in-Drop.ensures) at c.drop_literal.ensures.fit in
    subst (λ (s : ProofStep). OnOk c.drop_literal.result (Applies c.args.limits F s)) (sym w)
    (on_ok c.drop_literal.result ((m : Limits) → Applies m F (drop_literal c.index-lits-0.result (clause_of ls))) (Applies c.args.limits F (drop_literal c.index-lits-0.result (clause_of ls))) (λ h. h c.args.limits) t)

pub returns-in-Remove-clause-fit : goal.returns-in-Remove-clause-fit
returns-in-Remove-clause-fit c =
    let F = formula_in c.args.ledger.now in
    let ls = c.lits-lits.result.now in
    let k = sym c.kind.ensures ∙ c.in-Remove.is in
    let f = subst (λ (x : Kind). IsStepForm x ls) k c.lits-lits.ensures.form in
    let x = c.index-lits-0-in-Remove.result in
    let w = c.lits-lits.ensures.whole ∙ ap (λ (x : Kind). step_of x ls) k ∙ first-removed ls x f.0 c.index-lits-0-in-Remove.is in
    let t = rw c.var-in-Remove.ensures.value at c.remove.ensures.fit in
    subst (λ (s : ProofStep). OnOk c.remove.result (Applies c.args.limits F s)) (sym w)
    (on_ok c.remove.result ((m : Limits) → Applies m F (remove_variable x.var)) (Applies c.args.limits F (remove_variable x.var)) (λ h. h c.args.limits) t)
