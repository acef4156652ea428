use Rattle.std.proofs.Common.{◌∙◌, sym, ap, subst}
use Rattle.q_logic.specs.declared.steps.Kind.{Kind}
use Rattle.q_logic.specs.Prelude.{step_of, first_of, IsStepForm, ProofStep}
use Rattle.q_check.specs.Replays.{IsHintMade}
use Rattle.q_check.proofs.FirstLiterals.{first-dropped, first-removed}
use Rattle.q_check.proofs.hint_passing.make.Goals as goal

pub returns-in_ok-load_clause-in-Add : goal.returns-in_ok-load_clause-in-Add
returns-in_ok-load_clause-in-Add c =
    let ls = c.lits-lits.result.now in
    let w = c.lits-lits.ensures.whole ∙ ap (λ (k : Kind). step_of k ls) (sym c.kind.ensures ∙ c.in-Add.is) in
    let t = rw (c.deref.ensures.value, c.in_ok-load_clause-in-Add.ensures) at c.add.ensures (first_of ls) c.args.proof.now in
    subst (λ (s : ProofStep). IsHintMade c.args.settings.limits c.args.book.now s c.args.proof.now c.add.new.book c.add.result) (sym w) t

pub returns-in_ok-load_clause-in-Delete : goal.returns-in_ok-load_clause-in-Delete
returns-in_ok-load_clause-in-Delete c =
    let ls = c.lits-lits.result.now in
    let w = c.lits-lits.ensures.whole ∙ ap (λ (k : Kind). step_of k ls) (sym c.kind.ensures ∙ c.in-Delete.is) in
    let t = rw (c.deref-in-Delete.ensures.value, c.in_ok-load_clause-in-Delete.ensures) at c.delete.ensures c.args.settings.limits (first_of ls) c.args.proof.now (sym c.number-number.ensures) in
    subst (λ (s : ProofStep). IsHintMade c.args.settings.limits c.args.book.now s c.args.proof.now c.delete.new.book c.delete.result) (sym w) t

pub returns-in_ok-load_rest-in-Drop : goal.returns-in_ok-load_rest-in-Drop
returns-in_ok-load_rest-in-Drop c =
    let ls = c.lits-lits.result.now in
    let k = sym c.kind.ensures ∙ c.in-Drop.is in
    let f = subst (λ (x : Kind). IsStepForm x ls) k c.lits-lits.ensures.form in
    let w = c.lits-lits.ensures.whole ∙ ap (λ (x : Kind). step_of x ls) k ∙ first-dropped ls c.index-lits-0.result f c.index-lits-0.is in
    let t = rw (c.deref-in-Drop.ensures.value, c.in_ok-load_clause-in-Drop.ensures) at c.drop_literal.ensures c.args.settings.limits c.args.proof.now (sym c.number-number.ensures) in
    subst (λ (s : ProofStep). IsHintMade c.args.settings.limits c.args.book.now s c.args.proof.now c.drop_literal.new.book c.drop_literal.result) (sym w) t

pub returns-in-Remove : goal.returns-in-Remove
returns-in-Remove c =
    let ls = c.lits-lits.result.now in
    let k = sym c.kind.ensures ∙ c.in-Remove.is in
    let f = subst (λ (x : Kind). IsStepForm x ls) k c.lits-lits.ensures.form in
    let w = c.lits-lits.ensures.whole ∙ ap (λ (x : Kind). step_of x ls) k ∙ first-removed ls c.index-lits-0-in-Remove.result f.0 c.index-lits-0-in-Remove.is in
    let t = rw (c.var-in-Remove.ensures.value) at c.remove.ensures c.args.settings.limits in
    subst (λ (s : ProofStep). IsHintMade c.args.settings.limits c.args.book.now s c.args.proof.now c.remove.new.book c.remove.result) (sym w) t
