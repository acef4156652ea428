use Rattle.std.proofs.Common.{◌∙◌, sym, ap, subst}
use Rattle.q_logic.specs.declared.steps.Kind.{Kind}
use Rattle.q_logic.specs.Prelude.{step_of, first_of, ProofStep}
use Rattle.q_check.specs.Replays.{IsDeletionNamed}
use Rattle.q_check.proofs.annotator.name_deleted.Goals as goal

pub returns : goal.returns
returns c m =
    let ls = c.lits.result.now in
    let w = c.lits.ensures.whole ∙ ap (λ (k : Kind). step_of k ls) c.requires in
    let t = rw (c.deref.ensures.value, c.in_ok-load_clause.ensures) at c.delete_named.ensures m (first_of ls) in
    subst (λ (s : ProofStep). IsDeletionNamed m c.args.book.now s c.delete_named.new.book c.delete_named.result) (sym w) t
