use Rattle.std.proofs.Common.{◌≡◌, ◌∙◌, sym, subst}
use Rattle.q_logic.specs.Prelude.{IsBelow, Clause, ArePairs}
use Rattle.q_logic.proofs.Common.{clause_of-ordered}
use Rattle.q_miter.specs.Miters.{is_needless}
use Rattle.q_encode.proofs.MadeRows.{needless-is, needed-kept, needed-passed}
use Rattle.q_encode.proofs.needed.needed.Goals.{then-not-is_needless+in_ok-push, else-not-is_needless}
use Rattle.q_encode.proofs.needed.needed.Goals as goal

pub is_needless-requires-clause-ordered : goal.is_needless-requires-clause-ordered
is_needless-requires-clause-ordered c =
    subst (λ (D : Clause). ArePairs IsBelow D) (sym (c.deref.ensures.value ∙ c.sort_clause.ensures)) (clause_of-ordered c.translate.new.made.items)

pub loop-at-preserved : goal.loop-at-preserved
loop-at-preserved c =
    let r : c.is_needless.result ≡ is_needless c.args.top c.args.circuits.now c.clause-clause.result.now =
    needless-is c.args.top c.args.circuits.now c.aig.result.now c.clause-clause.result.now c.translate.new.made.items c.deref.result.now c.is_needless.result c.aig.ensures
    (c.in_ok-translate.ensures c.args.top c.args.circuits.now c.requires.lits) (c.deref.ensures.value ∙ c.sort_clause.ensures) c.is_needless.ensures in
    elim c.if-not-is_needless.branch [
      | then-not-is_needless+in_ok-push w ↦
          rw (w.kept-is) (needed-kept c.args.top c.args.circuits.now c.args.formula.now.matrix c.loop-at.kept w.push.new.self _ c.loop-at.at c.clause-clause.result.now
          c.clause-clause.ensures.value (sym r ∙ w.if-not-is_needless.true) w.in_ok-push.ensures.ok c.loop-at.invariant)
      | else-not-is_needless w ↦
          rw (w.kept-is) (needed-passed c.args.top c.args.circuits.now c.args.formula.now.matrix c.loop-at.kept _ c.loop-at.at c.clause-clause.result.now
          c.clause-clause.ensures.value (sym r ∙ w.if-not-is_needless.false) c.loop-at.invariant)
    ]
