use Rattle.std.proofs.Common.{◌≡◌, ◌++◌, ◌+◌, List, Bool, Option, Some, slice_get, take, ap, sym, subst}
use Rattle.std.proofs.lemmas.Option.{get_or_from_slice_get, slice_get_within}
use Rattle.q_logic.specs.Prelude.{Matrix}
use Rattle.q_logic.specs.Branches.{known_both}
use Rattle.q_validate.specs.Below.{known_clauses}
use Rattle.q_validate.specs.Stands.{Spot, claim_at, unset, values, clause_known}
use Rattle.q_validate.proofs.ClauseValues.{clauses-more}
use Rattle.q_validate.proofs.node.Node.formula_known.Goals as goal

pub loop-i-preserved : goal.loop-i-preserved
loop-i-preserved g c =
    let s = c.args.self.now in
    let q = claim_at s in
    let us = s.certificate.inputs in
    let p = c.args.path.now in
    let X = s.formula.matrix in
    let i = c.loop-i.i in
    let C = c.clause.result.now in
    let r : c.self.inside.formula.now.matrix ≡ X = ap (λ (t : Spot). t.formula.matrix) c.self.view_is in
    let e : slice_get X i ≡ Some C = subst (λ (Y : Matrix). slice_get Y i ≡ Some C) r c.clause.ensures.value in
    let f : List Bool → Option Bool = λ w. known_clauses q (unset us (p ++ w)) (values us (p ++ w)) (take i X) in
    g.met.T.Below.says_same c.and-all.result (λ w. known_both (f w) (clause_known q (p ++ w) C))
    (λ w. known_clauses q (unset us (p ++ w)) (values us (p ++ w)) (take (i + 1) X))
    (c.and-all.ensures f (λ w. clause_known q (p ++ w) C) c.loop-i.invariant c.clause_known.ensures)
    (λ w. clauses-more q (unset us (p ++ w)) (values us (p ++ w)) X i C (slice_get_within X i C e) (sym (get_or_from_slice_get X i C C e)))
