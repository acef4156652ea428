use Rattle.std.proofs.Common.{refl, ◌≡◌, ◌+◌, Bool, true, false, cond, Some, slice_get, drop, ap, sym, ◌∙◌, subst}
use Rattle.q_logic.specs.Prelude.{Matrix}
use Rattle.q_logic.specs.Branches.{first_false, is_false}
use Rattle.q_validate.specs.Stands.{Spot, claim_at, clause_along, node_of}
use Rattle.q_validate.proofs.ClauseReads.{first-step}
use Rattle.q_validate.proofs.node.Node.first_false.Goals as goal

pub returns-then-is_false : goal.returns-then-is_false
returns-then-is_false c =
    let s = c.args.self.now in
    let m : c.self.inside.formula.now.matrix ≡ s.formula.matrix = ap (λ (t : Spot). t.formula.matrix) c.self.view_is in
    let g : slice_get s.formula.matrix c.loop-i.i ≡ Some c.clause-clause.result.now = subst (λ (X : Matrix). slice_get X c.loop-i.i ≡ Some c.clause-clause.result.now) m c.clause-clause.ensures.value in
    let r = first-step (claim_at s) (node_of s) s.formula.matrix c.loop-i.i c.clause-clause.result.now (clause_along (claim_at s) s.path c.clause-clause.result.now) g refl in
    let t : is_false (clause_along (claim_at s) s.path c.clause-clause.result.now) ≡ true = sym c.is_false.ensures ∙ c.if-is_false.true in
    sym (c.loop-i.invariant ∙ r ∙ ap (λ (b : Bool). cond b c.clause-clause.result.now (first_false (claim_at s) (node_of s) (drop (c.loop-i.i + 1) s.formula.matrix))) t)

pub loop-i-preserved : goal.loop-i-preserved
loop-i-preserved c =
    let s = c.args.self.now in
    let m : c.self.inside.formula.now.matrix ≡ s.formula.matrix = ap (λ (t : Spot). t.formula.matrix) c.self.view_is in
    let g : slice_get s.formula.matrix c.loop-i.i ≡ Some c.clause-clause.result.now = subst (λ (X : Matrix). slice_get X c.loop-i.i ≡ Some c.clause-clause.result.now) m c.clause-clause.ensures.value in
    let r = first-step (claim_at s) (node_of s) s.formula.matrix c.loop-i.i c.clause-clause.result.now (clause_along (claim_at s) s.path c.clause-clause.result.now) g refl in
    let t : is_false (clause_along (claim_at s) s.path c.clause-clause.result.now) ≡ false = sym c.is_false.ensures ∙ c.if-is_false.false in
    c.loop-i.invariant ∙ r ∙ ap (λ (b : Bool). cond b c.clause-clause.result.now (first_false (claim_at s) (node_of s) (drop (c.loop-i.i + 1) s.formula.matrix))) t
