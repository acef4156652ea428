use Rattle.std.proofs.Common.{◌++◌, Bool, List, ap, sym, ◌∙◌, subst}
use Rattle.std.proofs.lemmas.List.{append-nil}
use Rattle.q_logic.specs.Branches.{is_false}
use Rattle.q_validate.specs.Below.{verdict_of}
use Rattle.q_validate.specs.Lines.{Follows}
use Rattle.q_validate.specs.Stands.{Spot, claim_at, unset, values, clause_known, IsRow}
use Rattle.q_validate.proofs.ClauseValues.{clause-says}
use Rattle.q_validate.proofs.node.Node.is_false.Goals as goal

pub clause_known-known-requires : goal.clause_known-known-requires
clause_known-known-requires c =
    subst (λ (p : List Bool). IsRow Follows c.args.self.now.certificate p c.args.row.now)
    (sym (c.deref.ensures.value ∙ ap (λ (t : Spot). t.path) c.self.view_is)) c.requires

pub returns : goal.returns
returns c =
    let s = c.args.self.now in
    let q = claim_at s in
    let C = c.args.clause.now in
    let D : List Bool = c.deref.result.now in
    c.is_lost.ensures
    ∙ ap is_false
    (c.at.ensures (λ w. clause_known q (D ++ w) C) c.clause_known-known.ensures
    ∙ ap (λ (p : List Bool). verdict_of (clause_known q p C)) (append-nil D ∙ c.deref.ensures.value ∙ ap (λ (t : Spot). t.path) c.self.view_is)
    ∙ clause-says q (unset s.certificate.inputs s.path) (values s.certificate.inputs s.path) C)
