use Rattle.std.proofs.Common.{◌≡◌, true≢false, sym, subst, ap, ◌∙◌}
use Rattle.q_search.specs.declared.walking.Ending.{Ending}
use Rattle.q_search.specs.declared.walking.Ending.TheVariants.{AllWon, AllLost}
use Rattle.q_search.specs.Walks.{IsLostAt, IsEnding}
use Rattle.q_logic.specs.Branches.{claim_of}
use Rattle.q_validate.specs.Stands.{Spot, walk_of}
use Rattle.q_validate.proofs.KnownValues.{all-universal, counter-is}
use Rattle.q_validate.proofs.FalseClause.{counter-falsifies}
use Rattle.q_validate.proofs.validating.examine.Goals as goal

pub find_lost-requires-clause-universal : goal.find_lost-requires-clause-universal
find_lost-requires-clause-universal c = all-universal c.in_ok-node.node.certificate.inputs

pub returns-in-AllWon : goal.returns-in-AllWon
returns-in-AllWon c =
    let e = c.in_ok-find_lost.ensures.ending in
    let x = subst (λ (m : Ending). IsLostAt (walk_of c.in_ok-node.node) (walk_of c.find_lost.new.node) c.args.budget m) c.in-AllWon.is e in
    let y = subst (λ (s : Spot). IsEnding (walk_of s) c.args.budget AllWon) c.in_ok-node.ensures x in
    (y.0, (c.valid_is_skolem.ensures (claim_of c.args.formula.now c.args.certificate.now) c.requires.lawful c.requires.fed).0 y.1)

pub returns-in-AllLost : goal.returns-in-AllLost
returns-in-AllLost c =
    let F = c.args.formula.now in
    let C = c.args.certificate.now in
    let new = c.find_lost.new.node in
    let e = c.in_ok-find_lost.ensures.ending in
    let k = c.in_ok-find_lost.ensures.kept in
    let x = subst (λ (m : Ending). IsLostAt (walk_of c.in_ok-node.node) (walk_of new) c.args.budget m) c.in-AllLost.is e in
    let y = subst (λ (s : Spot). IsLostAt (walk_of s) (walk_of new) c.args.budget AllLost) c.in_ok-node.ensures x in
    let f : new.formula ≡ F = k.formula ∙ ap (λ (s : Spot). s.formula) c.in_ok-node.ensures in
    let d : new.certificate ≡ C = k.certificate ∙ ap (λ (s : Spot). s.certificate) c.in_ok-node.ensures in
    let lits = c.in_ok-lits-in-AllLost.lits in
    let told = counter-is F C new lits f d y.0.1 y.1 c.in_ok-lits-in-AllLost.ensures in (
      y.0.0,
      λ h. true≢false (sym ((c.valid_is_skolem.ensures (claim_of F C) c.requires.lawful c.requires.fed).1 h) ∙ y.0.1),
      told,
      counter-falsifies F C lits c.prefix.ensures.proper.formula c.requires.lawful y.0.1 told
          (c.counters_falsify.ensures (claim_of F C) c.requires.lawful c.requires.fed y.0.1),
    )
