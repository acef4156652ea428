use Rattle.std.proofs.Common.{◌≡◌, ◌<◌, ◌∙◌, Some, None, refl, sym, subst, length, arith, true≢false}
use Rattle.q_logic.specs.Prelude.{Literal}
use Rattle.q_subsume.specs.Targets.{target_of}
use Rattle.q_subsume.specs.declared.target.Target.TheVariants.{Subsumed}
use Rattle.q_subsume.specs.Looks.{IsTurnedWithin}
use Rattle.q_subsume.specs.Searches.{IsBetween}
use Rattle.q_subsume.proofs.SubsumeSearch.{longer-none, missing-none}
use Rattle.q_rule.proofs.RuleSearch.{found-one, found-none}
use Rattle.q_subsume.proofs.find.between.Goals as goal

no_literal : (k : Literal) → None ≡ Some k → ⊥
no_literal k e = cc

pub returns-then-other-clause : goal.returns-then-other-clause
returns-then-other-clause c =
    let k = c.args.kernel.now in
    let h : length c.clause_of-other.result.now < length c.clause_of-clause.result.now = omega arith in
    found-none target_of k (IsBetween c.args.c c.args.d) (longer-none k c.args.c c.args.d c.clause_of-clause.result.now c.clause_of-other.result.now c.clause_of-clause.ensures.clause c.clause_of-other.ensures.clause c.clause_of-clause.ensures.ordered c.clause_of-other.ensures.ordered h)

pub returns-in_default : goal.returns-in_default
returns-in_default c = found-one target_of c.args.kernel.now (IsBetween c.args.c c.args.d) (Subsumed c.args.c c.args.d) (record { inner = refl; other = refl })
    (λ B. (c.clause_of-clause.result.now, c.clause_of-other.result.now, c.requires.apart, c.clause_of-clause.ensures.clause, c.clause_of-other.ensures.clause, (λ j m. c.first_missing.ensures.none c.in_default.is j m (no_literal j))))

pub returns : goal.returns
returns c =
    let k = c.args.kernel.now in
    let C = c.clause_of-clause.result.now in
    let D = c.clause_of-other.result.now in
    let r = c.first_missing.ensures.some c.in-Some.k c.in-Some.is in
    found-none target_of k (IsBetween c.args.c c.args.d) (missing-none k c.args.c c.args.d C D c.in-Some.k c.clause_of-clause.ensures.clause c.clause_of-other.ensures.clause r.0 r.2
    (λ w. true≢false (sym (c.is_turned_within.ensures.1 (subst (λ (l : Literal). IsTurnedWithin C D l) (sym c.negated-l.ensures) w)) ∙ c.if-is_turned_within.false)))
