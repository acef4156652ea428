use Rattle.std.proofs.Common.{◌≡◌, ◌∙◌, ap, sym, subst, true, List}
use Rattle.q_logic.specs.Prelude.{Prefix, PrenexFormula, Distinct, Lawful, trees_of, is_universal}
use Rattle.q_logic.specs.Exchanging.{exchanged}
use Rattle.q_logic.specs.Reversals.{Reversal}
use Rattle.q_logic.proofs.Exchanged.{exchanged-distinct}
use Rattle.q_certificate.specs.Narrowed.{IsNarrowed}
use Rattle.q_herbrand.specs.Drafted.{IsLawfulRun}
use Rattle.q_herbrand.specs.Refuted.{IsWide}
use Rattle.q_herbrand.specs.Trails.{HasMade}
use Rattle.q_herbrand.proofs.MadeSteps.{steps-universal}
use Rattle.q_herbrand.proofs.ZeroCircuits.{zeros-run, disproved}
use Rattle.q_herbrand.proofs.disproving.disprove.Goals as goal

pub zeros-requires-clause-distinct : goal.zeros-requires-clause-distinct
zeros-requires-clause-distinct c = subst Distinct (sym c.prefix-prefix.ensures.value) c.prefix-prefix.ensures.proper.formula.distinct

pub zeros-requires-clause-among : goal.zeros-requires-clause-among
zeros-requires-clause-among c u e =
    let h : HasMade c.args.input.now c.requires.0 c.args.trail = c.requires.1 in
    subst (λ (P : Prefix). is_universal P u ≡ true) (sym c.prefix-prefix.ensures.value)
    (steps-universal c.args.input.now c.requires.0 h.last c.prefix-prefix.ensures.proper.formula h.steps u
    (subst (λ (P : Prefix). is_universal P u ≡ true) (sym h.alike.prefix) e))

pub carry-requires-clause-run : goal.carry-requires-clause-run
carry-requires-clause-run c =
    subst (λ (rs : List Reversal). IsLawfulRun c.args.input.now rs c.in_ok-zeros.zeros) (sym c.finish-reversals.ensures.value)
    (zeros-run c.args.input.now c.requires.0 c.args.trail c.in_ok-zeros.zeros c.prefix-prefix.ensures.proper.formula c.requires.1
    c.in_ok-zeros.ensures c.requires.2)

pub narrow-requires : goal.narrow-requires
narrow-requires c =
    let e : c.deref-2.result.now ≡ exchanged c.args.input.now.prefix = c.deref-2.ensures.value ∙ c.in_ok-turned.ensures ∙
    ap exchanged c.prefix-prefix.ensures.value in
    record {
      distinct = subst Distinct (sym e) (exchanged-distinct c.args.input.now.prefix c.prefix-prefix.ensures.proper.formula.distinct);
    }

pub returns : goal.returns
returns c =
    let e : c.deref-2.result.now ≡ exchanged c.args.input.now.prefix = c.deref-2.ensures.value ∙ c.in_ok-turned.ensures ∙
    ap exchanged c.prefix-prefix.ensures.value in
    let wide : IsWide c.args.input.now c.args.trail.reversals c.in_ok-zeros.zeros c.in_ok-wide.wide =
    subst (λ (rs : List Reversal). IsWide c.args.input.now rs c.in_ok-zeros.zeros c.in_ok-wide.wide) c.finish-reversals.ensures.value
    c.in_ok-wide.ensures in
    let narrowed : IsNarrowed (exchanged c.args.input.now.prefix) c.in_ok-wide.wide c.in_ok-made.made =
    subst (λ (P : Prefix). IsNarrowed P c.in_ok-wide.wide c.in_ok-made.made) e
    (c.in_ok-made.ensures (subst (λ (P : Prefix). Lawful P (trees_of c.in_ok-wide.wide)) (sym e) wide.lawful)) in
    disproved c.args.input.now c.requires.0 c.args.trail c.in_ok-zeros.zeros c.prefix-prefix.ensures.proper.formula c.requires.1
    c.in_ok-zeros.ensures c.in_ok-wide.wide c.in_ok-made.made c.requires.2 wide narrowed
