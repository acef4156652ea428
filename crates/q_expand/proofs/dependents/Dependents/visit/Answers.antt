use Rattle.std.proofs.Common.{ℕ, List, Contains, sym, subst, inl, inr}
use Rattle.q_logic.proofs.Common.{live-slot}
use Rattle.q_kernel.specs.Lists.{Has}
use Rattle.q_kernel.specs.Prelude.{slots, HoldsLiteral}
use Rattle.q_kernel.proofs.DistinctMembers.{Contains-none, Contains-last}
use Rattle.q_kernel.proofs.ForLoops.{holder-turn, all-came}
use Rattle.q_expand.specs.Dependents.{IsMet}
use Rattle.q_expand.proofs.ConnectedWalks.{larger-itself, larger-through}
use Rattle.q_expand.proofs.ExpansionBounds.{dependents-refused}
use Rattle.q_expand.proofs.dependents.Dependents.visit.Goals as goal

pub loop-c-init : goal.loop-c-init
loop-c-init c = record {
  met = λ d h. absurd (Contains-none d h);
  dependents = c.requires.dependents;
  within = c.requires.within;
  larger = larger-itself c.args.self.now;
}

pub meet-requires-clause-live : goal.meet-requires-clause-live
meet-requires-clause-live c =
    let held : HoldsLiteral c.args.kernel.now c.in-Some.c c.args.lit = holder-turn _ _ _ c.holders-c-items.ensures.hold c.into_iter-c-iterator.ensures.into_iter_gives c.loop-c.yielded_by c.in-Some.ensures.steps in
    (held.0, held.1, (c.args.lit, held.2, c.requires.linked))

pub returns-then-not-branch-clause-refused : goal.returns-then-not-branch-clause-refused
returns-then-not-branch-clause-refused c t x =
    let b = c.in_ok-meet.ensures.both c.if-not-branch.true in
    x.no_tautology b.0 (live-slot (slots c.args.kernel.now) c.in-Some.c b.0 b.1) b.2 b.3

pub returns-then-not-fits-clause-refused : goal.returns-then-not-fits-clause-refused
returns-then-not-fits-clause-refused c t =
    let m = c.in_ok-meet.ensures.met c.if-not-branch.false in
    dependents-refused c.args.kernel.now c.args.u.var c.meet.new.self m.dependents c.args.room c.sound.ensures.proper.formula.distinct c.requires.room_for (c.fits.ensures.no c.if-not-fits.true)

pub loop-c-preserved : goal.loop-c-preserved
loop-c-preserved c =
    let m : IsMet c.args.kernel.now c.args.u.var c.in-Some.c c.loop-c.self c.meet.new.self = c.in_ok-meet.ensures.met c.if-not-branch.false in
    record {
      met = λ d h. elim (Contains-last c.loop-c.yielded c.in-Some.c d h) [
        | inl a ↦ m.larger.met d (c.loop-c.invariant.met d a)
        | inr e ↦ subst (λ (x : ℕ). Has c.meet.new.self.met x) (sym e) m.there
      ];
      dependents = m.dependents;
      within = c.fits.ensures.yes c.if-not-fits.false;
      larger = larger-through c.args.self.now c.loop-c.self c.meet.new.self c.loop-c.invariant.larger m.larger;
    }

pub returns-clause-met : goal.returns-clause-met
returns-clause-met c t =
    let came = all-came _ c.into_iter-c-iterator.ensures.into_iter_gives c.loop-c.yielded_by c.in-None.ensures.steps.0 in
    record {
      dependents = c.loop-c.invariant.dependents;
      larger = c.loop-c.invariant.larger;
      within = c.loop-c.invariant.within;
      met = λ d C e m. c.loop-c.invariant.met d (subst (λ (xs : List ℕ). Contains xs d) (sym came) (c.holders-c-items.ensures.all d (C, e, m)));
    }
