use Rattle.std.proofs.Common.{◌≡◌, ◌<◌, ◌+◌, ◌++◌, ◌∙◌, ℕ, Bool, false, Some, slice_get, take, length, refl, sym, subst, arith}
use Rattle.q_logic.specs.Prelude.{Clause, IsIn, others}
use Rattle.q_logic.proofs.Common.{IsIn-take}
use Rattle.q_kernel.specs.Prelude.{slots}
use Rattle.q_blocked.specs.Walks.{GivesNoneAt}
use Rattle.q_blocked.specs.Growths.{IsGrowing, HasSpread}
use Rattle.q_blocked.proofs.SetGrowth.{growing-worked, gives_none-less}
use Rattle.q_blocked.proofs.hidden.close_by_lists.Goals as goal

pub loop-growth-init : goal.loop-growth-init
loop-growth-init c = record { growing = c.requires; same = record { pairs = refl; rows = refl; ready = refl } }

pub loop-growth-preserved : goal.loop-growth-preserved
loop-growth-preserved c =
    let k = c.args.kernel.now in
    let old = c.loop-growth.growth in
    let new = c.spread_list.new.growth in
    let i = c.at-k.result in
    let X = others c.args.c (slots k) in
    let Q : Clause → Type 0 = λ E. IsIn E X × IsIn i E in
    let r : HasSpread k c.args.c Q old new false = subst (λ (b : Bool). HasSpread k c.args.c Q old new b) c.if-branch.false c.in_ok-spread_list.ensures in
    let e : new.set ≡ old.set ++ r.1.added = r.1.set in
    let w : new.worked ≡ old.worked = r.1.worked in
    let more : new.worked < length old.set = omega (arith, w, c.loop-growth-test.true, c.len.ensures) in
    let at' : slice_get old.set new.worked ≡ Some i = subst (λ (n : ℕ). slice_get old.set n ≡ Some i) (sym w) c.at-k.ensures in
    let s = c.loop-growth.invariant.same in
    let m = c.meet.ensures in
    record {
      same = record { pairs = m.pairs ∙ s.pairs; rows = m.rows ∙ s.rows; ready = m.ready ∙ s.ready };
      growing = (
        r.0.0,
        r.0.1,
        subst (λ (T : Clause). IsGrowing k.prefix X r.0.0 T new.plan.stages.items new.base (new.worked + 1)) (sym e)
            (growing-worked k.prefix X r.0.0 old.set r.1.added new.plan.stages.items new.base new.worked i more at'
            (λ E m. gives_none-less (take (new.worked + 1) old.set) old.set (old.set ++ r.1.added) E (λ j x. IsIn-take old.set (new.worked + 1) j x) (subst (λ (T : Clause). GivesNoneAt old.set T E) e (r.2 E m)))
            (subst (λ (T : Clause). IsGrowing k.prefix X r.0.0 T new.plan.stages.items new.base new.worked) e r.0.2)),
        r.0.3,
      );
    }
