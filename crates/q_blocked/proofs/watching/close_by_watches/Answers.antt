use Rattle.std.proofs.Common.{◌≡◌, ◌<◌, ◌+◌, ◌++◌, ◌∙◌, ℕ, Bool, true, false, ◌∷◌, Some, slice_get, take, length, refl, sym, ap, subst, arith}
use Rattle.std.proofs.lemmas.List.{take-append-le}
use Rattle.q_logic.specs.Prelude.{Clause, IsIn, IsSubset, others}
use Rattle.q_logic.proofs.Common.{IsIn-take, IsIn-append_left, taken-last}
use Rattle.q_kernel.specs.Prelude.{slots}
use Rattle.q_watch.specs.Watches.{IsQuietUpTo}
use Rattle.q_watch.proofs.QuietClauses.{quiet-more}
use Rattle.q_blocked.specs.Walks.{GivesNoneAt}
use Rattle.q_blocked.specs.Growths.{IsGrowing}
use Rattle.q_blocked.specs.Following.{HasVisited}
use Rattle.q_blocked.proofs.ListFronts.{place-get}
use Rattle.q_blocked.proofs.SetGrowth.{growing-worked}
use Rattle.q_blocked.proofs.WatchedSets.{quiet-gives_none, next-taken}
use Rattle.q_blocked.proofs.watching.close_by_watches.Goals as goal

pub loop-growth-init : goal.loop-growth-init
loop-growth-init c = record { growing = c.requires.growing; right = c.requires.right; ready = refl; quiet = c.requires.quiet }

pub loop-growth-preserved : goal.loop-growth-preserved
loop-growth-preserved c =
    let k = c.args.kernel.now in
    let old = c.loop-growth.growth in
    let new = c.spread_watched.new.growth in
    let w = c.spread_watched.new.watches in
    let i = c.at-k.result in
    let X = others c.args.c (slots k) in
    let r : HasVisited k c.args.c i old w new false = subst (λ (b : Bool). HasVisited k c.args.c i old w new b) c.if-branch.false c.in_ok-spread_watched.ensures.visited in
    let e : new.set ≡ old.set ++ r.1.added = r.1.set in
    let n : new.worked ≡ old.worked = r.1.worked in
    let far : old.worked < length old.set = omega (arith, c.loop-growth-test.true, c.len.ensures) in
    let more : new.worked < length old.set = omega (arith, n, far) in
    let at' : slice_get old.set new.worked ≡ Some i = subst (λ (m : ℕ). slice_get old.set m ≡ Some i) (sym n) c.at-k.ensures in
    let H : Clause = take (new.worked + 1) old.set in
    let in' : IsSubset H new.set = λ j m. subst (λ (S : Clause). IsIn j S) (sym e) (IsIn-append_left j old.set r.1.added (IsIn-take old.set (new.worked + 1) j m)) in
    let quiet : IsQuietUpTo k w c.args.c new.set H = quiet-more k w c.args.c new.set new.set (i ∷ take old.worked old.set) H (λ j m. m)
    (λ j m. next-taken old.set old.worked i far c.at-k.ensures j (subst (λ (x : ℕ). IsIn j (take (x + 1) old.set)) n m)) r.2 in
    let same : take (new.worked + 1) new.set ≡ H = ap (λ (S : Clause). take (new.worked + 1) S) e ∙ take-append-le (new.worked + 1) old.set r.1.added (omega (arith, more)) in
    record {
      growing = (
        r.0.0,
        r.0.1,
        subst (λ (T : Clause). IsGrowing k.prefix X r.0.0 T new.plan.stages.items new.base (new.worked + 1)) (sym e)
            (growing-worked k.prefix X r.0.0 old.set r.1.added new.plan.stages.items new.base new.worked i more at'
            (λ E m. subst (λ (T : Clause). GivesNoneAt H T E) e (quiet-gives_none k w c.args.c new.set H c.spread_watched.ensures.right r.0.2.consistent in' quiet E m.0 i (taken-last old.set new.worked i more (place-get old.set new.worked i at')) m.1))
            (subst (λ (T : Clause). IsGrowing k.prefix X r.0.0 T new.plan.stages.items new.base new.worked) e r.0.2)),
        r.0.3,
      );
      right = c.spread_watched.ensures.right;
      ready = c.spread_watched.ensures.ready ∙ c.loop-growth.invariant.ready;
      quiet = subst (λ (G : Clause). IsQuietUpTo k w c.args.c new.set G) (sym same) quiet;
    }
