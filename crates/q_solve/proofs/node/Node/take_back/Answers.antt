use Rattle.std.proofs.Common.{◌≡◌, ◌<◌, Bool, List, [], ◌∷◌, suc, length, length-append, get_or, drop, ap, subst, refl, arith}
use Rattle.q_logic.specs.declared.formulas.Bound.{Bound}
use Rattle.q_logic.specs.declared.formulas.Quant.TheVariants.{Exists}
use Rattle.q_logic.specs.Prelude.{with_value, nothing}
use Rattle.q_logic.specs.Decisions.{standing}
use Rattle.q_search.specs.Paths.{along}
use Rattle.q_search.proofs.PathValues.{last-bound}
use Rattle.q_solve.specs.Counting.{AreCounts}
use Rattle.q_solve.specs.declared.places.Known.{Known}
use Rattle.q_solve.specs.Places.{Spot, IsLast}
use Rattle.q_solve.specs.Counted.{turned, IsCounted}
use Rattle.q_solve.proofs.ValueChanges.{at-value, counted-taken}
use Rattle.q_solve.proofs.node.Node.take_back.Goals as goal

pub change-requires : goal.change-requires
change-requires c =
    let F = c.self.inside.formula.now in
    let vs = c.pop.new.self.items in
    let i = c.in_ok-value.ensures.items in
    let d : Bound = record { quant = Exists; var = 0 } in
    let b : Bound = get_or c.prefix.result.now c.len-place.result d in
    let n : c.len-place.result ≡ length vs = omega (arith, c.len-place.ensures, c.pop.new.self.ok.0) in
    let l : length vs < length F.prefix = omega (arith, c.self.invariant.within, ap length i, length-append vs (c.in_ok-value.value ∷ [])) in
    let u = last-bound F.prefix c.prefix.result.now vs c.len-place.result d c.prefix.ensures.value n l in
    at-value F c.self.inside.sides vs c.in_ok-value.value b (drop (suc (length vs)) F.prefix) c.prefix.ensures.proper.formula.distinct u c.self.inside.counts c.len-place.result n c.known_value-given.result c.known_value-given.ensures
    (subst (λ (ps : List Bool). IsCounted F c.self.inside.sides c.self.inside.counts ps) i c.self.invariant)

pub invariant_of-self-2 : goal.invariant_of-self-2
invariant_of-self-2 c =
    let F = c.self.inside.formula.now in
    let vs = c.pop.new.self.items in
    let i = c.in_ok-value.ensures.items in
    let d : Bound = record { quant = Exists; var = 0 } in
    let b : Bound = get_or c.prefix.result.now c.len-place.result d in
    let R = drop (suc (length vs)) F.prefix in
    let v = c.in_ok-value.value in
    let n : c.len-place.result ≡ length vs = omega (arith, c.len-place.ensures, c.pop.new.self.ok.0) in
    let l : length vs < length F.prefix = omega (arith, c.self.invariant.within, ap length i, length-append vs (c.in_ok-value.value ∷ [])) in
    let u = last-bound F.prefix c.prefix.result.now vs c.len-place.result d c.prefix.ensures.value n l in
    let h = subst (λ (ps : List Bool). IsCounted F c.self.inside.sides c.self.inside.counts ps) i c.self.invariant in
    let t = at-value F c.self.inside.sides vs v b R c.prefix.ensures.proper.formula.distinct u c.self.inside.counts c.len-place.result n c.known_value-given.result c.known_value-given.ensures h in
    let k = subst (λ (q : Known). AreCounts F.matrix (turned b.var q (standing R (with_value (along F.prefix vs nothing) b.var v))) c.change.new.counts) c.known_open-open.ensures (c.change.ensures t) in
    counted-taken F c.self.inside.sides vs v b R c.prefix.ensures.proper.formula.distinct u c.self.inside.counts c.len-place.result n h (omega (arith, l)) c.change.new.counts k

pub returns : goal.returns
returns c =
    let d : Bound = record { quant = Exists; var = 0 } in
    let b : Bound = get_or c.prefix.result.now c.len-place.result d in
    let P = c.self.inside.formula.now.prefix in
    let vs = c.pop.new.self.items in
    let i = c.in_ok-value.ensures.items in
    subst (λ (s : Spot). IsLast s (record { formula = c.self.inside.formula.now; path = vs }) (record { bound = b; depth = c.len-depth.result; value = c.in_ok-value.value })) c.self.view_is (record {
      formula = refl;
      path = i;
      depth = omega (arith, c.len-depth.ensures, c.self.inside.path.ok.0);
      rest = drop (suc (length vs)) P;
      unset = last-bound P c.prefix.result.now vs c.len-place.result d c.prefix.ensures.value (omega (arith, c.len-place.ensures, c.pop.new.self.ok.0)) (omega (arith, c.self.invariant.within, ap length i, length-append vs (c.in_ok-value.value ∷ [])));
    })
