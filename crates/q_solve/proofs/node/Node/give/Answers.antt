use Rattle.std.proofs.Common.{◌≡◌, ◌<◌, Bool, List, [], ◌∷◌, suc, length, length-append, get_or, drop, sym, subst, arith}
use Rattle.q_logic.specs.declared.formulas.Bound.{Bound}
use Rattle.q_logic.specs.declared.formulas.Quant.TheVariants.{Exists}
use Rattle.q_logic.specs.Decisions.{standing}
use Rattle.q_logic.specs.Prelude.{nothing}
use Rattle.q_search.specs.Paths.{along}
use Rattle.q_search.proofs.PathValues.{last-bound}
use Rattle.q_solve.specs.Counting.{AreCounts}
use Rattle.q_solve.specs.declared.places.Known.{Known}
use Rattle.q_solve.specs.Places.{Spot}
use Rattle.q_solve.specs.Counted.{turned, IsCounted}
use Rattle.q_solve.proofs.ValueChanges.{at-open, counted-given}
use Rattle.q_solve.proofs.node.Node.give.Goals as goal

pub change-requires : goal.change-requires
change-requires c =
    let F = c.self.inside.formula.now in
    let vs = c.self.inside.path.items in
    let d : Bound = record { quant = Exists; var = 0 } in
    let b : Bound = get_or c.prefix.result.now c.len-place.result d in
    let n : c.len-place.result ≡ length vs = omega (arith, c.len-place.ensures, c.self.inside.path.ok.0) in
    let l : length vs < length F.prefix = subst (λ (s : Spot). length s.path < length s.formula.prefix) (sym c.self.view_is) c.requires in
    let u = last-bound F.prefix c.prefix.result.now vs c.len-place.result d c.prefix.ensures.value n l in
    at-open F c.self.inside.sides vs c.args.value b (drop (suc (length vs)) F.prefix) c.prefix.ensures.proper.formula.distinct u c.self.inside.counts c.len-place.result n c.known_open-open.result c.known_open-open.ensures c.self.invariant

pub invariant_of-self-2 : goal.invariant_of-self-2
invariant_of-self-2 c =
    let F = c.self.inside.formula.now in
    let vs = c.self.inside.path.items in
    let d : Bound = record { quant = Exists; var = 0 } in
    let b : Bound = get_or c.prefix.result.now c.len-place.result d in
    let R = drop (suc (length vs)) F.prefix in
    let n : c.len-place.result ≡ length vs = omega (arith, c.len-place.ensures, c.self.inside.path.ok.0) in
    let l : length vs < length F.prefix = subst (λ (s : Spot). length s.path < length s.formula.prefix) (sym c.self.view_is) c.requires in
    let u = last-bound F.prefix c.prefix.result.now vs c.len-place.result d c.prefix.ensures.value n l in
    let t = at-open F c.self.inside.sides vs c.args.value b R c.prefix.ensures.proper.formula.distinct u c.self.inside.counts c.len-place.result n c.known_open-open.result c.known_open-open.ensures c.self.invariant in
    let k = subst (λ (q : Known). AreCounts F.matrix (turned b.var q (standing (b ∷ R) (along F.prefix vs nothing))) c.change.new.counts) c.known_value-given.ensures (c.change.ensures t) in
    subst (λ (ps : List Bool). IsCounted F c.self.inside.sides c.change.new.counts ps) (sym c.in_ok-push.ensures.items)
    (counted-given F c.self.inside.sides vs c.args.value b R c.prefix.ensures.proper.formula.distinct u c.self.inside.counts c.len-place.result n c.self.invariant (omega (arith, length-append vs (c.args.value ∷ []))) c.change.new.counts k)
