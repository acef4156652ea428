use Rattle.std.proofs.Common.{◌≡◌, ℕ, Bool, ◌++◌, ◌∷◌, [], cond, ◌&&◌, eqb, ap, ◌∙◌, arith}
use Rattle.q_logic.specs.Prelude.{bool_eq}
use Rattle.q_logic.specs.Prefixes.{place}
use Rattle.q_logic.proofs.Common.{item-in}
use Rattle.q_search.specs.PlaceTables.{place_in}
use Rattle.q_search.proofs.PathValues.{place-bound}
use Rattle.q_solve.specs.Counting.{row_at}
use Rattle.q_solve.specs.Counted.{side}
use Rattle.q_solve.proofs.EnteredClauses.{enter-step, IsPushed}
use Rattle.q_solve.proofs.loading.enter.Goals as goal

pub enter-requires : goal.enter-requires
enter-requires c =
    let x = c.lit-item.result in
    let b = c.requires.within x (item-in c.args.clause.now c.loop-lit.lit-index x c.loop-lit-test.true c.lit-item.is) in
    let e : c.place-place.result ≡ place c.args.prefix.now x.var = c.place-place.ensures ∙ ap (place_in c.args.places.now) c.var.ensures.value ∙ c.requires.places x.var in
    omega (arith, place-bound c.args.prefix.now x.var b)

pub loop-lit-preserved : goal.loop-lit-preserved
loop-lit-preserved c =
    let x = c.lit-item.result in
    let b = c.requires.within x (item-in c.args.clause.now c.loop-lit.lit-index x c.loop-lit-test.true c.lit-item.is) in
    let e : c.place-place.result ≡ place c.args.prefix.now x.var = c.place-place.ensures ∙ ap (place_in c.args.places.now) c.var.ensures.value ∙ c.requires.places x.var in
    let p : IsPushed c.args.prefix.now c.loop-lit.sides c.enter.new.self x c.args.at =
    λ n m.
    c.in_ok-enter.ensures n m
    ∙ ap (λ (v : Bool). cond (bool_eq n v && eqb m c.place-place.result) (row_at (side c.loop-lit.sides n) m ++ c.args.at ∷ []) (row_at (side c.loop-lit.sides n) m)) c.negative.ensures
    ∙ ap (λ (v : ℕ). cond (bool_eq n x.negative && eqb m v) (row_at (side c.loop-lit.sides n) m ++ c.args.at ∷ []) (row_at (side c.loop-lit.sides n) m)) e in
    λ k d i. enter-step c.args.prefix.now c.args.clause.now c.loop-lit.lit-index x c.args.at c.loop-lit.sides c.enter.new.self k i b d c.loop-lit-test.true c.lit-item.is p ∙ c.loop-lit.invariant k d i
