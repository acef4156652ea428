use Rattle.std.proofs.Common.{◌≡◌, [], get_or, ap, ◌∙◌, arith}
use Rattle.q_logic.specs.declared.formulas.Quant.TheVariants.{Exists}
use Rattle.q_logic.specs.Prefixes.{place}
use Rattle.q_search.specs.PlaceTables.{place_in}
use Rattle.q_search.proofs.PathValues.{place-bound}
use Rattle.q_solve.specs.Places.{open_to}
use Rattle.q_solve.proofs.UnsetLiterals.{standing-open}
use Rattle.q_solve.proofs.places.first_standing.Goals as goal

pub bounds-prefix-place : goal.bounds-prefix-place
bounds-prefix-place c =
    let e : c.place-place.result ≡ place c.args.prefix.now c.args.lit.var = c.place-place.ensures ∙ ap (place_in c.args.places.now) c.var.ensures.value ∙ c.requires.places c.args.lit.var in
    omega (arith, place-bound c.args.prefix.now c.args.lit.var c.requires.bound)

pub offset_bounds-prefix-place : goal.offset_bounds-prefix-place
offset_bounds-prefix-place c =
    let e : c.place-place.result ≡ place c.args.prefix.now c.args.lit.var = c.place-place.ensures ∙ ap (place_in c.args.places.now) c.var.ensures.value ∙ c.requires.places c.args.lit.var in
    omega (arith, place-bound c.args.prefix.now c.args.lit.var c.requires.bound)

pub returns : goal.returns
returns c =
    let e : c.place-place.result ≡ place c.args.prefix.now c.args.lit.var = c.place-place.ensures ∙ ap (place_in c.args.places.now) c.var.ensures.value ∙ c.requires.places c.args.lit.var in
    c.open_to.ensures ∙ ap (λ i. open_to (get_or c.args.prefix.now i (record { quant = Exists; var = 0 })).quant) e
    ∙ standing-open c.args.prefix.now [] c.args.lit (record { quant = Exists; var = 0 }) c.requires.bound (omega arith)
