-- What is known of a literal whose variable has no value.
use Rattle.std.proofs.Common.{◌≡◌, ◌≤◌, Bool, true, cond, not, List, length, get_or, refl}
use Rattle.q_logic.specs.declared.formulas.Quant.{Quant}
use Rattle.q_logic.specs.declared.formulas.Quant.TheVariants.{Exists, Forall}
use Rattle.q_logic.specs.declared.formulas.Bound.{Bound}
use Rattle.q_logic.specs.declared.verdict.Standing.TheVariants.{Chosen, Free}
use Rattle.q_logic.specs.Prelude.{Literal, Prefix, nothing}
use Rattle.q_logic.specs.Prefixes.{is_exists, is_bound, place}
use Rattle.q_logic.specs.Decisions.{standing}
use Rattle.q_search.specs.Paths.{along, rest_of}
use Rattle.q_search.proofs.PathValues.{open-bound, open-universal, place-universal}
use Rattle.q_solve.specs.Places.{open_to}

pub standing-open : (P : Prefix) (vs : List Bool) (k : Literal) (d : Bound) → is_bound P k.var ≡ true → length vs ≤ place P k.var →
    open_to (get_or P (place P k.var) d).quant ≡ standing (rest_of P vs) (along P vs nothing) k
standing-open P vs k d h l =
    rw (open-bound P vs k.var l, h, open-universal P vs k.var l, place-universal P k.var d h) (go (get_or P (place P k.var) d).quant)
  where
    go : (q : Quant) → open_to q ≡ cond (not (is_exists q)) Free Chosen
    go Exists = refl
    go Forall = refl
