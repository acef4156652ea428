-- How many numbers of a row are written.
use Rattle.std.specs.Prelude.{ℕ, Bool, true, false, ◌/◌, nat_lt, cond}
use Rattle.q_sparse.specs.declared.sparse.Filling.{Filling}
use Rattle.q_sparse.specs.declared.sparse.Filling.TheVariants.{Few, Most}

-- few, where the greatest is more than eight times their count
abbrev pub filling_of : ℕ → ℕ → Filling
filling_of count greatest = cond (nat_lt count (greatest / 8)) Few Most

abbrev pub is_most : Filling → Bool
is_most Few = false
is_most Most = true
