-- A prefix that is turned bound by bound.
use Rattle.std.proofs.Common.{◌≡◌, ◌++◌, [], ◌∷◌, refl, ap}
use Rattle.q_logic.specs.declared.formulas.Bound.{Bound}
use Rattle.q_logic.specs.declared.formulas.Quant.TheVariants.{Exists}
use Rattle.q_logic.specs.Prelude.{Prefix}
use Rattle.q_logic.specs.Exchanging.{exchanged, exchanged_bound}
use Rattle.q_encode.specs.declared.side.Side.{Side}
use Rattle.q_encode.specs.declared.side.Side.TheVariants.{Skolem, Herbrand}
use Rattle.q_encode.specs.Sides.{turned, turned_bound}

-- a bound at no place
abbrev pub no_bound : Bound
no_bound = record { quant = Exists; var = 0 }

exchanged-last : (P : Prefix) (b : Bound) → exchanged (P ++ b ∷ []) ≡ exchanged P ++ exchanged_bound b ∷ []
exchanged-last [] b = refl
exchanged-last (a ∷ P) b = ap (λ (Q : Prefix). exchanged_bound a ∷ Q) (exchanged-last P b)

pub turned-last : (s : Side) (P : Prefix) (b : Bound) → turned s (P ++ b ∷ []) ≡ turned s P ++ turned_bound s b ∷ []
turned-last Skolem P b = refl
turned-last Herbrand P b = exchanged-last P b
