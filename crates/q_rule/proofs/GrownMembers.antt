-- Members of a list and their places, while the list grows.
use Rattle.std.proofs.Common.{◌≡◌, List, ◌++◌, sym, subst}
use Rattle.q_logic.specs.Prelude.{IsIn}
use Rattle.q_logic.proofs.Common.{IsIn-append_left}

module _ {X : Type 0} where
  pub IsIn-grown : (old new added : List X) (k : X) → new ≡ old ++ added → IsIn k old → IsIn k new
  IsIn-grown old new added k e m = subst (λ (xs : List X). IsIn k xs) (sym e) (IsIn-append_left k old added m)
