-- Items of a list.
use Rattle.std.proofs.Common.{ℕ, suc, List, take, drop, inl, inr}
use Rattle.std.specs.List.{remove}
use Rattle.q_logic.specs.Prelude.{IsIn}
use Rattle.q_logic.proofs.Common.{IsIn-append, IsIn-take, IsIn-drop}

pub remove-in : {X : Type 0} (xs : List X) (i : ℕ) (x : X) → IsIn x (remove xs i) → IsIn x xs
remove-in xs i x m = elim (IsIn-append x (take i xs) (drop (suc i) xs) m) [ inl a ↦ IsIn-take xs i x a | inr b ↦ IsIn-drop xs (suc i) x b ]
