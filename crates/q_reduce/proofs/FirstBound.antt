-- The first variable of a prefix is in it.
use Rattle.std.proofs.Common.{◌≡◌, true, [], ◌∷◌, Some, None, slice_get, sym, subst}
use Rattle.q_logic.specs.declared.formulas.Bound.{Bound}
use Rattle.q_logic.specs.Prelude.{Prefix, is_bound}
use Rattle.std.proofs.lemmas.Option.{same_Some}
use Rattle.q_kernel.proofs.PrefixWalks.{bound-in}

pub first-bound : (P : Prefix) (b : Bound) → slice_get P 0 ≡ Some b → is_bound P b.var ≡ true
first-bound [] b e = absurd (let z : None ≡ Some b = e in cc)
first-bound (c ∷ P) b e = subst (λ (x : Bound). is_bound (x ∷ P) b.var ≡ true) (sym (same_Some c b e)) (bound-in [] P b)
