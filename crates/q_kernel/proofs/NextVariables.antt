-- What stands after a variable of a prefix is bound.
use Rattle.std.proofs.Common.{◌≡◌, ℕ, Bool, true, false, cond, eqb, [], ◌∷◌, slice_get, None, Some, ap, arith}
use Rattle.std.proofs.lemmas.Bool.Decides.{nat_tests}
use Rattle.q_logic.specs.declared.formulas.Bound.{Bound}
use Rattle.q_logic.specs.Prelude.{Prefix, is_bound}
use Rattle.q_prefix.specs.Order.{bound_after}

same-bound : (c b : Bound) → Some c ≡ Some b → c ≡ b
same-bound c b e = cc

first-bound : (P : Prefix) (b : Bound) → slice_get P 0 ≡ Some b → is_bound P b.var ≡ true
first-bound [] b e = absurd (let z : None ≡ Some b = e in cc)
first-bound (c ∷ P) b e = let v : c.var ≡ b.var = ap (λ (x : Bound). x.var) (same-bound c b e) in grind (arith, nat_tests)

pub after-bound : (P : Prefix) (v : ℕ) (b : Bound) → bound_after P v ≡ Some b → is_bound P b.var ≡ true
after-bound [] v b e = absurd (let z : None ≡ Some b = e in cc)
after-bound (c ∷ P) v b e = go (eqb c.var v) e (after-bound P v b)
  where
    behind : is_bound P b.var ≡ true → is_bound (c ∷ P) b.var ≡ true
    behind h = grind arith

    go : (t : Bool) → cond t (slice_get P 0) (bound_after P v) ≡ Some b → (bound_after P v ≡ Some b → is_bound P b.var ≡ true) → is_bound (c ∷ P) b.var ≡ true
    go true f h = behind (first-bound P b f)
    go false f h = behind (h f)
