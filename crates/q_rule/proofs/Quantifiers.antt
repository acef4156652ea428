-- The quantifier of a variable tells whether it is existential or universal.
use Rattle.std.proofs.Common.{◌≡◌, ℕ, Bool, true, false, cond, not, eqb, [], ◌∷◌, Some, refl}
use Rattle.q_logic.specs.declared.formulas.Quant.{Quant}
use Rattle.q_logic.specs.declared.formulas.Quant.TheVariants.{Exists, Forall}
use Rattle.q_logic.specs.Prelude.{Prefix, is_existential, is_universal, is_exists}
use Rattle.q_prefix.specs.Order.{quant_of}
use Rattle.q_rule.specs.Quants.{is_some_exists, is_some_forall}

existential : (q : Quant) → is_some_exists (Some q) ≡ is_exists q
existential Exists = refl
existential Forall = refl

universal : (q : Quant) → is_some_forall (Some q) ≡ not (is_exists q)
universal Exists = refl
universal Forall = refl

pub existential-told : (P : Prefix) (v : ℕ) → is_some_exists (quant_of P v) ≡ is_existential P v
existential-told [] v = refl
existential-told (b ∷ P) v = go (eqb b.var v) (existential-told P v)
  where
    go : (t : Bool) → is_some_exists (quant_of P v) ≡ is_existential P v → is_some_exists (cond t (Some b.quant) (quant_of P v)) ≡ cond t (is_exists b.quant) (is_existential P v)
    go true h = existential b.quant
    go false h = h

pub universal-told : (P : Prefix) (v : ℕ) → is_some_forall (quant_of P v) ≡ is_universal P v
universal-told [] v = refl
universal-told (b ∷ P) v = go (eqb b.var v) (universal-told P v)
  where
    go : (t : Bool) → is_some_forall (quant_of P v) ≡ is_universal P v → is_some_forall (cond t (Some b.quant) (quant_of P v)) ≡ cond t (not (is_exists b.quant)) (is_universal P v)
    go true h = universal b.quant
    go false h = h
