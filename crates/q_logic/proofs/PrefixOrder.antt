-- The order of a prefix.
use Rattle.std.proofs.Common.{◌≡◌, ◌<◌, ◌≤◌, ℕ, true, false, [], ◌∷◌, inl, inr, arith, refl}
use Rattle.q_logic.specs.declared.formulas.Quant.{Quant}
use Rattle.q_logic.specs.declared.formulas.Quant.TheVariants.{Exists, Forall}
use Rattle.q_logic.specs.Prelude.{Prefix, is_existential, is_universal, is_bound, universal_before, run_to, outer_or_same, IsNext}
use Rattle.q_logic.specs.declared.formulas.Bound.{Bound}

pub existential-is_bound : (P : Prefix) (v : ℕ) → is_existential P v ≡ true → is_bound P v ≡ true
existential-is_bound [] v h = h
existential-is_bound (b ∷ P) v h = grind (arith, existential-is_bound P v)

run_to-universal : (P : Prefix) (a : ℕ) → run_to Exists P a ≡ true → is_universal P a ≡ true → ⊥
run_to-universal [] a r h = grind arith
run_to-universal (b ∷ P) a r h = grind (arith, run_to-universal P a)

run_to-before : (P : Prefix) (a u : ℕ) → run_to Exists P a ≡ true → universal_before P u a ≡ true → ⊥
run_to-before [] a u r h = grind arith
run_to-before (b ∷ P) a u r h = grind (arith, run_to-before P a u)

run_to-there : (q : Quant) (P : Prefix) (a : ℕ) → run_to q P a ≡ true → is_existential P a ≡ false →
    is_universal P a ≡ true
run_to-there q [] a r h = r
run_to-there q (b ∷ P) a r h = grind (arith, run_to-there q P a)

pub outer_or_same-is_bound : (P : Prefix) (a v : ℕ) → outer_or_same P a v ≡ true →
    is_existential P a ≡ false → is_universal P a ≡ true
outer_or_same-is_bound [] a v o h = o
outer_or_same-is_bound (b ∷ P) a v o h =
    grind (arith, outer_or_same-is_bound P a v, run_to-there b.quant P a)

-- A universal that is outer or same to an existential stands before it.
pub outer_universal-before : (P : Prefix) (a v : ℕ) → outer_or_same P a v ≡ true → is_universal P a ≡ true →
    is_existential P v ≡ true → universal_before P a v ≡ true
outer_universal-before [] a v o ha hv = o
outer_universal-before (b ∷ P) a v o ha hv =
    grind (arith, outer_universal-before P a v, run_to-universal P a, existential-is_bound P v)

-- What stands before an existential that is outer or same to another one, stands before that.
pub outer_existential-before : (P : Prefix) (a v u : ℕ) → outer_or_same P a v ≡ true →
    is_existential P a ≡ true → is_existential P v ≡ true → universal_before P u a ≡ true →
    universal_before P u v ≡ true
outer_existential-before [] a v u o ha hv hu = o
outer_existential-before (b ∷ P) a v u o ha hv hu =
    grind (arith, outer_existential-before P a v u, run_to-before P a u, existential-is_bound P v)

-- A universal u in place of the existential v.

run_to-existential : (P : Prefix) (a : ℕ) → run_to Forall P a ≡ true → is_existential P a ≡ true → ⊥
run_to-existential [] a r h = grind arith
run_to-existential (b ∷ P) a r h = grind (arith, run_to-existential P a)

run_to-reaches : (P : Prefix) (w x : ℕ) → run_to Forall P w ≡ true → is_existential P x ≡ true →
    universal_before P w x ≡ true
run_to-reaches [] w x r h = r
run_to-reaches (b ∷ P) w x r h = grind (arith, run_to-reaches P w x, existential-is_bound P x)

pub universal_before-bound_right : (P : Prefix) (u x : ℕ) → universal_before P u x ≡ true →
    is_bound P x ≡ true
universal_before-bound_right [] u x h = h
universal_before-bound_right (b ∷ P) u x h = grind (arith, universal_before-bound_right P u x)

-- An existential that is outer or same to the universal u has none of u before it.
pub outer_existential-free : (P : Prefix) (x u : ℕ) → outer_or_same P x u ≡ true →
    is_existential P x ≡ true → is_universal P u ≡ true → universal_before P u x ≡ false
outer_existential-free [] x u o hx hu = refl
outer_existential-free (b ∷ P) x u o hx hu =
    grind (arith, outer_existential-free P x u, run_to-existential P x)

pub before_outer_existential-before : (P : Prefix) (a u w x : ℕ) → outer_or_same P a u ≡ true →
    is_existential P a ≡ true → is_universal P u ≡ true → universal_before P w a ≡ true →
    universal_before P u x ≡ true → universal_before P w x ≡ true
before_outer_existential-before [] a u w x o ha hu hw hx = hx
before_outer_existential-before (b ∷ P) a u w x o ha hu hw hx =
    grind (
      arith,
      before_outer_existential-before P a u w x,
      run_to-existential P a,
      universal_before-bound_right P u x,
    )

pub outer_universal-before_inner : (P : Prefix) (w u x : ℕ) → outer_or_same P w u ≡ true →
    is_universal P w ≡ true → is_universal P u ≡ true → is_existential P x ≡ true →
    universal_before P u x ≡ true → universal_before P w x ≡ true
outer_universal-before_inner [] w u x o hw hu he hx = hx
outer_universal-before_inner (b ∷ P) w u x o hw hu he hx =
    grind (
      arith,
      outer_universal-before_inner P w u x,
      run_to-reaches P w x,
      universal_before-bound_right P u x,
      existential-is_bound P x,
    )

pub universal-not_existential : (P : Prefix) (x : ℕ) → is_universal P x ≡ true → is_existential P x ≡ false
universal-not_existential [] x h = refl
universal-not_existential (b ∷ P) x h = grind (arith, universal-not_existential P x)

-- What stands before v stands before what is inner to v.
pub inner-later : (P : Prefix) (u v x : ℕ) → outer_or_same P x v ≡ false → is_bound P x ≡ true →
    universal_before P u v ≡ true → universal_before P u x ≡ true
inner-later [] u v x o hb h = h
inner-later (b ∷ P) u v x o hb h = grind (arith, inner-later P u v x)

pub is_bound-universal : (P : Prefix) (x : ℕ) → is_bound P x ≡ true → is_existential P x ≡ false →
    is_universal P x ≡ true
is_bound-universal [] x h e = h
is_bound-universal (b ∷ P) x h e = grind (arith, is_bound-universal P x)

pub universal-is_bound : (P : Prefix) (v : ℕ) → is_universal P v ≡ true → is_bound P v ≡ true
universal-is_bound [] v h = h
universal-is_bound (b ∷ P) v h = grind (arith, universal-is_bound P v)

pub unbound-universal : (P : Prefix) (v : ℕ) → is_bound P v ≡ false → is_universal P v ≡ false
unbound-universal [] v h = refl
unbound-universal (b ∷ P) v h = grind (arith, unbound-universal P v)

-- The next bound of a prefix has no lower rank.
pub next-rises : (rank : ℕ → ℕ) (b c : Bound) → IsNext rank b c → rank b.var ≤ rank c.var
next-rises rank b c n = elim n [
  | inl e ↦ let x : rank b.var ≡ rank c.var = e.1 in omega arith
  | inr l ↦ let x : rank b.var < rank c.var = l.1 in omega arith
]
