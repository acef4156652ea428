-- What is inner to a variable: how that nests, and that it stays where variables come and go.
use Rattle.std.proofs.Common.{◌≡◌, ◌⊎◌, ◌≤◌, ℕ, Bool, true, false, eqb, [], ◌∷◌, refl, sym, ◌∙◌, ap, inl, inr, arith, true≢false}
use Rattle.q_logic.specs.declared.formulas.Quant.{Quant}
use Rattle.q_logic.specs.Prelude.{Prefix, inner_existential, insert_after, removed_from}
use Rattle.q_logic.specs.Prefixes.{place, OuterOrSame, Distinct, is_bound, is_existential, is_universal, run_to, outer_or_same}
use Rattle.q_logic.proofs.PrefixPlaces.{outer_or_same-places, places-outer_or_same}
use Rattle.q_logic.proofs.MergeRun.{outer_or_same-is_bound}
use Rattle.q_logic.proofs.Common.{inner-parts, inner_of, insert-is_existential, removed-is_existential, removed-unbound, unbound-universal, insert-is_universal, removed-is_universal}
use Rattle.q_logic.proofs.ExpandPrefix.{insert-outer}
use Rattle.q_logic.proofs.Prefixes.{inserted-not_universal}

below_or_not : (a b : ℕ) → (a ≤ b) ⊎ (b ≤ a)
below_or_not a b = grind arith

-- the order goes through, by places
places-through : (P : Prefix) (a w u : ℕ) → OuterOrSame P a w → OuterOrSame P w u → OuterOrSame P a u
places-through P a w u (inl h) (inl k) = inl (omega arith)
places-through P a w u (inl h) (inr f) = inr (λ i l m. f i l (omega arith))
places-through P a w u (inr g) (inl k) = elim (below_or_not (place P a) (place P u)) [
  | inl h ↦ inl h
  | inr h ↦ inr (λ i l m. g i (omega arith) m ∙ sym (g (place P u) k h))
]
places-through P a w u (inr g) (inr f) = elim (below_or_not (place P u) (place P w)) [
  | inl h ↦ inr (λ i l m. elim (below_or_not i (place P w)) [ inl n ↦ f i l n | inr n ↦ g i n m ∙ f (place P w) h (omega arith) ])
  | inr h ↦ elim (below_or_not (place P a) (place P u)) [
    | inl k ↦ inl k
    | inr k ↦ inr (λ i l m. g i (omega arith) m ∙ sym (g (place P u) h k))
  ]
]

through : (P : Prefix) (a w u : ℕ) → is_bound P w ≡ true → is_bound P u ≡ true → outer_or_same P a w ≡ true → outer_or_same P w u ≡ true → outer_or_same P a u ≡ true
through P a w u b d o r = places-outer_or_same P a u (outer_or_same-is_bound P a w o) d (places-through P a w u (outer_or_same-places P a w o) (outer_or_same-places P w u r))

-- what is inner in one order, and not outer in another
inner-less : (P Q : Prefix) (w u v : ℕ) → is_existential P v ≡ is_existential Q v → (outer_or_same Q v u ≡ true → outer_or_same P v w ≡ true) → inner_existential P w v ≡ true → inner_existential Q u v ≡ true
inner-less P Q w u v e f h = let p = inner-parts P w v h in inner_of Q u v (sym e ∙ p.0) (go (outer_or_same Q v u) refl p.1)
  where
    go : (b : Bool) → outer_or_same Q v u ≡ b → outer_or_same P v w ≡ false → b ≡ false
    go true q n = absurd (true≢false (sym (f q) ∙ n))
    go false q n = refl

-- what is inner to u is inner to what is outer or same to u
pub inner-nested : (P : Prefix) (w u v : ℕ) → is_bound P w ≡ true → is_bound P u ≡ true → outer_or_same P w u ≡ true → inner_existential P u v ≡ true → inner_existential P w v ≡ true
inner-nested P w u v b d o h = inner-less P P u w v refl (λ r. through P v w u b d r o) h

-- a variable that comes behind another one
module _ (w v : ℕ) (P : Prefix) (e : is_existential P w ≡ true) where
  pub inserted-inner : (x k : ℕ) → eqb x v ≡ false → eqb k v ≡ false → inner_existential (insert_after w v P) x k ≡ true → inner_existential P x k ≡ true
  inserted-inner x k n m h = inner-less (insert_after w v P) P x x k (insert-is_existential w v P k m) (λ o. insert-outer w v P k x e m n ∙ o) h

-- what is universal then was so before, and is another variable
pub inserted-universal : (w v : ℕ) (P : Prefix) (x : ℕ) → is_bound P v ≡ false → is_universal (insert_after w v P) x ≡ true → (eqb x v ≡ false) × (is_universal P x ≡ true)
inserted-universal w v P x n h = go (eqb x v) refl
  where
    go : (b : Bool) → eqb x v ≡ b → (eqb x v ≡ false) × (is_universal P x ≡ true)
    go true q = let z : is_universal (insert_after w v P) v ≡ false = inserted-not_universal w v P n in absurd (let y : x ≡ v = grind arith in true≢false (sym h ∙ ap (is_universal (insert_after w v P)) y ∙ z))
    go false q = (q, sym (insert-is_universal w v P x q) ∙ h)

-- a variable that goes
removed-run : (v : ℕ) (q : Quant) (P : Prefix) (a : ℕ) → eqb a v ≡ false → run_to q P a ≡ true → run_to q (removed_from v P) a ≡ true
removed-run v q [] a n r = r
removed-run v q (b ∷ P) a n r = grind (arith, removed-run v q P a)

removed-outer : (v : ℕ) (P : Prefix) (a c : ℕ) → eqb a v ≡ false → eqb c v ≡ false → outer_or_same P a c ≡ true → outer_or_same (removed_from v P) a c ≡ true
removed-outer v [] a c n m o = o
removed-outer v (b ∷ P) a c n m o = grind (arith, removed-outer v P a c, removed-run v b.quant P a)

pub removed-inner : (v : ℕ) (P : Prefix) (x k : ℕ) → eqb x v ≡ false → eqb k v ≡ false → inner_existential (removed_from v P) x k ≡ true → inner_existential P x k ≡ true
removed-inner v P x k n m h = inner-less (removed_from v P) P x x k (removed-is_existential v P k m) (λ o. removed-outer v P k x m n o) h

pub removed-universal : (v : ℕ) (P : Prefix) (x : ℕ) → Distinct P → is_universal (removed_from v P) x ≡ true → (eqb x v ≡ false) × (is_universal P x ≡ true)
removed-universal v P x d h = go (eqb x v) refl
  where
    go : (b : Bool) → eqb x v ≡ b → (eqb x v ≡ false) × (is_universal P x ≡ true)
    go true q = let z : is_universal (removed_from v P) v ≡ false = unbound-universal (removed_from v P) v (removed-unbound v P d) in absurd (let y : x ≡ v = grind arith in true≢false (sym h ∙ ap (is_universal (removed_from v P)) y ∙ z))
    go false q = (q, sym (removed-is_universal v P x q) ∙ h)
