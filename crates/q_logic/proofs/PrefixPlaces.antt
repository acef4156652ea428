-- The order of a prefix by places.
use Rattle.std.proofs.Common.{◌≡◌, ℕ, zero, suc, ◌≤◌, Bool, true, false, cond, ◌&&◌, eqb, [], ◌∷◌, ◌⊎◌, inl, inr, arith, refl, sym, subst}
use Rattle.q_logic.specs.declared.formulas.Quant.{Quant}
use Rattle.q_logic.specs.declared.formulas.Bound.{Bound}
use Rattle.q_logic.specs.declared.formulas.Quant.TheVariants.{Exists, Forall}
use Rattle.q_logic.specs.Prelude.{Prefix}
use Rattle.q_logic.specs.Prefixes.{place, quant_at, OuterOrSame, is_bound, run_to, outer_or_same, same_quant}

same_quant-sound : (p q : Quant) → same_quant p q ≡ true → q ≡ p
same_quant-sound Exists Exists h = refl
same_quant-sound Exists Forall h = grind arith
same_quant-sound Forall Exists h = grind arith
same_quant-sound Forall Forall h = refl

pub same_quant-itself : (q : Quant) → same_quant q q ≡ true
same_quant-itself Exists = refl
same_quant-itself Forall = refl

run_to-places : (q : Quant) (P : Prefix) (a : ℕ) → run_to q P a ≡ true → (i : ℕ) → i ≤ place P a →
    quant_at P i ≡ q
run_to-places q [] a r i h = grind arith
run_to-places q (b ∷ P) a r zero h = same_quant-sound q b.quant (grind arith)
run_to-places q (b ∷ P) a r (suc i) h = run_to-places q P a (grind arith) i (grind arith)

places-run_to : (q : Quant) (P : Prefix) (a : ℕ) → is_bound P a ≡ true →
    ((i : ℕ) → i ≤ place P a → quant_at P i ≡ q) → run_to q P a ≡ true
places-run_to q [] a n h = n
places-run_to q (b ∷ P) a n h = go (eqb b.var a) refl (places-run_to q P a)
  where
    first : same_quant q b.quant ≡ true
    first = subst (λ p. same_quant q p ≡ true) (sym (h 0 (omega arith))) (same_quant-itself q)

    go : (c : Bool) → eqb b.var a ≡ c → (is_bound P a ≡ true →
        ((i : ℕ) → i ≤ place P a → quant_at P i ≡ q) → run_to q P a ≡ true) →
        (same_quant q b.quant && cond c true (run_to q P a)) ≡ true
    go true e ih = let f : same_quant q b.quant ≡ true = first in grind arith
    go false e ih =
        let f : same_quant q b.quant ≡ true = first in
        let r : run_to q P a ≡ true = ih (grind arith) (λ i k. h (suc i) (grind arith)) in grind arith

abbrev Ordered : Bound → Prefix → ℕ → ℕ → Type 0
Ordered b P m n = (m ≤ n) ⊎ ((i : ℕ) → n ≤ i → i ≤ m → quant_at (b ∷ P) i ≡ quant_at (b ∷ P) n)

pub outer_or_same-places : (P : Prefix) (a v : ℕ) → outer_or_same P a v ≡ true → OuterOrSame P a v
outer_or_same-places [] a v o = inl (omega arith)
outer_or_same-places (b ∷ P) a v o = go (eqb b.var a) (eqb b.var v) o (outer_or_same-places P a v)
  where
    go : (c d : Bool) → cond c true (cond d (run_to b.quant P a) (outer_or_same P a v)) ≡ true →
        (outer_or_same P a v ≡ true → OuterOrSame P a v) →
        Ordered b P (cond c 0 (suc (place P a))) (cond d 0 (suc (place P v)))
    go true d o ih = inl (omega arith)
    go false true o ih = inr near
      where
        near : (i : ℕ) → 0 ≤ i → i ≤ suc (place P a) → quant_at (b ∷ P) i ≡ b.quant
        near zero h k = refl
        near (suc i) h k = run_to-places b.quant P a o i (omega arith)
    go false false o ih = elim (ih o) [ inl h ↦ inl (omega arith) | inr f ↦ inr (further f) ]
      where
        further : ((i : ℕ) → place P v ≤ i → i ≤ place P a → quant_at P i ≡ quant_at P (place P v)) →
            (i : ℕ) → suc (place P v) ≤ i → i ≤ suc (place P a) →
            quant_at (b ∷ P) i ≡ quant_at P (place P v)
        further f zero h k = absurd (omega arith)
        further f (suc i) h k = f i (omega arith) (omega arith)

pub places-outer_or_same : (P : Prefix) (a v : ℕ) → is_bound P a ≡ true → is_bound P v ≡ true →
    OuterOrSame P a v → outer_or_same P a v ≡ true
places-outer_or_same [] a v n m o = n
places-outer_or_same (b ∷ P) a v n m o = go (eqb b.var a) (eqb b.var v) n m o (places-outer_or_same P a v)
  where
    go : (c d : Bool) → cond c true (is_bound P a) ≡ true → cond d true (is_bound P v) ≡ true →
        Ordered b P (cond c 0 (suc (place P a))) (cond d 0 (suc (place P v))) →
        (is_bound P a ≡ true → is_bound P v ≡ true → OuterOrSame P a v → outer_or_same P a v ≡ true) →
        cond c true (cond d (run_to b.quant P a) (outer_or_same P a v)) ≡ true
    go true d n m o ih = refl
    go false true n m (inl h) ih = absurd (omega arith)
    go false true n m (inr f) ih =
        places-run_to b.quant P a n (λ i h. f (suc i) (omega arith) (omega arith))
    go false false n m (inl h) ih = ih n m (inl (omega arith))
    go false false n m (inr f) ih = ih n m (inr (λ i h k. f (suc i) (omega arith) (omega arith)))

pub same_quant-through : (a b c : Quant) → same_quant a b ≡ true → same_quant a c ≡ same_quant b c
same_quant-through Exists Exists c e = refl
same_quant-through Exists Forall c e = absurd (cc)
same_quant-through Forall Exists c e = absurd (cc)
same_quant-through Forall Forall c e = refl

pub same_quant-two : (a b c : Quant) → same_quant a b ≡ false → same_quant b c ≡ false → same_quant a c ≡ true
same_quant-two Exists Exists c e f = absurd (cc)
same_quant-two Exists Forall Exists e f = refl
same_quant-two Exists Forall Forall e f = absurd (cc)
same_quant-two Forall Exists Exists e f = absurd (cc)
same_quant-two Forall Exists Forall e f = refl
same_quant-two Forall Forall c e f = absurd (cc)
