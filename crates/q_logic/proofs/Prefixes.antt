-- Prefixes that gain or lose a variable.
use Rattle.std.proofs.Common.{◌≡◌, ℕ, Bool, true, false, cond, eqb, [], ◌∷◌, arith, refl, ◌∙◌, zero, suc, ◌<◌, length, take, get_or, sym, subst}
use Rattle.std.proofs.lemmas.Bool.{both_ways}
use Rattle.q_logic.specs.declared.formulas.Quant.TheVariants.{Exists}
use Rattle.q_logic.specs.declared.formulas.Bound.{Bound}
use Rattle.q_logic.specs.Prelude.{Prefix, is_existential, is_bound, universal_before, Distinct, insert_after, removed_from, is_universal}
use Rattle.q_logic.proofs.PrefixOrder.{unbound-universal}

pub insert-is_bound : (w v : ℕ) (P : Prefix) (x : ℕ) → eqb x v ≡ false →
    is_bound (insert_after w v P) x ≡ is_bound P x
insert-is_bound w v [] x n = refl
insert-is_bound w v (b ∷ P) x n = grind (arith, insert-is_bound w v P x)

pub insert-is_existential : (w v : ℕ) (P : Prefix) (x : ℕ) → eqb x v ≡ false →
    is_existential (insert_after w v P) x ≡ is_existential P x
insert-is_existential w v [] x n = refl
insert-is_existential w v (b ∷ P) x n = grind (arith, insert-is_existential w v P x)

pub insert-itself : (w v : ℕ) (P : Prefix) → is_bound P v ≡ false → is_existential P w ≡ true →
    is_existential (insert_after w v P) v ≡ true
insert-itself w v [] n e = e
insert-itself w v (b ∷ P) n e = grind (arith, insert-itself w v P)

pub insert-universal_before : (w v : ℕ) (P : Prefix) (u x : ℕ) → eqb x v ≡ false → eqb u v ≡ false →
    universal_before (insert_after w v P) u x ≡ universal_before P u x
insert-universal_before w v [] u x n m = refl
insert-universal_before w v (b ∷ P) u x n m =
    grind (arith, insert-universal_before w v P u x, insert-is_bound w v P x)

pub insert-not_before : (w v : ℕ) (P : Prefix) (x : ℕ) → is_bound P v ≡ false →
    universal_before (insert_after w v P) v x ≡ false
insert-not_before w v [] x n = refl
insert-not_before w v (b ∷ P) x n = grind (arith, insert-not_before w v P x)

pub insert-distinct : (w v : ℕ) (P : Prefix) → is_bound P v ≡ false → Distinct P →
    Distinct (insert_after w v P)
insert-distinct w v [] n d = d
insert-distinct w v (b ∷ P) n d = go (eqb b.var w) refl (insert-distinct w v P)
  where
    go : (c : Bool) → eqb b.var w ≡ c → (is_bound P v ≡ false → Distinct P →
        Distinct (insert_after w v P)) → Distinct (cond c (b ∷ record { quant = Exists; var = v } ∷ P)
        (b ∷ insert_after w v P))
    go true q ih = (grind arith, (grind arith, d.1))
    go false q ih = (
      let a : eqb b.var v ≡ false = grind arith in
          insert-is_bound w v P b.var a ∙ d.0,
      ih (grind arith) d.1,
    )

pub removed-is_bound : (v : ℕ) (P : Prefix) (x : ℕ) → eqb x v ≡ false →
    is_bound (removed_from v P) x ≡ is_bound P x
removed-is_bound v [] x n = refl
removed-is_bound v (b ∷ P) x n = grind (arith, removed-is_bound v P x)

pub removed-is_existential : (v : ℕ) (P : Prefix) (x : ℕ) → eqb x v ≡ false →
    is_existential (removed_from v P) x ≡ is_existential P x
removed-is_existential v [] x n = refl
removed-is_existential v (b ∷ P) x n = grind (arith, removed-is_existential v P x)

pub removed-unbound : (v : ℕ) (P : Prefix) → Distinct P → is_bound (removed_from v P) v ≡ false
removed-unbound v [] d = refl
removed-unbound v (b ∷ P) d =
    let i : is_bound (removed_from v P) v ≡ false = removed-unbound v P d.1 in
    let e : is_bound P b.var ≡ false = d.0 in grind arith

pub removed-universal_before : (v : ℕ) (P : Prefix) (u x : ℕ) → eqb x v ≡ false → eqb u v ≡ false →
    universal_before (removed_from v P) u x ≡ universal_before P u x
removed-universal_before v [] u x n m = refl
removed-universal_before v (b ∷ P) u x n m =
    grind (arith, removed-universal_before v P u x, removed-is_bound v P x)

pub removed-distinct : (v : ℕ) (P : Prefix) → Distinct P → Distinct (removed_from v P)
removed-distinct v [] d = d
removed-distinct v (b ∷ P) d = go (eqb b.var v) refl (removed-distinct v P d.1)
  where
    below : (x : ℕ) (Q : Prefix) → is_bound Q x ≡ false → is_bound (removed_from v Q) x ≡ false
    below x [] h = refl
    below x (a ∷ Q) h = grind (arith, below x Q)

    go : (c : Bool) → eqb b.var v ≡ c → Distinct (removed_from v P) →
        Distinct (cond c P (b ∷ removed_from v P))
    go true q ih = d.1
    go false q ih = (below b.var P d.0, ih)

pub insert-is_universal : (w v : ℕ) (P : Prefix) (x : ℕ) → eqb x v ≡ false → is_universal (insert_after w v P) x ≡ is_universal P x
insert-is_universal w v [] x n = refl
insert-is_universal w v (b ∷ P) x n = grind (arith, insert-is_universal w v P x)

pub removed-is_universal : (v : ℕ) (P : Prefix) (x : ℕ) → eqb x v ≡ false → is_universal (removed_from v P) x ≡ is_universal P x
removed-is_universal v [] x n = refl
removed-is_universal v (b ∷ P) x n = grind (arith, removed-is_universal v P x)

pub inserted-not_universal : (w v : ℕ) (P : Prefix) → is_bound P v ≡ false → is_universal (insert_after w v P) v ≡ false
inserted-not_universal w v [] n = refl
inserted-not_universal w v (b ∷ P) n = grind (arith, inserted-not_universal w v P, unbound-universal P v)

pub is_bound-first : (b : Bound) (P : Prefix) → is_bound (b ∷ P) b.var ≡ true
is_bound-first b P = let e : eqb b.var b.var ≡ true = grind arith in rw e refl

pub is_bound-later : (b : Bound) (P : Prefix) (v : ℕ) → is_bound P v ≡ true → is_bound (b ∷ P) v ≡ true
is_bound-later b P v h = go (eqb b.var v)
  where
    go : (c : Bool) → cond c true (is_bound P v) ≡ true
    go true = refl
    go false = h

pub get_or-is_bound : (P : Prefix) (i : ℕ) (d : Bound) → i < length P → is_bound P (get_or P i d).var ≡ true
get_or-is_bound [] i d h = absurd (omega arith)
get_or-is_bound (b ∷ P) zero d h = is_bound-first b P
get_or-is_bound (b ∷ P) (suc i) d h = is_bound-later b P (get_or P i d).var (get_or-is_bound P i d (omega arith))

pub distinct-at : (P : Prefix) (i : ℕ) (d : Bound) → Distinct P → i < length P → is_bound (take i P) (get_or P i d).var ≡ false
distinct-at [] i d di h = absurd (omega arith)
distinct-at (b ∷ P) zero d di h = refl
distinct-at (b ∷ P) (suc i) d di h =
    let r : is_bound (take i P) (get_or P i d).var ≡ false = distinct-at P i d di.1 (omega arith) in
    let a : is_bound P (get_or P i d).var ≡ true = get_or-is_bound P i d (omega arith) in
    let n : is_bound P b.var ≡ false = di.0 in
    go (eqb b.var (get_or P i d).var) refl r a n
  where
    go : (t : Bool) → eqb b.var (get_or P i d).var ≡ t → is_bound (take i P) (get_or P i d).var ≡ false → is_bound P (get_or P i d).var ≡ true → is_bound P b.var ≡ false → cond t true (is_bound (take i P) (get_or P i d).var) ≡ false
    go true e r a n =
        let q : b.var ≡ (get_or P i d).var = grind arith in
        absurd (both_ways (is_bound P b.var) n (subst (λ (x : ℕ). is_bound P x ≡ true) (sym q) a))
    go false e r a n = r
