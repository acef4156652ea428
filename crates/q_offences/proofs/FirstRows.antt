-- The first row of a table, by tests.
use Rattle.std.proofs.Common.{◌≡◌, ◌⊎◌, inl, inr, Bool, true, false, cond, List, [], ◌∷◌, Option, Some, None, refl, ap, sym, ◌∙◌}
use Rattle.q_offences.specs.Tables.{IsFirst}

abbrev pub first_true : {X : Type 0} → (X → Bool) → List X → Option X
first_true a [] = None
first_true a (r ∷ rs) = cond (a r) (Some r) (first_true a rs)

-- tests that say what applies
abbrev pub Tests : {X : Type 0} → (X → Type 0) → (X → Bool) → Type 0
Tests {X} Q a = (r : X) → (Q r → a r ≡ true) × (a r ≡ true → Q r)

pub true-first : {X : Type 0} (Q : X → Type 0) (a : X → Bool) → Tests Q a → (rs : List X) (r : X) → first_true a rs ≡ Some r → IsFirst Q rs r
true-first Q a t [] r e = cc
true-first {X} Q a t (s ∷ rs) r e = go (a s) refl e (λ f. true-first Q a t rs r f) where
  go : (x : Bool) → a s ≡ x → cond {A = Option X} x (Some s) (first_true a rs) ≡ Some r → (first_true a rs ≡ Some r → IsFirst Q rs r) → (Q s × (r ≡ s)) ⊎ (¬ Q s × IsFirst Q rs r)
  go true i f ih = inl ((t s).1 i, cc)
  go false i f ih = inr (λ h. let j = (t s).0 h in cc, ih f)

pub first-true : {X : Type 0} (Q : X → Type 0) (a : X → Bool) → Tests Q a → (rs : List X) (r : X) → IsFirst Q rs r → first_true a rs ≡ Some r
first-true Q a t [] r h = absurd h
first-true {X} Q a t (s ∷ rs) r (inl h) = let i = (t s).0 h.0 in rw i (ap Some (sym h.1))
first-true {X} Q a t (s ∷ rs) r (inr h) = go (a s) refl (first-true Q a t rs r h.1) where
  go : (x : Bool) → a s ≡ x → first_true a rs ≡ Some r → cond {A = Option X} x (Some s) (first_true a rs) ≡ Some r
  go true i f = absurd (h.0 ((t s).1 i))
  go false i f = f

-- a row that applies leads to a first one

abbrev pub Stands : {X : Type 0} → X → List X → Type 0
Stands r [] = ⊥
Stands r (s ∷ ss) = (r ≡ s) ⊎ Stands r ss

pub some-first : {X : Type 0} (a : X → Bool) (rs : List X) (r : X) → Stands r rs → a r ≡ true → first_true a rs ≡ None → ⊥
some-first a [] r h e n = h
some-first {X} a (s ∷ ss) r (inl i) e n = go (a s) (ap a (sym i) ∙ e) n where
  go : (x : Bool) → x ≡ true → cond {A = Option X} x (Some s) (first_true a ss) ≡ None → ⊥
  go true f m = cc
  go false f m = cc
some-first {X} a (s ∷ ss) r (inr h) e n = go (a s) n (λ m. some-first a ss r h e m) where
  go : (x : Bool) → cond {A = Option X} x (Some s) (first_true a ss) ≡ None → (first_true a ss ≡ None → ⊥) → ⊥
  go true m ih = cc
  go false m ih = ih m

pub first-is : {X : Type 0} (a : X → Bool) (rs : List X) (r : X) → first_true a rs ≡ Some r → a r ≡ true
first-is a [] r e = cc
first-is {X} a (s ∷ ss) r e = go (a s) refl e (first-is a ss r) where
  go : (x : Bool) → a s ≡ x → cond {A = Option X} x (Some s) (first_true a ss) ≡ Some r → (first_true a ss ≡ Some r → a r ≡ true) → a r ≡ true
  go true i f ih = let j : s ≡ r = cc in ap a (sym j) ∙ i
  go false i f ih = ih f
