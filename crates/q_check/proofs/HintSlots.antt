-- Hints by their numbers, and by the slots of these.
use Rattle.std.proofs.Common.{◌≡◌, ◌≢◌, ◌↔◌, ℕ, zero, suc, List, [], ◌∷◌, inl, inr, refl, sym, ap, ◌∙◌, subst, Option, None, Some, get_or, set, map, length}
use Rattle.std.proofs.lemmas.Bool.{cases_eq}
use Rattle.q_logic.specs.Prelude.{Literal, Clause, Follows, Chained, Slots, slot, set_slot, negations}
use Rattle.q_logic.proofs.Common.{slot-set_none, slot-set_other}
use Rattle.q_prop.specs.Slots.{without}
use Rattle.q_check.specs.HintChecks.{place_at}
use Rattle.q_check.specs.Numbers.{IsAt, look, numbered_by, AreNumbered, left_out, place_in}
use Rattle.q_check.proofs.NumberedSteps.{numbered-slot}
use Rattle.q_check.proofs.SlotNumbers.{place-at}

slot-past : (s : Slots) → slot s (length s) ≡ None
slot-past [] = refl
slot-past (o ∷ s) = slot-past s

set-here : (s : Slots) (h : ℕ) → slot (set s h None) h ≡ None
set-here [] h = refl
set-here (o ∷ s) zero = refl
set-here (o ∷ s) (suc h) = set-here s h

set-other : (s : Slots) (h k : ℕ) (o : Option Clause) → k ≢ h → slot (set s h o) k ≡ slot s k
set-other [] h k o d = refl
set-other (p ∷ s) zero zero o d = absurd (d refl)
set-other (p ∷ s) zero (suc k) o d = refl
set-other (p ∷ s) (suc h) zero o d = refl
set-other (p ∷ s) (suc h) (suc k) o d = set-other s h k o (λ e. d (ap suc e))

set-none : (s : Slots) (h k : ℕ) → slot s k ≡ None → slot (set s h None) k ≡ None
set-none [] h k e = refl
set-none (p ∷ s) zero zero e = refl
set-none (p ∷ s) zero (suc k) e = e
set-none (p ∷ s) (suc h) zero e = e
set-none (p ∷ s) (suc h) (suc k) e = set-none s h k e

some-same : (h k : ℕ) → Some h ≡ Some k → h ≡ k
some-same h k e = cc

-- where the slot of a number is looked for
abbrev placed : Slots → Option ℕ → ℕ
placed s None = length s
placed s (Some h) = h

placed-at : (s : Slots) (ps : List (Option ℕ)) (n : ℕ) → place_at ps (length s) n ≡ placed s (get_or ps n None)
placed-at s ps n = go (get_or ps n None)
  where
    go : (o : Option ℕ) → Rattle.std.specs.Prelude.unwrap_or o (length s) ≡ placed s o
    go None = refl
    go (Some h) = refl

module _ (s : Slots) (ps : List (Option ℕ)) (a : AreNumbered s ps) where
  placed-one : (n : ℕ) → slot (numbered_by s ps) n ≡ slot s (placed s (get_or ps n None))
  placed-one n = numbered-slot s ps n ∙ go (get_or ps n None)
    where
      go : (o : Option ℕ) → look s o ≡ slot s (placed s o)
      go None = sym (slot-past s)
      go (Some h) = refl

  gone-placed : (m n : ℕ) (o p : Option ℕ) → get_or ps m None ≡ o → get_or ps n None ≡ p →
      slot (set_slot m None (numbered_by s ps)) n ≡ slot (without s o) (placed s p)
  gone-placed m n o p e f = elim (cases_eq n m) [
    | inl q ↦ here q o p e f
    | inr d ↦ slot-set_other m n None (numbered_by s ps) d ∙ placed-one n ∙ ap (λ (r : Option ℕ). slot s (placed s r)) f ∙ sym (other d o p e f)
  ]
    where
      here : n ≡ m → (o p : Option ℕ) → get_or ps m None ≡ o → get_or ps n None ≡ p → slot (set_slot m None (numbered_by s ps)) n ≡ slot (without s o) (placed s p)
      here q o p e f =
          let same : o ≡ p = sym e ∙ ap (λ (k : ℕ). get_or ps k None) (sym q) ∙ f in
          subst (λ (k : ℕ). slot (set_slot m None (numbered_by s ps)) k ≡ slot (without s o) (placed s p)) (sym q)
          (slot-set_none m (numbered_by s ps) ∙ sym (subst (λ (r : Option ℕ). slot (without s o) (placed s r) ≡ None) same (none o)))
        where
          none : (r : Option ℕ) → slot (without s r) (placed s r) ≡ None
          none None = slot-past s
          none (Some h) = set-here s h

      other : n ≢ m → (o p : Option ℕ) → get_or ps m None ≡ o → get_or ps n None ≡ p → slot (without s o) (placed s p) ≡ slot s (placed s p)
      other d None p e f = refl
      other d (Some h) None e f = set-none s h (length s) (slot-past s) ∙ sym (slot-past s)
      other d (Some h) (Some k) e f = set-other s h k None (λ q. d (sym (a.apart m n k (subst (λ (x : ℕ). IsAt ps m x) (sym q) (place-at ps m h e)) (place-at ps n k f))))

  pub placed-slot : (skip : Option ℕ) (n : ℕ) → slot (left_out skip (numbered_by s ps)) n ≡ slot (without s (place_in ps skip)) (place_at ps (length s) n)
  placed-slot None n = placed-one n ∙ ap (slot s) (sym (placed-at s ps n))
  placed-slot (Some m) n = gone-placed m n (get_or ps m None) (get_or ps n None) refl refl ∙ ap (slot (without s (get_or ps m None))) (sym (placed-at s ps n))

module _ (N S : Slots) (f : ℕ → ℕ) (same : (n : ℕ) → slot N n ≡ slot S (f n)) where
  follows-forth : (K : List Literal) (ks : List ℕ) → Follows N K ks → Follows S K (map f ks)
  follows-forth K [] w = w
  follows-forth K (k ∷ ks) (D, e, r) = (
    D,
    sym (same k) ∙ e,
    elim r [
      | inl last ↦ inl (ap (map f) last.0, last.1)
      | inr more ↦ inr (more.0, more.1, follows-forth (more.0 ∷ K) ks more.2)
    ],
  )

  none-mapped : (ks : List ℕ) → map f ks ≡ [] → ks ≡ []
  none-mapped [] e = refl
  none-mapped (k ∷ ks) e = cc

  follows-back : (K : List Literal) (ks : List ℕ) → Follows S K (map f ks) → Follows N K ks
  follows-back K [] w = w
  follows-back K (k ∷ ks) (D, e, r) = (
    D,
    same k ∙ e,
    elim r [
      | inl last ↦ inl (none-mapped ks last.0, last.1)
      | inr more ↦ inr (more.0, more.1, follows-back (more.0 ∷ K) ks more.2)
    ],
  )

  pub chained-placed : (C : Clause) (ks : List ℕ) → Chained S C (map f ks) ↔ Chained N C ks
  chained-placed C ks = (
    (λ h. elim h [
      | inl t ↦ inl (t.0, none-mapped ks t.1)
      | inr w ↦ inr (w.0, follows-back (negations C) ks w.1)
    ]),
    (λ h. elim h [
      | inl t ↦ inl (t.0, ap (map f) t.1)
      | inr w ↦ inr (w.0, follows-forth (negations C) ks w.1)
    ]),
  )

-- a number without a slot has no clause
pub nothing-there : (s : Slots) (ps : List (Option ℕ)) (n : ℕ) (D : Clause) → get_or ps n None ≡ None → slot (numbered_by s ps) n ≡ Some D → ⊥
nothing-there s ps n D e f =
    let g : None ≡ Some D = ap (look s) (sym e) ∙ sym (numbered-slot s ps n) ∙ f in cc

-- what stands at a number stands in its slot
pub placed-there : (s : Slots) (ps : List (Option ℕ)) (n h : ℕ) → get_or ps n None ≡ Some h → slot (numbered_by s ps) n ≡ slot s h
placed-there s ps n h e = numbered-slot s ps n ∙ ap (look s) e
