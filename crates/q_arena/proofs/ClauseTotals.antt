-- Sums over the clauses, and over the ids in use.
use Rattle.std.proofs.Common.{◌≡◌, ◌≢◌, ℕ, zero, suc, ◌+◌, ◌<◌, Bool, true, false, List, [], ◌∷◌, length, map, set, get_or, Option, None, Some, refl, sym, ◌∙◌, ap, subst, inl, inr, arith}
use Rattle.std.proofs.lemmas.List.{get_or-set_same, get_or-set_other}
use Rattle.std.proofs.lemmas.Bool.{cases_eq}
use Rattle.q_logic.specs.Prelude.{Literal}
use Rattle.q_arena.specs.declared.slots.Slot.{Slot}
use Rattle.q_arena.specs.Rings.{Has, AreApart}
use Rattle.q_arena.specs.Layout.{slot_at, size_of, Order, AreLaid}
use Rattle.q_arena.specs.Seen.{clause_in, live_in, words_in}
use Rattle.q_arena.proofs.RingPaths.{Misses-not}
use Rattle.q_arena.proofs.ArenaView.{length-set', length-mapped}
use Rattle.q_arena.proofs.Layouts.{live-below, live-room}
use Rattle.q_arena.proofs.ClauseWords.{clause-live, clause-free, length-piece}

abbrev Clauses' : Type 0
Clauses' = List (Option (List Literal))

abbrev sum_at : (ℕ → ℕ) → List ℕ → ℕ
sum_at g [] = 0
sum_at g (i ∷ is) = g i + sum_at g is

module _ (f : Option (List Literal) → ℕ) (none : f None ≡ 0) where
  abbrev total_by : Clauses' → ℕ
  total_by [] = 0
  total_by (o ∷ cs) = f o + total_by cs

  total-none : (cs : Clauses') → ((i : ℕ) → get_or cs i None ≡ None) → total_by cs ≡ 0
  total-none [] h = refl
  total-none (o ∷ cs) h =
      let here : f o ≡ 0 = ap f (h 0) ∙ none in
      let rest : total_by cs ≡ 0 = total-none cs (λ i. h (suc i)) in
      omega arith

  total-split : (cs : Clauses') (i : ℕ) → i < length cs → total_by cs ≡ f (get_or cs i None) + total_by (set cs i None)
  total-split [] i l = omega arith
  total-split (o ∷ cs) zero l = let z : f None ≡ 0 = none in let g : f o + total_by cs ≡ f o + (f None + total_by cs) = omega arith in g
  total-split (o ∷ cs) (suc i) l =
      let k : i < length cs = omega arith in
      let d = total-split cs i k in
      let x = f (get_or cs i None) in
      let y = total_by (set cs i None) in
      let z : total_by cs ≡ x + y = d in
      let goal' : f o + total_by cs ≡ x + (f o + y) = omega arith in
      goal'

  total-used : (g : ℕ → ℕ) (used : List ℕ) (cs : Clauses') → AreApart used → ((i : ℕ) → Has used i → i < length cs)
      → ((i : ℕ) → Has used i → f (get_or cs i None) ≡ g i) → ((i : ℕ) → (Has used i → ⊥) → get_or cs i None ≡ None)
      → total_by cs ≡ sum_at g used
  total-used g [] cs a b e n = total-none cs (λ i. n i (λ h. h))
  total-used g (i ∷ is) cs a b e n =
      let cs' = set cs i None in
      let il : i < length cs = b i (inl refl) in
      let other : (j : ℕ) → Has is j → j ≢ i = λ j h q. Misses-not i j is a.0 h (sym q) in
      let rest = total-used g is cs' a.1
      (λ j h. rw (length-set' cs i None) (b j (inr h)))
      (λ j h. ap f (get_or-set_other cs i j None None (other j h)) ∙ e j (inr h))
      (λ j h. elim (cases_eq j i) [
        | inl q ↦ subst (λ (k : ℕ). get_or cs' k None ≡ None) (sym q) (get_or-set_same cs i None None il)
        | inr d ↦ get_or-set_other cs i j None None d ∙ n j (λ k. elim k [ inl q ↦ d q | inr u ↦ h u ])
      ]) in
      let here = e i (inl refl) in
      let split = total-split cs i il in
      let r : total_by cs' ≡ sum_at g is = rest in
      let h' : f (get_or cs i None) ≡ g i = here in
      let s : total_by cs ≡ f (get_or cs i None) + total_by cs' = split in
      omega (arith, r, h', s)

abbrev one : Option (List Literal) → ℕ
one None = 0
one (Some c) = 1

abbrev words : Option (List Literal) → ℕ
words None = 0
words (Some c) = length c

live-total_by : (cs : Clauses') → live_in cs ≡ total_by one refl cs
live-total_by [] = refl
live-total_by (None ∷ cs) = let d : live_in cs ≡ total_by one refl cs = live-total_by cs in let g : live_in cs ≡ 0 + total_by one refl cs = omega arith in g
live-total_by (Some c ∷ cs) = let d = live-total_by cs in let e : live_in cs ≡ total_by one refl cs = d in let g : live_in cs + 1 ≡ 1 + total_by one refl cs = omega arith in g

words-total_by : (cs : Clauses') → words_in cs ≡ total_by words refl cs
words-total_by [] = refl
words-total_by (None ∷ cs) = let d : words_in cs ≡ total_by words refl cs = words-total_by cs in let g : words_in cs ≡ 0 + total_by words refl cs = omega arith in g
words-total_by (Some c ∷ cs) = ap (λ (n : ℕ). length c + n) (words-total_by cs)

sum-ones : (is : List ℕ) → sum_at (λ i. 1) is ≡ length is
sum-ones [] = refl
sum-ones (i ∷ is) = let d : sum_at (λ j. 1) is ≡ length is = sum-ones is in omega arith

sum-sizes : (s : ℕ → Slot) (is : List ℕ) → sum_at (λ i. (s i).len) is ≡ size_of s is
sum-sizes s [] = refl
sum-sizes s (i ∷ is) = ap (λ (n : ℕ). (s i).len + n) (sum-sizes s is)

module _ (w : List Literal) (slots : List Slot) (ids : Order) (end total : ℕ) (a : AreLaid (length w) slots ids end total) where
  clauses' : Clauses'
  clauses' = map (clause_in w) slots

  within : (i : ℕ) → Has ids.used i → i < length (map (clause_in w) slots)
  within i u = rw (length-mapped (clause_in w) (record { start = 0; len = 0; live = false }) slots) (live-below slots i (a.live i u))

  free-none : (i : ℕ) → (Has ids.used i → ⊥) → get_or (map (clause_in w) slots) i None ≡ None
  free-none i n = go (slot_at slots i).live refl
    where
      go : (b : Bool) → (slot_at slots i).live ≡ b → get_or (map (clause_in w) slots) i None ≡ None
      go true e = absurd (n (a.lives i e))
      go false e = clause-free w slots i e

  pub live-count : live_in (map (clause_in w) slots) ≡ length ids.used
  live-count = live-total_by (map (clause_in w) slots)
      ∙ total-used one refl (λ i. 1) ids.used (map (clause_in w) slots) a.apart within (λ i u. ap one (clause-live w slots i (a.live i u))) free-none
      ∙ sum-ones ids.used

  pub words-count : words_in (map (clause_in w) slots) ≡ size_of (slot_at slots) ids.used
  words-count = words-total_by (map (clause_in w) slots)
      ∙ total-used words refl (λ i. (slot_at slots i).len) ids.used (map (clause_in w) slots) a.apart within
      (λ i u. ap words (clause-live w slots i (a.live i u)) ∙ length-piece w (slot_at slots i).start (slot_at slots i).len (live-room (length w) slots ids end total i a (a.live i u))) free-none
      ∙ sum-sizes (slot_at slots) ids.used
