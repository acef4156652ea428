-- An id without a clause is in the list of free ids.
use Rattle.std.proofs.Common.{◌≡◌, ◌⊎◌, ℕ, ◌<◌, refl, true, false, List, [], ◌∷◌, ◌++◌, length, map, None, get_or, inl, inr, arith, sym, ◌∙◌, length-append}
use Rattle.std.proofs.lemmas.Option.{none-some}
use Rattle.std.proofs.lemmas.Bool.{cases_eq, cases_Bool}
use Rattle.q_logic.specs.Prelude.{Literal}
use Rattle.q_arena.specs.declared.slots.Slot.{Slot}
use Rattle.q_arena.specs.Rings.{Has, Misses, AreApart, AreBelow}
use Rattle.q_arena.specs.Layout.{no_slot, slot_at, Order, AreLaid}
use Rattle.q_arena.specs.Seen.{clause_in}
use Rattle.q_arena.proofs.RingLemmas.{length-below}
use Rattle.q_arena.proofs.Layouts.{live-below}
use Rattle.q_arena.proofs.ArenaView.{length-mapped}
use Rattle.q_arena.proofs.ClauseWords.{clause-live}

is-there : (n : ℕ) (ys : List ℕ) → Has ys n ⊎ Misses n ys
is-there n [] = inr tt
is-there n (y ∷ ys) = elim (cases_eq n y) [
  | inl e ↦ inl (inl e)
  | inr d ↦ elim (is-there n ys) [
    | inl h ↦ inl (inr h)
    | inr m ↦ inr (d, m)
  ]
]

-- as many different numbers as there are below a bound are all of them
all-there : (n : ℕ) (ys : List ℕ) → AreApart ys → AreBelow n ys → length ys ≡ n → (i : ℕ) → i < n → Has ys i
all-there n ys a b e i h = elim (is-there i ys) [
  | inl t ↦ t
  | inr m ↦ let l = length-below n (i ∷ ys) (m, a) (h, b) in absurd (omega arith)
]

Has-append : (xs ys : List ℕ) (p : ℕ) → Has (xs ++ ys) p → Has xs p ⊎ Has ys p
Has-append [] ys p h = inr h
Has-append (x ∷ xs) ys p (inl e) = inl (inl e)
Has-append (x ∷ xs) ys p (inr h) = elim (Has-append xs ys p h) [ inl a ↦ inl (inr a) | inr b ↦ inr b ]

Misses-append : (x : ℕ) (xs ys : List ℕ) → Misses x xs → (Has ys x → ⊥) → Misses x (xs ++ ys)
Misses-append x [] ys m n = elim (is-there x ys) [ inl h ↦ absurd (n h) | inr k ↦ k ]
Misses-append x (y ∷ xs) ys m n = (m.0, Misses-append x xs ys m.1 n)

apart-append : (xs ys : List ℕ) → AreApart xs → AreApart ys → ((p : ℕ) → Has xs p → Has ys p → ⊥) → AreApart (xs ++ ys)
apart-append [] ys a b f = b
apart-append (x ∷ xs) ys a b f = (Misses-append x xs ys a.0 (f x (inl refl)), apart-append xs ys a.1 b (λ p h. f p (inr h)))

all-below : (n : ℕ) (xs : List ℕ) → ((p : ℕ) → Has xs p → p < n) → AreBelow n xs
all-below n [] f = tt
all-below n (x ∷ xs) f = (f x (inl refl), all-below n xs (λ p h. f p (inr h)))

free-has : (room : ℕ) (slots : List Slot) (ids : Order) (end total : ℕ) → AreLaid room slots ids end total → AreApart ids.used → AreApart ids.free → ((i : ℕ) → Has ids.used i → Has ids.free i → ⊥)
    → (i : ℕ) → i < length slots → (slot_at slots i).live ≡ false → Has ids.free i
free-has room slots ids end total l au af one i h dead =
    let below : AreBelow (length slots) (ids.used ++ ids.free) = all-below (length slots) (ids.used ++ ids.free) (λ p t. elim (Has-append ids.used ids.free p t) [
      | inl u ↦ live-below slots p (l.live p u)
      | inr f ↦ (l.frees p f).1
    ]) in
    let count : length (ids.used ++ ids.free) ≡ length slots = length-append ids.used ids.free ∙ sym l.count in
    elim (Has-append ids.used ids.free i (all-there (length slots) (ids.used ++ ids.free) (apart-append ids.used ids.free au af one) below count i h)) [
      | inl u ↦ let e : true ≡ false = sym (l.live i u) ∙ dead in absurd (cc)
      | inr f ↦ f
    ]

not_live : (w : List Literal) (slots : List Slot) (i : ℕ) → get_or (map (clause_in w) slots) i None ≡ None → (slot_at slots i).live ≡ false
not_live w slots i e = elim (cases_Bool (slot_at slots i).live) [
  | inl t ↦ absurd (none-some _ (sym e ∙ clause-live w slots i t))
  | inr f ↦ f
]

pub free-there : (w : List Literal) (slots : List Slot) (ids : Order) (end total : ℕ) → AreLaid (length w) slots ids end total → AreApart ids.used → AreApart ids.free → ((i : ℕ) → Has ids.used i → Has ids.free i → ⊥)
    → (i : ℕ) → i < length (map (clause_in w) slots) → get_or (map (clause_in w) slots) i None ≡ None → Has ids.free i
free-there w slots ids end total l au af one i h e =
    let n = length-mapped (clause_in w) no_slot slots in
    free-has (length w) slots ids end total l au af one i (omega arith) (not_live w slots i e)
