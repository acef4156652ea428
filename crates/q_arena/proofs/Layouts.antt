-- Stacks of clauses.
use Rattle.std.proofs.Common.{◌≡◌, ◌≢◌, ◌⊎◌, ℕ, ◌+◌, ◌-◌, ◌<◌, ◌≤◌, true, false, List, [], ◌∷◌, length, get_or, set, None, Some, slice_get, refl, sym, ◌∙◌, ap, subst, inl, inr, arith, true≢false}
use Rattle.std.proofs.lemmas.List.{get_or-set_same, get_or-set_other, get_or_past}
use Rattle.std.proofs.lemmas.Bool.Decides.{nat_tests}
use Rattle.std.proofs.lemmas.Bool.{cases_lt, cases_eq}
use Rattle.q_arena.proofs.ListNeighbours.{following-here, following-later}
use Rattle.q_arena.specs.declared.slots.Slot.{Slot}
use Rattle.q_arena.specs.Layout.{end_in, no_slot, slot_at, top_of, below, IsStack, size_of, Order, AreLaid}
use Rattle.q_arena.specs.Chains.{following}
use Rattle.q_arena.specs.Rings.{Has, AreApart, without}
use Rattle.q_arena.proofs.RingPaths.{Misses-not, Misses-from, without-first, without-later}
use Rattle.q_arena.proofs.RingLemmas.{Has-without, AreApart-without, length-without}
use Rattle.q_arena.proofs.ArenaView.{length-set'}

pub without-gone : (p : ℕ) (ys : List ℕ) → AreApart ys → Has (without p ys) p → ⊥
without-gone p [] a h = h
without-gone p (y ∷ ys) a h = elim (cases_eq y p) [
  | inl e ↦ Misses-not y p ys a.0 (subst (λ (xs : List ℕ). Has xs p) (without-first p y ys e) h) e
  | inr n ↦ elim (subst (λ (xs : List ℕ). Has xs p) (without-later p y ys n) h) [
    | inl e ↦ n (sym e)
    | inr i ↦ without-gone p ys a.1 i
  ]
]

pub Has-kept : (p q : ℕ) (ys : List ℕ) → Has ys q → q ≢ p → Has (without p ys) q
Has-kept p q [] h n = absurd h
Has-kept p q (y ∷ ys) h n = elim (cases_eq y p) [
  | inl e ↦ elim h [
    | inl f ↦ absurd (n (f ∙ e))
    | inr i ↦ subst (λ (xs : List ℕ). Has xs q) (sym (without-first p y ys e)) i
  ]
  | inr m ↦ subst (λ (xs : List ℕ). Has xs q) (sym (without-later p y ys m)) (elim h [
    | inl f ↦ inl f
    | inr i ↦ inr (Has-kept p q ys i n)
  ])
]

-- a place taken out of one of several lists is in none
pub gone : (ls : List (List ℕ)) (l p : ℕ) → ((i : ℕ) → AreApart (get_or ls i [])) → ((i j q : ℕ) → Has (get_or ls i []) q → Has (get_or ls j []) q → i ≡ j) → Has (get_or ls l []) p → (m : ℕ) → Has (get_or (set ls l (without p (get_or ls l []))) m []) p → ⊥
gone ls l p apart one h m k = elim (cases_eq m l) [
  | inl e ↦ elim (cases_lt l (length ls)) [
    | inl lt ↦
        let k' = subst (λ (i : ℕ). Has (get_or (set ls l (without p (get_or ls l []))) i []) p) e k in
        without-gone p (get_or ls l []) (apart l) (subst (λ (xs : List ℕ). Has xs p) (get_or-set_same ls l (without p (get_or ls l [])) [] lt) k')
    | inr ge ↦ subst (λ (xs : List ℕ). Has xs p) (get_or_past ls l [] ge) h
  ]
  | inr n ↦ n (one m l p (subst (λ (xs : List ℕ). Has xs p) (get_or-set_other ls l m (without p (get_or ls l [])) [] n) k) h)
]

module _ (s t : ℕ → Slot) where
  pub top-same : (is : List ℕ) → ((i : ℕ) → Has is i → t i ≡ s i) → top_of t is ≡ top_of s is
  top-same [] f = refl
  top-same (i ∷ is) f = let e : t i ≡ s i = f i (inl refl) in rw e refl

  pub stack-same : (is : List ℕ) → ((i : ℕ) → Has is i → t i ≡ s i) → IsStack s is → IsStack t is
  stack-same [] f k = tt
  stack-same (i ∷ is) f k =
      let e : t i ≡ s i = f i (inl refl) in
      let d = top-same is (λ j h. f j (inr h)) in
      let le : top_of s is ≤ (s i).start = k.0 in
      (rw (e, d) le, stack-same is (λ j h. f j (inr h)) k.1)

  pub size-same : (is : List ℕ) → ((i : ℕ) → Has is i → t i ≡ s i) → size_of t is ≡ size_of s is
  size-same [] f = refl
  size-same (i ∷ is) f =
      let e : t i ≡ s i = f i (inl refl) in
      let d = size-same is (λ j h. f j (inr h)) in
      rw (e, d) refl

module _ (s : ℕ → Slot) where
  pub top-without : (p : ℕ) (is : List ℕ) → IsStack s is → top_of s (without p is) ≤ top_of s is
  top-without p [] k = omega arith
  top-without p (i ∷ is) k = elim (cases_eq i p) [
    | inl e ↦ rw (without-first p i is e) (let le : top_of s is ≤ (s i).start = k.0 in omega arith)
    | inr n ↦ rw (without-later p i is n) (omega arith)
  ]

  pub stack-without : (p : ℕ) (is : List ℕ) → IsStack s is → IsStack s (without p is)
  stack-without p [] k = tt
  stack-without p (i ∷ is) k = elim (cases_eq i p) [
    | inl e ↦ rw (without-first p i is e) k.1
    | inr n ↦ rw (without-later p i is n) (let le : top_of s is ≤ (s i).start = k.0 in let d = top-without p is k.1 in omega arith, stack-without p is k.1)
  ]

  pub size-without : (p : ℕ) (is : List ℕ) → Has is p → size_of s is ≡ (s p).len + size_of s (without p is)
  size-without p [] h = absurd h
  size-without p (i ∷ is) h = elim (cases_eq i p) [
    | inl e ↦ rw (without-first p i is e) (ap (λ (k : ℕ). (s k).len + size_of s is) e)
    | inr n ↦ rw (without-later p i is n) (elim h [
      | inl e ↦ absurd (n (sym e))
      | inr k ↦ let d = size-without p is k in omega arith
    ])
  ]

  pub size-top : (is : List ℕ) → IsStack s is → size_of s is ≤ top_of s is
  size-top [] k = omega arith
  size-top (i ∷ is) k = let d = size-top is k.1 in let le : top_of s is ≤ (s i).start = k.0 in omega arith

  pub stack-in : (is : List ℕ) (i : ℕ) → IsStack s is → Has is i → (s i).start + (s i).len ≤ top_of s is
  stack-in [] i k h = absurd h
  stack-in (j ∷ is) i k (inl e) = rw e (omega arith)
  stack-in (j ∷ is) i k (inr h) = let d = stack-in is i k.1 h in let le : top_of s is ≤ (s j).start = k.0 in omega arith

  -- one of two clauses ends before the other begins
  pub stack-pair : (is : List ℕ) (i j : ℕ) → IsStack s is → Has is i → Has is j → i ≢ j → ((s i).start + (s i).len ≤ (s j).start) ⊎ ((s j).start + (s j).len ≤ (s i).start)
  stack-pair [] i j k h g n = absurd h
  stack-pair (m ∷ is) i j k h g n =
      let le : top_of s is ≤ (s m).start = k.0 in
      elim h [
        | inl e ↦ elim g [
          | inl f ↦ absurd (n (e ∙ sym f))
          | inr b ↦ inr (let d = stack-in is j k.1 b in rw e (omega arith))
        ]
        | inr a ↦ elim g [
          | inl f ↦ inl (let d = stack-in is i k.1 a in rw f (omega arith))
          | inr b ↦ stack-pair is i j k.1 a b n
        ]
      ]

  pub top-end : (is : List ℕ) → top_of s is ≡ end_in s (slice_get is 0)
  top-end [] = refl
  top-end (i ∷ is) = refl

pub slot-set_here : (slots : List Slot) (i : ℕ) (x : Slot) → i < length slots → slot_at (set slots i x) i ≡ x
slot-set_here slots i x h = get_or-set_same slots i x no_slot h

pub slot-set_other : (slots : List Slot) (i j : ℕ) (x : Slot) → j ≢ i → slot_at (set slots i x) j ≡ slot_at slots j
slot-set_other slots i j x n = get_or-set_other slots i j x no_slot n

pub live-below : (slots : List Slot) (i : ℕ) → (slot_at slots i).live ≡ true → i < length slots
live-below slots i e = elim (cases_lt i (length slots)) [
  | inl a ↦ a
  | inr b ↦ let d = get_or_past slots i no_slot b in absurd (true≢false (sym e ∙ ap (λ (x : Slot). x.live) d))
]

pub first-none : (is : List ℕ) → slice_get is 0 ≡ None → 1 ≤ length is → ⊥
first-none [] e h = omega arith
first-none (j ∷ is) e h = let d : Some j ≡ None = e in absurd (cc)

-- a free slot is taken for a clause at the end
pub AreLaid-add : (room : ℕ) (slots : List Slot) (ids new : Order) (end total i n : ℕ) → AreLaid room slots ids end total → Has ids.free i → new.used ≡ i ∷ ids.used → new.free ≡ without i ids.free → AreApart ids.free → end + n ≤ room
    → AreLaid room (set slots i (record { start = end; len = n; live = true })) new (end + n) (total + n)
AreLaid-add room slots ids new end total i n a h eu ef ap' fits =
    let x : Slot = record { start = end; len = n; live = true } in
    let free : ((slot_at slots i).live ≡ false) × (i < length slots) = a.frees i h in
    let t : ℕ → Slot = slot_at (set slots i x) in
    let here : t i ≡ x = slot-set_here slots i x free.1 in
    let other : (j : ℕ) → Has ids.used j → j ≢ i = λ j u e. true≢false (sym (a.live j u) ∙ ap (λ (k : ℕ). (slot_at slots k).live) e ∙ free.0) in
    let same : (j : ℕ) → Has ids.used j → t j ≡ slot_at slots j = λ j u. slot-set_other slots i j x (other j u) in
    let top = top-same (slot_at slots) t ids.used same in
    let size = size-same (slot_at slots) t ids.used same in
    let hs : (t i).start ≡ end = ap (λ (k : Slot). k.start) here in
    let hl : (t i).len ≡ n = ap (λ (k : Slot). k.len) here in
    let e1 : end ≡ top_of (slot_at slots) ids.used = a.top in
    let e2 : total ≡ size_of (slot_at slots) ids.used = a.whole in
    record {
      stack = rw eu (omega arith, stack-same (slot_at slots) t ids.used same a.stack);
      apart = rw eu (Misses-from i ids.used (λ u. other i u refl), a.apart);
      top = rw eu (omega arith);
      within = fits;
      few = let f : length slots ≤ 4294967295 = a.few in let l = length-set' slots i x in omega arith;
      whole = rw eu (omega arith);
      live = λ j u. elim (rw eu at u) [
        | inl e ↦ ap (λ (k : ℕ). (t k).live) e ∙ ap (λ (k : Slot). k.live) here
        | inr v ↦ ap (λ (k : Slot). k.live) (same j v) ∙ a.live j v
      ];
      lives = λ j l. subst (λ (xs : List ℕ). Has xs j) (sym eu) (elim (cases_eq j i) [
        | inl e ↦ inl e
        | inr m ↦ inr (a.lives j (sym (ap (λ (k : Slot). k.live) (slot-set_other slots i j x m)) ∙ l))
      ]);
      count = let q = length-set' slots i x in let n' = length-without i ids.free h in let k : length slots ≡ length ids.used + length ids.free = a.count in rw (eu, ef) (omega arith);
      frees = λ j u.
          let v = subst (λ (xs : List ℕ). Has xs j) ef u in
          let w : j ≢ i = λ e. without-gone i ids.free ap' (subst (λ (k : ℕ). Has (without i ids.free) k) e v) in
          let old : ((slot_at slots j).live ≡ false) × (j < length slots) = a.frees j (Has-without i j ids.free v) in
          (ap (λ (k : Slot). k.live) (slot-set_other slots i j x w) ∙ old.0, rw length-set' old.1);
    }

-- a clause is taken away
pub AreLaid-delete : (room : ℕ) (slots : List Slot) (ids new : Order) (end total i : ℕ) (x : Slot) → AreLaid room slots ids end total → Has ids.used i → new.used ≡ without i ids.used → new.free ≡ i ∷ ids.free
    → x ≡ record { start = (slot_at slots i).start; len = (slot_at slots i).len; live = false }
    → (top_of (slot_at (set slots i x)) new.used ≤ end)
    × AreLaid room (set slots i x) new (top_of (slot_at (set slots i x)) new.used) (total - (slot_at slots i).len)
AreLaid-delete room slots ids new end total i x a h eu ef ex =
    let s : ℕ → Slot = slot_at slots in
    let il : i < length slots = live-below slots i (a.live i h) in
    let t : ℕ → Slot = slot_at (set slots i x) in
    let here : t i ≡ x = slot-set_here slots i x il in
    let dead : (t i).live ≡ false = ap (λ (k : Slot). k.live) (here ∙ ex) in
    let other : (j : ℕ) → Has (without i ids.used) j → j ≢ i = λ j u e. without-gone i ids.used a.apart (subst (λ (k : ℕ). Has (without i ids.used) k) e u) in
    let same : (j : ℕ) → Has (without i ids.used) j → t j ≡ s j = λ j u. slot-set_other slots i j x (other j u) in
    let top = top-same s t (without i ids.used) same in
    let size = size-same s t (without i ids.used) same in
    let less = top-without s i ids.used a.stack in
    let sum = size-without s i ids.used h in
    let e1 : end ≡ top_of s ids.used = a.top in
    let e2 : total ≡ size_of s ids.used = a.whole in
    let wi : end ≤ room = a.within in
    let below : top_of t new.used ≤ end = rw eu (omega arith) in (
      below,
      record {
        stack = rw eu (stack-same s t (without i ids.used) same (stack-without s i ids.used a.stack));
        apart = rw eu (AreApart-without i ids.used a.apart);
        top = refl;
        within = omega arith;
        few = let f : length slots ≤ 4294967295 = a.few in let l = length-set' slots i x in omega arith;
        whole = rw eu (omega arith);
        live = λ j u. let v = rw eu at u in ap (λ (k : Slot). k.live) (same j v) ∙ a.live j (Has-without i j ids.used v);
        lives = λ j l. subst (λ (xs : List ℕ). Has xs j) (sym eu) (elim (cases_eq j i) [
          | inl e ↦ absurd (true≢false (sym l ∙ ap (λ (k : ℕ). (t k).live) e ∙ dead))
          | inr m ↦ Has-kept i j ids.used (a.lives j (sym (ap (λ (k : Slot). k.live) (slot-set_other slots i j x m)) ∙ l)) m
        ]);
        count = let q = length-set' slots i x in let n' = length-without i ids.used h in let k : length slots ≡ length ids.used + length ids.free = a.count in rw (eu, ef) (omega arith);
        frees = λ j u. elim (subst (λ (xs : List ℕ). Has xs j) ef u) [
          | inl e ↦ (ap (λ (k : ℕ). (t k).live) e ∙ dead, rw (length-set', e) il)
          | inr v ↦
              let old : ((slot_at slots j).live ≡ false) × (j < length slots) = a.frees j v in
              let m : j ≢ i = λ e. true≢false (sym (a.live i h) ∙ ap (λ (k : ℕ). (s k).live) (sym e) ∙ old.0) in
              (ap (λ (k : Slot). k.live) (slot-set_other slots i j x m) ∙ old.0, rw length-set' old.1)
        ];
      },
    )

-- a live clause ends within the row
pub live-within : (room : ℕ) (slots : List Slot) (ids : Order) (end total i : ℕ) → AreLaid room slots ids end total → (slot_at slots i).live ≡ true → (slot_at slots i).start + (slot_at slots i).len ≤ end
live-within room slots ids end total i a l = let d = stack-in (slot_at slots) ids.used i a.stack (a.lives i l) in let e : end ≡ top_of (slot_at slots) ids.used = a.top in omega arith

pub live-room : (room : ℕ) (slots : List Slot) (ids : Order) (end total i : ℕ) → AreLaid room slots ids end total → (slot_at slots i).live ≡ true → (slot_at slots i).start + (slot_at slots i).len ≤ room
live-room room slots ids end total i a l = let d = live-within room slots ids end total i a l in let w : end ≤ room = a.within in omega arith

pub total-within : (room : ℕ) (slots : List Slot) (ids : Order) (end total : ℕ) → AreLaid room slots ids end total → total ≤ end
total-within room slots ids end total a =
    let d = size-top (slot_at slots) ids.used a.stack in let e : end ≡ top_of (slot_at slots) ids.used = a.top in let f : total ≡ size_of (slot_at slots) ids.used = a.whole in omega arith

pub live-total : (room : ℕ) (slots : List Slot) (ids : Order) (end total i : ℕ) → AreLaid room slots ids end total → (slot_at slots i).live ≡ true → (slot_at slots i).len ≤ total
live-total room slots ids end total i a l =
    let d = size-without (slot_at slots) i ids.used (a.lives i l) in let f : total ≡ size_of (slot_at slots) ids.used = a.whole in omega arith

pub used-below : (room : ℕ) (slots : List Slot) (ids : Order) (end total i : ℕ) → AreLaid room slots ids end total → Has ids.used i → i < length slots
used-below room slots ids end total i a u = live-below slots i (a.live i u)

pub below-here : (i j : ℕ) (is : List ℕ) → j ≡ i → below i (j ∷ is) ≡ is
below-here i j is e = grind (arith, nat_tests)

pub below-later : (i j : ℕ) (is : List ℕ) → j ≢ i → below i (j ∷ is) ≡ below i is
below-later i j is e = grind (arith, nat_tests)

pub Has-below' : (i j : ℕ) (is : List ℕ) → Has (below i is) j → Has is j
Has-below' i j [] h = absurd h
Has-below' i j (k ∷ is) h = elim (cases_eq k i) [
  | inl e ↦ inr (subst (λ (xs : List ℕ). Has xs j) (below-here i k is e) h)
  | inr n ↦ inr (Has-below' i j is (subst (λ (xs : List ℕ). Has xs j) (below-later i k is n) h))
]

pub following-below : (i : ℕ) (is : List ℕ) → Has is i → following i is ≡ slice_get (below i is) 0
following-below i [] h = absurd h
following-below i (j ∷ is) h = elim (cases_eq j i) [
  | inl e ↦ following-here i j is e ∙ ap (λ (xs : List ℕ). slice_get xs 0) (sym (below-here i j is e))
  | inr n ↦ following-later i j is n ∙ elim h [
    | inl e ↦ absurd (n (sym e))
    | inr k ↦ following-below i is k
  ] ∙ ap (λ (xs : List ℕ). slice_get xs 0) (sym (below-later i j is n))
]

pub below-top : (s : ℕ → Slot) (i : ℕ) (is : List ℕ) → IsStack s is → Has is i → top_of s (below i is) ≤ (s i).start
below-top s i [] k h = absurd h
below-top s i (j ∷ is) k h = elim (cases_eq j i) [
  | inl e ↦ rw (below-here i j is e, ← e) k.0
  | inr n ↦ rw (below-later i j is n) (elim h [
    | inl e ↦ absurd (n (sym e))
    | inr g ↦ below-top s i is k.1 g
  ])
]

-- one clause of a stack moves down or gets shorter
pub stack-moved : (s t : ℕ → Slot) (i : ℕ) (is : List ℕ) → IsStack s is → AreApart is → Has is i → ((j : ℕ) → j ≢ i → t j ≡ s j)
    → top_of s (below i is) ≤ (t i).start → (t i).start + (t i).len ≤ (s i).start + (s i).len
    → (top_of t is ≤ top_of s is) × IsStack t is
stack-moved s t i [] k a h f b u = absurd h
stack-moved s t i (j ∷ is) k a h f b u =
    let le : top_of s is ≤ (s j).start = k.0 in
    let here : j ≡ i → (top_of t (j ∷ is) ≤ top_of s (j ∷ is)) × IsStack t (j ∷ is) = λ e.
    let same : (m : ℕ) → Has is m → t m ≡ s m = λ m g. f m (λ q. Misses-not j m is a.0 g (e ∙ sym q)) in
    let top = top-same s t is same in
    let b' : top_of s is ≤ (t i).start = rw (← below-here i j is e) b in
    (rw e u, (rw (top, e) b', stack-same s t is same k.1)) in
    elim (cases_eq j i) [
      | inl e ↦ here e
      | inr n ↦ elim h [
        | inl e ↦ here (sym e)
        | inr g ↦
            let r = stack-moved s t i is k.1 a.1 g f (rw (← below-later i j is n) b) u in
            let tj : t j ≡ s j = f j n in
            let r0 : top_of t is ≤ top_of s is = r.0 in
            (rw tj (omega arith), (rw tj (omega arith), r.1))
      ]
    ]

pub AreLaid-moved : (room : ℕ) (slots : List Slot) (ids : Order) (end total total' i : ℕ) (x : Slot) → AreLaid room slots ids end total → Has ids.used i
    → x.live ≡ true → top_of (slot_at slots) (below i ids.used) ≤ x.start → x.start + x.len ≤ (slot_at slots i).start + (slot_at slots i).len
    → total' + (slot_at slots i).len ≡ total + x.len
    → (top_of (slot_at (set slots i x)) ids.used ≤ end)
    × AreLaid room (set slots i x) ids (top_of (slot_at (set slots i x)) ids.used) total'
AreLaid-moved room slots ids end total total' i x a h l b u e =
    let s : ℕ → Slot = slot_at slots in
    let t : ℕ → Slot = slot_at (set slots i x) in
    let il : i < length slots = live-below slots i (a.live i h) in
    let here : t i ≡ x = slot-set_here slots i x il in
    let other : (j : ℕ) → j ≢ i → t j ≡ s j = λ j n. slot-set_other slots i j x n in
    let m = stack-moved s t i ids.used a.stack a.apart h other (rw here b) (rw here u) in
    let top : end ≡ top_of s ids.used = a.top in
    let w : end ≤ room = a.within in
    let le : top_of t ids.used ≤ top_of s ids.used = m.0 in
    let s1 = size-without s i ids.used h in
    let s2 = size-without t i ids.used h in
    let s3 = size-same s t (without i ids.used) (λ j g. other j (λ q. without-gone i ids.used a.apart (subst (λ (k : ℕ). Has (without i ids.used) k) q g))) in
    let len : (t i).len ≡ x.len = ap (λ (k : Slot). k.len) here in
    let whole : total ≡ size_of s ids.used = a.whole in (
      omega arith,
      record {
        stack = m.1;
        apart = a.apart;
        top = refl;
        within = omega arith;
        few = let f : length slots ≤ 4294967295 = a.few in let q = length-set' slots i x in omega arith;
        whole = omega arith;
        live = λ j g. elim (cases_eq j i) [
          | inl q ↦ ap (λ (k : ℕ). (t k).live) q ∙ ap (λ (k : Slot). k.live) here ∙ l
          | inr n ↦ ap (λ (k : Slot). k.live) (other j n) ∙ a.live j g
        ];
        lives = λ j g. elim (cases_eq j i) [
          | inl q ↦ subst (λ (k : ℕ). Has ids.used k) (sym q) h
          | inr n ↦ a.lives j (sym (ap (λ (k : Slot). k.live) (other j n)) ∙ g)
        ];
        count = length-set' slots i x ∙ a.count;
        frees = λ j g.
            let old : ((slot_at slots j).live ≡ false) × (j < length slots) = a.frees j g in
            let n : j ≢ i = λ q. true≢false (sym (a.live i h) ∙ ap (λ (k : ℕ). (s k).live) (sym q) ∙ old.0) in
            (ap (λ (k : Slot). k.live) (other j n) ∙ old.0, rw length-set' old.1);
      },
    )

pub stack-below : (s : ℕ → Slot) (i : ℕ) (is : List ℕ) → IsStack s is → IsStack s (below i is)
stack-below s i [] k = tt
stack-below s i (j ∷ is) k = elim (cases_eq j i) [
  | inl e ↦ rw (below-here i j is e) k.1
  | inr n ↦ rw (below-later i j is n) (stack-below s i is k.1)
]

-- another clause is before one in the row, or after it
pub stack-sides : (s : ℕ → Slot) (i j : ℕ) (is : List ℕ) → IsStack s is → Has is i → Has is j → j ≢ i → ((s j).start + (s j).len ≤ top_of s (below i is)) ⊎ ((s i).start + (s i).len ≤ (s j).start)
stack-sides s i j [] k h g n = absurd h
stack-sides s i j (m ∷ is) k h g n =
    let le : top_of s is ≤ (s m).start = k.0 in
    elim (cases_eq m i) [
      | inl e ↦ rw (below-here i m is e) (elim g [
        | inl f ↦ absurd (n (f ∙ e))
        | inr b ↦ inl (stack-in s is j k.1 b)
      ])
      | inr d ↦ rw (below-later i m is d) (elim h [
        | inl e ↦ absurd (d (sym e))
        | inr a ↦ elim g [
          | inl f ↦ inr (let r = stack-in s is i k.1 a in rw f (omega arith))
          | inr b ↦ stack-sides s i j is k.1 a b n
        ]
      ])
    ]

-- a clause is not before itself
pub below-misses : (i : ℕ) (is : List ℕ) → AreApart is → Has (below i is) i → ⊥
below-misses i [] a h = h
below-misses i (j ∷ is) a h = elim (cases_eq j i) [
  | inl e ↦ Misses-not j i is a.0 (subst (λ (xs : List ℕ). Has xs i) (below-here i j is e) h) e
  | inr n ↦ below-misses i is a.1 (subst (λ (xs : List ℕ). Has xs i) (below-later i j is n) h)
]
