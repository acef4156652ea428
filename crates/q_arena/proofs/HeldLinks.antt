-- Links of nodes where that of one head is at hand.
use Rattle.std.proofs.Common.{◌≡◌, ◌≢◌, ℕ, ◌+◌, ◌-◌, ◌<◌, ◌≤◌, List, length, set, refl, sym, ◌∙◌, ap, subst, inl, inr, arith}
use Rattle.std.specs.Prelude.{if◌then◌else◌, ◌==◌}
use Rattle.std.specs.Int.RustNames.{bit_xor}
use Rattle.std.proofs.lemmas.Grind.{common_steps}
use Rattle.std.proofs.lemmas.List.{get_or-set_same, get_or-set_other}
use Rattle.std.proofs.lemmas.Bool.Decides.{nat_tests}
use Rattle.std.proofs.lemmas.Bool.{cases_lt, cases_eq}
use Rattle.q_arena.specs.declared.rings.Link.{Link}
use Rattle.q_arena.specs.Nodes.{node_at, turned, held, with_follower, with_leader, IsPut, IsJoined, IsTagged, base, blank}
use Rattle.q_arena.proofs.ArenaView.{node_at-head, node_at-place}

-- the second node made to follow the first
abbrev pub joined : (ℕ → Link) → ℕ → ℕ → ℕ → Link
joined s a b k = record { next = if k == a then b else (s k).next; prev = if k == b then a else (s k).prev; tag = (s k).tag }

pub joined-is : (s : ℕ → Link) (a b : ℕ) → IsJoined s (joined s a b) a b
joined-is s a b = record { next = λ k. refl; prev = λ k. refl; tag = λ k. refl }

-- a place gets a link
pub IsPut-place : (p h : List Link) (a : ℕ) (x : Link) → a < length p → length p ≤ base → IsPut (node_at p h) (node_at (set p a x) h) a x
IsPut-place p h a x l few k = elim (cases_eq k a) [
  | inl e ↦ let q = get_or-set_same p a x blank l in grind (arith, nat_tests, q)
  | inr n ↦ let q = get_or-set_other p a k x blank n in grind (arith, nat_tests, q)
]

pub held-here : (p h : List Link) (own k : ℕ) (a : Link) → k ≡ own → held p h own a k ≡ a
held-here p h own k a e = grind (arith, nat_tests)

pub held-other : (p h : List Link) (own k : ℕ) (a : Link) → k ≢ own → held p h own a k ≡ node_at p h k
held-other p h own k a n = grind (arith, nat_tests)

-- the head gets a link
pub IsPut-own : (p h : List Link) (own : ℕ) (a b : Link) → IsPut (held p h own a) (held p h own b) own b
IsPut-own p h own a b k = elim (cases_eq k own) [
  | inl e ↦ grind (arith, nat_tests)
  | inr n ↦ grind (arith, nat_tests)
]

-- a place gets one
pub IsPut-held : (p h : List Link) (own : ℕ) (a : Link) (place : ℕ) (x : Link) → own ≢ place → place < length p → length p ≤ base → IsPut (held p h own a) (held (set p place x) h own a) place x
IsPut-held p h own a place x d l few k = let e = IsPut-place p h place x l few k in elim (cases_eq k own) [
  | inl i ↦ grind (arith, nat_tests)
  | inr n ↦ held-other (set p place x) h own k a n ∙ e ∙ ap (λ (y : Link). if k == place then x else y) (sym (held-other p h own k a n))
]

turned-back : (v : ℕ) (b : Link) → turned v (turned v b) ≡ b
turned-back v b =
    let e : bit_xor (bit_xor b.next v) v ≡ b.next = grind (arith, common_steps) in
    let f : bit_xor (bit_xor b.prev v) v ≡ b.prev = grind (arith, common_steps) in
    rw (e, f) refl

-- the head's link is written
pub node_at-held : (q h : List Link) (l : ℕ) (b : Link) → l < length h → (k : ℕ) → node_at q (set h l (turned (base + l) b)) k ≡ held q h (base + l) b k
node_at-held q h l b lh k = elim (cases_eq k (base + l)) [
  | inl e ↦ ap (λ (i : ℕ). node_at q (set h l (turned (base + l) b)) i) e
      ∙ node_at-head q (set h l (turned (base + l) b)) l
      ∙ ap (λ (y : Link). turned (base + l) y) (get_or-set_same h l (turned (base + l) b) blank lh)
      ∙ turned-back (base + l) b
      ∙ sym (held-here q h (base + l) k b e)
  | inr n ↦ elim (cases_lt k base) [
    | inl x ↦ node_at-place q (set h l (turned (base + l) b)) k x ∙ sym (node_at-place q h k x) ∙ sym (held-other q h (base + l) k b n)
    | inr x ↦ let e = get_or-set_other h l (k - base) (turned (base + l) b) blank (omega arith) in grind (arith, nat_tests, e)
  ]
]

-- what stands at the end of a push in front, between rows that are written one node after another
pub IsTagged-front : (s m n w v : ℕ → Link) (own place : ℕ) (a x : Link) → own ≢ place
    → a ≡ record { next = place; prev = (s own).prev; tag = (s own).tag + 1 }
    → x ≡ record { next = (s own).next; prev = own; tag = (s place).tag }
    → IsPut s m own a → IsPut m n place x → IsPut n w (s own).next (with_leader (n (s own).next) place) → ((k : ℕ) → v k ≡ w k)
    → IsTagged (joined (joined s own place) place (s own).next) v own ((s own).tag + 1)
IsTagged-front s m n w v own place a x d ea ex p q r e = record {
  next = λ k. let i = p k in let j = q k in let o = r k in let z = e k in grind (arith, nat_tests);
  prev = λ k. let i = p k in let j = q k in let o = r k in let z = e k in grind (arith, nat_tests);
  tag = λ k. let i = p k in let j = q k in let o = r k in let z = e k in grind (arith, nat_tests);
}

pub IsTagged-after : (s m n u w v : ℕ → Link) (own after place : ℕ) (a x : Link) → own ≢ place → own ≢ after
    → a ≡ record { next = (s own).next; prev = (s own).prev; tag = (s own).tag + 1 }
    → x ≡ record { next = (s after).next; prev = after; tag = (n place).tag }
    → IsPut s m own a → IsPut m n after (with_follower (m after) place) → IsPut n u place x → IsPut u w (s after).next (with_leader (u (s after).next) place) → ((k : ℕ) → v k ≡ w k)
    → IsTagged (joined (joined s after place) place (s after).next) v own ((s own).tag + 1)
IsTagged-after s m n u w v own after place a x d d' ea ex p q r t e = record {
  next = λ k. let i = p k in let j = q k in let y = r k in let o = t k in let z = e k in grind (arith, nat_tests);
  prev = λ k. let i = p k in let j = q k in let y = r k in let o = t k in let z = e k in grind (arith, nat_tests);
  tag = λ k. let i = p k in let j = q k in let y = r k in let o = t k in let z = e k in grind (arith, nat_tests);
}

pub IsTagged-out : (s m n w v : ℕ → Link) (own before behind c : ℕ) (a : Link)
    → a ≡ record { next = (s own).next; prev = (s own).prev; tag = c }
    → IsPut s m own a → IsPut m n before (with_follower (m before) behind) → IsPut n w behind (with_leader (n behind) before) → ((k : ℕ) → v k ≡ w k)
    → IsTagged (joined s before behind) v own c
IsTagged-out s m n w v own before behind c a ea p q r e = record {
  next = λ k. let i = p k in let j = q k in let o = r k in let z = e k in grind (arith, nat_tests);
  prev = λ k. let i = p k in let j = q k in let o = r k in let z = e k in grind (arith, nat_tests);
  tag = λ k. let i = p k in let j = q k in let o = r k in let z = e k in grind (arith, nat_tests);
}

module _ (p h : List Link) (l : ℕ) (lh : l < length h) (few : length p ≤ base) where
  pub front-steps : (q r g : List Link) (place : ℕ) (link seen b y : Link) → place < length p
      → link ≡ node_at p h (base + l) → seen ≡ node_at p h place
      → q ≡ set p place (record { next = link.next; prev = base + l; tag = seen.tag })
      → IsPut (held q h (base + l) (record { next = place; prev = link.prev; tag = link.tag + 1 })) (held r h (base + l) b) link.next (with_leader (held q h (base + l) (record { next = place; prev = link.prev; tag = link.tag + 1 }) link.next) place)
      → y ≡ turned (base + l) b → g ≡ set h l y
      → IsTagged (joined (joined (node_at p h) (base + l) place) place (node_at p h (base + l)).next) (node_at r g) (base + l) ((node_at p h (base + l)).tag + 1)
  front-steps q r g place link seen b y pr el es eq put ey eg =
      let own = base + l in
      let d : base + l ≢ place = λ e. absurd (omega arith) in
      let a : Link = record { next = place; prev = link.prev; tag = link.tag + 1 } in
      let x : Link = record { next = link.next; prev = base + l; tag = seen.tag } in
      IsTagged-front (node_at p h) (held p h (base + l) a) (held q h (base + l) a) (held r h (base + l) b) (node_at r g) (base + l) place a x d
      (ap (λ (k : Link). record { next = place; prev = k.prev; tag = k.tag + 1 }) el)
      (ap (λ (k : Link). record { next = k.next; prev = base + l; tag = seen.tag }) el ∙ ap (λ (k : Link). record { next = (node_at p h (base + l)).next; prev = base + l; tag = k.tag }) es)
      (λ k. refl)
      (rw eq (IsPut-held p h (base + l) a place x d pr few))
      (subst (λ (k : Link). IsPut (held q h (base + l) a) (held r h (base + l) b) k.next (with_leader (held q h (base + l) a k.next) place)) el put)
      (λ k. rw (eg, ey) (node_at-held r h l b lh k))

  pub after-steps : (o q r g : List Link) (after place : ℕ) (link before seen a b y : Link) → after < length p → length o ≡ length p → place < length p
      → link ≡ node_at p h (base + l) → before ≡ node_at p h after
      → IsPut (held p h (base + l) (record { next = link.next; prev = link.prev; tag = link.tag + 1 })) (held o h (base + l) a) after (with_follower (held p h (base + l) (record { next = link.next; prev = link.prev; tag = link.tag + 1 }) after) place)
      → seen ≡ node_at o h place
      → q ≡ set o place (record { next = before.next; prev = after; tag = seen.tag })
      → IsPut (held q h (base + l) a) (held r h (base + l) b) before.next (with_leader (held q h (base + l) a before.next) place)
      → y ≡ turned (base + l) b → g ≡ set h l y
      → IsTagged (joined (joined (node_at p h) after place) place (node_at p h after).next) (node_at r g) (base + l) ((node_at p h (base + l)).tag + 1)
  after-steps o q r g after place link before seen a b y al long pr el eb first es eq put ey eg =
      let d : base + l ≢ place = λ e. absurd (omega arith) in
      let d' : base + l ≢ after = λ e. absurd (omega arith) in
      let c : Link = record { next = link.next; prev = link.prev; tag = link.tag + 1 } in
      let x : Link = record { next = before.next; prev = after; tag = seen.tag } in
      IsTagged-after (node_at p h) (held p h (base + l) c) (held o h (base + l) a) (held q h (base + l) a) (held r h (base + l) b) (node_at r g) (base + l) after place c x d d'
      (ap (λ (k : Link). record { next = k.next; prev = k.prev; tag = k.tag + 1 }) el)
      (ap (λ (k : Link). record { next = k.next; prev = after; tag = seen.tag }) eb ∙ ap (λ (k : Link). record { next = (node_at p h after).next; prev = after; tag = k.tag }) (es ∙ sym (held-other o h (base + l) place a (λ e. d (sym e)))))
      (λ k. refl)
      first
      (rw eq (IsPut-held o h (base + l) a place x d (omega (arith, long, pr)) (omega (arith, long, few))))
      (subst (λ (k : Link). IsPut (held q h (base + l) a) (held r h (base + l) b) k.next (with_leader (held q h (base + l) a k.next) place)) eb put)
      (λ k. rw (eg, ey) (node_at-held r h l b lh k))

  pub out-steps : (q r g : List Link) (n place : ℕ) (link seen a b y : Link)
      → link ≡ node_at p h (base + l) → seen ≡ node_at p h place
      → IsPut (held p h (base + l) (record { next = link.next; prev = link.prev; tag = n })) (held q h (base + l) a) seen.prev (with_follower (held p h (base + l) (record { next = link.next; prev = link.prev; tag = n }) seen.prev) seen.next)
      → IsPut (held q h (base + l) a) (held r h (base + l) b) seen.next (with_leader (held q h (base + l) a seen.next) seen.prev)
      → y ≡ turned (base + l) b → g ≡ set h l y
      → IsTagged (joined (node_at p h) (node_at p h place).prev (node_at p h place).next) (node_at r g) (base + l) n
  out-steps q r g n place link seen a b y el es first put ey eg =
      let c : Link = record { next = link.next; prev = link.prev; tag = n } in
      subst (λ (k : Link). IsTagged (joined (node_at p h) k.prev k.next) (node_at r g) (base + l) n) es
      (IsTagged-out (node_at p h) (held p h (base + l) c) (held q h (base + l) a) (held r h (base + l) b) (node_at r g) (base + l) seen.prev seen.next n c
      (ap (λ (k : Link). record { next = k.next; prev = k.prev; tag = n }) el)
      (λ k. refl)
      first
      put
      (λ k. rw (eg, ey) (node_at-held r h l b lh k)))
