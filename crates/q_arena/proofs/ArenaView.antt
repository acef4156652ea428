-- What a caller sees, after a change of the rows.
use Rattle.std.proofs.Common.{◌≡◌, ℕ, zero, suc, ◌+◌, ◌-◌, ◌<◌, ◌≤◌, List, [], ◌∷◌, length, map, set, get_or, slice_get, None, Some, refl, sym, ◌∙◌, ap, subst, inl, inr, arith}
use Rattle.std.specs.Prelude.{if◌then◌else◌, nat_lt, false}
use Rattle.std.proofs.lemmas.List.FromFn.{length-map-range_with_len, get_or-map-range_with_len}
use Rattle.std.proofs.lemmas.List.{ext_get_or, get_or-set_same, get_or-set_other, get_or_past}
use Rattle.std.proofs.lemmas.Bool.Decides.{nat_tests}
use Rattle.std.proofs.lemmas.Bool.{cases_lt, cases_eq}
use Rattle.q_arena.proofs.ListNeighbours.{following-here, following-later}
use Rattle.q_arena.specs.declared.rings.Link.{Link}
use Rattle.q_arena.specs.Nodes.{node_at, turned, base, blank, IsTagged}
use Rattle.q_arena.specs.Rings.{IsRelisted, IsPath, walk, Has, AreApart, AreBelow, IsRing, AreRings, AreSound, rings_of, with_list}
use Rattle.q_arena.specs.Chains.{lists_of, tags_of, following}
use Rattle.q_arena.proofs.RingLemmas.{AreRings-tagged, Has-below, AreRings-own, ring-is, with_list-here, with_list-other}

pub node_at-head : (places heads : List Link) (l : ℕ) → node_at places heads (base + l) ≡ turned (base + l) (get_or heads l blank)
node_at-head places heads l =
    let e : nat_lt (base + l) base ≡ false = grind (arith, nat_tests) in
    let m : base + l - base ≡ l = omega arith in
    rw (e, m) refl

pub node_at-place : (places heads : List Link) (k : ℕ) → k < base → node_at places heads k ≡ get_or places k blank
node_at-place places heads k h = grind (arith, nat_tests)

module _ {X Y : Type 0} (f : X → Y) (d : X) where
  pub get_or-mapped : (xs : List X) (i : ℕ) → get_or (map f xs) i (f d) ≡ f (get_or xs i d)
  get_or-mapped [] i = refl
  get_or-mapped (x ∷ xs) zero = refl
  get_or-mapped (x ∷ xs) (suc i) = get_or-mapped xs i

  pub length-mapped : (xs : List X) → length (map f xs) ≡ length xs
  length-mapped [] = refl
  length-mapped (x ∷ xs) = ap suc (length-mapped xs)

-- past the heads there is nothing
pub ring-past : (places heads : List Link) (l : ℕ) → length heads ≤ l → rings_of (node_at places heads) base l ≡ []
ring-past places heads l h =
    let s : ℕ → Link = node_at places heads in
    let e : s (base + l) ≡ turned (base + l) blank = node_at-head places heads l ∙ ap (λ (k : Link). turned (base + l) k) (get_or_past heads l blank h) in
    ap (λ (k : Link). walk s k.tag k.next) e

pub length-lists : (places heads : List Link) → length (lists_of places heads) ≡ length heads
length-lists places heads = length-map-range_with_len (λ l. rings_of (node_at places heads) base l) 0 (length heads)

pub list-is : (places heads : List Link) (l : ℕ) → get_or (lists_of places heads) l [] ≡ rings_of (node_at places heads) base l
list-is places heads l = elim (cases_lt l (length heads)) [
  | inl a ↦ get_or-map-range_with_len (λ l. rings_of (node_at places heads) base l) 0 (length heads) l l [] a (omega arith)
  | inr b ↦ get_or_past (lists_of places heads) l [] (rw length-lists b) ∙ sym (ring-past places heads l b)
]

pub length-tags : (places : List Link) → length (tags_of places) ≡ length places
length-tags places = length-mapped (λ k. k.tag) blank places

pub length-set' : {X : Type 0} (xs : List X) (i : ℕ) (x : X) → length (set xs i x) ≡ length xs
length-set' [] i x = refl
length-set' (y ∷ ys) zero x = refl
length-set' (y ∷ ys) (suc i) x = ap suc (length-set' ys i x)

-- a head's list is another one, and no other list is changed
pub lists-with : (p h q g : List Link) (room l : ℕ) (ys : List ℕ) → length g ≡ length h → l < length h
    → AreRings (node_at q g) base room (length h) (with_list (rings_of (node_at p h) base) l ys)
    → lists_of q g ≡ set (lists_of p h) l ys
lists-with p h q g room l ys e lh r =
    let n = length-lists p h in
    let m = length-lists q g in
    ext_get_or [] (lists_of q g) (set (lists_of p h) l ys) (rw length-set' (m ∙ e ∙ sym n)) (λ i ih.
    let ig : i < length h = omega (arith, ih, m, e) in
    let is : get_or (lists_of q g) i [] ≡ with_list (rings_of (node_at p h) base) l ys i =
    list-is q g i ∙ ring-is (node_at q g) base room (length h) (with_list (rings_of (node_at p h) base) l ys) r i ig in
    elim (cases_eq i l) [
      | inl x ↦ is ∙ with_list-here (rings_of (node_at p h) base) l i ys x ∙ sym (subst (λ (k : ℕ). get_or (set (lists_of p h) l ys) k [] ≡ ys) (sym x) (get_or-set_same (lists_of p h) l ys [] (omega (arith, n, lh))))
      | inr x ↦ is ∙ with_list-other (rings_of (node_at p h) base) l i ys x ∙ sym (list-is p h i) ∙ sym (get_or-set_other (lists_of p h) l i ys [] x)
    ])

-- equal tags of places, equal owners
pub tags-same : (p h q g : List Link) → length q ≡ length p → length p ≤ base → ((k : ℕ) → k < base → (node_at q g k).tag ≡ (node_at p h k).tag) → tags_of q ≡ tags_of p
tags-same p h q g e few f =
    let n = length-tags p in
    let m = length-tags q in
    ext_get_or 0 (tags_of q) (tags_of p) (m ∙ e ∙ sym n) (λ i ih.
    let ib : i < base = omega (arith, ih, m, e, few) in
    let tag : Link → ℕ = λ k. k.tag in
    get_or-mapped tag blank q i ∙ ap tag (sym (node_at-place q g i ib)) ∙ f i ib ∙ ap tag (node_at-place p h i ib) ∙ sym (get_or-mapped tag blank p i))

pub tags-set : (p h q g r f : List Link) (a n : ℕ) → length q ≡ length p → length r ≡ length p → length p ≤ base → a < length p → ((k : ℕ) → k < base → (node_at q g k).tag ≡ (node_at p h k).tag) → IsTagged (node_at q g) (node_at r f) a n → tags_of r ≡ set (tags_of p) a n
tags-set p h q g r f a n e e' few al same t =
    let lp = length-tags p in
    let lr = length-tags r in
    ext_get_or 0 (tags_of r) (set (tags_of p) a n) (rw length-set' (lr ∙ e' ∙ sym lp)) (λ i ih.
    let ib : i < base = omega (arith, ih, lr, e', few) in
    let tag : Link → ℕ = λ k. k.tag in
    let is : get_or (tags_of r) i 0 ≡ (node_at r f i).tag = get_or-mapped tag blank r i ∙ ap tag (sym (node_at-place r f i ib)) in
    let was : get_or (tags_of p) i 0 ≡ (node_at p h i).tag = get_or-mapped tag blank p i ∙ ap tag (sym (node_at-place p h i ib)) in
    let tagged = t.tag i in
    let before = same i ib in
    elim (cases_eq i a) [
      | inl x ↦
          let here : (node_at r f i).tag ≡ n = grind (arith, nat_tests, tagged, x) in
          is ∙ here ∙ sym (subst (λ (k : ℕ). get_or (set (tags_of p) a n) k 0 ≡ n) (sym x) (get_or-set_same (tags_of p) a n 0 (omega (arith, lp, al))))
      | inr x ↦
          let there : (node_at r f i).tag ≡ (node_at q g i).tag = grind (arith, nat_tests, tagged, x) in
          is ∙ there ∙ before ∙ sym was ∙ sym (get_or-set_other (tags_of p) a i n 0 x)
    ])

-- the rows hold lists again
pub AreSound-with : (p h q g : List Link) (L : ℕ → List ℕ) → AreSound p h → length q ≡ length p → length g ≡ length h → AreRings (node_at q g) base (length p) (length h) L → AreSound q g
AreSound-with p h q g L s e e' r = record {
  rings = rw (e, e') (AreRings-own (node_at q g) base (length p) (length h) L r);
  few_places = rw e s.few_places;
  few_heads = rw e' s.few_heads;
}

-- one list is another one; then a place may have got an owner
module _ {p h q g : List Link} {l : ℕ} {ys : List ℕ} (s : AreSound p h) (m : IsRelisted p h q g l ys) where
  pub relisted-sound : AreSound q g
  relisted-sound = AreSound-with p h q g (with_list (rings_of (node_at p h) base) l ys) s m.places m.heads m.rings

  pub relisted-lists : l < length h → lists_of q g ≡ set (lists_of p h) l ys
  relisted-lists lh = lists-with p h q g (length p) l ys m.heads lh m.rings

  pub relisted-owners : tags_of q ≡ tags_of p
  relisted-owners = tags-same p h q g m.places s.few_places m.tags

  module _ (r f : List Link) {a n : ℕ} (t : IsTagged (node_at q g) (node_at r f) a n) (er : length r ≡ length q) (ef : length f ≡ length g) (al : a < length (tags_of p)) where
    place : a < length p
    place = let e = length-tags p in omega arith

    owned : AreRings (node_at r f) base (length p) (length h) (with_list (rings_of (node_at p h) base) l ys)
    owned = AreRings-tagged (node_at q g) (node_at r f) base (length p) (length h) (with_list (rings_of (node_at p h) base) l ys) a n m.rings t (let i = place in let few : length p ≤ base = s.few_places in omega arith)

    pub owned-sound : AreSound r f
    owned-sound = AreSound-with p h r f (with_list (rings_of (node_at p h) base) l ys) s (er ∙ m.places) (ef ∙ m.heads) owned

    pub owned-lists : l < length h → lists_of r f ≡ set (lists_of p h) l ys
    owned-lists lh = lists-with p h r f (length p) l ys (ef ∙ m.heads) lh owned

    pub owned-owners : tags_of r ≡ set (tags_of p) a n
    owned-owners = tags-set p h q g r f a n m.places (er ∙ m.places) s.few_places place m.tags t

-- a place of a list is below the room, and its head is one
pub Has-head : (places heads : List Link) (l p : ℕ) → Has (get_or (lists_of places heads) l []) p → l < length heads
Has-head places heads l p h = elim (cases_lt l (length heads)) [
  | inl a ↦ a
  | inr b ↦ absurd (subst (λ (xs : List ℕ). Has xs p) (get_or_past (lists_of places heads) l [] (rw length-lists b)) h)
]

-- the first of a way, and what follows one of it
first-of : (s : ℕ → Link) (b room x : ℕ) (ys : List ℕ) (z : ℕ) → room ≤ b → b ≤ z → AreBelow room ys → IsPath s x ys z → slice_get ys 0 ≡ (if nat_lt (s x).next b then Some (s x).next else None)
first-of s b room x [] z rb bz w p = let e : (s x).next ≡ z = p.0 in grind (arith, nat_tests)
first-of s b room x (y ∷ ys) z rb bz w p = let e : (s x).next ≡ y = p.0 in let lt : y < room = w.0 in let o : slice_get (y ∷ ys) 0 ≡ Some y = refl in grind (arith, nat_tests)

following-of : (s : ℕ → Link) (b room x : ℕ) (ys : List ℕ) (z p : ℕ) → room ≤ b → b ≤ z → AreBelow room ys → AreApart ys → Has ys p → IsPath s x ys z → following p ys ≡ (if nat_lt (s p).next b then Some (s p).next else None)
following-of s b room x [] z p rb bz w a h k = absurd h
following-of s b room x (y ∷ ys) z p rb bz w a h k =
    let here : y ≡ p → following p (y ∷ ys) ≡ (if nat_lt (s p).next b then Some (s p).next else None) = λ e.
    let f = first-of s b room p ys z rb bz w.1 (subst (λ (i : ℕ). IsPath s i ys z) e k.2) in
    let d : following p (y ∷ ys) ≡ slice_get ys 0 = following-here p y ys e in
    d ∙ f in
    elim (cases_eq y p) [
      | inl e ↦ here e
      | inr n ↦ elim h [
        | inl e ↦ here (sym e)
        | inr i ↦ following-later p y ys n ∙ following-of s b room y ys z p rb bz w.1 a.1 i k.2
      ]
    ]

module _ (places heads : List Link) (s : AreSound places heads) where
  few : length places ≤ base
  few = let h : length places ≤ base = s.few_places in omega arith

  the-ring : (l : ℕ) → l < length heads → IsRing (node_at places heads) (length places) (base + l) (rings_of (node_at places heads) base l)
  the-ring l lh = s.rings.each l lh

  pub count-is : (l : ℕ) → l < length heads → (get_or heads l blank).tag ≡ length (get_or (lists_of places heads) l [])
  count-is l lh =
      let r : IsRing (node_at places heads) (length places) (base + l) (rings_of (node_at places heads) base l) = the-ring l lh in
      ap (λ (k : Link). k.tag) (sym (node_at-head places heads l)) ∙ r.count ∙ ap length (sym (list-is places heads l))

  pub first-is : (l : ℕ) → l < length heads → slice_get (get_or (lists_of places heads) l []) 0 ≡ (if nat_lt (turned (base + l) (get_or heads l blank)).next base then Some (turned (base + l) (get_or heads l blank)).next else None)
  first-is l lh =
      let ys : List ℕ = rings_of (node_at places heads) base l in
      let r : IsRing (node_at places heads) (length places) (base + l) ys = the-ring l lh in
      let f = first-of (node_at places heads) base (length places) (base + l) ys (base + l) few (omega arith) r.below r.path in
      ap (λ (xs : List ℕ). slice_get xs 0) (list-is places heads l) ∙ f ∙ ap (λ (k : Link). if nat_lt k.next base then Some k.next else None) (node_at-head places heads l)

  pub place-in : (l p : ℕ) → Has (get_or (lists_of places heads) l []) p → p < length places
  place-in l p h =
      let lh = Has-head places heads l p h in
      Has-below (length places) p (rings_of (node_at places heads) base l) (the-ring l lh).below (subst (λ (xs : List ℕ). Has xs p) (list-is places heads l) h)

  pub following-is : (l p : ℕ) → Has (get_or (lists_of places heads) l []) p → following p (get_or (lists_of places heads) l []) ≡ (if nat_lt (get_or places p blank).next base then Some (get_or places p blank).next else None)
  following-is l p h =
      let ys : List ℕ = rings_of (node_at places heads) base l in
      let lh = Has-head places heads l p h in
      let i = subst (λ (xs : List ℕ). Has xs p) (list-is places heads l) h in
      let r : IsRing (node_at places heads) (length places) (base + l) ys = the-ring l lh in
      let f = following-of (node_at places heads) base (length places) (base + l) ys (base + l) p few (omega arith) r.below r.apart i r.path in
      let pb : p < base = (let x = place-in l p h in let y = few in omega arith) in
      ap (λ (xs : List ℕ). following p xs) (list-is places heads l) ∙ f ∙ ap (λ (k : Link). if nat_lt k.next base then Some k.next else None) (node_at-place places heads p pb)

  pub lists-apart : (l : ℕ) → AreApart (get_or (lists_of places heads) l [])
  lists-apart l = elim (cases_lt l (length heads)) [
    | inl lh ↦ subst (λ (xs : List ℕ). AreApart xs) (sym (list-is places heads l)) (the-ring l lh).apart
    | inr b ↦ subst (λ (xs : List ℕ). AreApart xs) (sym (get_or_past (lists_of places heads) l [] (rw length-lists b))) tt
  ]

  pub lists-one : (l m p : ℕ) → Has (get_or (lists_of places heads) l []) p → Has (get_or (lists_of places heads) m []) p → l ≡ m
  lists-one l m p h k =
      s.rings.one l m p (Has-head places heads l p h) (Has-head places heads m p k)
      (subst (λ (xs : List ℕ). Has xs p) (list-is places heads l) h)
      (subst (λ (xs : List ℕ). Has xs p) (list-is places heads m) k)
