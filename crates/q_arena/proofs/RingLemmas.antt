-- Rings under a push in front and a removal.
use Rattle.std.proofs.Common.{◌≡◌, ◌≢◌, ◌⊎◌, ℕ, zero, suc, ◌+◌, ◌<◌, ◌≤◌, List, [], ◌∷◌, length, refl, sym, ◌∙◌, ap, subst, inl, inr, arith}
use Rattle.std.proofs.lemmas.Bool.Decides.{nat_tests}
use Rattle.std.proofs.lemmas.Bool.{cases_eq}
use Rattle.q_arena.specs.declared.rings.Link.{Link}
use Rattle.q_arena.specs.Nodes.{IsJoined, IsTagged}
use Rattle.q_arena.specs.Rings.{IsPath, walk, Has, Misses, AreApart, AreBelow, without, IsRing, AreRings, rings_of, with_list}
use Rattle.q_arena.proofs.RingPaths.{Misses-not, Misses-from, IsPath-kept, IsPath-along, walk-path, prev_in, next_in, without-first, without-later, IsPath-without, IsPath-with}

pub Has-below : (n k : ℕ) (ys : List ℕ) → AreBelow n ys → Has ys k → k < n
Has-below n k [] b h = absurd h
Has-below n k (y ∷ ys) b (inl e) = rw e b.0
Has-below n k (y ∷ ys) b (inr h) = Has-below n k ys b.1 h

pub Misses-below : (n h : ℕ) (ys : List ℕ) → n ≤ h → AreBelow n ys → Misses h ys
Misses-below n h [] l b = tt
Misses-below n h (y ∷ ys) l b = (λ e. let lt : y < n = b.0 in absurd (omega arith), Misses-below n h ys l b.1)

pub first_in : (s : ℕ → Link) (x : ℕ) (ys : List ℕ) (z : ℕ) → IsPath s x ys z → Has ys (s x).next ⊎ ((s x).next ≡ z)
first_in s x [] z p = inr p.0
first_in s x (y ∷ ys) z p = inl (inl p.0)

pub with_list-here : (L : ℕ → List ℕ) (l m : ℕ) (ys : List ℕ) → m ≡ l → with_list L l ys m ≡ ys
with_list-here L l m ys e = grind (arith, nat_tests)

pub with_list-other : (L : ℕ → List ℕ) (l m : ℕ) (ys : List ℕ) → m ≢ l → with_list L l ys m ≡ L m
with_list-other L l m ys n = grind (arith, nat_tests)

-- each place of the new list is of the old one, or of none
pub one_with : (heads l : ℕ) (L : ℕ → List ℕ) (ys : List ℕ) → l < heads
    → ((k m p : ℕ) → k < heads → m < heads → Has (L k) p → Has (L m) p → k ≡ m)
    → ((q : ℕ) → Has ys q → Has (L l) q ⊎ ((m : ℕ) → m < heads → Has (L m) q → ⊥))
    → (k m p : ℕ) → k < heads → m < heads → Has (with_list L l ys k) p → Has (with_list L l ys m) p → k ≡ m
one_with heads l L ys lh one new k m p kh mh a b =
    let at' : (i : ℕ) → i ≢ l → Has (with_list L l ys i) p → Has (L i) p = λ i n h. subst (λ (xs : List ℕ). Has xs p) (with_list-other L l i ys n) h in
    let in' : (i : ℕ) → i ≡ l → Has (with_list L l ys i) p → Has ys p = λ i n h. subst (λ (xs : List ℕ). Has xs p) (with_list-here L l i ys n) h in
    let both : (i j : ℕ) → i ≡ l → j ≢ l → i < heads → j < heads → Has ys p → Has (L j) p → i ≡ j = λ i j e n ih jh x y. elim (new p x) [
      | inl o ↦ absurd (n (sym (one l j p lh jh o y)))
      | inr f ↦ absurd (f j jh y)
    ] in
    elim (cases_eq k l) [
      | inl e ↦ elim (cases_eq m l) [
        | inl f ↦ e ∙ sym f
        | inr f ↦ both k m e f kh mh (in' k e a) (at' m f b)
      ]
      | inr e ↦ elim (cases_eq m l) [
        | inl f ↦ sym (both m k f e mh kh (in' m f b) (at' k e a))
        | inr f ↦ one k m p kh mh (at' k e a) (at' m f b)
      ]
    ]

-- what is on one ring is off another
pub off : (s : ℕ → Link) (base room heads : ℕ) (L : ℕ → List ℕ) → AreRings s base room heads L → room ≤ base → (l m k : ℕ) → l < heads → m < heads → m ≢ l → Has (L l) k ⊎ (k ≡ base + l) → (base + m ≢ k) × Misses k (L m)
off s base room heads L r rb l m k lh mh n (inl h) =
    let lt : k < room = Has-below room k (L l) (r.each l lh).below h in
    (λ e. absurd (omega arith), Misses-from k (L m) (λ g. n (sym (r.one l m k lh mh h g))))
off s base room heads L r rb l m k lh mh n (inr e) =
    (λ f. n (omega arith), Misses-below room k (L m) (omega arith) (r.each m mh).below)

-- a place in no list is off each
pub off_new : (s : ℕ → Link) (base room heads : ℕ) (L : ℕ → List ℕ) → room ≤ base → (p : ℕ) → p < room → ((m : ℕ) → m < heads → Has (L m) p → ⊥) → (m : ℕ) → m < heads → (base + m ≢ p) × Misses p (L m)
off_new s base room heads L rb p pr f m mh = (λ e. absurd (omega arith), Misses-from p (L m) (f m mh))

pub IsRing-kept : (s t : ℕ → Link) (room h : ℕ) (ys : List ℕ) (a b : ℕ) → IsJoined s t a b → (h ≢ a) × Misses a ys → (h ≢ b) × Misses b ys → IsRing s room h ys → IsRing t room h ys
IsRing-kept s t room h ys a b j x y r = record {
  path = IsPath-kept s t a b j h ys h x.0 x.1 y.1 (λ e. y.0 (sym e)) r.path;
  count = j.tag h ∙ r.count;
  apart = r.apart;
  below = r.below;
}

pub IsRing-tagged : (s t : ℕ → Link) (room h : ℕ) (ys : List ℕ) (a n : ℕ) → IsTagged s t a n → h ≢ a → IsRing s room h ys → IsRing t room h ys
IsRing-tagged s t room h ys a n g x r = record {
  path = IsPath-along s t g.next g.prev h ys h r.path;
  count = let e = g.tag h in let c = r.count in grind (arith, nat_tests);
  apart = r.apart;
  below = r.below;
}

pub AreRings-tagged : (s t : ℕ → Link) (base room heads : ℕ) (L : ℕ → List ℕ) (a n : ℕ) → AreRings s base room heads L → IsTagged s t a n → a < base → AreRings t base room heads L
AreRings-tagged s t base room heads L a n r g ab = record {
  each = λ m mh. IsRing-tagged s t room (base + m) (L m) a n g (λ e. absurd (omega arith)) (r.each m mh);
  one = r.one;
}

pub tag-kept : (s t : ℕ → Link) (base l n k : ℕ) → IsTagged s t (base + l) n → k < base → (t k).tag ≡ (s k).tag
tag-kept s t base l n k g h = let e = g.tag k in grind (arith, nat_tests)

pub tag_here : (s t : ℕ → Link) (a n : ℕ) → IsTagged s t a n → (t a).tag ≡ n
tag_here s t a n g = let e = g.tag a in grind (arith, nat_tests)

-- a place is put in front of a list
pub AreRings-with : (s t u v : ℕ → Link) (base room heads : ℕ) (L : ℕ → List ℕ) (l p : ℕ)
    → AreRings s base room heads L → room ≤ base → l < heads → p < room
    → ((m : ℕ) → m < heads → Has (L m) p → ⊥)
    → IsJoined s t (base + l) p → IsJoined t u p (s (base + l)).next → IsTagged u v (base + l) ((s (base + l)).tag + 1)
    → AreRings v base room heads (with_list L l (p ∷ L l))
AreRings-with s t u v base room heads L l p r rb lh pr f j k g =
    let old : IsRing s room (base + l) (L l) = r.each l lh in
    let fresh : (m : ℕ) → m < heads → (base + m ≢ p) × Misses p (L m) = off_new s base room heads L rb p pr f in
    let here : IsRing v room (base + l) (p ∷ L l) = record {
      path = IsPath-along u v g.next g.prev (base + l) (p ∷ L l) (base + l)
          (IsPath-with s t u (base + l) p j k (L l) (fresh l lh).0 (Misses-below room (base + l) (L l) (omega arith) old.below) (fresh l lh).1 old.apart old.path);
      count = let e : (s (base + l)).tag ≡ length (L l) = old.count in let d = tag_here u v (base + l) ((s (base + l)).tag + 1) g in let goal' : (v (base + l)).tag ≡ suc (length (L l)) = omega arith in goal';
      apart = ((fresh l lh).1, old.apart);
      below = (pr, old.below);
    } in
    let other : (m : ℕ) → m < heads → m ≢ l → IsRing v room (base + m) (L m) = λ m mh n.
    let first = IsRing-kept s t room (base + m) (L m) (base + l) p j (off s base room heads L r rb l m (base + l) lh mh n (inr refl)) (fresh m mh) (r.each m mh) in
    let second = IsRing-kept t u room (base + m) (L m) p (s (base + l)).next k (fresh m mh) (off s base room heads L r rb l m (s (base + l)).next lh mh n (first_in s (base + l) (L l) (base + l) old.path)) first in
    IsRing-tagged u v room (base + m) (L m) (base + l) ((s (base + l)).tag + 1) g (λ e. n (omega arith)) second in
    record {
      each = λ m mh. elim (cases_eq m l) [
        | inl e ↦ rw (with_list-here L l m (p ∷ L l) e) (subst (λ (i : ℕ). IsRing v room (base + i) (p ∷ L l)) (sym e) here)
        | inr n ↦ rw (with_list-other L l m (p ∷ L l) n) (other m mh n)
      ];
      one = one_with heads l L (p ∷ L l) lh r.one (λ q h. elim h [
        | inl e ↦ inr (subst (λ (i : ℕ). (m : ℕ) → m < heads → Has (L m) i → ⊥) (sym e) f)
        | inr i ↦ inl i
      ]);
    }

pub Has-without : (p q : ℕ) (ys : List ℕ) → Has (without p ys) q → Has ys q
Has-without p q [] h = h
Has-without p q (y ∷ ys) h = elim (cases_eq y p) [
  | inl e ↦ inr (subst (λ (xs : List ℕ). Has xs q) (without-first p y ys e) h)
  | inr n ↦ elim (subst (λ (xs : List ℕ). Has xs q) (without-later p y ys n) h) [
    | inl e ↦ inl e
    | inr i ↦ inr (Has-without p q ys i)
  ]
]

Misses-without : (p x : ℕ) (ys : List ℕ) → Misses x ys → Misses x (without p ys)
Misses-without p x ys m = Misses-from x (without p ys) (λ h. Misses-not x x ys m (Has-without p x ys h) refl)

pub AreApart-without : (p : ℕ) (ys : List ℕ) → AreApart ys → AreApart (without p ys)
AreApart-without p [] a = tt
AreApart-without p (y ∷ ys) a = elim (cases_eq y p) [
  | inl e ↦ rw (without-first p y ys e) a.1
  | inr n ↦ rw (without-later p y ys n) (Misses-without p y ys a.0, AreApart-without p ys a.1)
]

AreBelow-without : (p n : ℕ) (ys : List ℕ) → AreBelow n ys → AreBelow n (without p ys)
AreBelow-without p n [] a = tt
AreBelow-without p n (y ∷ ys) a = elim (cases_eq y p) [
  | inl e ↦ rw (without-first p y ys e) a.1
  | inr m ↦ rw (without-later p y ys m) (a.0, AreBelow-without p n ys a.1)
]

pub length-without : (p : ℕ) (ys : List ℕ) → Has ys p → length ys ≡ suc (length (without p ys))
length-without p [] h = absurd h
length-without p (y ∷ ys) h = elim (cases_eq y p) [
  | inl e ↦ rw (without-first p y ys e) refl
  | inr n ↦ rw (without-later p y ys n) (elim h [
    | inl e ↦ absurd (n (sym e))
    | inr i ↦ ap suc (length-without p ys i)
  ])
]

-- a place is taken out of a list
pub AreRings-without : (s t v : ℕ → Link) (base room heads : ℕ) (L : ℕ → List ℕ) (l p n : ℕ)
    → AreRings s base room heads L → room ≤ base → l < heads → Has (L l) p
    → IsJoined s t (s p).prev (s p).next → (s (base + l)).tag ≡ n + 1 → IsTagged t v (base + l) n
    → AreRings v base room heads (with_list L l (without p (L l)))
AreRings-without s t v base room heads L l p n r rb lh hp j c g =
    let old : IsRing s room (base + l) (L l) = r.each l lh in
    let away = Misses-below room (base + l) (L l) (omega arith) old.below in
    let here : IsRing v room (base + l) (without p (L l)) = record {
      path = IsPath-along t v g.next g.prev (base + l) (without p (L l)) (base + l)
          (IsPath-without s t p j (base + l) (L l) (base + l) away old.apart away hp old.path);
      count = let e : (s (base + l)).tag ≡ length (L l) = old.count in let d = tag_here t v (base + l) n g in let q = length-without p (L l) hp in let goal' : (v (base + l)).tag ≡ length (without p (L l)) = omega arith in goal';
      apart = AreApart-without p (L l) old.apart;
      below = AreBelow-without p room (L l) old.below;
    } in
    let before : Has (L l) (s p).prev ⊎ ((s p).prev ≡ base + l) = elim (prev_in s (base + l) (L l) (base + l) p old.path hp) [
      | inl e ↦ inr e
      | inr i ↦ inl i
    ] in
    let other : (m : ℕ) → m < heads → m ≢ l → IsRing v room (base + m) (L m) = λ m mh x.
    IsRing-tagged t v room (base + m) (L m) (base + l) n g (λ e. x (omega arith))
    (IsRing-kept s t room (base + m) (L m) (s p).prev (s p).next j
    (off s base room heads L r rb l m (s p).prev lh mh x before)
    (off s base room heads L r rb l m (s p).next lh mh x (next_in s (base + l) (L l) (base + l) p old.path hp))
    (r.each m mh)) in
    record {
      each = λ m mh. elim (cases_eq m l) [
        | inl e ↦ rw (with_list-here L l m (without p (L l)) e) (subst (λ (i : ℕ). IsRing v room (base + i) (without p (L l))) (sym e) here)
        | inr x ↦ rw (with_list-other L l m (without p (L l)) x) (other m mh x)
      ];
      one = one_with heads l L (without p (L l)) lh r.one (λ q h. inl (Has-without p q (L l) h));
    }

-- the list of a head is what a walk by its count gives
pub ring-is : (s : ℕ → Link) (base room heads : ℕ) (L : ℕ → List ℕ) → AreRings s base room heads L → (l : ℕ) → l < heads → rings_of s base l ≡ L l
ring-is s base room heads L r l lh =
    let x : IsRing s room (base + l) (L l) = r.each l lh in
    ap (λ (n : ℕ). walk s n (s (base + l)).next) x.count ∙ walk-path s (base + l) (L l) (base + l) x.path

AreRings-same : (s : ℕ → Link) (base room heads : ℕ) (L M : ℕ → List ℕ) → ((l : ℕ) → l < heads → M l ≡ L l) → AreRings s base room heads L → AreRings s base room heads M
AreRings-same s base room heads L M e r = record {
  each = λ l lh. subst (λ (ys : List ℕ). IsRing s room (base + l) ys) (sym (e l lh)) (r.each l lh);
  one = λ l m p lh mh a b. r.one l m p lh mh (subst (λ (ys : List ℕ). Has ys p) (e l lh) a) (subst (λ (ys : List ℕ). Has ys p) (e m mh) b);
}

pub AreRings-own : (s : ℕ → Link) (base room heads : ℕ) (L : ℕ → List ℕ) → AreRings s base room heads L → AreRings s base room heads (rings_of s base)
AreRings-own s base room heads L r = AreRings-same s base room heads L (rings_of s base) (ring-is s base room heads L r) r

-- a distinct list of numbers below a bound is no longer than the bound
pub length-below : (n : ℕ) (ys : List ℕ) → AreApart ys → AreBelow n ys → length ys ≤ n
length-below zero [] a b = omega arith
length-below zero (y ∷ ys) a b = absurd (let h : y < 0 = b.0 in omega arith)
length-below (suc n) ys a b =
    let bound : (zs : List ℕ) → AreBelow (suc n) zs → Misses n zs → AreBelow n zs = lower n in
    elim (Has-cases n ys) [
      | inl h ↦
          let e = length-without n ys h in
          let away = without-misses n ys a in
          let i = length-below n (without n ys) (AreApart-without n ys a) (bound (without n ys) (AreBelow-without n (suc n) ys b) away) in
          omega arith
      | inr m ↦ let i = length-below n ys a (bound ys b m) in omega arith
    ]
  where
    lower : (n : ℕ) (zs : List ℕ) → AreBelow (suc n) zs → Misses n zs → AreBelow n zs
    lower n [] b m = tt
    lower n (z ∷ zs) b m = (let h : z < suc n = b.0 in let d : n ≢ z = m.0 in omega arith, lower n zs b.1 m.1)

    Has-cases : (n : ℕ) (zs : List ℕ) → Has zs n ⊎ Misses n zs
    Has-cases n [] = inr tt
    Has-cases n (z ∷ zs) = elim (cases_eq n z) [
      | inl e ↦ inl (inl e)
      | inr d ↦ elim (Has-cases n zs) [
        | inl h ↦ inl (inr h)
        | inr m ↦ inr (d, m)
      ]
    ]

    without-misses : (n : ℕ) (zs : List ℕ) → AreApart zs → Misses n (without n zs)
    without-misses n [] a = tt
    without-misses n (z ∷ zs) a = elim (cases_eq z n) [
      | inl e ↦ rw (without-first n z zs e) (subst (λ (k : ℕ). Misses k zs) e a.0)
      | inr d ↦ rw (without-later n z zs d) (λ e. d (sym e), without-misses n zs a.1)
    ]
