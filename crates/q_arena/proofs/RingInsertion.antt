-- Rings under an insertion after a node.
use Rattle.std.proofs.Common.{◌≡◌, ◌≢◌, ◌⊎◌, ℕ, suc, ◌+◌, ◌<◌, ◌≤◌, List, [], ◌∷◌, length, refl, sym, ◌∙◌, ap, subst, inl, inr, arith}
use Rattle.std.proofs.lemmas.Bool.Decides.{nat_tests}
use Rattle.std.proofs.lemmas.Bool.{cases_eq}
use Rattle.q_arena.specs.declared.rings.Link.{Link}
use Rattle.q_arena.specs.Nodes.{IsJoined, IsTagged}
use Rattle.q_arena.specs.Rings.{IsPath, Has, Misses, AreApart, AreBelow, with_next, IsRing, AreRings, with_list}
use Rattle.q_arena.proofs.RingJoins.{next_joined, next_other, prev_joined, prev_other}
use Rattle.q_arena.proofs.RingPaths.{Misses-not, Misses-from, IsPath-kept, IsPath-along, next_in}
use Rattle.q_arena.proofs.RingLemmas.{Misses-below, with_list-here, with_list-other, first_in, one_with, off, off_new, IsRing-kept, IsRing-tagged, tag_here}

pub with_next-here : (a p y : ℕ) (ys : List ℕ) → y ≡ a → with_next a p (y ∷ ys) ≡ y ∷ p ∷ ys
with_next-here a p y ys e = grind (arith, nat_tests)

pub with_next-later : (a p y : ℕ) (ys : List ℕ) → y ≢ a → with_next a p (y ∷ ys) ≡ y ∷ with_next a p ys
with_next-later a p y ys n = grind (arith, nat_tests)

pub Has-with_next : (a p q : ℕ) (ys : List ℕ) → Has (with_next a p ys) q → (q ≡ p) ⊎ Has ys q
Has-with_next a p q [] h = absurd h
Has-with_next a p q (y ∷ ys) h = elim (cases_eq y a) [
  | inl e ↦ elim (subst (λ (xs : List ℕ). Has xs q) (with_next-here a p y ys e) h) [
    | inl f ↦ inr (inl f)
    | inr g ↦ elim g [ inl f ↦ inl f | inr i ↦ inr (inr i) ]
  ]
  | inr n ↦ elim (subst (λ (xs : List ℕ). Has xs q) (with_next-later a p y ys n) h) [
    | inl f ↦ inr (inl f)
    | inr g ↦ elim (Has-with_next a p q ys g) [ inl f ↦ inl f | inr i ↦ inr (inr i) ]
  ]
]

pub length-with_next : (a p : ℕ) (ys : List ℕ) → Has ys a → length (with_next a p ys) ≡ suc (length ys)
length-with_next a p [] h = absurd h
length-with_next a p (y ∷ ys) h = elim (cases_eq y a) [
  | inl e ↦ rw (with_next-here a p y ys e) refl
  | inr n ↦ rw (with_next-later a p y ys n) (elim h [
    | inl e ↦ absurd (n (sym e))
    | inr i ↦ ap suc (length-with_next a p ys i)
  ])
]

AreApart-with_next : (a p : ℕ) (ys : List ℕ) → AreApart ys → Misses p ys → AreApart (with_next a p ys)
AreApart-with_next a p [] d m = tt
AreApart-with_next a p (y ∷ ys) d m = elim (cases_eq y a) [
  | inl e ↦ rw (with_next-here a p y ys e) (((λ f. m.0 (sym f)), d.0), (m.1, d.1))
  | inr n ↦ rw (with_next-later a p y ys n) (
    Misses-from y (with_next a p ys) (λ h. elim (Has-with_next a p y ys h) [
      | inl f ↦ m.0 (sym f)
      | inr g ↦ Misses-not y y ys d.0 g refl
    ]),
    AreApart-with_next a p ys d.1 m.1,
  )
]

AreBelow-with_next : (a p n : ℕ) (ys : List ℕ) → AreBelow n ys → p < n → AreBelow n (with_next a p ys)
AreBelow-with_next a p n [] b l = tt
AreBelow-with_next a p n (y ∷ ys) b l = elim (cases_eq y a) [
  | inl e ↦ rw (with_next-here a p y ys e) (b.0, (l, b.1))
  | inr m ↦ rw (with_next-later a p y ys m) (b.0, AreBelow-with_next a p n ys b.1 l)
]

-- a node is put first on a way
IsPath-put : (s t u : ℕ → Link) (h p z : ℕ) → IsJoined s t h p → IsJoined t u p (s h).next → (ys : List ℕ) → h ≢ p → p ≢ z → Misses h ys → Misses p ys → Misses z ys → AreApart ys → IsPath s h ys z → IsPath u h (p ∷ ys) z
IsPath-put s t u h p z j k [] hp pz mh mp mz a w =
    let k' : IsJoined t u p z = subst (λ (q : ℕ). IsJoined t u p q) w.0 k in (
      next_other t u p z h k' hp ∙ next_joined s t h p j,
      prev_other t u p z p k' pz ∙ prev_joined s t h p j,
      (next_joined t u p z k', prev_joined t u p z k'),
    )
IsPath-put s t u h p z j k (y ∷ ys) hp pz mh mp mz a w =
    let k' : IsJoined t u p y = subst (λ (q : ℕ). IsJoined t u p q) w.0 k in
    let rest = IsPath-kept s t h p j y ys z (λ e. mh.0 (sym e)) mh.1 mp.1 pz w.2 in (
      next_other t u p y h k' hp ∙ next_joined s t h p j,
      prev_other t u p y p k' mp.0 ∙ prev_joined s t h p j,
      (
        next_joined t u p y k',
        prev_joined t u p y k',
        IsPath-kept t u p y k' y ys z (λ e. mp.0 (sym e)) mp.1 a.0 (λ e. mz.0 (sym e)) rest,
      ),
    )

-- a node is put after one of a way
IsPath-after : (s t u : ℕ → Link) (a p : ℕ) → IsJoined s t a p → IsJoined t u p (s a).next → (x : ℕ) (ys : List ℕ) (z : ℕ) → x ≢ p → p ≢ z → Misses x ys → Misses p ys → Misses z ys → AreApart ys → Has ys a → IsPath s x ys z → IsPath u x (with_next a p ys) z
IsPath-after s t u a p j k x [] z xp pz mx mp mz d h w = absurd h
IsPath-after s t u a p j k x (y ∷ ys) z xp pz mx mp mz d h w =
    let yp : y ≢ p = λ e. mp.0 (sym e) in
    let xa : x ≢ a = Misses-not x a (y ∷ ys) mx h in
    let forth : (u x).next ≡ y = next_other t u p (s a).next x k xp ∙ next_other s t a p x j xa ∙ w.0 in
    let back : y ≢ (s a).next → (u y).prev ≡ x = λ n. prev_other t u p (s a).next y k n ∙ prev_other s t a p y j yp ∙ w.1 in
    elim (cases_eq y a) [
      | inl e ↦
          let n : y ≢ (s a).next = subst (λ (q : ℕ). y ≢ (s q).next) e (elim (first_in s y ys z w.2) [
            | inl i ↦ Misses-not y (s y).next ys d.0 i
            | inr q ↦ λ r. mz.0 (sym (r ∙ q))
          ]) in
          let j' : IsJoined s t y p = subst (λ (q : ℕ). IsJoined s t q p) (sym e) j in
          let k' : IsJoined t u p (s y).next = subst (λ (q : ℕ). IsJoined t u p (s q).next) (sym e) k in
          rw (with_next-here a p y ys e) (forth, back n, IsPath-put s t u y p z j' k' ys yp pz d.0 mp.1 mz.1 d.1 w.2)
      | inr m ↦ elim h [
        | inl e ↦ absurd (m (sym e))
        | inr i ↦
            let n : y ≢ (s a).next = elim (next_in s y ys z a w.2 i) [
              | inl q ↦ Misses-not y (s a).next ys d.0 q
              | inr q ↦ λ r. mz.0 (sym (r ∙ q))
            ] in
            rw (with_next-later a p y ys m) (forth, back n, IsPath-after s t u a p j k y ys z yp pz d.0 mp.1 mz.1 d.1 i w.2)
      ]
    ]

-- a place is put after one of a list
pub AreRings-after : (s t u v : ℕ → Link) (base room heads : ℕ) (L : ℕ → List ℕ) (l a p n : ℕ)
    → AreRings s base room heads L → room ≤ base → l < heads → p < room → Has (L l) a
    → ((m : ℕ) → m < heads → Has (L m) p → ⊥)
    → IsJoined s t a p → IsJoined t u p (s a).next → n ≡ (s (base + l)).tag → IsTagged u v (base + l) (n + 1)
    → AreRings v base room heads (with_list L l (with_next a p (L l)))
AreRings-after s t u v base room heads L l a p n r rb lh pr ha f j k nt g =
    let old : IsRing s room (base + l) (L l) = r.each l lh in
    let fresh : (m : ℕ) → m < heads → (base + m ≢ p) × Misses p (L m) = off_new s base room heads L rb p pr f in
    let away = Misses-below room (base + l) (L l) (omega arith) old.below in
    let here : IsRing v room (base + l) (with_next a p (L l)) = record {
      path = IsPath-along u v g.next g.prev (base + l) (with_next a p (L l)) (base + l)
          (IsPath-after s t u a p j k (base + l) (L l) (base + l) (fresh l lh).0 (λ e. (fresh l lh).0 (sym e)) away (fresh l lh).1 away old.apart ha old.path);
      count = let e : (s (base + l)).tag ≡ length (L l) = old.count in let d = tag_here u v (base + l) (n + 1) g in let q = length-with_next a p (L l) ha in let goal' : (v (base + l)).tag ≡ length (with_next a p (L l)) = omega (arith, e, d, q, nt) in goal';
      apart = AreApart-with_next a p (L l) old.apart (fresh l lh).1;
      below = AreBelow-with_next a p room (L l) old.below pr;
    } in
    let other : (m : ℕ) → m < heads → m ≢ l → IsRing v room (base + m) (L m) = λ m mh x.
    let first = IsRing-kept s t room (base + m) (L m) a p j (off s base room heads L r rb l m a lh mh x (inl ha)) (fresh m mh) (r.each m mh) in
    let second = IsRing-kept t u room (base + m) (L m) p (s a).next k (fresh m mh) (off s base room heads L r rb l m (s a).next lh mh x (next_in s (base + l) (L l) (base + l) a old.path ha)) first in
    IsRing-tagged u v room (base + m) (L m) (base + l) (n + 1) g (λ e. x (omega arith)) second in
    record {
      each = λ m mh. elim (cases_eq m l) [
        | inl e ↦ rw (with_list-here L l m (with_next a p (L l)) e) (subst (λ (i : ℕ). IsRing v room (base + i) (with_next a p (L l))) (sym e) here)
        | inr x ↦ rw (with_list-other L l m (with_next a p (L l)) x) (other m mh x)
      ];
      one = one_with heads l L (with_next a p (L l)) lh r.one (λ q h. elim (Has-with_next a p q (L l) h) [
        | inl e ↦ inr (subst (λ (i : ℕ). (m : ℕ) → m < heads → Has (L m) i → ⊥) (sym e) f)
        | inr i ↦ inl i
      ]);
    }
