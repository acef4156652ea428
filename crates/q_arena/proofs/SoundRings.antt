-- Rows of links that hold a list for each head.
use Rattle.std.proofs.Common.{◌≡◌, ◌⊎◌, ℕ, ◌+◌, ◌<◌, ◌≤◌, List, [], ◌∷◌, length, inl, inr, arith}
use Rattle.q_arena.specs.declared.rings.Link.{Link}
use Rattle.q_arena.specs.Nodes.{node_at, base}
use Rattle.q_arena.specs.Rings.{Has, AreBelow, IsRing, AreSound, rings_of}
use Rattle.q_arena.proofs.RingPaths.{Misses-from, prev_in, next_in}
use Rattle.q_arena.proofs.RingLemmas.{Has-below, first_in, length-below}

-- on the ring of a head: a place, or the head itself
abbrev pub IsOn : ℕ → ℕ → ℕ → Type 0
IsOn P l k = (k < P) ⊎ (k ≡ base + l)

IsOn-of : (P l k : ℕ) (ys : List ℕ) → AreBelow P ys → Has ys k ⊎ (k ≡ base + l) → IsOn P l k
IsOn-of P l k ys b (inl h) = inl (Has-below P k ys b h)
IsOn-of P l k ys b (inr e) = inr e

module _ (places heads : List Link) (s : AreSound places heads) (l : ℕ) (lh : l < length heads) where
  pub IsOn-first : IsOn (length places) l (node_at places heads (base + l)).next
  IsOn-first =
      let r : IsRing (node_at places heads) (length places) (base + l) (rings_of (node_at places heads) base l) = s.rings.each l lh in
      IsOn-of (length places) l (node_at places heads (base + l)).next (rings_of (node_at places heads) base l) r.below
      (first_in (node_at places heads) (base + l) (rings_of (node_at places heads) base l) (base + l) r.path)

  pub count-fits : (p : ℕ) → p < length places → ((m : ℕ) → m < length heads → Has (rings_of (node_at places heads) base m) p → ⊥) → (node_at places heads (base + l)).tag + 1 < 4294967296
  count-fits p pr f =
      let r : IsRing (node_at places heads) (length places) (base + l) (rings_of (node_at places heads) base l) = s.rings.each l lh in
      let ys : List ℕ = rings_of (node_at places heads) base l in
      let n = length-below (length places) (p ∷ ys) (Misses-from p ys (f l lh), r.apart) (pr, r.below) in
      let e : (node_at places heads (base + l)).tag ≡ length ys = r.count in
      let few : length places ≤ base = s.few_places in
      rw e (omega (arith, n, few))

  module _ (p : ℕ) (h : Has (rings_of (node_at places heads) base l) p) where
    pub place-below : p < length places
    place-below =
        let r : IsRing (node_at places heads) (length places) (base + l) (rings_of (node_at places heads) base l) = s.rings.each l lh in
        Has-below (length places) p (rings_of (node_at places heads) base l) r.below h

    pub IsOn-before : IsOn (length places) l (node_at places heads p).prev
    IsOn-before =
        let ys : List ℕ = rings_of (node_at places heads) base l in
        let r : IsRing (node_at places heads) (length places) (base + l) ys = s.rings.each l lh in
        IsOn-of (length places) l (node_at places heads p).prev ys r.below
        (elim (prev_in (node_at places heads) (base + l) ys (base + l) p r.path h) [
          | inl e ↦ inr e
          | inr i ↦ inl i
        ])

    pub IsOn-after : IsOn (length places) l (node_at places heads p).next
    IsOn-after =
        let ys : List ℕ = rings_of (node_at places heads) base l in
        let r : IsRing (node_at places heads) (length places) (base + l) ys = s.rings.each l lh in
        IsOn-of (length places) l (node_at places heads p).next ys r.below
        (next_in (node_at places heads) (base + l) ys (base + l) p r.path h)

    pub count-positive : (n : ℕ) → n ≡ (node_at places heads (base + l)).tag → 1 ≤ n
    count-positive n e =
        let ys : List ℕ = rings_of (node_at places heads) base l in
        let r : IsRing (node_at places heads) (length places) (base + l) ys = s.rings.each l lh in
        let c : (node_at places heads (base + l)).tag ≡ length ys = r.count in
        let some = has-some ys h in
        rw (e, c) some
      where
        has-some : (zs : List ℕ) → Has zs p → 1 ≤ length zs
        has-some [] i = absurd i
        has-some (z ∷ zs) i = omega arith
