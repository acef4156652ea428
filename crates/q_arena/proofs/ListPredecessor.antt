-- The place before one of a list.
use Rattle.std.proofs.Common.{◌≡◌, ℕ, ◌+◌, ◌<◌, ◌≤◌, List, [], ◌∷◌, length, get_or, None, Some, sym, ◌∙◌, ap, subst, inl, inr, arith}
use Rattle.std.specs.Prelude.{if◌then◌else◌, nat_lt}
use Rattle.std.proofs.lemmas.Bool.Decides.{nat_tests}
use Rattle.std.proofs.lemmas.Bool.{cases_eq}
use Rattle.q_arena.proofs.ListNeighbours.{preceding-here, preceding-later, preceding-none}
use Rattle.q_arena.specs.declared.rings.Link.{Link}
use Rattle.q_arena.specs.Nodes.{node_at, base, blank}
use Rattle.q_arena.specs.Rings.{IsPath, Has, Misses, AreApart, AreBelow, IsRing, AreSound, rings_of}
use Rattle.q_arena.specs.Chains.{lists_of, preceding_from, preceding}
use Rattle.q_arena.proofs.RingPaths.{prev_in}
use Rattle.q_arena.proofs.RingLemmas.{Has-below}
use Rattle.q_arena.proofs.ArenaView.{node_at-place, list-is, Has-head, place-in}

from-prev : (s : ℕ → Link) (p j : ℕ) (ys : List ℕ) (z : ℕ) → IsPath s j ys z → Has ys p → preceding_from p j ys ≡ Some (s p).prev
from-prev s p j [] z w h = absurd h
from-prev s p j (k ∷ ks) z w h = elim (cases_eq k p) [
  | inl e ↦ preceding-here p j k ks e ∙ ap (λ (x : ℕ). Some x) (sym w.1 ∙ ap (λ (x : ℕ). (s x).prev) e)
  | inr n ↦ preceding-later p j k ks n ∙ elim h [
    | inl e ↦ absurd (n (sym e))
    | inr g ↦ from-prev s p k ks z w.2 g
  ]
]

Some-if : (b v : ℕ) → v < b → Some v ≡ (if nat_lt v b then Some v else None)
Some-if b v h = grind (arith, nat_tests)

None-if : (b v : ℕ) → b ≤ v → None ≡ (if nat_lt v b then Some v else None)
None-if b v h = grind (arith, nat_tests)

preceding-of : (s : ℕ → Link) (b room x : ℕ) (ys : List ℕ) (z p : ℕ) → room ≤ b → b ≤ x → AreBelow room ys → AreApart ys → Has ys p → IsPath s x ys z → preceding p ys ≡ (if nat_lt (s p).prev b then Some (s p).prev else None)
preceding-of s b room x [] z p rb bx w a h k = absurd h
preceding-of s b room x (y ∷ ys) z p rb bx w a h k =
    let first : p ≡ y → preceding p (y ∷ ys) ≡ (if nat_lt (s p).prev b then Some (s p).prev else None) = λ e.
    let v : (s p).prev ≡ x = ap (λ (q : ℕ). (s q).prev) e ∙ k.1 in
    preceding-none p y ys (subst (λ (q : ℕ). Misses q ys) (sym e) a.0) ∙ None-if b (s p).prev (omega arith) in
    elim (cases_eq p y) [
      | inl e ↦ first e
      | inr n ↦ elim h [
        | inl e ↦ first e
        | inr g ↦
            let on = prev_in s y ys z p k.2 g in
            let lt : (s p).prev < room = Has-below room (s p).prev (y ∷ ys) w on in
            from-prev s p y ys z k.2 g ∙ Some-if b (s p).prev (omega arith)
      ]
    ]

pub preceding-is : (places heads : List Link) → AreSound places heads → (l p : ℕ) → Has (get_or (lists_of places heads) l []) p → preceding p (get_or (lists_of places heads) l []) ≡ (if nat_lt (get_or places p blank).prev base then Some (get_or places p blank).prev else None)
preceding-is places heads s l p h =
    let ys : List ℕ = rings_of (node_at places heads) base l in
    let lh = Has-head places heads l p h in
    let i = subst (λ (xs : List ℕ). Has xs p) (list-is places heads l) h in
    let r : IsRing (node_at places heads) (length places) (base + l) ys = s.rings.each l lh in
    let few : length places ≤ base = s.few_places in
    let f = preceding-of (node_at places heads) base (length places) (base + l) ys (base + l) p (omega arith) (omega arith) r.below r.apart i r.path in
    let pl = place-in places heads s l p h in
    ap (λ (xs : List ℕ). preceding p xs) (list-is places heads l) ∙ f ∙ ap (λ (k : Link). if nat_lt k.prev base then Some k.prev else None) (node_at-place places heads p (omega arith))
