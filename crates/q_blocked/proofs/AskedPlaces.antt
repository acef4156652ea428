-- The places of a set whose literals are asked about.
use Rattle.std.proofs.Common.{◌≡◌, ◌⊎◌, ◌+◌, ◌≤◌, ℕ, suc, List, [], ◌∷◌, ◌++◌, slice_get, Some, length, inl, inr, sym, subst, arith, length-append}
use Rattle.q_logic.specs.Prelude.{Literal, Clause, Matrix, Prefix, IsIn, IsTautology}
use Rattle.q_logic.proofs.Common.{IsIn-append, IsIn-append_left, IsIn-append_right, IsIn-slice_get, slice_get-append}
use Rattle.q_logic.proofs.Common.{before_or_at}
use Rattle.q_blocked.specs.Walks.{Gives}
use Rattle.q_blocked.specs.Growths.{IsGiven, IsAsked, HasPlaces, IsPassive}
use Rattle.q_blocked.proofs.HiddenClosure.{given-closed}

-- Places of a list, and of a longer one.
module _ {X : Type 0} where
  place-behind : (xs ys : List X) (i : ℕ) (k : X) → slice_get ys i ≡ Some k → (j : ℕ) × (j ≡ length xs + i) × (slice_get (xs ++ ys) j ≡ Some k)
  place-behind [] ys i k e = (i, omega arith, e)
  place-behind (x ∷ xs) ys i k e = let r = place-behind xs ys i k e in (suc r.0, (let h = r.1 in omega arith), r.2)

-- Places that come to a list, one after the other.
pub places-none : (old : List ℕ) (from : ℕ) → HasPlaces old from from old
places-none old from i = ((λ m. inl m), λ a. elim a [ inl m ↦ m | inr r ↦ absurd (let l = r.0 in let h = r.1 in omega arith) ])

pub places-one : (old : List ℕ) (from to : ℕ) (now next : List ℕ) → from ≤ to → next ≡ now ++ to ∷ [] → HasPlaces old from to now → HasPlaces old from (to + 1) next
places-one old from to now next l e h i = (
  (λ m. elim (IsIn-append i now (to ∷ []) (subst (λ (xs : List ℕ). IsIn i xs) e m)) [
    | inl a ↦ elim ((h i).0 a) [ inl o ↦ inl o | inr r ↦ inr (r.0, (let z = r.1 in omega arith)) ]
    | inr a ↦ elim a [ inl q ↦ inr ((omega arith), (omega arith)) | inr none ↦ absurd none ]
  ]),
  λ a. subst (λ (xs : List ℕ). IsIn i xs) (sym e) (elim a [
    | inl o ↦ IsIn-append_left i now (to ∷ []) ((h i).1 (inl o))
    | inr r ↦ elim (before_or_at i to r.1) [
      | inl z ↦ IsIn-append_left i now (to ∷ []) ((h i).1 (inr (r.0, z)))
      | inr q ↦ IsIn-append_right i now (to ∷ []) (inl q)
    ]
  ]),
)

-- begun with all places
pub asked-begun : (X : Matrix) (C : Clause) (places : List ℕ) → HasPlaces [] 0 (length C) places → IsAsked X C places
asked-begun X C places h = record {
  inside = λ i m. elim ((h i).0 m) [ inl none ↦ absurd none | inr r ↦ r.1 ];
  each = λ l m. let r = IsIn-slice_get C l m in inl (r.0, (h r.0).1 (inr ((omega arith), r.1)), r.2);
}

-- What was asked about or given still is where the set grows.
asked-more : (X : Matrix) (S K : Clause) (old new : List ℕ) (l : Literal) → ((i : ℕ) → IsIn i old → IsIn i new) → ((i : ℕ) × IsIn i old × (slice_get S i ≡ Some l)) ⊎ IsGiven X S l → ((i : ℕ) × IsIn i new × (slice_get (S ++ K) i ≡ Some l)) ⊎ IsGiven X (S ++ K) l
asked-more X S K old new l w (inl (i, m, e)) = inl (i, w i m, slice_get-append S K i l e)
asked-more X S K old new l w (inr g) = inr (record { giver = g.giver; there = g.there; negated = g.negated; others_in = λ j m d. IsIn-append_left j S K (g.others_in j m d) })

-- a literal came hidden
pub asked-hidden : (X : Matrix) (S D : Clause) (new : Literal) (places : List ℕ) → IsIn D X → Gives S D new → IsAsked X S places → IsAsked X (S ++ new ∷ []) places
asked-hidden X S D new places there g a = record {
  inside = λ i m. let h = a.inside i m in let l = length-append S (new ∷ []) in omega arith;
  each = λ l m. elim (IsIn-append l S (new ∷ []) m) [
    | inl i ↦ asked-more X S (new ∷ []) places places l (λ j n. n) (a.each l i)
    | inr i ↦ elim i [ inl e ↦ inr (subst (λ (k : Literal). IsGiven X (S ++ new ∷ []) k) (sym e) given) | inr none ↦ absurd none ]
  ];
}
  where
    given : IsGiven X (S ++ new ∷ []) new
    given = record { giver = D; there = there; negated = g.negated; others_in = λ j m d. IsIn-append_left j S (new ∷ []) (g.others_in j m d) }

-- covered literals came
pub asked-covered : (X : Matrix) (S K : Clause) (old new : List ℕ) → HasPlaces old (length S) (length (S ++ K)) new → IsAsked X S old → IsAsked X (S ++ K) new
asked-covered X S K old new h a = record {
  inside = λ i m. elim ((h i).0 m) [ inl o ↦ (let z = a.inside i o in let l = length-append S K in omega arith) | inr r ↦ r.1 ];
  each = λ l m. elim (IsIn-append l S K m) [
    | inl i ↦ asked-more X S K old new l (λ j n. (h j).1 (inl n)) (a.each l i)
    | inr i ↦ let r = IsIn-slice_get K l i in let s = place-behind S K r.0 l r.2 in inl (s.0, (h s.0).1 (inr (let e = s.1 in let z = r.1 in let n = length-append S K in (omega arith, omega arith))), s.2)
  ];
}

-- where nothing is covered on those that are asked about, nothing is covered on any
pub asked-passive : (P : Prefix) (X : Matrix) (S : Clause) (places : List ℕ) → (IsTautology S → ⊥) → IsAsked X S places → ((i : ℕ) → IsIn i places → (l : Literal) → slice_get S i ≡ Some l → IsPassive P X S l) → (l : Literal) → IsIn l S → IsPassive P X S l
asked-passive P X S places n a f l m = elim (a.each l m) [
  | inl r ↦ f r.0 r.1 l r.2
  | inr g ↦ λ e. given-closed P X S g.giver l n g.there g.negated g.others_in
]
