-- Outer clauses as they are gathered for a pivot, slot by slot and group by group.
use Rattle.std.proofs.Common.{◌≡◌, ◌↔◌, ℕ, zero, suc, ◌+◌, ◌<◌, ◌≤◌, List, [], ◌∷◌, ◌++◌, Option, Some, Contains, slice_get, take, drop, sym, subst, inl, inr, arith, le_of_suc-le-suc, not-suc-le-zero}
use Rattle.std.proofs.lemmas.List.{take-append-drop}
use Rattle.std.proofs.lemmas.List.Elements.{Contains-append_left, Contains-append_right, Contains-push, Contains-push_cases}
use Rattle.q_logic.specs.Prelude.{Clause, Prefix, IsIn, Slots, outer, Implied}
use Rattle.q_logic.proofs.Common.{implied-tautology}
use Rattle.q_prop.specs.Slots.{Holds, filled, without}
use Rattle.q_prop.specs.Tails.{AreImplied}
use Rattle.q_prop.proofs.ListMembers.{Contains-nil, Contains-take}
use Rattle.q_prop.proofs.SlotLemmas.{without-le, slice_get-take_in, Contains-slice_get}
use Rattle.q_prop.proofs.BucketLemmas.{same-clause}
use Rattle.q_judge.specs.Pivots.{resolvent, IsGathered, AreGathered, ResolveAt}
use Rattle.q_judge.specs.Warrants.{AreHolders, Resolves}
use Rattle.q_judge.specs.declared.pivots.Question.{Question}
use Rattle.q_judge.proofs.SlotCollections.{held-in, in-held}

module _ (P : Prefix) (s : Slots) (q : Question) where
  pub gathered-none : AreGathered P s q [] []
  gathered-none = record {
    all_there = λ n D c h. absurd (Contains-nil n c);
    no_other = λ t c. absurd (Contains-nil t c);
  }

  pub gathered-next : (slots : List ℕ) (n : ℕ) (old new : List Clause) → AreGathered P s q slots old → IsGathered P s q n old new → AreGathered P s q (slots ++ n ∷ []) new
  gathered-next slots n old new g (inl h) = rw h.0 (record {
    all_there = λ k D c e. elim (Contains-push_cases slots n k c) [
      | inl b ↦ g.all_there k D b e
      | inr f ↦ inl (h.1 D (subst (λ (j : ℕ). Holds s j D) (sym f) e))
    ];
    no_other = λ t c. let o = g.no_other t c in (o.0, o.1, Contains-append_left slots (n ∷ []) o.0 o.2, o.3, o.4);
  })
  gathered-next slots n old new g (inr h) = rw h.2 (record {
    all_there = λ k D c e. elim (Contains-push_cases slots n k c) [
      | inl b ↦ elim (g.all_there k D b e) [
        | inl t ↦ inl t
        | inr m ↦ inr (Contains-append_left old (outer P q.m h.0 ∷ []) (outer P q.m D) m)
      ]
      | inr f ↦
          let same = same-clause s n D h.0 (subst (λ (j : ℕ). Holds s j D) (sym f) e) h.1 in
          inr (subst (λ (E : Clause). Contains (old ++ outer P q.m h.0 ∷ []) (outer P q.m E)) (sym same) (Contains-push old (outer P q.m h.0)))
    ];
    no_other = λ t c. elim (Contains-push_cases old (outer P q.m h.0) t c) [
      | inl b ↦ let o = g.no_other t b in (o.0, o.1, Contains-append_left slots (n ∷ []) o.0 o.2, o.3, o.4)
      | inr f ↦ (n, h.0, Contains-push slots n, h.1, sym f)
    ];
  })

  -- all that clash are implied, and the others are those that were gathered
  pub gathered-exact : (slots : List ℕ) (tails : List Clause) → AreGathered P s q slots tails → AreImplied (filled s) q.base.now tails ↔ ResolveAt P s q slots
  gathered-exact slots tails g = (
    (λ all n D c h. elim (g.all_there n D c h) [
      | inl t ↦ implied-tautology (filled s) (resolvent P q D) t
      | inr m ↦ all (outer P q.m D) m
    ]),
    (λ r t c. let o = g.no_other t c in subst (λ (z : Clause). Implied (filled s) (q.base.now ++ z)) (sym o.4) (r o.0 o.1 o.2 o.3)),
  )

-- the slots of the clauses that hold m are all that count
pub resolve-holders : (P : Prefix) (S : Slots) (q : Question) (slots : List ℕ) → AreHolders S q.m slots → ResolveAt P (without S q.skip) q slots ↔ Resolves P (filled (without S q.skip)) q.base.now q.m
resolve-holders P S q slots h = (
  (λ r D d m.
      let n = in-held (without S q.skip) D d in
      r n.0 D (h.all_there n.0 D (without-le S q.skip n.0 D n.1) m) n.1),
  (λ r n D c e.
      let o = h.no_other n c in
      let same = same-clause S n D o.0 (without-le S q.skip n D e) o.1 in
      r D (held-in (without S q.skip) n D e) (subst (λ (E : Clause). IsIn q.m E) (sym same) o.2)),
)

-- an item of a range
pub in-range : (xs : List ℕ) (s k j n : ℕ) → s ≤ j → j < s + k → slice_get xs j ≡ Some n → Contains (take k (drop s xs)) n
in-range xs zero k j n a b h = Contains-slice_get (take k xs) j n (slice_get-take_in xs k j n h (omega (arith, b)))
in-range [] (suc s) k j n a b h = cc
in-range (x ∷ xs) (suc s) k zero n a b h = absurd (not-suc-le-zero a)
in-range (x ∷ xs) (suc s) k (suc j) n a b h = in-range xs s k j n (le_of_suc-le-suc a) (omega (arith, b)) h

pub range-in : (xs : List ℕ) (s k n : ℕ) → Contains (take k (drop s xs)) n → Contains xs n
range-in xs s k n h = subst (λ (ys : List ℕ). Contains ys n) (take-append-drop s xs) (Contains-append_right (take s xs) (drop s xs) n (Contains-take (drop s xs) k n h))
