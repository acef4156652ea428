-- Clauses that are quiet beside a set while a row is walked.
use Rattle.std.proofs.Common.{◌≡◌, ◌≢◌, ◌⊎◌, ◌+◌, ◌<◌, ◌≤◌, ◌==◌, ℕ, true, false, true≢false, List, [], ◌∷◌, length, slice_get, Some, inl, inr, refl, sym, ◌∙◌, ap, subst, arith}
use Rattle.std.proofs.lemmas.Bool.Decides.{nat_tests}
use Rattle.q_logic.specs.Prelude.{Literal, negation, Clause, IsIn, IsSubset, IsTautology, slot}
use Rattle.q_logic.proofs.Common.{negation-negation, same_or_not}
use Rattle.q_kernel.specs.Prelude.{Seen, slots}
use Rattle.q_rule.proofs.IdClauses.{slot-one}
use Rattle.q_watch.specs.declared.entry.Entry.{Entry}
use Rattle.q_watch.specs.declared.entry.Pair.{Pair}
use Rattle.q_watch.specs.declared.watches.Watches.{Watches}
use Rattle.q_watch.specs.Rows.{row_of, HasEntry}
use Rattle.q_watch.specs.Watches.{IsPairOf, IsPaired, AreWatchesOf, IsOtherOf, IsOpposed, IsApart, IsQuiet, IsQuietFrom, IsQuietUpTo}
use Rattle.q_watch.specs.Visits.{IsGift}
use Rattle.q_watch.proofs.RowLemmas.{get-same, get-within, entry-passed}

pub opposed-more : (S T D : Clause) → IsSubset S T → IsOpposed S D → IsOpposed T D
opposed-more S T D w (j, m, n) = (j, m, w (negation j) n)

pub apart-less : (w : Watches) (d : ℕ) (H G : Clause) → IsSubset G H → IsApart w d H → IsApart w d G
apart-less w d H G s a p e = let r = a p e in ((λ m. r.0 (s p.first m)), λ m. r.1 (s p.second m))

-- At the beginning of a row: each clause that watches its literal has an entry there.
pub quiet-begun : (k : Seen) (w : Watches) (c : ℕ) (S H : Clause) (l : Literal) → AreWatchesOf k w → IsQuietUpTo k w c S H → IsQuietFrom k w c S H l 0
quiet-begun k w c S H l right quiet d D j n s m = elim (quiet d D j n s m) [
  | inl o ↦ IsQuiet.opposed o
  | inr a ↦
      let r = right d D j s m in
      elim (same_or_not r.pair.first l) [
        | inl e ↦ IsQuiet.waiting a (subst (λ (x : Literal). HasEntry (row_of w.rows x) 0 d D) e r.first_row)
        | inr f ↦ elim (same_or_not r.pair.second l) [
          | inl e ↦ IsQuiet.waiting a (subst (λ (x : Literal). HasEntry (row_of w.rows x) 0 d D) e r.second_row)
          | inr g ↦ IsQuiet.apart (λ p e.
              let q : r.pair ≡ p = get-same w.pairs.items d r.pair p r.there e in
              let b = a p e in (
                (λ i. elim i [ inl z ↦ f (subst (λ (x : Pair). x.first ≡ l) (sym q) z) | inr z ↦ b.0 z ]),
                λ i. elim i [ inl z ↦ g (subst (λ (x : Pair). x.second ≡ l) (sym q) z) | inr z ↦ b.1 z ],
              ))
        ]
      ]
]

-- At its end none watches its literal.
pub quiet-ended : (k : Seen) (w : Watches) (c : ℕ) (S H : Clause) (l : Literal) (i : ℕ) → length (row_of w.rows l) ≤ i → IsQuietFrom k w c S H l i → IsQuietUpTo k w c S (l ∷ H)
quiet-ended k w c S H l i past quiet d D j n s m = go (quiet d D j n s m)
  where
    go : IsQuiet w S H l i d D → IsOpposed S D ⊎ IsApart w d (l ∷ H)
    go (IsQuiet.opposed o) = inl o
    go (IsQuiet.apart a) = inr a
    go (IsQuiet.waiting a (b, x, (y, z, g))) = let r = get-within (row_of w.rows l) y _ g in absurd (omega (arith, past, z, r))

-- The entry at a place is passed by, whose clause is quiet.
pub quiet-next : (k : Seen) (w : Watches) (c : ℕ) (S T H : Clause) (l : Literal) (i : ℕ) (e : Entry) → slice_get (row_of w.rows l) i ≡ Some e → IsSubset S T → ((D : Clause) (j : Literal) → e.id ≢ c → slot (slots k) e.id ≡ Some D → IsIn j D → IsIn e.blocker D → IsOpposed T D) → IsQuietFrom k w c S H l i → IsQuietFrom k w c T H l (i + 1)
quiet-next k w c S T H l i e here more q quiet d D j n s m = go (quiet d D j n s m)
  where
    go : IsQuiet w S H l i d D → IsQuiet w T H l (i + 1) d D
    go (IsQuiet.opposed o) = IsQuiet.opposed (opposed-more S T D more o)
    go (IsQuiet.apart a) = IsQuiet.apart a
    go (IsQuiet.waiting a h) = elim (entry-passed (row_of w.rows l) i d D e here h) [
      | inl r ↦ IsQuiet.opposed (q D j (λ z. n (r.0 ∙ z)) (subst (λ (x : ℕ). slot (slots k) x ≡ Some D) r.0 s) m r.1)
      | inr f ↦ IsQuiet.waiting a f
    ]

-- As the set grows clauses stay quiet.
pub quiet-more : (k : Seen) (w : Watches) (c : ℕ) (S T H G : Clause) → IsSubset S T → IsSubset G H → IsQuietUpTo k w c S H → IsQuietUpTo k w c T G
quiet-more k w c S T H G more less quiet d D j n s m = elim (quiet d D j n s m) [
  | inl o ↦ inl (opposed-more S T D more o)
  | inr a ↦ inr (apart-less w d H G less a)
]

pub quiet-none : (k : Seen) (w : Watches) (c : ℕ) (S : Clause) → IsQuietUpTo k w c S []
quiet-none k w c S d D j n s m = inr (λ p e. ((λ z. z), λ z. z))

-- the other watched literal is in the clause
pub other-in : (k : Seen) (w : Watches) (d : ℕ) (l o : Literal) (D : Clause) (j : Literal) → AreWatchesOf k w → IsOtherOf w d l (Some o) → slot (slots k) d ≡ Some D → IsIn j D → IsIn o D
other-in k w d l o D j right (p, e, z) s m =
    let r = right d D j s m in
    let q : r.pair ≡ p = get-same w.pairs.items d r.pair p r.there e in
    let f : IsPairOf D p = subst (λ (x : Pair). IsPairOf D x) q r.of in
    elim z [
      | inl y ↦ subst (λ (x : Literal). IsIn x D) y.1 f.second_in
      | inr y ↦ subst (λ (x : Literal). IsIn x D) y.1 f.first_in
    ]

-- Where it is l itself, the clause has no other literal.
pub other-alone : (k : Seen) (w : Watches) (d : ℕ) (l o : Literal) (D : Clause) (j : Literal) → AreWatchesOf k w → IsOtherOf w d l (Some o) → slot (slots k) d ≡ Some D → IsIn j D → o ≡ l → j ≡ l
other-alone k w d l o D j right (p, e, z) s m q =
    let r = right d D j s m in
    let f : IsPairOf D p = subst (λ (x : Pair). IsPairOf D x) (get-same w.pairs.items d r.pair p r.there e) r.of in
    elim z [
      | inl y ↦ f.alone (y.1 ∙ (q ∙ sym y.0)) j m ∙ y.0
      | inr y ↦ f.alone (y.0 ∙ (sym q ∙ sym y.1)) j m ∙ (y.1 ∙ q)
    ]

-- a clause whose literals but the other watched one are in the set gives that one's negation
pub gift : (k : Seen) (c : ℕ) (S : Clause) (d : ℕ) (o : Literal) (C : Clause) → d ≢ c → slot (slots k) d ≡ Some C → IsIn o C → ((j : Literal) → IsIn j C → j ≢ o → IsIn j S) → (IsIn (negation o) S → ⊥) → IsGift k c S (record { id = d; lit = negation o })
gift k c S d o C n s m h new = record {
  giver = C;
  other = n;
  there = s;
  negated = subst (λ (x : Literal). IsIn x C) (sym (negation-negation o)) m;
  others_in = λ j x y. h j x (λ q. y (q ∙ sym (negation-negation o)));
  is_new = new;
}

pub empty-none : (C : Clause) (j : Literal) → (length C == 0) ≡ true → IsIn j C → ⊥
empty-none [] j e m = m
empty-none (x ∷ C) j e m = grind (arith, nat_tests)

pub some-in : (C : Clause) → (length C == 0) ≡ false → (j : Literal) × IsIn j C
some-in [] e = absurd (true≢false e)
some-in (x ∷ C) e = (x, inl refl)
