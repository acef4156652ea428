-- Watches that have moved.
use Rattle.std.proofs.Common.{◌≡◌, ◌≢◌, ◌⊎◌, ◌+◌, ◌<◌, ◌≤◌, ℕ, List, [], ◌∷◌, ◌++◌, length, slice_get, slice_set, Some, inl, inr, refl, sym, ◌∙◌, ap, subst, arith}
use Rattle.std.proofs.lemmas.Bool.{cases_eq}
use Rattle.q_logic.specs.Prelude.{Literal, negation, Clause, IsIn, IsSubset, slot}
use Rattle.q_logic.proofs.Common.{same_or_not}
use Rattle.q_kernel.specs.Prelude.{Seen, slots}
use Rattle.q_rule.proofs.IdClauses.{slot-one}
use Rattle.q_watch.specs.declared.entry.Entry.{Entry}
use Rattle.q_watch.specs.declared.entry.Pair.{Pair}
use Rattle.q_watch.specs.declared.watches.Watches.{Watches}
use Rattle.q_watch.specs.Rows.{row_of, HasEntry, entry_of, IsPushed, IsRemoved, AreSameRows}
use Rattle.q_watch.specs.Watches.{IsPairOf, IsPaired, AreWatchesOf, AreRightFor, IsSame, IsOtherOf, IsOpposed, IsApart, IsQuiet, IsQuietFrom, IsLess, IsRewatched}
use Rattle.q_watch.proofs.RowLemmas.{get-same, get-within, get-set_same, get-set_other, get-append, entry-pushed, entry-end, entry-same, entry-removed, entry-removed_from, entry-other_row}
use Rattle.q_watch.proofs.QuietClauses.{apart-less}

-- the pairs are the same, and so are the rows
pub watches-less : (k : Seen) (old new : Watches) → IsLess old new → AreWatchesOf k old → AreWatchesOf k new
watches-less k old new e right d D j s m =
    let r = right d D j s m in
    record {
      pair = r.pair;
      there = subst (λ ps. slice_get ps.items d ≡ Some r.pair) (sym e.pairs) r.there;
      of = r.of;
      first_row = entry-same old.rows new.rows e.rows r.pair.first 0 d D r.first_row;
      second_row = entry-same old.rows new.rows e.rows r.pair.second 0 d D r.second_row;
    }

pub right-same : (k : Seen) (old new : Watches) → IsSame old new → AreRightFor k old → AreRightFor k new
right-same k old new e right r = watches-less k old new (record { pairs = e.pairs; rows = λ l. ap (λ (rs : List (List Entry)). row_of rs l) e.rows }) (right (sym e.ready ∙ r))

-- An entry of l goes whose clause does not watch l.
module _ (k : Seen) (old new : Watches) (l : Literal) (i : ℕ) (e : Entry) (here : slice_get (row_of old.rows l) i ≡ Some e) (pairs : new.pairs.items ≡ old.pairs.items) (r : IsRemoved old.rows new.rows l i)
    (stale : (p : Pair) → slice_get old.pairs.items e.id ≡ Some p → (p.first ≢ l) × (p.second ≢ l)) where
  there-still : (d : ℕ) (p : Pair) → slice_get old.pairs.items d ≡ Some p → slice_get new.pairs.items d ≡ Some p
  there-still d p q = subst (λ (ps : List Pair). slice_get ps d ≡ Some p) (sym pairs) q

  there-before : (d : ℕ) (p : Pair) → slice_get new.pairs.items d ≡ Some p → slice_get old.pairs.items d ≡ Some p
  there-before d p q = subst (λ (ps : List Pair). slice_get ps d ≡ Some p) pairs q

  row-still : (x : Literal) (d : ℕ) (D : Clause) → (d ≡ e.id → x ≢ l) → HasEntry (row_of old.rows x) 0 d D → HasEntry (row_of new.rows x) 0 d D
  row-still x d D n h = elim (cases_eq d e.id) [
    | inl q ↦ entry-other_row old.rows new.rows l i r x d D (n q) h
    | inr f ↦ entry-removed old.rows new.rows l i e here r x d D f h
  ]

  pub stale-watches : AreWatchesOf k old → AreWatchesOf k new
  stale-watches right d D j s m =
      let f = right d D j s m in
      record {
        pair = f.pair;
        there = there-still d f.pair f.there;
        of = f.of;
        first_row = row-still f.pair.first d D (λ q. (stale f.pair (subst (λ (x : ℕ). slice_get old.pairs.items x ≡ Some f.pair) q f.there)).0) f.first_row;
        second_row = row-still f.pair.second d D (λ q. (stale f.pair (subst (λ (x : ℕ). slice_get old.pairs.items x ≡ Some f.pair) q f.there)).1) f.second_row;
      }

  apart-still : (d : ℕ) (H : Clause) → IsApart old d H → IsApart new d H
  apart-still d H a p q = a p (there-before d p q)

  pub stale-quiet : (c : ℕ) (S H : Clause) → IsQuietFrom k old c S H l i → IsQuietFrom k new c S H l i
  stale-quiet c S H quiet d D j n s m = go (quiet d D j n s m)
    where
      go : IsQuiet old S H l i d D → IsQuiet new S H l i d D
      go (IsQuiet.opposed o) = IsQuiet.opposed o
      go (IsQuiet.apart a) = IsQuiet.apart (apart-still d (l ∷ H) a)
      go (IsQuiet.waiting a h) = elim (cases_eq d e.id) [
        | inl q ↦ IsQuiet.apart (λ p f.
            let g = there-before d p f in
            let b = a p g in
            let z = stale p (subst (λ (x : ℕ). slice_get old.pairs.items x ≡ Some p) q g) in (
              (λ x. elim x [ inl y ↦ z.0 y | inr y ↦ b.0 y ]),
              λ x. elim x [ inl y ↦ z.1 y | inr y ↦ b.1 y ],
            ))
        | inr f ↦ IsQuiet.waiting (apart-still d H a) (entry-removed_from old.rows new.rows l i e here r d D f h)
      ]

-- The clause C of an entry of l watches another literal in the place of l.
module _ (k : Seen) (old new : Watches) (l : Literal) (i : ℕ) (e : Entry) (b o m : Literal) (C : Clause) (at' : slice_get (row_of old.rows l) i ≡ Some (entry_of e.id b)) (other : IsOtherOf old e.id l (Some o)) (is : e.blocker ≡ o) (there : slot (slots k) e.id ≡ Some C)
    (m-in : IsIn m C) (o-in : IsIn o C) (m-o : m ≢ o) (m-l : m ≢ l) (o-l : o ≢ l) (f : IsRewatched old new l i e m) where
  abbrev n : ℕ
  n = e.id

  first-here : slice_get (row_of f.between l) i ≡ Some (entry_of n b)
  first-here = subst (λ (row : List Entry). slice_get row i ≡ Some (entry_of n b)) (sym (f.pushed.others l (λ q. m-l (sym q)))) at'

  new-pair : slice_get new.pairs.items n ≡ Some (record { first = m; second = e.blocker })
  new-pair = subst (λ (ps : List Pair). slice_get ps n ≡ Some (record { first = m; second = e.blocker })) (sym f.pairs) (get-set_same old.pairs.items n _ (get-within old.pairs.items n other.0 other.1))

  same-pair : (d : ℕ) (p : Pair) → d ≢ n → slice_get new.pairs.items d ≡ Some p → slice_get old.pairs.items d ≡ Some p
  same-pair d p q z = sym (get-set_other old.pairs.items n d _ q) ∙ subst (λ (ps : List Pair). slice_get ps d ≡ Some p) f.pairs z

  same-pair_on : (d : ℕ) (p : Pair) → d ≢ n → slice_get old.pairs.items d ≡ Some p → slice_get new.pairs.items d ≡ Some p
  same-pair_on d p q z = subst (λ (ps : List Pair). slice_get ps d ≡ Some p) (sym f.pairs) (get-set_other old.pairs.items n d _ q ∙ z)

  row-on : (x : Literal) (d : ℕ) (D : Clause) → (d ≡ n → x ≢ l) → HasEntry (row_of old.rows x) 0 d D → HasEntry (row_of new.rows x) 0 d D
  row-on x d D q h =
      let g = entry-pushed old.rows f.between m e f.pushed x 0 d D h in
      elim (cases_eq d n) [
        | inl z ↦ entry-other_row f.between new.rows l i f.removed x d D (q z) g
        | inr z ↦ entry-removed f.between new.rows l i (entry_of n b) first-here f.removed x d D z g
      ]

  -- the row in which it stood before, and still does
  o-row : IsPaired old n C → HasEntry (row_of old.rows o) 0 n C
  o-row r =
      let q : r.pair ≡ other.0 = get-same old.pairs.items n r.pair other.0 r.there other.1 in
      elim other.2 [
        | inl y ↦ subst (λ (x : Literal). HasEntry (row_of old.rows x) 0 n C) (ap (λ (p : Pair). p.second) q ∙ y.1) r.second_row
        | inr y ↦ subst (λ (x : Literal). HasEntry (row_of old.rows x) 0 n C) (ap (λ (p : Pair). p.first) q ∙ y.1) r.first_row
      ]

  m-row : HasEntry (row_of new.rows m) 0 n C
  m-row = entry-other_row f.between new.rows l i f.removed m n C m-l (subst (λ (r : List Entry). HasEntry r 0 n C) (sym f.pushed.here) (entry-end (row_of old.rows m) n e.blocker C (subst (λ (x : Literal). IsIn x C) (sym is) o-in)))

  pub moved-watches : AreWatchesOf k old → AreWatchesOf k new
  moved-watches right d D j s i' = elim (cases_eq d n) [
    | inl q ↦
        let same : C ≡ D = slot-one (slots k) n C D there (subst (λ (x : ℕ). slot (slots k) x ≡ Some D) q s) in
        subst (λ (x : ℕ). IsPaired new x D) (sym q) (subst (λ (E : Clause). IsPaired new n E) same (record {
          pair = record { first = m; second = e.blocker };
          there = new-pair;
          of = record { first_in = m-in; second_in = subst (λ (x : Literal). IsIn x C) (sym is) o-in; alone = λ z. absurd (m-o (sym z ∙ is)) };
          first_row = m-row;
          second_row = subst (λ (x : Literal). HasEntry (row_of new.rows x) 0 n C) (sym is) (row-on o n C (λ z. o-l) (o-row (right n C m there m-in)));
        }))
    | inr q ↦
        let r = right d D j s i' in
        record {
          pair = r.pair;
          there = same-pair_on d r.pair q r.there;
          of = r.of;
          first_row = row-on r.pair.first d D (λ z. absurd (q z)) r.first_row;
          second_row = row-on r.pair.second d D (λ z. absurd (q z)) r.second_row;
        }
  ]

  apart-on : (d : ℕ) (H : Clause) → d ≢ n → IsApart old d H → IsApart new d H
  apart-on d H q a p z = a p (same-pair d p q z)

  -- the other watched literal is not in what the clause is apart from
  o-apart : (H : Clause) → IsApart old n H → IsIn o H → ⊥
  o-apart H a x = let v = a other.0 other.1 in elim other.2 [
    | inl y ↦ v.1 (subst (λ (z : Literal). IsIn z H) (sym y.1) x)
    | inr y ↦ v.0 (subst (λ (z : Literal). IsIn z H) (sym y.1) x)
  ]

  pub moved-quiet : (c : ℕ) (S H : Clause) → (IsIn m H → ⊥) → IsQuietFrom k old c S H l i → IsQuietFrom k new c S H l i
  moved-quiet c S H out quiet d D j x s y = elim (cases_eq d n) [
    | inl q ↦ here q (quiet d D j x s y)
    | inr q ↦ away q (quiet d D j x s y)
  ]
    where
      now : IsApart old n H → IsApart new n (l ∷ H)
      now a p z =
          let q : record { first = m; second = e.blocker } ≡ p = get-same new.pairs.items n _ p new-pair z in (
            subst (λ (p : Pair). IsIn p.first (l ∷ H) → ⊥) q (λ v. elim v [ inl u ↦ m-l u | inr u ↦ out u ]),
            subst (λ (p : Pair). IsIn p.second (l ∷ H) → ⊥) q (λ v. elim v [ inl u ↦ o-l (sym is ∙ u) | inr u ↦ o-apart H a (subst (λ (z : Literal). IsIn z H) is u) ]),
          )

      here : d ≡ n → IsQuiet old S H l i d D → IsQuiet new S H l i d D
      here q (IsQuiet.opposed v) = IsQuiet.opposed v
      here q (IsQuiet.apart a) = IsQuiet.apart (subst (λ (x : ℕ). IsApart new x (l ∷ H)) (sym q) (now (apart-less old n (l ∷ H) H (λ z u. inr u) (subst (λ (x : ℕ). IsApart old x (l ∷ H)) q a))))
      here q (IsQuiet.waiting a h) = IsQuiet.apart (subst (λ (x : ℕ). IsApart new x (l ∷ H)) (sym q) (now (subst (λ (x : ℕ). IsApart old x H) q a)))

      away : d ≢ n → IsQuiet old S H l i d D → IsQuiet new S H l i d D
      away q (IsQuiet.opposed v) = IsQuiet.opposed v
      away q (IsQuiet.apart a) = IsQuiet.apart (apart-on d (l ∷ H) q a)
      away q (IsQuiet.waiting a h) = IsQuiet.waiting (apart-on d H q a)
          (entry-removed_from f.between new.rows l i (entry_of n b) first-here f.removed d D q (entry-pushed old.rows f.between m e f.pushed l i d D h))

  pub moved-shorter : length (row_of new.rows l) + 1 ≡ length (row_of old.rows l)
  moved-shorter = f.removed.here.shorter ∙ ap length (f.pushed.others l (λ q. m-l (sym q)))
