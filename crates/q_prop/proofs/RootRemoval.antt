-- A root literal that hangs on one clause alone is taken off, and put back.
use Rattle.std.proofs.Common.{◌≡◌, ◌≢◌, ◌⊎◌, ◌↔◌, ℕ, Bool, IsTrue, List, [], ◌∷◌, ◌++◌, Option, None, Some, Contains, slice_get, take, set, length, min, sym, ◌∙◌, ap, inl, inr, arith, append_assoc, take_all}
use Rattle.std.proofs.Math.Nat.{min-eq_left, min-eq_right}
use Rattle.std.proofs.lemmas.List.Elements.{Contains-append_left, Contains-push, Contains-push_cases}
use Rattle.std.proofs.lemmas.Bool.{cases_eq}
use Rattle.std.proofs.lemmas.Option.{slice_get_within}
use Rattle.q_logic.specs.Prelude.{Literal, negation, Clause, Slots}
use Rattle.q_prop.specs.Chains.{IsForced, IsUnit, IsChain, IsDerived, HasOpposites, HasFalsified}
use Rattle.q_prop.proofs.ListMembers.{Contains-nil, Contains-along, Contains-here, Contains-there, Contains-cons_cases}
use Rattle.q_logic.proofs.Common.{negation-negation, same_or_not}
use Rattle.q_prop.specs.declared.pairs.Pair.{Pair}
use Rattle.q_prop.specs.Slots.{Holds, filled, without}
use Rattle.q_prop.specs.Marks.{IsTaken}
use Rattle.q_prop.specs.Lists.{AreTaken}
use Rattle.q_prop.specs.Supports.{IsAlone, IsApart, IsHung, IsLoosened, AreUnitsKnown}
use Rattle.q_prop.specs.Watches.{HasTrue, IsWatched, AllWatched}
use Rattle.q_prop.specs.Working.{IsKept, IsRooted}
use Rattle.q_prop.proofs.SlotLemmas.{slice_get-there, slice_get-Contains, filled-in, filled-cases, without-le, without-here, without-other}
use Rattle.q_prop.proofs.WatchLemmas.{IsWithin, IsWatched-none, IsWatched-more, IsWatched-less, IsWatched-true}
use Rattle.q_prop.proofs.CompleteRoot.{derived_same, AreTrue-more, AreListed-kept}
use Rattle.q_prop.proofs.KeptRoot.{IsLost, listed_without, listed_fewer, none_watched, without-rooted, derived_spare, falsified_spare, rooted_fewer, rooted_cleared, rooted_zero}
use Rattle.q_prop.proofs.PropagationEnd.{IsKept-refl}

-- there is a list that has lost the literal
pub taken_of : (l : Literal) (old : List Literal) → (new : List Literal) × IsTaken l old new
taken_of l [] = ([], record { members = λ k. (λ m. absurd (Contains-nil k m), λ m. m.0); shorter = omega arith })
taken_of l (a ∷ old) =
    let r = taken_of l old in
    elim (same_or_not a l) [
      | inl e ↦ (
        r.0,
        record {
          members = λ k. (
            λ m. let q = (r.1.members k).0 m in (Contains-there a old k q.0, q.1),
            λ m. (r.1.members k).1 (elim (Contains-cons_cases a old k m.0) [ inl g ↦ absurd (m.1 (sym g ∙ e)) | inr t ↦ t ], m.1),
          );
          shorter = omega (arith, r.1.shorter);
        },
      )
      | inr d ↦ (
        a ∷ r.0,
        record {
          members = λ k. (
            λ m. elim (Contains-cons_cases a r.0 k m) [
              | inl g ↦ (Contains-along (a ∷ old) a k g (Contains-here a old), λ h. d (g ∙ h))
              | inr t ↦ let q = (r.1.members k).0 t in (Contains-there a old k q.0, q.1)
            ],
            λ m. elim (Contains-cons_cases a old k m.0) [
              | inl g ↦ Contains-along (a ∷ r.0) a k g (Contains-here a r.0)
              | inr t ↦ Contains-there a r.0 k ((r.1.members k).1 (t, m.1))
            ],
          );
          shorter = omega (arith, r.1.shorter);
        },
      )
    ]

-- what hangs alone hangs, whatever is known
pub hung_alone : (s : Slots) (n : ℕ) (l : Literal) (known : List Literal) → IsAlone s n l → IsHung s n l known
hung_alone s n l known a = record { has = a.has; only = a.only; met = λ m c e i. absurd (a.none m (c, e, i)) }

pub apart_alone : (s : Slots) (n : ℕ) (l : Literal) → IsAlone s n l → IsApart s n l
apart_alone s n l a = record { has = a.has; only = a.only; met = λ m c e i. absurd (a.none m (c, e, i)) }

pub hung_apart : (s : Slots) (n : ℕ) (l : Literal) (known : List Literal) → IsApart s n l → AreUnitsKnown s n known → IsHung s n l known
hung_apart s n l known a units = record {
  has = a.has;
  only = a.only;
  met = λ m c e i. let q = a.met m c e i in (q.0, q.1, q.2, units q.0 q.2);
}

-- where all of the root is found, each literal of a unit clause is known
pub units_known : (s : Slots) (n : ℕ) (pairs : List (Option Pair)) (singles : List ℕ) (root : List Literal) (head : ℕ) → IsRooted s pairs singles (length singles) root head → AreUnitsKnown s n root
units_known s n pairs singles root head r k b =
    let m = filled-cases (without s (Some n)) (k ∷ []) b in
    let here = without-le s (Some n) m.0 (k ∷ []) m.1 in
    let place = slice_get-there pairs m.0 (let i = slice_get_within s m.0 (Some (k ∷ [])) here in omega (arith, i, r.listed.same_length)) in
    known_at m.0 here place.0 place.1
  where
    one : (l : Literal) → Contains (k ∷ []) l → k ≡ l
    one l h = elim (Contains-cons_cases k [] l h) [ inl e ↦ e | inr t ↦ absurd (Contains-nil l t) ]

    known_at : (m : ℕ) → Holds s m (k ∷ []) → (x : Option Pair) → slice_get pairs m ≡ Some x → Contains root k
    known_at m here (Some p) e =
        let w = r.ready.watched m (k ∷ []) p here e in
        absurd (w.differ (sym (one p.first w.first_in) ∙ one p.second w.second_in))
    known_at m here None e =
        let j = slice_get-Contains singles m (r.listed.listed m (k ∷ []) here e) in
        let t = r.singles_true j.0 m (k ∷ []) (slice_get_within singles j.0 m j.1) j.1 here in
        Contains-along root t.literal k (sym (one t.literal t.is_in)) t.is_known

Contains-cases : (c : Clause) (l : Literal) → Contains c l ⊎ (Contains c l → ⊥)
Contains-cases [] l = inr (Contains-nil l)
Contains-cases (a ∷ c) l = elim (same_or_not a l) [
  | inl e ↦ inl (Contains-along (a ∷ c) a l e (Contains-here a c))
  | inr n ↦ elim (Contains-cases c l) [
    | inl i ↦ inl (Contains-there a c l i)
    | inr o ↦ inr (λ m. elim (Contains-cons_cases a c l m) [ inl e ↦ n e | inr t ↦ o t ])
  ]
]

module _ (s : Slots) (n : ℕ) (l : Literal) (old new : List Literal) (hung : IsHung s n l old) (known : Contains old l) (consistent : HasOpposites old → ⊥) (taken : IsTaken l old new) where
  taken_within : IsWithin new old
  taken_within k m = ((taken.members k).0 m).0

  pub consistent_taken : HasOpposites new → ⊥
  consistent_taken o = consistent (o.0, taken_within o.0 o.1, taken_within (negation o.0) o.2)

  -- the literal stands in no clause by its negation, or this one isn't that
  apart_from : (c : Clause) (k : Literal) → (Contains c (negation l) → ⊥) → Contains c k → negation k ≢ l
  apart_from c k o i h = o (Contains-along c k (negation l) (sym (negation-negation k) ∙ ap negation h) i)

  -- a clause with the negation, in which all but one literal is false, has the other literal from a unit clause
  met_forced : (before after : List Literal) (a : Literal) → IsWithin before old → (m : ℕ) (c : Clause) → Holds s m c → Contains c (negation l) → Contains c a → IsUnit before c a → IsForced (filled (without s (Some n))) after a
  met_forced before after a within m c e i in' u =
      let t = hung.met m c e i in
      elim (same_or_not t.0 a) [
        | inl g ↦ record {
          clause = t.0 ∷ [];
          of_matrix = t.2;
          of_clause = Contains-along (t.0 ∷ []) t.0 a g (Contains-here t.0 []);
          others = λ k h d. elim (Contains-cons_cases t.0 [] k h) [ inl q ↦ absurd (d (sym q ∙ g)) | inr q ↦ absurd (Contains-nil k q) ];
        }
        | inr d ↦ absurd (consistent (t.0, t.3, within (negation t.0) (u t.0 t.1 d)))
      ]

  -- what is forced by a clause is forced by one of another slot, with no need of the literal
  forced_taken : (before after : List Literal) (a : Literal) → a ≢ l → ((k : Literal) → Contains before k → k ≢ l → Contains after k) → IsWithin before old → IsForced (filled s) before a → IsForced (filled (without s (Some n))) after a
  forced_taken before after a d inside within f =
      let m = filled-cases s f.clause f.of_matrix in
      elim (cases_eq m.0 n) [
        | inl e ↦
            let has = hung.has f.clause (rw e at m.1) in
            absurd (consistent (l, known, within (negation l) (f.others l has (λ g. d (sym g)))))
        | inr q ↦ elim (Contains-cases f.clause (negation l)) [
          | inl i ↦ met_forced before after a within m.0 f.clause m.1 i f.of_clause f.others
          | inr o ↦ record {
            clause = f.clause;
            of_matrix = filled-in (without s (Some n)) m.0 f.clause (without-other s n m.0 q ∙ m.1);
            of_clause = f.of_clause;
            others = λ k i g. inside (negation k) (f.others k i g) (apart_from f.clause k o i);
          }
        ]
      ]

  -- a chain of what is left of another one
  IsTakenChain : List Literal → List Literal → Type 0
  IsTakenChain after ls = (rest : List Literal) × IsChain (filled (without s (Some n))) after rest × ((k : Literal) → Contains rest k ↔ (Contains ls k × k ≢ l))

  taken_here : (after ls : List Literal) (a : Literal) → a ≡ l → IsTakenChain after ls → IsTakenChain after (a ∷ ls)
  unfolding IsTakenChain
  taken_here after ls a e r = (
    r.0,
    r.1,
    λ k. (
      λ m. let q = (r.2 k).0 m in (Contains-there a ls k q.0, q.1),
      λ m. (r.2 k).1 (elim (Contains-cons_cases a ls k m.0) [ inl g ↦ absurd (m.1 (sym g ∙ e)) | inr t ↦ t ], m.1),
    ),
  )

  taken_other : (after ls : List Literal) (a : Literal) → a ≢ l → IsForced (filled (without s (Some n))) after a → IsTakenChain (after ++ a ∷ []) ls → IsTakenChain after (a ∷ ls)
  unfolding IsTakenChain
  taken_other after ls a d f r = (
    a ∷ r.0,
    (f, r.1),
    λ k. (
      λ m. elim (Contains-cons_cases a r.0 k m) [
        | inl g ↦ (Contains-along (a ∷ ls) a k g (Contains-here a ls), λ h. d (g ∙ h))
        | inr t ↦ let q = (r.2 k).0 t in (Contains-there a ls k q.0, q.1)
      ],
      λ m. elim (Contains-cons_cases a ls k m.0) [
        | inl g ↦ Contains-along (a ∷ r.0) a k g (Contains-here a r.0)
        | inr t ↦ Contains-there a r.0 k ((r.2 k).1 (t, m.1))
      ],
    ),
  )

  chain_taken : (before after ls : List Literal) → ((k : Literal) → Contains before k → k ≢ l → Contains after k) → IsWithin (before ++ ls) old → IsChain (filled s) before ls → IsTakenChain after ls
  unfolding IsTakenChain
  chain_taken before after [] inside within h = ([], tt, λ k. (λ m. absurd (Contains-nil k m), λ m. absurd (Contains-nil k m.0)))
  chain_taken before after (a ∷ ls) inside within h =
      let within' : IsWithin ((before ++ a ∷ []) ++ ls) old = λ k m. within k (rw append_assoc at m) in
      elim (same_or_not a l) [
        | inl e ↦ taken_here after ls a e (chain_taken (before ++ a ∷ []) after ls
            (λ k m d. elim (Contains-push_cases before a k m) [ inl b ↦ inside k b d | inr g ↦ absurd (d (sym g ∙ e)) ])
            within' h.1)
        | inr d ↦ taken_other after ls a d
            (forced_taken before after a d inside (λ k m. within k (Contains-append_left before (a ∷ ls) k m)) h.0)
            (chain_taken (before ++ a ∷ []) (after ++ a ∷ []) ls
            (λ k m e. elim (Contains-push_cases before a k m) [
              | inl b ↦ Contains-append_left after (a ∷ []) k (inside k b e)
              | inr g ↦ rw (← g) (Contains-push after a)
            ])
            within' h.1)
      ]

  pub derived_taken : IsDerived (filled s) old → IsDerived (filled (without s (Some n))) new
  unfolding IsTakenChain
  derived_taken d =
      let r = chain_taken [] [] d.order (λ k m e. m) (λ k m. (d.members k).0 m) d.chain in
      record {
        order = r.0;
        chain = r.1;
        members = λ k. (
          λ m. let q = (r.2 k).0 m in (taken.members k).1 ((d.members k).0 q.0, q.1),
          λ m. let q = (taken.members k).0 m in (r.2 k).1 ((d.members k).1 q.0, q.1),
        );
      }

  -- a falsified clause holds neither the literal nor its negation
  pub falsified_taken : HasFalsified (filled s) old → HasFalsified (filled (without s (Some n))) new
  falsified_taken f =
      let m = filled-cases s f.0 f.1 in
      elim (cases_eq m.0 n) [
        | inl e ↦ absurd (consistent (l, known, f.2 l (hung.has f.0 (rw e at m.1))))
        | inr q ↦ elim (Contains-cases f.0 (negation l)) [
          | inl i ↦ let t = hung.met m.0 f.0 m.1 i in absurd (consistent (t.0, t.3, f.2 t.0 t.1))
          | inr o ↦ (
            f.0,
            filled-in (without s (Some n)) m.0 f.0 (without-other s n m.0 q ∙ m.1),
            λ k i. (taken.members (negation k)).1 (f.2 k i, apart_from f.0 k o i),
          )
        ]
      ]

  -- no clause of another slot holds the literal
  known_taken : (m : ℕ) (c : Clause) (k : Literal) → Holds (without s (Some n)) m c → Contains c k → Contains old k → Contains new k
  known_taken m c k e i h =
      (taken.members k).1 (
        h,
        λ g.
            let there = without-le s (Some n) m c e in
            let same = hung.only m (c, there, Contains-along c k l g i) in
            without-here s n c (rw same at e),
      )

  watched_taken : (m : ℕ) (c : Clause) (p : Pair) → Holds (without s (Some n)) m c → IsWatched old old c p → IsWatched new new c p
  watched_taken m c p e w = record {
    first_in = w.first_in;
    second_in = w.second_in;
    differ = w.differ;
    first_false = λ h. let t = w.first_false (taken_within (negation p.first) h) in (t.0, t.1, known_taken m c t.0 e t.1 t.2);
    second_false = λ h. let t = w.second_false (taken_within (negation p.second) h) in (t.0, t.1, known_taken m c t.0 e t.1 t.2);
  }

  -- where a watched literal is false, the clause is true
  true_back : (m : ℕ) (c : Clause) (a : Literal) → Holds s m c → Contains c a → (Contains new (negation a) → HasTrue new c) → Contains old (negation a) → HasTrue old c
  true_back m c a e i w h = elim (Contains-cases c (negation l)) [
    | inl j ↦ let t = hung.met m c e j in (t.0, t.1, t.3)
    | inr o ↦ let t = w ((taken.members (negation a)).1 (h, apart_from c a o i)) in (t.0, t.1, taken_within t.0 t.2)
  ]

  watched_back : (m : ℕ) (c : Clause) (p : Pair) → Holds s m c → IsWatched new new c p → IsWatched old old c p
  watched_back m c p e w = record {
    first_in = w.first_in;
    second_in = w.second_in;
    differ = w.differ;
    first_false = true_back m c p.first e w.first_in w.first_false;
    second_false = true_back m c p.second e w.second_in w.second_false;
  }

  module _ (pairs : List (Option Pair)) (singles : List ℕ) (r : IsRooted s pairs singles (length singles) old (length old)) where
    old_watched : AllWatched old old s pairs
    old_watched = let all : take (length old) old ≡ old = take_all (length old) old (omega arith) in rw all at r.ready.watched

    -- the root without the literal is that without the slot
    pub rooted_taken : IsRooted (without s (Some n)) pairs singles (length singles) new (length new)
    rooted_taken =
        let all : take (length new) new ≡ new = take_all (length new) new (omega arith) in
        record {
          ready = record {
            consistent = consistent_taken;
            watched = rw all (λ b c p e f. watched_taken b c p e (old_watched b c p (without-le s (Some n) b c e) f));
          };
          head_in = omega arith;
          listed = listed_without s (Some n) pairs singles r.listed;
          singles_true = λ j b c h e f.
              let t = r.singles_true j b c h e (without-le s (Some n) b c f) in
              record { literal = t.literal; is_in = t.is_in; is_known = known_taken b c t.literal f t.is_in t.is_known };
          derived = derived_taken r.derived;
        }

    same_back : (k : Literal) → Contains old k ↔ Contains (new ++ l ∷ []) k
    same_back k = (
      λ m. elim (same_or_not k l) [
        | inl e ↦ Contains-along (new ++ l ∷ []) l k (sym e) (Contains-push new l)
        | inr d ↦ Contains-append_left new (l ∷ []) k ((taken.members k).1 (m, d))
      ],
      λ m. elim (Contains-push_cases new l k m) [
        | inl b ↦ taken_within k b
        | inr e ↦ Contains-along old l k e known
      ],
    )

    module _ (pairs' : List (Option Pair)) (kept : IsKept s new pairs pairs') where
      -- the slot's own clause is true by the literal
      watched_kept : AllWatched old old s pairs'
      watched_kept b c q e f = elim (cases_eq b n) [
        | inl g ↦
            let w = kept.floors [] (λ k h. absurd (Contains-nil k h)) b c e (λ p h. IsWatched-none old old [] c p (old_watched b c p e h)) q f in
            IsWatched-true [] old old c q (l, hung.has c (rw g at e), known) (IsWatched-none [] [] old c q w)
        | inr d ↦
            let w = kept.floors new (λ k h. h) b c e (λ p h. watched_taken b c p (without-other s n b d ∙ e) (old_watched b c p e h)) q f in
            watched_back b c q e w
      ]

      -- all is as before, but for the order
      pub rooted_back : IsRooted s pairs' singles (length singles) (new ++ l ∷ []) (length (new ++ l ∷ []))
      rooted_back =
          let back = new ++ l ∷ [] in
          let all : take (length back) back ≡ back = take_all (length back) back (omega arith) in
          record {
            ready = record {
              consistent = λ o. consistent (o.0, (same_back o.0).1 o.1, (same_back (negation o.0)).1 o.2);
              watched = rw all (λ b c p e f.
                  IsWatched-less old back back c p (λ k h. (same_back k).1 h)
                  (IsWatched-more old old back c p (λ k h. (same_back k).0 h) (watched_kept b c p e f)));
            };
            head_in = omega arith;
            listed = AreListed-kept s s new pairs pairs' singles kept r.listed;
            singles_true = AreTrue-more s singles (length singles) old back (λ k h. (same_back k).0 h) r.singles_true;
            derived = derived_same (filled s) old back same_back r.derived;
          }

module _ (s : Slots) (n : ℕ) (pairs : List (Option Pair)) (singles left : List ℕ) (done mark : ℕ) (root rest : List Literal) (head : ℕ) (settled : Bool) (r : IsRooted s pairs singles done root head) (loose : IsLoosened s n root rest settled) where
  loosened_from : (head' : ℕ) → IsRooted (without s (Some n)) pairs singles done rest head' → IsLost n singles left → AreTaken singles done left mark → IsRooted (without s (Some n)) (set pairs n None) left mark rest head'
  loosened_from head' q lost taken = rooted_cleared s n pairs left mark rest head' (rooted_fewer s n pairs singles left done mark rest head' r.listed lost taken q)

  -- the slot is emptied and taken out of the list
  pub rooted_loosened : (IsTrue settled → (head ≡ length root) × (done ≡ length singles)) → IsLost n singles left → AreTaken singles done left mark → IsRooted (without s (Some n)) (set pairs n None) left mark rest (min head (length rest))
  rooted_loosened told lost taken = elim loose [
    | inl h ↦
        let same : min head (length rest) ≡ head = rw h.0 (min-eq_left r.head_in) in
        let q = without-rooted s n pairs singles done root head r (derived_spare s n root h.1 r.derived) in
        rw same (loosened_from head (rw h.0 q) lost taken)
    | inr h ↦
        let t = told h.0 in
        let x = h.1 in
        let short = x.3.shorter in
        let same : min head (length rest) ≡ length rest = rw t.0 (min-eq_right short) in
        let whole : IsRooted s pairs singles (length singles) root (length root) = rw (t.0, t.1) at r in
        let q = rooted_taken s n x.0 root rest x.1 x.2 r.ready.consistent x.3 pairs singles whole in
        rw same (loosened_from (length rest) (rw t.1 q) lost taken)
  ]

  derived_loosened : IsDerived (filled (without s (Some n))) rest
  derived_loosened = elim loose [
    | inl h ↦ rw h.0 (derived_spare s n root h.1 r.derived)
    | inr h ↦ let x = h.1 in derived_taken s n x.0 root rest x.1 x.2 r.ready.consistent x.3 r.derived
  ]

  consistent_loosened : HasOpposites rest → ⊥
  consistent_loosened = elim loose [
    | inl h ↦ rw h.0 r.ready.consistent
    | inr h ↦ let x = h.1 in consistent_taken s n x.0 root rest x.1 x.2 r.ready.consistent x.3
  ]

  -- a conflict is kept, with nothing worked off
  pub falsified_loosened : HasFalsified (filled s) root → HasFalsified (filled (without s (Some n))) rest
  falsified_loosened f = elim loose [
    | inl h ↦ rw h.0 (falsified_spare s n root h.1 f)
    | inr h ↦ let x = h.1 in falsified_taken s n x.0 root rest x.1 x.2 r.ready.consistent x.3 f
  ]

  pub rooted_refuted : IsLost n singles left → IsRooted (without s (Some n)) (set pairs n None) left 0 rest 0
  rooted_refuted lost =
      let t = without s (Some n) in
      let watched : AllWatched [] [] t pairs = λ b c p e f. none_watched (take head root) root s pairs r.ready.watched b c p (without-le s (Some n) b c e) f in
      rooted_cleared s n pairs left 0 rest 0 (rooted_zero t pairs pairs left rest (listed_fewer s n pairs singles left r.listed lost) watched derived_loosened consistent_loosened (IsKept-refl t [] pairs))
