-- A clause put into a slot, and the root after that.
use Rattle.std.proofs.Common.{◌≡◌, ◌≢◌, ℕ, ◌<◌, ◌≤◌, List, [], ◌∷◌, ◌++◌, Option, None, Some, Contains, take, length, sym, ◌∙◌, inl, inr, arith, length-append, subst}
use Rattle.std.proofs.lemmas.List.Elements.{Contains-append_left, Contains-push, Contains-push_cases}
use Rattle.q_logic.specs.Prelude.{Literal, negation, Clause, Slots}
use Rattle.q_prop.specs.Chains.{IsUnit, IsDerived, HasOpposites, HasFalsified}
use Rattle.q_prop.proofs.ListMembers.{Contains-take}
use Rattle.q_prop.proofs.Chains.{no_opposites-push}
use Rattle.q_prop.specs.declared.pairs.Pair.{Pair}
use Rattle.q_prop.specs.Slots.{Holds, filled, IsPut, IsPlaced}
use Rattle.q_prop.specs.Watches.{IsWatched, AllWatched, IsShort}
use Rattle.q_prop.specs.declared.rows.Entry.{Entry}
use Rattle.q_prop.specs.Rows.{Watchers, row_of, HasEntry, entry_of, IsPushed}
use Rattle.q_prop.proofs.RowLemmas.{HasEntry-pushed, IsFrom-end}
use Rattle.q_prop.specs.Working.{AreInRows, AreListed, AreTrue, IsRooted, AreStanding}
use Rattle.q_prop.proofs.SlotLemmas.{filled-in, filled-cases, slice_get-push_cases, take-front, Contains-slice_get}
use Rattle.q_prop.proofs.WatchLemmas.{IsWithin, IsWatched-none, IsWatched-more, IsWatched-less}
use Rattle.q_prop.proofs.CompleteRoot.{derived_over, derived_append, AreTrue-more}
use Rattle.q_prop.proofs.KeptRoot.{covered_pushed}
use Rattle.q_prop.proofs.PlacedItems.{placed-cases, placed-longer, placed-within, placed-same_length, put-placed, put-vacant, put-cases, put-here, put-other}

-- the new pair stands in its two rows
pub covered_put : (s : Slots) (n : ℕ) (d : Clause) (s' : Slots) → IsPut s n d s' → (pairs pairs' : List (Option Pair)) (rows rows1 rows2 : Watchers) (p : Pair) → Contains d p.first → Contains d p.second → IsPlaced pairs n (Some p) pairs' → IsPushed rows rows1 p.first (entry_of n p.second) → IsPushed rows1 rows2 p.second (entry_of n p.first) → AreInRows s pairs rows → AreInRows s' pairs' rows2
covered_put s n d s' put pairs pairs' rows rows1 rows2 p first_in second_in placed one two covered' b c q h e =
    elim (placed-cases pairs n (Some p) pairs' placed b (Some q) e) [
      | inl f ↦
          let before : Holds s b c = elim (put-cases s n d s' put b c h) [ inl k ↦ k.1 | inr k ↦ absurd (f.0 k.0) ] in
          covered_pushed s pairs rows1 rows2 p.second (entry_of n p.first) two (covered_pushed s pairs rows rows1 p.first (entry_of n p.second) one covered') b c q before f.1
      | inr f ↦
          let same : p ≡ q = let g = f.1 in cc in
          let clause : d ≡ c = elim (put-cases s n d s' put b c h) [ inl k ↦ absurd (k.0 f.0) | inr k ↦ k.1 ] in
          let first : HasEntry (row_of rows1 p.first) 0 n d = (p.second, second_in, rw one.here (IsFrom-end (row_of rows p.first) (entry_of n p.second))) in
          let second : HasEntry (row_of rows2 p.second) 0 n d = (p.first, first_in, rw two.here (IsFrom-end (row_of rows1 p.second) (entry_of n p.first))) in
          rw (f.0, ← same, ← clause) (HasEntry-pushed rows1 rows2 p.second (entry_of n p.first) two p.first 0 n d first, second)
    ]

-- a clause without a pair needs no entry
pub covered_short : (s : Slots) (n : ℕ) (d : Clause) (s' : Slots) → IsPut s n d s' → (pairs pairs' : List (Option Pair)) (rows : Watchers) → IsPlaced pairs n None pairs' → AreInRows s pairs rows → AreInRows s' pairs' rows
covered_short s n d s' put pairs pairs' rows placed covered' b c q h e =
    elim (placed-cases pairs n None pairs' placed b (Some q) e) [
      | inl f ↦
          let before : Holds s b c = elim (put-cases s n d s' put b c h) [ inl k ↦ k.1 | inr k ↦ absurd (f.0 k.0) ] in
          covered' b c q before f.1
      | inr f ↦ absurd (no_pair q f.1)
    ]
  where
    no_pair : (q : Pair) → None ≡ Some q → ⊥
    no_pair q e = cc

module _ (s : Slots) (n : ℕ) (d : Clause) (s' : Slots) (put : IsPut s n d s') where
  filled-more : (c : Clause) → Contains (filled s) c → Contains (filled s') c
  filled-more c h = let k = filled-cases s c h in filled-in s' k.0 c (put-other s n d s' put k.0 c k.1)

  filled-new : Contains (filled s') d
  filled-new = filled-in s' n d (put-here s n d s' put)

  derived_more : (root : List Literal) → IsDerived (filled s) root → IsDerived (filled s') root
  derived_more root h = derived_over (filled s) (filled s') root filled-more h

  -- what is falsified stays so
  pub falsified_put : (root root' : List Literal) → IsWithin root root' → HasFalsified (filled s) root → HasFalsified (filled s') root'
  falsified_put root root' w f = (f.0, filled-more f.0 f.1, λ k m. w (negation k) (f.2 k m))

  old_slot : (b : ℕ) (c : Clause) → b ≢ n → Holds s' b c → Holds s b c
  old_slot b c other e = elim (put-cases s n d s' put b c e) [
    | inl h ↦ h.1
    | inr h ↦ absurd (other h.0)
  ]

  not_listed : (singles : List ℕ) → AreStanding s singles → (b : ℕ) → Contains singles b → b ≢ n
  not_listed singles standing b h f = let e = standing b h in put-vacant s n d s' put e.0 (subst (λ x. Holds s x e.0) f e.1)

  pub standing_more : (singles : List ℕ) → AreStanding s singles → AreStanding s' singles
  standing_more singles standing b h = let e = standing b h in (e.0, put-other s n d s' put b e.0 e.1)

  pub standing_pushed : (singles : List ℕ) → AreStanding s singles → AreStanding s' (singles ++ n ∷ [])
  standing_pushed singles standing b h = elim (Contains-push_cases singles n b h) [
    | inl g ↦ standing_more singles standing b g
    | inr g ↦ rw (← g) (d, put-here s n d s' put)
  ]

  module _ (pairs : List (Option Pair)) (singles : List ℕ) (done : ℕ) (root : List Literal) (head : ℕ) (r : IsRooted s pairs singles done root head) (standing : AreStanding s singles) (o : Option Pair) (pairs' : List (Option Pair)) (placed : IsPlaced pairs n o pairs') where
    grown_length : length pairs' ≡ length s'
    grown_length = placed-same_length pairs pairs' s s' n o (Some d) placed (put-placed s n d s' put) r.listed.same_length

    singles_more : AreTrue s' singles done root
    singles_more j b c h e f = r.singles_true j b c h e (old_slot b c (not_listed singles standing b (Contains-slice_get singles j b e)) f)

    inside_more : (b : ℕ) → Contains singles b → b < length s'
    inside_more b h = let k = r.listed.inside b h in let m = placed-longer s n (Some d) s' (put-placed s n d s' put) in omega (arith, k, m)

    some_none : (p : Pair) → Some p ≡ None → ⊥
    some_none p e = cc

    module _ (p : Pair) (is_some : o ≡ Some p) (root' : List Literal) (head' : ℕ) (within : IsWithin root root') (consistent' : HasOpposites root' → ⊥) (head_in' : head' ≤ length root') (old : (c : Clause) (q : Pair) → IsWatched (take head root) root c q → IsWatched (take head' root') root' c q) (new : IsWatched (take head' root') root' d p) where
      watched_put : AllWatched (take head' root') root' s' pairs'
      watched_put b c q e f = elim (placed-cases pairs n o pairs' placed b (Some q) f) [
        | inl g ↦ old c q (r.ready.watched b c q (old_slot b c g.0 e) g.1)
        | inr g ↦ elim (put-cases s n d s' put b c e) [
          | inl h ↦ absurd (h.0 g.0)
          | inr h ↦
              let pair : p ≡ q = let k = g.1 in cc in
              rw (← h.1, ← pair) new
        ]
      ]

      listed_put : AreListed s' pairs' singles
      listed_put = record {
        same_length = grown_length;
        listed = λ b c e f. elim (placed-cases pairs n o pairs' placed b None f) [
          | inl g ↦ r.listed.listed b c (old_slot b c g.0 e) g.1
          | inr g ↦ absurd (some_none p (sym is_some ∙ g.1))
        ];
        inside = inside_more;
        short = λ b c h e. r.listed.short b c h (old_slot b c (not_listed singles standing b h) e);
      }

      pub rooted_put : IsDerived (filled s') root' → IsRooted s' pairs' singles done root' head'
      rooted_put derived' = record {
        ready = record { consistent = consistent'; watched = watched_put };
        head_in = head_in';
        listed = listed_put;
        singles_true = AreTrue-more s' singles done root root' within singles_more;
        derived = derived';
      }

    -- a clause that is watched at the root
    pub rooted_open : (p : Pair) → o ≡ Some p → IsWatched root root d p → IsRooted s' pairs' singles done root head
    rooted_open p is new =
        rooted_put p is root head (λ l h. h) r.ready.consistent r.head_in (λ c q w. w)
        (IsWatched-less root (take head root) root d p (λ l h. Contains-take root head l h) new) (derived_more root r.derived)

    -- nothing is worked off
    pub rooted_again : (p : Pair) → o ≡ Some p → IsWatched [] [] d p → IsRooted s' pairs' singles done root 0
    rooted_again p is new =
        rooted_put p is root 0 (λ l h. h) r.ready.consistent (omega arith) (λ c q w. IsWatched-none (take head root) root root c q w)
        (IsWatched-none [] [] root d p new) (derived_more root r.derived)

    -- the clause forces its first literal
    pub rooted_forced : (p : Pair) → o ≡ Some p → IsWatched [] [] d p → IsUnit root d p.first → (Contains root (negation p.first) → ⊥) → IsRooted s' pairs' singles done (root ++ p.first ∷ []) head
    rooted_forced p is new unit open' =
        let same : take head (root ++ p.first ∷ []) ≡ take head root = take-front root (p.first ∷ []) head r.head_in in
        let long = length-append root (p.first ∷ []) in
        let within : IsWithin root (root ++ p.first ∷ []) = λ l h. Contains-append_left root (p.first ∷ []) l h in
        rooted_put p is (root ++ p.first ∷ []) head within (no_opposites-push root p.first r.ready.consistent open') (omega (arith, long, r.head_in))
        (λ c q w. rw same (IsWatched-more (take head root) root (root ++ p.first ∷ []) c q within w))
        (record {
          first_in = new.first_in;
          second_in = new.second_in;
          differ = new.differ;
          first_false = λ h. absurd (open' (Contains-take root head (negation p.first) (rw same at h)));
          second_false = λ h. (p.first, new.first_in, Contains-push root p.first);
        })
        (derived_append (filled s') root (p.first ∷ []) (derived_more root r.derived)
        (record { clause = d; of_matrix = filled-new; of_clause = new.first_in; others = unit }, tt))

    -- a short clause is listed
    pub rooted_short : o ≡ None → done ≤ length singles → IsShort d → IsRooted s' pairs' (singles ++ n ∷ []) done root head
    rooted_short is before short' = record {
      ready = record {
        consistent = r.ready.consistent;
        watched = λ b c q e f. elim (placed-cases pairs n o pairs' placed b (Some q) f) [
          | inl g ↦ r.ready.watched b c q (old_slot b c g.0 e) g.1
          | inr g ↦ absurd (some_none q (sym g.1 ∙ is))
        ];
      };
      head_in = r.head_in;
      listed = record {
        same_length = grown_length;
        listed = λ b c e f. elim (put-cases s n d s' put b c e) [
          | inl h ↦ elim (placed-cases pairs n o pairs' placed b None f) [
            | inl g ↦ Contains-append_left singles (n ∷ []) b (r.listed.listed b c h.1 g.1)
            | inr g ↦ absurd (h.0 g.0)
          ]
          | inr h ↦ rw h.0 (Contains-push singles n)
        ];
        inside = λ b h. elim (Contains-push_cases singles n b h) [
          | inl g ↦ inside_more b g
          | inr g ↦ rw (← g) (placed-within s n (Some d) s' (put-placed s n d s' put))
        ];
        short = λ b c h e. elim (put-cases s n d s' put b c e) [
          | inl g ↦ elim (Contains-push_cases singles n b h) [
            | inl k ↦ r.listed.short b c k g.1
            | inr k ↦ absurd (g.0 (sym k))
          ]
          | inr g ↦ rw (← g.1) short'
        ];
      };
      singles_true = λ j b c h e f. elim (slice_get-push_cases singles n b j e) [
        | inl g ↦ singles_more j b c h g f
        | inr g ↦ absurd (let k = g.0 in omega (arith, k, h, before))
      ];
      derived = derived_more root r.derived;
    }
