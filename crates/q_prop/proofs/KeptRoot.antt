-- The root between calls: what a call, a deletion and an addition leave of it.
use Rattle.std.proofs.Common.{◌≡◌, ◌≢◌, ◌⊎◌, ◌↔◌, ℕ, zero, suc, List, [], ◌∷◌, ◌++◌, Option, None, Some, Contains, set, take, length, refl, sym, ◌∙◌, ap, inl, inr, arith, append_assoc, take_all, not-suc-le-zero}
use Rattle.std.proofs.lemmas.List.Elements.{Contains-append_left, Contains-append_right, Contains-append_cases}
use Rattle.std.proofs.lemmas.List.{length-set}
use Rattle.std.proofs.lemmas.Bool.{cases_eq}
use Rattle.q_logic.specs.Prelude.{Literal, negation, Clause, Slots}
use Rattle.q_logic.proofs.Common.{same_or_not}
use Rattle.q_prop.specs.Chains.{IsForced, IsUnit, IsChain, IsDerived, HasOpposites, HasFalsified}
use Rattle.q_prop.proofs.ListMembers.{Contains-nil, Contains-along, Contains-here, Contains-there, Contains-cons_cases}
use Rattle.q_prop.specs.Supports.{IsDoubled, IsGiven, IsSupport, IsSpare, IsUnitBeside}
use Rattle.q_prop.specs.declared.supports.Support.TheVariants.{Doubled}
use Rattle.q_prop.specs.Search.{IsOpen, IsUnset}
use Rattle.q_prop.specs.declared.pairs.Pair.{Pair}
use Rattle.q_prop.specs.Slots.{Holds, filled, without}
use Rattle.q_prop.specs.Watches.{AllWatched}
use Rattle.q_prop.specs.declared.rows.Entry.{Entry}
use Rattle.q_prop.specs.Rows.{Watchers, IsPushed}
use Rattle.q_prop.proofs.RowLemmas.{HasEntry-pushed}
use Rattle.q_prop.specs.Lists.{AreTaken}
use Rattle.q_prop.specs.Working.{AreInRows, IsKept, AreListed, IsRooted, AreStanding}
use Rattle.q_prop.proofs.SlotLemmas.{filled-in, filled-cases, without-le, without-here, without-other, slice_get-set_other, slice_get-set_here}
use Rattle.q_prop.proofs.WatchLemmas.{IsWithin, IsWatched-none}
use Rattle.q_prop.proofs.PropagationEnd.{kept_watched}
use Rattle.q_prop.proofs.CompleteRoot.{derived_nothing, derived_over, AreListed-kept, IsChain-append, IsChain-more}
use Rattle.q_prop.proofs.BucketLemmas.{same-clause}

pub none_watched : (done known : List Literal) (s : Slots) (pairs : List (Option Pair)) → AllWatched done known s pairs → AllWatched [] [] s pairs
none_watched done known s pairs w b c p e f = IsWatched-none done known [] c p (w b c p e f)

-- nothing is worked off
pub rooted_zero : (s : Slots) (pairs pairs' : List (Option Pair)) (singles : List ℕ) (root' : List Literal) → AreListed s pairs singles → AllWatched [] [] s pairs → IsDerived (filled s) root' → (HasOpposites root' → ⊥) → IsKept s [] pairs pairs' → IsRooted s pairs' singles 0 root' 0
rooted_zero s pairs pairs' singles root' listed watched derived' consistent' kept = record {
  ready = record {
    consistent = consistent';
    watched = λ b c p e f. IsWatched-none [] [] root' c p (kept_watched s [] [] pairs pairs' (λ l h. h) kept watched b c p e f);
  };
  head_in = omega arith;
  listed = AreListed-kept s s [] pairs pairs' singles kept listed;
  singles_true = λ j b c h e f. absurd (not-suc-le-zero h);
  derived = derived';
}

-- all is worked off, and pairs have moved above the root
pub rooted_kept : (s : Slots) (pairs pairs' : List (Option Pair)) (singles : List ℕ) (done : ℕ) (root : List Literal) → IsRooted s pairs singles done root (length root) → IsKept s root pairs pairs' → IsRooted s pairs' singles done root (length root)
rooted_kept s pairs pairs' singles done root r kept =
    let all : take (length root) root ≡ root = take_all (length root) root (omega arith) in
    record {
      ready = record {
        consistent = r.ready.consistent;
        watched = rw all (kept_watched s root root pairs pairs' (λ l h. h) kept (rw all at r.ready.watched));
      };
      head_in = r.head_in;
      listed = AreListed-kept s s root pairs pairs' singles kept r.listed;
      singles_true = r.singles_true;
      derived = r.derived;
    }

pub without-derived : (s : Slots) (skip : Option ℕ) (root : List Literal) → IsDerived (filled (without s skip)) root → IsDerived (filled s) root
without-derived s skip root d =
    derived_over (filled (without s skip)) (filled s) root
    (λ c m. let n = filled-cases (without s skip) c m in filled-in s n.0 c (without-le s skip n.0 c n.1)) d

-- a slot that doubles gives what this one does, where its clause has but one literal that is not false
given_of : (s : Slots) (n : ℕ) (l : Literal) (m : ℕ) (known : List Literal) → IsDoubled s n l m → (Contains known (negation l) → ⊥) → ((d : Clause) → Holds s m d → IsUnit known d l) → IsGiven s n known
given_of s n l m known d o u = record { literal = l; slot = m; doubled = d; not_false = o; unit = u d.clause (without-le s (Some n) m d.clause d.elsewhere) }

pub given_support : (s : Slots) (n : ℕ) (l : Literal) (m : ℕ) (known : List Literal) → IsSupport s (Some n) (Doubled l m) → (Contains known (negation l) → ⊥) → ((d : Clause) → Holds s m d → IsUnit known d l) → IsGiven s n known
given_support s n l m known q o u =
    let same : q.0 ≡ n = let h : Some n ≡ Some q.0 = q.1 in cc in
    given_of s n l m known (rw same at q.2) o u

clause_cases : (s : Slots) (n : ℕ) → ((c : Clause) × Holds s n c) ⊎ ((c : Clause) → Holds s n c → ⊥)
clause_cases [] n = inr (λ c e. cc)
clause_cases (None ∷ s) zero = inr (λ c e. cc)
clause_cases (Some d ∷ s) zero = inl (d, refl)
clause_cases (x ∷ s) (suc n) = clause_cases s n

-- literals of unit clauses are a chain in any order
units_chain : (s : Slots) (n : ℕ) (known us : List Literal) → ((u : Literal) → Contains us u → IsUnitBeside s n u) → IsChain (filled (without s (Some n))) known us
units_chain s n known [] h = tt
units_chain s n known (u ∷ us) h = (
  record {
    clause = u ∷ [];
    of_matrix = h u (Contains-here u us);
    of_clause = Contains-here u [];
    others = λ k m d. elim (Contains-cons_cases u [] k m) [ inl e ↦ absurd (d (sym e)) | inr t ↦ absurd (Contains-nil k t) ];
  },
  units_chain s n (known ++ u ∷ []) us (λ k m. h k (Contains-there u us k m)),
)

module _ (s : Slots) (at' : ℕ) (root : List Literal) (spare : IsSpare s at' root) where
  -- the clause does nothing, or another one does the same where these literals are known
  pub record IsEnough (base : List Literal) (c : Clause) : Type 0 where
    pub is : IsOpen root c ⊎ IsUnset root c ⊎ ((g : IsGiven s at' root) × ((k : Literal) → Contains g.doubled.clause k → k ≢ g.literal → Contains c k ⊎ Contains base (negation k)))

  -- literals of unit clauses that are known, and by which another clause does what the slot's does
  record IsBase (base : List Literal) : Type 0 where
    units : (u : Literal) → Contains base u → IsUnitBeside s at' u
    within : IsWithin base root
    enough : (c : Clause) → Holds s at' c → IsEnough base c

  record AreUnits (c d : Clause) (l : Literal) (base : List Literal) : Type 0 where
    units : (u : Literal) → Contains base u → IsUnitBeside s at' u
    within : IsWithin base root
    covered : (k : Literal) → Contains d k → k ≢ l → Contains c k ⊎ Contains base (negation k)

  units_of : (c d : Clause) (l : Literal) → IsUnit root d l → ((k : Literal) → Contains d k → k ≢ l → Contains c k ⊎ IsUnitBeside s at' (negation k)) → (base : List Literal) × AreUnits c d l base
  units_of c [] l u h = ([], record { units = λ k m. absurd (Contains-nil k m); within = λ k m. absurd (Contains-nil k m); covered = λ k m. absurd (Contains-nil k m) })
  units_of c (a ∷ d) l u h =
      let r = units_of c d l (λ k m. u k (Contains-there a d k m)) (λ k m. h k (Contains-there a d k m)) in
      let here = Contains-here a d in
      elim (same_or_not a l) [
        | inl e ↦ (
          r.0,
          record {
            units = r.1.units;
            within = r.1.within;
            covered = λ k m n. elim (Contains-cons_cases a d k m) [ inl g ↦ absurd (n (sym g ∙ e)) | inr t ↦ r.1.covered k t n ];
          },
        )
        | inr n ↦ elim (h a here n) [
          | inl i ↦ (
            r.0,
            record {
              units = r.1.units;
              within = r.1.within;
              covered = λ k m q. elim (Contains-cons_cases a d k m) [ inl g ↦ inl (Contains-along c a k g i) | inr t ↦ r.1.covered k t q ];
            },
          )
          | inr b ↦ (
            negation a ∷ r.0,
            record {
              units = λ k m. elim (Contains-cons_cases (negation a) r.0 k m) [ inl g ↦ rw g at b | inr t ↦ r.1.units k t ];
              within = λ k m. elim (Contains-cons_cases (negation a) r.0 k m) [ inl g ↦ Contains-along root (negation a) k g (u a here n) | inr t ↦ r.1.within k t ];
              covered = λ k m q. elim (Contains-cons_cases a d k m) [
                | inl g ↦ inr (Contains-along (negation a ∷ r.0) (negation a) (negation k) (ap negation g) (Contains-here (negation a) r.0))
                | inr t ↦ elim (r.1.covered k t q) [ inl i ↦ inl i | inr j ↦ inr (Contains-there (negation a) r.0 (negation k) j) ]
              ];
            },
          )
        ]
      ]

  enough_same : (base : List Literal) (c d : Clause) → c ≡ d → IsEnough base c → IsEnough base d
  enough_same base c d e h = rw e at h

  base_of_clause : (c : Clause) → Holds s at' c → IsOpen root c ⊎ IsUnset root c ⊎ IsGiven s at' root → (base : List Literal) × IsBase base
  base_of_clause c here (inl o) = (
    [],
    record {
      units = λ k m. absurd (Contains-nil k m);
      within = λ k m. absurd (Contains-nil k m);
      enough = λ d e. enough_same [] c d (same-clause s at' c d here e) (record { is = inl o });
    },
  )
  base_of_clause c here (inr (inl u)) = (
    [],
    record {
      units = λ k m. absurd (Contains-nil k m);
      within = λ k m. absurd (Contains-nil k m);
      enough = λ d e. enough_same [] c d (same-clause s at' c d here e) (record { is = inr (inl u) });
    },
  )
  base_of_clause c here (inr (inr g)) =
      let r = units_of c g.doubled.clause g.literal g.unit (λ k m n. g.doubled.others c here k m n) in (
        r.0,
        record {
          units = r.1.units;
          within = r.1.within;
          enough = λ d e. enough_same r.0 c d (same-clause s at' c d here e) (record { is = inr (inr (g, r.1.covered)) });
        },
      )

  base_of : (base : List Literal) × IsBase base
  base_of = elim (clause_cases s at') [
    | inl h ↦ base_of_clause h.0 h.1 (spare h.0 h.1)
    | inr n ↦ (
      [],
      record {
        units = λ k m. absurd (Contains-nil k m);
        within = λ k m. absurd (Contains-nil k m);
        enough = λ d e. absurd (n d e);
      },
    )
  ]

  module _ (base : List Literal) (based : IsBase base) where
    -- what the slot's clause forces within the root, the other clause does
    given_forced : (known : List Literal) (l : Literal) → IsWithin base known → IsWithin known root → (f : IsForced (filled s) known l) → Holds s at' f.clause → (g : IsGiven s at' root) → ((k : Literal) → Contains g.doubled.clause k → k ≢ g.literal → Contains f.clause k ⊎ Contains base (negation k)) → IsForced (filled (without s (Some at'))) known l
    given_forced known l held within f here g covered =
        let d = g.doubled in
        elim (same_or_not g.literal l) [
          | inl e ↦ record {
            clause = d.clause;
            of_matrix = filled-in (without s (Some at')) g.slot d.clause d.elsewhere;
            of_clause = Contains-along d.clause g.literal l e d.has;
            others = λ k m n. elim (covered k m (λ q. n (q ∙ e))) [ inl i ↦ f.others k i n | inr b ↦ held (negation k) b ];
          }
          | inr n ↦ absurd (g.not_false (within (negation g.literal) (f.others g.literal (d.own f.clause here) n)))
        ]

    -- what is forced within the root is forced by other slots
    spare_forced : (known : List Literal) (l : Literal) → Contains root l → IsWithin base known → IsWithin known root → IsForced (filled s) known l → IsForced (filled (without s (Some at'))) known l
    spare_forced known l there held within f =
        let n = filled-cases s f.clause f.of_matrix in
        elim (cases_eq n.0 at') [
          | inl e ↦
              let here : Holds s at' f.clause = rw e at n.1 in
              elim (based.enough f.clause here).is [
                | inl o ↦ absurd (elim (same_or_not o.first l) [
                  | inl g ↦ o.second_open (within (negation o.second) (f.others o.second o.has_second (λ h. o.differ (g ∙ sym h))))
                  | inr g ↦ o.first_open (within (negation o.first) (f.others o.first o.has_first g))
                ])
                | inr (inl u) ↦ absurd (elim (same_or_not u.literal l) [
                  | inl g ↦ u.not_true (Contains-along root l u.literal (sym g) there)
                  | inr g ↦ u.not_false (within (negation u.literal) (f.others u.literal u.has g))
                ])
                | inr (inr g) ↦ given_forced known l held within f here g.0 g.1
              ]
          | inr d ↦ record { clause = f.clause; of_matrix = filled-in (without s (Some at')) n.0 f.clause (without-other s at' n.0 d ∙ n.1); of_clause = f.of_clause; others = f.others }
        ]

    chain_along : (known ls : List Literal) → IsWithin base known → IsWithin (known ++ ls) root → IsChain (filled s) known ls → IsChain (filled (without s (Some at'))) known ls
    chain_along known [] b w h = tt
    chain_along known (l ∷ ls) b w h = (
      spare_forced known l (w l (Contains-append_right known (l ∷ ls) l (Contains-here l ls))) b (λ k m. w k (Contains-append_left known (l ∷ ls) k m)) h.0,
      chain_along (known ++ l ∷ []) ls (λ k m. Contains-append_left known (l ∷ []) k (b k m)) (λ k m. w k (rw append_assoc at m)) h.1,
    )

    derived_base : IsDerived (filled s) root → IsDerived (filled (without s (Some at'))) root
    derived_base d =
        let inside : IsWithin (base ++ d.order) root = λ k m. elim (Contains-append_cases base d.order k m) [ inl b ↦ based.within k b | inr o ↦ (d.members k).0 o ] in
        record {
          order = base ++ d.order;
          chain = IsChain-append (filled (without s (Some at'))) [] base d.order
              (units_chain s at' [] base based.units)
              (chain_along base d.order (λ k m. m) inside (IsChain-more (filled s) [] base d.order (λ k m. absurd (Contains-nil k m)) d.chain));
          members = λ k. (inside k, λ m. Contains-append_right base d.order k ((d.members k).1 m));
        }

  pub derived_spare : IsDerived (filled s) root → IsDerived (filled (without s (Some at'))) root
  derived_spare = derived_base base_of.0 base_of.1

  pub falsified_spare : HasFalsified (filled s) root → HasFalsified (filled (without s (Some at'))) root
  falsified_spare f = (
    f.0,
    (let n = filled-cases s f.0 f.1 in
        elim (cases_eq n.0 at') [
          | inl e ↦
              let here : Holds s at' f.0 = rw e at n.1 in
              absurd (elim (spare f.0 here) [
                | inl o ↦ o.first_open (f.2 o.first o.has_first)
                | inr (inl u) ↦ u.not_false (f.2 u.literal u.has)
                | inr (inr g) ↦ g.not_false (f.2 g.literal (g.doubled.own f.0 here))
              ])
          | inr d ↦ filled-in (without s (Some at')) n.0 f.0 (without-other s at' n.0 d ∙ n.1)
        ]),
    f.2,
  )

pub without-rooted : (s : Slots) (at' : ℕ) (pairs : List (Option Pair)) (singles : List ℕ) (done : ℕ) (root : List Literal) (head : ℕ) → IsRooted s pairs singles done root head → IsDerived (filled (without s (Some at'))) root → IsRooted (without s (Some at')) pairs singles done root head
without-rooted s at' pairs singles done root head r derived' = record {
  ready = record {
    consistent = r.ready.consistent;
    watched = λ b c p e f. r.ready.watched b c p (without-le s (Some at') b c e) f;
  };
  head_in = r.head_in;
  listed = record {
    same_length = r.listed.same_length ∙ sym (length-set s at' None);
    listed = λ b c e f. r.listed.listed b c (without-le s (Some at') b c e) f;
    inside = λ b h. rw (length-set s at' None) (r.listed.inside b h);
    short = λ b c h e. r.listed.short b c h (without-le s (Some at') b c e);
  };
  singles_true = λ j b c h e f. r.singles_true j b c h e (without-le s (Some at') b c f);
  derived = derived';
}

-- the root stands without the slot
pub rooted_free : (s : Slots) (skip : Option ℕ) (pairs : List (Option Pair)) (singles : List ℕ) (done : ℕ) (root : List Literal) (head : ℕ) → ((at' : ℕ) → skip ≡ Some at' → IsSpare s at' root) → IsRooted s pairs singles done root head → IsRooted (without s skip) pairs singles done root head
rooted_free s None pairs singles done root head free r = r
rooted_free s (Some at') pairs singles done root head free r =
    without-rooted s at' pairs singles done root head r (derived_spare s at' root (free at' refl) r.derived)

pub falsified_skip : (s : Slots) (skip : Option ℕ) (root : List Literal) → ((at' : ℕ) → skip ≡ Some at' → IsSpare s at' root) → HasFalsified (filled s) root → HasFalsified (filled (without s skip)) root
falsified_skip s None root free f = f
falsified_skip s (Some at') root free f = falsified_spare s at' root (free at' refl) f

pub derived_skip : (s : Slots) (skip : Option ℕ) (root : List Literal) → ((at' : ℕ) → skip ≡ Some at' → IsSpare s at' root) → IsDerived (filled s) root → IsDerived (filled (without s skip)) root
derived_skip s None root free d = d
derived_skip s (Some at') root free d = derived_spare s at' root (free at' refl) d

-- a root of nothing, without a slot
pub rooted_empty : (s : Slots) (n : ℕ) (pairs : List (Option Pair)) (singles : List ℕ) → AreListed (without s (Some n)) pairs singles → AllWatched [] [] s pairs → IsRooted (without s (Some n)) pairs singles 0 [] 0
rooted_empty s n pairs singles listed watched = record {
  ready = record {
    consistent = λ o. Contains-nil o.0 o.1;
    watched = λ b c p e f. watched b c p (without-le s (Some n) b c e) f;
  };
  head_in = omega arith;
  listed = listed;
  singles_true = λ j b c h e f. absurd (not-suc-le-zero h);
  derived = derived_nothing (filled (without s (Some n)));
}

-- what is listed stays so where a slot is left out
pub listed_without : (s : Slots) (skip : Option ℕ) (pairs : List (Option Pair)) (singles : List ℕ) → AreListed s pairs singles → AreListed (without s skip) pairs singles
listed_without s skip pairs singles listed = record {
  same_length = listed.same_length ∙ sym (length-without s skip);
  listed = λ b c e f. listed.listed b c (without-le s skip b c e) f;
  inside = λ b h. rw (length-without s skip) (listed.inside b h);
  short = λ b c h e. listed.short b c h (without-le s skip b c e);
}
  where
    length-without : (s : Slots) (skip : Option ℕ) → length (without s skip) ≡ length s
    length-without s None = refl
    length-without s (Some at') = length-set s at' None

-- a root of nothing
pub rooted_nothing : (s : Slots) (skip : Option ℕ) (pairs : List (Option Pair)) (singles : List ℕ) → AreListed s pairs singles → AllWatched [] [] s pairs → IsRooted (without s skip) pairs singles 0 [] 0
rooted_nothing s None pairs singles listed watched = record {
  ready = record { consistent = λ o. Contains-nil o.0 o.1; watched = watched };
  head_in = omega arith;
  listed = listed;
  singles_true = λ j b c h e f. absurd (not-suc-le-zero h);
  derived = derived_nothing (filled s);
}
rooted_nothing s (Some n) pairs singles listed watched = rooted_empty s n pairs singles (listed_without s (Some n) pairs singles listed) watched

-- an empty slot needs no pair
pub rooted_cleared : (s : Slots) (at' : ℕ) (pairs : List (Option Pair)) (singles : List ℕ) (done : ℕ) (root : List Literal) (head : ℕ) → IsRooted (without s (Some at')) pairs singles done root head → IsRooted (without s (Some at')) (set pairs at' None) singles done root head
rooted_cleared s at' pairs singles done root head r = record {
  ready = record {
    consistent = r.ready.consistent;
    watched = λ b c p e f. elim (cases_eq b at') [
      | inl g ↦ absurd (none_pair p (slice_get-set_here pairs at' None (Some p) (rw g at f)))
      | inr d ↦ r.ready.watched b c p e (sym (slice_get-set_other pairs at' b None d) ∙ f)
    ];
  };
  head_in = r.head_in;
  listed = record {
    same_length = length-set pairs at' None ∙ r.listed.same_length;
    listed = λ b c e f. elim (cases_eq b at') [
      | inl g ↦ absurd (without-here s at' c (rw g at e))
      | inr d ↦ r.listed.listed b c e (sym (slice_get-set_other pairs at' b None d) ∙ f)
    ];
    inside = r.listed.inside;
    short = r.listed.short;
  };
  singles_true = r.singles_true;
  derived = r.derived;
}
  where
    none_pair : (p : Pair) → None ≡ Some p → ⊥
    none_pair p e = cc

-- a row has grown
pub covered_pushed : (t : Slots) (pairs : List (Option Pair)) (rows rows' : Watchers) (l : Literal) (e : Entry) → IsPushed rows rows' l e → AreInRows t pairs rows → AreInRows t pairs rows'
covered_pushed t pairs rows rows' l e p covered' b c q h g =
    let old = covered' b c q h g in
    (HasEntry-pushed rows rows' l e p q.first 0 b c old.0, HasEntry-pushed rows rows' l e p q.second 0 b c old.1)

-- an empty slot needs no entry
pub covered_cleared : (t : Slots) (n : ℕ) (pairs : List (Option Pair)) (rows : Watchers) → AreInRows t pairs rows → AreInRows (without t (Some n)) (set pairs n None) rows
covered_cleared t n pairs rows covered' b c q h g = elim (cases_eq b n) [
  | inl s ↦ absurd (without-here t n c (rw s at h))
  | inr d ↦ covered' b c q (without-le t (Some n) b c h) (sym (slice_get-set_other pairs n b None d) ∙ g)
]

none_not_some : (c : Clause) → None ≡ Some (Some c) → ⊥
none_not_some c e = cc

-- a list that has lost a slot
abbrev pub IsLost : ℕ → List ℕ → List ℕ → Type 0
IsLost n old new = (b : ℕ) → Contains new b ↔ (Contains old b × b ≢ n)

-- what is listed once the slot is empty
pub listed_fewer : (s : Slots) (n : ℕ) (pairs : List (Option Pair)) (old new : List ℕ) → AreListed s pairs old → IsLost n old new → AreListed (without s (Some n)) pairs new
listed_fewer s n pairs old new l lost = record {
  same_length = l.same_length ∙ sym (length-set s n None);
  listed = λ b c e f. (lost b).1 (l.listed b c (without-le s (Some n) b c e) f, λ g. without-here s n c (rw g at e));
  inside = λ b h. rw (length-set s n None) (l.inside b ((lost b).0 h).0);
  short = λ b c h e. l.short b c ((lost b).0 h).0 (without-le s (Some n) b c e);
}

pub standing_cleared : (s : Slots) (n : ℕ) (old new : List ℕ) → AreStanding s old → IsLost n old new → AreStanding (without s (Some n)) new
standing_cleared s n old new standing lost b h =
    let k = (lost b).0 h in
    let e = standing b k.0 in
    (e.0, without-other s n b k.1 ∙ e.1)

-- the slot is taken out of the list
pub rooted_fewer : (s : Slots) (n : ℕ) (pairs : List (Option Pair)) (old new : List ℕ) (done mark : ℕ) (root : List Literal) (head : ℕ) → AreListed s pairs old → IsLost n old new → AreTaken old done new mark → IsRooted (without s (Some n)) pairs old done root head → IsRooted (without s (Some n)) pairs new mark root head
rooted_fewer s n pairs old new done mark root head listed lost taken r = record {
  ready = r.ready;
  head_in = r.head_in;
  listed = listed_fewer s n pairs old new listed lost;
  singles_true = λ j b c h e f. let k = taken.before j b h e in r.singles_true k.0 b c k.1 k.2 f;
  derived = r.derived;
}
