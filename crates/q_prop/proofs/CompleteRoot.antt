-- The root, and what is asked above it.
use Rattle.std.proofs.Common.{◌≡◌, ◌↔◌, ℕ, ◌+◌, ◌<◌, ◌≤◌, Bool, true, false, List, [], ◌∷◌, ◌++◌, Option, None, Some, Contains, slice_get, take, map, get_or, length, refl, ◌∙◌, ap, inl, inr, arith, append_assoc, append-nil, take_all, Result, Ok, Err, IfOk, MatchBool, IsTrue}
use Rattle.std.proofs.lemmas.List.Elements.{Contains-append_left, Contains-append_right, Contains-append_cases, Contains-push, Contains-push_cases}
use Rattle.std.proofs.lemmas.Bool.{cases_eq}
use Rattle.q_logic.specs.Prelude.{Literal, negation, Clause, Matrix, Implied, Slots}
use Rattle.q_prop.proofs.ChainDefinition.{is_implied, implied_of}
use Rattle.q_prop.specs.Chains.{IsChain, IsDerived, HasOpposites, HasFalsified, IsImplied}
use Rattle.q_prop.proofs.ListMembers.{Contains-along, Contains-nil, Contains-take, Contains-map, Contains-map_cases}
use Rattle.q_logic.proofs.Common.{negation-negation, taken}
use Rattle.q_prop.specs.Search.{AreQuiet}
use Rattle.q_prop.proofs.Chains.{no_opposites-push}
use Rattle.q_prop.specs.declared.pairs.Pair.{Pair}
use Rattle.q_prop.specs.Slots.{Holds, filled}
use Rattle.q_prop.specs.Watches.{IsShort, IsSingle}
use Rattle.q_prop.specs.Working.{IsNew, AreNew, IsReached, IsReady, IsKept, AreListed, AreTrue, IsLonger, Clashes, IsAssumed}
use Rattle.q_prop.proofs.SlotLemmas.{filled-in, same_slice_get, take-front}
use Rattle.q_prop.proofs.WatchLemmas.{IsWithin, IsWatched-more}
use Rattle.q_prop.proofs.PropagationEnd.{IsReached-within, complete_store}

module _ (s : Slots) (at' : ℕ) (c : Clause) (l : Literal) (known : List Literal) (holds : Holds s at' c) (short : IsShort c) (in' : Contains c l) where
  pub single_falsified : Contains known (negation l) → HasFalsified (filled s) known
  single_falsified n = (c, filled-in s at' c holds, λ k m. rw (short k l m in') n)

  pub single_new : (Contains known l → ⊥) → (Contains known (negation l) → ⊥) → IsNew (filled s) known l
  single_new f g = (
    record {
      clause = c;
      of_matrix = filled-in s at' c holds;
      of_clause = in';
      others = λ k m n. absurd (n (short k l m in'));
    },
    f,
    g,
  )

pub single_true : (s : Slots) (at' : ℕ) (c : Clause) (l : Literal) (known : List Literal) → Holds s at' c → Contains c l → Contains known l → (d : Clause) → Holds s at' d → IsSingle known d
single_true s at' c l known holds in' here d e =
    let same : c ≡ d = let h : Some c ≡ Some d = same_slice_get s at' (Some c) (Some d) holds e in cc in
    rw (← same) (record { literal = l; is_in = in'; is_known = here })

pub AreTrue-more : (s : Slots) (singles : List ℕ) (done : ℕ) (known more : List Literal) → IsWithin known more → AreTrue s singles done known → AreTrue s singles done more
AreTrue-more s singles done known more w t j at' c h e f =
    let g = t j at' c h e f in
    record { literal = g.literal; is_in = g.is_in; is_known = w g.literal g.is_known }

pub AreTrue-next : (s : Slots) (singles : List ℕ) (done at' : ℕ) (known : List Literal) → slice_get singles done ≡ Some at' → AreTrue s singles done known → ((c : Clause) → Holds s at' c → IsSingle known c) → AreTrue s singles (done + 1) known
AreTrue-next s singles done at' known here t new j b c h e f =
    elim (cases_eq j done) [
      | inl q ↦
          let same : at' ≡ b = same_slice_get singles done at' b here (rw q at e) in
          new c (rw (← same) at f)
      | inr n ↦ t j b c (omega (arith, h, n)) e f
    ]

-- a chain from fewer literals is one from more
pub IsChain-more : (x : Matrix) (few more ls : List Literal) → IsWithin few more → IsChain x few ls → IsChain x more ls
IsChain-more x few more [] w h = tt
IsChain-more x few more (l ∷ ls) w h =
    let f = h.0 in (
      record { clause = f.clause; of_matrix = f.of_matrix; of_clause = f.of_clause; others = λ k m n. w (negation k) (f.others k m n) },
      IsChain-more x (few ++ l ∷ []) (more ++ l ∷ []) ls
          (λ k m. elim (Contains-push_cases few l k m) [
            | inl b ↦ Contains-append_left more (l ∷ []) k (w k b)
            | inr e ↦ rw (← e) (Contains-push more l)
          ])
          h.1,
    )

-- a chain goes over into a larger matrix
pub IsChain-over : (x y : Matrix) (known ls : List Literal) → ((c : Clause) → Contains x c → Contains y c) → IsChain x known ls → IsChain y known ls
IsChain-over x y known [] w h = tt
IsChain-over x y known (l ∷ ls) w h =
    let f = h.0 in (
      record { clause = f.clause; of_matrix = w f.clause f.of_matrix; of_clause = f.of_clause; others = f.others },
      IsChain-over x y (known ++ l ∷ []) ls w h.1,
    )

pub IsChain-append : (x : Matrix) (known first second : List Literal) → IsChain x known first → IsChain x (known ++ first) second → IsChain x known (first ++ second)
IsChain-append x known [] second h g = rw append-nil at g
IsChain-append x known (l ∷ first) second h g = (h.0, IsChain-append x (known ++ l ∷ []) first second h.1 (rw append_assoc g))

pub AreNew-chain : (x : Matrix) (known ls : List Literal) → AreNew x known ls → IsChain x known ls
AreNew-chain x known [] n = tt
AreNew-chain x known (l ∷ ls) n = (n.0.0, AreNew-chain x (known ++ l ∷ []) ls n.1)

pub AreNew-consistent : (x : Matrix) (known ls : List Literal) → (HasOpposites known → ⊥) → AreNew x known ls → HasOpposites (known ++ ls) → ⊥
AreNew-consistent x known [] c n o = c (rw append-nil at o)
AreNew-consistent x known (l ∷ ls) c n o = AreNew-consistent x (known ++ l ∷ []) ls (no_opposites-push known l c n.0.2) n.1 (rw append_assoc o)

pub reached_consistent : (x : Matrix) (old new : List Literal) → (HasOpposites old → ⊥) → IsReached x old new → HasOpposites new → ⊥
reached_consistent x old new c r o = AreNew-consistent x old r.added c r.each (rw r.is at o)

pub derived_nothing : (x : Matrix) → IsDerived x []
derived_nothing x = record { order = []; chain = tt; members = λ l. (λ h. h, λ h. h) }

-- the order of what is derived is free
pub derived_same : (x : Matrix) (old new : List Literal) → ((l : Literal) → Contains old l ↔ Contains new l) → IsDerived x old → IsDerived x new
derived_same x old new same d = record {
  order = d.order;
  chain = d.chain;
  members = λ l. (λ h. (same l).0 ((d.members l).0 h), λ h. (d.members l).1 ((same l).1 h));
}

pub derived_over : (x y : Matrix) (root : List Literal) → ((c : Clause) → Contains x c → Contains y c) → IsDerived x root → IsDerived y root
derived_over x y root w d = record { order = d.order; chain = IsChain-over x y [] d.order w d.chain; members = d.members }

pub derived_append : (x : Matrix) (old added : List Literal) → IsDerived x old → IsChain x old added → IsDerived x (old ++ added)
derived_append x old added d h = record {
  order = d.order ++ added;
  chain = IsChain-append x [] d.order added d.chain (IsChain-more x old d.order added (λ l m. (d.members l).1 m) h);
  members = λ l. (
    λ m. elim (Contains-append_cases d.order added l m) [
      | inl a ↦ Contains-append_left old added l ((d.members l).0 a)
      | inr b ↦ Contains-append_right old added l b
    ],
    λ m. elim (Contains-append_cases old added l m) [
      | inl a ↦ Contains-append_left d.order added l ((d.members l).1 a)
      | inr b ↦ Contains-append_right d.order added l b
    ],
  );
}

-- the root stays derived
pub reached_derived : (x : Matrix) (old new : List Literal) → IsDerived x old → IsReached x old new → IsDerived x new
reached_derived x old new d r = rw r.is (derived_append x old r.added d (AreNew-chain x old r.added r.each))

-- where a root literal is one of the clause, or two of its literals are opposites
clash_implied-told : (x : Matrix) (root : List Literal) (c : Clause) → IsChain x [] root → Clashes root c → IsImplied x c
clash_implied-told x root c chain (inl h) = record {
  added = root;
  chain = IsChain-more x [] (map negation c) root (λ l m. absurd (Contains-nil l m)) chain;
  conflict = inl (h.0, Contains-append_right (map negation c) root h.0 h.2, Contains-append_left (map negation c) root (negation h.0) (Contains-map negation c h.0 h.1));
}
clash_implied-told x root c chain (inr o) = record {
  added = [];
  chain = tt;
  conflict = inl (rw append-nil o);
}

-- where a clause is falsified above the root
falsified_implied-told : (x : Matrix) (root known new : List Literal) (c : Clause) → IsChain x [] root → IsAssumed root c known → IsReached x known new → HasFalsified x new → IsImplied x c
falsified_implied-told x root known new c chain assumed r f =
    let start = map negation c in
    let within : IsWithin known (start ++ root) = λ l h. elim (assumed.no_other l h) [
      | inl a ↦ Contains-append_right start root l a
      | inr b ↦ Contains-append_left start root l b
    ] in
    let all : IsWithin new (start ++ (root ++ r.added)) = λ l h. elim (Contains-append_cases known r.added l (rw r.is at h)) [
      | inl a ↦ rw append_assoc at (Contains-append_left (start ++ root) r.added l (within l a))
      | inr b ↦ rw append_assoc at (Contains-append_right (start ++ root) r.added l b)
    ] in
    record {
      added = root ++ r.added;
      chain = IsChain-append x start root r.added
          (IsChain-more x [] start root (λ l m. absurd (Contains-nil l m)) chain)
          (IsChain-more x known (start ++ root) r.added within (AreNew-chain x known r.added r.each));
      conflict = inr (f.0, f.1, λ k m. all (negation k) (f.2 k m));
    }

-- a falsified clause at the root
root_implied-told : (x : Matrix) (root : List Literal) (c : Clause) → IsChain x [] root → HasFalsified x root → IsImplied x c
root_implied-told x root c chain f = record {
  added = root;
  chain = IsChain-more x [] (map negation c) root (λ l m. absurd (Contains-nil l m)) chain;
  conflict = inr (f.0, f.1, λ k m. Contains-append_right (map negation c) root (negation k) (f.2 k m));
}

closed_chain : (x : Matrix) (known some added : List Literal) → AreQuiet known x → IsWithin some known → IsChain x some added → IsWithin (some ++ added) known
closed_chain x known some [] complete within h = rw append-nil within
closed_chain x known some (l ∷ added) complete within h =
    let f = h.0 in
    let here : Contains known l = (complete f.clause f.of_matrix).nothing_new l f.of_clause (λ k m n. within (negation k) (f.others k m n)) in
    rw append_assoc at (closed_chain x known (some ++ l ∷ []) added complete
    (λ k m. elim (Contains-push_cases some l k m) [ inl before ↦ within k before | inr e ↦ rw (← e) here ])
    h.1)

-- a complete set of literals without opposites has no conflict
pub complete_not_implied : (x : Matrix) (known : List Literal) (c : Clause) → AreQuiet known x → (HasOpposites known → ⊥) → IsWithin (map negation c) known → IsImplied x c → ⊥
complete_not_implied x known c complete consistent within i =
    let all = closed_chain x known (map negation c) i.added complete within i.chain in
    elim i.conflict [
      | inl o ↦ consistent (o.0, all o.0 o.1, all (negation o.0) o.2)
      | inr f ↦ (complete f.0 f.1).not_falsified (λ k m. all (negation k) (f.2 k m))
    ]

assumed_within : (root : List Literal) (c : Clause) (known : List Literal) → IsAssumed root c known → IsWithin (map negation c) known
assumed_within root c known a l h =
    let r = Contains-map_cases negation c l h in
    Contains-along known (negation r.0) l r.2 (a.assumed r.0 r.1)

-- what the search above the root answers
search_not_implied-told : (s : Slots) (root known new : List Literal) (pairs : List (Option Pair)) (singles : List ℕ) (c : Clause) → AreListed s pairs singles → AreTrue s singles (length singles) root → IsWithin root known → IsAssumed root c known → IsReached (filled s) known new → IsReady s (length new) new pairs → IsImplied (filled s) c → ⊥
search_not_implied-told s root known new pairs singles c listed true' long a r ready =
    let more = IsReached-within (filled s) known new r in
    let all : take (length new) new ≡ new = take_all (length new) new (omega arith) in
    complete_not_implied (filled s) new c
    (complete_store s new root pairs singles ready.consistent (rw all at ready.watched) listed (λ l h. more l (long l h)) true')
    ready.consistent
    (λ l h. more l (assumed_within root c known a l h))

-- no clause is left out of the list where pairs move
pub AreListed-kept : (t s : Slots) (known : List Literal) (pairs pairs' : List (Option Pair)) (singles : List ℕ) → IsKept t known pairs pairs' → AreListed s pairs singles → AreListed s pairs' singles
AreListed-kept t s known pairs pairs' singles k l = record {
  same_length = k.same_length ∙ l.same_length;
  listed = λ n c e f. l.listed n c e (k.unpaired n f);
  inside = l.inside;
  short = l.short;
}

pub empty_none : (c : Clause) → None ≡ slice_get c 0 → (k : Literal) → Contains c k → ⊥
empty_none [] e k h = Contains-nil k h
empty_none (l ∷ c) e k h = cc

module _ (root lits : List Literal) (i : ℕ) (l : Literal) (known : List Literal) (room : i < length lits) (e : l ≡ get_or lits i l) (a : IsAssumed root (take i lits) known) where
  l_in : Contains lits l
  l_in = Contains-take lits (i + 1) l (rw (taken lits i l room e) (Contains-push (take i lits) l))

  pub assumed_clash : Contains known l → Clashes root lits
  assumed_clash h =
      elim (a.no_other l h) [
        | inl r ↦ inl (l, l_in, r)
        | inr m ↦
            let k = Contains-map_cases negation (take i lits) l m in
            let there = Contains-along (map negation lits) (negation k.0) l k.2 (Contains-map negation lits k.0 (Contains-take lits i k.0 k.1)) in
            inr (l, there, Contains-map negation lits l l_in)
      ]

  no_other_more : (k : Literal) → Contains (map negation (take i lits)) k → Contains (map negation (take (i + 1) lits)) k
  no_other_more k m =
      let r = Contains-map_cases negation (take i lits) k m in
      Contains-along (map negation (take (i + 1) lits)) (negation r.0) k r.2
      (Contains-map negation (take (i + 1) lits) r.0 (rw (taken lits i l room e) (Contains-append_left (take i lits) (l ∷ []) r.0 r.1)))

  l_negated : Contains (map negation (take (i + 1) lits)) (negation l)
  l_negated = Contains-map negation (take (i + 1) lits) l (rw (taken lits i l room e) (Contains-push (take i lits) l))

  pub assumed_same : Contains known (negation l) → IsAssumed root (take (i + 1) lits) known
  assumed_same h = record {
    consistent = a.consistent;
    assumed = λ k m. elim (Contains-push_cases (take i lits) l k (rw (taken lits i l room e) at m)) [
      | inl b ↦ a.assumed k b
      | inr f ↦ rw (← f) h
    ];
    no_other = λ k m. elim (a.no_other k m) [
      | inl r ↦ inl r
      | inr n ↦ inr (no_other_more k n)
    ];
  }

  pub assumed_push : (Contains known l → ⊥) → IsAssumed root (take (i + 1) lits) (known ++ negation l ∷ [])
  assumed_push new = record {
    consistent = no_opposites-push known (negation l) a.consistent (λ h. new (Contains-along known (negation (negation l)) l (negation-negation l) h));
    assumed = λ k m. elim (Contains-push_cases (take i lits) l k (rw (taken lits i l room e) at m)) [
      | inl b ↦ Contains-append_left known (negation l ∷ []) (negation k) (a.assumed k b)
      | inr f ↦ rw (← f) (Contains-push known (negation l))
    ];
    no_other = λ k m. elim (Contains-push_cases known (negation l) k m) [
      | inl b ↦ elim (a.no_other k b) [
        | inl r ↦ inl r
        | inr n ↦ inr (no_other_more k n)
      ]
      | inr f ↦ inr (rw (← f) l_negated)
    ];
  }

pub longer_push : (old known : List Literal) (l : Literal) → IsLonger old known → IsLonger old (known ++ l ∷ [])
longer_push old known l h = (h.0 ++ l ∷ [], ap (λ (ks : List Literal). ks ++ l ∷ []) h.1 ∙ append_assoc old h.0 (l ∷ []))

pub reached_longer : (x : Matrix) (old new : List Literal) → IsReached x old new → IsLonger old new
reached_longer x old new r = (r.added, r.is)

pub longer_trans : (a b c : List Literal) → IsLonger a b → IsLonger b c → IsLonger a c
longer_trans a b c x y = (x.0 ++ y.0, y.1 ∙ ap (λ (ks : List Literal). ks ++ y.0) x.1 ∙ append_assoc a x.0 y.0)

pub longer_within : (old new : List Literal) → IsLonger old new → IsWithin old new
longer_within old new h l m = rw h.1 (Contains-append_left old h.0 l m)

-- more literals are known, which are not worked off
pub ready_longer : (s : Slots) (head : ℕ) (old new : List Literal) (pairs : List (Option Pair)) → IsReady s head old pairs → head ≤ length old → IsLonger old new → (HasOpposites new → ⊥) → IsReady s head new pairs
ready_longer s head old new pairs r h long c = record {
  consistent = c;
  watched = λ b d p e f.
      let same : take head new ≡ take head old = rw long.1 (take-front old long.0 head h) in
      rw same (IsWatched-more (take head old) old new d p (longer_within old new long) (r.watched b d p e f));
}

pub finish : {E A B I : Type 0} (r : Result Bool E) → IfOk r (λ b. MatchBool b A B) → (A → I) → (B → I → ⊥) → IfOk r (λ b. IsTrue b ↔ I)
finish (Ok true) a f g = (λ _. f a, λ _. refl)
finish (Ok false) b f g = (λ e. cc, λ i. absurd (g b i))
finish (Err e) b f g = tt

pub if_ok_map : {E B C : Type 0} (A : Type 0) (r : Result Bool E) → IfOk r (λ b. MatchBool b A B) → (B → C) → IfOk r (λ b. MatchBool b A C)
if_ok_map A (Ok true) a f = a
if_ok_map A (Ok false) b f = f b
if_ok_map A (Err e) b f = tt

pub truncated : (old new : List Literal) → IsLonger old new → take (length old) new ≡ old
truncated old new h = rw h.1 (take-front old h.0 (length old) (omega arith) ∙ take_all (length old) old (omega arith))

pub falsified_more : (x : Matrix) (known more : List Literal) → IsWithin known more → HasFalsified x known → HasFalsified x more
falsified_more x known more w f = (f.0, f.1, λ k m. w (negation k) (f.2 k m))

-- The same in the words of the definition, of a root in any order.
pub clash_implied : (x : Matrix) (root : List Literal) (c : Clause) → IsDerived x root → Clashes root c → Implied x c
clash_implied x root c d clash =
    is_implied x c (clash_implied-told x d.order c d.chain (elim clash [
      | inl h ↦ inl (h.0, h.1, (d.members h.0).1 h.2)
      | inr o ↦ inr o
    ]))

pub falsified_implied : (x : Matrix) (root known new : List Literal) (c : Clause) → IsDerived x root → IsAssumed root c known → IsReached x known new → HasFalsified x new → Implied x c
falsified_implied x root known new c d assumed r f =
    is_implied x c (falsified_implied-told x d.order known new c d.chain (record {
      consistent = assumed.consistent;
      assumed = assumed.assumed;
      no_other = λ l h. elim (assumed.no_other l h) [
        | inl a ↦ inl ((d.members l).1 a)
        | inr b ↦ inr b
      ];
    }) r f)

pub root_implied : (x : Matrix) (root : List Literal) (c : Clause) → IsDerived x root → HasFalsified x root → Implied x c
root_implied x root c d f = is_implied x c (root_implied-told x d.order c d.chain (falsified_more x root d.order (λ l m. (d.members l).1 m) f))

-- over an empty clause anything is implied
pub empty_implied : (x : Matrix) (c : Clause) → Contains x [] → Implied x c
empty_implied x c h = root_implied x [] c (derived_nothing x) ([], h, λ k m. absurd (Contains-nil k m))

pub search_not_implied : (s : Slots) (root known new : List Literal) (pairs : List (Option Pair)) (singles : List ℕ) (c : Clause) → AreListed s pairs singles → AreTrue s singles (length singles) root → IsWithin root known → IsAssumed root c known → IsReached (filled s) known new → IsReady s (length new) new pairs → Implied (filled s) c → ⊥
search_not_implied s root known new pairs singles c listed true' long a r ready i =
    search_not_implied-told s root known new pairs singles c listed true' long a r ready (implied_of (filled s) c i)
