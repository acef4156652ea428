-- What follows from the negations of a clause, and what is asked above them.
use Rattle.std.proofs.Common.{◌≡◌, ℕ, List, [], ◌++◌, Option, map, take, length, inl, inr, arith, append_assoc, take_all}
use Rattle.std.proofs.lemmas.List.Elements.{Contains-append_left, Contains-append_right, Contains-append_cases}
use Rattle.q_logic.specs.Prelude.{Literal, negation, Clause, Matrix, Slots, Implied}
use Rattle.q_prop.specs.Chains.{IsDerived, HasFalsified}
use Rattle.q_prop.specs.Levels.{AreFollowing, IsLevel}
use Rattle.q_prop.specs.Slots.{filled, without}
use Rattle.q_prop.specs.Watched.{IsMoved, IsAdvanced, IsReadyAt, IsRootOf}
use Rattle.q_prop.specs.Working.{IsReached, IsReady, AreListed, AreTrue, Clashes, IsAssumed, IsLonger}
use Rattle.q_prop.specs.declared.level.Level.{Level}
use Rattle.q_prop.specs.declared.watched.Watched.{Watched}
use Rattle.q_prop.specs.declared.pairs.Pair.{Pair}
use Rattle.q_prop.proofs.CompleteRoot.{AreTrue-more, IsChain-more, IsChain-append, AreNew-chain, AreListed-kept, complete_not_implied, longer_within}
use Rattle.q_logic.proofs.Common.{implied-longer, IsIn-Contains, Contains-IsIn}
use Rattle.q_prop.proofs.ChainDefinition.{is_implied, implied_of}
use Rattle.q_prop.proofs.ListMembers.{Contains-along, Contains-map, Contains-map_cases}
use Rattle.q_prop.proofs.PropagationEnd.{IsReached-within, complete_store}
use Rattle.q_prop.proofs.SlotLemmas.{without-le}
use Rattle.q_prop.proofs.WatchLemmas.{IsWithin}

negated_left : (c t : Clause) → IsWithin (map negation c) (map negation (c ++ t))
negated_left c t l h =
    let r = Contains-map_cases negation c l h in
    Contains-along (map negation (c ++ t)) (negation r.0) l r.2 (Contains-map negation (c ++ t) r.0 (Contains-append_left c t r.0 r.1))

negated_right : (c t : Clause) → IsWithin (map negation t) (map negation (c ++ t))
negated_right c t l h =
    let r = Contains-map_cases negation t l h in
    Contains-along (map negation (c ++ t)) (negation r.0) l r.2 (Contains-map negation (c ++ t) r.0 (Contains-append_right c t r.0 r.1))

pub following_root : (x : Matrix) (root : List Literal) → IsDerived x root → AreFollowing x [] root
following_root x root d = record { added = d.order; chain = d.chain; within = λ l h. (d.members l).1 h }

-- from the negations of a longer clause as much follows
pub following_longer : (x : Matrix) (c t : Clause) (known : List Literal) → AreFollowing x c known → AreFollowing x (c ++ t) known
following_longer x c t known f = record {
  added = f.added;
  chain = IsChain-more x (map negation c) (map negation (c ++ t)) f.added (negated_left c t) f.chain;
  within = λ l h. elim (Contains-append_cases (map negation c) f.added l (f.within l h)) [
    | inl m ↦ Contains-append_left (map negation (c ++ t)) f.added l (negated_left c t l m)
    | inr m ↦ Contains-append_right (map negation (c ++ t)) f.added l m
  ];
}

pub following_assumed : (x : Matrix) (c t : Clause) (root known : List Literal) → AreFollowing x c root → IsAssumed root t known → AreFollowing x (c ++ t) known
following_assumed x c t root known f a =
    let g = following_longer x c t root f in
    record {
      added = g.added;
      chain = g.chain;
      within = λ l h. elim (a.no_other l h) [
        | inl r ↦ g.within l r
        | inr n ↦ Contains-append_left (map negation (c ++ t)) g.added l (negated_right c t l n)
      ];
    }

pub following_reached : (x : Matrix) (c : Clause) (known new : List Literal) → AreFollowing x c known → IsReached x known new → AreFollowing x c new
following_reached x c known new f r =
    let start = map negation c in
    record {
      added = f.added ++ r.added;
      chain = IsChain-append x start f.added r.added f.chain
          (IsChain-more x known (start ++ f.added) r.added f.within (AreNew-chain x known r.added r.each));
      within = λ l h. elim (Contains-append_cases known r.added l (rw r.is at h)) [
        | inl a ↦ rw append_assoc at (Contains-append_left (start ++ f.added) r.added l (f.within l a))
        | inr b ↦ rw append_assoc at (Contains-append_right (start ++ f.added) r.added l b)
      ];
    }

pub following_falsified : (x : Matrix) (c : Clause) (known : List Literal) → AreFollowing x c known → HasFalsified x known → Implied x c
following_falsified x c known f h = is_implied x c (record {
  added = f.added;
  chain = f.chain;
  conflict = inr (h.0, h.1, λ k m. f.within (negation k) (h.2 k m));
})

pub following_clash : (x : Matrix) (c t : Clause) (known : List Literal) → AreFollowing x c known → Clashes known t → Implied x (c ++ t)
following_clash x c t known f (inl h) =
    let g = following_longer x c t known f in
    is_implied x (c ++ t) (record {
      added = g.added;
      chain = g.chain;
      conflict = inl (h.0, g.within h.0 h.2, Contains-append_left (map negation (c ++ t)) g.added (negation h.0) (negated_right c t (negation h.0) (Contains-map negation t h.0 h.1)));
    })
following_clash x c t known f (inr o) =
    let g = following_longer x c t known f in
    is_implied x (c ++ t) (record {
      added = g.added;
      chain = g.chain;
      conflict = inl (o.0, Contains-append_left (map negation (c ++ t)) g.added o.0 (negated_right c t o.0 o.1), Contains-append_left (map negation (c ++ t)) g.added (negation o.0) (negated_right c t (negation o.0) o.2));
    })

-- the negations of the clause and of what is joined with it are known
pub negated_both : (c t : Clause) (root known : List Literal) → IsWithin (map negation c) root → IsWithin root known → IsAssumed root t known → IsWithin (map negation (c ++ t)) known
negated_both c t root known n w a l h =
    let r = Contains-map_cases negation (c ++ t) l h in
    elim (Contains-append_cases c t r.0 r.1) [
      | inl m ↦ w l (n l (Contains-along (map negation c) (negation r.0) l r.2 (Contains-map negation c r.0 m)))
      | inr m ↦ Contains-along known (negation r.0) l r.2 (a.assumed r.0 m)
    ]

-- where all is worked off the clause is not implied
pub worked_not_implied : (s : Slots) (root new : List Literal) (pairs : List (Option Pair)) (singles : List ℕ) (c : Clause) → AreListed s pairs singles → AreTrue s singles (length singles) root → IsWithin root new → IsReady s (length new) new pairs → IsWithin (map negation c) new → Implied (filled s) c → ⊥
worked_not_implied s root new pairs singles c listed true' w ready n i =
    let all : take (length new) new ≡ new = take_all (length new) new (omega arith) in
    complete_not_implied (filled s) new c
    (complete_store s new root pairs singles ready.consistent (rw all at ready.watched) listed w true')
    ready.consistent n (implied_of (filled s) c i)

-- the level stands where pairs have moved above it
pub level_kept : (w : Watched) (v : Level) (known : List Literal) (w' : Watched) → IsLevel w v known → IsMoved known w w' → IsLevel w' v known
level_kept w v known w' i m =
    let s = without w.clauses.slots v.skip in
    let all : take (length known) known ≡ known = take_all (length known) known (omega arith) in
    record {
      ready = record {
        consistent = i.ready.consistent;
        watched = rw (all, m.same) (λ n c p e f. m.kept.floors known (λ l h. h) n c (without-le w.clauses.slots v.skip n c e) (λ q g. rw all at (i.ready.watched n c q e g)) p f);
      };
      listed = rw m.same (AreListed-kept w.clauses.slots s known w.clauses.pairs w'.clauses.pairs v.singles.now m.kept i.listed);
      singles_true = rw m.same i.singles_true;
      negated = i.negated;
      following = rw m.same i.following;
    }

-- the level as it is begun from the root
pub level_begun : (w : Watched) (v : Level) (root known : List Literal) (w' : Watched) (new : List Literal) → IsRootOf w v.skip v.singles.now root → IsLonger root known → IsAssumed root v.lits.now known → IsAdvanced v.skip w known w' new → IsReadyAt w' v.skip (length new) new → IsLevel w' v new
level_begun w v root known w' new r long a p g =
    let s = without w.clauses.slots v.skip in
    let x = filled s in
    let more = IsReached-within x known new p.reached in
    record {
      ready = g;
      listed = rw p.moved.same (AreListed-kept w.clauses.slots s known w.clauses.pairs w'.clauses.pairs v.singles.now p.moved.kept r.listed);
      singles_true = rw p.moved.same (AreTrue-more s v.singles.now (length v.singles.now) root new (λ l h. more l (longer_within root known long l h)) r.singles_true);
      negated = λ l h. more l (let m = Contains-map_cases negation v.lits.now l h in Contains-along known (negation m.0) l m.2 (a.assumed m.0 m.1));
      following = rw p.moved.same (following_reached x v.lits.now known new (following_assumed x [] v.lits.now root known (following_root x root r.derived) a) p.reached);
    }

-- what is implied stays so where more literals are joined with it
pub implied_joined : (x : Matrix) (c t : Clause) → Implied x c → Implied x (c ++ t)
implied_joined x c t i = implied-longer x c (c ++ t) (λ k m. Contains-IsIn k (c ++ t) (Contains-append_left c t k (IsIn-Contains k c m))) i

-- what follows from the negations of the clause above the root
pub following_begun : (x : Matrix) (c : Clause) (root known new : List Literal) → IsDerived x root → IsAssumed root c known → IsReached x known new → AreFollowing x c new
following_begun x c root known new d a r = following_reached x c known new (following_assumed x [] c root known (following_root x root d) a) r
