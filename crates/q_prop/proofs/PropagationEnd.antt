-- From one literal to the next, and to the end.
use Rattle.std.proofs.Common.{◌≡◌, ◌⊎◌, ℕ, suc, ◌+◌, ◌≤◌, List, [], ◌∷◌, ◌++◌, Option, None, Some, slice_get, take, length, refl, sym, ◌∙◌, ap, inl, inr, arith, append_assoc, append-nil, length-append, add-one}
use Rattle.q_logic.specs.Prelude.{Literal, negation, Clause, Matrix, Slots}
use Rattle.q_logic.proofs.Common.{same_or_not}
use Rattle.q_prop.specs.Chains.{HasOpposites}
use Rattle.q_prop.specs.Search.{IsQuiet, AreQuiet}
use Rattle.std.proofs.lemmas.List.Elements.{Contains-append_left}
use Rattle.std.proofs.lemmas.Option.{slice_get_within}
use Rattle.q_prop.proofs.UnknownLiterals.{missing, missing-lt}
use Rattle.q_prop.specs.declared.pairs.Pair.{Pair}
use Rattle.q_prop.specs.Watches.{IsWatched, AllWatched}
use Rattle.q_prop.specs.Slots.{Holds, filled, without}
use Rattle.q_prop.specs.declared.rows.Entry.{Entry}
use Rattle.q_prop.specs.Rows.{Watchers, row_of, HasEntry, entry_of}
use Rattle.q_prop.specs.Working.{IsWorking, IsGrown, IsNew, AreNew, IsReached, IsReady, AreInRows, IsKept, AreListed, AreTrue}
use Rattle.q_prop.proofs.WatchLemmas.{IsWithin, IsWatched-apart, IsWatched-quiet, IsSingle-quiet}
use Rattle.q_prop.proofs.SlotLemmas.{take-slice_get, slice_get-there, without-le, filled-cases, slice_get-Contains}

AreNew-push : (x : Matrix) (known added : List Literal) (l : Literal) → AreNew x known added → IsNew x (known ++ added) l → AreNew x known (added ++ l ∷ [])
AreNew-push x known [] l h n = (rw append-nil at n, tt)
AreNew-push x known (a ∷ added) l h n = (h.0, AreNew-push x (known ++ a ∷ []) added l h.1 (rw append_assoc n))

AreNew-append : (x : Matrix) (known first second : List Literal) → AreNew x known first → AreNew x (known ++ first) second → AreNew x known (first ++ second)
AreNew-append x known [] second h n = rw append-nil at n
AreNew-append x known (a ∷ first) second h n = (h.0, AreNew-append x (known ++ a ∷ []) first second h.1 (rw append_assoc n))

pub IsReached-refl : (x : Matrix) (known : List Literal) → IsReached x known known
IsReached-refl x known = record { added = []; is = sym (append-nil known); each = tt }

pub IsReached-grown : (x : Matrix) (a b c : List Literal) → IsReached x a b → IsGrown x b c → IsReached x a c
IsReached-grown x a b c r g =
    elim g [
      | inl e ↦ rw e r
      | inr n ↦ record {
        added = r.added ++ n.0 ∷ [];
        is = n.1 ∙ ap (λ (ks : List Literal). ks ++ n.0 ∷ []) r.is ∙ append_assoc a r.added (n.0 ∷ []);
        each = AreNew-push x a r.added n.0 r.each (let h : IsNew x b n.0 = n.2 in rw r.is at h);
      }
    ]

pub IsReached-trans : (x : Matrix) (a b c : List Literal) → IsReached x a b → IsReached x b c → IsReached x a c
IsReached-trans x a b c r s = record {
  added = r.added ++ s.added;
  is = s.is ∙ ap (λ (ks : List Literal). ks ++ s.added) r.is ∙ append_assoc a r.added s.added;
  each = AreNew-append x a r.added s.added r.each (let h = s.each in rw r.is at h);
}

-- what is missing and what is known do not grow together
budget : Matrix → List Literal → ℕ
budget x known = missing known x + length known

budget_along : (x : Matrix) (known added : List Literal) → AreNew x known added → budget x (known ++ added) ≤ budget x known
unfolding budget
budget_along x known [] n = rw append-nil (omega arith)
budget_along x known (l ∷ added) n =
    let f = n.0.0 in
    let less = missing-lt known l n.0.1 f.clause f.of_clause x f.of_matrix in
    let rest = budget_along x (known ++ l ∷ []) added n.1 in
    let one = length-append known (l ∷ []) in
    let e = append_assoc known (l ∷ []) added in
    let h : missing ((known ++ l ∷ []) ++ added) x + length ((known ++ l ∷ []) ++ added) ≤ missing known x + length known = omega (arith, less, rest, one) in
    rw e at h

pub IsReached-budget : (x : Matrix) (old new : List Literal) → IsReached x old new → missing new x + length new ≤ missing old x + length old
unfolding budget
IsReached-budget x old new r = rw r.is (budget_along x old r.added r.each)

pub IsReached-longer : (x : Matrix) (old new : List Literal) → IsReached x old new → length old ≤ length new
IsReached-longer x old new r = rw r.is (omega (arith, length-append old r.added))

pub IsReached-within : (x : Matrix) (old new : List Literal) → IsReached x old new → IsWithin old new
IsReached-within x old new r l h = rw r.is (Contains-append_left old r.added l h)

pub IsKept-refl : (s : Slots) (known : List Literal) (pairs : List (Option Pair)) → IsKept s known pairs pairs
IsKept-refl s known pairs = record {
  same_length = refl;
  unpaired = λ b e. e;
  floors = λ few within b c e all. all;
}

-- what is kept under more literals is kept under fewer
pub IsKept-trans : (s : Slots) (known more : List Literal) (a b c : List (Option Pair)) → IsWithin known more → IsKept s known a b → IsKept s more b c → IsKept s known a c
IsKept-trans s known more a b c w k l = record {
  same_length = l.same_length ∙ k.same_length;
  unpaired = λ n e. k.unpaired n (l.unpaired n e);
  floors = λ few within n c e all. l.floors few (λ m h. w m (within m h)) n c e (k.floors few within n c e all);
}

-- what was watched under few literals still is
pub kept_watched : (s : Slots) (few known : List Literal) (a b : List (Option Pair)) → IsWithin few known → IsKept s known a b → AllWatched few few s a → AllWatched few few s b
kept_watched s few known a b w k all n c p e f = k.floors few w n c e (λ q g. all n c q e g) p f

start_watch : (t : Slots) (head : ℕ) (lit : Literal) (known : List Literal) (pairs : List (Option Pair)) (rows : Watchers) → AreInRows t pairs rows → slice_get known head ≡ Some lit → (at' : ℕ) (c : Clause) (p : Pair) → Holds t at' c → slice_get pairs at' ≡ Some (Some p) → IsWatched (take head known) known c p → IsWatched (take (suc head) known) known c p ⊎ (HasEntry (row_of rows (negation lit)) 0 at' c × IsWatched (take head known) known c p)
start_watch t head lit known pairs rows covered' h at' c p d e g =
    let covered = covered' at' c p d e in
    elim (same_or_not p.first (negation lit)) [
      | inl q ↦ inr (rw q at covered.0, g)
      | inr n ↦ elim (same_or_not p.second (negation lit)) [
        | inl q ↦ inr (rw q at covered.1, g)
        | inr m ↦ inl (rw (take-slice_get known head lit h) (IsWatched-apart (take head known) known lit c p n m g))
      ]
    ]

pub IsReady-start : (t : Slots) (skip : Option ℕ) (head : ℕ) (lit : Literal) (known : List Literal) (pairs : List (Option Pair)) (rows : Watchers) → IsReady (without t skip) head known pairs → AreInRows t pairs rows → slice_get known head ≡ Some lit → IsWorking (without t skip) head lit 0 known pairs rows
IsReady-start t skip head lit known pairs rows r covered' h = record {
  is_head = h;
  consistent = r.consistent;
  watched = λ at' c p e f. start_watch t head lit known pairs rows covered' h at' c p (without-le t skip at' c e) f (r.watched at' c p e f);
}

pub IsWorking-end : (s : Slots) (head : ℕ) (lit : Literal) (i : ℕ) (known : List Literal) (pairs : List (Option Pair)) (rows : Watchers) → IsWorking s head lit i known pairs rows → length (row_of rows (negation lit)) ≤ i → IsReady s (head + 1) known pairs
IsWorking-end s head lit i known pairs rows w past = record {
  consistent = w.consistent;
  watched = λ at' c p e f. elim (w.watched at' c p e f) [
    | inl d ↦ rw add-one d
    | inr r ↦
        let x = r.0 in
        let j = x.2 in
        let inside = slice_get_within (row_of rows (negation lit)) j.0 (entry_of at' x.0) j.2 in
        absurd (omega (arith, inside, past, j.1))
  ];
}

-- where all is worked off, all clauses are quiet
pub complete_store : (s : Slots) (known root : List Literal) (pairs : List (Option Pair)) (singles : List ℕ) → (HasOpposites known → ⊥) → AllWatched known known s pairs → AreListed s pairs singles → IsWithin root known → AreTrue s singles (length singles) root → AreQuiet known (filled s)
complete_store s known root pairs singles consistent watched listed within true' c h =
    let n = filled-cases s c h in
    let inside = slice_get_within s n.0 (Some c) n.1 in
    let o = slice_get-there pairs n.0 (rw listed.same_length inside) in
    complete_slot s known root pairs singles consistent watched listed within true' c n.0 n.1 o.0 o.1
  where
    complete_slot : (s : Slots) (known root : List Literal) (pairs : List (Option Pair)) (singles : List ℕ) → (HasOpposites known → ⊥) → AllWatched known known s pairs → AreListed s pairs singles → IsWithin root known → AreTrue s singles (length singles) root → (c : Clause) (n : ℕ) → Holds s n c → (o : Option Pair) → slice_get pairs n ≡ Some o → IsQuiet known c
    complete_slot s known root pairs singles consistent watched listed within true' c n e None f =
        let j = slice_get-Contains singles n (listed.listed n c e f) in
        let single = true' j.0 n c (slice_get_within singles j.0 n j.1) j.1 e in
        IsSingle-quiet known c consistent (listed.short n c (listed.listed n c e f) e) (record { literal = single.literal; is_in = single.is_in; is_known = within single.literal single.is_known })
    complete_slot s known root pairs singles consistent watched listed within true' c n e (Some p) f = IsWatched-quiet known c p consistent (watched n c p e f)
