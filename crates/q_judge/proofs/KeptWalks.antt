-- Walks that are kept: what they tell, and what a step leaves of them.
use Rattle.std.proofs.Common.{◌≡◌, ◌<◌, ◌≤◌, ◌+◌, ℕ, true, false, set, length, take, slice_get, List, [], ◌∷◌, ◌++◌, None, Some, refl, sym, ◌∙◌, ap, subst, inl, inr, arith, append_assoc, zero, suc}
use Rattle.std.proofs.Math.Seq.{take-append_seam}
use Rattle.std.proofs.lemmas.Option.{same_Some, slice_get_within}
use Rattle.q_logic.specs.Prelude.{Literal, negation, Clause, Matrix, Prefix, IsIn, Closed, Distinct, is_bound, is_existential, is_universal, Slots, Reached, Reducible, IsAbsent, insert_after, removed_from}
use Rattle.q_logic.proofs.Common.{IsIn-alike, before_or_at}
use Rattle.q_logic.proofs.Runs.{unbound_free}
use Rattle.q_prop.specs.Slots.{filled, IsPut}
use Rattle.q_prop.proofs.SlotLemmas.{slice_get-Contains, Contains-slice_get}
use Rattle.q_judge.specs.Walks.{is_inner, IsWidened, IsWorkedOff, IsVisited, HasInner, IsBorne, IsShut, WalkMap, IsEnclosed, AreEnclosed}
use Rattle.q_judge.proofs.SlotCollections.{left-in, put-same}
use Rattle.q_judge.proofs.InnerVariables.{inserted-inner, inserted-universal, removed-inner, removed-universal}
use Rattle.q_judge.proofs.ReachWalks.{Contains-grown, settled-more}

module _ (P : Prefix) (X : Matrix) (C : Clause) (u : Literal) (known : List Literal) (lacks : IsIn (negation u) C → ⊥) (inside : HasInner P u known C) (shut : IsShut P X u known) where
  -- what every reached clause keeps
  stays : (D : Clause) → Reached P X C u D → (IsIn (negation u) D → ⊥) × HasInner P u known D
  stays D Reached.first = (lacks, inside)
  stays D (Reached.next {D = B} E k a b p q d h r) =
      let i = stays B r in
      let t : is_inner P u k ≡ true = rw (p, q) refl in
      elim (shut k E (i.1 k a t) d b) [
        | inl x ↦ absurd (h x)
        | inr x ↦ x
      ]

  pub inside-reducible : is_universal P u.var ≡ true → IsIn u C → Reducible P X C u
  inside-reducible t held = record { universal_literal = t; in_clause = held; no_negation = λ D h m. (stays D h).0 m }

-- a walk for the literal tells of a clause
pub enclosed-shut : (P : Prefix) (X : Matrix) (R : WalkMap) (u : Literal) → R.literal ≡ u → is_universal P u.var ≡ true → IsEnclosed P X R → IsShut P X u R.known
enclosed-shut P X R u e t all = subst (λ (l : Literal). IsShut P X l R.known) e (all (subst (λ (l : Literal). is_universal P l.var ≡ true) (sym e) t))

-- nothing was met
pub shut-none : (P : Prefix) (X : Matrix) (u : Literal) → IsShut P X u []
shut-none P X u k E m i n = absurd (let h = m.1 in omega arith)

pub enclosed-none : (P : Prefix) (X : Matrix) (R : WalkMap) → R.known ≡ [] → IsEnclosed P X R
enclosed-none P X R e t = subst (λ (xs : List Literal). IsShut P X R.literal xs) (sym e) (shut-none P X R.literal)

-- a walk that goes on from a clause, beyond what was known when it began; the literals before the head were visited
pub record IsGoingOn (P : Prefix) (X : Matrix) (C : Clause) (u : Literal) (begun : List Literal) (head : ℕ) (known : List Literal) : Type 0 where
  pub added : List Literal
  pub is : known ≡ begun ++ added
  pub inner : HasInner P u known C
  pub visited : (j : ℕ) (k : Literal) → j < head → slice_get known j ≡ Some k → (E : Clause) → IsIn E X → IsIn (negation k) E → IsWorkedOff P u known E

module _ (P : Prefix) (X : Matrix) (C : Clause) (u : Literal) (begun : List Literal) where
  before : (old added new : List Literal) (j : ℕ) (i : Literal) → new ≡ old ++ added → j < length old → slice_get new j ≡ Some i → slice_get old j ≡ Some i
  before old added new j i p l f = go old added j i l (subst (λ (xs : List Literal). slice_get xs j ≡ Some i) p f)
    where
      go : (xs ys : List Literal) (j : ℕ) (i : Literal) → j < length xs → slice_get (xs ++ ys) j ≡ Some i → slice_get xs j ≡ Some i
      go [] ys j i l f = absurd (omega arith)
      go (x ∷ xs) ys zero i l f = f
      go (x ∷ xs) ys (suc j) i l f = go xs ys j i (omega arith) f

  pub going-begun : (known : List Literal) → IsShut P X u begun → IsWidened P u C begun known → IsGoingOn P X C u begun (length begun) known
  going-begun known shut w = record {
    added = w.added;
    is = w.is;
    inner = w.all_there;
    visited = λ j k l e E d m. settled-more P u begun known w.added E w.is (shut k E (Contains-slice_get begun j k (before begun w.added known j k w.is l e)) d m);
  }

  pub going-more : (head : ℕ) (k : Literal) (old new : List Literal) → IsGoingOn P X C u begun head old → slice_get old head ≡ Some k → IsVisited P X u k old new true → IsGoingOn P X C u begun (head + 1) new
  going-more head k old new w e v = record {
    added = w.added ++ v.0.added;
    is = v.0.is ∙ ap (λ (xs : List Literal). xs ++ v.0.added) w.is ∙ append_assoc begun w.added v.0.added;
    inner = λ j m t. Contains-grown old new v.0.added j v.0.is (w.inner j m t);
    visited = λ j i l f E d m. elim (before_or_at j head l) [
      | inl z ↦
          let o = before old v.0.added new j i v.0.is (let y = slice_get_within old head k e in omega arith) f in
          settled-more P u old new v.0.added E v.0.is (w.visited j i z o E d m)
      | inr z ↦
          let o = before old v.0.added new j i v.0.is (let y = slice_get_within old head k e in omega arith) f in
          let q : i ≡ k = same_Some i k (sym o ∙ ap (slice_get old) z ∙ e) in
          v.1 E d (subst (λ (x : Literal). IsIn (negation x) E) q m)
    ];
  }

  -- the walk has ended, or is given up
  pub going-ended : (head : ℕ) (known : List Literal) → IsGoingOn P X C u begun head known → length known ≤ head → IsShut P X u known
  going-ended head known w past k E m d n =
      let j = slice_get-Contains known k m in
      w.visited j.0 k (let z = slice_get_within known j.0 k j.1 in omega arith) j.1 E d n

  pub going-back : (head : ℕ) (known : List Literal) → IsGoingOn P X C u begun head known → IsShut P X u begun → IsShut P X u (take (length begun) known)
  going-back head known w shut = subst (λ (xs : List Literal). IsShut P X u xs) (sym (ap (take (length begun)) w.is ∙ take-append_seam begun w.added)) shut

-- a clause comes
pub enclosed-more : (P : Prefix) (X : Matrix) (R : WalkMap) (C : Clause) → IsBorne P R.literal R.known C → IsEnclosed P X R → IsEnclosed P (C ∷ X) R
enclosed-more P X R C borne all t k E m (inl e) n = subst (λ (D : Clause). IsWorkedOff P R.literal R.known D) (sym e) (borne t k m (subst (λ (D : Clause). IsIn (negation k) D) e n))
enclosed-more P X R C borne all t k E m (inr i) n = all t k E m i n

-- fewer literals are inner
worked-fewer : (P Q : Prefix) (u : Literal) (known : List Literal) (E : Clause) → ((k : Literal) → IsIn k E → is_inner Q u k ≡ true → is_inner P u k ≡ true) → IsWorkedOff P u known E → IsWorkedOff Q u known E
worked-fewer P Q u known E f (inl i) = inl i
worked-fewer P Q u known E f (inr w) = inr (w.0, λ k m t. w.1 k m (f k m t))

-- what a step leaves of several walks
module _ (P : Prefix) (Rs : List WalkMap) where
  pub walks-fewer : (X Y : Matrix) → ((D : Clause) → IsIn D Y → IsIn D X) → AreEnclosed P X Rs → AreEnclosed P Y Rs
  walks-fewer X Y f all R r t k E m i n = all R r t k E m (f E i) n

  pub walks-put : (s t : Slots) (n : ℕ) (C : Clause) → IsPut s n C t → AreEnclosed P (C ∷ filled s) Rs → AreEnclosed P (filled t) Rs
  walks-put s t n C p all = walks-fewer (C ∷ filled s) (filled t) (λ D m. IsIn-alike (filled t) (C ∷ filled s) (put-same s t n C p) D m) all

  pub walks-left : (s : Slots) (n : ℕ) → AreEnclosed P (filled s) Rs → AreEnclosed P (filled (set s n None)) Rs
  walks-left s n all = walks-fewer (filled s) (filled (set s n None)) (λ D m. left-in s (Some n) D m) all

  -- the rest of a clause stands in place of it
  pub walks-shrunk : (s t : Slots) (n k : ℕ) (C : Clause) → IsPut s k C t → AreEnclosed P (C ∷ filled s) Rs → AreEnclosed P (filled (set t n None)) Rs
  walks-shrunk s t n k C p all = walks-left t n (walks-put s t k C p all)

  -- a variable comes or goes that no clause holds
  pub walks-inserted : (X : Matrix) (w v : ℕ) → is_existential P w ≡ true → Closed P X → is_bound P v ≡ false → AreEnclosed P X Rs → AreEnclosed (insert_after w v P) X Rs
  walks-inserted X w v e closed n all R r t k E m i h =
      let u = inserted-universal w v P R.literal.var n t in
      worked-fewer P (insert_after w v P) R.literal R.known E (λ j a s. inserted-inner w v P e R.literal.var j.var u.0 (unbound_free P X v closed n E i j a) s) (all R r u.1 k E m i h)

  pub walks-removed : (X : Matrix) (v : ℕ) → Distinct P → IsAbsent X v → AreEnclosed P X Rs → AreEnclosed (removed_from v P) X Rs
  walks-removed X v d absent all R r t k E m i h =
      let u = removed-universal v P R.literal.var d t in
      worked-fewer P (removed_from v P) R.literal R.known E (λ j a s. removed-inner v P R.literal.var j.var u.0 (absent E i j a) s) (all R r u.1 k E m i h)
