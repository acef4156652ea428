-- How gains are counted, clause by clause.
use Rattle.std.proofs.Common.{◌≡◌, ◌<◌, ◌≤◌, ◌+◌, ◌++◌, ℕ, Bool, true, false, cond, List, [], ◌∷◌, length, drop, get_or, None, Some, arith, refl, sym, ap, ◌∙◌, subst, length-append}
use Rattle.q_logic.specs.Prelude.{Literal, IsBelow, negation, ArePairs, Slots, slot, live, clauses_at, Clause, Matrix, without, size_of, literals_in, has, union, missing, is_tautology, put_unless_tautology, resolvent, resolve_one, resolve_all}
use Rattle.q_logic.proofs.Common.{pairs-ordered, without-ordered, without-shorter, without-IsIn}
use Rattle.q_kernel.proofs.SlotLists.{size-parts, size-gone}
use Rattle.q_eliminate.specs.declared.counting.Gain.{Gain}
use Rattle.q_eliminate.specs.Gains.{joined, joined_length, IsGain}
use Rattle.q_eliminate.specs.Plans.{IsPlain}
use Rattle.q_eliminate.proofs.IdWalks.{at-next}
use Rattle.q_eliminate.proofs.ClauseUnions.{joined-none, joined-some, joined-length}

pub joined-resolve : (l : Literal) (C : Clause) (Y : Matrix) → joined (without l C) (negation l) Y ≡ resolve_one l C Y
joined-resolve l C [] = refl
joined-resolve l C (D ∷ Y) = ap (put_unless_tautology (resolvent l C D)) (joined-resolve l C Y)

pub literals-append : (X Y : Matrix) → literals_in (X ++ Y) ≡ literals_in X + literals_in Y
literals-append [] Y = omega arith
literals-append (C ∷ X) Y = let i = literals-append X Y in omega arith

pub put-tautology : (U : Clause) (X : Matrix) → is_tautology U ≡ true → put_unless_tautology U X ≡ X
put-tautology U X e = ap (λ (b : Bool). cond b X (U ∷ X)) e

pub put-plain : (U : Clause) (X : Matrix) → is_tautology U ≡ false → put_unless_tautology U X ≡ U ∷ X
put-plain U X e = ap (λ (b : Bool). cond b X (U ∷ X)) e

-- a gain with what is still to come is the one that began with all of it
pub record IsGaining (from gain : Gain) (bound : ℕ) (V W : Matrix) : Type 0 where
  pub clauses : gain.clauses + length W ≡ from.clauses + length V
  pub lits : gain.lits + literals_in W ≡ from.lits + literals_in V
  pub within : gain.clauses + gain.lits ≤ bound

pub gaining-begun : (from : Gain) (bound : ℕ) (V : Matrix) → from.clauses + from.lits ≤ bound → IsGaining from from bound V V
gaining-begun from bound V h = record { clauses = refl; lits = refl; within = h }

pub gaining-more : (from gain new : Gain) (bound : ℕ) (V W : Matrix) (U : Clause) → new.clauses ≡ gain.clauses + 1 → new.lits ≡ gain.lits + length U → new.clauses + new.lits ≤ bound → IsGaining from gain bound V (U ∷ W) → IsGaining from new bound V W
gaining-more from gain new bound V W U e f h g = record {
  clauses = let a = g.clauses in omega arith;
  lits = let a = g.lits in omega arith;
  within = h;
}

pub gaining-passed : (from gain : Gain) (bound : ℕ) (V W : Matrix) (U : Clause) → bound < gain.clauses + 1 + (gain.lits + length U) → IsGaining from gain bound V (U ∷ W) → bound < from.clauses + from.lits + size_of V
gaining-passed from gain bound V W U h g = let a = g.clauses in let b = g.lits in let s = size-parts V in omega arith

pub gaining-done : (from gain : Gain) (bound : ℕ) (V : Matrix) → IsGaining from gain bound V [] → IsGain from V bound (Some gain)
gaining-done from gain bound V g = record {
  clauses = λ h e. let q = same h e in subst (λ (x : Gain). x.clauses ≡ from.clauses + length V) q (let a = g.clauses in omega arith);
  lits = λ h e. let q = same h e in subst (λ (x : Gain). x.lits ≡ from.lits + literals_in V) q (let a = g.lits in omega arith);
  within = λ h e. let q = same h e in subst (λ (x : Gain). x.clauses + x.lits ≤ bound) q g.within;
  passed = λ e. absurd (let z : Some gain ≡ None = e in cc);
}
  where
    same : (h : Gain) → Some gain ≡ Some h → gain ≡ h
    same h e = cc

pub gain-none : (from : Gain) (bound : ℕ) (V : Matrix) → bound < from.clauses + from.lits + size_of V → IsGain from V bound None
gain-none from bound V h = record {
  clauses = λ g e. absurd (let z : None ≡ Some g = e in cc);
  lits = λ g e. absurd (let z : None ≡ Some g = e in cc);
  within = λ g e. absurd (let z : None ≡ Some g = e in cc);
  passed = λ e. h;
}

-- the resolvents of a clause come first
pub resolved-first : (l n : Literal) (M C : Clause) (X Y Z : Matrix) → M ≡ without l C → n ≡ negation l → X ≡ C ∷ Z → resolve_all l X Y ≡ joined M n Y ++ resolve_all l Z Y
resolved-first l n M C X Y Z e f g = ap (λ (W : Matrix). resolve_all l W Y) g ∙ ap (λ (W : Matrix). W ++ resolve_all l Z Y) (sym (joined-resolve l C Y) ∙ (ap (λ (A : Clause). joined A (negation l) Y) (sym e) ∙ ap (λ (k : Literal). joined M k Y) (sym f)))

-- Some of what is to come at once.
pub gaining-part : (from gain more : Gain) (bound : ℕ) (V P W : Matrix) → IsGain gain P bound (Some more) → IsGaining from gain bound V (P ++ W) → IsGaining from more bound V W
gaining-part from gain more bound V P W h g = record {
  clauses = let a = g.clauses in let b = h.clauses more refl in let c = length-append P W in omega arith;
  lits = let a = g.lits in let b = h.lits more refl in let c = literals-append P W in omega arith;
  within = h.within more refl;
}

pub gaining-part_passed : (from gain : Gain) (bound : ℕ) (V P W : Matrix) → IsGain gain P bound None → IsGaining from gain bound V (P ++ W) → bound < from.clauses + from.lits + size_of V
gaining-part_passed from gain bound V P W h g =
    let a = g.clauses in let b = g.lits in let c = h.passed refl in
    let s = size-parts V in let t = size-parts P in
    let x = length-append P W in let y = literals-append P W in omega arith

-- The next clause of a row of ids.
pub plain-without : (m : Literal) (D : Clause) → IsPlain D → IsPlain (without m D)
plain-without m D p (k, a, b) = p (k, without-IsIn m D k a, without-IsIn m D (negation k) b)

missing-shorter : (B A : Clause) → length (missing B A) ≤ length B
missing-shorter [] A = omega arith
missing-shorter (k ∷ B) A = go (has k A) (missing-shorter B A)
  where
    go : (b : Bool) → length (missing B A) ≤ length B → length (cond b (missing B A) (k ∷ missing B A)) ≤ length (k ∷ B)
    go true i = omega arith
    go false i = omega arith

module _ (N : Slots) (ids : List ℕ) (i : ℕ) (A : Clause) (m : Literal) (D : Clause) (h : i < length ids) (e : slot N (get_or ids i 0) ≡ Some D) where
  next : joined A m (clauses_at N (drop i ids)) ≡ put_unless_tautology (union A (without m D)) (joined A m (clauses_at N (drop (i + 1) ids)))
  next = ap (joined A m) (at-next N ids i D h e)

  pub joined-next_none : joined_length A (without m D) ≡ None → joined A m (clauses_at N (drop i ids)) ≡ joined A m (clauses_at N (drop (i + 1) ids))
  joined-next_none f = next ∙ put-tautology (union A (without m D)) (joined A m (clauses_at N (drop (i + 1) ids))) (joined-none A (without m D) f)

  pub joined-next_some : (n : ℕ) → ArePairs IsBelow A → ArePairs IsBelow D → IsPlain A → IsPlain D → joined_length A (without m D) ≡ Some n
      → (joined A m (clauses_at N (drop i ids)) ≡ union A (without m D) ∷ joined A m (clauses_at N (drop (i + 1) ids))) × (length (union A (without m D)) ≡ n) × (n ≤ length A + length D)
  joined-next_some n o p a b f =
      let oA = pairs-ordered A o in
      let oB = without-ordered m D (pairs-ordered D p) in
      let r = joined-some A (without m D) n oA oB a (plain-without m D b) f in (
        next ∙ put-plain (union A (without m D)) (joined A m (clauses_at N (drop (i + 1) ids))) r.0,
        r.1,
        (let x = joined-length A (without m D) oA oB in let y = missing-shorter (without m D) A in let z = without-shorter m D in let w = r.1 in omega arith),
      )

-- a clause is no longer than all of them
pub clause-short : (N : Slots) (c : ℕ) (C : Clause) → slot N c ≡ Some C → length C + 1 ≤ size_of (live N)
clause-short N c C e = let z = size-gone N c C e in omega arith
