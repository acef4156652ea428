-- What regions tell, and that they stay right.
use Rattle.std.proofs.Common.{◌≡◌, ◌≤◌, ◌<◌, ℕ, zero, suc, Bool, true, false, cond, get_or, length, List, [], ◌∷◌, Option, Some, None, Result, Ok, Err, refl, sym, ◌∙◌, subst, inl, inr, arith, true≢false}
use Rattle.std.specs.List.Sorted.{IsBinarySearchResult}
use Rattle.std.specs.Ordering.{nat_cmp}
use Rattle.std.specs.Result.{is_ok}
use Rattle.std.proofs.lemmas.List.Sorted.{searched}
use Rattle.std.proofs.lemmas.Bool.{cases_lt}
use Rattle.q_logic.specs.declared.rule_bounds.Bounds.{Bounds}
use Rattle.q_logic.specs.Prelude.{Literal, negation, Clause, Matrix, Prefix, PrenexFormula, IsIn, without, is_existential, is_universal, outer_or_same, inner_existential, Reached, Reducible, first, next, IsSubset, without_literal, each_without, Slots, slot, live, others, swept, has_empty, falsity, occurring, change, assigned, head_of, shortened, AreAlike}
use Rattle.q_logic.proofs.Common.{inner_of, live-slot, IsIn-without_literal, without-IsIn, IsIn-alike, alike-sym}
use Rattle.q_logic.proofs.HintChains.{live-number}
use Rattle.q_kernel.specs.Prelude.{Seen, slots, formula_in, SameView, IsTaken, IsLive}
use Rattle.q_reduce.specs.declared.target.Target.{Target}
use Rattle.q_reduce.specs.declared.target.Target.TheVariants.{Tautology, Unit, Cut, Pure}
use Rattle.q_reduce.specs.Targets.{target_of}
use Rattle.q_reduce.specs.Regions.{RegionMap, region_of, is_covered, key_of, IsRegional, AreRegions, AreRegionsOf}
use Rattle.q_rule.proofs.IdClauses.{others-find, slot-one}
use Rattle.q_rule.proofs.OuterOrder.{inner-through, occurring-universal, occurring-inner}

-- What a search among ascending numbers tells.
number-in : (xs : List ℕ) (x i : ℕ) → i < length xs → get_or xs i 0 ≡ x → IsIn x xs
number-in [] x i h e = absurd (omega arith)
number-in (y ∷ xs) x zero h e = inl (sym e)
number-in (y ∷ xs) x (suc i) h e = inr (number-in xs x i (omega arith) e)

number-place : (xs : List ℕ) (x : ℕ) → IsIn x xs → (i : ℕ) × (i < length xs) × (get_or xs i 0 ≡ x)
number-place [] x m = absurd m
number-place (y ∷ xs) x (inl e) = (0, omega arith, sym e)
number-place (y ∷ xs) x (inr m) = let r = number-place xs x m in (suc r.0, (let h = r.1 in omega arith), r.2)

pub found-member : (xs : List ℕ) (x : ℕ) (r : Result ℕ ℕ) → ((i j : ℕ) → i ≤ j → j < length xs → get_or xs i 0 ≤ get_or xs j 0) → IsBinarySearchResult (λ y. nat_cmp y x) xs r → (is_ok r ≡ true → IsIn x xs) × (IsIn x xs → is_ok r ≡ true)
found-member xs x (Ok i) up h = let s = searched xs x (Ok i) h up in ((λ t. number-in xs x i s.0 s.1), (λ m. refl))
found-member xs x (Err i) up h =
    let s = searched xs x (Err i) h up in (
      (λ t. absurd (true≢false (sym t))),
      (λ m.
          let k = number-place xs x m in
          let e : get_or xs k.0 0 ≡ x = k.2 in
          elim (cases_lt k.0 i) [
            | inl l ↦ let z : get_or xs k.0 0 < x = s.1 k.0 l in absurd (omega arith)
            | inr l ↦ let z : x < get_or xs k.0 0 = s.2 k.0 l k.1 in absurd (omega arith)
          ]),
    )

-- Regions for w serve what w is outer or same to.
pub regional-inside : (P : Prefix) (R : RegionMap) (w u : ℕ) (D : Clause) → outer_or_same P w u ≡ true → IsRegional P R w D → IsRegional P R u D
regional-inside P R w u D o h = record {
  one = λ j k m n s t. h.one j k m n (inner-through P w u j.var o s) (inner-through P w u k.var o t);
  noted = λ l k m c n t. h.noted l k m c n (inner-through P w u k.var o t);
}

-- A clause in the region.
pub regional-of : (P : Prefix) (R : RegionMap) (w r : ℕ) (D : Clause) → ((k : Literal) → IsIn k D → inner_existential P w k.var ≡ true → region_of R k.var ≡ r) → ((l : Literal) → IsIn l D → is_covered R l.var ≡ true → IsIn (key_of l r) R.keys) → IsRegional P R w D
regional-of P R w r D f g = record {
  one = λ j k m n s t. f j m s ∙ sym (f k n t);
  noted = λ l k m c n t. subst (λ (x : ℕ). IsIn (key_of l x) R.keys) (sym (f k n t)) (g l m c);
}

-- What is reached from a clause in a region lies in it.
module _ (P : Prefix) (N : Slots) (R : RegionMap) (c : ℕ) (C : Clause) (l : Literal) (t : is_universal P l.var ≡ true) (there : slot N c ≡ Some C) (held : IsIn l C) (lacks : IsIn (negation l) C → ⊥) where
  pub reducible-none : ((k : Literal) → IsIn k C → inner_existential P l.var k.var ≡ true → ⊥) → Reducible P (others c N) C l
  reducible-none h = record { universal_literal = t; in_clause = held; no_negation = λ D r m. lacks (subst (λ (x : Clause). IsIn (negation l) x) (only D r) m) }
    where
      only : (D : Clause) → Reached P (others c N) C l D → D ≡ C
      only D first = refl
      only D (next E k i j e o m n r) = absurd (h k (subst (λ (x : Clause). IsIn k x) (only _ r) i) (inner_of P l.var k.var e o))

  module _ (all : AreRegions P (live N) R) (covered : is_covered R l.var ≡ true) (j : Literal) (in_clause : IsIn j C) (inner : inner_existential P l.var j.var ≡ true) where
    other : (E : Clause) → IsIn E (others c N) → IsRegional P R l.var E
    other E m = let d = others-find N c E m in all l.var t covered E (live-slot N d.0 E d.2)

    inside : (D : Clause) → Reached P (others c N) C l D → (k : Literal) → IsIn k D → inner_existential P l.var k.var ≡ true → region_of R k.var ≡ region_of R j.var
    inside D first k m s = (all l.var t covered C (live-slot N c C there)).one k j m in_clause s inner
    inside D (next E i a b e o m n r) k x s =
        let f = inner_of P l.var i.var e o in
        (other D m).one k (negation i) x b s f ∙ inside _ r i a f

    pub reducible-apart : (IsIn (key_of (negation l) (region_of R j.var)) R.keys → ⊥) → Reducible P (others c N) C l
    reducible-apart h = record { universal_literal = t; in_clause = held; no_negation = λ D r m. none D r m }
      where
        none : (D : Clause) → Reached P (others c N) C l D → IsIn (negation l) D → ⊥
        none D first m = lacks m
        none D (next E i a b e o m n r) x =
            let f = inner_of P l.var i.var e o in
            h (subst (λ (y : ℕ). IsIn (key_of (negation l) y) R.keys) (inside _ r i a f) ((other D m).noted (negation l) (negation i) x covered b f))

-- Regions stay right where clauses go or lose literals, and variables leave.
pub record IsPartOf (Y X : Matrix) : Type 0 where
  pub of : (D : Clause) → IsIn D Y → (E : Clause) × IsIn E X × IsSubset D E

pub regions-part : (P : Prefix) (X Y : Matrix) (R : RegionMap) → IsPartOf Y X → AreRegions P X R → AreRegions P Y R
regions-part P X Y R h all u t c D m =
    let e = h.of D m in
    let r = all u t c e.0 e.1 in
    record { one = λ j k a b. r.one j k (e.2 j a) (e.2 k b); noted = λ l k a v b. r.noted l k (e.2 l a) v (e.2 k b) }

regions-occurring : (P : Prefix) (X : Matrix) (R : RegionMap) → AreRegions P X R → AreRegions (occurring P X) X R
regions-occurring P X R all u t c D m =
    let r = all u (occurring-universal X P u t) c D m in
    record {
      one = λ j k a b s z. r.one j k a b (occurring-inner X P u j.var t s) (occurring-inner X P u k.var t z);
      noted = λ l k a v b s. r.noted l k a v b (occurring-inner X P u k.var t s);
    }

regions-swept : (F : PrenexFormula) (R : RegionMap) → AreRegions F.prefix F.matrix R → AreRegions (swept F).prefix (swept F).matrix R
regions-swept F R all = go (has_empty F.matrix)
  where
    go : (b : Bool) → let G : PrenexFormula = cond b falsity (record { prefix = occurring F.prefix F.matrix; matrix = F.matrix }) in AreRegions G.prefix G.matrix R
    go true = λ u t. absurd (true≢false (sym t))
    go false = regions-occurring F.prefix F.matrix R all

-- The formula is the same.
pub regions-view : (old new : Seen) (Rs : List RegionMap) → SameView old new → AreRegionsOf old Rs → AreRegionsOf new Rs
regions-view old new Rs v h R m = subst (λ (F : PrenexFormula). AreRegions F.prefix F.matrix R) (sym v.formula) (h R m)

-- What the targets of this crate leave of the clauses.
part-itself : (X : Matrix) → IsPartOf X X
part-itself X = record { of = λ D m. (D, m, λ k i. i) }

part-through : (Z Y X : Matrix) → IsPartOf Z Y → IsPartOf Y X → IsPartOf Z X
part-through Z Y X f g = record { of = λ D m. let a = f.of D m in let b = g.of a.0 a.1 in (b.0, b.1, λ k i. b.2 k (a.2 k i)) }

part-others : (c : ℕ) (N : Slots) → IsPartOf (others c N) (live N)
part-others c N = record { of = λ D m. let d = others-find N c D m in (D, live-slot N d.0 D d.2, λ k i. i) }

part-without_literal : (l : Literal) (X : Matrix) → IsPartOf (without_literal l X) X
part-without_literal l X = record { of = λ D m. let r = IsIn-without_literal l X D m in (D, r.0, λ k i. i) }

part-each_without : (l : Literal) (X : Matrix) → IsPartOf (each_without l X) X
part-each_without l X = record { of = from X }
  where
    from : (X : Matrix) (D : Clause) → IsIn D (each_without l X) → (E : Clause) × IsIn E X × IsSubset D E
    from [] D m = absurd m
    from (E ∷ X) D (inl e) = (E, inl refl, λ k i. without-IsIn l E k (subst (λ (x : Clause). IsIn k x) e i))
    from (E ∷ X) D (inr m) = let r = from X D m in (r.0, inr r.1, r.2)

part-assigned : (o : Option Literal) (X : Matrix) → IsPartOf (assigned o X) X
part-assigned None X = part-itself X
part-assigned (Some l) X = part-through (each_without (negation l) (without_literal l X)) (without_literal l X) X (part-each_without (negation l) (without_literal l X)) (part-without_literal l X)

part-shortened : (l : Literal) (c : ℕ) (N : Slots) (o : Option Clause) → slot N c ≡ o → IsPartOf (shortened l o (others c N)) (live N)
part-shortened l c N None e = part-others c N
part-shortened l c N (Some C) e = record { of = from }
  where
    from : (D : Clause) → IsIn D (without l C ∷ others c N) → (E : Clause) × IsIn E (live N) × IsSubset D E
    from D (inl q) = (C, live-slot N c C e, λ k i. without-IsIn l C k (subst (λ (x : Clause). IsIn k x) q i))
    from D (inr m) = (part-others c N).of D m

part-pure : (b : Bool) (l : Literal) (X : Matrix) → IsPartOf (cond b (without_literal l X) (each_without l X)) X
part-pure true l X = part-without_literal l X
part-pure false l X = part-each_without l X

regions-change : (P : Prefix) (N : Slots) (R : RegionMap) (t : Target) → AreRegions P (live N) R → AreRegions (change P N (target_of t)).prefix (change P N (target_of t)).matrix R
regions-change P N R (Tautology c) h = regions-part P (live N) (others c N) R (part-others c N) h
regions-change P N R (Unit c) h = regions-part P (live N) (assigned (head_of (slot N c)) (live N)) R (part-assigned (head_of (slot N c)) (live N)) h
regions-change P N R (Cut c l) h = regions-part P (live N) (shortened l (slot N c) (others c N)) R (part-shortened l c N (slot N c) refl) h
regions-change P N R (Pure l) h = regions-part P (live N) (cond (is_existential P l.var) (without_literal l (live N)) (each_without l (live N))) R (part-pure (is_existential P l.var) l (live N)) h

regions-alike : (F G : PrenexFormula) (R : RegionMap) → AreAlike F G → AreRegions F.prefix F.matrix R → AreRegions G.prefix G.matrix R
regions-alike F G R a h u t c D m =
    subst (λ (P : Prefix). IsRegional P R u D) a.prefix
    (h u (subst (λ (P : Prefix). is_universal P u ≡ true) (sym a.prefix) t) c D (IsIn-alike G.matrix F.matrix (alike-sym F.matrix G.matrix a.clauses) D m))

-- Regions stay right when a target is taken.
pub regions-taken : (B : Bounds) (old new : Seen) (Rs : List RegionMap) (t : Target) → IsTaken B old new (target_of t) → AreRegionsOf old Rs → AreRegionsOf new Rs
regions-taken B old new Rs t h all R m = regions-alike (swept (change old.prefix (slots old) (target_of t))) (formula_in new) R h.result (regions-swept (change old.prefix (slots old) (target_of t)) R (regions-change old.prefix (slots old) R t (all R m)))

-- The clause of an id was looked at: its inner literals lie in one region.
pub record IsVerified (P : Prefix) (N : Slots) (R : RegionMap) (w d : ℕ) : Type 0 where
  pub regional : (D : Clause) → slot N d ≡ Some D → IsRegional P R w D

pub verified-one : (P : Prefix) (N : Slots) (R : RegionMap) (w d : ℕ) (D : Clause) → slot N d ≡ Some D → IsRegional P R w D → IsVerified P N R w d
verified-one P N R w d D e h = record { regional = λ E f. subst (λ (x : Clause). IsRegional P R w x) (slot-one N d D E e f) h }

pub verified-all : (P : Prefix) (N : Slots) (R : RegionMap) (w : ℕ) → ((d : ℕ) → IsLive N d → IsVerified P N R w d) → (D : Clause) → IsIn D (live N) → IsRegional P R w D
verified-all P N R w h D m = let d = live-number N D m in (h d.0 (record { there = (D, d.1) })).regional D d.1
