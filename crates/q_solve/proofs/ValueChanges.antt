-- A variable gets a value, or loses it.
use Rattle.std.proofs.Common.{◌≡◌, ℕ, ◌≤◌, Bool, true, false, cond, not, ◌&&◌, eqb, List, [], ◌∷◌, ◌++◌, length, refl, sym, ap, ◌∙◌, subst, arith}
use Rattle.q_logic.specs.declared.formulas.Quant.{Quant}
use Rattle.q_logic.specs.declared.formulas.Quant.TheVariants.{Exists, Forall}
use Rattle.q_logic.specs.declared.formulas.Bound.{Bound}
use Rattle.q_logic.specs.Prelude.{Literal, bool_eq, Prefix, PrenexFormula, is_exists, is_bound, is_universal, Distinct, Assignment, with_value, literal_true, signed, nothing}
use Rattle.q_logic.specs.declared.verdict.Standing.{Standing}
use Rattle.q_logic.specs.declared.verdict.Standing.TheVariants.{True, False, Chosen, Free}
use Rattle.q_logic.specs.Decisions.{standing}
use Rattle.q_search.specs.Paths.{along, rest_of}
use Rattle.q_search.proofs.PathLemmas.{along-more, rest-more}
use Rattle.q_solve.specs.declared.counts.Count.{Count}
use Rattle.q_solve.specs.Counting.{times, times_in, clause_at, changed, row_at, AreCounts, CanShift, IsShifted}
use Rattle.q_solve.proofs.LiteralChange.{can-shift, counts-shifted, counts-same}
use Rattle.q_solve.specs.declared.places.Known.{Known}
use Rattle.q_solve.specs.declared.sides.Sides.{Sides}
use Rattle.q_solve.specs.Places.{open_to, known_open, known_value}
use Rattle.q_solve.specs.Counted.{side, turned, IsAt, IsCounted}
use Rattle.q_solve.proofs.WaitingCircuits.{place-here, rest-bound}

abbrev plain : ℕ → Bool → Literal
plain x n = record { var = x; negative = n }

-- both literals, one after the other
turned-both : (x : ℕ) (s : Known) (g : Literal → Standing) (k : Literal) →
    changed (plain x true) s.negative (changed (plain x false) s.positive g) k ≡ turned x s g k
turned-both x s g k = go (eqb k.var x) k.negative
  where
    go : (e n : Bool) → cond (e && bool_eq n true) s.negative (cond (e && bool_eq n false) s.positive (g k)) ≡ cond e (cond n s.negative s.positive) (g k)
    go true true = refl
    go true false = refl
    go false true = refl
    go false false = refl

module _ (s : Sides) (row : List Count) (at' : ℕ) (from to : Known) (t : IsAt s row at' from) where
  abbrev row-at : Bool → List ℕ
  row-at n = row_at (side s n) at'

  held-at : (n : Bool) → (i : ℕ) → times i (row-at n) ≡ times_in (plain t.variable n) (clause_at t.formula.matrix i)
  held-at n i = subst (λ (p : ℕ). times i (row_at (side s n) p) ≡ times_in (plain t.variable n) (clause_at t.formula.matrix i)) t.stands (t.held (plain t.variable n) t.bound i)

  pub can-first : CanShift row (row_at s.positive at') from.positive to.positive
  can-first = can-shift t.formula.matrix t.known row (plain t.variable false) (row-at false) from.positive to.positive t.counted (held-at false) t.positive t.small

  module _ (middle : List Count) (h : IsShifted row middle (row_at s.positive at') from.positive to.positive) where
    between : AreCounts t.formula.matrix (changed (plain t.variable false) to.positive t.known) middle
    between = counts-shifted t.formula.matrix t.known row (plain t.variable false) (row-at false) from.positive to.positive t.counted (held-at false) t.positive middle h

    still : changed (plain t.variable false) to.positive t.known (plain t.variable true) ≡ from.negative
    still = go (eqb t.variable t.variable)
      where
        go : (e : Bool) → cond (e && false) to.positive (t.known (plain t.variable true)) ≡ from.negative
        go true = t.negative
        go false = t.negative

    pub can-second : CanShift middle (row_at s.negative at') from.negative to.negative
    can-second = can-shift t.formula.matrix (changed (plain t.variable false) to.positive t.known) middle (plain t.variable true) (row-at true) from.negative to.negative between (held-at true) still t.small

    pub both-changed : (new : List Count) → IsShifted middle new (row_at s.negative at') from.negative to.negative → AreCounts t.formula.matrix (turned t.variable to t.known) new
    both-changed new e =
        counts-same t.formula.matrix _ _ new (turned-both t.variable to t.known)
        (counts-shifted t.formula.matrix (changed (plain t.variable false) to.positive t.known) middle (plain t.variable true) (row-at true) from.negative to.negative between (held-at true) still new e)

-- the first variable without a value, before and after
module _ (b : Bound) (R : Prefix) (A : Assignment) where
  pub first-open : (n : Bool) → standing (b ∷ R) A (plain b.var n) ≡ open_to b.quant
  first-open n = ap (λ (e : Bool). cond (cond e true (is_bound R b.var)) (cond (cond e (not (is_exists b.quant)) (is_universal R b.var)) Free Chosen) (cond (literal_true A (plain b.var n)) True False)) (let z : eqb b.var b.var ≡ true = grind arith in z) ∙ go b.quant
    where
      go : (q : Quant) → cond (not (is_exists q)) Free Chosen ≡ open_to q
      go Exists = refl
      go Forall = refl

  pub first-value : (v n : Bool) → is_bound R b.var ≡ false → standing R (with_value A b.var v) (plain b.var n) ≡ cond n (known_value v).negative (known_value v).positive
  first-value v n h =
      ap (λ (e : Bool). cond e (cond (is_universal R b.var) Free Chosen) (cond (literal_true (with_value A b.var v) (plain b.var n)) True False)) h
      ∙ ap (λ (e : Bool). cond (signed n (cond e v (A b.var))) True False) (let z : eqb b.var b.var ≡ true = grind arith in z)
      ∙ go v n
    where
      go : (w m : Bool) → cond (signed m w) True False ≡ cond m (known_value w).negative (known_value w).positive
      go true true = refl
      go true false = refl
      go false true = refl
      go false false = refl

  given : (v : Bool) → is_bound R b.var ≡ false → (k : Literal) → turned b.var (known_value v) (standing (b ∷ R) A) k ≡ standing R (with_value A b.var v) k
  given v h k = go (eqb k.var b.var) refl
    where
      go : (e : Bool) → eqb k.var b.var ≡ e → cond e (cond k.negative (known_value v).negative (known_value v).positive) (standing (b ∷ R) A k) ≡ standing R (with_value A b.var v) k
      go true p = let q : b.var ≡ k.var = grind arith in subst (λ (x : ℕ). cond k.negative (known_value v).negative (known_value v).positive ≡ standing R (with_value A b.var v) (plain x k.negative)) q (sym (first-value v k.negative h))
      go false p =
          let q : eqb b.var k.var ≡ false = grind arith in
          ap (λ (e : Bool). cond (cond e true (is_bound R k.var)) (cond (cond e (not (is_exists b.quant)) (is_universal R k.var)) Free Chosen) (cond (literal_true A k) True False)) q
          ∙ ap (λ (e : Bool). cond (is_bound R k.var) (cond (is_universal R k.var) Free Chosen) (cond (signed k.negative (cond e v (A k.var))) True False)) (sym p)

  taken : (v : Bool) → (k : Literal) → turned b.var (known_open b.quant) (standing R (with_value A b.var v)) k ≡ standing (b ∷ R) A k
  taken v k = go (eqb k.var b.var) refl
    where
      go : (e : Bool) → eqb k.var b.var ≡ e → cond e (cond k.negative (open_to b.quant) (open_to b.quant)) (standing R (with_value A b.var v) k) ≡ standing (b ∷ R) A k
      go true p =
          let q : b.var ≡ k.var = grind arith in
          one k.negative ∙ subst (λ (x : ℕ). open_to b.quant ≡ standing (b ∷ R) A (plain x k.negative)) q (sym (first-open k.negative))
        where
          one : (n : Bool) → cond n (open_to b.quant) (open_to b.quant) ≡ open_to b.quant
          one true = refl
          one false = refl
      go false p =
          let q : eqb b.var k.var ≡ false = grind arith in
          sym (ap (λ (e : Bool). cond (cond e true (is_bound R k.var)) (cond (cond e (not (is_exists b.quant)) (is_universal R k.var)) Free Chosen) (cond (literal_true A k) True False)) q
          ∙ ap (λ (e : Bool). cond (is_bound R k.var) (cond (is_universal R k.var) Free Chosen) (cond (signed k.negative (cond e v (A k.var))) True False)) (sym p))

pub rest-apart : (P : Prefix) (vs : List Bool) (b : Bound) (R : Prefix) → Distinct P → rest_of P vs ≡ b ∷ R → is_bound R b.var ≡ false
rest-apart [] [] b R d e = absurd (cc)
rest-apart (c ∷ P) [] b R d e =
    let h : c ≡ b = cc in
    let k : P ≡ R = cc in
    subst (λ (Q : Prefix). is_bound Q b.var ≡ false) k (subst (λ (x : Bound). is_bound P x.var ≡ false) h d.0)
rest-apart [] (v ∷ vs) b R d e = absurd (cc)
rest-apart (c ∷ P) (v ∷ vs) b R d e = rest-apart P vs b R d.1 e

-- a node and the node below it
module _ (F : PrenexFormula) (s : Sides) (vs : List Bool) (v : Bool) (b : Bound) (R : Prefix) (d : Distinct F.prefix) (u : rest_of F.prefix vs ≡ b ∷ R) where
  abbrev values-here : Assignment
  values-here = along F.prefix vs nothing

  pub above : (k : Literal) → standing (rest_of F.prefix vs) values-here k ≡ standing (b ∷ R) values-here k
  above k = ap (λ (Q : Prefix). standing Q values-here k) u

  pub below : (k : Literal) → standing (rest_of F.prefix (vs ++ v ∷ [])) (along F.prefix (vs ++ v ∷ []) nothing) k ≡ standing R (with_value values-here b.var v) k
  below k =
      ap (λ (Q : Prefix). standing Q (along F.prefix (vs ++ v ∷ []) nothing) k) (rest-more F.prefix R b vs v u)
      ∙ ap (λ (A : Assignment). standing R A k) (along-more F.prefix R b vs v nothing u)

  module _ (row : List Count) (at' : ℕ) (e : at' ≡ length vs) where
    abbrev pub at-open : (from : Known) → from ≡ known_open b.quant → IsCounted F s row vs → IsAt s row at' from
    at-open from q h = record {
      formula = F;
      known = standing (b ∷ R) values-here;
      variable = b.var;
      bound = rest-bound F.prefix vs b R u;
      stands = place-here F.prefix vs b R d u ∙ sym e;
      held = h.held;
      small = h.small;
      counted = counts-same F.matrix _ _ row above h.counted;
      positive = first-open b R values-here false ∙ ap (λ (k : Known). k.positive) (sym q);
      negative = first-open b R values-here true ∙ ap (λ (k : Known). k.negative) (sym q);
    }

    abbrev pub at-value : (from : Known) → from ≡ known_value v → IsCounted F s row (vs ++ v ∷ []) → IsAt s row at' from
    at-value from q h = record {
      formula = F;
      known = standing R (with_value values-here b.var v);
      variable = b.var;
      bound = rest-bound F.prefix vs b R u;
      stands = place-here F.prefix vs b R d u ∙ sym e;
      held = h.held;
      small = h.small;
      counted = counts-same F.matrix _ _ row below h.counted;
      positive = first-value b R values-here v false (rest-apart F.prefix vs b R d u) ∙ ap (λ (k : Known). k.positive) (sym q);
      negative = first-value b R values-here v true (rest-apart F.prefix vs b R d u) ∙ ap (λ (k : Known). k.negative) (sym q);
    }

    pub counted-given : IsCounted F s row vs → length (vs ++ v ∷ []) ≤ length F.prefix → (new : List Count) →
        AreCounts F.matrix (turned b.var (known_value v) (standing (b ∷ R) values-here)) new → IsCounted F s new (vs ++ v ∷ [])
    counted-given h l new c = record {
      held = h.held;
      small = h.small;
      counted = counts-same F.matrix _ _ new (λ k. given b R values-here v (rest-apart F.prefix vs b R d u) k ∙ sym (below k)) c;
      within = l;
    }

    pub counted-taken : IsCounted F s row (vs ++ v ∷ []) → length vs ≤ length F.prefix → (new : List Count) →
        AreCounts F.matrix (turned b.var (known_open b.quant) (standing R (with_value values-here b.var v))) new → IsCounted F s new vs
    counted-taken h l new c = record {
      held = h.held;
      small = h.small;
      counted = counts-same F.matrix _ _ new (λ k. taken b R values-here v k ∙ sym (above k)) c;
      within = l;
    }
