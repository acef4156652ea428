-- A long-distance derivation gives one whose lines give values.
use Rattle.std.proofs.Common.{◌≡◌, ℕ, zero, suc, ◌+◌, ◌<◌, Bool, true, false, cond, not, List, [], ◌∷◌, ◌⊎◌, inl, inr, arith, refl, sym, ap, ◌∙◌, subst, slice_get, Option, Some, None}
use Rattle.q_logic.specs.Prelude.{Literal, negation, Prefix, IsIn, is_existential, is_universal, universal_before, Distinct, Assignment, Circuit, constant, choice, Reads, Lawful, outcome}
use Rattle.q_logic.specs.Prefixes.{place}
use Rattle.q_derive.specs.Derivations.{TermTrue, Line, Reason, leaf, resolve, reduce, IsBefore, IsRest, HasEmpty}
use Rattle.q_derive.specs.Traces.{IsMerged}
use Rattle.q_derive.proofs.Deciding.{same-or_turned}
use Rattle.q_long.specs.Valued.{Value, value_for, picked, Stays, AreLocal, IsDerivation}
use Rattle.q_long.specs.Valued.{Line as ValuedLine, IsBefore as IsValuedBefore, IsRest as IsValuedRest, IsTaken as IsValuedTaken, IsReduced as IsValuedReduced, Follows as ValuedFollows}
use Rattle.q_long.specs.Decided.{circuits_of}
use Rattle.q_long.specs.Distant.{IsTaken, IsReduced, Follows, IsLongDerivation, holds, clash, merged, said, value_in, values_in, valued_from, valued}
use Rattle.q_long.proofs.Valuing.{in-holds, holds-in, in-clash, said-two, said-one, stays, IsSingle, said-single, said-local}
use Rattle.q_long.proofs.Winning.{value-for, derived-lawful, derivation-wins}

-- The lines, one by one.
abbrev line_at : Prefix → List Line → ℕ → Line → ValuedLine
line_at P lines n line = record { values = values_in P lines n line.literals; reason = line.reason }

from-at : (P : Prefix) (lines : List Line) (s : ℕ) (last : List Line) (i : ℕ) (line : Line) → slice_get last i ≡ Some line →
    slice_get (valued_from P lines s last) i ≡ Some (line_at P lines (s + i) line)
from-at P lines s [] i line h = absurd (cc)
from-at P lines s (l ∷ last) zero line h =
    let e : l ≡ line = cc in
    let z : s ≡ s + 0 = omega arith in
    ap (λ (x : Line). Some (line_at P lines s x)) e ∙ ap (λ (m : ℕ). Some (line_at P lines m line)) z
from-at P lines s (l ∷ last) (suc i) line h =
    let z : suc s + i ≡ s + suc i = omega arith in
    from-at P lines (suc s) last i line h ∙ ap (λ (m : ℕ). Some (line_at P lines m line)) z

at-none : (P : Prefix) (lines : List Line) (s : ℕ) (last : List Line) (i : ℕ) → slice_get last i ≡ None → slice_get (valued_from P lines s last) i ≡ None
at-none P lines s [] i e = refl
at-none P lines s (l ∷ last) zero e = absurd (cc)
at-none P lines s (l ∷ last) (suc i) e = at-none P lines (suc s) last i e

at-from : (P : Prefix) (lines : List Line) (s : ℕ) (last : List Line) (i : ℕ) (v : ValuedLine) → slice_get (valued_from P lines s last) i ≡ Some v →
    (line : Line) × (slice_get last i ≡ Some line) × (v ≡ line_at P lines (s + i) line)
at-from P lines s last i v h = go (slice_get last i) refl
  where
    go : (o : Option Line) → slice_get last i ≡ o → (line : Line) × (slice_get last i ≡ Some line) × (v ≡ line_at P lines (s + i) line)
    go None e = absurd (let z : slice_get (valued_from P lines s last) i ≡ None = at-none P lines s last i e in cc)
    go (Some line) e = (line, e, let z : Some v ≡ Some (line_at P lines (s + i) line) = sym h ∙ from-at P lines s last i line e in cc)

there : (P : Prefix) (lines : List Line) (n : ℕ) (line : Line) → slice_get lines n ≡ Some line → slice_get (valued P lines) n ≡ Some (line_at P lines n line)
there P lines n line h =
    let z : 0 + n ≡ n = omega arith in
    from-at P lines 0 lines n line h ∙ ap (λ (m : ℕ). Some (line_at P lines m line)) z

back : (P : Prefix) (lines : List Line) (n : ℕ) (v : ValuedLine) → slice_get (valued P lines) n ≡ Some v →
    (line : Line) × (slice_get lines n ≡ Some line) × (v ≡ line_at P lines n line)
back P lines n v h =
    let r = at-from P lines 0 lines n v h in
    let z : 0 + n ≡ n = omega arith in
    (r.0, r.1, r.2 ∙ ap (λ (m : ℕ). line_at P lines m r.0) z)

-- Their values.
in-values : (P : Prefix) (lines : List Line) (n : ℕ) (T : List Literal) (k : Literal) → IsIn k T → IsIn (value_in P lines n k) (values_in P lines n T)
in-values P lines n [] k m = elim m [ ]
in-values P lines n (j ∷ T) k (inl e) = inl (ap (value_in P lines n) e)
in-values P lines n (j ∷ T) k (inr m) = inr (in-values P lines n T k m)

values-in : (P : Prefix) (lines : List Line) (n : ℕ) (T : List Literal) (v : Value) → IsIn v (values_in P lines n T) →
    (k : Literal) × IsIn k T × (v ≡ value_in P lines n k)
values-in P lines n [] v m = elim m [ ]
values-in P lines n (j ∷ T) v (inl e) = (j, inl refl, e)
values-in P lines n (j ∷ T) v (inr m) = let r = values-in P lines n T v m in (r.0, inr r.1, r.2)

own-value : (P : Prefix) (lines : List Line) (n : ℕ) (k : Literal) → is_existential P k.var ≡ true → value_in P lines n k ≡ record { var = k.var; circuit = said lines n k.var }
own-value P lines n k e = ap (λ (b : Bool). cond b (record { var = k.var; circuit = said lines n k.var }) (value_for k)) e

other-value : (P : Prefix) (lines : List Line) (n : ℕ) (k : Literal) → is_existential P k.var ≡ false → value_in P lines n k ≡ value_for k
other-value P lines n k e = ap (λ (b : Bool). cond b (record { var = k.var; circuit = said lines n k.var }) (value_for k)) e

value-var : (P : Prefix) (lines : List Line) (n : ℕ) (k : Literal) → (value_in P lines n k).var ≡ k.var
value-var P lines n k = go (is_existential P k.var)
  where
    go : (b : Bool) → (cond b (record { var = k.var; circuit = said lines n k.var }) (value_for k)).var ≡ k.var
    go true = refl
    go false = refl

-- Which lines may stand by themselves: those that L allows, with the values by which their literals are true.
abbrev pub Plainly : (List Literal → Type 0) → List Value → Type 0
Plainly L V = (T : List Literal) × L T × ((k : Literal) → IsIn k T → IsIn (value_for k) V)

module _ (P : Prefix) (L : List Literal → Type 0) (lines : List Line) (d : IsLongDerivation P L lines) where
  before-valued : (n i : ℕ) (S : List Literal) → IsBefore lines n i S → IsValuedBefore (valued P lines) n i (values_in P lines i S)
  before-valued n i S (line, lt, p, q) = (line_at P lines i line, lt, there P lines i line p, ap (values_in P lines i) q)

  leaf-valued : (n : ℕ) (line : Line) → slice_get lines n ≡ Some line → line.reason ≡ leaf → L line.literals → (IsMerged P line.literals → ⊥) →
      Plainly L (values_in P lines n line.literals)
  leaf-valued n line at e l single = (line.literals, l, each)
    where
      each : (k : Literal) → IsIn k line.literals → IsIn (value_for k) (values_in P lines n line.literals)
      each k m = go (is_existential P k.var) refl
        where
          go : (b : Bool) → is_existential P k.var ≡ b → IsIn (value_for k) (values_in P lines n line.literals)
          go true q =
              let s : said lines n k.var ≡ constant (not k.negative) = said-single P L lines d (suc n) n line k (omega arith) at q (m, λ w. single (k, q, m, w)) in
              subst (λ (v : Value). IsIn v (values_in P lines n line.literals))
              (own-value P lines n k q ∙ ap (λ (t : Circuit). record { var = k.var; circuit = t }) s)
              (in-values P lines n line.literals k m)
          go false q = subst (λ (v : Value). IsIn v (values_in P lines n line.literals)) (other-value P lines n k q) (in-values P lines n line.literals k m)

  -- a literal of the opponent
  rest-other : (n : ℕ) (T S : List Literal) (q j : Literal) → IsRest S q T → IsIn j S → is_existential P j.var ≡ false → (v : Value) → v ≡ value_for j →
      (v ≡ value_for q) ⊎ Stays q (values_in P lines n T) v
  rest-other n T S q j r m e v w = elim (r j m) [
    | inl s ↦ inl (w ∙ ap value_for s)
    | inr o ↦ inr (inl (subst (λ (x : Value). IsIn x (values_in P lines n T)) (other-value P lines n j e ∙ sym w) (in-values P lines n T j o)))
  ]

  -- one of the owner
  rest-own : (n : ℕ) (T : List Literal) (q j : Literal) (s : Circuit) → IsIn j T → is_existential P j.var ≡ true →
      (said lines n j.var ≡ s) ⊎ ((t : Circuit) × (said lines n j.var ≡ picked q s t)) → (v : Value) → v ≡ record { var = j.var; circuit = s } →
      Stays q (values_in P lines n T) v
  rest-own n T q j s m e w v h = subst (Stays q (values_in P lines n T)) (sym h) (elim w [
    | inl x ↦ inl (subst (λ (y : Value). IsIn y (values_in P lines n T)) (own-value P lines n j e ∙ ap (λ (t : Circuit). record { var = j.var; circuit = t }) x) (in-values P lines n T j m))
    | inr x ↦ inr (x.0, subst (λ (y : Value). IsIn y (values_in P lines n T)) (own-value P lines n j e ∙ ap (λ (t : Circuit). record { var = j.var; circuit = t }) x.1) (in-values P lines n T j m))
  ])

  turn-picked : (k : Literal) (s t : Circuit) → picked k s t ≡ picked (negation k) t s
  turn-picked k s t = go k.negative
    where
      go : (b : Bool) → cond b (choice k.var t s) (choice k.var s t) ≡ cond (not b) (choice k.var s t) (choice k.var t s)
      go true = refl
      go false = refl

  module _ (n : ℕ) (line : Line) (at : slice_get lines n ≡ Some line) (i j : ℕ) (k : Literal) (e : line.reason ≡ resolve i j k) (S U : List Literal)
      (p : IsBefore lines n i S) (q : IsBefore lines n j U) (ku : is_universal P k.var ≡ true) (rs : IsRest S k line.literals) (ru : IsRest U (negation k) line.literals) where
    two : (x : ℕ) → said lines n x ≡ merged k x S U line.literals (said lines i x) (said lines j x)
    two x = said-two P L lines d n line x at i j k e S U p q

    first-own : (g : Literal) → IsIn g S → (said lines n g.var ≡ said lines i g.var) ⊎ ((t : Circuit) × (said lines n g.var ≡ picked k (said lines i g.var) t))
    first-own g m = go (clash g.var S U) refl
      where
        h : holds g.var S ≡ true
        h = in-holds g S m

        go : (b : Bool) → clash g.var S U ≡ b → (said lines n g.var ≡ said lines i g.var) ⊎ ((t : Circuit) × (said lines n g.var ≡ picked k (said lines i g.var) t))
        go true c = inr (said lines j g.var, two g.var ∙ (rw (h, c) refl))
        go false c = inl (two g.var ∙ (rw (h, c) refl))

    -- where both lines hold one sign of a variable, they say the same of it
    same-said : (g : Literal) → is_existential P g.var ≡ true → IsIn g U → holds g.var S ≡ true → clash g.var S U ≡ false → said lines i g.var ≡ said lines j g.var
    same-said g x m h c = go (holds-in g.var S h)
      where
        no : (f : Literal) → IsIn f S → IsIn (negation f) U → f.var ≡ g.var → ⊥
        no f a b v = let z : clash g.var S U ≡ true = subst (λ y. clash y S U ≡ true) v (in-clash f S U a b) in cc

        negative-negation : (f : Literal) → negation (negation f) ≡ f
        negative-negation f = λ z. record { var = f.var; negative = twice f.negative z }
          where
            twice : (b : Bool) → not (not b) ≡ b
            twice true = refl
            twice false = refl

        line-of : (m : ℕ) (V : List Literal) → IsBefore lines n m V → IsSingle V g → said lines m g.var ≡ constant (not g.negative)
        line-of m V (l, lt, a, b) s = said-single P L lines d (suc m) m l g (omega arith) a x (subst (λ (A : List Literal). IsSingle A g) (sym b) s)

        both : IsIn g S → said lines i g.var ≡ said lines j g.var
        both a =
            line-of i S p (a, λ w. no (negation g) w (subst (λ (f : Literal). IsIn f U) (sym (negative-negation g)) m) refl) ∙
            sym (line-of j U q (m, λ w. no g a w refl))

        go : (f : Literal) × IsIn f S × (f.var ≡ g.var) → said lines i g.var ≡ said lines j g.var
        go (f, a, v) = elim (same-or_turned f g v) [
          | inl s ↦ both (subst (λ (y : Literal). IsIn y S) s a)
          | inr s ↦ absurd (no (negation g) (subst (λ (y : Literal). IsIn y S) s a) (subst (λ (y : Literal). IsIn y U) (sym (negative-negation g)) m) refl)
        ]

    second-own : (g : Literal) → is_existential P g.var ≡ true → IsIn g U →
        (said lines n g.var ≡ said lines j g.var) ⊎ ((t : Circuit) × (said lines n g.var ≡ picked (negation k) (said lines j g.var) t))
    second-own g x m = go (holds g.var S) refl (clash g.var S U) refl
      where
        h : holds g.var U ≡ true
        h = in-holds g U m

        go : (a : Bool) → holds g.var S ≡ a → (b : Bool) → clash g.var S U ≡ b →
            (said lines n g.var ≡ said lines j g.var) ⊎ ((t : Circuit) × (said lines n g.var ≡ picked (negation k) (said lines j g.var) t))
        go true a true c = inr (said lines i g.var, two g.var ∙ (rw (a, c) refl) ∙ turn-picked k (said lines i g.var) (said lines j g.var))
        go true a false c = inl (two g.var ∙ (rw (a, c) refl) ∙ same-said g x m a c)
        go false a b c = inl (two g.var ∙ (rw (a, h) refl))

    first-rest : IsValuedRest (values_in P lines i S) k (values_in P lines n line.literals)
    first-rest v m = go (values-in P lines i S v m)
      where
        go : (g : Literal) × IsIn g S × (v ≡ value_in P lines i g) → (v ≡ value_for k) ⊎ Stays k (values_in P lines n line.literals) v
        go (g, a, w) = by (is_existential P g.var) refl
          where
            by : (b : Bool) → is_existential P g.var ≡ b → (v ≡ value_for k) ⊎ Stays k (values_in P lines n line.literals) v
            by true x = inr (rest-own n line.literals k g (said lines i g.var) (stays P S line.literals k g rs ku x a) x (first-own g a) v (w ∙ own-value P lines i g x))
            by false x = rest-other n line.literals S k g rs a x v (w ∙ other-value P lines i g x)

    second-rest : IsValuedRest (values_in P lines j U) (negation k) (values_in P lines n line.literals)
    second-rest v m = go (values-in P lines j U v m)
      where
        go : (g : Literal) × IsIn g U × (v ≡ value_in P lines j g) → (v ≡ value_for (negation k)) ⊎ Stays (negation k) (values_in P lines n line.literals) v
        go (g, a, w) = by (is_existential P g.var) refl
          where
            by : (b : Bool) → is_existential P g.var ≡ b → (v ≡ value_for (negation k)) ⊎ Stays (negation k) (values_in P lines n line.literals) v
            by true x = inr (rest-own n line.literals (negation k) g (said lines j g.var) (stays P U line.literals (negation k) g ru ku x a) x (second-own g x a) v (w ∙ own-value P lines j g x))
            by false x = rest-other n line.literals U (negation k) g ru a x v (w ∙ other-value P lines j g x)

  reduced-valued : (n : ℕ) (line : Line) → slice_get lines n ≡ Some line → (i : ℕ) → line.reason ≡ reduce i → (S : List Literal) → IsBefore lines n i S →
      IsReduced P S line.literals → IsValuedReduced P (values_in P lines i S) (values_in P lines n line.literals)
  reduced-valued n line at i e S p red v m = go (values-in P lines i S v m)
    where
      T : List Literal
      T = line.literals

      go : (g : Literal) × IsIn g S × (v ≡ value_in P lines i g) → IsIn v (values_in P lines n T) ⊎ IsValuedTaken P (values_in P lines i S) (values_in P lines n T) v
      go (g, a, w) = elim (red g a) [ inl o ↦ inl (by (is_existential P g.var) refl o) | inr t ↦ inr (taken t) ]
        where
          by : (b : Bool) → is_existential P g.var ≡ b → IsIn g T → IsIn v (values_in P lines n T)
          by true x o =
              let h : holds g.var S ≡ true = in-holds g S a in
              let s : said lines n g.var ≡ said lines i g.var = said-one P L lines d n line g.var at i e S p ∙ (rw h refl) in
              subst (λ (y : Value). IsIn y (values_in P lines n T))
              (own-value P lines n g x ∙ ap (λ (t : Circuit). record { var = g.var; circuit = t }) s ∙ sym (own-value P lines i g x) ∙ sym w)
              (in-values P lines n T g o)
          by false x o =
              subst (λ (y : Value). IsIn y (values_in P lines n T)) (other-value P lines n g x ∙ sym (other-value P lines i g x) ∙ sym w) (in-values P lines n T g o)

          taken : IsTaken P T g → IsValuedTaken P (values_in P lines i S) (values_in P lines n T) v
          taken t = record {
            owned = subst (λ y. is_existential P y ≡ true) (sym own) t.owned;
            alone = λ z f u. one z (values-in P lines i S z f) u;
            behind = λ z f. let r = values-in P lines n T z f in
                subst (λ y. place P y < place P v.var) (sym (ap (λ (y : Value). y.var) r.2 ∙ value-var P lines n r.0))
                (subst (λ y. place P r.0.var < place P y) (sym own) (t.behind r.0 r.1));
          }
            where
              own : v.var ≡ g.var
              own = ap (λ (y : Value). y.var) w ∙ value-var P lines i g

              one : (z : Value) → (f : Literal) × IsIn f S × (z ≡ value_in P lines i f) → z.var ≡ v.var → z ≡ v
              one z (f, b, y) u =
                  let s : f.var ≡ g.var = sym (ap (λ (o : Value). o.var) y ∙ value-var P lines i f) ∙ u ∙ own in
                  let x : is_existential P f.var ≡ true = subst (λ o. is_existential P o ≡ true) (sym s) t.owned in
                  y ∙ own-value P lines i f x ∙ ap (λ (o : ℕ). record { var = o; circuit = said lines i o }) s ∙ sym (own-value P lines i g t.owned) ∙ sym w

  follows-valued : (n : ℕ) (line : Line) → slice_get lines n ≡ Some line → (r : Reason) → line.reason ≡ r → Follows P L lines n line.literals r →
      ValuedFollows P (Plainly L) (valued P lines) n (values_in P lines n line.literals) r
  follows-valued n line at leaf e (l, s) = leaf-valued n line at e l s
  follows-valued n line at (resolve i j k) e (S, U, p, q, ku, rs, ru, mm) = (
    values_in P lines i S,
    values_in P lines j U,
    before-valued n i S p,
    before-valued n j U q,
    first-rest n line at i j k e S U p q ku rs ru,
    second-rest n line at i j k e S U p q ku rs ru,
  )
  follows-valued n line at (reduce i) e (S, p, red) = (values_in P lines i S, before-valued n i S p, reduced-valued n line at i e S p red)

  local-valued : (n : ℕ) (line : Line) → slice_get lines n ≡ Some line → AreLocal P (values_in P lines n line.literals)
  local-valued n line at v m u r = go (values-in P lines n line.literals v m)
    where
      go : (k : Literal) × IsIn k line.literals × (v ≡ value_in P lines n k) → universal_before P u v.var ≡ true
      go (k, a, w) = by (is_existential P k.var) refl
        where
          by : (b : Bool) → is_existential P k.var ≡ b → universal_before P u v.var ≡ true
          by true x =
              let y : v ≡ record { var = k.var; circuit = said lines n k.var } = w ∙ own-value P lines n k x in
              subst (λ (z : Value). universal_before P u z.var ≡ true) (sym y)
              (said-local P L lines d (suc n) n line k.var (omega arith) at x u (subst (λ (z : Value). Reads z.circuit u) y r))
          by false x =
              let y : v ≡ value_for k = w ∙ other-value P lines n k x in
              absurd (subst (λ (z : Value). Reads z.circuit u) y r)

  pub valued-derivation : IsDerivation P (Plainly L) (valued P lines)
  valued-derivation = record {
    local = λ n v h. let r = back P lines n v h in subst (λ (x : ValuedLine). AreLocal P x.values) (sym r.2) (local-valued n r.0 r.1);
    follows = λ n v h. let r = back P lines n v h in
        subst (λ (x : ValuedLine). ValuedFollows P (Plainly L) (valued P lines) n x.values x.reason) (sym r.2)
        (follows-valued n r.0 r.1 r.0.reason refl (d n r.0 r.1));
  }

  pub long-lawful : Distinct P → Lawful P (circuits_of P (valued P lines))
  long-lawful di = derived-lawful P (Plainly L) (valued P lines) di valued-derivation

  pub long-wins : (A : Assignment) (W : Type 0) → Distinct P → HasEmpty lines →
      ((T : List Literal) → L T → TermTrue (outcome (circuits_of P (valued P lines)) A) T → W) → W
  long-wins A W di (n, line, at, e) sound =
      derivation-wins P (Plainly L) (valued P lines) A W di valued-derivation
      (n, line_at P lines n line, there P lines n line at, ap (values_in P lines n) e)
      (λ V pl h. sound pl.0 pl.1 (λ k m. sym (value-for (outcome (circuits_of P (valued P lines)) A) k) ∙ h (value_for k) (pl.2 k m)))
