-- A plain drop carries Herbrand functions over.
use Rattle.std.proofs.Common.{◌≡◌, ℕ, Bool, true, false, cond, not, eqb, List, [], ◌∷◌, ◌⊎◌, inl, inr, arith, refl, sym, ap, ◌∙◌, subst, Option, Some, None}
use Rattle.q_logic.specs.Prelude.{Literal, negation, literal_eq, Prefix, Clause, Matrix, IsIn, is_existential, is_universal, universal_before, outer_or_same, Assignment, LiteralTrue, ClauseTrue, signed, Circuit, inverter, value_of, Reads, Strategy, circuit_of, or_input, given, outcome, Lawful, keeps, outer, without, IsTautology, Within, literal_circuit, raised}
use Rattle.q_logic.specs.Herbrands.{MatrixFalse, LawfulHerbrand, Herbrand, existential_before}
use Rattle.q_logic.specs.Reversals.{none_of, lowered_by, inner, IsPlainDrop}
use Rattle.q_logic.specs.Exchanging.{exchanged}
use Rattle.q_logic.proofs.ClauseLemmas.{literal_eq-sound, IsIn-outer, value_of-literal_circuit, Reads-literal_circuit}
use Rattle.q_logic.proofs.ImpliedClauses.{negation-negation, implied-tautology}
use Rattle.q_logic.proofs.PrefixOrder.{is_bound-universal, inner-later}
use Rattle.q_logic.proofs.Pivot.{Near, outers-before}
use Rattle.q_logic.proofs.Propagation.{implied-true}
use Rattle.q_logic.proofs.JoinedClauses.{IsIn-outer_in}
use Rattle.q_logic.proofs.UniversalPivot.{IsIn-without}
use Rattle.q_logic.proofs.Exchanged.{exchanged-existential, exchanged-bound, exchanged-before, exchanged-outer, lawful-exchanged}
use Rattle.q_logic.proofs.Falsity.{MatrixFalse-agree}
use Rattle.q_logic.proofs.ForthPivots.{one_of-two, literal-same}

-- The literals that are inner.
pub IsIn-inner : (P : Prefix) (l : Literal) (C : Clause) (k : Literal) → IsIn k (inner P l C) →
    IsIn k C × (outer_or_same P k.var l.var ≡ false)
IsIn-inner P l [] k m = elim m [ ]
IsIn-inner P l (j ∷ C) k m = go (outer_or_same P j.var l.var) refl m (IsIn-inner P l C k)
  where
    go : (b : Bool) → outer_or_same P j.var l.var ≡ b → IsIn k (cond b (inner P l C) (j ∷ inner P l C)) →
        (IsIn k (inner P l C) → IsIn k C × (outer_or_same P k.var l.var ≡ false)) →
        IsIn k (j ∷ C) × (outer_or_same P k.var l.var ≡ false)
    go true e n ih = (inr (ih n).0, (ih n).1)
    go false e (inl s) ih = (inl s, ap (λ (i : Literal). outer_or_same P i.var l.var) s ∙ e)
    go false e (inr n) ih = (inr (ih n).0, (ih n).1)

pub inner-IsIn : (P : Prefix) (l : Literal) (C : Clause) (k : Literal) → IsIn k C →
    outer_or_same P k.var l.var ≡ false → IsIn k (inner P l C)
inner-IsIn P l [] k m o = m
inner-IsIn P l (j ∷ C) k m o = go (outer_or_same P j.var l.var) refl m (λ n. inner-IsIn P l C k n o)
  where
    go : (b : Bool) → outer_or_same P j.var l.var ≡ b → (k ≡ j) ⊎ IsIn k C → (IsIn k C → IsIn k (inner P l C)) →
        IsIn k (cond b (inner P l C) (j ∷ inner P l C))
    go true e (inl s) ih =
        let z : outer_or_same P k.var l.var ≡ true = ap (λ (i : Literal). outer_or_same P i.var l.var) s ∙ e in
        absurd (grind arith)
    go true e (inr n) ih = ih n
    go false e (inl s) ih = inl s
    go false e (inr n) ih = inr (ih n)

-- The negations of all literals.
none_of-true : (c : Strategy) (A : Assignment) (S : Clause) → value_of (none_of c S) A ≡ true →
    ClauseTrue (outcome c A) S → ⊥
none_of-true c A [] h w = elim w.1 [ ]
none_of-true c A (k ∷ S) h (j, inl e, t) =
    let z : value_of (literal_circuit c k) A ≡ true =
    value_of-literal_circuit c A k ∙ subst (LiteralTrue (outcome c A)) e t in grind arith
none_of-true c A (k ∷ S) h (j, inr m, t) = none_of-true c A S (grind arith) (j, m, t)

none_of-false : (c : Strategy) (A : Assignment) (S : Clause) → value_of (none_of c S) A ≡ false →
    ClauseTrue (outcome c A) S
none_of-false c A [] h = grind arith
none_of-false c A (k ∷ S) h = go (value_of (literal_circuit c k) A) refl (none_of-false c A S)
  where
    go : (b : Bool) → value_of (literal_circuit c k) A ≡ b →
        (value_of (none_of c S) A ≡ false → ClauseTrue (outcome c A) S) → ClauseTrue (outcome c A) (k ∷ S)
    go true e ih = (k, inl refl, sym (value_of-literal_circuit c A k) ∙ e)
    go false e ih = let w : ClauseTrue (outcome c A) S = ih (grind arith) in (w.0, inr w.1, w.2)

Reads-none_of : (c : Strategy) (S : Clause) (u : ℕ) → Reads (none_of c S) u →
    (k : Literal) × IsIn k S × Reads (circuit_of c k.var) u
Reads-none_of c [] u r = elim r [ ]
Reads-none_of c (k ∷ S) u (inl r) = (k, inl refl, Reads-literal_circuit c k u r)
Reads-none_of c (k ∷ S) u (inr r) =
    let s : (k : Literal) × IsIn k S × Reads (circuit_of c k.var) u = Reads-none_of c S u r in
    (s.0, inr s.1, s.2)

-- Literals that are made false where q holds.
lowered_by-idle : (q : Circuit) (ks : List Literal) (c : Strategy) (A : Assignment) → value_of q A ≡ false →
    (x : ℕ) → outcome (lowered_by q ks c) A x ≡ outcome c A x
lowered_by-idle q [] c A h x = refl
lowered_by-idle q (k ∷ ks) c A h x =
    go (eqb x k.var) (not k.negative) (lowered_by q ks c x) (lowered_by-idle q ks c A h x)
  where
    go : (b n : Bool) (o : Option Circuit) → value_of (or_input x o) A ≡ outcome c A x →
        value_of (or_input x (cond b (raised n q o) o)) A ≡ outcome c A x
    go true true (Some t) ih = grind arith
    go true false (Some t) ih = grind arith
    go true n None ih = ih
    go false n o ih = ih

lowered_by-other : (q : Circuit) (ks : List Literal) (c : Strategy) (x : ℕ) →
    ((k : Literal) → IsIn k ks → eqb x k.var ≡ false) → lowered_by q ks c x ≡ c x
lowered_by-other q [] c x h = refl
lowered_by-other q (k ∷ ks) c x h =
    let e : eqb x k.var ≡ false = h k (inl refl) in rw e (lowered_by-other q ks c x (λ j m. h j (inr m)))

given-lowered_by : (q : Circuit) (ks : List Literal) (c : Strategy) (x : ℕ) →
    given (lowered_by q ks c x) ≡ given (c x)
given-lowered_by q [] c x = refl
given-lowered_by q (k ∷ ks) c x = go (eqb x k.var) (lowered_by q ks c x) (given-lowered_by q ks c x)
  where
    go : (b : Bool) (o : Option Circuit) → given o ≡ given (c x) →
        given (cond b (raised (not k.negative) q o) o) ≡ given (c x)
    go true None ih = ih
    go true (Some t) ih = ih
    go false o ih = ih

lowered_by-false : (q : Circuit) (ks : List Literal) (c : Strategy) (A : Assignment) → value_of q A ≡ true →
    (k : Literal) → IsIn k ks → given (c k.var) ≡ true →
    ((j : Literal) → IsIn j ks → j.var ≡ k.var → j.negative ≡ k.negative) →
    LiteralTrue (outcome (lowered_by q ks c) A) k → ⊥
lowered_by-false q [] c A h k m g same t = elim m [ ]
lowered_by-false q (j ∷ ks) c A h k m g same t =
    go (eqb k.var j.var) refl m (λ n o y. lowered_by-false q ks c A h k n g o y) (given-lowered_by q ks c k.var ∙ g) t
  where
    at : (n : Bool) (o : Option Circuit) → given o ≡ true →
        signed n (value_of (or_input k.var (raised (not n) q o)) A) ≡ true → ⊥
    at n None g y = grind arith
    at true (Some t) g y = grind arith
    at false (Some t) g y = grind arith

    go : (b : Bool) → eqb k.var j.var ≡ b → (k ≡ j) ⊎ IsIn k ks →
        (IsIn k ks → ((i : Literal) → IsIn i ks → i.var ≡ k.var → i.negative ≡ k.negative) →
        LiteralTrue (outcome (lowered_by q ks c) A) k → ⊥) → given (lowered_by q ks c k.var) ≡ true →
        signed k.negative (value_of (or_input k.var (cond b (raised (not j.negative) q (lowered_by q ks c k.var)) (lowered_by q ks c k.var))) A) ≡ true → ⊥
    go true e m ih g y =
        let s : j.negative ≡ k.negative = same j (inl refl) (grind arith) in
        at k.negative (lowered_by q ks c k.var) g (subst (λ n. signed k.negative (value_of (or_input k.var (raised (not n) q (lowered_by q ks c k.var))) A) ≡ true) s y)
    go false e (inl s) ih g y =
        let z : eqb k.var k.var ≡ false = subst (λ (i : Literal). eqb k.var i.var ≡ false) (sym s) e in absurd (grind arith)
    go false e (inr n) ih g y = ih n (λ i o. same i (inr o)) y

Reads-lowered_by : (q : Circuit) (ks : List Literal) (c : Strategy) (x u : ℕ) →
    Reads (circuit_of (lowered_by q ks c) x) u →
    Reads (circuit_of c x) u ⊎ ((k : Literal) × IsIn k ks × (eqb x k.var ≡ true) × Reads q u)
Reads-lowered_by q [] c x u r = inl r
Reads-lowered_by q (k ∷ ks) c x u r =
    go (eqb x k.var) refl (not k.negative) (lowered_by q ks c x) (Reads-lowered_by q ks c x u) r
  where
    go : (b : Bool) → eqb x k.var ≡ b → (n : Bool) (o : Option Circuit) →
        (Reads (or_input x o) u →
        Reads (circuit_of c x) u ⊎ ((j : Literal) × IsIn j ks × (eqb x j.var ≡ true) × Reads q u)) →
        Reads (or_input x (cond b (raised n q o) o)) u →
        Reads (circuit_of c x) u ⊎ ((j : Literal) × IsIn j (k ∷ ks) × (eqb x j.var ≡ true) × Reads q u)
    go true e n None ih r = more (ih r)
      where
        more : Reads (circuit_of c x) u ⊎ ((j : Literal) × IsIn j ks × (eqb x j.var ≡ true) × Reads q u) →
            Reads (circuit_of c x) u ⊎ ((j : Literal) × IsIn j (k ∷ ks) × (eqb x j.var ≡ true) × Reads q u)
        more (inl y) = inl y
        more (inr y) = inr (y.0, inr y.1, y.2, y.3)
    go true e true (Some t) ih (inl r) = elim (ih r) [ inl y ↦ inl y | inr y ↦ inr (y.0, inr y.1, y.2, y.3) ]
    go true e true (Some t) ih (inr r) = inr (k, inl refl, e, r)
    go true e false (Some t) ih (inl r) = elim (ih r) [ inl y ↦ inl y | inr y ↦ inr (y.0, inr y.1, y.2, y.3) ]
    go true e false (Some t) ih (inr r) = inr (k, inl refl, e, r)
    go false e n o ih r =
        elim (ih r) [ inl y ↦ inl y | inr y ↦ inr (y.0, inr y.1, y.2, y.3) ]

-- What the circuit of an outer or same literal reads stands before.
near-before : (P : Prefix) (v : ℕ) (k : Literal) (c : Strategy) → is_existential P v ≡ true →
    outer_or_same P k.var v ≡ true → Lawful P c → (u : ℕ) → Reads (circuit_of c k.var) u →
    universal_before P u v ≡ true
near-before P v k c he o l u r = outers-before P v ((k ∷ []) ∷ []) c he near l u (inl (inl (literal k.negative r)))
  where
    near : Near P v ((k ∷ []) ∷ [])
    near O (inl e) j m = at (subst (IsIn j) e m)
      where
        at : (j ≡ k) ⊎ ⊥ → outer_or_same P j.var v ≡ true
        at (inl s) = ap (λ (i : Literal). outer_or_same P i.var v) s ∙ o
        at (inr m) = absurd m
    near O (inr m) j n = elim m [ ]

    literal : (n : Bool) → Reads (circuit_of c k.var) u →
        Reads (cond n (inverter (circuit_of c k.var)) (circuit_of c k.var)) u
    literal true r = r
    literal false r = r

-- A literal of a plain clause that is inner is universal.
inner-universal : (P : Prefix) (C : Clause) (l k : Literal) → Within P C → IsPlainDrop P C l → IsIn k C →
    outer_or_same P k.var l.var ≡ false → is_universal P k.var ≡ true
inner-universal P C l k w p m o = go (is_existential P k.var) refl
  where
    go : (b : Bool) → is_existential P k.var ≡ b → is_universal P k.var ≡ true
    go true e = let z : outer_or_same P k.var l.var ≡ true = p.no_inner k m e in absurd (grind arith)
    go false e = is_bound-universal P k.var (w k m) e

pub plain-lawful : (P : Prefix) (C : Clause) (l : Literal) (c : Strategy) → Within P C →
    is_universal P l.var ≡ true → IsPlainDrop P C l → LawfulHerbrand P c →
    LawfulHerbrand P (lowered_by (none_of c (outer P l C)) (l ∷ inner P l C) c)
plain-lawful P C l c w hu p h =
    record {
      trees = λ x. given-lowered_by q ks c x ∙ h.trees x;
      reads = reading;
    }
  where
    q : Circuit
    q = none_of c (outer P l C)

    ks : List Literal
    ks = l ∷ inner P l C

    E : Prefix
    E = exchanged P

    before_l : (u : ℕ) → Reads q u → universal_before E u l.var ≡ true
    before_l u r =
        let s : (k : Literal) × IsIn k (outer P l C) × Reads (circuit_of c k.var) u = Reads-none_of c (outer P l C) u r in
        let o : IsIn s.0 C × (keeps P l s.0 ≡ true) = IsIn-outer P l C s.0 s.1 in
        near-before E l.var s.0 c (exchanged-existential P l.var ∙ hu)
        (exchanged-outer P s.0.var l.var ∙ kept s.0 o.1) (lawful-exchanged P c h) u s.2
      where
        kept : (k : Literal) → keeps P l k ≡ true → outer_or_same P k.var l.var ≡ true
        kept k y = grind arith

    before : (x : ℕ) → is_universal P x ≡ true → (u : ℕ) → (k : Literal) → IsIn k ks → eqb x k.var ≡ true →
        Reads q u → existential_before P u x ≡ true
    before x e u k (inl s) y r =
        let z : l.var ≡ x = sym (ap (λ (i : Literal). i.var) s) ∙ sym (equal x k.var y) in
        sym (exchanged-before P u x) ∙ subst (λ v. universal_before E u v ≡ true) z (before_l u r)
      where
        equal : (a b : ℕ) → eqb a b ≡ true → a ≡ b
        equal a b t = grind arith
    before x e u k (inr m) y r =
        let i : IsIn k C × (outer_or_same P k.var l.var ≡ false) = IsIn-inner P l C k m in
        let z : k.var ≡ x = sym (equal x k.var y) in
        sym (exchanged-before P u x) ∙ subst (λ v. universal_before E u v ≡ true) z
        (inner-later E u l.var k.var (exchanged-outer P k.var l.var ∙ i.1) (exchanged-bound P k.var ∙ w k i.0)
        (before_l u r))
      where
        equal : (a b : ℕ) → eqb a b ≡ true → a ≡ b
        equal a b t = grind arith

    reading : (x : ℕ) → is_universal P x ≡ true → (u : ℕ) → Reads (circuit_of (lowered_by q ks c) x) u →
        existential_before P u x ≡ true
    reading x e u r =
        elim (Reads-lowered_by q ks c x u r) [
          | inl y ↦ h.reads x e u y
          | inr y ↦ before x e u y.0 y.1 y.2 y.3
        ]

pub plain-carries : (P : Prefix) (Y : Matrix) (C : Clause) (l : Literal) (c : Strategy) → Within P C →
    is_universal P l.var ≡ true → IsIn l C → IsPlainDrop P C l → (IsTautology C → ⊥) →
    Herbrand P (without l C ∷ Y) c →
    Herbrand P (C ∷ Y) (lowered_by (none_of c (outer P l C)) (l ∷ inner P l C) c)
plain-carries P Y C l c w hu inC p nt h =
    record { lawful = plain-lawful P C l c w hu p h.lawful; loses = losing }
  where
    q : Circuit
    q = none_of c (outer P l C)

    ks : List Literal
    ks = l ∷ inner P l C

    of_clause : (k : Literal) → IsIn k ks → IsIn k C
    of_clause k (inl e) = subst (λ j. IsIn j C) (sym e) inC
    of_clause k (inr m) = (IsIn-inner P l C k m).0

    one_sign : (j k : Literal) → IsIn j C → IsIn k C → j.var ≡ k.var → j.negative ≡ k.negative
    one_sign j k a b e =
        elim (one_of-two j k (grind arith)) [
          | inl s ↦ ap (λ (i : Literal). i.negative) s
          | inr s ↦ absurd (nt (k, b, subst (λ i. IsIn i C) s a))
        ]

    has_circuit : (k : Literal) → IsIn k ks → given (c k.var) ≡ true
    has_circuit k (inl e) = h.lawful.trees k.var ∙ subst (λ (j : Literal). is_universal P j.var ≡ true) (sym e) hu
    has_circuit k (inr m) =
        let i : IsIn k C × (outer_or_same P k.var l.var ≡ false) = IsIn-inner P l C k m in
        h.lawful.trees k.var ∙ inner-universal P C l k w p i.0 i.1

    losing : (A : Assignment) → MatrixFalse (outcome (lowered_by q ks c) A) (C ∷ Y)
    losing A = go (value_of q A) refl
      where
        M : Assignment
        M = outcome c A

        N : Assignment
        N = outcome (lowered_by q ks c) A

        kept : value_of q A ≡ false → MatrixFalse M (C ∷ Y)
        kept e = first (h.loses A)
          where
            true_rest : ClauseTrue M (outer P l C) → ClauseTrue M (without l C)
            true_rest (k, m, t) =
                let o : IsIn k C × (keeps P l k ≡ true) = IsIn-outer P l C k m in
                (k, IsIn-without l C k o.0 (differs o.1), t)
              where
                differs : keeps P l k ≡ true → literal_eq k l ≡ false
                differs y = grind arith

            first : MatrixFalse M (without l C ∷ Y) → MatrixFalse M (C ∷ Y)
            first (D, inl s, f) =
                absurd (subst (λ D. ClauseTrue M D → ⊥) s f (true_rest (none_of-false c A (outer P l C) e)))
            first (D, inr m, f) = (D, inr m, f)

        changed : value_of q A ≡ true → ClauseTrue N C → ⊥
        changed e (k, m, t) = at (literal_eq k l) refl (outer_or_same P k.var l.var) refl
          where
            lowers : IsIn k ks → ⊥
            lowers i =
                lowered_by-false q ks c A e k i (has_circuit k i)
                (λ j n s. one_sign j k (of_clause j n) m s) t

            at : (b : Bool) → literal_eq k l ≡ b → (o : Bool) → outer_or_same P k.var l.var ≡ o → ⊥
            at true s o y = lowers (inl (literal_eq-sound k l s))
            at false s false y = lowers (inr (inner-IsIn P l C k m y))
            at false s true y =
                none_of-true c A (outer P l C) e (
                  k,
                  IsIn-outer_in P l C k m (keep s y),
                  literal-same M N k (ap (λ o. value_of (or_input k.var o) A) (lowered_by-other q ks c k.var apart)) t,
                )
              where
                keep : literal_eq k l ≡ false → outer_or_same P k.var l.var ≡ true → keeps P l k ≡ true
                keep a b = grind arith

                apart : (j : Literal) → IsIn j ks → eqb k.var j.var ≡ false
                apart j n = see (eqb k.var j.var) refl n
                  where
                    see : (b : Bool) → eqb k.var j.var ≡ b → (j ≡ l) ⊎ IsIn j (inner P l C) → eqb k.var j.var ≡ false
                    see false z n = z
                    see true z (inl g) =
                        elim (one_of-two k l (subst (λ (i : Literal). eqb k.var i.var ≡ true) g z)) [
                          | inl d ↦ absurd (same (subst (λ i. literal_eq i l ≡ false) d s))
                          | inr d ↦ absurd (p.not_negated (subst (λ i. IsIn i C) d m))
                        ]
                      where
                        same : literal_eq l l ≡ false → ⊥
                        same r = grind arith
                    see true z (inr g) =
                        let i : IsIn j C × (outer_or_same P j.var l.var ≡ false) = IsIn-inner P l C j g in
                        let d : k.var ≡ j.var = equal k.var j.var z in
                        let r : outer_or_same P j.var l.var ≡ true =
                        subst (λ v. outer_or_same P v l.var ≡ true) d y in absurd (clash i.1 r)
                      where
                        equal : (a b : ℕ) → eqb a b ≡ true → a ≡ b
                        equal a b t = grind arith

                        clash : outer_or_same P j.var l.var ≡ false → outer_or_same P j.var l.var ≡ true → ⊥
                        clash a b = grind arith

        go : (b : Bool) → value_of q A ≡ b → MatrixFalse N (C ∷ Y)
        go true e = (C, inl refl, changed e)
        go false e = MatrixFalse-agree M N (C ∷ Y) (λ x. sym (lowered_by-idle q ks c A e x)) (kept e)

-- A clause with a literal and its negation is never false.
tautology-true : (A : Assignment) (C : Clause) → IsTautology C → ClauseTrue A C
tautology-true A C t = implied-true A [] C (implied-tautology [] C t) (λ D m. elim m [ ])

-- A tautology that loses a literal whose negation it does not hold is one still.
pub tautology-carries : (P : Prefix) (Y : Matrix) (C : Clause) (l : Literal) (c : Strategy) →
    IsPlainDrop P C l → IsTautology C → Herbrand P (without l C ∷ Y) c → Herbrand P (C ∷ Y) c
tautology-carries P Y C l c p (k, m, n) h =
    record { lawful = h.lawful; loses = λ A. first A (h.loses A) }
  where
    not_l : (j : Literal) → IsIn (negation j) C → literal_eq j l ≡ false
    not_l j i = go (literal_eq j l) refl
      where
        go : (b : Bool) → literal_eq j l ≡ b → literal_eq j l ≡ false
        go false e = e
        go true e = absurd (p.not_negated (subst (λ x. IsIn (negation x) C) (literal_eq-sound j l e) i))

    still : IsTautology (without l C)
    still = (
      k,
      IsIn-without l C k m (not_l k n),
      IsIn-without l C (negation k) n (not_l (negation k) (subst (λ x. IsIn x C) (sym (negation-negation k)) m)),
    )

    first : (A : Assignment) → MatrixFalse (outcome c A) (without l C ∷ Y) → MatrixFalse (outcome c A) (C ∷ Y)
    first A (D, inl s, f) =
        absurd (subst (λ D. ClauseTrue (outcome c A) D → ⊥) s f (tautology-true (outcome c A) (without l C) still))
    first A (D, inr i, f) = (D, inr i, f)
