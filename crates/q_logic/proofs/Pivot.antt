-- An existential pivot keeps Skolem functions.
use Rattle.std.proofs.Common.{◌≡◌, ℕ, Bool, true, false, cond, eqb, List, ◌∷◌, ◌++◌, ◌⊎◌, inl, inr, arith, refl, sym, ap, ◌∙◌, subst, Option, Some, None}
use Rattle.q_logic.specs.Prelude.{Literal, negation, literal_eq, Prefix, Clause, Matrix, IsIn, is_existential, universal_before, outer_or_same, Circuit, value_of, Reads, keeps, outer, ExistsPivot, raised, all_of, pivoted}
use Rattle.q_logic.specs.Truth.{Assignment, LiteralTrue, ClauseTrue, MatrixTrue, signed}
use Rattle.q_logic.specs.Skolems.{Strategy, circuit_of, or_input, given, outcome, Skolem, Lawful}
use Rattle.q_logic.proofs.ClauseLemmas.{literal_eq-sound, IsIn-append, IsIn-outer, all_of-true, all_of-false, Reads-all_of, circuit_of-none}
use Rattle.q_logic.proofs.PrefixOrder.{outer_or_same-is_bound, outer_universal-before, outer_existential-before}
use Rattle.q_logic.proofs.Propagation.{implied-true}

-- Clauses of literals outer or same to v.
abbrev pub Near : Prefix → ℕ → List Clause → Type 0
Near P v Os = (O : Clause) → IsIn O Os → (k : Literal) → IsIn k O → outer_or_same P k.var v ≡ true

-- The list has the outer clauses of the clauses that hold m, and no other ones.
pub record AreOuters (P : Prefix) (X : Matrix) (m : Literal) (Os : List Clause) : Type 0 where
  pub all_there : (D : Clause) → IsIn D X → IsIn m D → IsIn (outer P m D) Os
  pub no_other : (O : Clause) → IsIn O Os → (D : Clause) × IsIn D X × IsIn m D × (O ≡ outer P m D)

pub outers-near : (P : Prefix) (X : Matrix) (m : Literal) (Os : List Clause) → AreOuters P X m Os →
    Near P m.var Os
outers-near P X m Os os O inOs k inO =
    let d : (D : Clause) × IsIn D X × IsIn m D × (O ≡ outer P m D) = os.no_other O inOs in
    let z : keeps P m k ≡ true = (IsIn-outer P m d.0 k (subst (IsIn k) d.3 inO)).1 in
    grind arith

-- What their tree reads stands before v.
pub outers-before : (P : Prefix) (v : ℕ) (Os : List Clause) (c : Strategy) → is_existential P v ≡ true →
    Near P v Os → Lawful P c → (u : ℕ) → Reads (all_of c Os) u → universal_before P u v ≡ true
outers-before P v Os c he near sk u r = go (Reads-all_of c Os u r)
  where
    literal : (k : Literal) → outer_or_same P k.var v ≡ true → Reads (circuit_of c k.var) u →
        universal_before P u v ≡ true
    literal k o q = choose (is_existential P k.var) refl
      where
        choose : (b : Bool) → is_existential P k.var ≡ b → universal_before P u v ≡ true
        choose true e = outer_existential-before P k.var v u o e he (sk.reads k.var e u q)
        choose false e =
            let s : k.var ≡ u = subst (λ t. Reads t u) (circuit_of-none c k.var (sk.trees k.var ∙ e)) q in
            subst (λ w. universal_before P w v ≡ true) s
            (outer_universal-before P k.var v o (outer_or_same-is_bound P k.var v o e) he)

    go : (O : Clause) × IsIn O Os × (k : Literal) × IsIn k O × Reads (circuit_of c k.var) u →
        universal_before P u v ≡ true
    go (O, inOs, k, inO, q) = literal k (near O inOs k inO) q

pub play-other : (l : Literal) (Os : List Clause) (c : Strategy) (A : Assignment) (x : ℕ) →
    eqb x l.var ≡ false → outcome (pivoted l Os c) A x ≡ outcome c A x
play-other l Os c A x e = rw e refl

pub play-false : (l : Literal) (Os : List Clause) (c : Strategy) (A : Assignment) →
    value_of (all_of c Os) A ≡ false → (x : ℕ) → outcome (pivoted l Os c) A x ≡ outcome c A x
play-false l Os c A h x = go (eqb x l.var) l.negative (c x)
  where
    go : (b n : Bool) (o : Option Circuit) → value_of (or_input x (cond b (raised n (all_of c Os) o) o)) A ≡
        value_of (or_input x o) A
    go true true (Some t) = grind arith
    go true false (Some t) = grind arith
    go b n None =
        elim b as (λ b. value_of (or_input x (cond b None None)) A ≡ value_of (or_input x None) A)
        [ true ↦ refl | false ↦ refl ]
    go false n o = refl

pub play-pivot : (l : Literal) (Os : List Clause) (c : Strategy) (A : Assignment) → given (c l.var) ≡ true →
    (value_of (all_of c Os) A ≡ true) ⊎ LiteralTrue (outcome c A) l →
    LiteralTrue (outcome (pivoted l Os c) A) l
play-pivot l Os c A e h = go (eqb l.var l.var) l.negative (c l.var) (grind arith) e h
  where
    go : (b n : Bool) (o : Option Circuit) → b ≡ true → given o ≡ true →
        (value_of (all_of c Os) A ≡ true) ⊎ (signed n (value_of (or_input l.var o) A) ≡ true) →
        signed n (value_of (or_input l.var (cond b (raised n (all_of c Os) o) o)) A) ≡ true
    go true true (Some t) p q r = grind arith
    go true false (Some t) p q r = grind arith
    go b n None p q r = grind arith
    go false n o p q r = grind arith

pub pivot-lawful : (P : Prefix) (l : Literal) (Os : List Clause) (c : Strategy) →
    is_existential P l.var ≡ true → Near P l.var Os → Lawful P c → Lawful P (pivoted l Os c)
pivot-lawful P l Os c he near sk = record { trees = trees; reads = reading }
  where
    reading : (x : ℕ) → is_existential P x ≡ true → (u : ℕ) → Reads (circuit_of (pivoted l Os c) x) u →
        universal_before P u x ≡ true
    reading x e u r = go (eqb x l.var) refl l.negative (c x) (sk.reads x e u) r
      where
        at_pivot : eqb x l.var ≡ true → Reads (all_of c Os) u → universal_before P u x ≡ true
        at_pivot q a = let s : x ≡ l.var = grind arith in rw s (outers-before P l.var Os c he near sk u a)

        go : (b : Bool) → eqb x l.var ≡ b → (n : Bool) (o : Option Circuit) →
            (Reads (or_input x o) u → universal_before P u x ≡ true) →
            Reads (or_input x (cond b (raised n (all_of c Os) o) o)) u → universal_before P u x ≡ true
        go true q true (Some t) old (inl a) = old a
        go true q true (Some t) old (inr a) = at_pivot q a
        go true q false (Some t) old (inl a) = old a
        go true q false (Some t) old (inr a) = at_pivot q a
        go true q n None old a = old a
        go false q n o old a = old a

    trees : (x : ℕ) → given (pivoted l Os c x) ≡ is_existential P x
    trees x = go (eqb x l.var) (c x) (sk.trees x)
      where
        go : (b : Bool) (o : Option Circuit) → given o ≡ is_existential P x →
            given (cond b (raised l.negative (all_of c Os) o) o) ≡ is_existential P x
        go true None h = h
        go true (Some t) h = h
        go false o h = h

pub pivot-keeps : (P : Prefix) (X : Matrix) (C : Clause) (l : Literal) (Os : List Clause) (c : Strategy) →
    ExistsPivot P X C l → AreOuters P X (negation l) Os → Skolem P X c → Skolem P (C ∷ X) (pivoted l Os c)
pivot-keeps P X C l Os c pv os sk =
    record {
      lawful = pivot-lawful P l Os c pv.existential_pivot
          (outers-near P X (negation l) Os os) sk.lawful;
      wins = winning;
    }
  where
    kept : (A : Assignment) (k : Literal) → literal_eq k (negation l) ≡ false →
        LiteralTrue (outcome c A) k → LiteralTrue (outcome (pivoted l Os c) A) k
    kept A k differ h = choose (eqb k.var l.var) refl
      where
        choose : (b : Bool) → eqb k.var l.var ≡ b → LiteralTrue (outcome (pivoted l Os c) A) k
        choose false q = ap (signed k.negative) (play-other l Os c A k.var q) ∙ h
        choose true q =
            let s : l ≡ k = sym (literal_eq-sound k l (grind arith)) in
            subst (LiteralTrue (outcome (pivoted l Os c) A)) s
            (play-pivot l Os c A (sk.trees l.var ∙
            pv.existential_pivot) (inr (subst (LiteralTrue (outcome c A)) (sym s) h)))

    same : (A : Assignment) → value_of (all_of c Os) A ≡ false → (S : Clause) → ClauseTrue (outcome c A) S →
        ClauseTrue (outcome (pivoted l Os c) A) S
    same A h S (k, m, t) = (k, m, ap (signed k.negative) (play-false l Os c A h k.var) ∙ t)

    winning : (A : Assignment) → MatrixTrue (outcome (pivoted l Os c) A) (C ∷ X)
    winning A = go (value_of (all_of c Os) A) refl
      where
        by_outer : (h : value_of (all_of c Os) A ≡ true) (D : Clause) → IsIn D X → IsIn (negation l) D →
            ClauseTrue (outcome (pivoted l Os c) A) D
        by_outer h D inX inD =
            let w : ClauseTrue (outcome c A) (outer P (negation l) D) =
            all_of-true c A Os h (outer P (negation l) D) (os.all_there D inX inD) in
            let o : IsIn w.0 D × (keeps P (negation l) w.0 ≡ true) = IsIn-outer P (negation l) D w.0 w.1 in
            (w.0, o.0, kept A w.0 (grind arith) w.2)

        old : (h : value_of (all_of c Os) A ≡ true) (D : Clause) → IsIn D X → ClauseTrue (outcome c A) D →
            ClauseTrue (outcome (pivoted l Os c) A) D
        old h D inX (k, m, t) = choose (literal_eq k (negation l)) refl
          where
            choose : (b : Bool) → literal_eq k (negation l) ≡ b → ClauseTrue (outcome (pivoted l Os c) A) D
            choose true q = by_outer h D inX (subst (λ j. IsIn j D) (literal_eq-sound k (negation l) q) m)
            choose false q = (k, m, kept A k q t)

        added : (h : value_of (all_of c Os) A ≡ false) → ClauseTrue (outcome c A) C
        added h =
            let o : (O : Clause) × IsIn O Os × (ClauseTrue (outcome c A) O → ⊥) = all_of-false c A Os h in
            let d : (D : Clause) × IsIn D X × IsIn (negation l) D × (o.0 ≡ outer P (negation l) D) =
            os.no_other o.0 o.1 in
            let w : ClauseTrue (outcome c A) (C ++ outer P (negation l) d.0) =
            implied-true (outcome c A) X (C ++ outer P (negation l) d.0) (pv.implied d.0 d.1 d.2)
            (sk.wins A) in
            elim (IsIn-append w.0 C (outer P (negation l) d.0) w.1) [
              | inl m ↦ (w.0, m, w.2)
              | inr m ↦ absurd (o.2 (w.0, subst (IsIn w.0) (sym d.3) m, w.2))
            ]

        go : (h : Bool) → value_of (all_of c Os) A ≡ h → MatrixTrue (outcome (pivoted l Os c) A) (C ∷ X)
        go true h D (inl s) =
            subst (ClauseTrue (outcome (pivoted l Os c) A)) (sym s)
            (l, pv.in_clause, play-pivot l Os c A (sk.trees l.var ∙ pv.existential_pivot) (inl h))
        go true h D (inr m) = old h D m (sk.wins A D m)
        go false h D (inl s) =
            subst (ClauseTrue (outcome (pivoted l Os c) A)) (sym s) (same A h C (added h))
        go false h D (inr m) = same A h D (sk.wins A D m)
