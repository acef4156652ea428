-- Tautology, Unit, Cut, Pure, Subsumed, Strengthen and both blocked rules are runs; what makes each of their steps valid.
use Rattle.std.proofs.Common.{◌≡◌, ◌≤◌, ◌+◌, length, ◌≢◌, ℕ, Bool, true, false, cond, List, [], ◌∷◌, ◌++◌, ◌⊎◌, inl, inr, arith, refl, sym, subst, Some}
use Rattle.q_logic.specs.declared.rule_bounds.Bounds.{Bounds}
use Rattle.q_logic.specs.Prelude.{Literal, negation, literal_eq, Clause, Matrix, Prefix, IsIn, is_bound, is_existential, is_universal, Implied, keeps, outer, ExistsPivot, ForallPivot, without, Reducible, Reached, ProofStep, add, delete, drop_literal, with_literal, without_literal, each_without, IsTautology, OccursIn, formula_of, Slots, live, others, Target, tautology, unit, cut, pure, subsumed, strengthen, blocked, blocked_forall, Fits, change, assigned, head_of, shortened}
use Rattle.q_logic.specs.Blocking.{Clashes, AllClash}
use Rattle.q_logic.proofs.JustifiedRuns.{SameClauses, Reaches}
use Rattle.q_logic.proofs.ClauseLemmas.{literal_eq-sound, literal_eq-itself, IsIn-append_left, IsIn-append, IsIn-outer, IsIn-append_right}
use Rattle.q_logic.proofs.UniversalPivot.{IsIn-without, without-IsIn}
use Rattle.q_logic.proofs.PrefixOrder.{is_bound-universal}
use Rattle.q_logic.proofs.JustifiedRuns.{alike-refl, alike-trans, alike-sym, alike-cons, IsIn-alike, reaches-append, reaches-alike, reaches-end}
use Rattle.q_logic.proofs.ImpliedClauses.{implied-subsumed, implied-tautology, implied-hidden, implied-hidden_new}
use Rattle.q_logic.proofs.ChangeRuns.{deletes, replaces, drops, mapped, least, alike-turned, reaches-deletes, reaches-replaces, reaches-drops, reaches-delete, reaches-drop, reaches-replace}
use Rattle.q_logic.proofs.JoinedClauses.{without-shorter}
use Rattle.q_logic.proofs.Heights.{Way, one, weight, modest-append, modest-more, modest-delete, modest-deletes, modest-drops, modest-replaces, weight-mapped, weight-with, weight-without, weight-others, weight-slot}
use Rattle.q_logic.proofs.NumberedClauses.{slot-alike, live-slot, others-slot, with-alike, each_without-alike, IsIn-with, IsIn-without_literal, IsIn-each_without, without_literal-slot}

-- A blocked clause goes by its pivot.
pub blocked-pivot : (P : Prefix) (X : Matrix) (C : Clause) (l : Literal) → IsIn l C → is_existential P l.var ≡ true → AllClash P X l C → ExistsPivot P X C l
blocked-pivot P X C l m e h = record { existential_pivot = e; in_clause = m; implied = λ D i n. implied-tautology X (C ++ outer P (negation l) D) (both D (h D i n)) }
  where
    both : (D : Clause) → Clashes P l C D → IsTautology (C ++ outer P (negation l) D)
    both D (k, a, b) = (k, IsIn-append_right k C (outer P (negation l) D) a, IsIn-append_left (negation k) C (outer P (negation l) D) b)

-- The negation of a literal of an outer clause is not the pivot.
outer_not_pivot : (P : Prefix) (l k : Literal) (D : Clause) → IsIn k (outer P (negation l) D) → literal_eq (negation k) l ≡ false
outer_not_pivot P l k D m = let h : keeps P (negation l) k ≡ true = (IsIn-outer P (negation l) D k m).1 in go k.negative l.negative h
  where
    go : (a b : Bool) → keeps P (negation l) k ≡ true → literal_eq (negation k) l ≡ false
    go a b h = grind arith

pub blocked_forall-pivot : (P : Prefix) (X : Matrix) (C : Clause) (l : Literal) → IsIn l C → is_universal P l.var ≡ true → (IsIn (negation l) C → ⊥) → AllClash P X l C → ForallPivot P X C l
blocked_forall-pivot P X C l m e no_neg h = record { universal_pivot = e; in_clause = m; not_negated = no_neg; implied = λ D i n. implied-tautology X (without l C ++ outer P (negation l) D) (both D (h D i n)) }
  where
    both : (D : Clause) → Clashes P l C D → IsTautology (without l C ++ outer P (negation l) D)
    both D (k, a, b) = (k, IsIn-append_right k (without l C) (outer P (negation l) D) a, IsIn-append_left (negation k) (without l C) (outer P (negation l) D) (IsIn-without l C (negation k) b (outer_not_pivot P l k D a)))

-- Where no clause holds not l.
pub pure-pivot : (P : Prefix) (X : Matrix) (C : Clause) (l : Literal) → IsIn l C → is_existential P l.var ≡ true → ((D : Clause) → IsIn D X → IsIn (negation l) D → ⊥) → ExistsPivot P X C l
pure-pivot P X C l m e h = record { existential_pivot = e; in_clause = m; implied = λ D i n. absurd (h D i n) }

pub pure-reducible : (P : Prefix) (X : Matrix) (C : Clause) (l : Literal) → IsIn l C → is_universal P l.var ≡ true → ((D : Clause) → IsIn D X → IsIn (negation l) D → ⊥) → (IsIn (negation l) C → ⊥) → Reducible P X C l
pure-reducible P X C l m e h n = record { universal_literal = e; in_clause = m; no_negation = go }
  where
    go : (D : Clause) → Reached P X C l D → IsIn (negation l) D → ⊥
    go D Reached.first i = n i
    go D (Reached.next E k a b c d inX f r) i = h D inX i

abbrev pub Runs : ℕ → ℕ → Prefix → Slots → Target → Type 0
Runs c l P N t = Way c l (formula_of P (live N)) (change P N t)

pub tautology-run : (B : Bounds) (P : Prefix) (N : Slots) (c : ℕ) → Fits B P N (tautology c) → Runs 0 0 P N (tautology c)
tautology-run B P N c (C, e, h) = (delete (least C) C ∷ [], reaches-delete P (least C) C (others c N) (live N) (slot-alike N c C e) (inl (implied-tautology (others c N) C h)), modest-delete (least C) C)

pub subsumed-run : (B : Bounds) (P : Prefix) (N : Slots) (c d : ℕ) → Fits B P N (subsumed c d) → Runs 0 0 P N (subsumed c d)
subsumed-run B P N c d (C, D, n, e, f, w) = (delete (least D) D ∷ [], reaches-delete P (least D) D (others d N) (live N) (slot-alike N d D f) (inl (implied-subsumed (others d N) C D (others-slot N c d C n e) w)), modest-delete (least D) D)

pub blocked-run : (B : Bounds) (P : Prefix) (N : Slots) (c : ℕ) (l : Literal) → Fits B P N (blocked c l) → Runs 0 0 P N (blocked c l)
blocked-run B P N c l (C, e, m, q, h) = (delete (Some l) C ∷ [], reaches-delete P (Some l) C (others c N) (live N) (slot-alike N c C e) (inr (l, refl, blocked-pivot P (others c N) C l m q h)), modest-delete (Some l) C)

pub cut-run : (B : Bounds) (P : Prefix) (N : Slots) (c : ℕ) (l : Literal) → Fits B P N (cut c l) → Runs 0 0 P N (cut c l)
cut-run B P N c l (C, e, h) = (drop_literal l C ∷ [], subst (λ o. Reaches (formula_of P (live N)) (drop_literal l C ∷ []) (formula_of P (shortened l o (others c N)))) (sym e) (reaches-drop P l C (others c N) (live N) (slot-alike N c C e) (inr h)), modest-drops l (C ∷ []))

pub blocked_forall-run : (B : Bounds) (P : Prefix) (N : Slots) (c : ℕ) (l : Literal) → Fits B P N (blocked_forall c l) → Runs 0 0 P N (blocked_forall c l)
blocked_forall-run B P N c l (C, e, m, q, n, h) = (drop_literal l C ∷ [], subst (λ o. Reaches (formula_of P (live N)) (drop_literal l C ∷ []) (formula_of P (shortened l o (others c N)))) (sym e) (reaches-drop P l C (others c N) (live N) (slot-alike N c C e) (inl (blocked_forall-pivot P (others c N) C l m q n h))), modest-drops l (C ∷ []))

-- The clause C without not l, and D without l.
pub strengthened : (X : Matrix) (C D : Clause) (l : Literal) → IsIn C X → IsIn (negation l) C → ((k : Literal) → IsIn k C → k ≢ negation l → IsIn k D × (k ≢ l)) → Implied (D ∷ X) (without l D)
strengthened X C D l m n h = implied-hidden_new (D ∷ X) C (without l D) l (inr m) n rest (implied-subsumed (D ∷ X) D (l ∷ without l D) (inl refl) (λ k i. go k i (literal_eq k l) refl))
  where
    rest : (j : Literal) → IsIn j C → j ≢ negation l → IsIn j (without l D)
    rest j i ne = IsIn-without l D j (h j i ne).0 (other (literal_eq j l) refl)
      where
        other : (b : Bool) → literal_eq j l ≡ b → literal_eq j l ≡ false
        other true q = absurd ((h j i ne).1 (literal_eq-sound j l q))
        other false q = q

    go : (k : Literal) → IsIn k D → (b : Bool) → literal_eq k l ≡ b → (k ≡ l) ⊎ IsIn k (without l D)
    go k i true q = inl (literal_eq-sound k l q)
    go k i false q = inr (IsIn-without l D k i q)

pub strengthen-run : (B : Bounds) (P : Prefix) (N : Slots) (c d : ℕ) (l : Literal) → ((D : Clause) → IsIn D (live N) → (k : Literal) → IsIn k D → is_bound P k.var ≡ true) → Fits B P N (strengthen c d l) → Runs 1 (weight length (live N)) P N (strengthen c d l)
strengthen-run B P N c d l closed (C, D, n, e, f, inD, inC, h) = (
  add (least (without l D)) (without l D) ∷ delete (least D) D ∷ [],
  subst (λ o. Reaches (formula_of P (live N)) (add (least (without l D)) (without l D) ∷ delete (least D) D ∷ []) (formula_of P (shortened l o (others d N)))) (sym f)
      (reaches-replace P D (without l D) (others d N) (live N) (slot-alike N d D f) (λ k m. closed D (live-slot N d D f) k (without-IsIn l D k m))
      (strengthened (others d N) C D l (others-slot N c d C n e) inC h)
      (implied-subsumed (without l D ∷ others d N) (without l D) D (inl refl) (λ k m. without-IsIn l D k m))),
  modest-more 1 (length (without l D) + 0) 1 (weight length (live N)) (add (least (without l D)) (without l D) ∷ delete (least D) D ∷ []) (omega arith)
      (short (length (without l D)) (length D) (weight length (live N)) (without-shorter l D) (weight-slot length N d D f)) (modest-replaces (without l) (D ∷ [])),
)
  where
    short : (a b c : ℕ) → a ≤ b → b ≤ c → a + 0 ≤ c
    short a b c i j = omega arith

pure_existential-run : (P : Prefix) (X : Matrix) (l : Literal) → is_existential P l.var ≡ true → (OccursIn (negation l) X → ⊥) → Reaches (formula_of P X) (deletes (λ C. Some l) (with_literal l X)) (formula_of P (without_literal l X))
pure_existential-run P X l q h = reaches-alike P (with_literal l X ++ without_literal l X) X (deletes (λ C. Some l) (with_literal l X)) (formula_of P (without_literal l X)) (alike-sym X (with_literal l X ++ without_literal l X) (with-alike l X))
    (reaches-deletes P (λ C. Some l) (with_literal l X) (without_literal l X) (λ C m Z f g. inr (l, refl, pure-pivot P Z C l (IsIn-with l X C m).1 q (λ D i n. h (D, IsIn-alike (with_literal l X ++ without_literal l X) X (alike-sym X (with_literal l X ++ without_literal l X) (with-alike l X)) D (g D i), n)))))

pure_universal-run : (P : Prefix) (X : Matrix) (l : Literal) → is_universal P l.var ≡ true → (OccursIn (negation l) X → ⊥) → Reaches (formula_of P X) (drops l (with_literal l X)) (formula_of P (each_without l X))
pure_universal-run P X l q h = reaches-alike P (with_literal l X ++ without_literal l X) X (drops l (with_literal l X)) (formula_of P (each_without l X)) back
    (reaches-end P (mapped (without l) (with_literal l X) ++ without_literal l X) (each_without l X) (formula_of P (with_literal l X ++ without_literal l X)) (drops l (with_literal l X)) (each_without-alike l X)
    (reaches-drops P l (with_literal l X) (without_literal l X) (λ C m Z g. inr (pure-reducible P Z C l (IsIn-with l X C m).1 q (λ D i n. none D (g D i) n) (λ n. h (C, (IsIn-with l X C m).0, n))))))
  where
    back : SameClauses (with_literal l X ++ without_literal l X) X
    back = alike-sym X (with_literal l X ++ without_literal l X) (with-alike l X)

    none : (D : Clause) → IsIn D (mapped (without l) (with_literal l X) ++ (with_literal l X ++ without_literal l X)) → IsIn (negation l) D → ⊥
    none D i n = elim (IsIn-append D (mapped (without l) (with_literal l X)) (with_literal l X ++ without_literal l X) i) [
      | inl a ↦ let r : (E : Clause) × IsIn E (with_literal l X) × (D ≡ without l E) = IsIn-each_without l (with_literal l X) D a in h (r.0, (IsIn-with l X r.0 r.1).0, without-IsIn l r.0 (negation l) (subst (IsIn (negation l)) r.2 n))
      | inr b ↦ h (D, IsIn-alike (with_literal l X ++ without_literal l X) X back D b, n)
    ]

pub pure-run : (B : Bounds) (P : Prefix) (N : Slots) (l : Literal) → Fits B P N (pure l) → Runs 0 0 P N (pure l)
pure-run B P N l (b, o, h) = go (is_existential P l.var) refl
  where
    go : (q : Bool) → is_existential P l.var ≡ q → Way 0 0 (formula_of P (live N)) (formula_of P (cond q (without_literal l (live N)) (each_without l (live N))))
    go true q = (deletes (λ C. Some l) (with_literal l (live N)), pure_existential-run P (live N) l q h, modest-deletes (λ C. Some l) (with_literal l (live N)))
    go false q = (drops l (with_literal l (live N)), pure_universal-run P (live N) l (is_bound-universal P l.var b q) h, modest-drops l (with_literal l (live N)))

-- A clause of one literal.
abbrev pub unit_steps : Literal → Matrix → List ProofStep
unit_steps l X = deletes least (with_literal l X) ++ (replaces (without (negation l)) (with_literal (negation l) (without_literal l X)) ++ (delete (Some l) (l ∷ []) ∷ []))

each_without-free : (l : Literal) (X : Matrix) (D : Clause) → IsIn D (each_without l X) → IsIn l D → ⊥
each_without-free l [] D m i = elim m [ ]
each_without-free l (E ∷ X) D (inr m) i = each_without-free l X D m i
each_without-free l (E ∷ X) D (inl e) i = gone E (subst (IsIn l) e i)
  where
    gone : (C : Clause) → IsIn l (without l C) → ⊥
    gone [] m = elim m [ ]
    gone (k ∷ C) m = go (literal_eq k l) refl m (gone C)
      where
        go : (b : Bool) → literal_eq k l ≡ b → IsIn l (cond b (without l C) (k ∷ without l C)) → (IsIn l (without l C) → ⊥) → ⊥
        go true q n ih = ih n
        go false q (inl e) ih = let z : literal_eq k l ≡ true = subst (λ y. literal_eq y l ≡ true) e (literal_eq-itself l) in grind arith
        go false q (inr n) ih = ih n

unit_on : (P : Prefix) (X : Matrix) (l : Literal) → is_existential P l.var ≡ true → ((D : Clause) → IsIn D X → (k : Literal) → IsIn k D → is_bound P k.var ≡ true) → Reaches (formula_of P ((l ∷ []) ∷ X)) (unit_steps l X) (formula_of P (each_without (negation l) (without_literal l X)))
unit_on P X l q closed =
    reaches-append (formula_of P (U ∷ X)) (deletes least (with_literal l X)) (replaces (without (negation l)) (with_literal (negation l) W) ++ (delete (Some l) U ∷ [])) (formula_of P (U ∷ W)) (formula_of P E) first
    (reaches-append (formula_of P (U ∷ W)) (replaces (without (negation l)) (with_literal (negation l) W)) (delete (Some l) U ∷ []) (formula_of P (U ∷ E)) (formula_of P E) second third)
  where
    U : Clause
    U = l ∷ []

    W : Matrix
    W = without_literal l X

    E : Matrix
    E = each_without (negation l) (without_literal l X)

    first : Reaches (formula_of P (U ∷ X)) (deletes least (with_literal l X)) (formula_of P (U ∷ W))
    first = reaches-alike P (with_literal l X ++ (U ∷ W)) (U ∷ X) (deletes least (with_literal l X)) (formula_of P (U ∷ W))
        (alike-trans (with_literal l X ++ (U ∷ W)) (U ∷ (with_literal l X ++ W)) (U ∷ X) (alike-turned U (with_literal l X) W) (alike-cons U (with_literal l X ++ W) X (alike-sym X (with_literal l X ++ W) (with-alike l X))))
        (reaches-deletes P least (with_literal l X) (U ∷ W) (λ C m Z f g. inl (implied-subsumed Z U C (f U (inl refl)) (λ k i. elim i [ inl e ↦ subst (λ y. IsIn y C) (sym e) (IsIn-with l X C m).1 | inr n ↦ elim n [ ] ]))))

    inX : (C : Clause) → IsIn C (with_literal (negation l) W) → IsIn C X
    inX C m = (IsIn-without_literal l X C (IsIn-with (negation l) W C m).0).0

    second : Reaches (formula_of P (U ∷ W)) (replaces (without (negation l)) (with_literal (negation l) W)) (formula_of P (U ∷ E))
    second = reaches-alike P (with_literal (negation l) W ++ (U ∷ without_literal (negation l) W)) (U ∷ W) (replaces (without (negation l)) (with_literal (negation l) W)) (formula_of P (U ∷ E))
        (alike-trans (with_literal (negation l) W ++ (U ∷ without_literal (negation l) W)) (U ∷ (with_literal (negation l) W ++ without_literal (negation l) W)) (U ∷ W) (alike-turned U (with_literal (negation l) W) (without_literal (negation l) W)) (alike-cons U (with_literal (negation l) W ++ without_literal (negation l) W) W (alike-sym W (with_literal (negation l) W ++ without_literal (negation l) W) (with-alike (negation l) W))))
        (reaches-end P (mapped (without (negation l)) (with_literal (negation l) W) ++ (U ∷ without_literal (negation l) W)) (U ∷ E) (formula_of P (with_literal (negation l) W ++ (U ∷ without_literal (negation l) W))) (replaces (without (negation l)) (with_literal (negation l) W))
        (alike-trans (mapped (without (negation l)) (with_literal (negation l) W) ++ (U ∷ without_literal (negation l) W)) (U ∷ (mapped (without (negation l)) (with_literal (negation l) W) ++ without_literal (negation l) W)) (U ∷ E) (alike-turned U (mapped (without (negation l)) (with_literal (negation l) W)) (without_literal (negation l) W)) (alike-cons U (mapped (without (negation l)) (with_literal (negation l) W) ++ without_literal (negation l) W) E (each_without-alike (negation l) W)))
        (reaches-replaces P (without (negation l)) (with_literal (negation l) W) (U ∷ without_literal (negation l) W)
        (λ C m k i. closed C (inX C m) k (without-IsIn (negation l) C k i))
        (λ C m Z i f. shorter C Z i (f U (inl refl)))
        (λ C m Z i f. implied-subsumed Z (without (negation l) C) C i (λ k j. without-IsIn (negation l) C k j))))
      where
        shorter : (C : Clause) (Z : Matrix) → IsIn C Z → IsIn U Z → Implied Z (without (negation l) C)
        shorter C Z i u = implied-hidden Z U (without (negation l) C) l u (inl refl) (λ j n d. elim n [ inl e ↦ absurd (d e) | inr x ↦ elim x [ ] ])
            (implied-subsumed Z C (negation l ∷ without (negation l) C) i (λ k j. go k j (literal_eq k (negation l)) refl))
          where
            go : (k : Literal) → IsIn k C → (b : Bool) → literal_eq k (negation l) ≡ b → (k ≡ negation l) ⊎ IsIn k (without (negation l) C)
            go k j true e = inl (literal_eq-sound k (negation l) e)
            go k j false e = inr (IsIn-without (negation l) C k j e)

    third : Reaches (formula_of P (U ∷ E)) (delete (Some l) U ∷ []) (formula_of P E)
    third = reaches-delete P (Some l) U E (U ∷ E) (alike-refl (U ∷ E)) (inr (l, refl, pure-pivot P E U l (inl refl) q (λ D m i. each_without-free (negation l) W D m i)))

pub unit-run : (B : Bounds) (P : Prefix) (N : Slots) (c : ℕ) → ((D : Clause) → IsIn D (live N) → (k : Literal) → IsIn k D → is_bound P k.var ≡ true) → Fits B P N (unit c) → Runs (weight one (live N)) (weight length (live N)) P N (unit c)
unit-run B P N c closed (l, e, q) = (
  unit_steps l (others c N),
  subst (λ o. Reaches (formula_of P (live N)) (unit_steps l (others c N)) (formula_of P (assigned (head_of o) (live N)))) (sym e)
      (subst (λ X. Reaches (formula_of P (live N)) (unit_steps l (others c N)) (formula_of P (each_without (negation l) X))) (sym (without_literal-slot l N c (l ∷ []) (let z : literal_eq l l ≡ true = literal_eq-itself l in grind arith) e))
      (reaches-alike P ((l ∷ []) ∷ others c N) (live N) (unit_steps l (others c N)) (formula_of P (each_without (negation l) (without_literal l (others c N)))) back
      (unit_on P (others c N) l q (λ D m. closed D (IsIn-alike ((l ∷ []) ∷ others c N) (live N) back D (inr m)))))),
  modest-more (0 + (weight one (mapped (without (negation l)) W) + 0)) (0 + (weight length (mapped (without (negation l)) W) + 0)) (weight one (live N)) (weight length (live N)) (unit_steps l (others c N))
      (all (weight one (mapped (without (negation l)) W)) (weight one W) (weight one (without_literal l (others c N))) (weight one (others c N)) (weight one (live N))
      (weight-mapped one (without (negation l)) (λ C. omega arith) W) (weight-with one (negation l) (without_literal l (others c N))) (weight-without one l (others c N)) (weight-others one c N))
      (all (weight length (mapped (without (negation l)) W)) (weight length W) (weight length (without_literal l (others c N))) (weight length (others c N)) (weight length (live N))
      (weight-mapped length (without (negation l)) (without-shorter (negation l)) W) (weight-with length (negation l) (without_literal l (others c N))) (weight-without length l (others c N)) (weight-others length c N))
      (modest-append 0 0 (weight one (mapped (without (negation l)) W) + 0) (weight length (mapped (without (negation l)) W) + 0) (deletes least (with_literal l (others c N))) (replaces (without (negation l)) W ++ (delete (Some l) (l ∷ []) ∷ [])) (modest-deletes least (with_literal l (others c N)))
      (modest-append (weight one (mapped (without (negation l)) W)) (weight length (mapped (without (negation l)) W)) 0 0 (replaces (without (negation l)) W) (delete (Some l) (l ∷ []) ∷ []) (modest-replaces (without (negation l)) W) (modest-delete (Some l) (l ∷ [])))),
)
  where
    back : SameClauses ((l ∷ []) ∷ others c N) (live N)
    back = alike-sym (live N) ((l ∷ []) ∷ others c N) (slot-alike N c (l ∷ []) e)

    W : Matrix
    W = with_literal (negation l) (without_literal l (others c N))

    all : (a b c d e : ℕ) → a ≤ b → b ≤ c → c ≤ d → d ≤ e → 0 + (a + 0) ≤ e
    all a b c d e h i j k = omega arith
