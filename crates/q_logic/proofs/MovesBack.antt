-- Agreement is carried back.
use Rattle.std.proofs.Common.{◌≡◌, ◌≤◌, ℕ, Bool, true, false, cond, not, ◌&&◌, eqb, List, [], ◌∷◌, ◌++◌, ◌⊎◌, inl, inr, arith, refl, sym, ap, ap₂, ◌∙◌, subst, Option, Some, None}
use Rattle.q_logic.specs.Prelude.{Literal, negation, Prefix, Clause, IsIn, PrenexFormula, is_existential, is_bound, outer_or_same, IsFormula, Assignment, Circuit, constant, inverter, value_of, Strategy, circuit_of, or_input, given, outcome, Lawful, Implied, one_less, insert_after, removed_from, ProofStep, add, delete, drop_literal, fresh, remove_variable, FirstPivot, after, literal_circuit, some_of, all_of, raised, pivoted, UndoEntry, removed, with_circuit, Back, Entries, Undos}
use Rattle.q_logic.proofs.Justified.{Justified, JustifiedSteps, JustifiedRun}
use Rattle.q_logic.proofs.PrefixOrder.{existential-is_bound}
use Rattle.q_logic.proofs.Blocks.{lawful-same, Same-itself}
use Rattle.q_logic.proofs.MergeRun.{outer_or_same-is_bound}
use Rattle.q_logic.proofs.Pivot.{Near, outers-near}
use Rattle.q_logic.proofs.Outers.{outers-members}
use Rattle.q_logic.proofs.Prefixes.{insert-is_bound, removed-is_bound, removed-unbound}
use Rattle.q_logic.proofs.Runs.{at_or_other}
use Rattle.q_logic.proofs.Truth.{none_bound}
use Rattle.q_logic.proofs.Soundness.{after-formula, rebuilt-lawful, same_first, Back-append}
use Rattle.q_logic.specs.Moves.{turns, AgreeAt, Agree}
use Rattle.q_logic.proofs.PrefixRounds.{outer-turns, universal-turns, insert-turns, removed-turns, same-within}

-- They agree on all variables, universals too, behind at most n universal blocks.
abbrev pub Near_agree : Prefix → ℕ → Strategy → Strategy → Assignment → Type 0
Near_agree P n c d A = (x : ℕ) → is_bound P x ≡ true → turns true P x ≤ n → AgreeAt c d A x

-- Either no universal is looked at, or none has a circuit.
abbrev pub Quiet : Prefix → ℕ → Strategy → Strategy → Type 0
Quiet P n c d = (n ≡ 0) ⊎ (Lawful P c × Lawful P d)

without_circuit : (c d : Strategy) (A : Assignment) (x : ℕ) → given (c x) ≡ false → given (d x) ≡ false →
    AgreeAt c d A x
without_circuit c d A x e f = go (c x) (d x) e f
  where
    go : (o p : Option Circuit) → given o ≡ false → given p ≡ false →
        (given o ≡ given p) × (value_of (or_input x o) A ≡ value_of (or_input x p) A)
    go None None e f = (refl, refl)
    go (Some t) p e f = absurd (grind arith)
    go None (Some t) e f = absurd (grind arith)

pub widened : (P : Prefix) (n : ℕ) (c d : Strategy) (A : Assignment) → Quiet P n c d → Agree P n c d A →
    Near_agree P n c d A
widened P n c d A q h x b t = go (is_existential P x) refl
  where
    go : (e : Bool) → is_existential P x ≡ e → AgreeAt c d A x
    go true e = h x (e, t)
    go false e = elim q [
      | inl z ↦ (let y : 1 ≤ turns true P x = universal-turns P x b e in absurd (grind arith))
      | inr l ↦ without_circuit c d A x (l.0.trees x ∙ e) (l.1.trees x ∙ e)
    ]

-- The outer clauses have equal values.
literal-agree : (c d : Strategy) (A : Assignment) (k : Literal) → outcome c A k.var ≡ outcome d A k.var →
    value_of (literal_circuit c k) A ≡ value_of (literal_circuit d k) A
literal-agree c d A k e = go k.negative
  where
    go : (n : Bool) → value_of (cond n (inverter (circuit_of c k.var)) (circuit_of c k.var)) A ≡
        value_of (cond n (inverter (circuit_of d k.var)) (circuit_of d k.var)) A
    go true = ap not e
    go false = e

some-agree : (c d : Strategy) (A : Assignment) (O : Clause) →
    ((k : Literal) → IsIn k O → outcome c A k.var ≡ outcome d A k.var) →
    value_of (some_of c O) A ≡ value_of (some_of d O) A
some-agree c d A [] h = refl
some-agree c d A (k ∷ O) h =
    ap₂ (λ a b. not (not a && not b)) (literal-agree c d A k (h k (inl refl)))
    (some-agree c d A O (λ j i. h j (inr i)))

all-agree : (c d : Strategy) (A : Assignment) (Os : List Clause) →
    ((O : Clause) → IsIn O Os → (k : Literal) → IsIn k O → outcome c A k.var ≡ outcome d A k.var) →
    value_of (all_of c Os) A ≡ value_of (all_of d Os) A
all-agree c d A [] h = refl
all-agree c d A (O ∷ Os) h =
    ap₂ ◌&&◌ (some-agree c d A O (h O (inl refl))) (all-agree c d A Os (λ P i. h P (inr i)))

pub raised-agree : (n : Bool) (h i : Circuit) (A : Assignment) → value_of h A ≡ value_of i A → (x : ℕ)
    (o p : Option Circuit) → given o ≡ given p → value_of (or_input x o) A ≡ value_of (or_input x p) A →
    (given (raised n h o) ≡ given (raised n i p)) ×
    (value_of (or_input x (raised n h o)) A ≡ value_of (or_input x (raised n i p)) A)
raised-agree n h i A e x None None g v = (refl, refl)
raised-agree n h i A e x None (Some t) g v = absurd (grind arith)
raised-agree n h i A e x (Some t) None g v = absurd (grind arith)
raised-agree true h i A e x (Some t) (Some s) g v = (refl, ap₂ ◌&&◌ v (ap not e))
raised-agree false h i A e x (Some t) (Some s) g v = (refl, ap₂ (λ a b. not (not a && not b)) v e)

pivot-agree : (P : Prefix) (n : ℕ) (l : Literal) (Os : List Clause) (c d : Strategy) (A : Assignment) →
    is_existential P l.var ≡ true → Near P l.var Os → Near_agree P n c d A →
    Near_agree P n (pivoted l Os c) (pivoted l Os d) A
pivot-agree P n l Os c d A he near h x b t = go (eqb x l.var) refl (h x b t)
  where
    go : (z : Bool) → eqb x l.var ≡ z → AgreeAt c d A x →
        (given (cond z (raised l.negative (all_of c Os) (c x)) (c x)) ≡
        given (cond z (raised l.negative (all_of d Os) (d x)) (d x))) ×
        (value_of (or_input x (cond z (raised l.negative (all_of c Os) (c x)) (c x))) A ≡
        value_of (or_input x (cond z (raised l.negative (all_of d Os) (d x)) (d x))) A)
    go true q a =
        raised-agree l.negative (all_of c Os) (all_of d Os) A (all-agree c d A Os outer_ones) x (c x) (d x)
        a.0 a.1
      where
        s : x ≡ l.var
        s = grind arith

        outer_ones : (O : Clause) → IsIn O Os → (k : Literal) → IsIn k O →
            outcome c A k.var ≡ outcome d A k.var
        outer_ones O i k j =
            let o : outer_or_same P k.var l.var ≡ true = near O i k j in
            let m : turns true P k.var ≤ turns true P l.var = outer-turns true P k.var l.var o he in
            let u : turns true P l.var ≤ n = subst (λ y. turns true P y ≤ n) s t in
            (h k.var (outer_or_same-is_bound P k.var l.var o) (grind arith)).1
    go false q a = a

-- Another circuit at one variable.
other-agree : (v : ℕ) (o : Option Circuit) (c d : Strategy) (A : Assignment) (x : ℕ) → eqb x v ≡ false →
    AgreeAt c d A x → AgreeAt (with_circuit v o c) (with_circuit v o d) A x
other-agree v o c d A x q a = rw q a

same_circuit-agree : (v : ℕ) (o : Option Circuit) (c d : Strategy) (A : Assignment) →
    AgreeAt (with_circuit v o c) (with_circuit v o d) A v
same_circuit-agree v o c d A = let e : eqb v v ≡ true = grind arith in rw e (refl, refl)

fresh-agree : (P : Prefix) (n v w : ℕ) (c d : Strategy) (A : Assignment) → is_bound P v ≡ false →
    is_existential P w ≡ true → Near_agree (insert_after w v P) n c d A →
    Near_agree P n (with_circuit v None c) (with_circuit v None d) A
fresh-agree P n v w c d A nv hw h =
    at_or_other v (λ x. is_bound P x ≡ true → turns true P x ≤ n →
    AgreeAt (with_circuit v None c) (with_circuit v None d) A x) (λ b. absurd (grind arith))
    (λ x q b t. other-agree v None c d A x q (h x (insert-is_bound w v P x q ∙ b)
    (subst (λ m. m ≤ n) (sym (insert-turns true w v P x q hw)) t)))

removed-agree : (F : PrenexFormula) (n v : ℕ) (c d : Strategy) (A : Assignment) → IsFormula F →
    is_bound F.prefix v ≡ true → Quiet (removed_from v F.prefix) n c d →
    Near_agree (removed_from v F.prefix) n c d A →
    (b : Bool) → is_existential F.prefix v ≡ b →
    Near_agree F.prefix n (Back (cond b (removed v ∷ []) []) c) (Back (cond b (removed v ∷ []) []) d) A
removed-agree F n v c d A f bv q h = go
  where
    P : Prefix
    P = F.prefix

    old : (x : ℕ) → eqb x v ≡ false → is_bound P x ≡ true → turns true P x ≤ n → AgreeAt c d A x
    old x e b t =
        let m : turns true (removed_from v P) x ≤ turns true P x = removed-turns true v P x e in
        h x (removed-is_bound v P x e ∙ b) (grind arith)

    unbound : is_existential (removed_from v P) v ≡ false
    unbound = none_bound (removed_from v P) v (removed-unbound v P f.distinct)

    go : (b : Bool) → is_existential P v ≡ b →
        Near_agree P n (Back (cond b (removed v ∷ []) []) c) (Back (cond b (removed v ∷ []) []) d) A
    go true e =
        at_or_other v (λ x. is_bound P x ≡ true → turns true P x ≤ n →
        AgreeAt (with_circuit v (Some (constant false)) c) (with_circuit v (Some (constant false)) d) A x)
        (λ b t. same_circuit-agree v (Some (constant false)) c d A)
        (λ x z b t. other-agree v (Some (constant false)) c d A x z (old x z b t))
    go false e =
        at_or_other v (λ x. is_bound P x ≡ true → turns true P x ≤ n → AgreeAt c d A x) itself old
      where
        itself : is_bound P v ≡ true → turns true P v ≤ n → AgreeAt c d A v
        itself b t = elim q [
          | inl z ↦ (let y : 1 ≤ turns true P v = universal-turns P v b e in absurd (grind arith))
          | inr l ↦ without_circuit c d A v (l.0.trees v ∙ unbound) (l.1.trees v ∙ unbound)
        ]

step-agree : (F : PrenexFormula) (s : ProofStep) (us : List UndoEntry) (n : ℕ) (c d : Strategy)
    (A : Assignment) → IsFormula F → Justified F s → Entries F s us → Quiet (after F s).prefix n c d →
    Near_agree (after F s).prefix n c d A → Near_agree F.prefix n (Back us c) (Back us d) A
step-agree F (add p C) us n c d A f v e q h =
    subst (λ us. Near_agree F.prefix n (Back us c) (Back us d) A) (sym e) h
step-agree F (delete p C) us n c d A f v (inl e) q h =
    subst (λ us. Near_agree F.prefix n (Back us c) (Back us d) A) (sym e.1) h
step-agree F (delete p C) us n c d A f v (inr (z, (l, Os, is, os, e))) q h =
    subst (λ us. Near_agree F.prefix n (Back us c) (Back us d) A) (sym e) (go v.1)
  where
    go : Implied (one_less C F.matrix) C ⊎ FirstPivot F.prefix (one_less C F.matrix) C p →
        Near_agree F.prefix n (pivoted l Os c) (pivoted l Os d) A
    go (inl i) = absurd (z i)
    go (inr (m, is1, pv)) =
        pivot-agree F.prefix n l Os c d A (subst (λ k. is_existential F.prefix k.var ≡ true)
        (same_first p m l is1 is) pv.existential_pivot)
        (outers-near F.prefix (one_less C F.matrix) (negation l) Os
        (outers-members F.prefix (one_less C F.matrix) (negation l) Os os)) h
step-agree F (drop_literal l C) us n c d A f v e q h =
    subst (λ us. Near_agree F.prefix n (Back us c) (Back us d) A) (sym e) h
step-agree F (fresh v w) us n c d A f j e q h =
    subst (λ us. Near_agree F.prefix n (Back us c) (Back us d) A) (sym e)
    (fresh-agree F.prefix n v w c d A j.0 j.1 h)
step-agree F (remove_variable v) us n c d A f j e q h =
    subst (λ us. Near_agree F.prefix n (Back us c) (Back us d) A) (sym e)
    (removed-agree F n v c d A f j.0 q h (is_existential F.prefix v) refl)

-- Lawful ones stay lawful on the way back.
quiet_back : (F : PrenexFormula) (ss : List ProofStep) (E : PrenexFormula) (us : List UndoEntry) (n : ℕ)
    (c d : Strategy) → IsFormula F → JustifiedSteps F ss E → Undos F ss us → Quiet E.prefix n c d →
    Quiet F.prefix n (Back us c) (Back us d)
quiet_back F ss E us n c d f r u (inl z) = inl z
quiet_back F ss E us n c d f r u (inr l) = inr (kept c l.0, kept d l.1)
  where
    kept : (k : Strategy) → Lawful E.prefix k → Lawful F.prefix (Back us k)
    kept k =
        rebuilt-lawful F ss E us k f (record { last = E; steps = r; same = Same-itself E }) u

steps-agree : (F : PrenexFormula) (ss : List ProofStep) (E : PrenexFormula) (us : List UndoEntry) (n : ℕ)
    (c d : Strategy) (A : Assignment) → IsFormula F → JustifiedSteps F ss E → Undos F ss us →
    Quiet E.prefix n c d → Near_agree E.prefix n c d A → Near_agree F.prefix n (Back us c) (Back us d) A
steps-agree F [] E us n c d A f r u q h =
    subst (λ us. Near_agree F.prefix n (Back us c) (Back us d) A) (sym u)
    (subst (λ (G : PrenexFormula). Near_agree G.prefix n c d A) (sym r) h)
steps-agree F (s ∷ ss) E us n c d A f r (es, rest, e, u, is) q h =
    subst (λ us. Near_agree F.prefix n (Back us c) (Back us d) A) (sym is)
    (subst (λ k. Near_agree F.prefix n k (Back (es ++ rest) d) A) (sym (Back-append es rest c))
    (subst (λ k. Near_agree F.prefix n (Back es (Back rest c)) k A) (sym (Back-append es rest d))
    (step-agree F s es n (Back rest c) (Back rest d) A f r.0 e
    (quiet_back (after F s) ss E rest n c d (after-formula F s f r.0) r.1 u q)
    (steps-agree (after F s) ss E rest n c d A (after-formula F s f r.0) r.1 u q h))))

pub run-agree : (F : PrenexFormula) (ss : List ProofStep) (G : PrenexFormula) (us : List UndoEntry) (n : ℕ)
    (c d : Strategy) (A : Assignment) → IsFormula F → JustifiedRun F ss G → Undos F ss us →
    Quiet G.prefix n c d → Agree G.prefix n c d A → Agree F.prefix n (Back us c) (Back us d) A
run-agree F ss G us n c d A f r u q h x w =
    steps-agree F ss E us n c d A f r.steps u there
    (widened E.prefix n c d A there (λ y i. h y (same-within E G n y r.same i))) x
    (existential-is_bound F.prefix x w.0) w.1
  where
    E : PrenexFormula
    E = r.last

    there : Quiet E.prefix n c d
    there = elim q [
      | inl z ↦ inl z
      | inr l ↦ inr (lawful-same E G c r.same l.0, lawful-same E G d r.same l.1)
    ]
