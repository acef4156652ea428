-- The plain programs decide the conditions of most targets.
use Rattle.std.proofs.Common.{◌≡◌, ◌≢◌, ◌↔◌, ◌≤◌, ℕ, ◌+◌, Bool, true, false, ◌||◌, ◌&&◌, not, eqb, [], ◌∷◌, ◌⊎◌, inl, inr, arith, refl, sym, ap, ◌∙◌, subst, Option, Some, None, length}
use Rattle.std.proofs.lemmas.Bool.{and_from}
use Rattle.q_logic.specs.Prelude.{positive, occurs, Literal, negation, literal_eq, Clause, Matrix, Prefix, IsIn, is_existential, is_universal, is_bound, outer_or_same, outer, Slots, slot, live, others, tautology, unit, pure, subsumed, strengthen, blocked, blocked_forall, eliminate, expand_universal, size_of, Fits}
use Rattle.q_logic.specs.declared.rule_bounds.Bounds.{Bounds}
use Rattle.q_logic.specs.Sets.{has, is_tautology, IsTautology, IsSubset, OccursIn, at_most, all_in, literal_occurs, negated_in}
use Rattle.q_logic.specs.Blocking.{Clashes, AllClash, clashes, all_clash}
use Rattle.q_logic.specs.Eliminating.{AllOuter, resolvents, clauses_of, all_outer, outer_side, no_tautology}
use Rattle.q_logic.specs.Expanding.{expansion_vars, touched_neither, no_both}
use Rattle.q_logic.specs.Deciding.{fits}
use Rattle.q_logic.specs.Rule.{if_some}
use Rattle.q_logic.specs.Rules.Unit.{is_unit}
use Rattle.q_logic.specs.Rules.Strengthen.{strengthens}
use Rattle.q_logic.proofs.ClauseLemmas.{literal_eq-sound, literal_eq-itself, has-IsIn, IsIn-has}
use Rattle.q_logic.proofs.JoinedClauses.{is_tautology-sound}
use Rattle.q_logic.proofs.Measures.{occurs_var-find, occurs_var-IsIn}
use Rattle.q_logic.proofs.MeasureFalls.{var_is}

pub and-parts : (a b : Bool) → (a && b) ≡ true → (a ≡ true) × (b ≡ true)
and-parts true b h = (refl, h)
and-parts false b h = grind arith

pub or-parts : (a b : Bool) → (a || b) ≡ true → (a ≡ true) ⊎ (b ≡ true)
or-parts true b h = inl refl
or-parts false b h = inr h

pub or-either : (a b : Bool) → (a ≡ true) ⊎ (b ≡ true) → (a || b) ≡ true
or-either true b h = refl
or-either false b (inl h) = grind arith
or-either false b (inr h) = h

pub not-parts : (a : Bool) → not a ≡ true → a ≡ true → ⊥
not-parts true h k = grind arith
not-parts false h k = grind arith

pub not-both : (a : Bool) → (a ≡ true → ⊥) → not a ≡ true
not-both true h = absurd (h refl)
not-both false h = refl

pub if_some-is : (f : Clause → Bool) (o : Option Clause) → if_some f o ≡ true → (C : Clause) × (o ≡ Some C) × (f C ≡ true)
if_some-is f None h = grind arith
if_some-is f (Some C) h = (C, refl, h)

pub is-if_some : (f : Clause → Bool) (o : Option Clause) (C : Clause) → o ≡ Some C → f C ≡ true → if_some f o ≡ true
is-if_some f o C e h = subst (λ p. if_some f p ≡ true) (sym e) h

pub is_tautology-whole : (C : Clause) → IsTautology C → is_tautology C ≡ true
is_tautology-whole [] t = elim t.1 [ ]
is_tautology-whole (j ∷ C) (k, inl e, inl f) = absurd (no k (e ∙ sym f))
  where
    no : (k : Literal) → k ≡ negation k → ⊥
    no k e = let z : literal_eq k k ≡ true = literal_eq-itself k in let y : literal_eq k (negation k) ≡ true = subst (λ x. literal_eq k x ≡ true) e z in let w : literal_eq k (negation k) ≡ false = Rattle.q_logic.proofs.ClauseLemmas.literal_eq-negation k in grind arith
is_tautology-whole (j ∷ C) (k, inl e, inr n) = or-either (has (negation j) C) (is_tautology C) (inl (IsIn-has (negation j) C (subst (λ y. IsIn (negation y) C) e n)))
is_tautology-whole (j ∷ C) (k, inr m, inl f) = or-either (has (negation j) C) (is_tautology C) (inl (IsIn-has (negation j) C (subst (λ y. IsIn y C) (sym (Rattle.q_logic.proofs.ImpliedClauses.negation-negation k) ∙ ap negation f) m)))
is_tautology-whole (j ∷ C) (k, inr m, inr n) = or-either (has (negation j) C) (is_tautology C) (inr (is_tautology-whole C (k, m, n)))

all_in-is : (C D : Clause) → all_in C D ≡ true → IsSubset C D
all_in-is [] D h k m = elim m [ ]
all_in-is (j ∷ C) D h k (inl e) = subst (λ y. IsIn y D) (sym e) (has-IsIn j D (and-parts (has j D) (all_in C D) h).0)
all_in-is (j ∷ C) D h k (inr m) = all_in-is C D (and-parts (has j D) (all_in C D) h).1 k m

is-all_in : (C D : Clause) → IsSubset C D → all_in C D ≡ true
is-all_in [] D w = refl
is-all_in (j ∷ C) D w = and_from (has j D) (all_in C D) (IsIn-has j D (w j (inl refl))) (is-all_in C D (λ k m. w k (inr m)))

occurs_literal-is : (l : Literal) (X : Matrix) → literal_occurs l X ≡ true → OccursIn l X
occurs_literal-is l [] h = grind arith
occurs_literal-is l (D ∷ X) h = elim (or-parts (has l D) (literal_occurs l X) h) [ inl a ↦ (D, inl refl, has-IsIn l D a) | inr b ↦ let r : OccursIn l X = occurs_literal-is l X b in (r.0, inr r.1, r.2) ]

is-occurs_literal : (l : Literal) (X : Matrix) → OccursIn l X → literal_occurs l X ≡ true
is-occurs_literal l [] o = elim o.1 [ ]
is-occurs_literal l (E ∷ X) (D, inl e, i) = or-either (has l E) (literal_occurs l X) (inl (IsIn-has l E (subst (IsIn l) e i)))
is-occurs_literal l (E ∷ X) (D, inr m, i) = or-either (has l E) (literal_occurs l X) (inr (is-occurs_literal l X (D, m, i)))

pub negated_in-is : (O S : Clause) → negated_in O S ≡ true → (k : Literal) × IsIn k O × IsIn (negation k) S
negated_in-is [] S h = grind arith
negated_in-is (j ∷ O) S h = elim (or-parts (has (negation j) S) (negated_in O S) h) [ inl a ↦ (j, inl refl, has-IsIn (negation j) S a) | inr b ↦ let r : (k : Literal) × IsIn k O × IsIn (negation k) S = negated_in-is O S b in (r.0, inr r.1, r.2) ]

pub is-negated_in : (O S : Clause) → ((k : Literal) × IsIn k O × IsIn (negation k) S) → negated_in O S ≡ true
is-negated_in [] S r = elim r.1 [ ]
is-negated_in (j ∷ O) S (k, inl e, m) = or-either (has (negation j) S) (negated_in O S) (inl (IsIn-has (negation j) S (subst (λ y. IsIn (negation y) S) e m)))
is-negated_in (j ∷ O) S (k, inr n, m) = or-either (has (negation j) S) (negated_in O S) (inr (is-negated_in O S (k, n, m)))

all_clash-is : (P : Prefix) (X : Matrix) (l : Literal) (S : Clause) → all_clash P X l S ≡ true → AllClash P X l S
all_clash-is P [] l S h D m n = elim m [ ]
all_clash-is P (E ∷ X) l S h D (inr m) n = all_clash-is P X l S (and-parts (not (has (negation l) E) || clashes P l S E) (all_clash P X l S) h).1 D m n
all_clash-is P (E ∷ X) l S h D (inl e) n = subst (Clashes P l S) (sym e) (elim (or-parts (not (has (negation l) E)) (clashes P l S E) (and-parts (not (has (negation l) E) || clashes P l S E) (all_clash P X l S) h).0)
    [ inl a ↦ absurd (not-parts (has (negation l) E) a (IsIn-has (negation l) E (subst (IsIn (negation l)) e n))) | inr b ↦ negated_in-is (outer P (negation l) E) S b ])

is-all_clash : (P : Prefix) (X : Matrix) (l : Literal) (S : Clause) → AllClash P X l S → all_clash P X l S ≡ true
is-all_clash P [] l S h = refl
is-all_clash P (E ∷ X) l S h = and_from (not (has (negation l) E) || clashes P l S E) (all_clash P X l S) (go (has (negation l) E) refl) (is-all_clash P X l S (λ D m. h D (inr m)))
  where
    go : (b : Bool) → has (negation l) E ≡ b → (not b || clashes P l S E) ≡ true
    go false q = refl
    go true q = is-negated_in (outer P (negation l) E) S (h E (inl refl) (has-IsIn (negation l) E q))

strengthens-is : (l : Literal) (C D : Clause) → strengthens l C D ≡ true → (k : Literal) → IsIn k C → k ≢ negation l → IsIn k D × (k ≢ l)
strengthens-is l [] D h k m n = elim m [ ]
strengthens-is l (j ∷ C) D h k (inr m) n = strengthens-is l C D (and-parts (literal_eq j (negation l) || (has j D && not (literal_eq j l))) (strengthens l C D) h).1 k m n
strengthens-is l (j ∷ C) D h k (inl e) n = elim (or-parts (literal_eq j (negation l)) (has j D && not (literal_eq j l)) (and-parts (literal_eq j (negation l) || (has j D && not (literal_eq j l))) (strengthens l C D) h).0) [
  | inl a ↦ absurd (n (e ∙ literal_eq-sound j (negation l) a))
  | inr b ↦ let r : (has j D ≡ true) × (not (literal_eq j l) ≡ true) = and-parts (has j D) (not (literal_eq j l)) b in
      (subst (λ y. IsIn y D) (sym e) (has-IsIn j D r.0), λ f. not-parts (literal_eq j l) r.1 (subst (λ y. literal_eq y l ≡ true) (sym f ∙ e) (literal_eq-itself l)))
]

is-strengthens : (l : Literal) (C D : Clause) → ((k : Literal) → IsIn k C → k ≢ negation l → IsIn k D × (k ≢ l)) → strengthens l C D ≡ true
is-strengthens l [] D h = refl
is-strengthens l (j ∷ C) D h = and_from (literal_eq j (negation l) || (has j D && not (literal_eq j l))) (strengthens l C D) (go (literal_eq j (negation l)) refl) (is-strengthens l C D (λ k m. h k (inr m)))
  where
    go : (b : Bool) → literal_eq j (negation l) ≡ b → (b || (has j D && not (literal_eq j l))) ≡ true
    go true q = refl
    go false q = let r : IsIn j D × (j ≢ l) = h j (inl refl) (λ e. let z : literal_eq j (negation l) ≡ true = subst (λ y. literal_eq y (negation l) ≡ true) (sym e) (literal_eq-itself (negation l)) in grind arith) in
        and_from (has j D) (not (literal_eq j l)) (IsIn-has j D r.0) (not-both (literal_eq j l) (λ e. r.1 (literal_eq-sound j l e)))

differ-is : (c d : ℕ) → not (eqb c d) ≡ true → c ≢ d
differ-is c d h e = let z : eqb c d ≡ true = grind arith in not-parts (eqb c d) h z

is-differ : (c d : ℕ) → c ≢ d → not (eqb c d) ≡ true
is-differ c d n = not-both (eqb c d) (λ e. n (grind arith))

pub decided-tautology : (B : Bounds) (P : Prefix) (N : Slots) (c : ℕ) → (fits B P N (tautology c) ≡ true) ↔ Fits B P N (tautology c)
decided-tautology B P N c = (
  (λ h. let r : (C : Clause) × (slot N c ≡ Some C) × (is_tautology C ≡ true) = if_some-is is_tautology (slot N c) h in (r.0, r.1, is_tautology-sound r.0 r.2)),
  λ h. is-if_some is_tautology (slot N c) h.0 h.1 (is_tautology-whole h.0 h.2),
)

is_unit-is : (P : Prefix) (C : Clause) → is_unit P C ≡ true → (l : Literal) × (C ≡ l ∷ []) × (is_existential P l.var ≡ true)
is_unit-is P [] h = grind arith
is_unit-is P (l ∷ []) h = (l, refl, h)
is_unit-is P (l ∷ k ∷ C) h = grind arith

pub decided-unit : (B : Bounds) (P : Prefix) (N : Slots) (c : ℕ) → (fits B P N (unit c) ≡ true) ↔ Fits B P N (unit c)
decided-unit B P N c = (
  (λ h. let r : (C : Clause) × (slot N c ≡ Some C) × (is_unit P C ≡ true) = if_some-is (is_unit P) (slot N c) h in let s : (l : Literal) × (r.0 ≡ l ∷ []) × (is_existential P l.var ≡ true) = is_unit-is P r.0 r.2 in (s.0, r.1 ∙ ap (λ D. Some D) s.1, s.2)),
  λ h. is-if_some (is_unit P) (slot N c) (h.0 ∷ []) h.1 h.2,
)

pub decided-pure : (B : Bounds) (P : Prefix) (N : Slots) (l : Literal) → (fits B P N (pure l) ≡ true) ↔ Fits B P N (pure l)
decided-pure B P N l = (
  (λ h. let r : (is_bound P l.var ≡ true) × ((literal_occurs l (live N) && not (literal_occurs (negation l) (live N))) ≡ true) = and-parts (is_bound P l.var) (literal_occurs l (live N) && not (literal_occurs (negation l) (live N))) h in
      let s : (literal_occurs l (live N) ≡ true) × (not (literal_occurs (negation l) (live N)) ≡ true) = and-parts (literal_occurs l (live N)) (not (literal_occurs (negation l) (live N))) r.1 in
      (r.0, occurs_literal-is l (live N) s.0, λ o. not-parts (literal_occurs (negation l) (live N)) s.1 (is-occurs_literal (negation l) (live N) o))),
  λ h. and_from (is_bound P l.var) (literal_occurs l (live N) && not (literal_occurs (negation l) (live N))) h.0 (and_from (literal_occurs l (live N)) (not (literal_occurs (negation l) (live N))) (is-occurs_literal l (live N) h.1) (not-both (literal_occurs (negation l) (live N)) (λ o. h.2 (occurs_literal-is (negation l) (live N) o)))),
)

pub decided-subsumed : (B : Bounds) (P : Prefix) (N : Slots) (c d : ℕ) → (fits B P N (subsumed c d) ≡ true) ↔ Fits B P N (subsumed c d)
decided-subsumed B P N c d = (
  (λ h. let r : (not (eqb c d) ≡ true) × (if_some (λ C. if_some (all_in C) (slot N d)) (slot N c) ≡ true) = and-parts (not (eqb c d)) (if_some (λ C. if_some (all_in C) (slot N d)) (slot N c)) h in
      let s : (C : Clause) × (slot N c ≡ Some C) × (if_some (all_in C) (slot N d) ≡ true) = if_some-is (λ C. if_some (all_in C) (slot N d)) (slot N c) r.1 in
      let t : (D : Clause) × (slot N d ≡ Some D) × (all_in s.0 D ≡ true) = if_some-is (all_in s.0) (slot N d) s.2 in
      (s.0, t.0, differ-is c d r.0, s.1, t.1, all_in-is s.0 t.0 t.2)),
  λ h. and_from (not (eqb c d)) (if_some (λ C. if_some (all_in C) (slot N d)) (slot N c)) (is-differ c d h.2)
      (is-if_some (λ C. if_some (all_in C) (slot N d)) (slot N c) h.0 h.3 (is-if_some (all_in h.0) (slot N d) h.1 h.4 (is-all_in h.0 h.1 h.5))),
)

pub decided-blocked : (B : Bounds) (P : Prefix) (N : Slots) (c : ℕ) (l : Literal) → (fits B P N (blocked c l) ≡ true) ↔ Fits B P N (blocked c l)
decided-blocked B P N c l = (
  (λ h. let s : (C : Clause) × (slot N c ≡ Some C) × ((has l C && (is_existential P l.var && all_clash P (others c N) l C)) ≡ true) = if_some-is (λ C. has l C && (is_existential P l.var && all_clash P (others c N) l C)) (slot N c) h in
      let a : (has l s.0 ≡ true) × ((is_existential P l.var && all_clash P (others c N) l s.0) ≡ true) = and-parts (has l s.0) (is_existential P l.var && all_clash P (others c N) l s.0) s.2 in
      let b : (is_existential P l.var ≡ true) × (all_clash P (others c N) l s.0 ≡ true) = and-parts (is_existential P l.var) (all_clash P (others c N) l s.0) a.1 in
      (s.0, s.1, has-IsIn l s.0 a.0, b.0, all_clash-is P (others c N) l s.0 b.1)),
  λ h. is-if_some (λ C. has l C && (is_existential P l.var && all_clash P (others c N) l C)) (slot N c) h.0 h.1
      (and_from (has l h.0) (is_existential P l.var && all_clash P (others c N) l h.0) (IsIn-has l h.0 h.2) (and_from (is_existential P l.var) (all_clash P (others c N) l h.0) h.3 (is-all_clash P (others c N) l h.0 h.4))),
)

pub decided-blocked_forall : (B : Bounds) (P : Prefix) (N : Slots) (c : ℕ) (l : Literal) → (fits B P N (blocked_forall c l) ≡ true) ↔ Fits B P N (blocked_forall c l)
decided-blocked_forall B P N c l = (
  (λ h. let s : (C : Clause) × (slot N c ≡ Some C) × ((has l C && (is_universal P l.var && (not (has (negation l) C) && all_clash P (others c N) l C))) ≡ true) = if_some-is (λ C. has l C && (is_universal P l.var && (not (has (negation l) C) && all_clash P (others c N) l C))) (slot N c) h in
      let a : (has l s.0 ≡ true) × ((is_universal P l.var && (not (has (negation l) s.0) && all_clash P (others c N) l s.0)) ≡ true) = and-parts (has l s.0) (is_universal P l.var && (not (has (negation l) s.0) && all_clash P (others c N) l s.0)) s.2 in
      let b : (is_universal P l.var ≡ true) × ((not (has (negation l) s.0) && all_clash P (others c N) l s.0) ≡ true) = and-parts (is_universal P l.var) (not (has (negation l) s.0) && all_clash P (others c N) l s.0) a.1 in
      let d : (not (has (negation l) s.0) ≡ true) × (all_clash P (others c N) l s.0 ≡ true) = and-parts (not (has (negation l) s.0)) (all_clash P (others c N) l s.0) b.1 in
      (s.0, s.1, has-IsIn l s.0 a.0, b.0, (λ m. not-parts (has (negation l) s.0) d.0 (IsIn-has (negation l) s.0 m)), all_clash-is P (others c N) l s.0 d.1)),
  λ h. is-if_some (λ C. has l C && (is_universal P l.var && (not (has (negation l) C) && all_clash P (others c N) l C))) (slot N c) h.0 h.1
      (and_from (has l h.0) (is_universal P l.var && (not (has (negation l) h.0) && all_clash P (others c N) l h.0)) (IsIn-has l h.0 h.2)
      (and_from (is_universal P l.var) (not (has (negation l) h.0) && all_clash P (others c N) l h.0) h.3
      (and_from (not (has (negation l) h.0)) (all_clash P (others c N) l h.0) (not-both (has (negation l) h.0) (λ e. h.4 (has-IsIn (negation l) h.0 e))) (is-all_clash P (others c N) l h.0 h.5)))),
)

pub decided-strengthen : (B : Bounds) (P : Prefix) (N : Slots) (c d : ℕ) (l : Literal) → (fits B P N (strengthen c d l) ≡ true) ↔ Fits B P N (strengthen c d l)
decided-strengthen B P N c d l = (
  (λ h. let r : (not (eqb c d) ≡ true) × (if_some (λ C. if_some (λ D. has l D && (has (negation l) C && strengthens l C D)) (slot N d)) (slot N c) ≡ true) = and-parts (not (eqb c d)) (if_some (λ C. if_some (λ D. has l D && (has (negation l) C && strengthens l C D)) (slot N d)) (slot N c)) h in
      let s : (C : Clause) × (slot N c ≡ Some C) × (if_some (λ D. has l D && (has (negation l) C && strengthens l C D)) (slot N d) ≡ true) = if_some-is (λ C. if_some (λ D. has l D && (has (negation l) C && strengthens l C D)) (slot N d)) (slot N c) r.1 in
      let t : (D : Clause) × (slot N d ≡ Some D) × ((has l D && (has (negation l) s.0 && strengthens l s.0 D)) ≡ true) = if_some-is (λ D. has l D && (has (negation l) s.0 && strengthens l s.0 D)) (slot N d) s.2 in
      let a : (has l t.0 ≡ true) × ((has (negation l) s.0 && strengthens l s.0 t.0) ≡ true) = and-parts (has l t.0) (has (negation l) s.0 && strengthens l s.0 t.0) t.2 in
      let b : (has (negation l) s.0 ≡ true) × (strengthens l s.0 t.0 ≡ true) = and-parts (has (negation l) s.0) (strengthens l s.0 t.0) a.1 in
      (s.0, t.0, differ-is c d r.0, s.1, t.1, has-IsIn l t.0 a.0, has-IsIn (negation l) s.0 b.0, strengthens-is l s.0 t.0 b.1)),
  λ h. and_from (not (eqb c d)) (if_some (λ C. if_some (λ D. has l D && (has (negation l) C && strengthens l C D)) (slot N d)) (slot N c)) (is-differ c d h.2)
      (is-if_some (λ C. if_some (λ D. has l D && (has (negation l) C && strengthens l C D)) (slot N d)) (slot N c) h.0 h.3
      (is-if_some (λ D. has l D && (has (negation l) h.0 && strengthens l h.0 D)) (slot N d) h.1 h.4
      (and_from (has l h.1) (has (negation l) h.0 && strengthens l h.0 h.1) (IsIn-has l h.1 h.5) (and_from (has (negation l) h.0) (strengthens l h.0 h.1) (IsIn-has (negation l) h.0 h.6) (is-strengthens l h.0 h.1 h.7))))),
)

pub at_most-is : (m n : ℕ) → at_most m n ≡ true → m ≤ n
at_most-is m n h = grind arith

pub is-at_most : (m n : ℕ) → m ≤ n → at_most m n ≡ true
is-at_most m n h = grind arith

no_tautology-is : (l : Literal) (X : Matrix) → no_tautology l X ≡ true → (D : Clause) → IsIn D X → IsIn l D → IsTautology D → ⊥
no_tautology-is l [] h D m i t = elim m [ ]
no_tautology-is l (E ∷ X) h D (inr m) i t = no_tautology-is l X (and-parts (not (has l E && is_tautology E)) (no_tautology l X) h).1 D m i t
no_tautology-is l (E ∷ X) h D (inl e) i t = not-parts (has l E && is_tautology E) (and-parts (not (has l E && is_tautology E)) (no_tautology l X) h).0
    (and_from (has l E) (is_tautology E) (IsIn-has l E (subst (IsIn l) e i)) (is_tautology-whole E (subst IsTautology e t)))

is-no_tautology : (l : Literal) (X : Matrix) → ((D : Clause) → IsIn D X → IsIn l D → IsTautology D → ⊥) → no_tautology l X ≡ true
is-no_tautology l [] h = refl
is-no_tautology l (E ∷ X) h = and_from (not (has l E && is_tautology E)) (no_tautology l X)
    (not-both (has l E && is_tautology E) (λ k. let r : (has l E ≡ true) × (is_tautology E ≡ true) = and-parts (has l E) (is_tautology E) k in h E (inl refl) (has-IsIn l E r.0) (is_tautology-sound E r.1)))
    (is-no_tautology l X (λ D m. h D (inr m)))

no_both-is : (u : ℕ) (X : Matrix) → no_both u X ≡ true → (D : Clause) → IsIn D X → IsIn (positive u) D → IsIn (negation (positive u)) D → ⊥
no_both-is u [] h D m i t = elim m [ ]
no_both-is u (E ∷ X) h D (inr m) i t = no_both-is u X (and-parts (not (has (positive u) E && has (negation (positive u)) E)) (no_both u X) h).1 D m i t
no_both-is u (E ∷ X) h D (inl e) i t = not-parts (has (positive u) E && has (negation (positive u)) E) (and-parts (not (has (positive u) E && has (negation (positive u)) E)) (no_both u X) h).0
    (and_from (has (positive u) E) (has (negation (positive u)) E) (IsIn-has (positive u) E (subst (IsIn (positive u)) e i)) (IsIn-has (negation (positive u)) E (subst (IsIn (negation (positive u))) e t)))

is-no_both : (u : ℕ) (X : Matrix) → ((D : Clause) → IsIn D X → IsIn (positive u) D → IsIn (negation (positive u)) D → ⊥) → no_both u X ≡ true
is-no_both u [] h = refl
is-no_both u (E ∷ X) h = and_from (not (has (positive u) E && has (negation (positive u)) E)) (no_both u X)
    (not-both (has (positive u) E && has (negation (positive u)) E) (λ k. let r : (has (positive u) E ≡ true) × (has (negation (positive u)) E ≡ true) = and-parts (has (positive u) E) (has (negation (positive u)) E) k in h E (inl refl) (has-IsIn (positive u) E r.0) (has-IsIn (negation (positive u)) E r.1)))
    (is-no_both u X (λ D m. h D (inr m)))

all_outer-is : (P : Prefix) (l : Literal) (C : Clause) → all_outer P l C ≡ true → (k : Literal) → IsIn k C → outer_or_same P k.var l.var ≡ true
all_outer-is P l [] h k m = elim m [ ]
all_outer-is P l (j ∷ C) h k (inl e) = subst (λ y. outer_or_same P y.var l.var ≡ true) (sym e) (and-parts (outer_or_same P j.var l.var) (all_outer P l C) h).0
all_outer-is P l (j ∷ C) h k (inr m) = all_outer-is P l C (and-parts (outer_or_same P j.var l.var) (all_outer P l C) h).1 k m

is-all_outer : (P : Prefix) (l : Literal) (C : Clause) → ((k : Literal) → IsIn k C → outer_or_same P k.var l.var ≡ true) → all_outer P l C ≡ true
is-all_outer P l [] h = refl
is-all_outer P l (j ∷ C) h = and_from (outer_or_same P j.var l.var) (all_outer P l C) (h j (inl refl)) (is-all_outer P l C (λ k m. h k (inr m)))

outer_side-is : (P : Prefix) (l : Literal) (X : Matrix) → outer_side P l X ≡ true → AllOuter P l X
outer_side-is P l [] h D m = elim m [ ]
outer_side-is P l (E ∷ X) h D (inr m) = outer_side-is P l X (and-parts (not (has l E) || all_outer P l E) (outer_side P l X) h).1 D m
outer_side-is P l (E ∷ X) h D (inl e) = λ i k n. elim (or-parts (not (has l E)) (all_outer P l E) (and-parts (not (has l E) || all_outer P l E) (outer_side P l X) h).0)
    [ inl a ↦ absurd (not-parts (has l E) a (IsIn-has l E (subst (IsIn l) e i))) | inr b ↦ all_outer-is P l E b k (subst (IsIn k) e n) ]

is-outer_side : (P : Prefix) (l : Literal) (X : Matrix) → AllOuter P l X → outer_side P l X ≡ true
is-outer_side P l [] h = refl
is-outer_side P l (E ∷ X) h = and_from (not (has l E) || all_outer P l E) (outer_side P l X) (go (has l E) refl) (is-outer_side P l X (λ D m. h D (inr m)))
  where
    go : (b : Bool) → has l E ≡ b → (not b || all_outer P l E) ≡ true
    go false q = refl
    go true q = is-all_outer P l E (h E (inl refl) (has-IsIn l E q))

occurs-var : (x : ℕ) (X : Matrix) → (occurs x X ≡ true) ↔ (OccursIn (positive x) X ⊎ OccursIn (negation (positive x)) X)
occurs-var x X = (
  (λ h. go (occurs_var-find x X h)),
  λ o. elim o [ inl a ↦ occurs_var-IsIn X a.0 (positive x) a.1 a.2 | inr b ↦ occurs_var-IsIn X b.0 (negation (positive x)) b.1 b.2 ],
)
  where
    go : ((D : Clause) × (k : Literal) × IsIn D X × IsIn k D × (k.var ≡ x)) → OccursIn (positive x) X ⊎ OccursIn (negation (positive x)) X
    go (D, k, m, i, e) = elim (var_is k x e) [ inl f ↦ inl (D, m, subst (λ y. IsIn y D) f i) | inr f ↦ inr (D, m, subst (λ y. IsIn y D) f i) ]

pub decided-eliminate : (B : Bounds) (P : Prefix) (N : Slots) (x : ℕ) → (fits B P N (eliminate x) ≡ true) ↔ Fits B P N (eliminate x)
decided-eliminate B P N x = (there, back)
  where
    p : Literal
    p = positive x

    n : Literal
    n = negation (positive x)

    X : Matrix
    X = live N

    L : Bool
    L = at_most (size_of (resolvents x (live N))) (size_of (clauses_of x (live N)) + B.grow)

    O : Bool
    O = outer_side P (positive x) (live N) || outer_side P (negation (positive x)) (live N)

    there : fits B P N (eliminate x) ≡ true → Fits B P N (eliminate x)
    there h =
        let a : (is_existential P x ≡ true) × ((occurs x X && (no_tautology p X && (no_tautology n X && (O && L)))) ≡ true) = and-parts (is_existential P x) (occurs x X && (no_tautology p X && (no_tautology n X && (O && L)))) h in
        let b : (occurs x X ≡ true) × ((no_tautology p X && (no_tautology n X && (O && L))) ≡ true) = and-parts (occurs x X) (no_tautology p X && (no_tautology n X && (O && L))) a.1 in
        let c : (no_tautology p X ≡ true) × ((no_tautology n X && (O && L)) ≡ true) = and-parts (no_tautology p X) (no_tautology n X && (O && L)) b.1 in
        let d : (no_tautology n X ≡ true) × ((O && L) ≡ true) = and-parts (no_tautology n X) (O && L) c.1 in
        let f : (O ≡ true) × (L ≡ true) = and-parts O L d.1 in
        record {
          existential = a.0;
          occurs = (occurs-var x X).0 b.0;
          no_tautology = λ D m i t. elim i [ inl y ↦ no_tautology-is p X c.0 D m y t | inr z ↦ no_tautology-is n X d.0 D m z t ];
          outer_side = elim (or-parts (outer_side P p X) (outer_side P n X) f.0) [ inl y ↦ inl (outer_side-is P p X y) | inr z ↦ inr (outer_side-is P n X z) ];
          small = at_most-is (size_of (resolvents x X)) (size_of (clauses_of x X) + B.grow) f.1;
        }

    back : Fits B P N (eliminate x) → fits B P N (eliminate x) ≡ true
    back h = and_from (is_existential P x) (occurs x X && (no_tautology p X && (no_tautology n X && (O && L)))) h.existential
        (and_from (occurs x X) (no_tautology p X && (no_tautology n X && (O && L))) ((occurs-var x X).1 h.occurs)
        (and_from (no_tautology p X) (no_tautology n X && (O && L)) (is-no_tautology p X (λ D m i t. h.no_tautology D m (inl i) t))
        (and_from (no_tautology n X) (O && L) (is-no_tautology n X (λ D m i t. h.no_tautology D m (inr i) t))
        (and_from O L (or-either (outer_side P p X) (outer_side P n X) (elim h.outer_side [ inl y ↦ inl (is-outer_side P p X y) | inr z ↦ inr (is-outer_side P n X z) ]))
        (is-at_most (size_of (resolvents x X)) (size_of (clauses_of x X) + B.grow) h.small)))))

pub decided-expand : (B : Bounds) (P : Prefix) (N : Slots) (u : ℕ) → (fits B P N (expand_universal u) ≡ true) ↔ Fits B P N (expand_universal u)
decided-expand B P N u = (there, back)
  where
    X : Matrix
    X = live N

    F : Bool
    F = at_most (length (expansion_vars P (live N) u)) B.expand

    L : Bool
    L = at_most (size_of (touched_neither u (expansion_vars P (live N) u) (live N))) (B.expand + length (clauses_of u (live N)))

    there : fits B P N (expand_universal u) ≡ true → Fits B P N (expand_universal u)
    there h =
        let a : (is_universal P u ≡ true) × ((occurs u X && (no_both u X && (F && L))) ≡ true) = and-parts (is_universal P u) (occurs u X && (no_both u X && (F && L))) h in
        let b : (occurs u X ≡ true) × ((no_both u X && (F && L)) ≡ true) = and-parts (occurs u X) (no_both u X && (F && L)) a.1 in
        let c : (no_both u X ≡ true) × ((F && L) ≡ true) = and-parts (no_both u X) (F && L) b.1 in
        let d : (F ≡ true) × (L ≡ true) = and-parts F L c.1 in
        record {
          universal = a.0;
          occurs = (occurs-var u X).0 b.0;
          no_tautology = no_both-is u X c.0;
          few = at_most-is (length (expansion_vars P X u)) B.expand d.0;
          small = at_most-is (size_of (touched_neither u (expansion_vars P X u) X)) (B.expand + length (clauses_of u X)) d.1;
        }

    back : Fits B P N (expand_universal u) → fits B P N (expand_universal u) ≡ true
    back h = and_from (is_universal P u) (occurs u X && (no_both u X && (F && L))) h.universal
        (and_from (occurs u X) (no_both u X && (F && L)) ((occurs-var u X).1 h.occurs)
        (and_from (no_both u X) (F && L) (is-no_both u X h.no_tautology)
        (and_from F L (is-at_most (length (expansion_vars P X u)) B.expand h.few) (is-at_most (size_of (touched_neither u (expansion_vars P X u) X)) (B.expand + length (clauses_of u X)) h.small))))

pub is_tautology-none : (C : Clause) → (IsTautology C → ⊥) → is_tautology C ≡ false
is_tautology-none C n = go (is_tautology C) refl
  where
    go : (b : Bool) → is_tautology C ≡ b → b ≡ false
    go true e = absurd (n (is_tautology-sound C e))
    go false e = refl
