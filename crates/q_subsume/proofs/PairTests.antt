-- What the tests of two clauses tell of a target.
use Rattle.std.proofs.Common.{◌≡◌, ◌≢◌, ◌↔◌, ℕ, Bool, true, false, not, Option, Some, None, IsTrue, refl, sym, ap, subst, true≢false}
use Rattle.std.specs.Option.{is_some}
use Rattle.std.proofs.lemmas.Option.{same_Some}
use Rattle.q_logic.specs.declared.rule_bounds.Bounds.{Bounds}
use Rattle.q_logic.specs.Prelude.{Literal, negation, Clause, Prefix, IsIn, IsSubset, Slots, slot, subsumed, strengthen, Fits}
use Rattle.q_logic.proofs.Common.{not-negation}
use Rattle.q_rule.proofs.IdClauses.{slot-one}
use Rattle.q_subsume.specs.Looks.{AreTwo, IsTurnedWithin}

no_literal : (k : Literal) → None ≡ Some k → ⊥
no_literal k e = cc

-- A test for none.
said-none : (o : Option Literal) (b : Bool) → is_some o ≡ not b → b ≡ true → o ≡ None
said-none None b e t = refl
said-none (Some k) true e t = absurd (true≢false e)
said-none (Some k) false e t = absurd (true≢false (sym t))

said-some : (o : Option Literal) (b : Bool) → is_some o ≡ not b → ((k : Literal) → o ≡ Some k → ⊥) → b ≡ true
said-some None true e n = refl
said-some None false e n = absurd (true≢false (sym e))
said-some (Some k) b e n = absurd (n k refl)

-- No literal is missing.
pub within-told : (C D : Clause) (o : Option Literal) (b : Bool) → is_some o ≡ not b → ((k : Literal) → o ≡ Some k → IsIn k C × (None ≢ Some k) × (IsIn k D → ⊥)) → (o ≡ None → (k : Literal) → IsIn k C → None ≢ Some k → IsIn k D) → IsTrue b ↔ IsSubset C D
within-told C D o b s some none = (
  (λ t k m. none (said-none o b s t) k m (no_literal k)),
  (λ h. said-some o b s (λ k e. let r = some k e in r.2 (h k r.0))),
)

-- None is missing but the literal that is turned.
pub turned-told : (C D : Clause) (l : Literal) (o : Option Literal) (b : Bool) → is_some o ≡ not b → IsIn l D × (IsIn l C → ⊥) → ((k : Literal) → o ≡ Some k → IsIn k C × (Some (negation l) ≢ Some k) × (IsIn k D → ⊥)) → (o ≡ None → (k : Literal) → IsIn k C → Some (negation l) ≢ Some k → IsIn k D) → IsTrue b ↔ IsTurnedWithin C D l
turned-told C D l o b s held some none = (
  (λ t. record {
    held = held.0;
    rest = λ k m n. (none (said-none o b s t) k m (λ e. n (sym (same_Some (negation l) k e))), (λ e. held.1 (subst (λ (x : Literal). IsIn x C) e m)));
  }),
  (λ h. said-some o b s (λ k e. let r = some k e in r.2 (h.rest k r.0 (λ f. r.1 (ap Some (sym f)))).0)),
)

-- A clause that holds l as well keeps it.
pub not-turned : (C D : Clause) (l : Literal) → IsIn l C → IsTurnedWithin C D l → ⊥
not-turned C D l m h = (h.rest l m (not-negation l)).1 refl

-- The tests of the clauses are those of the targets.
pub subsumed-told : (B : Bounds) (P : Prefix) (N : Slots) (c d : ℕ) (C D : Clause) (b : Bool) → AreTwo N c d → slot N c ≡ Some C → slot N d ≡ Some D → IsTrue b ↔ IsSubset C D → IsTrue b ↔ Fits B P N (subsumed c d)
subsumed-told B P N c d C D b two e f h = (
  (λ t. (C, D, two.apart, e, f, h.0 t)),
  (λ (E, G, n, g, i, w). h.1 (subst (λ (x : Clause). IsSubset x D) (slot-one N c E C g e) (subst (λ (x : Clause). IsSubset E x) (slot-one N d G D i f) w))),
)

pub strengthen-told : (B : Bounds) (P : Prefix) (N : Slots) (c d : ℕ) (l : Literal) (C D : Clause) (b : Bool) → AreTwo N c d → slot N c ≡ Some C → slot N d ≡ Some D → IsTrue b ↔ (IsIn (negation l) C × IsTurnedWithin C D l) → IsTrue b ↔ Fits B P N (strengthen c d l)
strengthen-told B P N c d l C D b two e f h = (
  (λ t. let r = h.0 t in (C, D, two.apart, e, f, r.1.held, r.0, r.1.rest)),
  (λ (E, G, n, g, i, inD, inC, w). h.1 (
    subst (λ (x : Clause). IsIn (negation l) x) (slot-one N c E C g e) inC,
    subst (λ (x : Clause). IsTurnedWithin x D l) (slot-one N c E C g e) (subst (λ (x : Clause). IsTurnedWithin E x l) (slot-one N d G D i f) (record { held = inD; rest = w })),
  )),
)

-- Where there are not two clauses no target fits.
pub subsumed-two : (B : Bounds) (P : Prefix) (N : Slots) (c d : ℕ) → Fits B P N (subsumed c d) → AreTwo N c d
subsumed-two B P N c d (C, D, n, e, f, w) = record { apart = n; inner = (C, e); other = (D, f) }

pub strengthen-two : (B : Bounds) (P : Prefix) (N : Slots) (c d : ℕ) (l : Literal) → Fits B P N (strengthen c d l) → AreTwo N c d
strengthen-two B P N c d l (C, D, n, e, f, a, b, w) = record { apart = n; inner = (C, e); other = (D, f) }
