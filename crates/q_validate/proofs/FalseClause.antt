-- Literals that show which clause is false.
use Rattle.std.proofs.Common.{◌≡◌, ℕ, Bool, true, false, cond, not, eqb, List, [], ◌∷◌, Option, Some, None, inl, inr, refl, sym, ap, ◌∙◌, subst, arith}
use Rattle.q_logic.specs.Prelude.{Literal, Clause, Prefix, PrenexFormula, IsIn, is_exists, is_bound, is_existential, is_universal, IsFormula, Assignment, signed, LiteralTrue, ClauseTrue, Circuit, value_of, Strategy, circuit_of, or_input, given, outcome, Lawful, CertificateView, trees_of}
use Rattle.q_logic.specs.Branches.{true_literals, claim_of, search_of, counter, counter_at}
use Rattle.q_logic.proofs.Common.{value_of-agree, is_bound-universal}
use Rattle.q_logic.proofs.FirstMoves.{signed-value}
use Rattle.q_certificate.proofs.NamedCertificates.{before-universal}
use Rattle.q_validate.specs.Answers.{Falsify}

-- Where the literals are true, each universal has the value that they tell.
told : (P : Prefix) (A B : Assignment) → ((k : Literal) → IsIn k (true_literals P B) → LiteralTrue A k) →
    (u : ℕ) → is_universal P u ≡ true → A u ≡ B u
told [] A B h u e = absurd (cc)
told (b ∷ P) A B h u e = go (is_exists b.quant) (eqb b.var u) refl h e (told P A B)
  where
    go : (x : Bool) → (y : Bool) → eqb b.var u ≡ y →
        ((k : Literal) → IsIn k (cond x (true_literals P B) (record { var = b.var; negative = not (B b.var) } ∷ true_literals P B)) → LiteralTrue A k) →
        cond y (not x) (is_universal P u) ≡ true →
        (((k : Literal) → IsIn k (true_literals P B) → LiteralTrue A k) → (u : ℕ) → is_universal P u ≡ true → A u ≡ B u) →
        A u ≡ B u
    go true true q h e f = absurd (cc)
    go true false q h e f = f h u e
    go false true q h e f =
        let s : b.var ≡ u = grind arith in
        subst (λ (v : ℕ). A v ≡ B v) s (signed-value (B b.var) (A b.var) (h (record { var = b.var; negative = not (B b.var) }) (inl refl)))
    go false false q h e f = f (λ k i. h k (inr i)) u e

-- The outcome hangs on the universals alone.
outcome-same : (P : Prefix) (c : Strategy) (A B : Assignment) → Lawful P c → ((u : ℕ) → is_universal P u ≡ true → A u ≡ B u) →
    (x : ℕ) → is_bound P x ≡ true → outcome c A x ≡ outcome c B x
outcome-same P c A B l h x b = go (is_existential P x) refl
  where
    input : (o : Option Circuit) → given o ≡ false → A x ≡ B x → value_of (or_input x o) A ≡ value_of (or_input x o) B
    input None g e = e
    input (Some t) g e = absurd (cc)

    go : (e : Bool) → is_existential P x ≡ e → outcome c A x ≡ outcome c B x
    go true e = value_of-agree (circuit_of c x) A B (λ u r. h u (before-universal P u x (l.reads x e u r)))
    go false e = input (c x) (l.trees x ∙ e) (h x (is_bound-universal P x b e))

-- The literals that tell a counterexample show it.
pub literals-falsify : (F : PrenexFormula) (c : Strategy) (B : Assignment) → IsFormula F → Lawful F.prefix c →
    (C : Clause) × IsIn C F.matrix × (¬ ClauseTrue (outcome c B) C) → Falsify F c (true_literals F.prefix B)
literals-falsify F c B f l d A h = (d.0, d.1, λ t. d.2 (carried t))
  where
    same : (x : ℕ) → is_bound F.prefix x ≡ true → outcome c A x ≡ outcome c B x
    same = outcome-same F.prefix c A B l (told F.prefix A B h)

    carried : ClauseTrue (outcome c A) d.0 → ClauseTrue (outcome c B) d.0
    carried t = (t.0, t.1, sym (ap (signed t.0.negative) (same t.0.var (f.closed d.0 d.1 t.0 t.1))) ∙ t.2)

-- The same of the first node that is hit.
pub counter-falsifies : (F : PrenexFormula) (C : CertificateView) (lits : List Literal) → IsFormula F → Lawful F.prefix (trees_of C) →
    (search_of (claim_of F C)).won ≡ false → counter (claim_of F C) ≡ Some lits →
    (D : Clause) × IsIn D F.matrix × (¬ ClauseTrue (outcome (trees_of C) (counter_at (claim_of F C) (search_of (claim_of F C)).last)) D) →
    Falsify F (trees_of C) lits
counter-falsifies F C lits f l w e d =
    subst (Falsify F (trees_of C)) same (literals-falsify F (trees_of C) B f l d)
  where
    B : Assignment
    B = counter_at (claim_of F C) (search_of (claim_of F C)).last

    told_by : Some (true_literals F.prefix B) ≡ Some lits
    told_by = sym (ap (λ (b : Bool). cond b None (Some (true_literals F.prefix B))) w) ∙ e

    same : true_literals F.prefix B ≡ lits
    same = cc told_by
