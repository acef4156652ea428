use Rattle.std.proofs.Common.{◌≡◌, ◌≤◌, ◌+◌, ◌||◌, ℕ, Bool, true, false, cond, ◌∷◌, length, drop, None, Some, refl, sym, ap, ◌∙◌, subst, arith, true≢false}
use Rattle.q_logic.specs.Prelude.{Literal, negation, Clause, IsIn, without, has, missing, negated_in}
use Rattle.q_logic.proofs.Common.{has-IsIn, IsIn-has, has_none}
use Rattle.q_eliminate.proofs.IdWalks.{but-taken}
use Rattle.q_eliminate.proofs.counting.length_with.Goals as goal
use Rattle.q_eliminate.proofs.counting.length_with.Goals.{then-not-has, else-not-has}

clash-here : (k : Literal) (B A : Clause) → IsIn (negation k) A → negated_in (k ∷ B) A ≡ true
clash-here k B A m = ap (λ (b : Bool). b || negated_in B A) (IsIn-has (negation k) A m)

clash-later : (k : Literal) (B A : Clause) → (IsIn (negation k) A → ⊥) → negated_in (k ∷ B) A ≡ negated_in B A
clash-later k B A n = ap (λ (b : Bool). b || negated_in B A) (has_none (negation k) A n)

missing-held : (k : Literal) (B A : Clause) → IsIn k A → missing (k ∷ B) A ≡ missing B A
missing-held k B A m = ap (λ (b : Bool). cond b (missing B A) (k ∷ missing B A)) (IsIn-has k A m)

missing-new : (k : Literal) (B A : Clause) → (IsIn k A → ⊥) → missing (k ∷ B) A ≡ k ∷ missing B A
missing-new k B A n = ap (λ (b : Bool). cond b (missing B A) (k ∷ missing B A)) (has_none k A n)

pub returns-then-has : goal.returns-then-has
returns-then-has c =
    let A = c.args.marks.now in
    let k = c.k-item.result in
    let held : IsIn (negation k) A = subst (λ (z : Literal). IsIn z A) c.negated.ensures (c.has.ensures.0 c.if-has.true) in
    let s = but-taken c.args.clause.now c.loop-k.k-index k c.args.out c.loop-k-test.true c.k-item.is (λ q. true≢false (sym (c.is.ensures.1 q) ∙ c.if-is.false)) in
    let t : negated_in (without c.args.out c.args.clause.now) A ≡ true = sym c.loop-k.invariant.clash ∙ (ap (λ (B : Clause). negated_in B A) s ∙ clash-here k (without c.args.out (drop (c.loop-k.k-index + 1) c.args.clause.now)) A held) in
    sym (ap (λ (b : Bool). cond b None (Some (length A + length (missing (without c.args.out c.args.clause.now) A)))) t)

step : (A B W : Clause) (k : Literal) (len n new i : ℕ) → W ≡ k ∷ B → len + length (missing W A) ≡ n → len ≤ length A + i → (IsIn k A → new ≡ len) → ((IsIn k A → ⊥) → new ≡ len + 1) → (h : Bool) → has k A ≡ h → (new + length (missing B A) ≡ n) × (new ≤ length A + (i + 1))
step A B W k len n new i e s b f g true h =
    let m : IsIn k A = has-IsIn k A h in
    let q = f m in
    let z = ap length (ap (λ (x : Clause). missing x A) e ∙ missing-held k B A m) in (omega arith, omega arith)
step A B W k len n new i e s b f g false h =
    let m : IsIn k A → ⊥ = λ j. true≢false (sym (IsIn-has k A j) ∙ h) in
    let q = g m in
    let z = ap length (ap (λ (x : Clause). missing x A) e ∙ missing-new k B A m) in (omega arith, omega arith)

pub loop-k-preserved : goal.loop-k-preserved
loop-k-preserved c =
    let A = c.args.marks.now in
    let C = c.args.clause.now in
    let k = c.k-item.result in
    let B = without c.args.out (drop (c.loop-k.k-index + 1) C) in
    let s = but-taken C c.loop-k.k-index k c.args.out c.loop-k-test.true c.k-item.is (λ q. true≢false (sym (c.is.ensures.1 q) ∙ c.if-is.false)) in
    let r = step A B (without c.args.out (drop c.loop-k.k-index C)) k c.loop-k.len (length A + length (missing (without c.args.out C) A)) c.if-not-has.len c.loop-k.k-index s c.loop-k.invariant.len c.loop-k.invariant.short
    (λ m. elim c.if-not-has.branch [ then-not-has w ↦ absurd (true≢false (sym (c.has-in-loop-k.ensures.1 m) ∙ w.if-not-has.true)) | else-not-has w ↦ w.len-is ])
    (λ n. elim c.if-not-has.branch [ then-not-has w ↦ w.len-is | else-not-has w ↦ absurd (n (c.has-in-loop-k.ensures.0 w.if-not-has.false)) ])
    (has k A) refl in
    record {
      clash = sym (clash-later k B A (λ m. true≢false (sym (c.has.ensures.1 (subst (λ (z : Literal). IsIn z A) (sym c.negated.ensures) m)) ∙ c.if-has.false))) ∙ (sym (ap (λ (x : Clause). negated_in x A) s) ∙ c.loop-k.invariant.clash);
      len = r.0;
      short = r.1;
    }
