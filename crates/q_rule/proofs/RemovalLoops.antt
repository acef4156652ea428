-- Loops that take a literal out of all clauses, or all clauses with a literal out.
use Rattle.std.proofs.Common.{◌≡◌, ◌≢◌, ◌≤◌, ◌<◌, ◌+◌, ◌*◌, ℕ, true, [], ◌∷◌, inl, inr, arith, sym, ap, ◌∙◌, subst, Some, None, length, true≢false}
use Rattle.q_logic.specs.Prelude.{Literal, negation, Clause, IsIn, without, standard, IsInLimits, greatest, size_of, delete, literals_in, with_literal, without_literal, each_without, OccursIn, Slots, slot, set_slot, live}
use Rattle.q_logic.proofs.Common.{literal_eq-itself, literal_eq-negation, IsIn-has, without-shorter, turn-pure}
use Rattle.q_log.specs.Texts.{step_text}
use Rattle.q_kernel.specs.Prelude.{Seen, slots, formula_in, IsSound, HasSweepBytes, IsLed, IsDeleted}
use Rattle.q_kernel.proofs.SlotLists.{size-gone, length-gone, literals-gone, size-replaced, length-replaced, literals-replaced}
use Rattle.q_kernel.proofs.KernelRuns.{led-through}
use Rattle.q_rule.specs.Becoming.{HasBecome}
use Rattle.q_rule.proofs.LoopChanges.{turn-shorter, with-shorter, each_without-none, without_literal-none, gone-in}
use Rattle.q_rule.proofs.RuleSteps.{delete-cost}

-- The limits last.
limits-less : (k n : Seen) → n.prefix ≡ k.prefix → length (live (slots n)) ≤ length (live (slots k)) → literals_in (live (slots n)) ≤ literals_in (live (slots k)) → IsInLimits standard (formula_in k) → IsInLimits standard (formula_in n)
limits-less k n p a b h = record {
  vars = subst (λ P. greatest P ≤ 16777215) (sym p) h.vars;
  clauses = most (length (live (slots n))) (length (live (slots k))) 33554432 a h.clauses;
  lits = most (literals_in (live (slots n))) (literals_in (live (slots k))) 134217728 b h.lits;
}
  where
    most : (x y z : ℕ) → x ≤ y → y ≤ z → x ≤ z
    most x y z i j = omega arith

pub limits-gone : (k n : Seen) (id : ℕ) (C : Clause) → slot (slots k) id ≡ Some C → slots n ≡ set_slot id None (slots k) → n.prefix ≡ k.prefix → IsInLimits standard (formula_in k) → IsInLimits standard (formula_in n)
limits-gone k n id C e change p h = limits-less k n p
    (subst (λ (N : Slots). length (live N) ≤ length (live (slots k))) (sym change) (let z = length-gone (slots k) id C e in omega arith))
    (subst (λ (N : Slots). literals_in (live N) ≤ literals_in (live (slots k))) (sym change) (let z = literals-gone (slots k) id C e in omega arith)) h

pub limits-shorter : (k n : Seen) (id : ℕ) (l : Literal) (C : Clause) → slot (slots k) id ≡ Some C → slots n ≡ set_slot id (Some (without l C)) (slots k) → n.prefix ≡ k.prefix → IsInLimits standard (formula_in k) → IsInLimits standard (formula_in n)
limits-shorter k n id l C e change p h = limits-less k n p
    (subst (λ (N : Slots). length (live N) ≤ length (live (slots k))) (sym change) (let z = length-replaced (slots k) id C (without l C) e in omega arith))
    (subst (λ (N : Slots). literals_in (live N) ≤ literals_in (live (slots k))) (sym change) (let z = literals-replaced (slots k) id C (without l C) e in let s = without-shorter l C in omega arith)) h

-- Deleting the clauses with a pure literal.
pub record IsDeleting (l : Literal) (old now : Seen) : Type 0 where
  pub led : IsLed old now
  pub prefix : now.prefix ≡ old.prefix
  pub same : without_literal l (live (slots now)) ≡ without_literal l (live (slots old))
  pub pure : OccursIn (negation l) (live (slots now)) → ⊥
  pub limits : IsInLimits standard (formula_in now)
  pub bytes : HasSweepBytes now

pub size-deleted : (k n : Seen) (id : ℕ) (C : Clause) → slot (slots k) id ≡ Some C → slots n ≡ set_slot id None (slots k) → size_of (live (slots k)) ≡ size_of (live (slots n)) + (length C + 1)
size-deleted k n id C e change = subst (λ (N : Slots). size_of (live (slots k)) ≡ size_of (live N) + (length C + 1)) (sym change) (size-gone (slots k) id C e)

pub bytes-deleted : (s t len n spare left cost : ℕ) → s ≡ t + (len + 1) → 16 * (s + n) ≤ spare → spare ≡ left + cost → cost ≤ 16 * (len + 1) → 16 * (t + n) ≤ left
bytes-deleted s t len n spare left cost e b f g = omega arith

pub clause-bytes : (k : Seen) (id : ℕ) (C : Clause) → slot (slots k) id ≡ Some C → HasSweepBytes k → 16 * (length C + 1) ≤ k.spare_bytes
clause-bytes k id C e b = let z = size-gone (slots k) id C e in omega arith

pub deleting-more : (l : Literal) (old now next : Seen) (id : ℕ) → IsSound now → ((C : Clause) → slot (slots now) id ≡ Some C → IsIn l C) → IsDeleting l old now → IsDeleted now next id (λ C. Some l) → IsDeleting l old next
deleting-more l old now next id s held d h =
    let C = h.clause in
    let m : IsIn l C = held C h.was in
    record {
      led = led-through old now next d.led h.logged.led;
      prefix = h.prefix ∙ d.prefix;
      same = ap (λ (N : Slots). without_literal l (live N)) h.change ∙ (turn-pure l (slots now) id C h.was (IsIn-has l C m) ∙ d.same);
      pure = λ (D, i, n). d.pure (D, gone-in (slots now) id D (subst (λ (N : Slots). IsIn D (live N)) h.change i), n);
      limits = limits-gone now next id C h.was h.change h.prefix d.limits;
      bytes = subst (λ P. 16 * (size_of (live (slots next)) + length P) ≤ next.spare_bytes) (sym h.prefix)
          (bytes-deleted (size_of (live (slots now))) (size_of (live (slots next))) (length C) (length now.prefix) now.spare_bytes next.spare_bytes (length (step_text (delete (Some l) C)))
          (size-deleted now next id C h.was h.change) d.bytes h.logged.bytes (delete-cost now id C s h.was l m));
    }

pub deleting-done : (l : Literal) (old now : Seen) → (OccursIn l (live (slots now)) → ⊥) → IsDeleting l old now → HasBecome old now (without_literal l (live (slots old)))
deleting-done l old now n d = record { led = d.led; prefix = d.prefix; matrix = sym (without_literal-none l (live (slots now)) n) ∙ d.same; limits = d.limits; bytes = d.bytes }

-- Taking a literal out of all clauses, where one clause costs so many bytes for each literal and more.
pub record IsClearing (w : ℕ) (l : Literal) (old now : Seen) : Type 0 where
  pub led : IsLed old now
  pub prefix : now.prefix ≡ old.prefix
  pub same : each_without l (live (slots now)) ≡ each_without l (live (slots old))
  pub limits : IsInLimits standard (formula_in now)
  pub bytes : w * size_of (with_literal l (live (slots now))) + 16 * (size_of (live (slots now)) + length now.prefix) ≤ now.spare_bytes

bytes-cleared : (w s t m n len p spare left cost : ℕ) → t + (len + 1) ≡ s → n ≤ m → w * s + 16 * (m + p) ≤ spare → spare ≡ left + cost → cost ≤ w * (len + 1) → w * t + 16 * (n + p) ≤ left
bytes-cleared w s t m n len p spare left cost e i b f g = let h : w * (t + (len + 1)) + 16 * (m + p) ≤ spare = subst (λ (x : ℕ). w * x + 16 * (m + p) ≤ spare) (sym e) b in omega arith

pub clearing-bytes : (w : ℕ) (l : Literal) (k : Seen) (id : ℕ) (C : Clause) → slot (slots k) id ≡ Some C → IsIn l C → w * size_of (with_literal l (live (slots k))) + 16 * (size_of (live (slots k)) + length k.prefix) ≤ k.spare_bytes → w * (length C + 1) ≤ k.spare_bytes
clearing-bytes w l k id C e m b = go (size_of (with_literal l (live (set_slot id (Some (without l C)) (slots k))))) (length C) (size_of (with_literal l (live (slots k)))) (16 * (size_of (live (slots k)) + length k.prefix)) k.spare_bytes (with-shorter l (slots k) id C e (IsIn-has l C m)) b
  where
    go : (t len s x spare : ℕ) → t + (len + 1) ≡ s → w * s + x ≤ spare → w * (len + 1) ≤ spare
    go t len s x spare f g = let h : w * (t + (len + 1)) + x ≤ spare = subst (λ (y : ℕ). w * y + x ≤ spare) (sym f) g in omega arith

pub clearing-more : (w : ℕ) (l : Literal) (old now next : Seen) (id cost : ℕ) (C : Clause) → slot (slots now) id ≡ Some C → IsIn l C → slots next ≡ set_slot id (Some (without l C)) (slots now) → next.prefix ≡ now.prefix → IsLed now next → now.spare_bytes ≡ next.spare_bytes + cost → cost ≤ w * (length C + 1) → IsClearing w l old now → IsClearing w l old next
clearing-more w l old now next id cost C e m change p led f g d =
    record {
      led = led-through old now next d.led led;
      prefix = p ∙ d.prefix;
      same = ap (λ (N : Slots). each_without l (live N)) change ∙ (turn-shorter l (slots now) id C e ∙ d.same);
      limits = limits-shorter now next id l C e change p d.limits;
      bytes = subst (λ P. w * size_of (with_literal l (live (slots next))) + 16 * (size_of (live (slots next)) + length P) ≤ next.spare_bytes) (sym p)
          (bytes-cleared w (size_of (with_literal l (live (slots now)))) (size_of (with_literal l (live (slots next)))) (size_of (live (slots now))) (size_of (live (slots next))) (length C) (length now.prefix) now.spare_bytes next.spare_bytes cost
          (subst (λ (N : Slots). size_of (with_literal l (live N)) + (length C + 1) ≡ size_of (with_literal l (live (slots now)))) (sym change) (with-shorter l (slots now) id C e (IsIn-has l C m)))
          (subst (λ (N : Slots). size_of (live N) ≤ size_of (live (slots now))) (sym change) (let z = size-replaced (slots now) id C (without l C) e in let s = without-shorter l C in omega arith))
          d.bytes f g);
    }

pub clearing-done : (w : ℕ) (l : Literal) (old now : Seen) → (OccursIn l (live (slots now)) → ⊥) → IsClearing w l old now → HasBecome old now (each_without l (live (slots old)))
clearing-done w l old now n d = record {
  led = d.led;
  prefix = d.prefix;
  matrix = sym (each_without-none l (live (slots now)) n) ∙ d.same;
  limits = d.limits;
  bytes = omega (arith, d.bytes);
}

-- The measure of both loops.
pub with-falls : (l : Literal) (now next : Seen) (id : ℕ) (C : Clause) → slot (slots now) id ≡ Some C → IsIn l C → slots next ≡ set_slot id (Some (without l C)) (slots now) → size_of (with_literal l (live (slots next))) < size_of (with_literal l (live (slots now)))
with-falls l now next id C e m change = subst (λ (N : Slots). size_of (with_literal l (live N)) < size_of (with_literal l (live (slots now)))) (sym change) (let z = with-shorter l (slots now) id C e (IsIn-has l C m) in omega arith)

-- Another clause is the same after a change.
pub not_own : (l : Literal) (C : Clause) → IsIn (negation l) C → C ≢ (l ∷ [])
not_own l C m e = elim (subst (λ (x : Clause). IsIn (negation l) x) e m) [
  | inl f ↦
      let a = literal_eq-negation l in
      let b : Rattle.q_logic.specs.Literals.literal_eq l (negation l) ≡ true = subst (λ (x : Literal). Rattle.q_logic.specs.Literals.literal_eq l x ≡ true) (sym f) (literal_eq-itself l) in
      true≢false (sym b ∙ a)
  | inr n ↦ n
]
