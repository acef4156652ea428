-- When the steps of both targets are valid, and what they leave.
use Rattle.std.proofs.Common.{◌≡◌, ◌≢◌, ◌≤◌, ◌+◌, ◌*◌, ◌⊎◌, ℕ, Bool, true, false, ◌∷◌, inl, inr, arith, refl, sym, subst, Some, length}
use Rattle.q_logic.specs.Prelude.{Literal, negation, literal_eq, Clause, Matrix, IsIn, without, Implied, standard, IsInLimits, size_of, add, delete, one_less, first_of, IsSubset, Slots, slot, set_slot, live, others, formula_of, shortened, AreAlike}
use Rattle.q_logic.specs.Targets as theory
use Rattle.q_logic.proofs.Common.{literal_eq-sound, others-slot, live-slot, without-shorter, IsIn-without, without-IsIn, implied-subsumed, implied-hidden_new, SameClauses, IsIn-alike, alike-sym}
use Rattle.q_logic.proofs.HintedRuns.{live-changed}
use Rattle.q_log.specs.Texts.{step_text}
use Rattle.q_log.proofs.WritableRuns.{first-of}
use Rattle.q_kernel.specs.Prelude.{Seen, slots, formula_in, IsSound, MayDelete, MayShrink, IsDeleted, IsShrunk}
use Rattle.q_kernel.proofs.SlotLists.{alike-others, size-replaced, size-gone}
use Rattle.q_rule.specs.Becoming.{CanChange, IsChanged}
use Rattle.q_rule.proofs.RuleSteps.{clause-in, clause-within, implied-cost, shrink-cost, enough, one-more}
use Rattle.q_rule.proofs.RemovalLoops.{limits-shorter}
use Rattle.q_rule.proofs.TargetChanges.{changed-tautology}
use Rattle.q_subsume.specs.Looks.{IsTurnedWithin}

-- Beside the clause C, which holds the negation of l and whose other literals are in D, l may leave D.
pub turned-implied : (X : Matrix) (C D : Clause) (l : Literal) → IsIn C X → IsIn D X → IsIn (negation l) C → IsTurnedWithin C D l → Implied X (without l D)
turned-implied X C D l inC inD n h = implied-hidden_new X C (without l D) l inC n rest (implied-subsumed X D (l ∷ without l D) inD (λ k i. go k i (literal_eq k l) refl))
  where
    rest : (j : Literal) → IsIn j C → j ≢ negation l → IsIn j (without l D)
    rest j i ne = IsIn-without l D j (h.rest j i ne).0 (other (literal_eq j l) refl)
      where
        other : (b : Bool) → literal_eq j l ≡ b → literal_eq j l ≡ false
        other true q = absurd ((h.rest j i ne).1 (literal_eq-sound j l q))
        other false q = q

    go : (k : Literal) → IsIn k D → (b : Bool) → literal_eq k l ≡ b → (k ≡ l) ⊎ IsIn k (without l D)
    go k i true q = inl (literal_eq-sound k l q)
    go k i false q = inr (IsIn-without l D k i q)

-- Two clauses of a sound kernel.
module _ (k : Seen) (c d : ℕ) (C D : Clause) (s : IsSound k) (apart : c ≢ d) (here : slot (slots k) c ≡ Some C) (there : slot (slots k) d ≡ Some D) where
  inner-left : IsIn C (one_less D (live (slots k)))
  inner-left = IsIn-alike (others d (slots k)) (one_less D (live (slots k))) (alike-others (slots k) d D there) C (others-slot (slots k) c d C apart here)

  pub may-go_subsumed : IsSubset C D → 16 * (length D + 1) ≤ k.spare_bytes → MayDelete k d first_of
  may-go_subsumed w b = record {
    clause = D;
    there = there;
    first = first-of D;
    step = record {
      valid = (clause-within k d D s there, clause-in k d D s there, inl (implied-subsumed (one_less D (live (slots k))) C D inner-left w));
      bytes = enough (length (step_text (delete (first_of D) D))) (16 * (length D + 1)) k.spare_bytes (implied-cost k d D s there) b;
    };
  }

  pub may-shrink_turned : (l : Literal) → IsIn (negation l) C → IsTurnedWithin C D l → IsInLimits standard (formula_in k) → 32 * (length D + 1) ≤ k.spare_bytes → MayShrink k d l
  may-shrink_turned l n w h b = record {
    clause = D;
    there = there;
    held = w.held;
    valid = ((λ j i. clause-within k d D s there j (without-IsIn l D j i)), inl (turned-implied (live (slots k)) C D l (live-slot (slots k) c C here) (clause-in k d D s there) n w), one-more k d D s there l h);
    bytes = enough (length (step_text (add (first_of (without l D)) (without l D))) + length (step_text (delete (first_of D) D))) (32 * (length D + 1)) k.spare_bytes (shrink-cost k d D s there l) b;
  }

-- A subsumed clause goes as a tautology does.
pub changed-subsumed : (old new : Seen) (c d : ℕ) → IsSound old → IsInLimits standard (formula_in old) → CanChange old → IsDeleted old new d first_of → IsChanged old new (theory.subsumed c d)
changed-subsumed old new c d s h b g = let r = changed-tautology old new d s h b g in record { led = r.led; alike = r.alike; limits = r.limits; bytes = r.bytes }

pub changed-strengthen : (old new : Seen) (c d : ℕ) (l : Literal) → IsSound old → IsInLimits standard (formula_in old) → CanChange old → IsShrunk old new d l → IsChanged old new (theory.strengthen c d l)
changed-strengthen old new c d l s h b g = record {
  led = g.led;
  alike = subst (λ o. AreAlike (formula_of old.prefix (shortened l o (others d (slots old)))) (formula_in new)) (sym g.was)
      (record { prefix = sym g.prefix; clauses = subst (λ (N : Slots). SameClauses (without l g.clause ∷ others d (slots old)) (live N)) (sym g.change) (alike-sym (live (set_slot d (Some (without l g.clause)) (slots old))) (without l g.clause ∷ others d (slots old)) (live-changed (slots old) d g.clause (without l g.clause) g.was)) });
  limits = limits-shorter old new d l g.clause g.was g.change g.prefix h;
  bytes = subst (λ P. 16 * (size_of (live (slots new)) + length P) ≤ new.spare_bytes) (sym g.prefix)
      (shrunk (size_of (live (slots old))) (size_of (live (slots new))) (length g.clause) (length old.prefix) old.spare_bytes new.spare_bytes (length (step_text (add (first_of (without l g.clause)) (without l g.clause))) + length (step_text (delete (first_of g.clause) g.clause)))
      (subst (λ (N : Slots). size_of (live N) ≤ size_of (live (slots old))) (sym g.change) (let z = size-replaced (slots old) d g.clause (without l g.clause) g.was in let w = without-shorter l g.clause in omega arith))
      (let z = size-gone (slots old) d g.clause g.was in omega arith)
      b g.bytes (shrink-cost old d g.clause s g.was l));
}
  where
    shrunk : (s t len n spare left cost : ℕ) → t ≤ s → len + 1 ≤ s → 16 * (3 * s + n) ≤ spare → spare ≡ left + cost → cost ≤ 32 * (len + 1) → 16 * (t + n) ≤ left
    shrunk s t len n spare left cost i j b e g = omega arith

-- Enough bytes.
pub change-shrink : (k : Seen) (d : ℕ) (D : Clause) → slot (slots k) d ≡ Some D → CanChange k → 32 * (length D + 1) ≤ k.spare_bytes
change-shrink k d D e b = let z = size-gone (slots k) d D e in omega (arith, b)
