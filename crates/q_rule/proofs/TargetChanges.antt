-- What the changes of a target leave.
use Rattle.std.proofs.Common.{◌≡◌, ◌≤◌, ◌+◌, ◌*◌, ℕ, Bool, true, false, cond, [], ◌∷◌, arith, refl, sym, ap, ◌∙◌, subst, Some, length}
use Rattle.q_logic.specs.Prelude.{Literal, negation, Clause, Matrix, Prefix, PrenexFormula, IsIn, without, standard, IsInLimits, size_of, delete, drop_literal, first_of, with_literal, without_literal, each_without, Slots, slot, set_slot, live, others, formula_of, swept, has_empty, occurring, IsSwept, change, result_of, assigned, head_of, shortened, AreAlike}
use Rattle.q_logic.specs.Targets as theory
use Rattle.q_logic.proofs.Common.{SameClauses, alike-sym, alike-refl, sweep-twice, swept-in_limits, live-gone, alike_itself}
use Rattle.q_logic.proofs.HintedRuns.{live-changed}
use Rattle.q_log.specs.Texts.{step_text}
use Rattle.q_kernel.specs.Prelude.{Seen, slots, formula_in, IsSound, HasSweepBytes, IsLed, IsDeleted, IsDropped}
use Rattle.q_kernel.proofs.SlotLists.{has_empty-alike, size-replaced}
use Rattle.q_kernel.proofs.KernelRuns.{led-through}
use Rattle.q_kernel.proofs.PlaceLists.{occurs-alike}
use Rattle.q_rule.specs.Becoming.{CanChange, HasBecome, IsChanged, HasResult}
use Rattle.q_rule.proofs.LoopChanges.{with-less}
use Rattle.q_rule.proofs.RuleSteps.{implied-cost, drop-cost}
use Rattle.q_rule.proofs.RemovalLoops.{limits-gone, limits-shorter, size-deleted, bytes-deleted}

-- Enough bytes for a change.
pub change-sweep : (k : Seen) → CanChange k → HasSweepBytes k
change-sweep k b = omega (arith, b)

pub change-clear : (w : ℕ) (l : Literal) (k : Seen) → w ≤ 32 → CanChange k → w * size_of (with_literal l (live (slots k))) + 16 * (size_of (live (slots k)) + length k.prefix) ≤ k.spare_bytes
change-clear w l k h b = go w (size_of (with_literal l (live (slots k)))) (size_of (live (slots k))) (length k.prefix) k.spare_bytes h (with-less l (live (slots k))) b
  where
    go : (w t s n spare : ℕ) → w ≤ 32 → t ≤ s → 16 * (3 * s + n) ≤ spare → w * t + 16 * (s + n) ≤ spare
    go w t s n spare h i b = let j : w * t ≤ 32 * t = Rattle.std.proofs.Math.Nat.mul-le-mul_right t h in omega arith

pub change-clause : (k : Seen) (id : ℕ) (C : Clause) → slot (slots k) id ≡ Some C → CanChange k → 16 * (length C + 1) ≤ k.spare_bytes
change-clause k id C e b = let z = Rattle.q_kernel.proofs.SlotLists.size-gone (slots k) id C e in omega (arith, b)

-- Loops one after the other.
pub become-through : (a b c : Seen) (X Y : Matrix) → HasBecome a b X → HasBecome b c Y → HasBecome a c Y
become-through a b c X Y f g = record { led = led-through a b c f.led g.led; prefix = g.prefix ∙ f.prefix; matrix = g.matrix; limits = g.limits; bytes = g.bytes }

pub become-same : (a b : Seen) (X Y : Matrix) → X ≡ Y → HasBecome a b X → HasBecome a b Y
become-same a b X Y e f = record { led = f.led; prefix = f.prefix; matrix = f.matrix ∙ e; limits = f.limits; bytes = f.bytes }

-- The change of a target.
pub changed-by : (old new : Seen) (t : theory.Target) (X : Matrix) → change old.prefix (slots old) t ≡ formula_of old.prefix X → HasBecome old new X → IsChanged old new t
changed-by old new t X e h = record {
  led = h.led;
  alike = subst (λ F. AreAlike F (formula_in new)) (sym e) (record { prefix = sym h.prefix; clauses = subst (λ (Y : Matrix). SameClauses X Y) (sym h.matrix) (alike-refl X) });
  limits = h.limits;
  bytes = h.bytes;
}

pub changed-tautology : (old new : Seen) (c : ℕ) → IsSound old → IsInLimits standard (formula_in old) → CanChange old → IsDeleted old new c first_of → IsChanged old new (theory.tautology c)
changed-tautology old new c s h b d = record {
  led = d.logged.led;
  alike = record { prefix = sym d.prefix; clauses = subst (λ (X : Matrix). SameClauses X (live (slots new))) (ap live d.change ∙ live-gone (slots old) c) (alike-refl (live (slots new))) };
  limits = limits-gone old new c d.clause d.was d.change d.prefix h;
  bytes = subst (λ P. 16 * (size_of (live (slots new)) + length P) ≤ new.spare_bytes) (sym d.prefix)
      (bytes-deleted (size_of (live (slots old))) (size_of (live (slots new))) (length d.clause) (length old.prefix) old.spare_bytes new.spare_bytes (length (step_text (delete (first_of d.clause) d.clause)))
      (size-deleted old new c d.clause d.was d.change) (change-sweep old b) d.logged.bytes (implied-cost old c d.clause s d.was));
}

pub changed-cut : (old new : Seen) (c : ℕ) (l : Literal) → IsSound old → IsInLimits standard (formula_in old) → CanChange old → ((C : Clause) → slot (slots old) c ≡ Some C → IsIn l C) → IsDropped old new c l → IsChanged old new (theory.cut c l)
changed-cut old new c l s h b held d = record {
  led = d.logged.led;
  alike = subst (λ o. AreAlike (formula_of old.prefix (shortened l o (others c (slots old)))) (formula_in new)) (sym d.was)
      (record { prefix = sym d.prefix; clauses = subst (λ (N : Slots). SameClauses (without l d.clause ∷ others c (slots old)) (live N)) (sym d.change) (alike-sym (live (set_slot c (Some (without l d.clause)) (slots old))) (without l d.clause ∷ others c (slots old)) (live-changed (slots old) c d.clause (without l d.clause) d.was)) });
  limits = limits-shorter old new c l d.clause d.was d.change d.prefix h;
  bytes = subst (λ P. 16 * (size_of (live (slots new)) + length P) ≤ new.spare_bytes) (sym d.prefix)
      (dropped (size_of (live (slots old))) (size_of (live (slots new))) (length d.clause) (length old.prefix) old.spare_bytes new.spare_bytes (length (step_text (drop_literal l d.clause)))
      (subst (λ (N : Slots). size_of (live N) ≤ size_of (live (slots old))) (sym d.change) (let z = size-replaced (slots old) c d.clause (without l d.clause) d.was in let w = Rattle.q_logic.proofs.JoinedClauses.without-shorter l d.clause in omega arith))
      (let z = Rattle.q_kernel.proofs.SlotLists.size-gone (slots old) c d.clause d.was in omega arith)
      b d.logged.bytes (drop-cost old c d.clause s d.was l (held d.clause d.was)));
}
  where
    dropped : (s t len n spare left cost : ℕ) → t ≤ s → len + 1 ≤ s → 16 * (3 * s + n) ≤ spare → spare ≡ left + cost → cost ≤ 16 * (len + 1) → 16 * (t + n) ≤ left
    dropped s t len n spare left cost i j b e g = omega arith

pub changed-unit : (old new : Seen) (c : ℕ) (l : Literal) → slot (slots old) c ≡ Some (l ∷ []) → HasBecome old new (each_without (negation l) (without_literal l (live (slots old)))) → IsChanged old new (theory.unit c)
changed-unit old new c l e h = changed-by old new (theory.unit c) (each_without (negation l) (without_literal l (live (slots old)))) (ap (λ o. formula_of old.prefix (assigned (head_of o) (live (slots old)))) e) h

-- Sweeping alike formulas.
occurring-same : (P : Prefix) (X Y : Matrix) → SameClauses X Y → occurring P X ≡ occurring P Y
occurring-same [] X Y s = refl
occurring-same (b ∷ P) X Y s = let e = occurs-alike b.var X Y s in let i = occurring-same P X Y s in rw (e, i) refl

pub swept-alike : (F G : PrenexFormula) → AreAlike F G → AreAlike (swept F) (swept G)
swept-alike F G a = subst (λ (P : Prefix). AreAlike (swept F) (swept (formula_of P G.matrix))) a.prefix (rw (← has_empty-alike F.matrix G.matrix a.clauses) (go (has_empty F.matrix)))
  where
    go : (b : Bool) → AreAlike (cond b (formula_of [] ([] ∷ [])) (formula_of (occurring F.prefix F.matrix) F.matrix)) (cond b (formula_of [] ([] ∷ [])) (formula_of (occurring F.prefix G.matrix) G.matrix))
    go true = alike_itself (formula_of [] ([] ∷ []))
    go false = record { prefix = occurring-same F.prefix F.matrix G.matrix a.clauses; clauses = a.clauses }

-- The sweep at the end.
pub swept-result : (old mid new : Seen) (t : theory.Target) → IsChanged old mid t → formula_in new ≡ swept (formula_in mid) → IsLed mid new → HasResult old new t
swept-result old mid new t h e led = record {
  led = led-through old mid new h.led led;
  alike = subst (λ F. AreAlike (result_of old.prefix (slots old) t) F) (sym e) (swept-alike (change old.prefix (slots old) t) (formula_in mid) h.alike);
  ready = record {
    swept = subst IsSwept (sym e) (sweep-twice (formula_in mid));
    limits = subst (λ F. IsInLimits standard F) (sym e) (swept-in_limits standard (formula_in mid) h.limits);
  };
}
