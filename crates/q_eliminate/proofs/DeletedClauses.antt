-- Clauses that go, one after the other.
use Rattle.std.proofs.Common.{◌≡◌, ◌≤◌, ◌+◌, ◌*◌, ℕ, inr, arith, refl, sym, ap, ◌∙◌, subst, Some, length}
use Rattle.q_logic.specs.Prelude.{Literal, negation, Clause, Matrix, Prefix, IsIn, ExistsPivot, size_of, Slots, slot, live, others, without_literal, OccursIn, delete, one_less}
use Rattle.q_logic.proofs.Common.{turn-pure, IsIn-alike, one_less-IsIn, IsIn-has, without_literal-slot, IsIn-without_literal, live-slot}
use Rattle.q_log.specs.Texts.{step_text}
use Rattle.q_kernel.specs.Prelude.{Seen, slots, HasSweepBytes, IsSound, IsLed, MayDelete, IsDeleted}
use Rattle.q_kernel.proofs.SlotLists.{alike-others}
use Rattle.q_kernel.proofs.KernelRuns.{led-itself, led-through}
use Rattle.q_rule.proofs.RemovalLoops.{size-deleted, bytes-deleted, clause-bytes}
use Rattle.q_rule.proofs.RuleSteps.{clause-within, delete-cost}
use Rattle.q_rule.proofs.LoopChanges.{without_literal-none, gone-in}
use Rattle.q_eliminate.specs.Growing.{MayGoBy, MayGoByLater, HasShrunk, HasLost}

-- so far
pub record IsShrinking (m : Literal) (old now : Seen) : Type 0 where
  pub led : IsLed old now
  pub prefix : now.prefix ≡ old.prefix
  pub same : without_literal m (live (slots now)) ≡ without_literal m (live (slots old))
  pub within : (D : Clause) → IsIn D (live (slots now)) → IsIn D (live (slots old))
  pub bytes : HasSweepBytes now

pub shrinking-begun : (m : Literal) (k : Seen) → HasSweepBytes k → IsShrinking m k k
shrinking-begun m k b = record { led = led-itself k; prefix = refl; same = refl; within = λ D i. i; bytes = b }

-- The next one may go.
pub may-shrink : (m : Literal) (old now : Seen) (id : ℕ) (C : Clause) → MayGoBy old m → IsShrinking m old now → IsSound now → slot (slots now) id ≡ Some C → IsIn m C → MayDelete now id (λ D. Some m)
may-shrink m old now id C may s sound e i =
    let here : IsIn C (live (slots now)) = live-slot (slots now) id C e in
    let Z = one_less C (live (slots now)) in
    let pivot : ExistsPivot old.prefix Z C m = may C (s.within C here) i Z
    (λ D j. left D (subst (λ (X : Matrix). IsIn D X) (sym s.same) j))
    (λ D j. s.within D (one_less-IsIn C (live (slots now)) D j)) in
    let c = delete-cost now id C sound e m i in
    let b = clause-bytes now id C e s.bytes in
    record {
      clause = C;
      there = e;
      first = i;
      step = record {
        valid = (clause-within now id C sound e, here, inr (m, refl, subst (λ (P : Prefix). ExistsPivot P Z C m) (sym s.prefix) pivot));
        bytes = omega arith;
      };
    }
  where
    -- what does not hold the literal is beside the clause
    left : (D : Clause) → IsIn D (without_literal m (live (slots now))) → IsIn D (one_less C (live (slots now)))
    left D j =
        let a : IsIn D (without_literal m (others id (slots now))) = subst (λ (X : Matrix). IsIn D X) (without_literal-slot m (slots now) id C (IsIn-has m C i) e) j in
        IsIn-alike (others id (slots now)) (one_less C (live (slots now))) (alike-others (slots now) id C e) D (IsIn-without_literal m (others id (slots now)) D a).0

pub shrinking-more : (m : Literal) (old now next : Seen) (id : ℕ) → IsSound now → ((C : Clause) → slot (slots now) id ≡ Some C → IsIn m C) → IsShrinking m old now → IsDeleted now next id (λ D. Some m) → IsShrinking m old next
shrinking-more m old now next id s held d h =
    let C = h.clause in
    let i : IsIn m C = held C h.was in
    record {
      led = led-through old now next d.led h.logged.led;
      prefix = h.prefix ∙ d.prefix;
      same = ap (λ (N : Slots). without_literal m (live N)) h.change ∙ (turn-pure m (slots now) id C h.was (IsIn-has m C i) ∙ d.same);
      within = λ D j. d.within D (gone-in (slots now) id D (subst (λ (N : Slots). IsIn D (live N)) h.change j));
      bytes = subst (λ (P : Prefix). 16 * (size_of (live (slots next)) + length P) ≤ next.spare_bytes) (sym h.prefix)
          (bytes-deleted (size_of (live (slots now))) (size_of (live (slots next))) (length C) (length now.prefix) now.spare_bytes next.spare_bytes (length (step_text (delete (Some m) C)))
          (size-deleted now next id C h.was h.change) d.bytes h.logged.bytes (delete-cost now id C s h.was m i));
    }

pub shrinking-done : (m : Literal) (old now : Seen) → (OccursIn m (live (slots now)) → ⊥) → IsShrinking m old now → HasShrunk old now m
shrinking-done m old now n d = record { led = d.led; prefix = d.prefix; clauses = sym (without_literal-none m (live (slots now)) n) ∙ d.same; bytes = d.bytes }

-- One side after the other.
pub later : (k mid : Seen) (n m : Literal) → m ≡ negation n → HasShrunk k mid m → MayGoByLater k n → MayGoBy mid n
later k mid n m e h g C i j Z f z =
    let c : live (slots mid) ≡ without_literal (negation n) (live (slots k)) = h.clauses ∙ ap (λ (l : Literal). without_literal l (live (slots k))) e in
    subst (λ (P : Prefix). ExistsPivot P Z C n) (sym h.prefix)
    (g C (subst (λ (X : Matrix). IsIn C X) c i) j Z (λ D d. subst (λ (X : Matrix). IsIn D X) c (z D d)))

pub lost : (k mid new : Seen) (n m : Literal) → m ≡ negation n → HasShrunk k mid m → HasShrunk mid new n → HasLost k new n
lost k mid new n m e h g = record {
  led = led-through k mid new h.led g.led;
  prefix = g.prefix ∙ h.prefix;
  clauses = g.clauses ∙ ap (without_literal n) (h.clauses ∙ ap (λ (l : Literal). without_literal l (live (slots k))) e);
  bytes = g.bytes;
}
