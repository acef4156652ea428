-- When the steps of blocked clauses are valid.
use Rattle.std.proofs.Common.{◌≡◌, ◌≤◌, ◌+◌, ◌*◌, ℕ, true, inl, inr, refl, Some, length}
use Rattle.q_logic.specs.Prelude.{Literal, negation, Clause, IsIn, is_existential, is_universal, delete, drop_literal, one_less, slot, live, others}
use Rattle.q_logic.specs.Blocking.{AllClash}
use Rattle.q_logic.proofs.Common.{IsIn-alike, alike-sym, blocked-pivot, blocked_forall-pivot}
use Rattle.q_log.specs.Texts.{step_text}
use Rattle.q_kernel.specs.Prelude.{Seen, slots, IsSound, MayDelete, MayDrop}
use Rattle.q_kernel.proofs.SlotLists.{alike-others}
use Rattle.q_rule.proofs.RuleSteps.{clause-in, clause-within, delete-cost, drop-cost, enough}

module _ (k : Seen) (id : ℕ) (C : Clause) (s : IsSound k) (there : slot (slots k) id ≡ Some C) where
  -- the clauses that are left are the others
  left-other : (D : Clause) → IsIn D (one_less C (live (slots k))) → IsIn D (others id (slots k))
  left-other D m = IsIn-alike (one_less C (live (slots k))) (others id (slots k)) (alike-sym (others id (slots k)) (one_less C (live (slots k))) (alike-others (slots k) id C there)) D m

  -- a blocked clause goes by its pivot
  pub may-go_blocked : (l : Literal) → IsIn l C → is_existential k.prefix l.var ≡ true → AllClash k.prefix (others id (slots k)) l C → 16 * (length C + 1) ≤ k.spare_bytes → MayDelete k id (λ D. Some l)
  may-go_blocked l m q a b = record {
    clause = C;
    there = there;
    first = m;
    step = record {
      valid = (clause-within k id C s there, clause-in k id C s there, inr (l, refl, blocked-pivot k.prefix (one_less C (live (slots k))) C l m q (λ D i n. a D (left-other D i) n)));
      bytes = enough (length (step_text (delete (Some l) C))) (16 * (length C + 1)) k.spare_bytes (delete-cost k id C s there l m) b;
    };
  }

  -- a universal literal on which its clause is blocked leaves it
  pub may-drop_blocked : (l : Literal) → IsIn l C → is_universal k.prefix l.var ≡ true → (IsIn (negation l) C → ⊥) → AllClash k.prefix (others id (slots k)) l C → 16 * (length C + 1) ≤ k.spare_bytes → MayDrop k id l
  may-drop_blocked l m q n a b = record {
    clause = C;
    there = there;
    step = record {
      valid = (clause-within k id C s there, clause-in k id C s there, inl (blocked_forall-pivot k.prefix (one_less C (live (slots k))) C l m q n (λ D i j. a D (left-other D i) j)));
      bytes = enough (length (step_text (drop_literal l C))) (16 * (length C + 1)) k.spare_bytes (drop-cost k id C s there l m) b;
    };
  }
