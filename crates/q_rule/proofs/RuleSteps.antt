-- When each step of the rules is valid, and what it costs.
use Rattle.std.proofs.Common.{◌≡◌, ◌≤◌, ◌+◌, ◌*◌, ℕ, suc, true, [], ◌∷◌, inl, inr, arith, refl, Some, length}
use Rattle.q_logic.specs.Prelude.{Literal, IsBelow, negation, Clause, IsIn, ArePairs, without, is_existential, is_universal, Reducible, standard, IsInLimits, add, delete, drop_literal, one_less, literals_in, Within, KeepsLimits, first_of, IsTautology, OccursIn, slot, live, others}
use Rattle.q_logic.proofs.Common.{live-slot, without-shorter, without-IsIn, implied-tautology, IsIn-alike, reducible-fewer, alike-sym, one_less-IsIn, pure-pivot, pure-reducible, without-in_order}
use Rattle.q_log.specs.Texts.{step_text}
use Rattle.q_log.proofs.WritableRuns.{first-of}
use Rattle.q_kernel.specs.Prelude.{Seen, slots, formula_in, IsSound, MayDelete, MayDrop, MayShrink}
use Rattle.q_kernel.proofs.SlotLists.{alike-others, literals-others}
use Rattle.q_kernel.proofs.TextCosts.{AreSmall, cost-delete, cost-drop, cost-shrink, proper-small, proper-in_order}
use Rattle.q_rule.proofs.LoopChanges.{unit-shorter}

pub enough : (a b c : ℕ) → a ≤ b → b ≤ c → a ≤ c
enough a b c h i = omega arith

-- A clause of a sound kernel.
module _ (k : Seen) (id : ℕ) (C : Clause) (s : IsSound k) (there : slot (slots k) id ≡ Some C) where
  pub clause-in : IsIn C (live (slots k))
  clause-in = live-slot (slots k) id C there

  pub clause-within : Within k.prefix C
  clause-within j m = s.proper.formula.closed C clause-in j m

  clause-ordered : ArePairs IsBelow C
  clause-ordered = proper-in_order (formula_in k) C s.proper clause-in

  clause-small : AreSmall C
  clause-small = proper-small (formula_in k) C s.proper clause-in

  pub delete-cost : (l : Literal) → IsIn l C → length (step_text (delete (Some l) C)) ≤ 16 * (length C + 1)
  delete-cost l m = cost-delete (Some l) C clause-ordered m clause-small

  pub implied-cost : length (step_text (delete (first_of C) C)) ≤ 16 * (length C + 1)
  implied-cost = cost-delete (first_of C) C clause-ordered (first-of C) clause-small

  pub drop-cost : (l : Literal) → IsIn l C → length (step_text (drop_literal l C)) ≤ 16 * (length C + 1)
  drop-cost l m = cost-drop l C clause-ordered m clause-small

  pub shrink-cost : (l : Literal) → length (step_text (add (first_of (without l C)) (without l C))) + length (step_text (delete (first_of C) C)) ≤ 32 * (length C + 1)
  shrink-cost l = cost-shrink l C clause-ordered (without-in_order l C clause-ordered) clause-small

  -- a tautology goes
  pub may-go_tautology : IsTautology C → 16 * (length C + 1) ≤ k.spare_bytes → MayDelete k id first_of
  may-go_tautology t b = record {
    clause = C;
    there = there;
    first = first-of C;
    step = record {
      valid = (clause-within, clause-in, inl (implied-tautology (one_less C (live (slots k))) C t));
      bytes = enough (length (step_text (delete (first_of C) C))) (16 * (length C + 1)) k.spare_bytes implied-cost b;
    };
  }

  -- a clause goes by a pure pivot
  pub may-go_pure : (l : Literal) → IsIn l C → is_existential k.prefix l.var ≡ true → (OccursIn (negation l) (live (slots k)) → ⊥) → 16 * (length C + 1) ≤ k.spare_bytes → MayDelete k id (λ D. Some l)
  may-go_pure l m q n b = record {
    clause = C;
    there = there;
    first = m;
    step = record {
      valid = (clause-within, clause-in, inr (l, refl, pure-pivot k.prefix (one_less C (live (slots k))) C l m q (λ D i h. n (D, one_less-IsIn C (live (slots k)) D i, h))));
      bytes = enough (length (step_text (delete (Some l) C))) (16 * (length C + 1)) k.spare_bytes (delete-cost l m) b;
    };
  }

  -- a clause loses a reducible literal
  pub may-drop_reducible : (l : Literal) → Reducible k.prefix (others id (slots k)) C l → 16 * (length C + 1) ≤ k.spare_bytes → MayDrop k id l
  may-drop_reducible l r b = record {
    clause = C;
    there = there;
    step = record {
      valid = (clause-within, clause-in, inr (reducible-fewer k.prefix (others id (slots k)) (one_less C (live (slots k))) C l (IsIn-alike (one_less C (live (slots k))) (others id (slots k)) (alike-sym (others id (slots k)) (one_less C (live (slots k))) (alike-others (slots k) id C there))) r));
      bytes = enough (length (step_text (drop_literal l C))) (16 * (length C + 1)) k.spare_bytes (drop-cost l r.in_clause) b;
    };
  }

  -- or a pure one
  pub may-drop_pure : (l : Literal) → IsIn l C → is_universal k.prefix l.var ≡ true → (OccursIn (negation l) (live (slots k)) → ⊥) → 16 * (length C + 1) ≤ k.spare_bytes → MayDrop k id l
  may-drop_pure l m q n b = record {
    clause = C;
    there = there;
    step = record {
      valid = (clause-within, clause-in, inr (pure-reducible k.prefix (one_less C (live (slots k))) C l m q (λ D i h. n (D, one_less-IsIn C (live (slots k)) D i, h)) (λ h. n (C, clause-in, h))));
      bytes = enough (length (step_text (drop_literal l C))) (16 * (length C + 1)) k.spare_bytes (drop-cost l m) b;
    };
  }

  -- one clause more keeps far within the limits
  pub one-more : (l : Literal) → IsInLimits standard (formula_in k) → KeepsLimits standard (without l C ∷ live (slots k))
  one-more l h = record {
    clauses = few (length (live (slots k))) h.clauses;
    lits = some (length (without l C)) (length C) (literals_in (live (slots k))) (literals_in (others id (slots k))) (without-shorter l C) h.lits (literals-others (slots k) id C there);
  }
    where
      few : (n : ℕ) → n ≤ 33554432 → suc n ≤ 4 * 33554432
      few n h = omega arith

      some : (a c n m : ℕ) → a ≤ c → n ≤ 134217728 → n ≡ m + c → a + n ≤ 4 * 134217728
      some a c n m i h e = omega arith

  -- a clause loses the negation of a unit clause's literal
  pub may-shrink_unit : (l : Literal) → IsIn (negation l) C → IsIn (l ∷ []) (live (slots k)) → IsInLimits standard (formula_in k) → 32 * (length C + 1) ≤ k.spare_bytes → MayShrink k id (negation l)
  may-shrink_unit l m u h b = record {
    clause = C;
    there = there;
    held = m;
    valid = ((λ j i. clause-within j (without-IsIn (negation l) C j i)), inl (unit-shorter (live (slots k)) l C u clause-in), one-more (negation l) h);
    bytes = enough (length (step_text (add (first_of (without (negation l) C)) (without (negation l) C))) + length (step_text (delete (first_of C) C))) (32 * (length C + 1)) k.spare_bytes (shrink-cost (negation l)) b;
  }
