-- A clause in the place of another one.
use Rattle.std.proofs.Common.{◌≡◌, ◌≢◌, ◌≤◌, ◌<◌, ◌+◌, ◌*◌, ℕ, true, false, ◌∷◌, inl, arith, sym, ap, ◌∙◌, subst, Option, Some, None, length}
use Rattle.std.proofs.lemmas.Option.{same_Some}
use Rattle.q_logic.specs.Prelude.{Clause, Matrix, Prefix, IsIn, Implied, add, delete, one_less, first_of, is_tautology, Slots, slot, live, others}
use Rattle.q_logic.proofs.Common.{live-slot, slot-alike, implied-more_clauses, SameClauses, IsIn-alike, alike-refl, alike-sym, alike-trans, alike-cons, alike-uncons, alike-swap, live-gone, length-set_slot, slot-below, slot-set_other}
use Rattle.q_log.specs.Texts.{step_text}
use Rattle.q_log.proofs.WritableRuns.{first-of}
use Rattle.q_kernel.specs.Prelude.{Seen, slots, formula_in, IsSound, MayAdd, IsAdded, MayDelete, IsDeleted}
use Rattle.q_kernel.proofs.SlotLists.{alike-added, alike-others}
use Rattle.q_kernel.proofs.KernelRuns.{led-through}
use Rattle.q_kernel.proofs.TextCosts.{cost-add, cost-delete, within-small, proper-small, proper-in_order}
use Rattle.q_equiv.specs.Changing.{MayReplace, IsReplaced}

none : (C : Clause) → (let o : Option Clause = None in o ≡ Some C) → ⊥
none C e = cc

module _ (old : Seen) (id : ℕ) (R : Clause) (h : MayReplace old id R) (s : IsSound old) where
  inside : IsIn h.clause (live (slots old))
  inside = live-slot (slots old) id h.clause h.there

  cost : length (step_text (delete (first_of h.clause) h.clause)) ≤ 16 * (length h.clause + 1)
  cost = cost-delete (first_of h.clause) h.clause (proper-in_order (formula_in old) h.clause s.proper inside) (first-of h.clause) (proper-small (formula_in old) h.clause s.proper inside)

  cost_new : length (step_text (add (first_of R) R)) ≤ 16 * (length R + 1)
  cost_new = cost-add (first_of R) R h.ordered (first-of R) (within-small (formula_in old) R s.proper h.within)

  -- where the new one is a tautology
  pub may-go_alone : is_tautology R ≡ true → MayDelete old id first_of
  may-go_alone t = record {
    clause = h.clause;
    there = h.there;
    first = first-of h.clause;
    step = record {
      valid = (
        (λ j m. s.proper.formula.closed h.clause inside j m),
        inside,
        inl (implied-more_clauses (others id (slots old)) (one_less h.clause (live (slots old))) h.clause (IsIn-alike (others id (slots old)) (one_less h.clause (live (slots old))) (alike-others (slots old) id h.clause h.there)) (rw t at h.may_go)),
      );
      bytes = let c = cost in let b = h.bytes in omega arith;
    };
  }

  pub replaced_by_nothing : (new : Seen) → is_tautology R ≡ true → IsDeleted old new id first_of → IsReplaced old new id R
  replaced_by_nothing new t d = record {
    led = d.logged.led;
    prefix = d.prefix;
    clause = h.clause;
    was = h.there;
    clauses = rw t (subst (λ (N : Slots). SameClauses (live N) (others id (slots old))) (sym d.change) (subst (λ (X : Matrix). SameClauses X (others id (slots old))) (sym (live-gone (slots old) id)) (alike-refl (others id (slots old)))));
    kept = λ c D n e. subst (λ (N : Slots). slot N c ≡ Some D) (sym d.change) (slot-set_other id c None (slots old) n ∙ e);
    words = let w = d.room.words in omega arith;
    ids = let w = d.room.ids in omega arith;
    bytes = let c : length (step_text (delete (first_of d.clause) d.clause)) ≤ 16 * (length h.clause + 1) = subst (λ (x : Clause). length (step_text (delete (first_of x) x)) ≤ 16 * (length h.clause + 1)) (same_Some h.clause d.clause (sym h.there ∙ d.was)) cost in let b = d.logged.bytes in omega arith;
  }

  -- or it comes
  pub may-come : MayAdd old (first_of R) R
  may-come = record {
    ordered = h.ordered;
    first = first-of R;
    step = record {
      valid = (h.within, inl h.may_come, h.limits);
      bytes = let c = cost_new in let b = h.bytes in omega arith;
    };
    words = h.words;
    ids = h.ids;
  }

  module _ (mid : Seen) (j : ℕ) (a : IsAdded old mid (first_of R) R j) where
    apart : id ≢ j
    apart e = none h.clause (sym a.free ∙ (ap (slot (slots old)) (sym e) ∙ h.there))

    pub still : slot (slots mid) id ≡ Some h.clause
    still = subst (λ (N : Slots). slot N id ≡ Some h.clause) (sym a.change) (slot-set_other j id (Some R) (slots old) apart ∙ h.there)

    room : j < length (slots old)
    room = let b = slot-below (slots mid) j R a.there in let e : length (slots mid) ≡ length (slots old) = ap length a.change ∙ length-set_slot j (Some R) (slots old) in omega arith

    -- what is beside the clause now
    beside : SameClauses (others id (slots mid)) (R ∷ others id (slots old))
    beside =
        let M = slots mid in
        let N = slots old in
        let C = h.clause in
        let came : SameClauses (live M) (R ∷ live N) = subst (λ (L : Slots). SameClauses (live L) (R ∷ live N)) (sym a.change) (alike-added N j R a.free room) in
        alike-uncons C (others id M) (R ∷ others id N)
        (alike-trans (C ∷ others id M) (live M) (C ∷ R ∷ others id N) (alike-sym (live M) (C ∷ others id M) (slot-alike M id C still))
        (alike-trans (live M) (R ∷ live N) (C ∷ R ∷ others id N) came
        (alike-trans (R ∷ live N) (R ∷ C ∷ others id N) (C ∷ R ∷ others id N) (alike-cons R (live N) (C ∷ others id N) (slot-alike N id C h.there)) (alike-swap R C (others id N)))))

    pub may-go_then : is_tautology R ≡ false → MayDelete mid id first_of
    may-go_then t =
        let M = slots mid in
        let C = h.clause in
        let g : Implied (R ∷ others id (slots old)) C = rw t at h.may_go in
        record {
          clause = C;
          there = still;
          first = first-of C;
          step = record {
            valid = (
              (λ k m. subst (λ (P : Prefix). Rattle.q_logic.specs.Prefixes.is_bound P k.var ≡ true) (sym a.prefix) (s.proper.formula.closed C inside k m)),
              live-slot M id C still,
              inl (implied-more_clauses (R ∷ others id (slots old)) (one_less C (live M)) C
                  (λ D m. IsIn-alike (others id M) (one_less C (live M)) (alike-others M id C still) D (IsIn-alike (R ∷ others id (slots old)) (others id M) (alike-sym (others id M) (R ∷ others id (slots old)) beside) D m)) g),
            );
            bytes = let c = cost in let n = cost_new in let b = h.bytes in let l = a.logged.bytes in omega arith;
          };
        }

    pub replaced_by_it : (new : Seen) → is_tautology R ≡ false → IsDeleted mid new id first_of → IsReplaced old new id R
    replaced_by_it new t d = record {
      led = led-through old mid new a.logged.led d.logged.led;
      prefix = d.prefix ∙ a.prefix;
      clause = h.clause;
      was = h.there;
      clauses = rw t (subst (λ (N : Slots). SameClauses (live N) (R ∷ others id (slots old))) (sym d.change) (subst (λ (X : Matrix). SameClauses X (R ∷ others id (slots old))) (sym (live-gone (slots mid) id)) beside));
      kept = λ c D n e. subst (λ (N : Slots). slot N c ≡ Some D) (sym d.change) (slot-set_other id c None (slots mid) n ∙ subst (λ (N : Slots). slot N c ≡ Some D) (sym a.change) (slot-set_other j c (Some R) (slots old) (λ f. none D (sym a.free ∙ (ap (slot (slots old)) (sym f) ∙ e))) ∙ e));
      words = let w = d.room.words in let v = a.words in omega arith;
      ids = let w = d.room.ids in let v = a.ids in omega arith;
      bytes =
          let c : length (step_text (delete (first_of d.clause) d.clause)) ≤ 16 * (length h.clause + 1) = subst (λ (x : Clause). length (step_text (delete (first_of x) x)) ≤ 16 * (length h.clause + 1)) (same_Some h.clause d.clause (sym still ∙ d.was)) cost in
          let n = cost_new in let b = d.logged.bytes in let l = a.logged.bytes in omega arith;
    }
