-- A clause comes in the place of a smaller one, and a clause goes.
use Rattle.std.proofs.Common.{◌≡◌, ◌≢◌, ◌≤◌, ◌+◌, ◌*◌, ◌∙◌, ℕ, None, inl, inr, arith, refl, sym, subst, Some, Option, length, ◌∷◌}
use Rattle.std.proofs.lemmas.Option.{same_Some}
use Rattle.std.proofs.lemmas.Bool.{cases_eq}
use Rattle.q_logic.specs.Prelude.{Literal, Clause, Prefix, IsIn, Implied, ExistsPivot, add, delete, one_less, first_of, Slots, slot, set_slot, live, others}
use Rattle.q_logic.proofs.Common.{live-slot, others-slot, implied-subsumed, implied-more_clauses, IsIn-alike, alike-sym, exists_pivot-fewer, live-gone, slot-set_other, slot-set_none}
use Rattle.q_log.specs.Texts.{step_text}
use Rattle.q_log.proofs.WritableRuns.{first-of}
use Rattle.q_kernel.specs.Prelude.{Seen, slots, formula_in, IsSound, MayAdd, MayDelete, IsAdded, IsDeleted}
use Rattle.q_kernel.proofs.SlotLists.{alike-others, live-same}
use Rattle.q_kernel.proofs.KernelRuns.{led-through}
use Rattle.q_kernel.proofs.TextCosts.{AreSmall, cost-add, within-small}
use Rattle.q_rule.proofs.RuleSteps.{clause-in, clause-within, delete-cost, implied-cost, enough}
use Rattle.q_blocked.specs.Plans.{MayGo, MayReplace, IsReplaced, MayLeave, HasLeft}
use Rattle.q_rule.proofs.IdClauses.{others-find}

-- the clauses beside the smaller one, once the larger one T has come under the id e
module _ (N : Slots) (c e : ℕ) (S T : Clause) (free : slot N e ≡ None) (there : slot N c ≡ Some S) (M : Slots) (came : M ≡ set_slot e (Some T) N) (new : slot M e ≡ Some T) where
  pub apart : c ≢ e
  apart q = let z : Some S ≡ None = sym there ∙ (subst (λ (x : ℕ). slot N x ≡ None) (sym q) free) in absurd (cc)

  stays : (d : ℕ) → d ≢ e → slot M d ≡ slot N d
  stays d n = subst (λ (L : Slots). slot L d ≡ slot N d) (sym came) (slot-set_other e d (Some T) N n)

  pub smaller-there : slot M c ≡ Some S
  smaller-there = stays c apart ∙ there

  pub others-is : (D : Clause) → IsIn D (others c M) → IsIn D (T ∷ others c N)
  others-is D m =
      let r = others-find M c D m in
      elim (cases_eq r.0 e) [
        | inl q ↦ let z : Some T ≡ Some D = sym new ∙ subst (λ (x : ℕ). slot M x ≡ Some D) q r.2 in inl (cc)
        | inr n ↦ inr (others-slot N r.0 c D r.1 (sym (stays r.0 n) ∙ r.2))
      ]

  pub others-has : (D : Clause) → IsIn D (T ∷ others c N) → IsIn D (others c M)
  others-has D m = elim m [
    | inl q ↦ others-slot M e c D (λ z. apart (sym z)) (subst (λ (x : Clause). slot M e ≡ Some x) (sym q) new)
    | inr i ↦ let r = others-find N c D i in others-slot M r.0 c D r.1 (stays r.0 (λ q. let z : None ≡ Some D = sym free ∙ subst (λ (x : ℕ). slot N x ≡ Some D) q r.2 in absurd (cc)) ∙ r.2)
  ]

-- A clause may go that goes beside the others.
module _ (k : Seen) (c : ℕ) (C : Clause) (s : IsSound k) (there : slot (slots k) c ≡ Some C) where
  left-other : (D : Clause) → IsIn D (one_less C (live (slots k))) → IsIn D (others c (slots k))
  left-other D m = IsIn-alike (one_less C (live (slots k))) (others c (slots k)) (alike-sym (others c (slots k)) (one_less C (live (slots k))) (alike-others (slots k) c C there)) D m

  other-left : (D : Clause) → IsIn D (others c (slots k)) → IsIn D (one_less C (live (slots k)))
  other-left D m = IsIn-alike (others c (slots k)) (one_less C (live (slots k))) (alike-others (slots k) c C there) D m

  pub may-go_implied : Implied (others c (slots k)) C → 16 * (length C + 1) ≤ k.spare_bytes → MayDelete k c first_of
  may-go_implied i b = record {
    clause = C;
    there = there;
    first = first-of C;
    step = record {
      valid = (clause-within k c C s there, clause-in k c C s there, inl (implied-more_clauses (others c (slots k)) (one_less C (live (slots k))) C other-left i));
      bytes = enough (length (step_text (delete (first_of C) C))) (16 * (length C + 1)) k.spare_bytes (implied-cost k c C s there) b;
    };
  }

  pub may-go_pivot : (l : Literal) → ExistsPivot k.prefix (others c (slots k)) C l → 16 * (length C + 1) ≤ k.spare_bytes → MayDelete k c (λ D. Some l)
  may-go_pivot l p b = record {
    clause = C;
    there = there;
    first = p.in_clause;
    step = record {
      valid = (clause-within k c C s there, clause-in k c C s there, inr (l, refl, exists_pivot-fewer k.prefix (others c (slots k)) (one_less C (live (slots k))) C l other-left left-other p));
      bytes = enough (length (step_text (delete (Some l) C))) (16 * (length C + 1)) k.spare_bytes (delete-cost k c C s there l p.in_clause) b;
    };
  }

pub left-by : (old new : Seen) (c : ℕ) (p : Clause → Option Literal) (C : Clause) → slot (slots old) c ≡ Some C → length (step_text (delete (p C) C)) ≤ 16 * (length C + 1) → IsDeleted old new c p → HasLeft old new c
left-by old new c p C there cost d = record {
  change = d.change;
  led = d.logged.led;
  prefix = d.prefix;
  room = d.room;
  bytes = λ S e. total S (same_Some S C (sym e ∙ there));
}
  where
    is : d.clause ≡ C
    is = same_Some d.clause C (sym d.was ∙ there)

    count : (a b cost n : ℕ) → a ≡ b + cost → cost ≤ 16 * (n + 1) → a ≤ b + 16 * (n + 1)
    count a b cost n e h = omega arith

    total : (S : Clause) → S ≡ C → old.spare_bytes ≤ new.spare_bytes + 16 * (length S + 1)
    total S e = subst (λ (x : Clause). old.spare_bytes ≤ new.spare_bytes + 16 * (length x + 1)) (sym e)
        (count old.spare_bytes new.spare_bytes (length (step_text (delete (p C) C))) (length C) (subst (λ (x : Clause). old.spare_bytes ≡ new.spare_bytes + length (step_text (delete (p x) x))) is d.logged.bytes) cost)

-- The larger clause may come.
pub may-come : (k : Seen) (c : ℕ) (T : Clause) (on : Option Literal) → IsSound k → MayReplace k c T on → MayAdd k (first_of T) T
may-come k c T on s h = record {
  ordered = h.ordered;
  first = first-of T;
  step = record {
    valid = (h.within, inl (implied-subsumed (live (slots k)) h.smaller T (live-slot (slots k) c h.smaller h.there) h.larger), h.limits);
    bytes = enough (length (step_text (add (first_of T) T))) (16 * (length T + 1)) k.spare_bytes (cost-add (first_of T) T h.ordered (first-of T) (within-small (formula_in k) T s.proper h.within)) (part (16 * (length T + 1)) (16 * (length h.smaller + 1)) k.spare_bytes h.bytes);
  };
  words = h.words;
  ids = h.ids;
}
  where
    part : (a b c : ℕ) → a + b ≤ c → a ≤ c
    part a b c h = omega arith

-- Then the smaller one may go.
module _ (k m : Seen) (c e : ℕ) (T : Clause) (on : Option Literal) (s : IsSound k) (h : MayReplace k c T on) (a : IsAdded k m (first_of T) T e) where
  small : AreSmall T
  small = within-small (formula_in k) T s.proper h.within

  came-cost : length (step_text (add (first_of T) T)) ≤ 16 * (length T + 1)
  came-cost = cost-add (first_of T) T h.ordered (first-of T) small

  left-is : (D : Clause) → IsIn D (others c (slots m)) → IsIn D (T ∷ others c (slots k))
  left-is = others-is (slots k) c e h.smaller T a.free h.there (slots m) a.change a.there

  left-has : (D : Clause) → IsIn D (T ∷ others c (slots k)) → IsIn D (others c (slots m))
  left-has = others-has (slots k) c e h.smaller T a.free h.there (slots m) a.change a.there

  goes : (o : Option Literal) → MayGo k.prefix (T ∷ others c (slots k)) h.smaller o → MayGo m.prefix (others c (slots m)) h.smaller o
  goes None i = implied-more_clauses (T ∷ others c (slots k)) (others c (slots m)) h.smaller left-has i
  goes (Some l) p = subst (λ (P : Prefix). ExistsPivot P (others c (slots m)) h.smaller l) (sym a.prefix) (exists_pivot-fewer k.prefix (T ∷ others c (slots k)) (others c (slots m)) h.smaller l left-has left-is p)

  left-over : (s t b left cost : ℕ) → 16 * (t + 1) + 16 * (s + 1) ≤ b → b ≡ left + cost → cost ≤ 16 * (t + 1) → 16 * (s + 1) ≤ left
  left-over s t b left cost h e f = omega arith

  pub may-leave : MayLeave m c on
  may-leave = record {
    clause = h.smaller;
    there = smaller-there (slots k) c e h.smaller T a.free h.there (slots m) a.change a.there;
    goes = goes on h.goes;
    bytes = left-over (length h.smaller) (length T) k.spare_bytes m.spare_bytes (length (step_text (add (first_of T) T))) h.bytes a.logged.bytes came-cost;
  }

  -- what is left then
  pub replaced : (n : Seen) → HasLeft m n c → IsReplaced k n c T e
  replaced n d = record {
    there = subst (λ (L : Slots). slot L e ≡ Some T) (sym d.change) (slot-set_other c e None (slots m) (λ q. away (sym q)) ∙ a.there);
    beside = sym (live-gone (slots n) e) ∙ (live-same (set_slot e None (slots n)) (set_slot c None (slots k)) each ∙ live-gone (slots k) c);
    led = led-through k m n a.logged.led d.led;
    prefix = d.prefix ∙ a.prefix;
    words = let x = a.words in let y = d.room.words in omega arith;
    ids = let x = a.ids in let y = d.room.ids in omega arith;
    bytes = λ S q. let z : S ≡ h.smaller = same_Some S h.smaller (sym q ∙ h.there) in
        total (length T) (length S) k.spare_bytes m.spare_bytes n.spare_bytes (length (step_text (add (first_of T) T))) a.logged.bytes came-cost
        (d.bytes S (subst (λ (x : Clause). slot (slots m) c ≡ Some x) (sym z) (smaller-there (slots k) c e h.smaller T a.free h.there (slots m) a.change a.there)));
  }
    where
      away : c ≢ e
      away = apart (slots k) c e h.smaller T a.free h.there (slots m) a.change a.there

      total : (t s b left last cost : ℕ) → b ≡ left + cost → cost ≤ 16 * (t + 1) → left ≤ last + 16 * (s + 1) → b ≤ last + (16 * (t + 1) + 16 * (s + 1))
      total t s b left last cost e f g = omega arith

      gone-slot : (N : Slots) (d : ℕ) → slot (set_slot d None N) d ≡ None
      gone-slot N d = slot-set_none d N

      rest : (j : ℕ) → j ≢ e → slot (set_slot c None (slots m)) j ≡ slot (set_slot c None (slots k)) j
      rest j n1 = elim (cases_eq j c) [
        | inl q ↦ subst (λ (x : ℕ). slot (set_slot c None (slots m)) x ≡ slot (set_slot c None (slots k)) x) (sym q) (gone-slot (slots m) c ∙ sym (gone-slot (slots k) c))
        | inr n2 ↦ slot-set_other c j None (slots m) n2 ∙ (stays (slots k) c e h.smaller T a.free h.there (slots m) a.change a.there j n1 ∙ sym (slot-set_other c j None (slots k) n2))
      ]

      each : (j : ℕ) → slot (set_slot e None (slots n)) j ≡ slot (set_slot c None (slots k)) j
      each j = elim (cases_eq j e) [
        | inl q ↦ subst (λ (x : ℕ). slot (set_slot e None (slots n)) x ≡ slot (set_slot c None (slots k)) x) (sym q) (gone-slot (slots n) e ∙ sym (slot-set_other c e None (slots k) (λ q. away (sym q)) ∙ a.free))
        | inr n1 ↦ slot-set_other e j None (slots n) n1 ∙ subst (λ (L : Slots). slot L j ≡ slot (set_slot c None (slots k)) j) (sym d.change) (rest j n1)
      ]
