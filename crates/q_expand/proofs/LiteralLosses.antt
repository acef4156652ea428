-- A literal leaves clause after clause, and may still leave the others.
use Rattle.std.proofs.Common.{◌≡◌, ◌⊎◌, ◌≤◌, ◌<◌, ◌+◌, ◌*◌, ℕ, true, ◌∷◌, length, Some, sym, ap, ◌∙◌, subst, inl, inr, arith, refl}
use Rattle.q_logic.specs.Prelude.{Literal, negation, Clause, Prefix, IsIn, is_universal, without, Reached, with_literal, each_without, drop_literal, size_of, Slots, slot, set_slot, live, others}
use Rattle.q_logic.proofs.Common.{IsIn-alike, reached-more, IsIn-has, without-IsIn, others-live, live-slot}
use Rattle.q_logic.proofs.HintedRuns.{live-changed}
use Rattle.q_log.specs.Texts.{step_text}
use Rattle.q_kernel.specs.Prelude.{Seen, slots, IsSound, MayDrop, IsDropped, IsLed}
use Rattle.q_kernel.proofs.KernelRuns.{led-itself, led-through, lost-literal}
use Rattle.q_rule.proofs.RuleSteps.{may-drop_reducible, drop-cost}
use Rattle.q_rule.proofs.LoopChanges.{turn-shorter, with-shorter, each_without-none}
use Rattle.q_expand.specs.Apart.{MayLose, HasLost}

-- so far
pub record IsLosing (l : Literal) (old now : Seen) : Type 0 where
  pub may : MayLose now l
  pub led : IsLed old now
  pub prefix : now.prefix ≡ old.prefix
  pub same : each_without l (live (slots now)) ≡ each_without l (live (slots old))
  pub bytes : (later : ℕ) → 16 * size_of (with_literal l (live (slots old))) + later ≤ old.spare_bytes → 16 * size_of (with_literal l (live (slots now))) + later ≤ now.spare_bytes

pub losing-begun : (l : Literal) (k : Seen) → MayLose k l → IsLosing l k k
losing-begun l k m = record { may = m; led = led-itself k; prefix = refl; same = refl; bytes = λ later h. h }

module _ (l : Literal) (N : Slots) (c : ℕ) (E : Clause) (there : slot N c ≡ Some E) where
  after-in : (D : Clause) → IsIn D (live (set_slot c (Some (without l E)) N)) → (D ≡ without l E) ⊎ IsIn D (live N)
  after-in D m = elim (IsIn-alike (live (set_slot c (Some (without l E)) N)) (without l E ∷ others c N) (live-changed N c E (without l E) there) D m) [
    | inl e ↦ inl e
    | inr i ↦ inr (others-live N c D i)
  ]

  abbrev Good : Prefix → Clause → Type 0
  Good P D = (D ≡ without l E) ⊎ ((C : Clause) × IsIn C (live N) × IsIn l C × Reached P (live N) C l D)

  good : (P : Prefix) (C : Clause) → IsIn C (live N) → IsIn l C → IsIn l E → (D : Clause) → Reached P (live (set_slot c (Some (without l E)) N)) C l D → Good P D
  good P C m i h D Reached.first = inr (C, m, i, Reached.first)
  good P C m i h E2 (Reached.next {D = B} F k j n e o inX f r) = go (good P C m i h B r) (after-in E2 inX)
    where
      go : Good P B → (E2 ≡ without l E) ⊎ IsIn E2 (live N) → Good P E2
      go b (inl q) = inl q
      go (inl q) (inr d) = inr (E, live-slot N c E there, h, Reached.next E2 k (without-IsIn l E k (subst (λ (x : Clause). IsIn k x) q j)) n e o d f Reached.first)
      go (inr (A, a, b, s)) (inr d) = inr (A, a, b, Reached.next E2 k j n e o d f s)

-- one clause less
pub lose-more : (l : Literal) (k n : Seen) (c : ℕ) (E : Clause) → slot (slots k) c ≡ Some E → IsIn l E → slots n ≡ set_slot c (Some (without l E)) (slots k) → n.prefix ≡ k.prefix → MayLose k l → MayLose n l
lose-more l k n c E there h change p m = record {
  universal = subst (λ (P : Prefix). is_universal P l.var ≡ true) (sym p) m.universal;
  none = λ C D i j r x.
      let i2 : IsIn C (live (set_slot c (Some (without l E)) (slots k))) = subst (λ (M : Slots). IsIn C (live M)) change i in
      let r2 : Reached k.prefix (live (set_slot c (Some (without l E)) (slots k))) C l D = subst (λ (P : Prefix). Reached P (live (set_slot c (Some (without l E)) (slots k))) C l D) p (subst (λ (M : Slots). Reached n.prefix (live M) C l D) change r) in
      elim (after-in l (slots k) c E there C i2) [
        | inl q ↦ lost-literal l E (subst (λ (y : Clause). IsIn l y) q j)
        | inr d ↦ elim (good l (slots k) c E there k.prefix C d j h D r2) [
          | inl q ↦ m.none E E (live-slot (slots k) c E there) h Reached.first (without-IsIn l E (negation l) (subst (λ (y : Clause). IsIn (negation l) y) q x))
          | inr g ↦ m.none g.0 D g.1 g.2 g.3 x
        ]
      ];
}

pub may-lose : (l : Literal) (k : Seen) (c : ℕ) (C : Clause) → IsSound k → slot (slots k) c ≡ Some C → IsIn l C → MayLose k l → 16 * (length C + 1) ≤ k.spare_bytes → MayDrop k c l
may-lose l k c C s there h m b = may-drop_reducible k c C s there l (record {
  universal_literal = m.universal;
  in_clause = h;
  no_negation = λ D r. m.none C D (live-slot (slots k) c C there) h (reached-more k.prefix (others c (slots k)) (live (slots k)) C l (λ E i. others-live (slots k) c E i) D r);
}) b

spent : (w t len x spare left cost : ℕ) → t + (len + 1) ≡ w → 16 * w + x ≤ spare → spare ≡ left + cost → cost ≤ 16 * (len + 1) → 16 * t + x ≤ left
spent w t len x spare left cost e h f g = omega arith

pub losing-room : (l : Literal) (old k : Seen) (c : ℕ) (C : Clause) → slot (slots k) c ≡ Some C → IsIn l C → 16 * size_of (with_literal l (live (slots old))) ≤ old.spare_bytes → IsLosing l old k → 16 * (length C + 1) ≤ k.spare_bytes
losing-room l old k c C there h b g = room (size_of (with_literal l (live (set_slot c (Some (without l C)) (slots k))))) (length C) (size_of (with_literal l (live (slots k)))) k.spare_bytes (with-shorter l (slots k) c C there (IsIn-has l C h)) (g.bytes 0 (let z = b in omega arith))
  where
    room : (t len w spare : ℕ) → t + (len + 1) ≡ w → 16 * w + 0 ≤ spare → 16 * (len + 1) ≤ spare
    room t len w spare e i = omega arith

pub losing-more : (l : Literal) (old k n : Seen) (c : ℕ) → IsSound k → ((C : Clause) → slot (slots k) c ≡ Some C → IsIn l C) → IsLosing l old k → IsDropped k n c l → IsLosing l old n
losing-more l old k n c s held g d =
    let h = held d.clause d.was in
    record {
      may = lose-more l k n c d.clause d.was h d.change d.prefix g.may;
      led = led-through old k n g.led d.logged.led;
      prefix = d.prefix ∙ g.prefix;
      same = ap (λ (M : Slots). each_without l (live M)) d.change ∙ (turn-shorter l (slots k) c d.clause d.was ∙ g.same);
      bytes = λ later b.
          spent (size_of (with_literal l (live (slots k)))) (size_of (with_literal l (live (slots n)))) (length d.clause) later k.spare_bytes n.spare_bytes (length (step_text (drop_literal l d.clause)))
          (subst (λ (M : Slots). size_of (with_literal l (live M)) + (length d.clause + 1) ≡ size_of (with_literal l (live (slots k)))) (sym d.change) (with-shorter l (slots k) c d.clause d.was (IsIn-has l d.clause h)))
          (g.bytes later b) d.logged.bytes (drop-cost k c d.clause s d.was l h);
    }

pub losing-done : (l : Literal) (old k : Seen) → ((D : Clause) → IsIn D (live (slots k)) → IsIn l D → ⊥) → IsLosing l old k → HasLost old k l
losing-done l old k n g = record {
  led = g.led;
  prefix = g.prefix;
  matrix = sym (each_without-none l (live (slots k)) (λ (D, m, i). n D m i)) ∙ g.same;
  bytes = λ later b. let z = g.bytes later b in omega arith;
}
