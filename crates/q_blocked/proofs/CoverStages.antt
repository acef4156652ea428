-- A covered clause goes, stage by stage.
use Rattle.std.proofs.Common.{◌≡◌, ◌≤◌, ◌<◌, ◌+◌, ◌*◌, ◌^◌, ℕ, suc, List, ◌∷◌, drop, length, get_or, arith, refl, sym, ap, ◌∙◌, subst, Some, None, Option, add-one}
use Rattle.std.proofs.Math.Seq.{drop-cons}
use Rattle.std.proofs.lemmas.List.{drop_all}
use Rattle.q_logic.specs.Prelude.{Literal, Clause, Matrix, Prefix, standard, IsInLimits, greatest, size_of, Within, literals_in, slot, live, others, formula_of}
use Rattle.q_logic.specs.Targets as theory
use Rattle.q_logic.proofs.Common.{clause_of-ordered, pairs-ordered, bounded-length, SameClauses, alike-refl, live-gone}
use Rattle.q_kernel.specs.Prelude.{Seen, slots, formula_in, IsLed}
use Rattle.q_kernel.proofs.SlotLists.{length-others, literals-others, size-others}
use Rattle.q_kernel.proofs.KernelRuns.{led-itself, led-through}
use Rattle.q_rule.specs.Becoming.{IsChanged}
use Rattle.q_rule.proofs.RuleResults.{less-limits, others-less}
use Rattle.q_blocked.specs.declared.plan.Stage.{Stage}
use Rattle.q_blocked.specs.declared.plan.Plan.{Plan}
use Rattle.q_blocked.specs.Plans.{front, MayGo, IsWay, IsPlanFor, HasRoomFor, words_of, MayReplace, IsReplaced, MayLeave, HasLeft}
use Rattle.q_blocked.proofs.ClauseFronts.{front-short, front-larger, front-within}

-- so many stages were taken
pub record IsStaged (old now : Seen) (c id : ℕ) (p : Plan) (i : ℕ) : Type 0 where
  pub from : ℕ
  pub there : slot (slots now) id ≡ Some (front p.lits.items from)
  pub beside : others id (slots now) ≡ others c (slots old)
  pub led : IsLed old now
  pub prefix : now.prefix ≡ old.prefix
  pub within : Within old.prefix p.lits.items
  pub to : ℕ
  pub way : IsWay old.prefix (others c (slots old)) p.lits.items from (drop i p.stages.items) to
  pub goes : MayGo old.prefix (others c (slots old)) (front p.lits.items to) p.last
  pub words : words_of (drop i p.stages.items) ≤ now.arena.spare_words
  pub ids : length (drop i p.stages.items) ≤ now.arena.spare_ids
  pub bytes : 16 * (size_of (others c (slots old)) + length old.prefix) + 16 * (length (front p.lits.items from) + 1) + 32 * (words_of (drop i p.stages.items) + length (drop i p.stages.items)) ≤ now.spare_bytes

pub staged-begun : (k : Seen) (c : ℕ) (p : Plan) → IsPlanFor k.prefix (slots k) c p → HasRoomFor k p.stages.items → IsStaged k k c c p 0
staged-begun k c p (C, e, h) r = record {
  from = length C;
  there = e ∙ ap (λ (D : Clause). Some D) (sym h.begins);
  beside = refl;
  led = led-itself k;
  prefix = refl;
  within = h.within;
  to = h.to;
  way = h.way;
  goes = h.goes;
  words = r.words;
  ids = r.ids;
  bytes = let z = size-others (slots k) c C e in let q : length (front p.lits.items (length C)) ≡ length C = ap length h.begins in let b = r.bytes in omega arith;
}

few : (a n b c d : ℕ) → a ≤ 2 * c + 2 → c ≤ 16777215 → n ≤ d → n ≤ 33554432 → a ≤ 33554432
few a n b c d i j k l = omega arith

-- The next stage.
module _ (old now : Seen) (c id : ℕ) (p : Plan) (i : ℕ) (s : Stage) (more : i < length p.stages.items) (is : s ≡ get_or p.stages.items i s) (h : IsStaged old now c id p i) (lim : IsInLimits standard (formula_in old)) (was : (C : Clause) × (slot (slots old) c ≡ Some C)) where
  abbrev S : List Literal
  S = p.lits.items

  abbrev X : Matrix
  X = others c (slots old)

  abbrev rest : List Stage
  rest = drop (i + 1) p.stages.items

  split : drop i p.stages.items ≡ s ∷ rest
  split = let e = drop-cons p.stages.items i s more in rw (add-one, e, ← is) refl

  step : (h.from ≤ s.to) × (s.to ≤ length S) × MayGo old.prefix (front S s.to ∷ X) (front S h.from) s.on × IsWay old.prefix X S s.to rest h.to
  step = subst (λ (ss : List Stage). IsWay old.prefix X S h.from ss h.to) split h.way

  some-words : s.to + words_of rest ≤ now.arena.spare_words
  some-words = subst (λ (ss : List Stage). words_of ss ≤ now.arena.spare_words) split h.words

  some-ids : length rest + 1 ≤ now.arena.spare_ids
  some-ids = let z : length (s ∷ rest) ≤ now.arena.spare_ids = subst (λ (ss : List Stage). length ss ≤ now.arena.spare_ids) split h.ids in omega arith

  some-bytes : 16 * (size_of X + length old.prefix) + 16 * (length (front S h.from) + 1) + 32 * (s.to + words_of rest + (length rest + 1)) ≤ now.spare_bytes
  some-bytes = let z : 16 * (size_of X + length old.prefix) + 16 * (length (front S h.from) + 1) + 32 * (words_of (s ∷ rest) + length (s ∷ rest)) ≤ now.spare_bytes = subst (λ (ss : List Stage). 16 * (size_of X + length old.prefix) + 16 * (length (front S h.from) + 1) + 32 * (words_of ss + length ss) ≤ now.spare_bytes) split h.bytes in omega arith

  bounded : (n : ℕ) → length (front S n) ≤ 2 * greatest old.prefix + 2
  bounded n = bounded-length old.prefix (front S n) (pairs-ordered (front S n) (clause_of-ordered (Rattle.std.proofs.Common.take n S))) (front-within old.prefix S n h.within)

  pub may-replace : MayReplace now id (front S s.to) s.on
  may-replace = record {
    smaller = front S h.from;
    there = h.there;
    larger = front-larger S h.from s.to step.0;
    ordered = clause_of-ordered (Rattle.std.proofs.Common.take s.to S);
    within = subst (λ (P : Prefix). Within P (front S s.to)) (sym h.prefix) (front-within old.prefix S s.to h.within);
    limits = record {
      clauses = clauses (length (live (slots now))) (length (others id (slots now))) (length X) (length (live (slots old))) (length-others (slots now) id (front S h.from) h.there) (ap length h.beside) (length-others (slots old) c was.0 was.1) lim.clauses;
      lits = lits (length (front S s.to)) (length (front S h.from)) (literals_in (live (slots now))) (literals_in (others id (slots now))) (literals_in X) (literals_in (live (slots old))) (length was.0) (greatest old.prefix)
          (bounded s.to) (bounded h.from) lim.vars (literals-others (slots now) id (front S h.from) h.there) (ap literals_in h.beside) (literals-others (slots old) c was.0 was.1) lim.lits;
    };
    words = let z = front-short S s.to in let y = some-words in omega arith;
    ids = let z = some-ids in omega arith;
    bytes = let z = front-short S s.to in let y = some-bytes in omega arith;
    goes = subst (λ (P : Prefix). MayGo P (front S s.to ∷ others id (slots now)) (front S h.from) s.on) (sym h.prefix)
        (subst (λ (Y : Matrix). MayGo old.prefix (front S s.to ∷ Y) (front S h.from) s.on) (sym h.beside) step.2);
  }
    where
      clauses : (a b x n : ℕ) → a ≡ b + 1 → b ≡ x → n ≡ x + 1 → n ≤ 33554432 → suc a ≤ 4 * 33554432
      clauses a b x n e f g h = omega arith

      lits : (t s a b x n m g : ℕ) → t ≤ 2 * g + 2 → s ≤ 2 * g + 2 → g ≤ 16777215 → a ≡ b + s → b ≡ x → n ≡ x + m → n ≤ 134217728 → t + a ≤ 4 * 134217728
      lits t s a b x n m g i j k e f o l = omega arith

  pub staged-more : (next : Seen) (new : ℕ) → IsReplaced now next id (front S s.to) new → IsStaged old next c new p (i + 1)
  staged-more next new r = record {
    from = s.to;
    there = r.there;
    beside = r.beside ∙ h.beside;
    led = led-through old now next h.led r.led;
    prefix = r.prefix ∙ h.prefix;
    within = h.within;
    to = h.to;
    way = step.3;
    goes = h.goes;
    words = let z = front-short S s.to in let y = some-words in let x = r.words in omega arith;
    ids = let y = some-ids in let x = r.ids in omega arith;
    bytes = let z = front-short S s.to in let y = some-bytes in let x = r.bytes (front S h.from) h.there in omega arith;
  }

-- The last one goes.
module _ (old now : Seen) (c id : ℕ) (p : Plan) (i : ℕ) (past : length p.stages.items ≤ i) (h : IsStaged old now c id p i) where
  ended : h.from ≡ h.to
  ended = subst (λ (ss : List Stage). IsWay old.prefix (others c (slots old)) p.lits.items h.from ss h.to) (drop_all i p.stages.items past) h.way

  pub may-leave_last : MayLeave now id p.last
  may-leave_last = record {
    clause = front p.lits.items h.from;
    there = h.there;
    goes = subst (λ (P : Prefix). MayGo P (others id (slots now)) (front p.lits.items h.from) p.last) (sym h.prefix)
        (subst (λ (Y : Matrix). MayGo old.prefix Y (front p.lits.items h.from) p.last) (sym h.beside)
        (subst (λ (n : ℕ). MayGo old.prefix (others c (slots old)) (front p.lits.items n) p.last) (sym ended) h.goes));
    bytes = let z = h.bytes in omega arith;
  }

  pub changed-cover : (next : Seen) → IsInLimits standard (formula_in old) → ((C : Clause) × (slot (slots old) c ≡ Some C)) → HasLeft now next id → IsChanged old next (theory.cover c)
  changed-cover next lim was d = record {
    led = led-through old now next h.led d.led;
    alike = record { prefix = sym (d.prefix ∙ h.prefix); clauses = subst (λ (Y : Matrix). SameClauses (others c (slots old)) Y) (sym left) (alike-refl (others c (slots old))) };
    limits = subst (λ (P : Prefix). IsInLimits standard (formula_of P (live (slots next)))) (sym (d.prefix ∙ h.prefix))
        (subst (λ (Y : Matrix). IsInLimits standard (formula_of old.prefix Y)) (sym left) (less-limits old.prefix (others c (slots old)) (live (slots old)) (others-less (slots old) c was.0 was.1) lim));
    bytes = subst (λ (P : Prefix). 16 * (size_of (live (slots next)) + length P) ≤ next.spare_bytes) (sym (d.prefix ∙ h.prefix))
        (subst (λ (Y : Matrix). 16 * (size_of Y + length old.prefix) ≤ next.spare_bytes) (sym left) (let z = h.bytes in let y = d.bytes (front p.lits.items h.from) h.there in omega arith));
  }
    where
      left : live (slots next) ≡ others c (slots old)
      left = ap live d.change ∙ (live-gone (slots now) id ∙ h.beside)
