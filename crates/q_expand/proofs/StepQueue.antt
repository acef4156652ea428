-- Steps to come are taken one by one.
use Rattle.std.proofs.Common.{◌≡◌, ◌≢◌, ◌≤◌, ◌<◌, ◌+◌, ◌*◌, ℕ, List, [], ◌∷◌, ◌++◌, length, Some, None, Option, sym, ◌∙◌, ap, subst, inl, inr, arith, append_assoc}
use Rattle.std.proofs.lemmas.Bool.{cases_eq}
use Rattle.q_logic.specs.Prelude.{Literal, IsBelow, Clause, PrenexFormula, ArePairs, ProofStep, add, delete, drop_literal, fresh, Valid, after, IsFirst, standard, slot, AreAlike}
use Rattle.q_logic.proofs.Common.{existential-is_bound, alike_swapped, alike_through, live-slot, slot-set_other}
use Rattle.q_log.specs.Texts.{step_text}
use Rattle.q_kernel.specs.Prelude.{Seen, slots, formula_in, IsSound, MayAdd, IsAdded, MayDelete, IsDeleted, MayFresh, IsFreshened}
use Rattle.q_kernel.proofs.TextCosts.{cost-add, cost-delete, cost-fresh, proper-var, within-small, proper-in_order}
use Rattle.q_kernel.proofs.KernelRuns.{steps-same, alike-after_add, alike-after_delete, alike-after_fresh, led-through, led-itself}
use Rattle.q_expand.specs.Tracks.{price, words_for, ids_for, vars_for, total, IsReserved, AreReserved, IsOnTrack, CanTake, HasTaken, KeepsClauses}

pub took-none : (k : Seen) → HasTaken k k []
took-none k = record { led = led-itself k; track = λ rest later G h. h }

pub took-through : (a b c : Seen) (ss more : List ProofStep) → HasTaken a b ss → HasTaken b c more → HasTaken a c (ss ++ more)
took-through a b c ss more f g = record {
  led = led-through a b c f.led g.led;
  track = λ rest later G h. g.track rest later G (f.track (more ++ rest) later G (subst (λ (xs : List ProofStep). IsOnTrack a xs later G) (append_assoc ss more rest) h));
}

pub took-same : (a b : Seen) (ss more : List ProofStep) → ss ≡ more → HasTaken a b ss → HasTaken a b more
took-same a b ss more e f = subst (HasTaken a b) e f

-- what is left after the first part may be taken
pub can-rest : (a b : Seen) (ss more : List ProofStep) → HasTaken a b ss → CanTake a (ss ++ more) → CanTake b more
can-rest a b ss more f (rest, later, G, h) = (rest, later, G, f.track (more ++ rest) later G (subst (λ (xs : List ProofStep). IsOnTrack a xs later G) (append_assoc ss more rest) h))

pub can-first : (k : Seen) (ss more : List ProofStep) → CanTake k (ss ++ more) → CanTake k ss
can-first k ss more (rest, later, G, h) = (more ++ rest, later, G, subst (λ (xs : List ProofStep). IsOnTrack k xs later G) (append_assoc ss more rest) h)

pub can-same : (k : Seen) (ss more : List ProofStep) → ss ≡ more → CanTake k ss → CanTake k more
can-same k ss more e h = subst (CanTake k) e h

enough : (a b c d : ℕ) → a ≤ b → b + d ≤ c → a ≤ c
enough a b c d h i = omega arith

most : (t p r l o n : ℕ) → t ≤ p → p + r + l ≤ o → o ≡ n + t → r + l ≤ n
most t p r l o n h i e = omega arith

-- One step less to come.
track-on : (k n : Seen) (s : ProofStep) → length (step_text s) ≤ price s → AreAlike (after (formula_in k) s) (formula_in n) → k.spare_bytes ≡ n.spare_bytes + length (step_text s)
    → k.arena.spare_words ≤ n.arena.spare_words + words_for s → k.arena.spare_ids ≤ n.arena.spare_ids + ids_for s → k.spare_vars ≤ n.spare_vars + vars_for s → k.greatest ≤ n.greatest
    → (rest : List ProofStep) (later : ℕ) (G : PrenexFormula) → IsOnTrack k (s ∷ rest) later G → IsOnTrack n rest later G
track-on k n s cheap a b w i v g rest later G h =
    let r = steps-same standard (after (formula_in k) s) (formula_in n) rest h.last a h.valid.1 in
    record {
      last = r.0;
      valid = r.1;
      alike = alike_through r.0 h.last G (alike_swapped h.last r.0 r.2) h.alike;
      bytes = most (length (step_text s)) (price s) (total price rest) later k.spare_bytes n.spare_bytes cheap h.bytes b;
      words = less (words_for s) (total words_for rest) k.arena.spare_words n.arena.spare_words h.words w;
      ids = less (ids_for s) (total ids_for rest) k.arena.spare_ids n.arena.spare_ids h.ids i;
      vars = less (vars_for s) (total vars_for rest) k.spare_vars n.spare_vars h.vars v;
      reserved = higher rest h.reserved.1;
    }
  where
    less : (x r o n : ℕ) → x + r ≤ o → o ≤ n + x → r ≤ n
    less x r o n a b = omega arith

    higher_one : (s : ProofStep) → IsReserved k.greatest s → IsReserved n.greatest s
    higher_one (add p C) h = tt
    higher_one (delete p C) h = tt
    higher_one (drop_literal l C) h = tt
    higher_one (fresh x y) h = omega arith
    higher_one (Rattle.q_logic.specs.Steps.remove_variable x) h = tt

    higher : (ss : List ProofStep) → AreReserved k.greatest ss → AreReserved n.greatest ss
    higher [] h = tt
    higher (x ∷ ss) h = (higher_one x h.0, higher ss h.1)

-- An addition.
pub add-may : (k : Seen) (p : Option Literal) (C : Clause) → IsSound k → ArePairs IsBelow C → IsFirst p C → CanTake k (add p C ∷ []) → MayAdd k p C
add-may k p C s o f (rest, later, G, h) =
    record {
      ordered = o;
      first = f;
      step = record { valid = h.valid.0; bytes = enough (length (step_text (add p C))) (16 * (length C + 1)) k.spare_bytes (total price rest + later) (cost-add p C o f (within-small (formula_in k) C s.proper h.valid.0.0)) (let b = h.bytes in omega arith) };
      words = enough (length C) (length C) k.arena.spare_words (total words_for rest) (omega arith) h.words;
      ids = enough 1 1 k.arena.spare_ids (total ids_for rest) (omega arith) h.ids;
    }

pub add-took : (k n : Seen) (p : Option Literal) (C : Clause) (id : ℕ) → IsSound k → ArePairs IsBelow C → IsFirst p C → CanTake k (add p C ∷ []) → IsAdded k n p C id → HasTaken k n (add p C ∷ [])
add-took k n p C id s o f c a = record {
  led = a.logged.led;
  track = track-on k n (add p C) (cost-add p C o f (within-small (formula_in k) C s.proper c.3.valid.0.0)) (alike-after_add k n p C id a.free a.change a.there a.prefix) a.logged.bytes a.words a.ids (let v = a.vars in omega arith) a.greatest;
}

pub add-keeps : (k n : Seen) (p : Option Literal) (C : Clause) (id : ℕ) → IsAdded k n p C id → KeepsClauses k n
add-keeps k n p C id a c D e = elim (cases_eq c id) [
  | inl f ↦ absurd (none_some D (sym (subst (λ (x : ℕ). slot (slots k) x ≡ None) (sym f) a.free) ∙ e))
  | inr d ↦ ap (λ N. slot N c) a.change ∙ (slot-set_other id c (Some C) (slots k) d ∙ e)
]
  where
    none_some : (D : Clause) → None ≡ Some D → ⊥
    none_some D e = cc

-- A deletion.
pub delete-may : (k : Seen) (id : ℕ) (q : Clause → Option Literal) (C : Clause) → IsSound k → slot (slots k) id ≡ Some C → IsFirst (q C) C → CanTake k (delete (q C) C ∷ []) → MayDelete k id q
delete-may k id q C s e f (rest, later, G, h) =
    record {
      clause = C;
      there = e;
      first = f;
      step = record {
        valid = h.valid.0;
        bytes = enough (length (step_text (delete (q C) C))) (16 * (length C + 1)) k.spare_bytes (total price rest + later)
            (cost-delete (q C) C (proper-in_order (formula_in k) C s.proper (live-slot (slots k) id C e)) f (within-small (formula_in k) C s.proper h.valid.0.0)) (let b = h.bytes in omega arith);
      };
    }

pub delete-took : (k n : Seen) (id : ℕ) (q : Clause → Option Literal) (C : Clause) → IsSound k → slot (slots k) id ≡ Some C → IsFirst (q C) C → CanTake k (delete (q C) C ∷ []) → IsDeleted k n id q → HasTaken k n (delete (q C) C ∷ [])
delete-took k n id q C s e f c d = subst (λ (D : Clause). HasTaken k n (delete (q D) D ∷ [])) same (record {
  led = d.logged.led;
  track = track-on k n (delete (q d.clause) d.clause)
      (cost-delete (q d.clause) d.clause (proper-in_order (formula_in k) d.clause s.proper (live-slot (slots k) id d.clause d.was)) (subst (λ (D : Clause). IsFirst (q D) D) (sym same) f) (within-small (formula_in k) d.clause s.proper (s.proper.formula.closed d.clause (live-slot (slots k) id d.clause d.was))))
      (alike-after_delete k n (q d.clause) d.clause id d.was d.change d.prefix) d.logged.bytes (let w = d.room.words in omega arith) (let w = d.room.ids in omega arith) (let w = d.room.vars in omega arith) d.room.greatest;
})
  where
    same : d.clause ≡ C
    same = let g : Some d.clause ≡ Some C = sym d.was ∙ e in cc

-- A fresh variable.
pub fresh-may : (k : Seen) (v w : ℕ) → IsSound k → CanTake k (fresh v w ∷ []) → MayFresh k v w
fresh-may k v w s (rest, later, G, h) = record {
  step = record { valid = h.valid.0; bytes = enough (length (step_text (fresh v w))) 32 k.spare_bytes (total price rest + later) (cost-fresh v w (small v h.valid.0.within) (proper-var (formula_in k) w s.proper (existential-is_bound k.prefix w h.valid.0.behind)).1) (let b = h.bytes in omega arith) };
  reserved = h.reserved.0;
  spare = let b = h.vars in omega arith;
}
  where
    small : (x : ℕ) → x ≤ 16777215 → x < 2147483648
    small x a = omega arith

pub fresh-took : (k n : Seen) (v w : ℕ) → IsSound k → CanTake k (fresh v w ∷ []) → IsFreshened k n v w → HasTaken k n (fresh v w ∷ [])
fresh-took k n v w s c f = record {
  led = f.logged.led;
  track = track-on k n (fresh v w) (cost-fresh v w (small v c.3.valid.0.within) (proper-var (formula_in k) w s.proper (existential-is_bound k.prefix w c.3.valid.0.behind)).1) (alike-after_fresh k n v w f.prefix f.change) f.logged.bytes (let x = f.words in omega arith) (let x = f.ids in omega arith) (let x = f.vars in omega arith) f.greatest;
}
  where
    small : (x : ℕ) → x ≤ 16777215 → x < 2147483648
    small x a = omega arith

pub keeps-itself : (k : Seen) → KeepsClauses k k
keeps-itself k c C e = e

pub keeps-through : (a b d : Seen) → KeepsClauses a b → KeepsClauses b d → KeepsClauses a d
keeps-through a b d f g c C e = g c C (f c C e)

pub delete-others : (k n : Seen) (id : ℕ) (q : Clause → Option Literal) → IsDeleted k n id q → (d : ℕ) (D : Clause) → d ≢ id → slot (slots k) d ≡ Some D → slot (slots n) d ≡ Some D
delete-others k n id q h d D a e = ap (λ N. slot N d) h.change ∙ (slot-set_other id d None (slots k) a ∙ e)
