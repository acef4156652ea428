-- The steps of an expansion are still to come where there is room, and what they lead to.
use Rattle.std.proofs.Common.{◌≡◌, ◌≤◌, ◌+◌, ◌*◌, ℕ, Bool, true, false, cond, eqb, List, [], ◌∷◌, length, sym, ◌∙◌, ap, subst, arith, Some, None, Option}
use Rattle.q_logic.proofs.Common.{size-alike, one, weight, rise, weight-with, reaches-valid, SameClauses, IsIn-alike, Expansion, same-sizes}
use Rattle.q_rule.proofs.LoopChanges.{with-less}
use Rattle.q_logic.specs.declared.formulas.Quant.TheVariants.{Exists}
use Rattle.q_logic.specs.declared.rule_bounds.Bounds.{Bounds}
use Rattle.q_logic.specs.Prelude.{Clause, Matrix, Prefix, IsIn, PrenexFormula, is_universal, copies, AreAlike, Reached, size_of, with_literal, each_without, positive, insert_after, literals_in, standard, greatest, IsInLimits, Slots, slot, live, put_first, formula_of, clauses_at, insert_all, expanded, expand_universal}
use Rattle.q_logic.proofs.ExpandLinks.{minus}
use Rattle.q_logic.proofs.MeasureFalls.{each_without-smaller}
use Rattle.q_kernel.specs.Prelude.{Seen, slots, formula_in, IsSound, IsLed, Applies}
use Rattle.q_kernel.proofs.TextCosts.{proper-in_order}
use Rattle.q_kernel.proofs.KernelRuns.{led-through}
use Rattle.q_kernel.proofs.SlotLists.{size-parts}
use Rattle.q_rule.specs.Becoming.{IsChanged}
use Rattle.q_expand.specs.Apart.{MayLose, HasLost}
use Rattle.q_expand.specs.Dependents.{Walked, IsWhole, tally}
use Rattle.q_expand.specs.Rooms.{HasRoom}
use Rattle.q_expand.specs.Steps.{course}
use Rattle.q_expand.specs.Tracks.{words_for, ids_for, total, IsOnTrack}
use Rattle.q_expand.proofs.ExpansionBounds.{long}
use Rattle.q_expand.proofs.Budgets.{weight-size, course-price, course-words, course-ids, course-vars, rise-ids, rise-words, course-fresh, fresh-reserved, parted-size}
use Rattle.q_expand.proofs.Course.{vars_in, first_in, prefix_in, parted_in, facts, reaches-course}
use Rattle.q_expand.proofs.ExpansionEnd.{finished, finished-parted}
use Rattle.q_expand.proofs.Flattened.{each_without-same, weight-clauses}
use Rattle.q_expand.proofs.Origins.{Kind, kind-of, apart-positive, apart-minus}
use Rattle.q_expand.proofs.ClauseWeights.{tally-most}
use Rattle.q_expand.proofs.AllDependents.{vars-number, limits-told}

-- sizes
clauses-few : (N : Slots) (cs : List ℕ) → length (clauses_at N cs) ≤ length cs
clauses-few N [] = omega arith
clauses-few N (c ∷ cs) = go (slot N c) (clauses-few N cs)
  where
    go : (o : Option Clause) → length (clauses_at N cs) ≤ length cs → length (put_first o (clauses_at N cs)) ≤ length (c ∷ cs)
    go None i = omega arith
    go (Some C) i = omega arith

pub clauses-size : (N : Slots) (cs : List ℕ) → size_of (clauses_at N cs) ≡ tally long N cs
clauses-size N cs = sym (weight-size (clauses_at N cs)) ∙ weight-clauses long N cs

length-after : (w v : ℕ) (P : Prefix) → length (insert_after w v P) ≤ length P + 1
length-after w v [] = omega arith
length-after w v (b ∷ P) = go (eqb b.var w) (length-after w v P)
  where
    go : (c : Bool) → length (insert_after w v P) ≤ length P + 1 → length (cond c (b ∷ record { quant = Exists; var = v } ∷ P) (b ∷ insert_after w v P)) ≤ length (b ∷ P) + 1
    go true i = omega arith
    go false i = omega arith

length-all : (V : List ℕ) (t : ℕ) (P : Prefix) → length (insert_all V t P) ≤ length P + length V
length-all [] t P = omega arith
length-all (x ∷ V) t P = let i = length-all V (t + 1) (insert_after x t P) in let j = length-after x t P in omega arith

-- bytes for what comes after the steps
abbrev pub later_of : Seen → ℕ → ℕ
later_of k n = 16 * (12 * size_of (live (slots k)) + (length k.prefix + n))

module _ (B : Bounds) (k : Seen) (u : ℕ) (r : Walked) (s : IsSound k) (w : IsWhole k u r) (a : Applies B k (expand_universal u)) where
  -- The steps are still to come.
  pub on-track : IsInLimits standard (formula_in k) → HasRoom k r → IsOnTrack k (course u (vars_in k u) (first_in k) (clauses_at (slots k) r.met)) (later_of k (length r.vars)) (formula_of (prefix_in k u) (parted_in k u))
  on-track limits room =
      let V = vars_in k u in
      let t = first_in k in
      let W = clauses_at (slots k) r.met in
      let ss = course u V t W in
      let n : length r.vars ≡ length V = vars-number k u r s w in
      let few : length V ≤ B.expand = a.fits.few in
      let bound = B.small_expand in
      let size : size_of W ≡ tally long (slots k) r.met = clauses-size (slots k) r.met in
      let number = clauses-few (slots k) r.met in
      let most = tally-most long r.met (slots k) w.dependents.apart in
      let whole = weight-size (live (slots k)) in
      let parts = size-parts (live (slots k)) in
      let ends = limits-told k u r s w a.in_limits in
      let met : length W ≤ size_of W = length-size W in
      let c1 = course-price u V t W in
      let c2 = course-words u V t W in
      let c3 = course-ids u V t W in
      let c4 = course-vars u V t W in
      let i1 = rise-ids ss in
      let i2 = rise-words ss in
      let fresh = course-fresh u V t standard.vars W (positive-first (greatest k.prefix)) (under (greatest k.prefix) (length r.vars) (length V) n ends.0) in
      let kept = course-fresh u V t k.greatest W (positive-first (greatest k.prefix)) (below (greatest k.prefix) (length r.vars) (length V) k.greatest n room.greatest) in
      let clauses = tally-clauses in
      let v = reaches-valid (formula_in k) ss (formula_of (prefix_in k u) (parted_in k u)) s.proper.formula (reaches-course k u r s w B.expand a.fits)
      (rise-clauses (length (live (slots k))) (rise one ss) (total ids_for ss) (length V) (length W) limits.clauses i1 c3 few bound clauses)
      (rise-lits (literals_in (live (slots k))) (rise length ss) (total words_for ss) (length V) (size_of W) (size_of (live (slots k))) (length (live (slots k))) limits.lits limits.clauses i2 c2 few bound (omega arith) parts)
      fresh in
      record {
        last = v.0;
        valid = v.1;
        alike = record { prefix = v.2.0; clauses = v.2.1 };
        bytes = let b = room.bytes in omega arith;
        words = let b = room.words in omega arith;
        ids = let b = room.ids in omega arith;
        vars = let b = room.vars in omega arith;
        reserved = fresh-reserved k.greatest ss kept;
      }
    where
      length-size : (X : Matrix) → length X ≤ size_of X
      length-size X = let e = size-parts X in omega arith

      tally-clauses : length (clauses_at (slots k) r.met) ≤ length (live (slots k))
      tally-clauses =
          let p = weight-clauses one (slots k) r.met in
          let q = tally-most one r.met (slots k) w.dependents.apart in
          let x = Rattle.q_logic.proofs.Heights.weight-one (clauses_at (slots k) r.met) in
          let y = Rattle.q_logic.proofs.Heights.weight-one (live (slots k)) in
          omega arith

      positive-first : (g : ℕ) → 1 ≤ g + 1
      positive-first g = omega arith

      under : (g n v : ℕ) → n ≡ v → g + n ≤ 16777215 → g + 1 + v ≤ 16777215 + 1
      under g n v e h = omega arith

      below : (g n v m : ℕ) → n ≡ v → g + n ≤ m → g + 1 + v ≤ m + 1
      below g n v m e h = omega arith

      rise-clauses : (x r i v w : ℕ) → x ≤ 33554432 → r ≤ i → i ≤ 2 * v + 2 * w → v ≤ B.expand → B.expand ≤ 10000 → w ≤ x → x + r ≤ 4 * 33554432
      rise-clauses x r i v w a b c d e f = omega arith

      rise-lits : (x r i v w z c : ℕ) → x ≤ 134217728 → c ≤ 33554432 → r ≤ i → i ≤ 6 * v + 2 * w → v ≤ B.expand → B.expand ≤ 10000 → w ≤ z → z ≡ x + c → x + r ≤ 4 * 134217728
      rise-lits x r i v w z c a b d e f g h j = omega arith

  abbrev P : Prefix
  P = k.prefix

  abbrev X : Matrix
  X = live (slots k)

  abbrev V : List ℕ
  V = vars_in k u

  abbrev t : ℕ
  t = first_in k

  abbrev Q : Prefix
  Q = prefix_in k u

  theory : Expansion (prefix_in k u) (live (slots k)) u (vars_in k u) (first_in k)
  theory = facts k u r s w B.expand a.fits

  -- What they lead to, and what comes after them.
  module _ (n : Seen) (h : IsOnTrack n [] (later_of k (length r.vars)) (formula_of (prefix_in k u) (parted_in k u))) where
    parted-there : AreAlike (formula_in n) (formula_of (prefix_in k u) (parted_in k u))
    parted-there = subst (λ (F : PrenexFormula). AreAlike F (formula_of (prefix_in k u) (parted_in k u))) (sym h.valid) h.alike

    kinds : (E : Clause) → IsIn E (live (slots n)) → Kind (prefix_in k u) (live (slots k)) u (vars_in k u) (first_in k) theory E
    kinds E i = kind-of Q X u V t theory X (λ D j. j) E (IsIn-alike (live (slots n)) (parted_in k u) parted-there.clauses E i)

    pub may-first : MayLose n (positive u)
    may-first = record {
      universal = subst (λ (R : Prefix). is_universal R u ≡ true) (sym parted-there.prefix) theory.universal;
      none = λ C D i j q. apart-positive Q X u V t theory (live (slots n)) kinds C D i j (subst (λ (R : Prefix). Reached R (live (slots n)) C (positive u) D) parted-there.prefix q);
    }

    small : size_of (live (slots n)) ≤ 4 * size_of (live (slots k))
    small = let e = size-alike (live (slots n)) (parted_in k u) parted-there.clauses in let i = parted-size u V t X in omega arith

    pub bytes-first : 16 * size_of (with_literal (positive u) (live (slots n))) ≤ n.spare_bytes
    bytes-first = let i = with-less (positive u) (live (slots n)) in let j = small in let b = h.bytes in omega arith

    module _ (p : Seen) (g : HasLost n p (positive u)) where
      pub may-second : MayLose p (minus u)
      may-second = record {
        universal = subst (λ (R : Prefix). is_universal R u ≡ true) (sym (g.prefix ∙ parted-there.prefix)) theory.universal;
        none = λ C D i j q. apart-minus Q X u V t theory (live (slots n)) kinds C D (subst (λ (Y : Matrix). IsIn C Y) g.matrix i) j
            (subst (λ (Y : Matrix). Reached Q Y C (minus u) D) g.matrix (subst (λ (R : Prefix). Reached R (live (slots p)) C (minus u) D) (g.prefix ∙ parted-there.prefix) q));
      }

      less-second : size_of (live (slots p)) ≤ 4 * size_of (live (slots k))
      less-second = let i = small in let j = each_without-smaller (positive u) (live (slots n)) in subst (λ (Y : Matrix). size_of Y ≤ 4 * size_of (live (slots k))) (sym g.matrix) (omega arith)

      later-second : 16 * (8 * size_of (live (slots k)) + (length k.prefix + length r.vars)) ≤ p.spare_bytes
      later-second = g.bytes (16 * (8 * size_of (live (slots k)) + (length k.prefix + length r.vars))) (let i = with-less (positive u) (live (slots n)) in let j = small in let b = h.bytes in omega arith)

      pub bytes-second : 16 * size_of (with_literal (minus u) (live (slots p))) ≤ p.spare_bytes
      bytes-second = let i = with-less (minus u) (live (slots p)) in let j = less-second in let b = later-second in omega arith

      pub changed : (f : Seen) → HasLost p f (minus u) → IsLed k n → IsChanged k f (expand_universal u)
      changed f e l = record {
        led = led-through k n f l (led-through n p f g.led e.led);
        alike = record { prefix = sym prefix; clauses = same };
        limits = record {
          vars = subst (λ (R : Prefix). greatest R ≤ 16777215) (sym prefix) a.in_limits.vars;
          clauses = subst (λ (c : ℕ). c ≤ 33554432) sizes.0 a.in_limits.clauses;
          lits = subst (λ (c : ℕ). c ≤ 134217728) sizes.1 a.in_limits.lits;
        };
        bytes = sweep;
      }
        where
          prefix : f.prefix ≡ prefix_in k u
          prefix = e.prefix ∙ (g.prefix ∙ parted-there.prefix)

          matrix : live (slots f) ≡ finished u (live (slots n))
          matrix = e.matrix ∙ ap (each_without (minus u)) g.matrix

          same : SameClauses (expanded u (vars_in k u) (first_in k) (live (slots k))) (live (slots f))
          same C =
              ap (copies C) (sym (finished-parted Q X u V t theory (λ D i. proper-in_order (formula_in k) D s.proper i) X (λ D i. i)))
              ∙ (sym (each_without-same (minus u) (each_without (positive u) (live (slots n))) (each_without (positive u) (parted_in k u)) (each_without-same (positive u) (live (slots n)) (parted_in k u) parted-there.clauses) C)
              ∙ ap (copies C) (sym matrix))

          sizes : (length (expanded u (vars_in k u) (first_in k) (live (slots k))) ≡ length (live (slots f))) × (literals_in (expanded u (vars_in k u) (first_in k) (live (slots k))) ≡ literals_in (live (slots f)))
          sizes = same-sizes (expanded u (vars_in k u) (first_in k) (live (slots k))) (live (slots f)) same

          left : 16 * (4 * size_of (live (slots k)) + (length k.prefix + length r.vars)) ≤ f.spare_bytes
          left = e.bytes (16 * (4 * size_of (live (slots k)) + (length k.prefix + length r.vars))) (let i = with-less (minus u) (live (slots p)) in let j = less-second in let b = later-second in omega arith)

          less : size_of (live (slots f)) ≤ 4 * size_of (live (slots k))
          less = let i = less-second in let j = each_without-smaller (minus u) (live (slots p)) in subst (λ (Y : Matrix). size_of Y ≤ 4 * size_of (live (slots k))) (sym e.matrix) (omega arith)

          long-prefix : length f.prefix ≤ length k.prefix + length r.vars
          long-prefix = let i = length-all V t P in let q = vars-number k u r s w in subst (λ (R : Prefix). length R ≤ length k.prefix + length r.vars) (sym prefix) (omega arith)

          sweep : 16 * (size_of (live (slots f)) + length f.prefix) ≤ f.spare_bytes
          sweep = let i = left in let j = less in let q = long-prefix in omega arith
