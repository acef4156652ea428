-- The two clauses of the bridge come, and go.
use Rattle.std.proofs.Common.{◌≡◌, ◌≤◌, ◌<◌, ◌+◌, ◌*◌, ℕ, Bool, true, false, cond, eqb, [], ◌∷◌, ◌++◌, inl, inr, arith, refl, sym, ap, ◌∙◌, subst, Option, Some, None, length}
use Rattle.q_logic.specs.Prelude.{Literal, IsBelow, negation, Clause, Matrix, Prefix, IsIn, ArePairs, is_bound, outer_or_same, keeps, outer, ExistsPivot, Implied, standard, IsInLimits, size_of, has_variable, add, delete, one_less, Within, first_of, is_tautology, put_unless_tautology, Slots, slot, live, others, formula_of, merge, Mergeable, merged, renamed}
use Rattle.q_logic.proofs.Common.{IsIn-append_left, live-slot, slot-alike, insert-length, IsIn-outer_in, IsIn-put_unless, Ordered, insert-ordered, ordered-pairs, existential-is_bound, implied-tautology, implied-more_clauses, pure-pivot, SameClauses, IsIn-alike, alike-sym, alike-trans, alike-cons, alike-uncons, alike-swap, one_less-first, one_less-same, exists_pivot-fewer, IsIn-append_right, live-gone, length-set_slot, slot-below, same-sizes, slot-set_other}
use Rattle.q_logic.proofs.MergeRun.{joined-implied, outer_or_same-is_bound, has_var-IsIn, renamed-free, renamed-length}
use Rattle.q_log.specs.Texts.{step_text}
use Rattle.q_log.proofs.WritableRuns.{first-of}
use Rattle.q_kernel.specs.Prelude.{Seen, slots, formula_in, IsSound, Applies, MayAdd, IsAdded, MayDelete, IsDeleted, IsLed}
use Rattle.q_logic.specs.declared.rule_bounds.Bounds.{Bounds}
use Rattle.q_kernel.proofs.SlotLists.{alike-added, size-gone, size-parts}
use Rattle.q_kernel.proofs.KernelRuns.{led-through}
use Rattle.q_kernel.proofs.TextCosts.{cost-add, cost-delete, within-small, proper-small}
use Rattle.q_rule.specs.Becoming.{IsChanged}
use Rattle.q_rule.proofs.RuleResults.{IsLess, less-limits}
use Rattle.q_rule.proofs.RemovalLoops.{size-deleted, bytes-deleted}
use Rattle.q_equiv.specs.declared.bridge.Bridge.{Bridge}
use Rattle.q_equiv.specs.Changing.{CanStandFor, over_clause, back_clause, total_with, one, size, HasRoomFor, IsBridged, IsBuilt}
use Rattle.q_equiv.proofs.ClauseNumbers.{total-alike}
use Rattle.q_equiv.proofs.MergeLoop.{over-cases, over-first, over-second, back-cases, back-first, back-second, bridge-apart}

single : (l : Literal) → Ordered (l ∷ [])
single l = ((λ j m. absurd m), tt)

pub over-ordered : (keep gone : Literal) → ArePairs IsBelow (over_clause keep gone)
over-ordered keep gone = ordered-pairs (over_clause keep gone) (insert-ordered (negation keep) (gone ∷ []) (single gone))

pub back-ordered : (keep gone : Literal) → ArePairs IsBelow (back_clause keep gone)
back-ordered keep gone = ordered-pairs (back_clause keep gone) (insert-ordered keep (negation gone ∷ []) (single (negation gone)))

over-short : (keep gone : Literal) → length (over_clause keep gone) ≤ 2
over-short keep gone = let i = insert-length (negation keep) (gone ∷ []) in omega arith

back-short : (keep gone : Literal) → length (back_clause keep gone) ≤ 2
back-short keep gone = let i = insert-length keep (negation gone ∷ []) in omega arith

some_of : (b : Bool) (n : ℕ) → cond b n 0 ≤ n
some_of true n = omega arith
some_of false n = omega arith

total-size : (v : ℕ) (X : Matrix) → total_with size v X ≤ size_of X
total-size v [] = omega arith
total-size v (C ∷ X) = let i = total-size v X in let c = some_of (has_variable v C) (length C + 1) in omega arith

none : (C : Clause) → (let o : Option Clause = None in o ≡ Some C) → ⊥
none C e = cc

module _ (keep gone : Literal) (k : Seen) (fits : Mergeable k.prefix (live (slots k)) keep gone) (limits : IsInLimits standard (formula_in k)) (room : HasRoomFor k gone.var) (s : IsSound k) where
  keep_bound : is_bound k.prefix keep.var ≡ true
  keep_bound = outer_or_same-is_bound k.prefix keep.var gone.var fits.kept_outer

  gone_bound : is_bound k.prefix gone.var ≡ true
  gone_bound = existential-is_bound k.prefix gone.var fits.existential

  over_within : Within k.prefix (over_clause keep gone)
  over_within j m = elim (over-cases keep gone j m) [ inl e ↦ subst (λ (y : Literal). is_bound k.prefix y.var ≡ true) (sym e) keep_bound | inr e ↦ subst (λ (y : Literal). is_bound k.prefix y.var ≡ true) (sym e) gone_bound ]

  back_within : Within k.prefix (back_clause keep gone)
  back_within j m = elim (back-cases keep gone j m) [ inl e ↦ subst (λ (y : Literal). is_bound k.prefix y.var ≡ true) (sym e) keep_bound | inr e ↦ subst (λ (y : Literal). is_bound k.prefix y.var ≡ true) (sym e) gone_bound ]

  over_cost : length (step_text (add (first_of (over_clause keep gone)) (over_clause keep gone))) ≤ 48
  over_cost =
      let c = cost-add (first_of (over_clause keep gone)) (over_clause keep gone) (over-ordered keep gone) (first-of (over_clause keep gone)) (within-small (formula_in k) (over_clause keep gone) s.proper over_within) in
      let l = over-short keep gone in omega arith

  back_cost : length (step_text (add (first_of (back_clause keep gone)) (back_clause keep gone))) ≤ 48
  back_cost =
      let c = cost-add (first_of (back_clause keep gone)) (back_clause keep gone) (back-ordered keep gone) (first-of (back_clause keep gone)) (within-small (formula_in k) (back_clause keep gone) s.proper back_within) in
      let l = back-short keep gone in omega arith

  pub may-add_over : MayAdd k (first_of (over_clause keep gone)) (over_clause keep gone)
  may-add_over = record {
    ordered = over-ordered keep gone;
    first = first-of (over_clause keep gone);
    step = record {
      valid = (
        over_within,
        inl (joined-implied (live (slots k)) gone keep fits.to_gone (over_clause keep gone) (over-first keep gone) (over-second keep gone)),
        record { clauses = let n = limits.clauses in omega arith; lits = let n = limits.lits in let l = over-short keep gone in omega arith },
      );
      bytes = let c = over_cost in let b = room.bytes in omega arith;
    };
    words = let l = over-short keep gone in let w = room.words in omega arith;
    ids = let w = room.ids in omega arith;
  }

  module _ (mid : Seen) (i : ℕ) (a : IsAdded k mid (first_of (over_clause keep gone)) (over_clause keep gone) i) where
    i_room : i < length (slots k)
    i_room = let b = slot-below (slots mid) i (over_clause keep gone) a.there in let e : length (slots mid) ≡ length (slots k) = ap length a.change ∙ length-set_slot i (Some (over_clause keep gone)) (slots k) in omega arith

    mid_clauses : SameClauses (live (slots mid)) (over_clause keep gone ∷ live (slots k))
    mid_clauses = subst (λ (N : Slots). SameClauses (live N) (over_clause keep gone ∷ live (slots k))) (sym a.change) (alike-added (slots k) i (over_clause keep gone) a.free i_room)

    mid_bound : (j : Literal) → is_bound k.prefix j.var ≡ true → is_bound mid.prefix j.var ≡ true
    mid_bound j b = subst (λ (P : Prefix). is_bound P j.var ≡ true) (sym a.prefix) b

    pub may-add_back : MayAdd mid (first_of (back_clause keep gone)) (back_clause keep gone)
    may-add_back =
        let e = same-sizes (live (slots mid)) (over_clause keep gone ∷ live (slots k)) mid_clauses in
        let l = over-short keep gone in
        let m = back-short keep gone in
        record {
          ordered = back-ordered keep gone;
          first = first-of (back_clause keep gone);
          step = record {
            valid = (
              (λ j n. mid_bound j (back_within j n)),
              inl (implied-more_clauses (live (slots k)) (live (slots mid)) (back_clause keep gone)
                  (λ D n. IsIn-alike (over_clause keep gone ∷ live (slots k)) (live (slots mid)) (alike-sym (live (slots mid)) (over_clause keep gone ∷ live (slots k)) mid_clauses) D (inr n))
                  (joined-implied (live (slots k)) keep gone fits.to_keep (back_clause keep gone) (back-second keep gone) (back-first keep gone))),
              record { clauses = let n = limits.clauses in omega (arith, e.0); lits = let n = limits.lits in omega (arith, e.1) },
            );
            bytes = let c = over_cost in let d = back_cost in let b = room.bytes in let n = a.logged.bytes in omega arith;
          };
          words = let w = room.words in let n = a.words in omega arith;
          ids = let w = room.ids in let n = a.ids in omega arith;
        }

    module _ (new : Seen) (j : ℕ) (b : IsAdded mid new (first_of (back_clause keep gone)) (back_clause keep gone) j) where
      j_room : j < length (slots mid)
      j_room = let c = slot-below (slots new) j (back_clause keep gone) b.there in let e : length (slots new) ≡ length (slots mid) = ap length b.change ∙ length-set_slot j (Some (back_clause keep gone)) (slots mid) in omega arith

      new_clauses : SameClauses (live (slots new)) (over_clause keep gone ∷ back_clause keep gone ∷ live (slots k))
      new_clauses =
          let A = over_clause keep gone in
          let B = back_clause keep gone in
          alike-trans (live (slots new)) (B ∷ live (slots mid)) (A ∷ B ∷ live (slots k)) (subst (λ (N : Slots). SameClauses (live N) (B ∷ live (slots mid))) (sym b.change) (alike-added (slots mid) j B b.free j_room))
          (alike-trans (B ∷ live (slots mid)) (B ∷ A ∷ live (slots k)) (A ∷ B ∷ live (slots k)) (alike-cons B (live (slots mid)) (A ∷ live (slots k)) mid_clauses) (alike-swap B A (live (slots k))))

      total_new : (w : Clause → ℕ) → total_with w gone.var (live (slots new)) ≤ w (over_clause keep gone) + w (back_clause keep gone) + total_with w gone.var (live (slots k))
      total_new w =
          let e = total-alike w gone.var (live (slots new)) (over_clause keep gone ∷ back_clause keep gone ∷ live (slots k)) new_clauses in
          let x = some_of (has_variable gone.var (over_clause keep gone)) (w (over_clause keep gone)) in
          let y = some_of (has_variable gone.var (back_clause keep gone)) (w (back_clause keep gone)) in
          omega arith

      pub built : IsBuilt keep gone k new (record { over = i; back = j })
      built =
          let l = over-short keep gone in
          let m = back-short keep gone in
          let e = same-sizes (live (slots new)) (over_clause keep gone ∷ back_clause keep gone ∷ live (slots k)) new_clauses in
          record {
            led = led-through k mid new a.logged.led b.logged.led;
            prefix = b.prefix ∙ a.prefix;
            bridge = record {
              over = subst (λ (N : Slots). slot N i ≡ Some (over_clause keep gone)) (sym b.change) (slot-set_other j i (Some (back_clause keep gone)) (slots mid) (λ f. none (over_clause keep gone) (sym b.free ∙ (ap (slot (slots mid)) (sym f) ∙ a.there))) ∙ a.there);
              back = b.there;
            };
            clauses = new_clauses;
            room = record {
              words = let t = total_new length in let w = room.words in let n = a.words in let o = b.words in omega arith;
              ids = let t = total_new one in let w = room.ids in let n = a.ids in let o = b.ids in omega arith;
              bytes =
                  let t = total_new size in
                  let z = total-size gone.var (live (slots k)) in
                  let w = room.bytes in
                  let n = a.logged.bytes in
                  let o = b.logged.bytes in
                  let c = over_cost in
                  let d = back_cost in
                  let p : length new.prefix ≡ length k.prefix = ap (λ (P : Prefix). length P) (b.prefix ∙ a.prefix) in
                  let x = size-parts (live (slots new)) in
                  let y = size-parts (live (slots k)) in
                  omega (arith, e.0, e.1);
              clauses = let n = limits.clauses in omega (arith, e.0);
              lits = let n = limits.lits in omega (arith, e.1);
            };
            grown = let t = total_new length in omega arith;
          }

-- What a merge leaves.
pub merged-free : (keep gone : Literal) (X : Matrix) → eqb keep.var gone.var ≡ false → (D : Clause) → IsIn D (merged keep gone X) → (k : Literal) → IsIn k D → eqb k.var gone.var ≡ false
merged-free keep gone [] d D m k i = absurd m
merged-free keep gone (C ∷ X) d D m k i = go (has_variable gone.var C) refl m (λ n. merged-free keep gone X d D n k i)
  where
    go : (b : Bool) → has_variable gone.var C ≡ b → IsIn D (cond b (put_unless_tautology (renamed keep gone C) (merged keep gone X)) (C ∷ merged keep gone X)) → (IsIn D (merged keep gone X) → eqb k.var gone.var ≡ false) → eqb k.var gone.var ≡ false
    go true e n f = elim (IsIn-put_unless (renamed keep gone C) (merged keep gone X) D n) [
      | inl g ↦ renamed-free keep gone C d k (subst (λ (x : Clause). IsIn k x) g i)
      | inr o ↦ f o
    ]
    go false e (inl g) f = has_var-IsIn gone.var C e k (subst (λ (x : Clause). IsIn k x) g i)
    go false e (inr n) f = f n

merged-less : (keep gone : Literal) (X : Matrix) → IsLess (merged keep gone X) X
merged-less keep gone [] = record { clauses = omega arith; lits = omega arith }
merged-less keep gone (C ∷ X) = go (has_variable gone.var C) (is_tautology (renamed keep gone C)) (merged-less keep gone X) (renamed-length keep gone C)
  where
    go : (a b : Bool) → IsLess (merged keep gone X) X → length (renamed keep gone C) ≤ length C → IsLess (cond a (cond b (merged keep gone X) (renamed keep gone C ∷ merged keep gone X)) (C ∷ merged keep gone X)) (C ∷ X)
    go true true i r = record { clauses = let n = i.clauses in omega arith; lits = let n = i.lits in omega arith }
    go true false i r = record { clauses = let n = i.clauses in omega arith; lits = let n = i.lits in omega arith }
    go false b i r = record { clauses = let n = i.clauses in omega arith; lits = let n = i.lits in omega arith }

pub stands-merged : (P Q : Prefix) (X : Matrix) (keep gone : Literal) → Q ≡ P → Mergeable P X keep gone → CanStandFor Q keep gone
stands-merged P Q X keep gone e h = subst (λ (R : Prefix). CanStandFor R keep gone) (sym e) (record { different = h.different; existential = h.existential; kept_outer = h.kept_outer })

-- The bridge goes: the clause by which gone comes by gone, and the other one by its negation.
module _ (keep gone : Literal) (M : Matrix) (free : (D : Clause) → IsIn D M → (k : Literal) → IsIn k D → eqb k.var gone.var ≡ false) (k : Seen) (b : Bridge) (stands : CanStandFor k.prefix keep gone) (bridge : IsBridged keep gone k b)
    (clauses : SameClauses (live (slots k)) (over_clause keep gone ∷ back_clause keep gone ∷ M)) (bytes : 16 * (size_of (live (slots k)) + length k.prefix) ≤ k.spare_bytes) where
  not_there : (D : Clause) → IsIn D M → (j : Literal) → j.var ≡ gone.var → IsIn j D → ⊥
  not_there D m j e i = let z : eqb j.var gone.var ≡ false = free D m j i in grind arith

  over_pivot : ExistsPivot k.prefix (back_clause keep gone ∷ M) (over_clause keep gone) gone
  over_pivot = record { existential_pivot = stands.existential; in_clause = over-second keep gone; implied = go }
    where
      kept : keeps k.prefix (negation gone) keep ≡ true
      kept = let o : outer_or_same k.prefix keep.var gone.var ≡ true = stands.kept_outer in let d : eqb keep.var gone.var ≡ false = stands.different in grind arith

      go : (D : Clause) → IsIn D (back_clause keep gone ∷ M) → IsIn (negation gone) D → Implied (back_clause keep gone ∷ M) (over_clause keep gone ++ outer k.prefix (negation gone) D)
      go D (inl e) i = implied-tautology (back_clause keep gone ∷ M) (over_clause keep gone ++ outer k.prefix (negation gone) D)
          (keep, IsIn-append_right keep (over_clause keep gone) (outer k.prefix (negation gone) D) (IsIn-outer_in k.prefix (negation gone) D keep (subst (λ (x : Clause). IsIn keep x) (sym e) (back-first keep gone)) kept), IsIn-append_left (negation keep) (over_clause keep gone) (outer k.prefix (negation gone) D) (over-first keep gone))
      go D (inr m) i = absurd (not_there D m (negation gone) refl i)

  back_pivot : ExistsPivot k.prefix M (back_clause keep gone) (negation gone)
  back_pivot = pure-pivot k.prefix M (back_clause keep gone) (negation gone) (back-second keep gone) stands.existential (λ D m i. not_there D m (negation (negation gone)) refl i)

  pub may-go_over : IsSound k → MayDelete k b.over (λ C. Some gone)
  may-go_over s =
      let A = over_clause keep gone in
      let X = live (slots k) in
      let Y = back_clause keep gone ∷ M in
      let m : IsIn A X = live-slot (slots k) b.over A bridge.over in
      let e : SameClauses (one_less A X) Y = subst (λ (Z : Matrix). SameClauses (one_less A X) Z) (one_less-first A Y) (one_less-same A X (A ∷ Y) clauses m) in
      record {
        clause = A;
        there = bridge.over;
        first = over-second keep gone;
        step = record {
          valid = (
            (λ j i. s.proper.formula.closed A m j i),
            m,
            inr (gone, refl, exists_pivot-fewer k.prefix Y (one_less A X) A gone (IsIn-alike Y (one_less A X) (alike-sym (one_less A X) Y e)) (IsIn-alike (one_less A X) Y e) over_pivot),
          );
          bytes =
              let c = cost-delete (Some gone) A (over-ordered keep gone) (over-second keep gone) (proper-small (formula_in k) A s.proper m) in
              let z = size-gone (slots k) b.over A bridge.over in
              omega arith;
        };
      }

  module _ (mid : Seen) (s : IsSound k) (d : IsDeleted k mid b.over (λ C. Some gone)) where
    back_stays : slot (slots mid) b.back ≡ Some (back_clause keep gone)
    back_stays = subst (λ (N : Slots). slot N b.back ≡ Some (back_clause keep gone)) (sym d.change) (slot-set_other b.over b.back None (slots k) (bridge-apart keep gone k b stands.different bridge) ∙ bridge.back)

    rest_clauses : SameClauses (live (slots mid)) (back_clause keep gone ∷ M)
    rest_clauses =
        let A = over_clause keep gone in
        let Y = back_clause keep gone ∷ M in
        subst (λ (N : Slots). SameClauses (live N) Y) (sym d.change) (subst (λ (X : Matrix). SameClauses X Y) (sym (live-gone (slots k) b.over))
        (alike-uncons A (others b.over (slots k)) Y (alike-trans (A ∷ others b.over (slots k)) (live (slots k)) (A ∷ Y) (alike-sym (live (slots k)) (A ∷ others b.over (slots k)) (slot-alike (slots k) b.over A bridge.over)) clauses)))

    mid_bytes : 16 * (size_of (live (slots mid)) + length mid.prefix) ≤ mid.spare_bytes
    mid_bytes =
        let m : IsIn (over_clause keep gone) (live (slots k)) = live-slot (slots k) b.over (over_clause keep gone) bridge.over in
        let c : length (step_text (delete (Some gone) d.clause)) ≤ 16 * (length d.clause + 1) = subst (λ (x : Clause). length (step_text (delete (Some gone) x)) ≤ 16 * (length x + 1)) same (cost-delete (Some gone) (over_clause keep gone) (over-ordered keep gone) (over-second keep gone) (proper-small (formula_in k) (over_clause keep gone) s.proper m)) in
        subst (λ (P : Prefix). 16 * (size_of (live (slots mid)) + length P) ≤ mid.spare_bytes) (sym d.prefix)
        (bytes-deleted (size_of (live (slots k))) (size_of (live (slots mid))) (length d.clause) (length k.prefix) k.spare_bytes mid.spare_bytes (length (step_text (delete (Some gone) d.clause))) (size-deleted k mid b.over d.clause d.was d.change) bytes d.logged.bytes c)
      where
        same : over_clause keep gone ≡ d.clause
        same = let z : Some (over_clause keep gone) ≡ Some d.clause = sym bridge.over ∙ d.was in cc

    pub may-go_back : IsSound mid → MayDelete mid b.back (λ C. Some (negation gone))
    may-go_back t =
        let B = back_clause keep gone in
        let X = live (slots mid) in
        let m : IsIn B X = live-slot (slots mid) b.back B back_stays in
        let e : SameClauses (one_less B X) M = subst (λ (Z : Matrix). SameClauses (one_less B X) Z) (one_less-first B M) (one_less-same B X (B ∷ M) rest_clauses m) in
        let n = mid_bytes in
        record {
          clause = B;
          there = back_stays;
          first = back-second keep gone;
          step = record {
            valid = (
              (λ j i. t.proper.formula.closed B m j i),
              m,
              inr (negation gone, refl, exists_pivot-fewer mid.prefix M (one_less B X) B (negation gone) (IsIn-alike M (one_less B X) (alike-sym (one_less B X) M e)) (IsIn-alike (one_less B X) M e) (subst (λ (P : Prefix). ExistsPivot P M B (negation gone)) (sym d.prefix) back_pivot)),
            );
            bytes =
                let c = cost-delete (Some (negation gone)) B (back-ordered keep gone) (back-second keep gone) (proper-small (formula_in mid) B t.proper m) in
                let z = size-gone (slots mid) b.back B back_stays in
                omega arith;
          };
        }

    module _ (new : Seen) (t : IsSound mid) (f : IsDeleted mid new b.back (λ C. Some (negation gone))) where
      pub left_clauses : SameClauses (live (slots new)) M
      left_clauses =
          let B = back_clause keep gone in
          subst (λ (N : Slots). SameClauses (live N) M) (sym f.change) (subst (λ (X : Matrix). SameClauses X M) (sym (live-gone (slots mid) b.back))
          (alike-uncons B (others b.back (slots mid)) M (alike-trans (B ∷ others b.back (slots mid)) (live (slots mid)) (B ∷ M) (alike-sym (live (slots mid)) (B ∷ others b.back (slots mid)) (slot-alike (slots mid) b.back B back_stays)) rest_clauses)))

      pub left_bytes : 16 * (size_of (live (slots new)) + length new.prefix) ≤ new.spare_bytes
      left_bytes =
          let m : IsIn (back_clause keep gone) (live (slots mid)) = live-slot (slots mid) b.back (back_clause keep gone) back_stays in
          let c : length (step_text (delete (Some (negation gone)) f.clause)) ≤ 16 * (length f.clause + 1) = subst (λ (x : Clause). length (step_text (delete (Some (negation gone)) x)) ≤ 16 * (length x + 1)) same (cost-delete (Some (negation gone)) (back_clause keep gone) (back-ordered keep gone) (back-second keep gone) (proper-small (formula_in mid) (back_clause keep gone) t.proper m)) in
          subst (λ (P : Prefix). 16 * (size_of (live (slots new)) + length P) ≤ new.spare_bytes) (sym f.prefix)
          (bytes-deleted (size_of (live (slots mid))) (size_of (live (slots new))) (length f.clause) (length mid.prefix) mid.spare_bytes new.spare_bytes (length (step_text (delete (Some (negation gone)) f.clause))) (size-deleted mid new b.back f.clause f.was f.change) mid_bytes f.logged.bytes c)
        where
          same : back_clause keep gone ≡ f.clause
          same = let z : Some (back_clause keep gone) ≡ Some f.clause = sym back_stays ∙ f.was in cc

-- All steps together make the change.
pub merge-changed : (keep gone : Literal) (old new : Seen) → IsInLimits standard (formula_in old) → IsLed old new → new.prefix ≡ old.prefix → SameClauses (live (slots new)) (merged keep gone (live (slots old))) → 16 * (size_of (live (slots new)) + length new.prefix) ≤ new.spare_bytes → IsChanged old new (merge keep gone)
merge-changed keep gone old new limits led p s b =
    let e = same-sizes (live (slots new)) (merged keep gone (live (slots old))) s in
    let l = merged-less keep gone (live (slots old)) in
    record {
      led = led;
      alike = record { prefix = sym p; clauses = alike-sym (live (slots new)) (merged keep gone (live (slots old))) s };
      limits = subst (λ (P : Prefix). IsInLimits standard (formula_of P (live (slots new)))) (sym p)
          (less-limits old.prefix (live (slots new)) (live (slots old)) (record { clauses = let x = l.clauses in omega (arith, e.0); lits = let x = l.lits in omega (arith, e.1) }) limits);
      bytes = b;
    }

-- A merge that fits applies: the formula does not grow.
pub merge-applies : (B : Bounds) (k : Seen) (keep gone : Literal) → IsInLimits standard (formula_in k) → Mergeable k.prefix (live (slots k)) keep gone → Applies B k (merge keep gone)
merge-applies B k keep gone h m = record { fits = m; in_limits = less-limits k.prefix (merged keep gone (live (slots k))) (live (slots k)) (merged-less keep gone (live (slots k))) h }
