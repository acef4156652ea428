-- Steps with proof parts are valid steps, with the same results.
use Rattle.std.proofs.Common.{◌≡◌, ℕ, zero, suc, ◌+◌, Bool, true, false, cond, List, [], ◌∷◌, ◌++◌, map, inl, inr, arith, refl, sym, ◌∙◌, subst, Option, Some, None}
use Rattle.q_logic.specs.declared.limits.Limits.{Limits}
use Rattle.q_logic.specs.Prelude.{standard, Literal, negation, Clause, Prefix, IsIn, PrenexFormula, Slots, slot, set_slot, live, others, outer, without, Implied, AreAlike, ValidSteps, Run, has, ProofStep, add, delete, drop_literal, fresh, remove_variable, Valid, after, one_less, IsWarranted, IsDroppable, NumberedFormula, begun, plain, beside, HintGroup, ProofPart, numbers_with, Resolved, Shows, ShowsDrop, HintedValid, hinted_after, Hinted, strip, HintedSteps, HintedRun}
use Rattle.q_logic.proofs.JustifiedRuns.{SameClauses, IsIn-alike, alike-refl, alike-sym, alike-trans, alike-cons, alike-uncons, alike-swap, one_less-alike}
use Rattle.q_logic.proofs.NumberedClauses.{slot-alike, live-slot, live-gone, live-numbered}
use Rattle.q_logic.proofs.AlikeFormulas.{warranted-within, droppable-within, alike_valid, alike_after, alike_through, alike_swapped}
use Rattle.q_logic.proofs.HintChains.{chained-implied, live-number}
use Rattle.q_logic.proofs.ClauseLemmas.{IsIn-has}

pub live-changed : (N : Slots) (n : ℕ) (C E : Clause) → slot N n ≡ Some C → SameClauses (live (set_slot n (Some E) N)) (E ∷ others n N)
live-changed [] n C E h = cc
live-changed (o ∷ N) zero C E h = alike-refl (E ∷ live N)
live-changed (None ∷ N) (suc n) C E h = live-changed N n C E h
live-changed (Some D ∷ N) (suc n) C E h =
    alike-trans (D ∷ live (set_slot n (Some E) N)) (D ∷ E ∷ others n N) (E ∷ D ∷ others n N)
    (alike-cons D (live (set_slot n (Some E) N)) (E ∷ others n N) (live-changed N n C E h))
    (alike-swap D E (others n N))

pub live-added : (N : Slots) (C : Clause) → SameClauses (C ∷ live N) (live (N ++ Some C ∷ []))
live-added [] C = alike-refl (C ∷ [])
live-added (None ∷ N) C = live-added N C
live-added (Some D ∷ N) C =
    alike-trans (C ∷ D ∷ live N) (D ∷ C ∷ live N) (D ∷ live (N ++ Some C ∷ []))
    (alike-swap C D (live N))
    (alike-cons D (C ∷ live N) (live (N ++ Some C ∷ [])) (live-added N C))

-- without the step's copy
pub left-alike : (N : Slots) (n : ℕ) (C : Clause) → slot N n ≡ Some C → SameClauses (one_less C (live N)) (live (set_slot n None N))
left-alike N n C h =
    let s = alike-trans (C ∷ one_less C (live N)) (live N) (C ∷ others n N)
    (alike-sym (live N) (C ∷ one_less C (live N)) (one_less-alike C (live N) (live-slot N n C h))) (slot-alike N n C h) in
    rw live-gone (alike-uncons C (one_less C (live N)) (others n N) s)

pub numbers-IsIn : (m : Literal) (n : ℕ) (N : Slots) (h : ℕ) (D : Clause) → slot N h ≡ Some D → IsIn m D → IsIn (n + h) (numbers_with m n N)
numbers-IsIn m n [] h D e i = cc
numbers-IsIn m n (None ∷ N) zero D e i = cc
numbers-IsIn m n (None ∷ N) (suc h) D e i =
    let r = numbers-IsIn m (n + 1) N h D e i in
    subst (λ k. IsIn k (numbers_with m (n + 1) N)) (omega arith) r
numbers-IsIn m n (Some C ∷ N) zero D e i =
    let same : C ≡ D = cc in
    let t : has m C ≡ true = rw same (IsIn-has m D i) in
    let z : n + 0 ≡ n = omega arith in
    rw (t, z) (inl refl)
numbers-IsIn m n (Some C ∷ N) (suc h) D e i =
    let r = numbers-IsIn m (n + 1) N h D e i in
    let s : IsIn (n + suc h) (numbers_with m (n + 1) N) = subst (λ k. IsIn k (numbers_with m (n + 1) N)) (omega arith) r in
    go (has m C) s
  where
    go : (b : Bool) → IsIn (n + suc h) (numbers_with m (n + 1) N) → IsIn (n + suc h) (cond b (n ∷ numbers_with m (n + 1) N) (numbers_with m (n + 1) N))
    go true s = inr s
    go false s = s

IsIn-target : (gs : List HintGroup) (k : ℕ) → IsIn k (map (λ g. g.target) gs) → (g : HintGroup) × IsIn g gs × (g.target ≡ k)
IsIn-target [] k m = elim m [ ]
IsIn-target (g ∷ gs) k (inl e) = (g, inl refl, sym e)
IsIn-target (g ∷ gs) k (inr m) = let r = IsIn-target gs k m in (r.0, inr r.1, r.2)

pub resolved-implied : (P : Prefix) (N : Slots) (base : Clause) (m : Literal) (gs : List HintGroup) → Resolved P N base m gs →
    (D : Clause) → IsIn D (live N) → IsIn m D → Implied (live N) (base ++ outer P m D)
resolved-implied P N base m gs r D inX i =
    let h = live-number N D inX in
    let t : IsIn h.0 (map (λ g. g.target) gs) = rw r.targets (subst (λ k. IsIn k (numbers_with m 0 N)) (omega arith) (numbers-IsIn m 0 N h.0 D h.1 i)) in
    let g = IsIn-target gs h.0 t in
    chained-implied N (base ++ outer P m D) g.0.hints (r.each g.0 g.1 D (rw g.2 h.1))

pub shows-warranted : (P : Prefix) (N : Slots) (C : Clause) (p : Option Literal) (t : ProofPart) → Shows P N C p t → IsWarranted P (live N) C p
shows-warranted P N C p t (inl h) = inl (chained-implied N C h.1.0 h.1.2)
shows-warranted P N C p t (inr (k, (l, e, q, i, r))) = inr (
  l,
  e,
  record {
    existential_pivot = q;
    in_clause = i;
    implied = resolved-implied P N C (negation l) t.groups r;
  },
)

pub shows-droppable : (P : Prefix) (N : Slots) (C : Clause) (l : Literal) (t : ProofPart) → ShowsDrop P N C l t → IsDroppable P (live N) C l
shows-droppable P N C l t (inl (k, (q, i, n, r))) = inl (record {
  universal_pivot = q;
  in_clause = i;
  not_negated = n;
  implied = resolved-implied P N (without l C) (negation l) t.groups r;
})
shows-droppable P N C l t (inr h) = inr h.1

module _ (N : Slots) (n : ℕ) (C : Clause) (h : slot N n ≡ Some C) where
  pub forward : (D : Clause) → IsIn D (live (set_slot n None N)) → IsIn D (one_less C (live N))
  forward = IsIn-alike (live (set_slot n None N)) (one_less C (live N)) (alike-sym (one_less C (live N)) (live (set_slot n None N)) (left-alike N n C h))

  pub backward : (D : Clause) → IsIn D (one_less C (live N)) → IsIn D (live (set_slot n None N))
  backward = IsIn-alike (one_less C (live N)) (live (set_slot n None N)) (left-alike N n C h)

pub hinted-valid : (m : Limits) (F : NumberedFormula) (s : ProofStep) (t : ProofPart) → HintedValid m F s t → Valid m (plain F) s
hinted-valid m F (add p C) t v = (v.0, shows-warranted F.prefix F.slots C p t v.1, v.2)
hinted-valid m F (delete p C) t v = (
  v.0,
  live-slot F.slots t.number C v.1,
  warranted-within F.prefix (live (beside t.number F)) (one_less C (live F.slots)) C p (forward F.slots t.number C v.1) (backward F.slots t.number C v.1)
      (shows-warranted F.prefix (beside t.number F) C p t v.2),
)
hinted-valid m F (drop_literal l C) t v = (
  v.0,
  live-slot F.slots t.number C v.1,
  droppable-within F.prefix (live (beside t.number F)) (one_less C (live F.slots)) C l (forward F.slots t.number C v.1) (backward F.slots t.number C v.1)
      (shows-droppable F.prefix (beside t.number F) C l t v.2),
)
hinted-valid m F (fresh v w) t h = h.0
hinted-valid m F (remove_variable v) t h = (h.0, h.1)

pub hinted-after : (m : Limits) (F : NumberedFormula) (s : ProofStep) (t : ProofPart) → HintedValid m F s t → AreAlike (after (plain F) s) (plain (hinted_after F s t))
hinted-after m F (add p C) t v = record { prefix = refl; clauses = live-added F.slots C }
hinted-after m F (delete p C) t v = record { prefix = refl; clauses = left-alike F.slots t.number C v.1 }
hinted-after m F (drop_literal l C) t v = record {
  prefix = refl;
  clauses =
      alike-trans (without l C ∷ one_less C (live F.slots)) (without l C ∷ others t.number F.slots) (live (set_slot t.number (Some (without l C)) F.slots))
      (alike-cons (without l C) (one_less C (live F.slots)) (others t.number F.slots) (rw live-gone at (left-alike F.slots t.number C v.1)))
      (alike-sym (live (set_slot t.number (Some (without l C)) F.slots)) (without l C ∷ others t.number F.slots) (live-changed F.slots t.number C (without l C) v.1));
}
hinted-after m F (fresh v w) t h = record { prefix = refl; clauses = alike-refl (live F.slots) }
hinted-after m F (remove_variable v) t h = record { prefix = refl; clauses = alike-refl (live F.slots) }

hinted-steps : (m : Limits) (F : NumberedFormula) (A : PrenexFormula) (hs : List Hinted) (E : NumberedFormula) → AreAlike (plain F) A →
    HintedSteps m F hs E → (last : PrenexFormula) × ValidSteps m A (strip hs) last × AreAlike (plain E) last
hinted-steps m F A [] E a e = (A, refl, subst (λ G. AreAlike (plain G) A) e a)
hinted-steps m F A (h ∷ hs) E a (v, rest) =
    let now = hinted_after F h.step h.proof in
    let b : AreAlike (plain now) (after A h.step) = alike_through (plain now) (after (plain F) h.step) (after A h.step)
    (alike_swapped (after (plain F) h.step) (plain now) (hinted-after m F h.step h.proof v))
    (alike_after (plain F) A h.step a) in
    let r = hinted-steps m now (after A h.step) hs E b rest in
    (r.0, (alike_valid m (plain F) A h.step a (hinted-valid m F h.step h.proof v), r.1), r.2)

pub hinted-run : (F G : PrenexFormula) (hs : List Hinted) → HintedRun F hs G → Run F (strip hs) G
hinted-run F G hs r =
    let a : AreAlike (plain (begun F)) F = record { prefix = refl; clauses = rw live-numbered (alike-refl F.matrix) } in
    let s = hinted-steps standard (begun F) F hs r.last a r.steps in
    record {
      last = s.0;
      steps = s.1;
      same = record {
        same_blocks = rw s.2.prefix at r.same.same_blocks;
        same_clauses = λ C. sym (s.2.clauses C) ∙ r.same.same_clauses C;
      };
    }
