-- Steps of which a share is judged: how they grow, what is the same of formulas that are alike, and the share that is the whole.
use Rattle.std.proofs.Common.{◌≡◌, ◌≤◌, ◌*◌, ◌+◌, ◌∙◌, add-zero, inl, inr, refl, sym, ap, subst, arith, ℕ, suc, Bool, true, false, cond, List, [], ◌∷◌, ◌++◌, length, Option}
use Rattle.q_logic.specs.declared.limits.Limits.{Limits}
use Rattle.q_logic.specs.Prelude.{Clause, Matrix, Prefix, PrenexFormula, AreAlike, ProofStep, Valid, Cause, ValidSteps, SameFormula, after, standard}
use Rattle.q_logic.specs.Steps.{add, delete, drop_literal, fresh, remove_variable, KeepsLimits, literals_in}
use Rattle.q_logic.proofs.Common.{alike_swapped, alike_valid, alike_cause, alike_through, alike_after, IsIn-alike, SameClauses, alike-sym}
use Rattle.q_logic.proofs.ClauseCounts.{same-sizes}
use Rattle.q_logic.proofs.JustifiedRuns.{alike-cons}
use Rattle.q_check.specs.Alike.{Leads}
use Rattle.q_same_steps.specs.Making.{Applies, IsUnfit, Unfit, made}
use Rattle.q_shares.specs.Shares.{Share, AreMade, ShareRun, count, judged}
use Rattle.q_command.specs.Judging.{LeadsMade}
use Rattle.q_command.specs.Parts.{IsWhole}

abbrev of : Prefix → Matrix → PrenexFormula
of P X = record { prefix = P; matrix = X }

-- clauses in another order
module _ (P : Prefix) (X Y : Matrix) (s : SameClauses X Y) where
  limits-same : (C : Clause) (m : Limits) → KeepsLimits m (C ∷ X) → KeepsLimits m (C ∷ Y)
  limits-same C m h =
      let z : (length (C ∷ X) ≡ length (C ∷ Y)) × (literals_in (C ∷ X) ≡ literals_in (C ∷ Y)) = same-sizes (C ∷ X) (C ∷ Y) (alike-cons C X Y s) in
      record { clauses = subst (λ n. n ≤ 4 * m.clauses) z.0 h.clauses; lits = subst (λ n. n ≤ 4 * m.lits) z.1 h.lits }

  applies-same : (m : Limits) (t : ProofStep) → Applies m (of P X) t → Applies m (of P Y) t
  applies-same m (add p C) h = (h.0, limits-same C m h.1)
  applies-same m (delete p C) h = (h.0, IsIn-alike X Y s C h.1)
  applies-same m (drop_literal l C) h = (h.0, IsIn-alike X Y s C h.1)
  applies-same m (fresh v w) h = h
  applies-same m (remove_variable v) h = (h.0, λ D d. h.1 D (IsIn-alike Y X (alike-sym X Y s) D d))

unfit-same : (P : Prefix) (X Y : Matrix) (s : SameClauses X Y) (m : Limits) (t : ProofStep) (n : ℕ) → IsUnfit m (of P X) t n → IsUnfit m (of P Y) t n
unfit-same P X Y s m (add p C) n (inl w) = inl w
unfit-same P X Y s m (add p C) n (inr w) = inr (w.0, λ h. w.1 (limits-same P Y X (alike-sym X Y s) C m h))
unfit-same P X Y s m (delete p C) n (inl w) = inl w
unfit-same P X Y s m (delete p C) n (inr w) = inr (w.0, λ h. w.1 (IsIn-alike Y X (alike-sym X Y s) C h))
unfit-same P X Y s m (drop_literal l C) n (inl w) = inl w
unfit-same P X Y s m (drop_literal l C) n (inr w) = inr (w.0, λ h. w.1 (IsIn-alike Y X (alike-sym X Y s) C h))
unfit-same P X Y s m (fresh v w) n h = h
unfit-same P X Y s m (remove_variable v) n (inl w) = inl w
unfit-same P X Y s m (remove_variable v) n (inr w) = inr (w.0, λ h. w.1 (λ D d. h D (IsIn-alike X Y s D d)))

alike-applies : (m : Limits) (F G : PrenexFormula) (t : ProofStep) → AreAlike F G → Applies m F t → Applies m G t
alike-applies m F G t a h = subst (λ (P : Prefix). Applies m (of P G.matrix) t) a.prefix (applies-same F.prefix F.matrix G.matrix a.clauses m t h)

alike-is_unfit : (m : Limits) (F G : PrenexFormula) (t : ProofStep) (n : ℕ) → AreAlike F G → IsUnfit m F t n → IsUnfit m G t n
alike-is_unfit m F G t n a h = subst (λ (P : Prefix). IsUnfit m (of P G.matrix) t n) a.prefix (unfit-same F.prefix F.matrix G.matrix a.clauses m t n h)

alike-unfit : (m : Limits) (F G : PrenexFormula) (t : ProofStep) (n : ℕ) → AreAlike F G → Unfit m F t n → Unfit m G t n
alike-unfit m F G t n a u = record {
  applies = alike-is_unfit m F G t n a u.applies;
  least = λ k h w. u.least k h (alike-is_unfit m G F t k (alike_swapped F G a) w);
}

pub judged-valid : (b : Bool) (m : Limits) (F G : PrenexFormula) (s : ProofStep) → AreAlike F G → judged b (Valid m F s) (Applies m F s) → judged b (Valid m G s) (Applies m G s)
judged-valid true m F G s a h = alike_valid m F G s a h
judged-valid false m F G s a h = alike-applies m F G s a h

pub judged-cause : (b : Bool) (m : Limits) (F G : PrenexFormula) (s : ProofStep) (n : ℕ) → AreAlike F G → judged b (Cause m F s n) (Unfit m F s n) → judged b (Cause m G s n) (Unfit m G s n)
judged-cause true m F G s n a h = alike_cause m F G s n a h
judged-cause false m F G s n a h = alike-unfit m F G s n a h

-- one step more
made-more : (F : PrenexFormula) (ss : List ProofStep) (s : ProofStep) → made F (ss ++ s ∷ []) ≡ after (made F ss) s
made-more F [] s = refl
made-more F (t ∷ ss) s = made-more (after F t) ss s

are-made-more : (j : Share) (m : Limits) (k : ℕ) (F : PrenexFormula) (ss : List ProofStep) (s : ProofStep) → AreMade j m k F ss → judged (j (k + length ss)) (Valid m (made F ss) s) (Applies m (made F ss) s) → AreMade j m k F (ss ++ s ∷ [])
are-made-more j m k F [] s h v =
    let z : k + 0 ≡ k = omega arith in
    (subst (λ (n : ℕ). judged (j n) (Valid m F s) (Applies m F s)) z v, tt)
are-made-more j m k F (t ∷ ss) s h v =
    let z : k + suc (length ss) ≡ (k + 1) + length ss = omega arith in
    (h.0, are-made-more j m (k + 1) (after F t) ss s h.1 (subst (λ (n : ℕ). judged (j n) (Valid m (made (after F t) ss) s) (Applies m (made (after F t) ss) s)) z v))

pub made_begin : (j : Share) (F G : PrenexFormula) → AreAlike F G → LeadsMade j F [] G
made_begin j F G a = record { steps = tt; alike = a }

pub made_more : (j : Share) (F : PrenexFormula) (ss : List ProofStep) (G H : PrenexFormula) (s : ProofStep) → LeadsMade j F ss G → judged (j (length ss)) (Valid standard G s) (Applies standard G s) → AreAlike (after G s) H → LeadsMade j F (ss ++ s ∷ []) H
made_more j F ss G H s l v a = record {
  steps = are-made-more j standard 0 F ss s l.steps
      (let z : length ss ≡ 0 + length ss = omega arith in
      subst (λ (n : ℕ). judged (j n) (Valid standard (made F ss) s) (Applies standard (made F ss) s)) z
      (judged-valid (j (length ss)) standard G (made F ss) s (alike_swapped (made F ss) G l.alike) v));
  alike = subst (λ (E : PrenexFormula). AreAlike E H) (sym (made-more F ss s))
      (alike_through (after (made F ss) s) (after G s) H (alike_after (made F ss) G s l.alike) a);
}

pub count-more : (j : Share) (k : ℕ) (ss : List ProofStep) (s : ProofStep) → count j k (ss ++ s ∷ []) ≡ cond (j (k + length ss)) (count j k ss + 1) (count j k ss)
count-more j k [] s = let z : k ≡ k + 0 = omega arith in ap (λ (n : ℕ). cond (j n) (0 + 1) 0) z
count-more j k (t ∷ ss) s = go (j k) (j (k + suc (length ss)))
    (count-more j (k + 1) ss s ∙ ap (λ (n : ℕ). cond (j n) (count j (k + 1) ss + 1) (count j (k + 1) ss)) (let z : (k + 1) + length ss ≡ k + suc (length ss) = omega arith in z))
  where
    go : (b c : Bool) → count j (k + 1) (ss ++ s ∷ []) ≡ cond c (count j (k + 1) ss + 1) (count j (k + 1) ss) →
        cond b (count j (k + 1) (ss ++ s ∷ []) + 1) (count j (k + 1) (ss ++ s ∷ []))
        ≡ cond c (cond b (count j (k + 1) ss + 1) (count j (k + 1) ss) + 1) (cond b (count j (k + 1) ss + 1) (count j (k + 1) ss))
    go true true e = ap (λ (n : ℕ). n + 1) e
    go true false e = ap (λ (n : ℕ). n + 1) e
    go false true e = e
    go false false e = e

-- who judges all steps
pub whole-valid : (j : Share) (m : Limits) (k : ℕ) (F : PrenexFormula) (ss : List ProofStep) → IsWhole j → AreMade j m k F ss → ValidSteps m F ss (made F ss)
whole-valid j m k F [] w h = refl
whole-valid j m k F (s ∷ ss) w h = (subst (λ (b : Bool). judged b (Valid m F s) (Applies m F s)) (w k) h.0, whole-valid j m (k + 1) (after F s) ss w h.1)

pub whole-leads : (j : Share) (F : PrenexFormula) (ss : List ProofStep) (G : PrenexFormula) → IsWhole j → LeadsMade j F ss G → Leads standard F ss G
whole-leads j F ss G w l = record { last = made F ss; steps = whole-valid j standard 0 F ss w l.steps; alike = l.alike }

pub whole-count : (j : Share) (k : ℕ) (ss : List ProofStep) → IsWhole j → count j k ss ≡ length ss
whole-count j k [] w = refl
whole-count j k (s ∷ ss) w = go (j k) (w k) (whole-count j (k + 1) ss w)
  where
    go : (b : Bool) → b ≡ true → count j (k + 1) ss ≡ length ss → cond b (count j (k + 1) ss + 1) (count j (k + 1) ss) ≡ suc (length ss)
    go true e i = omega (arith, i)
    go false e i = cc
