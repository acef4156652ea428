-- Steps that may be made: what a valid step promises is so of these, but for the reason of a deletion.
use Rattle.std.proofs.Common.{◌≡◌, ℕ, true, false, List, [], ◌∷◌, ◌++◌, refl, sym, ◌∙◌, subst}
use Rattle.std.proofs.lemmas.Bool.{both_ways}
use Rattle.q_logic.specs.Prelude.{Prefix, PrenexFormula, IsFormula, Distinct, is_universal, Strategy, ProofStep, add, delete, drop_literal, fresh, remove_variable, insert_after, removed_from, Valid, after, standard, ValidSteps}
use Rattle.q_logic.specs.Herbrands.{LawfulHerbrand}
use Rattle.q_logic.specs.Reversals.{Reversal, Reversed, Reversals, Forth}
use Rattle.q_logic.proofs.Common.{Valid-justified, at_or_other, insert-is_universal, removed-is_universal, removed-unbound, unbound-universal}
use Rattle.q_logic.proofs.Prefixes.{inserted-not_universal}
use Rattle.q_logic.proofs.ForthRuns.{step-lawful, Forth-append}
use Rattle.q_refutation.specs.Refutations.{MayBeMade, AreMade}
use Rattle.q_refutation.proofs.Refuting.{steps-true}

-- a valid step may be made
pub valid-made : (F : PrenexFormula) (s : ProofStep) → Valid standard F s → MayBeMade false standard F s
valid-made F (add p C) v = v
valid-made F (delete p C) v = (v.0, v.1)
valid-made F (drop_literal l C) v = v
valid-made F (fresh v w) h = h
valid-made F (remove_variable v) h = h

pub valid-all_made : (F : PrenexFormula) (ss : List ProofStep) (E : PrenexFormula) → ValidSteps standard F ss E →
    AreMade false standard F ss E
valid-all_made F [] E e = e
valid-all_made F (s ∷ ss) E (v, r) = (valid-made F s v, valid-all_made (after F s) ss E r)

-- one step more
pub made_more : (F : PrenexFormula) (ss : List ProofStep) (E : PrenexFormula) (s : ProofStep) →
    AreMade false standard F ss E → MayBeMade false standard E s → AreMade false standard F (ss ++ s ∷ []) (after E s)
made_more F [] E s e v =
    subst (λ (G : PrenexFormula). AreMade false standard G (s ∷ []) (after E s)) (sym e) (v, refl)
made_more F (t ∷ ss) E s (h, r) v = (h, made_more (after F t) ss E s r v)

pub step-formula : (F : PrenexFormula) (s : ProofStep) → IsFormula F → MayBeMade false standard F s → IsFormula (after F s)
step-formula F s f v = (steps-true false standard F (after F s) (s ∷ []) f (v, refl)).0

-- lawful circuits stay lawful
made_step-lawful : (F : PrenexFormula) (s : ProofStep) (rs : List Reversal) (c : Strategy) → IsFormula F →
    MayBeMade false standard F s → Reversed F s rs → LawfulHerbrand (after F s).prefix c →
    LawfulHerbrand F.prefix (Forth rs c)
made_step-lawful F (add p C) rs c f v e h = step-lawful F (add p C) rs c f (Valid-justified standard F (add p C) v) e h
made_step-lawful F (delete p C) rs c f v e h = subst (λ (us : List Reversal). LawfulHerbrand F.prefix (Forth us c)) (sym e) h
made_step-lawful F (drop_literal l C) rs c f v e h =
    step-lawful F (drop_literal l C) rs c f (Valid-justified standard F (drop_literal l C) v) e h
made_step-lawful F (fresh v w) rs c f j e h = step-lawful F (fresh v w) rs c f (Valid-justified standard F (fresh v w) j) e h
made_step-lawful F (remove_variable v) rs c f j e h =
    step-lawful F (remove_variable v) rs c f (Valid-justified standard F (remove_variable v) j) e h

pub made-lawful_back : (F : PrenexFormula) (ss : List ProofStep) (E : PrenexFormula) (rs : List Reversal) (c : Strategy) →
    IsFormula F → AreMade false standard F ss E → Reversals F ss rs → LawfulHerbrand E.prefix c →
    LawfulHerbrand F.prefix (Forth rs c)
made-lawful_back F [] E rs c f r u h =
    subst (λ (us : List Reversal). LawfulHerbrand F.prefix (Forth us c)) (sym u)
    (subst (λ (G : PrenexFormula). LawfulHerbrand G.prefix c) (sym r) h)
made-lawful_back F (s ∷ ss) E rs c f r (es, rest, e, u, is) h =
    subst (λ (us : List Reversal). LawfulHerbrand F.prefix (Forth us c)) (sym is)
    (subst (LawfulHerbrand F.prefix) (sym (Forth-append es rest c))
    (made_step-lawful F s es (Forth rest c) f r.0 e
    (made-lawful_back (after F s) ss E rest c (step-formula F s f r.0) r.1 u h)))

-- no step brings a universal
step-universal : (F : PrenexFormula) (s : ProofStep) → IsFormula F → MayBeMade false standard F s → (u : ℕ) →
    is_universal (after F s).prefix u ≡ true → is_universal F.prefix u ≡ true
step-universal F (add p C) f v = λ u h. h
step-universal F (delete p C) f v = λ u h. h
step-universal F (drop_literal l C) f v = λ u h. h
step-universal F (fresh v w) f j =
    at_or_other v (λ u. is_universal (insert_after w v F.prefix) u ≡ true → is_universal F.prefix u ≡ true)
    (λ h. absurd (both_ways (is_universal (insert_after w v F.prefix) v) (inserted-not_universal w v F.prefix (Valid-justified standard F (fresh v w) j).0) h))
    (λ u n h. sym (insert-is_universal w v F.prefix u n) ∙ h)
step-universal F (remove_variable v) f j =
    at_or_other v (λ u. is_universal (removed_from v F.prefix) u ≡ true → is_universal F.prefix u ≡ true)
    (λ h. absurd (both_ways (is_universal (removed_from v F.prefix) v)
    (unbound-universal (removed_from v F.prefix) v (removed-unbound v F.prefix f.distinct)) h))
    (λ u n h. sym (removed-is_universal v F.prefix u n) ∙ h)

pub steps-universal : (F : PrenexFormula) (ss : List ProofStep) (E : PrenexFormula) → IsFormula F →
    AreMade false standard F ss E → (u : ℕ) → is_universal E.prefix u ≡ true → is_universal F.prefix u ≡ true
steps-universal F [] E f e u h = subst (λ (G : PrenexFormula). is_universal G.prefix u ≡ true) (sym e) h
steps-universal F (s ∷ ss) E f (v, r) u h =
    step-universal F s f v u (steps-universal (after F s) ss E (step-formula F s f v) r u h)
