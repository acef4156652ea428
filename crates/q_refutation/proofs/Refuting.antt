-- Steps that may be made keep truth and carry Herbrand functions; refutations and their parts.
use Rattle.std.proofs.Common.{◌≡◌, ℕ, Bool, true, false, List, [], ◌∷◌, ◌++◌, inl, inr, refl, sym, ap, ◌∙◌, subst}
use Rattle.q_logic.specs.declared.limits.Limits.{Limits}
use Rattle.q_logic.specs.Prelude.{Prefix, Clause, Matrix, IsIn, PrenexFormula, IsFormula, Holds, Distinct, is_universal, Assignment, ClauseTrue, Strategy, circuit_of, outcome, constant, where_true, given, Reads, ProofStep, add, delete, drop_literal, fresh, remove_variable, one_less, Valid, after, standard, SameFormula, ValidSteps, Run, AreWithin}
use Rattle.q_logic.specs.Herbrands.{MatrixFalse, Herbrand, HerbrandOf, existential_before}
use Rattle.q_logic.specs.Reversals.{Reversal, Reversed, Reversals, Forth}
use Rattle.q_logic.proofs.Justified.{Valid-justified, ValidSteps-justified}
use Rattle.q_logic.proofs.Soundness.{after-formula, from_skolem, has_skolem, run-true_on}
use Rattle.q_logic.proofs.ForthRuns.{step-carries, Forth-append}
use Rattle.q_logic.proofs.Runs.{one_less-IsIn, Skolem-fewer}
use Rattle.q_logic.proofs.Blocks.{IsIn-same, Same-sym}
use Rattle.q_logic.proofs.Validity.{Valid-larger}
use Rattle.q_logic.proofs.ClauseCounts.{one_less-same}
use Rattle.q_refutation.specs.Refutations.{MayBeMade, AreMade, IsLost, Refutes, Refutation, zeros}
use Rattle.q_same_steps.proofs.SameBlocks.{bound-same}
use Rattle.q_same_steps.proofs.SameSteps.{same-valid, same-after}
use Rattle.q_logic.proofs.Soundness.{steps-formula}

-- One step.
made-formula : (lax : Bool) (m : Limits) (F : PrenexFormula) (s : ProofStep) → IsFormula F → MayBeMade lax m F s → IsFormula (after F s)
made-formula lax m F (add p C) f v = after-formula F (add p C) f (Valid-justified m F (add p C) v)
made-formula lax m F (delete p C) f v =
    record { distinct = f.distinct; closed = λ D i. f.closed D (one_less-IsIn C F.matrix D i) }
made-formula lax m F (drop_literal l C) f v = after-formula F (drop_literal l C) f (Valid-justified m F (drop_literal l C) v)
made-formula lax m F (fresh v w) f h = after-formula F (fresh v w) f (Valid-justified m F (fresh v w) h)
made-formula lax m F (remove_variable v) f h = after-formula F (remove_variable v) f (Valid-justified m F (remove_variable v) h)

valid-true : (m : Limits) (F : PrenexFormula) (s : ProofStep) → IsFormula F → Valid m F s → Holds F → Holds (after F s)
valid-true m F s f v t = run-true_on F (s ∷ []) (after F s) f (Valid-justified m F s v, refl) t

fewer-true : (F : PrenexFormula) (C : Clause) → IsFormula F → Holds F → Holds (record { prefix = F.prefix; matrix = one_less C F.matrix })
fewer-true F C f t =
    let k = has_skolem F f t in
    from_skolem (record { prefix = F.prefix; matrix = one_less C F.matrix }) k.0
    (record { distinct = f.distinct; closed = λ D i. f.closed D (one_less-IsIn C F.matrix D i) })
    (Skolem-fewer F.prefix F.matrix (one_less C F.matrix) k.0 (one_less-IsIn C F.matrix) k.1)

made-true : (lax : Bool) (m : Limits) (F : PrenexFormula) (s : ProofStep) → IsFormula F → MayBeMade lax m F s → Holds F → Holds (after F s)
made-true lax m F (add p C) f v t = valid-true m F (add p C) f v t
made-true lax m F (delete p C) f v t = fewer-true F C f t
made-true lax m F (drop_literal l C) f v t = valid-true m F (drop_literal l C) f v t
made-true lax m F (fresh v w) f h t = valid-true m F (fresh v w) f h t
made-true lax m F (remove_variable v) f h t = valid-true m F (remove_variable v) f h t

-- All steps.
pub steps-true : (lax : Bool) (m : Limits) (F E : PrenexFormula) (ss : List ProofStep) → IsFormula F → AreMade lax m F ss E →
    IsFormula E × (Holds F → Holds E)
steps-true lax m F E [] f e = (subst IsFormula e f, λ t. subst Holds e t)
steps-true lax m F E (s ∷ ss) f (v, r) =
    let i = steps-true lax m (after F s) E ss (made-formula lax m F s f v) r in (i.0, λ t. i.1 (made-true lax m F s f v t))

-- The empty clause is false.
empty-false : (A : Assignment) → ClauseTrue A [] → ⊥
empty-false A w = w.1

lost-false : (F : PrenexFormula) → IsFormula F → IsLost F → Holds F → ⊥
lost-false F f l t = let k = has_skolem F f t in empty-false (outcome k.0 (λ x. false)) (k.1.wins (λ x. false) [] l)

pub refutes-false : (lax : Bool) (m : Limits) (F : PrenexFormula) (ss : List ProofStep) → IsFormula F → Refutes lax m F ss → Holds F → ⊥
refutes-false lax m F [] f l t = lost-false F f l t
refutes-false lax m F (s ∷ ss) f (inl l) t = lost-false F f l t
refutes-false lax m F (s ∷ ss) f (inr (v, r)) t =
    refutes-false lax m (after F s) ss (made-formula lax m F s f v) r (made-true lax m F s f v t)

-- Parts.
abbrev Cut : Bool → Limits → PrenexFormula → List ProofStep → Type 0
Cut lax m F ss =
    (us : List ProofStep) × (vs : List ProofStep) × (E : PrenexFormula) × (ss ≡ us ++ vs) × AreMade lax m F us E × IsLost E

pub refutes-cut : (lax : Bool) (m : Limits) (F : PrenexFormula) (ss : List ProofStep) → Refutes lax m F ss → Cut lax m F ss
refutes-cut lax m F [] l = ([], [], F, refl, refl, l)
refutes-cut lax m F (s ∷ ss) (inl l) = ([], s ∷ ss, F, refl, refl, l)
refutes-cut lax m F (s ∷ ss) (inr (v, r)) =
    let i = refutes-cut lax m (after F s) ss r in (s ∷ i.0, i.1, i.2, ap (λ (us : List ProofStep). s ∷ us) i.3, (v, i.4), i.5)

pub lost-refutes : (lax : Bool) (m : Limits) (F : PrenexFormula) (ss : List ProofStep) → IsLost F → Refutes lax m F ss
lost-refutes lax m F [] l = l
lost-refutes lax m F (s ∷ ss) l = inl l

pub made-refutes : (lax : Bool) (m : Limits) (F E : PrenexFormula) (ss us : List ProofStep) → AreMade lax m F ss E → Refutes lax m E us →
    Refutes lax m F (ss ++ us)
made-refutes lax m F E [] us e r = subst (λ (G : PrenexFormula). Refutes lax m G us) (sym e) r
made-refutes lax m F E (s ∷ ss) us (v, i) r = inr (v, made-refutes lax m (after F s) E ss us i r)

pub cut-refutes : (lax : Bool) (m : Limits) (F : PrenexFormula) (ss : List ProofStep) → Cut lax m F ss → Refutes lax m F ss
cut-refutes lax m F ss (us, vs, E, e, i, l) =
    subst (Refutes lax m F) (sym e) (made-refutes lax m F E us vs i (lost-refutes lax m E vs l))

made-larger : (lax : Bool) (m n : Limits) (F : PrenexFormula) (s : ProofStep) → AreWithin m n → MayBeMade lax m F s → MayBeMade lax n F s
made-larger lax m n F (add p C) w v = Valid-larger m n F (add p C) w v
made-larger lax m n F (delete p C) w v = v
made-larger lax m n F (drop_literal l C) w v = Valid-larger m n F (drop_literal l C) w v
made-larger lax m n F (fresh v x) w h = Valid-larger m n F (fresh v x) w h
made-larger lax m n F (remove_variable v) w h = Valid-larger m n F (remove_variable v) w h

pub refutes-larger : (lax : Bool) (m n : Limits) (F : PrenexFormula) (ss : List ProofStep) → AreWithin m n → Refutes lax m F ss →
    Refutes lax n F ss
refutes-larger lax m n F [] w r = r
refutes-larger lax m n F (s ∷ ss) w (inl l) = inl l
refutes-larger lax m n F (s ∷ ss) w (inr (v, r)) = inr (made-larger lax m n F s w v, refutes-larger lax m n (after F s) ss w r)

made-lax : (m : Limits) (F : PrenexFormula) (s : ProofStep) → MayBeMade false m F s → MayBeMade true m F s
made-lax m F (add p C) v = v
made-lax m F (delete p C) v = tt
made-lax m F (drop_literal l C) v = v
made-lax m F (fresh v x) h = h
made-lax m F (remove_variable v) h = h

pub refutes-lax : (m : Limits) (F : PrenexFormula) (ss : List ProofStep) → Refutes false m F ss → Refutes true m F ss
refutes-lax m F [] r = r
refutes-lax m F (s ∷ ss) (inl l) = inl l
refutes-lax m F (s ∷ ss) (inr (v, r)) = inr (made-lax m F s v, refutes-lax m (after F s) ss r)

-- Runs.
valid-made : (lax : Bool) (m : Limits) (F : PrenexFormula) (s : ProofStep) → Valid m F s → MayBeMade lax m F s
valid-made lax m F (add p C) v = v
valid-made true m F (delete p C) v = tt
valid-made false m F (delete p C) v = (v.0, v.1)
valid-made lax m F (drop_literal l C) v = v
valid-made lax m F (fresh v x) h = h
valid-made lax m F (remove_variable v) h = h

steps-made : (lax : Bool) (m : Limits) (F E : PrenexFormula) (ss : List ProofStep) → ValidSteps m F ss E → AreMade lax m F ss E
steps-made lax m F E [] e = e
steps-made lax m F E (s ∷ ss) (v, r) = (valid-made lax m F s v, steps-made lax m (after F s) E ss r)

pub run-refutes : (F G : PrenexFormula) (ss : List ProofStep) → Run F ss G → IsLost G → Refutation false F ss
run-refutes F G ss r l =
    cut-refutes false standard F ss (
      ss,
      [],
      r.last,
      end ss,
      steps-made false standard F r.last ss r.steps,
      IsIn-same G r.last [] (Same-sym r.last G r.same) l,
    )
  where
    end : (us : List ProofStep) → us ≡ us ++ []
    end [] = refl
    end (u ∷ us) = ap (λ (vs : List ProofStep). u ∷ vs) (end us)

-- The same formula, in another order.
same-made : (lax : Bool) (m : Limits) (F G : PrenexFormula) (s : ProofStep) → SameFormula F G → MayBeMade lax m F s → MayBeMade lax m G s
same-made lax m F G (add p C) e v = same-valid m F G (add p C) e v
same-made true m F G (delete p C) e v = tt
same-made false m F G (delete p C) e v = ((λ k i. sym (bound-same F.prefix G.prefix k.var e.same_blocks) ∙ v.0 k i), IsIn-same F G C e v.1)
same-made lax m F G (drop_literal l C) e v = same-valid m F G (drop_literal l C) e v
same-made lax m F G (fresh v x) e h = same-valid m F G (fresh v x) e h
same-made lax m F G (remove_variable v) e h = same-valid m F G (remove_variable v) e h

same-made_after : (lax : Bool) (m : Limits) (F G : PrenexFormula) (s : ProofStep) → Distinct F.prefix → Distinct G.prefix → SameFormula F G →
    MayBeMade lax m F s → SameFormula (after F s) (after G s)
same-made_after lax m F G (add p C) d g e v = same-after m F G (add p C) d g e v
same-made_after lax m F G (delete p C) d g e v =
    record { same_blocks = e.same_blocks; same_clauses = one_less-same C F.matrix G.matrix e.same_clauses }
same-made_after lax m F G (drop_literal l C) d g e v = same-after m F G (drop_literal l C) d g e v
same-made_after lax m F G (fresh v x) d g e h = same-after m F G (fresh v x) d g e h
same-made_after lax m F G (remove_variable v) d g e h = same-after m F G (remove_variable v) d g e h

same-refutes : (lax : Bool) (m : Limits) (F G : PrenexFormula) (ss : List ProofStep) → IsFormula F → IsFormula G → SameFormula F G →
    Refutes lax m F ss → Refutes lax m G ss
same-refutes lax m F G [] f g e l = IsIn-same F G [] e l
same-refutes lax m F G (s ∷ ss) f g e (inl l) = inl (IsIn-same F G [] e l)
same-refutes lax m F G (s ∷ ss) f g e (inr (v, r)) =
    let w : MayBeMade lax m G s = same-made lax m F G s e v in
    inr (
      w,
      same-refutes lax m (after F s) (after G s) ss (made-formula lax m F s f v) (made-formula lax m G s g w)
          (same-made_after lax m F G s f.distinct g.distinct e v) r,
    )

pub run-then : (lax : Bool) (F G : PrenexFormula) (ss us : List ProofStep) → IsFormula F → IsFormula G → Run F ss G →
    Refutation lax G us → Refutation lax F (ss ++ us)
run-then lax F G ss us f g r t =
    made-refutes lax standard F r.last ss us (steps-made lax standard F r.last ss r.steps)
    (same-refutes lax standard G r.last us g (steps-formula F ss r.last f (ValidSteps-justified standard F ss r.last r.steps))
    (Same-sym r.last G r.same) t)

-- Herbrand functions.
more-herbrand : (P : Prefix) (X Y : Matrix) (c : Strategy) → ((D : Clause) → IsIn D X → IsIn D Y) → Herbrand P X c → Herbrand P Y c
more-herbrand P X Y c s h = record { lawful = h.lawful; loses = λ A. more (outcome c A) (h.loses A) }
  where
    more : (M : Assignment) → MatrixFalse M X → MatrixFalse M Y
    more M (D, m, f) = (D, s D m, f)

made-carries : (lax : Bool) (m : Limits) (F : PrenexFormula) (s : ProofStep) (rs : List Reversal) (c : Strategy) → IsFormula F →
    MayBeMade lax m F s → Reversed F s rs → HerbrandOf (after F s) c → HerbrandOf F (Forth rs c)
made-carries lax m F (add p C) rs c f v e h = step-carries F (add p C) rs c f (Valid-justified m F (add p C) v) e h
made-carries lax m F (delete p C) rs c f v e h =
    subst (λ (us : List Reversal). HerbrandOf F (Forth us c)) (sym e)
    (more-herbrand F.prefix (one_less C F.matrix) F.matrix c (one_less-IsIn C F.matrix) h)
made-carries lax m F (drop_literal l C) rs c f v e h = step-carries F (drop_literal l C) rs c f (Valid-justified m F (drop_literal l C) v) e h
made-carries lax m F (fresh v x) rs c f j e h = step-carries F (fresh v x) rs c f (Valid-justified m F (fresh v x) j) e h
made-carries lax m F (remove_variable v) rs c f j e h = step-carries F (remove_variable v) rs c f (Valid-justified m F (remove_variable v) j) e h

pub steps-carry : (lax : Bool) (m : Limits) (F E : PrenexFormula) (ss : List ProofStep) (rs : List Reversal) (c : Strategy) → IsFormula F →
    AreMade lax m F ss E → Reversals F ss rs → HerbrandOf E c → HerbrandOf F (Forth rs c)
steps-carry lax m F E [] rs c f r u h =
    subst (λ (us : List Reversal). HerbrandOf F (Forth us c)) (sym u) (subst (λ (G : PrenexFormula). HerbrandOf G c) (sym r) h)
steps-carry lax m F E (s ∷ ss) rs c f r (es, rest, e, u, is) h =
    subst (λ (us : List Reversal). HerbrandOf F (Forth us c)) (sym is) (subst (HerbrandOf F) (sym (Forth-append es rest c))
    (made-carries lax m F s es (Forth rest c) f r.0 e (steps-carry lax m (after F s) E ss rest c
    (made-formula lax m F s f r.0) r.1 u h)))

pub zeros-herbrand : (F : PrenexFormula) → IsLost F → HerbrandOf F (zeros F)
zeros-herbrand F l = record { lawful = record { trees = trees; reads = reads }; loses = λ A. ([], l, empty-false (outcome (zeros F) A)) }
  where
    trees : (u : ℕ) → given (zeros F u) ≡ is_universal F.prefix u
    trees u = go (is_universal F.prefix u)
      where
        go : (b : Bool) → given (where_true b (constant false)) ≡ b
        go true = refl
        go false = refl

    reads : (u : ℕ) → is_universal F.prefix u ≡ true → (e : ℕ) → Reads (circuit_of (zeros F) u) e → existential_before F.prefix e u ≡ true
    reads u h e r = absurd (subst (λ (b : Bool). Reads (Rattle.q_logic.specs.Skolems.or_input u (where_true b (constant false))) e) h r)
