-- Steps without their limits: what soundness rests on.
use Rattle.std.proofs.Common.{◌≡◌, ◌⊎◌, true, false, List, [], ◌∷◌, eqb}
use Rattle.q_logic.specs.declared.limits.Limits.{Limits}
use Rattle.q_logic.specs.Prelude.{Literal, Clause, IsIn, PrenexFormula, is_existential, is_bound, Implied, ForallPivot, Reducible, ProofStep, add, delete, drop_literal, fresh, remove_variable, one_less, Within, FirstPivot, Valid, after, standard, SameFormula, ValidSteps, Run}

abbrev pub Justified : PrenexFormula → ProofStep → Type 0
Justified F (add p C) = Within F.prefix C × (Implied F.matrix C ⊎ FirstPivot F.prefix F.matrix C p)
Justified F (delete p C) =
    IsIn C F.matrix × (Implied (one_less C F.matrix) C ⊎ FirstPivot F.prefix (one_less C F.matrix) C p)
Justified F (drop_literal l C) =
    IsIn C F.matrix × (ForallPivot F.prefix (one_less C F.matrix) C l ⊎
    Reducible F.prefix (one_less C F.matrix) C l)
Justified F (fresh v w) = (is_bound F.prefix v ≡ false) × (is_existential F.prefix w ≡ true)
Justified F (remove_variable v) =
    (is_bound F.prefix v ≡ true) × ((D : Clause) → IsIn D F.matrix → (k : Literal) → IsIn k D →
    eqb k.var v ≡ false)

-- The steps are valid one after the other, and E is the last formula.
abbrev pub JustifiedSteps : PrenexFormula → List ProofStep → PrenexFormula → Type 0
JustifiedSteps F [] E = F ≡ E
JustifiedSteps F (s ∷ ss) E = Justified F s × JustifiedSteps (after F s) ss E

pub record JustifiedRun (F : PrenexFormula) (ss : List ProofStep) (G : PrenexFormula) : Type 0 where
  pub last : PrenexFormula
  pub steps : JustifiedSteps F ss last
  pub same : SameFormula last G

pub Valid-justified : (m : Limits) (F : PrenexFormula) (s : ProofStep) → Valid m F s → Justified F s
Valid-justified m F (add p C) v = (v.0, v.1)
Valid-justified m F (delete p C) v = (v.1, v.2)
Valid-justified m F (drop_literal l C) v = (v.1, v.2)
Valid-justified m F (fresh v w) h = (h.absent, h.behind)
Valid-justified m F (remove_variable v) h = (h.0, h.1)

pub ValidSteps-justified : (m : Limits) (F : PrenexFormula) (ss : List ProofStep) (E : PrenexFormula) →
    ValidSteps m F ss E → JustifiedSteps F ss E
ValidSteps-justified m F [] E h = h
ValidSteps-justified m F (s ∷ ss) E (v, r) =
    (Valid-justified m F s v, ValidSteps-justified m (after F s) ss E r)

pub Run-justified : (F : PrenexFormula) (ss : List ProofStep) (G : PrenexFormula) → Run F ss G →
    JustifiedRun F ss G
Run-justified F ss G r =
    record { last = r.last; steps = ValidSteps-justified standard F ss r.last r.steps; same = r.same }
