-- A refutation that many check, each a share of its steps: all make all steps up to the empty clause, and each judges those of its share.
-- A deletion is judged by nobody: its clause has to be there, and nothing more.
use Rattle.std.specs.Prelude.{◌≡◌, ◌⊎◌, ◌≤◌, ◌+◌, ℕ, suc, Bool, true, false, cond, List, [], ◌∷◌, Option, Some, None}
use Rattle.q_logic.specs.declared.limits.Limits.{Limits}
use Rattle.q_logic.specs.Prelude.{IsIn, PrenexFormula, ProofStep, after}
use Rattle.q_same_steps.specs.Making.{Applies, Unfit}
use Rattle.q_shares.specs.Shares.{Share, judged}
use Rattle.q_refutation.specs.Refutations.{BadCause, IsLost, MayBeMade}

-- a step that may be made if it is to be judged, and that can be made if another one judges it
abbrev pub MayBeTaken : Bool → Limits → PrenexFormula → ProofStep → Type 0
MayBeTaken own m F s = judged own (MayBeMade false m F s) (Applies m F s)

-- why it is not taken
abbrev pub NotTaken : Bool → Limits → PrenexFormula → ProofStep → ℕ → Type 0
NotTaken own m F s n = judged own (BadCause false m F s n) (Unfit m F s n)

-- the empty clause comes, and the steps up to there are taken, of which the first has the number k
abbrev pub RefutesShared : Share → Limits → ℕ → PrenexFormula → List ProofStep → Type 0
RefutesShared j m k F [] = IsLost F
RefutesShared j m k F (s ∷ ss) = IsLost F ⊎ (MayBeTaken (j k) m F s × RefutesShared j m (k + 1) (after F s) ss)

-- n is the number of the steps of the share until the empty clause is there
abbrev pub SharedIn : Share → Limits → ℕ → PrenexFormula → List ProofStep → ℕ → Type 0
SharedIn j m k F [] n = IsLost F × (n ≡ 0)
SharedIn j m k F (s ∷ ss) n =
    (IsLost F × (n ≡ 0)) ⊎
    (¬ IsLost F × MayBeTaken (j k) m F s × ((i : ℕ) × SharedIn j m (k + 1) (after F s) ss i × (n ≡ cond (j k) (i + 1) i)))

-- before the empty clause is there, so many steps are taken, and the next one is not, with this cause; or there is none, and no cause
abbrev pub RefusedShared : Share → Limits → ℕ → PrenexFormula → List ProofStep → ℕ → Option ℕ → Type 0
RefusedShared j m k F [] at cause = ¬ IsLost F × (at ≡ 0) × (cause ≡ None)
RefusedShared j m k F (s ∷ ss) at cause =
    ¬ IsLost F × (((at ≡ 0) × ((n : ℕ) × NotTaken (j k) m F s n × (cause ≡ Some n))) ⊎
    (MayBeTaken (j k) m F s × ((i : ℕ) × RefusedShared j m (k + 1) (after F s) ss i cause × (at ≡ suc i))))

-- each of several says that the empty clause comes
abbrev pub AllRefute : List Share → Limits → PrenexFormula → List ProofStep → Type 0
AllRefute js m F ss = (j : Share) → IsIn j js → RefutesShared j m 0 F ss

-- each of several has counted so many steps of its share
abbrev pub AllSharedIn : List Share → Limits → ℕ → PrenexFormula → List ProofStep → List ℕ → Type 0
AllSharedIn [] m k F ss [] = Unit {0}
AllSharedIn [] m k F ss (n ∷ ns) = ⊥
AllSharedIn (j ∷ js) m k F ss [] = ⊥
AllSharedIn (j ∷ js) m k F ss (n ∷ ns) = SharedIn j m k F ss n × AllSharedIn js m k F ss ns

-- the steps are taken one after the other, the empty clause is there before none of them, and E is the last formula
abbrev pub AreTakenUnlost : Share → Limits → ℕ → PrenexFormula → List ProofStep → PrenexFormula → Type 0
AreTakenUnlost j m k F [] E = F ≡ E
AreTakenUnlost j m k F (s ∷ ss) E = ¬ IsLost F × MayBeTaken (j k) m F s × AreTakenUnlost j m (k + 1) (after F s) ss E

-- who checks a share comes so far: the empty clause comes, or what is refused stands no earlier
abbrev pub ComesTo : Share → Limits → PrenexFormula → List ProofStep → ℕ → Type 0
ComesTo j m F ss at =
    RefutesShared j m 0 F ss ⊎ ((other : ℕ) × (own : Option ℕ) × RefusedShared j m 0 F ss other own × (at ≤ other))

-- one who judges the step of this number, or says that there is none
abbrev pub IsOwner : Share → ℕ → Option ℕ → Type 0
IsOwner j at None = Unit {0}
IsOwner j at (Some n) = j at ≡ true
