-- A log that many check, each a share of its steps: all make all steps, and each judges those of its share.
use Rattle.std.specs.Prelude.{◌≡◌, ℕ, zero, suc, ◌+◌, ◌/◌, ◌%◌, eqb, Bool, true, false, cond, List, [], ◌∷◌, length}
use Rattle.q_logic.specs.declared.limits.Limits.{Limits}
use Rattle.q_logic.specs.Limits.{standard}
use Rattle.q_logic.specs.Formulas.{IsIn, PrenexFormula}
use Rattle.q_logic.specs.Runs.{SameFormula, ValidSteps}
use Rattle.q_logic.specs.Steps.{ProofStep, Cause, Valid, after}
use Rattle.q_same_steps.specs.Making.{Applies, Unfit, made}

-- which steps are judged, by their numbers from 0 on
abbrev pub Share : Type 0
Share = ℕ → Bool

abbrev pub judged : Bool → Type 0 → Type 0 → Type 0
judged true V A = V
judged false V A = A

-- the steps, of which the first has the number k, can be made one after the other, and those of the share are valid
abbrev pub AreMade : Share → Limits → ℕ → PrenexFormula → List ProofStep → Type 0
AreMade j m k F [] = Unit {0}
AreMade j m k F (s ∷ ss) = judged (j k) (Valid m F s) (Applies m F s) × AreMade j m (k + 1) (after F s) ss

-- what one of those who check a share says: the steps lead from F to a formula with the blocks and the clauses of G, and those of its
-- share are valid
pub record ShareRun (j : Share) (F : PrenexFormula) (ss : List ProofStep) (G : PrenexFormula) : Type 0 where
  pub steps : AreMade j standard 0 F ss
  pub same : SameFormula (made F ss) G

-- how many steps of the share there are
abbrev pub count : Share → ℕ → List ProofStep → ℕ
count j k [] = 0
count j k (s ∷ ss) = cond (j k) (count j (k + 1) ss + 1) (count j (k + 1) ss)

abbrev pub counts : List Share → ℕ → List ProofStep → ℕ
counts [] k ss = 0
counts (j ∷ js) k ss = count j k ss + counts js k ss

-- how many shares a number is in
abbrev pub shares_of : List Share → ℕ → ℕ
shares_of [] k = 0
shares_of (j ∷ js) k = cond (j k) (shares_of js k + 1) (shares_of js k)

-- each step is in one share
abbrev pub AreDealt : List Share → Type 0
AreDealt js = (k : ℕ) → shares_of js k ≡ 1

-- all say so
abbrev pub AllSay : List Share → PrenexFormula → List ProofStep → PrenexFormula → Type 0
AllSay js F ss G = (j : Share) → IsIn j js → ShareRun j F ss G

-- share i of n: the steps in blocks of b, of which one share after the other gets one
abbrev pub dealt : ℕ → ℕ → ℕ → Share
dealt b n i k = eqb ((k / b) % n) i

-- the first shares of n
abbrev pub first_dealt : ℕ → ℕ → ℕ → List Share
first_dealt b n zero = []
first_dealt b n (suc i) = dealt b n i ∷ first_dealt b n i

-- those who check a share make the steps ss, and then refuse the step s, with this cause if it is theirs to judge
pub record Refuses (j : Share) (m : Limits) (F : PrenexFormula) (ss : List ProofStep) (s : ProofStep) (n : ℕ) : Type 0 where
  pub steps : AreMade j m 0 F ss
  pub cause : judged (j (length ss)) (Cause m (made F ss) s n) (Unfit m (made F ss) s n)

-- the steps ss are valid, and the step s behind them is not, with this cause
abbrev pub IsFirstWrong : Limits → PrenexFormula → List ProofStep → ProofStep → ℕ → Type 0
IsFirstWrong m F ss s n = ValidSteps m F ss (made F ss) × Cause m (made F ss) s n
