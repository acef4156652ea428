-- A log with hints that many check, each a share of its steps. Numbers of clauses are those of the whole log, so nothing is numbered anew.
use Rattle.std.specs.Prelude.{ℕ, ◌+◌, List, [], ◌∷◌}
use Rattle.q_logic.specs.declared.limits.Limits.{Limits}
use Rattle.q_logic.specs.Limits.{standard}
use Rattle.q_logic.specs.Formulas.{IsIn, PrenexFormula}
use Rattle.q_logic.specs.Runs.{SameFormula}
use Rattle.q_logic.specs.Hinted.{NumberedFormula, Hinted, HintedValid, hinted_after, begun, plain}
use Rattle.q_same_steps.specs.HintedMaking.{HintedApplies, hinted_made}
use Rattle.q_shares.specs.Shares.{Share, judged}

-- the steps, of which the first has the number k, can be made one after the other, and those of the share are valid as their proof parts show
abbrev pub AreHintedMade : Share → Limits → ℕ → NumberedFormula → List Hinted → Type 0
AreHintedMade j m k F [] = Unit {0}
AreHintedMade j m k F (h ∷ hs) =
    judged (j k) (HintedValid m F h.step h.proof) (HintedApplies m F h.step h.proof) ×
    AreHintedMade j m (k + 1) (hinted_after F h.step h.proof) hs

pub record HintedShareRun (j : Share) (F : PrenexFormula) (hs : List Hinted) (G : PrenexFormula) : Type 0 where
  pub steps : AreHintedMade j standard 0 (begun F) hs
  pub same : SameFormula (plain (hinted_made (begun F) hs)) G

abbrev pub AllSayHinted : List Share → PrenexFormula → List Hinted → PrenexFormula → Type 0
AllSayHinted js F hs G = (j : Share) → IsIn j js → HintedShareRun j F hs G
