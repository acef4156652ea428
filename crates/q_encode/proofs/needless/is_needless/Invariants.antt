use Rattle.std.proofs.Common.{◌≡◌, ◌∷◌, true, take}
use Rattle.q_logic.specs.Prelude.{Literal, Clause, IsIn}
use Rattle.q_logic.specs.Sets.{all_in}
use Rattle.q_miter.specs.Miters.{gate_definitions}
use Rattle.q_encode.specs.Translations.{bare}
use Rattle.q_encode.proofs.needless.is_needless.Given as goal

abbrev pub invariant-loop-lit : goal.invariant-loop-lit
invariant-loop-lit l = (k : Literal) → IsIn k (take l.lit-index l.clause) → (R : Clause) → IsIn (k ∷ R) (gate_definitions l.top (bare l.aig)) →
    all_in R l.clause ≡ true → ⊥
