-- What becomes of the moves of the first rounds.
use Rattle.std.specs.Prelude.{ℕ, List}
use Rattle.q_logic.specs.Prelude.{PrenexFormula, Assignment, CertificateView, trees_of, Lawful, outcome, ProofStep, Run, UndoEntry, Undos}
use Rattle.q_logic.specs.Moves.{Agree, CanBeCompleted, Wins}
use Rattle.q_rebuild.specs.Rebuilt.{IsRebuilt}

pub record KeepsMoves (F G : PrenexFormula) (us : List UndoEntry) (gave made : CertificateView) : Type 0 where
  pub lawful : Lawful G.prefix (trees_of gave)
  -- outputs behind at most n universal blocks are made from such outputs alone: over the same steps, other circuits with the
  -- same values there are made into circuits with the same values there
  pub same : (ss : List ProofStep) → (vs : List UndoEntry) → (gave2 made2 : CertificateView) → (n : ℕ) → (A : Assignment) →
      Run F ss G → Undos F ss us → Undos F ss vs → Lawful G.prefix (trees_of gave2) → IsRebuilt F G vs gave2 made2 →
      Agree G.prefix n (trees_of gave) (trees_of gave2) A → Agree F.prefix n (trees_of made) (trees_of made2) A
  -- what some Skolem functions of the output complete is made into what some Skolem functions of the input complete
  pub completed : (n : ℕ) → CanBeCompleted G n (trees_of gave) → CanBeCompleted F n (trees_of made)
  -- under the made values before all universals the input stays true, where under the given ones the output does
  pub winning : (A : Assignment) → Wins G (outcome (trees_of gave) A) → Wins F (outcome (trees_of made) A)
