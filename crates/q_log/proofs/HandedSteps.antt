-- A step that is handed out moves from what is to come to what was handed out.
use Rattle.std.proofs.Common.{◌≡◌, ℕ, List, [], ◌∷◌, ◌++◌, sym, ap, append_assoc}
use Rattle.q_logic.specs.Prelude.{ProofStep}
use Rattle.q_log.specs.Logs.{Parsed, onto, behind}

pub behind-onto : (steps : List (ℕ × ProofStep)) (s : ℕ × ProofStep) (o : Parsed) → behind steps (onto s o) ≡ behind (steps ++ s ∷ []) o
behind-onto steps s o = ap (λ (ss : List (ℕ × ProofStep)). record { steps = ss; refused = o.refused }) (sym (append_assoc steps (s ∷ []) o.steps))
