-- Lines that are put.
use Rattle.std.proofs.Common.{◌≡◌, subst, ℕ, List}
use Rattle.q_command.specs.Sinks.{SinkView, IsSaid}
use Rattle.q_command.specs.declared.status.Status.{Status}

-- of equal lines and equal statuses the same is said
pub said-same : (t u : List ℕ) (d e given : Status) (old new : SinkView) → t ≡ u → d ≡ e → IsSaid t d given old new → IsSaid u e given old new
said-same t u d e given old new p q h =
    subst (λ (x : Status). IsSaid u x given old new) q (subst (λ (x : List ℕ). IsSaid x d given old new) p h)
