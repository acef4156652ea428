-- Faults at the files to which a command comes.
use Rattle.std.proofs.Common.{◌≡◌, ◌≤◌, ◌⊎◌, inl, inr, subst, ℕ, List, [], ◌∷◌, Option, Some, None, IfSome}
use Rattle.q_io.specs.Files.{Disk, RoseAmong}
use Rattle.q_io.proofs.FaultCounts.{rose_later}
use Rattle.q_command.specs.FirstFaults.{Turn, FaultAt, untold}

-- nothing has to be so
pub at_once : {D : Type 0} (o : Option D) → IfSome o (λ d. Unit {0})
at_once None = tt
at_once (Some d) = tt

pub among-at : {X : Type 0} (faults : X → List ℕ → ℕ) (names : List (List ℕ)) (held end : Option Disk) (before after : X) → RoseAmong faults names before after → FaultAt faults (untold names) held end before after
among-at faults [] held end before after r = r
among-at faults (n ∷ []) held end before after r = inl (at_once held, r)
among-at faults (n ∷ m ∷ names) held end before after (inl r) = inl (at_once held, r)
among-at faults (n ∷ m ∷ names) held end before after (inr r) = inr (among-at faults (m ∷ names) held end before after r)

-- the same files, and others behind them
pub two-at : {X : Type 0} (faults : X → List ℕ → ℕ) (a b : Turn) (ts : List Turn) (held end : Option Disk) (before after : X) → FaultAt faults (a ∷ b ∷ []) held end before after → FaultAt faults (a ∷ b ∷ ts) held end before after
two-at faults a b ts held end before after (inl r) = inl r
two-at faults a b ts held end before after (inr (inl r)) = inr (inl r)
two-at faults a b ts held end before after (inr (inr r)) = absurd r

pub three-at : {X : Type 0} (faults : X → List ℕ → ℕ) (a b c : Turn) (ts : List Turn) (held end : Option Disk) (before after : X) → FaultAt faults (a ∷ b ∷ c ∷ []) held end before after → FaultAt faults (a ∷ b ∷ c ∷ ts) held end before after
three-at faults a b c ts held end before after (inl r) = inl r
three-at faults a b c ts held end before after (inr (inl r)) = inr (inl r)
three-at faults a b c ts held end before after (inr (inr (inl r))) = inr (inr (inl r))
three-at faults a b c ts held end before after (inr (inr (inr r))) = absurd r

-- what was called before changed no file, and let no count fall
pub later-at : {X : Type 0} (faults : X → List ℕ → ℕ) (ts : List Turn) (held still end : Option Disk) (before mid after : X) → still ≡ held → ((q : List ℕ) → faults before q ≤ faults mid q) → FaultAt faults ts still end mid after → FaultAt faults ts held end before after
later-at faults [] held still end before mid after e l r = r
later-at faults (t ∷ ts) held still end before mid after e l (inl (h, r)) =
    inl (subst (λ (o : Option Disk). IfSome o (λ disk. t.reached disk end)) e h, rose_later (faults before t.name) (faults mid t.name) (faults after t.name) (l t.name) r)
later-at faults (t ∷ ts) held still end before mid after e l (inr r) = inr (later-at faults ts held still end before mid after e l r)
