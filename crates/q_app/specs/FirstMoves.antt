-- First moves over files: what two calls of `rebuild` make of circuits that agree in the first rounds.
use Rattle.std.specs.Prelude.{◌≡◌, ℕ, Option}
use Rattle.q_logic.specs.Prelude.{Assignment, CertificateView, trees_of}
use Rattle.q_logic.specs.Moves.{Agree}
use Rattle.q_io.specs.Files.{Disk, bytes_at}
use Rattle.q_app.specs.Rebuilds.{FiveNames, IsWhole}

-- both read the same two formulas and the same log
pub record AreOfOneLog (n m : FiveNames) (d e : Disk) : Type 0 where
  pub input : bytes_at e m.input ≡ bytes_at d n.input
  pub output : bytes_at e m.output ≡ bytes_at d n.output
  pub log : bytes_at e m.log ≡ bytes_at d n.log

-- the circuits that were written
abbrev pub made_in : (gates : ℕ) → (n : FiveNames) → (before : Disk) → (after : Option Disk) →
    IsWhole gates n before after → CertificateView
made_in gates n before after w = w.holds.1.1.made

-- circuits with the same values behind at most k universal blocks of the formula of OUT are made into circuits with the same
-- values behind at most k universal blocks of the formula of IN
abbrev pub FirstMoves : Type 0
FirstMoves =
    (n m : FiveNames) → (g h : ℕ) → (d e : Disk) → (x y : Option Disk) → AreOfOneLog n m d e →
    (w : IsWhole g n d x) → (v : IsWhole h m e y) → (k : ℕ) → (A : Assignment) →
    Agree w.to.prefix k (trees_of w.given) (trees_of v.given) A →
    Agree w.from.prefix k (trees_of (made_in g n d x w)) (trees_of (made_in h m e y v)) A
