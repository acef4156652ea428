-- The clauses that are made of a formula and circuits.
use Rattle.std.specs.Prelude.{◌≡◌, ◌≤◌, length}
use Rattle.std.specs.List.{AllByRecursion}
use Rattle.q_logic.specs.declared.limits.Limits.{Limits}
use Rattle.q_logic.specs.Prelude.{IsBelow, ArePairs, Matrix, PrenexFormula, CertificateView, literals_in}
use Rattle.q_certificate.specs.Narrowed.{IsNarrowed}
use Rattle.q_miter.specs.Miters.{AreCircuits, VarsUpTo}
use Rattle.q_encode.specs.declared.side.Side.{Side}
use Rattle.q_encode.specs.Sides.{turned, miter_of}

-- the miter of the given circuits, over the inputs of their side alone and without gates that no circuit needs
pub record IsMiter (side : Side) (F : PrenexFormula) (given : CertificateView) (X : Matrix) : Type 0 where
  pub made : CertificateView
  pub circuits : AreCircuits made
  pub narrowed : IsNarrowed (turned side F.prefix) given made
  pub clauses : X ≡ miter_of side F made

-- clauses in literal order, within limits
pub record AreWithin (m : Limits) (X : Matrix) : Type 0 where
  pub ordered : AllByRecursion (ArePairs IsBelow) X
  pub vars : VarsUpTo m.vars X
  pub clauses : length X ≤ m.clauses
  pub lits : literals_in X ≤ m.lits
