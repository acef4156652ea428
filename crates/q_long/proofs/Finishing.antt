-- What a derivation that ends decides: of terms, that the formula is true; of clauses turned round, that it is false.
use Rattle.std.proofs.Common.{List, [], ◌∷◌, inl, inr, sym, ap, ◌∙◌, subst}
use Rattle.q_logic.specs.Prelude.{Literal, Prefix, IsIn, Assignment, PrenexFormula, IsFormula, SkolemOf, outcome}
use Rattle.q_logic.specs.Truth.{MatrixTrue}
use Rattle.q_logic.specs.Exchanging.{exchanged}
use Rattle.q_logic.specs.Herbrands.{MatrixFalse, HerbrandOf}
use Rattle.q_logic.proofs.Exchanged.{exchanged-distinct, exchanged-lawful}
use Rattle.q_derive.specs.Derivations.{TermTrue, IsHitting, HoldsClause}
use Rattle.q_derive.proofs.Winning.{hitting-true}
use Rattle.q_long.specs.Valued.{Value, value_for, HaveAll, Line, IsDerivation, HasEmpty, values_for, AreOf, IsTurned}
use Rattle.q_long.specs.Decided.{circuits_of}
use Rattle.q_long.proofs.Refuting.{clause-false}
use Rattle.q_long.proofs.Winning.{value-for, derived-lawful, derivation-wins}

in-values : (T : List Literal) (k : Literal) → IsIn k T → IsIn (value_for k) (values_for T)
in-values [] k m = elim m [ ]
in-values (j ∷ T) k (inl e) = inl (ap value_for e)
in-values (j ∷ T) k (inr m) = inr (in-values T k m)

values-true : (B : Assignment) (T : List Literal) → HaveAll B (values_for T) → TermTrue B T
values-true B T h k m = sym (value-for B k) ∙ h (value_for k) (in-values T k m)

pub ended-skolem : (F : PrenexFormula) (lines : List Line) → IsFormula F → IsDerivation F.prefix (AreOf (IsHitting F.matrix)) lines →
    HasEmpty lines → SkolemOf F (circuits_of F.prefix lines)
ended-skolem F lines f d e = record {
  lawful = derived-lawful F.prefix (AreOf (IsHitting F.matrix)) lines f.distinct d;
  wins = λ A. derivation-wins F.prefix (AreOf (IsHitting F.matrix)) lines A (MatrixTrue (outcome (circuits_of F.prefix lines) A) F.matrix) f.distinct d e
      (hit (outcome (circuits_of F.prefix lines) A));
}
  where
    hit : (B : Assignment) (V : List Value) → AreOf (IsHitting F.matrix) V → HaveAll B V → MatrixTrue B F.matrix
    hit B V (T, l, q) h = hitting-true F.matrix B T l (values-true B T (subst (HaveAll B) q h))

pub ended-herbrand : (F : PrenexFormula) (lines : List Line) → IsFormula F →
    IsDerivation (exchanged F.prefix) (AreOf (IsTurned (HoldsClause F.matrix))) lines → HasEmpty lines →
    HerbrandOf F (circuits_of (exchanged F.prefix) lines)
ended-herbrand F lines f d e = record {
  lawful = exchanged-lawful F.prefix (circuits_of Q lines) (derived-lawful Q L lines (exchanged-distinct F.prefix f.distinct) d);
  loses = λ A. derivation-wins Q L lines A (MatrixFalse (outcome (circuits_of Q lines) A) F.matrix) (exchanged-distinct F.prefix f.distinct) d e
      (miss (outcome (circuits_of Q lines) A));
}
  where
    Q : Prefix
    Q = exchanged F.prefix

    L : List Value → Type 0
    L = AreOf (IsTurned (HoldsClause F.matrix))

    miss : (B : Assignment) (V : List Value) → L V → HaveAll B V → MatrixFalse B F.matrix
    miss B V (T, l, q) h = clause-false F.matrix B T l (values-true B T (subst (HaveAll B) q h))
