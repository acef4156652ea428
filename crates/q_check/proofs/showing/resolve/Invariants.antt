use Rattle.std.proofs.Common.{◌≡◌, ◌++◌, take, map, Some}
use Rattle.q_logic.specs.declared.proof_part.ProofKind.TheVariants.{Pivot}
use Rattle.q_logic.specs.Prelude.{Clause, IsIn, HintGroup, Chained, slot, outer}
use Rattle.q_check.specs.Numbers.{left_out}
use Rattle.q_check.proofs.showing.resolve.Given as goal

abbrev pub invariant-loop-i : goal.invariant-loop-i
invariant-loop-i l = record {
  same : l.book ≡ l.fn.book;
  kind : l.proof.kind ≡ Pivot;
  number : l.proof.number ≡ l.fn.proof.number;
  targets : map (λ (g : HintGroup). g.target) l.proof.groups ≡ take l.i l.targets.items;
  each : (g : HintGroup) → IsIn g l.proof.groups → (D : Clause) → slot (left_out l.sides.skip l.fn.book.slots) g.target ≡ Some D →
      Chained (left_out l.sides.skip l.fn.book.slots) (l.sides.base.now ++ outer l.fn.book.prefix l.sides.m D) g.hints;
}
