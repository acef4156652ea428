use Rattle.std.proofs.Common.{sym, subst}
use Rattle.q_logic.specs.Prelude.{Literal}
use Rattle.q_eliminate.specs.Growing.{MayGoBy}
use Rattle.q_eliminate.proofs.DeletedClauses.{later, lost}
use Rattle.q_eliminate.proofs.eliminate.delete_sides.Goals as goal

pub delete_with-requires-clause-pivot : goal.delete_with-requires-clause-pivot
delete_with-requires-clause-pivot c = subst (λ (l : Literal). MayGoBy c.args.kernel.now l) (sym c.negated.ensures) c.requires.first

pub delete_with-requires-2-clause-pivot : goal.delete_with-requires-2-clause-pivot
delete_with-requires-2-clause-pivot c = later c.args.kernel.now c.delete_with.new.kernel c.args.outer c.negated.result c.negated.ensures c.delete_with.ensures c.requires.second

pub returns : goal.returns
returns c = lost c.args.kernel.now c.delete_with.new.kernel c.delete_with-2.new.kernel c.args.outer c.negated.result c.negated.ensures c.delete_with.ensures c.delete_with-2.ensures
