use Rattle.std.proofs.Common.{◌∙◌, ◌∷◌, ◌++◌, [], sym, ap, List, ℕ}
use Rattle.q_binary.specs.BinaryProofs.{value}
use Rattle.q_binary.proofs.GroupValues.{value-more}
use Rattle.q_binary.proofs.groups.Groups.value.Goals as goal

pub returns : goal.returns
returns c =
    c.with_last.ensures
    ∙ (sym (value-more c.self.inside.count c.self.inside.number c.args.last c.self.invariant.0 c.self.invariant.1)
    ∙ ap (λ (ds : List ℕ). value (ds ++ c.args.last ∷ [])) c.self.view_is)
