use Rattle.std.proofs.Common.{◌∙◌, ap}
use Rattle.q_arena.specs.Prelude.{list_at}
use Rattle.q_prefix.specs.declared.marks.Mark.{Mark}
use Rattle.q_prefix.proofs.ListedBounds.{bound-flag}
use Rattle.q_prefix.proofs.prefix.Prefix.contains.Goals as goal

pub returns : goal.returns
returns c =
    let marks = c.self.inside.marks.items in
    let vars = list_at c.self.inside.order 0 in
    rw (← c.self.view_is) (ap (λ (m : Mark). m.bound) c.mark_of.ensures ∙ bound-flag marks vars c.args.var (c.self.invariant.bound c.args.var) (c.self.invariant.bounds c.args.var))
