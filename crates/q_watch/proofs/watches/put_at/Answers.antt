use Rattle.std.proofs.Common.{◌≡◌, ◌∙◌, List, Some, slice_get, subst, sym}
use Rattle.q_watch.specs.declared.entry.Pair.{Pair}
use Rattle.q_watch.proofs.RowLemmas.{get-set_same, get-set_other}
use Rattle.q_watch.proofs.watches.put_at.Goals as goal

pub returns-clause-here : goal.returns-clause-here
returns-clause-here c = subst (λ (ps : List Pair). slice_get ps c.args.id ≡ Some c.args.pair.now) (sym c.set_at.ensures) (get-set_same c.lengthen.new.pairs.items c.args.id _ c.in_ok-lengthen.ensures.room)

pub returns-clause-others : goal.returns-clause-others
returns-clause-others c d p n e = subst (λ (ps : List Pair). slice_get ps d ≡ Some p) (sym c.set_at.ensures) (get-set_other c.lengthen.new.pairs.items c.args.id d _ n ∙ c.in_ok-lengthen.ensures.same d p e)
