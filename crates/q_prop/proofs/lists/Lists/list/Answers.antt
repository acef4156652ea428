use Rattle.std.proofs.Common.{◌∙◌, sym, ap, map, List, ℕ}
use Rattle.smallvec.specs.SmallVec.{SmallVec}
use Rattle.q_prop.specs.Lists.{list_at}
use Rattle.q_prop.proofs.PagedLists.{paged-at}
use Rattle.q_prop.proofs.lists.Lists.list.Goals as goal

pub returns : goal.returns
returns c =
    let f : SmallVec ℕ → List ℕ = λ v. v.items in
    let L = map f c.self.inside.lists.items in
    rw (← c.self.view_is) (c.list_in.ensures ∙ ap (λ (p : ℕ). list_at L p) c.place.ensures ∙ sym (paged-at c.self.inside.table L c.self.invariant c.args.k))
