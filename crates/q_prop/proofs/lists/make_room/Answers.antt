use Rattle.std.proofs.Common.{map, List, ℕ, refl}
use Rattle.smallvec.specs.SmallVec.{SmallVec}
use Rattle.q_prop.proofs.PagedLists.{paged-same}
use Rattle.q_prop.proofs.lists.make_room.Goals as goal

pub returns-in_err-make-clause-same : goal.returns-in_err-make-clause-same
returns-in_err-make-clause-same c =
    let f : SmallVec ℕ → List ℕ = λ v. v.items in
    let L = map f c.args.lists.now.items in
    paged-same c.args.table.now c.make.new.self L L c.make.ensures.given c.requires (λ j. refl)

pub returns-clause-same : goal.returns-clause-same
returns-clause-same c =
    let f : SmallVec ℕ → List ℕ = λ v. v.items in
    paged-same c.args.table.now c.make.new.self (map f c.args.lists.now.items) (map f c.grow.new.lists.items) c.make.ensures.given c.requires c.grow.ensures.same
