use Rattle.std.proofs.Common.{ℕ, ◌∙◌, ap, sym, subst, All, Contains, List, Option}
use Rattle.q_occ.specs.Places.{places_of}
use Rattle.q_kernel.specs.Visits.{owners_at, holders_of, holders_since, AreOnce, IsHolder}
use Rattle.q_kernel.proofs.DistinctMembers.{once-apart}
use Rattle.q_kernel.proofs.HolderLists.{since-first, holders-hold, holders-all, holders-once}
use Rattle.q_kernel.proofs.kernel.Kernel.holders.Goals as goal

pub returns-clause-value : goal.returns-clause-value
returns-clause-value c =
    let k = c.args.self.now in
    let ys = places_of k.lists c.args.lit in
    ap (λ (o : Option ℕ). holders_since k c.args.lit o) c.first-at.ensures.first ∙ ap (owners_at k.lists) (since-first ys)

pub returns-clause-hold : goal.returns-clause-hold
returns-clause-hold c = subst (λ (xs : List ℕ). All (λ d. IsHolder c.args.self.now c.args.lit d) xs) (sym (returns-clause-value c)) (holders-hold c.args.self.now c.args.lit c.sound.ensures)

pub returns-clause-all : goal.returns-clause-all
returns-clause-all c d h = subst (λ (xs : List ℕ). Contains xs d) (sym (returns-clause-value c)) (holders-all c.args.self.now c.args.lit d c.sound.ensures h)

pub returns-clause-once : goal.returns-clause-once
returns-clause-once c = subst AreOnce (sym (returns-clause-value c)) (once-apart (holders_of c.args.self.now c.args.lit) (holders-once c.args.self.now c.args.lit c.sound.ensures))
