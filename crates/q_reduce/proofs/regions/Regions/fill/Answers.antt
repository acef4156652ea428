use Rattle.std.proofs.Common.{◌∙◌, ℕ}
use Rattle.std.proofs.lemmas.List.Sorted.{IsNonDecreasingBy-from_sort}
use Rattle.q_reduce.proofs.regions.Regions.fill.Goals as goal

pub invariant_of-self-2 : goal.invariant_of-self-2
invariant_of-self-2 c = (
  c.flatten.ensures ∙ (c.join_all.ensures ∙ (c.start.ensures.labels ∙ c.drop.invariant.0)),
  c.start.ensures.covered ∙ c.drop.invariant.1,
  λ i j l m. IsNonDecreasingBy-from_sort (λ (n : ℕ). n) c.sort_unstable.new.self.items c.sort_unstable.ensures.sorted i j 0 l m,
)
