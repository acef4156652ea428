use Rattle.std.proofs.Common.{subst}
use Rattle.q_resolve.specs.Merging.{IsSaidOne}
use Rattle.q_resolve.proofs.saying.say_merged.Goals as goal

pub returns : goal.returns
returns c = (
  c.merge_of.new.drops,
  c.in_ok-made.made,
  c.in_ok-made.ensures,
  subst (λ x. IsSaidOne c.merge_of.new.drops c.say_one.new.drops x c.in_ok-made.made) c.var.ensures.value c.in_ok-say_one.ensures,
)
