use Rattle.std.proofs.Common.{subst}
use Rattle.q_logic.specs.Prelude.{Literal, live}
use Rattle.q_kernel.specs.Prelude.{slots}
use Rattle.q_equiv.specs.Walks.{IsGathered}
use Rattle.q_equiv.proofs.find.find_keep.Goals as goal

pub pick-requires : goal.pick-requires
pick-requires c =
    let X = live (slots c.args.kernel.now) in
    let levels = c.level_off.new.walks.levels in (
      levels,
      c.in_ok-level_off.ensures,
      c.in_ok-there.ensures,
      subst (λ (l : Literal). IsGathered levels X l c.gather-2.new.queue) c.negated.ensures c.in_ok-back.ensures,
    )
