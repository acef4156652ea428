use Rattle.std.proofs.Common.{List, subst}
use Rattle.q_logic.specs.Prelude.{IsIn}
use Rattle.q_reduce.specs.Forests.{ForestMap}
use Rattle.q_reduce.proofs.ListItems.{remove-in}
use Rattle.q_reduce.proofs.forests.Forests.free.Goals as goal

pub returns-then-place-len : goal.returns-then-place-len
returns-then-place-len c F m =
    subst (λ (Fs : List ForestMap). IsIn F Fs) c.self.view_is
    (remove-in c.self.inside.forests.items c.in-Some.place F (subst (λ (Fs : List ForestMap). IsIn F Fs) c.remove.ensures.items m))
