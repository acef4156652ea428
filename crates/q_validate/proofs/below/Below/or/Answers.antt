use Rattle.std.proofs.Common.{true}
use Rattle.q_logic.specs.Branches.{known_both, known_signed}
use Rattle.q_validate.proofs.below.Below.or.Goals as goal

pub returns : goal.returns
returns g c f h s t =
    c.signed-3.ensures (λ w. known_both (known_signed true (f w)) (known_signed true (h w)))
    (c.and.ensures (λ w. known_signed true (f w)) (λ w. known_signed true (h w)) (c.signed.ensures f s) (c.signed-2.ensures h t))
