use Rattle.q_logic.specs.Prelude.{live, Mergeable}
use Rattle.q_logic.proofs.Common.{ok-iff}
use Rattle.q_kernel.specs.Prelude.{slots}
use Rattle.q_equiv.proofs.LiteralPairs.{turned-mergeable}
use Rattle.q_equiv.proofs.merge.fits.Goals as goal

pub returns : goal.returns
returns c =
    let k = c.args.kernel.now in
    let s = c.can_stand_for.ensures.0 c.if-not-can_stand_for.false in
    let there = c.in_ok-is_joined.ensures.0 c.if-not-branch.false in
    let turned = rw c.negated-2.ensures at (rw c.negated.ensures at c.is_joined-2.ensures) in
    ok-iff {B = Mergeable k.prefix (live (slots k)) c.args.keep c.args.gone} c.is_joined-2.result (turned-mergeable k.prefix (live (slots k)) c.args.keep c.args.gone s there) turned
