use Rattle.q_logic.proofs.Common.{on_err}
use Rattle.q_output.proofs.Putting.{holds-part, holds-put}
use Rattle.q_output.proofs.output.put_piece.Goals as goal

pub returns-in_err-append-clause-part : goal.returns-in_err-append-clause-part
returns-in_err-append-clause-part g c =
    on_err _ (holds-part c.args.name.now c.args.text.now.items _ _ _ c.deref.ensures.value c.in_err-append.ensures.err)

pub returns-clause-goes_on : goal.returns-clause-goes_on
returns-clause-goes_on g c =
    holds-put c.args.name.now c.args.text.now.items _ _ _ _ c.deref.ensures.value c.clear.ensures.items c.in_ok-append.ensures.all
