use Rattle.q_io.proofs.StoreContents.{not_created, written_whole, written_part}
use Rattle.std.proofs.lemmas.Result.{on_ok_weaker, on_err_weaker}
use Rattle.q_logic.proofs.Common.{on_err}
use Rattle.q_io.proofs.whole.write_whole.Goals as goal

pub returns-in_err-create-clause-part : goal.returns-in_err-create-clause-part
returns-in_err-create-clause-part g c = on_err _ (not_created c.args.name.now c.args.text.now _ _ c.in_err-create.ensures.err)

pub returns-clause-whole : goal.returns-clause-whole
returns-clause-whole g c =
    on_ok_weaker _ (λ h. written_whole c.args.name.now c.args.text.now _ _ _ c.in_ok-create.ensures.empty h) c.append.ensures.all

pub returns-clause-part : goal.returns-clause-part
returns-clause-part g c =
    on_err_weaker _ (λ h. written_part c.args.name.now c.args.text.now _ _ _ c.in_ok-create.ensures.empty h) c.append.ensures.err
