use Rattle.std.proofs.Common.{false}
use Rattle.std.proofs.lemmas.Result.{err_from_is_err_and}
use Rattle.q_check.proofs.UnfitNumbered.{remove-made, remove-unmade}
use Rattle.q_check.proofs.numbered_makes.remove.Goals as goal

pub returns-in_err-remove : goal.returns-in_err-remove
returns-in_err-remove c m =
    let r = err_from_is_err_and c.from_residual.result c.from_residual.ensures.1 in
    rw (r.1, r.2) (remove-unmade false m c.args.book.now c.remove.new.book c.args.proof.now c.args.var c.in_err-remove.field-0.0 (c.in_err-remove.ensures m))

pub returns : goal.returns
returns c m = remove-made false m c.args.book.now c.remove.new.book c.args.proof.now c.args.var c.in_ok-remove.field-0 (c.in_ok-remove.ensures m)
