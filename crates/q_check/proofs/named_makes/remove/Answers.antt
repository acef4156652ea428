use Rattle.std.proofs.lemmas.Result.{err_from_is_err_and}
use Rattle.q_check.proofs.UnfitNumbered.{remove-named, remove-unnamed}
use Rattle.q_check.proofs.named_makes.remove.Goals as goal

pub returns-in_err-remove : goal.returns-in_err-remove
returns-in_err-remove c m =
    let r = err_from_is_err_and c.from_residual.result c.from_residual.ensures.1 in
    rw (r.1, r.2) (remove-unnamed m c.args.book.now c.remove.new.book c.args.var c.in_err-remove.field-0.0 (c.in_err-remove.ensures m))

pub returns : goal.returns
returns c m = remove-named m c.args.book.now c.remove.new.book c.args.var c.in_ok-remove.field-0 (c.in_ok-remove.ensures m)
