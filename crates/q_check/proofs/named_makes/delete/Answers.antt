use Rattle.std.proofs.lemmas.Result.{err_from_is_err_and}
use Rattle.q_check.proofs.UnfitNumbered.{delete-named, delete-unmade}
use Rattle.q_check.proofs.named_makes.delete.Goals as goal

pub returns-in_err-delete_named : goal.returns-in_err-delete_named
returns-in_err-delete_named c m p =
    let r = err_from_is_err_and c.from_residual.result c.from_residual.ensures.1 in
    rw (r.1, r.2) (delete-unmade m c.args.book.now c.delete_named.new.book p c.args.clause.now c.in_err-delete_named.field-0.0 (c.in_err-delete_named.ensures m p))

pub returns : goal.returns
returns c m p = delete-named m c.args.book.now c.delete_named.new.book p c.args.clause.now c.in_ok-delete_named.field-0 (c.in_ok-delete_named.ensures m p)
