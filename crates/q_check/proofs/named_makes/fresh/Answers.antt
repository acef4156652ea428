use Rattle.std.proofs.lemmas.Result.{err_from_is_err_and}
use Rattle.q_check.proofs.UnfitNumbered.{fresh-named, fresh-unnamed}
use Rattle.q_check.proofs.named_makes.fresh.Goals as goal

pub returns-in_err-fresh : goal.returns-in_err-fresh
returns-in_err-fresh c =
    let r = err_from_is_err_and c.from_residual.result c.from_residual.ensures.1 in
    rw (r.1, r.2) (fresh-unnamed c.args.limits c.args.book.now c.fresh.new.book c.args.v c.args.w c.in_err-fresh.field-0.0 c.in_err-fresh.ensures)

pub returns : goal.returns
returns c = fresh-named c.args.limits c.args.book.now c.fresh.new.book c.args.v c.args.w c.in_ok-fresh.field-0 c.in_ok-fresh.ensures
