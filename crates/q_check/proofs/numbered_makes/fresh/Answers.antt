use Rattle.std.proofs.lemmas.Result.{err_from_is_err_and}
use Rattle.q_check.proofs.UnfitNumbered.{fresh-made, fresh-unmade}
use Rattle.q_check.proofs.numbered_makes.fresh.Goals as goal

pub returns-in_err-fresh : goal.returns-in_err-fresh
returns-in_err-fresh c =
    let r = err_from_is_err_and c.from_residual.result c.from_residual.ensures.1 in
    rw (r.1, r.2) (fresh-unmade c.args.settings.keeps c.args.settings.limits c.args.book.now c.fresh.new.book c.args.proof.now c.args.v c.args.w c.in_err-fresh.field-0.0 c.in_err-fresh.ensures)

pub returns : goal.returns
returns c = fresh-made c.args.settings.keeps c.args.settings.limits c.args.book.now c.fresh.new.book c.args.proof.now c.args.v c.args.w c.in_ok-fresh.field-0 c.in_ok-fresh.ensures
