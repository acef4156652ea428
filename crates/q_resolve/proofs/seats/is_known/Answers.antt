use Rattle.std.proofs.Common.{◌∙◌, sym}
use Rattle.q_resolve.proofs.Scanned.{bound-of, unbound-of}
use Rattle.q_resolve.proofs.seats.is_known.Goals as goal

pub returns-in-None : goal.returns-in-None
returns-in-None c =
    let l = rw c.var.ensures.value at c.look.ensures in
    sym (unbound-of c.args.prefix.now c.args.lit.var c.look.result (l ∙ c.requires c.args.lit.var) c.in-None.is)

pub returns-in-Some : goal.returns-in-Some
returns-in-Some c =
    let l = rw c.var.ensures.value at c.look.ensures in
    sym (bound-of c.args.prefix.now c.args.lit.var c.look.result (l ∙ c.requires c.args.lit.var) c.in-Some.field-0 c.in-Some.is).0
