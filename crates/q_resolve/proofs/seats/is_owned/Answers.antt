use Rattle.std.proofs.Common.{◌∙◌, sym, ap, arith, get_or}
use Rattle.q_logic.specs.declared.formulas.Bound.{Bound}
use Rattle.q_logic.specs.declared.formulas.Quant.TheVariants.{Exists}
use Rattle.q_logic.specs.Prelude.{is_exists}
use Rattle.q_resolve.proofs.Scanned.{bound-of, unbound-of, unbound-place, place-quant}
use Rattle.q_resolve.proofs.seats.is_owned.Goals as goal

pub returns-in-None : goal.returns-in-None
returns-in-None c =
    let P = c.args.prefix.now in
    let l = rw c.var.ensures.value at c.look.ensures in
    sym (unbound-place P c.args.lit.var (unbound-of P c.args.lit.var c.look.result (l ∙ c.requires c.args.lit.var) c.in-None.is)).1

pub exists_at-requires : goal.exists_at-requires
exists_at-requires c =
    let P = c.args.prefix.now in
    let none : Bound = record { quant = Exists; var = 0 } in
    let l = rw c.var.ensures.value at c.look.ensures in
    let b = bound-of P c.args.lit.var c.look.result (l ∙ c.requires c.args.lit.var) c.in-Some.at c.in-Some.is in
    let q = place-quant P c.args.lit.var none b.0 in
    let x = b.1 in let y = q.1 in omega arith

pub returns-in-Some : goal.returns-in-Some
returns-in-Some c =
    let P = c.args.prefix.now in
    let none : Bound = record { quant = Exists; var = 0 } in
    let l = rw c.var.ensures.value at c.look.ensures in
    let b = bound-of P c.args.lit.var c.look.result (l ∙ c.requires c.args.lit.var) c.in-Some.at c.in-Some.is in
    let q = place-quant P c.args.lit.var none b.0 in
    c.exists_at.ensures none ∙ sym (q.0 ∙ ap (λ i. is_exists (get_or P i none).quant) b.1)
