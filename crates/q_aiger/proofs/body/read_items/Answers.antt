use Rattle.std.proofs.lemmas.Result.{err_from_is_err_and}
use Rattle.std.proofs.Common.{◌≡◌, ◌∙◌, ◌+◌, ◌-◌, ◌<◌, suc, sym, ap, subst, ℕ, arith}
use Rattle.q_aiger.specs.Lines.{lines_of}
use Rattle.q_aiger.specs.Headers.{header_view}
use Rattle.q_aiger.specs.Items.{items_from}
use Rattle.q_aiger.specs.Standing.{FailsAs}
use Rattle.q_aiger.proofs.body.read_items.Goals as goal

one-less : (n c : ℕ) → c < n → n - c ≡ suc (n - (c + 1))
one-less n c lt = omega arith

pub returns-in_err-rest : goal.returns-in_err-rest
returns-in_err-rest c =
    let r = err_from_is_err_and c.from_residual.result c.from_residual.ensures.1 in
    let total : ℕ = c.args.header.inputs + c.args.header.outputs + c.args.header.gates in
    let z = one-less (c.args.header.inputs + c.args.header.outputs + c.args.header.gates) c.loop.counter (omega arith) in
    rw (r.1, r.2) (record { answer = subst (FailsAs c.in_err-rest.field-0.0) (ap (λ k. items_from (header_view c.args.header) c.args.last c.loop.line c.loop.items k (lines_of c.loop.rest.now)) (sym z) ∙ c.loop.invariant.items) (c.in_err-rest.ensures (total - (c.loop.counter + 1))) })

pub loop-preserved : goal.loop-preserved
loop-preserved c = record {
  line = omega arith;
  items =
      let total : ℕ = c.args.header.inputs + c.args.header.outputs + c.args.header.gates in
      let z = one-less (c.args.header.inputs + c.args.header.outputs + c.args.header.gates) c.loop.counter (omega arith) in
      sym (c.in_ok-rest.ensures (total - (c.loop.counter + 1))) ∙ (ap (λ k. items_from (header_view c.args.header) c.args.last c.loop.line c.loop.items k (lines_of c.loop.rest.now)) (sym z) ∙ c.loop.invariant.items);
}
