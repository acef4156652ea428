use Rattle.std.proofs.Common.{◌≡◌, ◌∙◌, length, ap, arith}
use Rattle.q_aig.specs.Prelude.{Net}
use Rattle.q_encode.proofs.WholeMiters.{skolem-made, kept-room}
use Rattle.q_encode.proofs.skolem.skolem_clauses.Goals as goal

pub selectors-requires : goal.selectors-requires
selectors-requires c =
    let k = kept-room c.args.formula.now c.args.circuits.now c.args.top c.in_ok-kept.kept c.in_ok-kept.ensures in
    let n : c.gates.result ≡ length c.args.circuits.now.gates = c.gates.ensures.value ∙ ap (λ (a : Net). length a.gates) c.aig-2.ensures in
    omega arith

pub put_selections-requires-clause-room : goal.put_selections-requires-clause-room
put_selections-requires-clause-room c =
    let k = kept-room c.args.formula.now c.args.circuits.now c.args.top c.in_ok-kept.kept c.in_ok-kept.ensures in omega arith

pub returns : goal.returns
returns c =
    c.finish.ensures ∙
    skolem-made c.args.formula.now c.args.circuits.now c.args.top c.gates.result c.len.result c.aig.result.now c.new-rows.result c.put_definitions.new.rows
    c.put.new.self c.put_selections.new.rows c.in_ok-kept.kept c.deref.result.now c.requires.top c.aig.ensures
    (c.gates.ensures.value ∙ ap (λ (a : Net). length a.gates) c.aig-2.ensures) c.len.ensures c.new-rows.ensures c.in_ok-put_definitions.ensures
    c.in_ok-kept.ensures (c.deref.ensures.value ∙ c.in_ok-chosen.ensures) c.in_ok-put.ensures c.in_ok-put_selections.ensures
