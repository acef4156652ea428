use Rattle.std.proofs.Common.{◌≡◌, ◌∙◌, ap, sym, subst, length, ℕ, Vec, Global}
use Rattle.std.proofs.lemmas.List.{length-map}
use Rattle.q_logic.specs.Prelude.{CertificateView}
use Rattle.q_aig.specs.Prelude.{Net}
use Rattle.q_gates.specs.Gates.{gate_view, gates_view}
use Rattle.q_aiger.specs.Standing.{operands_view}
use Rattle.q_aiger.specs.Making.{IsInputRow, AreOperandsThere}
use Rattle.q_aiger.proofs.GatePlaces.{made-all, made-there}
use Rattle.q_aiger.proofs.making.make.Goals as goal

pub returns : goal.returns
returns c =
    let lp : length (gates_view c.args.gates.now) ≡ length c.args.gates.now = length-map c.args.gates.now gate_view in
    made-all c.name_outputs.new.certificate c.args.order.now c.args.inputs.now c.args.names.now c.add_gates.new.rows.inputs.items c.add_gates.new.rows.gates.items (gates_view c.args.gates.now) (operands_view c.args.outputs.now) (length c.args.inputs.now)
    (c.in_ok-name_outputs.ensures.inputs ∙ (ap (λ (x : CertificateView). x.inputs) c.new-certificate.ensures ∙ (c.in_ok-add_gates.ensures.inputs ∙ ap (λ (n : Net). n.inputs) c.in_ok-open_inputs.ensures.net))) (c.in_ok-name_outputs.ensures.gates ∙ (ap (λ (x : CertificateView). x.gates) c.new-certificate.ensures ∙ c.in_ok-add_gates.ensures.gates)) c.in_ok-name_outputs.ensures.outputs (subst (λ (v : Vec ℕ Global). IsInputRow (length c.args.inputs.now) v.items) (sym c.in_ok-add_gates.ensures.input_row) c.in_ok-open_inputs.ensures.row) c.in_ok-add_gates.ensures.row c.requires.order (subst (λ (m : ℕ). AreOperandsThere (length c.args.inputs.now) m (operands_view c.args.outputs.now)) (sym lp) c.requires.outputs_there)

pub name_outputs-requires-clause-literals : goal.name_outputs-requires-clause-literals
name_outputs-requires-clause-literals c = λ k lt.
    let lp : length (gates_view c.args.gates.now) ≡ length c.args.gates.now = length-map c.args.gates.now gate_view in
    made-there c.args.order.now c.add_gates.new.rows.inputs.items c.add_gates.new.rows.gates.items (gates_view c.args.gates.now) (operands_view c.args.outputs.now) (length c.args.inputs.now) c.new-certificate.result.inputs c.new-certificate.result.gates
    (ap length (ap (λ (x : CertificateView). x.inputs) c.new-certificate.ensures ∙ (c.in_ok-add_gates.ensures.inputs ∙ ap (λ (n : Net). n.inputs) c.in_ok-open_inputs.ensures.net))) (ap (λ (x : CertificateView). x.gates) c.new-certificate.ensures ∙ c.in_ok-add_gates.ensures.gates) (subst (λ (v : Vec ℕ Global). IsInputRow (length c.args.inputs.now) v.items) (sym c.in_ok-add_gates.ensures.input_row) c.in_ok-open_inputs.ensures.row) c.in_ok-add_gates.ensures.row c.requires.order (subst (λ (m : ℕ). AreOperandsThere (length c.args.inputs.now) m (operands_view c.args.outputs.now)) (sym lp) c.requires.outputs_there) k lt
