use Rattle.std.proofs.Common.{◌≡◌, ◌∙◌, ◌++◌, ◌∷◌, [], ap, sym, subst, length, ℕ, List, arith, false, get_or, take, map, add-one}
use Rattle.std.proofs.Math.Seq.{take-suc}
use Rattle.std.proofs.lemmas.List.{get_or-take, length-take-le, length-map}
use Rattle.q_logic.specs.Prelude.{NamedOutput, Operand, IsThere}
use Rattle.q_logic.proofs.Common.{taken-all}
use Rattle.q_aig.specs.Prelude.{operand_of, output_of, no_output}
use Rattle.q_gates.specs.declared.gate.Source.TheVariants.{Constant}
use Rattle.q_aiger.specs.Circuits.{with_names}
use Rattle.q_gates.specs.Gates.{operand_view}
use Rattle.q_aiger.specs.Standing.{operands_view}
use Rattle.q_aiger.specs.Making.{through, output_through}
use Rattle.q_aiger.proofs.GatePlaces.{named, output-at, outputs-length, operand-there}
use Rattle.q_aiger.proofs.making.name_outputs.Goals as goal

pub literal-requires : goal.literal-requires
literal-requires c =
    let len = length-map c.args.outputs.now operand_view in
    let same : length c.args.names.now ≡ length c.args.outputs.now = c.requires.same in
    operand-there 0 0 c.args.outputs.now c.loop-at.at (record { source = Constant; negated = false }) (λ (o : Operand). IsThere (length c.args.rows.now.inputs.items) (length c.args.rows.now.gates.items) o.node) (omega arith) (c.requires.there c.loop-at.at (omega arith))

pub name-requires-clause-lit : goal.name-requires-clause-lit
name-requires-clause-lit c =
    let len = length-map c.args.outputs.now operand_view in
    let same : length c.args.names.now ≡ length c.args.outputs.now = c.requires.same in
    let h = operand-there 0 0 c.args.outputs.now c.loop-at.at (record { source = Constant; negated = false }) (λ (o : Operand). IsThere (length c.args.certificate.now.inputs) (length c.args.certificate.now.gates) (through c.args.rows.now.inputs.items c.args.rows.now.gates.items o).node) (omega arith) (c.requires.literals c.loop-at.at (omega arith)) in
    let h2 = subst (λ (o : Operand). IsThere (length c.args.certificate.now.inputs) (length c.args.certificate.now.gates) o.node) (sym c.literal.ensures) h in
    let h3 = subst (λ (n : ℕ). IsThere n (length c.args.certificate.now.gates) (operand_of c.literal.result).node) (sym (ap length c.loop-at.invariant.inputs)) h2 in
    subst (λ (n : ℕ). IsThere (length c.loop-at.certificate.inputs) n (operand_of c.literal.result).node) (sym (ap length c.loop-at.invariant.gates)) h3

pub name-requires-clause-var : goal.name-requires-clause-var
name-requires-clause-var c = λ i lt e.
    let all : List NamedOutput = (map (output_through c.args.rows.now.inputs.items c.args.rows.now.gates.items) (with_names c.args.names.now (operands_view c.args.outputs.now))) in
    let len = outputs-length c.args.rows.now.inputs.items c.args.rows.now.gates.items c.args.names.now c.args.outputs.now c.requires.same in
    let size : length c.loop-at.certificate.outputs ≡ c.loop-at.at = ap length c.loop-at.invariant.outputs ∙ length-take-le c.loop-at.at (map (output_through c.args.rows.now.inputs.items c.args.rows.now.gates.items) (with_names c.args.names.now (operands_view c.args.outputs.now))) (omega arith) in
    let here : get_or c.loop-at.certificate.outputs i (output_of no_output) ≡ get_or (map (output_through c.args.rows.now.inputs.items c.args.rows.now.gates.items) (with_names c.args.names.now (operands_view c.args.outputs.now))) i (output_of no_output) = ap (λ (xs : List NamedOutput). get_or xs i (output_of no_output)) c.loop-at.invariant.outputs ∙ get_or-take c.loop-at.at (map (output_through c.args.rows.now.inputs.items c.args.rows.now.gates.items) (with_names c.args.names.now (operands_view c.args.outputs.now))) i (output_of no_output) (omega arith) in
    let is = output-at c.args.rows.now.inputs.items c.args.rows.now.gates.items c.args.names.now c.args.outputs.now i (output_of no_output) (record { source = Constant; negated = false }) c.requires.same (omega arith) in
    let name : get_or c.args.names.now i 0 ≡ get_or c.args.names.now c.loop-at.at 0 = sym (ap (λ (o : NamedOutput). o.name) (here ∙ is)) ∙ e in
    absurd (let q : i ≡ c.loop-at.at = c.requires.apart i c.loop-at.at (omega arith) (omega arith) (c.requires.variables i (omega arith)) name in omega arith)

pub loop-at-preserved : goal.loop-at-preserved
loop-at-preserved c = record {
  inputs = c.in_ok-name.ensures.inputs ∙ c.loop-at.invariant.inputs;
  gates = c.in_ok-name.ensures.gates ∙ c.loop-at.invariant.gates;
  outputs =
      let len = outputs-length c.args.rows.now.inputs.items c.args.rows.now.gates.items c.args.names.now c.args.outputs.now c.requires.same in
      let is = output-at c.args.rows.now.inputs.items c.args.rows.now.gates.items c.args.names.now c.args.outputs.now c.loop-at.at (output_of no_output) (record { source = Constant; negated = false }) c.requires.same (omega arith) in
      c.in_ok-name.ensures.outputs
      ∙ (ap (λ (o : Operand). c.loop-at.certificate.outputs ++ named (get_or c.args.names.now c.loop-at.at 0) o ∷ []) c.literal.ensures
      ∙ (ap (λ (o : NamedOutput). c.loop-at.certificate.outputs ++ o ∷ []) (sym is)
      ∙ (ap (λ (xs : List NamedOutput). xs ++ get_or (map (output_through c.args.rows.now.inputs.items c.args.rows.now.gates.items) (with_names c.args.names.now (operands_view c.args.outputs.now))) c.loop-at.at (output_of no_output) ∷ []) c.loop-at.invariant.outputs
      ∙ (sym (take-suc (map (output_through c.args.rows.now.inputs.items c.args.rows.now.gates.items) (with_names c.args.names.now (operands_view c.args.outputs.now))) c.loop-at.at (output_of no_output) (omega arith)) ∙ ap (λ (k : ℕ). take k (map (output_through c.args.rows.now.inputs.items c.args.rows.now.gates.items) (with_names c.args.names.now (operands_view c.args.outputs.now)))) (sym (add-one c.loop-at.at))))));
}

pub returns-clause-outputs : goal.returns-clause-outputs
returns-clause-outputs c =
    let len = outputs-length c.args.rows.now.inputs.items c.args.rows.now.gates.items c.args.names.now c.args.outputs.now c.requires.same in
    c.loop-at.invariant.outputs ∙ taken-all (map (output_through c.args.rows.now.inputs.items c.args.rows.now.gates.items) (with_names c.args.names.now (operands_view c.args.outputs.now))) c.loop-at.at (omega arith)
