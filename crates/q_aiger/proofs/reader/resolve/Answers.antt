use Rattle.std.proofs.Common.{◌≡◌, ◌≤◌, ◌+◌, ◌-◌, sym, subst, length, ℕ, arith, []}
use Rattle.std.proofs.lemmas.List.{length-map}
use Rattle.q_aiger.specs.Headers.{header_view}
use Rattle.q_gates.specs.Gates.{operand_view, gate_view, gates_view}
use Rattle.q_aiger.specs.Standing.{operands_view}
use Rattle.q_aiger.specs.Making.{AreOperandsThere}
use Rattle.q_aiger.proofs.ItemCounts.{counted}
use Rattle.q_aiger.proofs.ResolvedOperands.{AreAmong, variables, outputs-there, gates-there}
use Rattle.q_aiger.proofs.reader.resolve.Goals as goal

pub returns-clause-lawful : goal.returns-clause-lawful
returns-clause-lawful c =
    let n = counted (header_view c.args.header) c.args.items.now c.requires.counts in
    let i : ℕ = c.args.header.inputs in
    let os = outputs-there c.args.header.inputs (2 + c.args.header.inputs) c.args.items.now.defined [] c.args.items.now.outputs (operands_view c.in_ok-outputs.outputs.items) (λ k lt. absurd (omega arith)) c.in_ok-outputs.ensures in
    let gs = gates-there c.args.header.inputs (2 + c.args.header.inputs + c.args.header.outputs) c.args.items.now.defined [] c.args.items.now.operands (gates_view c.in_ok-gates.gates.items) (λ k lt. absurd (omega arith)) c.in_ok-gates.ensures in
    let lo : length (operands_view c.in_ok-outputs.outputs.items) ≡ length c.in_ok-outputs.outputs.items = length-map c.in_ok-outputs.outputs.items operand_view in
    let lg : length (gates_view c.in_ok-gates.gates.items) ≡ length c.in_ok-gates.gates.items = length-map c.in_ok-gates.gates.items gate_view in
    let lo2 : length (operands_view c.in_ok-outputs.outputs.items) ≡ 0 + length c.args.items.now.outputs = os.1 in
    let lg2 : length (gates_view c.in_ok-gates.gates.items) ≡ 0 + length c.args.items.now.operands = gs.1 in
    let a : length c.args.items.now.outputs ≡ c.args.header.outputs = n.outputs in
    let b : length c.args.items.now.operands ≡ c.args.header.gates = n.gates in
    let d : length c.args.items.now.defined - c.args.header.inputs ≡ c.args.header.gates = n.defined in
    let li : length c.args.inputs ≡ c.args.header.inputs = c.requires.inputs in
    let ln : length c.args.names ≡ c.args.header.outputs = c.requires.names in
    let m1 : c.args.header.inputs ≤ 268435456 = c.requires.modest.inputs in
    let m2 : c.args.header.outputs ≤ 576460752303423488 = c.requires.modest.outputs in
    let m3 : c.args.header.gates ≤ 268435456 = c.requires.modest.gates in
    let size : length c.args.items.now.defined - c.args.header.inputs ≡ length (gates_view c.in_ok-gates.gates.items) = omega arith in
    let size2 : length c.args.items.now.defined - c.args.header.inputs ≡ length c.in_ok-gates.gates.items = omega arith in
    record {
      inputs = variables c.args.inputs c.requires.inputs_named;
      names = variables c.args.names c.requires.names_named;
      same = omega arith;
      gates = subst (λ (j : ℕ). AreAmong j (length (gates_view c.in_ok-gates.gates.items)) (gates_view c.in_ok-gates.gates.items)) (sym li) (subst (λ (m : ℕ). AreAmong c.args.header.inputs m (gates_view c.in_ok-gates.gates.items)) size gs.0);
      outputs = subst (λ (j : ℕ). AreOperandsThere j (length c.in_ok-gates.gates.items) (operands_view c.in_ok-outputs.outputs.items)) (sym li) (subst (λ (m : ℕ). AreOperandsThere c.args.header.inputs m (operands_view c.in_ok-outputs.outputs.items)) size2 os.0);
      few = omega arith;
    }
