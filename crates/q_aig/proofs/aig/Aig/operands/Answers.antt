use Rattle.std.proofs.Common.{◌≡◌, ◌<◌, ℕ, length, map, get_or, arith, sym, ap, ◌∙◌, subst, Some, slice_get}
use Rattle.std.proofs.lemmas.List.{length-map, get_or_read}
use Rattle.q_logic.specs.Prelude.{IsThere}
use Rattle.q_aig.specs.Nets.{Net, gate_of, operand_of}
use Rattle.q_aig.proofs.Nets.{part-there, slice_get-map}
use Rattle.q_aig.proofs.aig.Aig.operands.Goals as goal

below : (c : goal.After-result-1) → c.args.gate < length c.self.inside.gates.items
below c =
    let h : c.args.gate < length c.args.self.now.gates = c.requires in
    let h2 : c.args.gate < length (map gate_of c.self.inside.gates.items) = subst (λ (a : Net). c.args.gate < length a.gates) (sym c.self.view_is) h in
    let len : length (map gate_of c.self.inside.gates.items) ≡ length c.self.inside.gates.items = length-map c.self.inside.gates.items gate_of in
    omega arith

is : (c : goal.After-result-1) → get_or c.self.inside.gates.items c.args.gate (0, 0) ≡ c.index.result.now
is c = sym (get_or_read c.self.inside.gates.items c.args.gate c.index.result.now (below c) c.index.ensures (0, 0))

pub returns-clause-value : goal.returns-clause-value
returns-clause-value c =
    subst (λ (a : Net). slice_get a.gates c.args.gate ≡ Some (gate_of c.index.result.now)) c.self.view_is (slice_get-map c.self.inside.gates.items c.args.gate (below c) ∙ ap (λ (p : ℕ × ℕ). Some (gate_of p)) (is c))

pub returns-clause-left : goal.returns-clause-left
returns-clause-left c =
    let r = part-there (length c.self.inside.inputs.items) c.args.gate c.self.inside.gates.items c.self.invariant.net.ordered (below c) in
    let h : IsThere (length c.self.inside.inputs.items) c.args.gate (operand_of c.index.result.now.0).node = subst (λ (p : ℕ × ℕ). IsThere (length c.self.inside.inputs.items) c.args.gate (operand_of p.0).node) (is c) r.0 in
    subst (λ (a : Net). IsThere (length a.inputs) c.args.gate (operand_of c.index.result.now.0).node) c.self.view_is h

pub returns-clause-right : goal.returns-clause-right
returns-clause-right c =
    let r = part-there (length c.self.inside.inputs.items) c.args.gate c.self.inside.gates.items c.self.invariant.net.ordered (below c) in
    let h : IsThere (length c.self.inside.inputs.items) c.args.gate (operand_of c.index.result.now.1).node = subst (λ (p : ℕ × ℕ). IsThere (length c.self.inside.inputs.items) c.args.gate (operand_of p.1).node) (is c) r.1 in
    subst (λ (a : Net). IsThere (length a.inputs) c.args.gate (operand_of c.index.result.now.1).node) c.self.view_is h
