use Rattle.std.proofs.Common.{◌≡◌, ◌<◌, List, ℕ, length, map, get_or, arith, subst, ◌∙◌, ap}
use Rattle.std.proofs.lemmas.List.{length-map, get_or-map}
use Rattle.q_aig.specs.Nets.{Net, gate_of}
use Rattle.q_aig.specs.Serving.{IsConjunction}
use Rattle.q_aig.proofs.Substitutes.{gate-there}
use Rattle.q_aig.proofs.aig.Aig.and_gate.Goals as goal

pub returns-in-Some-clause-conjunction : goal.returns-in-Some-clause-conjunction
returns-in-Some-clause-conjunction c =
    let gs : List (ℕ × ℕ) = c.self.inside.gates.items in
    let old : Net = record { inputs = c.self.inside.inputs.items; gates = map gate_of gs } in
    let f : (c.in-Some.gate < length c.deref.result.now) × (get_or c.deref.result.now c.in-Some.gate (0, 0) ≡ (c.args.a, c.args.b)) = c.in-Some.ensures in
    let f2 : (c.in-Some.gate < length gs) × (get_or gs c.in-Some.gate (0, 0) ≡ (c.args.a, c.args.b)) = subst (λ (xs : List (ℕ × ℕ)). (c.in-Some.gate < length xs) × (get_or xs c.in-Some.gate (0, 0) ≡ (c.args.a, c.args.b))) c.deref.ensures.value f in
    let len : length (map gate_of gs) ≡ length gs = length-map gs gate_of in
    let lt : c.in-Some.gate < length (map gate_of gs) = omega (arith, f2.0) in
    let is = get_or-map gate_of gs c.in-Some.gate (0, 0) (gate_of (0, 0)) f2.0 ∙ ap gate_of f2.1 in
    subst (λ (n : Net). IsConjunction n n c.args.a c.args.b c.gate_literal.result) c.self.view_is
    (gate-there old c.in-Some.gate c.args.a c.args.b c.gate_literal.result (gate_of (0, 0)) c.gate_literal.ensures c.self.invariant.net.ordered lt is)
