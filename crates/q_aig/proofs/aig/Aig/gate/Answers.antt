use Rattle.std.proofs.Common.{◌≡◌, ◌++◌, ◌∷◌, [], List, ℕ, Bool, false, length, map, arith, sym, ap, ◌∙◌, subst}
use Rattle.std.proofs.lemmas.List.{length-map}
use Rattle.q_logic.specs.Prelude.{IsThere, gate_at}
use Rattle.q_aig.specs.Nets.{Net, operand_of, gate_of, IsLiteral}
use Rattle.q_aig.proofs.Substitutes.{sound-gate, gate-conjunction}
use Rattle.q_aig.specs.Serving.{IsConjunction}
use Rattle.q_aig.proofs.aig.Aig.gate.Goals as goal

pub invariant_of-self-2 : goal.invariant_of-self-2
invariant_of-self-2 c =
    let len : length (map gate_of c.self.inside.gates.items) ≡ length c.self.inside.gates.items = length-map c.self.inside.gates.items gate_of in
    let a : IsLiteral c.args.self.now c.args.a = c.requires.a in
    let b : IsLiteral c.args.self.now c.args.b = c.requires.b in
    let a2 : IsThere (length c.self.inside.inputs.items) (length (map gate_of c.self.inside.gates.items)) (operand_of c.args.a).node = subst (λ (n : Net). IsLiteral n c.args.a) (sym c.self.view_is) a in
    let b2 : IsThere (length c.self.inside.inputs.items) (length (map gate_of c.self.inside.gates.items)) (operand_of c.args.b).node = subst (λ (n : Net). IsLiteral n c.args.b) (sym c.self.view_is) b in
    sound-gate _ c.self.inside.gates.items _ c.self.inside.marks.items _ c.self.inside.queue.items _ c.args.a c.args.b c.self.invariant (omega arith) (rw len at a2) (rw len at b2)
    (c.push_reserved.ensures.items ∙ ap (λ (xs : List (ℕ × ℕ)). xs ++ (c.args.a, c.args.b) ∷ []) c.in_ok-reserve.ensures.items)
    (c.push_reserved-2.ensures.items ∙ ap (λ (xs : List Bool). xs ++ false ∷ []) c.in_ok-reserve-2.ensures.items)
    (c.push_reserved-3.ensures.items ∙ ap (λ (xs : List ℕ). xs ++ 0 ∷ []) c.in_ok-reserve-3.ensures.items)

pub returns-clause-conjunction : goal.returns-clause-conjunction
returns-clause-conjunction c =
    let old : Net = record { inputs = c.self.inside.inputs.items; gates = map gate_of c.self.inside.gates.items } in
    let a : IsLiteral c.args.self.now c.args.a = c.requires.a in
    let b : IsLiteral c.args.self.now c.args.b = c.requires.b in
    let a2 : IsLiteral old c.args.a = subst (λ (n : Net). IsLiteral n c.args.a) (sym c.self.view_is) a in
    let b2 : IsLiteral old c.args.b = subst (λ (n : Net). IsLiteral n c.args.b) (sym c.self.view_is) b in
    let new : Net = record { inputs = c.self.inside.inputs.items; gates = map gate_of c.push_reserved.new.self.items } in
    let len : c.len-at.result ≡ length c.self.inside.gates.items = omega arith in
    subst (λ (n : Net). IsConjunction n new c.args.a c.args.b c.gate_literal.result) c.self.view_is
    (gate-conjunction c.self.inside.inputs.items c.self.inside.gates.items _ c.args.a c.args.b c.gate_literal.result c.self.invariant.net (omega arith) a2 b2
    (c.push_reserved.ensures.items ∙ ap (λ (xs : List (ℕ × ℕ)). xs ++ (c.args.a, c.args.b) ∷ []) c.in_ok-reserve.ensures.items)
    (c.gate_literal.ensures ∙ ap (λ (k : ℕ). record { node = gate_at k; negated = false }) len))
