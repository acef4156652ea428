use Rattle.std.proofs.Common.{◌≡◌, List, ℕ, length, map, sym, subst, ◌∙◌}
use Rattle.std.proofs.lemmas.List.{length-map}
use Rattle.q_logic.specs.Prelude.{value_of, IsThere}
use Rattle.q_aig.specs.Nets.{operand_of, gate_of, Net, tree_at, IsLiteral}
use Rattle.q_aig.specs.Values.{AreValues, IsTableUpto}
use Rattle.q_aig.proofs.GateTables.{operand-is}
use Rattle.q_aig.proofs.aig.Aig.value.Goals as goal

pub returns : goal.returns
returns c A =
    let gs : List (ℕ × ℕ) = c.self.inside.gates.items in
    let len : length (map gate_of gs) ≡ length gs = length-map gs gate_of in
    let old : Net = record { inputs = c.self.inside.inputs.items; gates = map gate_of gs } in
    let h : IsLiteral c.args.self.now c.args.lit = c.requires.lit in
    let h2 : IsThere (length c.self.inside.inputs.items) (length (map gate_of gs)) (operand_of c.args.lit).node = subst (λ (n : Net). IsLiteral n c.args.lit) (sym c.self.view_is) h in
    let h3 : IsThere (length c.self.inside.inputs.items) (length gs) (operand_of c.args.lit).node = rw len at h2 in
    let full : IsTableUpto (length gs) gs c.args.inputs.now c.fill_table.new.table = subst (λ (xs : List (ℕ × ℕ)). IsTableUpto (length xs) xs c.args.inputs.now c.fill_table.new.table) c.deref.ensures.value c.fill_table.ensures in
    let out : AreValues A c.self.inside.inputs.items c.args.inputs.now → c.operand_value.result ≡ value_of (tree_at old c.args.lit) A = λ vs. c.operand_value.ensures ∙ operand-is A c.self.inside.inputs.items gs c.args.inputs.now c.fill_table.new.table c.self.invariant.net.ordered vs full (operand_of c.args.lit) h3 in
    subst (λ (n : Net). AreValues A n.inputs c.args.inputs.now → c.operand_value.result ≡ value_of (tree_at n c.args.lit) A) c.self.view_is out
