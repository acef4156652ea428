use Rattle.std.proofs.Common.{◌≡◌, List, ℕ, length, map, sym, subst}
use Rattle.std.proofs.lemmas.List.{length-map}
use Rattle.q_logic.specs.Prelude.{IsThere}
use Rattle.q_aig.specs.Nets.{Net, operand_of, gate_of, IsLiteral}
use Rattle.q_aig.specs.Cones.{IsRead}
use Rattle.q_aig.specs.Walking.{IsSearched}
use Rattle.q_aig.proofs.ConeReads.{searched}
use Rattle.q_aig.proofs.aig.Aig.reads.Goals as goal

pub returns-clause-value : goal.returns-clause-value
returns-clause-value c =
    let gs : List (ℕ × ℕ) = c.self.inside.gates.items in
    let len : length (map gate_of gs) ≡ length gs = length-map gs gate_of in
    let h : IsLiteral c.args.self.now c.args.lit = c.requires.lit in
    let h2 : IsThere (length c.self.inside.inputs.items) (length (map gate_of gs)) (operand_of c.args.lit).node = subst (λ (n : Net). IsLiteral n c.args.lit) (sym c.self.view_is) h in
    let h3 : IsThere (length c.self.inside.inputs.items) (length gs) (operand_of c.args.lit).node = rw len at h2 in
    let f : IsSearched gs c.args.lit c.args.marks.now c.search.result = subst (λ (xs : List (ℕ × ℕ)). IsSearched xs c.args.lit c.args.marks.now c.search.result) c.deref.ensures.value c.search.ensures.found in
    let n = c.self.invariant.net in
    subst (λ (a : Net). IsRead a c.args.lit c.args.marks.now c.search.result) c.self.view_is (searched c.self.inside.inputs.items gs n.ordered n.distinct c.args.lit c.args.marks.now c.search.result h3 f)
