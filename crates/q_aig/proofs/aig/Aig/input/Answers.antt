use Rattle.std.proofs.Common.{map, arith, refl, sym, subst}
use Rattle.q_aig.specs.Nets.{Net, gate_of, IsNew, Keeps}
use Rattle.q_aig.proofs.Nets.{keeps-input}
use Rattle.q_aig.proofs.Substitutes.{sound-input}
use Rattle.q_aig.proofs.aig.Aig.input.Goals as goal

pub invariant_of-self-2 : goal.invariant_of-self-2
invariant_of-self-2 c =
    let n : IsNew c.args.self.now.inputs c.args.var = c.requires in
    let n2 : IsNew c.self.inside.inputs.items c.args.var = subst (λ (a : Net). IsNew a.inputs c.args.var) (sym c.self.view_is) n in
    sound-input c.self.inside.inputs.items _ _ _ _ c.args.var c.self.invariant (omega arith) n2 c.in_ok-push.ensures.items

pub returns-clause-kept : goal.returns-clause-kept
returns-clause-kept c =
    let old : Net = record { inputs = c.self.inside.inputs.items; gates = map gate_of c.self.inside.gates.items } in
    let new : Net = record { inputs = c.push.new.self.items; gates = map gate_of c.self.inside.gates.items } in
    subst (λ (n : Net). Keeps n new) c.self.view_is (keeps-input old new c.args.var c.self.invariant.net.ordered c.in_ok-push.ensures.items refl)
