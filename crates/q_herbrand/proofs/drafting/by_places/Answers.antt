use Rattle.std.proofs.Common.{◌≤◌, ◌<◌, ◌∙◌, length, subst, sym, arith}
use Rattle.std.proofs.lemmas.List.{take_all}
use Rattle.q_herbrand.specs.Drafted.{AreByPlaces}
use Rattle.q_herbrand.proofs.InputPlaces.{gates-more, by-places}
use Rattle.q_herbrand.proofs.drafting.by_places.Goals as goal

pub loop-gate-preserved : goal.loop-gate-preserved
loop-gate-preserved c =
    let lt : c.loop-gate.gate < length c.args.named.gates =
    (let n = c.gates-gate-end.ensures.value in let t = c.loop-gate-test.true in omega arith) in
    record {
      inputs = subst (AreByPlaces (length c.args.named.inputs)) (sym c.in_ok-gate.ensures.inputs)
          c.loop-gate.invariant.inputs;
      gates = gates-more c.args.named.gates c.loop-gate.aig.gates c.gate.new.self.gates c.loop-gate.gate _
          c.operands-left.ensures.value lt c.loop-gate.invariant.gates c.in_ok-gate.ensures.gates;
    }

pub returns : goal.returns
returns c =
    let le : length c.args.named.gates ≤ c.loop-gate.gate =
    (let n = c.gates-gate-end.ensures.value in let t = c.loop-gate-test.false in omega arith) in
    by-places c.args.named c.loop-gate.aig c.inputs.ensures.net c.loop-gate.invariant.inputs
    (c.loop-gate.invariant.gates ∙ take_all c.loop-gate.gate c.args.named.gates le)
