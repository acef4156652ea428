use Rattle.std.proofs.Common.{◌≡◌, ℕ, ◌∷◌, ◌++◌, [], length, Some, slice_get, subst, sym, arith}
use Rattle.std.proofs.lemmas.List.{length_push}
use Rattle.q_aig.specs.Prelude.{gate_of}
use Rattle.q_certificate.proofs.InputWeights.{peaks-more}
use Rattle.q_certificate.proofs.peaks.peaks.Goals as goal

pub loop-gate-preserved : goal.loop-gate-preserved
loop-gate-preserved c =
    let len = length_push c.loop-gate.row.items c.max.result in
    let items = c.in_ok-push.ensures.items in
    let most = c.max.ensures in
    record {
      room = (let n : length c.push.new.self.items ≡ length (c.loop-gate.row.items ++ c.max.result ∷ []) = cc in let r = c.loop-gate.invariant.room in omega arith);
      peaks = peaks-more c.args.aig.now c.args.weights.now c.loop-gate.row.items c.push.new.self.items c.operands-left.result.0 c.operands-left.result.1 c.peak_of-first.result c.peak_of-second.result
          c.gates-gate-end.ensures.net c.loop-gate.invariant.peaks
          (subst (λ (k : ℕ). slice_get c.args.aig.now.gates k ≡ Some (gate_of c.operands-left.result)) (sym c.loop-gate.invariant.room) c.operands-left.ensures.value)
          c.peak_of-first.ensures c.peak_of-second.ensures cc;
    }
