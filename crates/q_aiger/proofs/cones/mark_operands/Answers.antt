use Rattle.std.proofs.Common.{◌≡◌, ◌-◌, ◌+◌, Bool, Vec, Global, true, false, refl, sym, ap, subst, length, get_or, arith, ◌∙◌}
use Rattle.q_aig.specs.Prelude.{Net}
use Rattle.q_aiger.specs.Cones.{IsMarking}
use Rattle.q_aiger.proofs.OutputCones.{turn-gate, turn-plain, bit-read}
use Rattle.q_aiger.proofs.cones.mark_operands.Goals as goal
use Rattle.q_aiger.proofs.cones.mark_operands.Goals.{then-index, else-index}

pub loop-later-preserved : goal.loop-later-preserved
loop-later-preserved c =
    let gates : c.gates-gates.result ≡ length c.args.certificate.now.gates = c.gates-gates.ensures.value ∙ ap (λ (n : Net). length n.gates) c.aig-aig.ensures in
    let room : length c.loop-later.marks.items ≡ length c.args.certificate.now.gates = c.loop-later.invariant.room in
    let bit : (d : Bool) → c.index.result.now ≡ d → get_or c.loop-later.marks.items (c.gates-gates.result - 1 - c.loop-later.later) false ≡ d =
    λ d e. bit-read c.loop-later.marks.items c.gates-gates.result _ c.index.result.now d (gates ∙ sym room) (omega arith) c.index.ensures e in
    elim c.if-index.branch [
      | then-index w ↦
          subst (λ (v : Vec Bool Global). IsMarking c.args.certificate.now v.items (length c.args.certificate.now.outputs) (length c.args.certificate.now.gates - (c.loop-later.later + 1))) (sym w.marks-is)
          (turn-gate c.args.certificate.now c.aig-aig.result.now c.loop-later.marks.items w.mark.new.marks.items w.mark-then-index.new.marks.items c.gates-gates.result c.loop-later.later _ w.operands-left.result
          c.aig-aig.ensures c.gates-gates.ensures.value c.loop-later.invariant refl c.loop-later-test.true (bit true w.if-index.true) w.operands-left.ensures.value w.operands-left.ensures.left w.operands-left.ensures.right w.mark.ensures w.mark-then-index.ensures)
      | else-index w ↦
          subst (λ (v : Vec Bool Global). IsMarking c.args.certificate.now v.items (length c.args.certificate.now.outputs) (length c.args.certificate.now.gates - (c.loop-later.later + 1))) (sym w.marks-is)
          (turn-plain c.args.certificate.now c.aig-aig.result.now c.loop-later.marks.items c.gates-gates.result c.loop-later.later _
          c.aig-aig.ensures c.gates-gates.ensures.value c.loop-later.invariant refl c.loop-later-test.true (bit false w.if-index.false))
    ]
