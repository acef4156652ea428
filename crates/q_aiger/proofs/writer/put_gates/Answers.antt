use Rattle.std.proofs.Common.{◌≡◌, ◌∙◌, ap, length, get_or, arith, List, ℕ}
use Rattle.q_logic.proofs.Common.{on_err}
use Rattle.q_aig.specs.Prelude.{Net}
use Rattle.q_aiger.proofs.OutputCones.{gate-parts}
use Rattle.q_aiger.proofs.UnwrittenTexts.{gates-step, extends-append}
use Rattle.q_text.proofs.LongerTexts.{extends-more}
use Rattle.q_aiger.proofs.writer.put_gates.Goals as goal

pub literal-left-requires-clause-part : goal.literal-left-requires-clause-part
literal-left-requires-clause-part c = (gate-parts c.args.certificate.now c.aig-aig.result.now c.args.cones.now.kept.items c.loop-place.place _ c.operands-left.result c.aig-aig.ensures c.requires.cones (omega arith) (ap (λ (xs : List ℕ). get_or xs c.loop-place.place 0) c.deref-gate-items.ensures.value) c.operands-left.ensures.value).0

pub literal-right-requires-clause-part : goal.literal-right-requires-clause-part
literal-right-requires-clause-part c = (gate-parts c.args.certificate.now c.aig-aig.result.now c.args.cones.now.kept.items c.loop-place.place _ c.operands-left.result c.aig-aig.ensures c.requires.cones (omega arith) (ap (λ (xs : List ℕ). get_or xs c.loop-place.place 0) c.deref-gate-items.ensures.value) c.operands-left.ensures.value).1

pub returns-in_err-put_gate-clause-err : goal.returns-in_err-put_gate-clause-err
returns-in_err-put_gate-clause-err c = on_err c.from_residual.result (extends-more _ _ _ c.loop-place.invariant.before c.in_err-put_gate.ensures.err)

pub loop-place-preserved : goal.loop-place-preserved
loop-place-preserved c =
    let p = gate-parts c.args.certificate.now c.aig-aig.result.now c.args.cones.now.kept.items c.loop-place.place _ c.operands-left.result c.aig-aig.ensures c.requires.cones (omega arith) (ap (λ (xs : List ℕ). get_or xs c.loop-place.place 0) c.deref-gate-items.ensures.value) c.operands-left.ensures.value in
    let n : length c.inputs.result.now ≡ length c.args.certificate.now.inputs = ap length c.inputs.ensures.value ∙ ap (λ (x : Net). length x.inputs) c.aig-aig.ensures in
    record {
      text = gates-step _ _ _ c.args.certificate.now.gates (length c.args.certificate.now.inputs) c.args.cones.now.kept.items c.loop-place.place _ c.literal-left.result c.literal-right.result _ c.in_ok-put_gate.ensures.ok (omega arith) c.literal-left.ensures c.literal-right.ensures p.2 (omega arith) c.loop-place.invariant.text;
      before = extends-append _ _ _ _ c.loop-place.invariant.before c.in_ok-put_gate.ensures.ok;
    }
