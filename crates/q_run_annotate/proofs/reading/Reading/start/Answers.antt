use Rattle.std.proofs.Common.{◌≡◌, ◌∙◌, sym, ap, arith, ℕ, []}
use Rattle.q_logic.specs.declared.limits.Limits.{Limits}
use Rattle.q_log.specs.Logs.{read}
use Rattle.q_log.specs.Reading.{LogState}
use Rattle.q_check.specs.Annotations.{Annotating}
use Rattle.q_run_annotate.proofs.HintedLogSteps.{begins, sets-out}
use Rattle.q_run_annotate.proofs.reading.Reading.start.Goals as goal

pub returns : goal.returns
returns c =
    let bytes : c.standard.result.bytes ≡ 1099511627776 = ap (λ (m : Limits). m.bytes) c.standard.ensures in
    let left : c.in-Ok.reader.left ≡ 1099511627776 = ap (λ (r : LogState). r.left) c.in-Ok.ensures.start ∙ bytes in
    let begun = c.in_ok-scribe.ensures in
    let none : c.in_ok-scribe.scribe.annotator.steps ≡ 0 = ap (λ (a : Annotating). a.steps) begun.annotator in
    record {
      stands = record {
        entries = [];
        log = λ rest. sym (c.in-Ok.ensures.log rest ∙ ap (λ (k : ℕ). read k rest) bytes);
        so_far = begins c.args.formula.now c.args.part c.in_ok-scribe.scribe begun;
      };
      part = begun.part;
      left = left;
      goes_on = record { under_way = sets-out c.args.formula.now c.args.part c.in_ok-scribe.scribe begun; room = omega (arith, left, none); fewer = omega (arith, begun.written, none) };
    }
