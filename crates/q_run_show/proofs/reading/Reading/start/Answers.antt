use Rattle.std.proofs.Common.{◌≡◌, ◌∙◌, sym, ap, arith, ℕ, []}
use Rattle.q_logic.specs.declared.limits.Limits.{Limits}
use Rattle.q_binary.specs.Forms.{left_of, read_proof}
use Rattle.q_check.specs.Annotations.{Annotating}
use Rattle.q_run_show.proofs.ShownEnds.{begins}
use Rattle.q_run_show.proofs.reading.Reading.start.Goals as goal

pub returns-in-Ok-start-clause-started : goal.returns-in-Ok-start-clause-started
returns-in-Ok-start-clause-started c =
    let bytes : c.standard.result.bytes ≡ 1099511627776 = ap (λ (m : Limits). m.bytes) c.standard.ensures in
    let left : left_of c.in-Ok.reader ≡ 1099511627776 = c.in-Ok.ensures.left ∙ bytes in
    let begun = c.in-Ok-start.ensures.begun in
    let none : c.in-Ok-start.scribe.annotator.steps ≡ 0 = ap (λ (a : Annotating). a.steps) begun.annotator in
    record {
      stands = record {
        entries = [];
        proof = λ rest. sym (c.in-Ok.ensures.proof rest ∙ ap (λ (k : ℕ). read_proof c.args.binary k rest) bytes);
        so_far = begins c.args.formula.now c.args.part c.in-Ok-start.scribe begun;
      };
      left = left;
      goes_on = record { under_way = begun.under_way; room = omega (arith, left, none) };
    }
