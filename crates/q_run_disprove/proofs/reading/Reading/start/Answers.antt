use Rattle.std.proofs.Common.{◌≡◌, ◌∙◌, sym, ap, arith, refl, true, ℕ, []}
use Rattle.q_logic.specs.declared.limits.Limits.{Limits}
use Rattle.q_binary.specs.Forms.{left_of, read_proof}
use Rattle.q_run_disprove.proofs.DisproofSteps.{begins}
use Rattle.q_run_disprove.proofs.reading.Reading.start.Goals as goal

pub returns-then-form-clause-started : goal.returns-then-form-clause-started
returns-then-form-clause-started c =
    let bytes : c.standard.result.bytes ≡ 1099511627776 = ap (λ (m : Limits). m.bytes) c.standard.ensures in
    let left : left_of c.in-Ok.reader ≡ 1099511627776 = c.in-Ok.ensures.left ∙ bytes in
    record {
      stands = record {
        entries = [];
        proof = λ rest. sym (c.in-Ok.ensures.proof rest ∙ ap (λ (k : ℕ). read_proof c.args.form.binary k rest) bytes);
        so_far = (refl, refl, refl, c.requires.apart c.if-form.true, c.if-form.true);
      };
      left = left;
      goes_on = record { judging = c.is_lost.ensures.no c.if-is_lost.false; room = omega (arith, left) };
    }

pub returns-in-Ok-start-clause-started : goal.returns-in-Ok-start-clause-started
returns-in-Ok-start-clause-started c =
    let bytes : c.standard.result.bytes ≡ 1099511627776 = ap (λ (m : Limits). m.bytes) c.standard.ensures in
    let left : left_of c.in-Ok.reader ≡ 1099511627776 = c.in-Ok.ensures.left ∙ bytes in
    let begun = c.in-Ok-start.ensures.begun in
    record {
      stands = record {
        entries = [];
        proof = λ rest. sym (c.in-Ok.ensures.proof rest ∙ ap (λ (k : ℕ). read_proof c.args.form.binary k rest) bytes);
        so_far = (
          begins c.args.form.keeps c.args.part c.args.formula c.in-Ok-start.refuter begun,
          λ h. absurd (let f = c.if-form.false in cc),
        );
      };
      left = left;
      goes_on = record { judging = begun.under_way; room = omega (arith, left, begun.none) };
    }
