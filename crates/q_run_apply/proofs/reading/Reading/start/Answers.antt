use Rattle.std.proofs.Common.{◌≡◌, ◌∙◌, sym, ap, arith, ℕ, []}
use Rattle.q_logic.specs.declared.limits.Limits.{Limits}
use Rattle.q_hinted.specs.Logs.{Entries, read_entries}
use Rattle.q_hinted.specs.Reading.{BothState}
use Rattle.q_run_apply.specs.Applications.{words_read}
use Rattle.q_run_apply.proofs.MadeSteps.{begins}
use Rattle.q_run_apply.proofs.WordsRead.{start-words}
use Rattle.q_run_apply.proofs.reading.Reading.start.Goals as goal

pub returns : goal.returns
returns c =
    let bytes : c.standard.result.bytes ≡ 1099511627776 = ap (λ (m : Limits). m.bytes) c.standard.ensures in
    let left : c.in-Ok.reader.left ≡ 1099511627776 = ap (λ (r : BothState). r.left) c.in-Ok.ensures.start ∙ bytes in
    let begun = c.in_ok-maker.ensures in
    record {
      started = record {
        stands = record {
          entries = [];
          log = λ rest. sym (c.in-Ok.ensures.log rest ∙ ap (λ (k : ℕ). read_entries k rest) bytes);
          offence = λ rest. sym (ap (λ (o : Entries). o.refused) (start-words c.in-Ok.reader c.standard.result.bytes rest c.in-Ok.ensures.start ∙ ap (λ (k : ℕ). words_read k rest) bytes));
          so_far = begins c.args.formula c.in_ok-maker.maker begun;
        };
        left = left;
        goes_on = record {
          under_way = begun.under_way;
          unrefused = ap (λ (r : BothState). r.refused) c.in-Ok.ensures.start;
          room = omega (arith, left, begun.none);
        };
      };
    }
