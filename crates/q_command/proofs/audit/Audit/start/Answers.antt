use Rattle.std.proofs.Common.{◌≡◌, ◌∙◌, refl, sym, ap, arith, ℕ, []}
use Rattle.q_logic.specs.declared.limits.Limits.{Limits}
use Rattle.q_hinted.specs.Logs.{read_entries}
use Rattle.q_hinted.specs.Reading.{BothState}
use Rattle.q_command.specs.LazyCheckers.{hints_taken}
use Rattle.q_command.specs.Parts.{share_of}
use Rattle.q_command.specs.Taken.{entries_of}
use Rattle.q_command.proofs.BothCheckers.{made-behind, made-free, made-hints}
use Rattle.q_command.proofs.audit.Audit.start.Goals as goal

pub returns-clause-start : goal.returns-clause-start
returns-clause-start c = λ F held.
    let bytes : c.standard.result.bytes ≡ 1099511627776 = ap (λ (m : Limits). m.bytes) c.standard.ensures in
    record {
      stands = record {
        entries = [];
        log = λ rest. sym (c.in-Ok.ensures.log rest ∙ ap (λ (k : ℕ). read_entries k rest) bytes);
        steps = record {
          judged = made-behind (share_of c.args.part) F c.args.origin c.args.keep.undo c.new-judges.result held c.new-judges.ensures;
          counted = c.new-taken.ensures.count;
          told = c.new-taken.ensures.judged;
          kept = λ k. ap entries_of c.new-taken.ensures.steps;
        };
      };
      part = refl;
      undo = c.new-judges.ensures.keeps;
      steps = c.new-taken.ensures.keeps_is;
    }

pub returns-clause-left : goal.returns-clause-left
returns-clause-left c =
    let bytes : c.standard.result.bytes ≡ 1099511627776 = ap (λ (m : Limits). m.bytes) c.standard.ensures in
    ap (λ (r : BothState). r.left) c.in-Ok.ensures.start ∙ bytes

pub returns-clause-goes_on : goal.returns-clause-goes_on
returns-clause-goes_on c =
    let bytes : c.standard.result.bytes ≡ 1099511627776 = ap (λ (m : Limits). m.bytes) c.standard.ensures in
    let left : c.in-Ok.reader.left ≡ 1099511627776 = ap (λ (r : BothState). r.left) c.in-Ok.ensures.start ∙ bytes in
    let none : hints_taken c.new-judges.result.hinted ≡ 0 = made-hints c.args.origin c.args.keep.undo c.new-judges.result c.new-judges.ensures in
    record {
      room = omega (arith, left, c.new-taken.ensures.count);
      hints = omega (arith, none);
      fewer = omega (arith, c.new-taken.ensures.judged);
      may = λ k e. made-free c.args.origin c.args.keep.undo c.new-judges.result c.new-judges.ensures (c.requires k e);
    }
