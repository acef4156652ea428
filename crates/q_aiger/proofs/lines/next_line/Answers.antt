use Rattle.std.proofs.Common.{◌∙◌, ◌∷◌, ◌+◌, ap, sym, refl, length, arith, List, ℕ}
use Rattle.q_aiger.specs.Lines.{lines_of}
use Rattle.q_aiger.proofs.LineCuts.{line-ended, line-last, take-rest, not-empty, positive}
use Rattle.q_aiger.proofs.lines.next_line.Goals as goal

pub returns-then-end-text : goal.returns-then-end-text
returns-then-end-text c =
    line-last c.args.text.now c.line_end-end.result (not-empty c.args.text.now (positive (length c.args.text.now) c.is_empty.result c.is_empty.ensures c.if-is_empty.false)) (omega arith) (λ k lt. c.line_end-end.ensures.before k lt)
    ∙ ap (λ (x : List ℕ). c.args.text.now ∷ lines_of x) (sym (take-rest c.args.text.now (length c.args.text.now) c.line_end-end.result refl))

pub returns : goal.returns
returns c =
    line-ended c.args.text.now c.line_end-end.result c.cut_return.result.now (omega arith) (λ k lt. c.line_end-end.ensures.before k lt) (c.line_end-end.ensures.found (omega arith)) c.cut_return.ensures
    ∙ ap (λ (x : List ℕ). c.cut_return.result.now ∷ lines_of x) (sym (take-rest c.args.text.now (length c.args.text.now) (c.line_end-end.result + 1) refl))
