use Rattle.std.proofs.Common.{◌≤◌, ◌+◌, length, sym, ◌∙◌, subst, arith}
use Rattle.q_resolve.specs.Judged.{entries_of, IsEndUpto}
use Rattle.q_resolve.proofs.Coned.{end-more, end-new, end-last, entries-length, literals-there, nothing-is, something-is}
use Rattle.q_resolve.proofs.cone.find_end.Goals.{then-is_empty, else-is_empty}
use Rattle.q_resolve.proofs.cone.find_end.Goals as goal

pub loop-n-preserved : goal.loop-n-preserved
loop-n-preserved c =
    let lines = c.args.trace.now.lines in
    let r = literals-there lines c.loop-n.n c.literals.result.now c.literals.ensures in
    elim c.if-is_empty.branch [
      | then-is_empty w ↦
          subst (IsEndUpto (entries_of lines) (c.loop-n.n + 1)) (sym w.end-is)
          (end-new (entries_of lines) c.loop-n.n r.0 r.1 (r.2 ∙ nothing-is c.literals.result.now (sym c.is_empty.ensures ∙ w.if-is_empty.true)))
      | else-is_empty w ↦
          subst (IsEndUpto (entries_of lines) (c.loop-n.n + 1)) (sym w.end-is)
          (end-more (entries_of lines) c.loop-n.n c.loop-n.end r.0 r.1 (λ z. something-is c.literals.result.now (sym c.is_empty.ensures ∙ w.if-is_empty.false) (sym r.2 ∙ z)) c.loop-n.invariant)
    ]

pub returns : goal.returns
returns c =
    let lines = c.args.trace.now.lines in
    let le : length (entries_of lines) ≤ c.loop-n.n = let x = c.loop-n-test.false in let e = c.len-n-end.ensures in let l = entries-length lines in omega arith in
    end-last (entries_of lines) c.loop-n.n c.loop-n.end le c.loop-n.invariant
