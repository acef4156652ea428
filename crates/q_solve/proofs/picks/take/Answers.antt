use Rattle.std.proofs.Common.{◌≤◌, length, sym, ap, ◌∙◌, arith}
use Rattle.q_search.proofs.PathValues.{read-at}
use Rattle.q_solve.specs.declared.picks.Pick.{Pick}
use Rattle.q_solve.proofs.GrownRows.{taken-none}
use Rattle.q_solve.proofs.picks.take.Goals as goal
use Rattle.q_solve.proofs.picks.take.Goals.{then-at-row-via-then-at-row, then-at-row-via-else-at-row+then-row-at}

pub returns-then-at-row : goal.returns-then-at-row
returns-then-at-row c =
    taken-none c.args.row.now c.args.at c.args.depth (elim c.then-at-row.branch [
      | then-at-row-via-then-at-row w ↦ λ lt p e f. absurd (let n : length c.args.row.now ≤ c.args.at = w.if-at-row.true in omega arith)
      | then-at-row-via-else-at-row+then-row-at w ↦ λ lt p e f. w.if-row-at.true (ap (λ (q : Pick). q.depth) (sym (read-at c.args.row.now c.args.at p (record { depth = 0; lit = 0 }) lt e)) ∙ f)
    ]) c.requires.row c.requires.depth
