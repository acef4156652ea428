use Rattle.std.proofs.Common.{◌≡◌, true, subst, arith}
use Rattle.std.proofs.lemmas.Grind.{common_steps}
use Rattle.q_hinted.specs.Builders.{place_of}
use Rattle.q_hinted.specs.Filled.{Gives}
use Rattle.q_hinted.specs.Grammar.{place_move, is_open_at}
use Rattle.q_hinted.proofs.OpenEnds.{open-end, open-stops}
use Rattle.q_hinted.proofs.reader.BothReader.finish.Goals as goal
use Rattle.q_hinted.proofs.reader.BothReader.finish.Goals.{in-Some-finish+in_ok-entry-in-Some-finish, in-None}

pub returns-then-is_open-clause-end : goal.returns-then-is_open-clause-end
returns-then-is_open-clause-end c =
    elim c.match-finish.branch [
      | in-Some-finish+in_ok-entry-in-Some-finish w ↦
          let p = place_of c.self.inside.builder in
          let q = place_of w.take.new.self in
          let t = w.in-Some-finish.token in
          let g = subst (λ r. Gives r (place_move p t) q t.line) w.in_ok-entry-in-Some-finish.was w.take.ensures.gives in
          let o : is_open_at q ≡ true = cc in
          let s = open-stops p t q w.in_ok-entry-in-Some-finish.entry t.line c.line-line.result g o in
          grind (arith, common_steps)
      | in-None w ↦ grind (arith, common_steps, open-end)
    ]
