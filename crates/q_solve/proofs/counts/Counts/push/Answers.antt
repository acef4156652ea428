use Rattle.std.proofs.Common.{◌≡◌, ◌+◌, sym, ap, ◌∙◌, arith}
use Rattle.q_solve.specs.Counting.{if_so, is_untrue, is_lost, number_of}
use Rattle.q_solve.proofs.CountChanges.{number-push, number-few, so-few}
use Rattle.q_solve.proofs.counts.Counts.push.Goals as goal

pub recounted-self-inside-requires-clause-fits : goal.recounted-self-inside-requires-clause-fits
recounted-self-inside-requires-clause-fits c =
    let few = number-few is_untrue c.self.inside.row.items in
    let one = so-few c.is_untrue.result in
    omega (arith, c.self.invariant.untrue_are, c.self.inside.row.ok.0, c.self.inside.row.small)

pub recounted-self-inside-requires-2-clause-fits : goal.recounted-self-inside-requires-2-clause-fits
recounted-self-inside-requires-2-clause-fits c =
    let few = number-few is_lost c.self.inside.row.items in
    let one = so-few c.is_lost.result in
    omega (arith, c.self.invariant.lost_are, c.self.inside.row.ok.0, c.self.inside.row.small)

pub invariant_of-self-2 : goal.invariant_of-self-2
invariant_of-self-2 c =
    let row = c.self.inside.row.items in
    let e = c.in_ok-push.ensures.items in
    let u : number_of is_untrue c.push.new.self.items ≡ number_of is_untrue row + if_so c.is_untrue.result 1 =
    ap (number_of is_untrue) e ∙ number-push is_untrue row c.args.count ∙ ap (λ b. number_of is_untrue row + if_so b 1) (sym c.is_untrue.ensures) in
    let l : number_of is_lost c.push.new.self.items ≡ number_of is_lost row + if_so c.is_lost.result 1 =
    ap (number_of is_lost) e ∙ number-push is_lost row c.args.count ∙ ap (λ b. number_of is_lost row + if_so b 1) (sym c.is_lost.ensures) in
    record {
      untrue_are = omega (arith, c.self.invariant.untrue_are, c.recounted-self-inside.ensures);
      lost_are = omega (arith, c.self.invariant.lost_are, c.recounted-self-inside-2.ensures);
    }
