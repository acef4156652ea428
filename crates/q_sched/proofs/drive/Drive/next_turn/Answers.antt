use Rattle.std.proofs.Common.{arith, rules}
use Rattle.std.proofs.lemmas.Bool.Decides.{nat_tests}
use Rattle.q_sched.proofs.TurnParts.{turned-by_search, turned-by_guide, no_guides, some_guides}
use Rattle.q_sched.proofs.drive.Drive.next_turn.Goals as goal

pub returns-then-is_empty-clause-turned : goal.returns-then-is_empty-clause-turned
returns-then-is_empty-clause-turned g c =
    let w = c.args.self.now.waiting in
    let len = w.ok.0 in
    turned-by_search _ _ _ _ (search rules) (no_guides _ _ _ w.items (grind (arith, nat_tests))) c.search.ensures.searches

pub returns-clause-turned : goal.returns-clause-turned
returns-clause-turned g c =
    let w = c.args.self.now.waiting in
    let len = w.ok.0 in
    turned-by_guide _ _ _ _ _ (search rules) (some_guides _ _ _ w.items (λ e. grind (arith, nat_tests))) (search rules) c.ask_first.ensures.asks
