use Rattle.std.proofs.Common.{refl, None}
use Rattle.q_logic.specs.Prelude.{live, set_slot, Reducible}
use Rattle.q_check.proofs.PushedHints.{undroppable, denied}
use Rattle.q_check.proofs.showing.show_drop.Goals as goal

pub returns-then-not-branch-clause-shown : goal.returns-then-not-branch-clause-shown
returns-then-not-branch-clause-shown c =
    let F = c.args.book.now in
    let N = set_slot c.args.number None F.slots in
    let apart = denied (Reducible F.prefix (live N) c.args.cut.now.clause.now c.args.cut.now.lit) c.in_ok-is_reducible.field-0 c.in_ok-is_reducible.ensures.exact c.if-branch.false in
    let exact = rw (c.in_ok-is_reducible.ensures.same, c.negated-2.ensures, c.requires.rest) at c.in_ok-resolve.ensures.exact in
    let none = rw c.if-not-branch.true at exact in
    rw c.refusal-then-not-branch.ensures (refl, undroppable F.prefix N c.args.cut.now.clause.now c.args.cut.now.lit apart none)
