use Rattle.std.proofs.Common.{refl, Bool, subst}
use Rattle.q_check.specs.Numbers.{left_out, Explains}
use Rattle.q_check.proofs.PushedHints.{unwarranted}
use Rattle.q_check.proofs.showing.show.Goals as goal

pub returns-in-None-clause-shown : goal.returns-in-None-clause-shown
returns-in-None-clause-shown c =
    let F = c.args.book.now in
    let N = left_out c.args.skip F.slots in
    let told = rw c.in_ok-proof.ensures.same at c.in_ok-explained.ensures.exact in
    let apart = subst (λ (b : Bool). Explains N c.args.named.now.clause.now c.explained.new.hints.items b) c.if-branch.false told in
    let exact = rw (c.in_ok-explained.ensures.same, c.in_ok-proof.ensures.same) at c.in_ok-proof-3.ensures.exact in
    let none = rw c.in-None.is at exact in
    rw c.refusal.ensures (refl, unwarranted F.prefix N c.args.named.now.clause.now c.args.named.now.first apart none)
