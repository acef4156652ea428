use Rattle.std.proofs.Common.{◌≡◌, ◌||◌, ◌&&◌, ◌+◌, ◌-◌, true, length, take, drop, ap, sym, ◌∙◌}
use Rattle.std.proofs.lemmas.List.{take_rest}
use Rattle.q_logic.specs.Prelude.{Literal, negation, has}
use Rattle.q_logic.specs.Branches.{Claim, is_missing, both_missing}
use Rattle.q_validate.specs.Stands.{claim_at}
use Rattle.q_validate.proofs.ClauseReads.{both-step, has-told}
use Rattle.q_validate.proofs.node.Node.repeats.Goals as goal

pub returns-then-is_missing : goal.returns-then-is_missing
returns-then-is_missing c =
    let q : Claim = claim_at c.args.self.now in
    let C = c.args.clause.now in
    let D = drop (c.args.at + 1) C in
    let k = c.index-clause-at.result in
    let u : is_missing q k.var ≡ true = sym c.is_missing.ensures ∙ c.if-is_missing.true in
    let h : c.holds.result ≡ has c.negated.result D =
    has-told c.negated.result (take (length C - (c.args.at + 1)) D) c.holds.result c.holds.ensures.0 c.holds.ensures.1
    ∙ ap (has c.negated.result) (take_rest C (c.args.at + 1)) in
    both-step q c.args.clause.now c.args.at k c.requires c.index-clause-at.is
    ∙ ap (λ b. (b && has (negation k) D) || both_missing q D) u
    ∙ ap (λ (j : Literal). has j D || both_missing q D) (sym c.negated.ensures)
    ∙ ap (λ b. b || both_missing q D) (sym h)
