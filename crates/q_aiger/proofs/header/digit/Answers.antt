use Rattle.std.proofs.Common.{◌+◌, ◌-◌, ◌*◌, length, arith, ap, ◌∙◌, sym, ℕ}
use Rattle.q_aiger.specs.Headers.{padded}
use Rattle.q_aiger.proofs.Digits.{digits-range, padded-digit}
use Rattle.q_aiger.proofs.header.digit.Goals as goal

pub overflow_sub-word : goal.overflow_sub-word
overflow_sub-word c = (digits-range c.args.word.now (c.args.at - (c.args.len - length c.args.word.now)) c.requires.number (omega arith)).0

pub returns-clause-step : goal.returns-clause-step
returns-clause-step c =
    padded-digit c.args.len c.args.at c.args.word.now c.requires.long c.if-at-blank.false c.requires.at
    ∙ ap (λ (x : ℕ). 10 * padded c.args.len c.args.word.now c.args.at + x) (sym c.from.ensures)

pub returns-clause-small : goal.returns-clause-small
returns-clause-small c =
    let r = digits-range c.args.word.now (c.args.at - (c.args.len - length c.args.word.now)) c.requires.number (omega arith) in
    omega (arith, c.from.ensures)
