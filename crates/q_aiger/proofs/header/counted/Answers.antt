use Rattle.std.proofs.Common.{IsTrue, arith}
use Rattle.q_aiger.proofs.Digits.{header-words}
use Rattle.q_aiger.proofs.header.counted.Goals as goal

pub returns-then-not-are_numbers : goal.returns-then-not-are_numbers
returns-then-not-are_numbers c = record { answer = header-words c.args.words (λ n. let t : IsTrue c.are_numbers.result = c.are_numbers.ensures.1 n in grind arith); modest = tt }
