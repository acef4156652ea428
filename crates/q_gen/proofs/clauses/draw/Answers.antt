use Rattle.q_gen.proofs.GeneratedClauses.{draws}
use Rattle.q_gen.proofs.clauses.draw.Goals as goal

pub returns : goal.returns
returns c = λ k. draws c.args.width k c.args.words.now c.next_word-first.new.self c.next_word-second.new.self c.next_word-third.new.self c.next_word-fourth.new.self
    c.next_word-first.result c.next_word-second.result c.next_word-third.result c.next_word-fourth.result
    c.literal.result c.literal-2.result c.literal-3.result c.literal-4.result
    c.next_word-first.ensures c.next_word-second.ensures c.next_word-third.ensures c.next_word-fourth.ensures
    c.literal.ensures c.literal-2.ensures c.literal-3.ensures c.literal-4.ensures
