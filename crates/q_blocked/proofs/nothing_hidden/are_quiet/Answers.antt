use Rattle.std.proofs.Common.{◌≡◌, ◌↔◌, true}
use Rattle.q_logic.specs.Prelude.{negation, IsIn}
use Rattle.q_blocked.proofs.HiddenLiterals.{gives_none-opposed, gives_none-two}
use Rattle.q_blocked.proofs.nothing_hidden.are_quiet.Goals as goal

pub returns-then-are_two_outside : goal.returns-then-are_two_outside
returns-then-are_two_outside c t D a b = let r = c.are_two_outside.ensures.0 c.if-are_two_outside.true in gives_none-two c.args.set.now D c.args.first c.args.second a r.0 b r.1 r.2

pub returns-then-has : goal.returns-then-has
returns-then-has c t D a b =
    let h : c.has.result ≡ true ↔ IsIn (negation c.args.first) c.args.set.now = rw c.negated.ensures at c.has.ensures in
    gives_none-opposed c.args.set.now D c.args.first a c.requires (h.0 c.if-has.true)

pub returns : goal.returns
returns c e D a b =
    let h : c.has-2.result ≡ true ↔ IsIn (negation c.args.second) c.args.set.now = rw c.negated-2.ensures at c.has-2.ensures in
    gives_none-opposed c.args.set.now D c.args.second b c.requires (h.0 e)
