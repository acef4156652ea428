use Rattle.std.proofs.Common.{◌≡◌, ◌++◌, ◌∙◌, ap, arith, length, append_assoc, length-append, List, ℕ}
use Rattle.q_logic.specs.Prelude.{Literal, without, first_of, in_front}
use Rattle.q_logic.proofs.Common.{without-in_order}
use Rattle.q_text.specs.Numbers.{line_end}
use Rattle.q_log.specs.Texts.{literals_text}
use Rattle.q_log.proofs.LeastInFront.{in_front-own}
use Rattle.q_log.proofs.text.write_shorter.Goals as goal

pub put_others-requires : goal.put_others-requires
put_others-requires c =
    let C : List Literal = without c.args.out c.args.lits.now in
    let e : in_front (first_of C) C ≡ C = in_front-own C (without-in_order c.args.out c.args.lits.now c.requires.ordered) in
    let r = rw (e, length-append (literals_text C) line_end) at c.requires.room in
    omega arith

pub put-requires : goal.put-requires
put-requires c =
    let C : List Literal = without c.args.out c.args.lits.now in
    let e : in_front (first_of C) C ≡ C = in_front-own C (without-in_order c.args.out c.args.lits.now c.requires.ordered) in
    let r = rw (e, length-append (literals_text C) line_end) at c.requires.room in
    let n = rw (length-append c.args.text.now.items (literals_text C)) at (ap length c.put_others.ensures.items) in
    omega arith

pub returns-clause-items : goal.returns-clause-items
returns-clause-items c =
    let C : List Literal = without c.args.out c.args.lits.now in
    let e : in_front (first_of C) C ≡ C = in_front-own C (without-in_order c.args.out c.args.lits.now c.requires.ordered) in
    rw e (c.put.ensures.items ∙ ap (λ (xs : List ℕ). xs ++ line_end) c.put_others.ensures.items ∙ append_assoc c.args.text.now.items (literals_text C) line_end)
