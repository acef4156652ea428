use Rattle.std.proofs.Common.{◌≡◌, ◌∙◌, ◌++◌, ◌∷◌, [], List, take, length, arith, sym, ap}
use Rattle.q_logic.specs.Prelude.{Literal, negation, clause_of, without, positive, Clause}
use Rattle.q_logic.proofs.Common.{test-false, taken-all}
use Rattle.q_expand.proofs.ClauseParts.{imaged, positive-of, over-left, over-put, over-room, over-done}
use Rattle.q_expand.proofs.splitting.put_over.Goals as goal
use Rattle.q_expand.proofs.splitting.put_over.Goals.{then-not-is, else-not-is}

pub push_reserved-requires-then-not-is : goal.push_reserved-requires-then-not-is
push_reserved-requires-then-not-is c =
    let r = over-room c.negated-gone.result c.args.order.now c.args.first c.args.clause.now c.loop-k.k-index (let t = c.loop-k-test.true in omega arith) in
    let e : length c.loop-k.spare.items ≡ length (c.negated-gone.result ∷ imaged c.args.order.now c.args.first (without c.negated-gone.result (take c.loop-k.k-index c.args.clause.now))) = ap length c.loop-k.invariant.items in
    omega (arith, r, e, c.loop-k.spare.ok.0, c.loop-k.invariant.room, c.requires.room, c.loop-k-test.true)

pub loop-k-preserved : goal.loop-k-preserved
loop-k-preserved c =
    let l = c.negated-gone.result in
    let V = c.args.order.now in
    let t = c.args.first in
    let C = c.args.clause.now in
    let n = c.loop-k.k-index in
    let k = c.k-item.result in
    elim c.if-not-is.branch [
      | then-not-is w ↦
          rw w.spare-is (record {
            items = w.push_reserved-then-not-is.ensures.items ∙ (ap (λ (xs : List Literal). xs ++ w.image.result ∷ []) c.loop-k.invariant.items
                ∙ (ap (λ (x : Literal). (l ∷ imaged V t (without l (take n C))) ++ x ∷ []) w.image.ensures ∙ ap (λ (xs : List Literal). l ∷ xs) (sym (over-put l V t C n k c.loop-k-test.true c.k-item.is (test-false c.is.result c.is.ensures w.if-not-is.true)))));
            room = w.push_reserved-then-not-is.ensures.capacity ∙ c.loop-k.invariant.room;
          })
      | else-not-is w ↦
          rw w.spare-is (record {
            items = c.loop-k.invariant.items ∙ ap (λ (xs : List Literal). l ∷ xs) (sym (over-left l V t C n k c.loop-k-test.true c.k-item.is (c.is.ensures.0 w.if-not-is.false)));
            room = c.loop-k.invariant.room;
          })
    ]

pub returns-clause-items : goal.returns-clause-items
returns-clause-items c =
    let V = c.args.order.now in
    let t = c.args.first in
    let C = c.args.clause.now in
    let e : c.negated-gone.result ≡ negation (positive c.args.u.var) = c.negated-gone.ensures ∙ ap negation (positive-of c.args.u c.requires.sign) in
    let f : imaged V t (without c.negated-gone.result (take c.loop-k.k-index C)) ≡ imaged V t (without c.negated-gone.result C) = ap (λ (D : Clause). imaged V t (without c.negated-gone.result D)) (taken-all C c.loop-k.k-index c.loop-k-test.false) in
    c.sort_lits.ensures.items ∙ (ap clause_of (c.loop-k.invariant.items ∙ ap (λ (xs : List Literal). c.negated-gone.result ∷ xs) f) ∙ (ap (λ (l : Literal). clause_of (l ∷ imaged V t (without l C))) e ∙ over-done c.args.u.var V t C))
