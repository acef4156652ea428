use Rattle.std.proofs.Common.{◌≡◌, ◌∙◌, ◌∷◌, ◌++◌, [], List, take, length, arith, sym, ap}
use Rattle.std.proofs.lemmas.List.{length-take-le}
use Rattle.q_logic.specs.Prelude.{Literal, clause_of, insert}
use Rattle.q_logic.proofs.Common.{clause_of-ordered_clause, taken-all, taken}
use Rattle.q_expand.proofs.splitting.put_with.Goals as goal

pub push_reserved-requires-in-loop-k : goal.push_reserved-requires-in-loop-k
push_reserved-requires-in-loop-k c =
    let n = length-take-le c.loop-k.k-index c.args.clause.now (let t = c.loop-k-test.true in omega arith) in
    let e : length c.loop-k.spare.items ≡ length (c.args.u ∷ take c.loop-k.k-index c.args.clause.now) = ap length c.loop-k.invariant.items in
    omega (arith, n, e, c.loop-k.spare.ok.0, c.loop-k.invariant.room, c.requires.room, c.loop-k-test.true)

pub loop-k-preserved : goal.loop-k-preserved
loop-k-preserved c = record {
  items = c.push_reserved-in-loop-k.ensures.items ∙ (ap (λ (xs : List Literal). xs ++ c.k-item.result ∷ []) c.loop-k.invariant.items ∙ ap (λ (xs : List Literal). c.args.u ∷ xs) (sym (taken c.args.clause.now c.loop-k.k-index c.k-item.result c.loop-k-test.true c.k-item.is)));
  room = c.push_reserved-in-loop-k.ensures.capacity ∙ c.loop-k.invariant.room;
}

pub returns-clause-items : goal.returns-clause-items
returns-clause-items c =
    c.sort_lits.ensures.items ∙ (ap clause_of (c.loop-k.invariant.items ∙ ap (λ (xs : List Literal). c.args.u ∷ xs) (taken-all c.args.clause.now c.loop-k.k-index c.loop-k-test.false)) ∙ ap (insert c.args.u) (clause_of-ordered_clause c.args.clause.now c.requires.ordered))
