use Rattle.std.proofs.Common.{◌≡◌, eqb, true, false, refl, length, arith, sym, ◌∙◌}
use Rattle.q_rebuild.proofs.EmptyClause.{empty-there, empty-none}
use Rattle.q_rebuild.proofs.accepting.has_empty.Goals as goal

pub returns-then-is_empty : goal.returns-then-is_empty
returns-then-is_empty c =
    let e : eqb (length c.clause.result.now) 0 ≡ true = sym c.is_empty.ensures ∙ c.if-is_empty.true in
    let z : length c.clause.result.now ≡ 0 = grind arith in
    (λ t. empty-there c.args.formula.now.matrix c.loop-i.i c.clause.result.now c.clause.ensures.value z, λ m. refl)

pub returns : goal.returns
returns c = (λ t. absurd (let u : false ≡ true = t in cc), λ m. absurd (empty-none c.args.formula.now.matrix c.loop-i.i (let a : c.clauses-i-end.result ≡ length c.args.formula.now.matrix = c.clauses-i-end.ensures.value in omega arith) c.loop-i.invariant m))
