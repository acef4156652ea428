use Rattle.std.proofs.Common.{◌<◌, ◌∙◌, sym, length, List, arith}
use Rattle.std.proofs.lemmas.Option.{get_or_from_slice_get}
use Rattle.q_logic.specs.Prelude.{Literal}
use Rattle.q_resolve.specs.Leaves.{is_same}
use Rattle.q_resolve.proofs.Scanned.{some-stop, some-go}
use Rattle.q_resolve.proofs.leaves.is_one_of.Goals as goal

pub returns-then-is_same : goal.returns-then-is_same
returns-then-is_same c =
    let t = c.loop-i-test.true in
    let v = c.clauses-i-end.ensures.value in
    let lt : c.loop-i.i < length c.args.formula.now.matrix = omega arith in
    some-stop (λ (D : List Literal). is_same D c.args.term.now) c.args.formula.now.matrix c.loop-i.i c.clause.result.now lt
    (sym (get_or_from_slice_get c.args.formula.now.matrix c.loop-i.i c.clause.result.now c.clause.result.now c.clause.ensures.value)) c.loop-i.invariant (sym c.is_same.ensures ∙ c.if-is_same.true)

pub loop-i-preserved : goal.loop-i-preserved
loop-i-preserved c =
    let t = c.loop-i-test.true in
    let v = c.clauses-i-end.ensures.value in
    let lt : c.loop-i.i < length c.args.formula.now.matrix = omega arith in
    some-go (λ (D : List Literal). is_same D c.args.term.now) c.args.formula.now.matrix c.loop-i.i c.clause.result.now lt
    (sym (get_or_from_slice_get c.args.formula.now.matrix c.loop-i.i c.clause.result.now c.clause.result.now c.clause.ensures.value)) c.loop-i.invariant (sym c.is_same.ensures ∙ c.if-is_same.false)
