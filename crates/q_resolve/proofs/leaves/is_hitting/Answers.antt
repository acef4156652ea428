use Rattle.std.proofs.Common.{◌≡◌, ◌<◌, ◌∙◌, ◌||◌, sym, length, List, arith, false, true}
use Rattle.std.proofs.lemmas.Option.{get_or_from_slice_get}
use Rattle.q_logic.specs.Prelude.{Literal, has, is_tautology}
use Rattle.q_derive.specs.Testing.{some}
use Rattle.q_resolve.proofs.Scanned.{every-stop, every-go}
use Rattle.q_resolve.proofs.leaves.is_hitting.Goals as goal

pub returns-then-not-is_hit : goal.returns-then-not-is_hit
returns-then-not-is_hit c =
    let t = c.loop-i-test.true in
    let v = c.clauses-i-end.ensures.value in
    let lt : c.loop-i.i < length c.args.formula.now.matrix = omega arith in
    let f : c.is_hit.result ≡ false = let x = c.if-not-is_hit.true in grind arith in
    every-stop (λ (D : List Literal). is_tautology D || some (λ (k : Literal). has k c.args.marked.now) D) c.args.formula.now.matrix c.loop-i.i c.clause.result.now lt
    (sym (get_or_from_slice_get c.args.formula.now.matrix c.loop-i.i c.clause.result.now c.clause.result.now c.clause.ensures.value)) c.loop-i.invariant (sym c.is_hit.ensures ∙ f)

pub loop-i-preserved : goal.loop-i-preserved
loop-i-preserved c =
    let t = c.loop-i-test.true in
    let v = c.clauses-i-end.ensures.value in
    let lt : c.loop-i.i < length c.args.formula.now.matrix = omega arith in
    let f : c.is_hit.result ≡ true = let x = c.if-not-is_hit.false in grind arith in
    every-go (λ (D : List Literal). is_tautology D || some (λ (k : Literal). has k c.args.marked.now) D) c.args.formula.now.matrix c.loop-i.i c.clause.result.now lt
    (sym (get_or_from_slice_get c.args.formula.now.matrix c.loop-i.i c.clause.result.now c.clause.result.now c.clause.ensures.value)) c.loop-i.invariant (sym c.is_hit.ensures ∙ f)
