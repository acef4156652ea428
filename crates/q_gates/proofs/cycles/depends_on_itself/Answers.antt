use Rattle.std.proofs.Common.{◌≡◌, ◌<◌, ℕ, ◌-◌, length, get_or, false, sym, ap, ◌∙◌, subst, arith, vec_len, Some}
use Rattle.q_gates.specs.Spreading.{IsStacked}
use Rattle.q_gates.specs.Gates.{gates_view}
use Rattle.q_gates.proofs.GateWalk.{top-is}
use Rattle.q_gates.proofs.SearchSteps.{target-there, pop-spread, top-depends, stacked-all, nothing-left}
use Rattle.std.proofs.lemmas.List.{get_or_read}
use Rattle.q_gates.proofs.cycles.depends_on_itself.Goals as goal

pub spread-requires-in-loop-stack-clause-there : goal.spread-requires-in-loop-stack-clause-there
spread-requires-in-loop-stack-clause-there c =
    let k = top-is c.loop-stack.stack.items (vec_len c.loop-stack.stack) c.index-top.result.now c.is_empty.result (omega arith) c.is_empty.ensures c.loop-stack-test.true (c.index-top.ensures ∙ ap (λ (n : ℕ). get_or c.loop-stack.stack.items (n - 1) c.index-top.result.now) c.len.ensures) in
    target-there (gates_view c.args.parts.now) c.requires.defined c.args.start c.index-top.result.now (top-depends _ _ c.loop-stack.marks.items _ c.index-top.result.now c.loop-stack.invariant k)

pub spread-requires-in-loop-stack-clause-spread : goal.spread-requires-in-loop-stack-clause-spread
spread-requires-in-loop-stack-clause-spread c =
    let k = top-is c.loop-stack.stack.items (vec_len c.loop-stack.stack) c.index-top.result.now c.is_empty.result (omega arith) c.is_empty.ensures c.loop-stack-test.true (c.index-top.ensures ∙ ap (λ (n : ℕ). get_or c.loop-stack.stack.items (n - 1) c.index-top.result.now) c.len.ensures) in
    (pop-spread _ _ c.loop-stack.marks.items _ c.loop-stack.stack.items _ c.index-top.result.now c.pop.result c.loop-stack.invariant c.deref_mut-in-loop-stack.ensures.value k c.pop.ensures.items (λ j e. let v : vec_len c.loop-stack.stack ≡ length c.loop-stack.stack.items = omega arith in c.pop.ensures.value 0 (omega arith) ∙ ap (λ (n : ℕ). Some (get_or c.loop-stack.stack.items n 0)) (let z : vec_len c.loop-stack.stack - 1 ≡ j = omega arith in z))).0

pub returns : goal.returns
returns c =
    let n = nothing-left c.loop-stack.stack.items (vec_len c.loop-stack.stack) c.is_empty.result (omega arith) c.is_empty.ensures c.loop-stack-test.false in
    let s = subst (IsStacked (gates_view c.args.parts.now) c.args.start c.loop-stack.marks.items) n c.loop-stack.invariant in
    let r : length c.loop-stack.marks.items ≡ length (gates_view c.args.parts.now) = c.loop-stack.invariant.room in
    let lt : c.args.start < length (gates_view c.args.parts.now) = c.requires.there in
    let e : c.index.result.now ≡ get_or c.loop-stack.marks.items c.args.start false = get_or_read c.loop-stack.marks.items c.args.start c.index.result.now (omega arith) c.index.ensures false in
    (λ t. s.reached c.args.start (sym e ∙ t), λ d. e ∙ stacked-all (gates_view c.args.parts.now) c.args.start c.loop-stack.marks.items s c.args.start d)
