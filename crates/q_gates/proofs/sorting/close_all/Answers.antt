use Rattle.std.proofs.Common.{◌≡◌, ℕ, ◌+◌, ◌-◌, length, get_or, ap, ◌∙◌, arith, vec_len, Some}
use Rattle.std.proofs.lemmas.List.{length_push}
use Rattle.std.proofs.lemmas.List.{length-map}
use Rattle.q_gates.specs.Gates.{gates_view, gate_view}
use Rattle.q_gates.proofs.GateWalk.{top-is, top-there, push-next, cycle-met, kept-set, pop-top, unmarked-set}
use Rattle.q_gates.proofs.sorting.close_all.Goals as goal

pub first_open-requires-clause-room : goal.first_open-requires-clause-room
first_open-requires-clause-room c = λ h e.
    let w = c.loop-stack.invariant.walk in
    let k = top-is c.loop-stack.stack.items (vec_len c.loop-stack.stack) c.index-top.result.now c.is_empty.result (omega arith) c.is_empty.ensures c.loop-stack-test.true (c.index-top.ensures ∙ ap (λ (n : ℕ). get_or c.loop-stack.stack.items (n - 1) c.index-top.result.now) c.len.ensures) in
    let lt = c.requires.defined c.index-top.result.now h (top-there _ _ _ _ _ _ w k) e in
    let r : length c.loop-stack.closed ≡ length (gates_view c.args.parts.now) = w.closed_room in
    omega arith

pub first_open-requires-clause-gate : goal.first_open-requires-clause-gate
first_open-requires-clause-gate c =
    let w = c.loop-stack.invariant.walk in
    let k = top-is c.loop-stack.stack.items (vec_len c.loop-stack.stack) c.index-top.result.now c.is_empty.result (omega arith) c.is_empty.ensures c.loop-stack-test.true (c.index-top.ensures ∙ ap (λ (n : ℕ). get_or c.loop-stack.stack.items (n - 1) c.index-top.result.now) c.len.ensures) in
    let lt = top-there _ _ _ _ _ _ w k in
    let len = length-map c.args.parts.now gate_view in
    omega arith

pub bounds-opened-next : goal.bounds-opened-next
bounds-opened-next c =
    let w = c.loop-stack.invariant.walk in
    let k = top-is c.loop-stack.stack.items (vec_len c.loop-stack.stack) c.index-top.result.now c.is_empty.result (omega arith) c.is_empty.ensures c.loop-stack-test.true (c.index-top.ensures ∙ ap (λ (n : ℕ). get_or c.loop-stack.stack.items (n - 1) c.index-top.result.now) c.len.ensures) in
    let lt = c.requires.defined c.index-top.result.now c.in-Some.next (top-there _ _ _ _ _ _ w k) c.in-Some.ensures.0 in
    let r : length c.loop-stack.opened ≡ length (gates_view c.args.parts.now) = w.opened_room in
    omega arith

pub returns-then-opened-next-clause-cycle : goal.returns-then-opened-next-clause-cycle
returns-then-opened-next-clause-cycle c = λ z.
    let k = top-is c.loop-stack.stack.items (vec_len c.loop-stack.stack) c.index-top.result.now c.is_empty.result (omega arith) c.is_empty.ensures c.loop-stack-test.true (c.index-top.ensures ∙ ap (λ (n : ℕ). get_or c.loop-stack.stack.items (n - 1) c.index-top.result.now) c.len.ensures) in
    cycle-met _ _ _ _ _ c.index-top.result.now c.in-Some.next c.loop-stack.invariant.walk k c.in-Some.ensures.0 c.if-opened-next.true c.in-Some.ensures.1

pub bounds-opened-next-in-Some : goal.bounds-opened-next-in-Some
bounds-opened-next-in-Some c =
    let w = c.loop-stack.invariant.walk in
    let k = top-is c.loop-stack.stack.items (vec_len c.loop-stack.stack) c.index-top.result.now c.is_empty.result (omega arith) c.is_empty.ensures c.loop-stack-test.true (c.index-top.ensures ∙ ap (λ (n : ℕ). get_or c.loop-stack.stack.items (n - 1) c.index-top.result.now) c.len.ensures) in
    let lt = c.requires.defined c.index-top.result.now c.in-Some.next (top-there _ _ _ _ _ _ w k) c.in-Some.ensures.0 in
    let r : length c.loop-stack.opened ≡ length (gates_view c.args.parts.now) = w.opened_room in
    omega arith

pub loop-stack-smaller-in-Continue-1 : goal.loop-stack-smaller-in-Continue-1
loop-stack-smaller-in-Continue-1 c =
    let w = c.loop-stack.invariant.walk in
    let k = top-is c.loop-stack.stack.items (vec_len c.loop-stack.stack) c.index-top.result.now c.is_empty.result (omega arith) c.is_empty.ensures c.loop-stack-test.true (c.index-top.ensures ∙ ap (λ (n : ℕ). get_or c.loop-stack.stack.items (n - 1) c.index-top.result.now) c.len.ensures) in
    let lt = c.requires.defined c.index-top.result.now c.in-Some.next (top-there _ _ _ _ _ _ w k) c.in-Some.ensures.0 in
    let r : length c.loop-stack.opened ≡ length (gates_view c.args.parts.now) = w.opened_room in
    let u = unmarked-set c.loop-stack.opened c.in-Some.next (omega arith) c.if-opened-next.false in
    let l : length c.push.new.self.items ≡ length c.loop-stack.stack.items + 1 = ap length c.in_ok-push-in-Some.ensures.items ∙ length_push c.loop-stack.stack.items c.in-Some.next in
    omega arith

pub loop-stack-preserved-in-Continue-1 : goal.loop-stack-preserved-in-Continue-1
loop-stack-preserved-in-Continue-1 c =
    let w = c.loop-stack.invariant.walk in
    let k = top-is c.loop-stack.stack.items (vec_len c.loop-stack.stack) c.index-top.result.now c.is_empty.result (omega arith) c.is_empty.ensures c.loop-stack-test.true (c.index-top.ensures ∙ ap (λ (n : ℕ). get_or c.loop-stack.stack.items (n - 1) c.index-top.result.now) c.len.ensures) in
    let lt = c.requires.defined c.index-top.result.now c.in-Some.next (top-there _ _ _ _ _ _ w k) c.in-Some.ensures.0 in
    let r : length c.loop-stack.opened ≡ length (gates_view c.args.parts.now) = w.opened_room in
    record {
      walk = push-next _ _ _ _ _ _ c.index-top.result.now c.in-Some.next c.requires.defined w k c.in-Some.ensures.0 c.if-opened-next.false c.in-Some.ensures.1 c.in_ok-push-in-Some.ensures.items;
      kept = kept-set c.args.opened.now c.loop-stack.opened c.in-Some.next (omega arith) c.loop-stack.invariant.kept;
    }

pub loop-stack-preserved : goal.loop-stack-preserved
loop-stack-preserved c =
    let w = c.loop-stack.invariant.walk in
    let k = top-is c.loop-stack.stack.items (vec_len c.loop-stack.stack) c.index-top.result.now c.is_empty.result (omega arith) c.is_empty.ensures c.loop-stack-test.true (c.index-top.ensures ∙ ap (λ (n : ℕ). get_or c.loop-stack.stack.items (n - 1) c.index-top.result.now) c.len.ensures) in
    record {
      walk = pop-top _ _ _ _ _ _ _ c.index-top.result.now c.pop.result w k c.in-None.ensures c.pop.ensures.items (λ j e. let v : vec_len c.loop-stack.stack ≡ length c.loop-stack.stack.items = omega arith in c.pop.ensures.value 0 (omega arith) ∙ ap (λ (n : ℕ). Some (get_or c.loop-stack.stack.items n 0)) (let z : vec_len c.loop-stack.stack - 1 ≡ j = omega arith in z)) c.in_ok-push-in-None.ensures.items;
      kept = c.loop-stack.invariant.kept;
    }
