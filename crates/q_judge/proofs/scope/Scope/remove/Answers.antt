use Rattle.std.proofs.Common.{◌∙◌, None, set, length, sym, arith, true≢false}
use Rattle.std.proofs.lemmas.List.{length-set}
use Rattle.q_logic.specs.Prelude.{removed_from}
use Rattle.q_judge.specs.Scopes.{bounds_from}
use Rattle.q_judge.proofs.PrefixFacts.{no_binding-unbound}
use Rattle.q_judge.proofs.PrefixRemoval.{scoped-bounds, scoped-view, gone-counts, gone-stays, gone-joined, gone-low, gone-high, unlinked-other, unlinked-gone, count-down}
use Rattle.q_judge.proofs.scope.Scope.remove.Goals as goal

pub count_down-left-requires-clause-inside : goal.count_down-left-requires-clause-inside
count_down-left-requires-clause-inside c =
    let i = c.self.inside in
    let P = bounds_from i.bindings.items i.first (length i.bindings.items) in
    let e = sym c.binding_of.ensures ∙ c.in-Some.is in
    (gone-counts P i.first i.bindings.items i.counts.items c.self.invariant c.args.var c.in-Some.binding e).1

pub count_down-left-requires-clause-some : goal.count_down-left-requires-clause-some
count_down-left-requires-clause-some c =
    let i = c.self.inside in
    let P = bounds_from i.bindings.items i.first (length i.bindings.items) in
    let e = sym c.binding_of.ensures ∙ c.in-Some.is in
    (gone-counts P i.first i.bindings.items i.counts.items c.self.invariant c.args.var c.in-Some.binding e).0

pub join_blocks-requires-clause-low : goal.join_blocks-requires-clause-low
join_blocks-requires-clause-low c x y p q =
    let i = c.self.inside in
    let P = bounds_from i.bindings.items i.first (length i.bindings.items) in
    let s = c.in-Some.binding in
    let v = c.args.var in
    let e = sym c.binding_of.ensures ∙ c.in-Some.is in
    let n = c.link_before.new.bindings in
    let k = c.count_down-left.ensures.counts in
    let z = count-down i.counts.items c.count_down-left.new.counts.items s.rank (gone-counts P i.first i.bindings.items i.counts.items c.self.invariant v s e).1 k ∙ sym c.count_down-left.ensures.left ∙ c.if-left-eq0.true in
    rw c.replace.ensures.items (gone-low P i.first i.bindings.items i.counts.items c.self.invariant v s e (set n.items v None)
    (unlinked-other i.bindings.items c.link_after.new.bindings.items n.items v s c.link_after.ensures.bindings c.link_before.ensures.bindings)
    (unlinked-gone i.bindings.items c.link_after.new.bindings.items n.items v s)
    c.link_after.new.first c.count_down-left.new.counts.items c.link_after.ensures.first k z x y p q
    (let l = length-set n.items v None in omega (arith, l, c.len.ensures.value, c.len.ensures.few, c.link_before.ensures.len, c.link_after.ensures.len)))

pub join_blocks-requires-clause-high : goal.join_blocks-requires-clause-high
join_blocks-requires-clause-high c x y p q =
    let i = c.self.inside in
    let P = bounds_from i.bindings.items i.first (length i.bindings.items) in
    let s = c.in-Some.binding in
    let v = c.args.var in
    let e = sym c.binding_of.ensures ∙ c.in-Some.is in
    let n = c.link_before.new.bindings in
    let k = c.count_down-left.ensures.counts in
    let z = count-down i.counts.items c.count_down-left.new.counts.items s.rank (gone-counts P i.first i.bindings.items i.counts.items c.self.invariant v s e).1 k ∙ sym c.count_down-left.ensures.left ∙ c.if-left-eq0.true in
    rw c.replace.ensures.items (gone-high P i.first i.bindings.items i.counts.items c.self.invariant v s e (set n.items v None)
    (unlinked-other i.bindings.items c.link_after.new.bindings.items n.items v s c.link_after.ensures.bindings c.link_before.ensures.bindings)
    (unlinked-gone i.bindings.items c.link_after.new.bindings.items n.items v s)
    c.link_after.new.first c.count_down-left.new.counts.items c.link_after.ensures.first k z x y p q
    (let l = length-set n.items v None in omega (arith, l, c.len.ensures.value, c.len.ensures.few, c.link_before.ensures.len, c.link_after.ensures.len)))

pub invariant_of-self : goal.invariant_of-self
invariant_of-self c =
    let i = c.self.inside in
    let P = bounds_from i.bindings.items i.first (length i.bindings.items) in
    let s = c.in-Some.binding in
    let v = c.args.var in
    let e = sym c.binding_of.ensures ∙ c.in-Some.is in
    let n = c.link_before.new.bindings in
    let k = c.count_down-left.ensures.counts in
    let z = count-down i.counts.items c.count_down-left.new.counts.items s.rank (gone-counts P i.first i.bindings.items i.counts.items c.self.invariant v s e).1 k ∙ sym c.count_down-left.ensures.left ∙ c.if-left-eq0.true in
    scoped-view (removed_from v P) c.link_after.new.first c.join_blocks.new.bindings.items c.join_blocks.new.counts.items
    (gone-joined P i.first i.bindings.items i.counts.items c.self.invariant v s e (set n.items v None)
    (unlinked-other i.bindings.items c.link_after.new.bindings.items n.items v s c.link_after.ensures.bindings c.link_before.ensures.bindings)
    (unlinked-gone i.bindings.items c.link_after.new.bindings.items n.items v s)
    c.link_after.new.first c.count_down-left.new.counts.items c.link_after.ensures.first k z
    c.join_blocks.new.bindings.items c.join_blocks.new.counts.items (rw c.replace.ensures.items at c.join_blocks.ensures.none) (rw c.replace.ensures.items at c.join_blocks.ensures.joined))

pub invariant_of-self-else-left-eq0 : goal.invariant_of-self-else-left-eq0
invariant_of-self-else-left-eq0 c =
    let i = c.self.inside in
    let P = bounds_from i.bindings.items i.first (length i.bindings.items) in
    let s = c.in-Some.binding in
    let v = c.args.var in
    let e = sym c.binding_of.ensures ∙ c.in-Some.is in
    let n = c.link_before.new.bindings in
    let k = c.count_down-left.ensures.counts in
    let z = count-down i.counts.items c.count_down-left.new.counts.items s.rank (gone-counts P i.first i.bindings.items i.counts.items c.self.invariant v s e).1 k ∙ sym c.count_down-left.ensures.left in
    rw c.replace.ensures.items (scoped-view (removed_from v P) c.link_after.new.first (set n.items v None) c.count_down-left.new.counts.items
    (gone-stays P i.first i.bindings.items i.counts.items c.self.invariant v s e (set n.items v None)
    (unlinked-other i.bindings.items c.link_after.new.bindings.items n.items v s c.link_after.ensures.bindings c.link_before.ensures.bindings)
    (unlinked-gone i.bindings.items c.link_after.new.bindings.items n.items v s)
    c.link_after.new.first c.count_down-left.new.counts.items c.link_after.ensures.first k (λ h. c.if-left-eq0.false (sym z ∙ h))))

pub returns-then-left-eq0 : goal.returns-then-left-eq0
returns-then-left-eq0 c =
    let i = c.self.inside in
    let P = bounds_from i.bindings.items i.first (length i.bindings.items) in
    let s = c.in-Some.binding in
    let v = c.args.var in
    let e = sym c.binding_of.ensures ∙ c.in-Some.is in
    let n = c.link_before.new.bindings in
    let k = c.count_down-left.ensures.counts in
    let z = count-down i.counts.items c.count_down-left.new.counts.items s.rank (gone-counts P i.first i.bindings.items i.counts.items c.self.invariant v s e).1 k ∙ sym c.count_down-left.ensures.left ∙ c.if-left-eq0.true in
    rw (← c.self.view_is) (scoped-bounds (removed_from v P) c.link_after.new.first c.join_blocks.new.bindings.items c.join_blocks.new.counts.items
    (gone-joined P i.first i.bindings.items i.counts.items c.self.invariant v s e (set n.items v None)
    (unlinked-other i.bindings.items c.link_after.new.bindings.items n.items v s c.link_after.ensures.bindings c.link_before.ensures.bindings)
    (unlinked-gone i.bindings.items c.link_after.new.bindings.items n.items v s)
    c.link_after.new.first c.count_down-left.new.counts.items c.link_after.ensures.first k z
    c.join_blocks.new.bindings.items c.join_blocks.new.counts.items (rw c.replace.ensures.items at c.join_blocks.ensures.none) (rw c.replace.ensures.items at c.join_blocks.ensures.joined)))

pub returns-else-left-eq0 : goal.returns-else-left-eq0
returns-else-left-eq0 c =
    let i = c.self.inside in
    let P = bounds_from i.bindings.items i.first (length i.bindings.items) in
    let s = c.in-Some.binding in
    let v = c.args.var in
    let e = sym c.binding_of.ensures ∙ c.in-Some.is in
    let n = c.link_before.new.bindings in
    let k = c.count_down-left.ensures.counts in
    let z = count-down i.counts.items c.count_down-left.new.counts.items s.rank (gone-counts P i.first i.bindings.items i.counts.items c.self.invariant v s e).1 k ∙ sym c.count_down-left.ensures.left in
    rw (← c.self.view_is, c.replace.ensures.items) (scoped-bounds (removed_from v P) c.link_after.new.first (set n.items v None) c.count_down-left.new.counts.items
    (gone-stays P i.first i.bindings.items i.counts.items c.self.invariant v s e (set n.items v None)
    (unlinked-other i.bindings.items c.link_after.new.bindings.items n.items v s c.link_after.ensures.bindings c.link_before.ensures.bindings)
    (unlinked-gone i.bindings.items c.link_after.new.bindings.items n.items v s)
    c.link_after.new.first c.count_down-left.new.counts.items c.link_after.ensures.first k (λ h. c.if-left-eq0.false (sym z ∙ h))))

pub returns-in_default : goal.returns-in_default
returns-in_default c =
    let i = c.self.inside in
    let P = bounds_from i.bindings.items i.first (length i.bindings.items) in
    let h = rw (← c.self.view_is) at c.requires in
    let e = sym c.binding_of.ensures ∙ c.in_default.is in
    absurd (true≢false (sym h ∙ no_binding-unbound P i.first i.bindings.items i.counts.items c.self.invariant c.args.var e))
