use Rattle.std.proofs.Common.{◌≡◌, ◌∙◌, ◌<◌, ◌+◌, ℕ, zero, suc, List, [], ◌∷◌, Some, set, get_or, length, refl, sym, ap, arith, true≢false}
use Rattle.std.proofs.lemmas.Result.{err_from_is_err_and}
use Rattle.q_logic.specs.Prelude.{insert_after}
use Rattle.q_logic.specs.declared.formulas.Quant.TheVariants.{Exists}
use Rattle.q_judge.specs.declared.bindings.Binding.{Binding}
use Rattle.q_judge.specs.Scopes.{bounds_from}
use Rattle.q_judge.proofs.PrefixFacts.{no_binding-existential}
use Rattle.q_judge.proofs.PrefixRemoval.{scoped-bounds, scoped-view, scoped-longer}
use Rattle.q_judge.proofs.FreshExistential.{come-counts, come-few, come-scoped, linked-other, linked-new}
use Rattle.q_judge.proofs.scope.Scope.insert_after.Goals as goal

any-default : (xs : List ℕ) (i d e : ℕ) → i < length xs → get_or xs i d ≡ get_or xs i e
any-default [] i d e h = absurd (omega arith)
any-default (x ∷ xs) zero d e h = refl
any-default (x ∷ xs) (suc i) d e h = any-default xs i d e (omega arith)

pub invariant_of-self : goal.invariant_of-self
invariant_of-self c =
    let i = c.self.inside in
    let P = bounds_from i.bindings.items i.first (length i.bindings.items) in
    scoped-view P i.first c.make_room.new.self.items i.counts.items (scoped-longer P i.first i.bindings.items c.make_room.new.self.items i.counts.items c.self.invariant c.make_room.ensures.same)

pub returns-in_err-make_room-clause-err : goal.returns-in_err-make_room-clause-err
returns-in_err-make_room-clause-err c =
    let i = c.self.inside in
    let P = bounds_from i.bindings.items i.first (length i.bindings.items) in
    let r = err_from_is_err_and c.from_residual.result c.from_residual.ensures.1 in
    rw (r.1, ← c.self.view_is) (scoped-bounds P i.first c.make_room.new.self.items i.counts.items (scoped-longer P i.first i.bindings.items c.make_room.new.self.items i.counts.items c.self.invariant c.make_room.ensures.same))

pub invariant_of-self-in_default : goal.invariant_of-self-in_default
invariant_of-self-in_default c =
    let i = c.self.inside in
    let P = bounds_from i.bindings.items i.first (length i.bindings.items) in
    scoped-view P i.first c.make_room.new.self.items i.counts.items (scoped-longer P i.first i.bindings.items c.make_room.new.self.items i.counts.items c.self.invariant c.make_room.ensures.same)

pub returns-in_default-clause-ok : goal.returns-in_default-clause-ok
returns-in_default-clause-ok c =
    let i = c.self.inside in
    let P = bounds_from i.bindings.items i.first (length i.bindings.items) in
    let h = rw (← c.self.view_is) at c.requires.there in
    let e = sym (c.make_room.ensures.same c.args.w) ∙ sym c.binding_of.ensures ∙ c.in_default.is in
    absurd (true≢false (sym h ∙ no_binding-existential P i.first i.bindings.items i.counts.items c.self.invariant c.args.w e))

pub index_mut-requires : goal.index_mut-requires
index_mut-requires c =
    let i = c.self.inside in
    let P = bounds_from i.bindings.items i.first (length i.bindings.items) in
    let h = rw (← c.self.view_is) at c.requires.there in
    let n = rw (← c.self.view_is) at c.requires.absent in
    let e = sym (c.make_room.ensures.same c.args.w) ∙ sym c.binding_of.ensures ∙ c.in-Some.is in
    let l = come-counts P i.first i.bindings.items i.counts.items c.self.invariant c.args.w c.args.v n h c.in-Some.binding e in
    omega (arith, l, i.counts.ok.0)

pub overflow_add-index_mut : goal.overflow_add-index_mut
overflow_add-index_mut c =
    let i = c.self.inside in
    let P = bounds_from i.bindings.items i.first (length i.bindings.items) in
    let h = rw (← c.self.view_is) at c.requires.there in
    let n = rw (← c.self.view_is) at c.requires.absent in
    let e = sym (c.make_room.ensures.same c.args.w) ∙ sym c.binding_of.ensures ∙ c.in-Some.is in
    let l = come-counts P i.first i.bindings.items i.counts.items c.self.invariant c.args.w c.args.v n h c.in-Some.binding e in
    let f = come-few P i.first i.bindings.items i.counts.items c.self.invariant c.args.w c.args.v n h c.in-Some.binding e in
    let d = c.index_mut.ensures.value ∙ any-default i.counts.items c.in-Some.binding.rank c.index_mut.result.now 0 l in
    omega (arith, f, d, c.len.ensures.value, c.len.ensures.few, c.make_room.ensures.kept.length)

pub invariant_of-self-in-Some : goal.invariant_of-self-in-Some
invariant_of-self-in-Some c =
    let i = c.self.inside in
    let P = bounds_from i.bindings.items i.first (length i.bindings.items) in
    let s = c.in-Some.binding in
    let w = c.args.w in
    let v = c.args.v in
    let m = c.make_room.new.self.items in
    let new : Binding = record { rank = s.rank; quant = Exists; before = Some w; after = s.after } in
    let h = rw (← c.self.view_is) at c.requires.there in
    let n = rw (← c.self.view_is) at c.requires.absent in
    let a = scoped-longer P i.first i.bindings.items m i.counts.items c.self.invariant c.make_room.ensures.same in
    let e = sym c.binding_of.ensures ∙ c.in-Some.is in
    let l = come-counts P i.first m i.counts.items a w v n h s e in
    let d = c.index_mut.ensures.value ∙ any-default i.counts.items s.rank c.index_mut.result.now 0 l in
    let in_room : v < length c.link_before.new.bindings.items = omega (arith, c.in_ok-make_room.ensures.room.0, c.link_before.ensures.len, c.link_after.ensures.len) in
    rw (c.put.ensures.items, c.link_after.ensures.first)
    (scoped-view (insert_after w v P) i.first (set c.link_before.new.bindings.items v (Some new)) (set i.counts.items s.rank (c.index_mut.result.now + 1))
    (come-scoped P i.first m i.counts.items a w v n h s e (set c.link_before.new.bindings.items v (Some new))
    (linked-other m c.link_after.new.bindings.items c.link_before.new.bindings.items w v s new c.link_after.ensures.bindings c.link_before.ensures.bindings)
    (linked-new m c.link_after.new.bindings.items c.link_before.new.bindings.items w v s new in_room)
    (set i.counts.items s.rank (c.index_mut.result.now + 1)) (ap (λ (k : ℕ). set i.counts.items s.rank (k + 1)) d)))

pub returns-in-Some-clause-ok : goal.returns-in-Some-clause-ok
returns-in-Some-clause-ok c =
    let i = c.self.inside in
    let P = bounds_from i.bindings.items i.first (length i.bindings.items) in
    let s = c.in-Some.binding in
    let w = c.args.w in
    let v = c.args.v in
    let m = c.make_room.new.self.items in
    let new : Binding = record { rank = s.rank; quant = Exists; before = Some w; after = s.after } in
    let h = rw (← c.self.view_is) at c.requires.there in
    let n = rw (← c.self.view_is) at c.requires.absent in
    let a = scoped-longer P i.first i.bindings.items m i.counts.items c.self.invariant c.make_room.ensures.same in
    let e = sym c.binding_of.ensures ∙ c.in-Some.is in
    let l = come-counts P i.first m i.counts.items a w v n h s e in
    let d = c.index_mut.ensures.value ∙ any-default i.counts.items s.rank c.index_mut.result.now 0 l in
    let in_room : v < length c.link_before.new.bindings.items = omega (arith, c.in_ok-make_room.ensures.room.0, c.link_before.ensures.len, c.link_after.ensures.len) in
    rw (← c.self.view_is, c.put.ensures.items, c.link_after.ensures.first)
    (scoped-bounds (insert_after w v P) i.first (set c.link_before.new.bindings.items v (Some new)) (set i.counts.items s.rank (c.index_mut.result.now + 1))
    (come-scoped P i.first m i.counts.items a w v n h s e (set c.link_before.new.bindings.items v (Some new))
    (linked-other m c.link_after.new.bindings.items c.link_before.new.bindings.items w v s new c.link_after.ensures.bindings c.link_before.ensures.bindings)
    (linked-new m c.link_after.new.bindings.items c.link_before.new.bindings.items w v s new in_room)
    (set i.counts.items s.rank (c.index_mut.result.now + 1)) (ap (λ (k : ℕ). set i.counts.items s.rank (k + 1)) d)))
