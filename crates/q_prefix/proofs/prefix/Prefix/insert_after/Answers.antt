use Rattle.std.proofs.Common.{◌≡◌, ◌<◌, sym, ◌∙◌, ap, subst, arith, ℕ, true, false, true≢false, List, length, set, inl, inr}
use Rattle.std.proofs.lemmas.Option.{same_Some}
use Rattle.std.proofs.lemmas.Bool.{cases_eq}
use Rattle.q_logic.specs.declared.formulas.Quant.{Quant}
use Rattle.q_logic.specs.declared.formulas.Bound.{Bound}
use Rattle.q_logic.specs.Prelude.{is_bound}
use Rattle.q_arena.specs.Prelude.{Has, list_at}
use Rattle.q_prefix.specs.declared.marks.Mark.{Mark}
use Rattle.q_prefix.specs.Order.{FlatPrefix, IsPrefix, mark_at, bound_of, bounds_of, with_after}
use Rattle.q_arena.proofs.ArenaView.{length-set'}
use Rattle.q_prefix.proofs.ListedBounds.{has-bound, bound-has, quant-has}
use Rattle.q_prefix.proofs.PrefixChanges.{prefix-inserted, bounds-inserted, mark-set_here}
use Rattle.q_prefix.proofs.prefix.Prefix.insert_after.Goals as goal

pub insert_after-requires-clause-after : goal.insert_after-requires-clause-after
insert_after-requires-clause-after c =
    let marks = c.self.inside.marks.items in
    let vars = list_at c.self.inside.order 0 in
    has-bound marks vars c.args.w (subst (λ (p : FlatPrefix). is_bound p.bounds c.args.w ≡ true) (sym c.self.view_is) c.requires.present)

pub insert_after-requires-clause-fresh : goal.insert_after-requires-clause-fresh
insert_after-requires-clause-fresh c =
    let marks = c.self.inside.marks.items in
    let vars = list_at c.self.inside.order 0 in
    let fresh : Has vars c.args.v → ⊥ = λ h.
    let absent = subst (λ (p : FlatPrefix). is_bound p.bounds c.args.v ≡ false) (sym c.self.view_is) c.requires.absent in
    true≢false (sym (bound-has marks vars c.args.v h) ∙ absent) in
    λ m h. elim (cases_eq m 0) [
      | inl e ↦ fresh (subst (λ (k : ℕ). Has (list_at c.self.inside.order k) c.args.v) e h)
      | inr n ↦ subst (λ (xs : List ℕ). Has xs c.args.v) (c.self.invariant.others m (omega arith)) h
    ]

pub invariant_of-self : goal.invariant_of-self
invariant_of-self c =
    let marks = c.self.inside.marks.items in
    let vars = list_at c.self.inside.order 0 in
    let there = has-bound marks vars c.args.w (subst (λ (p : FlatPrefix). is_bound p.bounds c.args.w ≡ true) (sym c.self.view_is) c.requires.present) in
    let fresh : Has vars c.args.v → ⊥ = λ h.
    let absent = subst (λ (p : FlatPrefix). is_bound p.bounds c.args.v ≡ false) (sym c.self.view_is) c.requires.absent in
    true≢false (sym (bound-has marks vars c.args.v h) ∙ absent) in
    let vl : c.args.v < length marks = omega (arith, c.self.invariant.some, rw (← c.self.view_is) at c.requires.reserved) in
    let owners = ap length c.insert_after.ensures.owners ∙ length-set' c.self.inside.order.owners c.args.v 0 in
    subst (IsPrefix c.insert_after.new.self) (sym c.set_mark.ensures)
    (prefix-inserted c.self.inside.order c.insert_after.new.self marks c.args.v c.args.w c.mark_of-mark.result c.self.invariant c.insert_after.ensures.lists owners there fresh vl c.mark_of-mark.ensures)

pub returns-clause-bounds : goal.returns-clause-bounds
returns-clause-bounds c = λ q e.
    let marks = c.self.inside.marks.items in
    let vars = list_at c.self.inside.order 0 in
    let there = has-bound marks vars c.args.w (subst (λ (p : FlatPrefix). is_bound p.bounds c.args.w ≡ true) (sym c.self.view_is) c.requires.present) in
    let fresh : Has vars c.args.v → ⊥ = λ h.
    let absent = subst (λ (p : FlatPrefix). is_bound p.bounds c.args.v ≡ false) (sym c.self.view_is) c.requires.absent in
    true≢false (sym (bound-has marks vars c.args.v h) ∙ absent) in
    let vl : c.args.v < length marks = omega (arith, c.self.invariant.some, rw (← c.self.view_is) at c.requires.reserved) in
    let owners = ap length c.insert_after.ensures.owners ∙ length-set' c.self.inside.order.owners c.args.v 0 in
    let more = set marks c.args.v c.mark_of-mark.result in
    let here = mark-set_here marks c.args.v c.mark_of-mark.result vl in
    let quant : (mark_at marks c.args.w).quant ≡ q = same_Some (mark_at marks c.args.w).quant q (sym (quant-has marks vars c.args.w there) ∙ (rw (← c.self.view_is) at e)) in
    let mine : bound_of more c.args.v ≡ record { quant = q; var = c.args.v } = ap (λ (z : Quant). record { quant = z; var = c.args.v }) (ap (λ (k : Mark). k.quant) (here ∙ c.mark_of-mark.ensures) ∙ quant) in
    rw (← c.self.view_is)
    (ap (λ (ms : List Mark). bounds_of ms (list_at c.insert_after.new.self 0)) c.set_mark.ensures
    ∙ bounds-inserted c.self.inside.order c.insert_after.new.self marks c.args.v c.args.w c.mark_of-mark.result c.self.invariant c.insert_after.ensures.lists owners there fresh vl c.mark_of-mark.ensures
    ∙ ap (λ (x : Bound). with_after x c.args.w (bounds_of marks vars)) mine)
