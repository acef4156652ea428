use Rattle.std.proofs.Common.{◌≡◌, ◌≤◌, ◌+◌, ℕ, List, sym, subst, arith}
use Rattle.std.specs.Vec.{vec_capacity}
use Rattle.q_logic.specs.Prelude.{Literal, negation, size_of, positive, resolve_all, clauses_at}
use Rattle.q_logic.specs.Targets as theory
use Rattle.q_kernel.specs.Prelude.{slots, formula_in}
use Rattle.q_kernel.proofs.TextCosts.{proper-var}
use Rattle.q_rule.proofs.TargetChanges.{swept-result}
use Rattle.q_eliminate.specs.Growing.{CanGrow, HasGrown}
use Rattle.q_eliminate.specs.Sides.{AreParents}
use Rattle.q_eliminate.proofs.PlanChange.{plan-bound, plan-parents, plan-others, plan-size, plan-room, plan-first, plan-second, plan-sweep, plan-changed}
use Rattle.q_eliminate.proofs.eliminate.take.Goals as goal

-- what holds of the literal and of both sides holds under the names that the code has for them
told : (Q : Literal → List ℕ → List ℕ → Type 0) (k l : Literal) (xs ys us vs : List ℕ) → k ≡ l → xs ≡ ys → us ≡ vs → Q l ys vs → Q k xs us
told Q k l xs ys us vs e f g h = subst (λ (m : Literal). Q m xs us) (sym e) (subst (λ (zs : List ℕ). Q l zs us) (sym f) (subst (λ (zs : List ℕ). Q l ys zs) (sym g) h))

untold : (Q : Literal → List ℕ → List ℕ → Type 0) (k l : Literal) (xs ys us vs : List ℕ) → k ≡ l → xs ≡ ys → us ≡ vs → Q k xs us → Q l ys vs
untold Q k l xs ys us vs e f g h = subst (λ (m : Literal). Q m ys vs) e (subst (λ (zs : List ℕ). Q k zs vs) f (subst (λ (zs : List ℕ). Q k xs zs) g h))

pub new-lit-requires-clause-positive : goal.new-lit-requires-clause-positive
new-lit-requires-clause-positive c = (proper-var (formula_in c.args.kernel.now) c.args.x c.sound.ensures.proper (plan-bound c.requires.applies.0 c.args.kernel.now c.args.x c.args.plan.now c.args.search.now.sides c.requires.applies.1 c.requires.plan c.requires.sides)).0

pub new-lit-requires-clause-small : goal.new-lit-requires-clause-small
new-lit-requires-clause-small c = (proper-var (formula_in c.args.kernel.now) c.args.x c.sound.ensures.proper (plan-bound c.requires.applies.0 c.args.kernel.now c.args.x c.args.plan.now c.args.search.now.sides c.requires.applies.1 c.requires.plan c.requires.sides)).1

pub add_resolvents-requires-clause-ids : goal.add_resolvents-requires-clause-ids
add_resolvents-requires-clause-ids c =
    let k = c.args.kernel.now in
    told (λ l xs us. AreParents (slots k) l xs) c.new-lit.result (positive c.args.x) c.deref.result.now c.args.search.now.sides.positive.items c.deref-2.result.now c.args.search.now.sides.negative.items c.new-lit.ensures c.deref.ensures.value c.deref-2.ensures.value
    (plan-parents c.requires.applies.0 k c.args.x c.args.plan.now c.args.search.now.sides c.requires.applies.1 c.requires.plan c.requires.sides)

pub add_resolvents-requires-clause-others : goal.add_resolvents-requires-clause-others
add_resolvents-requires-clause-others c =
    let k = c.args.kernel.now in
    told (λ l xs us. AreParents (slots k) (negation l) us) c.new-lit.result (positive c.args.x) c.deref.result.now c.args.search.now.sides.positive.items c.deref-2.result.now c.args.search.now.sides.negative.items c.new-lit.ensures c.deref.ensures.value c.deref-2.ensures.value
    (plan-others c.requires.applies.0 k c.args.x c.args.plan.now c.args.search.now.sides c.requires.applies.1 c.requires.plan c.requires.sides)

pub add_resolvents-requires-clause-buffer : goal.add_resolvents-requires-clause-buffer
add_resolvents-requires-clause-buffer c =
    let k = c.args.kernel.now in
    told (λ l xs us. size_of (clauses_at (slots k) xs) + size_of (clauses_at (slots k) us) ≤ vec_capacity c.args.search.now.resolvent) c.new-lit.result (positive c.args.x) c.deref.result.now c.args.search.now.sides.positive.items c.deref-2.result.now c.args.search.now.sides.negative.items c.new-lit.ensures c.deref.ensures.value c.deref-2.ensures.value
    (let e = plan-size c.requires.applies.0 k c.args.x c.args.plan.now c.args.search.now.sides c.requires.applies.1 c.requires.plan c.requires.sides in let b = c.requires.buffer in omega arith)

pub add_resolvents-requires-clause-room : goal.add_resolvents-requires-clause-room
add_resolvents-requires-clause-room c =
    let k = c.args.kernel.now in
    told (λ l xs us. CanGrow k (resolve_all l (clauses_at (slots k) xs) (clauses_at (slots k) us))) c.new-lit.result (positive c.args.x) c.deref.result.now c.args.search.now.sides.positive.items c.deref-2.result.now c.args.search.now.sides.negative.items c.new-lit.ensures c.deref.ensures.value c.deref-2.ensures.value
    (plan-room c.requires.applies.0 k c.args.x c.args.plan.now c.args.search.now.sides c.requires.applies.1 c.requires.plan c.requires.sides c.requires.limits c.requires.room)

pub delete_sides-requires-clause-first : goal.delete_sides-requires-clause-first
delete_sides-requires-clause-first c =
    let k = c.args.kernel.now in
    let n = c.add_resolvents.new.kernel in
    let g = untold (λ l xs us. HasGrown k n (resolve_all l (clauses_at (slots k) xs) (clauses_at (slots k) us))) c.new-lit.result (positive c.args.x) c.deref.result.now c.args.search.now.sides.positive.items c.deref-2.result.now c.args.search.now.sides.negative.items c.new-lit.ensures c.deref.ensures.value c.deref-2.ensures.value c.add_resolvents.ensures in
    plan-first c.requires.applies.0 k c.args.x c.args.plan.now c.args.search.now.sides c.requires.applies.1 c.requires.plan c.requires.sides n g

pub delete_sides-requires-clause-second : goal.delete_sides-requires-clause-second
delete_sides-requires-clause-second c =
    let k = c.args.kernel.now in
    let n = c.add_resolvents.new.kernel in
    let g = untold (λ l xs us. HasGrown k n (resolve_all l (clauses_at (slots k) xs) (clauses_at (slots k) us))) c.new-lit.result (positive c.args.x) c.deref.result.now c.args.search.now.sides.positive.items c.deref-2.result.now c.args.search.now.sides.negative.items c.new-lit.ensures c.deref.ensures.value c.deref-2.ensures.value c.add_resolvents.ensures in
    plan-second c.requires.applies.0 k c.args.x c.args.plan.now c.args.search.now.sides c.requires.applies.1 c.requires.plan c.requires.sides n g

pub delete_sides-requires-clause-bytes : goal.delete_sides-requires-clause-bytes
delete_sides-requires-clause-bytes c =
    let k = c.args.kernel.now in
    let n = c.add_resolvents.new.kernel in
    let g = untold (λ l xs us. HasGrown k n (resolve_all l (clauses_at (slots k) xs) (clauses_at (slots k) us))) c.new-lit.result (positive c.args.x) c.deref.result.now c.args.search.now.sides.positive.items c.deref-2.result.now c.args.search.now.sides.negative.items c.new-lit.ensures c.deref.ensures.value c.deref-2.ensures.value c.add_resolvents.ensures in
    plan-sweep c.requires.applies.0 k c.args.x c.args.plan.now c.args.search.now.sides c.requires.applies.1 c.requires.plan c.requires.sides n g c.requires.room

pub returns : goal.returns
returns c =
    let k = c.args.kernel.now in
    let n = c.add_resolvents.new.kernel in
    let g = untold (λ l xs us. HasGrown k n (resolve_all l (clauses_at (slots k) xs) (clauses_at (slots k) us))) c.new-lit.result (positive c.args.x) c.deref.result.now c.args.search.now.sides.positive.items c.deref-2.result.now c.args.search.now.sides.negative.items c.new-lit.ensures c.deref.ensures.value c.deref-2.ensures.value c.add_resolvents.ensures in
    let h = plan-changed c.requires.applies.0 k c.args.x c.args.plan.now c.args.search.now.sides c.requires.applies.1 c.requires.plan c.requires.sides n g c.delete_sides.new.kernel c.delete_sides.ensures in
    swept-result k c.delete_sides.new.kernel c.sweep_now.new.self (theory.eliminate c.args.x) h c.sweep_now.ensures.formula c.sweep_now.ensures.led
