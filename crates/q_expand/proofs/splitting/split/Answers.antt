use Rattle.std.proofs.Common.{◌≡◌, ◌∙◌, ◌∷◌, [], ℕ, List, sym, ap, subst}
use Rattle.std.proofs.lemmas.Option.{same_Some}
use Rattle.q_logic.specs.Prelude.{Clause, insert, positive, first_of, ProofStep, add, delete}
use Rattle.q_expand.specs.declared.splitting.Part.{Part}
use Rattle.q_expand.specs.declared.splitting.Part.TheVariants.{Turns, Splits}
use Rattle.q_expand.specs.Tracks.{CanTake, HasTaken}
use Rattle.q_expand.specs.Steps.{over_copies, split_steps, steps_for}
use Rattle.q_expand.proofs.StepQueue.{took-through, took-same, can-rest, can-first, can-same}
use Rattle.q_expand.proofs.splitting.split.Goals as goal

-- the steps of a clause, one by one
abbrev over : ℕ → List ℕ → ℕ → Clause → ProofStep
over u V t C = add (first_of (over_copies u V t C)) (over_copies u V t C)

abbrev with_u : ℕ → Clause → ProofStep
with_u u C = add (first_of (insert (positive u) C)) (insert (positive u) C)

abbrev gone : Clause → ProofStep
gone C = delete (first_of C) C

part-is : (u : ℕ) (V : List ℕ) (t : ℕ) (C : Clause) (p q : Part) → split_steps u V t C ≡ steps_for p u V t C → p ≡ q → split_steps u V t C ≡ steps_for q u V t C
part-is u V t C p q e f = e ∙ ap (λ (x : Part). steps_for x u V t C) f

pub remove-requires-clause-steps : goal.remove-requires-clause-steps
remove-requires-clause-steps c C e =
    let k = c.args.kernel.now in
    let D = c.lits.result.now in
    let q : D ≡ C = same_Some D C (sym (c.add_over.ensures.keeps c.args.c D c.lits.ensures.clause) ∙ e) in
    let t = can-same k (split_steps c.args.u.var c.args.order.now c.args.first D) (steps_for Turns c.args.u.var c.args.order.now c.args.first D) (c.in-Turns.ensures c.args.first) (c.requires.steps D c.lits.ensures.clause) in
    subst (λ (x : Clause). CanTake c.add_over.new.kernel (gone x ∷ [])) q
    (can-rest k c.add_over.new.kernel (over c.args.u.var c.args.order.now c.args.first D ∷ []) (gone D ∷ []) (c.add_over.ensures.taken D c.lits.ensures.clause) t)

pub add_with-requires-clause-steps : goal.add_with-requires-clause-steps
add_with-requires-clause-steps c C e =
    let k = c.args.kernel.now in
    let m = c.add_over-in-Splits.new.kernel in
    let D = c.lits.result.now in
    let q : D ≡ C = same_Some D C (sym (c.add_over-in-Splits.ensures.keeps c.args.c D c.lits.ensures.clause) ∙ e) in
    let t = can-same k (split_steps c.args.u.var c.args.order.now c.args.first D) (steps_for Splits c.args.u.var c.args.order.now c.args.first D) (c.in-Splits.ensures c.args.first) (c.requires.steps D c.lits.ensures.clause) in
    subst (λ (x : Clause). CanTake m (with_u c.args.u.var x ∷ [])) q
    (can-first m (with_u c.args.u.var D ∷ []) (gone D ∷ []) (can-rest k m (over c.args.u.var c.args.order.now c.args.first D ∷ []) (with_u c.args.u.var D ∷ gone D ∷ []) (c.add_over-in-Splits.ensures.taken D c.lits.ensures.clause) t))

pub remove-requires-in-Splits-clause-live : goal.remove-requires-in-Splits-clause-live
remove-requires-in-Splits-clause-live c =
    let D = c.lits.result.now in
    (D, c.add_with.ensures.keeps c.args.c D (c.add_over-in-Splits.ensures.keeps c.args.c D c.lits.ensures.clause))

pub remove-requires-in-Splits-clause-steps : goal.remove-requires-in-Splits-clause-steps
remove-requires-in-Splits-clause-steps c C e =
    let k = c.args.kernel.now in
    let m = c.add_over-in-Splits.new.kernel in
    let n = c.add_with.new.kernel in
    let D = c.lits.result.now in
    let h = c.add_over-in-Splits.ensures.keeps c.args.c D c.lits.ensures.clause in
    let q : D ≡ C = same_Some D C (sym (c.add_with.ensures.keeps c.args.c D h) ∙ e) in
    let t = can-same k (split_steps c.args.u.var c.args.order.now c.args.first D) (steps_for Splits c.args.u.var c.args.order.now c.args.first D) (c.in-Splits.ensures c.args.first) (c.requires.steps D c.lits.ensures.clause) in
    let two = took-through k m n (over c.args.u.var c.args.order.now c.args.first D ∷ []) (with_u c.args.u.var D ∷ []) (c.add_over-in-Splits.ensures.taken D c.lits.ensures.clause) (c.add_with.ensures.taken D h) in
    subst (λ (x : Clause). CanTake n (gone x ∷ [])) q
    (can-rest k n (over c.args.u.var c.args.order.now c.args.first D ∷ with_u c.args.u.var D ∷ []) (gone D ∷ []) two t)

pub returns-in-Turns-clause-taken : goal.returns-in-Turns-clause-taken
returns-in-Turns-clause-taken c C e =
    let k = c.args.kernel.now in
    let m = c.add_over.new.kernel in
    let n = c.remove.new.kernel in
    let D = c.lits.result.now in
    let q : D ≡ C = same_Some D C (sym c.lits.ensures.clause ∙ e) in
    let h = c.add_over.ensures.keeps c.args.c D c.lits.ensures.clause in
    subst (λ (x : Clause). HasTaken k n (split_steps c.args.u.var c.args.order.now c.args.first x)) q
    (took-same k n (steps_for Turns c.args.u.var c.args.order.now c.args.first D) (split_steps c.args.u.var c.args.order.now c.args.first D) (sym (c.in-Turns.ensures c.args.first))
    (took-through k m n (over c.args.u.var c.args.order.now c.args.first D ∷ []) (gone D ∷ []) (c.add_over.ensures.taken D c.lits.ensures.clause) (c.remove.ensures.taken D h)))

pub returns-in-Splits-clause-taken : goal.returns-in-Splits-clause-taken
returns-in-Splits-clause-taken c C e =
    let k = c.args.kernel.now in
    let m = c.add_over-in-Splits.new.kernel in
    let o = c.add_with.new.kernel in
    let n = c.remove-in-Splits.new.kernel in
    let D = c.lits.result.now in
    let q : D ≡ C = same_Some D C (sym c.lits.ensures.clause ∙ e) in
    let h = c.add_over-in-Splits.ensures.keeps c.args.c D c.lits.ensures.clause in
    let g = c.add_with.ensures.keeps c.args.c D h in
    let two = took-through k m o (over c.args.u.var c.args.order.now c.args.first D ∷ []) (with_u c.args.u.var D ∷ []) (c.add_over-in-Splits.ensures.taken D c.lits.ensures.clause) (c.add_with.ensures.taken D h) in
    subst (λ (x : Clause). HasTaken k n (split_steps c.args.u.var c.args.order.now c.args.first x)) q
    (took-same k n (steps_for Splits c.args.u.var c.args.order.now c.args.first D) (split_steps c.args.u.var c.args.order.now c.args.first D) (sym (c.in-Splits.ensures c.args.first))
    (took-through k o n (over c.args.u.var c.args.order.now c.args.first D ∷ with_u c.args.u.var D ∷ []) (gone D ∷ []) two (c.remove-in-Splits.ensures.taken D g)))

pub returns-in-Splits-clause-others : goal.returns-in-Splits-clause-others
returns-in-Splits-clause-others c d E a e = c.remove-in-Splits.ensures.others d E a (c.add_with.ensures.keeps d E (c.add_over-in-Splits.ensures.keeps d E e))
