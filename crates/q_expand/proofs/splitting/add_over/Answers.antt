use Rattle.std.proofs.Common.{◌≡◌, ◌≤◌, ◌∙◌, ◌+◌, Some, ap, sym, subst, ◌∷◌, [], length}
use Rattle.std.proofs.lemmas.Option.{same_Some}
use Rattle.q_logic.specs.Prelude.{Clause, first_of, add}
use Rattle.q_log.proofs.WritableRuns.{first-of}
use Rattle.q_kernel.specs.Prelude.{MayAdd, IsAdded}
use Rattle.q_expand.specs.Tracks.{HasTaken}
use Rattle.q_expand.specs.Steps.{over_copies}
use Rattle.q_expand.proofs.StepQueue.{add-may, add-took, add-keeps}
use Rattle.q_expand.proofs.ClauseParts.{over-ordered}
use Rattle.q_expand.proofs.splitting.add_over.Goals as goal

pub put_over-requires-clause-room : goal.put_over-requires-clause-room
put_over-requires-clause-room c =
    let e = same_Some c.requires.room.0 c.lits.result.now (sym c.requires.room.1 ∙ c.lits.ensures.clause) in
    subst (λ (D : Clause). length D + 1 ≤ Rattle.std.proofs.Common.vec_capacity c.args.spare.now) e c.requires.room.2

pub add_implied-requires : goal.add_implied-requires
add_implied-requires c =
    let D = c.lits.result.now in
    let W : Clause = over_copies c.args.u.var c.args.order.now c.args.first D in
    let v : c.deref.result.now ≡ W = c.deref.ensures.value ∙ c.put_over.ensures.items in
    subst (λ (x : Clause). MayAdd c.args.kernel.now (first_of x) x) (sym v) (add-may c.args.kernel.now (first_of W) W c.sound.ensures (over-ordered c.args.u.var c.args.order.now c.args.first D) (first-of W) (c.requires.steps D c.lits.ensures.clause))

pub returns-clause-taken : goal.returns-clause-taken
returns-clause-taken c C e =
    let D = c.lits.result.now in
    let q = same_Some D C (sym c.lits.ensures.clause ∙ e) in
    let W : Clause = over_copies c.args.u.var c.args.order.now c.args.first D in
    let v : c.deref.result.now ≡ W = c.deref.ensures.value ∙ c.put_over.ensures.items in
    subst (λ (x : Clause). HasTaken c.args.kernel.now c.add_implied.new.self (add (first_of (over_copies c.args.u.var c.args.order.now c.args.first x)) (over_copies c.args.u.var c.args.order.now c.args.first x) ∷ [])) q
    (add-took c.args.kernel.now c.add_implied.new.self (first_of W) W c.add_implied.result c.sound.ensures (over-ordered c.args.u.var c.args.order.now c.args.first D) (first-of W) (c.requires.steps D c.lits.ensures.clause)
    (subst (λ (x : Clause). IsAdded c.args.kernel.now c.add_implied.new.self (first_of x) x c.add_implied.result) v c.add_implied.ensures))

pub returns-clause-keeps : goal.returns-clause-keeps
returns-clause-keeps c = add-keeps c.args.kernel.now c.add_implied.new.self (first_of c.deref.result.now) c.deref.result.now c.add_implied.result c.add_implied.ensures
