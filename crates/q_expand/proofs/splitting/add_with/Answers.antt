use Rattle.std.proofs.Common.{◌≡◌, ◌≤◌, ◌∙◌, ◌+◌, Some, ap, sym, subst, ◌∷◌, [], length}
use Rattle.std.proofs.lemmas.Option.{same_Some}
use Rattle.q_logic.specs.Prelude.{Clause, Literal, insert, first_of, positive, add}
use Rattle.q_log.proofs.WritableRuns.{first-of}
use Rattle.q_kernel.specs.Prelude.{MayAdd, IsAdded}
use Rattle.q_expand.specs.Tracks.{HasTaken}
use Rattle.q_expand.proofs.StepQueue.{add-may, add-took, add-keeps}
use Rattle.q_expand.proofs.ClauseParts.{positive-of}
use Rattle.q_expand.proofs.splitting.add_with.Goals as goal

pub put_with-requires-clause-room : goal.put_with-requires-clause-room
put_with-requires-clause-room c =
    let e = same_Some c.requires.room.0 c.lits.result.now (sym c.requires.room.1 ∙ c.lits.ensures.clause) in
    subst (λ (D : Clause). length D + 1 ≤ Rattle.std.proofs.Common.vec_capacity c.args.spare.now) e c.requires.room.2

pub add_implied-requires : goal.add_implied-requires
add_implied-requires c =
    let D = c.lits.result.now in
    let W : Clause = insert (positive c.args.u.var) D in
    let v : c.deref.result.now ≡ W = c.deref.ensures.value ∙ (c.put_with.ensures.items ∙ ap (λ (l : Literal). insert l D) (positive-of c.args.u c.requires.sign)) in
    subst (λ (x : Clause). MayAdd c.args.kernel.now (first_of x) x) (sym v) (add-may c.args.kernel.now (first_of W) W c.sound.ensures (Rattle.q_logic.proofs.ClauseSets.insert-ordered (positive c.args.u.var) D c.lits.ensures.ordered) (first-of W) (c.requires.steps D c.lits.ensures.clause))

pub returns-clause-taken : goal.returns-clause-taken
returns-clause-taken c C e =
    let D = c.lits.result.now in
    let q = same_Some D C (sym c.lits.ensures.clause ∙ e) in
    let W : Clause = insert (positive c.args.u.var) D in
    let v : c.deref.result.now ≡ W = c.deref.ensures.value ∙ (c.put_with.ensures.items ∙ ap (λ (l : Literal). insert l D) (positive-of c.args.u c.requires.sign)) in
    subst (λ (x : Clause). HasTaken c.args.kernel.now c.add_implied.new.self (add (first_of (insert (positive c.args.u.var) x)) (insert (positive c.args.u.var) x) ∷ [])) q
    (add-took c.args.kernel.now c.add_implied.new.self (first_of W) W c.add_implied.result c.sound.ensures (Rattle.q_logic.proofs.ClauseSets.insert-ordered (positive c.args.u.var) D c.lits.ensures.ordered) (first-of W) (c.requires.steps D c.lits.ensures.clause)
    (subst (λ (x : Clause). IsAdded c.args.kernel.now c.add_implied.new.self (first_of x) x c.add_implied.result) v c.add_implied.ensures))

pub returns-clause-keeps : goal.returns-clause-keeps
returns-clause-keeps c = add-keeps c.args.kernel.now c.add_implied.new.self (first_of c.deref.result.now) c.deref.result.now c.add_implied.result c.add_implied.ensures
