use Rattle.std.proofs.Common.{◌≡◌, ◌≤◌, ◌+◌, ◌∙◌, ℕ, Some, length, refl, sym, subst}
use Rattle.std.proofs.lemmas.Option.{same_Some}
use Rattle.q_kernel.proofs.Basics.{get-has}
use Rattle.q_logic.specs.Prelude.{Clause, slot}
use Rattle.q_kernel.specs.Prelude.{slots}
use Rattle.q_expand.proofs.StepQueue.{took-none}
use Rattle.q_expand.proofs.WaitingClauses.{waits, waits-sooner, waits-apart, split-can, split-took}
use Rattle.q_expand.proofs.splitting.split_all.Goals as goal

pub loop-i-init : goal.loop-i-init
loop-i-init c = record { taken = took-none c.args.kernel.now; waiting = λ d C h e. e; room = refl }

pub split-requires-clause-room : goal.split-requires-clause-room
split-requires-clause-room c =
    let r = c.requires.room c.clause.result (get-has c.args.dependents.now.met c.loop-i.i c.clause.result c.clause.ensures) in
    (r.0, c.loop-i.invariant.waiting c.clause.result r.0 (waits c.args.dependents.now.met c.loop-i.i c.clause.result c.clause.ensures) r.1, subst (λ (n : ℕ). length r.0 + 1 ≤ n) (sym c.loop-i.invariant.room) r.2)

pub split-requires-clause-steps : goal.split-requires-clause-steps
split-requires-clause-steps c C e =
    let k = c.args.kernel.now in
    let r = c.requires.room c.clause.result (get-has c.args.dependents.now.met c.loop-i.i c.clause.result c.clause.ensures) in
    let w = c.loop-i.invariant.waiting c.clause.result r.0 (waits c.args.dependents.now.met c.loop-i.i c.clause.result c.clause.ensures) r.1 in
    let q : r.0 ≡ C = same_Some r.0 C (sym w ∙ e) in
    split-can c.args.u.var c.args.order.now c.args.first (slots k) c.args.dependents.now.met c.loop-i.i c.clause.result C c.clause.ensures (subst (λ (D : Clause). slot (slots k) c.clause.result ≡ Some D) q r.1) k c.loop-i.kernel c.requires.steps c.loop-i.invariant.taken

pub loop-i-preserved : goal.loop-i-preserved
loop-i-preserved c =
    let k = c.args.kernel.now in
    let r = c.requires.room c.clause.result (get-has c.args.dependents.now.met c.loop-i.i c.clause.result c.clause.ensures) in
    let w = c.loop-i.invariant.waiting c.clause.result r.0 (waits c.args.dependents.now.met c.loop-i.i c.clause.result c.clause.ensures) r.1 in
    record {
      taken = split-took c.args.u.var c.args.order.now c.args.first (slots k) c.args.dependents.now.met c.loop-i.i c.clause.result r.0 c.clause.ensures r.1 k c.loop-i.kernel c.split.new.kernel c.loop-i.invariant.taken (c.split.ensures.taken r.0 w);
      waiting = λ d C h e. c.split.ensures.others d C (waits-apart c.args.dependents.now.met c.loop-i.i c.clause.result d c.requires.apart c.clause.ensures h) (c.loop-i.invariant.waiting d C (waits-sooner c.args.dependents.now.met c.loop-i.i d h) e);
      room = c.split.ensures.room ∙ c.loop-i.invariant.room;
    }
