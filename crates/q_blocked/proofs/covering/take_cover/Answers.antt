use Rattle.std.proofs.Common.{◌≡◌, ◌≤◌, ◌<◌, ◌∙◌, List, sym, ap, subst, length, get_or, take, arith}
use Rattle.q_logic.specs.Prelude.{Literal, Clause, clause_of}
use Rattle.q_blocked.specs.declared.plan.Stage.{Stage}
use Rattle.q_blocked.specs.Plans.{front, MayReplace, IsReplaced}
use Rattle.q_blocked.proofs.CoverStages.{staged-begun, may-replace, staged-more, may-leave_last, changed-cover}
use Rattle.q_blocked.proofs.covering.take_cover.Goals as goal

pub loop-stage-init : goal.loop-stage-init
loop-stage-init c = record {
  staged = staged-begun c.args.kernel.now c.args.c c.args.plan.now c.requires.plan c.requires.room;
  capacity = c.requires.capacity;
}

pub replace-id-requires : goal.replace-id-requires
replace-id-requires c =
    let p = c.args.plan.now in
    let e = c.deref-stage-items.ensures.value in
    let s = c.stage-item.result in
    let more : c.loop-stage.stage-index < length p.stages.items = subst (λ (xs : List Stage). c.loop-stage.stage-index < length xs) e c.loop-stage-test.true in
    let is : s ≡ get_or p.stages.items c.loop-stage.stage-index s = subst (λ (xs : List Stage). s ≡ get_or xs c.loop-stage.stage-index s) e c.stage-item.is in
    let w : c.deref-in-loop-stage.result.now ≡ front p.lits.items s.to = c.deref-in-loop-stage.ensures.value ∙ (c.set_clause.ensures.clause ∙ ap (λ (xs : List Literal). clause_of (take s.to xs)) c.deref.ensures.value) in
    subst (λ (T : Clause). MayReplace c.loop-stage.kernel c.loop-stage.id T s.on) (sym w)
    (may-replace c.args.kernel.now c.loop-stage.kernel c.args.c c.loop-stage.id p c.loop-stage.stage-index s more is c.loop-stage.invariant.staged c.requires.limits (c.requires.plan.0, c.requires.plan.1))

pub loop-stage-preserved : goal.loop-stage-preserved
loop-stage-preserved c =
    let p = c.args.plan.now in
    let e = c.deref-stage-items.ensures.value in
    let s = c.stage-item.result in
    let more : c.loop-stage.stage-index < length p.stages.items = subst (λ (xs : List Stage). c.loop-stage.stage-index < length xs) e c.loop-stage-test.true in
    let is : s ≡ get_or p.stages.items c.loop-stage.stage-index s = subst (λ (xs : List Stage). s ≡ get_or xs c.loop-stage.stage-index s) e c.stage-item.is in
    let w : c.deref-in-loop-stage.result.now ≡ front p.lits.items s.to = c.deref-in-loop-stage.ensures.value ∙ (c.set_clause.ensures.clause ∙ ap (λ (xs : List Literal). clause_of (take s.to xs)) c.deref.ensures.value) in
    record {
      staged = staged-more c.args.kernel.now c.loop-stage.kernel c.args.c c.loop-stage.id p c.loop-stage.stage-index s more is c.loop-stage.invariant.staged c.requires.limits (c.requires.plan.0, c.requires.plan.1) c.replace-id.new.kernel c.replace-id.result
          (subst (λ (T : Clause). IsReplaced c.loop-stage.kernel c.replace-id.new.kernel c.loop-stage.id T c.replace-id.result) w c.replace-id.ensures);
      capacity = let x = c.loop-stage.invariant.capacity in let y = c.set_clause.ensures.capacity in omega arith;
    }

pub delete-requires : goal.delete-requires
delete-requires c =
    let p = c.args.plan.now in
    let past : length p.stages.items ≤ c.loop-stage.stage-index = subst (λ (xs : List Stage). length xs ≤ c.loop-stage.stage-index) c.deref-stage-items.ensures.value c.loop-stage-test.false in
    may-leave_last c.args.kernel.now c.loop-stage.kernel c.args.c c.loop-stage.id p c.loop-stage.stage-index past c.loop-stage.invariant.staged

pub returns : goal.returns
returns c =
    let p = c.args.plan.now in
    let past : length p.stages.items ≤ c.loop-stage.stage-index = subst (λ (xs : List Stage). length xs ≤ c.loop-stage.stage-index) c.deref-stage-items.ensures.value c.loop-stage-test.false in
    changed-cover c.args.kernel.now c.loop-stage.kernel c.args.c c.loop-stage.id p c.loop-stage.stage-index past c.loop-stage.invariant.staged c.delete.new.kernel c.requires.limits (c.requires.plan.0, c.requires.plan.1) c.delete.ensures
