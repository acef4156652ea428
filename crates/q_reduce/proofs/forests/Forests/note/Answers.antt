use Rattle.std.proofs.Common.{List, [], ◌∷◌, sym, subst, inl, inr}
use Rattle.q_logic.specs.Prelude.{IsIn}
use Rattle.q_logic.proofs.Common.{IsIn-append}
use Rattle.q_kernel.specs.Prelude.{slots}
use Rattle.q_reduce.specs.Forests.{ForestMap, IsForest}
use Rattle.q_reduce.proofs.forests.Forests.note.Goals as goal
use Rattle.q_reduce.proofs.forests.Forests.note.Goals.{then-branch+in_ok-push, else-branch}

pub returns-then-self-patience : goal.returns-then-self-patience
returns-then-self-patience c F m = let all = rw (← c.self.view_is) at c.requires.right in all F m

pub returns-in_err-build : goal.returns-in_err-build
returns-in_err-build c F m = let all = rw (← c.self.view_is) at c.requires.right in all F (c.free-forest.ensures F m)

pub returns-in_err-push : goal.returns-in_err-push
returns-in_err-push c F m =
    let all = rw (← c.self.view_is) at c.requires.right in
    all F (c.free-forest.ensures F (subst (λ (Fs : List ForestMap). IsIn F Fs) c.self-2.view_is (subst (λ (Fs : List ForestMap). IsIn F Fs) c.in_err-push.ensures.items m)))

pub returns : goal.returns
returns c F m =
    let all = rw (← c.self.view_is) at c.requires.right in
    let old = λ (i : IsIn F c.self-2.inside.forests.items). all F (c.free-forest.ensures F (subst (λ (Fs : List ForestMap). IsIn F Fs) c.self-2.view_is i)) in
    elim c.if-branch.branch [
      | then-branch+in_ok-push w ↦ elim (IsIn-append F c.self-2.inside.forests.items (c.build.new.self ∷ []) (subst (λ (Fs : List ForestMap). IsIn F Fs) w.in_ok-push.ensures.items (rw w.self-inside-is at m))) [
        | inl a ↦ old a
        | inr b ↦ elim b [
          | inl e ↦ subst (λ (G : ForestMap). IsForest c.args.kernel.now.prefix (slots c.args.kernel.now) G) (sym e) (c.in_ok-build.ensures w.if-branch.true)
          | inr none ↦ absurd none
        ]
      ]
      | else-branch w ↦ old (rw w.self-inside-is at m)
    ]
