use Rattle.std.proofs.Common.{◌≡◌, ◌∙◌, true, false, sym, refl}
use Rattle.q_logic.specs.Prelude.{is_bound, is_existential}
use Rattle.q_logic.proofs.Common.{live-slot, is_bound-universal, test-false}
use Rattle.q_kernel.specs.Prelude.{slots}
use Rattle.q_blocked.specs.Targets.{target_of}
use Rattle.q_blocked.specs.declared.target.Target.TheVariants.{Blocked, BlockedForall}
use Rattle.q_blocked.specs.Searches.{IsOn}
use Rattle.q_rule.proofs.RuleSearch.{found-one}
use Rattle.q_blocked.proofs.BlockedSearch.{none-existential, none-universal}
use Rattle.q_blocked.proofs.find.target_on.Goals as goal
use Rattle.q_blocked.proofs.find.target_on.Goals.{then-is_existential+else-all_clash, else-is_existential+else-may_drop}

pub returns-then-all_clash : goal.returns-then-all_clash
returns-then-all_clash c =
    let k = c.args.kernel.now in
    let e : is_existential k.prefix c.args.l.var ≡ true = rw c.var.ensures.value at (sym c.is_existential.ensures ∙ c.if-is_existential.true) in
    found-one target_of k (IsOn c.args.c c.args.l) (Blocked c.args.c c.args.l) (refl, refl) (λ B. (c.args.set.now, c.requires.0, c.requires.1, e, c.all_clash.ensures.0 c.if-all_clash.true))

pub returns-then-may_drop : goal.returns-then-may_drop
returns-then-may_drop c =
    let k = c.args.kernel.now in
    let e : is_existential k.prefix c.args.l.var ≡ false = rw c.var.ensures.value at (sym c.is_existential.ensures ∙ c.if-is_existential.false) in
    let b : is_bound k.prefix c.args.l.var ≡ true = c.sound.ensures.proper.formula.closed c.args.set.now (live-slot (slots k) c.args.c c.args.set.now c.requires.0) c.args.l c.requires.1 in
    let r = c.may_drop.ensures.0 c.if-may_drop.true in
    found-one target_of k (IsOn c.args.c c.args.l) (BlockedForall c.args.c c.args.l) (refl, refl) (λ B. (c.args.set.now, c.requires.0, c.requires.1, is_bound-universal k.prefix c.args.l.var b e, r.0, r.1))

pub returns : goal.returns
returns c =
    let k = c.args.kernel.now in
    elim c.if-is_existential.branch [
      | then-is_existential+else-all_clash w ↦
          let e : is_existential k.prefix c.args.l.var ≡ true = rw c.var.ensures.value at (sym c.is_existential.ensures ∙ w.if-is_existential.true) in
          none-existential k c.args.c c.args.l c.args.set.now c.requires.0 e (λ a. test-false w.all_clash.result w.all_clash.ensures w.if-all_clash.false a)
      | else-is_existential+else-may_drop w ↦
          let e : is_existential k.prefix c.args.l.var ≡ false = rw c.var.ensures.value at (sym c.is_existential.ensures ∙ w.if-is_existential.false) in
          none-universal k c.args.c c.args.l c.args.set.now c.requires.0 e (λ n a. test-false w.may_drop.result w.may_drop.ensures w.if-may_drop.false (n, a))
    ]
