use Rattle.std.proofs.Common.{◌∙◌, sym, subst}
use Rattle.std.proofs.lemmas.Option.{same_Some}
use Rattle.q_logic.specs.UsualBounds.{usual}
use Rattle.q_logic.specs.Prelude.{Clause, IsIn}
use Rattle.q_rule.proofs.TargetChanges.{change-clause}
use Rattle.q_blocked.proofs.BlockedSteps.{may-drop_blocked}
use Rattle.q_blocked.proofs.BlockedResults.{changed-blocked_forall}
use Rattle.q_blocked.proofs.blocked.take_blocked_forall.Goals as goal

pub drop_lit-requires : goal.drop_lit-requires
drop_lit-requires c =
    let k = c.args.kernel.now in
    let f = c.requires.fits usual in
    may-drop_blocked k c.args.c f.0 c.sound.ensures f.1 c.args.l f.2 f.3 f.4 f.5 (change-clause k c.args.c f.0 f.1 c.requires.bytes)

pub returns : goal.returns
returns c =
    let f = c.requires.fits usual in
    changed-blocked_forall c.args.kernel.now c.drop_lit.new.self c.args.c c.args.l c.sound.ensures c.requires.limits c.requires.bytes
    (λ C e. subst (λ (x : Clause). IsIn c.args.l x) (same_Some f.0 C (sym f.1 ∙ e)) f.2) c.drop_lit.ensures
