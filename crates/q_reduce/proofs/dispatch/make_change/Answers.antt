use Rattle.std.proofs.Common.{◌≡◌, ◌∙◌, sym, subst}
use Rattle.std.proofs.lemmas.Option.{same_Some}
use Rattle.q_logic.specs.declared.rule_bounds.Bounds.{Bounds}
use Rattle.q_logic.specs.UsualBounds.{usual}
use Rattle.q_logic.specs.Prelude.{Clause, Prefix, IsIn, Slots, Fits}
use Rattle.q_kernel.specs.Prelude.{slots}
use Rattle.q_reduce.specs.declared.target.Target.{Target}
use Rattle.q_reduce.specs.declared.target.Target.TheVariants.{Tautology, Unit, Cut, Pure}
use Rattle.q_reduce.specs.Targets.{target_of}
use Rattle.q_rule.specs.Becoming.{IsChanged}
use Rattle.q_rule.proofs.RuleSteps.{may-go_tautology, may-drop_reducible}
use Rattle.q_rule.proofs.TargetChanges.{change-clause, changed-tautology, changed-cut, changed-unit}
use Rattle.q_reduce.proofs.dispatch.make_change.Goals as goal

at : (P : Prefix) (N : Slots) (t u : Target) → t ≡ u → ((B : Bounds) → Fits B P N (target_of t)) → Fits usual P N (target_of u)
at P N t u e f = subst (λ (x : Target). Fits usual P N (target_of x)) e (f usual)

pub delete_implied-requires : goal.delete_implied-requires
delete_implied-requires c =
    let k = c.args.kernel.now in
    let f = at k.prefix (slots k) c.args.target.now (Tautology c.in-Tautology.c) c.in-Tautology.is c.requires.fits in
    may-go_tautology k c.in-Tautology.c f.0 c.sound.ensures f.1 f.2 (change-clause k c.in-Tautology.c f.0 f.1 c.requires.bytes)

pub take_unit-requires-clause-unit : goal.take_unit-requires-clause-unit
take_unit-requires-clause-unit c =
    let k = c.args.kernel.now in
    at k.prefix (slots k) c.args.target.now (Unit c.in-Unit.c) c.in-Unit.is c.requires.fits

pub drop_lit-requires : goal.drop_lit-requires
drop_lit-requires c =
    let k = c.args.kernel.now in
    let f = at k.prefix (slots k) c.args.target.now (Cut c.in-Cut.c c.in-Cut.l) c.in-Cut.is c.requires.fits in
    may-drop_reducible k c.in-Cut.c f.0 c.sound.ensures f.1 c.in-Cut.l f.2 (change-clause k c.in-Cut.c f.0 f.1 c.requires.bytes)

pub take_pure-requires-clause-bound : goal.take_pure-requires-clause-bound
take_pure-requires-clause-bound c =
    let k = c.args.kernel.now in
    let f = at k.prefix (slots k) c.args.target.now (Pure c.in-Pure.l) c.in-Pure.is c.requires.fits in f.0

pub take_pure-requires-clause-pure : goal.take_pure-requires-clause-pure
take_pure-requires-clause-pure c =
    let k = c.args.kernel.now in
    let f = at k.prefix (slots k) c.args.target.now (Pure c.in-Pure.l) c.in-Pure.is c.requires.fits in f.2

pub returns-in-Tautology : goal.returns-in-Tautology
returns-in-Tautology c =
    let k = c.args.kernel.now in
    subst (λ (t : Target). IsChanged k c.delete_implied.new.self (target_of t)) (sym c.in-Tautology.is)
    (changed-tautology k c.delete_implied.new.self c.in-Tautology.c c.sound.ensures c.requires.limits c.requires.bytes c.delete_implied.ensures)

pub returns-in-Unit : goal.returns-in-Unit
returns-in-Unit c =
    let k = c.args.kernel.now in
    let f = at k.prefix (slots k) c.args.target.now (Unit c.in-Unit.c) c.in-Unit.is c.requires.fits in
    subst (λ (t : Target). IsChanged k c.take_unit.new.kernel (target_of t)) (sym c.in-Unit.is)
    (changed-unit k c.take_unit.new.kernel c.in-Unit.c f.0 f.1 (c.take_unit.ensures f.0 f.1))

pub returns-in-Cut : goal.returns-in-Cut
returns-in-Cut c =
    let k = c.args.kernel.now in
    let f = at k.prefix (slots k) c.args.target.now (Cut c.in-Cut.c c.in-Cut.l) c.in-Cut.is c.requires.fits in
    subst (λ (t : Target). IsChanged k c.drop_lit.new.self (target_of t)) (sym c.in-Cut.is)
    (changed-cut k c.drop_lit.new.self c.in-Cut.c c.in-Cut.l c.sound.ensures c.requires.limits c.requires.bytes
    (λ C e. subst (λ (x : Clause). IsIn c.in-Cut.l x) (same_Some f.0 C (sym f.1 ∙ e)) f.2.in_clause) c.drop_lit.ensures)
