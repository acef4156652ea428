use Rattle.std.proofs.Common.{◌≡◌, ℕ, sym, subst, ap, ◌∙◌, cond, eqb, not, Bool, List, Option, Some}
use Rattle.q_logic.specs.Prelude.{negation}
use Rattle.q_certificate.specs.Prelude.{look_at, IsRaised}
use Rattle.q_certificate.proofs.CircuitParts.{undone-pivot}
use Rattle.q_herbrand.proofs.FalseLiterals.{carried-turned}
use Rattle.q_herbrand.proofs.entries.take_turned.Goals as goal

pub returns-in_ok-put-clause-carried : goal.returns-in_ok-put-clause-carried
returns-in_ok-put-clause-carried c =
    let v : c.var.result ≡ c.args.pivot.var = c.var.ensures.value in
    let is : look_at c.args.tables.now.circuits.items c.args.pivot.var ≡ Some c.in-Some.circuit =
    ap (λ (x : ℕ). look_at c.args.tables.now.circuits.items x) (sym v)
    ∙ sym c.in-Some.ensures in
    let ra : IsRaised c.all_of.new.aig c.raise.new.aig (not c.args.pivot.negative) c.in-Some.circuit c.in_ok-all.all
    c.in_ok-lowered.lowered = subst (λ (b : Bool). IsRaised c.all_of.new.aig c.raise.new.aig (not b)
    c.in-Some.circuit c.in_ok-all.all c.in_ok-lowered.lowered) c.negative.ensures
    c.in_ok-lowered.ensures.raised in
    let put : (x : ℕ) → look_at c.put.new.row.items x ≡ cond (eqb x c.args.pivot.var) (Some c.in_ok-lowered.lowered)
    (look_at c.args.tables.now.circuits.items x) = λ x. c.in_ok-put.ensures.ok x
    ∙ ap (λ (w : ℕ). cond (eqb x w) (Some c.in_ok-lowered.lowered) (look_at c.args.tables.now.circuits.items x))
    c.var-in-Some.ensures.value in
    carried-turned c.args.aig.now c.raise.new.aig c.args.tables.now.inputs.items c.args.tables.now.circuits.items
    c.put.new.row.items c.args.pivot c.args.outer.now
    (undone-pivot c.args.aig.now c.all_of.new.aig c.raise.new.aig c.args.tables.now.inputs.items
    c.args.tables.now.circuits.items c.put.new.row.items (negation c.args.pivot) c.args.outer.now
    c.in-Some.circuit c.in_ok-all.all c.in_ok-lowered.lowered c.requires.inputs c.requires.circuits is
    c.in_ok-all.ensures ra c.in_ok-lowered.ensures.folded put)
