use Rattle.std.proofs.Common.{◌≡◌, ℕ, sym, subst, ap, ◌∙◌, cond, eqb, not, Bool, List, Option, Some}
use Rattle.q_certificate.specs.Prelude.{look_at, IsRaised}
use Rattle.q_herbrand.proofs.FalseLiterals.{lowered-put}
use Rattle.q_herbrand.proofs.entries.lower.Goals as goal

pub returns-in_ok-put : goal.returns-in_ok-put
returns-in_ok-put c = λ ins li.
    let v : c.var.result ≡ c.args.lit.var = c.var.ensures.value in
    let is : look_at c.args.circuits.now.items c.args.lit.var ≡ Some c.in-Some.circuit =
    ap (λ (x : ℕ). look_at c.args.circuits.now.items x) (sym v)
    ∙ sym c.in-Some.ensures in
    let ra : IsRaised c.args.aig.now c.raise.new.aig (not c.args.lit.negative) c.in-Some.circuit c.args.q
    c.in_ok-lowered.lowered = subst (λ (b : Bool). IsRaised c.args.aig.now c.raise.new.aig (not b)
    c.in-Some.circuit c.args.q c.in_ok-lowered.lowered) c.negative.ensures c.in_ok-lowered.ensures.raised in
    let put : (x : ℕ) → look_at c.put.new.row.items x ≡ cond (eqb x c.args.lit.var) (Some c.in_ok-lowered.lowered)
    (look_at c.args.circuits.now.items x) = λ x. c.in_ok-put.ensures.ok x
    ∙ ap (λ (w : ℕ). cond (eqb x w) (Some c.in_ok-lowered.lowered) (look_at c.args.circuits.now.items x))
    c.var-in-Some.ensures.value in
    lowered-put c.args.aig.now c.raise.new.aig ins c.args.circuits.now.items c.put.new.row.items c.args.lit
    c.in-Some.circuit c.args.q c.in_ok-lowered.lowered li c.requires.circuits is ra put
