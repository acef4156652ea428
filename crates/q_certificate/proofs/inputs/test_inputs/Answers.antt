use Rattle.std.proofs.Common.{◌≡◌, ℕ, List, Some, None, length, sym, subst, ap, ◌∙◌, get_or}
use Rattle.q_aig.specs.Prelude.{Net}
use Rattle.q_certificate.specs.Refusals.{IsStrangeInput, input_name}
use Rattle.q_certificate.specs.Testing.{IsFirstOver}
use Rattle.q_certificate.proofs.InputReads.{some-strange, no-strange}
use Rattle.q_certificate.proofs.inputs.test_inputs.Goals as goal

pub returns-in-Some-clause-refused : goal.returns-in-Some-clause-refused
returns-in-Some-clause-refused c =
    let g = rw (c.deref.ensures.value) at c.in_ok-found.ensures in
    let f : IsFirstOver c.args.given.now (length c.args.given.now.outputs) c.in_ok-allowed.allowed.items (Some c.in-Some.place) = subst (IsFirstOver c.args.given.now (length c.args.given.now.outputs) c.in_ok-allowed.allowed.items) c.in-Some.is g in
    let names : c.inputs.result.now ≡ c.args.given.now.inputs = c.inputs.ensures.value ∙ ap (λ (n : Net). n.inputs) c.aig.ensures in
    let e : input_name c.args.given.now c.in-Some.place ≡ get_or c.inputs.result.now c.in-Some.place 0 = ap (λ (xs : List ℕ). get_or xs c.in-Some.place 0) (sym names) in
    subst (IsStrangeInput c.args.prefix.now c.args.given.now) e (some-strange c.args.given.now c.args.prefix.now c.in_ok-allowed.allowed.items c.in-Some.place c.in_ok-allowed.ensures.allowed f)

pub returns-clause-ok : goal.returns-clause-ok
returns-clause-ok c =
    let g = rw (c.deref.ensures.value) at c.in_ok-found.ensures in
    let f : IsFirstOver c.args.given.now (length c.args.given.now.outputs) c.in_ok-allowed.allowed.items None = subst (IsFirstOver c.args.given.now (length c.args.given.now.outputs) c.in_ok-allowed.allowed.items) c.in_default.is g in
    no-strange c.args.given.now c.args.prefix.now c.in_ok-allowed.allowed.items c.in_ok-allowed.ensures.allowed f
