use Rattle.std.proofs.Common.{◌≡◌, ◌<◌, ℕ, Some, None, List, length, ap, ◌∙◌, subst, arith}
use Rattle.q_logic.specs.Prefixes.{place}
use Rattle.q_logic.specs.Branches.{as_prefix}
use Rattle.q_aig.specs.Prelude.{Net}
use Rattle.q_validate.specs.Stands.{Spot, IsPlace}
use Rattle.q_validate.proofs.KnownValues.{no-name, name-at}
use Rattle.q_validate.proofs.node.Node.place.Goals as goal

pub returns-then-place-inputs-clause-place : goal.returns-then-place-inputs-clause-place
returns-then-place-inputs-clause-place c =
    let us = c.self.inside.certificate.now.inputs in
    let v = c.args.var in
    let n : length c.inputs.result.now ≡ length us = ap (λ (xs : List ℕ). length xs) (c.inputs.ensures.value ∙ ap (λ (a : Net). a.inputs) c.aig.ensures) in
    let e : c.place-place.result ≡ place (as_prefix us) v = c.place-place.ensures ∙ c.self.invariant.are_places v in
    let l : place (as_prefix us) v < length us = omega arith in
    subst (λ (s : Spot). IsPlace s.certificate.inputs v (Some c.place-place.result)) c.self.view_is (e, omega arith, (name-at us v l).1)

pub returns-clause-place : goal.returns-clause-place
returns-clause-place c =
    let us = c.self.inside.certificate.now.inputs in
    let v = c.args.var in
    let n : length c.inputs.result.now ≡ length us = ap (λ (xs : List ℕ). length xs) (c.inputs.ensures.value ∙ ap (λ (a : Net). a.inputs) c.aig.ensures) in
    let e : c.place-place.result ≡ place (as_prefix us) v = c.place-place.ensures ∙ c.self.invariant.are_places v in
    subst (λ (s : Spot). IsPlace s.certificate.inputs v None) c.self.view_is (no-name us v (omega arith))
