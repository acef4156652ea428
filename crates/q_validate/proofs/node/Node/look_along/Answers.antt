use Rattle.std.proofs.Common.{◌≡◌, ◌-◌, ◌++◌, ℕ, List, Bool, length, take, ap, sym, ◌∙◌, arith}
use Rattle.q_validate.specs.Below.{verdict_of}
use Rattle.q_validate.specs.Lines.{zeros}
use Rattle.q_validate.specs.Stands.{Spot, claim_at, unset, values, formula_known}
use Rattle.q_validate.proofs.ClauseValues.{formula-says}
use Rattle.q_validate.proofs.node.Node.look_along.Goals as goal

pub returns : goal.returns
returns c =
    let s = c.args.self.now in
    let b = c.args.line.base in
    let us = s.certificate.inputs in
    let v : length c.self.inside.path.items ≡ length s.path = ap (λ (t : Spot). length t.path) c.self.view_is in
    let n : c.len.result ≡ length s.path = omega (arith, c.len.ensures, c.self.inside.path.ok.0) in
    c.at.ensures (λ w. formula_known (claim_at s) (take b s.path ++ w)) c.requires.2
    ∙ ap (λ (k : ℕ). verdict_of (formula_known (claim_at s) (take b s.path ++ zeros (k - b)))) n
    ∙ ap (λ (p : List Bool). verdict_of (formula_known (claim_at s) p)) (sym c.requires.1)
    ∙ formula-says (claim_at s) s.formula.matrix (unset us s.path) (values us s.path)
