use Rattle.std.proofs.Common.{sym, subst}
use Rattle.q_logic.specs.Prelude.{CertificateView}
use Rattle.q_aig.specs.Nets.{IsLiteral}
use Rattle.q_aig.specs.Outputs.{net_of, IsNewName}
use Rattle.q_aig.proofs.Outputs.{outputs-more}
use Rattle.q_aig.proofs.certificate.Certificate.name.Goals as goal

pub invariant_of-self-2 : goal.invariant_of-self-2
invariant_of-self-2 c =
    let n : IsNewName c.args.self.now.outputs c.args.var = c.requires.var in
    let h : IsLiteral (net_of c.args.self.now) c.args.lit = c.requires.lit in
    outputs-more c.self.inside.aig c.self.inside.outputs.items _ c.args.var c.args.lit c.self.invariant
    (subst (λ (x : CertificateView). IsNewName x.outputs c.args.var) (sym c.self.view_is) n)
    (subst (λ (x : CertificateView). IsLiteral (net_of x) c.args.lit) (sym c.self.view_is) h)
    c.in_ok-push.ensures.items
