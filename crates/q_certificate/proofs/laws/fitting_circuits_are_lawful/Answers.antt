use Rattle.std.proofs.Common.{subst, ◌∙◌}
use Rattle.std.proofs.lemmas.List.{get_or_default}
use Rattle.q_aig.specs.Prelude.{IsNet, net_of}
use Rattle.q_certificate.proofs.InputReads.{circuit-reads, fits-lawful}
use Rattle.q_certificate.proofs.laws.fitting_circuits_are_lawful.Goals as goal

pub returns : goal.returns
returns c =
    let n : IsNet (net_of c.args.given.now) = subst IsNet c.aig.ensures c.inputs.ensures.net in
    record {
      lawful = λ P f. fits-lawful P c.args.given.now c.outputs.result.now c.outputs.ensures.value c.outputs.ensures.lawful n.ordered f;
      reads = λ x u g r.
          let i = circuit-reads c.args.given.now c.outputs.result.now c.outputs.ensures.value c.outputs.ensures.lawful n.ordered x u g r in
          (i.0, i.1, get_or_default c.args.given.now.inputs i.0 u 0 i.1 ∙ i.2);
    }
