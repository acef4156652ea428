use Rattle.std.proofs.Common.{◌≡◌, List, Some, length, subst, sym}
use Rattle.q_logic.specs.Prelude.{NamedOutput, AreGates, output_named}
use Rattle.q_aig.specs.Prelude.{Net, net_of}
use Rattle.q_encode.proofs.CertificateOutputs.{outputs-there}
use Rattle.q_encode.proofs.encoding.circuits_are_lawful.Goals as goal

pub returns : goal.returns
returns c = record {
  gates = subst (λ (a : Net). AreGates (length a.inputs) 0 a.gates) c.aig.ensures c.inputs.ensures.net.ordered;
  outputs = λ x o e. outputs-there (net_of c.args.circuits.now) c.outputs.result.now c.outputs.ensures.lawful.literals x o
      (subst (λ (os : List NamedOutput). output_named x os ≡ Some o) (sym c.outputs.ensures.value) e);
}
