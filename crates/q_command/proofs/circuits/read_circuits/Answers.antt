use Rattle.std.proofs.Common.{ℕ, List, subst}
use Rattle.std.proofs.lemmas.Option.{IfSome_then}
use Rattle.q_io.specs.Files.{bytes_at}
use Rattle.q_aiger.specs.Circuits.{AreCircuits}
use Rattle.q_command.proofs.WholeFiles.{text-circuits, refused-fails}
use Rattle.q_command.proofs.circuits.read_circuits.Goals as goal

pub returns-in-Ok-read-clause-circuits : goal.returns-in-Ok-read-clause-circuits
returns-in-Ok-read-clause-circuits g c =
    IfSome_then (g.F.Files.held c.args.files.now) c.in-Ok.ensures.bytes
    (λ disk t. text-circuits (bytes_at disk c.args.name.now) c.in-Ok.text.items c.in-Ok-read.given t (subst (λ (xs : List ℕ). AreCircuits xs c.in-Ok-read.given) c.deref.ensures.value c.in-Ok-read.ensures.ok))

pub returns-clause-refused : goal.returns-clause-refused
returns-clause-refused g c =
    IfSome_then (g.F.Files.held c.args.files.now) c.in-Ok.ensures.bytes
    (λ disk t. refused-fails (bytes_at disk c.args.name.now) c.in-Ok.text.items _ c.in-Err-read.error _ c.deref.ensures.value c.refusal.ensures c.in-Err-read.ensures.err t)
