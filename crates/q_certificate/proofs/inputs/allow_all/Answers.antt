use Rattle.std.proofs.Common.{◌≡◌, ◌<◌, length, arith}
use Rattle.q_certificate.proofs.VariableTables.{allowed-forall, allowed-exists}
use Rattle.q_certificate.proofs.inputs.allow_all.Goals.{in-Forall, in-Exists}
use Rattle.q_certificate.proofs.inputs.allow_all.Goals as goal

pub allow-requires : goal.allow-requires
allow-requires c = record { within = λ x i e. let s = c.requires.places.sound x i e in let t : i < length c.args.names.now = s.0 in let r : length c.args.allowed.now ≡ length c.args.names.now = c.requires.room in omega arith }

pub loop-i-preserved : goal.loop-i-preserved
loop-i-preserved c = elim c.match-prefix-i.branch [
  | in-Forall w ↦ rw (w.allowed-is) (allowed-forall c.args.prefix.now c.loop-i.i c.args.names.now c.loop-i.allowed w.allow.new.allowed c.requires.distinct c.loop-i-test.true w.in-Forall.is c.loop-i.invariant
      (w.allow.ensures c.args.names.now c.requires.names c.requires.places (let r : length c.args.allowed.now ≡ length c.args.names.now = c.requires.room in omega arith)))
  | in-Exists w ↦ rw (w.allowed-is) (allowed-exists c.args.prefix.now c.loop-i.i c.args.names.now c.loop-i.allowed c.requires.distinct c.loop-i-test.true w.in-Exists.is c.loop-i.invariant)
]
