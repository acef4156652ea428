use Rattle.std.proofs.Common.{◌≡◌, ◌<◌, length, arith}
use Rattle.q_certificate.proofs.InputDepths.{depths-put}
use Rattle.q_certificate.proofs.reads.deepen_all.Goals.{in-Forall, in-Exists}
use Rattle.q_certificate.proofs.reads.deepen_all.Goals as goal

pub deepen-requires : goal.deepen-requires
deepen-requires c = record { within = λ x i e. let s = c.requires.places.sound x i e in let t : i < length c.args.names.now = s.0 in let r : length c.args.depths.now ≡ length c.args.names.now = c.requires.room in omega arith }

pub loop-i-preserved : goal.loop-i-preserved
loop-i-preserved c = elim c.match-prefix-i.branch [
  | in-Forall w ↦ rw (w.depths-is) (depths-put c.args.prefix.now c.loop-i.i c.args.names.now c.loop-i.depths w.deepen.new.depths c.requires.distinct c.loop-i-test.true w.in-Forall.is c.loop-i.invariant
      (w.deepen.ensures c.args.names.now c.requires.names c.requires.places (let r : length c.args.depths.now ≡ length c.args.names.now = c.requires.room in omega arith)))
  | in-Exists w ↦ rw (w.depths-is) c.loop-i.invariant
]
