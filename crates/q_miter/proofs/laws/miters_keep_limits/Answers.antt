use Rattle.q_miter.proofs.Bounded.{skolem-up, herbrand-up, lean-up, skolem-literals, herbrand-literals, lean-literals}
use Rattle.q_miter.proofs.laws.miters_keep_limits.Goals as goal

pub returns : goal.returns
returns c = record {
  skolem = λ F k f h. (skolem-up F k f h, skolem-literals F k);
  herbrand = λ F k f h. (herbrand-up F k f h, herbrand-literals F k);
  lean = λ F k f h. (lean-up F k f h, lean-literals F k);
}
