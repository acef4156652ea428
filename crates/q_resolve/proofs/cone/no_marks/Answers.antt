use Rattle.q_resolve.proofs.Coned.{clear-is}
use Rattle.q_resolve.proofs.cone.no_marks.Goals as goal

pub returns : goal.returns
returns c = clear-is c.args.n _ c.new-marks.result.items c.resize.new.self.items c.new-marks.ensures.items c.new-marks.ensures.len c.in_ok-resize.ensures.items
