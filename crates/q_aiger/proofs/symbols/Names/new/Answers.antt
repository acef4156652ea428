use Rattle.std.proofs.Common.{arith}
use Rattle.std.proofs.lemmas.Grind.{common_steps}
use Rattle.q_aiger.proofs.LongerNames.{names-none}
use Rattle.q_aiger.proofs.symbols.Names.new.Goals as goal

pub invariant_of-result : goal.invariant_of-result
invariant_of-result c = names-none c.new.result c.resize.new.self.items c.args.places c.new.ensures.empty (grind (arith, common_steps))
