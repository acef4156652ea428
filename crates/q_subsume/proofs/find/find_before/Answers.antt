use Rattle.std.proofs.Common.{◌∙◌, arith, sym}
use Rattle.q_subsume.specs.Targets.{target_of}
use Rattle.q_subsume.specs.Searches.{IsBy, IsBefore}
use Rattle.q_rule.proofs.RuleSearch.{found-more}
use Rattle.q_subsume.proofs.find.find_before.Goals as goal

pub returns-then-is_some : goal.returns-then-is_some
returns-then-is_some c =
    found-more target_of c.args.kernel.now (IsBy c.loop-c.c c.args.from) (IsBefore c.args.end c.args.from) c.find_if_live-found.result (sym c.is_some.ensures ∙ c.if-is_some.true)
    (λ t q. record { before = (let e = q.inner in omega arith); order = q.order }) c.find_if_live-found.ensures
