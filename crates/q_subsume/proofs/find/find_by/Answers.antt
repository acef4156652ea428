use Rattle.std.proofs.Common.{◌≡◌, ◌∙◌, None, Some, Option, sym, subst}
use Rattle.q_logic.specs.Prelude.{Literal, Clause, slot}
use Rattle.q_logic.proofs.Common.{none_of}
use Rattle.q_kernel.specs.Prelude.{slots}
use Rattle.q_subsume.specs.Targets.{target_of}
use Rattle.q_subsume.specs.declared.target.Target.{Target}
use Rattle.q_subsume.specs.Searches.{IsBy, IsAmong}
use Rattle.q_rule.specs.Searching.{IsFound}
use Rattle.q_subsume.proofs.SubsumeSearch.{found-by, empty-none}
use Rattle.q_rule.proofs.RuleSearch.{found-none, found-more}
use Rattle.q_subsume.proofs.find.find_by.Goals as goal

pub returns-in_default : goal.returns-in_default
returns-in_default c =
    let k = c.args.kernel.now in
    let e = c.rarest.ensures.none c.in_default.is in
    found-none target_of k (IsBy c.args.c c.args.from) (empty-none k c.args.c c.args.from c.requires.swept (subst (λ (C : Clause). slot (slots k) c.args.c ≡ Some C) e c.clause_of.ensures.clause))

pub returns-then-is_some : goal.returns-then-is_some
returns-then-is_some c =
    let k = c.args.kernel.now in
    found-more target_of k (IsAmong k c.args.c c.args.from c.in-Some.k) (IsBy c.args.c c.args.from) c.find_among-found.result (sym c.is_some.ensures ∙ c.if-is_some.true) (λ t q. q.by_clause) c.find_among-found.ensures

pub returns : goal.returns
returns c =
    let k = c.args.kernel.now in
    let e : c.find_among-found.result ≡ None = none_of c.find_among-found.result (sym c.is_some.ensures ∙ c.if-is_some.false) in
    found-by k c.args.c c.args.from c.clause_of.result.now c.in-Some.k c.find_among.result c.clause_of.ensures.clause (c.rarest.ensures.some c.in-Some.k c.in-Some.is)
    (subst (λ (o : Option Target). IsFound target_of k (IsAmong k c.args.c c.args.from c.in-Some.k) o) e c.find_among-found.ensures)
    (subst (λ (l : Literal). IsFound target_of k (IsAmong k c.args.c c.args.from l) c.find_among.result) c.negated.ensures c.find_among.ensures)
