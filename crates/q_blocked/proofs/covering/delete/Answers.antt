use Rattle.std.proofs.Common.{Some, Option, subst}
use Rattle.q_logic.specs.Prelude.{Literal, others, first_of}
use Rattle.q_kernel.specs.Prelude.{slots}
use Rattle.q_rule.proofs.RuleSteps.{delete-cost, implied-cost}
use Rattle.q_blocked.specs.Plans.{MayGo}
use Rattle.q_blocked.proofs.ClauseSwap.{may-go_implied, may-go_pivot, left-by}
use Rattle.q_blocked.proofs.covering.delete.Goals as goal

pub delete_pivot-requires : goal.delete_pivot-requires
delete_pivot-requires c =
    let k = c.args.kernel.now in
    let h = c.requires in
    may-go_pivot k c.args.c h.clause c.sound.ensures h.there c.in-Some.l (subst (λ (o : Option Literal). MayGo k.prefix (others c.args.c (slots k)) h.clause o) c.in-Some.is h.goes) h.bytes

pub delete_implied-requires : goal.delete_implied-requires
delete_implied-requires c =
    let k = c.args.kernel.now in
    let h = c.requires in
    may-go_implied k c.args.c h.clause c.sound.ensures h.there (subst (λ (o : Option Literal). MayGo k.prefix (others c.args.c (slots k)) h.clause o) c.in-None.is h.goes) h.bytes

pub returns-in-Some : goal.returns-in-Some
returns-in-Some c =
    let k = c.args.kernel.now in
    let h = c.requires in
    let p = subst (λ (o : Option Literal). MayGo k.prefix (others c.args.c (slots k)) h.clause o) c.in-Some.is h.goes in
    left-by k c.delete_pivot.new.self c.args.c (λ C. Some c.in-Some.l) h.clause h.there (delete-cost k c.args.c h.clause c.sound.ensures h.there c.in-Some.l p.in_clause) c.delete_pivot.ensures

pub returns-in-None : goal.returns-in-None
returns-in-None c =
    let k = c.args.kernel.now in
    let h = c.requires in
    left-by k c.delete_implied.new.self c.args.c first_of h.clause h.there (implied-cost k c.args.c h.clause c.sound.ensures h.there) c.delete_implied.ensures
