use Rattle.std.proofs.Common.{sym, subst}
use Rattle.q_logic.specs.Prelude.{Literal}
use Rattle.q_prop.specs.Slots.{filled}
use Rattle.q_judge.specs.Walks.{WalkMap, IsShut}
use Rattle.q_judge.proofs.KeptWalks.{enclosed-shut, inside-reducible}
use Rattle.q_judge.proofs.kept_walks.Walk.extend.Goals as goal

pub go_on-requires-clause-shut : goal.go_on-requires-clause-shut
go_on-requires-clause-shut c =
    let i = c.self.inside in
    let P = c.args.view.now.prefix in
    let X = filled c.args.view.now.slots in
    let R : WalkMap = record { literal = i.lit; known = i.known } in
    let e = rw (← c.self.view_is) at c.turn_to.ensures.literal in
    let all = rw (← c.self.view_is) at (c.turn_to.ensures.walk P X c.requires.walk) in
    enclosed-shut P X R c.args.lit e c.requires.universal all

pub returns-in-Ok-clause-walk : goal.returns-in-Ok-clause-walk
returns-in-Ok-clause-walk c t =
    let i = c.self.inside in
    let e = rw (← c.self.view_is) at c.turn_to.ensures.literal in
    subst (λ (l : Literal). IsShut c.args.view.now.prefix (filled c.args.view.now.slots) l c.go_on.new.known) (sym e) c.in-Ok.ensures.shut

pub returns-in-Ok-clause-told : goal.returns-in-Ok-clause-told
returns-in-Ok-clause-told c t =
    inside-reducible c.args.view.now.prefix (filled c.args.view.now.slots) c.args.clause.now c.args.lit c.go_on.new.known c.requires.not_negated (c.in-Ok.ensures.inner t) c.in-Ok.ensures.shut c.requires.universal c.requires.held
