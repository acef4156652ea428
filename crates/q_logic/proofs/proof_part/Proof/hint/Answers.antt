use Rattle.std.proofs.Common.{◌≤◌, ◌++◌, [], ◌∷◌, length, length-append, arith}
use Rattle.q_logic.proofs.HintGroups.{starts-more, part-hint}
use Rattle.q_logic.proofs.proof_part.Proof.hint.Goals as goal

pub invariant_of-self-2 : goal.invariant_of-self-2
invariant_of-self-2 c =
    let hints = c.self.inside.hints.items in
    let more : length hints ≤ length (hints ++ c.args.number ∷ []) = rw length-append (omega arith) in
    let e = c.in_ok-push.ensures.items in
    rw e (starts-more 0 c.self.inside.groups.items (length hints) _ more c.self.invariant)

pub returns-clause-ok : goal.returns-clause-ok
returns-clause-ok c =
    let e = c.in_ok-push.ensures.items in
    rw e (part-hint c.self.inside.kind c.self.inside.number c.self.inside.groups.items c.self.inside.hints.items c.args.self.now c.self.view_is c.args.number c.self.invariant)
