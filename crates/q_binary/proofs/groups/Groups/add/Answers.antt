use Rattle.std.proofs.Common.{◌≡◌, ◌∙◌, ◌∷◌, ◌++◌, ◌+◌, [], sym, ap, List, ℕ, length, nat_lt, true, arith}
use Rattle.q_binary.specs.Reading.{groups_of}
use Rattle.q_binary.proofs.GroupValues.{groups-more, room}
use Rattle.q_binary.proofs.groups.Groups.add.Goals as goal

pub returns-clause-room : goal.returns-clause-room
returns-clause-room c =
    sym (room c.self.inside.count c.self.inside.number c.args.self.now c.self.view_is (omega arith))

pub returns-clause-groups : goal.returns-clause-groups
returns-clause-groups c =
    let t : nat_lt (length c.args.self.now) 4 ≡ true = room c.self.inside.count c.self.inside.number c.args.self.now c.self.view_is (omega arith) in
    let e = groups-more c.self.inside.count c.self.inside.number c.args.group (omega arith) c.requires c.self.invariant.1 in
    rw t (ap (groups_of (c.self.inside.count + 1)) c.with_group-self-inside.ensures
    ∙ (e ∙ ap (λ (ds : List ℕ). ds ++ c.args.group ∷ []) c.self.view_is))
