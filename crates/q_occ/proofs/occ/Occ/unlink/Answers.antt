use Rattle.q_occ.proofs.ExactLists.{unlinking, exact-unlinked}
use Rattle.q_occ.proofs.occ.Occ.unlink.Goals as goal

pub returns-clause-unlinked : goal.returns-clause-unlinked
returns-clause-unlinked c = rw (← c.self.view_is) (unlinking c.args.arena.now c.args.id c.lits.result.now c.start.result c.lits.ensures.clause c.start.ensures c.self.inside.lists c.unlink_all.new.lists c.unlink_all.ensures.unlinked c.unlink_all.ensures.owners)

pub returns-clause-exact : goal.returns-clause-exact
returns-clause-exact c =
    let l = unlinking c.args.arena.now c.args.id c.lits.result.now c.start.result c.lits.ensures.clause c.start.ensures c.self.inside.lists c.unlink_all.new.lists c.unlink_all.ensures.unlinked c.unlink_all.ensures.owners in
    exact-unlinked c.args.self.now c.unlink_all.new.lists c.args.arena.now c.args.id c.apart.ensures.apart (rw (← c.self.view_is) l)
