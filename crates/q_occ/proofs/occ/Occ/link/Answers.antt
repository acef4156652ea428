use Rattle.q_occ.proofs.ExactLists.{pages-reserved, room-reserved, fresh-places, linking, exact-linked}
use Rattle.q_occ.proofs.occ.Occ.link.Goals as goal

pub link_all-requires-clause-pages : goal.link_all-requires-clause-pages
link_all-requires-clause-pages c = pages-reserved c.args.arena.now c.args.id c.lits.result.now c.start.result c.lits.ensures.clause c.start.ensures c.self.inside.lists (rw c.self.view_is c.requires.reserved)

pub link_all-requires-clause-room : goal.link_all-requires-clause-room
link_all-requires-clause-room c = room-reserved c.args.arena.now c.args.id c.lits.result.now c.start.result c.lits.ensures.clause c.start.ensures c.self.inside.lists (rw c.self.view_is c.requires.reserved)

pub link_all-requires-clause-fresh : goal.link_all-requires-clause-fresh
link_all-requires-clause-fresh c = fresh-places c.args.arena.now c.args.id c.lits.result.now c.start.result c.lits.ensures.clause c.start.ensures c.self.inside.lists (rw c.self.view_is c.requires.unlinked)

pub returns-clause-linked : goal.returns-clause-linked
returns-clause-linked c = rw (← c.self.view_is) (linking c.args.arena.now c.args.id c.lits.result.now c.start.result c.lits.ensures.clause c.start.ensures c.self.inside.lists c.link_all.new.lists c.link_all.ensures.linked c.link_all.ensures.owners)

pub returns-clause-exact : goal.returns-clause-exact
returns-clause-exact c =
    let l = linking c.args.arena.now c.args.id c.lits.result.now c.start.result c.lits.ensures.clause c.start.ensures c.self.inside.lists c.link_all.new.lists c.link_all.ensures.linked c.link_all.ensures.owners in
    exact-linked c.args.self.now c.link_all.new.lists c.args.arena.now c.args.id c.requires.unlinked (rw (← c.self.view_is) l)
