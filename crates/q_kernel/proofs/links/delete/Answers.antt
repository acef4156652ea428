use Rattle.std.proofs.Common.{None}
use Rattle.q_kernel.proofs.ListUpdates.{changed-but, gone-linked, starts-same, clause-set, clause-within}
use Rattle.q_kernel.proofs.links.delete.Goals as goal

pub returns-clause-linked : goal.returns-clause-linked
returns-clause-linked c =
    let a = c.args.arena.now in
    let b = c.delete.new.self in
    let but = changed-but c.args.occ.now a b c.args.id None c.requires.linked c.delete.ensures.clauses (λ i d e n. starts-same a b c.delete.ensures.starts i) in
    gone-linked c.args.occ.now b c.args.id but (clause-set a b c.args.id None (clause-within a c.args.id c.requires.live.0 c.requires.live.1) c.delete.ensures.clauses)
