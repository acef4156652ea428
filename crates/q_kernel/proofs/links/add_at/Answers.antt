use Rattle.std.proofs.Common.{sym, subst, ◌∙◌}
use Rattle.std.proofs.lemmas.Option.{same_Some}
use Rattle.q_logic.specs.Prelude.{Clause}
use Rattle.q_kernel.specs.Linking.{HasLists}
use Rattle.q_kernel.proofs.ListUpdates.{added-but}
use Rattle.q_kernel.proofs.links.add_at.Goals as goal

pub link-requires-clause-linked : goal.link-requires-clause-linked
link-requires-clause-linked c = added-but c.args.occ.now c.args.arena.now c.add_at.new.self c.args.id c.args.lits.now c.requires.linked c.requires.free.free c.add_at.ensures.clauses c.add_at.ensures.starts

pub link-requires-clause-lists : goal.link-requires-clause-lists
link-requires-clause-lists c = λ C e. subst (λ (D : Clause). HasLists c.args.occ.now D) (same_Some c.args.lits.now C (sym c.add_at.ensures.there ∙ e)) c.requires.lists
