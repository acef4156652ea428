use Rattle.std.proofs.Common.{ap, ◌∙◌, Some}
use Rattle.q_io.proofs.MemoryStore.{put_same, put_others}
use Rattle.q_io.proofs.names.store.Goals as goal

pub returns-clause-ok : goal.returns-clause-ok
returns-clause-ok c =
    rw (← c.in_ok-key.ensures.ok) (put_same _ c.args.names.now c.insert.new.self c.in_ok-value.value c.in_ok-insert.ensures.updates ∙ ap Some c.in_ok-value.ensures.items)

pub returns-clause-others : goal.returns-clause-others
returns-clause-others c =
    rw (← c.in_ok-key.ensures.ok) (put_others _ c.args.names.now c.insert.new.self _ c.in_ok-insert.ensures.updates)
