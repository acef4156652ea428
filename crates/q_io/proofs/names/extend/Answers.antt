use Rattle.std.proofs.Common.{sym, ◌∙◌, rules}
use Rattle.q_logic.proofs.Common.{none_of, on_err}
use Rattle.q_io.proofs.MemoryStore.{put_others, extended, as_it_was, stored_absent}
use Rattle.q_io.proofs.names.extend.Goals as goal

pub returns-in_err-extend_from_slice-in-Some-clause-err :
    goal.returns-in_err-extend_from_slice-in-Some-clause-err
returns-in_err-extend_from_slice-in-Some-clause-err c =
    on_err _ (as_it_was _ c.args.names.now (c.get_mut.follows.lender c.extend_from_slice.new.self) _ _ c.in-Some.ensures.value c.in_err-extend_from_slice-in-Some.ensures.items ((c.get_mut.follows.holds c.extend_from_slice.new.self).3 (search rules)))

pub returns-in_err-extend_from_slice-in-Some-clause-others :
    goal.returns-in_err-extend_from_slice-in-Some-clause-others
returns-in_err-extend_from_slice-in-Some-clause-others c =
    put_others _ c.args.names.now (c.get_mut.follows.lender c.extend_from_slice.new.self) _ ((c.get_mut.follows.holds c.extend_from_slice.new.self).3 (search rules))

pub returns-clause-ok : goal.returns-clause-ok
returns-clause-ok c =
    extended _ _ c.args.names.now (c.get_mut.follows.lender c.extend_from_slice.new.self) _ _ c.in-Some.ensures.value c.in_ok-extend_from_slice-in-Some.ensures.items ((c.get_mut.follows.holds c.extend_from_slice.new.self).3 (search rules))

pub returns-clause-others : goal.returns-clause-others
returns-clause-others c =
    put_others _ c.args.names.now (c.get_mut.follows.lender c.extend_from_slice.new.self) _ ((c.get_mut.follows.holds c.extend_from_slice.new.self).3 (search rules))

pub returns-then-not-contains_key-clause-ok : goal.returns-then-not-contains_key-clause-ok
returns-then-not-contains_key-clause-ok c =
    stored_absent _ _ c.args.names.now _ (none_of _ (sym c.contains_key.ensures ∙ c.if-not-contains_key.true)) c.in_ok-store.ensures.ok
