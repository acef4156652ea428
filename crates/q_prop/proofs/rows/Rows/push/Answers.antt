use Rattle.std.proofs.Common.{◌≡◌, ◌<◌, ◌+◌, length, arith, ap, ◌∷◌, [], ◌++◌, List, sym, ◌∙◌, Vec, Global, get_or, map, set}
use Rattle.q_prop.specs.declared.rows.Entry.{Entry}
use Rattle.std.proofs.Common.{ℕ, subst}
use Rattle.std.proofs.lemmas.Result.{on_ok_weaker}
use Rattle.q_logic.specs.Prelude.{pack}
use Rattle.q_pages.specs.Tables.{place_in}
use Rattle.q_prop.specs.Rows.{entry_of}
use Rattle.q_prop.proofs.ListLemmas.{on_err_then}
use Rattle.q_prop.proofs.WatchRows.{pushed-free, pushed, not-pushed}
use Rattle.q_prop.proofs.rows.Rows.push.Goals as goal

pub invariant_of-self-2 : goal.invariant_of-self-2
invariant_of-self-2 c =
    let f : Vec Entry Global → List Entry = λ v. v.items in
    let m = c.make_room.ensures in
    pushed-free c.self.inside.table c.make_room.new.table (map f c.self.inside.rows.items) (map f c.make_room.new.rows.items) m.given c.self.invariant m.same
    (map f c.push_at.new.rows.items) c.args.lit c.distinct.ensures (rw c.index.ensures at c.in_ok-place.ensures.page) (rw (c.in_ok-place.ensures.place.0, c.index.ensures) at c.push_at.ensures.others)

pub returns-clause-ok : goal.returns-clause-ok
returns-clause-ok c =
    let f : Vec Entry Global → List Entry = λ v. v.items in
    let m = c.make_room.ensures in
    rw (← c.self.view_is) (on_ok_weaker c.push_at.result (λ h. pushed c.self.inside.table c.make_room.new.table (map f c.self.inside.rows.items) (map f c.make_room.new.rows.items) m.given c.self.invariant m.same
    (map f c.push_at.new.rows.items) c.args.lit c.distinct.ensures (rw c.index.ensures at c.in_ok-place.ensures.page) (rw (c.in_ok-place.ensures.place.0, c.index.ensures) at c.push_at.ensures.others)
    (entry_of c.args.slot c.args.blocker) (rw (c.in_ok-place.ensures.place.0, c.index.ensures) at h)) c.push_at.ensures.ok)

pub returns-clause-err : goal.returns-clause-err
returns-clause-err c =
    let f : Vec Entry Global → List Entry = λ v. v.items in
    let m = c.make_room.ensures in
    rw (← c.self.view_is) (on_err_then c.push_at.result (λ h. not-pushed c.self.inside.table c.make_room.new.table (map f c.self.inside.rows.items) (map f c.make_room.new.rows.items) m.given c.self.invariant m.same
    (map f c.push_at.new.rows.items) c.args.lit c.distinct.ensures (rw c.index.ensures at c.in_ok-place.ensures.page) (rw (c.in_ok-place.ensures.place.0, c.index.ensures) at c.push_at.ensures.others)
    (rw (c.in_ok-place.ensures.place.0, c.index.ensures) at h)) c.push_at.ensures.err)
