use Rattle.std.proofs.Common.{sym, ◌∙◌, ap, subst, arith}
use Rattle.std.proofs.lemmas.Option.{same_Some}
use Rattle.q_arena.specs.Layout.{slot_at}
use Rattle.q_arena.specs.Seen.{piece, IsLive, IsFirstPastDead, Clauses}
use Rattle.q_arena.proofs.Layouts.{live-below}
use Rattle.q_arena.proofs.ClauseWords.{clause-live}
use Rattle.q_arena.proofs.FilledWords.{gap-words}
use Rattle.q_arena.proofs.GapLemmas.{gap-none, gap-some, gap-in}
use Rattle.q_arena.proofs.arena.Arena.next_to_slide.Goals as goal

pub overflow_cast-result : goal.overflow_cast-result
overflow_cast-result c =
    let i = c.self.inside in
    let first = sym c.self.invariant.known ∙ c.in_ok-id.was in
    let l = c.self.invariant.laid.live c.in_ok-id.id (gap-in (slot_at i.slots.items) i.ids.used c.in_ok-id.id first) in
    omega (arith, live-below i.slots.items c.in_ok-id.id l, c.self.invariant.laid.few)

pub returns-in_err-id-clause-none : goal.returns-in_err-id-clause-none
returns-in_err-id-clause-none c = λ e.
    let i = c.self.inside in
    let full = gap-none (slot_at i.slots.items) i.ids.used c.self.invariant.laid.stack (sym c.self.invariant.known ∙ c.in_err-id.was) in
    rw (← c.self.view_is) (omega (arith, full, c.self.invariant.laid.top, c.self.invariant.laid.whole))

pub returns-clause-some : goal.returns-clause-some
returns-clause-some c = λ id e.
    let i = c.self.inside in
    let g = c.in_ok-id.id in
    let first = sym c.self.invariant.known ∙ c.in_ok-id.was in
    let less = gap-some (slot_at i.slots.items) i.ids.used g c.self.invariant.laid.stack first in
    let l = c.self.invariant.laid.live g (gap-in (slot_at i.slots.items) i.ids.used g first) in
    let words = gap-words i.words.items i.slots.items i.ids i.end i.total c.self.invariant.laid c.args.self.now (ap (λ (v : Clauses). v.clauses) (sym c.self.view_is)) (ap (λ (v : Clauses). v.starts) (sym c.self.view_is)) g first in
    let live : IsLive c.args.self.now g = rw (← c.self.view_is) (piece i.words.items (slot_at i.slots.items g).start (slot_at i.slots.items g).len, clause-live i.words.items i.slots.items g l) in
    let there : IsFirstPastDead c.args.self.now g = record { live = live; dead = words.0; first = words.1 } in (
      rw (← c.self.view_is) (omega (arith, less, c.self.invariant.laid.top, c.self.invariant.laid.whole)),
      subst (IsFirstPastDead c.args.self.now) (same_Some g id e) there,
    )
