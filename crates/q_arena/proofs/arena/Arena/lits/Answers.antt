use Rattle.std.proofs.Common.{◌≡◌, sym, ◌∙◌, ap, arith, length, Some, List, subst}
use Rattle.std.proofs.lemmas.List.{get_or_default}
use Rattle.q_logic.specs.Prelude.{Literal}
use Rattle.q_arena.specs.Layout.{slot_at, no_slot}
use Rattle.q_arena.specs.Seen.{Clauses, clause_at, piece}
use Rattle.q_arena.proofs.Layouts.{live-room, live-below}
use Rattle.q_arena.proofs.ClauseWords.{live-of, clause-live}
use Rattle.q_arena.proofs.arena.Arena.lits.Goals as goal

pub part-requires : goal.part-requires
part-requires c =
    let i = c.self.inside in
    let q = subst (λ (v : Clauses). clause_at v c.args.id ≡ Some c.requires.0) (sym c.self.view_is) c.requires.1 in
    let l = live-of i.words.items i.slots.items c.args.id c.requires.0 q in
    let r = live-room (length i.words.items) i.slots.items i.ids i.end i.total c.args.id c.self.invariant.laid l in
    let e : c.index-slot.result.now ≡ slot_at i.slots.items c.args.id = c.index-slot.ensures ∙ get_or_default i.slots.items c.args.id c.index-slot.result.now no_slot (live-below i.slots.items c.args.id l) in
    let a = ap (λ k. k.start) e in
    let b = ap (λ k. k.len) e in
    omega (arith, a, b, r)

pub returns-clause-clause : goal.returns-clause-clause
returns-clause-clause c =
    let i = c.self.inside in
    let q = subst (λ (v : Clauses). clause_at v c.args.id ≡ Some c.requires.0) (sym c.self.view_is) c.requires.1 in
    let l = live-of i.words.items i.slots.items c.args.id c.requires.0 q in
    let e : c.index-slot.result.now ≡ slot_at i.slots.items c.args.id = c.index-slot.ensures ∙ get_or_default i.slots.items c.args.id c.index-slot.result.now no_slot (live-below i.slots.items c.args.id l) in
    let k = clause-live i.words.items i.slots.items c.args.id l in
    rw (← c.self.view_is) (k ∙ ap (λ (x : List Literal). Some x) (ap (λ s. piece i.words.items s.start s.len) (sym e) ∙ ap (λ (ws : List Literal). piece ws c.index-slot.result.now.start c.index-slot.result.now.len) (sym c.deref.ensures.value) ∙ sym c.part.ensures))

pub returns-clause-ordered : goal.returns-clause-ordered
returns-clause-ordered c =
    let i = c.self.inside in
    let q = subst (λ (v : Clauses). clause_at v c.args.id ≡ Some c.requires.0) (sym c.self.view_is) c.requires.1 in
    let l = live-of i.words.items i.slots.items c.args.id c.requires.0 q in
    let e : c.index-slot.result.now ≡ slot_at i.slots.items c.args.id = c.index-slot.ensures ∙ get_or_default i.slots.items c.args.id c.index-slot.result.now no_slot (live-below i.slots.items c.args.id l) in
    let k = clause-live i.words.items i.slots.items c.args.id l in
    c.self.invariant.ordered c.args.id c.part.result.now (k ∙ ap (λ (x : List Literal). Some x) (ap (λ s. piece i.words.items s.start s.len) (sym e) ∙ ap (λ (ws : List Literal). piece ws c.index-slot.result.now.start c.index-slot.result.now.len) (sym c.deref.ensures.value) ∙ sym c.part.ensures))
