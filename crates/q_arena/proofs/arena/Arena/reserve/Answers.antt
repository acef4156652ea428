use Rattle.std.proofs.Common.{◌≤◌, ◌∙◌, ap, arith, length, List, refl, get_or, None, Option, inl, inr}
use Rattle.q_logic.specs.Prelude.{Literal}
use Rattle.q_arena.proofs.ClauseTotals.{live-count}
use Rattle.q_arena.proofs.MoreRoom.{clauses-grown, sound-grown, clause-more, start-more, sound-more}
use Rattle.q_arena.proofs.arena.Arena.reserve.Goals as goal

pub invariant_of-self : goal.invariant_of-self
invariant_of-self c =
    let i = c.self.inside in
    sound-grown i.words.items c.grow_words.new.words.items i.slots.items i.ids i.end i.total i.gap c.self.invariant c.grow_words.ensures.kept c.grow_words.ensures.same c.grow_words.ensures.few

pub invariant_of-self-then-ids-spare : goal.invariant_of-self-then-ids-spare
invariant_of-self-then-ids-spare c =
    let i = c.self.inside in
    sound-grown i.words.items c.grow_words.new.words.items i.slots.items i.ids i.end i.total i.gap c.self.invariant c.grow_words.ensures.kept c.grow_words.ensures.same c.grow_words.ensures.few

pub returns-in_err-grow_words-clause-same : goal.returns-in_err-grow_words-clause-same
returns-in_err-grow_words-clause-same c =
    let i = c.self.inside in
    let e = clauses-grown i.words.items c.grow_words.new.words.items i.slots.items i.ids i.end i.total c.self.invariant.laid c.grow_words.ensures.kept c.grow_words.ensures.same in
    rw (← c.self.view_is) (record {
      clauses = λ j. ap (λ (cs : List (Option (List Literal))). get_or cs j None) e;
      starts = λ j. refl;
    })

pub returns-then-ids-spare-clause-same : goal.returns-then-ids-spare-clause-same
returns-then-ids-spare-clause-same c =
    let i = c.self.inside in
    let e = clauses-grown i.words.items c.grow_words.new.words.items i.slots.items i.ids i.end i.total c.self.invariant.laid c.grow_words.ensures.kept c.grow_words.ensures.same in
    rw (← c.self.view_is) (record {
      clauses = λ j. ap (λ (cs : List (Option (List Literal))). get_or cs j None) e;
      starts = λ j. refl;
    })

pub invariant_of-self-2 : goal.invariant_of-self-2
invariant_of-self-2 c =
    let i = c.self.inside in
    let s = sound-grown i.words.items c.grow_words.new.words.items i.slots.items i.ids i.end i.total i.gap c.self.invariant c.grow_words.ensures.kept c.grow_words.ensures.same c.grow_words.ensures.few in
    let live = live-count i.words.items i.slots.items i.ids i.end i.total c.self.invariant.laid in
    let within = rw (← c.self.view_is) at c.requires in
    let few : length c.grow_ids.new.slots.items ≤ 4294967295 = elim c.grow_ids.ensures.exact [
      | inl a ↦ omega (arith, a, c.spare-spare.ensures, live, within, c.self.invariant.laid.count, c.if-ids-spare.false)
      | inr b ↦ omega (arith, b, c.self.invariant.laid.few)
    ] in
    sound-more i.slots.items c.grow_ids.new.slots.items i.ids c.grow_ids.new.ids c.grow_ids.ensures.more c.grow_words.new.words.items i.end i.total i.gap s few

pub returns-clause-same : goal.returns-clause-same
returns-clause-same c =
    let i = c.self.inside in
    let e = clauses-grown i.words.items c.grow_words.new.words.items i.slots.items i.ids i.end i.total c.self.invariant.laid c.grow_words.ensures.kept c.grow_words.ensures.same in
    rw (← c.self.view_is) (record {
      clauses = λ j. clause-more i.slots.items c.grow_ids.new.slots.items i.ids c.grow_ids.new.ids c.grow_ids.ensures.more c.grow_words.new.words.items j ∙ ap (λ (cs : List (Option (List Literal))). get_or cs j None) e;
      starts = λ j. start-more i.slots.items c.grow_ids.new.slots.items i.ids c.grow_ids.new.ids c.grow_ids.ensures.more j;
    })

pub returns-in_err-grow_words-clause-grown : goal.returns-in_err-grow_words-clause-grown
returns-in_err-grow_words-clause-grown c = rw (← c.self.view_is) (elim c.grow_words.ensures.exact [
  | inl a ↦ omega (arith, a)
  | inr b ↦ omega (arith, b, c.self.invariant.laid.within)
])

pub returns-then-ids-spare-clause-grown : goal.returns-then-ids-spare-clause-grown
returns-then-ids-spare-clause-grown c = rw (← c.self.view_is) (elim c.grow_words.ensures.exact [
  | inl a ↦ omega (arith, a)
  | inr b ↦ omega (arith, b, c.self.invariant.laid.within)
])

pub returns-clause-grown : goal.returns-clause-grown
returns-clause-grown c = rw (← c.self.view_is) (elim c.grow_words.ensures.exact [
  | inl a ↦ omega (arith, a)
  | inr b ↦ omega (arith, b, c.self.invariant.laid.within)
])
