use Rattle.std.proofs.Common.{◌≡◌, sym, ◌∙◌, subst, Some, inl, inr, true≢false, arith}
use Rattle.std.proofs.lemmas.Bool.{cases_lt}
use Rattle.std.proofs.lemmas.Option.{same_Some}
use Rattle.q_arena.specs.Seen.{Clauses, clause_at, IsLive}
use Rattle.q_arena.proofs.Layouts.{live-below}
use Rattle.q_arena.proofs.ClauseWords.{live-of}
use Rattle.q_arena.proofs.arena.Arena.next_live.Goals as goal

pub returns-then-live-clause-least : goal.returns-then-live-clause-least
returns-then-live-clause-least c = λ id k e f l x.
    let same = same_Some c.loop-id.id id e in
    c.loop-id.invariant k f (omega (arith, same, l)) x

pub loop-id-preserved : goal.loop-id-preserved
loop-id-preserved c = λ k f l x. elim (cases_lt k c.loop-id.id) [
  | inl a ↦ c.loop-id.invariant k f a x
  | inr b ↦
      let same : k ≡ c.loop-id.id = omega (arith, l, b) in
      absurd (true≢false (sym (c.live.ensures.1 (subst (IsLive c.args.self.now) same x)) ∙ c.if-live.false))
]

pub returns-clause-none : goal.returns-clause-none
returns-clause-none c = λ e k f x.
    let i = c.self.inside in
    let q = subst (λ (v : Clauses). clause_at v k ≡ Some x.0) (sym c.self.view_is) x.1 in
    let b = live-below i.slots.items k (live-of i.words.items i.slots.items k x.0 q) in
    c.loop-id.invariant k f (omega (arith, b)) x
