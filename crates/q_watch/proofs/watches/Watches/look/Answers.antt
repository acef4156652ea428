use Rattle.std.proofs.Common.{◌≡◌, ◌≢◌, ◌∙◌, Some, slice_get, length, refl, sym, subst}
use Rattle.q_logic.specs.Prelude.{Literal, negation, Clause, IsIn, slot}
use Rattle.q_logic.proofs.Common.{test-false}
use Rattle.q_kernel.specs.Prelude.{slots}
use Rattle.q_rule.proofs.IdClauses.{slot-one}
use Rattle.q_watch.specs.declared.entry.Entry.{Entry}
use Rattle.q_watch.specs.declared.visit.Visit.TheVariants.{Gives}
use Rattle.q_watch.specs.Rows.{row_of, entry_of}
use Rattle.q_watch.specs.Visits.{IsVisited}
use Rattle.q_watch.proofs.RowLemmas.{get-within}
use Rattle.q_watch.proofs.QuietClauses.{quiet-next, other-in, other-alone, gift, empty-none, some-in}
use Rattle.q_watch.proofs.MovedWatches.{watches-less, moved-watches, moved-quiet, moved-shorter}
use Rattle.q_watch.proofs.watches.Watches.look.Goals as goal

pub returns-then-not-live-clause-visited : goal.returns-then-not-live-clause-visited
returns-then-not-live-clause-visited c =
    let k = c.args.kernel.now in
    let S : Clause = c.args.set.now in
    let e = c.requires.entry in (
      (λ H sub q. quiet-next k c.args.self.now c.args.c S S H c.args.lit c.args.i e.0 e.1 (λ j m. m)
          (λ D j n s m b. absurd (test-false c.live.result c.live.ensures c.if-not-live.true (D, subst (λ x. slot (slots k) x ≡ Some D) e.2 s))) q),
      refl,
    )

pub returns-then-is_empty-clause-visited : goal.returns-then-is_empty-clause-visited
returns-then-is_empty-clause-visited c =
    let k = c.args.kernel.now in
    let S : Clause = c.args.set.now in
    let C : Clause = c.lits-clause.result.now in
    let e = c.requires.entry in (
      (λ H sub q. quiet-next k c.args.self.now c.args.c S S H c.args.lit c.args.i e.0 e.1 (λ j m. m)
          (λ D j n s m b. absurd (empty-none C j (sym c.is_empty.ensures ∙ c.if-is_empty.true) (subst (λ (E : Clause). IsIn j E) (slot-one (slots k) c.args.id D C (subst (λ x. slot (slots k) x ≡ Some D) e.2 s) c.lits-clause.ensures.clause) m))) q),
      refl,
    )

pub returns-in_default-clause-visited : goal.returns-in_default-clause-visited
returns-in_default-clause-visited c =
    let k = c.args.kernel.now in
    let w = c.args.self.now in
    let S : Clause = c.args.set.now in
    let o : Literal = c.args.other in
    let C : Clause = c.lits-clause.result.now in
    let e = c.requires.entry in
    let j = some-in C (sym c.is_empty.ensures ∙ c.if-is_empty.false) in
    let there = c.lits-clause.ensures.clause in
    let o-in : IsIn o C = other-in k w c.args.id c.args.lit o C j.0 c.requires.right c.requires.other there j.1 in
    subst (λ (x : Literal). IsVisited k c.args.c S c.args.lit c.args.i w w (Gives (record { id = c.args.id; lit = x }))) (sym c.negated-lit.ensures) (
      gift k c.args.c S c.args.id o C c.requires.beside there o-in c.in_default.ensures c.requires.new,
      (λ H T more come q. quiet-next k w c.args.c S T H c.args.lit c.args.i e.0 e.1 more
          (λ D i n s m b. (o, subst (λ (E : Clause). IsIn o E) (slot-one (slots k) c.args.id C D there (subst (λ x. slot (slots k) x ≡ Some D) e.2 s)) o-in, come)) q),
      refl,
    )

pub rewatch-requires-clause-apart : goal.rewatch-requires-clause-apart
rewatch-requires-clause-apart c q = c.in-Some.ensures.2 (subst (λ (x : Literal). IsIn x c.args.set.now) (sym q) c.requires.there)

pub rewatch-requires-clause-i : goal.rewatch-requires-clause-i
rewatch-requires-clause-i c = let e = c.requires.entry in get-within _ c.args.i e.0 e.1

pub rewatch-requires-clause-pair : goal.rewatch-requires-clause-pair
rewatch-requires-clause-pair c = let o = c.requires.other in get-within _ c.args.id o.0 o.1

pub returns-in_err-rewatch-clause-right : goal.returns-in_err-rewatch-clause-right
returns-in_err-rewatch-clause-right c = watches-less c.args.kernel.now c.args.self.now c.rewatch.new.self c.in_err-rewatch.ensures.err c.requires.right

pub returns-clause-right : goal.returns-clause-right
returns-clause-right c =
    let k = c.args.kernel.now in
    let w = c.args.self.now in
    let l : Literal = c.args.lit in
    let o : Literal = c.args.other in
    let m : Literal = c.in-Some.new in
    let C : Clause = c.lits-clause.result.now in
    let e = c.requires.entry in
    let f = c.in-Some.ensures in
    let there = c.lits-clause.ensures.clause in
    let m-l : m ≢ l = λ q. f.2 (subst (λ (x : Literal). IsIn x c.args.set.now) (sym q) c.requires.there) in
    let at' : slice_get (row_of w.rows l) c.args.i ≡ Some (entry_of c.args.id e.0.blocker) = subst (λ x. slice_get (row_of w.rows l) c.args.i ≡ Some (entry_of x e.0.blocker)) e.2 e.1 in
    moved-watches k w c.rewatch.new.self l c.args.i (record { id = c.args.id; blocker = o }) e.0.blocker o m C at' c.requires.other refl there f.0 (other-in k w c.args.id l o C m c.requires.right c.requires.other there f.0) f.1 m-l
    (λ q. m-l (other-alone k w c.args.id l o C m c.requires.right c.requires.other there f.0 q)) c.in_ok-rewatch.ensures.ok c.requires.right

pub returns-clause-visited : goal.returns-clause-visited
returns-clause-visited c =
    let k = c.args.kernel.now in
    let w = c.args.self.now in
    let l : Literal = c.args.lit in
    let o : Literal = c.args.other in
    let m : Literal = c.in-Some.new in
    let S : Clause = c.args.set.now in
    let C : Clause = c.lits-clause.result.now in
    let e = c.requires.entry in
    let f = c.in-Some.ensures in
    let there = c.lits-clause.ensures.clause in
    let m-l : m ≢ l = λ q. f.2 (subst (λ (x : Literal). IsIn x S) (sym q) c.requires.there) in
    let at' : slice_get (row_of w.rows l) c.args.i ≡ Some (entry_of c.args.id e.0.blocker) = subst (λ x. slice_get (row_of w.rows l) c.args.i ≡ Some (entry_of x e.0.blocker)) e.2 e.1 in
    let o-in = other-in k w c.args.id l o C m c.requires.right c.requires.other there f.0 in
    let o-l : o ≢ l = λ q. m-l (other-alone k w c.args.id l o C m c.requires.right c.requires.other there f.0 q) in
    let x : Entry = record { id = c.args.id; blocker = o } in (
      (λ H sub q. moved-quiet k w c.rewatch.new.self l c.args.i x e.0.blocker o m C at' c.requires.other refl there f.0 o-in f.1 m-l o-l c.in_ok-rewatch.ensures.ok c.args.c S H (λ z. f.2 (sub m z)) q),
      moved-shorter k w c.rewatch.new.self l c.args.i x e.0.blocker o m C at' c.requires.other refl there f.0 o-in f.1 m-l o-l c.in_ok-rewatch.ensures.ok,
    )
