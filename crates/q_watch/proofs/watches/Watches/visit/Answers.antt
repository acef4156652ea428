use Rattle.std.proofs.Common.{refl, subst, arith}
use Rattle.q_logic.specs.Prelude.{Literal, negation, Clause, IsIn}
use Rattle.q_watch.proofs.QuietClauses.{quiet-next, other-in}
use Rattle.q_watch.proofs.MovedWatches.{stale-watches, stale-quiet}
use Rattle.q_watch.proofs.watches.Watches.visit.Goals as goal

pub returns-then-has-clause-visited : goal.returns-then-has-clause-visited
returns-then-has-clause-visited c =
    let S : Clause = c.args.set.now in
    let b : Literal = c.at-entry.result.blocker in (
      (λ H sub q. quiet-next c.args.kernel.now c.args.self.now c.args.c S S H c.args.lit c.args.i c.at-entry.result c.at-entry.ensures (λ j m. m)
          (λ D j n s m i. (b, i, (rw c.negated.ensures at c.has.ensures).0 c.if-has.true)) q),
      refl,
    )

pub returns-then-entry-c-clause-visited : goal.returns-then-entry-c-clause-visited
returns-then-entry-c-clause-visited c =
    let S : Clause = c.args.set.now in (
      (λ H sub q. quiet-next c.args.kernel.now c.args.self.now c.args.c S S H c.args.lit c.args.i c.at-entry.result c.at-entry.ensures (λ j m. m)
          (λ D j n s m i. absurd (n (omega (arith, c.if-entry-c.true)))) q),
      refl,
    )

pub returns-in_default-clause-right : goal.returns-in_default-clause-right
returns-in_default-clause-right c = stale-watches c.args.kernel.now c.args.self.now _ c.args.lit c.args.i c.at-entry.result c.at-entry.ensures refl c.remove.ensures c.in_default.ensures c.requires.right

pub returns-in_default-clause-visited : goal.returns-in_default-clause-visited
returns-in_default-clause-visited c = (
  (λ H sub q. stale-quiet c.args.kernel.now c.args.self.now _ c.args.lit c.args.i c.at-entry.result c.at-entry.ensures refl c.remove.ensures c.in_default.ensures c.args.c c.args.set.now H q),
  c.remove.ensures.here.shorter,
)

pub returns-then-has-2-clause-visited : goal.returns-then-has-2-clause-visited
returns-then-has-2-clause-visited c =
    let k = c.args.kernel.now in
    let w = c.args.self.now in
    let S : Clause = c.args.set.now in
    let o : Literal = c.in-Some.other in (
      (λ H sub q. quiet-next k w c.args.c S S H c.args.lit c.args.i c.at-entry.result c.at-entry.ensures (λ j m. m)
          (λ D j n s m i. (o, other-in k w c.at-entry.result.id c.args.lit o D j c.requires.right c.in-Some.ensures s m, (rw c.negated-2.ensures at c.has-2.ensures).0 c.if-has-2.true)) q),
      refl,
    )
