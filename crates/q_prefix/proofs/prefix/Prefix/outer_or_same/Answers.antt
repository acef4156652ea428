use Rattle.std.proofs.Common.{◌≡◌, sym, subst, refl, true}
use Rattle.q_logic.specs.Prelude.{is_bound}
use Rattle.q_arena.specs.Prelude.{list_at}
use Rattle.q_prefix.specs.Order.{FlatPrefix, rank_of, bounds_of}
use Rattle.q_prefix.proofs.PrefixRanks.{outer-by-rank}
use Rattle.q_prefix.proofs.ListedBounds.{has-bound, binds-has}
use Rattle.q_prefix.proofs.prefix.Prefix.outer_or_same.Goals as goal

pub returns : goal.returns
returns c =
    let marks = c.self.inside.marks.items in
    let vars = list_at c.self.inside.order 0 in
    let a = has-bound marks vars c.args.a (subst (λ (p : FlatPrefix). is_bound p.bounds c.args.a ≡ true) (sym c.self.view_is) c.requires.a) in
    let b = has-bound marks vars c.args.b (subst (λ (p : FlatPrefix). is_bound p.bounds c.args.b ≡ true) (sym c.self.view_is) c.requires.b) in
    let law = outer-by-rank (rank_of marks) (bounds_of marks vars) c.args.a c.args.b c.self.invariant.ranked (binds-has marks vars c.args.a a) (binds-has marks vars c.args.b b) in
    rw (← c.self.view_is) (rw (law, c.mark_of.ensures, c.mark_of-2.ensures) refl)
