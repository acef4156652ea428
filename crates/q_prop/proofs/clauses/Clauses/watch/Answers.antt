use Rattle.std.proofs.Common.{◌≡◌, Some, slice_get, map, ap, ◌∙◌}
use Rattle.q_prop.specs.declared.clauses.Piece.{Piece}
use Rattle.q_prop.specs.declared.pairs.Pair.{Pair}
use Rattle.q_prop.specs.Pieces.{pair_of}
use Rattle.q_prop.proofs.PieceLemmas.{piece-there, within-watched, slots-watched, pairs-watched}
use Rattle.q_prop.proofs.clauses.Clauses.watch.Goals as goal

pub invariant_of-self : goal.invariant_of-self
invariant_of-self c =
    let i = c.self.inside in
    let r : (p : Pair) × (slice_get (map pair_of i.pieces.items) c.args.at ≡ Some (Some p)) = rw (← c.self.view_is) at c.requires in
    let here = piece-there i.pieces.items c.args.at c.index.result.now r.0 r.1 c.index.ensures ∙ ap (λ (p : Piece). Some p) c.in-Long.is in
    within-watched i.pieces.items c.args.at c.in-Long.start c.in-Long.end c.in-Long.pair c.args.pair here i.lits.items c.self.invariant

pub returns-clause-slots : goal.returns-clause-slots
returns-clause-slots c =
    let i = c.self.inside in
    let r : (p : Pair) × (slice_get (map pair_of i.pieces.items) c.args.at ≡ Some (Some p)) = rw (← c.self.view_is) at c.requires in
    let here = piece-there i.pieces.items c.args.at c.index.result.now r.0 r.1 c.index.ensures ∙ ap (λ (p : Piece). Some p) c.in-Long.is in
    rw (← c.self.view_is) (slots-watched i.pieces.items c.args.at c.in-Long.start c.in-Long.end c.in-Long.pair c.args.pair here i.lits.items)

pub returns-clause-pairs : goal.returns-clause-pairs
returns-clause-pairs c =
    let i = c.self.inside in
    let r : (p : Pair) × (slice_get (map pair_of i.pieces.items) c.args.at ≡ Some (Some p)) = rw (← c.self.view_is) at c.requires in
    let here = piece-there i.pieces.items c.args.at c.index.result.now r.0 r.1 c.index.ensures ∙ ap (λ (p : Piece). Some p) c.in-Long.is in
    rw (← c.self.view_is) (pairs-watched i.pieces.items c.args.at c.in-Long.start c.in-Long.end c.in-Long.pair c.args.pair here)
