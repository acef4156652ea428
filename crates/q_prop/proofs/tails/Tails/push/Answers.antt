use Rattle.std.proofs.Common.{◌≡◌, ◌++◌, ◌∷◌, [], length, arith}
use Rattle.q_prop.specs.declared.tails.Span.{Span}
use Rattle.q_prop.proofs.TailLemmas.{pushed_tails}
use Rattle.q_prop.proofs.tails.Tails.push.Goals as goal

pub returns-clause-ok : goal.returns-clause-ok
returns-clause-ok c =
    let i = c.self.inside in
    let row = i.lits.items in
    let lits = c.args.lits.now in
    let p : Span = record { start = c.len-start.result; end = c.len.result } in
    let more : c.extend_from_slice.new.self.items ≡ row ++ lits = c.in_ok-extend_from_slice.ensures.items in
    let spans : c.push_reserved.new.self.items ≡ i.spans.items ++ p ∷ [] = rw c.reserve.ensures.items at c.push_reserved.ensures.items in
    let s : c.len-start.result ≡ length row = omega (arith, c.len-start.ensures, i.lits.ok.0) in
    let all : c.len.result ≡ length c.extend_from_slice.new.self.items = omega (arith, c.len.ensures, c.extend_from_slice.new.self.ok.0) in
    let e : c.len.result ≡ length (row ++ lits) = rw more at all in
    rw (more, spans, ← c.self.view_is) (pushed_tails row lits i.spans.items p s e c.self.invariant)
