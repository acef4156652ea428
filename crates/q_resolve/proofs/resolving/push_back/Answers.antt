use Rattle.std.proofs.Common.{◌≡◌, ◌+◌, ◌++◌, ◌∷◌, [], ◌<◌, ◌≤◌, map, take, sym, ap, ◌∙◌, List, arith}
use Rattle.std.proofs.lemmas.List.{append-nil}
use Rattle.q_logic.specs.Prelude.{Literal}
use Rattle.q_logic.specs.Prefixes.{place}
use Rattle.q_logic.proofs.Common.{taken}
use Rattle.q_resolve.specs.Sides.{sided}
use Rattle.q_resolve.specs.Reduced.{back_of}
use Rattle.q_resolve.proofs.Joined.{row-more, back-last, back-yes, back-no}
use Rattle.q_resolve.proofs.resolving.push_back.Goals.{then-seat-at+in_ok-push, else-seat-at}
use Rattle.q_resolve.proofs.resolving.push_back.Goals as goal

pub loop-k-preserved : goal.loop-k-preserved
loop-k-preserved c =
    let P = c.args.prefix.now in
    let at = c.args.at in
    let o = c.args.owner in
    let R = c.args.parent.now in
    let x = c.k-item.result in
    let xs = take c.loop-k.k-index R in
    let e : take (c.loop-k.k-index + 1) R ≡ xs ++ x ∷ [] = taken R c.loop-k.k-index x c.loop-k-test.true c.k-item.is in
    elim c.if-seat-at.branch [
      | then-seat-at+in_ok-push w ↦
          let h : at ≤ place P x.var = (let z = w.if-seat-at.true in let s = c.seat.ensures in omega arith) in
          let n : back_of P at (x ∷ []) ≡ x ∷ [] = back-yes P at x h in
          let m : w.push.new.self.items ≡ c.loop-k.row.items ++ map (sided o) (back_of P at (x ∷ [])) =
          w.in_ok-push.ensures.items ∙ ap (λ (k : Literal). c.loop-k.row.items ++ k ∷ []) w.side.ensures ∙ sym (ap (λ (ys : List Literal). c.loop-k.row.items ++ map (sided o) ys) n) in
          ap (λ r. r.items) w.row-is ∙
          row-more (back_of P at) (back-last P at) o c.args.row.now.items c.loop-k.row.items w.push.new.self.items xs (take (c.loop-k.k-index + 1) R) x e c.loop-k.invariant m
      | else-seat-at w ↦
          let h : place P x.var < at = (let z = w.if-seat-at.false in let s = c.seat.ensures in omega arith) in
          let n : back_of P at (x ∷ []) ≡ [] = back-no P at x h in
          let m : c.loop-k.row.items ≡ c.loop-k.row.items ++ map (sided o) (back_of P at (x ∷ [])) =
          sym (ap (λ (ys : List Literal). c.loop-k.row.items ++ map (sided o) ys) n ∙ append-nil c.loop-k.row.items) in
          ap (λ r. r.items) w.row-is ∙
          row-more (back_of P at) (back-last P at) o c.args.row.now.items c.loop-k.row.items c.loop-k.row.items xs (take (c.loop-k.k-index + 1) R) x e c.loop-k.invariant m
    ]
