use Rattle.std.proofs.Common.{◌≡◌, ◌≤◌, ◌∙◌, sym, ap, arith}
use Rattle.q_qrp.specs.declared.trace.Row.{Row}
use Rattle.q_resolve.proofs.Coned.{line-there, found-at, found-not, found-not-at}
use Rattle.q_resolve.proofs.finding.find.Goals.{else-low-n-via-then-low-n+else-row-number-2, else-low-n-via-else-low-n}
use Rattle.q_resolve.proofs.finding.find.Goals as goal

pub returns-then-row-number-2 : goal.returns-then-row-number-2
returns-then-row-number-2 c =
    let lines = c.args.trace.now.lines in
    let r = line-there lines c.loop-low.low c.row-then-low-n.result c.row-then-low-n.ensures in
    let e : r.0.row.id ≡ c.args.number = ap (λ (x : Row). x.id) r.2 ∙ (let z = c.if-row-number-2.true in grind arith) in
    sym (found-at lines c.args.n c.loop-low.low c.args.number r.0 c.if-low-n.true r.1 e (λ j x h q. c.loop-low.invariant.below j x h q))

pub returns : goal.returns
returns c =
    let lines = c.args.trace.now.lines in
    let stop : c.loop-low.high ≤ c.loop-low.low = (let z = c.loop-low-test.false in omega arith) in
    elim c.else-low-n.branch [
      | else-low-n-via-then-low-n+else-row-number-2 w ↦
          let r = line-there lines c.loop-low.low w.row-then-low-n.result w.row-then-low-n.ensures in
          let n : r.0.row.id ≡ w.row-then-low-n.result.id = ap (λ (x : Row). x.id) r.2 in
          let le : c.args.number ≤ r.0.row.id = c.loop-low.invariant.above c.loop-low.low r.0 stop w.if-low-n.true r.1 in
          sym (found-not-at lines c.args.n c.args.number c.loop-low.low r.0 c.rises.ensures r.1 le
          (λ e. let z = w.if-row-number-2.false in let y : w.row-then-low-n.result.id ≡ c.args.number = sym n ∙ e in grind arith) (λ j x h q. c.loop-low.invariant.below j x h q))
      | else-low-n-via-else-low-n w ↦
          sym (found-not lines c.args.n c.args.number (λ j x h q e.
          let z = c.loop-low.invariant.below j x (let y = w.if-low-n.false in omega arith) q in omega arith))
    ]
