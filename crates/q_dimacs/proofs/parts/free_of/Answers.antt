use Rattle.std.proofs.Common.{◌∙◌, sym, arith}
use Rattle.q_dimacs.specs.Building.{is_marked_free}
use Rattle.q_dimacs.proofs.FreeVariables.{bounds-yes, bounds-no}
use Rattle.q_dimacs.proofs.parts.free_of.Goals as goal
use Rattle.q_dimacs.proofs.parts.free_of.Goals.{then-is_free_at+in_ok-push, else-is_free_at}

pub loop-var-preserved : goal.loop-var-preserved
loop-var-preserved c = elim c.if-is_free_at.branch [
  | then-is_free_at+in_ok-push w ↦
      (let b = bounds-yes (is_marked_free c.args.bound.now c.args.used.now) c.loop-var.var (sym c.is_free_at.ensures ∙ w.if-is_free_at.true) in
      let i = w.in_ok-push.ensures.items in
      grind (arith, b, i))
  | else-is_free_at w ↦
      (let b = bounds-no (is_marked_free c.args.bound.now c.args.used.now) c.loop-var.var (sym c.is_free_at.ensures ∙ w.if-is_free_at.false) in
      grind (arith, b))
]
