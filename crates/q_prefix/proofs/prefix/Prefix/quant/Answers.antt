use Rattle.std.proofs.Common.{sym, ◌∙◌, ap, true≢false, Some}
use Rattle.q_arena.specs.Prelude.{Has, list_at}
use Rattle.q_prefix.specs.declared.marks.Mark.{Mark}
use Rattle.q_prefix.proofs.ListedBounds.{quant-has, quant-none}
use Rattle.q_prefix.proofs.prefix.Prefix.quant.Goals as goal

pub returns-then-mark : goal.returns-then-mark
returns-then-mark c =
    let marks = c.self.inside.marks.items in
    let vars = list_at c.self.inside.order 0 in
    let there : Has vars c.args.var = c.self.invariant.bounds c.args.var (sym (ap (λ (m : Mark). m.bound) c.mark_of-mark.ensures) ∙ c.if-mark.true) in
    rw (← c.self.view_is) (ap (λ (m : Mark). Some m.quant) c.mark_of-mark.ensures ∙ sym (quant-has marks vars c.args.var there))

pub returns-else-mark : goal.returns-else-mark
returns-else-mark c =
    let marks = c.self.inside.marks.items in
    let vars = list_at c.self.inside.order 0 in
    rw (← c.self.view_is) (sym (quant-none marks vars c.args.var (λ h. true≢false (sym (c.self.invariant.bound c.args.var h) ∙ sym (ap (λ (m : Mark). m.bound) c.mark_of-mark.ensures) ∙ c.if-mark.false))))
