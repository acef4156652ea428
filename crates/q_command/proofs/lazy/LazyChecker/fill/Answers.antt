use Rattle.std.proofs.Common.{◌≡◌, ◌∙◌, sym, arith, None, vec_len}
use Rattle.q_command.proofs.BothCheckers.{first-none, first-pushed, new-plain-ready, started-plain}
use Rattle.q_command.specs.LazyCheckers.{first_in}
use Rattle.q_command.proofs.lazy.LazyChecker.fill.Goals as goal

pub returns-clause-ready : goal.returns-clause-ready
returns-clause-ready c = λ F h.
    let none : first_in c.self.inside.row.items ≡ None = first-none c.self.inside.row.items (vec_len c.self.inside.row) (omega arith) (sym c.is_empty.ensures ∙ c.if-not-is_empty.false) in
    new-plain-ready c.args.keeps_undo F c.in-Some.formula.now c.args.origin.now c.args.self.now _ c.in_ok-checker.checker c.in-Some.ensures
    (sym c.self.view_is ∙ none)
    (first-pushed c.self.inside.row.items c.reserve.new.self.items c.push_reserved.new.self.items c.in_ok-checker.checker none c.in_ok-reserve.ensures.items c.push_reserved.ensures.items)
    (started-plain c.args.keeps_undo c.in-Some.formula.now c.standard-limits.result c.in_ok-checker.checker c.in_ok-checker.ensures.started c.standard-limits.ensures)
    h
