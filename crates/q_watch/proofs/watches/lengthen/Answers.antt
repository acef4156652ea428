use Rattle.std.proofs.Common.{◌≡◌, ◌++◌, ◌+◌, ◌≤◌, List, Some, length, slice_get, subst, sym, arith}
use Rattle.q_logic.proofs.Common.{taken-all}
use Rattle.q_watch.specs.declared.entry.Pair.{Pair}
use Rattle.q_watch.proofs.RowLemmas.{get-append}
use Rattle.q_watch.proofs.watches.lengthen.Goals as goal

pub returns-in_ok-resize-clause-same : goal.returns-in_ok-resize-clause-same
returns-in_ok-resize-clause-same c d p e =
    let old = c.args.pairs.now.items in
    let few : length old ≤ c.args.id + 1 = omega (arith, c.len.ensures, c.if-len-end.true, c.args.pairs.now.ok.0) in
    subst (λ (ps : List Pair). slice_get ps d ≡ Some p) (sym c.in_ok-resize.ensures.items) (get-append _ _ d p (subst (λ (ps : List Pair). slice_get ps d ≡ Some p) (sym (taken-all old (c.args.id + 1) few)) e))
