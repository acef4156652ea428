use Rattle.std.proofs.Common.{◌+◌, ◌≤◌, ◌++◌, ◌∙◌, [], ap, sym, append-nil, arith, length, get_or, None}
use Rattle.q_logic.specs.declared.formulas.Bound.{Bound}
use Rattle.q_logic.specs.declared.formulas.Quant.TheVariants.{Exists}
use Rattle.q_logic.proofs.Common.{on_err}
use Rattle.q_dimacs.specs.Writing.{bound_text, bounds_text, closing}
use Rattle.q_dimacs.proofs.UnwrittenLists.{bounds-done, bounds-next, blocks-bounds, next-fits}
use Rattle.q_text.proofs.LongerTexts.{extends-more}
use Rattle.q_dimacs.proofs.writer.put_prefix.Goals as goal

-- a bound at no place
abbrev none : Bound
none = record { quant = Exists; var = 0 }

pub returns-in_err-put_bound-clause-err : goal.returns-in_err-put_bound-clause-err
returns-in_err-put_bound-clause-err c = on_err c.from_residual.result (extends-more _ _ _ c.loop-bound.invariant.before c.in_err-put_bound.ensures.err)

pub returns-in_err-put_closing-clause-err : goal.returns-in_err-put_closing-clause-err
returns-in_err-put_closing-clause-err c = on_err c.from_residual-in_err-put_closing.result (extends-more _ _ _ c.loop-bound.invariant.before c.in_err-put_closing.ensures.err)

pub returns-clause-ok : goal.returns-clause-ok
returns-clause-ok c =
    let done = bounds-done c.args.prefix.now c.loop-bound.block c.loop-bound.bound-index c.loop-bound-test.false in
    c.in_ok-put_closing.ensures.ok
    ∙ (ap (λ x. c.loop-bound.text.items ++ x) (sym done)
    ∙ (c.loop-bound.invariant.text ∙ ap (λ x. c.args.text.now.items ++ x) (blocks-bounds c.args.prefix.now)))

pub returns-in_err-put_bound-clause-room : goal.returns-in_err-put_bound-clause-room
returns-in_err-put_bound-clause-room c = λ h.
    let next = bounds-next c.args.prefix.now c.loop-bound.block c.loop-bound.bound-index none c.loop-bound-test.true in
    let bound = get_or c.args.prefix.now c.loop-bound.bound-index none in
    let fits : length c.loop-bound.text.items + length (bound_text c.loop-bound.block bound) ≤ length c.args.text.now.items + length (bounds_text None c.args.prefix.now) =
    next-fits _ _ _ _ _ _ c.loop-bound.invariant.text next in
    let whole = ap length (blocks-bounds c.args.prefix.now) in
    let full = c.in_err-put_bound.ensures.room (omega (arith, c.loop-bound.text.ok.0, c.args.text.now.ok.0)) in
    absurd (cc)

pub returns-in_err-put_closing-clause-room : goal.returns-in_err-put_closing-clause-room
returns-in_err-put_closing-clause-room c = λ h.
    let done = bounds-done c.args.prefix.now c.loop-bound.block c.loop-bound.bound-index c.loop-bound-test.false in
    let fits : length c.loop-bound.text.items + length (closing c.loop-bound.block) ≤ length c.args.text.now.items + length (bounds_text None c.args.prefix.now) =
    next-fits _ _ _ _ _ [] c.loop-bound.invariant.text (done ∙ sym (append-nil _)) in
    let whole = ap length (blocks-bounds c.args.prefix.now) in
    let full = c.in_err-put_closing.ensures.room (omega (arith, c.loop-bound.text.ok.0, c.args.text.now.ok.0)) in
    absurd (cc)
