use Rattle.std.proofs.Common.{◌≡◌, ◌≤◌, ◌+◌, length, get_or, Some, sym, ◌∙◌, ap, subst, arith}
use Rattle.q_logic.specs.Prelude.{Clause, Slots, set_slot}
use Rattle.q_logic.proofs.Common.{length-set_slot}
use Rattle.q_kernel.specs.Kernels.{slots}
use Rattle.q_kernel.proofs.FirstIds.{AreFirst, first-free, first-more, first-all, first-live}
use Rattle.q_kernel.proofs.SlotLists.{slot-get}
use Rattle.q_kernel.proofs.PrefixWalks.{literals-next, slice-item}
use Rattle.q_kernel.proofs.kernel.Kernel.start.Goals as goal

pub put_at-requires-clause-free : goal.put_at-requires-clause-free
put_at-requires-clause-free c =
    let i = c.loop-at.invariant in
    record {
      within = omega (arith, i.ids, c.loop-at-test.true, c.clauses-at-end.ensures.value);
      free = sym (slot-get (slots c.loop-at.kernel) c.loop-at.at) ∙ first-free (slots c.loop-at.kernel) c.args.formula.now.matrix c.loop-at.at i.first;
    }

pub put_at-requires-clause-words : goal.put_at-requires-clause-words
put_at-requires-clause-words c =
    let n = literals-next c.args.formula.now.matrix c.loop-at.at c.clause.result.now c.clause.ensures.value in
    omega (arith, c.loop-at.invariant.words)

pub loop-at-preserved : goal.loop-at-preserved
loop-at-preserved c =
    let X = c.args.formula.now.matrix in
    let C = c.clause.result.now in
    let i = c.loop-at.invariant in
    let below : c.loop-at.at + 1 ≤ length X = omega (arith, c.loop-at-test.true, c.clauses-at-end.ensures.value) in
    let more = first-more (slots c.loop-at.kernel) X c.loop-at.at C (omega arith) (omega (arith, i.ids)) i.first in
    let change : slots c.put_at.new.self ≡ set_slot c.loop-at.at (Some (get_or X c.loop-at.at C)) (slots c.loop-at.kernel) =
    c.put_at.ensures.change ∙ ap (λ (D : Clause). set_slot c.loop-at.at (Some D) (slots c.loop-at.kernel)) (sym (slice-item X c.loop-at.at C C c.clause.ensures.value)) in
    let len = ap length c.put_at.ensures.change ∙ length-set_slot c.loop-at.at (Some C) (slots c.loop-at.kernel) in
    let n = literals-next X c.loop-at.at C c.clause.ensures.value in
    record {
      first = subst (λ (N : Slots). AreFirst N X (c.loop-at.at + 1)) (sym change) more;
      prefix = c.put_at.ensures.rest.prefix ∙ i.prefix;
      text = c.put_at.ensures.rest.text ∙ i.text;
      ids = omega (arith, i.ids);
      words = omega (arith, i.words, c.put_at.ensures.words);
    }

pub returns-clause-ids : goal.returns-clause-ids
returns-clause-ids c = first-all (slots c.loop-at.kernel) c.args.formula.now.matrix c.loop-at.at (omega (arith, c.loop-at-test.false, c.clauses-at-end.ensures.value)) c.loop-at.invariant.first

pub returns-clause-matrix : goal.returns-clause-matrix
returns-clause-matrix c =
    first-live (slots c.loop-at.kernel) c.args.formula.now.matrix
    (first-all (slots c.loop-at.kernel) c.args.formula.now.matrix c.loop-at.at (omega (arith, c.loop-at-test.false, c.clauses-at-end.ensures.value)) c.loop-at.invariant.first)
