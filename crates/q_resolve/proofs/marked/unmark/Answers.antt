use Rattle.std.proofs.Common.{◌≡◌, false, refl, sym, ◌∙◌, add-one}
use Rattle.q_logic.specs.Prelude.{pack}
use Rattle.q_pages.specs.ByNumber.{value_at}
use Rattle.q_resolve.proofs.MarkChanges.{unmarked-more}
use Rattle.q_resolve.proofs.marked.unmark.Goals.{then-get, else-get}
use Rattle.q_resolve.proofs.marked.unmark.Goals as goal

pub loop-lit-preserved : goal.loop-lit-preserved
loop-lit-preserved c =
    let marks = c.loop-lit.marks in
    let none = c.loop-lit.invariant.none in
    elim c.if-get.branch [
      | then-get w ↦
          let put = rw w.index-then-get.ensures at w.clear.ensures in
          rw (w.marks-is) (record {
            none = put.none ∙ none;
            marked = rw add-one (unmarked-more marks w.clear.new.self c.args.lits.now c.loop-lit.lit-index c.lit-item.result c.loop-lit-test.true c.lit-item.is (put.here ∙ none) put.others c.loop-lit.invariant.marked);
          })
      | else-get w ↦
          let unmarked : value_at marks (pack c.lit-item.result) ≡ false = rw (← c.index.ensures) (sym c.get.ensures ∙ w.if-get.false) in
          rw (w.marks-is) (record {
            none = none;
            marked = rw add-one (unmarked-more marks marks c.args.lits.now c.loop-lit.lit-index c.lit-item.result c.loop-lit-test.true c.lit-item.is unmarked (λ j n. refl) c.loop-lit.invariant.marked);
          })
    ]
