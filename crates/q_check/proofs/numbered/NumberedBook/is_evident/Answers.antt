use Rattle.std.proofs.Common.{inr}
use Rattle.std.proofs.lemmas.Result.{IfOk-weaker}
use Rattle.q_logic.proofs.Common.{warranted-within}
use Rattle.q_logic.specs.Prelude.{live}
use Rattle.q_prop.specs.Slots.{filled, without}
use Rattle.q_check.specs.Numbers.{numbered_by, left_out, place_in}
use Rattle.q_check.proofs.HintNumbers.{linked, linked-forth, linked-back}
use Rattle.q_check.proofs.numbered.NumberedBook.is_evident.Goals as goal

pub returns-clause-warranted : goal.returns-clause-warranted
returns-clause-warranted c =
    let s = c.self.inside.ledger.slots in
    let ps = c.self.inside.numbers in
    let S = without s (place_in ps c.args.skip) in
    let N = left_out c.args.skip (numbered_by s ps) in
    let w = linked s ps c.self.invariant c.args.skip in
    let pivot = rw c.skipped_slot-left_out.ensures at c.is_evident.ensures.pivot in
    rw (← c.self.view_is) (IfOk-weaker c.is_evident.result _ _ (λ yes h t. warranted-within c.self.inside.ledger.prefix (filled S) (live N) c.args.named.now.clause.now c.args.named.now.first (linked-forth S N ps w) (linked-back S N ps w) (inr (h t))) pivot)
