use Rattle.std.proofs.Common.{◌≡◌, ◌∙◌, ◌∷◌, ◌++◌, [], Some, None, List, Option, ℕ, set, ap}
use Rattle.q_logic.specs.Prelude.{Prefix, NumberedFormula, Slots}
use Rattle.q_check.specs.Numbers.{numbered_by}
use Rattle.q_check.proofs.SlotNumbers.{sizes, set-last}
use Rattle.q_check.proofs.NumberedSteps.{put-numbered, put-numbers}
use Rattle.q_check.proofs.numbered.NumberedBook.add.Goals as goal

pub put-requires-clause-few_clauses : goal.put-requires-clause-few_clauses
put-requires-clause-few_clauses c =
    let h = rw (← c.self.view_is) at c.requires.few_clauses in
    rw (sizes c.self.inside.ledger.slots c.self.inside.numbers c.self.invariant).0 h

pub put-requires-clause-few_lits : goal.put-requires-clause-few_lits
put-requires-clause-few_lits c =
    let h = rw (← c.self.view_is) at c.requires.few_lits in
    rw (sizes c.self.inside.ledger.slots c.self.inside.numbers c.self.invariant).1 h

pub invariant_of-self-in-Ok : goal.invariant_of-self-in-Ok
invariant_of-self-in-Ok c =
    let ps = c.self.inside.numbers in
    let e : c.put-in-Ok.new.self ≡ ps ++ Some c.in-Ok.at ∷ [] =
    c.put-in-Ok.ensures ∙ ap (λ (qs : List (Option ℕ)). set qs c.next-number.result (Some c.in-Ok.at)) c.in_ok-give.ensures.ok ∙
    ap (λ (n : ℕ). set (ps ++ None ∷ []) n (Some c.in-Ok.at)) c.next-number.ensures ∙ set-last ps None (Some c.in-Ok.at) in
    rw e (put-numbered c.self.inside.ledger.slots ps c.self.invariant c.put.new.self.slots c.in-Ok.at c.args.clause.now c.in-Ok.ensures.ok)

pub returns-in-Ok-clause-ok : goal.returns-in-Ok-clause-ok
returns-in-Ok-clause-ok c =
    let ps = c.self.inside.numbers in
    let e : c.put-in-Ok.new.self ≡ ps ++ Some c.in-Ok.at ∷ [] =
    c.put-in-Ok.ensures ∙ ap (λ (qs : List (Option ℕ)). set qs c.next-number.result (Some c.in-Ok.at)) c.in_ok-give.ensures.ok ∙
    ap (λ (n : ℕ). set (ps ++ None ∷ []) n (Some c.in-Ok.at)) c.next-number.ensures ∙ set-last ps None (Some c.in-Ok.at) in
    let n = ap (numbered_by c.put.new.self.slots) e ∙ put-numbers c.self.inside.ledger.slots ps c.self.invariant c.put.new.self.slots c.in-Ok.at c.args.clause.now c.in-Ok.ensures.ok in
    let make : Prefix → Slots → NumberedFormula = λ P N. record { prefix = P; slots = N } in
    ap (λ (P : Prefix). make P (numbered_by c.put.new.self.slots c.put-in-Ok.new.self)) c.in-Ok.ensures.prefix ∙
    ap (make c.self.inside.ledger.prefix) n ∙
    ap (λ (F : NumberedFormula). make F.prefix (F.slots ++ Some c.args.clause.now ∷ [])) c.self.view_is
