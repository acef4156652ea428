use Rattle.std.proofs.Common.{List, Option, [], ◌∷◌, ◌++◌, map, append-nil, ap, sym, ◌∙◌}
use Rattle.q_judge.specs.Ledgers.{formula_in}
use Rattle.q_herbrand.specs.declared.reversal.Reversal.{Reversal as Entry}
use Rattle.q_herbrand.specs.Entries.{entry_of, entries_of}
use Rattle.q_herbrand.proofs.RunReversals.{map_last, made-by}
use Rattle.q_herbrand.proofs.trail.Trail.note_made.Goals as goal

pub returns-in-Some-clause-made : goal.returns-in-Some-clause-made
returns-in-Some-clause-made c F ss h =
    let old = c.self.inside.entries.items in
    made-by F ss c.args.self.now
    (record { formula = formula_in c.pass.new.ledger; reversals = map entry_of c.push_reserved.new.self.items })
    (formula_in c.self.inside.ledger) old c.args.step.now c.in_ok-entry.entry c.self.view_is h c.requires
    c.in_ok-entry.ensures
    (ap (map entry_of) (c.push_reserved.ensures.items
    ∙ ap (λ (xs : List Entry). xs ++ c.in-Some.entry ∷ []) c.in_ok-reserve.ensures.items)
    ∙ map_last old c.in-Some.entry
    ∙ ap (λ (o : Option Entry). map entry_of old ++ entries_of o) (sym c.in-Some.is))

pub returns-in_default-clause-made : goal.returns-in_default-clause-made
returns-in_default-clause-made c F ss h =
    let old = c.self.inside.entries.items in
    made-by F ss c.args.self.now
    (record { formula = formula_in c.pass.new.ledger; reversals = map entry_of c.reserve.new.self.items })
    (formula_in c.self.inside.ledger) old c.args.step.now c.in_ok-entry.entry c.self.view_is h c.requires
    c.in_ok-entry.ensures
    (ap (map entry_of) c.in_ok-reserve.ensures.items
    ∙ sym (append-nil (map entry_of old))
    ∙ ap (λ (o : Option Entry). map entry_of old ++ entries_of o) (sym c.in_default.is))
