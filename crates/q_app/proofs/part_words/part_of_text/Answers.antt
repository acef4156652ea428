use Rattle.std.proofs.Common.{◌∙◌, sym, ap}
use Rattle.q_app.specs.Words.{number_of}
use Rattle.q_app.proofs.PartOptions.{part-found, rest_behind}
use Rattle.q_app.proofs.part_words.part_of_text.Goals as goal

pub returns-in-Some-number-2 : goal.returns-in-Some-number-2
returns-in-Some-number-2 c =
    part-found c.args.text.now c.in-Some.at c.in-Some-number.place c.in-Some-number-2.parts c.nth.result (sym c.in-Some.is ∙ c.slash.ensures)
    (sym c.in-Some-number.is ∙ c.number.ensures)
    (sym c.in-Some-number-2.is ∙ (c.number-2.ensures ∙ ap (number_of 4294967295) (rest_behind c.args.text.now c.in-Some.at)))
    c.nth.ensures
