use Rattle.std.proofs.Common.{◌∙◌, sym, ap, arith, drop, List, ℕ, Option, Some}
use Rattle.q_app.specs.declared.words.Scale.{Scale}
use Rattle.q_app.specs.Operands.{three_names, just_three, texts}
use Rattle.q_app.specs.Words.{demo_by, demo_of}
use Rattle.q_app.proofs.CommandWords.{texts-length, two_words, few_for_demo, demo-is, rest_of}
use Rattle.q_app.proofs.words.parse_demo.Goals as goal

pub returns-then-operands-lt2-clause-request : goal.returns-then-operands-lt2-clause-request
returns-then-operands-lt2-clause-request c = few_for_demo (texts c.args.operands.now) (omega (arith, c.if-operands-lt2.true, texts-length c.args.operands.now))

pub returns-in-Some-clause-request : goal.returns-in-Some-clause-request
returns-in-Some-clause-request c =
    let words = two_words c.args.operands.now c.index-operands-0.result c.index-operands-1.result c.as_str.result.now c.as_str-2.result.now c.if-operands-lt2.false c.index-operands-0.is c.index-operands-1.is c.as_str.ensures.value c.as_str-2.ensures.value in
    c.demo_over.ensures.request
    ∙ (ap (λ (r : List (List ℕ)). demo_by (Some c.in-Some.scale) (just_three (three_names r))) (rest_of c.args.operands.now 2)
    ∙ (ap (λ (k : Option Scale). demo_by k (just_three (three_names (texts (drop 2 c.args.operands.now))))) (sym c.in-Some.is ∙ c.scale_of.ensures.scale)
    ∙ (demo-is c.as_str.result.now c.as_str-2.result.now (texts (drop 2 c.args.operands.now)) ∙ ap demo_of (sym words))))

pub returns-in-None-clause-request : goal.returns-in-None-clause-request
returns-in-None-clause-request c =
    let words = two_words c.args.operands.now c.index-operands-0.result c.index-operands-1.result c.as_str.result.now c.as_str-2.result.now c.if-operands-lt2.false c.index-operands-0.is c.index-operands-1.is c.as_str.ensures.value c.as_str-2.ensures.value in
    ap (λ (k : Option Scale). demo_by k (just_three (three_names (texts (drop 2 c.args.operands.now))))) (sym c.in-None.is ∙ c.scale_of.ensures.scale)
    ∙ (demo-is c.as_str.result.now c.as_str-2.result.now (texts (drop 2 c.args.operands.now)) ∙ ap demo_of (sym words))
