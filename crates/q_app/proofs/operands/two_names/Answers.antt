use Rattle.std.proofs.Common.{◌∙◌, sym, ap, arith, drop, Some, List, ℕ}
use Rattle.q_app.specs.Operands.{two_names, texts}
use Rattle.q_app.proofs.CommandWords.{texts-length, two_words, few_for_two, two-same, two-other, rest_of}
use Rattle.q_app.proofs.operands.two_names.Goals as goal

pub returns-then-operands-lt2 : goal.returns-then-operands-lt2
returns-then-operands-lt2 c = few_for_two (texts c.args.operands.now) (omega (arith, c.if-operands-lt2.true, texts-length c.args.operands.now))

pub returns-then-eq : goal.returns-then-eq
returns-then-eq c =
    let words = two_words c.args.operands.now c.index-operands-0.result c.index-operands-1.result c.as_str-first.result.now c.as_str-second.result.now c.if-operands-lt2.false c.index-operands-0.is c.index-operands-1.is c.as_str-first.ensures.value c.as_str-second.ensures.value in
    two-same c.as_str-first.result.now c.as_str-second.result.now (texts (drop 2 c.args.operands.now)) (sym c.eq.ensures ∙ c.if-eq.true) ∙ ap two_names (sym words)

pub returns : goal.returns
returns c =
    let words = two_words c.args.operands.now c.index-operands-0.result c.index-operands-1.result c.as_str-first.result.now c.as_str-second.result.now c.if-operands-lt2.false c.index-operands-0.is c.index-operands-1.is c.as_str-first.ensures.value c.as_str-second.ensures.value in
    ap (λ (r : List (List ℕ)). Some (c.as_str-first.result.now, c.as_str-second.result.now, r)) (rest_of c.args.operands.now 2)
    ∙ (two-other c.as_str-first.result.now c.as_str-second.result.now (texts (drop 2 c.args.operands.now)) (sym c.eq.ensures ∙ c.if-eq.false) ∙ ap two_names (sym words))
