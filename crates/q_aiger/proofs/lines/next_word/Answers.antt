use Rattle.std.proofs.Common.{◌∙◌, ◌∷◌, ap, sym, refl, length, take, drop, ◌-◌, arith, List, ℕ}
use Rattle.q_aiger.specs.Lines.{words}
use Rattle.q_aiger.proofs.LineCuts.{word-cut, words-none, take-rest}
use Rattle.q_aiger.proofs.lines.next_word.Goals as goal

pub returns-then-end-eq0 : goal.returns-then-end-eq0
returns-then-end-eq0 c = words-none c.args.line.now _ c.blanks.result c.word_end-end.result (take-rest c.args.line.now (length c.args.line.now) c.blanks.result refl) c.blanks.ensures.within (λ k lt. c.blanks.ensures.before k lt) (λ lt. c.blanks.ensures.found lt) (λ lt. c.word_end-end.ensures.found lt) c.if-end-eq0.true

pub returns : goal.returns
returns c =
    let m : List ℕ = take (length c.args.line.now - c.blanks.result) (drop c.blanks.result c.args.line.now) in
    word-cut c.args.line.now m c.blanks.result c.word_end-end.result (take-rest c.args.line.now (length c.args.line.now) c.blanks.result refl) c.blanks.ensures.within (λ k lt. c.blanks.ensures.before k lt) c.word_end-end.ensures.within (λ k lt. c.word_end-end.ensures.before k lt) (λ lt. c.word_end-end.ensures.found lt) (omega arith)
    ∙ ap (λ (x : List ℕ). take c.word_end-end.result m ∷ words x) (sym (take-rest m (length m) c.word_end-end.result refl))
