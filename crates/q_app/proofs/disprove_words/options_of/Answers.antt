use Rattle.std.proofs.Common.{◌≡◌, ◌∙◌, sym, ap, subst, arith, true, false, List, ℕ, [], ◌∷◌, drop, codes}
use Rattle.std.specs.Str.{bytes_eq}
use Rattle.q_app.specs.Operands.{texts}
use Rattle.q_app.specs.PartWords.{part_of}
use Rattle.q_app.specs.DisproveWords.{options_of, read_as}
use Rattle.q_app.proofs.CommandWords.{one_word, two_words, rest_of, texts-length}
use Rattle.q_app.proofs.DisproveFlags.{no-options, binary-first, binary-last, no-binary, front-word, two-there, same-second, two-long}
use Rattle.q_app.proofs.disprove_words.options_of.Goals as goal
use Rattle.q_app.proofs.disprove_words.options_of.Goals.{else-words-eq2-via-then-words-eq2+else-eq-2, else-words-eq2-via-else-words-eq2}

pub returns-then-words-eq0 : goal.returns-then-words-eq0
returns-then-words-eq0 c =
    c.read_as.ensures ∙ (ap (read_as false) c.part_of.ensures ∙ no-options (texts c.args.words.now) (omega (arith, c.if-words-eq0.true, texts-length c.args.words.now)))

pub returns-then-eq : goal.returns-then-eq
returns-then-eq c =
    let v = c.as_str.result.now in
    let words = one_word c.args.words.now c.index-words-0.result v (omega (arith, c.if-words-eq0.false)) c.index-words-0.is c.as_str.ensures.value in
    c.read_as-then-eq.ensures ∙ (ap (read_as true) (c.part_of-then-eq.ensures ∙ ap part_of (rest_of c.args.words.now 1))
    ∙ (binary-first v (texts (drop 1 c.args.words.now)) (sym c.eq.ensures ∙ c.if-eq.true) ∙ ap options_of (sym words)))

pub returns-then-eq-2 : goal.returns-then-eq-2
returns-then-eq-2 c =
    let v = c.as_str.result.now in
    let w = c.as_str-then-words-eq2.result.now in
    let words = two_words c.args.words.now c.index-words-0.result c.index-words-1.result v w (omega (arith, c.if-words-eq2.true)) c.index-words-0.is c.index-words-1.is c.as_str.ensures.value c.as_str-then-words-eq2.ensures.value in
    let both = two-there (texts c.args.words.now) v w (texts (drop 2 c.args.words.now)) words (omega (arith, c.if-words-eq2.true, texts-length c.args.words.now)) in
    c.read_as-then-eq-2.ensures ∙ (ap (read_as true) (c.part_of-then-eq-2.ensures ∙ ap part_of (front-word c.args.words.now v (w ∷ []) both))
    ∙ (binary-last v w (sym c.eq.ensures ∙ c.if-eq.false) (sym c.eq-then-words-eq2.ensures ∙ c.if-eq-2.true) ∙ ap options_of (sym both)))

pub returns : goal.returns
returns c =
    let v = c.as_str.result.now in
    let rest = texts (drop 1 c.args.words.now) in
    let words = one_word c.args.words.now c.index-words-0.result v (omega (arith, c.if-words-eq0.false)) c.index-words-0.is c.as_str.ensures.value in
    let not-second : (u : List ℕ) → rest ≡ u ∷ [] → bytes_eq u (codes "--binary") ≡ false =
    elim c.else-words-eq2.branch [
      | else-words-eq2-via-then-words-eq2+else-eq-2 b ↦ λ u e.
          let two = two_words c.args.words.now c.index-words-0.result b.index-words-1.result v b.as_str-then-words-eq2.result.now (omega (arith, b.if-words-eq2.true)) c.index-words-0.is b.index-words-1.is c.as_str.ensures.value b.as_str-then-words-eq2.ensures.value in
          let same = same-second (texts c.args.words.now) rest v b.as_str-then-words-eq2.result.now u (texts (drop 2 c.args.words.now)) words two e in
          subst (λ (x : List ℕ). bytes_eq x (codes "--binary") ≡ false) same (sym b.eq-then-words-eq2.ensures ∙ b.if-eq-2.false)
      | else-words-eq2-via-else-words-eq2 b ↦ λ u e.
          absurd (let n = two-long (texts c.args.words.now) rest v u words e in omega (arith, b.if-words-eq2.false, n, texts-length c.args.words.now))
    ] in
    c.read_as-2.ensures ∙ (ap (read_as false) (c.part_of-2.ensures ∙ ap part_of words)
    ∙ (no-binary v rest (sym c.eq.ensures ∙ c.if-eq.false) not-second ∙ ap options_of (sym words)))
