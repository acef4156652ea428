-- A spelled log is read as its steps.
use Rattle.std.proofs.Common.{◌≡◌, ◌≤◌, ◌<◌, ◌^◌, ℕ, nat_le, true, List, [], ◌∷◌, ◌++◌, map, length, Option, Some, None, refl, sym, ap, ◌∙◌, arith, pos, append_assoc, append-nil}
use Rattle.std.proofs.lemmas.Bool.Decides.{nat_tests}
use Rattle.std.specs.List.{AllByRecursion}
use Rattle.q_logic.specs.declared.steps.Kind.{Kind}
use Rattle.q_logic.specs.declared.steps.Kind.TheVariants.{Add, Delete, Drop, Fresh, Remove}
use Rattle.q_logic.specs.Prelude.{Literal, number_of, ProofStep, IsStepForm, step_of}
use Rattle.q_text.specs.declared.tokens.Token.{Token}
use Rattle.q_text.specs.declared.tokens.TokenKind.{TokenKind}
use Rattle.q_text.specs.declared.tokens.TokenKind.TheVariants.{Number, E, D, U, R}
use Rattle.q_text.specs.Texts.{line_after}
use Rattle.q_log.specs.declared.error.LogError.{LogError}
use Rattle.q_log.specs.Grammar.{OpenStep, goes_on, next_move, first_move, empty_step}
use Rattle.q_log.specs.Logs.{onto, follow, parsed, at_end, read, Steps}
use Rattle.q_log.specs.Spelled.{StepText, letter_kinds, IsSpelled, first_line, step_in, tokens_in, Log}
use Rattle.q_text.specs.Tokens.{literals_kinds}
use Rattle.q_log.proofs.LogRoundTrip.{number-taken, room-left, whole-taken}

abbrev pub IsSmall : Literal → Type 0
IsSmall l = (1 ≤ l.var) × (l.var < 2 ^ 31)

abbrev pub kinds_of : List Token → List TokenKind
kinds_of xs = map (λ k. k.kind) xs

-- the literals of a step, and the 0 behind them
taken : (last : Option OpenStep → Option LogError) (ts : List Token) (o : OpenStep) (ls : List Literal) (xs : List Token) →
    kinds_of xs ≡ literals_kinds ls → AllByRecursion IsSmall ls → IsStepForm o.kind (o.lits ++ ls) →
    parsed last (Some o) (xs ++ ts) ≡ onto (o.line, step_of o.kind (o.lits ++ ls)) (parsed last None ts)
taken last ts o [] [] e a f = absurd (cc)
taken last ts o [] (x ∷ []) e a f =
    let k : x.kind ≡ Number (pos 0) = cc in
    let g = rw append-nil at f in
    rw (k, append-nil, whole-taken o.kind o.lits g) refl
taken last ts o [] (x ∷ y ∷ xs) e a f = absurd (cc)
taken last ts o (l ∷ ls) [] e a f = absurd (cc)
taken last ts o (l ∷ ls) (x ∷ xs) e (h, hs) f =
    let k : x.kind ≡ Number (number_of l) = cc in
    let r : kinds_of xs ≡ literals_kinds ls = cc in
    let p : OpenStep = record { line = o.line; kind = o.kind; lits = o.lits ++ l ∷ [] } in
    let ih : parsed last (Some p) (xs ++ ts) ≡ onto (o.line, step_of o.kind (p.lits ++ ls)) (parsed last None ts) = taken last ts p ls xs r hs (rw append_assoc f) in
    ap (λ m. follow m x.line (λ b. parsed last b (xs ++ ts))) (ap (next_move o) k ∙ number-taken o l.var l.negative h.0 h.1 (room-left o.kind o.lits ls l f))
    ∙ (ih ∙ ap (λ ms. onto (o.line, step_of o.kind ms) (parsed last None ts)) (append_assoc o.lits (l ∷ []) ls))

-- the first token of an addition is a number
begun : (last : Option OpenStep → Option LogError) (ts : List Token) (x : Token) (k : TokenKind) → x.kind ≡ k → first_move x.line k ≡ next_move (empty_step x.line Add) k →
    parsed last None (x ∷ ts) ≡ parsed last (Some (empty_step x.line Add)) (x ∷ ts)
begun last ts x k e f =
    ap (λ m. follow m x.line (λ b. parsed last b ts)) (ap (first_move x.line) e ∙ (f ∙ sym (ap (next_move (empty_step x.line Add)) e)))

-- the letter of a step
lettered : (last : Option OpenStep → Option LogError) (ts : List Token) (x : Token) (k : TokenKind) (kind : Kind) → x.kind ≡ k → first_move x.line k ≡ goes_on (empty_step x.line kind) →
    parsed last None (x ∷ ts) ≡ parsed last (Some (empty_step x.line kind)) ts
lettered last ts x k kind e f = ap (λ m. follow m x.line (λ b. parsed last b ts)) (ap (first_move x.line) e ∙ f)

pub step-read : (last : Option OpenStep → Option LogError) (ts : List Token) (k : Kind) (ls : List Literal) (xs : List Token) →
    kinds_of xs ≡ letter_kinds k ++ literals_kinds ls → AllByRecursion IsSmall ls → IsStepForm k ls →
    parsed last None (xs ++ ts) ≡ onto (first_line xs, step_of k ls) (parsed last None ts)
step-read last ts Add [] [] e a f = absurd (cc)
step-read last ts Add (l ∷ ls) [] e a f = absurd (cc)
step-read last ts Delete ls [] e a f = absurd (cc)
step-read last ts Drop ls [] e a f = absurd (cc)
step-read last ts Fresh ls [] e a f = absurd (cc)
step-read last ts Remove ls [] e a f = absurd (cc)
step-read last ts Add [] (x ∷ xs) e a f =
    let k : x.kind ≡ Number (pos 0) = cc in
    begun last (xs ++ ts) x (Number (pos 0)) k refl ∙ taken last ts (empty_step x.line Add) [] (x ∷ xs) e a f
step-read last ts Add (l ∷ ls) (x ∷ xs) e a f =
    let k : x.kind ≡ Number (number_of l) = cc in
    begun last (xs ++ ts) x (Number (number_of l)) k refl ∙ taken last ts (empty_step x.line Add) (l ∷ ls) (x ∷ xs) e a f
step-read last ts Delete ls (x ∷ xs) e a f =
    let k : x.kind ≡ D = cc in let r : kinds_of xs ≡ literals_kinds ls = cc in
    lettered last (xs ++ ts) x D Delete k refl ∙ taken last ts (empty_step x.line Delete) ls xs r a f
step-read last ts Drop ls (x ∷ xs) e a f =
    let k : x.kind ≡ U = cc in let r : kinds_of xs ≡ literals_kinds ls = cc in
    lettered last (xs ++ ts) x U Drop k refl ∙ taken last ts (empty_step x.line Drop) ls xs r a f
step-read last ts Fresh ls (x ∷ xs) e a f =
    let k : x.kind ≡ E = cc in let r : kinds_of xs ≡ literals_kinds ls = cc in
    lettered last (xs ++ ts) x E Fresh k refl ∙ taken last ts (empty_step x.line Fresh) ls xs r a f
step-read last ts Remove ls (x ∷ xs) e a f =
    let k : x.kind ≡ R = cc in let r : kinds_of xs ≡ literals_kinds ls = cc in
    lettered last (xs ++ ts) x R Remove k refl ∙ taken last ts (empty_step x.line Remove) ls xs r a f

steps-read : (last : Option OpenStep → Option LogError) (texts : List StepText) → AllByRecursion IsSpelled texts →
    parsed last None (tokens_in texts) ≡ record { steps = map step_in texts; refused = last None }
steps-read last [] a = refl
steps-read last (t ∷ texts) (h, hs) =
    step-read last (tokens_in texts) t.kind t.lits t.tokens h.kinds h.numbers h.form ∙ ap (onto (step_in t)) (steps-read last texts hs)

pub spelled-read : (limit : ℕ) (bytes : List ℕ) (steps : List (ℕ × ProofStep)) → Log limit bytes steps → Steps limit bytes ≡ Some steps
spelled-read limit bytes steps h =
    let short : length bytes ≤ limit = h.short in
    let within : nat_le (length bytes) limit ≡ true = grind (arith, nat_tests) in
    let reads : read limit bytes ≡ record { steps = map step_in h.texts; refused = None } =
    rw (within, h.tokens) (steps-read (at_end (line_after bytes)) h.texts h.spelled) in
    rw (reads, h.steps_are) refl
