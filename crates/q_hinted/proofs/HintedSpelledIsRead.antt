-- A spelled log of the second profile is read as its steps with their proof parts.
use Rattle.std.proofs.Common.{◌≡◌, ◌<◌, ◌^◌, inl, inr, ℕ, nat_lt, true, List, [], ◌∷◌, ◌++◌, map, Option, Some, None, refl, sym, ap, ◌∙◌, arith, pos, append-nil}
use Rattle.std.proofs.lemmas.Bool.Decides.{nat_tests}
use Rattle.std.specs.List.{AllByRecursion}
use Rattle.q_logic.specs.declared.proof_part.ProofKind.TheVariants.{Nothing}
use Rattle.q_logic.specs.declared.steps.Kind.{Kind}
use Rattle.q_logic.specs.declared.steps.Kind.TheVariants.{Add, Delete, Drop, Fresh, Remove}
use Rattle.q_logic.specs.Prelude.{Hinted, ProofPart, Literal, ProofStep, step_of, kind_of}
use Rattle.q_logic.specs.ProofParts.{begun_part}
use Rattle.q_text.specs.declared.tokens.Token.{Token}
use Rattle.q_text.specs.declared.tokens.TokenKind.TheVariants.{Number, P, Qrat}
use Rattle.q_log.specs.declared.error.LogError.{LogError}
use Rattle.q_log.specs.declared.error.LogError.TheVariants.{BadLine}
use Rattle.q_log.specs.Grammar.{OpenStep, Move, ends_step, goes_on, unfit, move}
use Rattle.q_log.specs.Logs as plain_logs
use Rattle.q_log.specs.Spelled.{first_line}
use Rattle.q_log.proofs.LogSpelledIsRead.{step-read}
use Rattle.q_hinted.specs.declared.builder.Stage.{Stage}
use Rattle.q_hinted.specs.declared.builder.Stage.TheVariants as stage
use Rattle.q_hinted.specs.Grammar.{Place, nowhere, steps, proving, place_move, part_move, number_in, behind_step, in_steps}
use Rattle.q_hinted.specs.Logs.{Entries, hinted_entry, onto, follow, parsed, hinted_in}
use Rattle.q_hinted.specs.Parts.{IsPartOf, part_numbers, proof_numbers}
use Rattle.q_hinted.specs.Spelled.{HintedText, kinds_of, numbers_kinds, IsHintedSpelled, hinted_of, tokens_in}
use Rattle.q_hinted.proofs.ProofNumbers.{Fits, Onward, part-onward, never-over}

-- a number of a proof part
pub number-small : (v : ℕ) → v < 2 ^ 62 → number_in (Number (pos v)) ≡ Some v
number-small v h = let e : nat_lt v 4611686018427387904 ≡ true = grind (arith, nat_tests) in rw e refl

-- the numbers of a proof part, token by token
pub fits-read : (last : Place → Option LogError) (rest : List Token) (l : ℕ) (s : ProofStep) (ys : List Token) (ns : List ℕ) (g : Stage) (p t : ProofPart) →
    kinds_of ys ≡ numbers_kinds ns → Fits g p ns t →
    parsed last (proving l s g p) (ys ++ rest) ≡ onto (l, s, Some t) (parsed last (steps None) rest)
fits-read last rest l s [] [] g p t e f = absurd (never-over p g t f)
fits-read last rest l s [] (v ∷ ns) g p t e f = absurd (cc)
fits-read last rest l s (y ∷ ys) [] g p t e f = absurd (cc)
fits-read last rest l s (y ∷ ys) (v ∷ ns) g p t e f =
    let k : y.kind ≡ Number (pos v) = cc in
    let r : kinds_of ys ≡ numbers_kinds ns = cc in
    let o : Onward l s p g v ns t = part-onward l s p g v ns t f in
    let m : place_move (proving l s g p) y ≡ part_move l s p g (Some v) = ap (part_move l s p g) (ap number_in k ∙ number-small v o.0) in
    elim o.1 [
      | inl d ↦
          ap (λ x. follow x y.line (λ q. parsed last q (ys ++ rest))) (m ∙ d.move)
          ∙ ap (λ zs. onto (l, s, Some t) (parsed last (steps None) (zs ++ rest))) (no-more ys ns r d.last)
      | inr h ↦
          ap (λ x. follow x y.line (λ q. parsed last q (ys ++ rest))) (m ∙ h.move)
          ∙ fits-read last rest l s ys ns h.stage h.part t r h.fits
    ]
  where
    no-more : (zs : List Token) (ms : List ℕ) → kinds_of zs ≡ numbers_kinds ms → ms ≡ [] → zs ≡ []
    no-more [] ms e f = refl
    no-more (z ∷ zs) [] e f = absurd (cc)
    no-more (z ∷ zs) (m ∷ ms) e f = absurd (cc)

-- behind the 0 of a step
pub behind-read : (last : Place → Option LogError) (rest : List Token) (l : ℕ) (s : ProofStep) (k : Kind) (n : ℕ) (ys : List Token) (t : ProofPart) →
    kinds_of ys ≡ numbers_kinds (part_numbers k t) → IsPartOf k t →
    follow (behind_step k l s) n (λ q. parsed last q (ys ++ rest)) ≡ onto (l, s, Some t) (parsed last (steps None) rest)
behind-read last rest l s Add n ys t e (z, a) =
    fits-read last rest l s ys (part_numbers Add t) stage.Kind (begun_part Nothing 0) t e (record { number = z; groups = a; numbers = refl })
behind-read last rest l s Delete n ys t e (b, a) =
    fits-read last rest l s ys (part_numbers Delete t) stage.Number (begun_part Nothing 0) t e
    (record { number = t.number; rest = proof_numbers t.kind t.groups ++ 0 ∷ []; numbers = refl; small = b; proof = record { number = refl; groups = a; numbers = refl } })
behind-read last rest l s Drop n ys t e (b, a) =
    fits-read last rest l s ys (part_numbers Drop t) stage.Number (begun_part Nothing 0) t e
    (record { number = t.number; rest = proof_numbers t.kind t.groups ++ 0 ∷ []; numbers = refl; small = b; proof = record { number = refl; groups = a; numbers = refl } })
behind-read last rest l s Fresh n [] t e a = rw a refl
behind-read last rest l s Fresh n (y ∷ ys) t e a = absurd (cc)
behind-read last rest l s Remove n [] t e a = rw a refl
behind-read last rest l s Remove n (y ∷ ys) t e a = absurd (cc)

-- behind a whole step, where tokens say no more, there are none
nothing-said : (n : ℕ) (o : Option OpenStep) (xs : List Token) → plain_logs.parsed (plain_logs.at_end n) o xs ≡ plain_logs.finished → (o ≡ None) × (xs ≡ [])
nothing-said n None [] e = (refl, refl)
nothing-said n (Some o) [] e = absurd (let r : Some (BadLine n) ≡ None = ap (λ (o : plain_logs.Parsed). o.refused) e in cc)
nothing-said n o (x ∷ xs) e = absurd (go (move o x) e (λ o. nothing-said n o xs))
  where
    go : (m : Move) → plain_logs.follow m x.line (λ o. plain_logs.parsed (plain_logs.at_end n) o xs) ≡ plain_logs.finished →
        ((o : Option OpenStep) → plain_logs.parsed (plain_logs.at_end n) o xs ≡ plain_logs.finished → (o ≡ None) × (xs ≡ [])) → ⊥
    go (ends_step l s) f ih = let r : (l, s) ∷ (plain_logs.parsed (plain_logs.at_end n) None xs).steps ≡ [] = ap (λ (o : plain_logs.Parsed). o.steps) f in cc
    go (goes_on o) f ih = let h : Some o ≡ None = (ih (Some o) f).0 in cc
    go unfit f ih = let r : Some (BadLine x.line) ≡ None = ap (λ (o : plain_logs.Parsed). o.refused) f in cc

-- one step of a plain log, and nothing more
abbrev pub one_step : ℕ → ProofStep → plain_logs.Parsed
one_step l s = record { steps = (l, s) ∷ []; refused = None }

-- the line tells nothing where the token fits
pub any-line : (k : Kind) (l : ℕ) (s : ProofStep) (a b : ℕ) (later : Place → Entries) → follow (behind_step k l s) a later ≡ follow (behind_step k l s) b later
any-line Add l s a b later = refl
any-line Delete l s a b later = refl
any-line Drop l s a b later = refl
any-line Fresh l s a b later = refl
any-line Remove l s a b later = refl

-- what is a step of a plain log is that step in the second profile, and then its proof part comes
step-runs : (n : ℕ) (last : Place → Option LogError) (rest : List Token) (l : ℕ) (s : ProofStep) (o : Option OpenStep) (xs : List Token) →
    plain_logs.parsed (plain_logs.at_end n) o xs ≡ one_step l s →
    parsed last (steps o) (xs ++ rest) ≡ follow (behind_step (kind_of s) l s) 0 (λ q. parsed last q rest)
step-runs n last rest l s None [] e = absurd (let r : [] ≡ (l, s) ∷ [] = ap (λ (o : plain_logs.Parsed). o.steps) e in cc)
step-runs n last rest l s (Some o) [] e = absurd (let r : [] ≡ (l, s) ∷ [] = ap (λ (o : plain_logs.Parsed). o.steps) e in cc)
step-runs n last rest l s o (x ∷ xs) e = go (move o x) e (λ o. step-runs n last rest l s o xs)
  where
    go : (m : Move) → plain_logs.follow m x.line (λ o. plain_logs.parsed (plain_logs.at_end n) o xs) ≡ one_step l s →
        ((o : Option OpenStep) → plain_logs.parsed (plain_logs.at_end n) o xs ≡ one_step l s → parsed last (steps o) (xs ++ rest) ≡ follow (behind_step (kind_of s) l s) 0 (λ q. parsed last q rest)) →
        follow (in_steps m) x.line (λ q. parsed last q (xs ++ rest)) ≡ follow (behind_step (kind_of s) l s) 0 (λ q. parsed last q rest)
    go (ends_step k r) f ih =
        let later : plain_logs.Parsed = plain_logs.parsed (plain_logs.at_end n) None xs in
        let steps_are : (k, r) ∷ later.steps ≡ (l, s) ∷ [] = ap (λ (o : plain_logs.Parsed). o.steps) f in
        let same : (k, r) ≡ (l, s) = cc in
        let none : later.steps ≡ [] = cc in
        let quiet : later.refused ≡ None = ap (λ (o : plain_logs.Parsed). o.refused) f in
        let over : later ≡ plain_logs.finished =
        ap (λ (y : List (ℕ × ProofStep)). let z : plain_logs.Parsed = record { steps = y; refused = later.refused } in z) none
        ∙ ap (λ (y : Option LogError). let z : plain_logs.Parsed = record { steps = []; refused = y } in z) quiet in
        any-line (kind_of r) k r x.line 0 (λ q. parsed last q (xs ++ rest))
        ∙ (ap (λ zs. follow (behind_step (kind_of r) k r) 0 (λ q. parsed last q (zs ++ rest))) ((nothing-said n None xs over).1)
        ∙ ap (λ (y : ℕ × ProofStep). follow (behind_step (kind_of y.1) y.0 y.1) 0 (λ q. parsed last q rest)) same)
    go (goes_on o) f ih = ih (Some o) f
    go unfit f ih = absurd (let r : [] ≡ (l, s) ∷ [] = ap (λ (o : plain_logs.Parsed). o.steps) f in cc)

pub kind-kept : (k : Kind) (ls : List Literal) → kind_of (step_of k ls) ≡ k
kind-kept Add ls = refl
kind-kept Delete ls = refl
kind-kept Drop [] = refl
kind-kept Drop (l ∷ ls) = refl
kind-kept Fresh [] = refl
kind-kept Fresh (v ∷ []) = refl
kind-kept Fresh (v ∷ w ∷ ls) = refl
kind-kept Remove [] = refl
kind-kept Remove (v ∷ ls) = refl

text-read : (last : Place → Option LogError) (rest : List Token) (t : HintedText) → IsHintedSpelled t →
    parsed last (steps None) (t.step.tokens ++ (t.behind ++ rest)) ≡ onto (hinted_entry (hinted_of t)) (parsed last (steps None) rest)
text-read last rest t h =
    let l = first_line t.step.tokens in
    let s = step_of t.step.kind t.step.lits in
    let one : plain_logs.parsed (plain_logs.at_end 0) None (t.step.tokens ++ []) ≡ one_step l s = step-read (plain_logs.at_end 0) [] t.step.kind t.step.lits t.step.tokens h.step.kinds h.step.numbers h.step.form in
    let alone : plain_logs.parsed (plain_logs.at_end 0) None t.step.tokens ≡ one_step l s = ap (plain_logs.parsed (plain_logs.at_end 0) None) (sym (append-nil t.step.tokens)) ∙ one in
    step-runs 0 last (t.behind ++ rest) l s None t.step.tokens alone
    ∙ (ap (λ k. follow (behind_step k l s) 0 (λ q. parsed last q (t.behind ++ rest))) (kind-kept t.step.kind t.step.lits)
    ∙ behind-read last rest l s t.step.kind 0 t.behind t.proof h.kinds h.part)

pub texts-read : (last : Place → Option LogError) (texts : List HintedText) → AllByRecursion IsHintedSpelled texts →
    parsed last (steps None) (tokens_in texts) ≡ record { entries = map hinted_entry (map hinted_of texts); refused = last (steps None) }
texts-read last [] a = refl
texts-read last (t ∷ texts) (h, hs) = text-read last (tokens_in texts) t h ∙ ap (onto (hinted_entry (hinted_of t))) (texts-read last texts hs)

-- the header
pub header-read : (last : Place → Option LogError) (header rest : List Token) → kinds_of header ≡ P ∷ Qrat ∷ Number (pos 2) ∷ [] → parsed last nowhere (header ++ rest) ≡ parsed last (steps None) rest
header-read last [] rest e = absurd (cc)
header-read last (a ∷ []) rest e = absurd (cc)
header-read last (a ∷ b ∷ []) rest e = absurd (cc)
header-read last (a ∷ b ∷ c ∷ d ∷ ds) rest e = absurd (cc)
header-read last (a ∷ b ∷ c ∷ []) rest e =
    let i : a.kind ≡ P = cc in
    let j : b.kind ≡ Qrat = cc in
    let k : c.kind ≡ Number (pos 2) = cc in
    rw (i, j, k) refl

pub all-hinted : (hs : List (ℕ × Hinted)) → hinted_in (map hinted_entry hs) ≡ hs
all-hinted [] = refl
all-hinted (h ∷ hs) = ap (λ (xs : List (ℕ × Hinted)). h ∷ xs) (all-hinted hs)
