-- What a file of too many bytes says, a front of it says too.
use Rattle.std.proofs.Common.{◌≡◌, ◌≢◌, ℕ, zero, suc, ◌+◌, ◌<◌, nat_le, Bool, true, false, cond, eqb, List, [], ◌∷◌, ◌++◌, length, take, drop, get_or, refl, sym, ap, ◌∙◌, arith, Result, Ok, Err, length-append}
use Rattle.std.proofs.lemmas.List.{take-append-le, get_or_append_left}
use Rattle.std.proofs.lemmas.Bool.Decides.{nat_tests}
use Rattle.q_logic.specs.Prelude.{CertificateView}
use Rattle.q_text.specs.Texts.{line_after}
use Rattle.q_aiger.specs.Lines.{without_return, lines_of}
use Rattle.q_aiger.specs.Headers.{Header, header_of, limit}
use Rattle.q_aiger.specs.Circuits.{first_line, on_line, and_then, few_bytes, items_in, other_lines, parse, AreCircuits, Offence, refused, cyclic}
use Rattle.q_aiger.proofs.LineCuts.{line-ended}

-- the first LF
abbrev FirstEnd : List ℕ → Type 0
FirstEnd bs = (j : ℕ) × (j < length bs) × (get_or bs j 0 ≡ 10) × ((k : ℕ) → k < j → get_or bs k 0 ≢ 10)

later-end : (b : ℕ) (bs : List ℕ) → eqb b 10 ≡ false → FirstEnd bs → FirstEnd (b ∷ bs)
later-end b bs q r = let l : r.0 < length bs = r.1 in (suc r.0, omega arith, r.2, later r.0 r.3)
  where
    later : (j : ℕ) → ((k : ℕ) → k < j → get_or bs k 0 ≢ 10) → (k : ℕ) → k < suc j → get_or (b ∷ bs) k 0 ≢ 10
    later j h zero l = grind arith
    later j h (suc k) l = h k (omega arith)

first-end : (bs : List ℕ) (i : ℕ) → i < length bs → get_or bs i 0 ≡ 10 → FirstEnd bs
first-end [] i lt e = absurd (omega arith)
first-end (b ∷ bs) zero lt e = (0, omega arith, e, λ k l. absurd (omega arith))
first-end (b ∷ bs) (suc i) lt e = go (eqb b 10) refl (first-end bs i (omega arith) e)
  where
    go : (t : Bool) → eqb b 10 ≡ t → FirstEnd bs → FirstEnd (b ∷ bs)
    go true q r = (0, omega arith, grind arith, λ k l. absurd (omega arith))
    go false q r = later-end b bs q r

-- the first line of a longer text
first-same : (front rest : List ℕ) (i : ℕ) → i < length front → get_or front i 0 ≡ 10 → first_line (lines_of (front ++ rest)) ≡ first_line (lines_of front)
first-same front rest i lt e =
    let r = first-end front i lt e in
    let lr : r.0 < length front = r.1 in
    let len = length-append front rest in
    let a : lines_of front ≡ without_return (take r.0 front) ∷ lines_of (drop (r.0 + 1) front) = line-ended front r.0 (without_return (take r.0 front)) r.1 r.3 r.2 refl in
    let part : take r.0 (front ++ rest) ≡ take r.0 front = take-append-le r.0 front rest (omega arith) in
    let same : (k : ℕ) → k < length front → get_or (front ++ rest) k 0 ≡ get_or front k 0 = λ k l. get_or_append_left front rest 0 k l in
    let b : lines_of (front ++ rest) ≡ without_return (take r.0 front) ∷ lines_of (drop (r.0 + 1) (front ++ rest)) = line-ended (front ++ rest) r.0 (without_return (take r.0 front)) (omega arith)
    (λ k l q. r.3 k l (sym (same k (omega arith)) ∙ q)) (same r.0 r.1 ∙ r.2) (ap without_return (sym part)) in
    ap first_line b ∙ sym (ap first_line a)

-- what a text of too many bytes says, by its first line
long-parse : (bytes : List ℕ) → 1099511627776 < length bytes → parse bytes ≡ and_then {X = Header} {Y = CertificateView} (on_line 1 (header_of (first_line (lines_of bytes)))) (λ h. Err (line_after (take 1099511627776 bytes), limit))
long-parse bytes lt = go (header_of (first_line (lines_of bytes)))
  where
    many : nat_le (length bytes) 1099511627776 ≡ false
    many = grind (arith, nat_tests)

    go : (r : Result Header ℕ) → and_then (on_line 1 r) (λ h. and_then (few_bytes bytes h) (items_in (line_after bytes) (other_lines (lines_of bytes)))) ≡ and_then {X = Header} {Y = CertificateView} (on_line 1 r) (λ h. Err (line_after (take 1099511627776 bytes), limit))
    go (Ok h) = ap (λ (t : Bool). and_then (cond t (Ok h) (Err (line_after (take 1099511627776 bytes), limit))) (items_in (line_after bytes) (other_lines (lines_of bytes)))) many
    go (Err c) = refl

pub front-parse : (front rest : List ℕ) (i : ℕ) → 1099511627776 < length front → i < length front → get_or front i 0 ≡ 10 → parse (front ++ rest) ≡ parse front
front-parse front rest i long lt e =
    let len = length-append front rest in
    let more : 1099511627776 < length (front ++ rest) = omega arith in
    let head = first-same front rest i lt e in
    let part : take 1099511627776 (front ++ rest) ≡ take 1099511627776 front = take-append-le 1099511627776 front rest (omega arith) in
    long-parse (front ++ rest) more
    ∙ (ap (λ (l : List ℕ). and_then {X = Header} {Y = CertificateView} (on_line 1 (header_of l)) (λ h. Err (line_after (take 1099511627776 (front ++ rest)), limit))) head
    ∙ (ap (λ (bs : List ℕ). and_then {X = Header} {Y = CertificateView} (on_line 1 (header_of (first_line (lines_of front)))) (λ h. Err (line_after bs, limit))) part
    ∙ sym (long-parse front long)))

-- what is read depends on this alone
pub same-circuits : (a b : List ℕ) (c : CertificateView) → parse b ≡ parse a → AreCircuits a c → AreCircuits b c
same-circuits a b c e h = record { written = h.written; parsed = e ∙ h.parsed; order = h.order; full = h.full; sorted = h.sorted }

pub same-offence : (a b : List ℕ) (line cause : ℕ) → parse b ≡ parse a → Offence a line cause → Offence b line cause
same-offence a b line cause e (refused l k q) = refused l k (e ∙ q)
same-offence a b line cause e (cyclic f g q first) = cyclic f g (e ∙ q) first
