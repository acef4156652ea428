-- The canonical text of steps with proof parts is read as these.
use Rattle.std.proofs.Common.{◌≡◌, ◌≤◌, ◌+◌, ℕ, List, [], ◌∷◌, ◌++◌, map, length, Some, refl, sym, ap, ◌∙◌, arith, ℤ, pos, append_assoc}
use Rattle.std.specs.List.{AllByRecursion}
use Rattle.std.proofs.lemmas.List.{map-append}
use Rattle.q_logic.specs.declared.proof_part.ProofKind.{ProofKind}
use Rattle.q_logic.specs.declared.proof_part.ProofKind.TheVariants.{Nothing, Implied, Pivot, Reach}
use Rattle.q_logic.specs.declared.steps.Kind.{Kind}
use Rattle.q_logic.specs.declared.steps.Kind.TheVariants.{Add, Delete, Drop, Fresh, Remove}
use Rattle.q_logic.specs.Prelude.{Hinted, HintGroup, ProofPart, Literal, number_of, kind_of, literals_of}
use Rattle.q_logic.proofs.Common.{all-append}
use Rattle.q_text.specs.declared.shape.Shape.{Shape}
use Rattle.q_text.specs.declared.shape.Shape.TheVariants.{Start, Between}
use Rattle.q_text.specs.declared.tokens.Token.{Token}
use Rattle.q_text.specs.declared.tokens.TokenKind.{TokenKind}
use Rattle.q_text.specs.declared.tokens.TokenKind.TheVariants.{Number, P, Qrat}
use Rattle.q_text.specs.Numbers.{number_text, numbers_text, line_end}
use Rattle.q_text.specs.Tokens.{to_come, literals_kinds}
use Rattle.q_text.proofs.Decimals.{IsShown, token_of, numbers-line}
use Rattle.q_text.proofs.TokenLaw.{at, from_start}
use Rattle.q_text.proofs.SpelledWords.{Opens, opens-start, opens-between, word-space, word-line}
use Rattle.q_log.specs.Spelled.{first_line, letter_kinds}
use Rattle.q_log.specs.Texts.{letter_text, literals_text}
use Rattle.q_log.proofs.LogRoundTrip.{IsSmall, all-shown, letter_tokens, same-step, step-form}
use Rattle.q_hinted.specs.Logs.{HintedSteps}
use Rattle.q_hinted.specs.Parts.{IsNumber, IsGroup, IsPartOf, AreGroups, groups_numbers, proof_numbers, part_numbers, line_numbers}
use Rattle.q_hinted.specs.Spelled.{HintedText, kinds_of, numbers_kinds, IsHintedSpelled, hinted_of, tokens_in}
use Rattle.q_hinted.specs.Texts.{header_text, plain_text, hinted_text, lines_text, log_text, IsWritten, on_lines}
use Rattle.q_hinted.proofs.Profiles.{hinted-read}

numbers-append : (xs ys : List ℤ) → numbers_text (xs ++ ys) ≡ numbers_text xs ++ numbers_text ys
numbers-append [] ys = refl
numbers-append (x ∷ xs) ys = ap (λ t. number_text x ++ t) (numbers-append xs ys) ∙ sym (append_assoc (number_text x) (numbers_text xs) (numbers_text ys))

-- the numbers of a line are not clipped
abbrev IsShort : ℕ → Type 0
IsShort n = n ≤ 4611686018427387904

number-short : (n : ℕ) → IsNumber n → IsShort n
number-short n (a, b) = omega arith

hints-short : (hs : List ℕ) → AllByRecursion IsNumber hs → AllByRecursion IsShort hs
hints-short [] a = tt
hints-short (h ∷ hs) (b, a) = (number-short h b, hints-short hs a)

groups-short : (gs : List HintGroup) → AllByRecursion IsGroup gs → AllByRecursion IsShort (groups_numbers gs)
groups-short [] a = tt
groups-short (g ∷ gs) (b, a) = (number-short g.target b.0, all-append IsShort g.hints (0 ∷ groups_numbers gs) (hints-short g.hints b.1) (omega arith, groups-short gs a))

proof-short : (k : ProofKind) (gs : List HintGroup) → AreGroups k gs → AllByRecursion IsShort (proof_numbers k gs)
proof-short Nothing gs a = tt
proof-short Implied [] a = absurd a
proof-short Implied (g ∷ []) (z, a) = (omega arith, hints-short g.hints a)
proof-short Implied (g ∷ h ∷ gs) a = absurd a
proof-short Pivot gs a = (omega arith, groups-short gs a)
proof-short Reach gs a = (omega arith, tt)

line-short : (k : Kind) (t : ProofPart) → IsPartOf k t → AllByRecursion IsShort (line_numbers k t)
line-short Add t (z, a) = (omega arith, proof-short t.kind t.groups a)
line-short Delete t (b, a) = (omega arith, (number-short t.number b, proof-short t.kind t.groups a))
line-short Drop t (b, a) = (omega arith, (number-short t.number b, proof-short t.kind t.groups a))
line-short Fresh t a = tt
line-short Remove t a = tt

all-plain : (ns : List ℕ) → AllByRecursion IsShort ns → AllByRecursion IsShown (map pos ns)
all-plain [] a = tt
all-plain (n ∷ ns) (b, a) = (b, all-plain ns a)

-- numbers as tokens on line n
abbrev plain_tokens : ℕ → List ℕ → List Token
plain_tokens n ns = map (token_of n) (map pos ns)

abbrev step_tokens : ℕ → Kind → List Literal → List Token
step_tokens n k ls = letter_tokens n k ++ (map (token_of n) (map number_of ls) ++ token_of n (pos 0) ∷ [])

last-zero : (n : ℕ) (ns : List ℕ) → plain_tokens n (ns ++ 0 ∷ []) ≡ plain_tokens n ns ++ token_of n (pos 0) ∷ []
last-zero n [] = refl
last-zero n (m ∷ ns) = ap (λ (xs : List Token). token_of n (pos m) ∷ xs) (last-zero n ns)

-- the 0 of the step comes before the proof part, and the 0 of the line last
zero-moves : (n : ℕ) (k : Kind) (t : ProofPart) → plain_tokens n (line_numbers k t) ++ token_of n (pos 0) ∷ [] ≡ token_of n (pos 0) ∷ plain_tokens n (part_numbers k t)
zero-moves n Add t = ap (λ (xs : List Token). token_of n (pos 0) ∷ xs) (sym (last-zero n (proof_numbers t.kind t.groups)))
zero-moves n Delete t = ap (λ (xs : List Token). token_of n (pos 0) ∷ token_of n (pos t.number) ∷ xs) (sym (last-zero n (proof_numbers t.kind t.groups)))
zero-moves n Drop t = ap (λ (xs : List Token). token_of n (pos 0) ∷ token_of n (pos t.number) ∷ xs) (sym (last-zero n (proof_numbers t.kind t.groups)))
zero-moves n Fresh t = refl
zero-moves n Remove t = refl

-- the tokens of a line behind its letter
numbers-tokens : (n : ℕ) (k : Kind) (ls : List Literal) (t : ProofPart) (rest : List Token) →
    map (token_of n) (map number_of ls ++ map pos (line_numbers k t)) ++ token_of n (pos 0) ∷ rest ≡
    (map (token_of n) (map number_of ls) ++ token_of n (pos 0) ∷ []) ++ (plain_tokens n (part_numbers k t) ++ rest)
numbers-tokens n k ls t rest =
    let front = map (token_of n) (map number_of ls) in
    let zero = token_of n (pos 0) in
    ap (λ (xs : List Token). xs ++ zero ∷ rest) (map-append (token_of n) (map number_of ls) (map pos (line_numbers k t)))
    ∙ (append_assoc front (plain_tokens n (line_numbers k t)) (zero ∷ rest)
    ∙ (ap (λ (xs : List Token). front ++ xs) (sym (append_assoc (plain_tokens n (line_numbers k t)) (zero ∷ []) rest) ∙ ap (λ (xs : List Token). xs ++ rest) (zero-moves n k t))
    ∙ sym (append_assoc front (zero ∷ []) (plain_tokens n (part_numbers k t) ++ rest))))

-- the numbers of a line
numbers-read : (n : ℕ) (s : Shape) (k : Kind) (ls : List Literal) (t : ProofPart) (rest : List ℕ) → Opens s → AllByRecursion IsSmall ls → IsPartOf k t →
    to_come (at n s) (literals_text ls ++ ((plain_text (line_numbers k t) ++ line_end) ++ rest)) ≡
    (map (token_of n) (map number_of ls) ++ token_of n (pos 0) ∷ []) ++ (plain_tokens n (part_numbers k t) ++ to_come (at (n + 1) Start) rest)
numbers-read n s k ls t rest o a p =
    let zs = map number_of ls ++ map pos (line_numbers k t) in
    let shown : AllByRecursion IsShown zs = all-append IsShown (map number_of ls) (map pos (line_numbers k t)) (all-shown ls a) (all-plain (line_numbers k t) (line-short k t p)) in
    let text : literals_text ls ++ ((plain_text (line_numbers k t) ++ line_end) ++ rest) ≡ numbers_text zs ++ 48 ∷ 10 ∷ rest =
    ap (λ (xs : List ℕ). literals_text ls ++ xs) (append_assoc (plain_text (line_numbers k t)) line_end rest)
    ∙ (sym (append_assoc (literals_text ls) (plain_text (line_numbers k t)) (line_end ++ rest))
    ∙ ap (λ (xs : List ℕ). xs ++ 48 ∷ 10 ∷ rest) (sym (numbers-append (map number_of ls) (map pos (line_numbers k t))))) in
    ap (to_come (at n s)) text
    ∙ (numbers-line n s zs rest o shown
    ∙ numbers-tokens n k ls t (to_come (at (n + 1) Start) rest))

-- a letter, and the space behind it
letter-read : (n : ℕ) (k : Kind) (ls : List Literal) (t : ProofPart) (rest : List ℕ) → AllByRecursion IsSmall ls → IsPartOf k t →
    to_come (at n Start) (letter_text k ++ (literals_text ls ++ ((plain_text (line_numbers k t) ++ line_end) ++ rest))) ≡
    step_tokens n k ls ++ (plain_tokens n (part_numbers k t) ++ to_come (at (n + 1) Start) rest)
letter-read n Add ls t rest a p = numbers-read n Start Add ls t rest opens-start a p
letter-read n Delete ls t rest a p =
    word-space n 100 [] (literals_text ls ++ ((plain_text (line_numbers Delete t) ++ line_end) ++ rest)) Start opens-start refl refl
    ∙ ap (λ (ts : List Token). letter_tokens n Delete ++ ts) (numbers-read n Between Delete ls t rest opens-between a p)
letter-read n Drop ls t rest a p =
    word-space n 117 [] (literals_text ls ++ ((plain_text (line_numbers Drop t) ++ line_end) ++ rest)) Start opens-start refl refl
    ∙ ap (λ (ts : List Token). letter_tokens n Drop ++ ts) (numbers-read n Between Drop ls t rest opens-between a p)
letter-read n Fresh ls t rest a p =
    word-space n 101 [] (literals_text ls ++ ((plain_text (line_numbers Fresh t) ++ line_end) ++ rest)) Start opens-start refl refl
    ∙ ap (λ (ts : List Token). letter_tokens n Fresh ++ ts) (numbers-read n Between Fresh ls t rest opens-between a p)
letter-read n Remove ls t rest a p =
    word-space n 114 [] (literals_text ls ++ ((plain_text (line_numbers Remove t) ++ line_end) ++ rest)) Start opens-start refl refl
    ∙ ap (λ (ts : List Token). letter_tokens n Remove ++ ts) (numbers-read n Between Remove ls t rest opens-between a p)

line-read : (n : ℕ) (h : Hinted) (rest : List ℕ) → IsWritten h →
    to_come (at n Start) (hinted_text h.step h.proof ++ rest) ≡
    step_tokens n (kind_of h.step) (literals_of h.step) ++ (plain_tokens n (part_numbers (kind_of h.step) h.proof) ++ to_come (at (n + 1) Start) rest)
line-read n h rest w =
    let k = kind_of h.step in
    let ls = literals_of h.step in
    let behind = plain_text (line_numbers k h.proof) ++ line_end in
    ap (to_come (at n Start)) (append_assoc (letter_text k ++ literals_text ls) behind rest ∙ append_assoc (letter_text k) (literals_text ls) (behind ++ rest))
    ∙ letter-read n k ls h.proof rest w.step.numbers w.part

-- the text of a line as its tokens
abbrev text_of : ℕ → Hinted → HintedText
text_of n h = record {
  step = record { tokens = step_tokens n (kind_of h.step) (literals_of h.step); kind = kind_of h.step; lits = literals_of h.step };
  behind = plain_tokens n (part_numbers (kind_of h.step) h.proof);
  proof = h.proof;
}

literals-kinds : (n : ℕ) (ls : List Literal) → kinds_of (map (token_of n) (map number_of ls) ++ token_of n (pos 0) ∷ []) ≡ literals_kinds ls
literals-kinds n [] = refl
literals-kinds n (l ∷ ls) = ap (λ (ks : List TokenKind). Number (number_of l) ∷ ks) (literals-kinds n ls)

step-kinds : (n : ℕ) (k : Kind) (ls : List Literal) → kinds_of (step_tokens n k ls) ≡ letter_kinds k ++ literals_kinds ls
step-kinds n Add ls = literals-kinds n ls
step-kinds n Delete ls = ap (λ (ks : List TokenKind). letter_kinds Delete ++ ks) (literals-kinds n ls)
step-kinds n Drop ls = ap (λ (ks : List TokenKind). letter_kinds Drop ++ ks) (literals-kinds n ls)
step-kinds n Fresh ls = ap (λ (ks : List TokenKind). letter_kinds Fresh ++ ks) (literals-kinds n ls)
step-kinds n Remove ls = ap (λ (ks : List TokenKind). letter_kinds Remove ++ ks) (literals-kinds n ls)

plain-kinds : (n : ℕ) (ns : List ℕ) → kinds_of (plain_tokens n ns) ≡ numbers_kinds ns
plain-kinds n [] = refl
plain-kinds n (m ∷ ns) = ap (λ (ks : List TokenKind). Number (pos m) ∷ ks) (plain-kinds n ns)

begins-there : (n : ℕ) (k : Kind) (ls : List Literal) → first_line (step_tokens n k ls) ≡ n
begins-there n Add [] = refl
begins-there n Add (l ∷ ls) = refl
begins-there n Delete ls = refl
begins-there n Drop ls = refl
begins-there n Fresh ls = refl
begins-there n Remove ls = refl

text-spelled : (n : ℕ) (h : Hinted) → IsWritten h → IsHintedSpelled (text_of n h)
text-spelled n h w = record {
  step = record { kinds = step-kinds n (kind_of h.step) (literals_of h.step); form = step-form h.step; numbers = w.step.numbers };
  kinds = plain-kinds n (part_numbers (kind_of h.step) h.proof);
  part = w.part;
}

text-is : (n : ℕ) (h : Hinted) → IsWritten h → hinted_of (text_of n h) ≡ (n, h)
text-is n h w = rw (begins-there n (kind_of h.step) (literals_of h.step), same-step h.step w.step.step) refl

abbrev texts_of : ℕ → List Hinted → List HintedText
texts_of n [] = []
texts_of n (h ∷ hs) = text_of n h ∷ texts_of (n + 1) hs

lines-read : (n : ℕ) (hs : List Hinted) → AllByRecursion IsWritten hs → to_come (at n Start) (lines_text hs) ≡ tokens_in (texts_of n hs)
lines-read n [] a = refl
lines-read n (h ∷ hs) (w, a) =
    line-read n h (lines_text hs) w
    ∙ ap (λ (ts : List Token). step_tokens n (kind_of h.step) (literals_of h.step) ++ (plain_tokens n (part_numbers (kind_of h.step) h.proof) ++ ts)) (lines-read (n + 1) hs a)

lines-spelled : (n : ℕ) (hs : List Hinted) → AllByRecursion IsWritten hs → AllByRecursion IsHintedSpelled (texts_of n hs)
lines-spelled n [] a = tt
lines-spelled n (h ∷ hs) (w, a) = (text-spelled n h w, lines-spelled (n + 1) hs a)

lines-are : (n : ℕ) (hs : List Hinted) → AllByRecursion IsWritten hs → on_lines n hs ≡ map hinted_of (texts_of n hs)
lines-are n [] a = refl
lines-are n (h ∷ hs) (w, a) =
    ap (λ (x : ℕ × Hinted). x ∷ on_lines (n + 1) hs) (sym (text-is n h w))
    ∙ ap (λ (xs : List (ℕ × Hinted)). hinted_of (text_of n h) ∷ xs) (lines-are (n + 1) hs a)

abbrev header_tokens : List Token
header_tokens = record { kind = P; line = 1 } ∷ record { kind = Qrat; line = 1 } ∷ token_of 1 (pos 2) ∷ []

header-tokens : (rest : List ℕ) → to_come (at 1 Start) (header_text ++ rest) ≡ header_tokens ++ to_come (at 2 Start) rest
header-tokens rest =
    word-space 1 112 [] (113 ∷ 114 ∷ 97 ∷ 116 ∷ 32 ∷ 50 ∷ 10 ∷ rest) Start opens-start refl refl
    ∙ ap (λ (ts : List Token). record { kind = P; line = 1 } ∷ ts)
    (word-space 1 113 (114 ∷ 97 ∷ 116 ∷ []) (50 ∷ 10 ∷ rest) Between opens-between refl refl
    ∙ ap (λ (ts : List Token). record { kind = Qrat; line = 1 } ∷ ts) (word-line 1 50 [] rest Between opens-between refl refl))

pub hinted-reread : (limit : ℕ) (hs : List Hinted) → AllByRecursion IsWritten hs → length (log_text hs) ≤ limit → HintedSteps limit (log_text hs) ≡ Some (on_lines 2 hs)
hinted-reread limit hs a h =
    hinted-read limit (log_text hs) (on_lines 2 hs)
    (record {
      header = header_tokens;
      texts = texts_of 2 hs;
      short = h;
      opens = refl;
      tokens = sym (from_start (log_text hs)) ∙ (header-tokens (lines_text hs) ∙ ap (λ (ts : List Token). header_tokens ++ ts) (lines-read 2 hs a));
      spelled = lines-spelled 2 hs a;
      hinted_are = lines-are 2 hs a;
    })
