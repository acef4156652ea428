-- The text of a hinted step is one line: it has one LF, at its end.
use Rattle.std.proofs.Common.{◌≡◌, ◌<◌, ◌+◌, ◌^◌, ◌%◌, ◌==◌, ◌∙◌, ap, refl, sym, arith, ℕ, suc, Bool, false, cond, List, [], ◌∷◌, ◌++◌, append_assoc, map, ℤ, pos, negsuc}
use Rattle.std.specs.List.{AllByRecursion}
use Rattle.std.specs.Fmt.{decimal}
use Rattle.std.proofs.lemmas.Fmt.{decimal_by_steps}
use Rattle.std.proofs.lemmas.Bool.Decides.{nat_tests}
use Rattle.q_logic.specs.declared.proof_part.ProofKind.{ProofKind}
use Rattle.q_logic.specs.declared.proof_part.ProofKind.TheVariants.{Nothing, Implied, Pivot, Reach}
use Rattle.q_logic.specs.declared.steps.Kind.{Kind}
use Rattle.q_logic.specs.declared.steps.Kind.TheVariants.{Add, Delete, Drop, Fresh, Remove}
use Rattle.q_logic.specs.Prelude.{HintGroup, ProofPart, ProofStep, kind_of, literals_of, number_of}
use Rattle.q_text.specs.Numbers.{number_text, numbers_text}
use Rattle.q_text.proofs.Decimals.{IsShown}
use Rattle.q_log.specs.Texts.{IsLogged, head_text, letter_text, literals_text}
use Rattle.q_log.proofs.LogRoundTrip.{all-shown}
use Rattle.q_hinted.specs.Parts.{IsNumber, IsGroup, IsPartOf, AreGroups, groups_numbers, proof_numbers, line_numbers}
use Rattle.q_hinted.specs.Texts.{header_text, hinted_text, plain_text}
use Rattle.q_run_annotate.specs.JoinedParts.{lines_of, onto_first}

-- no LF is in the text
abbrev NoBreak : List ℕ → Type 0
NoBreak text = AllByRecursion (λ b. (b == 10) ≡ false) text

no-break-append : (xs ys : List ℕ) → NoBreak xs → NoBreak ys → NoBreak (xs ++ ys)
no-break-append [] ys a b = b
no-break-append (x ∷ xs) ys a b = (a.0, no-break-append xs ys a.1 b)

digit-no-break : (d : ℕ) → ((48 + d) == 10) ≡ false
digit-no-break d = grind (arith, nat_tests)

decimal-no-break : (n : ℕ) → n < 2 ^ 64 → NoBreak (decimal n)
decimal-no-break n h = decimal_by_steps (λ k ds. NoBreak ds) (λ d l. (digit-no-break d, tt))
    (λ k ds l a. no-break-append ds ((48 + k % 10) ∷ []) a (digit-no-break (k % 10), tt)) n h

number-no-break : (z : ℤ) → IsShown z → NoBreak (number_text z)
number-no-break (pos n) h = no-break-append (decimal n) (32 ∷ []) (decimal-no-break n (omega (arith, h))) (refl, tt)
number-no-break (negsuc n) h = (refl, no-break-append (decimal (suc n)) (32 ∷ []) (decimal-no-break (suc n) (omega (arith, h))) (refl, tt))

numbers-no-break : (zs : List ℤ) → AllByRecursion IsShown zs → NoBreak (numbers_text zs)
numbers-no-break [] a = tt
numbers-no-break (z ∷ zs) a = no-break-append (number_text z) (numbers_text zs) (number-no-break z a.0) (numbers-no-break zs a.1)

letter-no-break : (k : Kind) → NoBreak (letter_text k)
letter-no-break Add = tt
letter-no-break Delete = (refl, (refl, tt))
letter-no-break Drop = (refl, (refl, tt))
letter-no-break Fresh = (refl, (refl, tt))
letter-no-break Remove = (refl, (refl, tt))

-- the numbers of a proof part are not too large
Shown : List ℕ → Type 0
Shown ns = AllByRecursion IsShown (map pos ns)

shown-append : (xs ys : List ℕ) → Shown xs → Shown ys → Shown (xs ++ ys)
unfolding Shown
shown-append [] ys a b = b
shown-append (x ∷ xs) ys a b = (a.0, shown-append xs ys a.1 b)

hints-shown : (hs : List ℕ) → AllByRecursion IsNumber hs → Shown hs
unfolding Shown
hints-shown [] a = tt
hints-shown (h ∷ hs) (b, a) = (omega (arith, b.1), hints-shown hs a)

groups-shown : (gs : List HintGroup) → AllByRecursion IsGroup gs → Shown (groups_numbers gs)
unfolding Shown
groups-shown [] a = tt
groups-shown (g ∷ gs) (b, a) = (omega (arith, b.0.1), shown-append g.hints (0 ∷ groups_numbers gs) (hints-shown g.hints b.1) (omega arith, groups-shown gs a))

proof-shown : (k : ProofKind) (gs : List HintGroup) → AreGroups k gs → Shown (proof_numbers k gs)
unfolding Shown
proof-shown Nothing gs a = tt
proof-shown Implied [] a = absurd a
proof-shown Implied (g ∷ []) (z, a) = (omega arith, hints-shown g.hints a)
proof-shown Implied (g ∷ h ∷ gs) a = absurd a
proof-shown Pivot gs a = (omega arith, groups-shown gs a)
proof-shown Reach gs a = (omega arith, tt)

line-shown : (k : Kind) (t : ProofPart) → IsPartOf k t → Shown (line_numbers k t)
unfolding Shown
line-shown Add t (z, a) = (omega arith, proof-shown t.kind t.groups a)
line-shown Delete t (b, a) = (omega arith, (omega (arith, b.1), proof-shown t.kind t.groups a))
line-shown Drop t (b, a) = (omega arith, (omega (arith, b.1), proof-shown t.kind t.groups a))
line-shown Fresh t a = tt
line-shown Remove t a = tt

-- a line before its end
abbrev front_of_line : ProofStep → ProofPart → List ℕ
front_of_line s t = head_text s ++ (plain_text (line_numbers (kind_of s) t) ++ 48 ∷ [])

front-no-break : (s : ProofStep) (t : ProofPart) → IsLogged s → IsPartOf (kind_of s) t → NoBreak (front_of_line s t)
unfolding Shown
front-no-break s t l p =
    let head : NoBreak (head_text s) = no-break-append (letter_text (kind_of s)) (literals_text (literals_of s)) (letter-no-break (kind_of s)) (numbers-no-break (map number_of (literals_of s)) (all-shown (literals_of s) l.numbers)) in
    let part : NoBreak (plain_text (line_numbers (kind_of s) t)) = numbers-no-break (map pos (line_numbers (kind_of s) t)) (line-shown (kind_of s) t p) in
    no-break-append (head_text s) (plain_text (line_numbers (kind_of s) t) ++ 48 ∷ []) head (no-break-append (plain_text (line_numbers (kind_of s) t)) (48 ∷ []) part (refl, tt))

text-is-front : (s : ProofStep) (t : ProofPart) → hinted_text s t ≡ front_of_line s t ++ 10 ∷ []
text-is-front s t =
    let ns : List ℕ = plain_text (line_numbers (kind_of s) t) in
    ap (λ (x : List ℕ). head_text s ++ x) (sym (append_assoc ns (48 ∷ []) (10 ∷ []))) ∙ sym (append_assoc (head_text s) (ns ++ 48 ∷ []) (10 ∷ []))

-- a text is cut behind its first line
lines-front : (front rest : List ℕ) → NoBreak front → lines_of (front ++ 10 ∷ rest) ≡ (front ++ 10 ∷ []) ∷ lines_of rest
lines-front [] rest a = refl
lines-front (b ∷ front) rest a =
    let more : List ℕ = front ++ 10 ∷ rest in
    ap (λ (t : Bool). cond t ((b ∷ []) ∷ lines_of more) (onto_first b (lines_of more))) a.0 ∙ ap (onto_first b) (lines-front front rest a.1)

pub line-first : (s : ProofStep) (t : ProofPart) (rest : List ℕ) → IsLogged s → IsPartOf (kind_of s) t → lines_of (hinted_text s t ++ rest) ≡ hinted_text s t ∷ lines_of rest
line-first s t rest l p =
    let front : List ℕ = front_of_line s t in
    let e : hinted_text s t ≡ front ++ 10 ∷ [] = text-is-front s t in
    ap (λ (x : List ℕ). lines_of (x ++ rest)) e
    ∙ (ap lines_of (append_assoc front (10 ∷ []) rest)
    ∙ (lines-front front rest (front-no-break s t l p) ∙ ap (λ (x : List ℕ). x ∷ lines_of rest) (sym e)))

pub header-first : (rest : List ℕ) → lines_of (header_text ++ rest) ≡ header_text ∷ lines_of rest
header-first rest = refl
