-- What is spelled in the grammar is read.
use Rattle.std.proofs.Common.{◌≡◌, ◌⊎◌, inl, inr, ◌<◌, ◌≤◌, ◌+◌, ◌==◌, ◌^◌, ℕ, zero, suc, nat_le, nat_lt, if◌then◌else◌, take, Bool, true, false, List, [], ◌∷◌, ◌++◌, length, map, Option, Some, None, Result, Ok, Err, refl, sym, ap, ◌∙◌, arith, pos, append_assoc, append-nil, add-one}
use Rattle.std.proofs.lemmas.Bool.Decides.{nat_tests}
use Rattle.std.specs.List.{AllByRecursion}
use Rattle.q_logic.specs.Prelude.{Literal, ArePairs, number_of}
use Rattle.q_text.specs.declared.tokens.TokenKind.{TokenKind}
use Rattle.q_text.specs.declared.tokens.TokenKind.TheVariants.{Number, P, E, A, R}
use Rattle.q_text.specs.Tokens.{literals_kinds}
use Rattle.q_text.specs.Texts.{line_after}
use Rattle.q_qrp.specs.declared.words.Spoken.{Spoken}
use Rattle.q_qrp.specs.Words.{words_of, words_ended}
use Rattle.q_qrp.specs.declared.trace.Row.{Row}
use Rattle.q_qrp.specs.declared.trace.Antecedents.{Antecedents}
use Rattle.q_qrp.specs.declared.trace.Antecedents.TheVariants.{Zero, One, Two}
use Rattle.q_qrp.specs.declared.trace.Verdict.{Verdict}
use Rattle.q_qrp.specs.declared.trace.Verdict.TheVariants.{Sat, Unsat, Unknown}
use Rattle.q_qrp.specs.declared.builder.Place.{Place}
use Rattle.q_qrp.specs.declared.builder.Place.TheVariants.{Problem, Format, First, Second, Sets, InSet, Lines, Literals, After, Answer, Done}
use Rattle.q_qrp.specs.declared.error.TraceError.{TraceError}
use Rattle.q_qrp.specs.Lines.{Line, Proof, lines_of}
use Rattle.q_qrp.specs.Causes.{no_verdict, limit}
use Rattle.q_qrp.specs.Reading.{Gathered, nothing_read, no_row}
use Rattle.q_qrp.specs.Scanning.{proof_in}
use Rattle.q_qrp.specs.Offences.{words_read, after_word, at_last, proof_or, parse, TraceOf}
use Rattle.q_qrp.specs.Grammar.{kinds_of, IsSmall, IsNumber, IsHeader, vars_kinds, IsSet, antecedents_kinds, AreNumbers, IsLine, verdict_name, AreSets, AreLines, joined, Spells, words_within, Trace}

abbrev pub inside : Place → List Row → List (List Literal) → Row → List Literal → Gathered
inside p rs ts r ls = record { place = p; rows = rs; terms = ts; row = r; pending = ls }

pub words_read-append : (r : Result Gathered TraceError) (xs ys : List Spoken) → words_read r (xs ++ ys) ≡ words_read (words_read r xs) ys
words_read-append r [] ys = refl
words_read-append r (x ∷ xs) ys = words_read-append (after_word r x) xs ys

small-fits : (n : ℕ) → n < 2 ^ 31 → nat_lt 2147483647 n ≡ false
small-fits n h = grind (arith, nat_tests)

not-zero : (n : ℕ) → 1 ≤ n → (n == 0) ≡ false
not-zero n h = grind (arith, nat_tests)

above-last : (m n : ℕ) → m < n → nat_le n m ≡ false
above-last m n h = grind (arith, nat_tests)

header-read : (ws : List Spoken) → IsHeader ws → words_read (Ok nothing_read) ws ≡ Ok (inside Sets [] [] no_row [])
header-read ws h =
    let s = small-fits h.vars h.small.0 in
    let t = small-fits h.count h.small.1 in
    rw (h.words, h.begins, h.name, h.vars_are, s, h.count_is, t) refl

vars-read : (rs : List Row) (ts : List (List Literal)) (r : Row) (ls : List Literal) (us : List Spoken) (vs : List ℕ) → kinds_of us ≡ vars_kinds vs → AllByRecursion IsNumber vs
    → words_read (Ok (inside InSet rs ts r ls)) us ≡ Ok (inside Sets rs ts r ls)
vars-read rs ts r ls [] [] e a = cc
vars-read rs ts r ls [] (v ∷ vs) e a = cc
vars-read rs ts r ls (u ∷ []) [] e a = let k : u.token.kind ≡ Number (pos 0) = cc in rw k refl
vars-read rs ts r ls (u ∷ x ∷ us) [] e a = cc
vars-read rs ts r ls (u ∷ us) (v ∷ vs) e (h, hs) =
    let k : u.token.kind ≡ Number (pos v) = cc in
    let f : kinds_of us ≡ vars_kinds vs = cc in
    rw (k, small-fits v h.1, not-zero v h.0) (vars-read rs ts r ls us vs f hs)

set-read : (rs : List Row) (ts : List (List Literal)) (r : Row) (ls : List Literal) (ws : List Spoken) → IsSet ws → words_read (Ok (inside Sets rs ts r ls)) ws ≡ Ok (inside Sets rs ts r ls)
set-read rs ts r ls [] h = let e = h.kinds in cc
set-read rs ts r ls (w ∷ ws) h = go h.begins
  where
    f : kinds_of ws ≡ vars_kinds h.vars
    f = let e = h.kinds in cc

    k : w.token.kind ≡ h.letter
    k = let e = h.kinds in cc

    go : (h.letter ≡ E) ⊎ (h.letter ≡ A) → words_read (Ok (inside Sets rs ts r ls)) (w ∷ ws) ≡ Ok (inside Sets rs ts r ls)
    go (inl e) = rw (k, e) (vars-read rs ts r ls ws h.vars f h.small)
    go (inr e) = rw (k, e) (vars-read rs ts r ls ws h.vars f h.small)

sets-read : (rs : List Row) (ts : List (List Literal)) (r : Row) (ls : List Literal) (texts : List (List Spoken)) → AreSets texts → words_read (Ok (inside Sets rs ts r ls)) (joined texts) ≡ Ok (inside Sets rs ts r ls)
sets-read rs ts r ls [] a = refl
sets-read rs ts r ls (t ∷ texts) (h, hs) = words_read-append (Ok (inside Sets rs ts r ls)) t (joined texts) ∙ (ap (λ x. words_read x (joined texts)) (set-read rs ts r ls t h) ∙ sets-read rs ts r ls texts hs)

abbrev pub row_with : Row → Antecedents → Row
row_with r a = record { id = r.id; place = r.place; antecedents = a }

-- the antecedents of a line, and its end
antecedents-read : (rs : List Row) (ts : List (List Literal)) (r : Row) (ls : List Literal) (us : List Spoken) (a : Antecedents) → r.antecedents ≡ Zero → kinds_of us ≡ antecedents_kinds a → AreNumbers a
    → words_read (Ok (inside After rs ts r ls)) us ≡ Ok (inside Lines (rs ++ row_with r a ∷ []) (ts ++ ls ∷ []) (row_with r a) ls)
antecedents-read rs ts r ls (u ∷ []) Zero z e a =
    let k : u.token.kind ≡ Number (pos 0) = cc in
    let same : r ≡ row_with r Zero = ap (λ (x : Antecedents). row_with r x) z in
    rw k (ap (λ (x : Row). let g : Result Gathered TraceError = Ok (inside Lines (rs ++ x ∷ []) (ts ++ ls ∷ []) x ls) in g) same)
antecedents-read rs ts r ls (u ∷ v ∷ []) (One m) z e a =
    let k : u.token.kind ≡ Number (pos m) = cc in
    let l : v.token.kind ≡ Number (pos 0) = cc in
    rw (k, small-fits m a.1, not-zero m a.0, z, l) refl
antecedents-read rs ts r ls (u ∷ v ∷ w ∷ []) (Two m n) z e (a, b) =
    let k : u.token.kind ≡ Number (pos m) = cc in
    let l : v.token.kind ≡ Number (pos n) = cc in
    let j : w.token.kind ≡ Number (pos 0) = cc in
    rw (k, small-fits m a.1, not-zero m a.0, z, l, small-fits n b.1, not-zero n b.0, j) refl
antecedents-read rs ts r ls [] Zero z e a = cc
antecedents-read rs ts r ls [] (One m) z e a = cc
antecedents-read rs ts r ls [] (Two m n) z e a = cc
antecedents-read rs ts r ls (u ∷ v ∷ us) Zero z e a = cc
antecedents-read rs ts r ls (u ∷ []) (One m) z e a = cc
antecedents-read rs ts r ls (u ∷ v ∷ w ∷ us) (One m) z e a = cc
antecedents-read rs ts r ls (u ∷ []) (Two m n) z e a = cc
antecedents-read rs ts r ls (u ∷ v ∷ []) (Two m n) z e a = cc
antecedents-read rs ts r ls (u ∷ v ∷ w ∷ x ∷ us) (Two m n) z e a = cc

-- a literal of a line
literal-read : (rs : List Row) (ts : List (List Literal)) (r : Row) (ls : List Literal) (u : Spoken) (us : List Spoken) (k : Literal) → u.token.kind ≡ Number (number_of k) → IsNumber k.var
    → words_read (Ok (inside Literals rs ts r ls)) (u ∷ us) ≡ words_read (Ok (inside Literals rs ts r (ls ++ k ∷ []))) us
literal-read rs ts r ls u us k e h = go k.var k.negative h e
  where
    go : (v : ℕ) (s : Bool) → IsNumber v → u.token.kind ≡ Number (number_of (record { var = v; negative = s }))
        → words_read (Ok (inside Literals rs ts r ls)) (u ∷ us) ≡ words_read (Ok (inside Literals rs ts r (ls ++ record { var = v; negative = s } ∷ []))) us
    go zero s h e = absurd (omega (arith, h.0))
    go (suc v) false h e = rw (e, small-fits (suc v) h.1, not-zero (suc v) h.0) refl
    go (suc v) true h e =
        let a : v + 1 ≡ suc v = add-one v in
        rw (e, a, small-fits (suc v) h.1, not-zero (suc v) h.0) refl

literals-read : (rs : List Row) (ts : List (List Literal)) (r : Row) (ls : List Literal) (us : List Spoken) (ms : List Literal) (a : Antecedents) → r.antecedents ≡ Zero
    → kinds_of us ≡ literals_kinds ms ++ antecedents_kinds a → AllByRecursion (λ k. IsNumber k.var) ms → AreNumbers a
    → words_read (Ok (inside Literals rs ts r ls)) us ≡ Ok (inside Lines (rs ++ row_with r a ∷ []) (ts ++ (ls ++ ms) ∷ []) (row_with r a) (ls ++ ms))
literals-read rs ts r ls [] [] a z e h n = cc
literals-read rs ts r ls [] (m ∷ ms) a z e h n = cc
literals-read rs ts r ls (u ∷ us) [] a z e h n =
    let k : u.token.kind ≡ Number (pos 0) = cc in
    let f : kinds_of us ≡ antecedents_kinds a = cc in
    rw (k, append-nil) (antecedents-read rs ts r ls us a z f n)
literals-read rs ts r ls (u ∷ us) (m ∷ ms) a z e (h, hs) n =
    let k : u.token.kind ≡ Number (number_of m) = cc in
    let f : kinds_of us ≡ literals_kinds ms ++ antecedents_kinds a = cc in
    let t : (ls ++ m ∷ []) ++ ms ≡ ls ++ m ∷ ms = append_assoc ls (m ∷ []) ms in
    let ih = literals-read rs ts r (ls ++ m ∷ []) us ms a z f hs n in
    literal-read rs ts r ls u us m k h ∙ rw t at ih

-- a place between lines, or between sets
abbrev pub IsBetween : Place → Type 0
IsBetween p = (p ≡ Sets) ⊎ (p ≡ Lines)

abbrev begun : Line → Row
begun l = row_with l.row Zero

number-read : (p : Place) (rs : List Row) (ts : List (List Literal)) (r : Row) (ls : List Literal) (u : Spoken) (us : List Spoken) (l : Line) → IsBetween p → u.token.kind ≡ Number (pos l.row.id) → u.token.line ≡ l.row.place → IsNumber l.row.id → r.id < l.row.id
    → words_read (Ok (inside p rs ts r ls)) (u ∷ us) ≡ words_read (Ok (inside Literals rs ts (begun l) [])) us
number-read p rs ts r ls u us l (inl q) k e h b = rw (q, k, e, small-fits l.row.id h.1, not-zero l.row.id h.0, above-last r.id l.row.id b) refl
number-read p rs ts r ls u us l (inr q) k e h b = rw (q, k, e, small-fits l.row.id h.1, not-zero l.row.id h.0, above-last r.id l.row.id b) refl

line-read : (p : Place) (rs : List Row) (ts : List (List Literal)) (r : Row) (ls : List Literal) (ws : List Spoken) (l : Line) → IsBetween p → IsLine ws l → r.id < l.row.id
    → words_read (Ok (inside p rs ts r ls)) ws ≡ Ok (inside Lines (rs ++ l.row ∷ []) (ts ++ l.literals ∷ []) l.row l.literals)
line-read p rs ts r ls ws l b h a =
    ap (words_read (Ok (inside p rs ts r ls))) h.words
    ∙ (number-read p rs ts r ls h.first h.others l b h.number h.place h.small a
    ∙ literals-read rs ts (begun l) [] h.others l.literals l.row.antecedents refl h.kinds h.literals h.antecedents)

-- what has been read with these lines behind others
record Read (rs : List Row) (ts : List (List Literal)) (ls : List Line) (r : Result Gathered TraceError) : Type 0 where
  place : Place
  row : Row
  pending : List Literal
  between : IsBetween place
  is : r ≡ Ok (inside place (rs ++ map (λ l. l.row) ls) (ts ++ map (λ l. l.literals) ls) row pending)

lines-read : (p : Place) (rs : List Row) (ts : List (List Literal)) (r : Row) (ps : List Literal) (texts : List (List Spoken)) (ls : List Line) → IsBetween p → AreLines texts ls → AllByRecursion (λ l. r.id < l.row.id) ls → ArePairs (λ a b. a.row.id < b.row.id) ls
    → Read rs ts ls (words_read (Ok (inside p rs ts r ps)) (joined texts))
lines-read p rs ts r ps [] [] b h a q = record { place = p; row = r; pending = ps; between = b; is = rw (append-nil, append-nil) refl }
lines-read p rs ts r ps [] (l ∷ ls) b h a q = absurd h
lines-read p rs ts r ps (t ∷ texts) [] b h a q = absurd h
lines-read p rs ts r ps (t ∷ texts) (l ∷ ls) b (h, hs) (a, more) (q, qs) =
    let ih = lines-read Lines (rs ++ l.row ∷ []) (ts ++ l.literals ∷ []) l.row l.literals texts ls (inr refl) hs q qs in
    let one = words_read-append (Ok (inside p rs ts r ps)) t (joined texts) ∙ ap (λ x. words_read x (joined texts)) (line-read p rs ts r ps t l b h a) in
    let e = append_assoc rs (l.row ∷ []) (map (λ l. l.row) ls) in
    let f = append_assoc ts (l.literals ∷ []) (map (λ l. l.literals) ls) in
    record { place = ih.place; row = ih.row; pending = ih.pending; between = ih.between; is = one ∙ rw (e, f) at ih.is }

lines-apart : (ls : List Line) → lines_of (map (λ l. l.row) ls) (map (λ l. l.literals) ls) ≡ ls
lines-apart [] = refl
lines-apart (l ∷ ls) = ap (λ ms. l ∷ ms) (lines-apart ls)

-- r and the verdict
verdict-done : (rs : List Row) (ts : List (List Literal)) (r : Row) (ls : List Literal) (v : Spoken) (rest : List Spoken) (says : Verdict) → v.name ≡ verdict_name says
    → words_read (Ok (inside Answer rs ts r ls)) (v ∷ rest) ≡ words_read (Ok (inside (Done says v.token.line) rs ts r ls)) rest
verdict-done rs ts r ls v rest Sat e = rw e refl
verdict-done rs ts r ls v rest Unsat e = rw e refl
verdict-done rs ts r ls v rest Unknown e = rw e refl

done-stays : (says : Verdict) (n : ℕ) (rs : List Row) (ts : List (List Literal)) (r : Row) (ls : List Literal) (rest : List Spoken) → words_read (Ok (inside (Done says n) rs ts r ls)) rest ≡ Ok (inside (Done says n) rs ts r ls)
done-stays says n rs ts r ls [] = refl
done-stays says n rs ts r ls (w ∷ rest) = done-stays says n rs ts r ls rest

answer-read : (p : Place) (rs : List Row) (ts : List (List Literal)) (r : Row) (ls : List Literal) (a : Spoken) (ws : List Spoken) → IsBetween p → a.token.kind ≡ R → words_read (Ok (inside p rs ts r ls)) (a ∷ ws) ≡ words_read (Ok (inside Answer rs ts r ls)) ws
answer-read p rs ts r ls a ws (inl q) k = rw (q, k) refl
answer-read p rs ts r ls a ws (inr q) k = rw (q, k) refl

all-above : (ts : List (List Spoken)) (ls : List Line) → AreLines ts ls → AllByRecursion (λ l. 0 < l.row.id) ls
all-above [] [] a = tt
all-above [] (l ∷ ls) a = absurd a
all-above (t ∷ ts) [] a = absurd a
all-above (t ∷ ts) (l ∷ ls) (h, hs) = (h.small.0, all-above ts ls hs)

abbrev ended : Proof → Row → List Literal → Gathered
ended p r ls = inside (Done p.verdict p.place) (map (λ l. l.row) p.lines) (map (λ l. l.literals) p.lines) r ls

pub spelled-read : (ws : List Spoken) (p : Proof) → Spells ws p → (r : Row) × (ls : List Literal) × (words_read (Ok nothing_read) ws ≡ Ok (inside (Done p.verdict p.place) (map (λ l. l.row) p.lines) (map (λ l. l.literals) p.lines) r ls))
spelled-read ws p h =
    let tail : List Spoken = h.answer ∷ h.verdict ∷ h.rest in
    let m = lines-read Sets [] [] no_row [] h.lines p.lines (inl refl) h.are_lines (all-above h.lines p.lines h.are_lines) h.rising in
    let rs = map (λ l. l.row) p.lines in
    let ts = map (λ l. l.literals) p.lines in
    let front = ap (words_read (Ok nothing_read)) h.words ∙ (words_read-append (Ok nothing_read) h.header (joined h.sets ++ (joined h.lines ++ tail)) ∙ ap (λ x. words_read x (joined h.sets ++ (joined h.lines ++ tail))) (header-read h.header h.is_header)) in
    let mid = words_read-append (Ok (inside Sets [] [] no_row [])) (joined h.sets) (joined h.lines ++ tail) ∙ ap (λ x. words_read x (joined h.lines ++ tail)) (sets-read [] [] no_row [] h.sets h.are_sets) in
    let back = words_read-append (Ok (inside Sets [] [] no_row [])) (joined h.lines) tail ∙ ap (λ x. words_read x tail) m.is in
    let last = answer-read m.place rs ts m.row m.pending h.answer (h.verdict ∷ h.rest) m.between h.answers ∙ (verdict-done rs ts m.row m.pending h.verdict h.rest p.verdict h.says ∙ done-stays p.verdict h.verdict.token.line rs ts m.row m.pending h.rest) in
    let place = ap (λ (n : ℕ). let g : Result Gathered TraceError = Ok (inside (Done p.verdict n) rs ts m.row m.pending) in g) h.place in
    (m.row, m.pending, (front ∙ (mid ∙ (back ∙ (last ∙ place)))))

pub grammar-proof : (p : Proof) (r : Row) (ls : List Literal) → proof_in (inside (Done p.verdict p.place) (map (λ l. l.row) p.lines) (map (λ l. l.literals) p.lines) r ls) ≡ Some p
grammar-proof p r ls = ap (λ (x : List Line). let q : Option Proof = Some (record { lines = x; verdict = p.verdict; place = p.place }) in q) (lines-apart p.lines)

pub spelled-parsed : (cause n : ℕ) (ws : List Spoken) (p : Proof) → Spells ws p → at_last cause n (words_read (Ok nothing_read) ws) ≡ Ok p
spelled-parsed cause n ws p h = let s = spelled-read ws p h in ap (at_last cause n) s.2 ∙ ap (proof_or cause n) (grammar-proof p s.0 s.1)

pub grammar-read : (most : ℕ) (bytes : List ℕ) (p : Proof) → Trace most bytes p → TraceOf most bytes p
grammar-read most bytes p h = go (nat_le (length bytes) most) h
  where
    go : (t : Bool) → Spells (if t then words_of bytes else words_ended (take most bytes)) p
        → (if t then at_last no_verdict (line_after bytes) (words_read (Ok nothing_read) (words_of bytes)) else at_last limit (line_after (take most bytes)) (words_read (Ok nothing_read) (words_ended (take most bytes)))) ≡ Ok p
    go true h = spelled-parsed no_verdict (line_after bytes) (words_of bytes) p h
    go false h = spelled-parsed limit (line_after (take most bytes)) (words_ended (take most bytes)) p h
