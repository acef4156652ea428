-- What is read is spelled in the grammar.
use Rattle.std.proofs.Common.{◌≡◌, ◌⊎◌, inl, inr, ◌<◌, ◌≤◌, ◌+◌, ◌==◌, ◌^◌, ℕ, zero, suc, nat_le, nat_lt, if◌then◌else◌, take, Bool, true, false, List, [], ◌∷◌, ◌++◌, length, map, Option, Some, None, Result, Ok, Err, refl, sym, ap, ◌∙◌, arith, pos, negsuc, append_assoc, append-nil, add-one, subst, eqb-true, length-append}
use Rattle.std.proofs.lemmas.Bool.Decides.{nat_tests}
use Rattle.std.specs.List.{AllByRecursion}
use Rattle.q_logic.specs.Prelude.{Literal, ArePairs, number_of}
use Rattle.q_text.specs.declared.tokens.TokenKind.{TokenKind}
use Rattle.q_text.specs.declared.tokens.TokenKind.TheVariants.{Number, P, Cnf, Qrat, E, A, D, U, R, Other}
use Rattle.q_text.specs.Tokens.{literals_kinds}
use Rattle.q_text.specs.Texts.{line_after}
use Rattle.q_qrp.specs.declared.words.Spoken.{Spoken}
use Rattle.q_qrp.specs.declared.trace.Row.{Row}
use Rattle.q_qrp.specs.declared.trace.Antecedents.{Antecedents}
use Rattle.q_qrp.specs.declared.trace.Antecedents.TheVariants.{Zero, One, Two}
use Rattle.q_qrp.specs.declared.trace.Verdict.{Verdict}
use Rattle.q_qrp.specs.declared.trace.Verdict.TheVariants.{Sat, Unsat, Unknown}
use Rattle.q_qrp.specs.declared.builder.Place.{Place}
use Rattle.q_qrp.specs.declared.builder.Place.TheVariants.{Problem, Format, First, Second, Sets, InSet, Lines, Literals, After, Answer, Done}
use Rattle.q_qrp.specs.declared.builder.Signed.{Signed}
use Rattle.q_qrp.specs.declared.error.TraceError.{TraceError}
use Rattle.q_qrp.specs.declared.error.TraceError.TheVariants.{Refused}
use Rattle.q_qrp.specs.Words.{words_of, words_ended, qrp_name, sat_name, unsat_name, unknown_name}
use Rattle.q_qrp.specs.Lines.{Line, Proof, lines_of}
use Rattle.q_qrp.specs.Causes.{bad_word, not_rising, no_verdict, limit}
use Rattle.q_qrp.specs.Reading.{Gathered, nothing_read, no_row, goes_to, problem, set_or_line, line_or_answer, begun_line, in_literals, literal, with_literal, with_antecedents, antecedent, ended_line, answered, without_sign, plain_in, onward, one_more}
use Rattle.q_qrp.specs.Scanning.{proof_in}
use Rattle.q_qrp.specs.Offences.{at_line, words_read, after_word, at_last, proof_or, parse, TraceOf}
use Rattle.q_qrp.specs.Grammar.{kinds_of, IsNumber, IsHeader, vars_kinds, IsSet, antecedents_kinds, AreNumbers, IsLine, verdict_name, AreSets, AreLines, joined, Spells, words_within, Trace, IsSmall}
use Rattle.q_qrp.proofs.FeedLaw.{words_read-err}
use Rattle.q_qrp.proofs.GrammarIsRead.{inside, row_with}

-- with these words the verdict comes, and this is the proof
record Comes (r : Result Gathered TraceError) (ws : List Spoken) (p : Proof) : Type 0 where
  last : Gathered
  is : words_read r ws ≡ Ok last
  proof : proof_in last ≡ Some p

bad : {X : Type 0} (e : TraceError) (ws : List Spoken) (p : Proof) → Comes (Err e) ws p → X
bad e ws p h = absurd (let f = words_read-err e ws in let g = h.is in cc)

nothing : {X : Type 0} (b : Gathered) (p : Proof) → proof_in b ≡ None → Comes (Ok b) [] p → X
nothing b p e h =
    absurd (let same : b ≡ h.last = ok-is b h.last h.is in let g : proof_in b ≡ Some p = ap proof_in same ∙ h.proof in cc)
  where
    ok-is : (c d : Gathered) → ◌≡◌ {A = Result Gathered TraceError} (Ok c) (Ok d) → c ≡ d
    ok-is c d h = cc

-- a number without sign
record IsPlain (k : TokenKind) (line : ℕ) (f : ℕ → Result Gathered ℕ) (ws : List Spoken) (p : Proof) : Type 0 where
  n : ℕ
  is : k ≡ Number (pos n)
  small : IsSmall n
  next : Comes (at_line line (f n)) ws p

small-of : (n : ℕ) → nat_lt 2147483647 n ≡ false → n < 2 ^ 31
small-of n e = grind (arith, nat_tests)

plain-step : (k : TokenKind) (line : ℕ) (f : ℕ → Result Gathered ℕ) (ws : List Spoken) (p : Proof) → Comes (at_line line (onward (plain_in k) f)) ws p → IsPlain k line f ws p
plain-step (Number (pos n)) line f ws p h = go (nat_lt 2147483647 n) refl h
  where
    go : (t : Bool) → nat_lt 2147483647 n ≡ t → Comes (at_line line (onward (without_sign (if t then Err limit else Ok (record { negative = false; value = n }))) f)) ws p → IsPlain (Number (pos n)) line f ws p
    go true e h = bad (Refused line limit) ws p h
    go false e h = record { n = n; is = refl; small = small-of n e; next = h }
plain-step (Number (negsuc n)) line f ws p h = go (nat_lt 2147483647 (n + 1)) h
  where
    go : (t : Bool) → Comes (at_line line (onward (without_sign (if t then Err limit else Ok (record { negative = true; value = n + 1 }))) f)) ws p → IsPlain (Number (negsuc n)) line f ws p
    go true h = bad (Refused line limit) ws p h
    go false h = bad (Refused line bad_word) ws p h
plain-step P line f ws p h = bad (Refused line bad_word) ws p h
plain-step Cnf line f ws p h = bad (Refused line bad_word) ws p h
plain-step Qrat line f ws p h = bad (Refused line bad_word) ws p h
plain-step E line f ws p h = bad (Refused line bad_word) ws p h
plain-step A line f ws p h = bad (Refused line bad_word) ws p h
plain-step D line f ws p h = bad (Refused line bad_word) ws p h
plain-step U line f ws p h = bad (Refused line bad_word) ws p h
plain-step R line f ws p h = bad (Refused line bad_word) ws p h
plain-step Other line f ws p h = bad (Refused line bad_word) ws p h

-- a 0, or a literal
abbrev IsZeroStep : TokenKind → Gathered → List Spoken → Proof → Type 0
IsZeroStep k g ws p = (k ≡ Number (pos 0)) × Comes (Ok (record g { place = After })) ws p

record IsLiteralStep (k : TokenKind) (g : Gathered) (ws : List Spoken) (p : Proof) : Type 0 where
  lit : Literal
  is : k ≡ Number (number_of lit)
  number : IsNumber lit.var
  next : Comes (Ok (record g { pending = g.pending ++ lit ∷ [] })) ws p

literal-step : (k : TokenKind) (line : ℕ) (g : Gathered) (ws : List Spoken) (p : Proof) → Comes (at_line line (in_literals g k)) ws p → IsZeroStep k g ws p ⊎ IsLiteralStep k g ws p
literal-step (Number (pos zero)) line g ws p h = inl (refl, h)
literal-step (Number (pos (suc n))) line g ws p h = go (nat_lt 2147483647 (suc n)) refl h
  where
    lit : Literal
    lit = record { var = suc n; negative = false }

    after : nat_lt 2147483647 (suc n) ≡ false → (z : Bool) → (suc n == 0) ≡ z → Comes (at_line line (if z then goes_to g After else with_literal g lit)) ws p → IsZeroStep (Number (pos (suc n))) g ws p ⊎ IsLiteralStep (Number (pos (suc n))) g ws p
    after e true f h = absurd (let x : (suc n == 0) ≡ false = grind (arith, nat_tests) in cc)
    after e false f h = inr (record { lit = lit; is = refl; number = (omega arith, small-of (suc n) e); next = h })

    go : (t : Bool) → nat_lt 2147483647 (suc n) ≡ t → Comes (at_line line (onward (if t then Err limit else Ok (record { negative = false; value = suc n })) (literal g))) ws p
        → IsZeroStep (Number (pos (suc n))) g ws p ⊎ IsLiteralStep (Number (pos (suc n))) g ws p
    go true e h = bad (Refused line limit) ws p h
    go false e h = after e (suc n == 0) refl h
literal-step (Number (negsuc n)) line g ws p h = go (nat_lt 2147483647 (n + 1)) refl h
  where
    lit : Literal
    lit = record { var = suc n; negative = true }

    after : nat_lt 2147483647 (n + 1) ≡ false → (z : Bool) → (n + 1 == 0) ≡ z → Comes (at_line line (if z then goes_to g After else with_literal g (record { var = n + 1; negative = true }))) ws p → IsZeroStep (Number (negsuc n)) g ws p ⊎ IsLiteralStep (Number (negsuc n)) g ws p
    after e true f h = absurd (let x : (n + 1 == 0) ≡ false = grind (arith, nat_tests) in cc)
    after e false f h =
        let a : n + 1 ≡ suc n = add-one n in
        let s : n + 1 < 2 ^ 31 = small-of (n + 1) e in
        inr (record { lit = lit; is = refl; number = (omega arith, omega arith); next = subst (λ (m : ℕ). Comes (Ok (record g { pending = g.pending ++ record { var = m; negative = true } ∷ [] })) ws p) a h })

    go : (t : Bool) → nat_lt 2147483647 (n + 1) ≡ t → Comes (at_line line (onward (if t then Err limit else Ok (record { negative = true; value = n + 1 })) (literal g))) ws p
        → IsZeroStep (Number (negsuc n)) g ws p ⊎ IsLiteralStep (Number (negsuc n)) g ws p
    go true e h = bad (Refused line limit) ws p h
    go false e h = after e (n + 1 == 0) refl h
literal-step P line g ws p h = bad (Refused line bad_word) ws p h
literal-step Cnf line g ws p h = bad (Refused line bad_word) ws p h
literal-step Qrat line g ws p h = bad (Refused line bad_word) ws p h
literal-step E line g ws p h = bad (Refused line bad_word) ws p h
literal-step A line g ws p h = bad (Refused line bad_word) ws p h
literal-step D line g ws p h = bad (Refused line bad_word) ws p h
literal-step U line g ws p h = bad (Refused line bad_word) ws p h
literal-step R line g ws p h = bad (Refused line bad_word) ws p h
literal-step Other line g ws p h = bad (Refused line bad_word) ws p h

-- the verdict, and behind it anything
record FromAnswer (before : List Line) (ws : List Spoken) (p : Proof) : Type 0 where
  verdict : Spoken
  rest : List Spoken
  words : ws ≡ verdict ∷ rest
  says : verdict.name ≡ verdict_name p.verdict
  place : verdict.token.line ≡ p.place
  all : p.lines ≡ before

-- lines whose numbers are above n, behind others, and then r and the verdict
record FromLines (n : ℕ) (before : List Line) (ws : List Spoken) (p : Proof) : Type 0 where
  lines : List (List Spoken)
  further : List Line
  answer : Spoken
  after : List Spoken
  words : ws ≡ joined lines ++ answer ∷ after
  are_lines : AreLines lines further
  above : AllByRecursion (λ l. n < l.row.id) further
  rising : ArePairs (λ a b. a.row.id < b.row.id) further
  answers : answer.token.kind ≡ R
  last : FromAnswer (before ++ further) after p

-- antecedents behind others
abbrev followed : Option Antecedents → (Antecedents → Option Antecedents) → Option Antecedents
followed None f = None
followed (Some a) f = f a

abbrev added : Antecedents → List ℕ → Option Antecedents
added a [] = Some a
added a (n ∷ ns) = followed (one_more a n) (λ b. added b ns)

-- the rest of the antecedents of a line, and lines behind it
record FromAfter (r : Row) (ls : List Literal) (before : List Line) (ws : List Spoken) (p : Proof) : Type 0 where
  others : List Spoken
  more : List ℕ
  sources : Antecedents
  after : List Spoken
  words : ws ≡ others ++ after
  kinds : kinds_of others ≡ vars_kinds more
  numbers : AllByRecursion IsNumber more
  adds : added r.antecedents more ≡ Some sources
  next : FromLines r.id (before ++ record { row = row_with r sources; literals = ls } ∷ []) after p

-- the rest of a line, and lines behind it
record FromLiterals (r : Row) (ls : List Literal) (before : List Line) (ws : List Spoken) (p : Proof) : Type 0 where
  others : List Spoken
  more : List Literal
  sources : Antecedents
  after : List Spoken
  words : ws ≡ others ++ after
  kinds : kinds_of others ≡ literals_kinds more ++ antecedents_kinds sources
  literals : AllByRecursion (λ k. IsNumber k.var) more
  antecedents : AreNumbers sources
  next : FromLines r.id (before ++ record { row = row_with r sources; literals = ls ++ more } ∷ []) after p

-- sets, and lines behind them
record FromSets (ws : List Spoken) (p : Proof) : Type 0 where
  sets : List (List Spoken)
  after : List Spoken
  words : ws ≡ joined sets ++ after
  are_sets : AreSets sets
  next : FromLines 0 [] after p

record FromSet (ws : List Spoken) (p : Proof) : Type 0 where
  others : List Spoken
  vars : List ℕ
  after : List Spoken
  words : ws ≡ others ++ after
  kinds : kinds_of others ≡ vars_kinds vars
  numbers : AllByRecursion IsNumber vars
  next : FromSets after p

record Reads (ws : List Spoken) : Type 0 where
  answer : (rs : List Row) (ts : List (List Literal)) (r : Row) (ls : List Literal) (p : Proof) → Comes (Ok (inside Answer rs ts r ls)) ws p → FromAnswer (lines_of rs ts) ws p
  lines : (rs : List Row) (ts : List (List Literal)) (r : Row) (ls : List Literal) (p : Proof) → length rs ≡ length ts → Comes (Ok (inside Lines rs ts r ls)) ws p → FromLines r.id (lines_of rs ts) ws p
  literals : (rs : List Row) (ts : List (List Literal)) (r : Row) (ls : List Literal) (p : Proof) → length rs ≡ length ts → r.antecedents ≡ Zero → Comes (Ok (inside Literals rs ts r ls)) ws p → FromLiterals r ls (lines_of rs ts) ws p
  after : (rs : List Row) (ts : List (List Literal)) (r : Row) (ls : List Literal) (p : Proof) → length rs ≡ length ts → Comes (Ok (inside After rs ts r ls)) ws p → FromAfter r ls (lines_of rs ts) ws p
  sets : (p : Proof) → Comes (Ok (inside Sets [] [] no_row [])) ws p → FromSets ws p
  set : (p : Proof) → Comes (Ok (inside InSet [] [] no_row [])) ws p → FromSet ws p

no-words : Reads []
no-words = record {
  answer = λ rs ts r ls p h. nothing (inside Answer rs ts r ls) p refl h;
  lines = λ rs ts r ls p e h. nothing (inside Lines rs ts r ls) p refl h;
  literals = λ rs ts r ls p e z h. nothing (inside Literals rs ts r ls) p refl h;
  after = λ rs ts r ls p e h. nothing (inside After rs ts r ls) p refl h;
  sets = λ p h. nothing (inside Sets [] [] no_row []) p refl h;
  set = λ p h. nothing (inside InSet [] [] no_row []) p refl h;
}

-- a word in front: what was to come is what the state behind it says
moved : (b : Gathered) (w : Spoken) (ws : List Spoken) (p : Proof) → Comes (Ok b) (w ∷ ws) p → Comes (after_word (Ok b) w) ws p
moved b w ws p h = record { last = h.last; is = h.is; proof = h.proof }

done-stays : (v : Verdict) (n : ℕ) (rs : List Row) (ts : List (List Literal)) (r : Row) (ls : List Literal) (ws : List Spoken) (p : Proof) → Comes (Ok (inside (Done v n) rs ts r ls)) ws p → record { lines = lines_of rs ts; verdict = v; place = n } ≡ p
done-stays v n rs ts r ls [] p h =
    let same : inside (Done v n) rs ts r ls ≡ h.last = let f = h.is in cc in
    let g : proof_in (inside (Done v n) rs ts r ls) ≡ Some p = ap proof_in same ∙ h.proof in
    cc
done-stays v n rs ts r ls (w ∷ ws) p h = done-stays v n rs ts r ls ws p (record { last = h.last; is = h.is; proof = h.proof })

answer-step : (w : Spoken) (ws : List Spoken) (rs : List Row) (ts : List (List Literal)) (r : Row) (ls : List Literal) (p : Proof) → Comes (Ok (inside Answer rs ts r ls)) (w ∷ ws) p → FromAnswer (lines_of rs ts) (w ∷ ws) p
answer-step w ws rs ts r ls p h = go (w.name == sat_name) (w.name == unsat_name) (w.name == unknown_name) refl refl refl (moved (inside Answer rs ts r ls) w ws p h)
  where
    g : Gathered
    g = inside Answer rs ts r ls

    from : (v : Verdict) → w.name ≡ verdict_name v → Comes (Ok (inside (Done v w.token.line) rs ts r ls)) ws p → FromAnswer (lines_of rs ts) (w ∷ ws) p
    from v e h =
        let q : record { lines = lines_of rs ts; verdict = v; place = w.token.line } ≡ p = done-stays v w.token.line rs ts r ls ws p h in
        record {
          verdict = w;
          rest = ws;
          words = refl;
          says = e ∙ ap (λ (x : Proof). verdict_name x.verdict) q;
          place = ap (λ (x : Proof). x.place) q;
          all = sym (ap (λ (x : Proof). x.lines) q);
        }

    go : (a b c : Bool) → (w.name == sat_name) ≡ a → (w.name == unsat_name) ≡ b → (w.name == unknown_name) ≡ c
        → Comes (at_line w.token.line (answered g w.token.line (if a then Some Sat else (if b then Some Unsat else (if c then Some Unknown else None))))) ws p → FromAnswer (lines_of rs ts) (w ∷ ws) p
    go true b c e f d h = from Sat (eqb-true w.name sat_name e) h
    go false true c e f d h = from Unsat (eqb-true w.name unsat_name f) h
    go false false true e f d h = from Unknown (eqb-true w.name unknown_name d) h
    go false false false e f d h = bad (Refused w.token.line bad_word) ws p h

lines-push : (rs : List Row) (ts : List (List Literal)) (r : Row) (ls : List Literal) → length rs ≡ length ts → lines_of (rs ++ r ∷ []) (ts ++ ls ∷ []) ≡ lines_of rs ts ++ record { row = r; literals = ls } ∷ []
lines-push [] [] r ls e = refl
lines-push [] (t ∷ ts) r ls e = cc
lines-push (x ∷ rs) [] r ls e = cc
lines-push (x ∷ rs) (t ∷ ts) r ls e = ap (λ (xs : List Line). record { row = x; literals = t } ∷ xs) (lines-push rs ts r ls (cc))

lengths-push : (rs : List Row) (ts : List (List Literal)) (r : Row) (ls : List Literal) → length rs ≡ length ts → length (rs ++ r ∷ []) ≡ length (ts ++ ls ∷ [])
lengths-push rs ts r ls e = omega (arith, length-append rs (r ∷ []), length-append ts (ls ∷ []), e)

after-step : (w : Spoken) (ws : List Spoken) → Reads ws → (rs : List Row) (ts : List (List Literal)) (r : Row) (ls : List Literal) (p : Proof) → length rs ≡ length ts → Comes (Ok (inside After rs ts r ls)) (w ∷ ws) p → FromAfter r ls (lines_of rs ts) (w ∷ ws) p
after-step w ws ih rs ts r ls p e h = from (plain-step w.token.kind w.token.line (antecedent (inside After rs ts r ls)) ws p (moved (inside After rs ts r ls) w ws p h))
  where
    g : Gathered
    g = inside After rs ts r ls

    ended : w.token.kind ≡ Number (pos 0) → Comes (Ok (inside Lines (rs ++ r ∷ []) (ts ++ ls ∷ []) r ls)) ws p → FromAfter r ls (lines_of rs ts) (w ∷ ws) p
    ended k h =
        let n = ih.lines (rs ++ r ∷ []) (ts ++ ls ∷ []) r ls p (lengths-push rs ts r ls e) h in
        record {
          others = w ∷ [];
          more = [];
          sources = r.antecedents;
          after = ws;
          words = refl;
          kinds = ap (λ (x : TokenKind). x ∷ []) k;
          numbers = tt;
          adds = refl;
          next = subst (λ (xs : List Line). FromLines r.id xs ws p) (lines-push rs ts r ls e) n;
        }

    further : (n : ℕ) → w.token.kind ≡ Number (pos n) → IsNumber n → (o : Option Antecedents) → one_more r.antecedents n ≡ o → Comes (at_line w.token.line (with_antecedents g o)) ws p → FromAfter r ls (lines_of rs ts) (w ∷ ws) p
    further n k s None q h = bad (Refused w.token.line bad_word) ws p h
    further n k s (Some a) q h =
        let x = ih.after rs ts (row_with r a) ls p e h in
        record {
          others = w ∷ x.others;
          more = n ∷ x.more;
          sources = x.sources;
          after = x.after;
          words = ap (λ (us : List Spoken). w ∷ us) x.words;
          kinds = rw (k, x.kinds) refl;
          numbers = (s, x.numbers);
          adds = ap (λ (o : Option Antecedents). followed o (λ b. added b x.more)) q ∙ x.adds;
          next = x.next;
        }

    split : (n : ℕ) → w.token.kind ≡ Number (pos n) → IsSmall n → (z : Bool) → (n == 0) ≡ z → Comes (at_line w.token.line (if z then Ok (ended_line g) else with_antecedents g (one_more r.antecedents n))) ws p → FromAfter r ls (lines_of rs ts) (w ∷ ws) p
    split n k s true z h = ended (k ∙ ap (λ (m : ℕ). Number (pos m)) (eqb-true n 0 z)) h
    split n k s false z h = further n k (grind (arith, nat_tests, z), s) (one_more r.antecedents n) refl h

    from : IsPlain w.token.kind w.token.line (antecedent g) ws p → FromAfter r ls (lines_of rs ts) (w ∷ ws) p
    from x = split x.n x.is x.small (x.n == 0) refl x.next

-- what is added to none is all
adds-kinds : (more : List ℕ) (a : Antecedents) → added Zero more ≡ Some a → vars_kinds more ≡ antecedents_kinds a
adds-kinds [] a e = let f : Zero ≡ a = cc in ap antecedents_kinds f
adds-kinds (x ∷ []) a e = let f : One x ≡ a = cc in ap antecedents_kinds f
adds-kinds (x ∷ y ∷ []) a e = let f : Two x y ≡ a = cc in ap antecedents_kinds f
adds-kinds (x ∷ y ∷ z ∷ more) a e = cc

adds-numbers : (more : List ℕ) (a : Antecedents) → added Zero more ≡ Some a → AllByRecursion IsNumber more → AreNumbers a
adds-numbers [] a e h = let f : Zero ≡ a = cc in subst AreNumbers f tt
adds-numbers (x ∷ []) a e h = let f : One x ≡ a = cc in subst AreNumbers f h.0
adds-numbers (x ∷ y ∷ []) a e h = let f : Two x y ≡ a = cc in subst AreNumbers f (h.0, h.1.0)
adds-numbers (x ∷ y ∷ z ∷ more) a e h = cc

literals-step : (w : Spoken) (ws : List Spoken) → Reads ws → (rs : List Row) (ts : List (List Literal)) (r : Row) (ls : List Literal) (p : Proof) → length rs ≡ length ts → r.antecedents ≡ Zero → Comes (Ok (inside Literals rs ts r ls)) (w ∷ ws) p
    → FromLiterals r ls (lines_of rs ts) (w ∷ ws) p
literals-step w ws ih rs ts r ls p e z h = from (literal-step w.token.kind w.token.line (inside Literals rs ts r ls) ws p (moved (inside Literals rs ts r ls) w ws p h))
  where
    from : IsZeroStep w.token.kind (inside Literals rs ts r ls) ws p ⊎ IsLiteralStep w.token.kind (inside Literals rs ts r ls) ws p → FromLiterals r ls (lines_of rs ts) (w ∷ ws) p
    from (inl (k, h)) =
        let x = ih.after rs ts r ls p e h in
        let adds : added Zero x.more ≡ Some x.sources = sym (ap (λ (a : Antecedents). added a x.more) z) ∙ x.adds in
        record {
          others = w ∷ x.others;
          more = [];
          sources = x.sources;
          after = x.after;
          words = ap (λ (us : List Spoken). w ∷ us) x.words;
          kinds = rw (k, x.kinds, adds-kinds x.more x.sources adds) refl;
          literals = tt;
          antecedents = adds-numbers x.more x.sources adds x.numbers;
          next = subst (λ (ms : List Literal). FromLines r.id (lines_of rs ts ++ record { row = row_with r x.sources; literals = ms } ∷ []) x.after p) (sym (append-nil ls)) x.next;
        }
    from (inr l) =
        let x = ih.literals rs ts r (ls ++ l.lit ∷ []) p e z l.next in
        record {
          others = w ∷ x.others;
          more = l.lit ∷ x.more;
          sources = x.sources;
          after = x.after;
          words = ap (λ (us : List Spoken). w ∷ us) x.words;
          kinds = rw (l.is, x.kinds) refl;
          literals = (l.number, x.literals);
          antecedents = x.antecedents;
          next = subst (λ (ms : List Literal). FromLines r.id (lines_of rs ts ++ record { row = row_with r x.sources; literals = ms } ∷ []) x.after p) (append_assoc ls (l.lit ∷ []) x.more) x.next;
        }

above-more : (ls : List Line) (m n : ℕ) → m < n → AllByRecursion (λ l. n < l.row.id) ls → AllByRecursion (λ l. m < l.row.id) ls
above-more [] m n h a = tt
above-more (l ∷ ls) m n h (a, more) = (omega arith, above-more ls m n h more)

-- between lines; between sets r and numbers say the same
lines-step : (w : Spoken) (ws : List Spoken) → Reads ws → (rs : List Row) (ts : List (List Literal)) (r : Row) (ls : List Literal) (p : Proof) → length rs ≡ length ts → (k : TokenKind) → w.token.kind ≡ k
    → Comes (at_line w.token.line (line_or_answer (inside Lines rs ts r ls) w.token.line k)) ws p → FromLines r.id (lines_of rs ts) (w ∷ ws) p
lines-step w ws ih rs ts r ls p e R k h =
    let x = ih.answer rs ts r ls p h in
    record {
      lines = [];
      further = [];
      answer = w;
      after = ws;
      words = refl;
      are_lines = tt;
      above = tt;
      rising = tt;
      answers = k;
      last = subst (λ (xs : List Line). FromAnswer xs ws p) (sym (append-nil (lines_of rs ts))) x;
    }
lines-step w ws ih rs ts r ls p e (Number z) k h = from (plain-step (Number z) w.token.line (begun_line (inside Lines rs ts r ls) w.token.line) ws p h)
  where
    begins : (n : ℕ) → Number z ≡ Number (pos n) → IsNumber n → r.id < n → Comes (Ok (inside Literals rs ts (record { id = n; place = w.token.line; antecedents = Zero }) [])) ws p → FromLines r.id (lines_of rs ts) (w ∷ ws) p
    begins n q s a h =
        let row : Row = record { id = n; place = w.token.line; antecedents = Zero } in
        let x = ih.literals rs ts row [] p e refl h in
        let line : Line = record { row = row_with row x.sources; literals = x.more } in
        let y = x.next in
        record {
          lines = (w ∷ x.others) ∷ y.lines;
          further = line ∷ y.further;
          answer = y.answer;
          after = y.after;
          words = ap (λ (us : List Spoken). w ∷ us) (x.words ∙ (ap (λ (us : List Spoken). x.others ++ us) y.words ∙ sym (append_assoc x.others (joined y.lines) (y.answer ∷ y.after))));
          are_lines = (
            record {
              first = w;
              others = x.others;
              words = refl;
              number = k ∙ q;
              kinds = x.kinds;
              place = refl;
              small = s;
              literals = x.literals;
              antecedents = x.antecedents;
            },
            y.are_lines,
          );
          above = (a, above-more y.further r.id n a y.above);
          rising = (y.above, y.rising);
          answers = y.answers;
          last = subst (λ (xs : List Line). FromAnswer xs y.after p) (append_assoc (lines_of rs ts) (line ∷ []) y.further) y.last;
        }

    split : (n : ℕ) → Number z ≡ Number (pos n) → IsSmall n → (t u : Bool) → (n == 0) ≡ t → nat_le n r.id ≡ u
        → Comes (at_line w.token.line (if t then Err bad_word else (if u then Err not_rising else Ok (inside Literals rs ts (record { id = n; place = w.token.line; antecedents = Zero }) [])))) ws p → FromLines r.id (lines_of rs ts) (w ∷ ws) p
    split n q s true u d f h = bad (Refused w.token.line bad_word) ws p h
    split n q s false true d f h = bad (Refused w.token.line not_rising) ws p h
    split n q s false false d f h = begins n q (grind (arith, nat_tests, d), s) (grind (arith, nat_tests, f)) h

    from : IsPlain (Number z) w.token.line (begun_line (inside Lines rs ts r ls) w.token.line) ws p → FromLines r.id (lines_of rs ts) (w ∷ ws) p
    from x = split x.n x.is x.small (x.n == 0) (nat_le x.n r.id) refl refl x.next
lines-step w ws ih rs ts r ls p e P k h = bad (Refused w.token.line bad_word) ws p h
lines-step w ws ih rs ts r ls p e Cnf k h = bad (Refused w.token.line bad_word) ws p h
lines-step w ws ih rs ts r ls p e Qrat k h = bad (Refused w.token.line bad_word) ws p h
lines-step w ws ih rs ts r ls p e E k h = bad (Refused w.token.line bad_word) ws p h
lines-step w ws ih rs ts r ls p e A k h = bad (Refused w.token.line bad_word) ws p h
lines-step w ws ih rs ts r ls p e D k h = bad (Refused w.token.line bad_word) ws p h
lines-step w ws ih rs ts r ls p e U k h = bad (Refused w.token.line bad_word) ws p h
lines-step w ws ih rs ts r ls p e Other k h = bad (Refused w.token.line bad_word) ws p h

sets-step : (w : Spoken) (ws : List Spoken) → Reads ws → (p : Proof) (k : TokenKind) → w.token.kind ≡ k → Comes (at_line w.token.line (set_or_line (inside Sets [] [] no_row []) w.token.line k)) ws p → FromSets (w ∷ ws) p
sets-step w ws ih p k e h = go k e h
  where
    a-set : (k : TokenKind) → w.token.kind ≡ k → (k ≡ E) ⊎ (k ≡ A) → Comes (Ok (inside InSet [] [] no_row [])) ws p → FromSets (w ∷ ws) p
    a-set k e l h =
        let x = ih.set p h in
        let y = x.next in
        record {
          sets = (w ∷ x.others) ∷ y.sets;
          after = y.after;
          words = ap (λ (us : List Spoken). w ∷ us) (x.words ∙ (ap (λ (us : List Spoken). x.others ++ us) y.words ∙ sym (append_assoc x.others (joined y.sets) y.after)));
          are_sets = (record { letter = k; vars = x.vars; kinds = rw (e, x.kinds) refl; begins = l; small = x.numbers }, y.are_sets);
          next = y.next;
        }

    a-line : (k : TokenKind) → w.token.kind ≡ k → Comes (at_line w.token.line (line_or_answer (inside Lines [] [] no_row []) w.token.line k)) ws p → FromSets (w ∷ ws) p
    a-line k e h = record { sets = []; after = w ∷ ws; words = refl; are_sets = tt; next = lines-step w ws ih [] [] no_row [] p refl k e h }

    go : (k : TokenKind) → w.token.kind ≡ k → Comes (at_line w.token.line (set_or_line (inside Sets [] [] no_row []) w.token.line k)) ws p → FromSets (w ∷ ws) p
    go E e h = a-set E e (inl refl) h
    go A e h = a-set A e (inr refl) h
    go R e h = a-line R e h
    go (Number z) e h = a-line (Number z) e h
    go P e h = bad (Refused w.token.line bad_word) ws p h
    go Cnf e h = bad (Refused w.token.line bad_word) ws p h
    go Qrat e h = bad (Refused w.token.line bad_word) ws p h
    go D e h = bad (Refused w.token.line bad_word) ws p h
    go U e h = bad (Refused w.token.line bad_word) ws p h
    go Other e h = bad (Refused w.token.line bad_word) ws p h

set-step : (w : Spoken) (ws : List Spoken) → Reads ws → (p : Proof) → Comes (Ok (inside InSet [] [] no_row [])) (w ∷ ws) p → FromSet (w ∷ ws) p
set-step w ws ih p h = from (plain-step w.token.kind w.token.line (λ n. if n == 0 then goes_to (inside InSet [] [] no_row []) Sets else Ok (inside InSet [] [] no_row [])) ws p (moved (inside InSet [] [] no_row []) w ws p h))
  where
    split : (n : ℕ) → w.token.kind ≡ Number (pos n) → IsSmall n → (z : Bool) → (n == 0) ≡ z → Comes (at_line w.token.line (if z then goes_to (inside InSet [] [] no_row []) Sets else Ok (inside InSet [] [] no_row []))) ws p → FromSet (w ∷ ws) p
    split n k s true z h =
        let x = ih.sets p h in
        record { others = w ∷ []; vars = []; after = ws; words = refl; kinds = ap (λ (x : TokenKind). x ∷ []) (k ∙ ap (λ (m : ℕ). Number (pos m)) (eqb-true n 0 z)); numbers = tt; next = x }
    split n k s false z h =
        let x = ih.set p h in
        record {
          others = w ∷ x.others;
          vars = n ∷ x.vars;
          after = x.after;
          words = ap (λ (us : List Spoken). w ∷ us) x.words;
          kinds = rw (k, x.kinds) refl;
          numbers = ((grind (arith, nat_tests, z), s), x.numbers);
          next = x.next;
        }

    from : IsPlain w.token.kind w.token.line (λ n. if n == 0 then goes_to (inside InSet [] [] no_row []) Sets else Ok (inside InSet [] [] no_row [])) ws p → FromSet (w ∷ ws) p
    from x = split x.n x.is x.small (x.n == 0) refl x.next

reads : (ws : List Spoken) → Reads ws
reads [] = no-words
reads (w ∷ ws) =
    let ih = reads ws in
    record {
      answer = λ rs ts r ls p h. answer-step w ws rs ts r ls p h;
      lines = λ rs ts r ls p e h. lines-step w ws ih rs ts r ls p e w.token.kind refl (moved (inside Lines rs ts r ls) w ws p h);
      literals = λ rs ts r ls p e z h. literals-step w ws ih rs ts r ls p e z h;
      after = λ rs ts r ls p e h. after-step w ws ih rs ts r ls p e h;
      sets = λ p h. sets-step w ws ih p w.token.kind refl (moved (inside Sets [] [] no_row []) w ws p h);
      set = λ p h. set-step w ws ih p h;
    }

-- the header
second-step : (a b c d : Spoken) (ws : List Spoken) (p : Proof) (m : ℕ) → a.token.kind ≡ P → b.name ≡ qrp_name → c.token.kind ≡ Number (pos m) → IsSmall m → Comes (Ok (inside Second [] [] no_row [])) (d ∷ ws) p → Spells (a ∷ b ∷ c ∷ d ∷ ws) p
second-step a b c d ws p m ea eb ec sm h =
    let x = plain-step d.token.kind d.token.line (λ n. goes_to (inside Second [] [] no_row []) Sets) ws p (moved (inside Second [] [] no_row []) d ws p h) in
    let y = (reads ws).sets p x.next in
    let z = y.next in
    record {
      header = a ∷ b ∷ c ∷ d ∷ [];
      sets = y.sets;
      lines = z.lines;
      answer = z.answer;
      verdict = z.last.verdict;
      rest = z.last.rest;
      words = ap (λ (us : List Spoken). a ∷ b ∷ c ∷ d ∷ us) (y.words ∙ ap (λ (us : List Spoken). joined y.sets ++ us) (z.words ∙ ap (λ (us : List Spoken). joined z.lines ++ z.answer ∷ us) z.last.words));
      is_header = record { problem = a; format = b; first = c; second = d; vars = m; count = x.n; words = refl; begins = ea; name = eb; vars_are = ec; count_is = x.is; small = (sm, x.small) };
      are_sets = y.are_sets;
      are_lines = subst (λ (ls : List Line). AreLines z.lines ls) (sym z.last.all) z.are_lines;
      rising = subst (λ (ls : List Line). ArePairs (λ a b. a.row.id < b.row.id) ls) (sym z.last.all) z.rising;
      answers = z.answers;
      says = z.last.says;
      place = z.last.place;
    }

first-step : (a b c : Spoken) (ws : List Spoken) (p : Proof) → a.token.kind ≡ P → b.name ≡ qrp_name → Comes (Ok (inside First [] [] no_row [])) (c ∷ ws) p → Spells (a ∷ b ∷ c ∷ ws) p
first-step a b c ws p ea eb h =
    let x = plain-step c.token.kind c.token.line (λ n. goes_to (inside First [] [] no_row []) Second) ws p (moved (inside First [] [] no_row []) c ws p h) in
    go ws x.n x.is x.small x.next
  where
    go : (ws : List Spoken) (m : ℕ) → c.token.kind ≡ Number (pos m) → IsSmall m → Comes (Ok (inside Second [] [] no_row [])) ws p → Spells (a ∷ b ∷ c ∷ ws) p
    go [] m e s h = nothing (inside Second [] [] no_row []) p refl h
    go (d ∷ ws) m e s h = second-step a b c d ws p m ea eb e s h

format-step : (a b : Spoken) (ws : List Spoken) (p : Proof) → a.token.kind ≡ P → Comes (Ok (inside Format [] [] no_row [])) (b ∷ ws) p → Spells (a ∷ b ∷ ws) p
format-step a b ws p ea h = go ws (b.name == qrp_name) refl (moved (inside Format [] [] no_row []) b ws p h)
  where
    go : (ws : List Spoken) (t : Bool) → (b.name == qrp_name) ≡ t → Comes (at_line b.token.line (if t then goes_to (inside Format [] [] no_row []) First else Err bad_word)) ws p → Spells (a ∷ b ∷ ws) p
    go ws false e h = bad (Refused b.token.line bad_word) ws p h
    go [] true e h = nothing (inside First [] [] no_row []) p refl h
    go (c ∷ ws) true e h = first-step a b c ws p ea (eqb-true b.name qrp_name e) h

problem-step : (a : Spoken) (ws : List Spoken) (p : Proof) (k : TokenKind) → a.token.kind ≡ k → Comes (at_line a.token.line (problem nothing_read k)) ws p → Spells (a ∷ ws) p
problem-step a [] p P e h = nothing (inside Format [] [] no_row []) p refl h
problem-step a (b ∷ ws) p P e h = format-step a b ws p e h
problem-step a ws p (Number z) e h = bad (Refused a.token.line bad_word) ws p h
problem-step a ws p Cnf e h = bad (Refused a.token.line bad_word) ws p h
problem-step a ws p Qrat e h = bad (Refused a.token.line bad_word) ws p h
problem-step a ws p E e h = bad (Refused a.token.line bad_word) ws p h
problem-step a ws p A e h = bad (Refused a.token.line bad_word) ws p h
problem-step a ws p D e h = bad (Refused a.token.line bad_word) ws p h
problem-step a ws p U e h = bad (Refused a.token.line bad_word) ws p h
problem-step a ws p R e h = bad (Refused a.token.line bad_word) ws p h
problem-step a ws p Other e h = bad (Refused a.token.line bad_word) ws p h

words-spelled : (ws : List Spoken) (p : Proof) → Comes (Ok nothing_read) ws p → Spells ws p
words-spelled [] p h = nothing nothing_read p refl h
words-spelled (a ∷ ws) p h = problem-step a ws p a.token.kind refl (moved nothing_read a ws p h)

parsed-spelled : (cause n : ℕ) (ws : List Spoken) (p : Proof) → at_last cause n (words_read (Ok nothing_read) ws) ≡ Ok p → Spells ws p
parsed-spelled cause n ws p h = go (words_read (Ok nothing_read) ws) refl h
  where
    found : (b : Gathered) (o : Option Proof) → words_read (Ok nothing_read) ws ≡ Ok b → proof_in b ≡ o → proof_or cause n o ≡ Ok p → Spells ws p
    found b None e f h = cc
    found b (Some q) e f h = let g : q ≡ p = cc in words-spelled ws p (record { last = b; is = e; proof = f ∙ ap (λ (x : Proof). let y : Option Proof = Some x in y) g })

    go : (r : Result Gathered TraceError) → words_read (Ok nothing_read) ws ≡ r → at_last cause n r ≡ Ok p → Spells ws p
    go (Err x) e h = cc
    go (Ok b) e h = found b (proof_in b) e refl h

pub read-grammar : (most : ℕ) (bytes : List ℕ) (p : Proof) → TraceOf most bytes p → Trace most bytes p
read-grammar most bytes p h = go (nat_le (length bytes) most) h
  where
    go : (t : Bool) → (if t then at_last no_verdict (line_after bytes) (words_read (Ok nothing_read) (words_of bytes)) else at_last limit (line_after (take most bytes)) (words_read (Ok nothing_read) (words_ended (take most bytes)))) ≡ Ok p
        → Spells (if t then words_of bytes else words_ended (take most bytes)) p
    go true h = parsed-spelled no_verdict (line_after bytes) (words_of bytes) p h
    go false h = parsed-spelled limit (line_after (take most bytes)) (words_ended (take most bytes)) p h
