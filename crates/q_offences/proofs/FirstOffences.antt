-- The offence of a text is its first one, and comes exactly where the text is no formula file.
use Rattle.std.proofs.Common.{◌≡◌, ◌⊎◌, ◌↔◌, inl, inr, ℕ, ◌<◌, ◌≤◌, nat_le, Bool, true, false, List, [], ◌∷◌, ◌++◌, length, take, Ok, Err, Result, Option, Some, None, refl, ap, sym, ◌∙◌, arith, if◌then◌else◌}
use Rattle.std.proofs.lemmas.Bool.Decides.{nat_tests}
use Rattle.std.proofs.lemmas.Bool.{leb-true, leb-false}
use Rattle.q_logic.specs.declared.limits.Limits.{Limits}
use Rattle.q_logic.specs.Prelude.{PrenexFormula}
use Rattle.q_text.specs.declared.tokens.Token.{Token}
use Rattle.q_text.specs.declared.tokens.TokenKind.{TokenKind}
use Rattle.q_text.specs.Texts.{tokens_of, tokens_ended, line_after}
use Rattle.q_dimacs.specs.declared.error.ReadError.{ReadError}
use Rattle.q_dimacs.specs.declared.error.ReadError.TheVariants.{Refused}
use Rattle.q_dimacs.specs.Reading.{Gathered, step_of, end_of, nothing_read}
use Rattle.q_dimacs.specs.Offences.{at_end, at_line, tokens_read, at_last, past_limit, parse, Offence}
use Rattle.q_dimacs.specs.Dimacs.{Dimacs}
use Rattle.q_dimacs.proofs.FeedLaw.{tokens_read-err}
use Rattle.q_dimacs.proofs.GrammarIsRead.{kinds_read, without-lines, grammar_is_read}
use Rattle.q_dimacs.proofs.ReadIsGrammar.{read_is_grammar}
use Rattle.q_offences.specs.FormulaTable.{Row, table, cause_of, kinds_of, AppliesAt, AppliesAtEnd, IsFirstUnfit, IsUnfitEnd, IsPastOffence, IsFirstOffence}
use Rattle.q_offences.proofs.FirstRows.{first_true, true-first, first-true}
use Rattle.q_offences.proofs.SpelledFronts.{kinds-append}
use Rattle.q_offences.proofs.ToldFronts.{told}
use Rattle.q_offences.proofs.GoingOn.{Taken, taken-goes-on, going-on-taken, whole-taken, taken-whole}
use Rattle.q_offences.proofs.RowTests.{at, fault, cause_at, step-cause, end-cause}
use Rattle.q_offences.proofs.RowTests as tests
use Rattle.q_offences.proofs.RowsApply.{rows-said, end-rows-said}

-- tokens and their kinds

taken-kinds : (m : Limits) (b d : Gathered) (ts : List Token) → tokens_read m (Ok b) ts ≡ Ok d → kinds_read m (Ok b) (kinds_of ts) ≡ Ok d
taken-kinds m b d [] e = let f : b ≡ d = cc in ap Ok f
taken-kinds m b d (t ∷ ts) e = go (step_of m b t.kind) e (λ c. taken-kinds m c d ts) where
  go : (r : Result Gathered ℕ) → tokens_read m (at_line t.line r) ts ≡ Ok d → ((c : Gathered) → tokens_read m (Ok c) ts ≡ Ok d → kinds_read m (Ok c) (kinds_of ts) ≡ Ok d) → kinds_read m r (kinds_of ts) ≡ Ok d
  go (Ok c) e f = f c e
  go (Err c) e f = absurd (let g = tokens_read-err m (Refused t.line c) ts in cc)

-- the token at which the reader stops
pub record Stops (m : Limits) (b : Gathered) (ts : List Token) (e : ReadError) : Type 0 where
  pub front : List Token
  pub token : Token
  pub rest : List Token
  pub state : Gathered
  pub cause : ℕ
  pub are : ts ≡ front ++ token ∷ rest
  pub taken : kinds_read m (Ok b) (kinds_of front) ≡ Ok state
  pub step : step_of m state token.kind ≡ Err cause
  pub error : e ≡ Refused token.line cause

stops : (m : Limits) (b : Gathered) (ts : List Token) (e : ReadError) → tokens_read m (Ok b) ts ≡ Err e → Stops m b ts e
stops m b [] e h = cc
stops m b (t ∷ ts) e h = go (step_of m b t.kind) refl h (λ c. stops m c ts e) where
  go : (r : Result Gathered ℕ) → step_of m b t.kind ≡ r → tokens_read m (at_line t.line r) ts ≡ Err e → ((c : Gathered) → tokens_read m (Ok c) ts ≡ Err e → Stops m c ts e) → Stops m b (t ∷ ts) e
  go (Ok c) i f ih =
      let s = ih c f in
      record {
        front = t ∷ s.front;
        token = s.token;
        rest = s.rest;
        state = s.state;
        cause = s.cause;
        are = ap (λ us. t ∷ us) s.are;
        taken = ap (λ r. kinds_read m r (kinds_of s.front)) i ∙ s.taken;
        step = s.step;
        error = s.error;
      }
  go (Err c) i f ih = record { front = []; token = t; rest = ts; state = b; cause = c; are = refl; taken = refl; step = i; error = let g = tokens_read-err m (Refused t.line c) ts in cc }

tokens-append : (m : Limits) (r : Result Gathered ReadError) (ss ts : List Token) → tokens_read m r (ss ++ ts) ≡ tokens_read m (tokens_read m r ss) ts
tokens-append m r [] ts = refl
tokens-append m (Ok b) (s ∷ ss) ts = tokens-append m (at_line s.line (step_of m b s.kind)) ss ts
tokens-append m (Err e) (s ∷ ss) ts = tokens-append m (Err e) ss ts

stopped : (m : Limits) (front rest : List Token) (t : Token) (d : Gathered) (c : ℕ) → kinds_read m (Ok nothing_read) (kinds_of front) ≡ Ok d → step_of m d t.kind ≡ Err c
    → tokens_read m (Ok nothing_read) (front ++ t ∷ rest) ≡ Err (Refused t.line c)
stopped m front rest t d c e f =
    tokens-append m (Ok nothing_read) front (t ∷ rest)
    ∙ (ap (λ r. tokens_read m r (t ∷ rest)) (without-lines m nothing_read d front e)
    ∙ (ap (λ r. tokens_read m (at_line t.line r) rest) f ∙ tokens_read-err m (Refused t.line c) rest))

pub one-more : (m : Limits) (ks : List TokenKind) (k : TokenKind) (d : Gathered) (r : Result Gathered ℕ) → kinds_read m (Ok nothing_read) ks ≡ Ok d → step_of m d k ≡ r → kinds_read m (Ok nothing_read) (ks ++ k ∷ []) ≡ r
one-more m ks k d r e f = kinds-append m (Ok nothing_read) ks (k ∷ []) ∙ (ap (λ x. kinds_read m x (k ∷ [])) e ∙ f)

-- the cause of a row, and the row of a cause

pub row-of : (o : Option Row) (c : ℕ) → Some c ≡ cause_at o → (r : Row) × (o ≡ Some r) × (c ≡ cause_of r)
row-of None c e = cc
row-of (Some r) c e = (r, refl, cc)

cause-is : (o : Option Row) (r : Row) (c : ℕ) → Some c ≡ cause_at o → o ≡ Some r → c ≡ cause_of r
cause-is o r c e f = let g : Some c ≡ Some (cause_of r) = e ∙ ap cause_at f in cc

-- a token that does not fit

unfit : (m : Limits) (front rest : List Token) (t : Token) (d : Gathered) (c : ℕ) → kinds_read m (Ok nothing_read) (kinds_of front) ≡ Ok d → step_of m d t.kind ≡ Err c
    → IsFirstUnfit m (front ++ t ∷ rest) t.line c
unfit m front rest t d c e f =
    let r = row-of (first_true (at m d t.kind) table) c (sym (ap fault f) ∙ step-cause m d t.kind) in
    record {
      front = front;
      token = t;
      rest = rest;
      are = refl;
      before = taken-goes-on m (kinds_of front) d e;
      after = λ h. let w = going-on-taken m (kinds_of front ++ t.kind ∷ []) h in let x = one-more m (kinds_of front) t.kind d (Err c) e f in let y = w.1 in cc;
      row = r.0;
      applies = true-first (AppliesAt m (kinds_of front) t.kind) (at m d t.kind) (rows-said m (kinds_of front) t.kind d e (told m (kinds_of front) d e)) table r.0 r.1;
      line_is = refl;
      cause_is = r.2;
    }

unfit-stops : (m : Limits) (ts : List Token) (line cause : ℕ) → IsFirstUnfit m ts line cause → tokens_read m (Ok nothing_read) ts ≡ Err (Refused line cause)
unfit-stops m ts line cause u = go (going-on-taken m (kinds_of u.front) u.before) where
  go : Taken m (kinds_of u.front) → tokens_read m (Ok nothing_read) ts ≡ Err (Refused line cause)
  go (d, e) = by (step_of m d u.token.kind) refl where
    by : (r : Result Gathered ℕ) → step_of m d u.token.kind ≡ r → tokens_read m (Ok nothing_read) ts ≡ Err (Refused line cause)
    by (Ok b) i = absurd (u.after (taken-goes-on m (kinds_of u.front ++ u.token.kind ∷ []) b (one-more m (kinds_of u.front) u.token.kind d (Ok b) e i)))
    by (Err c) i =
        let f = first-true (AppliesAt m (kinds_of u.front) u.token.kind) (at m d u.token.kind) (rows-said m (kinds_of u.front) u.token.kind d e (told m (kinds_of u.front) d e)) table u.row u.applies in
        let g : c ≡ cause = cause-is (first_true (at m d u.token.kind) table) u.row c (sym (ap fault i) ∙ step-cause m d u.token.kind) f ∙ sym u.cause_is in
        ap (λ us. tokens_read m (Ok nothing_read) us) u.are ∙ (stopped m u.front u.rest u.token d c e i ∙ rw (g, u.line_is) refl)

-- an end that does not fit

unfit-end : (m : Limits) (ts : List Token) (last c : ℕ) (d : Gathered) → kinds_read m (Ok nothing_read) (kinds_of ts) ≡ Ok d → end_of d ≡ Some c → IsUnfitEnd m ts last last c
unfit-end m ts last c d e f =
    let r = row-of (first_true (tests.at_end d) table) c (sym f ∙ end-cause d) in
    record {
      before = taken-goes-on m (kinds_of ts) d e;
      not_whole = λ h. let w = whole-taken m (kinds_of ts) h in let x : d ≡ w.0 = let y = w.1 in cc in let z = ap end_of x in let v = w.2 in cc;
      row = r.0;
      applies = true-first (AppliesAtEnd m (kinds_of ts)) (tests.at_end d) (end-rows-said m (kinds_of ts) d e (told m (kinds_of ts) d e)) table r.0 r.1;
      line_is = refl;
      cause_is = r.2;
    }

end-stops : (m : Limits) (ts : List Token) (last line cause : ℕ) → IsUnfitEnd m ts last line cause → at_last last (tokens_read m (Ok nothing_read) ts) ≡ Err (Refused line cause)
end-stops m ts last line cause u = go (going-on-taken m (kinds_of ts) u.before) where
  go : Taken m (kinds_of ts) → at_last last (tokens_read m (Ok nothing_read) ts) ≡ Err (Refused line cause)
  go (d, e) = ap (at_last last) (without-lines m nothing_read d ts e) ∙ by (end_of d) refl where
    by : (o : Option ℕ) → end_of d ≡ o → at_end last d (end_of d) ≡ Err (Refused line cause)
    by None i = absurd (u.not_whole (taken-whole m (kinds_of ts) d e i))
    by (Some c) i =
        let f = first-true (AppliesAtEnd m (kinds_of ts)) (tests.at_end d) (end-rows-said m (kinds_of ts) d e (told m (kinds_of ts) d e)) table u.row u.applies in
        let g : c ≡ cause = cause-is (first_true (tests.at_end d) table) u.row c (sym i ∙ end-cause d) f ∙ sym u.cause_is in
        ap (at_end last d) i ∙ rw (g, u.line_is) refl

-- tokens within the limit on bytes, and past it

within-first : (m : Limits) (ts : List Token) (last line cause : ℕ) → at_last last (tokens_read m (Ok nothing_read) ts) ≡ Err (Refused line cause) → IsFirstUnfit m ts line cause ⊎ IsUnfitEnd m ts last line cause
within-first m ts last line cause h = go (tokens_read m (Ok nothing_read) ts) refl h where
  go : (r : Result Gathered ReadError) → tokens_read m (Ok nothing_read) ts ≡ r → at_last last r ≡ Err (Refused line cause) → IsFirstUnfit m ts line cause ⊎ IsUnfitEnd m ts last line cause
  go (Err e) i f = inl (first (stops m nothing_read ts (Refused line cause) (i ∙ let g : e ≡ Refused line cause = cc in ap Err g))) where
    first : Stops m nothing_read ts (Refused line cause) → IsFirstUnfit m ts line cause
    first s = let l : line ≡ s.token.line = let x = s.error in cc in let c : cause ≡ s.cause = let x = s.error in cc in rw (s.are, l, c) (unfit m s.front s.rest s.token s.state s.cause s.taken s.step)
  go (Ok d) i f = inr (by (end_of d) refl f) where
    by : (o : Option ℕ) → end_of d ≡ o → at_end last d o ≡ Err (Refused line cause) → IsUnfitEnd m ts last line cause
    by None j g = cc
    by (Some c) j g = let l : line ≡ last = cc in let k : cause ≡ c = cc in rw (l, k) (unfit-end m ts last c d (taken-kinds m nothing_read d ts i) j)

past-first : (m : Limits) (front : List ℕ) (line cause : ℕ) → past_limit (line_after front) (tokens_read m (Ok nothing_read) (tokens_ended front)) ≡ Err (Refused line cause) → IsPastOffence m front line cause
past-first m front line cause h = go (tokens_read m (Ok nothing_read) (tokens_ended front)) refl h where
  go : (r : Result Gathered ReadError) → tokens_read m (Ok nothing_read) (tokens_ended front) ≡ r → past_limit (line_after front) r ≡ Err (Refused line cause) → IsPastOffence m front line cause
  go (Err e) i f = inl (first (stops m nothing_read (tokens_ended front) (Refused line cause) (i ∙ let g : e ≡ Refused line cause = cc in ap Err g))) where
    first : Stops m nothing_read (tokens_ended front) (Refused line cause) → IsFirstUnfit m (tokens_ended front) line cause
    first s = let l : line ≡ s.token.line = let x = s.error in cc in let c : cause ≡ s.cause = let x = s.error in cc in rw (s.are, l, c) (unfit m s.front s.rest s.token s.state s.cause s.taken s.step)
  go (Ok d) i f = inr (record {
    before = taken-goes-on m (kinds_of (tokens_ended front)) d (taken-kinds m nothing_read d (tokens_ended front) i);
    line_is = cc;
    cause_is = cc;
  })

past-stops : (m : Limits) (front : List ℕ) (line cause : ℕ) → IsPastOffence m front line cause → past_limit (line_after front) (tokens_read m (Ok nothing_read) (tokens_ended front)) ≡ Err (Refused line cause)
past-stops m front line cause (inl u) = ap (past_limit (line_after front)) (unfit-stops m (tokens_ended front) line cause u)
past-stops m front line cause (inr u) =
    let w = going-on-taken m (kinds_of (tokens_ended front)) u.before in
    let e = without-lines m nothing_read w.0 (tokens_ended front) w.1 in
    let l = u.line_is in
    let c = u.cause_is in
    ap (past_limit (line_after front)) e ∙ rw (l, c) refl

within-stops : (m : Limits) (ts : List Token) (last line cause : ℕ) → IsFirstUnfit m ts line cause ⊎ IsUnfitEnd m ts last line cause → at_last last (tokens_read m (Ok nothing_read) ts) ≡ Err (Refused line cause)
within-stops m ts last line cause (inl u) = ap (at_last last) (unfit-stops m ts line cause u)
within-stops m ts last line cause (inr u) = end-stops m ts last line cause u

parse-within : (m : Limits) (bytes : List ℕ) → length bytes ≤ m.bytes → parse m bytes ≡ at_last (line_after bytes) (tokens_read m (Ok nothing_read) (tokens_of bytes))
parse-within m bytes h =
    let e : nat_le (length bytes) m.bytes ≡ true = grind (arith, nat_tests) in
    ap (λ (t : Bool). if t then at_last (line_after bytes) (tokens_read m (Ok nothing_read) (tokens_of bytes)) else past_limit (line_after (take m.bytes bytes)) (tokens_read m (Ok nothing_read) (tokens_ended (take m.bytes bytes)))) e

parse-past : (m : Limits) (bytes : List ℕ) → m.bytes < length bytes → parse m bytes ≡ past_limit (line_after (take m.bytes bytes)) (tokens_read m (Ok nothing_read) (tokens_ended (take m.bytes bytes)))
parse-past m bytes h =
    let e : nat_le (length bytes) m.bytes ≡ false = grind (arith, nat_tests) in
    ap (λ (t : Bool). if t then at_last (line_after bytes) (tokens_read m (Ok nothing_read) (tokens_of bytes)) else past_limit (line_after (take m.bytes bytes)) (tokens_read m (Ok nothing_read) (tokens_ended (take m.bytes bytes)))) e

offence-first : (m : Limits) (bytes : List ℕ) (line cause : ℕ) → Offence m bytes line cause → IsFirstOffence m bytes line cause
offence-first m bytes line cause h = go (nat_le (length bytes) m.bytes) refl where
  go : (t : Bool) → nat_le (length bytes) m.bytes ≡ t → IsFirstOffence m bytes line cause
  go true e = let l = leb-true (length bytes) m.bytes e in inl (l, within-first m (tokens_of bytes) (line_after bytes) line cause (sym (parse-within m bytes l) ∙ h))
  go false e = let l = leb-false (length bytes) m.bytes e in inr (l, past-first m (take m.bytes bytes) line cause (sym (parse-past m bytes l) ∙ h))

first-offence : (m : Limits) (bytes : List ℕ) (line cause : ℕ) → IsFirstOffence m bytes line cause → Offence m bytes line cause
first-offence m bytes line cause (inl (l, u)) = parse-within m bytes l ∙ within-stops m (tokens_of bytes) (line_after bytes) line cause u
first-offence m bytes line cause (inr (l, u)) = parse-past m bytes l ∙ past-stops m (take m.bytes bytes) line cause u

pub offences-first : (m : Limits) (bytes : List ℕ) (line cause : ℕ) → Offence m bytes line cause ↔ IsFirstOffence m bytes line cause
offences-first m bytes line cause = (offence-first m bytes line cause, first-offence m bytes line cause)

-- a file or an offence

error-refuses : (m : Limits) (ts : List Token) (e : ReadError) → tokens_read m (Ok nothing_read) ts ≡ Err e → (line : ℕ) × (cause : ℕ) × (e ≡ Refused line cause)
error-refuses m ts e h = let s = stops m nothing_read ts e h in (s.token.line, s.cause, s.error)

within-refuses : (m : Limits) (ts : List Token) (last : ℕ) (e : ReadError) → at_last last (tokens_read m (Ok nothing_read) ts) ≡ Err e → (line : ℕ) × (cause : ℕ) × (e ≡ Refused line cause)
within-refuses m ts last e h = go (tokens_read m (Ok nothing_read) ts) refl h where
  go : (r : Result Gathered ReadError) → tokens_read m (Ok nothing_read) ts ≡ r → at_last last r ≡ Err e → (line : ℕ) × (cause : ℕ) × (e ≡ Refused line cause)
  go (Err f) i g = error-refuses m ts e (i ∙ let j : f ≡ e = cc in ap Err j)
  go (Ok d) i g = by (end_of d) g where
    by : (o : Option ℕ) → at_end last d o ≡ Err e → (line : ℕ) × (cause : ℕ) × (e ≡ Refused line cause)
    by None j = cc
    by (Some c) j = (last, c, cc)

past-refuses : (m : Limits) (ts : List Token) (last : ℕ) (e : ReadError) → past_limit last (tokens_read m (Ok nothing_read) ts) ≡ Err e → (line : ℕ) × (cause : ℕ) × (e ≡ Refused line cause)
past-refuses m ts last e h = go (tokens_read m (Ok nothing_read) ts) refl h where
  go : (r : Result Gathered ReadError) → tokens_read m (Ok nothing_read) ts ≡ r → past_limit last r ≡ Err e → (line : ℕ) × (cause : ℕ) × (e ≡ Refused line cause)
  go (Err f) i g = error-refuses m ts e (i ∙ let j : f ≡ e = cc in ap Err j)
  go (Ok d) i g = (last, 8, cc)

refuses : (m : Limits) (bytes : List ℕ) (e : ReadError) → parse m bytes ≡ Err e → (line : ℕ) × (cause : ℕ) × (e ≡ Refused line cause)
refuses m bytes e h = go (nat_le (length bytes) m.bytes) refl where
  go : (t : Bool) → nat_le (length bytes) m.bytes ≡ t → (line : ℕ) × (cause : ℕ) × (e ≡ Refused line cause)
  go true i = within-refuses m (tokens_of bytes) (line_after bytes) e (sym (parse-within m bytes (leb-true (length bytes) m.bytes i)) ∙ h)
  go false i = past-refuses m (tokens_ended (take m.bytes bytes)) (line_after (take m.bytes bytes)) e (sym (parse-past m bytes (leb-false (length bytes) m.bytes i)) ∙ h)

one-or-other : (m : Limits) (bytes : List ℕ) → ((f : PrenexFormula) × Dimacs m bytes f) ⊎ ((line : ℕ) × (cause : ℕ) × Offence m bytes line cause)
one-or-other m bytes = go (parse m bytes) refl where
  go : (r : Result PrenexFormula ReadError) → parse m bytes ≡ r → ((f : PrenexFormula) × Dimacs m bytes f) ⊎ ((line : ℕ) × (cause : ℕ) × Offence m bytes line cause)
  go (Ok f) e = inl (f, read_is_grammar m bytes f e)
  go (Err x) e = let r = refuses m bytes x e in inr (r.0, r.1, e ∙ ap Err r.2)

apart : (m : Limits) (bytes : List ℕ) (f : PrenexFormula) (line cause : ℕ) → Dimacs m bytes f → Offence m bytes line cause → ⊥
apart m bytes f line cause d o = let e = grammar_is_read m bytes f d in cc

pub offence-where : (m : Limits) (bytes : List ℕ) → ((line : ℕ) × (cause : ℕ) × Offence m bytes line cause) ↔ ((f : PrenexFormula) → ¬ Dimacs m bytes f)
offence-where m bytes = (λ o f d. apart m bytes f o.0 o.1 d o.2, λ n. some (one-or-other m bytes) n) where
  some : ((f : PrenexFormula) × Dimacs m bytes f) ⊎ ((line : ℕ) × (cause : ℕ) × Offence m bytes line cause) → ((f : PrenexFormula) → ¬ Dimacs m bytes f) → (line : ℕ) × (cause : ℕ) × Offence m bytes line cause
  some (inl (f, d)) n = absurd (n f d)
  some (inr o) n = o

pub formula-where : (m : Limits) (bytes : List ℕ) → ((line cause : ℕ) → ¬ Offence m bytes line cause) ↔ ((f : PrenexFormula) × Dimacs m bytes f)
formula-where m bytes = (λ n. some (one-or-other m bytes) n, λ f line cause o. apart m bytes f.0 line cause f.1 o) where
  some : ((f : PrenexFormula) × Dimacs m bytes f) ⊎ ((line : ℕ) × (cause : ℕ) × Offence m bytes line cause) → ((line cause : ℕ) → ¬ Offence m bytes line cause) → (f : PrenexFormula) × Dimacs m bytes f
  some (inl f) n = f
  some (inr (l, k, o)) n = absurd (n l k o)
