-- Feeding all bytes gives what parsing says.
use Rattle.std.proofs.Common.{◌≡◌, ℕ, suc, ◌+◌, ◌<◌, ◌≤◌, ◌==◌, nat_le, Bool, true, false, List, [], ◌∷◌, ◌++◌, length, take, drop, Ok, Err, Option, Some, None, Result, refl, ap, sym, ◌∙◌, arith, subst, if◌then◌else◌}
use Rattle.std.proofs.lemmas.Bool.Decides.{nat_tests}
use Rattle.q_logic.specs.declared.limits.Limits.{Limits}
use Rattle.q_logic.specs.Prelude.{PrenexFormula}
use Rattle.q_text.specs.declared.tokens.Token.{Token}
use Rattle.q_text.specs.declared.tokens.Tokens.{Tokens}
use Rattle.q_text.specs.Words.{is_separator}
use Rattle.q_text.specs.declared.shape.Shape.TheVariants.{Start}
use Rattle.std.proofs.lemmas.Grind.{common_steps}
use Rattle.std.proofs.lemmas.List.{take-append-drop}
use Rattle.q_text.specs.Texts.{tokens_of, tokens_ended, line_after, line_from}
use Rattle.q_text.specs.Tokens.{handed, after, token_in, kind_in, begun, after_blank, grown, to_come, listed, all_handed}
use Rattle.q_text.proofs.TokenLaw.{from_start, handed-ended}
use Rattle.q_dimacs.specs.declared.error.ReadError.{ReadError}
use Rattle.q_dimacs.specs.declared.error.ReadError.TheVariants.{Refused}
use Rattle.q_dimacs.specs.declared.reader.Standing.TheVariants.{Reading, Stopped}
use Rattle.q_dimacs.specs.Reading.{Gathered, step_of, end_of, nothing_read, limit}
use Rattle.q_dimacs.specs.Scanning.{Scan, stepped, token_step, fed, start, whole, ended, outcome, outcome_at}
use Rattle.q_dimacs.specs.Offences.{at_end, at_line, tokens_read, at_last, past_limit, parse}
use Rattle.q_dimacs.proofs.FedBytes.{fed-stopped}

abbrev scan : Limits → Tokens → ℕ → Gathered → Scan
scan m t n b = record { limits = m; tokens = t; taken = n; builder = b; standing = Reading }

pub tokens_read-err : (m : Limits) (e : ReadError) (ts : List Token) → tokens_read m (Err e) ts ≡ Err e
tokens_read-err m e [] = refl
tokens_read-err m e (t ∷ ts) = tokens_read-err m e ts

outcome-stopped : (s : Scan) (e : ReadError) → s.standing ≡ Stopped e → outcome s ≡ Err e
outcome-stopped s e h = ap (outcome_at s) h

pub outcome-fed-stopped : (s : Scan) (e : ReadError) (bs : List ℕ) → s.standing ≡ Stopped e → outcome (fed s bs) ≡ Err e
outcome-fed-stopped s e bs h = rw (fed-stopped s e bs h) (outcome-stopped s e h)

-- the end
whole-is : (m : Limits) (t : Tokens) (n : ℕ) (b : Gathered) → ended (scan m t n b) ≡ at_end t.line b (end_of b)
whole-is m t n b = go (end_of b) where
  go : (o : Option ℕ) → whole (scan m t n b) o ≡ at_end t.line b o
  go None = refl
  go (Some c) = refl

at_end-is : (m : Limits) (t : Tokens) (n : ℕ) (b : Gathered) (o : Option Token) → ended (token_step (scan m t n b) o) ≡ at_last t.line (tokens_read m (Ok b) (listed o))
at_end-is m t n b None = whole-is m t n b
at_end-is m t n b (Some k) = go (step_of m b k.kind) where
  go : (r : Result Gathered ℕ) → ended (stepped (scan m t n b) k.line r) ≡ at_last t.line (at_line k.line r)
  go (Ok c) = whole-is m t n c
  go (Err c) = refl

line-next : (t : Tokens) (b : ℕ) → (after t b).line ≡ (if b == 10 then t.line + 1 else t.line)
line-next t b = go (b == 10) (is_separator b) where
  go : (u s : Bool) → (let r : Tokens = if u then record { line = t.line + 1; shape = Start } else (if s then record { line = t.line; shape = after_blank t.shape } else record { line = t.line; shape = grown t.shape b }) in r.line) ≡ (if u then t.line + 1 else t.line)
  go true s = refl
  go false true = refl
  go false false = refl

module _ (last : ℕ → Result Gathered ReadError → Result PrenexFormula ReadError) (passes : (n : ℕ) (e : ReadError) → last n (Err e) ≡ Err e) where
  after-step : (m : Limits) (t : Tokens) (n k line : ℕ) (bs : List ℕ) (ts : List Token) (r : Result Gathered ℕ) (b : Gathered) → ((c : Gathered) → outcome (fed (scan m t n c) bs) ≡ last line (tokens_read m (Ok c) ts))
      → outcome (fed (stepped (scan m t n b) k r) bs) ≡ last line (tokens_read m (at_line k r) ts)
  after-step m t n k line bs ts (Ok c) b ih = ih c
  after-step m t n k line bs ts (Err c) b ih =
      outcome-fed-stopped (record { limits = m; tokens = t; taken = n; builder = b; standing = Stopped (Refused k c) }) (Refused k c) bs refl
      ∙ sym (ap (last line) (tokens_read-err m (Refused k c) ts) ∙ passes line (Refused k c))

  after-handed : (m : Limits) (t : Tokens) (n line : ℕ) (bs : List ℕ) (ts : List Token) (o : Option Token) (b : Gathered) → ((c : Gathered) → outcome (fed (scan m t n c) bs) ≡ last line (tokens_read m (Ok c) ts))
      → outcome (fed (token_step (scan m t n b) o) bs) ≡ last line (tokens_read m (Ok b) (listed o ++ ts))
  after-handed m t n line bs ts None b ih = ih b
  after-handed m t n line bs ts (Some k) b ih = after-step m t n k.line line bs ts (step_of m b k.kind) b ih

last-passes : (n : ℕ) (e : ReadError) → at_last n (Err e) ≡ Err e
last-passes n e = refl

limit-passes : (n : ℕ) (e : ReadError) → past_limit n (Err e) ≡ Err e
limit-passes n e = refl

below-limit : (n k l : ℕ) → n + suc k ≤ l → nat_le l n ≡ false
below-limit n k l h = grind (arith, nat_tests)

at-limit : (n l : ℕ) → n + 0 ≡ l → nat_le l n ≡ true
at-limit n l h = grind (arith, nat_tests)

cond-no : (u : Bool) (x y : Scan) → u ≡ false → (if u then x else y) ≡ y
cond-no true x y e = cc
cond-no false x y e = refl

cond-yes : (u : Bool) (x y : Scan) → u ≡ true → (if u then x else y) ≡ x
cond-yes true x y e = refl
cond-yes false x y e = cc

abbrev refused : Limits → Tokens → ℕ → Gathered → Scan
refused m t n b = record { limits = m; tokens = t; taken = n; builder = b; standing = Stopped (Refused t.line limit) }

-- within the limit
within : (m : Limits) (t : Tokens) (n : ℕ) (b : Gathered) (bs : List ℕ) → n + length bs ≤ m.bytes →
    outcome (fed (scan m t n b) bs) ≡ at_last (line_from t.line bs) (tokens_read m (Ok b) (to_come t bs))
within m t n b [] h = at_end-is m t n b (token_in (kind_in t.shape) t.line)
within m t n b (x ∷ bs) h =
    let f = below-limit n (length bs) m.bytes h in
    let g : (n + 1) + length bs ≤ m.bytes = omega arith in
    ap (λ s. outcome (fed s bs)) (cond-no (nat_le m.bytes n) (refused m t n b) (token_step (scan m (after t x) (n + 1) b) (handed t x)) f)
    ∙ (after-handed at_last last-passes m (after t x) (n + 1) (line_from (after t x).line bs) bs (to_come (after t x) bs) (handed t x) b (λ c. within m (after t x) (n + 1) c bs g)
    ∙ ap (λ l. at_last (line_from l bs) (tokens_read m (Ok b) (to_come t (x ∷ bs)))) (line-next t x))

-- past the limit
past : (m : Limits) (t : Tokens) (n : ℕ) (b : Gathered) (bs : List ℕ) (x : ℕ) (xs : List ℕ) → n + length bs ≡ m.bytes →
    outcome (fed (scan m t n b) (bs ++ x ∷ xs)) ≡ past_limit (line_from t.line bs) (tokens_read m (Ok b) (all_handed t bs))
past m t n b [] x xs h =
    ap (λ s. outcome (fed s xs)) (cond-yes (nat_le m.bytes n) (refused m t n b) (token_step (scan m (after t x) (n + 1) b) (handed t x)) (at-limit n m.bytes h))
    ∙ outcome-fed-stopped (refused m t n b) (Refused t.line limit) xs refl
past m t n b (y ∷ bs) x xs h =
    let k : n + suc (length bs) ≤ m.bytes = omega arith in
    let f = below-limit n (length bs) m.bytes k in
    let g : (n + 1) + length bs ≡ m.bytes = omega arith in
    ap (λ s. outcome (fed s (bs ++ x ∷ xs))) (cond-no (nat_le m.bytes n) (refused m t n b) (token_step (scan m (after t y) (n + 1) b) (handed t y)) f)
    ∙ (after-handed past_limit limit-passes m (after t y) (n + 1) (line_from (after t y).line bs) (bs ++ x ∷ xs) (all_handed (after t y) bs) (handed t y) b (λ c. past m (after t y) (n + 1) c bs x xs g)
    ∙ ap (λ l. past_limit (line_from l bs) (tokens_read m (Ok b) (all_handed t (y ∷ bs)))) (line-next t y))

fits : (m : Limits) (bs : List ℕ) → nat_le (length bs) m.bytes ≡ true → 0 + length bs ≤ m.bytes
fits m bs e = grind (arith, nat_tests)

long : (m : Limits) (bs : List ℕ) → nat_le (length bs) m.bytes ≡ false → m.bytes < length bs
long m bs e = grind (arith, nat_tests)

front-length : (l : ℕ) (bs : List ℕ) → l < length bs → 0 + length (take l bs) ≡ l
front-length l bs h = grind (arith, common_steps)

past-whole : (m : Limits) (bs rest : List ℕ) → m.bytes < length bs → take m.bytes bs ++ rest ≡ bs → 0 < length rest →
    outcome (fed (start m) bs) ≡ past_limit (line_after (take m.bytes bs)) (tokens_read m (Ok nothing_read) (all_handed begun (take m.bytes bs)))
past-whole m bs [] h e l = absurd (omega arith)
past-whole m bs (x ∷ xs) h e l = subst (λ cs. outcome (fed (start m) cs) ≡ past_limit (line_after (take m.bytes bs)) (tokens_read m (Ok nothing_read) (all_handed begun (take m.bytes bs)))) e
    (past m begun 0 nothing_read (take m.bytes bs) x xs (front-length m.bytes bs h))

rest-length : (l : ℕ) (bs : List ℕ) → l < length bs → 0 < length (drop l bs)
rest-length l bs h = grind (arith, common_steps)

pub reads : (m : Limits) (bs : List ℕ) → outcome (fed (start m) bs) ≡ parse m bs
reads m bs = go (nat_le (length bs) m.bytes) refl where
  go : (u : Bool) → nat_le (length bs) m.bytes ≡ u → outcome (fed (start m) bs) ≡ (if u then at_last (line_after bs) (tokens_read m (Ok nothing_read) (tokens_of bs)) else past_limit (line_after (take m.bytes bs)) (tokens_read m (Ok nothing_read) (tokens_ended (take m.bytes bs))))
  go true e = within m begun 0 nothing_read bs (fits m bs e) ∙ ap (λ ts. at_last (line_after bs) (tokens_read m (Ok nothing_read) ts)) (from_start bs)
  go false e =
      let h = long m bs e in
      past-whole m bs (drop m.bytes bs) h (take-append-drop m.bytes bs) (rest-length m.bytes bs h)
      ∙ ap (λ ts. past_limit (line_after (take m.bytes bs)) (tokens_read m (Ok nothing_read) ts)) (handed-ended (take m.bytes bs))
