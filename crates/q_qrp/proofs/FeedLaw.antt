-- Feeding all bytes gives what parsing says.
use Rattle.std.proofs.Common.{◌≡◌, ℕ, suc, ◌+◌, ◌<◌, ◌≤◌, ◌==◌, nat_le, Bool, true, false, List, [], ◌∷◌, ◌++◌, length, take, drop, Ok, Err, Option, Some, None, Result, refl, ap, sym, ◌∙◌, arith, subst, if◌then◌else◌}
use Rattle.std.proofs.lemmas.Bool.Decides.{nat_tests}
use Rattle.std.proofs.lemmas.Grind.{common_steps}
use Rattle.std.proofs.lemmas.List.{take-append-drop}
use Rattle.q_text.specs.declared.tokens.Tokens.{Tokens}
use Rattle.q_text.specs.declared.shape.Shape.TheVariants.{Start}
use Rattle.q_text.specs.Words.{is_separator}
use Rattle.q_text.specs.Texts.{line_after, line_from}
use Rattle.q_text.specs.Tokens.{line_of, after_blank, grown, after as tokens_after}
use Rattle.q_qrp.specs.declared.words.Spoken.{Spoken}
use Rattle.q_qrp.specs.declared.words.Words.{Words}
use Rattle.q_qrp.specs.declared.trace.Verdict.{Verdict}
use Rattle.q_qrp.specs.declared.builder.Place.{Place}
use Rattle.q_qrp.specs.declared.builder.Place.TheVariants.{Problem, Format, First, Second, Sets, InSet, Lines, Literals, After, Answer, Done}
use Rattle.q_qrp.specs.declared.error.TraceError.{TraceError}
use Rattle.q_qrp.specs.declared.error.TraceError.TheVariants.{Refused}
use Rattle.q_qrp.specs.declared.reader.Standing.{Standing}
use Rattle.q_qrp.specs.declared.reader.Standing.TheVariants.{Reading, Finished, Stopped}
use Rattle.q_qrp.specs.Words.{words_of, words_ended, handed, handed_at_end, after, begun}
use Rattle.q_qrp.specs.Lines.{Proof, lines_of}
use Rattle.q_qrp.specs.Causes.{no_verdict, limit}
use Rattle.q_qrp.specs.Reading.{Gathered, step_of, step_at, nothing_read}
use Rattle.q_qrp.specs.Scanning.{Scan, is_done, proof_at, proof_in, standing_at, stepped, word_step, fed, start, whole, ended, ended_at, outcome, outcome_at}
use Rattle.q_qrp.specs.Offences.{at_line, after_word, words_read, proof_or, at_last, parse}
use Rattle.q_qrp.proofs.WordLaw.{listed, to_come, all_handed, from_start, handed-ended}
use Rattle.q_qrp.proofs.FedBytes.{fed-stopped, fed-finished}

abbrev pub scan : ℕ → Words → ℕ → Gathered → Standing → Scan
scan m w n b g = record { most = m; words = w; taken = n; builder = b; standing = g }

pub words_read-err : (e : TraceError) (ws : List Spoken) → words_read (Err e) ws ≡ Err e
words_read-err e [] = refl
words_read-err e (w ∷ ws) = words_read-err e ws

pub outcome-fed-stopped : (s : Scan) (e : TraceError) (bs : List ℕ) → s.standing ≡ Stopped e → outcome (fed s bs) ≡ Err e
outcome-fed-stopped s e bs h = rw (fed-stopped s e bs h) (ap (outcome_at s) h)

-- what the verdict has ended
record IsDone (b : Gathered) : Type 0 where
  verdict : Verdict
  line : ℕ
  is : b.place ≡ Done verdict line

done-at : (b : Gathered) (p : Place) → b.place ≡ p → is_done p ≡ true → IsDone b
done-at b Problem e h = cc
done-at b Format e h = cc
done-at b First e h = cc
done-at b Second e h = cc
done-at b Sets e h = cc
done-at b InSet e h = cc
done-at b Lines e h = cc
done-at b Literals e h = cc
done-at b After e h = cc
done-at b Answer e h = cc
done-at b (Done v n) e h = record { verdict = v; line = n; is = e }

abbrev proof_of_done : (b : Gathered) → IsDone b → Proof
proof_of_done b d = record { lines = lines_of b.rows b.terms; verdict = d.verdict; place = d.line }

done-proof : (b : Gathered) (d : IsDone b) → proof_in b ≡ Some (proof_of_done b d)
done-proof b d = ap (proof_at b) d.is

done-step : (b : Gathered) (w : Spoken) → IsDone b → step_of b w ≡ Ok b
done-step b w d = ap (λ (p : Place). step_at p b w) d.is

done-words : (b : Gathered) (ws : List Spoken) → IsDone b → words_read (Ok b) ws ≡ Ok b
done-words b [] d = refl
done-words b (w ∷ ws) d = ap (λ r. words_read (at_line w.token.line r) ws) (done-step b w d) ∙ done-words b ws d

-- a scan that has finished answers its proof, whatever follows
finished-outcome : (m : ℕ) (w : Words) (n : ℕ) (b : Gathered) (bs : List ℕ) (cause line : ℕ) (ws : List Spoken) → IsDone b →
    outcome (fed (scan m w n b Finished) bs) ≡ at_last cause line (words_read (Ok b) ws)
finished-outcome m w n b bs cause line ws d =
    ap outcome (fed-finished (scan m w n b Finished) bs refl)
    ∙ (ap (whole (line_of w.tokens)) (done-proof b d)
    ∙ sym (ap (at_last cause line) (done-words b ws d) ∙ ap (proof_or cause line) (done-proof b d)))

-- the end
whole-is : (n : ℕ) (o : Option Proof) → whole n o ≡ proof_or no_verdict n o
whole-is n None = refl
whole-is n (Some p) = refl

ended-is : (m : ℕ) (w : Words) (n : ℕ) (b : Gathered) (t : Bool) → ended (scan m w n b (if t then Finished else Reading)) ≡ at_last no_verdict (line_of w.tokens) (Ok b)
ended-is m w n b true = whole-is (line_of w.tokens) (proof_in b)
ended-is m w n b false = whole-is (line_of w.tokens) (proof_in b)

at_end-is : (m : ℕ) (w : Words) (n : ℕ) (b : Gathered) (o : Option Spoken) → ended (word_step (scan m w n b Reading) o) ≡ at_last no_verdict (line_of w.tokens) (words_read (Ok b) (listed o))
at_end-is m w n b None = whole-is (line_of w.tokens) (proof_in b)
at_end-is m w n b (Some k) = go (step_of b k) where
  go : (r : Result Gathered ℕ) → ended (stepped (scan m w n b Reading) k.token.line r) ≡ at_last no_verdict (line_of w.tokens) (at_line k.token.line r)
  go (Ok c) = ended-is m w n c (is_done c.place)
  go (Err c) = refl

line-next : (t : Tokens) (b : ℕ) → (tokens_after t b).line ≡ (if b == 10 then t.line + 1 else t.line)
line-next t b = go (b == 10) (is_separator b) where
  go : (u s : Bool) → (let r : Tokens = if u then record { line = t.line + 1; shape = Start } else (if s then record { line = t.line; shape = after_blank t.shape } else record { line = t.line; shape = grown t.shape b }) in r.line) ≡ (if u then t.line + 1 else t.line)
  go true s = refl
  go false true = refl
  go false false = refl

-- one word, and then what follows
after-step : (cause : ℕ) (m : ℕ) (w : Words) (n k line : ℕ) (bs : List ℕ) (ws : List Spoken) (r : Result Gathered ℕ) (b : Gathered)
    → ((c : Gathered) → is_done c.place ≡ false → outcome (fed (scan m w n c Reading) bs) ≡ at_last cause line (words_read (Ok c) ws))
    → outcome (fed (stepped (scan m w n b Reading) k r) bs) ≡ at_last cause line (words_read (at_line k r) ws)
after-step cause m w n k line bs ws (Err c) b ih =
    outcome-fed-stopped (scan m w n b (Stopped (Refused k c))) (Refused k c) bs refl
    ∙ sym (ap (at_last cause line) (words_read-err (Refused k c) ws))
after-step cause m w n k line bs ws (Ok c) b ih = go (is_done c.place) refl where
  go : (t : Bool) → is_done c.place ≡ t → outcome (fed (scan m w n c (if t then Finished else Reading)) bs) ≡ at_last cause line (words_read (Ok c) ws)
  go true e = finished-outcome m w n c bs cause line ws (done-at c c.place refl e)
  go false e = ih c e

after-handed : (cause : ℕ) (m : ℕ) (w : Words) (n line : ℕ) (bs : List ℕ) (ws : List Spoken) (o : Option Spoken) (b : Gathered) → is_done b.place ≡ false
    → ((c : Gathered) → is_done c.place ≡ false → outcome (fed (scan m w n c Reading) bs) ≡ at_last cause line (words_read (Ok c) ws))
    → outcome (fed (word_step (scan m w n b Reading) o) bs) ≡ at_last cause line (words_read (Ok b) (listed o ++ ws))
after-handed cause m w n line bs ws None b d ih = ih b d
after-handed cause m w n line bs ws (Some k) b d ih = after-step cause m w n k.token.line line bs ws (step_of b k) b ih

below-limit : (n k l : ℕ) → n + suc k ≤ l → nat_le l n ≡ false
below-limit n k l h = grind (arith, nat_tests)

at-limit : (n l : ℕ) → n + 0 ≡ l → nat_le l n ≡ true
at-limit n l h = grind (arith, nat_tests)

cond-no : (u : Bool) (x y : Scan) → u ≡ false → (if u then x else y) ≡ y
cond-no true x y e = cc
cond-no false x y e = refl

cond-yes : (u : Bool) (x y : Scan) → u ≡ true → (if u then x else y) ≡ x
cond-yes true x y e = refl
cond-yes false x y e = cc

abbrev refused : ℕ → Words → ℕ → Gathered → Scan
refused m w n b = scan m w n b (Stopped (Refused (line_of w.tokens) limit))

-- within the limit
within : (m : ℕ) (w : Words) (n : ℕ) (b : Gathered) (bs : List ℕ) → n + length bs ≤ m → is_done b.place ≡ false →
    outcome (fed (scan m w n b Reading) bs) ≡ at_last no_verdict (line_from (line_of w.tokens) bs) (words_read (Ok b) (to_come w bs))
within m w n b [] h d = at_end-is m w n b (handed_at_end w)
within m w n b (x ∷ bs) h d =
    let f = below-limit n (length bs) m h in
    let g : (n + 1) + length bs ≤ m = omega arith in
    ap (λ s. outcome (fed s bs)) (cond-no (nat_le m n) (refused m w n b) (word_step (scan m (after w x) (n + 1) b Reading) (handed w x)) f)
    ∙ (after-handed no_verdict m (after w x) (n + 1) (line_from (line_of (tokens_after w.tokens x)) bs) bs (to_come (after w x) bs) (handed w x) b d (λ c e. within m (after w x) (n + 1) c bs g e)
    ∙ ap (λ l. at_last no_verdict (line_from l bs) (words_read (Ok b) (to_come w (x ∷ bs)))) (line-next w.tokens x))

not-done : (b : Gathered) (p : Place) → is_done p ≡ false → proof_at b p ≡ None
not-done b Problem h = refl
not-done b Format h = refl
not-done b First h = refl
not-done b Second h = refl
not-done b Sets h = refl
not-done b InSet h = refl
not-done b Lines h = refl
not-done b Literals h = refl
not-done b After h = refl
not-done b Answer h = refl
not-done b (Done v n) h = cc

-- past the limit
past : (m : ℕ) (w : Words) (n : ℕ) (b : Gathered) (bs : List ℕ) (x : ℕ) (xs : List ℕ) → n + length bs ≡ m → is_done b.place ≡ false →
    outcome (fed (scan m w n b Reading) (bs ++ x ∷ xs)) ≡ at_last limit (line_from (line_of w.tokens) bs) (words_read (Ok b) (all_handed w bs))
past m w n b [] x xs h d =
    ap (λ s. outcome (fed s xs)) (cond-yes (nat_le m n) (refused m w n b) (word_step (scan m (after w x) (n + 1) b Reading) (handed w x)) (at-limit n m h))
    ∙ (outcome-fed-stopped (refused m w n b) (Refused (line_of w.tokens) limit) xs refl ∙ sym (ap (proof_or limit (line_of w.tokens)) (not-done b b.place d)))
past m w n b (y ∷ bs) x xs h d =
    let k : n + suc (length bs) ≤ m = omega arith in
    let f = below-limit n (length bs) m k in
    let g : (n + 1) + length bs ≡ m = omega arith in
    ap (λ s. outcome (fed s (bs ++ x ∷ xs))) (cond-no (nat_le m n) (refused m w n b) (word_step (scan m (after w y) (n + 1) b Reading) (handed w y)) f)
    ∙ (after-handed limit m (after w y) (n + 1) (line_from (line_of (tokens_after w.tokens y)) bs) (bs ++ x ∷ xs) (all_handed (after w y) bs) (handed w y) b d (λ c e. past m (after w y) (n + 1) c bs x xs g e)
    ∙ ap (λ l. at_last limit (line_from l bs) (words_read (Ok b) (all_handed w (y ∷ bs)))) (line-next w.tokens y))

fits : (m : ℕ) (bs : List ℕ) → nat_le (length bs) m ≡ true → 0 + length bs ≤ m
fits m bs e = grind (arith, nat_tests)

long : (m : ℕ) (bs : List ℕ) → nat_le (length bs) m ≡ false → m < length bs
long m bs e = grind (arith, nat_tests)

front-length : (l : ℕ) (bs : List ℕ) → l < length bs → 0 + length (take l bs) ≡ l
front-length l bs h = grind (arith, common_steps)

past-whole : (m : ℕ) (bs rest : List ℕ) → m < length bs → take m bs ++ rest ≡ bs → 0 < length rest →
    outcome (fed (start m) bs) ≡ at_last limit (line_after (take m bs)) (words_read (Ok nothing_read) (all_handed begun (take m bs)))
past-whole m bs [] h e l = absurd (omega arith)
past-whole m bs (x ∷ xs) h e l = subst (λ cs. outcome (fed (start m) cs) ≡ at_last limit (line_after (take m bs)) (words_read (Ok nothing_read) (all_handed begun (take m bs)))) e
    (past m begun 0 nothing_read (take m bs) x xs (front-length m bs h) refl)

rest-length : (l : ℕ) (bs : List ℕ) → l < length bs → 0 < length (drop l bs)
rest-length l bs h = grind (arith, common_steps)

pub reads : (m : ℕ) (bs : List ℕ) → outcome (fed (start m) bs) ≡ parse m bs
reads m bs = go (nat_le (length bs) m) refl where
  go : (u : Bool) → nat_le (length bs) m ≡ u → outcome (fed (start m) bs) ≡ (if u then at_last no_verdict (line_after bs) (words_read (Ok nothing_read) (words_of bs)) else at_last limit (line_after (take m bs)) (words_read (Ok nothing_read) (words_ended (take m bs))))
  go true e = within m begun 0 nothing_read bs (fits m bs e) refl ∙ ap (λ ts. at_last no_verdict (line_after bs) (words_read (Ok nothing_read) ts)) (from_start bs)
  go false e =
      let h = long m bs e in
      past-whole m bs (drop m bs) h (take-append-drop m bs) (rest-length m bs h)
      ∙ ap (λ ts. at_last limit (line_after (take m bs)) (words_read (Ok nothing_read) ts)) (handed-ended (take m bs))
