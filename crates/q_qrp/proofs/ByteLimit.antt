-- A reader that still reads has not passed the limit on bytes; one that has finished stays as it is.
use Rattle.std.proofs.Common.{◌≡◌, ◌≤◌, ◌+◌, ◌∙◌, refl, sym, ap, arith, ℕ, suc, Bool, true, false, List, [], ◌∷◌, ◌++◌, length, nat_le, if◌then◌else◌, Option, Some, None, Result, Ok, Err, OnOk}
use Rattle.std.proofs.lemmas.Bool.Decides.{nat_tests}
use Rattle.q_text.specs.Tokens.{line_of}
use Rattle.q_qrp.specs.declared.words.Spoken.{Spoken}
use Rattle.q_qrp.specs.declared.error.TraceError.{TraceError}
use Rattle.q_qrp.specs.declared.error.TraceError.TheVariants.{Refused}
use Rattle.q_qrp.specs.declared.reader.Standing.{Standing}
use Rattle.q_qrp.specs.declared.reader.Standing.TheVariants.{Reading, Finished, Stopped}
use Rattle.q_qrp.specs.Words.{after, handed}
use Rattle.q_qrp.specs.Causes.{limit}
use Rattle.q_qrp.specs.Reading.{Gathered, step_of}
use Rattle.q_qrp.specs.Scanning.{Scan, fed, byte_at, word_step, stepped, start, has_finished, goes_on, HasRead, Feeds}
use Rattle.q_qrp.specs.Offences.{ReadsOn, StaysWithin}
use Rattle.q_qrp.proofs.FedBytes.{fed-stopped, fed-finished, fed-more, still-reading, only-finished}

stepped-taken : (s : Scan) (n : ℕ) (r : Result Gathered ℕ) → (stepped s n r).taken ≡ s.taken
stepped-taken s n (Ok b) = refl
stepped-taken s n (Err c) = refl

stepped-most : (s : Scan) (n : ℕ) (r : Result Gathered ℕ) → (stepped s n r).most ≡ s.most
stepped-most s n (Ok b) = refl
stepped-most s n (Err c) = refl

word_step-taken : (s : Scan) (o : Option Spoken) → (word_step s o).taken ≡ s.taken
word_step-taken s None = refl
word_step-taken s (Some w) = stepped-taken s w.token.line (step_of s.builder w)

word_step-most : (s : Scan) (o : Option Spoken) → (word_step s o).most ≡ s.most
word_step-most s None = refl
word_step-most s (Some w) = stepped-most s w.token.line (step_of s.builder w)

-- where the reader still reads, it has taken each byte, within the limit
record GoesOn (s t : Scan) (n : ℕ) : Type 0 where
  taken : t.taken ≡ s.taken + n
  most : t.most ≡ s.most
  within : s.taken ≤ s.most → s.taken + n ≤ s.most

not_stopped : (s : Scan) (e : TraceError) (bs : List ℕ) → s.standing ≡ Stopped e → (fed s bs).standing ≡ Reading → ⊥
not_stopped s e bs p h = let same : fed s bs ≡ s = fed-stopped s e bs p in let z : s.standing ≡ Reading = sym (ap (λ (x : Scan). x.standing) same) ∙ h in cc

not_finished : (s : Scan) (bs : List ℕ) → s.standing ≡ Finished → (fed s bs).standing ≡ Reading → ⊥
not_finished s bs p h = let same : fed s bs ≡ s = fed-finished s bs p in let z : s.standing ≡ Reading = sym (ap (λ (x : Scan). x.standing) same) ∙ h in cc

abbrev pub advanced : Scan → ℕ → Scan
advanced s b = record s { words = after s.words b; taken = s.taken + 1 }

abbrev pub next_scan : Scan → ℕ → Scan
next_scan s b = word_step (advanced s b) (handed s.words b)

abbrev pub over_limit : Scan → Scan
over_limit s = record s { standing = Stopped (Refused (line_of s.words.tokens) limit) }

further : (s t : Scan) (n : ℕ) (last : Scan) → t.taken ≡ s.taken + 1 → t.most ≡ s.most → s.taken + 1 ≤ s.most → GoesOn t last n → GoesOn s last (suc n)
further s t n last e m w g =
    let inside : t.taken + n ≤ t.most = g.within (omega (arith, e, m, w)) in
    record { taken = omega (arith, g.taken, e); most = g.most ∙ m; within = λ k. omega (arith, inside, e, m) }

fed-goes_on : (s : Scan) (bs : List ℕ) → (fed s bs).standing ≡ Reading → GoesOn s (fed s bs) (length bs)
fed-goes_on s [] h = record { taken = omega arith; most = refl; within = λ k. omega (arith, k) }
fed-goes_on s (b ∷ bs) h = go s.standing refl h (fed-goes_on (next_scan s b) bs)
  where
    full : (c : Bool) → nat_le s.most s.taken ≡ c → (fed (if c then over_limit s else next_scan s b) bs).standing ≡ Reading → ((fed (next_scan s b) bs).standing ≡ Reading → GoesOn (next_scan s b) (fed (next_scan s b) bs) (length bs)) → GoesOn s (fed (if c then over_limit s else next_scan s b) bs) (suc (length bs))
    full true e h ih = absurd (not_stopped (over_limit s) (Refused (line_of s.words.tokens) limit) bs refl h)
    full false e h ih = further s (next_scan s b) (length bs) (fed (next_scan s b) bs) (word_step-taken (advanced s b) (handed s.words b)) (word_step-most (advanced s b) (handed s.words b)) (grind (arith, nat_tests, e)) (ih h)

    go : (st : Standing) → s.standing ≡ st → (fed (byte_at s b st) bs).standing ≡ Reading → ((fed (next_scan s b) bs).standing ≡ Reading → GoesOn (next_scan s b) (fed (next_scan s b) bs) (length bs)) → GoesOn s (fed (byte_at s b st) bs) (suc (length bs))
    go (Stopped e) p h ih = absurd (not_stopped s e bs p h)
    go Finished p h ih = absurd (not_finished s bs p h)
    go Reading p h ih = full (nat_le s.most s.taken) refl h ih

pub feed-within : {X : Type 0} (r : Result X TraceError) (old new : Scan) (piece : List ℕ) → Feeds r (fed old piece) new
    → OnOk r (has_finished new.standing ≡ false → StaysWithin old piece)
feed-within (Ok x) old new piece h = λ f m bytes k. within f m bytes (sym (ap (λ s. fed s piece) k ∙ sym (fed-more (start m) bytes piece)))
  where
    within : has_finished new.standing ≡ false → (m : ℕ) (bytes : List ℕ) → fed (start m) (bytes ++ piece) ≡ fed old piece → length (bytes ++ piece) ≤ m
    within f m bytes e =
        let r : new.standing ≡ Reading = still-reading new.standing (ap (λ (s : Scan). goes_on s.standing) h.0 ∙ h.1) f in
        let q : (fed (start m) (bytes ++ piece)).standing ≡ Reading = ap (λ (s : Scan). s.standing) (e ∙ sym h.0) ∙ r in
        let g : GoesOn (start m) (fed (start m) (bytes ++ piece)) (length (bytes ++ piece)) = fed-goes_on (start m) (bytes ++ piece) q in
        omega (arith, g.within (omega arith))
feed-within (Err e) old new piece h = tt

pub finished-reads_on : (s : Scan) → has_finished s.standing ≡ true → (rest : List ℕ) → ReadsOn s rest s
finished-reads_on s h rest m bytes k =
    let f : s.standing ≡ Finished = only-finished s.standing h in
    sym (fed-more (start m) bytes rest ∙ (ap (λ t. fed t rest) (sym k) ∙ fed-finished s rest f))
