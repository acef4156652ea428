-- A reader that goes on has not passed the limit on bytes.
use Rattle.std.proofs.Common.{◌≡◌, ◌≤◌, ◌+◌, ◌∙◌, refl, sym, ap, arith, ℕ, suc, Bool, true, false, List, [], ◌∷◌, ◌++◌, length, nat_le, if◌then◌else◌, Option, Some, None, Result, Ok, Err, OnOk}
use Rattle.std.proofs.lemmas.Bool.Decides.{nat_tests}
use Rattle.q_logic.specs.declared.limits.Limits.{Limits}
use Rattle.q_text.specs.declared.tokens.Token.{Token}
use Rattle.q_text.specs.Tokens.{after, handed}
use Rattle.q_dimacs.specs.declared.error.ReadError.{ReadError}
use Rattle.q_dimacs.specs.declared.error.ReadError.TheVariants.{Refused}
use Rattle.q_dimacs.specs.declared.reader.Standing.{Standing}
use Rattle.q_dimacs.specs.declared.reader.Standing.TheVariants.{Reading, Stopped}
use Rattle.q_dimacs.specs.Reading.{Gathered, step_of, limit}
use Rattle.q_dimacs.specs.Scanning.{Scan, fed, byte_at, token_step, stepped, start, HasRead, Feeds}
use Rattle.q_dimacs.proofs.FedBytes.{fed-stopped, fed-more}

stepped-taken : (s : Scan) (n : ℕ) (r : Result Gathered ℕ) → (stepped s n r).taken ≡ s.taken
stepped-taken s n (Ok b) = refl
stepped-taken s n (Err c) = refl

stepped-limits : (s : Scan) (n : ℕ) (r : Result Gathered ℕ) → (stepped s n r).limits ≡ s.limits
stepped-limits s n (Ok b) = refl
stepped-limits s n (Err c) = refl

token_step-taken : (s : Scan) (o : Option Token) → (token_step s o).taken ≡ s.taken
token_step-taken s None = refl
token_step-taken s (Some t) = stepped-taken s t.line (step_of s.limits s.builder t.kind)

token_step-limits : (s : Scan) (o : Option Token) → (token_step s o).limits ≡ s.limits
token_step-limits s None = refl
token_step-limits s (Some t) = stepped-limits s t.line (step_of s.limits s.builder t.kind)

-- where the reader goes on, it has taken each byte, within the limit
record GoesOn (s t : Scan) (n : ℕ) : Type 0 where
  taken : t.taken ≡ s.taken + n
  limits : t.limits ≡ s.limits
  within : s.taken ≤ s.limits.bytes → s.taken + n ≤ s.limits.bytes

not_stopped : (s : Scan) (e : ReadError) (bs : List ℕ) → s.standing ≡ Stopped e → (fed s bs).standing ≡ Reading → ⊥
not_stopped s e bs p h = let same : fed s bs ≡ s = fed-stopped s e bs p in let z : s.standing ≡ Reading = sym (ap (λ (x : Scan). x.standing) same) ∙ h in cc

abbrev advanced : Scan → ℕ → Scan
advanced s b = record s { tokens = after s.tokens b; taken = s.taken + 1 }

abbrev next_scan : Scan → ℕ → Scan
next_scan s b = token_step (advanced s b) (handed s.tokens b)

abbrev over_limit : Scan → Scan
over_limit s = record s { standing = Stopped (Refused s.tokens.line limit) }

further : (s t : Scan) (n : ℕ) (last : Scan) → t.taken ≡ s.taken + 1 → t.limits ≡ s.limits → s.taken + 1 ≤ s.limits.bytes → GoesOn t last n → GoesOn s last (suc n)
further s t n last e m w g =
    let lim : t.limits.bytes ≡ s.limits.bytes = ap (λ (m : Limits). m.bytes) m in
    let inside : t.taken + n ≤ t.limits.bytes = g.within (omega (arith, e, lim, w)) in
    record { taken = omega (arith, g.taken, e); limits = g.limits ∙ m; within = λ k. omega (arith, inside, e, lim) }

fed-goes_on : (s : Scan) (bs : List ℕ) → (fed s bs).standing ≡ Reading → GoesOn s (fed s bs) (length bs)
fed-goes_on s [] h = record { taken = omega arith; limits = refl; within = λ k. omega (arith, k) }
fed-goes_on s (b ∷ bs) h = go s.standing refl h (fed-goes_on (next_scan s b) bs)
  where
    full : (c : Bool) → nat_le s.limits.bytes s.taken ≡ c → (fed (if c then over_limit s else next_scan s b) bs).standing ≡ Reading → ((fed (next_scan s b) bs).standing ≡ Reading → GoesOn (next_scan s b) (fed (next_scan s b) bs) (length bs)) → GoesOn s (fed (if c then over_limit s else next_scan s b) bs) (suc (length bs))
    full true e h ih = absurd (not_stopped (over_limit s) (Refused s.tokens.line limit) bs refl h)
    full false e h ih = further s (next_scan s b) (length bs) (fed (next_scan s b) bs) (token_step-taken (advanced s b) (handed s.tokens b)) (token_step-limits (advanced s b) (handed s.tokens b)) (grind (arith, nat_tests, e)) (ih h)

    go : (st : Standing) → s.standing ≡ st → (fed (byte_at s b st) bs).standing ≡ Reading → ((fed (next_scan s b) bs).standing ≡ Reading → GoesOn (next_scan s b) (fed (next_scan s b) bs) (length bs)) → GoesOn s (fed (byte_at s b st) bs) (suc (length bs))
    go (Stopped e) p h ih = absurd (not_stopped s e bs p h)
    go Reading p h ih = full (nat_le s.limits.bytes s.taken) refl h ih

pub feed-within : {X : Type 0} (r : Result X ReadError) (old new : Scan) (piece : List ℕ) → Feeds r (fed old piece) new
    → OnOk r ((m : Limits) → (bytes : List ℕ) → HasRead m bytes old → length (bytes ++ piece) ≤ m.bytes)
feed-within (Ok x) old new piece h = λ m bytes k. within m bytes (sym (ap (λ s. fed s piece) k ∙ sym (fed-more (start m) bytes piece)))
  where
    within : (m : Limits) (bytes : List ℕ) → fed (start m) (bytes ++ piece) ≡ fed old piece → length (bytes ++ piece) ≤ m.bytes
    within m bytes e = let g : GoesOn (start m) (fed (start m) (bytes ++ piece)) (length (bytes ++ piece)) = fed-goes_on (start m) (bytes ++ piece) (ap (λ (x : Scan). x.standing) e ∙ h.1) in omega (arith, g.within (omega arith))
feed-within (Err e) old new piece h = tt
