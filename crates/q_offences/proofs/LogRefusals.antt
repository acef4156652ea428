-- A log is refused at the first token, or the end, that does not fit, and taken exactly where it is a log.
use Rattle.std.proofs.Common.{◌≡◌, ◌≤◌, ◌<◌, ◌⊎◌, ◌↔◌, inl, inr, ℕ, nat_le, Bool, true, false, if◌then◌else◌, List, length, take, Option, Some, None, refl, ap, sym, ◌∙◌, arith}
use Rattle.std.proofs.lemmas.Bool.Decides.{nat_tests}
use Rattle.std.proofs.lemmas.Bool.{leb-true, leb-false}
use Rattle.q_text.specs.declared.tokens.Token.{Token}
use Rattle.q_text.specs.Texts.{tokens_of, tokens_ended, line_after}
use Rattle.q_log.specs.declared.error.LogError.{LogError}
use Rattle.q_log.specs.declared.error.LogError.TheVariants.{BadLine, Limit, NoMemory}
use Rattle.q_log.specs.Grammar.{OpenStep}
use Rattle.q_log.specs.Logs as plain_logs
use Rattle.q_hinted.specs.Grammar.{Place, nowhere}
use Rattle.q_hinted.specs.Logs as hinted_logs
use Rattle.q_offences.specs.Fronts.{MayGoOn, IsBadToken, IsBadEnd}
use Rattle.q_offences.specs.Logs.{IsPlainLog, IsLog, IsFirstRefusal, IsWholeLog}
use Rattle.q_offences.proofs.TokenRuns.{Run, reached, stopped, run, Reads, goes-on-comes, comes-goes-on, stopped-bad, bad-stopped, reached-bad, bad-reached}
use Rattle.q_offences.proofs.LogRuns.{refusal, plain_step, is_idle, plain-refusal, plain-reads, both_step, is_whole_at, both-refusal, both-reads, at-place}

-- what the end says, within the limit and past it
abbrev within_end : {S : Type 0} → (S → Bool) → ℕ → S → Option LogError
within_end whole n s = if whole s then None else Some (BadLine n)

abbrev past_end : {S : Type 0} → ℕ → S → Option LogError
past_end n s = Some (Limit n)

abbrev refused_by : {S : Type 0} → (S → Token → Option S) → (S → Bool) → S → ℕ → List ℕ → Option LogError
refused_by step whole start limit bytes =
    if nat_le (length bytes) limit then refusal (within_end whole (line_after bytes)) (run step start (tokens_of bytes))
    else refusal (past_end (line_after (take limit bytes))) (run step start (tokens_ended (take limit bytes)))

refused-within : {S : Type 0} (step : S → Token → Option S) (whole : S → Bool) (start : S) (limit : ℕ) (bytes : List ℕ) → length bytes ≤ limit
    → refused_by step whole start limit bytes ≡ refusal (within_end whole (line_after bytes)) (run step start (tokens_of bytes))
refused-within step whole start limit bytes h = let e : nat_le (length bytes) limit ≡ true = grind (arith, nat_tests) in rw e refl

refused-past : {S : Type 0} (step : S → Token → Option S) (whole : S → Bool) (start : S) (limit : ℕ) (bytes : List ℕ) → limit < length bytes
    → refused_by step whole start limit bytes ≡ refusal (past_end (line_after (take limit bytes))) (run step start (tokens_ended (take limit bytes)))
refused-past step whole start limit bytes h = let e : nat_le (length bytes) limit ≡ false = grind (arith, nat_tests) in rw e refl

-- within the limit

abbrev Within : (List Token → Type 0) → List Token → ℕ → ℕ → Type 0
Within IsText ts last line = IsBadToken IsText ts line ⊎ IsBadEnd IsText ts last line

within-down : {S : Type 0} (IsText : List Token → Type 0) (step : S → Token → Option S) (whole : S → Bool) (start : S) → Reads IsText step whole start → (ts : List Token) (last line : ℕ)
    → refusal (within_end whole last) (run step start ts) ≡ Some (BadLine line) → Within IsText ts last line
within-down {S} IsText step whole start r ts last line e = go (run step start ts) refl e where
  go : (x : Run S) → run step start ts ≡ x → refusal (within_end whole last) x ≡ Some (BadLine line) → Within IsText ts last line
  go (stopped n) i f = let g : n ≡ line = cc in inl (stopped-bad IsText step whole start r ts line (i ∙ ap (λ k. stopped k) g))
  go (reached s) i f = by (whole s) refl f where
    by : (x : Bool) → whole s ≡ x → (if x then None else Some (BadLine last)) ≡ Some (BadLine line) → Within IsText ts last line
    by true j g = cc
    by false j g = let k : line ≡ last = cc in inr (rw k (reached-bad IsText step whole start r ts last s i j))

within-up : {S : Type 0} (IsText : List Token → Type 0) (step : S → Token → Option S) (whole : S → Bool) (start : S) → Reads IsText step whole start → (ts : List Token) (last line : ℕ)
    → Within IsText ts last line → refusal (within_end whole last) (run step start ts) ≡ Some (BadLine line)
within-up IsText step whole start r ts last line (inl b) = ap (refusal (within_end whole last)) (bad-stopped IsText step whole start r ts line b)
within-up {S} IsText step whole start r ts last line (inr b) =
    let x = bad-reached IsText step whole start r ts last line b in
    ap (refusal (within_end whole last)) x.1 ∙ (ap (λ t. if t then None else Some (BadLine last)) x.2 ∙ ap (λ n. Some (BadLine n)) (sym b.line_is))

no-limit : {S : Type 0} (whole : S → Bool) (last line : ℕ) (x : Run S) → refusal (within_end whole last) x ≡ Some (Limit line) → ⊥
no-limit whole last line (stopped n) f = cc
no-limit whole last line (reached s) f = by (whole s) f where
  by : (x : Bool) → (if x then None else Some (BadLine last)) ≡ Some (Limit line) → ⊥
  by true g = cc
  by false g = cc

no-memory : {S : Type 0} (whole : S → Bool) (last : ℕ) (x : Run S) → refusal (within_end whole last) x ≡ Some NoMemory → ⊥
no-memory whole last (stopped n) f = cc
no-memory whole last (reached s) f = by (whole s) f where
  by : (x : Bool) → (if x then None else Some (BadLine last)) ≡ Some NoMemory → ⊥
  by true g = cc
  by false g = cc

-- past the limit

past-bad : {S : Type 0} (IsText : List Token → Type 0) (step : S → Token → Option S) (whole : S → Bool) (start : S) → Reads IsText step whole start → (ts : List Token) (last line : ℕ)
    → refusal (past_end last) (run step start ts) ≡ Some (BadLine line) → IsBadToken IsText ts line
past-bad {S} IsText step whole start r ts last line e = go (run step start ts) refl e where
  go : (x : Run S) → run step start ts ≡ x → refusal (past_end last) x ≡ Some (BadLine line) → IsBadToken IsText ts line
  go (stopped n) i f = let g : n ≡ line = cc in stopped-bad IsText step whole start r ts line (i ∙ ap (λ k. stopped k) g)
  go (reached s) i f = cc

past-limit : {S : Type 0} (IsText : List Token → Type 0) (step : S → Token → Option S) (whole : S → Bool) (start : S) → Reads IsText step whole start → (ts : List Token) (last line : ℕ)
    → refusal (past_end last) (run step start ts) ≡ Some (Limit line) → MayGoOn IsText ts × (line ≡ last)
past-limit {S} IsText step whole start r ts last line e = go (run step start ts) refl e where
  go : (x : Run S) → run step start ts ≡ x → refusal (past_end last) x ≡ Some (Limit line) → MayGoOn IsText ts × (line ≡ last)
  go (stopped n) i f = cc
  go (reached s) i f = (comes-goes-on IsText step whole start r ts s i, cc)

past-none : {S : Type 0} (last : ℕ) (x : Run S) → refusal (past_end last) x ≡ None → ⊥
past-none last (stopped n) f = cc
past-none last (reached s) f = cc

past-memory : {S : Type 0} (last : ℕ) (x : Run S) → refusal (past_end last) x ≡ Some NoMemory → ⊥
past-memory last (stopped n) f = cc
past-memory last (reached s) f = cc

past-up : {S : Type 0} (IsText : List Token → Type 0) (step : S → Token → Option S) (whole : S → Bool) (start : S) → Reads IsText step whole start → (ts : List Token) (last line : ℕ)
    → MayGoOn IsText ts → line ≡ last → refusal (past_end last) (run step start ts) ≡ Some (Limit line)
past-up IsText step whole start r ts last line h l = ap (refusal (past_end last)) (goes-on-comes IsText step whole start r ts h).1 ∙ ap (λ n. Some (Limit n)) (sym l)

-- both

refused-first : {S : Type 0} (IsText : List Token → Type 0) (step : S → Token → Option S) (whole : S → Bool) (start : S) → Reads IsText step whole start → (limit : ℕ) (bytes : List ℕ) (e : LogError)
    → refused_by step whole start limit bytes ≡ Some e → IsFirstRefusal IsText limit bytes e
refused-first IsText step whole start r limit bytes e h = go (nat_le (length bytes) limit) refl e h where
  go : (t : Bool) → nat_le (length bytes) limit ≡ t → (e : LogError) → refused_by step whole start limit bytes ≡ Some e → IsFirstRefusal IsText limit bytes e
  go true i (BadLine n) f =
      let l = leb-true (length bytes) limit i in
      inl (l, within-down IsText step whole start r (tokens_of bytes) (line_after bytes) n (sym (refused-within step whole start limit bytes l) ∙ f))
  go true i (Limit n) f = absurd (no-limit whole (line_after bytes) n (run step start (tokens_of bytes)) (sym (refused-within step whole start limit bytes (leb-true (length bytes) limit i)) ∙ f))
  go true i NoMemory f = no-memory whole (line_after bytes) (run step start (tokens_of bytes)) (sym (refused-within step whole start limit bytes (leb-true (length bytes) limit i)) ∙ f)
  go false i (BadLine n) f =
      let l = leb-false (length bytes) limit i in
      inr (l, past-bad IsText step whole start r (tokens_ended (take limit bytes)) (line_after (take limit bytes)) n (sym (refused-past step whole start limit bytes l) ∙ f))
  go false i (Limit n) f =
      let l = leb-false (length bytes) limit i in
      let p = past-limit IsText step whole start r (tokens_ended (take limit bytes)) (line_after (take limit bytes)) n (sym (refused-past step whole start limit bytes l) ∙ f) in
      (l, p.0, p.1)
  go false i NoMemory f = past-memory (line_after (take limit bytes)) (run step start (tokens_ended (take limit bytes))) (sym (refused-past step whole start limit bytes (leb-false (length bytes) limit i)) ∙ f)

first-refused : {S : Type 0} (IsText : List Token → Type 0) (step : S → Token → Option S) (whole : S → Bool) (start : S) → Reads IsText step whole start → (limit : ℕ) (bytes : List ℕ) (e : LogError)
    → IsFirstRefusal IsText limit bytes e → refused_by step whole start limit bytes ≡ Some e
first-refused IsText step whole start r limit bytes (BadLine n) (inl (l, h)) = refused-within step whole start limit bytes l ∙ within-up IsText step whole start r (tokens_of bytes) (line_after bytes) n h
first-refused IsText step whole start r limit bytes (BadLine n) (inr (l, h)) =
    refused-past step whole start limit bytes l ∙ ap (refusal (past_end (line_after (take limit bytes)))) (bad-stopped IsText step whole start r (tokens_ended (take limit bytes)) n h)
first-refused IsText step whole start r limit bytes (Limit n) (l, h, i) = refused-past step whole start limit bytes l ∙ past-up IsText step whole start r (tokens_ended (take limit bytes)) (line_after (take limit bytes)) n h i
first-refused IsText step whole start r limit bytes NoMemory h = absurd h

whole-none : {S : Type 0} (IsText : List Token → Type 0) (step : S → Token → Option S) (whole : S → Bool) (start : S) → Reads IsText step whole start → (limit : ℕ) (bytes : List ℕ)
    → IsWholeLog IsText limit bytes → refused_by step whole start limit bytes ≡ None
whole-none IsText step whole start r limit bytes (l, h) =
    let e = r.takes (tokens_of bytes) h in
    refused-within step whole start limit bytes l ∙ (ap (refusal (within_end whole (line_after bytes))) e.1 ∙ ap (λ t. if t then None else Some (BadLine (line_after bytes))) e.2)

none-whole : {S : Type 0} (IsText : List Token → Type 0) (step : S → Token → Option S) (whole : S → Bool) (start : S) → Reads IsText step whole start → (limit : ℕ) (bytes : List ℕ)
    → refused_by step whole start limit bytes ≡ None → IsWholeLog IsText limit bytes
none-whole {S} IsText step whole start r limit bytes h = go (nat_le (length bytes) limit) refl where
  go : (t : Bool) → nat_le (length bytes) limit ≡ t → IsWholeLog IsText limit bytes
  go false i = absurd (past-none (line_after (take limit bytes)) (run step start (tokens_ended (take limit bytes))) (sym (refused-past step whole start limit bytes (leb-false (length bytes) limit i)) ∙ h))
  go true i = let l = leb-true (length bytes) limit i in (l, by (run step start (tokens_of bytes)) refl (sym (refused-within step whole start limit bytes l) ∙ h)) where
    by : (x : Run S) → run step start (tokens_of bytes) ≡ x → refusal (within_end whole (line_after bytes)) x ≡ None → IsText (tokens_of bytes)
    by (stopped n) j f = cc
    by (reached s) j f = last (whole s) refl f where
      last : (x : Bool) → whole s ≡ x → (if x then None else Some (BadLine (line_after bytes))) ≡ None → IsText (tokens_of bytes)
      last true k g = r.takes_only (tokens_of bytes) (s, j, k)
      last false k g = cc

-- the two readers

plain-by : (limit : ℕ) (bytes : List ℕ) → (plain_logs.read limit bytes).refused ≡ refused_by plain_step is_idle None limit bytes
plain-by limit bytes = go (nat_le (length bytes) limit) where
  end : (n : ℕ) (b : Option OpenStep) → plain_logs.at_end n b ≡ within_end is_idle n b
  end n None = refl
  end n (Some o) = refl

  at-end : (n : ℕ) (x : Run (Option OpenStep)) → refusal (plain_logs.at_end n) x ≡ refusal (within_end is_idle n) x
  at-end n (reached b) = end n b
  at-end n (stopped m) = refl

  past-end : (n : ℕ) (x : Run (Option OpenStep)) → refusal (plain_logs.past_limit n) x ≡ refusal (past_end n) x
  past-end n (reached b) = refl
  past-end n (stopped m) = refl

  go : (t : Bool) → (if t then plain_logs.parsed (plain_logs.at_end (line_after bytes)) None (tokens_of bytes) else plain_logs.parsed (plain_logs.past_limit (line_after (take limit bytes))) None (tokens_ended (take limit bytes))).refused
      ≡ (if t then refusal (within_end is_idle (line_after bytes)) (run plain_step None (tokens_of bytes)) else refusal (past_end (line_after (take limit bytes))) (run plain_step None (tokens_ended (take limit bytes))))
  go true = plain-refusal (plain_logs.at_end (line_after bytes)) None (tokens_of bytes) ∙ at-end (line_after bytes) (run plain_step None (tokens_of bytes))
  go false = plain-refusal (plain_logs.past_limit (line_after (take limit bytes))) None (tokens_ended (take limit bytes)) ∙ past-end (line_after (take limit bytes)) (run plain_step None (tokens_ended (take limit bytes)))

both-by : (limit : ℕ) (bytes : List ℕ) → (hinted_logs.read_entries limit bytes).refused ≡ refused_by both_step is_whole_at nowhere limit bytes
both-by limit bytes = go (nat_le (length bytes) limit) where
  at-end : (n : ℕ) (x : Run Place) → refusal (hinted_logs.at_end n) x ≡ refusal (within_end is_whole_at n) x
  at-end n (reached p) = at-place n p
  at-end n (stopped m) = refl

  past-end : (n : ℕ) (x : Run Place) → refusal (hinted_logs.past_limit n) x ≡ refusal (past_end n) x
  past-end n (reached b) = refl
  past-end n (stopped m) = refl

  go : (t : Bool) → (if t then hinted_logs.parsed (hinted_logs.at_end (line_after bytes)) nowhere (tokens_of bytes) else hinted_logs.parsed (hinted_logs.past_limit (line_after (take limit bytes))) nowhere (tokens_ended (take limit bytes))).refused
      ≡ (if t then refusal (within_end is_whole_at (line_after bytes)) (run both_step nowhere (tokens_of bytes)) else refusal (past_end (line_after (take limit bytes))) (run both_step nowhere (tokens_ended (take limit bytes))))
  go true = both-refusal (hinted_logs.at_end (line_after bytes)) nowhere (tokens_of bytes) ∙ at-end (line_after bytes) (run both_step nowhere (tokens_of bytes))
  go false = both-refusal (hinted_logs.past_limit (line_after (take limit bytes))) nowhere (tokens_ended (take limit bytes)) ∙ past-end (line_after (take limit bytes)) (run both_step nowhere (tokens_ended (take limit bytes)))

pub plain-first : (limit : ℕ) (bytes : List ℕ) (e : LogError) → ((plain_logs.read limit bytes).refused ≡ Some e) ↔ IsFirstRefusal IsPlainLog limit bytes e
plain-first limit bytes e = (
  λ h. refused-first IsPlainLog plain_step is_idle None plain-reads limit bytes e (sym (plain-by limit bytes) ∙ h),
  λ h. plain-by limit bytes ∙ first-refused IsPlainLog plain_step is_idle None plain-reads limit bytes e h,
)

pub plain-whole : (limit : ℕ) (bytes : List ℕ) → ((plain_logs.read limit bytes).refused ≡ None) ↔ IsWholeLog IsPlainLog limit bytes
plain-whole limit bytes = (
  λ h. none-whole IsPlainLog plain_step is_idle None plain-reads limit bytes (sym (plain-by limit bytes) ∙ h),
  λ h. plain-by limit bytes ∙ whole-none IsPlainLog plain_step is_idle None plain-reads limit bytes h,
)

pub both-first : (limit : ℕ) (bytes : List ℕ) (e : LogError) → ((hinted_logs.read_entries limit bytes).refused ≡ Some e) ↔ IsFirstRefusal IsLog limit bytes e
both-first limit bytes e = (
  λ h. refused-first IsLog both_step is_whole_at nowhere both-reads limit bytes e (sym (both-by limit bytes) ∙ h),
  λ h. both-by limit bytes ∙ first-refused IsLog both_step is_whole_at nowhere both-reads limit bytes e h,
)

pub both-whole : (limit : ℕ) (bytes : List ℕ) → ((hinted_logs.read_entries limit bytes).refused ≡ None) ↔ IsWholeLog IsLog limit bytes
both-whole limit bytes = (
  λ h. none-whole IsLog both_step is_whole_at nowhere both-reads limit bytes (sym (both-by limit bytes) ∙ h),
  λ h. both-by limit bytes ∙ whole-none IsLog both_step is_whole_at nowhere both-reads limit bytes h,
)
