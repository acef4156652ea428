-- The lines of a proof's steps rise, and its offence stands behind them; in a binary proof these are the numbers of the steps.
use Rattle.std.proofs.Common.{◌≡◌, ◌≤◌, ◌+◌, ℕ, zero, suc, nat_le, Bool, true, false, List, [], ◌∷◌, length, take, if◌then◌else◌, inl, inr, Option, Some, None, sym, subst, arith}
use Rattle.q_log.specs.declared.error.LogError.{LogError}
use Rattle.q_log.specs.declared.error.LogError.TheVariants.{BadLine, Limit, NoMemory}
use Rattle.q_log.specs.Logs.{Parsed}
use Rattle.q_log.specs.Logs as logs
use Rattle.q_hinted.specs.Logs.{Entry as BothEntry, Entries, hinted_in, plain_entries, read_entries, tokens_within}
use Rattle.q_hinted.proofs.Profiles.{parts-read, plain-read}
use Rattle.q_binary.specs.BinaryProofs as binary
use Rattle.q_binary.specs.Forms.{is_binary, read_proof}
use Rattle.q_command.specs.Judging.{bare}
use Rattle.q_command.specs.Logs.{Entry, HintedEntry, IsOffence, stripped}
use Rattle.q_command.proofs.LogEntries.{bare-hinted, bare-plain}
use Rattle.q_parts.proofs.RisingEntries.{RiseHinted, hinted-log-rises}
use Rattle.q_parts.proofs.RisingLines as lines
use Rattle.q_run_disprove.specs.Disproofs.{IsOnLine, bare_of}
use Rattle.q_run_disprove.proofs.JudgedSteps.{either-profile}

abbrev pub Rises : ℕ → List Entry → Option LogError → Type 0
Rises n es r = lines.Rises n es r

rises-earlier : (n l : ℕ) (es : List Entry) (r : Option LogError) → n ≤ l → Rises l es r → Rises n es r
rises-earlier n l [] r h f = lines.from-earlier n l r h f
rises-earlier n l (e ∷ es) r h f = (lines.at-most n l e.0 h f.0, f.1)

-- a step has its number, and the next one is greater
follow-rises : (n : ℕ) (x : binary.Move) (later : ℕ → binary.Place → Parsed) → ((k : ℕ) (p : binary.Place) → Rises k (later k p).steps (later k p).refused) →
    Rises n (binary.follow x n later).steps (binary.follow x n later).refused
follow-rises n (binary.goes_on p) later h = h n p
follow-rises n (binary.ends_step e) later h =
    (lines.itself n, rises-earlier n (n + 1) (later (n + 1) binary.between).steps (later (n + 1) binary.between).refused (omega arith) (h (n + 1) binary.between))
follow-rises n binary.unfit later h = lines.itself n

parsed-rises : (last : ℕ → binary.Place → Option LogError) → ((k : ℕ) (p : binary.Place) → lines.IsFrom k (last k p)) → (n : ℕ) (p : binary.Place) (bs : List ℕ) →
    Rises n (binary.parsed last n p bs).steps (binary.parsed last n p bs).refused
parsed-rises last f n p [] = f n p
parsed-rises last f n p (b ∷ bs) = follow-rises n (binary.move p b) (λ k q. binary.parsed last k q bs) (λ k q. parsed-rises last f k q bs)

ends : (n : ℕ) (p : binary.Place) → lines.IsFrom n (binary.at_end n p)
ends n binary.between = tt
ends n (binary.within d ls ds) = lines.itself n

binary-rises : (limit : ℕ) (bytes : List ℕ) → Rises 1 (binary.read limit bytes).steps (binary.read limit bytes).refused
binary-rises limit bytes = go (nat_le (length bytes) limit)
  where
    go : (x : Bool) →
        Rises 1
        (if x then binary.parsed binary.at_end 1 binary.between bytes else binary.parsed binary.past_limit 1 binary.between (take limit bytes)).steps
        (if x then binary.parsed binary.at_end 1 binary.between bytes else binary.parsed binary.past_limit 1 binary.between (take limit bytes)).refused
    go true = parsed-rises binary.at_end ends 1 binary.between bytes
    go false = parsed-rises binary.past_limit (λ k p. lines.itself k) 1 binary.between (take limit bytes)

-- so do those of a log of either profile
stripped-rises : (n : ℕ) (hs : List HintedEntry) (r : Option LogError) → RiseHinted n hs r → Rises n (stripped hs) r
stripped-rises n [] r f = f
stripped-rises n (h ∷ hs) r f = (f.0, stripped-rises h.0 hs r f.1)

text-rises : (limit : ℕ) (bytes : List ℕ) → Rises 1 (bare (read_entries limit bytes).entries) (read_entries limit bytes).refused
text-rises limit bytes = elim (either-profile (tokens_within limit bytes)) [
  | inl p ↦
      subst (λ (o : Entries). Rises 1 (bare o.entries) o.refused) (sym (plain-read limit bytes p))
      (subst (λ (es : List Entry). Rises 1 es (logs.read limit bytes).refused) (sym (bare-plain (logs.read limit bytes).steps)) (lines.log-rises limit bytes))
  | inr p ↦
      subst (λ (es : List BothEntry). Rises 1 (bare es) (read_entries limit bytes).refused) (sym (parts-read limit bytes p))
      (subst (λ (es : List Entry). Rises 1 es (read_entries limit bytes).refused) (sym (bare-hinted (hinted_in (read_entries limit bytes).entries)))
      (stripped-rises 1 (hinted_in (read_entries limit bytes).entries) (read_entries limit bytes).refused (hinted-log-rises limit bytes)))
]

pub proof-rises : (forced : Bool) (limit : ℕ) (bytes : List ℕ) → Rises 1 (bare_of (read_proof forced limit bytes)).steps (bare_of (read_proof forced limit bytes)).refused
proof-rises forced limit bytes = go (is_binary forced bytes)
  where
    go : (x : Bool) →
        Rises 1
        (bare_of (if x then plain_entries (binary.read limit bytes) else read_entries limit bytes)).steps
        (bare_of (if x then plain_entries (binary.read limit bytes) else read_entries limit bytes)).refused
    go true =
        subst (λ (es : List Entry). Rises 1 es (binary.read limit bytes).refused) (sym (bare-plain (binary.read limit bytes).steps)) (binary-rises limit bytes)
    go false = text-rises limit bytes

-- an offence stands no earlier
offence-from : (a : ℕ) (r : Option LogError) (n c : ℕ) → lines.IsFrom a r → IsOffence r n c → a ≤ n
offence-from a None n c f o = absurd o
offence-from a (Some (BadLine k)) n c f o = subst (λ (x : ℕ). a ≤ x) (sym o.0) f
offence-from a (Some (Limit k)) n c f o = subst (λ (x : ℕ). a ≤ x) (sym o.0) f
offence-from a (Some NoMemory) n c f o = absurd o

all-from : (a : ℕ) (es : List Entry) (r : Option LogError) (n c : ℕ) → Rises a es r → IsOffence r n c → a ≤ n
all-from a [] r n c f o = offence-from a r n c f o
all-from a (e ∷ es) r n c f o = lines.at-most a e.0 n f.0 (all-from e.0 es r n c f.1 o)

-- behind each step
pub line-from : (a : ℕ) (es : List Entry) (r : Option LogError) → Rises a es r → (at n m c : ℕ) → IsOnLine es at n → IsOffence r m c → n ≤ m
line-from a [] r f at n m c h o = absurd h
line-from a (e ∷ es) r f zero n m c h o = subst (λ (x : ℕ). x ≤ m) (sym h) (all-from e.0 es r m c f.1 o)
line-from a (e ∷ es) r f (suc at) n m c h o = line-from e.0 es r f.1 at n m c h o

step-from : (a : ℕ) (es : List Entry) (r : Option LogError) → Rises a es r → (at n : ℕ) → IsOnLine es at n → a ≤ n
step-from a [] r f at n h = absurd h
step-from a (e ∷ es) r f zero n h = subst (λ (x : ℕ). a ≤ x) (sym h) f.0
step-from a (e ∷ es) r f (suc at) n h = lines.at-most a e.0 n f.0 (step-from e.0 es r f.1 at n h)

-- a later step stands no earlier
pub lines-rise : (a : ℕ) (es : List Entry) (r : Option LogError) → Rises a es r → (at other n m : ℕ) → at ≤ other → IsOnLine es at n → IsOnLine es other m → n ≤ m
lines-rise a [] r f at other n m w h k = absurd h
lines-rise a (e ∷ es) r f zero zero n m w h k = let x : n ≡ e.0 = h in let y : m ≡ e.0 = k in omega (arith, x, y)
lines-rise a (e ∷ es) r f zero (suc other) n m w h k = subst (λ (x : ℕ). x ≤ m) (sym h) (step-from e.0 es r f.1 other m k)
lines-rise a (e ∷ es) r f (suc at) zero n m w h k = absurd (omega (arith, w))
lines-rise a (e ∷ es) r f (suc at) (suc other) n m w h k = lines-rise e.0 es r f.1 at other n m (omega (arith, w)) h k
