-- Binary proofs of SAT solvers: `a` or `d`, the numbers of the literals in groups of seven bits, and 0. (The binary DRAT format of
-- drat-trim.) They have no lines, so a step is told by its number, from 1 on.
use Rattle.std.specs.Prelude.{ℕ, zero, suc, ◌+◌, ◌-◌, ◌*◌, ◌/◌, ◌%◌, ◌<◌, ◌≤◌, ◌==◌, ◌&&◌, nat_le, nat_lt, Bool, true, false, cond, if◌then◌else◌, List, [], ◌∷◌, ◌++◌, length, take, Option, Some, None}
use Rattle.q_logic.specs.Prelude.{Literal, negation, pack, unpack, ProofStep, add, delete, clause_of, first_of, IsIn}
use Rattle.q_log.specs.declared.error.LogError.{LogError}
use Rattle.q_log.specs.declared.error.LogError.TheVariants.{BadLine, Limit}
use Rattle.q_log.specs.Logs.{Parsed, stopped, onto}

-- the number of a literal, twice its variable and one more for a negative one, and back
abbrev pub code : Literal → ℕ
code k = pack (negation k)

abbrev pub literal_of : ℕ → Literal
literal_of n = negation (unpack n)

-- variables are at most 2147483647, and 1 is no literal
abbrev pub is_literal : ℕ → Bool
is_literal n = nat_le 2 n && nat_le n 4294967295

-- groups of seven bits, the lowest first
abbrev pub value : List ℕ → ℕ
value [] = 0
value (d ∷ ds) = d + 128 * value ds

-- an addition or a deletion, with its literals as they stand
pub record Entry : Type 0 where
  pub deletes : Bool
  pub lits : List Literal

-- the step that it is
abbrev pub step_of_entry : Entry → ProofStep
step_of_entry e =
    cond e.deletes (delete (first_of e.lits) (clause_of e.lits)) (add (first_of e.lits) (clause_of e.lits))

-- between two steps, or within one behind some literals, and some groups of the next number
pub data Place : Type 0 where
  between : Place
  within : Bool → List Literal → List ℕ → Place

-- where a byte leads: the step goes on, it ends one, or it does not fit
pub data Move : Type 0 where
  goes_on : Place → Move
  ends_step : Entry → Move
  unfit : Move

-- a number: 0 ends the step
abbrev pub with_number : Bool → List Literal → ℕ → Move
with_number d ls n =
    if n == 0 then ends_step (record { deletes = d; lits = ls })
    else (if is_literal n then goes_on (within d (ls ++ literal_of n ∷ []) []) else unfit)

-- a letter begins a step; a byte from 128 on is a group that is not the last one, and a number has at most five groups
abbrev pub move : Place → ℕ → Move
move between b =
    if b == 97 then goes_on (within false [] []) else (if b == 100 then goes_on (within true [] []) else unfit)
move (within d ls ds) b =
    if nat_le 128 b then (if nat_lt (length ds) 4 then goes_on (within d ls (ds ++ (b - 128) ∷ [])) else unfit)
    else with_number d ls (value (ds ++ b ∷ []))

abbrev pub follow : Move → ℕ → (ℕ → Place → Parsed) → Parsed
follow (goes_on p) n later = later n p
follow (ends_step e) n later = onto (n, step_of_entry e) (later (n + 1) between)
follow unfit n later = stopped (BadLine n)

-- what bytes say from a place on, where the step there has the number n; `last` tells what the end is there
abbrev pub parsed : (ℕ → Place → Option LogError) → ℕ → Place → List ℕ → Parsed
parsed last n p [] = record { steps = []; refused = last n p }
parsed last n p (b ∷ bs) = follow (move p b) n (λ k q. parsed last k q bs)

-- the end stands between steps
abbrev pub at_end : ℕ → Place → Option LogError
at_end n between = None
at_end n (within d ls ds) = Some (BadLine n)

-- a byte is past the limit
abbrev pub past_limit : ℕ → Place → Option LogError
past_limit n p = Some (Limit n)

-- what the bytes say under a limit on their number
abbrev pub read : ℕ → List ℕ → Parsed
read limit bytes =
    if nat_le (length bytes) limit then parsed at_end 1 between bytes else parsed past_limit 1 between (take limit bytes)

-- the shortest bytes of a number below 128 ^ (groups + 1)
abbrev pub number_bytes : ℕ → ℕ → List ℕ
number_bytes zero n = n ∷ []
number_bytes (suc groups) n = if nat_le 128 n then (n % 128 + 128) ∷ number_bytes groups (n / 128) else n ∷ []

abbrev pub literals_bytes : List Literal → List ℕ
literals_bytes [] = 0 ∷ []
literals_bytes (k ∷ ls) = number_bytes 4 (code k) ++ literals_bytes ls

abbrev pub entry_bytes : Entry → List ℕ
entry_bytes e = cond e.deletes 100 97 ∷ literals_bytes e.lits

abbrev pub proof_bytes : List Entry → List ℕ
proof_bytes [] = []
proof_bytes (e ∷ es) = entry_bytes e ++ proof_bytes es

-- the steps with their numbers
abbrev pub numbered : ℕ → List Entry → List (ℕ × ProofStep)
numbered n [] = []
numbered n (e ∷ es) = (n, step_of_entry e) ∷ numbered (n + 1) es

-- the magnitudes that a proof may have
abbrev pub AreLiterals : List Literal → Type 0
AreLiterals ls = (k : Literal) → IsIn k ls → (1 ≤ k.var) × (k.var < 2147483648)
