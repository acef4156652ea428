-- What is written of a binary proof is read.
use Rattle.std.proofs.Common.{◌≡◌, ℕ, zero, suc, ◌+◌, ◌-◌, ◌/◌, ◌%◌, ◌<◌, ◌≤◌, ◌==◌, nat_le, nat_lt, Bool, true, false, cond, not, if◌then◌else◌, List, [], ◌∷◌, ◌++◌, length, inl, inr, arith, refl, sym, ap, ◌∙◌, Option, None, append-nil, append_assoc, length-append}
use Rattle.std.proofs.lemmas.Bool.Decides.{nat_tests}
use Rattle.q_logic.specs.Prelude.{Literal, negation, pack, IsIn}
use Rattle.q_logic.proofs.Codes.{unpack_pack}
use Rattle.q_logic.proofs.ImpliedClauses.{negation-negation}
use Rattle.q_log.specs.declared.error.LogError.{LogError}
use Rattle.q_log.specs.Logs.{Parsed, onto}
use Rattle.q_binary.specs.BinaryProofs.{code, literal_of, is_literal, value, Entry, step_of_entry, Place, between, within, with_number, follow, parsed, at_end, read, number_bytes, literals_bytes, entry_bytes, proof_bytes, numbered, AreLiterals}

abbrev Fits : ℕ → ℕ → Type 0
Fits zero n = n < 128
Fits (suc f) n = Fits f (n / 128)

abbrev digits : ℕ → ℕ → List ℕ
digits zero n = n ∷ []
digits (suc f) n = if nat_le 128 n then n % 128 ∷ digits f (n / 128) else n ∷ []

value-digits : (f n : ℕ) → value (digits f n) ≡ n
value-digits zero n = omega arith
value-digits (suc f) n = go (nat_le 128 n) (value-digits f (n / 128))
  where
    go : (b : Bool) → value (digits f (n / 128)) ≡ n / 128 → value (if b then n % 128 ∷ digits f (n / 128) else n ∷ []) ≡ n
    go true e = omega arith
    go false e = omega arith

module _ (last : ℕ → Place → Option LogError) (k : ℕ) where
  -- behind the last group of a number
  abbrev then_by : Bool → List Literal → ℕ → List ℕ → Parsed
  then_by d ls n bs = follow (with_number d ls n) k (λ j q. parsed last j q bs)

  last-group : (n : ℕ) (d : Bool) (ls : List Literal) (ds bs : List ℕ) → nat_le 128 n ≡ false →
      parsed last k (within d ls ds) (n ∷ bs) ≡ then_by d ls (value (ds ++ n ∷ [])) bs
  last-group n d ls ds bs e = rw e refl

  read-number : (f n : ℕ) (d : Bool) (ls : List Literal) (ds bs : List ℕ) → Fits f n → length ds + f ≤ 4 →
      parsed last k (within d ls ds) (number_bytes f n ++ bs) ≡ then_by d ls (value (ds ++ digits f n)) bs
  read-number zero n d ls ds bs h r = last-group n d ls ds bs (grind (arith, nat_tests))
  read-number (suc f) n d ls ds bs h r =
      go (nat_le 128 n) refl (λ us q. read-number f (n / 128) d ls us bs h q)
    where
      go : (b : Bool) → nat_le 128 n ≡ b →
          ((us : List ℕ) → length us + f ≤ 4 → parsed last k (within d ls us) (number_bytes f (n / 128) ++ bs) ≡ then_by d ls (value (us ++ digits f (n / 128))) bs) →
          parsed last k (within d ls ds) ((if b then (n % 128 + 128) ∷ number_bytes f (n / 128) else n ∷ []) ++ bs) ≡
          then_by d ls (value (ds ++ (if b then n % 128 ∷ digits f (n / 128) else n ∷ []))) bs
      go true e ih =
          let g : nat_le 128 (n % 128 + 128) ≡ true = grind (arith, nat_tests) in
          let u : nat_lt (length ds) 4 ≡ true = grind (arith, nat_tests) in
          let s : (n % 128 + 128) - 128 ≡ n % 128 = omega arith in
          let l : length (ds ++ n % 128 ∷ []) + f ≤ 4 = omega (arith, length-append ds (n % 128 ∷ []), r) in
          rw (g, u, s) (ih (ds ++ n % 128 ∷ []) l ∙
          ap (λ (us : List ℕ). then_by d ls (value us) bs) (append_assoc ds (n % 128 ∷ []) (digits f (n / 128))))
      go false e ih = last-group n d ls ds bs e

  code-back : (l : Literal) → literal_of (code l) ≡ l
  code-back l = ap negation (unpack_pack (negation l)) ∙ negation-negation l

  code-bounds : (l : Literal) → 1 ≤ l.var → l.var < 2147483648 → (2 ≤ code l) × (code l < 4294967296)
  code-bounds l a b = go (not l.negative)
    where
      go : (n : Bool) → (2 ≤ pack (record { var = l.var; negative = n })) × (pack (record { var = l.var; negative = n }) < 4294967296)
      go true = (omega arith, omega arith)
      go false = (omega arith, omega arith)

  code-fits : (n : ℕ) → n < 4294967296 → Fits 4 n
  code-fits n h = omega arith

  read-literals : (d : Bool) (ls ks : List Literal) (bs : List ℕ) → AreLiterals ks →
      parsed last k (within d ls []) (literals_bytes ks ++ bs) ≡ onto (k, step_of_entry (record { deletes = d; lits = ls ++ ks })) (parsed last (k + 1) between bs)
  read-literals d ls [] bs h =
      ap (λ (us : List Literal). onto (k, step_of_entry (record { deletes = d; lits = us })) (parsed last (k + 1) between bs)) (sym (append-nil ls))
  read-literals d ls (l ∷ ks) bs h =
      ap (parsed last k (within d ls [])) (append_assoc (number_bytes 4 (code l)) (literals_bytes ks) bs) ∙
      read-number 4 (code l) d ls [] (literals_bytes ks ++ bs) (code-fits (code l) c.1) (omega arith) ∙
      ap (λ (n : ℕ). then_by d ls n (literals_bytes ks ++ bs)) (value-digits 4 (code l)) ∙
      chosen ∙
      ap (λ (j : Literal). parsed last k (within d (ls ++ j ∷ []) []) (literals_bytes ks ++ bs)) (code-back l) ∙
      read-literals d (ls ++ l ∷ []) ks bs (λ j m. h j (inr m)) ∙
      ap (λ (us : List Literal). onto (k, step_of_entry (record { deletes = d; lits = us })) (parsed last (k + 1) between bs)) (append_assoc ls (l ∷ []) ks)
    where
      c : (2 ≤ code l) × (code l < 4294967296)
      c = code-bounds l (h l (inl refl)).0 (h l (inl refl)).1

      some : (code l == 0) ≡ false
      some = let b : 2 ≤ code l = c.0 in grind (arith, nat_tests)

      right : is_literal (code l) ≡ true
      right = let a : 2 ≤ code l = c.0 in let b : code l < 4294967296 = c.1 in grind (arith, nat_tests)

      chosen : then_by d ls (code l) (literals_bytes ks ++ bs) ≡ parsed last k (within d (ls ++ literal_of (code l) ∷ []) []) (literals_bytes ks ++ bs)
      chosen = rw (some, right) refl

pub read-entry : (last : ℕ → Place → Option LogError) (n : ℕ) (e : Entry) (rest : List ℕ) → AreLiterals e.lits →
    parsed last n between (entry_bytes e ++ rest) ≡ onto (n, step_of_entry e) (parsed last (n + 1) between rest)
read-entry last n e rest h = go e.deletes
  where
    go : (d : Bool) → parsed last n between (cond d 100 97 ∷ (literals_bytes e.lits ++ rest)) ≡
        onto (n, step_of_entry (record { deletes = d; lits = e.lits })) (parsed last (n + 1) between rest)
    go true = read-literals last n true [] e.lits rest h
    go false = read-literals last n false [] e.lits rest h

read-entries : (n : ℕ) (es : List Entry) → ((e : Entry) → IsIn e es → AreLiterals e.lits) →
    parsed at_end n between (proof_bytes es) ≡ record { steps = numbered n es; refused = None }
read-entries n [] h = refl
read-entries n (e ∷ es) h =
    read-entry at_end n e (proof_bytes es) (h e (inl refl)) ∙ ap (onto (n, step_of_entry e)) (read-entries (n + 1) es (λ x m. h x (inr m)))

pub read-proof : (limit : ℕ) (es : List Entry) → ((e : Entry) → IsIn e es → AreLiterals e.lits) → length (proof_bytes es) ≤ limit →
    read limit (proof_bytes es) ≡ record { steps = numbered 1 es; refused = None }
read-proof limit es h l =
    let w : nat_le (length (proof_bytes es)) limit ≡ true = grind (arith, nat_tests) in
    rw w (read-entries 1 es h)
