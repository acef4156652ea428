-- Texts that grow, and what is left to write of a list behind a place of it.
use Rattle.std.proofs.Common.{◌≡◌, ℕ, zero, suc, ◌+◌, ◌-◌, ◌*◌, ◌<◌, List, [], ◌∷◌, ◌++◌, map, length, drop, get_or, Result, Ok, Err, OnErr, refl, ap, sym, ◌∙◌, add-one, append_assoc, append-nil, not-suc-le-zero, le_of_suc-le-suc, arith}
use Rattle.q_logic.specs.Prelude.{NamedOutput, Gate}
use Rattle.q_aig.specs.Prelude.{output_of}
use Rattle.q_aig.specs.declared.output.Output.{Output}
use Rattle.q_gates.specs.Gates.{no_gate}
use Rattle.q_aiger.specs.Cones.{no_output}
use Rattle.q_aiger.specs.Writing.{number_line, input_lines, output_lines, literal_of, gate_line, gate_text, gate_lines, symbol_line, symbol_lines, names_of}
use Rattle.q_text.specs.Texts.{Extends}

pub extends-append : (a b c d : List ℕ) → Extends a b → d ≡ b ++ c → Extends a d
extends-append a b c d h e = record { rest = h.rest ++ c; is = e ∙ (ap (λ x. x ++ c) h.is ∙ append_assoc a h.rest c) }

-- one more part is written of what was left
pub written-more : (now next start part left later : List ℕ) → next ≡ now ++ part → left ≡ part ++ later → now ++ left ≡ start → next ++ later ≡ start
written-more now next start part left later e f h =
    ap (λ x. x ++ later) e ∙ (append_assoc now part later ∙ (ap (λ x. now ++ x) (sym f) ∙ h))

pub written-all : (now start left : List ℕ) → left ≡ [] → now ++ left ≡ start → now ≡ start
written-all now start left e h = sym (append-nil now) ∙ (ap (λ x. now ++ x) (sym e) ∙ h)

pub inputs-next : (i n : ℕ) → i < n → input_lines i (n - i) ≡ number_line (2 * (i + 1)) ++ input_lines (i + 1) (n - (i + 1))
inputs-next i n lt =
    let e : n - i ≡ suc (n - (i + 1)) = omega arith in
    ap (input_lines i) e

pub outputs-next : (n : ℕ) (kept : List ℕ) (os : List NamedOutput) (i : ℕ) (d : NamedOutput) → i < length os → output_lines n kept (drop i os) ≡ number_line (literal_of n kept (get_or os i d).operand) ++ output_lines n kept (drop (i + 1) os)
outputs-next n kept os i d h = rw add-one (at os i h)
  where
    at : (os : List NamedOutput) (i : ℕ) → i < length os → output_lines n kept (drop i os) ≡ number_line (literal_of n kept (get_or os i d).operand) ++ output_lines n kept (drop (suc i) os)
    at [] i h = absurd (not-suc-le-zero h)
    at (o ∷ os) zero h = refl
    at (o ∷ os) (suc i) h = at os i (le_of_suc-le-suc h)

pub gates-next : (gates : List Gate) (n : ℕ) (kept : List ℕ) (j : ℕ) (gs : List ℕ) (i : ℕ) → i < length gs → gate_lines gates n kept j (drop i gs) ≡ gate_text n kept j (get_or gates (get_or gs i 0) no_gate) ++ gate_lines gates n kept (j + 1) (drop (i + 1) gs)
gates-next gates n kept j gs i h = rw (add-one i) (at gs i h)
  where
    at : (gs : List ℕ) (i : ℕ) → i < length gs → gate_lines gates n kept j (drop i gs) ≡ gate_text n kept j (get_or gates (get_or gs i 0) no_gate) ++ gate_lines gates n kept (j + 1) (drop (suc i) gs)
    at [] i h = absurd (not-suc-le-zero h)
    at (g ∷ gs) zero h = refl
    at (g ∷ gs) (suc i) h = at gs i (le_of_suc-le-suc h)

pub symbols-next : (letter j : ℕ) (vs : List ℕ) (i : ℕ) → i < length vs → symbol_lines letter j (drop i vs) ≡ symbol_line letter j (get_or vs i 0) ++ symbol_lines letter (j + 1) (drop (i + 1) vs)
symbols-next letter j vs i h = rw (add-one i) (at vs i h)
  where
    at : (vs : List ℕ) (i : ℕ) → i < length vs → symbol_lines letter j (drop i vs) ≡ symbol_line letter j (get_or vs i 0) ++ symbol_lines letter (j + 1) (drop (suc i) vs)
    at [] i h = absurd (not-suc-le-zero h)
    at (v ∷ vs) zero h = refl
    at (v ∷ vs) (suc i) h = at vs i (le_of_suc-le-suc h)

pub outputs-step : (now next start : List ℕ) (n : ℕ) (kept : List ℕ) (os : List NamedOutput) (k r : ℕ) (o : NamedOutput) → next ≡ now ++ number_line r → r ≡ literal_of n kept o.operand → o ≡ get_or os k no_output → k < length os → now ++ output_lines n kept (drop k os) ≡ start → next ++ output_lines n kept (drop (k + 1) os) ≡ start
outputs-step now next start n kept os k r o e f g lt h =
    let part : r ≡ literal_of n kept (get_or os k no_output).operand = f ∙ ap (λ (x : NamedOutput). literal_of n kept x.operand) g in
    written-more now next start (number_line r) _ _ e (outputs-next n kept os k no_output lt ∙ ap (λ x. number_line x ++ output_lines n kept (drop (k + 1) os)) (sym part)) h

pub gates-step : (now next start : List ℕ) (gates : List Gate) (n : ℕ) (kept : List ℕ) (k l a b : ℕ) (g : Gate) → next ≡ now ++ gate_line l a b → l ≡ 2 * (n + 1 + k) → a ≡ literal_of n kept g.left → b ≡ literal_of n kept g.right → get_or gates (get_or kept k 0) no_gate ≡ g → k < length kept → now ++ gate_lines gates n kept k (drop k kept) ≡ start → next ++ gate_lines gates n kept (k + 1) (drop (k + 1) kept) ≡ start
gates-step now next start gates n kept k l a b g e el ea eb eg lt h =
    let line : gate_line l a b ≡ gate_text n kept k g = ap (λ x. gate_line x a b) el ∙ (ap (λ x. gate_line (2 * (n + 1 + k)) x b) ea ∙ ap (gate_line (2 * (n + 1 + k)) (literal_of n kept g.left)) eb) in
    let part : gate_line l a b ≡ gate_text n kept k (get_or gates (get_or kept k 0) no_gate) = line ∙ ap (gate_text n kept k) (sym eg) in
    written-more now next start (gate_line l a b) _ _ e (gates-next gates n kept k kept k lt ∙ ap (λ x. x ++ gate_lines gates n kept (k + 1) (drop (k + 1) kept)) (sym part)) h

pub symbols-step : (now next start : List ℕ) (letter k name : ℕ) (vs : List ℕ) → next ≡ now ++ symbol_line letter k name → name ≡ get_or vs k 0 → k < length vs → now ++ symbol_lines letter k (drop k vs) ≡ start → next ++ symbol_lines letter (k + 1) (drop (k + 1) vs) ≡ start
symbols-step now next start letter k name vs e f lt h =
    written-more now next start (symbol_line letter k name) _ _ e (symbols-next letter k vs k lt ∙ ap (λ x. symbol_line letter k x ++ symbol_lines letter (k + 1) (drop (k + 1) vs)) (sym f)) h

pub length-names : (os : List Output) → length (names_of (map output_of os)) ≡ length os
length-names [] = refl
length-names (o ∷ os) = ap suc (length-names os)

pub name-at : (os : List Output) (k : ℕ) (d : Output) → k < length os → (get_or os k d).var ≡ get_or (names_of (map output_of os)) k 0
name-at [] k d lt = absurd (omega arith)
name-at (o ∷ os) zero d lt = refl
name-at (o ∷ os) (suc k) d lt = name-at os k d (omega arith)
