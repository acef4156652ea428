-- The canonical text of a certificate is a file, and what it means.
use Rattle.std.proofs.Common.{◌≡◌, ◌≢◌, ℕ, zero, suc, ◌+◌, ◌-◌, ◌*◌, ◌/◌, ◌%◌, ◌<◌, ◌≤◌, ◌^◌, ◌==◌, cond, max, min, Bool, true, false, eqb, nat_le, List, [], ◌∷◌, ◌++◌, length, map, get_or, refl, ap, sym, ◌∙◌, arith, subst, inl, inr, append-nil, append_assoc, length-append}
use Rattle.std.specs.List.{AllByRecursion, AllZip}
use Rattle.std.proofs.lemmas.List.{length-map, get_or_append_left, get_or-append_right}
use Rattle.std.proofs.lemmas.Bool.{cases_lt, leb-true, leb-false}
use Rattle.q_logic.specs.Prelude.{ArePairs, GateNode, falsum, input_at, gate_at, Operand, Gate, NamedOutput, CertificateView, IsThere, AreGates}
use Rattle.q_gates.specs.Gates.{no_gate}
use Rattle.q_aiger.specs.Lines.{lines_of}
use Rattle.q_aiger.specs.Cones.{no_output, IsPart, output, left, right, AreCones, place_in}
use Rattle.q_aiger.specs.Circuits.{moved_node, moved, moved_gate, moved_output}
use Rattle.q_aiger.specs.Writing.{number_of, literal_of, number_line, header_line, input_lines, output_lines, gate_lines, symbol_lines, names_of, circuit_text}
use Rattle.q_aiger.specs.Grammar.{Definition, no_definition, Text, AreNumbers, Says, IsVar, IsLiteral, IsDefinition, variables, AreOnce, Stands, constant, input, gate, IsOperand, IsGate, output_labels, IsLabelled, AreNames, IsFile}
use Rattle.q_aiger.specs.RoundTrip.{AreNamed, IsSpellable}
use Rattle.q_aiger.proofs.LineParts.{all-weaker}
use Rattle.q_aiger.proofs.CanonicalLines.{vars_from, input_rows, lits_of, output_rows, definition_of, definitions_of, IsSmallGate, gate_rows, symbol_rows, numbered, inputs_labelled, outputs_labelled, header_row, header_words, header-said, header-numbers, header-line, inputs-lines, inputs-said, outputs-lines, outputs-said, gates-lines, gates-said, symbols-lines, input-symbols-said, output-symbols-said, zip-append, labels-inputs, labels-outputs}
use Rattle.q_aiger.proofs.ItemRows.{vars_of}

-- the gate of the text: the operand of the greater literal comes first
abbrev pub turned_gate : ℕ → List ℕ → Gate → Gate
turned_gate n kept g = cond (nat_le (literal_of n kept g.right) (literal_of n kept g.left)) (moved_gate kept g) (record { left = moved kept g.right; right = moved kept g.left })

abbrev pub turned_gates : ℕ → List ℕ → List Gate → List ℕ → List Gate
turned_gates n kept gates gs = map (λ g. turned_gate n kept (get_or gates g no_gate)) gs

-- what the text means
abbrev pub written_of : CertificateView → List ℕ → CertificateView
written_of c kept = record { inputs = c.inputs; gates = turned_gates (length c.inputs) kept c.gates kept; outputs = map (moved_output kept) c.outputs }

abbrev pub text_of : CertificateView → List ℕ → Text
text_of c kept = record {
  max = length c.inputs + length kept;
  inputs = vars_from 1 (length c.inputs);
  outputs = lits_of (length c.inputs) kept c.outputs;
  gates = definitions_of c.gates (length c.inputs) kept 0 kept;
  labels = inputs_labelled 0 c.inputs ++ outputs_labelled 0 (names_of c.outputs);
}

-- Places.
pub place-is : (xs : List ℕ) (i x : ℕ) → i < length xs → get_or xs i 0 ≡ x → (place_in xs x < length xs) × (get_or xs (place_in xs x) 0 ≡ x)
place-is [] i x lt e = absurd (omega arith)
place-is (y ∷ ys) i x lt e = go (eqb y x) refl i lt e (λ j. place-is ys j x)
  where
    same : (a b : ℕ) → eqb a b ≡ true → a ≡ b
    same a b e = grind arith

    other : (a b : ℕ) → eqb a b ≡ false → a ≢ b
    other a b e = grind arith

    go : (b : Bool) → eqb y x ≡ b → (i : ℕ) → i < length (y ∷ ys) → get_or (y ∷ ys) i 0 ≡ x → ((j : ℕ) → j < length ys → get_or ys j 0 ≡ x → (place_in ys x < length ys) × (get_or ys (place_in ys x) 0 ≡ x)) → (cond b 0 (place_in ys x + 1) < length (y ∷ ys)) × (get_or (y ∷ ys) (cond b 0 (place_in ys x + 1)) 0 ≡ x)
    go true q i lt e ih = (omega arith, same y x q)
    go false q zero lt e ih = absurd (other y x q e)
    go false q (suc i) lt e ih =
        let r = ih i (omega arith) e in
        let low : place_in ys x < length ys = r.0 in
        (omega arith, next (place_in ys x) r.1)
      where
        next : (k : ℕ) → get_or ys k 0 ≡ x → get_or (y ∷ ys) (k + 1) 0 ≡ x
        next k h = let z : k + 1 ≡ suc k = omega arith in subst (λ (j : ℕ). get_or (y ∷ ys) j 0 ≡ x) (sym z) h

-- the node is among the inputs and the gates of the text
abbrev pub Known : ℕ → List ℕ → GateNode → Type 0
Known n kept falsum = Unit {0}
Known n kept (input_at i) = i < n
Known n kept (gate_at g) = (place_in kept g < length kept) × (get_or kept (place_in kept g) 0 ≡ g)

number-small : (n : ℕ) (kept : List ℕ) (x : GateNode) → Known n kept x → number_of n kept x ≤ n + length kept
number-small n kept falsum h = omega arith
number-small n kept (input_at i) h = omega arith
number-small n kept (gate_at g) h = let lt : place_in kept g < length kept = h.0 in omega arith

bit-small : (k m : ℕ) (b : Bool) → k ≤ m → 2 * k + cond b 1 0 ≤ 2 * m + 1
bit-small k m true h = omega arith
bit-small k m false h = omega arith

literal-small : (n : ℕ) (kept : List ℕ) (o : Operand) → Known n kept o.node → literal_of n kept o ≤ 2 * (n + length kept) + 1
literal-small n kept o h = bit-small (number_of n kept o.node) (n + length kept) o.negated (number-small n kept o.node h)

half-of : (k : ℕ) (b : Bool) → (2 * k + cond b 1 0) / 2 ≡ k
half-of k true = omega arith
half-of k false = omega arith

odd-of : (k : ℕ) (b : Bool) → b ≡ ((2 * k + cond b 1 0) % 2 == 1)
odd-of k true = let z : (2 * k + 1) % 2 ≡ 1 = omega arith in ap (λ (j : ℕ). j == 1) (sym z)
odd-of k false = let z : (2 * k + 0) % 2 ≡ 0 = omega arith in ap (λ (j : ℕ). j == 1) (sym z)

-- The variables.
pub length-vars : (i n : ℕ) → length (vars_from i n) ≡ n
length-vars i zero = refl
length-vars i (suc n) = ap suc (length-vars (i + 1) n)

pub vars-at : (i n k : ℕ) → k < n → get_or (vars_from i n) k 0 ≡ i + k
vars-at i zero k lt = absurd (omega arith)
vars-at i (suc n) zero lt = omega arith
vars-at i (suc n) (suc k) lt = let h = vars-at (i + 1) n k (omega arith) in omega arith

vars-within : (i n m : ℕ) → 1 ≤ i → i + n ≤ m + 1 → AllByRecursion (IsVar m) (vars_from i n)
vars-within i zero m l h = tt
vars-within i (suc n) m l h = ((l, omega arith), vars-within (i + 1) n m (omega arith) (omega arith))

definitions-length : (gates : List Gate) (n : ℕ) (kept : List ℕ) (j : ℕ) (gs : List ℕ) → length (definitions_of gates n kept j gs) ≡ length gs
definitions-length gates n kept j [] = refl
definitions-length gates n kept j (g ∷ gs) = ap suc (definitions-length gates n kept (j + 1) gs)

definitions-vars : (gates : List Gate) (n : ℕ) (kept : List ℕ) (j : ℕ) (gs : List ℕ) → vars_of (definitions_of gates n kept j gs) ≡ vars_from (n + 1 + j) (length gs)
definitions-vars gates n kept j [] = refl
definitions-vars gates n kept j (g ∷ gs) =
    let z : n + 1 + (j + 1) ≡ n + 1 + j + 1 = omega arith in
    ap (λ (x : List ℕ). (n + 1 + j) ∷ x) (definitions-vars gates n kept (j + 1) gs ∙ ap (λ k. vars_from k (length gs)) z)

var-of : (gs : List Definition) (g : ℕ) → (get_or gs g no_definition).var ≡ get_or (vars_of gs) g 0
var-of [] g = refl
var-of (d ∷ gs) zero = refl
var-of (d ∷ gs) (suc g) = var-of gs g

variables-are : (c : CertificateView) (kept : List ℕ) → variables (text_of c kept) ≡ vars_from 1 (length c.inputs) ++ vars_from (length c.inputs + 1) (length kept)
variables-are c kept =
    let z : length c.inputs + 1 + 0 ≡ length c.inputs + 1 = omega arith in
    ap (λ (x : List ℕ). vars_from 1 (length c.inputs) ++ x) (definitions-vars c.gates (length c.inputs) kept 0 kept ∙ ap (λ k. vars_from k (length kept)) z)

both-at : (n m k : ℕ) → k < n + m → get_or (vars_from 1 n ++ vars_from (n + 1) m) k 0 ≡ k + 1
both-at n m k lt =
    let l = length-vars 1 n in
    elim (cases_lt k n) [
      | inl a ↦ let b = vars-at 1 n k a in get_or_append_left (vars_from 1 n) (vars_from (n + 1) m) 0 k (omega arith) ∙ (b ∙ omega arith)
      | inr a ↦ let b = vars-at (n + 1) m (k - n) (omega arith) in get_or-append_right (vars_from 1 n) (vars_from (n + 1) m) n k 0 l a ∙ (b ∙ omega arith)
    ]

vars-once : (n m : ℕ) → AreOnce (vars_from 1 n ++ vars_from (n + 1) m)
vars-once n m i j li lj e =
    let a = length-append (vars_from 1 n) (vars_from (n + 1) m) in
    let b = length-vars 1 n in
    let d = length-vars (n + 1) m in
    let p = both-at n m i (omega arith) in
    let q = both-at n m j (omega arith) in
    omega arith

-- Operands and gates.
stands : (c : CertificateView) (kept : List ℕ) (x : GateNode) → Known (length c.inputs) kept x → Stands (text_of c kept) (number_of (length c.inputs) kept x) (moved_node kept x)
stands c kept falsum h = constant refl
stands c kept (input_at i) h =
    let l = length-vars 1 (length c.inputs) in
    let v = vars-at 1 (length c.inputs) i h in
    input i (omega arith) (omega arith)
stands c kept (gate_at g) h =
    let lt : place_in kept g < length kept = h.0 in
    let l = definitions-length c.gates (length c.inputs) kept 0 kept in
    let v = var-of (definitions_of c.gates (length c.inputs) kept 0 kept) (place_in kept g) in
    let e = ap (λ (x : List ℕ). get_or x (place_in kept g) 0) (definitions-vars c.gates (length c.inputs) kept 0 kept) in
    let w = vars-at (length c.inputs + 1 + 0) (length kept) (place_in kept g) lt in
    gate (place_in kept g) (omega arith) (v ∙ (e ∙ (w ∙ omega arith)))

operand-said : (c : CertificateView) (kept : List ℕ) (o : Operand) → Known (length c.inputs) kept o.node → IsOperand (text_of c kept) (literal_of (length c.inputs) kept o) (moved kept o)
operand-said c kept o h =
    let k = number_of (length c.inputs) kept o.node in
    (subst (λ (v : ℕ). Stands (text_of c kept) v (moved_node kept o.node)) (sym (half-of (number_of (length c.inputs) kept o.node) o.negated)) (stands c kept o.node h), odd-of (number_of (length c.inputs) kept o.node) o.negated)

outputs-said-by : (c : CertificateView) (kept : List ℕ) (os : List NamedOutput) → AllByRecursion (λ o. Known (length c.inputs) kept o.operand.node) os → AllZip (IsOperand (text_of c kept)) (lits_of (length c.inputs) kept os) (map (λ o. o.operand) (map (moved_output kept) os))
outputs-said-by c kept [] h = tt
outputs-said-by c kept (o ∷ os) h = (operand-said c kept o.operand h.0, outputs-said-by c kept os h.1)

abbrev KnownGate : ℕ → List ℕ → Gate → Type 0
KnownGate n kept g = Known n kept g.left.node × Known n kept g.right.node

gate-said : (c : CertificateView) (kept : List ℕ) (j : ℕ) (g : Gate) → KnownGate (length c.inputs) kept g → IsGate (text_of c kept) (definition_of (length c.inputs) kept j g) (turned_gate (length c.inputs) kept g)
gate-said c kept j g h = go (nat_le (literal_of (length c.inputs) kept g.right) (literal_of (length c.inputs) kept g.left)) refl
  where
    a : ℕ
    a = literal_of (length c.inputs) kept g.left

    go : (b : Bool) → nat_le (literal_of (length c.inputs) kept g.right) (literal_of (length c.inputs) kept g.left) ≡ b → IsGate (text_of c kept) (definition_of (length c.inputs) kept j g) (cond b (moved_gate kept g) (record { left = moved kept g.right; right = moved kept g.left }))
    go true e =
        let le = leb-true (literal_of (length c.inputs) kept g.right) (literal_of (length c.inputs) kept g.left) e in
        let x : max (literal_of (length c.inputs) kept g.left) (literal_of (length c.inputs) kept g.right) ≡ literal_of (length c.inputs) kept g.left = omega arith in
        let y : min (literal_of (length c.inputs) kept g.left) (literal_of (length c.inputs) kept g.right) ≡ literal_of (length c.inputs) kept g.right = omega arith in
        (subst (λ (l : ℕ). IsOperand (text_of c kept) l (moved kept g.left)) (sym x) (operand-said c kept g.left h.0), subst (λ (l : ℕ). IsOperand (text_of c kept) l (moved kept g.right)) (sym y) (operand-said c kept g.right h.1))
    go false e =
        let le = leb-false (literal_of (length c.inputs) kept g.right) (literal_of (length c.inputs) kept g.left) e in
        let x : max (literal_of (length c.inputs) kept g.left) (literal_of (length c.inputs) kept g.right) ≡ literal_of (length c.inputs) kept g.right = omega arith in
        let y : min (literal_of (length c.inputs) kept g.left) (literal_of (length c.inputs) kept g.right) ≡ literal_of (length c.inputs) kept g.left = omega arith in
        (subst (λ (l : ℕ). IsOperand (text_of c kept) l (moved kept g.right)) (sym x) (operand-said c kept g.right h.1), subst (λ (l : ℕ). IsOperand (text_of c kept) l (moved kept g.left)) (sym y) (operand-said c kept g.left h.0))

gates-said-by : (c : CertificateView) (kept : List ℕ) (j : ℕ) (gs : List ℕ) → AllByRecursion (λ g. KnownGate (length c.inputs) kept (get_or c.gates g no_gate)) gs → AllZip (IsGate (text_of c kept)) (definitions_of c.gates (length c.inputs) kept j gs) (turned_gates (length c.inputs) kept c.gates gs)
gates-said-by c kept j [] h = tt
gates-said-by c kept j (g ∷ gs) h = (gate-said c kept j (get_or c.gates g no_gate) h.0, gates-said-by c kept (j + 1) gs h.1)

definitions-within : (gates : List Gate) (n : ℕ) (kept : List ℕ) (j : ℕ) (gs : List ℕ) → j + length gs ≤ length kept → AllByRecursion (λ g. KnownGate n kept (get_or gates g no_gate)) gs → AllByRecursion (IsDefinition (n + length kept)) (definitions_of gates n kept j gs)
definitions-within gates n kept j [] l h = tt
definitions-within gates n kept j (g ∷ gs) l h =
    let a = literal-small n kept (get_or gates g no_gate).left h.0.0 in
    let b = literal-small n kept (get_or gates g no_gate).right h.0.1 in
    (((omega arith, omega arith), omega arith, omega arith), definitions-within gates n kept (j + 1) gs (omega arith) h.1)

lits-within : (n : ℕ) (kept : List ℕ) (os : List NamedOutput) → AllByRecursion (λ o. Known n kept o.operand.node) os → AllByRecursion (IsLiteral (n + length kept)) (lits_of n kept os)
lits-within n kept [] h = tt
lits-within n kept (o ∷ os) h = (literal-small n kept o.operand h.0, lits-within n kept os h.1)

-- What is known of parts.
all-by-index : {X : Type 0} (P : X → Type 0) (d : X) (xs : List X) → ((i : ℕ) → i < length xs → P (get_or xs i d)) → AllByRecursion P xs
all-by-index P d [] f = tt
all-by-index P d (x ∷ xs) f = (f 0 (omega arith), all-by-index P d xs (λ i lt. f (suc i) (omega arith)))

pub gates-there : (n b : ℕ) (gs : List Gate) (k : ℕ) → AreGates n b gs → k < length gs → IsThere n (b + k) (get_or gs k no_gate).left.node × IsThere n (b + k) (get_or gs k no_gate).right.node
gates-there n b [] k h lt = absurd (omega arith)
gates-there n b (g ∷ gs) zero h lt = let z : b + 0 ≡ b = omega arith in subst (λ (m : ℕ). IsThere n m g.left.node × IsThere n m g.right.node) (sym z) (h.0, h.1)
gates-there n b (g ∷ gs) (suc k) h lt = let z : b + suc k ≡ b + 1 + k = omega arith in subst (λ (m : ℕ). IsThere n m (get_or gs k no_gate).left.node × IsThere n m (get_or gs k no_gate).right.node) (sym z) (gates-there n (b + 1) gs k h.2 (omega arith))

pub known : (c : CertificateView) (kept : List ℕ) (m : ℕ) (x : GateNode) → AreCones c kept → IsPart c x → IsThere (length c.inputs) m x → Known (length c.inputs) kept x
known c kept m falsum a p h = tt
known c kept m (input_at i) a p h = h
known c kept m (gate_at g) a p h = let r = a.all g p in place-is kept r.0 g r.1 r.2

pub known-gates : (c : CertificateView) (kept : List ℕ) → AreGates (length c.inputs) 0 c.gates → AreCones c kept → AllByRecursion (λ g. KnownGate (length c.inputs) kept (get_or c.gates g no_gate)) kept
known-gates c kept o a = all-by-index (λ g. KnownGate (length c.inputs) kept (get_or c.gates g no_gate)) 0 kept (λ i lt.
    let p = a.parts i lt in
    let t = gates-there (length c.inputs) 0 c.gates (get_or kept i 0) o (a.there i lt) in
    (known c kept (0 + get_or kept i 0) (get_or c.gates (get_or kept i 0) no_gate).left.node a (left (get_or kept i 0) p) t.0, known c kept (0 + get_or kept i 0) (get_or c.gates (get_or kept i 0) no_gate).right.node a (right (get_or kept i 0) p) t.1))

pub known-outputs : (c : CertificateView) (kept : List ℕ) → ((i : ℕ) → i < length c.outputs → IsThere (length c.inputs) (length c.gates) (get_or c.outputs i no_output).operand.node) → AreCones c kept → AllByRecursion (λ o. Known (length c.inputs) kept o.operand.node) c.outputs
known-outputs c kept h a = all-by-index (λ o. Known (length c.inputs) kept o.operand.node) no_output c.outputs (λ i lt. known c kept (length c.gates) (get_or c.outputs i no_output).operand.node a (output i lt) (h i lt))

-- Names.
numbered-above : (i j : ℕ) (vs : List ℕ) → i < j → AllByRecursion (λ q. i ≢ q.0) (numbered j vs)
numbered-above i j [] h = tt
numbered-above i j (v ∷ vs) h = ((λ e. absurd (omega arith)), numbered-above i (j + 1) vs (omega arith))

numbered-once : (i : ℕ) (vs : List ℕ) → ArePairs (λ p q. p.0 ≢ q.0) (numbered i vs)
numbered-once i [] = tt
numbered-once i (v ∷ vs) = (numbered-above i (i + 1) vs (omega arith), numbered-once (i + 1) vs)

numbered-at : (all : List ℕ) (i : ℕ) (vs : List ℕ) → i + length vs ≤ length all → ((k : ℕ) → k < length vs → get_or all (i + k) 0 ≡ get_or vs k 0) → AllByRecursion (λ p. (p.0 < length all) × (get_or all p.0 0 ≡ p.1)) (numbered i vs)
numbered-at all i [] h f = tt
numbered-at all i (v ∷ vs) h f =
    let z : i + 0 ≡ i = omega arith in
    ((omega arith, ap (λ (k : ℕ). get_or all k 0) (sym z) ∙ f 0 (omega arith)), numbered-at all (i + 1) vs (omega arith) (λ k lt. let y : i + 1 + k ≡ i + suc k = omega arith in ap (λ (k : ℕ). get_or all k 0) y ∙ f (suc k) (omega arith)))

numbered-there : (i : ℕ) (vs : List ℕ) (k j : ℕ) → j ≡ i + k → k < length vs → IsLabelled (numbered i vs) j
numbered-there i [] k j e lt = absurd (omega arith)
numbered-there i (v ∷ vs) zero j e lt = inl (omega arith)
numbered-there i (v ∷ vs) (suc k) j e lt = inr (numbered-there (i + 1) vs k j (omega arith) (omega arith))

names-numbered : (vs : List ℕ) → AreNamed vs → AreNames (numbered 0 vs) vs
names-numbered vs h = record {
  once = numbered-once 0 vs;
  given = numbered-at vs 0 vs (omega arith) (λ k lt. let z : 0 + k ≡ k = omega arith in ap (λ (k : ℕ). get_or vs k 0) z);
  all_there = λ i lt. numbered-there 0 vs i i (omega arith) lt;
  variables = h.variables;
  apart = h.apart;
}

names-moved : (kept : List ℕ) (os : List NamedOutput) → map (λ o. o.name) (map (moved_output kept) os) ≡ names_of os
names-moved kept [] = refl
names-moved kept (o ∷ os) = ap (λ (x : List ℕ). o.name ∷ x) (names-moved kept os)

small-names : (vs : List ℕ) → AreNamed vs → AllByRecursion (λ v. v < 2 ^ 62) vs
small-names vs h = all-by-index (λ v. v < 2 ^ 62) 0 vs (λ i lt. let k : get_or vs i 0 ≤ 16777215 = (h.variables i lt).1 in omega arith)

-- The text is not shorter than its lines are many.
outputs-few : (n : ℕ) (kept : List ℕ) (os : List NamedOutput) → length os ≤ length (output_lines n kept os)
outputs-few n kept [] = omega arith
outputs-few n kept (o ∷ os) =
    let a = length-append (number_line (literal_of n kept o.operand)) (output_lines n kept os) in
    let b = outputs-few n kept os in
    let d = line-long (literal_of n kept o.operand) in
    omega arith
  where
    line-long : (k : ℕ) → 1 ≤ length (number_line k)
    line-long k = simp length-append (omega arith)

text-long : (c : CertificateView) (kept : List ℕ) → length c.outputs ≤ length (circuit_text c kept)
text-long c kept =
    let n = length c.inputs in
    let i : List ℕ = input_lines 0 (length c.inputs) in
    let o : List ℕ = output_lines (length c.inputs) kept c.outputs in
    let g : List ℕ = gate_lines c.gates (length c.inputs) kept 0 kept in
    let s : List ℕ = symbol_lines 105 0 c.inputs ++ symbol_lines 111 0 (names_of c.outputs) in
    let h : List ℕ = header_line (length c.inputs) (length c.outputs) (length kept) in
    behind-outputs h i o (g ++ s) (length c.outputs) (outputs-few (length c.inputs) kept c.outputs)
  where
    behind-outputs : (h i o r : List ℕ) (k : ℕ) → k ≤ length o → k ≤ length (h ++ (i ++ (o ++ r)))
    behind-outputs h i o r k l =
        let a = length-append h (i ++ (o ++ r)) in
        let b = length-append i (o ++ r) in
        let d = length-append o r in
        omega arith

length-names-of : (os : List NamedOutput) → length (names_of os) ≡ length os
length-names-of os = length-map os (λ (o : NamedOutput). o.name)

pub canonical-file : (c : CertificateView) (kept : List ℕ) → AreCones c kept → IsSpellable c (length kept) (circuit_text c kept) → IsFile (circuit_text c kept) (written_of c kept)
canonical-file c kept a h =
    let n : ℕ = length c.inputs in
    let few : length c.inputs + length kept ≤ 268435456 = h.few in
    let short : length (circuit_text c kept) ≤ 1099511627776 = h.short in
    let long = text-long c kept in
    let no = length-names-of c.outputs in
    let kg = known-gates c kept h.ordered a in
    let ko = known-outputs c kept h.outputs a in
    let dw = definitions-within c.gates (length c.inputs) kept 0 kept (omega arith) kg in
    let lw = lits-within (length c.inputs) kept c.outputs ko in
    let ds = all-weaker (IsDefinition (length c.inputs + length kept)) IsSmallGate (definitions_of c.gates (length c.inputs) kept 0 kept) (λ d k. let v : d.var ≤ length c.inputs + length kept = k.0.1 in let x : d.left ≤ 2 * (length c.inputs + length kept) + 1 = k.1 in let y : d.right ≤ 2 * (length c.inputs + length kept) + 1 = k.2 in (omega arith, omega arith, omega arith)) dw in
    let ls = all-weaker (IsLiteral (length c.inputs + length kept)) (λ l. l < 2 ^ 64) (lits_of (length c.inputs) kept c.outputs) (λ l k. let x : l ≤ 2 * (length c.inputs + length kept) + 1 = k in omega arith) lw in
    let si = small-names c.inputs h.input_names in
    let so = small-names (names_of c.outputs) h.output_names in
    let symbols_o = symbols-lines 111 0 (names_of c.outputs) [] (refl, refl) (omega arith) so in
    let symbols_i = symbols-lines 105 0 c.inputs (symbol_lines 111 0 (names_of c.outputs)) (refl, refl) (omega arith) si in
    let gates_l = gates-lines c.gates (length c.inputs) kept 0 kept (symbol_lines 105 0 c.inputs ++ symbol_lines 111 0 (names_of c.outputs)) ds in
    let outputs_l = outputs-lines (length c.inputs) kept c.outputs (gate_lines c.gates (length c.inputs) kept 0 kept ++ (symbol_lines 105 0 c.inputs ++ symbol_lines 111 0 (names_of c.outputs))) ls in
    let inputs_l = inputs-lines 0 (length c.inputs) (output_lines (length c.inputs) kept c.outputs ++ (gate_lines c.gates (length c.inputs) kept 0 kept ++ (symbol_lines 105 0 c.inputs ++ symbol_lines 111 0 (names_of c.outputs)))) (omega arith) in
    let header_l = header-line (length c.inputs) (length c.outputs) (length kept) (input_lines 0 (length c.inputs) ++ (output_lines (length c.inputs) kept c.outputs ++ (gate_lines c.gates (length c.inputs) kept 0 kept ++ (symbol_lines 105 0 c.inputs ++ symbol_lines 111 0 (names_of c.outputs))))) (omega arith) (omega arith) in
    let lo : length (lits_of (length c.inputs) kept c.outputs) ≡ length c.outputs = length-map c.outputs (λ (o : NamedOutput). literal_of (length c.inputs) kept o.operand) in
    let lv = length-vars 1 (length c.inputs) in
    let ld = definitions-length c.gates (length c.inputs) kept 0 kept in
    let va = variables-are c kept in
    record {
      text = text_of c kept;
      short = h.short;
      spelled = record {
        header = header_row (length c.inputs) (length c.outputs) (length kept);
        inputs = input_rows 0 (length c.inputs);
        outputs = output_rows (lits_of (length c.inputs) kept c.outputs);
        gates = gate_rows (definitions_of c.gates (length c.inputs) kept 0 kept);
        symbols = symbol_rows 105 0 c.inputs ++ symbol_rows 111 0 (names_of c.outputs);
        behind = [];
        lines = header_l ∙ ap (λ x. header_row (length c.inputs) (length c.outputs) (length kept) ∷ x) (inputs_l ∙ ap (λ x. input_rows 0 (length c.inputs) ++ x) (outputs_l ∙ ap (λ x. output_rows (lits_of (length c.inputs) kept c.outputs) ++ x) (gates_l ∙ ap (λ x. gate_rows (definitions_of c.gates (length c.inputs) kept 0 kept) ++ x) (symbols_i ∙ (ap (λ x. symbol_rows 105 0 c.inputs ++ x) (ap lines_of (sym (append-nil (symbol_lines 111 0 (names_of c.outputs)))) ∙ symbols_o) ∙ sym (append_assoc (symbol_rows 105 0 c.inputs) (symbol_rows 111 0 (names_of c.outputs)) []))))));
        header_is = record {
          numbers = header_words (length c.inputs) (length c.outputs) (length kept);
          spelled = header-said (length c.inputs) (length c.outputs) (length kept) (omega arith) (omega arith);
          are = counts (header_words (length c.inputs) (length c.outputs) (length kept)) (length c.inputs + length kept) _ _ _ _ _ _ (sym lv) (sym lo) (sym ld) (header-numbers (length c.inputs) (length c.outputs) (length kept) (omega arith) (omega arith));
        };
        inputs_are = inputs-said 0 (length c.inputs) (omega arith);
        outputs_are = outputs-said (lits_of (length c.inputs) kept c.outputs) ls;
        gates_are = gates-said (definitions_of c.gates (length c.inputs) kept 0 kept) ds;
        symbols_are = zip-append Says (symbol_rows 105 0 c.inputs) (symbol_rows 111 0 (names_of c.outputs)) (inputs_labelled 0 c.inputs) (outputs_labelled 0 (names_of c.outputs)) (input-symbols-said 0 c.inputs (omega arith) si) (output-symbols-said 0 (names_of c.outputs) (omega arith) so);
        end = tt;
      };
      lawful = record {
        max = few;
        room = omega arith;
        inputs = vars-within 1 (length c.inputs) (length c.inputs + length kept) (omega arith) (omega arith);
        outputs = lw;
        gates = dw;
        once = subst AreOnce (sym va) (vars-once (length c.inputs) (length kept));
      };
      means = record {
        inputs = sym lv;
        input_names = subst (λ (x : List (ℕ × ℕ)). AreNames x c.inputs) (sym (labels-inputs 0 0 c.inputs (names_of c.outputs))) (names-numbered c.inputs h.input_names);
        outputs = outputs-said-by c kept c.outputs ko;
        output_names = subst (AreNames (output_labels (inputs_labelled 0 c.inputs ++ outputs_labelled 0 (names_of c.outputs)))) (sym (names-moved kept c.outputs)) (subst (λ (x : List (ℕ × ℕ)). AreNames x (names_of c.outputs)) (sym (labels-outputs 0 0 c.inputs (names_of c.outputs))) (names-numbered (names_of c.outputs) h.output_names));
        gates = gates-said-by c kept 0 kept kg;
      };
    }
  where
    counts : (ws : List (List ℕ)) (m i o a i2 o2 a2 : ℕ) → i ≡ i2 → o ≡ o2 → a ≡ a2 → AreNumbers ws (m ∷ i ∷ 0 ∷ o ∷ a ∷ []) → AreNumbers ws (m ∷ i2 ∷ 0 ∷ o2 ∷ a2 ∷ [])
    counts ws m i o a i2 o2 a2 ei eo ea h =
        subst (λ (k : ℕ). AreNumbers ws (m ∷ i2 ∷ 0 ∷ o2 ∷ k ∷ [])) ea
        (subst (λ (k : ℕ). AreNumbers ws (m ∷ i2 ∷ 0 ∷ k ∷ a ∷ [])) eo
        (subst (λ (k : ℕ). AreNumbers ws (m ∷ k ∷ 0 ∷ o ∷ a ∷ [])) ei h))
