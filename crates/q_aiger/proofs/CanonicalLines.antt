-- The lines of the canonical text.
use Rattle.std.proofs.Common.{◌≡◌, ℕ, zero, suc, ◌+◌, ◌*◌, ◌<◌, ◌≤◌, ◌^◌, max, min, List, [], ◌∷◌, ◌++◌, length, map, get_or, refl, ap, sym, ◌∙◌, arith, subst, append_assoc}
use Rattle.std.specs.List.{AllByRecursion, AllZip}
use Rattle.std.specs.Fmt.{decimal}
use Rattle.q_logic.specs.Prelude.{Gate, NamedOutput}
use Rattle.q_logic.proofs.Common.{all-append}
use Rattle.q_gates.specs.Gates.{no_gate}
use Rattle.q_aiger.specs.Lines.{words, lines_of}
use Rattle.q_aiger.specs.Writing.{literal_of, number_word, number_line, header_line, input_lines, output_lines, gate_text, gate_lines, symbol_line, symbol_lines}
use Rattle.q_aiger.specs.Grammar.{Definition, Label, of_input, of_output, AreNumbers, IsLine, IsSymbol, Says, input_numbers, output_numbers, gate_numbers, input_labels, output_labels}
use Rattle.q_aiger.proofs.LineParts.{IsInside, IsPlain, line-of, word-space, word-last, shown, shown-inside, shown-plain}

-- a line of one number
pub one-said : (n : ℕ) → n < 2 ^ 64 → IsLine (decimal n) (n ∷ [])
one-said n h =
    let s = shown n h in
    subst (λ (ws : List (List ℕ)). AreNumbers ws (n ∷ [])) (sym (word-last (decimal n) s.long (shown-plain (decimal n) n s))) (s.value, tt)

pub one-line : (n : ℕ) (rest : List ℕ) → n < 2 ^ 64 → lines_of (number_line n ++ rest) ≡ decimal n ∷ lines_of rest
one-line n rest h =
    ap lines_of (append_assoc (decimal n) (10 ∷ []) rest) ∙ line-of (decimal n) rest (shown-inside (decimal n) n (shown n h))

-- a line of three numbers
abbrev pub three_row : ℕ → ℕ → ℕ → List ℕ
three_row a b c = decimal a ++ 32 ∷ (decimal b ++ 32 ∷ decimal c)

pub three-said : (a b c : ℕ) → a < 2 ^ 64 → b < 2 ^ 64 → c < 2 ^ 64 → IsLine (three_row a b c) (a ∷ b ∷ c ∷ [])
three-said a b c ha hb hc =
    let sa = shown a ha in
    let sb = shown b hb in
    let sc = shown c hc in
    let e = word-space (decimal a) (decimal b ++ 32 ∷ decimal c) sa.long (shown-plain (decimal a) a sa) ∙ ap (λ ws. decimal a ∷ ws) (word-space (decimal b) (decimal c) sb.long (shown-plain (decimal b) b sb) ∙ ap (λ ws. decimal b ∷ ws) (word-last (decimal c) sc.long (shown-plain (decimal c) c sc))) in
    subst (λ (ws : List (List ℕ)). AreNumbers ws (a ∷ b ∷ c ∷ [])) (sym e) (sa.value, (sb.value, (sc.value, tt)))

three-inside : (a b c : ℕ) → a < 2 ^ 64 → b < 2 ^ 64 → c < 2 ^ 64 → AllByRecursion IsInside (three_row a b c)
three-inside a b c ha hb hc =
    all-append IsInside (decimal a) (32 ∷ (decimal b ++ 32 ∷ decimal c)) (shown-inside (decimal a) a (shown a ha))
    ((refl, refl), all-append IsInside (decimal b) (32 ∷ decimal c) (shown-inside (decimal b) b (shown b hb)) ((refl, refl), shown-inside (decimal c) c (shown c hc)))

pub three-line : (a b c : ℕ) (rest : List ℕ) → a < 2 ^ 64 → b < 2 ^ 64 → c < 2 ^ 64 → lines_of ((number_word a ++ (number_word b ++ number_line c)) ++ rest) ≡ three_row a b c ∷ lines_of rest
three-line a b c rest ha hb hc = ap lines_of parts ∙ line-of (three_row a b c) rest (three-inside a b c ha hb hc)
  where
    parts : (number_word a ++ (number_word b ++ number_line c)) ++ rest ≡ three_row a b c ++ 10 ∷ rest
    parts = simp append_assoc

-- a line of a symbol
abbrev pub symbol_row : ℕ → ℕ → ℕ → List ℕ
symbol_row letter i v = letter ∷ decimal i ++ 32 ∷ decimal v

pub symbol-said : (letter i v : ℕ) → IsPlain letter → i < 2 ^ 64 → v < 2 ^ 64 → IsSymbol letter (symbol_row letter i v) i v
symbol-said letter i v p hi hv =
    let si = shown i hi in
    let sv = shown v hv in
    record {
      left = decimal i;
      right = decimal v;
      spelled = word-space (letter ∷ decimal i) (decimal v) (omega arith) (p, shown-plain (decimal i) i si) ∙ ap (λ ws. (letter ∷ decimal i) ∷ ws) (word-last (decimal v) sv.long (shown-plain (decimal v) v sv));
      place_is = si.value;
      name_is = sv.value;
    }

pub symbol-line : (letter i v : ℕ) (rest : List ℕ) → IsInside letter → i < 2 ^ 64 → v < 2 ^ 64 → lines_of (symbol_line letter i v ++ rest) ≡ symbol_row letter i v ∷ lines_of rest
symbol-line letter i v rest p hi hv = ap lines_of parts ∙ line-of (symbol_row letter i v) rest inside
  where
    parts : symbol_line letter i v ++ rest ≡ symbol_row letter i v ++ 10 ∷ rest
    parts = ap (λ x. letter ∷ x) tail
      where
        tail : (number_word i ++ number_line v) ++ rest ≡ (decimal i ++ 32 ∷ decimal v) ++ 10 ∷ rest
        tail = simp append_assoc

    inside : AllByRecursion IsInside (symbol_row letter i v)
    inside = (p, all-append IsInside (decimal i) (32 ∷ decimal v) (shown-inside (decimal i) i (shown i hi)) ((refl, refl), shown-inside (decimal v) v (shown v hv)))

-- the header
abbrev pub header_row : ℕ → ℕ → ℕ → List ℕ
header_row inputs outputs gates = 97 ∷ 97 ∷ 103 ∷ 32 ∷ (decimal (inputs + gates) ++ 32 ∷ (decimal inputs ++ 32 ∷ (48 ∷ 32 ∷ (decimal outputs ++ 32 ∷ decimal gates))))

abbrev pub header_words : ℕ → ℕ → ℕ → List (List ℕ)
header_words inputs outputs gates = decimal (inputs + gates) ∷ decimal inputs ∷ (48 ∷ []) ∷ decimal outputs ∷ decimal gates ∷ []

pub header-said : (i o a : ℕ) → i + a < 2 ^ 64 → o < 2 ^ 64 → words (header_row i o a) ≡ (97 ∷ 97 ∷ 103 ∷ []) ∷ header_words i o a
header-said i o a h ho =
    let sm = shown (i + a) h in
    let si = shown i (omega arith) in
    let so = shown o ho in
    let sa = shown a (omega arith) in
    word-space (97 ∷ 97 ∷ 103 ∷ []) (decimal (i + a) ++ 32 ∷ (decimal i ++ 32 ∷ (48 ∷ 32 ∷ (decimal o ++ 32 ∷ decimal a)))) (omega arith) (refl, (refl, (refl, tt)))
    ∙ ap (λ ws. (97 ∷ 97 ∷ 103 ∷ []) ∷ ws)
    (word-space (decimal (i + a)) (decimal i ++ 32 ∷ (48 ∷ 32 ∷ (decimal o ++ 32 ∷ decimal a))) sm.long (shown-plain (decimal (i + a)) (i + a) sm)
    ∙ ap (λ ws. decimal (i + a) ∷ ws)
    (word-space (decimal i) (48 ∷ 32 ∷ (decimal o ++ 32 ∷ decimal a)) si.long (shown-plain (decimal i) i si)
    ∙ ap (λ ws. decimal i ∷ ws)
    (word-space (48 ∷ []) (decimal o ++ 32 ∷ decimal a) (omega arith) (refl, tt)
    ∙ ap (λ ws. (48 ∷ []) ∷ ws)
    (word-space (decimal o) (decimal a) so.long (shown-plain (decimal o) o so)
    ∙ ap (λ ws. decimal o ∷ ws) (word-last (decimal a) sa.long (shown-plain (decimal a) a sa))))))

pub header-numbers : (i o a : ℕ) → i + a < 2 ^ 64 → o < 2 ^ 64 → AreNumbers (header_words i o a) ((i + a) ∷ i ∷ 0 ∷ o ∷ a ∷ [])
header-numbers i o a h ho = ((shown (i + a) h).value, ((shown i (omega arith)).value, (refl, ((shown o ho).value, ((shown a (omega arith)).value, tt)))))

pub header-line : (i o a : ℕ) (rest : List ℕ) → i + a < 2 ^ 64 → o < 2 ^ 64 → lines_of (header_line i o a ++ rest) ≡ header_row i o a ∷ lines_of rest
header-line i o a rest h ho = ap lines_of parts ∙ line-of (header_row i o a) rest inside
  where
    parts : header_line i o a ++ rest ≡ header_row i o a ++ 10 ∷ rest
    parts = ap (λ x. 97 ∷ 97 ∷ 103 ∷ 32 ∷ x) tail
      where
        tail : (number_word (i + a) ++ (number_word i ++ (48 ∷ 32 ∷ number_word o ++ number_line a))) ++ rest ≡ (decimal (i + a) ++ 32 ∷ (decimal i ++ 32 ∷ (48 ∷ 32 ∷ (decimal o ++ 32 ∷ decimal a)))) ++ 10 ∷ rest
        tail = simp append_assoc

    last : AllByRecursion IsInside (48 ∷ 32 ∷ (decimal o ++ 32 ∷ decimal a))
    last = ((refl, refl), ((refl, refl), all-append IsInside (decimal o) (32 ∷ decimal a) (shown-inside (decimal o) o (shown o ho)) ((refl, refl), shown-inside (decimal a) a (shown a (omega arith)))))

    middle : AllByRecursion IsInside (decimal i ++ 32 ∷ (48 ∷ 32 ∷ (decimal o ++ 32 ∷ decimal a)))
    middle = all-append IsInside (decimal i) (32 ∷ (48 ∷ 32 ∷ (decimal o ++ 32 ∷ decimal a))) (shown-inside (decimal i) i (shown i (omega arith))) ((refl, refl), last)

    inside : AllByRecursion IsInside (header_row i o a)
    inside = ((refl, refl), ((refl, refl), ((refl, refl), ((refl, refl), all-append IsInside (decimal (i + a)) (32 ∷ (decimal i ++ 32 ∷ (48 ∷ 32 ∷ (decimal o ++ 32 ∷ decimal a)))) (shown-inside (decimal (i + a)) (i + a) (shown (i + a) h)) ((refl, refl), middle)))))

-- All lines of one kind.
abbrev pub vars_from : ℕ → ℕ → List ℕ
vars_from i zero = []
vars_from i (suc n) = i ∷ vars_from (i + 1) n

abbrev pub input_rows : ℕ → ℕ → List (List ℕ)
input_rows i zero = []
input_rows i (suc n) = decimal (2 * (i + 1)) ∷ input_rows (i + 1) n

pub inputs-lines : (i n : ℕ) (rest : List ℕ) → i + n ≤ 268435456 → lines_of (input_lines i n ++ rest) ≡ input_rows i n ++ lines_of rest
inputs-lines i zero rest h = refl
inputs-lines i (suc n) rest h =
    ap lines_of (append_assoc (number_line (2 * (i + 1))) (input_lines (i + 1) n) rest)
    ∙ (one-line (2 * (i + 1)) (input_lines (i + 1) n ++ rest) (omega arith) ∙ ap (λ x. decimal (2 * (i + 1)) ∷ x) (inputs-lines (i + 1) n rest (omega arith)))

pub inputs-said : (i n : ℕ) → i + n ≤ 268435456 → AllZip IsLine (input_rows i n) (input_numbers (vars_from (i + 1) n))
inputs-said i zero h = tt
inputs-said i (suc n) h = (one-said (2 * (i + 1)) (omega arith), inputs-said (i + 1) n (omega arith))

abbrev pub lits_of : ℕ → List ℕ → List NamedOutput → List ℕ
lits_of n kept os = map (λ o. literal_of n kept o.operand) os

abbrev pub output_rows : List ℕ → List (List ℕ)
output_rows ls = map decimal ls

pub outputs-lines : (n : ℕ) (kept : List ℕ) (os : List NamedOutput) (rest : List ℕ) → AllByRecursion (λ l. l < 2 ^ 64) (lits_of n kept os) → lines_of (output_lines n kept os ++ rest) ≡ output_rows (lits_of n kept os) ++ lines_of rest
outputs-lines n kept [] rest h = refl
outputs-lines n kept (o ∷ os) rest h =
    ap lines_of (append_assoc (number_line (literal_of n kept o.operand)) (output_lines n kept os) rest)
    ∙ (one-line (literal_of n kept o.operand) (output_lines n kept os ++ rest) h.0 ∙ ap (λ x. decimal (literal_of n kept o.operand) ∷ x) (outputs-lines n kept os rest h.1))

pub outputs-said : (ls : List ℕ) → AllByRecursion (λ l. l < 2 ^ 64) ls → AllZip IsLine (output_rows ls) (output_numbers ls)
outputs-said [] h = tt
outputs-said (l ∷ ls) h = (one-said l h.0, outputs-said ls h.1)

-- the gate of the text at a place
abbrev pub definition_of : ℕ → List ℕ → ℕ → Gate → Definition
definition_of n kept j g = record { var = n + 1 + j; left = max (literal_of n kept g.left) (literal_of n kept g.right); right = min (literal_of n kept g.left) (literal_of n kept g.right) }

abbrev pub definitions_of : List Gate → ℕ → List ℕ → ℕ → List ℕ → List Definition
definitions_of gates n kept j [] = []
definitions_of gates n kept j (g ∷ gs) = definition_of n kept j (get_or gates g no_gate) ∷ definitions_of gates n kept (j + 1) gs

abbrev pub IsSmallGate : Definition → Type 0
IsSmallGate d = (2 * d.var < 2 ^ 64) × (d.left < 2 ^ 64) × (d.right < 2 ^ 64)

abbrev pub gate_rows : List Definition → List (List ℕ)
gate_rows ds = map (λ d. three_row (2 * d.var) d.left d.right) ds

pub gates-lines : (gates : List Gate) (n : ℕ) (kept : List ℕ) (j : ℕ) (gs : List ℕ) (rest : List ℕ) → AllByRecursion IsSmallGate (definitions_of gates n kept j gs) → lines_of (gate_lines gates n kept j gs ++ rest) ≡ gate_rows (definitions_of gates n kept j gs) ++ lines_of rest
gates-lines gates n kept j [] rest h = refl
gates-lines gates n kept j (g ∷ gs) rest h =
    let d = definition_of n kept j (get_or gates g no_gate) in
    ap lines_of (append_assoc (gate_text n kept j (get_or gates g no_gate)) (gate_lines gates n kept (j + 1) gs) rest)
    ∙ (three-line (2 * (n + 1 + j)) (max (literal_of n kept (get_or gates g no_gate).left) (literal_of n kept (get_or gates g no_gate).right)) (min (literal_of n kept (get_or gates g no_gate).left) (literal_of n kept (get_or gates g no_gate).right)) (gate_lines gates n kept (j + 1) gs ++ rest) h.0.0 h.0.1 h.0.2
    ∙ ap (λ (x : List (List ℕ)). three_row (2 * (n + 1 + j)) (max (literal_of n kept (get_or gates g no_gate).left) (literal_of n kept (get_or gates g no_gate).right)) (min (literal_of n kept (get_or gates g no_gate).left) (literal_of n kept (get_or gates g no_gate).right)) ∷ x) (gates-lines gates n kept (j + 1) gs rest h.1))

pub gates-said : (ds : List Definition) → AllByRecursion IsSmallGate ds → AllZip IsLine (gate_rows ds) (gate_numbers ds)
gates-said [] h = tt
gates-said (d ∷ ds) h = (three-said (2 * d.var) d.left d.right h.0.0 h.0.1 h.0.2, gates-said ds h.1)

abbrev pub symbol_rows : ℕ → ℕ → List ℕ → List (List ℕ)
symbol_rows letter i [] = []
symbol_rows letter i (v ∷ vs) = symbol_row letter i v ∷ symbol_rows letter (i + 1) vs

abbrev pub numbered : ℕ → List ℕ → List (ℕ × ℕ)
numbered i [] = []
numbered i (v ∷ vs) = (i, v) ∷ numbered (i + 1) vs

pub symbols-lines : (letter i : ℕ) (vs rest : List ℕ) → IsInside letter → i + length vs < 2 ^ 62 → AllByRecursion (λ v. v < 2 ^ 62) vs → lines_of (symbol_lines letter i vs ++ rest) ≡ symbol_rows letter i vs ++ lines_of rest
symbols-lines letter i [] rest p h k = refl
symbols-lines letter i (v ∷ vs) rest p h k =
    let hv : v < 2 ^ 62 = k.0 in
    ap lines_of (append_assoc (symbol_line letter i v) (symbol_lines letter (i + 1) vs) rest)
    ∙ (symbol-line letter i v (symbol_lines letter (i + 1) vs ++ rest) p (omega arith) (omega arith) ∙ ap (λ x. symbol_row letter i v ∷ x) (symbols-lines letter (i + 1) vs rest p (omega arith) k.1))

abbrev pub inputs_labelled : ℕ → List ℕ → List Label
inputs_labelled i [] = []
inputs_labelled i (v ∷ vs) = of_input i v ∷ inputs_labelled (i + 1) vs

abbrev pub outputs_labelled : ℕ → List ℕ → List Label
outputs_labelled i [] = []
outputs_labelled i (v ∷ vs) = of_output i v ∷ outputs_labelled (i + 1) vs

pub input-symbols-said : (i : ℕ) (vs : List ℕ) → i + length vs < 2 ^ 62 → AllByRecursion (λ v. v < 2 ^ 62) vs → AllZip Says (symbol_rows 105 i vs) (inputs_labelled i vs)
input-symbols-said i [] h k = tt
input-symbols-said i (v ∷ vs) h k = let hv : v < 2 ^ 62 = k.0 in (symbol-said 105 i v refl (omega arith) (omega arith), input-symbols-said (i + 1) vs (omega arith) k.1)

pub output-symbols-said : (i : ℕ) (vs : List ℕ) → i + length vs < 2 ^ 62 → AllByRecursion (λ v. v < 2 ^ 62) vs → AllZip Says (symbol_rows 111 i vs) (outputs_labelled i vs)
output-symbols-said i [] h k = tt
output-symbols-said i (v ∷ vs) h k = let hv : v < 2 ^ 62 = k.0 in (symbol-said 111 i v refl (omega arith) (omega arith), output-symbols-said (i + 1) vs (omega arith) k.1)

pub zip-append : {X Y : Type 0} (R : X → Y → Type 0) (xs xs2 : List X) (ys ys2 : List Y) → AllZip R xs ys → AllZip R xs2 ys2 → AllZip R (xs ++ xs2) (ys ++ ys2)
zip-append R [] xs2 [] ys2 h k = k
zip-append R [] xs2 (y ∷ ys) ys2 h k = absurd h
zip-append R (x ∷ xs) xs2 [] ys2 h k = absurd h
zip-append R (x ∷ xs) xs2 (y ∷ ys) ys2 h k = (h.0, zip-append R xs xs2 ys ys2 h.1 k)

pub labels-inputs : (i j : ℕ) (vs ws : List ℕ) → input_labels (inputs_labelled i vs ++ outputs_labelled j ws) ≡ numbered i vs
labels-inputs i j [] [] = refl
labels-inputs i j [] (w ∷ ws) = labels-inputs i (j + 1) [] ws
labels-inputs i j (v ∷ vs) ws = ap (λ (x : List (ℕ × ℕ)). (i, v) ∷ x) (labels-inputs (i + 1) j vs ws)

pub labels-outputs : (i j : ℕ) (vs ws : List ℕ) → output_labels (inputs_labelled i vs ++ outputs_labelled j ws) ≡ numbered j ws
labels-outputs i j [] [] = refl
labels-outputs i j [] (w ∷ ws) = ap (λ (x : List (ℕ × ℕ)). (j, w) ∷ x) (labels-outputs i (j + 1) [] ws)
labels-outputs i j (v ∷ vs) ws = labels-outputs (i + 1) j vs ws
