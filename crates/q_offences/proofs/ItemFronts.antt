-- Lines of items that stand in front, and the next one.
use Rattle.std.proofs.Common.{◌≡◌, inl, inr, ℕ, zero, suc, ◌+◌, ◌<◌, ◌≤◌, Bool, true, false, nat_lt, List, [], ◌∷◌, ◌++◌, length, get_or, refl, ap, sym, ◌∙◌, arith, subst, Result, Ok, Err, append_assoc, append-nil, length-append}
use Rattle.std.specs.List.{AllZip}
use Rattle.std.proofs.lemmas.Bool.Decides.{nat_tests}
use Rattle.q_aiger.specs.Lines.{words, clipped}
use Rattle.q_aiger.specs.Headers.{Counts}
use Rattle.q_aiger.specs.Items.{Items, Behind, no_items, one_number, three_numbers, with_input, with_output, with_gate, with_line, follow, items_from, items_of}
use Rattle.q_aiger.specs.Grammar.{Definition, AreOnce}
use Rattle.q_aiger.proofs.DefinedPlaces.{once-push, once-fresh, once-front}
use Rattle.q_aiger.proofs.ItemLines.{st, line-input, line-output, line-gate}
use Rattle.q_aiger.proofs.ItemRows.{pairs_of}
use Rattle.q_aiger.proofs.CanonicalLines.{zip-append}
use Rattle.q_aiger.proofs.TextLiterals.{zip-length}
use Rattle.q_offences.specs.CircuitTable.{IsInput, IsOutput, IsGateLine, vars_of, IsAmong, AreItems, ItemOffence, bad_input, twice_input, bad_output, bad_gate, twice_gate, LineOffence, item, unended}
use Rattle.q_offences.proofs.CircuitHeads.{header_in}
use Rattle.q_offences.proofs.ItemTests.{InputSaid, no_input, input_twice, input_new, input-said, input-twice, input-new, OutputSaid, no_output, output_new, output-said, output-new, GateSaid, no_gate_line, gate_twice, gate_new, gate-said, gate-twice, gate-new, more_gate}

abbrev pub state : List ℕ → List ℕ → List Definition → Items
state vs os gs = st (vs ++ vars_of gs) os (pairs_of gs)

-- among, by places

among-at : (ds : List ℕ) (v : ℕ) → IsAmong v ds → (k : ℕ) × (k < length ds) × (get_or ds k 0 ≡ v)
among-at [] v h = absurd h
among-at (d ∷ ds) v (inl e) = (0, omega arith, e)
among-at (d ∷ ds) v (inr h) = let r = among-at ds v h in let l = r.1 in (suc r.0, omega arith, r.2)

at-among : (ds : List ℕ) (v k : ℕ) → k < length ds → get_or ds k 0 ≡ v → IsAmong v ds
at-among [] v k l e = absurd (omega (arith, l))
at-among (d ∷ ds) v zero l e = inl e
at-among (d ∷ ds) v (suc k) l e = inr (at-among ds v k (omega arith) e)

more-once : (ds : List ℕ) (v : ℕ) → AreOnce ds → ¬ IsAmong v ds → AreOnce (ds ++ v ∷ [])
more-once ds v o n = once-push ds v o (λ k l e. n (at-among ds v k l e))

once-new : (ds : List ℕ) (v : ℕ) (vs : List ℕ) → AreOnce (ds ++ v ∷ vs) → ¬ IsAmong v ds
once-new ds v vs o a = let r = among-at ds v a in once-fresh ds v vs o r.0 r.1 r.2

-- lists

pub nothing : {X : Type 0} (xs : List X) → length xs ≡ 0 → xs ≡ []
nothing [] e = refl
nothing (x ∷ xs) e = absurd (omega (arith, e))

vars-push : (gs : List Definition) (d : Definition) → vars_of (gs ++ d ∷ []) ≡ vars_of gs ++ d.var ∷ []
vars-push [] d = refl
vars-push (g ∷ gs) d = ap (λ (x : List ℕ). g.var ∷ x) (vars-push gs d)

pairs-push : (gs : List Definition) (d : Definition) → pairs_of (gs ++ d ∷ []) ≡ pairs_of gs ++ (d.left, d.right) ∷ []
pairs-push [] d = refl
pairs-push (g ∷ gs) d = ap (λ (x : List (ℕ × ℕ)). (g.left, g.right) ∷ x) (pairs-push gs d)

vars-length : (gs : List Definition) → length (vars_of gs) ≡ length gs
vars-length [] = refl
vars-length (g ∷ gs) = ap suc (vars-length gs)

pub front-length : (c : Counts) (front : List (List ℕ)) (vs os : List ℕ) (gs : List Definition) → AreItems c front vs os gs → length front ≡ length vs + length os + length gs
front-length c front vs os gs h =
    let a = ap length h.lines in
    let b = length-append h.inputs (h.outputs ++ h.gates) in
    let d = length-append h.outputs h.gates in
    let i = zip-length (IsInput c.max) h.inputs vs h.inputs_are in
    let o = zip-length (IsOutput c.max) h.outputs os h.outputs_are in
    let g = zip-length (IsGateLine c.max) h.gates gs h.gates_are in
    omega arith

-- no file has so many lines that clipping tells

clip-same : (n o : ℕ) → n < 576460752303423488 → nat_lt n (clipped o) ≡ nat_lt n o
clip-same n o l = go (nat_lt n o) refl where
  go : (b : Bool) → nat_lt n o ≡ b → nat_lt n (clipped o) ≡ b
  go true e = let m : n < o = grind (arith, nat_tests) in let k : n < clipped o = omega arith in let r : nat_lt n (clipped o) ≡ true = grind (arith, nat_tests) in r
  go false e = let m : o ≤ n = grind (arith, nat_tests) in let k : clipped o ≤ n = omega arith in let r : nat_lt n (clipped o) ≡ false = grind (arith, nat_tests) in r

-- one line more

none-left : {X : Type 0} (R : List ℕ → X → Type 0) (xs : List (List ℕ)) → AllZip R xs [] → xs ≡ []
none-left R [] h = refl
none-left R (x ∷ xs) h = absurd h

more-input : (c : Counts) (front : List (List ℕ)) (vs : List ℕ) (l : List ℕ) (v : ℕ) → AreItems c front vs [] [] → length vs < c.inputs → IsInput c.max l v → ¬ IsAmong v (vs ++ []) → AreItems c (front ++ l ∷ []) (vs ++ v ∷ []) [] []
more-input c front vs l v h lt i n =
    let e = none-left (IsOutput c.max) h.outputs h.outputs_are in
    let g = none-left (IsGateLine c.max) h.gates h.gates_are in
    let a = append-nil h.inputs in
    let b = append-nil (h.inputs ++ l ∷ []) in
    let d = append-nil vs in
    let f = append-nil (vs ++ v ∷ []) in
    let len = length-append vs (v ∷ []) in
    let same : front ≡ h.inputs = h.lines ∙ rw (e, g, a) refl in
    record {
      inputs = h.inputs ++ l ∷ [];
      outputs = [];
      gates = [];
      lines = ap (λ (x : List (List ℕ)). x ++ l ∷ []) same ∙ sym b;
      inputs_are = zip-append (IsInput c.max) h.inputs (l ∷ []) vs (v ∷ []) h.inputs_are (i, tt);
      outputs_are = tt;
      gates_are = tt;
      once = subst AreOnce (sym f) (more-once vs v (subst AreOnce d h.once) (subst (λ (x : List ℕ). ¬ IsAmong v x) d n));
      few_inputs = omega arith;
      few_outputs = omega arith;
      few_gates = omega arith;
      inputs_first = λ k. absurd (omega (arith, k));
      outputs_first = λ k. absurd (omega (arith, k));
    }

more-output : (c : Counts) (front : List (List ℕ)) (vs os : List ℕ) (l : List ℕ) (x : ℕ) → AreItems c front vs os [] → length vs ≡ c.inputs → length os < c.outputs → IsOutput c.max l x → AreItems c (front ++ l ∷ []) vs (os ++ x ∷ []) []
more-output c front vs os l x h full lt i =
    let g = none-left (IsGateLine c.max) h.gates h.gates_are in
    let a = append-nil h.outputs in
    let b = append-nil (h.outputs ++ l ∷ []) in
    let len = length-append os (x ∷ []) in
    let same : front ≡ h.inputs ++ h.outputs = h.lines ∙ rw (g, a) refl in
    record {
      inputs = h.inputs;
      outputs = h.outputs ++ l ∷ [];
      gates = [];
      lines = ap (λ (x : List (List ℕ)). x ++ l ∷ []) same ∙ (append_assoc h.inputs h.outputs (l ∷ []) ∙ ap (λ (x : List (List ℕ)). h.inputs ++ x) (sym b));
      inputs_are = h.inputs_are;
      outputs_are = zip-append (IsOutput c.max) h.outputs (l ∷ []) os (x ∷ []) h.outputs_are (i, tt);
      gates_are = tt;
      once = h.once;
      few_inputs = h.few_inputs;
      few_outputs = omega arith;
      few_gates = omega arith;
      inputs_first = λ k. full;
      outputs_first = λ k. absurd (omega (arith, k));
    }

more-gate : (c : Counts) (front : List (List ℕ)) (vs os : List ℕ) (gs : List Definition) (l : List ℕ) (d : Definition) → AreItems c front vs os gs → length vs ≡ c.inputs → length os ≡ c.outputs → length gs < c.gates → IsGateLine c.max l d → ¬ IsAmong d.var (vs ++ vars_of gs) → AreItems c (front ++ l ∷ []) vs os (gs ++ d ∷ [])
more-gate c front vs os gs l d h full fullo lt i n =
    let len = length-append gs (d ∷ []) in
    let v = vars-push gs d in
    let a = append_assoc vs (vars_of gs) (d.var ∷ []) in
    record {
      inputs = h.inputs;
      outputs = h.outputs;
      gates = h.gates ++ l ∷ [];
      lines = ap (λ (x : List (List ℕ)). x ++ l ∷ []) h.lines ∙ (append_assoc h.inputs (h.outputs ++ h.gates) (l ∷ []) ∙ ap (λ (x : List (List ℕ)). h.inputs ++ x) (append_assoc h.outputs h.gates (l ∷ [])));
      inputs_are = h.inputs_are;
      outputs_are = h.outputs_are;
      gates_are = zip-append (IsGateLine c.max) h.gates (l ∷ []) gs (d ∷ []) h.gates_are (i, tt);
      once = subst AreOnce (a ∙ ap (λ (x : List ℕ). vs ++ x) (sym v)) (more-once (vs ++ vars_of gs) d.var h.once n);
      few_inputs = h.few_inputs;
      few_outputs = h.few_outputs;
      few_gates = omega arith;
      inputs_first = λ k. full;
      outputs_first = λ k. fullo;
    }

-- what the reader answers to the next line

pub data NextSaid (c : Counts) (front : List (List ℕ)) (vs os : List ℕ) (gs : List Definition) (l : List ℕ) : Result Items ℕ → Type 0 where
  offends : (k : ℕ) → ItemOffence c l vs os gs k → NextSaid c front vs os gs l (Err k)
  goes : (ws ps : List ℕ) (ds : List Definition) → AreItems c (front ++ l ∷ []) ws ps ds → NextSaid c front vs os gs l (Ok (state ws ps ds))

-- which lines come next
pub record Inputs (c : Counts) (vs os : List ℕ) (gs : List Definition) : Type 0 where
  pub more : length vs < c.inputs
  pub no_outputs : os ≡ []
  pub no_gates : gs ≡ []

pub inputs-next : (c : Counts) (front : List (List ℕ)) (vs os : List ℕ) (gs : List Definition) → AreItems c front vs os gs → length vs < c.inputs → Inputs c vs os gs
inputs-next c front vs os gs h l = record { more = l; no_outputs = nothing os (none (length os) (length gs) h.inputs_first); no_gates = nothing gs (none2 (length os) (length gs) h.inputs_first) } where
  none : (a b : ℕ) → (1 ≤ a + b → length vs ≡ c.inputs) → a ≡ 0
  none zero b f = refl
  none (suc a) b f = absurd (let e = f (omega arith) in omega arith)

  none2 : (a b : ℕ) → (1 ≤ a + b → length vs ≡ c.inputs) → b ≡ 0
  none2 a zero f = refl
  none2 a (suc b) f = absurd (let e = f (omega arith) in omega arith)

all-inputs : (c : Counts) (front : List (List ℕ)) (vs os : List ℕ) (gs : List Definition) → AreItems c front vs os gs → c.inputs ≤ length vs + length gs → length vs ≡ c.inputs
all-inputs c front vs os [] h l = let f = h.few_inputs in omega arith
all-inputs c front vs os (g ∷ gs) h l = h.inputs_first (omega arith)

pub no-gates : (c : Counts) (front : List (List ℕ)) (vs os : List ℕ) (gs : List Definition) → AreItems c front vs os gs → length os < c.outputs → gs ≡ []
no-gates c front vs os [] h l = refl
no-gates c front vs os (g ∷ gs) h l = absurd (let e = h.outputs_first (omega arith) in omega arith)

input-next : (c : Counts) (front : List (List ℕ)) (vs : List ℕ) (l : List ℕ) (r : Result Items ℕ) → AreItems c front vs [] [] → length vs < c.inputs → InputSaid c.max (state vs [] []) l r → NextSaid c front vs [] [] l r
input-next c front vs l r h lt (no_input n) = offends 2 (bad_input lt n)
input-next c front vs l r h lt (input_twice v i a) = offends 4 (twice_input lt v i (subst (IsAmong v) (append-nil vs) a))
input-next c front vs l r h lt (input_new v i n) =
    let a = append-nil vs in
    let b = append-nil (vs ++ v ∷ []) in
    let e : st ((vs ++ v ∷ []) ++ []) [] [] ≡ st ((vs ++ []) ++ v ∷ []) [] [] = rw (a, b) refl in
    subst (λ (s : Items). NextSaid c front vs [] [] l (Ok s)) e (goes (vs ++ v ∷ []) [] [] (more-input c front vs l v h lt i n))

output-next : (c : Counts) (front : List (List ℕ)) (vs os : List ℕ) (l : List ℕ) (r : Result Items ℕ) → AreItems c front vs os [] → length vs ≡ c.inputs → length os < c.outputs → OutputSaid c.max (state vs os []) l r → NextSaid c front vs os [] l r
output-next c front vs os l r h full lt (no_output n) = offends 2 (bad_output full lt n)
output-next c front vs os l r h full lt (output_new x i) = goes vs (os ++ x ∷ []) [] (more-output c front vs os l x h full lt i)

gate-next : (c : Counts) (front : List (List ℕ)) (vs os : List ℕ) (gs : List Definition) (l : List ℕ) (r : Result Items ℕ) → AreItems c front vs os gs → length vs ≡ c.inputs → length os ≡ c.outputs → length gs < c.gates → GateSaid c.max (state vs os gs) l r → NextSaid c front vs os gs l r
gate-next c front vs os gs l r h full fullo lt (no_gate_line n) = offends 2 (bad_gate full fullo lt n)
gate-next c front vs os gs l r h full fullo lt (gate_twice d i a) = offends 4 (twice_gate full fullo lt d i a)
gate-next c front vs os gs l r h full fullo lt (gate_new d i n) =
    let v = vars-push gs d in
    let p = pairs-push gs d in
    let a = append_assoc vs (vars_of gs) (d.var ∷ []) in
    let e : state vs os (gs ++ d ∷ []) ≡ more_gate (state vs os gs) d = ap (λ (x : List ℕ). st x os (pairs_of (gs ++ d ∷ []))) (ap (λ (x : List ℕ). vs ++ x) v ∙ sym a) ∙ ap (λ (x : List (ℕ × ℕ)). st ((vs ++ vars_of gs) ++ d.var ∷ []) os x) p in
    subst (λ (s : Items). NextSaid c front vs os gs l (Ok s)) e (goes vs os (gs ++ d ∷ []) (more-gate c front vs os gs l d h full fullo lt i n))

defined-length : (vs : List ℕ) (gs : List Definition) → length (vs ++ vars_of gs) ≡ length vs + length gs
defined-length vs gs = let a = length-append vs (vars_of gs) in let b = vars-length gs in omega arith

next-said : (c : Counts) (front : List (List ℕ)) (vs os : List ℕ) (gs : List Definition) (l : List ℕ) → c.max ≤ 268435456 → length front < 576460752303423488 → AreItems c front vs os gs → length front < c.inputs + clipped c.outputs + c.gates
    → NextSaid c front vs os gs l (with_line (header_in c) (state vs os gs) (words l))
next-said c front vs os gs l small few h lt = go (nat_lt (length (vs ++ vars_of gs)) c.inputs) refl where
  outputs : (y : Bool) → nat_lt (length os) (clipped c.outputs) ≡ y → nat_lt (length (vs ++ vars_of gs)) c.inputs ≡ false → NextSaid c front vs os gs l (with_line (header_in c) (state vs os gs) (words l))
  outputs true q p =
      let n = front-length c front vs os gs h in
      let d = defined-length vs gs in
      let s = clip-same (length os) c.outputs (omega arith) in
      let lo : length os < c.outputs = (let t : nat_lt (length os) c.outputs ≡ true = sym s ∙ q in grind (arith, nat_tests)) in
      let g = no-gates c front vs os gs h lo in
      let ge : c.inputs ≤ length (vs ++ vars_of gs) = grind (arith, nat_tests) in
      let full = all-inputs c front vs os gs h (omega arith) in
      subst (NextSaid c front vs os gs l) (sym (line-output (header_in c) (state vs os gs) (words l) p q)) (by gs g h full lo) where
        by : (gs : List Definition) → gs ≡ [] → AreItems c front vs os gs → length vs ≡ c.inputs → length os < c.outputs → NextSaid c front vs os gs l (with_output (header_in c) (state vs os gs) (one_number (words l)))
        by [] g h full lo = output-next c front vs os l (with_output (header_in c) (state vs os []) (one_number (words l))) h full lo (output-said (header_in c) (state vs os []) l small)
        by (x ∷ gs) g h full lo = absurd (cc)
  outputs false q p =
      let n = front-length c front vs os gs h in
      let d = defined-length vs gs in
      let s = clip-same (length os) c.outputs (omega arith) in
      let lo : c.outputs ≤ length os = (let t : nat_lt (length os) c.outputs ≡ false = sym s ∙ q in grind (arith, nat_tests)) in
      let lc : clipped c.outputs ≤ length os = grind (arith, nat_tests) in
      let fo = h.few_outputs in
      let ge : c.inputs ≤ length (vs ++ vars_of gs) = grind (arith, nat_tests) in
      let full = all-inputs c front vs os gs h (omega arith) in
      subst (NextSaid c front vs os gs l) (sym (line-gate (header_in c) (state vs os gs) (words l) p q))
      (gate-next c front vs os gs l (with_gate (header_in c) (state vs os gs) (three_numbers (words l))) h full (omega arith) (omega arith) (gate-said (header_in c) (state vs os gs) l small))

  go : (x : Bool) → nat_lt (length (vs ++ vars_of gs)) c.inputs ≡ x → NextSaid c front vs os gs l (with_line (header_in c) (state vs os gs) (words l))
  go true p =
      let d = defined-length vs gs in
      let li : length (vs ++ vars_of gs) < c.inputs = grind (arith, nat_tests) in
      let i = inputs-next c front vs os gs h (omega arith) in
      subst (NextSaid c front vs os gs l) (sym (line-input (header_in c) (state vs os gs) (words l) p)) (by os gs i.no_outputs i.no_gates h i.more) where
        by : (os : List ℕ) (gs : List Definition) → os ≡ [] → gs ≡ [] → AreItems c front vs os gs → length vs < c.inputs → NextSaid c front vs os gs l (with_input (header_in c) (state vs os gs) (one_number (words l)))
        by [] [] e f h m = input-next c front vs l (with_input (header_in c) (state vs [] []) (one_number (words l))) h m (input-said (header_in c) (state vs [] []) l small)
        by (o ∷ os) gs e f h m = absurd (cc)
        by [] (g ∷ gs) e f h m = absurd (cc)
  go false p = outputs (nat_lt (length os) (clipped c.outputs)) refl p

-- an offence is answered with its cause
pub offence-answered : (c : Counts) (front : List (List ℕ)) (vs os : List ℕ) (gs : List Definition) (l : List ℕ) (k : ℕ) → c.max ≤ 268435456 → length front < 576460752303423488 → AreItems c front vs os gs → ItemOffence c l vs os gs k
    → with_line (header_in c) (state vs os gs) (words l) ≡ Err k
offence-answered c front vs os gs l k small few h o = go k o where
  inputs : length vs < c.inputs → with_line (header_in c) (state vs os gs) (words l) ≡ with_input (header_in c) (state vs os gs) (one_number (words l))
  inputs m =
      let i = inputs-next c front vs os gs h m in
      let d = defined-length vs gs in
      let z : length gs ≡ 0 = ap length i.no_gates in
      line-input (header_in c) (state vs os gs) (words l) (let t : nat_lt (length (vs ++ vars_of gs)) c.inputs ≡ true = grind (arith, nat_tests) in t)

  outputs : length vs ≡ c.inputs → length os < c.outputs → with_line (header_in c) (state vs os gs) (words l) ≡ with_output (header_in c) (state vs os gs) (one_number (words l))
  outputs full m =
      let n = front-length c front vs os gs h in
      let d = defined-length vs gs in
      let s = clip-same (length os) c.outputs (omega arith) in
      line-output (header_in c) (state vs os gs) (words l) (let t : nat_lt (length (vs ++ vars_of gs)) c.inputs ≡ false = grind (arith, nat_tests) in t) (s ∙ (let t : nat_lt (length os) c.outputs ≡ true = grind (arith, nat_tests) in t))

  gates : length vs ≡ c.inputs → length os ≡ c.outputs → with_line (header_in c) (state vs os gs) (words l) ≡ with_gate (header_in c) (state vs os gs) (three_numbers (words l))
  gates full m =
      let n = front-length c front vs os gs h in
      let d = defined-length vs gs in
      let s = clip-same (length os) c.outputs (omega arith) in
      line-gate (header_in c) (state vs os gs) (words l) (let t : nat_lt (length (vs ++ vars_of gs)) c.inputs ≡ false = grind (arith, nat_tests) in t) (s ∙ (let t : nat_lt (length os) c.outputs ≡ false = grind (arith, nat_tests) in t))

  input-bad : (r : Result Items ℕ) → InputSaid c.max (state vs os gs) l r → ((v : ℕ) → ¬ IsInput c.max l v) → r ≡ Err 2
  input-bad r (no_input n) f = refl
  input-bad r (input_twice v i a) f = absurd (f v i)
  input-bad r (input_new v i a) f = absurd (f v i)

  output-bad : (r : Result Items ℕ) → OutputSaid c.max (state vs os gs) l r → ((v : ℕ) → ¬ IsOutput c.max l v) → r ≡ Err 2
  output-bad r (no_output n) f = refl
  output-bad r (output_new v i) f = absurd (f v i)

  gate-bad : (r : Result Items ℕ) → GateSaid c.max (state vs os gs) l r → ((v : Definition) → ¬ IsGateLine c.max l v) → r ≡ Err 2
  gate-bad r (no_gate_line n) f = refl
  gate-bad r (gate_twice v i a) f = absurd (f v i)
  gate-bad r (gate_new v i a) f = absurd (f v i)

  left-among : (v : ℕ) (xs ys : List ℕ) → IsAmong v xs → IsAmong v (xs ++ ys)
  left-among v [] ys a = absurd a
  left-among v (x ∷ xs) ys (inl e) = inl e
  left-among v (x ∷ xs) ys (inr a) = inr (left-among v xs ys a)

  go : (k : ℕ) → ItemOffence c l vs os gs k → with_line (header_in c) (state vs os gs) (words l) ≡ Err k
  go k (bad_input m n) = inputs m ∙ input-bad (with_input (header_in c) (state vs os gs) (one_number (words l))) (input-said (header_in c) (state vs os gs) l small) n
  go k (twice_input m v i a) = inputs m ∙ input-twice (header_in c) (state vs os gs) l v small i (left-among v vs (vars_of gs) a)
  go k (bad_output f m n) = outputs f m ∙ output-bad (with_output (header_in c) (state vs os gs) (one_number (words l))) (output-said (header_in c) (state vs os gs) l small) n
  go k (bad_gate f m g n) = gates f m ∙ gate-bad (with_gate (header_in c) (state vs os gs) (three_numbers (words l))) (gate-said (header_in c) (state vs os gs) l small) n
  go k (twice_gate f m g d i a) = gates f m ∙ gate-twice (header_in c) (state vs os gs) l d small i a

-- all lines of items

pub data ItemsSaid (c : Counts) (e : ℕ) (body : List (List ℕ)) : Result Behind (ℕ × ℕ) → Type 0 where
  offended : (line cause : ℕ) → LineOffence c e body line cause → ItemsSaid c e body (Err (line, cause))
  all_taken : (items rest : List (List ℕ)) (vs os : List ℕ) (gs : List Definition) → body ≡ items ++ rest → AreItems c items vs os gs → length vs ≡ c.inputs → length os ≡ c.outputs → length gs ≡ c.gates
      → ItemsSaid c e body (Ok (record { items = state vs os gs; line = 2 + length items; lines = rest }))

items-run : (c : Counts) (e : ℕ) (body : List (List ℕ)) (k : ℕ) (front ls : List (List ℕ)) (vs os : List ℕ) (gs : List Definition) → c.max ≤ 268435456 → length body < 576460752303423488
    → body ≡ front ++ ls → AreItems c front vs os gs → length front + k ≡ c.inputs + clipped c.outputs + c.gates
    → ItemsSaid c e body (items_from (header_in c) e (2 + length front) (state vs os gs) k ls)
items-run c e body zero front ls vs os gs small few b h n =
    let f = front-length c front vs os gs h in
    let z = ap length b in
    let y = length-append front ls in
    let i = h.few_inputs in
    let o = h.few_outputs in
    let g = h.few_gates in
    let x : length os ≡ c.outputs = omega arith in
    all_taken front ls vs os gs b h (omega arith) x (omega arith)
items-run c e body (suc k) front [] vs os gs small few b h n =
    let f = front-length c front vs os gs h in
    offended e 8 (unended vs os gs (subst (λ (x : List (List ℕ)). AreItems c x vs os gs) (sym (b ∙ append-nil front)) h) (let z = ap length (b ∙ append-nil front) in omega arith))
items-run c e body (suc k) front (l ∷ ls) vs os gs small few b h n =
    let z = ap length b in
    let y = length-append front (l ∷ ls) in
    go (with_line (header_in c) (state vs os gs) (words l)) (next-said c front vs os gs l small (omega arith) h (omega arith))
    (λ ws ps ds i. items-run c e body k (front ++ l ∷ []) ls ws ps ds small few (b ∙ sym (append_assoc front (l ∷ []) ls)) i (let x = length-append front (l ∷ []) in omega arith)) where
      go : (r : Result Items ℕ) → NextSaid c front vs os gs l r
          → ((ws ps : List ℕ) (ds : List Definition) → AreItems c (front ++ l ∷ []) ws ps ds → ItemsSaid c e body (items_from (header_in c) e (2 + length (front ++ l ∷ [])) (state ws ps ds) k ls))
          → ItemsSaid c e body (follow (2 + length front) r (λ t. items_from (header_in c) e (2 + length front + 1) t k ls))
      go r (offends j o) ih = offended (2 + length front) j (item front l ls vs os gs j b h o)
      go r (goes ws ps ds i) ih =
          let x = length-append front (l ∷ []) in
          let m : 2 + length (front ++ l ∷ []) ≡ 2 + length front + 1 = omega arith in
          subst (λ (j : ℕ). ItemsSaid c e body (items_from (header_in c) e j (state ws ps ds) k ls)) m (ih ws ps ds i)

nothing-yet : (c : Counts) → AreItems c [] [] [] []
nothing-yet c = record {
  inputs = [];
  outputs = [];
  gates = [];
  lines = refl;
  inputs_are = tt;
  outputs_are = tt;
  gates_are = tt;
  once = λ i j a b d. absurd (omega (arith, a));
  few_inputs = omega arith;
  few_outputs = omega arith;
  few_gates = omega arith;
  inputs_first = λ k. absurd (omega (arith, k));
  outputs_first = λ k. absurd (omega (arith, k));
}

pub items-said : (c : Counts) (e : ℕ) (body : List (List ℕ)) → c.max ≤ 268435456 → length body < 576460752303423488 → ItemsSaid c e body (items_of (header_in c) e body)
items-said c e body small few = items-run c e body (c.inputs + clipped c.outputs + c.gates) [] body [] [] [] small few refl (nothing-yet c) (omega arith)

-- lines that stand in front are taken

take-inputs : (c : Counts) (e n : ℕ) (ds vs : List ℕ) (lines rest : List (List ℕ)) (m k : ℕ) → c.max ≤ 268435456 → AllZip (IsInput c.max) lines vs → length ds + length vs ≤ c.inputs → AreOnce (ds ++ vs) → m ≡ length lines + k
    → items_from (header_in c) e n (st ds [] []) m (lines ++ rest) ≡ items_from (header_in c) e (n + length lines) (st (ds ++ vs) [] []) k rest
take-inputs c e n ds [] [] rest m k small a few o q = let i : m ≡ k = omega arith in let j : n + 0 ≡ n = omega arith in let d = append-nil ds in rw (i, j, d) refl
take-inputs c e n ds (v ∷ vs) [] rest m k small a few o q = absurd a
take-inputs c e n ds [] (l ∷ lines) rest m k small a few o q = absurd a
take-inputs c e n ds (v ∷ vs) (l ∷ lines) rest zero k small a few o q = absurd (omega (arith, q))
take-inputs c e n ds (v ∷ vs) (l ∷ lines) rest (suc m) k small a few o q =
    let t : nat_lt (length ds) c.inputs ≡ true = grind (arith, nat_tests) in
    let len = length-append ds (v ∷ []) in
    let w = line-input (header_in c) (st ds [] []) (words l) t ∙ input-new (header_in c) (st ds [] []) l v small a.0 (once-new ds v vs o) in
    let j : n + 1 + length lines ≡ n + length (l ∷ lines) = omega arith in
    let x = append_assoc ds (v ∷ []) vs in
    ap (λ (r : Result Items ℕ). follow n r (λ s. items_from (header_in c) e (n + 1) s m (lines ++ rest))) w
    ∙ (take-inputs c e (n + 1) (ds ++ v ∷ []) vs lines rest m k small a.1 (omega arith) (subst AreOnce (sym x) o) (omega arith)
    ∙ (ap (λ (i : ℕ). items_from (header_in c) e i (st ((ds ++ v ∷ []) ++ vs) [] []) k rest) j ∙ ap (λ (y : List ℕ). items_from (header_in c) e (n + length (l ∷ lines)) (st y [] []) k rest) x))

take-outputs : (c : Counts) (e n : ℕ) (ds os xs : List ℕ) (lines rest : List (List ℕ)) (m k : ℕ) → c.max ≤ 268435456 → AllZip (IsOutput c.max) lines xs → (1 ≤ length xs → c.inputs ≤ length ds) → length os + length xs ≤ c.outputs → length os + length xs < 576460752303423488 → m ≡ length lines + k
    → items_from (header_in c) e n (st ds os []) m (lines ++ rest) ≡ items_from (header_in c) e (n + length lines) (st ds (os ++ xs) []) k rest
take-outputs c e n ds os [] [] rest m k small a full few less q = let i : m ≡ k = omega arith in let j : n + 0 ≡ n = omega arith in let d = append-nil os in rw (i, j, d) refl
take-outputs c e n ds os (x ∷ xs) [] rest m k small a full few less q = absurd a
take-outputs c e n ds os [] (l ∷ lines) rest m k small a full few less q = absurd a
take-outputs c e n ds os (x ∷ xs) (l ∷ lines) rest zero k small a full few less q = absurd (omega (arith, q))
take-outputs c e n ds os (x ∷ xs) (l ∷ lines) rest (suc m) k small a full few less q =
    let f : c.inputs ≤ length ds = full (omega arith) in
    let t : nat_lt (length ds) c.inputs ≡ false = grind (arith, nat_tests) in
    let u : nat_lt (length os) c.outputs ≡ true = grind (arith, nat_tests) in
    let s = clip-same (length os) c.outputs (omega arith) in
    let len = length-append os (x ∷ []) in
    let w = line-output (header_in c) (st ds os []) (words l) t (s ∙ u) ∙ output-new (header_in c) (st ds os []) l x small a.0 in
    let j : n + 1 + length lines ≡ n + length (l ∷ lines) = omega arith in
    let y = append_assoc os (x ∷ []) xs in
    ap (λ (r : Result Items ℕ). follow n r (λ s. items_from (header_in c) e (n + 1) s m (lines ++ rest))) w
    ∙ (take-outputs c e (n + 1) ds (os ++ x ∷ []) xs lines rest m k small a.1 (λ z. f) (omega arith) (omega arith) (omega arith)
    ∙ (ap (λ (i : ℕ). items_from (header_in c) e i (st ds ((os ++ x ∷ []) ++ xs) []) k rest) j ∙ ap (λ (z : List ℕ). items_from (header_in c) e (n + length (l ∷ lines)) (st ds z []) k rest) y))

take-gates : (c : Counts) (e n : ℕ) (ds os : List ℕ) (ps : List (ℕ × ℕ)) (gs : List Definition) (lines rest : List (List ℕ)) (m k : ℕ) → c.max ≤ 268435456 → AllZip (IsGateLine c.max) lines gs → (1 ≤ length gs → (c.inputs ≤ length ds) × (c.outputs ≤ length os)) → length os < 576460752303423488 → AreOnce (ds ++ vars_of gs) → m ≡ length lines + k
    → items_from (header_in c) e n (st ds os ps) m (lines ++ rest) ≡ items_from (header_in c) e (n + length lines) (st (ds ++ vars_of gs) os (ps ++ pairs_of gs)) k rest
take-gates c e n ds os ps [] [] rest m k small a full less o q = let i : m ≡ k = omega arith in let j : n + 0 ≡ n = omega arith in let d = append-nil ds in let p = append-nil ps in rw (i, j, d, p) refl
take-gates c e n ds os ps (g ∷ gs) [] rest m k small a full less o q = absurd a
take-gates c e n ds os ps [] (l ∷ lines) rest m k small a full less o q = absurd a
take-gates c e n ds os ps (g ∷ gs) (l ∷ lines) rest zero k small a full less o q = absurd (omega (arith, q))
take-gates c e n ds os ps (g ∷ gs) (l ∷ lines) rest (suc m) k small a full less o q =
    let f = full (omega arith) in
    let f0 : c.inputs ≤ length ds = f.0 in
    let f1 : c.outputs ≤ length os = f.1 in
    let t : nat_lt (length ds) c.inputs ≡ false = grind (arith, nat_tests) in
    let u : nat_lt (length os) c.outputs ≡ false = grind (arith, nat_tests) in
    let s = clip-same (length os) c.outputs less in
    let len = length-append ds (g.var ∷ []) in
    let w = line-gate (header_in c) (st ds os ps) (words l) t (s ∙ u) ∙ gate-new (header_in c) (st ds os ps) l g small a.0 (once-new ds g.var (vars_of gs) o) in
    let j : n + 1 + length lines ≡ n + length (l ∷ lines) = omega arith in
    let x = append_assoc ds (g.var ∷ []) (vars_of gs) in
    let y = append_assoc ps ((g.left, g.right) ∷ []) (pairs_of gs) in
    ap (λ (r : Result Items ℕ). follow n r (λ s. items_from (header_in c) e (n + 1) s m (lines ++ rest))) w
    ∙ (take-gates c e (n + 1) (ds ++ g.var ∷ []) os (ps ++ (g.left, g.right) ∷ []) gs lines rest m k small a.1 (λ z. (omega arith, f1)) less (subst AreOnce (sym x) o) (omega arith)
    ∙ (ap (λ (i : ℕ). items_from (header_in c) e i (st ((ds ++ g.var ∷ []) ++ vars_of gs) os ((ps ++ (g.left, g.right) ∷ []) ++ pairs_of gs)) k rest) j
    ∙ (ap (λ (z : List ℕ). items_from (header_in c) e (n + length (l ∷ lines)) (st z os ((ps ++ (g.left, g.right) ∷ []) ++ pairs_of gs)) k rest) x
    ∙ ap (λ (z : List (ℕ × ℕ)). items_from (header_in c) e (n + length (l ∷ lines)) (st (ds ++ vars_of (g ∷ gs)) os z) k rest) y)))

pub items-taken : (c : Counts) (e : ℕ) (front rest : List (List ℕ)) (vs os : List ℕ) (gs : List Definition) (m k : ℕ) → c.max ≤ 268435456 → length front < 576460752303423488 → AreItems c front vs os gs → m ≡ length front + k
    → items_from (header_in c) e 2 no_items m (front ++ rest) ≡ items_from (header_in c) e (2 + length front) (state vs os gs) k rest
items-taken c e front rest vs os gs m k small few h q =
    let n = front-length c front vs os gs h in
    let a = ap length h.lines in
    let b = length-append h.inputs (h.outputs ++ h.gates) in
    let d = length-append h.outputs h.gates in
    let s1 = append_assoc h.inputs (h.outputs ++ h.gates) rest in
    let s2 = append_assoc h.outputs h.gates rest in
    let fi = h.few_inputs in
    let fo = h.few_outputs in
    let o1 : AreOnce vs = once-front vs (vars_of gs) h.once in
    let x = take-inputs c e 2 [] vs h.inputs ((h.outputs ++ h.gates) ++ rest) m (length h.outputs + (length h.gates + k)) small h.inputs_are (omega arith) o1 (omega arith) in
    let y = take-outputs c e (2 + length h.inputs) vs [] os h.outputs (h.gates ++ rest) (length h.outputs + (length h.gates + k)) (length h.gates + k) small h.outputs_are (λ z. let g = h.inputs_first (omega arith) in omega arith) (omega arith) (omega arith) refl in
    let z = take-gates c e (2 + length h.inputs + length h.outputs) vs os [] gs h.gates rest (length h.gates + k) k small h.gates_are (λ z. let g = h.inputs_first (omega arith) in let f = h.outputs_first z in (omega arith, omega arith)) (omega arith) h.once refl in
    let j : 2 + length h.inputs + length h.outputs + length h.gates ≡ 2 + length front = omega arith in
    ap (λ (ls : List (List ℕ)). items_from (header_in c) e 2 no_items m (ls ++ rest)) h.lines
    ∙ (ap (λ (ls : List (List ℕ)). items_from (header_in c) e 2 no_items m ls) s1
    ∙ (x
    ∙ (ap (λ (ls : List (List ℕ)). items_from (header_in c) e (2 + length h.inputs) (st vs [] []) (length h.outputs + (length h.gates + k)) ls) s2
    ∙ (y
    ∙ (z ∙ ap (λ (i : ℕ). items_from (header_in c) e i (state vs os gs) k rest) j)))))
