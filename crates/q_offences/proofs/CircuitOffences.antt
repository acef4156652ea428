-- The offence of a circuit file is its first one.
use Rattle.std.proofs.Common.{◌≡◌, ◌↔◌, ℕ, suc, ◌+◌, ◌-◌, ◌<◌, ◌≤◌, List, [], ◌∷◌, ◌++◌, length, refl, ap, sym, ◌∙◌, arith, subst, Result, Ok, Err, append-nil, length-append}
use Rattle.q_logic.specs.Prelude.{CertificateView}
use Rattle.q_text.specs.Texts.{line_after}
use Rattle.q_aiger.specs.Lines.{lines_of, clipped}
use Rattle.q_aiger.specs.Headers.{Counts, Header, header_of}
use Rattle.q_aiger.specs.Items.{Items, Behind, follow, items_from, items_of}
use Rattle.q_aiger.specs.Symbols.{Names, names_from, no_names}
use Rattle.q_aiger.specs.Circuits.{first_line, other_lines, on_line, and_then, few_bytes, circuits_of, items_in, parse, Offence, refused, cyclic}
use Rattle.q_aiger.specs.Grammar.{Label, Definition}
use Rattle.q_aiger.proofs.AigerGrammar.{file-parsed, parsed-file}
use Rattle.q_aiger.proofs.ResolvedOperands.{lines-few}
use Rattle.q_offences.specs.CircuitTable.{vars_of, IsHeaded, AreItems, ItemOffence, bad_input, twice_input, bad_output, bad_gate, twice_gate, IsBody, LineOffence, item, unended, symbol, missing, IsWholeBody, UseOffence, IsFirstOffence, of_head, of_line, of_use, of_cycle}
use Rattle.q_offences.proofs.CircuitHeads.{headed, header_in, head-offence, offence-head, headed-is, is-headed}
use Rattle.q_offences.proofs.ItemFronts.{state, front-length, inputs-next, no-gates, offence-answered, ItemsSaid, offended, all_taken, items-said, items-taken}
use Rattle.q_offences.proofs.SymbolFronts.{Are, none-named, SymbolCase, taken, lone, next-symbol, NamesSaid, names_offend, names_whole, names-run, Taken, names-taken, unnamed-end, named-end, end-read}
use Rattle.q_offences.proofs.SymbolFronts as symbols
use Rattle.q_offences.proofs.UseTests.{CircuitsSaid, use_offends, circuits_are, circuits-said, use-stuck}

-- the stages of the reader

then-assoc : {X Y Z : Type 0} (r : Result X (ℕ × ℕ)) (f : X → Result Y (ℕ × ℕ)) (g : Y → Result Z (ℕ × ℕ)) → and_then r (λ x. and_then (f x) g) ≡ and_then (and_then r f) g
then-assoc (Ok x) f g = refl
then-assoc (Err e) f g = refl

abbrev body_of : List ℕ → List (List ℕ)
body_of bytes = other_lines (lines_of bytes)

staged : (bytes : List ℕ) → parse bytes ≡ and_then (headed bytes) (items_in (line_after bytes) (body_of bytes))
staged bytes = then-assoc (on_line 1 (header_of (first_line (lines_of bytes)))) (few_bytes bytes) (items_in (line_after bytes) (body_of bytes))

-- counts that a file may have

record Modest (c : Counts) (body : List (List ℕ)) : Type 0 where
  small : c.max ≤ 268435456
  inputs : c.inputs < 576460752303423488
  lines : length body < 576460752303423488

others-few : (ls : List (List ℕ)) → length (other_lines ls) ≤ length ls
others-few [] = omega arith
others-few (l ∷ ls) = omega arith

modest : (bytes : List ℕ) (c : Counts) → IsHeaded bytes c → Modest c (body_of bytes)
modest bytes c h =
    let m = h.max in
    let r = h.says.room in
    let s = h.short in
    let a = lines-few bytes in
    let b = others-few (lines_of bytes) in
    record { small = h.max; inputs = omega arith; lines = omega arith }

-- behind all items the number of outputs is exact
exact : (c : Counts) (body items rest : List (List ℕ)) (vs os : List ℕ) (gs : List Definition) → Modest c body → body ≡ items ++ rest → AreItems c items vs os gs → length os ≡ c.outputs → (clipped c.outputs ≡ c.outputs) × (c.outputs < 576460752303423488)
exact c body items rest vs os gs m b h fo =
    let n = front-length c items vs os gs h in
    let z = ap length b in
    let y = length-append items rest in
    let l = m.lines in
    (omega arith, omega arith)

-- what the lines behind the header say

data BodySaid (c : Counts) (e : ℕ) (body : List (List ℕ)) : Result CertificateView (ℕ × ℕ) → Type 0 where
  line_offends : (line cause : ℕ) → LineOffence c e body line cause → BodySaid c e body (Err (line, cause))
  uses_offend : (vs os : List ℕ) (gs : List Definition) (line : ℕ) → IsWholeBody c body vs os gs → UseOffence c os gs (vs ++ vars_of gs) line → BodySaid c e body (Err (line, 5))
  body_fine : (w : CertificateView) → BodySaid c e body (Ok w)

circuits-next : (c : Counts) (e : ℕ) (body : List (List ℕ)) (vs os : List ℕ) (gs : List Definition) (r : Result CertificateView (ℕ × ℕ)) → IsWholeBody c body vs os gs → CircuitsSaid c (vs ++ vars_of gs) os gs r → BodySaid c e body r
circuits-next c e body vs os gs r b (use_offends line u) = uses_offend vs os gs line b u
circuits-next c e body vs os gs r b (circuits_are w) = body_fine w

names-next : (c : Counts) (e : ℕ) (body : List (List ℕ)) (vs os : List ℕ) (gs : List Definition) (r : Result Names (ℕ × ℕ)) → clipped c.outputs ≡ c.outputs → NamesSaid c e body vs os gs r
    → BodySaid c e body (and_then r (λ t. circuits_of (header_in c) (state vs os gs) t))
names-next c e body vs os gs r q (names_offend line cause o) = line_offends line cause o
names-next c e body vs os gs r q (names_whole t labels behind b h a ni nr) =
    circuits-next c e body vs os gs (circuits_of (header_in c) (state vs os gs) t) (record { labels = labels; behind = behind; body_is = b; end = h; inputs_named = ni; outputs_named = nr })
    (circuits-said c (header_in c) vs os gs t refl q)

items-next : (c : Counts) (e : ℕ) (body : List (List ℕ)) (r : Result Behind (ℕ × ℕ)) → Modest c body → ItemsSaid c e body r
    → BodySaid c e body (and_then r (λ b. and_then (names_from e b.line (no_names c.inputs (clipped c.outputs)) b.lines) (λ t. circuits_of (header_in c) b.items t)))
items-next c e body r m (offended line cause o) = line_offends line cause o
items-next c e body r m (all_taken items rest vs os gs b h fv fo fg) =
    let x = exact c body items rest vs os gs m b h fo in
    let j : 2 + length items + 0 ≡ 2 + length items = omega arith in
    names-next c e body vs os gs (names_from e (2 + length items) (no_names c.inputs (clipped c.outputs)) rest) x.0
    (subst (λ (n : ℕ). NamesSaid c e body vs os gs (names_from e (2 + length items) (no_names c.inputs n) rest)) (sym x.0)
    (subst (λ (n : ℕ). NamesSaid c e body vs os gs (names_from e n (no_names c.inputs c.outputs) rest)) j
    (names-run c e body vs os gs items rest [] [] (no_names c.inputs c.outputs) m.inputs x.1 b h fv fo fg (record { say = tt; inputs = record { there = tt; once = tt; apart = tt }; outputs = record { there = tt; once = tt; apart = tt } }) (none-named c))))

body-said : (c : Counts) (e : ℕ) (body : List (List ℕ)) → Modest c body → BodySaid c e body (items_in e body (header_in c))
body-said c e body m = items-next c e body (items_of (header_in c) e body) m (items-said c e body m.small m.lines)

parse-first : (bytes : List ℕ) (line cause : ℕ) → parse bytes ≡ Err (line, cause) → IsFirstOffence bytes line cause
parse-first bytes line cause e = go (headed bytes) refl (sym (staged bytes) ∙ e) where
  body : (c : Counts) (r : Result CertificateView (ℕ × ℕ)) → IsHeaded bytes c → BodySaid c (line_after bytes) (body_of bytes) r → r ≡ Err (line, cause) → IsFirstOffence bytes line cause
  body c r h (line_offends l k o) f = let p : (l, k) ≡ (line, cause) = cc in subst (λ (x : ℕ × ℕ). IsFirstOffence bytes x.0 x.1) p (of_line c l k h o)
  body c r h (uses_offend vs os gs l b u) f = let p : (l, 5) ≡ (line, cause) = cc in subst (λ (x : ℕ × ℕ). IsFirstOffence bytes x.0 x.1) p (of_use c vs os gs l h b u)
  body c r h (body_fine w) f = cc

  go : (r : Result Header (ℕ × ℕ)) → headed bytes ≡ r → and_then r (items_in (line_after bytes) (body_of bytes)) ≡ Err (line, cause) → IsFirstOffence bytes line cause
  go (Err p) i f = let q : p ≡ (line, cause) = cc in of_head line cause (head-offence bytes line cause (i ∙ ap Err q))
  go (Ok h) i f =
      let c = headed-is bytes h i in
      let g : items_in (line_after bytes) (body_of bytes) (header_in c.0) ≡ Err (line, cause) = ap (items_in (line_after bytes) (body_of bytes)) (sym c.2) ∙ f in
      body c.0 (items_in (line_after bytes) (body_of bytes) (header_in c.0)) c.1 (body-said c.0 (line_after bytes) (body_of bytes) (modest bytes c.0 c.1)) g

-- the other way

-- a line that offends is still due
due : (c : Counts) (front : List (List ℕ)) (vs os : List ℕ) (gs : List Definition) (l : List ℕ) (k : ℕ) → length front < 576460752303423488 → AreItems c front vs os gs → ItemOffence c l vs os gs k → length front < c.inputs + clipped c.outputs + c.gates
due c front vs os gs l k few h o = go k o where
  early : length vs < c.inputs → length front < c.inputs + clipped c.outputs + c.gates
  early m =
      let n = front-length c front vs os gs h in
      let i = inputs-next c front vs os gs h m in
      let a : length os ≡ 0 = ap length i.no_outputs in
      let b : length gs ≡ 0 = ap length i.no_gates in
      omega arith

  late : length vs ≡ c.inputs → length os ≡ c.outputs → length gs < c.gates → length front < c.inputs + clipped c.outputs + c.gates
  late fv fo m = let n = front-length c front vs os gs h in omega arith

  go : (k : ℕ) → ItemOffence c l vs os gs k → length front < c.inputs + clipped c.outputs + c.gates
  go k (bad_input m n) = early m
  go k (twice_input m v i a) = early m
  go k (bad_output fv m n) =
      let x = front-length c front vs os gs h in
      let g = no-gates c front vs os gs h m in
      let b : length gs ≡ 0 = ap length g in
      omega arith
  go k (bad_gate fv fo m n) = late fv fo m
  go k (twice_gate fv fo m d i a) = late fv fo m

abbrev most : Counts → ℕ
most c = c.inputs + clipped c.outputs + c.gates

-- all items, and then names
whole-items : (c : Counts) (e : ℕ) (body : List (List ℕ)) (vs os : List ℕ) (gs : List Definition) (labels : List Label) (behind : List (List ℕ)) → Modest c body → (b : IsBody c body vs os gs labels behind)
    → items_of (header_in c) e body ≡ Ok (record { items = state vs os gs; line = 2 + length b.items; lines = b.symbols ++ behind })
whole-items c e body vs os gs labels behind m b =
    let n = front-length c b.items vs os gs b.items_are in
    let z = ap length b.lines in
    let y = length-append b.items (b.symbols ++ behind) in
    let l = m.lines in
    let x = exact c body b.items (b.symbols ++ behind) vs os gs m b.lines b.items_are b.outputs_all in
    let xo = x.0 in
    let fv = b.inputs_all in
    let fo = b.outputs_all in
    let fg = b.gates_all in
    ap (λ (ls : List (List ℕ)). items_of (header_in c) e ls) b.lines ∙ items-taken c e b.items (b.symbols ++ behind) vs os gs (most c) 0 m.small (omega arith) b.items_are (omega arith)

body-in : (c : Counts) (e : ℕ) (body : List (List ℕ)) (vs os : List ℕ) (gs : List Definition) (labels : List Label) (behind : List (List ℕ)) → Modest c body → (b : IsBody c body vs os gs labels behind)
    → items_in e body (header_in c) ≡ and_then (names_from e (2 + length b.items) (no_names c.inputs c.outputs) (b.symbols ++ behind)) (λ t. circuits_of (header_in c) (state vs os gs) t)
body-in c e body vs os gs labels behind m b =
    let x = exact c body b.items (b.symbols ++ behind) vs os gs m b.lines b.items_are b.outputs_all in
    ap (λ (r : Result Behind (ℕ × ℕ)). and_then r (λ b. and_then (names_from e b.line (no_names c.inputs (clipped c.outputs)) b.lines) (λ t. circuits_of (header_in c) b.items t))) (whole-items c e body vs os gs labels behind m b)
    ∙ ap (λ (n : ℕ). and_then (names_from e (2 + length b.items) (no_names c.inputs n) (b.symbols ++ behind)) (λ t. circuits_of (header_in c) (state vs os gs) t)) x.0

body-taken : (c : Counts) (e : ℕ) (body : List (List ℕ)) (vs os : List ℕ) (gs : List Definition) (labels : List Label) (behind : List (List ℕ)) → Modest c body → (b : IsBody c body vs os gs labels behind)
    → Taken c e (2 + length b.items) (no_names c.inputs c.outputs) b.symbols behind labels
body-taken c e body vs os gs labels behind m b =
    let x = exact c body b.items (b.symbols ++ behind) vs os gs m b.lines b.items_are b.outputs_all in
    names-taken c e (2 + length b.items) b.symbols behind labels m.inputs x.1 b.symbols_are

line-stops : (c : Counts) (e : ℕ) (body : List (List ℕ)) (line cause : ℕ) → Modest c body → LineOffence c e body line cause → items_in e body (header_in c) ≡ Err (line, cause)
line-stops c e body line cause m (item front l rest vs os gs k b h o) =
    let z = ap length b in
    let y = length-append front (l ∷ rest) in
    let ml = m.lines in
    let few : length front < 576460752303423488 = omega arith in
    let d = due c front vs os gs l k few h o in
    let t : items_of (header_in c) e body ≡ items_from (header_in c) e (2 + length front) (state vs os gs) (suc (most c - length front - 1)) (l ∷ rest) =
    ap (λ (ls : List (List ℕ)). items_of (header_in c) e ls) b ∙ items-taken c e front (l ∷ rest) vs os gs (most c) (suc (most c - length front - 1)) m.small few h (omega arith) in
    ap (λ (r : Result Behind (ℕ × ℕ)). and_then r (λ b. and_then (names_from e b.line (no_names c.inputs (clipped c.outputs)) b.lines) (λ t. circuits_of (header_in c) b.items t)))
    (t ∙ ap (λ (r : Result Items ℕ). follow (2 + length front) r (λ s. items_from (header_in c) e (2 + length front + 1) s (most c - length front - 1) rest)) (offence-answered c front vs os gs l k m.small few h o))
line-stops c e body line cause m (unended vs os gs h lt) =
    let ml = m.lines in
    let t : items_of (header_in c) e body ≡ items_from (header_in c) e (2 + length body) (state vs os gs) (suc (most c - length body - 1)) [] =
    ap (λ (ls : List (List ℕ)). items_of (header_in c) e ls) (sym (append-nil body)) ∙ items-taken c e body [] vs os gs (most c) (suc (most c - length body - 1)) m.small m.lines h (omega arith) in
    ap (λ (r : Result Behind (ℕ × ℕ)). and_then r (λ b. and_then (names_from e b.line (no_names c.inputs (clipped c.outputs)) b.lines) (λ t. circuits_of (header_in c) b.items t))) t
line-stops c e body line cause m (symbol vs os gs labels l rest b w n) =
    let x = exact c body b.items (b.symbols ++ (l ∷ rest)) vs os gs m b.lines b.items_are b.outputs_all in
    let t = body-taken c e body vs os gs labels (l ∷ rest) m b in
    body-in c e body vs os gs labels (l ∷ rest) m b
    ∙ ap (λ (r : Result Names (ℕ × ℕ)). and_then r (λ t. circuits_of (header_in c) (state vs os gs) t))
    (t.symbols (2 + length b.items + length b.symbols) refl ∙ go (next-symbol c e (2 + length b.items + length b.symbols) b.symbols labels l t.names m.inputs x.1 b.symbols_are t.are)) where
      go : {s : Names} → SymbolCase c e (2 + length b.items + length b.symbols) b.symbols labels l s → names_from e (2 + length b.items + length b.symbols) s (l ∷ rest) ≡ Err (2 + length b.items + length b.symbols, 7)
      go {s} (taken y t k a q) = absurd (n y k)
      go {s} (lone u q) = absurd (w u)
      go {s} (symbols.refused u f q) = q (λ t. names_from e (2 + length b.items + length b.symbols + 1) t rest)
line-stops c e body line cause m (missing vs os gs labels behind b h n) =
    let t = body-taken c e body vs os gs labels behind m b in
    body-in c e body vs os gs labels behind m b
    ∙ ap (λ (r : Result Names (ℕ × ℕ)). and_then r (λ t. circuits_of (header_in c) (state vs os gs) t))
    (t.symbols (2 + length b.items + length b.symbols) refl ∙ (end-read e (2 + length b.items + length b.symbols) t.names behind h ∙ unnamed-end c e labels t.names t.are n))

use-stops : (c : Counts) (e : ℕ) (body : List (List ℕ)) (vs os : List ℕ) (gs : List Definition) (line : ℕ) → Modest c body → IsWholeBody c body vs os gs → UseOffence c os gs (vs ++ vars_of gs) line → items_in e body (header_in c) ≡ Err (line, 5)
use-stops c e body vs os gs line m w u =
    let b = w.body_is in
    let x = exact c body b.items (b.symbols ++ w.behind) vs os gs m b.lines b.items_are b.outputs_all in
    let t = body-taken c e body vs os gs w.labels w.behind m b in
    body-in c e body vs os gs w.labels w.behind m b
    ∙ (ap (λ (r : Result Names (ℕ × ℕ)). and_then r (λ t. circuits_of (header_in c) (state vs os gs) t))
    (t.symbols (2 + length b.items + length b.symbols) refl ∙ (end-read e (2 + length b.items + length b.symbols) t.names w.behind w.end ∙ named-end c e w.labels t.names t.are w.inputs_named w.outputs_named))
    ∙ use-stuck c (header_in c) vs os gs t.names line refl x.0 u)

behind-head : (bytes : List ℕ) (c : Counts) → IsHeaded bytes c → parse bytes ≡ items_in (line_after bytes) (body_of bytes) (header_in c)
behind-head bytes c h = staged bytes ∙ ap (λ (r : Result Header (ℕ × ℕ)). and_then r (items_in (line_after bytes) (body_of bytes))) (is-headed bytes c h)

offence-first : (bytes : List ℕ) (line cause : ℕ) → Offence bytes line cause → IsFirstOffence bytes line cause
offence-first bytes line cause (refused l k e) = parse-first bytes l k e
offence-first bytes line cause (cyclic f g e h) = of_cycle f g (parsed-file bytes f e) h

first-offence : (bytes : List ℕ) (line cause : ℕ) → IsFirstOffence bytes line cause → Offence bytes line cause
first-offence bytes line cause (of_head l k o) = refused l k (staged bytes ∙ ap (λ (r : Result Header (ℕ × ℕ)). and_then r (items_in (line_after bytes) (body_of bytes))) (offence-head bytes l k o))
first-offence bytes line cause (of_line c l k h o) = refused l k (behind-head bytes c h ∙ line-stops c (line_after bytes) (body_of bytes) l k (modest bytes c h) o)
first-offence bytes line cause (of_use c vs os gs l h b u) = refused l 5 (behind-head bytes c h ∙ use-stops c (line_after bytes) (body_of bytes) vs os gs l (modest bytes c h) b u)
first-offence bytes line cause (of_cycle w g f h) = cyclic w g (file-parsed bytes w f) h

pub circuits-first : (bytes : List ℕ) (line cause : ℕ) → Offence bytes line cause ↔ IsFirstOffence bytes line cause
circuits-first bytes line cause = (offence-first bytes line cause, first-offence bytes line cause)
