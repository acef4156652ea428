-- Lines of symbols that stand in front, and the next one.
use Rattle.std.proofs.Common.{◌≡◌, ◌≢◌, ℕ, ◌+◌, ◌<◌, ◌≤◌, ◌==◌, ◌&&◌, Bool, true, false, cond, List, [], ◌∷◌, ◌++◌, length, set, refl, ap, sym, ◌∙◌, arith, subst, Option, Some, None, Result, Ok, Err, append_assoc, append-nil, length-append}
use Rattle.std.specs.List.{AllZip}
use Rattle.std.proofs.lemmas.Bool.{eqb-true}
use Rattle.q_logic.proofs.Booleans.{both-left, both-right}
use Rattle.q_text.specs.Words.{digits}
use Rattle.q_dimacs.proofs.RoundTrip.{all-left}
use Rattle.q_aiger.specs.Lines.{words, number, clipped, clipped_some}
use Rattle.q_aiger.specs.Headers.{Counts}
use Rattle.q_aiger.specs.Items.{follow}
use Rattle.q_aiger.specs.Symbols.{Symbol, nothing, comment, input_name, output_name, strange, input_symbol, output_symbol, is_c, symbol_of, Names, with_name, all_named, names_at_end, with_inputs, with_outputs, symbol_turn, names_from, no_names}
use Rattle.q_aiger.specs.Grammar.{Label, blank, of_input, of_output, IsSymbol, Says, IsEnd, input_labels, output_labels, Definition}
use Rattle.q_aiger.proofs.CanonicalLines.{zip-append}
use Rattle.q_offences.specs.CircuitTable.{AreItems, MayName, AreSymbols, AllNamed, IsBody, LineOffence, symbol, missing}
use Rattle.q_offences.proofs.FrontStates.{pairs-left, all-last}
use Rattle.q_offences.proofs.NameTests.{AreGiven, none-given, NameSaid, no_name, name_given, name-said, named-all, all-is-named}

-- what a line is

pub data SymbolIs (ws : List (List ℕ)) : Symbol → Type 0 where
  is_nothing : ws ≡ [] → SymbolIs ws nothing
  is_lone : ws ≡ (99 ∷ []) ∷ [] → SymbolIs ws comment
  is_input : (left right : List ℕ) (i v : ℕ) → ws ≡ (105 ∷ left) ∷ right ∷ [] → digits left ≡ Some i → digits right ≡ Some v → SymbolIs ws (input_name (clipped i) (clipped v))
  is_output : (left right : List ℕ) (i v : ℕ) → ws ≡ (111 ∷ left) ∷ right ∷ [] → digits left ≡ Some i → digits right ≡ Some v → SymbolIs ws (output_name (clipped i) (clipped v))
  is_strange : SymbolIs ws strange

c-is : (w : List ℕ) → is_c w ≡ true → w ≡ 99 ∷ []
c-is [] e = absurd (cc)
c-is (b ∷ []) e = ap (λ x. x ∷ []) (eqb-true b 99 e)
c-is (b ∷ c ∷ bs) e = absurd (cc)

symbol-is : (ws : List (List ℕ)) → SymbolIs ws (symbol_of ws)
symbol-is [] = is_nothing refl
symbol-is (w ∷ []) = go (is_c w) refl
  where
    go : (t : Bool) → is_c w ≡ t → SymbolIs (w ∷ []) (cond t comment strange)
    go true e = is_lone (ap (λ x. x ∷ []) (c-is w e))
    go false e = is_strange
symbol-is ([] ∷ v ∷ []) = is_strange
symbol-is ((b ∷ bs) ∷ v ∷ []) = go (b == 105) refl (b == 111) refl
  where
    input : b ≡ 105 → (x : Option ℕ) → digits bs ≡ x → (y : Option ℕ) → digits v ≡ y → SymbolIs ((b ∷ bs) ∷ v ∷ []) (input_symbol (clipped_some x) (clipped_some y))
    input e (Some i) p (Some n) q = is_input bs v i n (ap (λ c. (c ∷ bs) ∷ v ∷ []) e) p q
    input e (Some i) p None q = is_strange
    input e None p (Some n) q = is_strange
    input e None p None q = is_strange

    output : b ≡ 111 → (x : Option ℕ) → digits bs ≡ x → (y : Option ℕ) → digits v ≡ y → SymbolIs ((b ∷ bs) ∷ v ∷ []) (output_symbol (clipped_some x) (clipped_some y))
    output e (Some i) p (Some n) q = is_output bs v i n (ap (λ c. (c ∷ bs) ∷ v ∷ []) e) p q
    output e (Some i) p None q = is_strange
    output e None p (Some n) q = is_strange
    output e None p None q = is_strange

    go : (s : Bool) → (b == 105) ≡ s → (t : Bool) → (b == 111) ≡ t → SymbolIs ((b ∷ bs) ∷ v ∷ []) (cond s (input_symbol (number bs) (number v)) (cond t (output_symbol (number bs) (number v)) strange))
    go true p t q = input (eqb-true b 105 p) (digits bs) refl (digits v) refl
    go false p true q = output (eqb-true b 111 q) (digits bs) refl (digits v) refl
    go false p false q = is_strange
symbol-is ([] ∷ v ∷ x ∷ ws) = is_strange
symbol-is ((b ∷ bs) ∷ v ∷ x ∷ ws) = is_strange

-- and what a label is to the reader
abbrev symbol_as : Label → Symbol
symbol_as blank = nothing
symbol_as (of_input i v) = input_name (clipped i) (clipped v)
symbol_as (of_output i v) = output_name (clipped i) (clipped v)

says-symbol : (l : List ℕ) (y : Label) → Says l y → symbol_of (words l) ≡ symbol_as y
says-symbol l blank h = ap symbol_of h
says-symbol l (of_input i v) h =
    ap symbol_of h.spelled ∙ (ap (λ x. input_symbol (clipped_some x) (number h.right)) h.place_is ∙ ap (λ x. input_symbol (Some (clipped i)) (clipped_some x)) h.name_is)
says-symbol l (of_output i v) h =
    ap symbol_of h.spelled ∙ (ap (λ x. output_symbol (clipped_some x) (number h.right)) h.place_is ∙ ap (λ x. output_symbol (Some (clipped i)) (clipped_some x)) h.name_is)

not-as : (y : Label) → symbol_as y ≡ strange → ⊥
not-as blank e = cc
not-as (of_input i v) e = cc
not-as (of_output i v) e = cc

not-comment : (y : Label) → symbol_as y ≡ comment → ⊥
not-comment blank e = cc
not-comment (of_input i v) e = cc
not-comment (of_output i v) e = cc

same-symbol : (letter : ℕ) (l : List ℕ) (i v j w : ℕ) → IsSymbol letter l i v → IsSymbol letter l j w → (i ≡ j) × (v ≡ w)
same-symbol letter l i v j w h k =
    let e : (letter ∷ h.left) ∷ h.right ∷ [] ≡ (letter ∷ k.left) ∷ k.right ∷ [] = sym h.spelled ∙ k.spelled in
    let a : h.left ≡ k.left = cc in
    let b : h.right ≡ k.right = cc in
    let p : Some i ≡ Some j = sym h.place_is ∙ (ap digits a ∙ k.place_is) in
    let q : Some v ≡ Some w = sym h.name_is ∙ (ap digits b ∙ k.name_is) in
    (cc, cc)

apart-letters : {X : Type 0} (l : List ℕ) (i v j w : ℕ) → IsSymbol 105 l i v → IsSymbol 111 l j w → X
apart-letters l i v j w h k =
    let e : (105 ∷ h.left) ∷ h.right ∷ [] ≡ (111 ∷ k.left) ∷ k.right ∷ [] = sym h.spelled ∙ k.spelled in
    let f : ◌≡◌ {A = ℕ} 105 111 = cc in
    absurd (omega (arith, f))

-- a line says one thing
says-same : (l : List ℕ) (y z : Label) → Says l y → Says l z → y ≡ z
says-same l blank blank h k = refl
says-same l blank (of_input i v) h k = absurd (let e : [] ≡ (105 ∷ k.left) ∷ k.right ∷ [] = sym h ∙ k.spelled in cc)
says-same l blank (of_output i v) h k = absurd (let e : [] ≡ (111 ∷ k.left) ∷ k.right ∷ [] = sym h ∙ k.spelled in cc)
says-same l (of_input i v) blank h k = absurd (let e : [] ≡ (105 ∷ h.left) ∷ h.right ∷ [] = sym k ∙ h.spelled in cc)
says-same l (of_output i v) blank h k = absurd (let e : [] ≡ (111 ∷ h.left) ∷ h.right ∷ [] = sym k ∙ h.spelled in cc)
says-same l (of_input i v) (of_input j w) h k = let s = same-symbol 105 l i v j w h k in rw (s.0, s.1) refl
says-same l (of_output i v) (of_output j w) h k = let s = same-symbol 111 l i v j w h k in rw (s.0, s.1) refl
says-same l (of_input i v) (of_output j w) h k = apart-letters l i v j w h k
says-same l (of_output i v) (of_input j w) h k = apart-letters l j w i v k h

-- labels, one behind the other

input-labels-append : (xs ys : List Label) → input_labels (xs ++ ys) ≡ input_labels xs ++ input_labels ys
input-labels-append [] ys = refl
input-labels-append (blank ∷ xs) ys = input-labels-append xs ys
input-labels-append (of_input i v ∷ xs) ys = ap (λ (x : List (ℕ × ℕ)). (i, v) ∷ x) (input-labels-append xs ys)
input-labels-append (of_output i v ∷ xs) ys = input-labels-append xs ys

output-labels-append : (xs ys : List Label) → output_labels (xs ++ ys) ≡ output_labels xs ++ output_labels ys
output-labels-append [] ys = refl
output-labels-append (blank ∷ xs) ys = output-labels-append xs ys
output-labels-append (of_input i v ∷ xs) ys = output-labels-append xs ys
output-labels-append (of_output i v ∷ xs) ys = ap (λ (x : List (ℕ × ℕ)). (i, v) ∷ x) (output-labels-append xs ys)

-- the reader's lists are those of the labels
pub record Are (c : Counts) (labels : List Label) (s : Names) : Type 0 where
  pub inputs : AreGiven c.inputs (input_labels labels) s.inputs
  pub outputs : AreGiven c.outputs (output_labels labels) s.outputs

pub none-named : (c : Counts) → Are c [] (no_names c.inputs c.outputs)
none-named c = record { inputs = none-given c.inputs; outputs = none-given c.outputs }

-- clipped numbers name the same
clipped-may : (n : ℕ) (labels : List (ℕ × ℕ)) (i v : ℕ) → n < 576460752303423488 → MayName n (labels ++ (i, v) ∷ []) → (clipped i ≡ i) × (clipped v ≡ v)
clipped-may n labels i v few m =
    let t = all-last (λ p. (p.0 < n) × (1 ≤ p.1) × (p.1 ≤ 16777215)) labels (i, v) m.there in
    let a : i < n = t.0 in
    let b : v ≤ 16777215 = t.2 in
    (omega arith, omega arith)

may-clipped : (n : ℕ) (labels : List (ℕ × ℕ)) (i v : ℕ) → n < 576460752303423488 → MayName n (labels ++ (clipped i, clipped v) ∷ []) → (clipped i ≡ i) × (clipped v ≡ v)
may-clipped n labels i v few m =
    let t = all-last (λ p. (p.0 < n) × (1 ≤ p.1) × (p.1 ≤ 16777215)) labels (clipped i, clipped v) m.there in
    let a : clipped i < n = t.0 in
    let b : clipped v ≤ 16777215 = t.2 in
    (omega arith, omega arith)

-- one label more, as the reader has it
data LabelSaid (n : ℕ) (labels : List (ℕ × ℕ)) (ns : List ℕ) (i v : ℕ) : Result (List ℕ) ℕ → Type 0 where
  label_bad : ¬ MayName n (labels ++ (i, v) ∷ []) → LabelSaid n labels ns i v (Err 7)
  label_given : (ms : List ℕ) → AreGiven n (labels ++ (i, v) ∷ []) ms → LabelSaid n labels ns i v (Ok ms)

label-said : (n : ℕ) (labels : List (ℕ × ℕ)) (ns : List ℕ) (i v : ℕ) → n < 576460752303423488 → AreGiven n labels ns → LabelSaid n labels ns i v (with_name ns (clipped i) (clipped v))
label-said n labels ns i v few g = go (with_name ns (clipped i) (clipped v)) (name-said n labels ns (clipped i) (clipped v) g) where
  go : (r : Result (List ℕ) ℕ) → NameSaid n labels ns (clipped i) (clipped v) r → LabelSaid n labels ns i v r
  go r (no_name f) = label_bad (λ m. let k = clipped-may n labels i v few m in f (subst (λ (p : ℕ × ℕ). MayName n (labels ++ p ∷ [])) (let e : (i, v) ≡ (clipped i, clipped v) = rw (k.0, k.1) refl in e) m))
  go r (name_given h) =
      let k = may-clipped n labels i v few h.may in
      label_given (set ns (clipped i) (clipped v)) (subst (λ (p : ℕ × ℕ). AreGiven n (labels ++ p ∷ []) (set ns (clipped i) (clipped v))) (let e : (clipped i, clipped v) ≡ (i, v) = rw (k.0, k.1) refl in e) h)

-- the next line

pub data SymbolCase (c : Counts) (e n : ℕ) (lines : List (List ℕ)) (labels : List Label) (l : List ℕ) (s : Names) : Type 0 where
  taken : (y : Label) (t : Names) → AreSymbols c (lines ++ l ∷ []) (labels ++ y ∷ []) → Are c (labels ++ y ∷ []) t
      → ((later : Names → Result Names (ℕ × ℕ)) → symbol_turn e n s (symbol_of (words l)) later ≡ later t) → SymbolCase c e n lines labels l s
  lone : words l ≡ (99 ∷ []) ∷ [] → ((later : Names → Result Names (ℕ × ℕ)) → symbol_turn e n s (symbol_of (words l)) later ≡ names_at_end e s) → SymbolCase c e n lines labels l s
  refused : words l ≢ (99 ∷ []) ∷ [] → ((y : Label) → ¬ AreSymbols c (lines ++ l ∷ []) (labels ++ y ∷ []))
      → ((later : Names → Result Names (ℕ × ℕ)) → symbol_turn e n s (symbol_of (words l)) later ≡ Err (n, 7)) → SymbolCase c e n lines labels l s

zip-last : (lines : List (List ℕ)) (labels : List Label) (l : List ℕ) (y : Label) → AllZip Says lines labels → AllZip Says (lines ++ l ∷ []) (labels ++ y ∷ []) → Says l y
zip-last [] [] l y h k = k.0
zip-last [] (x ∷ labels) l y h k = absurd h
zip-last (m ∷ lines) [] l y h k = absurd h
zip-last (m ∷ lines) (x ∷ labels) l y h k = zip-last lines labels l y h.1 k.1

more-symbols : (c : Counts) (lines : List (List ℕ)) (labels : List Label) (l : List ℕ) (y : Label) (t : Names) → AreSymbols c lines labels → Says l y → Are c (labels ++ y ∷ []) t → AreSymbols c (lines ++ l ∷ []) (labels ++ y ∷ [])
more-symbols c lines labels l y t h s a = record { say = zip-append Says lines (l ∷ []) labels (y ∷ []) h.say (s, tt); inputs = a.inputs.may; outputs = a.outputs.may }

symbol-case : (c : Counts) (e n : ℕ) (lines : List (List ℕ)) (labels : List Label) (l : List ℕ) (s : Names) → c.inputs < 576460752303423488 → c.outputs < 576460752303423488 → AreSymbols c lines labels → Are c labels s
    → (y : Symbol) → symbol_of (words l) ≡ y → SymbolIs (words l) y → SymbolCase c e n lines labels l s
symbol-case c e n lines labels l s few fewo h a y q (is_nothing w) =
    let i = input-labels-append labels (blank ∷ []) ∙ append-nil (input_labels labels) in
    let o = output-labels-append labels (blank ∷ []) ∙ append-nil (output_labels labels) in
    let b : Are c (labels ++ blank ∷ []) s = record { inputs = subst (λ (x : List (ℕ × ℕ)). AreGiven c.inputs x s.inputs) (sym i) a.inputs; outputs = subst (λ (x : List (ℕ × ℕ)). AreGiven c.outputs x s.outputs) (sym o) a.outputs } in
    taken blank s (more-symbols c lines labels l blank s h w b) b (λ later. ap (λ z. symbol_turn e n s z later) q)
symbol-case c e n lines labels l s few fewo h a y q (is_lone w) = lone w (λ later. ap (λ z. symbol_turn e n s z later) q)
symbol-case c e n lines labels l s few fewo h a y q is_strange =
    refused (λ w. let f : strange ≡ comment = sym q ∙ ap symbol_of w in cc)
    (λ z k. not-as z (sym (says-symbol l z (zip-last lines labels l z h.say k.say)) ∙ q)) (λ later. ap (λ z. symbol_turn e n s z later) q)
symbol-case c e n lines labels l s few fewo h a y q (is_input left right i v w p r) = go (with_name s.inputs (clipped i) (clipped v)) refl (label-said c.inputs (input_labels labels) s.inputs i v few a.inputs) where
  go : (x : Result (List ℕ) ℕ) → with_name s.inputs (clipped i) (clipped v) ≡ x → LabelSaid c.inputs (input_labels labels) s.inputs i v x → SymbolCase c e n lines labels l s
  go x f (label_bad b) =
      let k : Says l (of_input i v) = record { left = left; right = right; spelled = w; place_is = p; name_is = r } in
      refused (λ u. let g : input_name (clipped i) (clipped v) ≡ comment = sym q ∙ ap symbol_of u in cc)
      (λ z m. (let t : z ≡ of_input i v = says-same l z (of_input i v) (zip-last lines labels l z h.say m.say) k in
      b (subst (λ (x : List (ℕ × ℕ)). MayName c.inputs x) (input-labels-append labels (of_input i v ∷ [])) (subst (λ (z : Label). MayName c.inputs (input_labels (labels ++ z ∷ []))) t m.inputs))))
      (λ later. ap (λ z. symbol_turn e n s z later) q ∙ ap (λ x. follow n (with_inputs s x) later) f)
  go x f (label_given ms g) =
      let k : Says l (of_input i v) = record { left = left; right = right; spelled = w; place_is = p; name_is = r } in
      let li = input-labels-append labels (of_input i v ∷ []) in
      let lo = output-labels-append labels (of_input i v ∷ []) ∙ append-nil (output_labels labels) in
      let b : Are c (labels ++ of_input i v ∷ []) (record { inputs = ms; outputs = s.outputs }) = record { inputs = subst (λ (x : List (ℕ × ℕ)). AreGiven c.inputs x ms) (sym li) g; outputs = subst (λ (x : List (ℕ × ℕ)). AreGiven c.outputs x s.outputs) (sym lo) a.outputs } in
      taken (of_input i v) (record { inputs = ms; outputs = s.outputs }) (more-symbols c lines labels l (of_input i v) (record { inputs = ms; outputs = s.outputs }) h k b) b
      (λ later. ap (λ z. symbol_turn e n s z later) q ∙ ap (λ x. follow n (with_inputs s x) later) f)
symbol-case c e n lines labels l s few fewo h a y q (is_output left right i v w p r) = go (with_name s.outputs (clipped i) (clipped v)) refl (label-said c.outputs (output_labels labels) s.outputs i v fewo a.outputs) where
  go : (x : Result (List ℕ) ℕ) → with_name s.outputs (clipped i) (clipped v) ≡ x → LabelSaid c.outputs (output_labels labels) s.outputs i v x → SymbolCase c e n lines labels l s
  go x f (label_bad b) =
      let k : Says l (of_output i v) = record { left = left; right = right; spelled = w; place_is = p; name_is = r } in
      refused (λ u. let g : output_name (clipped i) (clipped v) ≡ comment = sym q ∙ ap symbol_of u in cc)
      (λ z m. (let t : z ≡ of_output i v = says-same l z (of_output i v) (zip-last lines labels l z h.say m.say) k in
      b (subst (λ (x : List (ℕ × ℕ)). MayName c.outputs x) (output-labels-append labels (of_output i v ∷ [])) (subst (λ (z : Label). MayName c.outputs (output_labels (labels ++ z ∷ []))) t m.outputs))))
      (λ later. ap (λ z. symbol_turn e n s z later) q ∙ ap (λ x. follow n (with_outputs s x) later) f)
  go x f (label_given ms g) =
      let k : Says l (of_output i v) = record { left = left; right = right; spelled = w; place_is = p; name_is = r } in
      let lo = output-labels-append labels (of_output i v ∷ []) in
      let li = input-labels-append labels (of_output i v ∷ []) ∙ append-nil (input_labels labels) in
      let b : Are c (labels ++ of_output i v ∷ []) (record { inputs = s.inputs; outputs = ms }) = record { inputs = subst (λ (x : List (ℕ × ℕ)). AreGiven c.inputs x s.inputs) (sym li) a.inputs; outputs = subst (λ (x : List (ℕ × ℕ)). AreGiven c.outputs x ms) (sym lo) g } in
      taken (of_output i v) (record { inputs = s.inputs; outputs = ms }) (more-symbols c lines labels l (of_output i v) (record { inputs = s.inputs; outputs = ms }) h k b) b
      (λ later. ap (λ z. symbol_turn e n s z later) q ∙ ap (λ x. follow n (with_outputs s x) later) f)

pub next-symbol : (c : Counts) (e n : ℕ) (lines : List (List ℕ)) (labels : List Label) (l : List ℕ) (s : Names) → c.inputs < 576460752303423488 → c.outputs < 576460752303423488 → AreSymbols c lines labels → Are c labels s → SymbolCase c e n lines labels l s
next-symbol c e n lines labels l s few fewo h a = symbol-case c e n lines labels l s few fewo h a (symbol_of (words l)) refl (symbol-is (words l))

-- all lines of symbols

pub data NamesSaid (c : Counts) (e : ℕ) (body : List (List ℕ)) (vs os : List ℕ) (gs : List Definition) : Result Names (ℕ × ℕ) → Type 0 where
  names_offend : (line cause : ℕ) → LineOffence c e body line cause → NamesSaid c e body vs os gs (Err (line, cause))
  names_whole : (t : Names) (labels : List Label) (behind : List (List ℕ)) → IsBody c body vs os gs labels behind → IsEnd behind → Are c labels t → AllNamed c.inputs (input_labels labels) → AllNamed c.outputs (output_labels labels)
      → NamesSaid c e body vs os gs (Ok t)

ends-said : (c : Counts) (e : ℕ) (body : List (List ℕ)) (vs os : List ℕ) (gs : List Definition) (labels : List Label) (behind : List (List ℕ)) (s : Names) → IsBody c body vs os gs labels behind → IsEnd behind → Are c labels s → NamesSaid c e body vs os gs (names_at_end e s)
ends-said c e body vs os gs labels behind s b h a = go (all_named s.inputs && all_named s.outputs) refl where
  go : (x : Bool) → all_named s.inputs && all_named s.outputs ≡ x → NamesSaid c e body vs os gs (cond x (Ok s) (Err (e, 7)))
  go true p = names_whole s labels behind b h a (named-all c.inputs (input_labels labels) s.inputs a.inputs (both-left _ _ p)) (named-all c.outputs (output_labels labels) s.outputs a.outputs (both-right (all_named s.inputs) _ p))
  go false p = names_offend e 7 (missing vs os gs labels behind b h (λ n.
      let i = all-is-named c.inputs (input_labels labels) s.inputs a.inputs n.0 in
      let o = all-is-named c.outputs (output_labels labels) s.outputs a.outputs n.1 in
      let t : all_named s.inputs && all_named s.outputs ≡ true = rw (i, o) refl in
      cc))

pub names-run : (c : Counts) (e : ℕ) (body : List (List ℕ)) (vs os : List ℕ) (gs : List Definition) (items ls lines : List (List ℕ)) (labels : List Label) (s : Names) → c.inputs < 576460752303423488 → c.outputs < 576460752303423488
    → body ≡ items ++ (lines ++ ls) → AreItems c items vs os gs → length vs ≡ c.inputs → length os ≡ c.outputs → length gs ≡ c.gates → AreSymbols c lines labels → Are c labels s
    → NamesSaid c e body vs os gs (names_from e (2 + length items + length lines) s ls)
names-run c e body vs os gs items [] lines labels s few fewo b h fv fo fg k a =
    ends-said c e body vs os gs labels [] s (record { items = items; symbols = lines; lines = b; items_are = h; inputs_all = fv; outputs_all = fo; gates_all = fg; symbols_are = k }) tt a
names-run c e body vs os gs items (l ∷ ls) lines labels s few fewo b h fv fo fg k a =
    go (next-symbol c e (2 + length items + length lines) lines labels l s few fewo k a)
    (λ y t m i. names-run c e body vs os gs items ls (lines ++ l ∷ []) (labels ++ y ∷ []) t few fewo (b ∙ ap (λ (x : List (List ℕ)). items ++ x) (sym (append_assoc lines (l ∷ []) ls))) h fv fo fg m i) where
      go : SymbolCase c e (2 + length items + length lines) lines labels l s
          → ((y : Label) (t : Names) → AreSymbols c (lines ++ l ∷ []) (labels ++ y ∷ []) → Are c (labels ++ y ∷ []) t → NamesSaid c e body vs os gs (names_from e (2 + length items + length (lines ++ l ∷ [])) t ls))
          → NamesSaid c e body vs os gs (symbol_turn e (2 + length items + length lines) s (symbol_of (words l)) (λ t. names_from e (2 + length items + length lines + 1) t ls))
      go (taken y t m i q) ih =
          let x = length-append lines (l ∷ []) in
          let j : 2 + length items + length (lines ++ l ∷ []) ≡ 2 + length items + length lines + 1 = omega arith in
          subst (NamesSaid c e body vs os gs) (sym (q (λ t. names_from e (2 + length items + length lines + 1) t ls))) (subst (λ (n : ℕ). NamesSaid c e body vs os gs (names_from e n t ls)) j (ih y t m i))
      go (lone w q) ih =
          subst (NamesSaid c e body vs os gs) (sym (q (λ t. names_from e (2 + length items + length lines + 1) t ls)))
          (ends-said c e body vs os gs labels (l ∷ ls) s (record { items = items; symbols = lines; lines = b; items_are = h; inputs_all = fv; outputs_all = fo; gates_all = fg; symbols_are = k }) w a)
      go (refused w n q) ih =
          subst (NamesSaid c e body vs os gs) (sym (q (λ t. names_from e (2 + length items + length lines + 1) t ls)))
          (names_offend (2 + length items + length lines) 7 (symbol vs os gs labels l ls (record { items = items; symbols = lines; lines = b; items_are = h; inputs_all = fv; outputs_all = fo; gates_all = fg; symbols_are = k }) w n))

-- lines that stand in front are taken

may-front : (n : ℕ) (xs ys : List (ℕ × ℕ)) → MayName n (xs ++ ys) → MayName n xs
may-front n xs ys h = record {
  there = all-left (λ p. (p.0 < n) × (1 ≤ p.1) × (p.1 ≤ 16777215)) xs ys h.there;
  once = pairs-left (λ p q. p.0 ≢ q.0) xs ys h.once;
  apart = pairs-left (λ p q. p.1 ≢ q.1) xs ys h.apart;
}

pub record Taken (c : Counts) (e n : ℕ) (s : Names) (lines rest : List (List ℕ)) (labels : List Label) : Type 0 where
  pub names : Names
  pub are : Are c labels names
  pub symbols : (m : ℕ) → m ≡ n + length lines → names_from e n s (lines ++ rest) ≡ names_from e m names rest

names-take : (c : Counts) (e n : ℕ) (s : Names) (front lines rest : List (List ℕ)) (done labels : List Label) → c.inputs < 576460752303423488 → c.outputs < 576460752303423488 → AreSymbols c front done → Are c done s → AllZip Says lines labels
    → MayName c.inputs (input_labels (done ++ labels)) → MayName c.outputs (output_labels (done ++ labels)) → Taken c e n s lines rest (done ++ labels)
names-take c e n s front [] rest done [] few fewo h a w mi mo =
    record { names = s; are = subst (λ (x : List Label). Are c x s) (sym (append-nil done)) a; symbols = λ m q. ap (λ (k : ℕ). names_from e k s rest) (let k : n ≡ m = omega arith in k) }
names-take c e n s front [] rest done (y ∷ labels) few fewo h a w mi mo = absurd w
names-take c e n s front (l ∷ lines) rest done [] few fewo h a w mi mo = absurd w
names-take c e n s front (l ∷ lines) rest done (y ∷ labels) few fewo h a w mi mo =
    go (next-symbol c e n front done l s few fewo h a)
    (λ t k i. names-take c e (n + 1) t (front ++ l ∷ []) lines rest (done ++ y ∷ []) labels few fewo k i w.1
    (subst (λ (x : List Label). MayName c.inputs (input_labels x)) (sym (append_assoc done (y ∷ []) labels)) mi)
    (subst (λ (x : List Label). MayName c.outputs (output_labels x)) (sym (append_assoc done (y ∷ []) labels)) mo)) where
      go : SymbolCase c e n front done l s
          → ((t : Names) → AreSymbols c (front ++ l ∷ []) (done ++ y ∷ []) → Are c (done ++ y ∷ []) t → Taken c e (n + 1) t lines rest ((done ++ y ∷ []) ++ labels))
          → Taken c e n s (l ∷ lines) rest (done ++ y ∷ labels)
      go (taken z t k i q) ih =
          let d : z ≡ y = says-same l z y (zip-last front done l z h.say k.say) w.0 in
          let r = ih t (subst (λ (x : Label). AreSymbols c (front ++ l ∷ []) (done ++ x ∷ [])) d k) (subst (λ (x : Label). Are c (done ++ x ∷ []) t) d i) in
          record {
            names = r.names;
            are = subst (λ (x : List Label). Are c x r.names) (append_assoc done (y ∷ []) labels) r.are;
            symbols = λ m j. q (λ t. names_from e (n + 1) t (lines ++ rest)) ∙ r.symbols m (omega arith);
          }
      go (lone u q) ih = absurd (not-comment y (sym (says-symbol l y w.0) ∙ ap symbol_of u))
      go (refused u b q) ih = absurd (b y (record {
        say = zip-append Says front (l ∷ []) done (y ∷ []) h.say (w.0, tt);
        inputs = may-front c.inputs (input_labels (done ++ y ∷ [])) (input_labels labels) (subst (λ (x : List (ℕ × ℕ)). MayName c.inputs x) (input-labels-append (done ++ y ∷ []) labels) (subst (λ (x : List Label). MayName c.inputs (input_labels x)) (sym (append_assoc done (y ∷ []) labels)) mi));
        outputs = may-front c.outputs (output_labels (done ++ y ∷ [])) (output_labels labels) (subst (λ (x : List (ℕ × ℕ)). MayName c.outputs x) (output-labels-append (done ++ y ∷ []) labels) (subst (λ (x : List Label). MayName c.outputs (output_labels x)) (sym (append_assoc done (y ∷ []) labels)) mo));
      }))

pub names-taken : (c : Counts) (e n : ℕ) (lines rest : List (List ℕ)) (labels : List Label) → c.inputs < 576460752303423488 → c.outputs < 576460752303423488 → AreSymbols c lines labels → Taken c e n (no_names c.inputs c.outputs) lines rest labels
names-taken c e n lines rest labels few fewo h =
    names-take c e n (no_names c.inputs c.outputs) [] lines rest [] labels few fewo (record { say = tt; inputs = record { there = tt; once = tt; apart = tt }; outputs = record { there = tt; once = tt; apart = tt } }) (none-named c) h.say h.inputs h.outputs

-- the end, told

pub unnamed-end : (c : Counts) (e : ℕ) (labels : List Label) (s : Names) → Are c labels s → ¬ (AllNamed c.inputs (input_labels labels) × AllNamed c.outputs (output_labels labels)) → names_at_end e s ≡ Err (e, 7)
unnamed-end c e labels s a n = go (all_named s.inputs && all_named s.outputs) refl where
  go : (x : Bool) → all_named s.inputs && all_named s.outputs ≡ x → cond {A = Result Names (ℕ × ℕ)} x (Ok s) (Err (e, 7)) ≡ Err (e, 7)
  go false p = refl
  go true p = absurd (n (named-all c.inputs (input_labels labels) s.inputs a.inputs (both-left _ _ p), named-all c.outputs (output_labels labels) s.outputs a.outputs (both-right (all_named s.inputs) _ p)))

pub named-end : (c : Counts) (e : ℕ) (labels : List Label) (s : Names) → Are c labels s → AllNamed c.inputs (input_labels labels) → AllNamed c.outputs (output_labels labels) → names_at_end e s ≡ Ok s
named-end c e labels s a n m = let i = all-is-named c.inputs (input_labels labels) s.inputs a.inputs n in let o = all-is-named c.outputs (output_labels labels) s.outputs a.outputs m in rw (i, o) refl

pub end-read : (e n : ℕ) (s : Names) (ls : List (List ℕ)) → IsEnd ls → names_from e n s ls ≡ names_at_end e s
end-read e n s [] h = refl
end-read e n s (l ∷ ls) h = ap (λ ws. symbol_turn e n s (symbol_of ws) (λ t. names_from e (n + 1) t ls)) h
