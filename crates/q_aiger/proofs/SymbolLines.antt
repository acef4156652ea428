-- Symbol lines: what the reader takes of them is what the grammar has.
use Rattle.std.proofs.Common.{◌≡◌, ℕ, ◌+◌, ◌<◌, ◌≤◌, ◌==◌, ◌&&◌, cond, Bool, true, false, List, [], ◌∷◌, ◌++◌, length, refl, ap, sym, ◌∙◌, arith, subst, Option, Some, None, Result, Ok, Err}
use Rattle.std.specs.List.{AllZip}
use Rattle.std.proofs.lemmas.List.{length-set}
use Rattle.std.proofs.lemmas.Bool.{eqb-true}
use Rattle.q_logic.proofs.Booleans.{both-left, both-right}
use Rattle.q_aiger.specs.Lines.{words, number}
use Rattle.q_aiger.specs.Items.{follow}
use Rattle.q_aiger.specs.Symbols.{Symbol, nothing, comment, input_name, output_name, strange, input_symbol, output_symbol, is_c, symbol_of, Names, with_name, all_named, names_at_end, with_inputs, with_outputs, symbol_turn, names_from}
use Rattle.q_aiger.specs.Grammar.{Label, blank, of_input, of_output, IsSymbol, Says, IsEnd, input_labels, output_labels}
use Rattle.q_aiger.proofs.NumberLines.{number-digits, digits-number}
use Rattle.q_aiger.proofs.Labels.{given, named, IsNamed}

record IsRead (letter : ℕ) (ws : List (List ℕ)) (i v : ℕ) : Type 0 where
  left : List ℕ
  right : List ℕ
  spelled : ws ≡ (letter ∷ left) ∷ right ∷ []
  place_is : number left ≡ Some i
  name_is : number right ≡ Some v

abbrev IsSaid : List (List ℕ) → Symbol → Type 0
IsSaid ws nothing = ws ≡ []
IsSaid ws comment = ws ≡ (99 ∷ []) ∷ []
IsSaid ws (input_name i v) = IsRead 105 ws i v
IsSaid ws (output_name i v) = IsRead 111 ws i v
IsSaid ws strange = Unit {0}

c-is : (w : List ℕ) → is_c w ≡ true → w ≡ 99 ∷ []
c-is [] e = absurd (cc)
c-is (b ∷ []) e = ap (λ x. x ∷ []) (eqb-true b 99 e)
c-is (b ∷ c ∷ bs) e = absurd (cc)

said : (ws : List (List ℕ)) → IsSaid ws (symbol_of ws)
said [] = refl
said (w ∷ []) = go (is_c w) refl
  where
    go : (t : Bool) → is_c w ≡ t → IsSaid (w ∷ []) (cond t comment strange)
    go true e = ap (λ x. x ∷ []) (c-is w e)
    go false e = tt
said ([] ∷ v ∷ []) = tt
said ((b ∷ bs) ∷ v ∷ []) = go (b == 105) refl (b == 111) refl
  where
    input : b ≡ 105 → (x : Option ℕ) → number bs ≡ x → (y : Option ℕ) → number v ≡ y → IsSaid ((b ∷ bs) ∷ v ∷ []) (input_symbol x y)
    input e (Some i) p (Some n) q = record { left = bs; right = v; spelled = ap (λ c. (c ∷ bs) ∷ v ∷ []) e; place_is = p; name_is = q }
    input e (Some i) p None q = tt
    input e None p (Some n) q = tt
    input e None p None q = tt

    output : b ≡ 111 → (x : Option ℕ) → number bs ≡ x → (y : Option ℕ) → number v ≡ y → IsSaid ((b ∷ bs) ∷ v ∷ []) (output_symbol x y)
    output e (Some i) p (Some n) q = record { left = bs; right = v; spelled = ap (λ c. (c ∷ bs) ∷ v ∷ []) e; place_is = p; name_is = q }
    output e (Some i) p None q = tt
    output e None p (Some n) q = tt
    output e None p None q = tt

    go : (s : Bool) → (b == 105) ≡ s → (t : Bool) → (b == 111) ≡ t → IsSaid ((b ∷ bs) ∷ v ∷ []) (cond s (input_symbol (number bs) (number v)) (cond t (output_symbol (number bs) (number v)) strange))
    go true p t q = input (eqb-true b 105 p) (number bs) refl (number v) refl
    go false p true q = output (eqb-true b 111 q) (number bs) refl (number v) refl
    go false p false q = tt
said ([] ∷ v ∷ x ∷ ws) = tt
said ((b ∷ bs) ∷ v ∷ x ∷ ws) = tt

pub record AreRead (s : Names) (ls : List (List ℕ)) (t : Names) : Type 0 where
  pub labels : List Label
  pub lines : List (List ℕ)
  pub behind : List (List ℕ)
  pub split : ls ≡ lines ++ behind
  pub spelled : AllZip Says lines labels
  pub end : IsEnd behind
  pub inputs : given (Ok s.inputs) (input_labels labels) ≡ Ok t.inputs
  pub outputs : given (Ok s.outputs) (output_labels labels) ≡ Ok t.outputs
  pub inputs_named : all_named t.inputs ≡ true
  pub outputs_named : all_named t.outputs ≡ true

ended : (e : ℕ) (s t : Names) (ls : List (List ℕ)) → IsEnd ls → names_at_end e s ≡ Ok t → AreRead s ls t
ended e s t ls h q = go (all_named s.inputs && all_named s.outputs) refl
  where
    go : (b : Bool) → all_named s.inputs && all_named s.outputs ≡ b → AreRead s ls t
    go false p = absurd (let f : Err (e, 7) ≡ Ok t = ap (λ x. cond x (Ok s) (Err (e, 7))) (sym p) ∙ q in cc)
    go true p =
        let f : Ok s ≡ Ok t = ap (λ x. cond x (Ok s) (Err (e, 7))) (sym p) ∙ q in
        let z : s ≡ t = cc in
        subst (AreRead s ls) z (record {
          labels = [];
          lines = [];
          behind = ls;
          split = refl;
          spelled = tt;
          end = h;
          inputs = refl;
          outputs = refl;
          inputs_named = both-left _ _ p;
          outputs_named = both-right (all_named s.inputs) _ p;
        })

symbol-exact : (letter : ℕ) (l : List ℕ) (ns ms : List ℕ) (i v : ℕ) → length ns ≤ 576460752303423488 → IsRead letter (words l) i v → IsNamed ns i v ms → IsSymbol letter l i v
symbol-exact letter l ns ms i v few r n =
    let there : i < length ns = n.free.there in
    let most : v ≤ 16777215 = n.free.most in
    record {
      left = r.left;
      right = r.right;
      spelled = r.spelled;
      place_is = number-digits r.left i r.place_is (omega arith);
      name_is = number-digits r.right v r.name_is (omega arith);
    }

named-length : (ns ms : List ℕ) (i v : ℕ) → IsNamed ns i v ms → length ms ≡ length ns
named-length ns ms i v n = ap length n.is ∙ length-set ns i v

pub names-read : (e n : ℕ) (s : Names) (ls : List (List ℕ)) (t : Names) → length s.inputs ≤ 576460752303423488 → length s.outputs ≤ 576460752303423488 → names_from e n s ls ≡ Ok t → AreRead s ls t
names-read e n s [] t li lo q = ended e s t [] tt q
names-read e n s (l ∷ ls) t li lo q = go (symbol_of (words l)) (said (words l)) q (λ u. names-read e (n + 1) u ls t)
  where
    Next : Type 0
    Next = (u : Names) → length u.inputs ≤ 576460752303423488 → length u.outputs ≤ 576460752303423488 → names_from e (n + 1) u ls ≡ Ok t → AreRead u ls t

    go : (y : Symbol) → IsSaid (words l) y → symbol_turn e n s y (λ u. names_from e (n + 1) u ls) ≡ Ok t → ((u : Names) → length u.inputs ≤ 576460752303423488 → length u.outputs ≤ 576460752303423488 → names_from e (n + 1) u ls ≡ Ok t → AreRead u ls t) → AreRead s (l ∷ ls) t
    go nothing w q ih =
        let r = ih s li lo q in
        record {
          labels = blank ∷ r.labels;
          lines = l ∷ r.lines;
          behind = r.behind;
          split = ap (λ (x : List (List ℕ)). l ∷ x) r.split;
          spelled = (w, r.spelled);
          end = r.end;
          inputs = r.inputs;
          outputs = r.outputs;
          inputs_named = r.inputs_named;
          outputs_named = r.outputs_named;
        }
    go comment w q ih = ended e s t (l ∷ ls) w q
    go (input_name i v) w q ih = taken (with_name s.inputs i v) refl
      where
        taken : (r : Result (List ℕ) ℕ) → with_name s.inputs i v ≡ r → AreRead s (l ∷ ls) t
        taken (Err c) p = absurd (let f : Err (n, c) ≡ Ok t = ap (λ r. follow n (with_inputs s r) (λ u. names_from e (n + 1) u ls)) (sym p) ∙ q in cc)
        taken (Ok ms) p =
            let f : names_from e (n + 1) (record { inputs = ms; outputs = s.outputs }) ls ≡ Ok t = ap (λ r. follow n (with_inputs s r) (λ u. names_from e (n + 1) u ls)) (sym p) ∙ q in
            let m = named s.inputs i v ms p in
            let len = named-length s.inputs ms i v m in
            let r = ih (record { inputs = ms; outputs = s.outputs }) (omega arith) lo f in
            record {
              labels = of_input i v ∷ r.labels;
              lines = l ∷ r.lines;
              behind = r.behind;
              split = ap (λ (x : List (List ℕ)). l ∷ x) r.split;
              spelled = (symbol-exact 105 l s.inputs ms i v li w m, r.spelled);
              end = r.end;
              inputs = ap (λ x. given x (input_labels r.labels)) p ∙ r.inputs;
              outputs = r.outputs;
              inputs_named = r.inputs_named;
              outputs_named = r.outputs_named;
            }
    go (output_name i v) w q ih = taken (with_name s.outputs i v) refl
      where
        taken : (r : Result (List ℕ) ℕ) → with_name s.outputs i v ≡ r → AreRead s (l ∷ ls) t
        taken (Err c) p = absurd (let f : Err (n, c) ≡ Ok t = ap (λ r. follow n (with_outputs s r) (λ u. names_from e (n + 1) u ls)) (sym p) ∙ q in cc)
        taken (Ok ms) p =
            let f : names_from e (n + 1) (record { inputs = s.inputs; outputs = ms }) ls ≡ Ok t = ap (λ r. follow n (with_outputs s r) (λ u. names_from e (n + 1) u ls)) (sym p) ∙ q in
            let m = named s.outputs i v ms p in
            let len = named-length s.outputs ms i v m in
            let r = ih (record { inputs = s.inputs; outputs = ms }) li (omega arith) f in
            record {
              labels = of_output i v ∷ r.labels;
              lines = l ∷ r.lines;
              behind = r.behind;
              split = ap (λ (x : List (List ℕ)). l ∷ x) r.split;
              spelled = (symbol-exact 111 l s.outputs ms i v lo w m, r.spelled);
              end = r.end;
              inputs = r.inputs;
              outputs = ap (λ x. given x (output_labels r.labels)) p ∙ r.outputs;
              inputs_named = r.inputs_named;
              outputs_named = r.outputs_named;
            }
    go strange w q ih = absurd (cc)

-- The other way.
at-end : (e : ℕ) (s t : Names) → s.inputs ≡ t.inputs → s.outputs ≡ t.outputs → all_named t.inputs ≡ true → all_named t.outputs ≡ true → names_at_end e s ≡ Ok t
at-end e s t a b c d =
    let z : s ≡ t = ap (λ (x : List ℕ). let y : Names = record { inputs = x; outputs = s.outputs } in y) a ∙ ap (λ (x : List ℕ). let y : Names = record { inputs = t.inputs; outputs = x } in y) b in
    ap (names_at_end e) z ∙ rw (c, d) refl

given-ok : (r : Result (List ℕ) ℕ) (es : List (ℕ × ℕ)) (t : List ℕ) → given r es ≡ Ok t → (ms : List ℕ) × (r ≡ Ok ms)
given-ok (Err c) es t e = absurd (cc)
given-ok (Ok ms) es t e = (ms, refl)

same-ok : (a b : List ℕ) → given (Ok a) [] ≡ Ok b → a ≡ b
same-ok a b e = cc

symbol-read : (letter : ℕ) (l ns ms : List ℕ) (i v : ℕ) → length ns ≤ 576460752303423488 → IsSymbol letter l i v → IsNamed ns i v ms → IsRead letter (words l) i v
symbol-read letter l ns ms i v few s n =
    let there : i < length ns = n.free.there in
    let most : v ≤ 16777215 = n.free.most in
    record {
      left = s.left;
      right = s.right;
      spelled = s.spelled;
      place_is = digits-number s.left i s.place_is (omega arith);
      name_is = digits-number s.right v s.name_is (omega arith);
    }

input-is : (ws : List (List ℕ)) (i v : ℕ) → IsRead 105 ws i v → symbol_of ws ≡ input_name i v
input-is ws i v r = ap symbol_of r.spelled ∙ (ap (λ x. input_symbol x (number r.right)) r.place_is ∙ ap (λ x. input_symbol (Some i) x) r.name_is)

output-is : (ws : List (List ℕ)) (i v : ℕ) → IsRead 111 ws i v → symbol_of ws ≡ output_name i v
output-is ws i v r = ap symbol_of r.spelled ∙ (ap (λ x. output_symbol x (number r.right)) r.place_is ∙ ap (λ x. output_symbol (Some i) x) r.name_is)

pub read-names : (e n : ℕ) (s t : Names) (lines behind : List (List ℕ)) (labels : List Label) → length s.inputs ≤ 576460752303423488 → length s.outputs ≤ 576460752303423488 → AllZip Says lines labels → IsEnd behind → given (Ok s.inputs) (input_labels labels) ≡ Ok t.inputs → given (Ok s.outputs) (output_labels labels) ≡ Ok t.outputs → all_named t.inputs ≡ true → all_named t.outputs ≡ true → names_from e n s (lines ++ behind) ≡ Ok t
read-names e n s t [] [] [] li lo w h a b c d = at-end e s t (same-ok _ _ a) (same-ok _ _ b) c d
read-names e n s t [] (l ∷ ls) [] li lo w h a b c d = ap (λ ws. symbol_turn e n s (symbol_of ws) (λ u. names_from e (n + 1) u ls)) h ∙ at-end e s t (same-ok _ _ a) (same-ok _ _ b) c d
read-names e n s t [] behind (y ∷ labels) li lo w h a b c d = absurd w
read-names e n s t (l ∷ lines) behind [] li lo w h a b c d = absurd w
read-names e n s t (l ∷ lines) behind (blank ∷ labels) li lo w h a b c d =
    ap (λ ws. symbol_turn e n s (symbol_of ws) (λ u. names_from e (n + 1) u (lines ++ behind))) w.0 ∙ read-names e (n + 1) s t lines behind labels li lo w.1 h a b c d
read-names e n s t (l ∷ lines) behind (of_input i v ∷ labels) li lo w h a b c d =
    let g = given-ok (with_name s.inputs i v) (input_labels labels) t.inputs a in
    let m = named s.inputs i v g.0 g.1 in
    let len = named-length s.inputs g.0 i v m in
    let y = input-is (words l) i v (symbol-read 105 l s.inputs g.0 i v li w.0 m) in
    ap (λ z. symbol_turn e n s z (λ u. names_from e (n + 1) u (lines ++ behind))) y
    ∙ (ap (λ r. follow n (with_inputs s r) (λ u. names_from e (n + 1) u (lines ++ behind))) g.1
    ∙ read-names e (n + 1) (record { inputs = g.0; outputs = s.outputs }) t lines behind labels (omega arith) lo w.1 h (ap (λ x. given x (input_labels labels)) (sym g.1) ∙ a) b c d)
read-names e n s t (l ∷ lines) behind (of_output i v ∷ labels) li lo w h a b c d =
    let g = given-ok (with_name s.outputs i v) (output_labels labels) t.outputs b in
    let m = named s.outputs i v g.0 g.1 in
    let len = named-length s.outputs g.0 i v m in
    let y = output-is (words l) i v (symbol-read 111 l s.outputs g.0 i v lo w.0 m) in
    ap (λ z. symbol_turn e n s z (λ u. names_from e (n + 1) u (lines ++ behind))) y
    ∙ (ap (λ r. follow n (with_outputs s r) (λ u. names_from e (n + 1) u (lines ++ behind))) g.1
    ∙ read-names e (n + 1) (record { inputs = s.inputs; outputs = g.0 }) t lines behind labels li (omega arith) w.1 h a (ap (λ x. given x (output_labels labels)) (sym g.1) ∙ b) c d)
