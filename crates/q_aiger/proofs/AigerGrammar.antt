-- A text is in the grammar exactly where the reader's definition gives its circuits.
use Rattle.std.proofs.Common.{◌≡◌, ℕ, ◌+◌, ◌≤◌, ◌*◌, suc, Some, cond, Bool, true, false, nat_le, List, [], ◌∷◌, ◌++◌, length, map, take, refl, ap, sym, ◌∙◌, arith, subst, Result, Ok, Err, length-append}
use Rattle.std.specs.List.{AllByRecursion, AllZip}
use Rattle.std.proofs.lemmas.List.{length-map, length-replicate}
use Rattle.std.proofs.lemmas.Bool.{le-leb}
use Rattle.q_logic.specs.Prelude.{Operand, Gate, NamedOutput, CertificateView}
use Rattle.q_text.specs.Texts.{line_after}
use Rattle.q_aiger.specs.Lines.{lines_of, clipped}
use Rattle.q_aiger.specs.Headers.{Header, header_of}
use Rattle.q_aiger.specs.Items.{Items, Behind, items_of}
use Rattle.q_aiger.specs.Symbols.{Names, names_from, no_names}
use Rattle.q_aiger.specs.Operands.{operand_in, outputs_from, gates_from}
use Rattle.q_aiger.specs.Circuits.{first_line, other_lines, on_line, and_then, few_bytes, with_names, circuits_of, items_in, parse, AreCircuits}
use Rattle.q_aiger.specs.Grammar.{Definition, Text, AreNumbers, IsLine, input_numbers, output_numbers, gate_numbers, Says, IsEnd, IsDefinition, IsLawful, variables, IsOperand, IsGate, input_labels, output_labels, AreNames, Means, IsFile, Circuits}
use Rattle.q_aiger.proofs.DefinedPlaces.{once-front}
use Rattle.q_aiger.proofs.ItemLines.{st}
use Rattle.q_aiger.proofs.ItemRows.{vars_of, pairs_of, InputsRead, inputs-read, OutputsRead, outputs-read, GatesRead, gates-read, read-inputs, read-outputs, read-gates}
use Rattle.q_aiger.proofs.Labels.{names-are, are-given, all-named}
use Rattle.q_aiger.proofs.SymbolLines.{AreRead, names-read, read-names}
use Rattle.q_aiger.proofs.TextLiterals.{operand-is, is-operand, outputs-are, are-outputs, gates-are, are-gates, names-with, operands-with, with-both, zip-length, zip-map}
use Rattle.q_aiger.proofs.Heads.{IsHead, head-read, read-head}
use Rattle.q_aiger.proofs.ResolvedOperands.{lines-few}

abbrev IsIn : Text → ℕ → Operand → Type 0
IsIn t l o = operand_in (length t.inputs) (variables t) l ≡ Some o

abbrev IsBoth : Text → (ℕ × ℕ) → Gate → Type 0
IsBoth t p g = IsIn t p.0 g.left × IsIn t p.1 g.right

gates-both : (t : Text) (ds : List Definition) (gs : List Gate) → IsLawful t → AllZip (IsGate t) ds gs → AllZip (IsBoth t) (pairs_of ds) gs
gates-both t [] [] l h = tt
gates-both t [] (g ∷ gs) l h = h
gates-both t (d ∷ ds) [] l h = h
gates-both t (d ∷ ds) (g ∷ gs) l h = ((operand-is t d.left g.left l h.0.0, operand-is t d.right g.right l h.0.1), gates-both t ds gs l h.1)

both-gates : (t : Text) (ds : List Definition) (gs : List Gate) → AllZip (IsBoth t) (pairs_of ds) gs → AllZip (IsGate t) ds gs
both-gates t [] [] h = tt
both-gates t [] (g ∷ gs) h = h
both-gates t (d ∷ ds) [] h = h
both-gates t (d ∷ ds) (g ∷ gs) h = ((is-operand t d.left g.left h.0.0, is-operand t d.right g.right h.0.1), both-gates t ds gs h.1)

-- From the grammar to the reader.
circuits-of : (h : Header) (t : Text) (w : CertificateView) → h.inputs ≡ length t.inputs → IsLawful t → Means t w → circuits_of h (st (variables t) t.outputs (pairs_of t.gates)) (record { inputs = w.inputs; outputs = map (λ o. o.name) w.outputs }) ≡ Ok w
circuits-of h t w e l m =
    let os = are-outputs (length t.inputs) (2 + h.inputs) (variables t) [] t.outputs (map (λ o. o.operand) w.outputs) (zip-map (IsOperand t) (IsIn t) t.outputs (map (λ o. o.operand) w.outputs) (λ x o i. operand-is t x o l i) m.outputs) in
    let gs = are-gates (length t.inputs) (2 + h.inputs + h.outputs) (variables t) [] (pairs_of t.gates) w.gates (gates-both t t.gates w.gates l m.gates) in
    ap (λ (i : ℕ). and_then (outputs_from i (variables t) (2 + h.inputs) [] t.outputs) (λ os. and_then (gates_from i (variables t) (2 + h.inputs + h.outputs) [] (pairs_of t.gates)) (λ gs. let y : Result CertificateView (ℕ × ℕ) = Ok (record { inputs = w.inputs; gates = gs; outputs = with_names (map (λ o. o.name) w.outputs) os }) in y))) e
    ∙ (ap (λ r. and_then r (λ os. and_then (gates_from (length t.inputs) (variables t) (2 + h.inputs + h.outputs) [] (pairs_of t.gates)) (λ gs. let y : Result CertificateView (ℕ × ℕ) = Ok (record { inputs = w.inputs; gates = gs; outputs = with_names (map (λ o. o.name) w.outputs) os }) in y))) os
    ∙ (ap (λ r. and_then r (λ gs. let y : Result CertificateView (ℕ × ℕ) = Ok (record { inputs = w.inputs; gates = gs; outputs = with_names (map (λ o. o.name) w.outputs) (map (λ o. o.operand) w.outputs) }) in y)) gs
    ∙ ap (λ (x : List NamedOutput). let y : Result CertificateView (ℕ × ℕ) = Ok (record { inputs = w.inputs; gates = w.gates; outputs = x }) in y) (with-both w.outputs)))

record IsBody (ls : List (List ℕ)) (t : Text) : Type 0 where
  inputs : List (List ℕ)
  outputs : List (List ℕ)
  gates : List (List ℕ)
  symbols : List (List ℕ)
  behind : List (List ℕ)
  lines : ls ≡ inputs ++ (outputs ++ (gates ++ (symbols ++ behind)))
  inputs_are : AllZip IsLine inputs (input_numbers t.inputs)
  outputs_are : AllZip IsLine outputs (output_numbers t.outputs)
  gates_are : AllZip IsLine gates (gate_numbers t.gates)
  symbols_are : AllZip Says symbols t.labels
  end : IsEnd behind

body-items : (e : ℕ) (ls : List (List ℕ)) (t : Text) (h : Header) (b : IsBody ls t) → h ≡ record { max = t.max; inputs = length t.inputs; outputs = length t.outputs; gates = length t.gates } → IsLawful t → (n : ℕ) × (items_of h e ls ≡ Ok (record { items = st (variables t) t.outputs (pairs_of t.gates); line = n; lines = b.symbols ++ b.behind }))
body-items e ls t h b eh l =
    let max : h.max ≡ t.max = ap (λ (x : Header). x.max) eh in
    let ni : h.inputs ≡ length t.inputs = ap (λ (x : Header). x.inputs) eh in
    let no : h.outputs ≡ length t.outputs = ap (λ (x : Header). x.outputs) eh in
    let ng : h.gates ≡ length t.gates = ap (λ (x : Header). x.gates) eh in
    let lm : t.max ≤ 268435456 = l.max in
    let small : h.max ≤ 268435456 = omega arith in
    let bi = subst (λ (m : ℕ). AllByRecursion (λ v. (1 ≤ v) × (v ≤ m)) t.inputs) (sym max) l.inputs in
    let bo = subst (λ (m : ℕ). AllByRecursion (λ k. k ≤ 2 * m + 1) t.outputs) (sym max) l.outputs in
    let bg = subst (λ (m : ℕ). AllByRecursion (IsDefinition m) t.gates) (sym max) l.gates in
    let i = read-inputs h e 2 [] t.inputs (length t.outputs + length t.gates) (h.inputs + h.outputs + h.gates) b.inputs (b.outputs ++ (b.gates ++ (b.symbols ++ b.behind))) small (omega arith) (omega arith) b.inputs_are bi (once-front t.inputs (vars_of t.gates) l.once) in
    let o = read-outputs h e i.0 t.inputs [] t.outputs (length t.gates) (length t.outputs + length t.gates) b.outputs (b.gates ++ (b.symbols ++ b.behind)) small (omega arith) (omega arith) refl b.outputs_are bo in
    let g = read-gates h e o.0 t.inputs t.outputs [] t.gates (length t.gates) b.gates (b.symbols ++ b.behind) small (omega arith) (omega arith) refl b.gates_are bg l.once in
    (g.0, ap (items_of h e) b.lines ∙ (i.1 ∙ (o.1 ∙ g.1)))

body-parsed : (e : ℕ) (ls : List (List ℕ)) (t : Text) (h : Header) (w : CertificateView) → IsBody ls t → h ≡ record { max = t.max; inputs = length t.inputs; outputs = length t.outputs; gates = length t.gates } → length t.outputs ≤ 576460752303423488 → IsLawful t → Means t w → items_in e ls h ≡ Ok w
body-parsed e ls t h w b eh few l m =
    let ni : h.inputs ≡ length t.inputs = ap (λ (x : Header). x.inputs) eh in
    let no : h.outputs ≡ length t.outputs = ap (λ (x : Header). x.outputs) eh in
    let lm : t.max ≤ 268435456 = l.max in
    let room : length t.inputs + length t.gates ≤ t.max = l.room in
    let q = body-items e ls t h b eh l in
    let names : Names = record { inputs = w.inputs; outputs = map (λ o. o.name) w.outputs } in
    let zo = zip-length (IsOperand t) t.outputs (map (λ o. o.operand) w.outputs) m.outputs in
    let lo : length (map (λ o. o.operand) w.outputs) ≡ length w.outputs = length-map w.outputs (λ (o : NamedOutput). o.operand) in
    let ln : length (map (λ o. o.name) w.outputs) ≡ length w.outputs = length-map w.outputs (λ (o : NamedOutput). o.name) in
    let li : length w.inputs ≡ length t.inputs = m.inputs in
    let ri : length (no_names h.inputs h.outputs).inputs ≡ h.inputs = length-replicate h.inputs 0 in
    let ro : length (no_names h.inputs h.outputs).outputs ≡ h.outputs = length-replicate h.outputs 0 in
    let gi = are-given (input_labels t.labels) h.inputs w.inputs (omega arith) m.input_names in
    let go = are-given (output_labels t.labels) h.outputs (map (λ o. o.name) w.outputs) (omega arith) m.output_names in
    let n = read-names e q.0 (no_names h.inputs h.outputs) (record { inputs = w.inputs; outputs = map (λ o. o.name) w.outputs }) b.symbols b.behind t.labels (omega arith) (omega arith) b.symbols_are b.end gi go (all-named (input_labels t.labels) w.inputs m.input_names) (all-named (output_labels t.labels) (map (λ o. o.name) w.outputs) m.output_names) in
    ap (λ r. and_then r (λ b. and_then (names_from e b.line (no_names h.inputs h.outputs) b.lines) (λ names. circuits_of h b.items names))) q.1
    ∙ (ap (λ r. and_then r (λ names. circuits_of h (st (variables t) t.outputs (pairs_of t.gates)) names)) n
    ∙ circuits-of h t w ni l m)

pub file-parsed : (bytes : List ℕ) (w : CertificateView) → IsFile bytes w → parse bytes ≡ Ok w
file-parsed bytes w f =
    let t = f.text in
    let s = f.spelled in
    let hd = s.header_is in
    let short : length bytes ≤ 1099511627776 = f.short in
    let lm : f.text.max ≤ 268435456 = f.lawful.max in
    let body = s.inputs ++ (s.outputs ++ (s.gates ++ (s.symbols ++ s.behind))) in
    let lines = lines-few bytes in
    let all : length (lines_of bytes) ≡ suc (length (s.inputs ++ (s.outputs ++ (s.gates ++ (s.symbols ++ s.behind))))) = ap length s.lines in
    let a1 = length-append s.inputs (s.outputs ++ (s.gates ++ (s.symbols ++ s.behind))) in
    let a2 = length-append s.outputs (s.gates ++ (s.symbols ++ s.behind)) in
    let zo = zip-length IsLine s.outputs (output_numbers f.text.outputs) s.outputs_are in
    let lo : length (output_numbers f.text.outputs) ≡ length f.text.outputs = length-map f.text.outputs (λ (l : ℕ). l ∷ []) in
    let h : Header = record { max = f.text.max; inputs = length f.text.inputs; outputs = length f.text.outputs; gates = length f.text.gates } in
    let few : length f.text.outputs ≤ 576460752303423488 = omega arith in
    let head = read-head s.header hd.numbers f.text.max (length f.text.inputs) (length f.text.outputs) (length f.text.gates) hd.spelled hd.are f.lawful.room f.lawful.max few in
    let b : IsBody (s.inputs ++ (s.outputs ++ (s.gates ++ (s.symbols ++ s.behind)))) f.text = record {
      inputs = s.inputs;
      outputs = s.outputs;
      gates = s.gates;
      symbols = s.symbols;
      behind = s.behind;
      lines = refl;
      inputs_are = s.inputs_are;
      outputs_are = s.outputs_are;
      gates_are = s.gates_are;
      symbols_are = s.symbols_are;
      end = s.end;
    } in
    ap (λ (ls : List (List ℕ)). and_then (on_line 1 (header_of (first_line ls))) (λ h. and_then (few_bytes bytes h) (items_in (line_after bytes) (other_lines ls)))) s.lines
    ∙ (ap (λ r. and_then (on_line 1 r) (λ h. and_then (few_bytes bytes h) (items_in (line_after bytes) (s.inputs ++ (s.outputs ++ (s.gates ++ (s.symbols ++ s.behind))))))) head
    ∙ (ap (λ x. and_then (cond x (Ok (record { max = f.text.max; inputs = length f.text.inputs; outputs = length f.text.outputs; gates = length f.text.gates })) (Err (line_after (take 1099511627776 bytes), 9))) (items_in (line_after bytes) (s.inputs ++ (s.outputs ++ (s.gates ++ (s.symbols ++ s.behind)))))) (le-leb (length bytes) 1099511627776 f.short)
    ∙ body-parsed (line_after bytes) (s.inputs ++ (s.outputs ++ (s.gates ++ (s.symbols ++ s.behind)))) f.text (record { max = f.text.max; inputs = length f.text.inputs; outputs = length f.text.outputs; gates = length f.text.gates }) w b refl few f.lawful f.means))

-- From the reader to the grammar.
and-then-ok : {X Y : Type 0} (r : Result X (ℕ × ℕ)) (f : X → Result Y (ℕ × ℕ)) (y : Y) → and_then r f ≡ Ok y → (x : X) × (r ≡ Ok x) × (f x ≡ Ok y)
and-then-ok (Ok x) f y e = (x, refl, e)
and-then-ok (Err c) f y e = absurd (cc)

on-line-ok : {X : Type 0} (n : ℕ) (r : Result X ℕ) (x : X) → on_line n r ≡ Ok x → r ≡ Ok x
on-line-ok n (Ok y) x e = let z : y ≡ x = cc in ap (λ w. Ok w) z
on-line-ok n (Err c) x e = absurd (cc)

few-ok : (bytes : List ℕ) (h g : Header) → few_bytes bytes h ≡ Ok g → (length bytes ≤ 1099511627776) × (h ≡ g)
few-ok bytes h g e = go (nat_le (length bytes) 1099511627776) refl
  where
    le-is : (a b : ℕ) → nat_le a b ≡ true → a ≤ b
    le-is a b e = grind arith

    go : (b : Bool) → nat_le (length bytes) 1099511627776 ≡ b → (length bytes ≤ 1099511627776) × (h ≡ g)
    go true p = let f : Ok h ≡ Ok g = ap (λ x. cond x (Ok h) (Err (line_after (take 1099511627776 bytes), 9))) (sym p) ∙ e in let z : h ≡ g = cc in (le-is (length bytes) 1099511627776 p, z)
    go false p = absurd (let f : Err (line_after (take 1099511627776 bytes), 9) ≡ Ok g = ap (λ x. cond x (Ok h) (Err (line_after (take 1099511627776 bytes), 9))) (sym p) ∙ e in cc)

record IsResolved (i : ℕ) (ds lits : List ℕ) (ps : List (ℕ × ℕ)) (names : Names) (w : CertificateView) : Type 0 where
  operands : List Operand
  gates : List Gate
  outputs_are : AllZip (λ l o. operand_in i ds l ≡ Some o) lits operands
  gates_are : AllZip (λ p g. (operand_in i ds p.0 ≡ Some g.left) × (operand_in i ds p.1 ≡ Some g.right)) ps gates
  is : w ≡ record { inputs = names.inputs; gates = gates; outputs = with_names names.outputs operands }

resolved : (h : Header) (ds lits : List ℕ) (ps : List (ℕ × ℕ)) (names : Names) (w : CertificateView) → circuits_of h (st ds lits ps) names ≡ Ok w → IsResolved h.inputs ds lits ps names w
resolved h ds lits ps names w e =
    let os = and-then-ok (outputs_from h.inputs ds (2 + h.inputs) [] lits) (λ os. and_then (gates_from h.inputs ds (2 + h.inputs + h.outputs) [] ps) (λ gs. let y : Result CertificateView (ℕ × ℕ) = Ok (record { inputs = names.inputs; gates = gs; outputs = with_names names.outputs os }) in y)) w e in
    let gs = and-then-ok (gates_from h.inputs ds (2 + h.inputs + h.outputs) [] ps) (λ gs. let y : Result CertificateView (ℕ × ℕ) = Ok (record { inputs = names.inputs; gates = gs; outputs = with_names names.outputs os.0 }) in y) w os.2 in
    let o = outputs-are h.inputs (2 + h.inputs) ds [] lits os.0 os.1 in
    let g = gates-are h.inputs (2 + h.inputs + h.outputs) ds [] ps gs.0 gs.1 in
    let z : ◌≡◌ {A = CertificateView} (record { inputs = names.inputs; gates = gs.0; outputs = with_names names.outputs os.0 }) w = same-view _ _ gs.2 in
    record {
      operands = o.0;
      gates = g.0;
      outputs_are = o.2;
      gates_are = g.2;
      is = sym z ∙ (ap (λ (x : List Gate). let y : CertificateView = record { inputs = names.inputs; gates = x; outputs = with_names names.outputs os.0 } in y) g.1 ∙ ap (λ (x : List Operand). let y : CertificateView = record { inputs = names.inputs; gates = g.0; outputs = with_names names.outputs x } in y) o.1);
    }
  where
    view-of : Result CertificateView (ℕ × ℕ) → CertificateView
    view-of (Ok v) = v
    view-of (Err c) = record { inputs = []; gates = []; outputs = [] }

    same-view : (a b : CertificateView) → (let r : Result CertificateView (ℕ × ℕ) = Ok a in r) ≡ Ok b → a ≡ b
    same-view a b e = ap view-of e

meant : (t : Text) (names : Names) (w : CertificateView) (r : IsResolved (length t.inputs) (variables t) t.outputs (pairs_of t.gates) names w) → length names.outputs ≡ length r.operands → AreNames (input_labels t.labels) names.inputs → AreNames (output_labels t.labels) names.outputs → length names.inputs ≡ length t.inputs → Means t w
meant t names w r same mi mo li = subst (Means t) (sym r.is) (record {
  inputs = li;
  input_names = mi;
  outputs = subst (AllZip (IsOperand t) t.outputs) (sym (operands-with names.outputs r.operands same)) (zip-map (IsIn t) (IsOperand t) t.outputs r.operands (λ l o e. is-operand t l o e) r.outputs_are);
  output_names = subst (AreNames (output_labels t.labels)) (sym (names-with names.outputs r.operands same)) mo;
  gates = both-gates t t.gates r.gates r.gates_are;
})

-- all that the lines behind the header say
record IsFound (h : Header) (ls : List (List ℕ)) (w : CertificateView) : Type 0 where
  text : Text
  max : text.max ≡ h.max
  inputs : length text.inputs ≡ h.inputs
  outputs : length text.outputs ≡ h.outputs
  gates : length text.gates ≡ h.gates
  body : IsBody ls text
  lawful : IsLawful text
  means : Means text w

found : (e : ℕ) (ls : List (List ℕ)) (h : Header) (w : CertificateView) → h.max ≤ 268435456 → h.inputs + h.gates ≤ h.max → h.outputs ≤ 576460752303423488 → items_in e ls h ≡ Ok w → IsFound h ls w
found e ls h w small room few q =
    let b = and-then-ok (items_of h e ls) (λ b. and_then (names_from e b.line (no_names h.inputs h.outputs) b.lines) (λ names. circuits_of h b.items names)) w q in
    let n = and-then-ok (names_from e b.0.line (no_names h.inputs h.outputs) b.0.lines) (λ names. circuits_of h b.0.items names) w b.2 in
    let i : InputsRead h e [] h.inputs (h.outputs + h.gates) ls b.0 = inputs-read h e 2 [] h.inputs (h.outputs + h.gates) (h.inputs + h.outputs + h.gates) ls b.0 small (omega arith) (omega arith) (λ i j li lj e. absurd (omega arith)) b.1 in
    let ci : length i.vars ≡ h.inputs = i.count in
    let o : OutputsRead h e i.vars [] h.outputs h.gates i.tail b.0 = outputs-read h e i.line i.vars [] h.outputs h.gates (h.outputs + h.gates) i.tail b.0 small ci (omega arith) refl i.rest in
    let co : length o.lits ≡ h.outputs = o.count in
    let g : GatesRead h i.vars o.lits [] h.gates o.tail b.0 = gates-read h e o.line i.vars o.lits [] h.gates o.tail b.0 small (omega arith) co i.once o.rest in
    let cg : length g.gates ≡ h.gates = g.count in
    let ri : length (no_names h.inputs h.outputs).inputs ≡ h.inputs = length-replicate h.inputs 0 in
    let ro : length (no_names h.inputs h.outputs).outputs ≡ h.outputs = length-replicate h.outputs 0 in
    let s : AreRead (no_names h.inputs h.outputs) b.0.lines n.0 = names-read e b.0.line (no_names h.inputs h.outputs) b.0.lines n.0 (omega arith) (omega arith) n.1 in
    let lines : b.0.lines ≡ g.tail = ap (λ (b : Behind). b.lines) g.is in
    let items : b.0.items ≡ st (i.vars ++ vars_of g.gates) o.lits (pairs_of g.gates) = ap (λ (b : Behind). b.items) g.is in
    let r : IsResolved (length i.vars) (i.vars ++ vars_of g.gates) o.lits (pairs_of g.gates) n.0 w = subst (λ (k : ℕ). IsResolved k (i.vars ++ vars_of g.gates) o.lits (pairs_of g.gates) n.0 w) (sym ci) (resolved h (i.vars ++ vars_of g.gates) o.lits (pairs_of g.gates) n.0 w (ap (λ (s : Items). circuits_of h s n.0) (sym items) ∙ n.2)) in
    let ni = names-are (input_labels s.labels) h.inputs n.0.inputs s.inputs s.inputs_named in
    let no = names-are (output_labels s.labels) h.outputs n.0.outputs s.outputs s.outputs_named in
    let zo = zip-length (λ l o. operand_in (length i.vars) (i.vars ++ vars_of g.gates) l ≡ Some o) o.lits r.operands r.outputs_are in
    let lno : length n.0.outputs ≡ h.outputs = no.1 in
    let same : length n.0.outputs ≡ length r.operands = omega arith in
    record {
      text = record { max = h.max; inputs = i.vars; outputs = o.lits; gates = g.gates; labels = s.labels };
      max = refl;
      inputs = ci;
      outputs = co;
      gates = cg;
      body = record {
        inputs = i.lines;
        outputs = o.lines;
        gates = g.lines;
        symbols = s.lines;
        behind = s.behind;
        lines = i.split ∙ ap (λ (x : List (List ℕ)). i.lines ++ x) (o.split ∙ ap (λ (x : List (List ℕ)). o.lines ++ x) (g.split ∙ ap (λ (x : List (List ℕ)). g.lines ++ x) (sym lines ∙ s.split)));
        inputs_are = i.spelled;
        outputs_are = o.spelled;
        gates_are = g.spelled;
        symbols_are = s.spelled;
        end = s.end;
      };
      lawful = record {
        max = small;
        room = omega arith;
        inputs = i.bounds;
        outputs = o.bounds;
        gates = g.bounds;
        once = g.once;
      };
      means = meant (record { max = h.max; inputs = i.vars; outputs = o.lits; gates = g.gates; labels = s.labels }) n.0 w r same ni.0 no.0 (ni.1 ∙ sym ci);
    }

no-head : (h : Header) → header_of [] ≡ Ok h → ⊥
no-head h e = cc

pub parsed-file : (bytes : List ℕ) (w : CertificateView) → parse bytes ≡ Ok w → IsFile bytes w
parsed-file bytes w e = go (lines_of bytes) refl
  where
    go : (ls : List (List ℕ)) → lines_of bytes ≡ ls → IsFile bytes w
    go [] p = absurd (
        let f : and_then (on_line 1 (header_of (first_line []))) (λ h. and_then (few_bytes bytes h) (items_in (line_after bytes) (other_lines []))) ≡ Ok w = ap (λ (ls : List (List ℕ)). and_then (on_line 1 (header_of (first_line ls))) (λ h. and_then (few_bytes bytes h) (items_in (line_after bytes) (other_lines ls)))) (sym p) ∙ e in
        let a = and-then-ok (on_line 1 (header_of [])) (λ h. and_then (few_bytes bytes h) (items_in (line_after bytes) [])) w f in
        no-head a.0 (on-line-ok 1 (header_of []) a.0 a.1)
        )
    go (hl ∷ ls) p =
        let f : and_then (on_line 1 (header_of hl)) (λ h. and_then (few_bytes bytes h) (items_in (line_after bytes) ls)) ≡ Ok w = ap (λ (ls : List (List ℕ)). and_then (on_line 1 (header_of (first_line ls))) (λ h. and_then (few_bytes bytes h) (items_in (line_after bytes) (other_lines ls)))) (sym p) ∙ e in
        let a = and-then-ok (on_line 1 (header_of hl)) (λ h. and_then (few_bytes bytes h) (items_in (line_after bytes) ls)) w f in
        let k : IsHead hl a.0 = head-read hl a.0 (on-line-ok 1 (header_of hl) a.0 a.1) in
        let b = and-then-ok (few_bytes bytes a.0) (items_in (line_after bytes) ls) w a.2 in
        let c = few-ok bytes a.0 b.0 b.1 in
        let q : items_in (line_after bytes) ls a.0 ≡ Ok w = ap (items_in (line_after bytes) ls) c.1 ∙ b.2 in
        let short : length bytes ≤ 1099511627776 = c.0 in
        let cl : a.0.outputs ≡ clipped k.outputs = k.clipped in
        let r : IsFound a.0 ls w = found (line_after bytes) ls a.0 w k.max k.room (omega arith) q in
        let lines = lines-few bytes in
        let all : length (lines_of bytes) ≡ suc (length ls) = ap length p in
        let body : length ls ≡ length (r.body.inputs ++ (r.body.outputs ++ (r.body.gates ++ (r.body.symbols ++ r.body.behind)))) = ap length r.body.lines in
        let a1 = length-append r.body.inputs (r.body.outputs ++ (r.body.gates ++ (r.body.symbols ++ r.body.behind))) in
        let a2 = length-append r.body.outputs (r.body.gates ++ (r.body.symbols ++ r.body.behind)) in
        let zo = zip-length IsLine r.body.outputs (output_numbers r.text.outputs) r.body.outputs_are in
        let lo : length (output_numbers r.text.outputs) ≡ length r.text.outputs = length-map r.text.outputs (λ (l : ℕ). l ∷ []) in
        let ro : length r.text.outputs ≡ a.0.outputs = r.outputs in
        let exact : k.outputs ≡ length r.text.outputs = omega arith in
        record {
          text = r.text;
          short = short;
          spelled = record {
            header = hl;
            inputs = r.body.inputs;
            outputs = r.body.outputs;
            gates = r.body.gates;
            symbols = r.body.symbols;
            behind = r.body.behind;
            lines = p ∙ ap (λ (x : List (List ℕ)). hl ∷ x) r.body.lines;
            header_is = record {
              numbers = k.numbers;
              spelled = k.spelled;
              are =
                  let f1 : AreNumbers k.numbers (r.text.max ∷ a.0.inputs ∷ 0 ∷ k.outputs ∷ a.0.gates ∷ []) = subst (λ (n : ℕ). AreNumbers k.numbers (n ∷ a.0.inputs ∷ 0 ∷ k.outputs ∷ a.0.gates ∷ [])) (sym r.max) k.are in
                  let f2 : AreNumbers k.numbers (r.text.max ∷ length r.text.inputs ∷ 0 ∷ k.outputs ∷ a.0.gates ∷ []) = subst (λ (n : ℕ). AreNumbers k.numbers (r.text.max ∷ n ∷ 0 ∷ k.outputs ∷ a.0.gates ∷ [])) (sym r.inputs) f1 in
                  let f3 : AreNumbers k.numbers (r.text.max ∷ length r.text.inputs ∷ 0 ∷ length r.text.outputs ∷ a.0.gates ∷ []) = subst (λ (n : ℕ). AreNumbers k.numbers (r.text.max ∷ length r.text.inputs ∷ 0 ∷ n ∷ a.0.gates ∷ [])) exact f2 in
                  subst (λ (n : ℕ). AreNumbers k.numbers (r.text.max ∷ length r.text.inputs ∷ 0 ∷ length r.text.outputs ∷ n ∷ [])) (sym r.gates) f3;
            };
            inputs_are = r.body.inputs_are;
            outputs_are = r.body.outputs_are;
            gates_are = r.body.gates_are;
            symbols_are = r.body.symbols_are;
            end = r.body.end;
          };
          lawful = r.lawful;
          means = r.means;
        }

pub grammar-read : (bytes : List ℕ) (c : CertificateView) → Circuits bytes c → AreCircuits bytes c
grammar-read bytes c g = record { written = g.written; parsed = file-parsed bytes g.written g.file; order = g.order; full = g.full; sorted = g.sorted }

pub read-grammar : (bytes : List ℕ) (c : CertificateView) → AreCircuits bytes c → Circuits bytes c
read-grammar bytes c a = record { written = a.written; file = parsed-file bytes a.written a.parsed; order = a.order; full = a.full; sorted = a.sorted }
