-- All lines of inputs, of outputs and of gates.
use Rattle.std.proofs.Common.{◌≡◌, ℕ, zero, suc, ◌+◌, ◌≤◌, List, [], ◌∷◌, ◌++◌, length, map, refl, ap, sym, ◌∙◌, arith, subst, Result, Ok, Err, append-nil, append_assoc}
use Rattle.std.specs.List.{AllByRecursion, AllZip}
use Rattle.std.proofs.lemmas.List.{length_push}
use Rattle.std.proofs.lemmas.Bool.{le-ltb, lt-ltb}
use Rattle.q_aiger.specs.Headers.{Header}
use Rattle.q_aiger.specs.Lines.{words}
use Rattle.q_aiger.specs.Items.{Items, Behind, one_number, three_numbers, with_input, with_output, with_gate, with_line, follow, items_from}
use Rattle.q_aiger.specs.Grammar.{Definition, IsLine, input_numbers, output_numbers, gate_numbers, IsVar, IsLiteral, IsDefinition, AreOnce}
use Rattle.q_aiger.proofs.DefinedPlaces.{once-push, once-fresh}
use Rattle.q_aiger.proofs.ItemLines.{st, line-input, line-output, line-gate, InputTaken, input-taken, input-takes, OutputTaken, output-taken, output-takes, GateTaken, gate-taken, gate-takes}

abbrev pub vars_of : List Definition → List ℕ
vars_of gs = map (λ g. g.var) gs

abbrev pub pairs_of : List Definition → List (ℕ × ℕ)
pairs_of gs = map (λ g. (g.left, g.right)) gs

-- What the reader has taken.
pub record InputsRead (h : Header) (e : ℕ) (ds : List ℕ) (k r : ℕ) (ls : List (List ℕ)) (b : Behind) : Type 0 where
  pub vars : List ℕ
  pub lines : List (List ℕ)
  pub tail : List (List ℕ)
  pub line : ℕ
  pub split : ls ≡ lines ++ tail
  pub count : length vars ≡ k
  pub spelled : AllZip IsLine lines (input_numbers vars)
  pub bounds : AllByRecursion (IsVar h.max) vars
  pub once : AreOnce (ds ++ vars)
  pub rest : items_from h e line (st (ds ++ vars) [] []) r tail ≡ Ok b

pub inputs-read : (h : Header) (e n : ℕ) (ds : List ℕ) (k r m : ℕ) (ls : List (List ℕ)) (b : Behind) → h.max ≤ 268435456 → length ds + k ≡ h.inputs → m ≡ k + r → AreOnce ds → items_from h e n (st ds [] []) m ls ≡ Ok b → InputsRead h e ds k r ls b
inputs-read h e n ds zero r m ls b small c em o q =
    let z : m ≡ r = omega arith in
    let a : ds ++ [] ≡ ds = append-nil ds in
    record {
      vars = [];
      lines = [];
      tail = ls;
      line = n;
      split = refl;
      count = refl;
      spelled = tt;
      bounds = tt;
      once = subst AreOnce (sym a) o;
      rest = ap (λ (d : List ℕ). items_from h e n (st d [] []) r ls) a ∙ (ap (λ (i : ℕ). items_from h e n (st ds [] []) i ls) (sym z) ∙ q);
    }
inputs-read h e n ds (suc k) r zero ls b small c em o q = absurd (omega arith)
inputs-read h e n ds (suc k) r (suc m) [] b small c em o q = absurd (cc)
inputs-read h e n ds (suc k) r (suc m) (l ∷ ls) b small c em o q = go (with_input h (st ds [] []) (one_number (words l))) refl (λ v. inputs-read h e (n + 1) (ds ++ v ∷ []) k r m ls b small)
  where
    step : with_line h (st ds [] []) (words l) ≡ with_input h (st ds [] []) (one_number (words l))
    step = line-input h (st ds [] []) (words l) (lt-ltb (length ds) h.inputs (omega arith))

    go : (x : Result Items ℕ) → with_input h (st ds [] []) (one_number (words l)) ≡ x → ((v : ℕ) → length (ds ++ v ∷ []) + k ≡ h.inputs → m ≡ k + r → AreOnce (ds ++ v ∷ []) → items_from h e (n + 1) (st (ds ++ v ∷ []) [] []) m ls ≡ Ok b → InputsRead h e (ds ++ v ∷ []) k r ls b) → InputsRead h e ds (suc k) r (l ∷ ls) b
    go (Err x) p ih = absurd (let f : Err (n, x) ≡ Ok b = ap (λ y. follow n y (λ t. items_from h e (n + 1) t m ls)) (sym (step ∙ p)) ∙ q in cc)
    go (Ok t) p ih =
        let f : items_from h e (n + 1) t m ls ≡ Ok b = ap (λ y. follow n y (λ t. items_from h e (n + 1) t m ls)) (sym (step ∙ p)) ∙ q in
        let i : InputTaken h ds (words l) t = input-taken h ds (words l) t small p in
        let len = length_push ds i.var in
        let rest = ih i.var (omega arith) (omega arith) (once-push ds i.var o i.new) (ap (λ (t : Items). items_from h e (n + 1) t m ls) (sym i.is) ∙ f) in
        let a = append_assoc ds (i.var ∷ []) rest.vars in
        record {
          vars = i.var ∷ rest.vars;
          lines = l ∷ rest.lines;
          tail = rest.tail;
          line = rest.line;
          split = ap (λ (x : List (List ℕ)). l ∷ x) rest.split;
          count = ap suc rest.count;
          spelled = (i.spelled, rest.spelled);
          bounds = (i.bounds, rest.bounds);
          once = subst AreOnce a rest.once;
          rest = ap (λ (d : List ℕ). items_from h e rest.line (st d [] []) r rest.tail) (sym a) ∙ rest.rest;
        }

pub record OutputsRead (h : Header) (e : ℕ) (ds os : List ℕ) (k r : ℕ) (ls : List (List ℕ)) (b : Behind) : Type 0 where
  pub lits : List ℕ
  pub lines : List (List ℕ)
  pub tail : List (List ℕ)
  pub line : ℕ
  pub split : ls ≡ lines ++ tail
  pub count : length lits ≡ k
  pub spelled : AllZip IsLine lines (output_numbers lits)
  pub bounds : AllByRecursion (IsLiteral h.max) lits
  pub rest : items_from h e line (st ds (os ++ lits) []) r tail ≡ Ok b

pub outputs-read : (h : Header) (e n : ℕ) (ds os : List ℕ) (k r m : ℕ) (ls : List (List ℕ)) (b : Behind) → h.max ≤ 268435456 → length ds ≡ h.inputs → length os + k ≡ h.outputs → m ≡ k + r → items_from h e n (st ds os []) m ls ≡ Ok b → OutputsRead h e ds os k r ls b
outputs-read h e n ds os zero r m ls b small d c em q =
    let z : m ≡ r = omega arith in
    let a : os ++ [] ≡ os = append-nil os in
    record {
      lits = [];
      lines = [];
      tail = ls;
      line = n;
      split = refl;
      count = refl;
      spelled = tt;
      bounds = tt;
      rest = ap (λ (o : List ℕ). items_from h e n (st ds o []) r ls) a ∙ (ap (λ (i : ℕ). items_from h e n (st ds os []) i ls) (sym z) ∙ q);
    }
outputs-read h e n ds os (suc k) r zero ls b small d c em q = absurd (omega arith)
outputs-read h e n ds os (suc k) r (suc m) [] b small d c em q = absurd (cc)
outputs-read h e n ds os (suc k) r (suc m) (l ∷ ls) b small d c em q = go (with_output h (st ds os []) (one_number (words l))) refl (λ v. outputs-read h e (n + 1) ds (os ++ v ∷ []) k r m ls b small d)
  where
    step : with_line h (st ds os []) (words l) ≡ with_output h (st ds os []) (one_number (words l))
    step = line-output h (st ds os []) (words l) (le-ltb (length ds) h.inputs (omega arith)) (lt-ltb (length os) h.outputs (omega arith))

    go : (x : Result Items ℕ) → with_output h (st ds os []) (one_number (words l)) ≡ x → ((v : ℕ) → length (os ++ v ∷ []) + k ≡ h.outputs → m ≡ k + r → items_from h e (n + 1) (st ds (os ++ v ∷ []) []) m ls ≡ Ok b → OutputsRead h e ds (os ++ v ∷ []) k r ls b) → OutputsRead h e ds os (suc k) r (l ∷ ls) b
    go (Err x) p ih = absurd (let f : Err (n, x) ≡ Ok b = ap (λ y. follow n y (λ t. items_from h e (n + 1) t m ls)) (sym (step ∙ p)) ∙ q in cc)
    go (Ok t) p ih =
        let f : items_from h e (n + 1) t m ls ≡ Ok b = ap (λ y. follow n y (λ t. items_from h e (n + 1) t m ls)) (sym (step ∙ p)) ∙ q in
        let i : OutputTaken h ds os (words l) t = output-taken h ds os (words l) t small p in
        let len = length_push os i.lit in
        let rest = ih i.lit (omega arith) (omega arith) (ap (λ (t : Items). items_from h e (n + 1) t m ls) (sym i.is) ∙ f) in
        let a = append_assoc os (i.lit ∷ []) rest.lits in
        record {
          lits = i.lit ∷ rest.lits;
          lines = l ∷ rest.lines;
          tail = rest.tail;
          line = rest.line;
          split = ap (λ (x : List (List ℕ)). l ∷ x) rest.split;
          count = ap suc rest.count;
          spelled = (i.spelled, rest.spelled);
          bounds = (i.bounds, rest.bounds);
          rest = ap (λ (o : List ℕ). items_from h e rest.line (st ds o []) r rest.tail) (sym a) ∙ rest.rest;
        }

pub record GatesRead (h : Header) (ds os : List ℕ) (ps : List (ℕ × ℕ)) (k : ℕ) (ls : List (List ℕ)) (b : Behind) : Type 0 where
  pub gates : List Definition
  pub lines : List (List ℕ)
  pub tail : List (List ℕ)
  pub line : ℕ
  pub split : ls ≡ lines ++ tail
  pub count : length gates ≡ k
  pub spelled : AllZip IsLine lines (gate_numbers gates)
  pub bounds : AllByRecursion (IsDefinition h.max) gates
  pub once : AreOnce (ds ++ vars_of gates)
  pub is : b ≡ record { items = st (ds ++ vars_of gates) os (ps ++ pairs_of gates); line = line; lines = tail }

pub gates-read : (h : Header) (e n : ℕ) (ds os : List ℕ) (ps : List (ℕ × ℕ)) (k : ℕ) (ls : List (List ℕ)) (b : Behind) → h.max ≤ 268435456 → h.inputs ≤ length ds → length os ≡ h.outputs → AreOnce ds → items_from h e n (st ds os ps) k ls ≡ Ok b → GatesRead h ds os ps k ls b
gates-read h e n ds os ps zero ls b small d c o q =
    let z : ◌≡◌ {A = Behind} (record { items = st ds os ps; line = n; lines = ls }) b = cc in
    let a : ds ++ [] ≡ ds = append-nil ds in
    let a2 : ps ++ [] ≡ ps = append-nil ps in
    record {
      gates = [];
      lines = [];
      tail = ls;
      line = n;
      split = refl;
      count = refl;
      spelled = tt;
      bounds = tt;
      once = subst AreOnce (sym a) o;
      is = sym z ∙ (ap (λ (x : List ℕ). let y : Behind = record { items = st x os ps; line = n; lines = ls } in y) (sym a) ∙ ap (λ (x : List (ℕ × ℕ)). let y : Behind = record { items = st (ds ++ []) os x; line = n; lines = ls } in y) (sym a2));
    }
gates-read h e n ds os ps (suc k) [] b small d c o q = absurd (cc)
gates-read h e n ds os ps (suc k) (l ∷ ls) b small d c o q = go (with_gate h (st ds os ps) (three_numbers (words l))) refl (λ g. gates-read h e (n + 1) (ds ++ g.var ∷ []) os (ps ++ (g.left, g.right) ∷ []) k ls b small)
  where
    step : with_line h (st ds os ps) (words l) ≡ with_gate h (st ds os ps) (three_numbers (words l))
    step = line-gate h (st ds os ps) (words l) (le-ltb (length ds) h.inputs d) (le-ltb (length os) h.outputs (omega arith))

    go : (x : Result Items ℕ) → with_gate h (st ds os ps) (three_numbers (words l)) ≡ x → ((g : Definition) → h.inputs ≤ length (ds ++ g.var ∷ []) → length os ≡ h.outputs → AreOnce (ds ++ g.var ∷ []) → items_from h e (n + 1) (st (ds ++ g.var ∷ []) os (ps ++ (g.left, g.right) ∷ [])) k ls ≡ Ok b → GatesRead h (ds ++ g.var ∷ []) os (ps ++ (g.left, g.right) ∷ []) k ls b) → GatesRead h ds os ps (suc k) (l ∷ ls) b
    go (Err x) p ih = absurd (let f : Err (n, x) ≡ Ok b = ap (λ y. follow n y (λ t. items_from h e (n + 1) t k ls)) (sym (step ∙ p)) ∙ q in cc)
    go (Ok t) p ih =
        let f : items_from h e (n + 1) t k ls ≡ Ok b = ap (λ y. follow n y (λ t. items_from h e (n + 1) t k ls)) (sym (step ∙ p)) ∙ q in
        let i : GateTaken h ds os ps (words l) t = gate-taken h ds os ps (words l) t small p in
        let len = length_push ds i.gate.var in
        let rest = ih i.gate (omega arith) c (once-push ds i.gate.var o i.new) (ap (λ (t : Items). items_from h e (n + 1) t k ls) (sym i.is) ∙ f) in
        let a = append_assoc ds (i.gate.var ∷ []) (vars_of rest.gates) in
        let a2 = append_assoc ps ((i.gate.left, i.gate.right) ∷ []) (pairs_of rest.gates) in
        record {
          gates = i.gate ∷ rest.gates;
          lines = l ∷ rest.lines;
          tail = rest.tail;
          line = rest.line;
          split = ap (λ (x : List (List ℕ)). l ∷ x) rest.split;
          count = ap suc rest.count;
          spelled = (i.spelled, rest.spelled);
          bounds = (i.bounds, rest.bounds);
          once = subst AreOnce a rest.once;
          is = rest.is ∙ (ap (λ (x : List ℕ). let y : Behind = record { items = st x os ((ps ++ (i.gate.left, i.gate.right) ∷ []) ++ pairs_of rest.gates); line = rest.line; lines = rest.tail } in y) a ∙ ap (λ (x : List (ℕ × ℕ)). let y : Behind = record { items = st (ds ++ i.gate.var ∷ vars_of rest.gates) os x; line = rest.line; lines = rest.tail } in y) a2);
        }

-- What is in the grammar is taken.
pub read-inputs : (h : Header) (e n : ℕ) (ds vs : List ℕ) (r m : ℕ) (lines rest : List (List ℕ)) → h.max ≤ 268435456 → length ds + length vs ≡ h.inputs → m ≡ length vs + r → AllZip IsLine lines (input_numbers vs) → AllByRecursion (IsVar h.max) vs → AreOnce (ds ++ vs) → (n2 : ℕ) × (items_from h e n (st ds [] []) m (lines ++ rest) ≡ items_from h e n2 (st (ds ++ vs) [] []) r rest)
read-inputs h e n ds [] r m [] rest small c em s b o =
    let z : m ≡ r = omega arith in
    (n, ap (λ (i : ℕ). items_from h e n (st ds [] []) i rest) z ∙ ap (λ (d : List ℕ). items_from h e n (st d [] []) r rest) (sym (append-nil ds)))
read-inputs h e n ds [] r m (l ∷ lines) rest small c em s b o = absurd s
read-inputs h e n ds (v ∷ vs) r m [] rest small c em s b o = absurd s
read-inputs h e n ds (v ∷ vs) r zero (l ∷ lines) rest small c em s b o = absurd (omega arith)
read-inputs h e n ds (v ∷ vs) r (suc m) (l ∷ lines) rest small c em s b o =
    let step = line-input h (st ds [] []) (words l) (lt-ltb (length ds) h.inputs (omega arith)) ∙ input-takes h ds (words l) v small s.0 b.0 (once-fresh ds v vs o) in
    let len = length_push ds v in
    let a = append_assoc ds (v ∷ []) vs in
    let i = read-inputs h e (n + 1) (ds ++ v ∷ []) vs r m lines rest small (omega arith) (omega arith) s.1 b.1 (subst AreOnce (sym a) o) in
    (i.0, ap (λ y. follow n y (λ t. items_from h e (n + 1) t m (lines ++ rest))) step ∙ (i.1 ∙ ap (λ (d : List ℕ). items_from h e i.0 (st d [] []) r rest) a))

pub read-outputs : (h : Header) (e n : ℕ) (ds os vs : List ℕ) (r m : ℕ) (lines rest : List (List ℕ)) → h.max ≤ 268435456 → length ds ≡ h.inputs → length os + length vs ≡ h.outputs → m ≡ length vs + r → AllZip IsLine lines (output_numbers vs) → AllByRecursion (IsLiteral h.max) vs → (n2 : ℕ) × (items_from h e n (st ds os []) m (lines ++ rest) ≡ items_from h e n2 (st ds (os ++ vs) []) r rest)
read-outputs h e n ds os [] r m [] rest small d c em s b =
    let z : m ≡ r = omega arith in
    (n, ap (λ (i : ℕ). items_from h e n (st ds os []) i rest) z ∙ ap (λ (o : List ℕ). items_from h e n (st ds o []) r rest) (sym (append-nil os)))
read-outputs h e n ds os [] r m (l ∷ lines) rest small d c em s b = absurd s
read-outputs h e n ds os (v ∷ vs) r m [] rest small d c em s b = absurd s
read-outputs h e n ds os (v ∷ vs) r zero (l ∷ lines) rest small d c em s b = absurd (omega arith)
read-outputs h e n ds os (v ∷ vs) r (suc m) (l ∷ lines) rest small d c em s b =
    let step = line-output h (st ds os []) (words l) (le-ltb (length ds) h.inputs (omega arith)) (lt-ltb (length os) h.outputs (omega arith)) ∙ output-takes h ds os (words l) v small s.0 b.0 in
    let len = length_push os v in
    let a = append_assoc os (v ∷ []) vs in
    let i = read-outputs h e (n + 1) ds (os ++ v ∷ []) vs r m lines rest small d (omega arith) (omega arith) s.1 b.1 in
    (i.0, ap (λ y. follow n y (λ t. items_from h e (n + 1) t m (lines ++ rest))) step ∙ (i.1 ∙ ap (λ (o : List ℕ). items_from h e i.0 (st ds o []) r rest) a))

pub read-gates : (h : Header) (e n : ℕ) (ds os : List ℕ) (ps : List (ℕ × ℕ)) (gs : List Definition) (k : ℕ) (lines rest : List (List ℕ)) → h.max ≤ 268435456 → h.inputs ≤ length ds → length os ≡ h.outputs → k ≡ length gs → AllZip IsLine lines (gate_numbers gs) → AllByRecursion (IsDefinition h.max) gs → AreOnce (ds ++ vars_of gs) → (n2 : ℕ) × (items_from h e n (st ds os ps) k (lines ++ rest) ≡ Ok (record { items = st (ds ++ vars_of gs) os (ps ++ pairs_of gs); line = n2; lines = rest }))
read-gates h e n ds os ps [] zero [] rest small d c em s b o =
    let a : ds ++ [] ≡ ds = append-nil ds in
    let a2 : ps ++ [] ≡ ps = append-nil ps in
    (n, ap (λ (x : List ℕ). let y : Result Behind (ℕ × ℕ) = Ok (record { items = st x os ps; line = n; lines = rest }) in y) (sym a) ∙ ap (λ (x : List (ℕ × ℕ)). let y : Result Behind (ℕ × ℕ) = Ok (record { items = st (ds ++ []) os x; line = n; lines = rest }) in y) (sym a2))
read-gates h e n ds os ps [] (suc k) [] rest small d c em s b o = absurd (omega arith)
read-gates h e n ds os ps [] k (l ∷ lines) rest small d c em s b o = absurd s
read-gates h e n ds os ps (g ∷ gs) k [] rest small d c em s b o = absurd s
read-gates h e n ds os ps (g ∷ gs) zero (l ∷ lines) rest small d c em s b o = absurd (omega arith)
read-gates h e n ds os ps (g ∷ gs) (suc k) (l ∷ lines) rest small d c em s b o =
    let step = line-gate h (st ds os ps) (words l) (le-ltb (length ds) h.inputs d) (le-ltb (length os) h.outputs (omega arith)) ∙ gate-takes h ds os ps (words l) g small s.0 b.0 (once-fresh ds g.var (vars_of gs) o) in
    let len = length_push ds g.var in
    let a = append_assoc ds (g.var ∷ []) (vars_of gs) in
    let a2 = append_assoc ps ((g.left, g.right) ∷ []) (pairs_of gs) in
    let i = read-gates h e (n + 1) (ds ++ g.var ∷ []) os (ps ++ (g.left, g.right) ∷ []) gs k lines rest small (omega arith) c (omega arith) s.1 b.1 (subst AreOnce (sym a) o) in (
      i.0,
      ap (λ y. follow n y (λ t. items_from h e (n + 1) t k (lines ++ rest))) step
          ∙ (i.1 ∙ (ap (λ (x : List ℕ). let y : Result Behind (ℕ × ℕ) = Ok (record { items = st x os ((ps ++ (g.left, g.right) ∷ []) ++ pairs_of gs); line = i.0; lines = rest }) in y) a
          ∙ ap (λ (x : List (ℕ × ℕ)). let y : Result Behind (ℕ × ℕ) = Ok (record { items = st (ds ++ g.var ∷ vars_of gs) os x; line = i.0; lines = rest }) in y) a2)),
    )
