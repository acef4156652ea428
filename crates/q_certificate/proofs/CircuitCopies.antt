-- Marks, copies and outputs, one step further.
use Rattle.std.proofs.Common.{◌≡◌, ◌⊎◌, ℕ, ◌+◌, ◌<◌, Bool, true, false, cond, eqb, List, [], ◌∷◌, ◌++◌, length, map, get_or, slice_get, inl, inr, add-one, arith, refl, sym, ap, ◌∙◌, subst, Option, Some, None}
use Rattle.std.proofs.lemmas.List.{length_push, get_or_append_left, get_or_push, get_or_past}
use Rattle.std.proofs.lemmas.Bool.{cases_lt, both_ways}
use Rattle.std.proofs.lemmas.Option.{slice_get_within, get_or_from_slice_get}
use Rattle.q_logic.specs.Prelude.{Circuit, constant, inverter, input, GateNode, falsum, input_at, gate_at, Operand, Gate, IsThere, AreGates, node_tree, operand_tree, gate_tree, gate_trees, output_named, tree_of_some}
use Rattle.q_aig.specs.declared.output.Output.{Output}
use Rattle.q_aig.specs.Prelude.{Net, IsLiteral, tree_at, operand_of, gate_of, IsNet, no_output, output_of, Serves, IsConjunction}
use Rattle.q_aig.proofs.Nets.{tree-at-gate}
use Rattle.q_aig.proofs.Substitutes.{serves-self, serves-same, serves-then, serves-conjunction}
use Rattle.q_certificate.specs.Standing.{look_at, AreLiterals, Stands, InputsAt}
use Rattle.q_certificate.specs.Copied.{IsNeeded, root, left, right, IsMarked, AreMarking, or_zero, copied_plain, copied_operand, tree_of_gate, ReadsOnly, marked_upto, AreCopied, strategy_of, IsCopy, ArePlaced}
use Rattle.q_certificate.proofs.LiteralRows.{operand-there, operand-serves, inputs-kept, stands-put, literals-put}
use Rattle.q_certificate.proofs.CircuitParts.{grown-none, grown-then, grown-by}

marked-kept : (ms ms2 : List Bool) (x : GateNode) → ((g : ℕ) → get_or ms g false ≡ true → get_or ms2 g false ≡ true) → IsMarked ms x → IsMarked ms2 x
marked-kept ms ms2 falsum k h = tt
marked-kept ms ms2 (input_at i) k h = tt
marked-kept ms ms2 (gate_at g) k h = k g h

pub marking-none : (gates : List Gate) (os : List Output) (ms : List Bool) → ((g : ℕ) → get_or ms g false ≡ false) → AreMarking gates os ms 0 (length gates)
marking-none gates os ms un = record {
  outputs = λ i h. absurd (omega arith);
  closed = λ g x h m e. absurd (let b = slice_get_within gates g x e in omega arith);
  needed = λ g m. absurd (both_ways (get_or ms g false) (un g) m);
}

pub marking-mark : (gates : List Gate) (os : List Output) (ms ms2 : List Bool) (upto from : ℕ) (n : GateNode) → AreMarking gates os ms upto from → IsNeeded gates os n → ((g : ℕ) → n ≡ gate_at g → g < from) →
    ((g : ℕ) → get_or ms g false ≡ true → get_or ms2 g false ≡ true) → ((g : ℕ) → get_or ms2 g false ≡ true → (get_or ms g false ≡ true) ⊎ (n ≡ gate_at g)) → AreMarking gates os ms2 upto from
marking-mark gates os ms ms2 upto from n a need low k only = record {
  outputs = λ i h. marked-kept ms ms2 _ k (a.outputs i h);
  closed = λ g x h m e. elim (only g m) [
    | inl b ↦ let r = a.closed g x h b e in (marked-kept ms ms2 x.left.node k r.0, marked-kept ms ms2 x.right.node k r.1)
    | inr b ↦ absurd (let l = low g b in omega arith)
  ];
  needed = λ g m. elim (only g m) [ inl b ↦ a.needed g b | inr b ↦ subst (IsNeeded gates os) b need ];
}

pub marking-output : (gates : List Gate) (os : List Output) (ms : List Bool) (i from : ℕ) → AreMarking gates os ms i from → IsMarked ms (operand_of (get_or os i no_output).lit).node → AreMarking gates os ms (i + 1) from
marking-output gates os ms i from a m = record {
  outputs = λ j h. elim (cases_lt j i) [
    | inl b ↦ a.outputs j b
    | inr b ↦ let e : i ≡ j = omega arith in subst (λ (k : ℕ). IsMarked ms (operand_of (get_or os k no_output).lit).node) e m
  ];
  closed = a.closed;
  needed = a.needed;
}

pub marking-gate : (gates : List Gate) (os : List Output) (ms : List Bool) (upto g : ℕ) → AreMarking gates os ms upto (g + 1) → (get_or ms g false ≡ true → (x : Gate) → slice_get gates g ≡ Some x → IsMarked ms x.left.node × IsMarked ms x.right.node) → AreMarking gates os ms upto g
marking-gate gates os ms upto g a m = record {
  outputs = a.outputs;
  closed = λ j x h t e. elim (cases_lt g j) [
    | inl b ↦ a.closed j x (omega arith) t e
    | inr b ↦
        let q : j ≡ g = omega arith in
        m (subst (λ (k : ℕ). get_or ms k false ≡ true) q t) x (subst (λ (k : ℕ). slice_get gates k ≡ Some x) q e)
  ];
  needed = a.needed;
}

reads-of-node : (U : ℕ → Bool) (b : Bool) (t : Circuit) → ReadsOnly U (cond b (inverter t) t) → ReadsOnly U t
reads-of-node U true t h = h
reads-of-node U false t h = h

-- an operand in the copy
pub copy-serves : (old n : Net) (ins : List (Option ℕ)) (row : List ℕ) (U : ℕ → Bool) (marks : List Bool) (k l : ℕ) (o : Operand) → IsThere (length old.inputs) k o.node → IsMarked marks o.node → InputsAt n ins U →
    ((g : ℕ) → g < k → get_or marks g false ≡ true → ReadsOnly U (tree_of_gate old g) → Serves (tree_at n (get_or row g 0)) (tree_of_gate old g)) →
    operand_of l ≡ copied_operand old.inputs ins row o → ReadsOnly U (operand_tree old.inputs (gate_trees old.inputs [] old.gates) o) → Serves (tree_at n l) (operand_tree old.inputs (gate_trees old.inputs [] old.gates) o)
copy-serves old n ins row U marks k l o t m i h e r =
    operand-serves n (copied_plain old.inputs ins row o.node) l o.negated (node_tree old.inputs (gate_trees old.inputs [] old.gates) o.node) e (by-node o.node t m (reads-of-node U o.negated _ r))
  where
    by-node : (x : GateNode) → IsThere (length old.inputs) k x → IsMarked marks x → ReadsOnly U (node_tree old.inputs (gate_trees old.inputs [] old.gates) x) → Serves (tree_at n (copied_plain old.inputs ins row x)) (node_tree old.inputs (gate_trees old.inputs [] old.gates) x)
    by-node falsum t m r = serves-self (constant false)
    by-node (input_at j) t m r =
        let q = i (get_or old.inputs j 0) (r (get_or old.inputs j 0) refl) in
        subst (λ (p : Option ℕ). Serves (tree_at n (or_zero p)) (input (get_or old.inputs j 0))) (sym q.1) (serves-same _ _ q.2)
    by-node (gate_at g) t m r = h g t m r

pub or-zero-there : (n : Net) (m : Option ℕ) → ((l : ℕ) → m ≡ Some l → IsLiteral n l) → IsLiteral n (or_zero m)
or-zero-there n None h = tt
or-zero-there n (Some l) h = h l refl

plain-there : (names : List ℕ) (n : Net) (ins : List (Option ℕ)) (row : List ℕ) (x : GateNode) → AreLiterals n ins → ((g : ℕ) → IsLiteral n (get_or row g 0)) → IsLiteral n (copied_plain names ins row x)
plain-there names n ins row falsum li lr = tt
plain-there names n ins row (input_at i) li lr = or-zero-there n (look_at ins (get_or names i 0)) (li (get_or names i 0))
plain-there names n ins row (gate_at g) li lr = lr g

pub copy-there : (names : List ℕ) (n : Net) (ins : List (Option ℕ)) (row : List ℕ) (l : ℕ) (o : Operand) → operand_of l ≡ copied_operand names ins row o → AreLiterals n ins → ((g : ℕ) → IsLiteral n (get_or row g 0)) → IsLiteral n l
copy-there names n ins row l o e li lr = operand-there n (copied_plain names ins row o.node) l o.negated e (plain-there names n ins row o.node li lr)

pub gate-is : (old : Net) (g : ℕ) (x : Gate) → AreGates (length old.inputs) 0 old.gates → slice_get old.gates g ≡ Some x → tree_of_gate old g ≡ gate_tree old.inputs (gate_trees old.inputs [] old.gates) x
gate-is old g x o e =
    let t : get_or (gate_trees old.inputs [] old.gates) (0 + g) (Circuit.constant false) ≡ gate_tree old.inputs (gate_trees old.inputs [] old.gates) (get_or old.gates g x) = tree-at-gate old.inputs [] old.gates g x o (slice_get_within old.gates g x e) in
    let z : 0 + g ≡ g = omega arith in
    let m : get_or old.gates g x ≡ x = get_or_from_slice_get old.gates g x x e in
    subst (λ (i : ℕ). get_or (gate_trees old.inputs [] old.gates) i (Circuit.constant false) ≡ gate_tree old.inputs (gate_trees old.inputs [] old.gates) x) z
    (subst (λ (y : Gate). get_or (gate_trees old.inputs [] old.gates) (0 + g) (Circuit.constant false) ≡ gate_tree old.inputs (gate_trees old.inputs [] old.gates) y) m t)

pub copy-is : (old before after : Net) (ins : List (Option ℕ)) (row : List ℕ) (gate l r a b c : ℕ) → IsNet old → slice_get old.gates gate ≡ Some (gate_of (l, r)) → IsThere (length old.inputs) gate (operand_of l).node → IsThere (length old.inputs) gate (operand_of r).node →
    operand_of a ≡ copied_operand old.inputs ins row (operand_of l) → operand_of b ≡ copied_operand old.inputs ins row (operand_of r) → IsConjunction before after a b c → IsCopy old ins before after row gate c
copy-is old before after ins row gate l r a b c net e tl tr ea eb h = record {
  grown = grown-by before after a b c h;
  there = h.there;
  serves = λ U marks i low ms ro.
      let t = gate-is old gate (gate_of (l, r)) net.ordered e in
      let ro2 : ReadsOnly U (gate_tree old.inputs (gate_trees old.inputs [] old.gates) (gate_of (l, r))) = subst (ReadsOnly U) t ro in
      let m = ms (gate_of (l, r)) e in
      let x = copy-serves old before ins row U marks gate a (operand_of l) tl m.0 i low ea (λ u q. ro2 u (inl q)) in
      let y = copy-serves old before ins row U marks gate b (operand_of r) tr m.1 i low eb (λ u q. ro2 u (inr q)) in
      serves-then _ _ _ h.serves (serves-then _ _ _ (serves-conjunction _ _ _ _ x y) (serves-same _ _ (sym t)));
}

upto-skip : (marks : List Bool) (n : ℕ) → get_or marks n false ≡ false → marked_upto marks (n + 1) ≡ marked_upto marks n
upto-skip marks n h = rw add-one (ap (λ (b : Bool). cond b (marked_upto marks n + 1) (marked_upto marks n)) h)

upto-more : (marks : List Bool) (n : ℕ) → get_or marks n false ≡ true → marked_upto marks (n + 1) ≡ marked_upto marks n + 1
upto-more marks n h = rw add-one (ap (λ (b : Bool). cond b (marked_upto marks n + 1) (marked_upto marks n)) h)

pub copied-none : (old base : Net) (marks : List Bool) (ins : List (Option ℕ)) → AreCopied old marks ins base base [] 0
copied-none old base marks ins = record {
  room = refl;
  grown = grown-none base;
  there = λ g. tt;
  serves = λ U i g h. absurd (omega arith);
}

pub copied-skip : (old base now : Net) (marks : List Bool) (ins : List (Option ℕ)) (row row2 : List ℕ) (n : ℕ) → AreCopied old marks ins base now row n → get_or marks n false ≡ false → row2 ≡ row ++ 0 ∷ [] → AreCopied old marks ins base now row2 (n + 1)
copied-skip old base now marks ins row row2 n c un e =
    let len = length_push row 0 in
    let rm : length row ≡ n = c.room in
    record {
      room = rw e (omega arith);
      grown = grown-then base now now (marked_upto marks n) 0 (marked_upto marks (n + 1)) c.grown (grown-none now) (let z = upto-skip marks n un in omega arith);
      there = λ g. rw e (elim (cases_lt g (length row)) [
        | inl b ↦ subst (IsLiteral now) (sym (get_or_append_left row (0 ∷ []) 0 g b)) (c.there g)
        | inr b ↦ elim (cases_lt (length row) g) [
          | inl d ↦ subst (IsLiteral now) (sym (get_or_past (row ++ 0 ∷ []) g 0 (omega arith))) tt
          | inr d ↦ subst (IsLiteral now) (sym (get_or_push row 0 0 g (omega arith))) tt
        ]
      ]);
      serves = λ U i g h m r. elim (cases_lt g n) [
        | inl b ↦
            let s : get_or row2 g 0 ≡ get_or row g 0 = ap (λ (xs : List ℕ). get_or xs g 0) e ∙ get_or_append_left row (0 ∷ []) 0 g (omega arith) in
            subst (λ (l : ℕ). Serves (tree_at now l) (tree_of_gate old g)) (sym s) (c.serves U i g b m r)
        | inr b ↦ let q : n ≡ g = omega arith in absurd (both_ways (get_or marks g false) (subst (λ (k : ℕ). get_or marks k false ≡ false) q un) m)
      ];
    }

pub copied-more : (old base now new : Net) (marks : List Bool) (ins : List (Option ℕ)) (row row2 : List ℕ) (n l : ℕ) → get_or marks n false ≡ true → AreLiterals base ins → AreCopied old marks ins base now row n → IsCopy old ins now new row n l → ((x : Gate) → slice_get old.gates n ≡ Some x → IsMarked marks x.left.node × IsMarked marks x.right.node) → row2 ≡ row ++ l ∷ [] → AreCopied old marks ins base new row2 (n + 1)
copied-more old base now new marks ins row row2 n l on li c p ms e =
    let len = length_push row l in
    let rm : length row ≡ n = c.room in
    record {
      room = rw e (omega arith);
      grown = grown-then base now new (marked_upto marks n) 1 (marked_upto marks (n + 1)) c.grown p.grown (let z = upto-more marks n on in omega arith);
      there = λ g. rw e (elim (cases_lt g (length row)) [
        | inl b ↦ subst (IsLiteral new) (sym (get_or_append_left row (l ∷ []) 0 g b)) (p.grown.kept (get_or row g 0) (c.there g)).0
        | inr b ↦ elim (cases_lt (length row) g) [
          | inl d ↦ subst (IsLiteral new) (sym (get_or_past (row ++ l ∷ []) g 0 (omega arith))) tt
          | inr d ↦ subst (IsLiteral new) (sym (get_or_push row l 0 g (omega arith))) p.there
        ]
      ]);
      serves = λ U i g h m r. elim (cases_lt g n) [
        | inl b ↦
            let s : get_or row2 g 0 ≡ get_or row g 0 = ap (λ (xs : List ℕ). get_or xs g 0) e ∙ get_or_append_left row (l ∷ []) 0 g (omega arith) in
            subst (λ (k : ℕ). Serves (tree_at new k) (tree_of_gate old g)) (sym s) (serves-then _ _ _ (serves-same _ _ (p.grown.kept (get_or row g 0) (c.there g)).1) (c.serves U i g b m r))
        | inr b ↦
            let q : g ≡ n = omega arith in
            let s : get_or row2 g 0 ≡ l = ap (λ (xs : List ℕ). get_or xs g 0) e ∙ get_or_push row l 0 g (omega arith) in
            let r2 : ReadsOnly U (tree_of_gate old n) = subst (λ (k : ℕ). ReadsOnly U (tree_of_gate old k)) q r in
            let t : Serves (tree_at new l) (tree_of_gate old n) = p.serves U marks (inputs-kept base now ins U c.grown.kept li i) (c.serves U i) ms r2 in
            subst (λ (k : ℕ). Serves (tree_at new k) (tree_of_gate old g)) (sym s) (subst (λ (k : ℕ). Serves (tree_at new l) (tree_of_gate old k)) (sym q) t)
      ];
    }

pub placed-none : (old : Net) (ins : List (Option ℕ)) (row : List ℕ) (os : List Output) → ArePlaced old ins row os [] []
placed-none old ins row os = record {
  literals = λ n li lr x l e. absurd (cc);
  at = λ base n marks U m c li i ro. record { inputs = inputs-kept base n ins U c.grown.kept li i; circuits = λ x. tt };
}

pub placed-more : (old : Net) (ins tb tb2 : List (Option ℕ)) (row : List ℕ) (os rest : List Output) (k l : ℕ) (o : Output) → o ≡ get_or os k no_output → k < length os → IsLiteral old o.lit → ArePlaced old ins row os rest tb → operand_of l ≡ copied_operand old.inputs ins row (operand_of o.lit) → ((x : ℕ) → look_at tb2 x ≡ cond (eqb x o.var) (Some l) (look_at tb x)) → ArePlaced old ins row os (o ∷ rest) tb2
placed-more old ins tb tb2 row os rest k l o is lt lit p e put = record {
  literals = λ n li lr. literals-put n tb tb2 o.var (Some l) put (λ m q. let s : l ≡ m = cc in subst (IsLiteral n) s (copy-there old.inputs n ins row l (operand_of o.lit) e li lr)) (p.literals n li lr);
  at = λ base n marks U m c li i ro.
      stands-put n ins tb tb2 U (strategy_of old rest) (strategy_of old (o ∷ rest)) o.var (Some l) put
      (λ x q. let f : eqb o.var x ≡ false = flip x q in ap (λ (b : Bool). tree_of_some (record { inputs = old.inputs; gates = old.gates; outputs = map output_of (o ∷ rest) }) (cond b (Some (operand_of o.lit)) (output_named x (map output_of rest)))) f)
      (λ x q. let f : eqb o.var x ≡ true = flop x q in subst (λ (b : Bool). Stands n (tree_of_some (record { inputs = old.inputs; gates = old.gates; outputs = map output_of (o ∷ rest) }) (cond b (Some (operand_of o.lit)) (output_named x (map output_of rest)))) (Some l)) (sym f)
      (copy-serves old n ins row U marks (length old.gates) l (operand_of o.lit) lit
      (subst (λ (y : Output). IsMarked marks (operand_of y.lit).node) (sym is) (m.outputs k lt))
      (inputs-kept base n ins U c.grown.kept li i) (c.serves U i) e
      (subst (λ (y : Output). ReadsOnly U (tree_at old y.lit)) (sym is) (ro k lt))))
      (p.at base n marks U m c li i ro);
}
  where
    flip : (x : ℕ) → eqb x o.var ≡ false → eqb o.var x ≡ false
    flip x q = grind arith

    flop : (x : ℕ) → eqb x o.var ≡ true → eqb o.var x ≡ true
    flop x q = grind arith

below-of : (n g : ℕ) (x : GateNode) → IsThere n g x → (j : ℕ) → x ≡ gate_at j → j < g
below-of n g x h j e = subst (IsThere n g) e h

-- an output marked
pub marking-next : (n : ℕ) (gates : List Gate) (os : List Output) (ms ms2 : List Bool) (i : ℕ) (x : GateNode) → AreMarking gates os ms i (length gates) → i < length os → x ≡ (operand_of (get_or os i no_output).lit).node → IsThere n (length gates) x →
    IsMarked ms2 x → ((g : ℕ) → get_or ms g false ≡ true → get_or ms2 g false ≡ true) → ((g : ℕ) → get_or ms2 g false ≡ true → (get_or ms g false ≡ true) ⊎ (x ≡ gate_at g)) → AreMarking gates os ms2 (i + 1) (length gates)
marking-next n gates os ms ms2 i x a lt e t m k only =
    let need : IsNeeded gates os x = subst (IsNeeded gates os) (sym e) (root i lt) in
    marking-output gates os ms2 i (length gates) (marking-mark gates os ms ms2 i (length gates) x a need (below-of n (length gates) x t) k only) (subst (IsMarked ms2) e m)

-- both operands of a marked gate marked
pub marking-turn : (n : ℕ) (gates : List Gate) (os : List Output) (ms ms1 ms2 : List Bool) (upto g : ℕ) (x : Gate) (y z : GateNode) → AreMarking gates os ms upto (g + 1) → get_or ms g false ≡ true → slice_get gates g ≡ Some x → IsThere n g x.left.node → IsThere n g x.right.node → y ≡ x.left.node → z ≡ x.right.node →
    IsMarked ms1 y → ((j : ℕ) → get_or ms j false ≡ true → get_or ms1 j false ≡ true) → ((j : ℕ) → get_or ms1 j false ≡ true → (get_or ms j false ≡ true) ⊎ (y ≡ gate_at j)) →
    IsMarked ms2 z → ((j : ℕ) → get_or ms1 j false ≡ true → get_or ms2 j false ≡ true) → ((j : ℕ) → get_or ms2 j false ≡ true → (get_or ms1 j false ≡ true) ⊎ (z ≡ gate_at j)) → AreMarking gates os ms2 upto g
marking-turn n gates os ms ms1 ms2 upto g x y z a t e tl tr ey ez m1 k1 o1 m2 k2 o2 =
    let need : IsNeeded gates os (gate_at g) = a.needed g t in
    let ny : IsNeeded gates os y = subst (IsNeeded gates os) (sym ey) (left g x e need) in
    let nz : IsNeeded gates os z = subst (IsNeeded gates os) (sym ez) (right g x e need) in
    let ly : (j : ℕ) → y ≡ gate_at j → j < g + 1 = λ j q. let h = below-of n g x.left.node tl j (sym ey ∙ q) in omega arith in
    let lz : (j : ℕ) → z ≡ gate_at j → j < g + 1 = λ j q. let h = below-of n g x.right.node tr j (sym ez ∙ q) in omega arith in
    let b = marking-mark gates os ms ms1 upto (g + 1) y a ny ly k1 o1 in
    let c = marking-mark gates os ms1 ms2 upto (g + 1) z b nz lz k2 o2 in
    marking-gate gates os ms2 upto g c (λ u w q.
    let s : x ≡ w = same-some x w (sym e ∙ q) in (
      subst (λ (v : Gate). IsMarked ms2 v.left.node) s (subst (IsMarked ms2) ey (marked-kept ms1 ms2 y k2 m1)),
      subst (λ (v : Gate). IsMarked ms2 v.right.node) s (subst (IsMarked ms2) ez m2),
    ))
  where
    same-some : (x w : Gate) → Some x ≡ Some w → x ≡ w
    same-some x w e = cc

pub marking-skip : (gates : List Gate) (os : List Output) (ms : List Bool) (upto g : ℕ) → AreMarking gates os ms upto (g + 1) → get_or ms g false ≡ false → AreMarking gates os ms upto g
marking-skip gates os ms upto g a un = marking-gate gates os ms upto g a (λ t x e. absurd (both_ways (get_or ms g false) un t))
