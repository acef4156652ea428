-- What circuits read, by the places of inputs.
use Rattle.std.proofs.Common.{◌≡◌, ◌⊎◌, ℕ, zero, suc, ◌+◌, ◌<◌, ◌&&◌, Bool, true, false, not, cond, eqb, List, [], ◌∷◌, ◌++◌, length, map, get_or, take, slice_get, inl, inr, arith, refl, sym, ap, ◌∙◌, subst, Option, Some, None}
use Rattle.std.proofs.lemmas.Bool.{cases_Bool, both_ways, cases_lt}
use Rattle.std.proofs.lemmas.List.{get_or-map, length-map, length_push, get_or_append_left, get_or_past, get_or_push}
use Rattle.std.proofs.lemmas.Option.{get_or_from_slice_get}
use Rattle.q_logic.specs.declared.formulas.Bound.{Bound}
use Rattle.q_logic.specs.Prelude.{Prefix, is_exists, is_existential, is_universal, universal_before, Distinct, Circuit, Reads, inverter, GateNode, falsum, input_at, gate_at, Operand, Gate, IsThere, AreGates, node_tree, operand_tree, gate_tree, gate_trees, NamedOutput, CertificateView, output_named, tree_of_some, trees_of, or_input, circuit_of, given, Lawful}
use Rattle.q_aig.specs.declared.output.Output.{Output}
use Rattle.q_aig.specs.Prelude.{Net, IsLiteral, tree_at, operand_of, no_output, output_of, net_of, AreOutputs}
use Rattle.q_aig.specs.Cones.{ReadsAt, IsRead}
use Rattle.q_certificate.specs.Tabled.{Matches, AreAllowedBy}
use Rattle.q_certificate.specs.Refusals.{first_missing, first_strange, input_name, ReadsInput, IsStrangeInput, NoStrangeInput, IsOuter, IsTooInner, Fits}
use Rattle.q_certificate.specs.Testing.{name_at, IsFirstIn, IsFirstOver}
use Rattle.q_logic.proofs.CertificateTrees.{length-gate_trees}
use Rattle.q_aig.proofs.Nets.{IsThere-more}
use Rattle.q_certificate.proofs.NamedCertificates.{named-at}
use Rattle.q_certificate.proofs.PrefixInputs.{no_bound}
use Rattle.q_certificate.proofs.VariableTables.{before-take}

-- the circuit of x is the tree of a literal
module _ (c : CertificateView) (x l : ℕ) (e : trees_of c x ≡ Some (tree_at (net_of c) l)) where
  pub to-input : (i : ℕ) → ReadsAt (net_of c) l i → ReadsInput c x i
  to-input i r = (ap given e, r.0, subst (λ (o : Option Circuit). Reads (or_input x o) (get_or c.inputs i 0)) (sym e) r.1)

  pub from-input : (i : ℕ) → ReadsInput c x i → ReadsAt (net_of c) l i
  from-input i r = (r.1, subst (λ (o : Option Circuit). Reads (or_input x o) (get_or c.inputs i 0)) e r.2)

pub first-in : (c : CertificateView) (x l : ℕ) (allowed : List Bool) (f : Option ℕ) → trees_of c x ≡ Some (tree_at (net_of c) l) → IsRead (net_of c) l allowed f → IsFirstIn c x allowed f
first-in c x l allowed None e r = λ i h. r i (from-input c x l e i h)
first-in c x l allowed (Some f) e r = (to-input c x l e f r.read, r.strange, λ i lt h. r.first i lt (from-input c x l e i h))

pub none-in : (c : CertificateView) (x : ℕ) (allowed : List Bool) → given (trees_of c x) ≡ false → IsFirstIn c x allowed None
none-in c x allowed e i h = absurd (both_ways (given (trees_of c x)) e h.0)

pub matched-none : (a : Net) (o : Option Circuit) (m : Option ℕ) → Matches a o m → m ≡ None → given o ≡ false
matched-none a None m s e = refl
matched-none a (Some t) None s e = absurd s
matched-none a (Some t) (Some l) s e = absurd (cc)

pub matched-some : (a : Net) (o : Option Circuit) (m : Option ℕ) (l : ℕ) → Matches a o m → m ≡ Some l → IsLiteral a l × (o ≡ Some (tree_at a l))
matched-some a None None l s e = absurd (cc)
matched-some a None (Some k) l s e = absurd s
matched-some a (Some t) None l s e = absurd s
matched-some a (Some t) (Some k) l s e = let q : k ≡ l = cc in (subst (IsLiteral a) q s.0, ap Some (sym s.1) ∙ ap (λ (n : ℕ). Some (tree_at a n)) q)

-- whoever has a circuit is named
named-some : (os : List NamedOutput) (c : CertificateView) (d : NamedOutput) (x : ℕ) → given (tree_of_some c (output_named x os)) ≡ true → (k : ℕ) × (k < length os) × ((get_or os k d).name ≡ x)
named-some [] c d x h = absurd (cc)
named-some (o ∷ os) c d x h = go (eqb o.name x) refl h (named-some os c d x)
  where
    go : (t : Bool) → eqb o.name x ≡ t → given (tree_of_some c (cond t (Some o.operand) (output_named x os))) ≡ true → (given (tree_of_some c (output_named x os)) ≡ true → (k : ℕ) × (k < length os) × ((get_or os k d).name ≡ x)) → (k : ℕ) × (k < length (o ∷ os)) × ((get_or (o ∷ os) k d).name ≡ x)
    go true e h f = (0, omega arith, grind arith)
    go false e h f = let r = f h in let lt : r.0 < length os = r.1 in (suc r.0, omega arith, r.2)

pub given-named : (c : CertificateView) (x : ℕ) → given (trees_of c x) ≡ true → (k : ℕ) × (k < length c.outputs) × (name_at c k ≡ x)
given-named c x h = named-some c.outputs c (output_of no_output) x h

allowed-at : (P : Prefix) (names : List ℕ) (al : List Bool) (b : Bool) (i : ℕ) → AreAllowedBy P names al → i < length names → get_or al i false ≡ b → is_universal P (get_or names i 0) ≡ b
allowed-at P names al b i a lt e = sym (a i lt) ∙ e

pub no-strange : (c : CertificateView) (P : Prefix) (al : List Bool) → AreAllowedBy P c.inputs al → IsFirstOver c (length c.outputs) al None → NoStrangeInput P c
no-strange c P al a o i x h =
    let n = given-named c x h.0 in
    allowed-at P c.inputs al true i a h.1 (o n.0 i n.1 (subst (λ (y : ℕ). ReadsInput c y i) (sym n.2) h))

pub some-strange : (c : CertificateView) (P : Prefix) (al : List Bool) (f : ℕ) → AreAllowedBy P c.inputs al → IsFirstOver c (length c.outputs) al (Some f) → IsStrangeInput P c (input_name c f)
some-strange c P al f a o = record {
  place = f;
  named = refl;
  strange = allowed-at P c.inputs al false f a o.0.2.1 o.1;
  read = (name_at c o.0.0, o.0.2);
  first = λ i x lt h. let n = given-named c x h.0 in allowed-at P c.inputs al true i a h.1 (o.2 n.0 i n.1 lt (subst (λ (y : ℕ). ReadsInput c y i) (sym n.2) h));
}

-- one variable of the prefix
pub outer-here : (c : CertificateView) (P : Prefix) (p : ℕ) (al : List Bool) → Distinct P → p < length P → AreAllowedBy (take p P) c.inputs al → IsFirstIn c (get_or P p no_bound).var al None → IsOuter P c (get_or P p no_bound).var
outer-here c P p al d lt a f i h = before-take P p (input_name c i) d lt ∙ allowed-at (take p P) c.inputs al true i a h.1 (f i h)

pub outer-more : (c : CertificateView) (P : Prefix) (p : ℕ) → p < length P → IsOuter P c (get_or P p no_bound).var → ((j : ℕ) → (b : Bound) → j < p → slice_get P j ≡ Some b → is_exists b.quant ≡ true → IsOuter P c b.var) → (j : ℕ) → (b : Bound) → j < p + 1 → slice_get P j ≡ Some b → is_exists b.quant ≡ true → IsOuter P c b.var
outer-more c P p lt o h j b jl e q = elim (cases_lt j p) [
  | inl a ↦ h j b a e q
  | inr a ↦
      let s : j ≡ p = omega arith in
      let g : get_or P p no_bound ≡ b = get_or_from_slice_get P p b no_bound (subst (λ (i : ℕ). slice_get P i ≡ Some b) s e) in
      subst (λ (w : Bound). IsOuter P c w.var) g o
]

pub outer-skip : (c : CertificateView) (P : Prefix) (p : ℕ) → is_exists (get_or P p no_bound).quant ≡ false → ((j : ℕ) → (b : Bound) → j < p → slice_get P j ≡ Some b → is_exists b.quant ≡ true → IsOuter P c b.var) → (j : ℕ) → (b : Bound) → j < p + 1 → slice_get P j ≡ Some b → is_exists b.quant ≡ true → IsOuter P c b.var
outer-skip c P p n h j b jl e q = elim (cases_lt j p) [
  | inl a ↦ h j b a e q
  | inr a ↦
      let s : j ≡ p = omega arith in
      let g : get_or P p no_bound ≡ b = get_or_from_slice_get P p b no_bound (subst (λ (i : ℕ). slice_get P i ≡ Some b) s e) in
      absurd (both_ways (is_exists b.quant) (subst (λ (w : Bound). is_exists w.quant ≡ false) g n) q)
]

get-there : (P : Prefix) (i : ℕ) → i < length P → slice_get P i ≡ Some (get_or P i no_bound)
get-there [] i h = absurd (omega arith)
get-there (b ∷ P) zero h = refl
get-there (b ∷ P) (suc i) h = get-there P i (omega arith)

pub too-inner : (c : CertificateView) (P : Prefix) (p f : ℕ) (al : List Bool) → Distinct P → p < length P → is_exists (get_or P p no_bound).quant ≡ true → AreAllowedBy (take p P) c.inputs al → IsFirstIn c (get_or P p no_bound).var al (Some f) → ((j : ℕ) → (b : Bound) → j < p → slice_get P j ≡ Some b → is_exists b.quant ≡ true → IsOuter P c b.var) → IsTooInner P c (get_or P p no_bound).var (input_name c f)
too-inner c P p f al d lt q a h before = record {
  at = p;
  bound = get_or P p no_bound;
  is = get-there P p lt;
  existential = q;
  var = refl;
  outer_before = before;
  place = f;
  named = refl;
  read = h.0;
  inner = before-take P p (input_name c f) d lt ∙ allowed-at (take p P) c.inputs al false f a h.0.1 h.1;
  first = λ i less r. before-take P p (input_name c i) d lt ∙ allowed-at (take p P) c.inputs al true i a r.1 (h.2 i less r);
}

-- every tree reads inputs alone
abbrev AllInputs : List ℕ → Circuit → Type 0
AllInputs ins t = (u : ℕ) → Reads t u → (i : ℕ) × (i < length ins) × (get_or ins i 0 ≡ u)

module _ (ins : List ℕ) where
  node-inputs : (ts : List Circuit) (x : GateNode) → ((g : ℕ) → AllInputs ins (get_or ts g (Circuit.constant false))) → IsThere (length ins) (length ts) x → AllInputs ins (node_tree ins ts x)
  node-inputs ts falsum a h u r = absurd r
  node-inputs ts (input_at i) a h u r = (i, h, r)
  node-inputs ts (gate_at g) a h u r = a g u r

  operand-inputs : (ts : List Circuit) (o : Operand) → ((g : ℕ) → AllInputs ins (get_or ts g (Circuit.constant false))) → IsThere (length ins) (length ts) o.node → AllInputs ins (operand_tree ins ts o)
  operand-inputs ts o a h = go o.negated
    where
      go : (b : Bool) → AllInputs ins (cond b (inverter (node_tree ins ts o.node)) (node_tree ins ts o.node))
      go true u r = node-inputs ts o.node a h u r
      go false u r = node-inputs ts o.node a h u r

  gates-inputs : (ts : List Circuit) (gs : List Gate) → ((g : ℕ) → AllInputs ins (get_or ts g (Circuit.constant false))) → AreGates (length ins) (length ts) gs → (g : ℕ) → AllInputs ins (get_or (gate_trees ins ts gs) g (Circuit.constant false))
  gates-inputs ts [] a o = a
  gates-inputs ts (x ∷ gs) a o = gates-inputs (ts ++ gate_tree ins ts x ∷ []) gs (more a (operand-inputs ts x.left a o.0) (operand-inputs ts x.right a o.1)) (let e = length_push ts (gate_tree ins ts x) in rw e o.2)
    where
      more : ((g : ℕ) → AllInputs ins (get_or ts g (Circuit.constant false))) → AllInputs ins (operand_tree ins ts x.left) → AllInputs ins (operand_tree ins ts x.right) → (g : ℕ) → AllInputs ins (get_or (ts ++ gate_tree ins ts x ∷ []) g (Circuit.constant false))
      more a l r g u h = elim (cases_lt g (length ts)) [
        | inl b ↦ a g u (subst (λ (t : Circuit). Reads t u) (get_or_append_left ts (gate_tree ins ts x ∷ []) (Circuit.constant false) g b) h)
        | inr b ↦ elim (cases_lt (length ts) g) [
          | inl d ↦ absurd (subst (λ (t : Circuit). Reads t u) (get_or_past (ts ++ gate_tree ins ts x ∷ []) g (Circuit.constant false) (let e = length_push ts (gate_tree ins ts x) in omega arith)) h)
          | inr d ↦ elim (both (subst (λ (t : Circuit). Reads t u) (get_or_push ts (gate_tree ins ts x) (Circuit.constant false) g (omega arith)) h)) [ inl y ↦ l u y | inr y ↦ r u y ]
        ]
      ]
        where
          both : Reads (gate_tree ins ts x) u → Reads (operand_tree ins ts x.left) u ⊎ Reads (operand_tree ins ts x.right) u
          both q = q

pub net-inputs : (a : Net) (l u : ℕ) → AreGates (length a.inputs) 0 a.gates → IsLiteral a l → Reads (tree_at a l) u → (i : ℕ) × (i < length a.inputs) × (get_or a.inputs i 0 ≡ u)
net-inputs a l u o h r =
    let len : length (gate_trees a.inputs [] a.gates) ≡ 0 + length a.gates = length-gate_trees a.inputs [] a.gates in
    let h2 : IsThere (length a.inputs) (length (gate_trees a.inputs [] a.gates)) (operand_of l).node = IsThere-more (length a.inputs) (length a.gates) (length a.inputs) (length (gate_trees a.inputs [] a.gates)) (operand_of l).node h (omega arith) (omega arith) in
    operand-inputs a.inputs (gate_trees a.inputs [] a.gates) (operand_of l) (gates-inputs a.inputs [] a.gates (λ g v q. absurd q) o) h2 u r

pub same-trees : (c : CertificateView) (os : List Output) → map output_of os ≡ c.outputs → trees_of (record { inputs = c.inputs; gates = c.gates; outputs = map output_of os }) ≡ trees_of c
same-trees c os e = ap (λ (xs : List NamedOutput). trees_of (record { inputs = c.inputs; gates = c.gates; outputs = xs })) e

pub tree-of-output : (c : CertificateView) (os : List Output) (k : ℕ) → map output_of os ≡ c.outputs → AreOutputs (net_of c) os → k < length c.outputs → trees_of c (name_at c k) ≡ Some (tree_at (net_of c) (get_or os k no_output).lit)
tree-of-output c os k e o h =
    let len : length (map output_of os) ≡ length os = length-map os output_of in
    let len2 : length (map output_of os) ≡ length c.outputs = ap length e in
    let lt : k < length os = omega arith in
    let n : output_named (get_or os k no_output).var (map output_of os) ≡ Some (operand_of (get_or os k no_output).lit) = named-at os k lt (λ j jl q. absurd (let s : j ≡ k = o.names j k (omega arith) lt q in omega arith)) in
    let m : name_at c k ≡ (get_or os k no_output).var = ap (λ (xs : List NamedOutput). (get_or xs k (output_of no_output)).name) (sym e) ∙ ap (λ (x : NamedOutput). x.name) (get_or-map output_of os k no_output (output_of no_output) lt) in
    ap (trees_of c) m ∙ ap (λ (xs : List NamedOutput). tree_of_some c (output_named (get_or os k no_output).var xs)) (sym e) ∙ ap (tree_of_some c) n

-- circuits read inputs alone
pub circuit-reads : (c : CertificateView) (os : List Output) → map output_of os ≡ c.outputs → AreOutputs (net_of c) os → AreGates (length c.inputs) 0 c.gates → (x u : ℕ) → given (trees_of c x) ≡ true → Reads (circuit_of (trees_of c) x) u → (i : ℕ) × (i < length c.inputs) × (get_or c.inputs i 0 ≡ u)
circuit-reads c os e outs gates x u g r =
    let n = given-named c x g in
    let len : length (map output_of os) ≡ length os = length-map os output_of in
    let len2 : length (map output_of os) ≡ length c.outputs = ap length e in
    let k : n.0 < length c.outputs = n.1 in
    let lt : n.0 < length os = omega arith in
    let q : trees_of c x ≡ Some (tree_at (net_of c) (get_or os n.0 no_output).lit) = ap (trees_of c) (sym n.2) ∙ tree-of-output c os n.0 e outs n.1 in
    net-inputs (net_of c) (get_or os n.0 no_output).lit u gates (outs.literals n.0 lt) (subst (λ (z : Option Circuit). Reads (or_input x z) u) q r)

-- what fits is lawful
missing-given : (P : Prefix) (c : CertificateView) → first_missing P c ≡ None → (x : ℕ) → is_existential P x ≡ true → given (trees_of c x) ≡ true
missing-given [] c h x e = absurd (cc)
missing-given (b ∷ P) c h x e = go (is_exists b.quant) refl (given (trees_of c b.var)) refl (eqb b.var x) refl h e (missing-given P c)
  where
    go : (q : Bool) → is_exists b.quant ≡ q → (g : Bool) → given (trees_of c b.var) ≡ g → (t : Bool) → eqb b.var x ≡ t → cond (q && not g) (Some b.var) (first_missing P c) ≡ None → cond t q (is_existential P x) ≡ true → (first_missing P c ≡ None → (x : ℕ) → is_existential P x ≡ true → given (trees_of c x) ≡ true) → given (trees_of c x) ≡ true
    go q eq g eg true et h e ih = here q g eg h e
      where
        here : (q g : Bool) → given (trees_of c b.var) ≡ g → cond (q && not g) (Some b.var) (first_missing P c) ≡ None → q ≡ true → given (trees_of c x) ≡ true
        here true true eg h e = let s : b.var ≡ x = grind arith in subst (λ (v : ℕ). given (trees_of c v) ≡ true) s eg
        here true false eg h e = absurd (cc)
        here false g eg h e = absurd (both_ways false refl e)
    go q eq g eg false et h e ih = ih (rest q g h) x e
      where
        rest : (q g : Bool) → cond (q && not g) (Some b.var) (first_missing P c) ≡ None → first_missing P c ≡ None
        rest true true h = h
        rest true false h = absurd (cc)
        rest false g h = h

strange-existential : (P : Prefix) (os : List NamedOutput) (d : NamedOutput) → first_strange P os ≡ None → (k : ℕ) → k < length os → is_existential P (get_or os k d).name ≡ true
strange-existential P [] d h k lt = absurd (omega arith)
strange-existential P (o ∷ os) d h k lt = go k lt (is_existential P o.name) refl h (strange-existential P os d)
  where
    go : (k : ℕ) → k < length (o ∷ os) → (t : Bool) → is_existential P o.name ≡ t → cond t (first_strange P os) (Some o.name) ≡ None → (first_strange P os ≡ None → (k : ℕ) → k < length os → is_existential P (get_or os k d).name ≡ true) → is_existential P (get_or (o ∷ os) k d).name ≡ true
    go k lt false e h ih = absurd (cc)
    go zero lt true e h ih = e
    go (suc k) lt true e h ih = ih h k (omega arith)

existential-place : (P : Prefix) (x : ℕ) → is_existential P x ≡ true → (j : ℕ) × (b : Bound) × (slice_get P j ≡ Some b) × (is_exists b.quant ≡ true) × (b.var ≡ x)
existential-place [] x h = absurd (cc)
existential-place (b ∷ P) x h = go (eqb b.var x) refl h (existential-place P x)
  where
    go : (t : Bool) → eqb b.var x ≡ t → cond t (is_exists b.quant) (is_existential P x) ≡ true → (is_existential P x ≡ true → (j : ℕ) × (d : Bound) × (slice_get P j ≡ Some d) × (is_exists d.quant ≡ true) × (d.var ≡ x)) → (j : ℕ) × (d : Bound) × (slice_get (b ∷ P) j ≡ Some d) × (is_exists d.quant ≡ true) × (d.var ≡ x)
    go true e h ih = (0, b, refl, h, grind arith)
    go false e h ih = let r = ih h in (suc r.0, r.1, r.2, r.3, r.4)

pub fits-lawful : (P : Prefix) (c : CertificateView) (os : List Output) → map output_of os ≡ c.outputs → AreOutputs (net_of c) os → AreGates (length c.inputs) 0 c.gates → Fits P c → Lawful P (trees_of c)
fits-lawful P c os e outs gates f = record { trees = trees; reads = reads }
  where
    trees : (x : ℕ) → given (trees_of c x) ≡ is_existential P x
    trees x = elim (cases_Bool (is_existential P x)) [
      | inl t ↦ missing-given P c f.none_missing x t ∙ sym t
      | inr t ↦ elim (cases_Bool (given (trees_of c x))) [
        | inl g ↦
            let n = given-named c x g in
            let y : is_existential P x ≡ true = subst (λ (v : ℕ). is_existential P v ≡ true) n.2 (strange-existential P c.outputs (output_of no_output) f.none_strange n.0 n.1) in
            absurd (both_ways (is_existential P x) t y)
        | inr g ↦ g ∙ sym t
      ]
    ]

    reads : (x : ℕ) → is_existential P x ≡ true → (u : ℕ) → Reads (circuit_of (trees_of c) x) u → universal_before P u x ≡ true
    reads x t u r =
        let g : given (trees_of c x) ≡ true = missing-given P c f.none_missing x t in
        let i = circuit-reads c os e outs gates x u g r in
        let p = existential-place P x t in
        let h : universal_before P (input_name c i.0) p.1.var ≡ true = f.outer p.0 p.1 p.2 p.3 i.0 (subst (λ (v : ℕ). ReadsInput c v i.0) (sym p.4) (g, i.1, subst (Reads (circuit_of (trees_of c) x)) (sym i.2) r)) in
        subst (λ (v : ℕ). universal_before P v x ≡ true) i.2 (subst (λ (v : ℕ). universal_before P (input_name c i.0) v ≡ true) p.4 h)
