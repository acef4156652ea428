-- A certificate that is named from a row of literals.
use Rattle.std.proofs.Common.{◌≡◌, ◌≢◌, ℕ, zero, suc, ◌+◌, ◌<◌, ◌≤◌, Bool, true, false, cond, eqb, List, [], ◌∷◌, length, map, get_or, inl, inr, arith, refl, sym, ap, ◌∙◌, subst, Option, Some, None}
use Rattle.std.proofs.lemmas.Bool.{cases_Bool}
use Rattle.q_logic.specs.Prelude.{Prefix, is_exists, is_existential, is_universal, is_bound, universal_before, Distinct, Circuit, Reads, NamedOutput, CertificateView, output_named, tree_of, tree_of_some, trees_of, Strategy, or_input, circuit_of, given, Lawful}
use Rattle.q_aig.specs.declared.output.Output.{Output}
use Rattle.q_aig.specs.Prelude.{Net, tree_at, operand_of, no_output, output_of, net_of, AreOutputs, Serves}
use Rattle.q_logic.proofs.Truth.{none_bound}
use Rattle.q_certificate.specs.Standing.{look_at, Stands, IsAt}
use Rattle.q_certificate.specs.Copied.{or_zero, marked_upto, AreMarked, AreCopied, ArePlaced, OutputsReadOnly, strategy_of}
use Rattle.q_certificate.specs.Narrowed.{IsNarrowed}
use Rattle.q_certificate.specs.Made.{existentials, outputs_for, IsOpened, IsNamed}
use Rattle.q_certificate.proofs.MarkedGates.{upto-most, cones-count}

pub before-universal : (P : Prefix) (u x : ℕ) → universal_before P u x ≡ true → is_universal P u ≡ true
before-universal [] u x h = h
before-universal (b ∷ P) u x h = grind (arith, before-universal P u x)

pub named-at : (os : List Output) (i : ℕ) → i < length os → ((j : ℕ) → j < i → (get_or os j no_output).var ≢ (get_or os i no_output).var) → output_named (get_or os i no_output).var (map output_of os) ≡ Some (operand_of (get_or os i no_output).lit)
named-at [] i h d = absurd (omega arith)
named-at (o ∷ os) zero h d = let e : eqb o.var o.var ≡ true = grind arith in ap (λ (b : Bool). cond b (Some (operand_of o.lit)) (output_named o.var (map output_of os))) e
named-at (o ∷ os) (suc i) h d =
    let n : o.var ≢ (get_or os i no_output).var = d 0 (omega arith) in
    let e : eqb o.var (get_or os i no_output).var ≡ false = differ o.var (get_or os i no_output).var n in
    ap (λ (b : Bool). cond b (Some (operand_of o.lit)) (output_named (get_or os i no_output).var (map output_of os))) e ∙ named-at os i (omega arith) (λ j lt. d (suc j) (omega arith))
  where
    differ : (m n : ℕ) → m ≢ n → eqb m n ≡ false
    differ m n h = elim (cases_Bool (eqb m n)) [
      | inl e ↦ absurd (h (grind arith))
      | inr e ↦ e
    ]

-- the outputs of lawful circuits read only universals
pub outputs-read : (U : ℕ → Bool) (P : Prefix) (a : Net) (os : List Output) → AreOutputs a os → Lawful P (strategy_of a os) → ((x : ℕ) → is_universal P x ≡ true → U x ≡ true) → OutputsReadOnly U a os
outputs-read U P a os o l m i h u r =
    let x : ℕ = (get_or os i no_output).var in
    let lit : ℕ = (get_or os i no_output).lit in
    let e : output_named (get_or os i no_output).var (map output_of os) ≡ Some (operand_of (get_or os i no_output).lit) = named-at os i h (λ j lt q. absurd (let s : j ≡ i = o.names j i (omega arith) h q in omega arith)) in
    let f : strategy_of a os (get_or os i no_output).var ≡ Some (tree_at a (get_or os i no_output).lit) = ap (tree_of_some (record { inputs = a.inputs; gates = a.gates; outputs = map output_of os })) e in
    let g : is_existential P (get_or os i no_output).var ≡ true = sym (l.trees (get_or os i no_output).var) ∙ ap given f in
    let r2 : Reads (circuit_of (strategy_of a os) (get_or os i no_output).var) u = subst (λ (c : Option Circuit). Reads (or_input (get_or os i no_output).var c) u) (sym f) r in
    m u (before-universal P u (get_or os i no_output).var (l.reads (get_or os i no_output).var g u r2))

pub existentials-named : (tb : List (Option ℕ)) (P : Prefix) → map (λ (o : NamedOutput). o.name) (outputs_for tb P) ≡ existentials P
existentials-named tb [] = refl
existentials-named tb (b ∷ P) = go (is_exists b.quant) (existentials-named tb P)
  where
    go : (t : Bool) → map (λ (o : NamedOutput). o.name) (outputs_for tb P) ≡ existentials P →
        map (λ (o : NamedOutput). o.name) (cond t (record { name = b.var; operand = operand_of (or_zero (look_at tb b.var)) } ∷ outputs_for tb P) (outputs_for tb P)) ≡ cond t (b.var ∷ existentials P) (existentials P)
    go true h = ap (λ (xs : List ℕ). b.var ∷ xs) h
    go false h = h

output-for : (tb : List (Option ℕ)) (P : Prefix) → Distinct P → (x : ℕ) → output_named x (outputs_for tb P) ≡ cond (is_existential P x) (Some (operand_of (or_zero (look_at tb x)))) None
output-for tb [] d x = refl
output-for tb (b ∷ P) d x = go (eqb b.var x) refl (is_exists b.quant) (output-for tb P d.1 x)
  where
    go : (t : Bool) → eqb b.var x ≡ t → (q : Bool) → output_named x (outputs_for tb P) ≡ cond (is_existential P x) (Some (operand_of (or_zero (look_at tb x)))) None →
        output_named x (cond q (record { name = b.var; operand = operand_of (or_zero (look_at tb b.var)) } ∷ outputs_for tb P) (outputs_for tb P)) ≡ cond (cond t q (is_existential P x)) (Some (operand_of (or_zero (look_at tb x)))) None
    go true e true h =
        let s : b.var ≡ x = grind arith in
        ap (λ (c : Bool). cond c (Some (operand_of (or_zero (look_at tb b.var)))) (output_named x (outputs_for tb P))) e ∙ ap (λ (v : ℕ). Some (operand_of (or_zero (look_at tb v)))) s
    go true e false h =
        let s : b.var ≡ x = grind arith in
        let n : is_bound P x ≡ false = subst (λ (v : ℕ). is_bound P v ≡ false) s d.0 in
        h ∙ ap (λ (c : Bool). cond c (Some (operand_of (or_zero (look_at tb x)))) None) (none_bound P x n)
    go false e true h = ap (λ (c : Bool). cond c (Some (operand_of (or_zero (look_at tb b.var)))) (output_named x (outputs_for tb P))) e ∙ h
    go false e false h = h

stands-serves : (a : Net) (x : ℕ) (o : Option Circuit) (m : Option ℕ) → Stands a o m → given o ≡ true → Serves (tree_at a (or_zero m)) (or_input x o)
stands-serves a x (Some t) (Some l) s g = s
stands-serves a x (Some t) None s g = absurd s
stands-serves a x None m s g = absurd (cc)

pub not-given : (o : Option Circuit) → given o ≡ false → o ≡ None
not-given None g = refl
not-given (Some t) g = absurd (cc)

module _ (P : Prefix) (d : Distinct P) (U : ℕ → Bool) (last : Net) (made : CertificateView) (ins tb : List (Option ℕ)) (back : Strategy) (n : IsNamed last made tb P) (at : IsAt last ins tb U back) (law : Lawful P back) where
  pub made-is : (x : ℕ) → trees_of made x ≡ cond (is_existential P x) (Some (tree_at last (or_zero (look_at tb x)))) None
  made-is x =
      let e : output_named x made.outputs ≡ cond (is_existential P x) (Some (operand_of (or_zero (look_at tb x)))) None = ap (output_named x) n.outputs ∙ output-for tb P d x in
      let t : tree_of made (operand_of (or_zero (look_at tb x))) ≡ tree_at last (or_zero (look_at tb x)) = rw (n.inputs, n.gates) refl in
      ap (tree_of_some made) e ∙ go (is_existential P x) t
    where
      go : (b : Bool) → tree_of made (operand_of (or_zero (look_at tb x))) ≡ tree_at last (or_zero (look_at tb x)) → tree_of_some made (cond b (Some (operand_of (or_zero (look_at tb x)))) None) ≡ cond b (Some (tree_at last (or_zero (look_at tb x)))) None
      go true t = ap Some t
      go false t = refl

  pub made-serves : (x : ℕ) → is_existential P x ≡ true → Serves (circuit_of (trees_of made) x) (circuit_of back x)
  made-serves x e =
      let g : given (back x) ≡ true = law.trees x ∙ e in
      let m : trees_of made x ≡ Some (tree_at last (or_zero (look_at tb x))) = made-is x ∙ ap (λ (b : Bool). cond b (Some (tree_at last (or_zero (look_at tb x)))) None) e in
      subst (λ (o : Option Circuit). Serves (or_input x o) (circuit_of back x)) (sym m) (stands-serves last x (back x) (look_at tb x) (at.circuits x) g)

  pub made-lawful : Lawful P (trees_of made)
  made-lawful = record {
    trees = λ x. ap given (made-is x) ∙ go x (is_existential P x);
    reads = λ x e u r. law.reads x e u ((made-serves x e).reads u r);
  }
    where
      go : (x : ℕ) (b : Bool) → given (cond b (Some (tree_at last (or_zero (look_at tb x)))) None) ≡ b
      go x true = refl
      go x false = refl

-- lawful circuits, copied over the universals of the prefix
pub narrowed : (P : Prefix) (gave made : CertificateView) (os : List Output) (base copy : Net) (ins tb : List (Option ℕ)) (marks : List Bool) (row : List ℕ) →
    Distinct P → map output_of os ≡ gave.outputs → AreOutputs (net_of gave) os →
    IsOpened base ins P → AreMarked gave.gates os marks → AreCopied (net_of gave) marks ins base copy row (length gave.gates) → ArePlaced (net_of gave) ins row os os tb → IsNamed copy made tb P → Lawful P (trees_of gave) → IsNarrowed P gave made
narrowed P gave made os base copy ins tb marks row d eo outs opened marked copied placed named law =
    let same : strategy_of (net_of gave) os ≡ trees_of gave = ap (λ (xs : List NamedOutput). trees_of (record { inputs = gave.inputs; gates = gave.gates; outputs = xs })) eo in
    let law2 : Lawful P (strategy_of (net_of gave) os) = subst (Lawful P) (sym same) law in
    let ro = outputs-read (is_universal P) P (net_of gave) os outs law2 (λ x h. h) in
    let at0 : IsAt copy ins tb (is_universal P) (strategy_of (net_of gave) os) = placed.at base copy marks (is_universal P) marked copied opened.literals opened.at ro in
    let at1 : IsAt copy ins tb (is_universal P) (trees_of gave) = subst (IsAt copy ins tb (is_universal P)) same at0 in
    record {
      inputs = named.inputs ∙ copied.grown.inputs ∙ opened.inputs;
      outputs = ap (map (λ (o : NamedOutput). o.name)) named.outputs ∙ existentials-named tb P;
      serves = made-serves P d (is_universal P) copy made ins tb (trees_of gave) named at1 law;
      lawful = made-lawful P d (is_universal P) copy made ins tb (trees_of gave) named at1 law;
      gates =
          let a : length copy.gates ≤ length base.gates + marked_upto marks (length gave.gates) = copied.grown.gates in
          let k = upto-most marks (length gave.gates) in
          let z : length base.gates ≡ 0 = ap length opened.gates in
          let m : length made.gates ≡ length copy.gates = ap length named.gates in
          omega arith;
      cones = λ ns h.
          let a : length copy.gates ≤ length base.gates + marked_upto marks (length gave.gates) = copied.grown.gates in
          let k = cones-count gave os marks ns (length gave.gates) eo marked h in
          let z : length base.gates ≡ 0 = ap length opened.gates in
          let m : length made.gates ≡ length copy.gates = ap length named.gates in
          omega arith;
    }
