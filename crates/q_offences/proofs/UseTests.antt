-- Literals of outputs and gates: the reader's answer is the first line that uses a variable without a line.
use Rattle.std.proofs.Common.{◌≡◌, inl, inr, ℕ, ◌+◌, ◌/◌, ◌==◌, Bool, true, false, cond, is_some, List, [], ◌∷◌, ◌++◌, length, refl, ap, sym, ◌∙◌, arith, subst, Option, Some, None, Result, Ok, Err, append_assoc, append-nil, length-append}
use Rattle.std.specs.List.{AllByRecursion}
use Rattle.std.proofs.lemmas.Bool.{eqb-true}
use Rattle.q_logic.specs.Prelude.{GateNode, falsum, Operand, Gate, CertificateView}
use Rattle.q_dimacs.proofs.VariableMarks.{All-push}
use Rattle.q_aiger.specs.Headers.{Counts, Header}
use Rattle.q_aiger.specs.Items.{place_of}
use Rattle.q_aiger.specs.Symbols.{Names}
use Rattle.q_aiger.specs.Operands.{node_at, signed, operand_in, follow_operand, outputs_from, gate_with, follow_gate, gates_from}
use Rattle.q_aiger.specs.Circuits.{and_then, with_names, circuits_of}
use Rattle.q_aiger.specs.Grammar.{Definition}
use Rattle.q_aiger.proofs.ItemRows.{pairs_of}
use Rattle.q_offences.specs.CircuitTable.{vars_of, HasLine, BothHaveLines, UseOffence, output, gate}
use Rattle.q_offences.proofs.ItemTests.{among-place, place-among}
use Rattle.q_offences.proofs.ItemFronts.{state}

-- one literal

pub data LiteralSaid (ds : List ℕ) (x : ℕ) : Option Operand → Type 0 where
  no_line : ¬ HasLine ds x → LiteralSaid ds x None
  has_line : (o : Operand) → HasLine ds x → LiteralSaid ds x (Some o)

literal-said : (i : ℕ) (ds : List ℕ) (x : ℕ) → LiteralSaid ds x (operand_in i ds x)
literal-said i ds x = go (x / 2 == 0) refl (place_of ds (x / 2)) refl where
  go : (b : Bool) → (x / 2 == 0) ≡ b → (p : Option ℕ) → place_of ds (x / 2) ≡ p → LiteralSaid ds x (signed x (cond {A = Option GateNode} b (Some falsum) (node_at i p)))
  go true e p q = has_line _ (inl (eqb-true (x / 2) 0 e))
  go false e None q = no_line (λ h. elim h [
    | inl z ↦ (let f : (x / 2 == 0) ≡ true = grind arith in let g : true ≡ false = sym f ∙ e in cc)
    | inr a ↦ (let t = among-place ds (x / 2) a in let f : false ≡ true = ap is_some (sym q) ∙ t in cc)
  ])
  go false e (Some k) q = has_line _ (inr (place-among ds (x / 2) (ap is_some q)))

-- outputs

pub data OutputsSaid (c : Counts) (ds os : List ℕ) (gs : List Definition) : Result (List Operand) (ℕ × ℕ) → Type 0 where
  output_without : (line : ℕ) → UseOffence c os gs ds line → OutputsSaid c ds os gs (Err (line, 5))
  outputs_have : (r : List Operand) → AllByRecursion (HasLine ds) os → OutputsSaid c ds os gs (Ok r)

outputs-run : (c : Counts) (i : ℕ) (ds os : List ℕ) (gs : List Definition) (n : ℕ) (done : List Operand) (front xs : List ℕ) → os ≡ front ++ xs → n ≡ 2 + c.inputs + length front → AllByRecursion (HasLine ds) front → OutputsSaid c ds os gs (outputs_from i ds n done xs)
outputs-run c i ds os gs n done front [] e q h = outputs_have done (subst (λ (x : List ℕ). AllByRecursion (HasLine ds) x) (sym (e ∙ append-nil front)) h)
outputs-run c i ds os gs n done front (x ∷ xs) e q h =
    let len = length-append front (x ∷ []) in
    go (operand_in i ds x) (literal-said i ds x) (λ o k. outputs-run c i ds os gs (n + 1) (done ++ o ∷ []) (front ++ x ∷ []) xs (e ∙ sym (append_assoc front (x ∷ []) xs)) (omega arith) (All-push (HasLine ds) front x h k)) where
      go : (r : Option Operand) → LiteralSaid ds x r → ((o : Operand) → HasLine ds x → OutputsSaid c ds os gs (outputs_from i ds (n + 1) (done ++ o ∷ []) xs)) → OutputsSaid c ds os gs (follow_operand n r (λ o. outputs_from i ds (n + 1) (done ++ o ∷ []) xs))
      go r (no_line f) ih = subst (λ (m : ℕ). OutputsSaid c ds os gs (Err (m, 5))) (sym q) (output_without (2 + c.inputs + length front) (output front x xs e h f))
      go r (has_line o k) ih = ih o k

outputs-said : (c : Counts) (i : ℕ) (ds os : List ℕ) (gs : List Definition) → OutputsSaid c ds os gs (outputs_from i ds (2 + c.inputs) [] os)
outputs-said c i ds os gs = outputs-run c i ds os gs (2 + c.inputs) [] [] os refl (omega arith) tt

outputs-ok : (i : ℕ) (ds : List ℕ) (n : ℕ) (done : List Operand) (xs : List ℕ) → AllByRecursion (HasLine ds) xs → (r : List Operand) × (outputs_from i ds n done xs ≡ Ok r)
outputs-ok i ds n done [] h = (done, refl)
outputs-ok i ds n done (x ∷ xs) h = go (operand_in i ds x) (literal-said i ds x) (λ o. outputs-ok i ds (n + 1) (done ++ o ∷ []) xs h.1) where
  go : (r : Option Operand) → LiteralSaid ds x r → ((o : Operand) → (r : List Operand) × (outputs_from i ds (n + 1) (done ++ o ∷ []) xs ≡ Ok r)) → (s : List Operand) × (follow_operand n r (λ o. outputs_from i ds (n + 1) (done ++ o ∷ []) xs) ≡ Ok s)
  go r (no_line f) ih = absurd (f h.0)
  go r (has_line o k) ih = ih o

outputs-stuck : (i : ℕ) (ds : List ℕ) (n m : ℕ) (done : List Operand) (front : List ℕ) (x : ℕ) (rest : List ℕ) → AllByRecursion (HasLine ds) front → ¬ HasLine ds x → m ≡ n + length front → outputs_from i ds n done (front ++ x ∷ rest) ≡ Err (m, 5)
outputs-stuck i ds n m done [] x rest h f q = go (operand_in i ds x) (literal-said i ds x) where
  go : (r : Option Operand) → LiteralSaid ds x r → follow_operand n r (λ o. outputs_from i ds (n + 1) (done ++ o ∷ []) rest) ≡ Err (m, 5)
  go r (no_line g) = ap (λ (k : ℕ). Err (k, 5)) (let k : n ≡ m = omega arith in k)
  go r (has_line o k) = absurd (f k)
outputs-stuck i ds n m done (y ∷ front) x rest h f q = go (operand_in i ds y) (literal-said i ds y) (λ o. outputs-stuck i ds (n + 1) m (done ++ o ∷ []) front x rest h.1 f (omega arith)) where
  go : (r : Option Operand) → LiteralSaid ds y r → ((o : Operand) → outputs_from i ds (n + 1) (done ++ o ∷ []) (front ++ x ∷ rest) ≡ Err (m, 5)) → follow_operand n r (λ o. outputs_from i ds (n + 1) (done ++ o ∷ []) (front ++ x ∷ rest)) ≡ Err (m, 5)
  go r (no_line g) ih = absurd (g h.0)
  go r (has_line o k) ih = ih o

-- gates

pub data PairSaid (ds : List ℕ) (d : Definition) : Option Gate → Type 0 where
  not_both : ¬ BothHaveLines ds d → PairSaid ds d None
  both_have : (g : Gate) → BothHaveLines ds d → PairSaid ds d (Some g)

pair-said : (i : ℕ) (ds : List ℕ) (d : Definition) → PairSaid ds d (gate_with (operand_in i ds d.left) (operand_in i ds d.right))
pair-said i ds d = go (operand_in i ds d.left) (operand_in i ds d.right) (literal-said i ds d.left) (literal-said i ds d.right) where
  go : (a b : Option Operand) → LiteralSaid ds d.left a → LiteralSaid ds d.right b → PairSaid ds d (gate_with a b)
  go a b (no_line f) (no_line g) = not_both (λ h. f h.0)
  go a b (no_line f) (has_line o k) = not_both (λ h. f h.0)
  go a b (has_line o k) (no_line g) = not_both (λ h. g h.1)
  go a b (has_line o k) (has_line p l) = both_have (record { left = o; right = p }) (k, l)

pub data GatesSaid (c : Counts) (ds os : List ℕ) (gs : List Definition) : Result (List Gate) (ℕ × ℕ) → Type 0 where
  gate_without : (line : ℕ) → UseOffence c os gs ds line → GatesSaid c ds os gs (Err (line, 5))
  gates_have : (r : List Gate) → AllByRecursion (BothHaveLines ds) gs → GatesSaid c ds os gs (Ok r)

gates-run : (c : Counts) (i : ℕ) (ds os : List ℕ) (gs : List Definition) (n : ℕ) (done : List Gate) (front xs : List Definition) → AllByRecursion (HasLine ds) os → gs ≡ front ++ xs → n ≡ 2 + c.inputs + c.outputs + length front → AllByRecursion (BothHaveLines ds) front
    → GatesSaid c ds os gs (gates_from i ds n done (pairs_of xs))
gates-run c i ds os gs n done front [] a e q h = gates_have done (subst (λ (x : List Definition). AllByRecursion (BothHaveLines ds) x) (sym (e ∙ append-nil front)) h)
gates-run c i ds os gs n done front (x ∷ xs) a e q h =
    let len = length-append front (x ∷ []) in
    go (gate_with (operand_in i ds x.left) (operand_in i ds x.right)) (pair-said i ds x) (λ g k. gates-run c i ds os gs (n + 1) (done ++ g ∷ []) (front ++ x ∷ []) xs a (e ∙ sym (append_assoc front (x ∷ []) xs)) (omega arith) (All-push (BothHaveLines ds) front x h k)) where
      go : (r : Option Gate) → PairSaid ds x r → ((g : Gate) → BothHaveLines ds x → GatesSaid c ds os gs (gates_from i ds (n + 1) (done ++ g ∷ []) (pairs_of xs))) → GatesSaid c ds os gs (follow_gate n r (λ g. gates_from i ds (n + 1) (done ++ g ∷ []) (pairs_of xs)))
      go r (not_both f) ih = subst (λ (m : ℕ). GatesSaid c ds os gs (Err (m, 5))) (sym q) (gate_without (2 + c.inputs + c.outputs + length front) (gate a front x xs e h f))
      go r (both_have g k) ih = ih g k

gates-said : (c : Counts) (i : ℕ) (ds os : List ℕ) (gs : List Definition) → AllByRecursion (HasLine ds) os → GatesSaid c ds os gs (gates_from i ds (2 + c.inputs + c.outputs) [] (pairs_of gs))
gates-said c i ds os gs a = gates-run c i ds os gs (2 + c.inputs + c.outputs) [] [] gs a refl (omega arith) tt

gates-stuck : (i : ℕ) (ds : List ℕ) (n m : ℕ) (done : List Gate) (front : List Definition) (x : Definition) (rest : List Definition) → AllByRecursion (BothHaveLines ds) front → ¬ BothHaveLines ds x → m ≡ n + length front → gates_from i ds n done (pairs_of (front ++ x ∷ rest)) ≡ Err (m, 5)
gates-stuck i ds n m done [] x rest h f q = go (gate_with (operand_in i ds x.left) (operand_in i ds x.right)) (pair-said i ds x) where
  go : (r : Option Gate) → PairSaid ds x r → follow_gate n r (λ g. gates_from i ds (n + 1) (done ++ g ∷ []) (pairs_of rest)) ≡ Err (m, 5)
  go r (not_both g) = ap (λ (k : ℕ). Err (k, 5)) (let k : n ≡ m = omega arith in k)
  go r (both_have g k) = absurd (f k)
gates-stuck i ds n m done (y ∷ front) x rest h f q = go (gate_with (operand_in i ds y.left) (operand_in i ds y.right)) (pair-said i ds y) (λ g. gates-stuck i ds (n + 1) m (done ++ g ∷ []) front x rest h.1 f (omega arith)) where
  go : (r : Option Gate) → PairSaid ds y r → ((g : Gate) → gates_from i ds (n + 1) (done ++ g ∷ []) (pairs_of (front ++ x ∷ rest)) ≡ Err (m, 5)) → follow_gate n r (λ g. gates_from i ds (n + 1) (done ++ g ∷ []) (pairs_of (front ++ x ∷ rest))) ≡ Err (m, 5)
  go r (not_both g) ih = absurd (g h.0)
  go r (both_have g k) ih = ih g

-- both

pub data CircuitsSaid (c : Counts) (ds os : List ℕ) (gs : List Definition) : Result CertificateView (ℕ × ℕ) → Type 0 where
  use_offends : (line : ℕ) → UseOffence c os gs ds line → CircuitsSaid c ds os gs (Err (line, 5))
  circuits_are : (w : CertificateView) → CircuitsSaid c ds os gs (Ok w)

pub circuits-said : (c : Counts) (h : Header) (vs os : List ℕ) (gs : List Definition) (names : Names) → h.inputs ≡ c.inputs → h.outputs ≡ c.outputs → CircuitsSaid c (vs ++ vars_of gs) os gs (circuits_of h (state vs os gs) names)
circuits-said c h vs os gs names ei eo =
    go (outputs_from h.inputs (vs ++ vars_of gs) (2 + h.inputs) [] os) (subst (λ (n : ℕ). OutputsSaid c (vs ++ vars_of gs) os gs (outputs_from h.inputs (vs ++ vars_of gs) (2 + n) [] os)) (sym ei) (outputs-said c h.inputs (vs ++ vars_of gs) os gs)) where
      gates : AllByRecursion (HasLine (vs ++ vars_of gs)) os → GatesSaid c (vs ++ vars_of gs) os gs (gates_from h.inputs (vs ++ vars_of gs) (2 + h.inputs + h.outputs) [] (pairs_of gs))
      gates a =
          let e : 2 + c.inputs + c.outputs ≡ 2 + h.inputs + h.outputs = omega arith in
          subst (λ (n : ℕ). GatesSaid c (vs ++ vars_of gs) os gs (gates_from h.inputs (vs ++ vars_of gs) n [] (pairs_of gs))) e (gates-said c h.inputs (vs ++ vars_of gs) os gs a)

      second : (r : Result (List Gate) (ℕ × ℕ)) (x : List Operand) → GatesSaid c (vs ++ vars_of gs) os gs r
          → CircuitsSaid c (vs ++ vars_of gs) os gs (and_then r (λ g. let y : Result CertificateView (ℕ × ℕ) = Ok (record { inputs = names.inputs; gates = g; outputs = with_names names.outputs x }) in y))
      second r x (gate_without line u) = use_offends line u
      second r x (gates_have g a) = circuits_are _

      go : (r : Result (List Operand) (ℕ × ℕ)) → OutputsSaid c (vs ++ vars_of gs) os gs r
          → CircuitsSaid c (vs ++ vars_of gs) os gs (and_then r (λ x. and_then (gates_from h.inputs (vs ++ vars_of gs) (2 + h.inputs + h.outputs) [] (pairs_of gs)) (λ g. let y : Result CertificateView (ℕ × ℕ) = Ok (record { inputs = names.inputs; gates = g; outputs = with_names names.outputs x }) in y)))
      go r (output_without line u) = use_offends line u
      go r (outputs_have x a) = second (gates_from h.inputs (vs ++ vars_of gs) (2 + h.inputs + h.outputs) [] (pairs_of gs)) x (gates a)

pub use-stuck : (c : Counts) (h : Header) (vs os : List ℕ) (gs : List Definition) (names : Names) (line : ℕ) → h.inputs ≡ c.inputs → h.outputs ≡ c.outputs → UseOffence c os gs (vs ++ vars_of gs) line → circuits_of h (state vs os gs) names ≡ Err (line, 5)
use-stuck c h vs os gs names line ei eo u = go line u where
  go : (line : ℕ) → UseOffence c os gs (vs ++ vars_of gs) line → circuits_of h (state vs os gs) names ≡ Err (line, 5)
  go line (output front x more e a n) =
      let q : 2 + c.inputs + length front ≡ 2 + h.inputs + length front = omega arith in
      let s = outputs-stuck h.inputs (vs ++ vars_of gs) (2 + h.inputs) (2 + c.inputs + length front) [] front x more a n q in
      ap (λ (r : Result (List Operand) (ℕ × ℕ)). and_then r (λ x. and_then (gates_from h.inputs (vs ++ vars_of gs) (2 + h.inputs + h.outputs) [] (pairs_of gs)) (λ g. let y : Result CertificateView (ℕ × ℕ) = Ok (record { inputs = names.inputs; gates = g; outputs = with_names names.outputs x }) in y)))
      (ap (λ (xs : List ℕ). outputs_from h.inputs (vs ++ vars_of gs) (2 + h.inputs) [] xs) e ∙ s)
  go line (gate all front d more e a n) =
      let o = outputs-ok h.inputs (vs ++ vars_of gs) (2 + h.inputs) [] os all in
      let q : 2 + c.inputs + c.outputs + length front ≡ 2 + h.inputs + h.outputs + length front = omega arith in
      let s = gates-stuck h.inputs (vs ++ vars_of gs) (2 + h.inputs + h.outputs) (2 + c.inputs + c.outputs + length front) [] front d more a n q in
      ap (λ (r : Result (List Operand) (ℕ × ℕ)). and_then r (λ x. and_then (gates_from h.inputs (vs ++ vars_of gs) (2 + h.inputs + h.outputs) [] (pairs_of gs)) (λ g. let y : Result CertificateView (ℕ × ℕ) = Ok (record { inputs = names.inputs; gates = g; outputs = with_names names.outputs x }) in y))) o.1
      ∙ ap (λ (r : Result (List Gate) (ℕ × ℕ)). and_then r (λ g. let y : Result CertificateView (ℕ × ℕ) = Ok (record { inputs = names.inputs; gates = g; outputs = with_names names.outputs o.0 }) in y))
      (ap (λ (xs : List Definition). gates_from h.inputs (vs ++ vars_of gs) (2 + h.inputs + h.outputs) [] (pairs_of xs)) e ∙ s)
