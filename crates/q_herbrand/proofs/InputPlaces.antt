-- A graph over the places of its inputs.
use Rattle.std.proofs.Common.{◌≡◌, ℕ, ◌+◌, ◌<◌, false, cond, List, [], ◌∷◌, ◌++◌, length, get_or, map, take, slice_get, Some, arith, refl, sym, ap, ap₂, ◌∙◌, subst, inl, inr}
use Rattle.std.proofs.Math.ListN as ListN
use Rattle.std.proofs.lemmas.List.{length_push, length-take-le, get_or_append_left, get_or_push, map-append, take_more}
use Rattle.std.proofs.lemmas.Bool.{cases_lt}
use Rattle.std.proofs.lemmas.Option.{get_or_from_slice_get}
use Rattle.q_logic.specs.Prelude.{Circuit, constant, inverter, conjunction, GateNode, falsum, input_at, gate_at, Operand, Gate, IsThere, AreGates, node_tree, operand_tree, gate_tree, gate_trees}
use Rattle.q_logic.proofs.CertificateTrees.{length-gate_trees}
use Rattle.q_aig.specs.Prelude.{Net, IsLiteral, tree_at, operand_of, IsNew, IsNet}
use Rattle.q_herbrand.specs.Under.{under}
use Rattle.q_herbrand.specs.Drafted.{AreByPlaces, IsByPlaces, variable_at}
use Rattle.q_herbrand.proofs.ReplacedInputs.{under-operand}

pub places-none : AreByPlaces 0 []
places-none = record { room = refl; each = λ i lt. absurd (omega arith) }

pub places-more : (n name : ℕ) (names names2 : List ℕ) → name ≡ n → names2 ≡ names ++ name ∷ [] →
    AreByPlaces n names → AreByPlaces (n + 1) names2
places-more n name names names2 e en p =
    let len = length_push names name in
    let len2 : length names2 ≡ length (names ++ name ∷ []) = ap length en in
    let room : length names ≡ n = p.room in
    record {
      room = omega arith;
      each = λ i lt. ap (λ (xs : List ℕ). get_or xs i 0) en ∙ elim (cases_lt i n) [
        | inl h ↦ get_or_append_left names (name ∷ []) 0 i (omega arith) ∙ p.each i h
        | inr h ↦ let q : i ≡ n = omega arith in get_or_push names name 0 i (omega arith) ∙ e ∙ sym q
      ];
    }

-- the next place names no input
pub places-new : (n : ℕ) (names : List ℕ) → AreByPlaces n names → IsNew names n
places-new n names p i lt e =
    let room : length names ≡ n = p.room in
    let s = p.each i (omega arith) in
    absurd (omega arith)

pub places-literal : (named aig : Net) (gate l : ℕ) → AreByPlaces (length named.inputs) aig.inputs →
    aig.gates ≡ take gate named.gates → gate < length named.gates →
    IsThere (length named.inputs) gate (operand_of l).node → IsLiteral aig l
places-literal named aig gate l p e lt h =
    let len : length aig.gates ≡ gate = ap length e ∙ length-take-le gate named.gates (omega arith) in
    subst (λ (n : ℕ). IsThere n (length aig.gates) (operand_of l).node) (sym p.room)
    (subst (λ (n : ℕ). IsThere (length named.inputs) n (operand_of l).node) (sym len) h)

pub gates-more : (named gates new : List Gate) (k : ℕ) (g : Gate) → slice_get named k ≡ Some g →
    k < length named → gates ≡ take k named → new ≡ gates ++ g ∷ [] → new ≡ take (k + 1) named
gates-more named gates new k g s lt e f =
    let m : take (k + 1) named ≡ take k named ++ get_or named k g ∷ [] = take_more named k g lt in
    let at : get_or named k g ≡ g = get_or_from_slice_get named k g g s in
    f ∙ ap (λ (xs : List Gate). xs ++ g ∷ []) e ∙ ap (λ (x : Gate). take k named ++ x ∷ []) (sym at) ∙ sym m

module _ (names places : List ℕ) (p : AreByPlaces (length names) places) where
  abbrev back : Circuit → Circuit
  back t = under (variable_at names) t

  node-by-places : (us : List Circuit) (n : GateNode) → IsThere (length names) (length us) n →
      node_tree names (map back us) n ≡ back (node_tree places us n)
  node-by-places us falsum h = refl
  node-by-places us (input_at i) h = ap (variable_at names) (sym (p.each i h))
  node-by-places us (gate_at g) h = ListN.get_or-map back us g (constant false)

  operand-by-places : (us : List Circuit) (o : Operand) → IsThere (length names) (length us) o.node →
      operand_tree names (map back us) o ≡ back (operand_tree places us o)
  operand-by-places us o h =
      ap (λ (t : Circuit). cond o.negated (inverter t) t) (node-by-places us o.node h)
      ∙ sym (under-operand (variable_at names) o.negated (node_tree places us o.node))

  trees-by-places : (us : List Circuit) (gs : List Gate) → AreGates (length names) (length us) gs →
      gate_trees names (map back us) gs ≡ map back (gate_trees places us gs)
  trees-by-places us [] h = refl
  trees-by-places us (g ∷ gs) h =
      let t : Circuit = gate_tree places us g in
      let e : gate_tree names (map back us) g ≡ back t =
      ap₂ conjunction (operand-by-places us g.left h.0) (operand-by-places us g.right h.1) in
      let m : map back us ++ gate_tree names (map back us) g ∷ [] ≡ map back (us ++ t ∷ []) =
      ap (λ (q : Circuit). map back us ++ q ∷ []) e ∙ sym (map-append back us (t ∷ [])) in
      ap (λ (ts : List Circuit). gate_trees names ts gs) m
      ∙ trees-by-places (us ++ t ∷ []) gs
      (subst (λ (n : ℕ). AreGates (length names) n gs) (sym (length_push us t)) h.2)

-- Over places each literal stands for the tree of before.
pub by-places : (named new : Net) → IsNet named → AreByPlaces (length named.inputs) new.inputs →
    new.gates ≡ named.gates → IsByPlaces named new
by-places named new net p e = record {
  inputs = p;
  gates = ap length e;
  trees = λ l h. (there l h, tree l h);
}
  where
    there : (l : ℕ) → IsLiteral named l → IsLiteral new l
    there l h =
        subst (λ (n : ℕ). IsThere n (length new.gates) (operand_of l).node) (sym p.room)
        (subst (λ (gs : List Gate). IsThere (length named.inputs) (length gs) (operand_of l).node) (sym e) h)

    tree : (l : ℕ) → IsLiteral named l → under (variable_at named.inputs) (tree_at new l) ≡ tree_at named l
    tree l h =
        let us : List Circuit = gate_trees new.inputs [] named.gates in
        let len : length (gate_trees new.inputs [] named.gates) ≡ 0 + length named.gates =
        length-gate_trees new.inputs [] named.gates in
        let len2 : length named.gates ≡ length (gate_trees new.inputs [] named.gates) = omega arith in
        let in_range : IsThere (length named.inputs) (length (gate_trees new.inputs [] named.gates)) (operand_of l).node =
        subst (λ (n : ℕ). IsThere (length named.inputs) n (operand_of l).node) len2 h in
        ap (λ (gs : List Gate). under (variable_at named.inputs)
        (operand_tree new.inputs (gate_trees new.inputs [] gs) (operand_of l))) e
        ∙ sym (operand-by-places named.inputs new.inputs p (gate_trees new.inputs [] named.gates) (operand_of l)
        in_range)
        ∙ sym (ap (λ (ts : List Circuit). operand_tree named.inputs ts (operand_of l))
        (trees-by-places named.inputs new.inputs p [] named.gates net.ordered))
