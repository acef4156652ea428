-- What is in a cone is what the tree reads.
use Rattle.std.proofs.Common.{◌≡◌, ℕ, zero, suc, ◌+◌, ◌<◌, ◌≤◌, Bool, true, false, cond, List, [], length, map, get_or, refl, sym, subst, inl, inr, arith, Option, Some, None}
use Rattle.std.proofs.lemmas.List.{length-map, get_or-map}
use Rattle.q_logic.specs.Prelude.{Circuit, Reads, inverter, conjunction, GateNode, falsum, input_at, gate_at, Gate, IsThere, AreGates, node_tree, operand_tree, gate_tree, gate_trees}
use Rattle.q_aig.specs.Nets.{operand_of, gate_of, AreDistinct}
use Rattle.q_aig.specs.Cones.{ReadsAt, AreAllowed, IsFirstStrange, IsRead}
use Rattle.q_aig.specs.Walking.{pair_at, IsInCone, root, left, right, IsPlain, IsStrange, IsSearched}
use Rattle.q_aig.proofs.Nets.{part-there, IsThere-more, tree-at-gate}

module _ (ins : List ℕ) (gates : List (ℕ × ℕ)) (o : AreGates (length ins) 0 (map gate_of gates)) where
  gate-is : (g : ℕ) → g < length gates → get_or (gate_trees ins [] (map gate_of gates)) g (Circuit.constant false) ≡ conjunction (operand_tree ins (gate_trees ins [] (map gate_of gates)) (operand_of (pair_at gates g).0)) (operand_tree ins (gate_trees ins [] (map gate_of gates)) (operand_of (pair_at gates g).1))
  gate-is g lt =
      let ts : List Circuit = gate_trees ins [] (map gate_of gates) in
      let len : length (map gate_of gates) ≡ length gates = length-map gates gate_of in
      let t : get_or (gate_trees ins [] (map gate_of gates)) (0 + g) (Circuit.constant false) ≡ gate_tree ins (gate_trees ins [] (map gate_of gates)) (get_or (map gate_of gates) g (gate_of (0, 0))) = tree-at-gate ins [] (map gate_of gates) g (gate_of (0, 0)) o (omega arith) in
      let m : get_or (map gate_of gates) g (gate_of (0, 0)) ≡ gate_of (pair_at gates g) = get_or-map gate_of gates g (0, 0) (gate_of (0, 0)) lt in
      let z : 0 + g ≡ g = omega arith in
      let t2 = subst (λ (x : Gate). get_or (gate_trees ins [] (map gate_of gates)) (0 + g) (Circuit.constant false) ≡ gate_tree ins (gate_trees ins [] (map gate_of gates)) x) m t in
      subst (λ (i : ℕ). get_or (gate_trees ins [] (map gate_of gates)) i (Circuit.constant false) ≡ gate_tree ins (gate_trees ins [] (map gate_of gates)) (gate_of (pair_at gates g))) z t2

  signed-reads : (b : Bool) (t : Circuit) (u : ℕ) → Reads t u → Reads (cond b (inverter t) t) u
  signed-reads true t u h = h
  signed-reads false t u h = h

  reads-signed : (b : Bool) (t : Circuit) (u : ℕ) → Reads (cond b (inverter t) t) u → Reads t u
  reads-signed true t u h = h
  reads-signed false t u h = h

  there : (l : ℕ) → IsThere (length ins) (length gates) (operand_of l).node → (n : GateNode) → IsInCone gates l n → IsThere (length ins) (length gates) n
  there l h n root = h
  there l h n (left g c) =
      let lt : g < length gates = there l h (gate_at g) c in
      let r = part-there (length ins) g gates o lt in
      IsThere-more (length ins) g (length ins) (length gates) (operand_of (pair_at gates g).0).node r.0 (omega arith) (omega arith)
  there l h n (right g c) =
      let lt : g < length gates = there l h (gate_at g) c in
      let r = part-there (length ins) g gates o lt in
      IsThere-more (length ins) g (length ins) (length gates) (operand_of (pair_at gates g).1).node r.1 (omega arith) (omega arith)

  -- what a node of the cone reads the literal reads
  pub cone-reads : (l : ℕ) → IsThere (length ins) (length gates) (operand_of l).node → (n : GateNode) → IsInCone gates l n → (u : ℕ) → Reads (node_tree ins (gate_trees ins [] (map gate_of gates)) n) u → Reads (operand_tree ins (gate_trees ins [] (map gate_of gates)) (operand_of l)) u
  cone-reads l h n root u r = signed-reads (operand_of l).negated _ u r
  cone-reads l h n (left g c) u r =
      let lt : g < length gates = there l h (gate_at g) c in
      let s : Reads (operand_tree ins (gate_trees ins [] (map gate_of gates)) (operand_of (pair_at gates g).0)) u = signed-reads (operand_of (pair_at gates g).0).negated _ u r in
      cone-reads l h (gate_at g) c u (subst (λ (t : Circuit). Reads t u) (sym (gate-is g lt)) (inl s))
  cone-reads l h n (right g c) u r =
      let lt : g < length gates = there l h (gate_at g) c in
      let s : Reads (operand_tree ins (gate_trees ins [] (map gate_of gates)) (operand_of (pair_at gates g).1)) u = signed-reads (operand_of (pair_at gates g).1).negated _ u r in
      cone-reads l h (gate_at g) c u (subst (λ (t : Circuit). Reads t u) (sym (gate-is g lt)) (inr s))

  Found : ℕ → ℕ → Type 0
  Found l u = (i : ℕ) × (i < length ins) × (get_or ins i 0 ≡ u) × IsInCone gates l (input_at i)

  -- what the literal reads is an input of the cone
  by-node : (l u k : ℕ) → ((g : ℕ) → g < k → IsInCone gates l (gate_at g) → Reads (node_tree ins (gate_trees ins [] (map gate_of gates)) (gate_at g)) u → Found l u) → (n : GateNode) → IsThere (length ins) k n → IsInCone gates l n → Reads (node_tree ins (gate_trees ins [] (map gate_of gates)) n) u → Found l u
  unfolding Found
  by-node l u k below falsum t c r = absurd r
  by-node l u k below (input_at i) t c r = (i, t, r, c)
  by-node l u k below (gate_at g) t c r = below g t c r

  by-gate : (l u k : ℕ) → k ≤ length gates → (g : ℕ) → g < k → IsInCone gates l (gate_at g) → Reads (node_tree ins (gate_trees ins [] (map gate_of gates)) (gate_at g)) u → Found l u
  by-gate l u zero le g lt c r = absurd (omega arith)
  by-gate l u (suc k) le g lt c r = go (by-gate l u k (omega arith))
    where
      go : ((j : ℕ) → j < k → IsInCone gates l (gate_at j) → Reads (node_tree ins (gate_trees ins [] (map gate_of gates)) (gate_at j)) u → Found l u) → Found l u
      go before =
          let low : (j : ℕ) → j < g → IsInCone gates l (gate_at j) → Reads (node_tree ins (gate_trees ins [] (map gate_of gates)) (gate_at j)) u → Found l u = λ j h. before j (omega arith) in
          let p = part-there (length ins) g gates o (omega arith) in
          let s : Reads (conjunction (operand_tree ins (gate_trees ins [] (map gate_of gates)) (operand_of (pair_at gates g).0)) (operand_tree ins (gate_trees ins [] (map gate_of gates)) (operand_of (pair_at gates g).1))) u = subst (λ (t : Circuit). Reads t u) (gate-is g (omega arith)) r in
          elim s [
            | inl a ↦ by-node l u g low (operand_of (pair_at gates g).0).node p.0 (left g c) (reads-signed (operand_of (pair_at gates g).0).negated _ u a)
            | inr b ↦ by-node l u g low (operand_of (pair_at gates g).1).node p.1 (right g c) (reads-signed (operand_of (pair_at gates g).1).negated _ u b)
          ]

  found : (l u : ℕ) → IsThere (length ins) (length gates) (operand_of l).node → Reads (operand_tree ins (gate_trees ins [] (map gate_of gates)) (operand_of l)) u → Found l u
  found l u h r = by-node l u (length gates) (by-gate l u (length gates) (omega arith)) (operand_of l).node h root (reads-signed (operand_of l).negated _ u r)

  read-in-cone : (l : ℕ) → AreDistinct ins → IsThere (length ins) (length gates) (operand_of l).node → (i : ℕ) → ReadsAt (record { inputs = ins; gates = map gate_of gates }) l i → IsInCone gates l (input_at i)
  unfolding Found
  read-in-cone l d h i r =
      let f = found l (get_or ins i 0) h r.1 in
      let e : f.0 ≡ i = d f.0 i f.1 r.0 f.2 in
      subst (λ (j : ℕ). IsInCone gates l (input_at j)) e f.3

  cone-read : (l : ℕ) → IsThere (length ins) (length gates) (operand_of l).node → (i : ℕ) → IsInCone gates l (input_at i) → ReadsAt (record { inputs = ins; gates = map gate_of gates }) l i
  cone-read l h i c = (there l h (input_at i) c, cone-reads l h (input_at i) c (get_or ins i 0) refl)

  pub plain-allowed : (l : ℕ) (allowed : List Bool) → AreDistinct ins → IsThere (length ins) (length gates) (operand_of l).node → IsPlain gates l allowed → AreAllowed (record { inputs = ins; gates = map gate_of gates }) l allowed
  plain-allowed l allowed d h p i r = p i (read-in-cone l d h i r)

  pub strange-first : (l : ℕ) (allowed : List Bool) (i : ℕ) → AreDistinct ins → IsThere (length ins) (length gates) (operand_of l).node → IsStrange gates l allowed i → IsFirstStrange (record { inputs = ins; gates = map gate_of gates }) l allowed i
  strange-first l allowed i d h s = record {
    read = cone-read l h i s.in_cone;
    strange = s.strange;
    first = λ j lt r. s.first j lt (read-in-cone l d h j r);
  }

pub searched : (ins : List ℕ) (gates : List (ℕ × ℕ)) → AreGates (length ins) 0 (map gate_of gates) → AreDistinct ins → (l : ℕ) (allowed : List Bool) (f : Option ℕ) → IsThere (length ins) (length gates) (operand_of l).node → IsSearched gates l allowed f → IsRead (record { inputs = ins; gates = map gate_of gates }) l allowed f
searched ins gates o d l allowed None h s = plain-allowed ins gates o l allowed d h s
searched ins gates o d l allowed (Some i) h s = strange-first ins gates o l allowed i d h s
