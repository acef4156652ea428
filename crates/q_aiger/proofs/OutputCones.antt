-- Marking what outputs are made of, and gathering what is marked.
use Rattle.std.proofs.Common.{◌≡◌, ◌⊎◌, ℕ, zero, suc, ◌+◌, ◌-◌, ◌<◌, ◌≤◌, Bool, true, false, List, [], ◌∷◌, ◌++◌, length, get_or, set, refl, sym, ap, ◌∙◌, subst, inl, inr, arith, slice_get, Some, map}
use Rattle.std.proofs.lemmas.List.{length-set, get_or-set_same, get_or-set_other, get_or_past, length_push, get_or_append_left, get_or_push, length-map, get_or-map, get_or_default, get_or_read}
use Rattle.std.proofs.lemmas.Bool.{cases_lt, both_ways, cases_eq}
use Rattle.std.proofs.lemmas.Option.{get_or_from_slice_get}
use Rattle.q_logic.specs.Prelude.{GateNode, falsum, input_at, gate_at, Gate, IsThere, CertificateView, NamedOutput}
use Rattle.q_aig.specs.Prelude.{Net, operand_of, gate_of, output_of, net_of, AreOutputs, no_output as unnamed, IsMarked}
use Rattle.q_aig.specs.declared.output.Output.{Output}
use Rattle.q_gates.specs.Gates.{no_gate}
use Rattle.q_aig.proofs.ConeSearch.{set-kept}
use Rattle.q_aiger.specs.Cones.{no_output, IsPart, output, left, right, AreCones, place_in, with_mark, IsMarking, ArePlaced, HasCones}

pub length-mark : (ms : List Bool) (n : GateNode) → length (with_mark ms n) ≡ length ms
length-mark ms falsum = refl
length-mark ms (input_at i) = refl
length-mark ms (gate_at g) = length-set ms g true

pub mark-bit : (ms : List Bool) (n : GateNode) (x : ℕ) → get_or ms x false ≡ true → get_or (with_mark ms n) x false ≡ true
mark-bit ms falsum x e = e
mark-bit ms (input_at i) x e = e
mark-bit ms (gate_at g) x e = set-kept ms g x e

pub mark-kept : (ms : List Bool) (n x : GateNode) → IsMarked ms x → IsMarked (with_mark ms n) x
mark-kept ms n falsum e = tt
mark-kept ms n (input_at i) e = tt
mark-kept ms n (gate_at g) e = mark-bit ms n g e

pub mark-done : (k : ℕ) (ms : List Bool) (n : GateNode) → IsThere k (length ms) n → IsMarked (with_mark ms n) n
mark-done k ms falsum h = tt
mark-done k ms (input_at i) h = tt
mark-done k ms (gate_at g) h = get_or-set_same ms g true false h

pub mark-only : (ms : List Bool) (n : GateNode) (x : ℕ) → get_or (with_mark ms n) x false ≡ true → (get_or ms x false ≡ true) ⊎ (n ≡ gate_at x)
mark-only ms falsum x e = inl e
mark-only ms (input_at i) x e = inl e
mark-only ms (gate_at g) x e = elim (cases_eq x g) [
  | inl q ↦ inr (ap gate_at (sym q))
  | inr n ↦ inl (sym (get_or-set_other ms g x true false n) ∙ e)
]

pub marking-none : (c : CertificateView) (ms : List Bool) → length ms ≡ length c.gates → ((g : ℕ) → get_or ms g false ≡ false) → IsMarking c ms 0 (length c.gates)
marking-none c ms l un = record {
  room = l;
  parts = λ g e. absurd (both_ways (get_or ms g false) (un g) e);
  roots = λ i b. absurd (omega arith);
  lefts = λ g b e. absurd (both_ways (get_or ms g false) (un g) e);
  rights = λ g b e. absurd (both_ways (get_or ms g false) (un g) e);
}

pub marking-output : (c : CertificateView) (ms : List Bool) (k inputs : ℕ) (n : GateNode) → IsMarking c ms k (length c.gates) → k < length c.outputs → n ≡ (get_or c.outputs k no_output).operand.node → IsThere inputs (length c.gates) n → IsMarking c (with_mark ms n) (k + 1) (length c.gates)
marking-output c ms k inputs n m lt e th =
    let r : length ms ≡ length c.gates = m.room in
    let l = length-mark ms n in
    let past : (g : ℕ) → length c.gates ≤ g → get_or (with_mark ms n) g false ≡ false = λ g b. get_or_past (with_mark ms n) g false (omega arith) in
    record {
      room = omega arith;
      parts = λ g h. elim (mark-only ms n g h) [
        | inl a ↦ m.parts g a
        | inr q ↦ subst (IsPart c) (sym e ∙ q) (output k lt)
      ];
      roots = λ i b. elim (cases_eq i k) [
        | inl q ↦ subst (λ (j : ℕ). IsMarked (with_mark ms n) (get_or c.outputs j no_output).operand.node) (sym q) (subst (IsMarked (with_mark ms n)) e (mark-done inputs ms n (subst (λ (z : ℕ). IsThere inputs z n) (sym r) th)))
        | inr q ↦ mark-kept ms n (get_or c.outputs i no_output).operand.node (m.roots i (omega arith))
      ];
      lefts = λ g b h. absurd (both_ways (get_or (with_mark ms n) g false) (past g b) h);
      rights = λ g b h. absurd (both_ways (get_or (with_mark ms n) g false) (past g b) h);
    }

-- a gate without mark asks for nothing
pub marking-plain : (c : CertificateView) (ms : List Bool) (k g : ℕ) → IsMarking c ms k (g + 1) → get_or ms g false ≡ false → IsMarking c ms k g
marking-plain c ms k g m e = record {
  room = m.room;
  parts = m.parts;
  roots = m.roots;
  lefts = λ x b h. elim (cases_eq x g) [
    | inl q ↦ absurd (both_ways (get_or ms g false) e (subst (λ (y : ℕ). get_or ms y false ≡ true) q h))
    | inr q ↦ m.lefts x (omega arith) h
  ];
  rights = λ x b h. elim (cases_eq x g) [
    | inl q ↦ absurd (both_ways (get_or ms g false) e (subst (λ (y : ℕ). get_or ms y false ≡ true) q h))
    | inr q ↦ m.rights x (omega arith) h
  ];
}

not-above : (inputs g x : ℕ) (n : GateNode) → IsThere inputs g n → g ≤ x → n ≡ gate_at x → ⊥
not-above inputs g x n h le e = let b : x < g = subst (IsThere inputs g) e h in omega arith

-- a gate with a mark, whose operands get theirs
pub marking-gate : (c : CertificateView) (ms : List Bool) (k g inputs : ℕ) (a : Gate) → IsMarking c ms k (g + 1) → g < length c.gates → get_or ms g false ≡ true → slice_get c.gates g ≡ Some a → IsThere inputs g a.left.node → IsThere inputs g a.right.node → IsMarking c (with_mark (with_mark ms a.left.node) a.right.node) k g
marking-gate c ms k g inputs a m lt e at tl tr =
    let is : get_or c.gates g no_gate ≡ a = get_or_from_slice_get c.gates g a no_gate at in
    let r : length ms ≡ length c.gates = m.room in
    let ms1 : List Bool = with_mark ms a.left.node in
    let l1 : length (with_mark ms a.left.node) ≡ length ms = length-mark ms a.left.node in
    let l2 : length (with_mark (with_mark ms a.left.node) a.right.node) ≡ length (with_mark ms a.left.node) = length-mark (with_mark ms a.left.node) a.right.node in
    let ms2 : List Bool = with_mark (with_mark ms a.left.node) a.right.node in
    let kept : (x : GateNode) → IsMarked ms x → IsMarked ms2 x = λ x h. mark-kept ms1 a.right.node x (mark-kept ms a.left.node x h) in
    let pl : IsPart c a.left.node = subst (λ (b : Gate). IsPart c b.left.node) is (left g (m.parts g e)) in
    let pr : IsPart c a.right.node = subst (λ (b : Gate). IsPart c b.right.node) is (right g (m.parts g e)) in
    let there : (n : GateNode) (z : ℕ) → IsThere inputs g n → g < z → IsThere inputs z n = λ n z h b. wider inputs g z n h b in
    let dl : IsMarked ms2 a.left.node = mark-kept ms1 a.right.node a.left.node (mark-done inputs ms a.left.node (there a.left.node (length ms) tl (omega arith))) in
    let dr : IsMarked ms2 a.right.node = mark-done inputs ms1 a.right.node (there a.right.node (length ms1) tr (omega arith)) in
    let only : (x : ℕ) → get_or ms2 x false ≡ true → g ≤ x → get_or ms x false ≡ true = λ x h b. elim (mark-only ms1 a.right.node x h) [
      | inl y ↦ elim (mark-only ms a.left.node x y) [ inl z ↦ z | inr z ↦ absurd (not-above inputs g x a.left.node tl b z) ]
      | inr y ↦ absurd (not-above inputs g x a.right.node tr b y)
    ] in
    record {
      room = omega arith;
      parts = λ x h. elim (mark-only ms1 a.right.node x h) [
        | inl y ↦ elim (mark-only ms a.left.node x y) [ inl z ↦ m.parts x z | inr z ↦ subst (IsPart c) z pl ]
        | inr y ↦ subst (IsPart c) y pr
      ];
      roots = λ i b. kept (get_or c.outputs i no_output).operand.node (m.roots i b);
      lefts = λ x b h. elim (cases_eq x g) [
        | inl q ↦ subst (λ (y : ℕ). IsMarked ms2 (get_or c.gates y no_gate).left.node) (sym q) (subst (λ (b : Gate). IsMarked ms2 b.left.node) (sym is) dl)
        | inr q ↦ kept (get_or c.gates x no_gate).left.node (m.lefts x (omega arith) (only x h b))
      ];
      rights = λ x b h. elim (cases_eq x g) [
        | inl q ↦ subst (λ (y : ℕ). IsMarked ms2 (get_or c.gates y no_gate).right.node) (sym q) (subst (λ (b : Gate). IsMarked ms2 b.right.node) (sym is) dr)
        | inr q ↦ kept (get_or c.gates x no_gate).right.node (m.rights x (omega arith) (only x h b))
      ];
    }
  where
    wider : (inputs g z : ℕ) (n : GateNode) → IsThere inputs g n → g < z → IsThere inputs z n
    wider inputs g z falsum h b = tt
    wider inputs g z (input_at i) h b = h
    wider inputs g z (gate_at y) h b = omega arith

-- all parts are marked in the end
pub part-marked : (c : CertificateView) (ms : List Bool) → IsMarking c ms (length c.outputs) 0 → (n : GateNode) → IsPart c n → IsMarked ms n
part-marked c ms m n (output i b) = m.roots i b
part-marked c ms m n (left g p) = m.lefts g (omega arith) (part-marked c ms m (gate_at g) p)
part-marked c ms m n (right g p) = m.rights g (omega arith) (part-marked c ms m (gate_at g) p)

pub placed-none : (ms : List Bool) (places : List ℕ) → length places ≡ length ms → ((g : ℕ) → get_or places g 0 ≡ 0) → ArePlaced ms 0 [] places
placed-none ms places l z = record {
  room = l;
  ascending = λ i j a b. absurd (omega arith);
  marked = λ i b. absurd (omega arith);
  below = λ i b. absurd (omega arith);
  all = λ g b e. absurd (omega arith);
  few = omega arith;
  small = λ g. let e = z g in omega arith;
}

pub placed-plain : (ms : List Bool) (g : ℕ) (kept places : List ℕ) → ArePlaced ms g kept places → get_or ms g false ≡ false → ArePlaced ms (g + 1) kept places
placed-plain ms g kept places p e = record {
  room = p.room;
  ascending = p.ascending;
  marked = p.marked;
  below = λ i b. let h = p.below i b in omega arith;
  all = λ x b h. elim (cases_eq x g) [
    | inl q ↦ absurd (both_ways (get_or ms g false) e (subst (λ (y : ℕ). get_or ms y false ≡ true) q h))
    | inr q ↦ p.all x (omega arith) h
  ];
  few = let h : length kept ≤ g = p.few in omega arith;
  small = λ x. let h = p.small x in omega arith;
}

pub placed-more : (ms : List Bool) (g : ℕ) (kept places : List ℕ) → ArePlaced ms g kept places → g < length ms → get_or ms g false ≡ true → ArePlaced ms (g + 1) (kept ++ g ∷ []) (set places g (length kept))
placed-more ms g kept places p lt e =
    let len = length_push kept g in
    let lp = length-set places g (length kept) in
    let r : length places ≡ length ms = p.room in
    let few : length kept ≤ g = p.few in
    let early : (i : ℕ) → i < length kept → get_or (kept ++ g ∷ []) i 0 ≡ get_or kept i 0 = λ i b. get_or_append_left kept (g ∷ []) 0 i b in
    let last : (i : ℕ) → length kept ≡ i → get_or (kept ++ g ∷ []) i 0 ≡ g = λ i b. get_or_push kept g 0 i b in
    record {
      room = omega arith;
      ascending = λ i j a b. elim (cases_lt j (length kept)) [
        | inl y ↦ let s = p.ascending i j a y in let ei = early i (omega arith) in let ej = early j y in omega arith
        | inr y ↦ let s = p.below i (omega arith) in let ei = early i (omega arith) in let ej = last j (omega arith) in omega arith
      ];
      marked = λ i b. elim (cases_lt i (length kept)) [
        | inl y ↦ subst (λ (x : ℕ). get_or ms x false ≡ true) (sym (early i y)) (p.marked i y)
        | inr y ↦ subst (λ (x : ℕ). get_or ms x false ≡ true) (sym (last i (omega arith))) e
      ];
      below = λ i b. elim (cases_lt i (length kept)) [
        | inl y ↦ let s = p.below i y in let ei = early i y in omega arith
        | inr y ↦ let ei = last i (omega arith) in omega arith
      ];
      all = λ x b h. elim (cases_eq x g) [
        | inl q ↦ (length kept, omega arith, last (length kept) refl ∙ sym q, subst (λ (y : ℕ). get_or (set places g (length kept)) y 0 ≡ length kept) (sym q) (get_or-set_same places g (length kept) 0 (omega arith)))
        | inr q ↦
            let s = p.all x (omega arith) h in
            let sl : s.0 < length kept = s.1 in
            (s.0, omega arith, early s.0 s.1 ∙ s.2, get_or-set_other places g x (length kept) 0 q ∙ s.3)
      ];
      few = omega arith;
      small = λ x. elim (cases_eq x g) [
        | inl q ↦ let s : get_or (set places g (length kept)) x 0 ≡ length kept = subst (λ (y : ℕ). get_or (set places g (length kept)) y 0 ≡ length kept) (sym q) (get_or-set_same places g (length kept) 0 (omega arith)) in omega arith
        | inr q ↦ let s = get_or-set_other places g x (length kept) 0 q in let h = p.small x in omega arith
      ];
    }

-- the place of a number in a list where each stands once
place-at : (xs : List ℕ) (i : ℕ) → ((j k : ℕ) → j < k → k < length xs → get_or xs j 0 < get_or xs k 0) → i < length xs → place_in xs (get_or xs i 0) ≡ i
place-at [] i a lt = absurd (omega arith)
place-at (x ∷ xs) zero a lt = grind arith
place-at (x ∷ xs) (suc i) a lt =
    let h : place_in xs (get_or xs i 0) ≡ i = place-at xs i (λ j k b l. a (suc j) (suc k) (omega arith) (omega arith)) (omega arith) in
    let s : x < get_or xs i 0 = a 0 (suc i) (omega arith) lt in
    grind arith

pub cones-found : (c : CertificateView) (ms : List Bool) (n : ℕ) (kept places : List ℕ) → IsMarking c ms (length c.outputs) 0 → n ≡ length ms → ArePlaced ms n kept places → HasCones c kept places
cones-found c ms n kept places m e p =
    let r : length ms ≡ length c.gates = m.room in
    let rp : length places ≡ length ms = p.room in
    let few : length kept ≤ n = p.few in
    let there : (g : ℕ) → get_or ms g false ≡ true → g < n = λ g h. elim (cases_lt g n) [
      | inl a ↦ a
      | inr a ↦ absurd (both_ways (get_or ms g false) (get_or_past ms g false (omega arith)) h)
    ] in
    record {
      cones = record {
        ascending = p.ascending;
        parts = λ i b. m.parts (get_or kept i 0) (p.marked i b);
        there = λ i b. let h = there (get_or kept i 0) (p.marked i b) in omega arith;
        all = λ g q. let k : get_or ms g false ≡ true = part-marked c ms m (gate_at g) q in let s = p.all g (there g k) k in (s.0, s.1, s.2);
      };
      room = omega arith;
      placed = λ g q.
          let k : get_or ms g false ≡ true = part-marked c ms m (gate_at g) q in
          let s = p.all g (there g k) k in
          let h : place_in kept (get_or kept s.0 0) ≡ s.0 = place-at kept s.0 p.ascending s.1 in
          s.3 ∙ sym h ∙ ap (place_in kept) s.2;
      few = omega arith;
      small = λ g. let h = p.small g in omega arith;
    }

-- one turn of the walk over the gates, with a mark and without one
pub turn-gate : (c : CertificateView) (n : Net) (ms ms1 ms2 : List Bool) (gates later g : ℕ) (p : ℕ × ℕ) → n ≡ net_of c → gates ≡ length n.gates → IsMarking c ms (length c.outputs) (length c.gates - later) → g ≡ gates - 1 - later → later < gates → get_or ms g false ≡ true → slice_get n.gates g ≡ Some (gate_of p) → IsThere (length n.inputs) g (operand_of p.0).node → IsThere (length n.inputs) g (operand_of p.1).node → ms1 ≡ with_mark ms (operand_of p.0).node → ms2 ≡ with_mark ms1 (operand_of p.1).node → IsMarking c ms2 (length c.outputs) (length c.gates - (later + 1))
turn-gate c n ms ms1 ms2 gates later g p e eg m is lt b at tl tr f1 f2 =
    let len : gates ≡ length c.gates = eg ∙ ap (λ (x : Net). length x.gates) e in
    let from : length c.gates - later ≡ g + 1 = omega arith in
    let to : g ≡ length c.gates - (later + 1) = omega arith in
    let m1 : IsMarking c ms (length c.outputs) (g + 1) = subst (IsMarking c ms (length c.outputs)) from m in
    let at2 : slice_get c.gates g ≡ Some (gate_of p) = subst (λ (x : Net). slice_get x.gates g ≡ Some (gate_of p)) e at in
    let r = marking-gate c ms (length c.outputs) g (length n.inputs) (gate_of p) m1 (omega arith) b at2 tl tr in
    let f : ms2 ≡ with_mark (with_mark ms (operand_of p.0).node) (operand_of p.1).node = f2 ∙ ap (λ (x : List Bool). with_mark x (operand_of p.1).node) f1 in
    subst (IsMarking c ms2 (length c.outputs)) to (subst (λ (x : List Bool). IsMarking c x (length c.outputs) g) (sym f) r)

pub turn-plain : (c : CertificateView) (n : Net) (ms : List Bool) (gates later g : ℕ) → n ≡ net_of c → gates ≡ length n.gates → IsMarking c ms (length c.outputs) (length c.gates - later) → g ≡ gates - 1 - later → later < gates → get_or ms g false ≡ false → IsMarking c ms (length c.outputs) (length c.gates - (later + 1))
turn-plain c n ms gates later g e eg m is lt b =
    let len : gates ≡ length c.gates = eg ∙ ap (λ (x : Net). length x.gates) e in
    let from : length c.gates - later ≡ g + 1 = omega arith in
    let to : g ≡ length c.gates - (later + 1) = omega arith in
    subst (IsMarking c ms (length c.outputs)) to (marking-plain c ms (length c.outputs) g (subst (IsMarking c ms (length c.outputs)) from m) b)

-- what an output is is a part
pub output-part : (c : CertificateView) (os : List Output) (k : ℕ) (d : Output) → map output_of os ≡ c.outputs → k < length os → IsPart c (operand_of (get_or os k d).lit).node × (output_of (get_or os k d) ≡ get_or c.outputs k no_output)
output-part c os k d eo lt =
    let len : length (map output_of os) ≡ length os = length-map os output_of in
    let lc : length (map output_of os) ≡ length c.outputs = ap length eo in
    let here : get_or (map output_of os) k no_output ≡ output_of (get_or os k d) = get_or-map output_of os k d no_output lt in
    let is : output_of (get_or os k d) ≡ get_or c.outputs k no_output = sym here ∙ ap (λ (x : List NamedOutput). get_or x k no_output) eo in
    (subst (λ (x : NamedOutput). IsPart c x.operand.node) (sym is) (output k (omega arith)), is)

pub turn-output : (c : CertificateView) (ms ms2 : List Bool) (os : List Output) (k : ℕ) (d : Output) → map output_of os ≡ c.outputs → AreOutputs (net_of c) os → IsMarking c ms k (length c.gates) → k < length os → ms2 ≡ with_mark ms (operand_of (get_or os k d).lit).node → IsMarking c ms2 (k + 1) (length c.gates)
turn-output c ms ms2 os k d eo a m lt f =
    let p = output-part c os k d eo lt in
    let len : length (map output_of os) ≡ length os = length-map os output_of in
    let lc : length (map output_of os) ≡ length c.outputs = ap length eo in
    let th : IsThere (length c.inputs) (length c.gates) (operand_of (get_or os k d).lit).node = subst (λ (x : Output). IsThere (length c.inputs) (length c.gates) (operand_of x.lit).node) (get_or_default os k unnamed d lt) (a.literals k lt) in
    subst (λ (x : List Bool). IsMarking c x (k + 1) (length c.gates)) (sym f)
    (marking-output c ms k (length c.inputs) (operand_of (get_or os k d).lit).node m (omega arith) (ap (λ (x : NamedOutput). x.operand.node) p.1) th)

-- what the operands of a kept gate are are parts
pub gate-parts : (c : CertificateView) (n : Net) (kept : List ℕ) (k g : ℕ) (p : ℕ × ℕ) → n ≡ net_of c → AreCones c kept → k < length kept → g ≡ get_or kept k 0 → slice_get n.gates g ≡ Some (gate_of p) → IsPart c (operand_of p.0).node × IsPart c (operand_of p.1).node × (get_or c.gates (get_or kept k 0) no_gate ≡ gate_of p)
gate-parts c n kept k g p e a lt is at =
    let at2 : slice_get c.gates g ≡ Some (gate_of p) = subst (λ (x : Net). slice_get x.gates g ≡ Some (gate_of p)) e at in
    let q : get_or c.gates g no_gate ≡ gate_of p = get_or_from_slice_get c.gates g (gate_of p) no_gate at2 in
    let r : get_or c.gates (get_or kept k 0) no_gate ≡ gate_of p = subst (λ (x : ℕ). get_or c.gates x no_gate ≡ gate_of p) is q in
    let pa = a.parts k lt in
    (subst (λ (x : Gate). IsPart c x.left.node) r (left (get_or kept k 0) pa), subst (λ (x : Gate). IsPart c x.right.node) r (right (get_or kept k 0) pa), r)

-- what was read at a place
pub bit-read : (ms : List Bool) (n g : ℕ) (b d : Bool) → n ≡ length ms → g < n → b ≡ get_or ms g b → b ≡ d → get_or ms g false ≡ d
bit-read ms n g b d e lt is was = sym (get_or_read ms g b (omega arith) is false) ∙ was

pub placed-push : (ms : List Bool) (g n : ℕ) (kept kept2 places places2 : List ℕ) → ArePlaced ms g kept places → g < length ms → get_or ms g false ≡ true → n ≡ length kept → kept2 ≡ kept ++ g ∷ [] → places2 ≡ set places g n → ArePlaced ms (g + 1) kept2 places2
placed-push ms g n kept kept2 places places2 p lt e en ek ep =
    let f : places2 ≡ set places g (length kept) = ep ∙ ap (set places g) en in
    subst (λ (k : List ℕ). ArePlaced ms (g + 1) k places2) (sym ek) (subst (ArePlaced ms (g + 1) (kept ++ g ∷ [])) (sym f) (placed-more ms g kept places p lt e))
