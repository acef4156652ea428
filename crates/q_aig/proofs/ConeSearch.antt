-- A search through a cone.
use Rattle.std.proofs.Common.{◌≡◌, ℕ, zero, suc, ◌+◌, ◌<◌, ◌≤◌, Bool, true, false, List, [], ◌∷◌, length, map, get_or, set, refl, sym, ap, ◌∙◌, subst, inl, inr, arith, Option, Some, None}
use Rattle.std.proofs.lemmas.List.{length-set, get_or-set_same, get_or-set_other, get_or_past}
use Rattle.std.proofs.lemmas.Bool.{cases_lt, both_ways, cases_Bool, cases_eq}
use Rattle.q_logic.specs.Prelude.{GateNode, falsum, input_at, gate_at, IsThere, AreGates}
use Rattle.q_aig.specs.Nets.{operand_of, gate_of}
use Rattle.q_aig.specs.Walking.{pair_at, IsInCone, root, left, right, IsSearched, IsFoundBy, IsMet, IsDone, marked_count, IsQueue, IsMeeting, IsExploring, AreLeft}
use Rattle.q_aig.proofs.Nets.{part-there, IsThere-more}

pub count-le : (ms : List Bool) → marked_count ms ≤ length ms
count-le [] = omega arith
count-le (true ∷ ms) = let h = count-le ms in omega arith
count-le (false ∷ ms) = let h = count-le ms in omega arith

pub count-room : (ms : List Bool) (g : ℕ) → g < length ms → get_or ms g false ≡ false → marked_count ms < length ms
count-room [] g lt e = absurd (omega arith)
count-room (true ∷ ms) zero lt e = absurd (both_ways true e refl)
count-room (false ∷ ms) zero lt e = let h = count-le ms in omega arith
count-room (true ∷ ms) (suc g) lt e = let h = count-room ms g (omega arith) e in omega arith
count-room (false ∷ ms) (suc g) lt e = let h = count-room ms g (omega arith) e in omega arith

count-set : (ms : List Bool) (g : ℕ) → g < length ms → get_or ms g false ≡ false → marked_count (set ms g true) ≡ marked_count ms + 1
count-set [] g lt e = absurd (omega arith)
count-set (true ∷ ms) zero lt e = absurd (both_ways true e refl)
count-set (false ∷ ms) zero lt e = refl
count-set (true ∷ ms) (suc g) lt e = let h = count-set ms g (omega arith) e in omega arith
count-set (false ∷ ms) (suc g) lt e = count-set ms g (omega arith) e

count-none : (ms : List Bool) → ((g : ℕ) → get_or ms g false ≡ false) → marked_count ms ≡ 0
count-none [] h = refl
count-none (true ∷ ms) h = absurd (both_ways true (h 0) refl)
count-none (false ∷ ms) h = count-none ms (λ g. h (suc g))

pub set-kept : (ms : List Bool) (g x : ℕ) → get_or ms x false ≡ true → get_or (set ms g true) x false ≡ true
set-kept ms g x e = elim (cases_eq x g) [
  | inl q ↦ elim (cases_lt g (length ms)) [
    | inl a ↦ subst (λ (y : ℕ). get_or (set ms g true) y false ≡ true) (sym q) (get_or-set_same ms g true false a)
    | inr a ↦ absurd (both_ways (get_or ms x false) (get_or_past ms x false (omega arith)) e)
  ]
  | inr n ↦ get_or-set_other ms g x true false n ∙ e
]

pub queue-room : (n : ℕ) (ms : List Bool) (qs : List ℕ) (tail g : ℕ) (x : GateNode) → IsQueue ms qs tail → IsThere n (length ms) x → gate_at g ≡ x → get_or ms g false ≡ false → (g < length ms) × (tail < length qs)
queue-room n ms qs tail g x q h e f =
    let lt : g < length ms = subst (IsThere n (length ms)) (sym e) h in
    let few = count-room ms g lt f in
    let r : length qs ≡ length ms = q.room in
    let c : tail ≡ marked_count ms = q.count in
    (lt, omega arith)

pub queue-none : (ms : List Bool) (qs : List ℕ) → length qs ≡ length ms → ((g : ℕ) → get_or ms g false ≡ false) → IsQueue ms qs 0
queue-none ms qs len un = record {
  room = len;
  count = sym (count-none ms un);
  queued = λ j h. absurd (omega arith);
  marked = λ g e. absurd (both_ways (get_or ms g false) (un g) e);
}

pub queue-more : (ms : List Bool) (qs : List ℕ) (tail g : ℕ) → IsQueue ms qs tail → g < length ms → get_or ms g false ≡ false → IsQueue (set ms g true) (set qs tail g) (tail + 1)
queue-more ms qs tail g q lt e =
    let lm = length-set ms g true in
    let lq = length-set qs tail g in
    let r : length qs ≡ length ms = q.room in
    let c : tail ≡ marked_count ms = q.count in
    let few = count-room ms g lt e in
    let room : tail < length qs = omega arith in
    record {
      room = omega arith;
      count = ap (λ (n : ℕ). n + 1) c ∙ sym (count-set ms g lt e);
      queued = λ j h. elim (cases_eq j tail) [
        | inl s ↦
            let here : get_or (set qs tail g) j 0 ≡ g = subst (λ (y : ℕ). get_or (set qs tail g) y 0 ≡ g) (sym s) (get_or-set_same qs tail g 0 room) in
            let lt2 : g < length (set ms g true) = omega arith in (
              subst (λ (y : ℕ). y < length (set ms g true)) (sym here) lt2,
              subst (λ (y : ℕ). get_or (set ms g true) y false ≡ true) (sym here) (get_or-set_same ms g true false lt),
            )
        | inr n ↦
            let same : get_or (set qs tail g) j 0 ≡ get_or qs j 0 = get_or-set_other qs tail j g 0 n in
            let old = q.queued j (omega arith) in (
              subst (λ (y : ℕ). y < length (set ms g true)) (sym same) (let o = old.0 in omega arith),
              subst (λ (y : ℕ). get_or (set ms g true) y false ≡ true) (sym same) (set-kept ms g (get_or qs j 0) old.1),
            )
      ];
      marked = λ x h. elim (cases_eq x g) [
        | inl s ↦ (tail, omega arith, get_or-set_same qs tail g 0 room ∙ sym s)
        | inr n ↦
            let old = q.marked x (sym (get_or-set_other ms g x true false n) ∙ h) in
            let lt2 : old.0 < tail = old.1 in
            (old.0, omega arith, get_or-set_other qs tail old.0 g 0 (λ s. absurd (omega arith)) ∙ old.2)
      ];
    }

IsMet-later : (allowed ms ms2 : List Bool) (f f2 : Option ℕ) (n : GateNode) → ((g : ℕ) → get_or ms g false ≡ true → get_or ms2 g false ≡ true) → ((i : ℕ) → IsFoundBy f i → IsFoundBy f2 i) → IsMet allowed ms f n → IsMet allowed ms2 f2 n
IsMet-later allowed ms ms2 f f2 falsum m k h = tt
IsMet-later allowed ms ms2 f f2 (input_at i) m k h = elim h [ inl a ↦ inl a | inr b ↦ inr (k i b) ]
IsMet-later allowed ms ms2 f f2 (gate_at g) m k h = m g h

pub explore-none : (gates : List (ℕ × ℕ)) (l : ℕ) (allowed ms ms2 : List Bool) (qs2 : List ℕ) (tail : ℕ) (f2 : Option ℕ) → ((g : ℕ) → get_or ms g false ≡ false) → IsMeeting allowed ms None (operand_of l).node ms2 f2 → IsQueue ms2 qs2 tail → IsExploring gates l allowed ms2 qs2 tail f2 0
explore-none gates l allowed ms ms2 qs2 tail f2 un m q = record {
  rows = q;
  in_cone = λ g h. elim (m.only_mark g h) [
    | inl a ↦ absurd (both_ways (get_or ms g false) (un g) a)
    | inr b ↦ subst (IsInCone gates l) b root
  ];
  strange = λ i h. elim (m.only_found i h) [
    | inl a ↦ absurd (cc)
    | inr b ↦ (subst (IsInCone gates l) b.0 root, b.1)
  ];
  start = m.met;
  done = λ j h. absurd (omega arith);
  order = omega arith;
}

pub explore-meet : (gates : List (ℕ × ℕ)) (l : ℕ) (allowed ms ms2 : List Bool) (qs qs2 : List ℕ) (tail tail2 : ℕ) (f f2 : Option ℕ) (head : ℕ) (n : GateNode) → IsExploring gates l allowed ms qs tail f head → IsInCone gates l n → IsMeeting allowed ms f n ms2 f2 → IsQueue ms2 qs2 tail2 → ((j : ℕ) → j < tail → get_or qs2 j 0 ≡ get_or qs j 0) → tail ≤ tail2 → IsExploring gates l allowed ms2 qs2 tail2 f2 head
explore-meet gates l allowed ms ms2 qs qs2 tail tail2 f f2 head n x c m q front le = record {
  rows = q;
  in_cone = λ g h. elim (m.only_mark g h) [
    | inl a ↦ x.in_cone g a
    | inr b ↦ subst (IsInCone gates l) b c
  ];
  strange = λ i h. elim (m.only_found i h) [
    | inl a ↦ x.strange i a
    | inr b ↦ (subst (IsInCone gates l) b.0 c, b.1)
  ];
  start = IsMet-later allowed ms ms2 f f2 (operand_of l).node m.marks_kept m.found_kept x.start;
  done = λ j h.
      let o : head ≤ tail = x.order in
      let d = x.done j h in
      let e = front j (omega arith) in
      let p : ℕ × ℕ = pair_at gates (get_or qs j 0) in
      let d2 : IsDone allowed ms2 f2 p = (IsMet-later allowed ms ms2 f f2 (operand_of p.0).node m.marks_kept m.found_kept d.0, IsMet-later allowed ms ms2 f f2 (operand_of p.1).node m.marks_kept m.found_kept d.1) in
      subst (λ (g : ℕ). IsDone allowed ms2 f2 (pair_at gates g)) (sym e) d2;
  order = let o : head ≤ tail = x.order in omega arith;
}

pub explore-more : (gates : List (ℕ × ℕ)) (l : ℕ) (allowed ms : List Bool) (qs : List ℕ) (tail : ℕ) (f : Option ℕ) (head : ℕ) → IsExploring gates l allowed ms qs tail f head → head < tail → IsDone allowed ms f (pair_at gates (get_or qs head 0)) → IsExploring gates l allowed ms qs tail f (head + 1)
explore-more gates l allowed ms qs tail f head x lt d = record {
  rows = x.rows;
  in_cone = x.in_cone;
  strange = x.strange;
  start = x.start;
  done = λ j h. elim (cases_eq j head) [
    | inl e ↦ subst (λ (i : ℕ). IsDone allowed ms f (pair_at gates (get_or qs i 0))) (sym e) d
    | inr n ↦ x.done j (omega arith)
  ];
  order = omega arith;
}

-- all that is in the cone was met
cone-met : (gates : List (ℕ × ℕ)) (l : ℕ) (allowed ms : List Bool) (qs : List ℕ) (tail : ℕ) (f : Option ℕ) → IsExploring gates l allowed ms qs tail f tail → (n : GateNode) → IsInCone gates l n → IsMet allowed ms f n
cone-met gates l allowed ms qs tail f x n root = x.start
cone-met gates l allowed ms qs tail f x n (left g h) =
    let m : get_or ms g false ≡ true = cone-met gates l allowed ms qs tail f x (gate_at g) h in
    let r = x.rows.marked g m in
    let d = x.done r.0 r.1 in
    subst (λ (i : ℕ). IsMet allowed ms f (operand_of (pair_at gates i).0).node) r.2 d.0
cone-met gates l allowed ms qs tail f x n (right g h) =
    let m : get_or ms g false ≡ true = cone-met gates l allowed ms qs tail f x (gate_at g) h in
    let r = x.rows.marked g m in
    let d = x.done r.0 r.1 in
    subst (λ (i : ℕ). IsMet allowed ms f (operand_of (pair_at gates i).1).node) r.2 d.1

pub explored : (gates : List (ℕ × ℕ)) (l : ℕ) (allowed ms : List Bool) (qs : List ℕ) (tail : ℕ) (f : Option ℕ) → IsExploring gates l allowed ms qs tail f tail → IsSearched gates l allowed f
explored gates l allowed ms qs tail None x = λ i h.
    let m : IsMet allowed ms None (input_at i) = cone-met gates l allowed ms qs tail None x (input_at i) h in
    elim m [ inl a ↦ a | inr b ↦ absurd b ]
explored gates l allowed ms qs tail (Some f) x = record {
  in_cone = (x.strange f refl).0;
  strange = (x.strange f refl).1;
  first = λ j lt h.
      let m : IsMet allowed ms (Some f) (input_at j) = cone-met gates l allowed ms qs tail (Some f) x (input_at j) h in
      elim m [ inl a ↦ a | inr b ↦ absurd (let c : f ≤ j = b in omega arith) ];
}

pub left-more : (ms : List Bool) (qs : List ℕ) (tail j : ℕ) → AreLeft ms qs tail j → AreLeft (set ms (get_or qs j 0) false) qs tail (j + 1)
left-more ms qs tail j h g e = elim (cases_eq g (get_or qs j 0)) [
  | inl s ↦ elim (cases_lt g (length ms)) [
    | inl a ↦
        let here : get_or (set ms (get_or qs j 0) false) g false ≡ false = subst (λ (y : ℕ). get_or (set ms y false) g false ≡ false) s (get_or-set_same ms g false false a) in
        absurd (both_ways _ here e)
    | inr a ↦
        let l = length-set ms (get_or qs j 0) false in
        absurd (both_ways _ (get_or_past (set ms (get_or qs j 0) false) g false (omega arith)) e)
  ]
  | inr n ↦
      let r = h g (sym (get_or-set_other ms (get_or qs j 0) g false false n) ∙ e) in
      let a : j ≤ r.0 = r.1 in
      elim (cases_eq r.0 j) [
        | inl q ↦ absurd (n (sym r.3 ∙ ap (λ (i : ℕ). get_or qs i 0) q))
        | inr q ↦ (r.0, omega arith, r.2, r.3)
      ]
]

pub left-none : (ms : List Bool) (qs : List ℕ) (tail : ℕ) → AreLeft ms qs tail tail → (g : ℕ) → get_or ms g false ≡ false
left-none ms qs tail h g = elim (cases_Bool (get_or ms g false)) [
  | inl e ↦ absurd (let r = h g e in let a : tail ≤ r.0 = r.1 in let b : r.0 < tail = r.2 in omega arith)
  | inr e ↦ e
]

pub queue-tail : (ms : List Bool) (qs : List ℕ) (tail : ℕ) → IsQueue ms qs tail → tail ≤ length qs
queue-tail ms qs tail q =
    let r : length qs ≡ length ms = q.room in
    let c : tail ≡ marked_count ms = q.count in
    let le = count-le ms in
    omega arith

pub turn-there : (n : ℕ) (gates : List (ℕ × ℕ)) (ms : List Bool) (qs : List ℕ) (tail head k : ℕ) → AreGates n 0 (map gate_of gates) → IsQueue ms qs tail → head < tail → length ms ≡ length gates → k ≡ length ms → IsThere n k (operand_of (pair_at gates (get_or qs head 0)).0).node × IsThere n k (operand_of (pair_at gates (get_or qs head 0)).1).node
turn-there n gates ms qs tail head k o q lt len e =
    let g : ℕ = get_or qs head 0 in
    let h : get_or qs head 0 < length ms = (q.queued head lt).0 in
    let r = part-there n (get_or qs head 0) gates o (omega arith) in (
      IsThere-more n (get_or qs head 0) n k (operand_of (pair_at gates (get_or qs head 0)).0).node r.0 (omega arith) (omega arith),
      IsThere-more n (get_or qs head 0) n k (operand_of (pair_at gates (get_or qs head 0)).1).node r.1 (omega arith) (omega arith),
    )

pub explore-turn : (gates : List (ℕ × ℕ)) (l : ℕ) (allowed ms ms1 ms2 : List Bool) (qs qs1 qs2 : List ℕ) (tail tail1 tail2 : ℕ) (f f1 f2 : Option ℕ) (head : ℕ) → IsExploring gates l allowed ms qs tail f head → head < tail →
    IsMeeting allowed ms f (operand_of (pair_at gates (get_or qs head 0)).0).node ms1 f1 → IsQueue ms1 qs1 tail1 → ((j : ℕ) → j < tail → get_or qs1 j 0 ≡ get_or qs j 0) → tail ≤ tail1 →
    IsMeeting allowed ms1 f1 (operand_of (pair_at gates (get_or qs head 0)).1).node ms2 f2 → IsQueue ms2 qs2 tail2 → ((j : ℕ) → j < tail1 → get_or qs2 j 0 ≡ get_or qs1 j 0) → tail1 ≤ tail2 →
    IsExploring gates l allowed ms2 qs2 tail2 f2 (head + 1)
explore-turn gates l allowed ms ms1 ms2 qs qs1 qs2 tail tail1 tail2 f f1 f2 head x lt m1 q1 e1 le1 m2 q2 e2 le2 =
    let h : IsInCone gates l (gate_at (get_or qs head 0)) = x.in_cone (get_or qs head 0) (x.rows.queued head lt).1 in
    let p : ℕ × ℕ = pair_at gates (get_or qs head 0) in
    let y = explore-meet gates l allowed ms ms1 qs qs1 tail tail1 f f1 head (operand_of p.0).node x (left (get_or qs head 0) h) m1 q1 e1 le1 in
    let z = explore-meet gates l allowed ms1 ms2 qs1 qs2 tail1 tail2 f1 f2 head (operand_of p.1).node y (right (get_or qs head 0) h) m2 q2 e2 le2 in
    let same : get_or qs2 head 0 ≡ get_or qs head 0 = e2 head (omega arith) ∙ e1 head lt in
    let d : IsDone allowed ms2 f2 p = (IsMet-later allowed ms1 ms2 f1 f2 (operand_of p.0).node m2.marks_kept m2.found_kept m1.met, m2.met) in
    explore-more gates l allowed ms2 qs2 tail2 f2 head z (omega arith) (subst (λ (g : ℕ). IsDone allowed ms2 f2 (pair_at gates g)) (sym same) d)

pub left-start : (ms : List Bool) (qs : List ℕ) (tail : ℕ) → IsQueue ms qs tail → AreLeft ms qs tail 0
left-start ms qs tail q g h = let r = q.marked g h in (r.0, omega arith, r.1, r.2)
