-- The counts of all clauses, where what is known of one literal changes.
use Rattle.std.proofs.Common.{◌≡◌, ℕ, suc, ◌+◌, ◌<◌, ◌≤◌, Bool, true, false, cond, List, [], ◌∷◌, length, refl, sym, ap, ◌∙◌, subst, arith}
use Rattle.std.proofs.lemmas.List.{get_or_past}
use Rattle.q_logic.specs.Prelude.{Literal, literal_eq, Clause, Matrix, is_tautology}
use Rattle.q_logic.specs.declared.verdict.Standing.{Standing}
use Rattle.q_logic.specs.Decisions.{is_true}
use Rattle.q_logic.proofs.Common.{literal_eq-sound}
use Rattle.q_solve.proofs.CountChanges.{none-and}
use Rattle.q_solve.specs.declared.counts.Count.{Count}
use Rattle.q_solve.specs.Counting.{if_so, is_chosen, how_many, count_of, times_in, times, clause_at, count_at, changed, AreCounts, AreHolders, CanShift, IsShifted}

-- a literal that stands in a clause so often gives as much
many-changed : (w : Standing → Bool) (l : Literal) (s : Standing) (g : Literal → Standing) (C : Clause) →
    how_many w (changed l s g) C + if_so (w (g l)) (times_in l C) ≡ how_many w g C + if_so (w s) (times_in l C)
many-changed w l s g [] = go (w (g l)) (w s)
  where
    go : (a b : Bool) → 0 + if_so a 0 ≡ 0 + if_so b 0
    go true true = refl
    go true false = refl
    go false true = refl
    go false false = refl
many-changed w l s g (k ∷ C) = go (literal_eq k l) refl (many-changed w l s g C)
  where
    sum : (a b : Bool) (x y n : ℕ) → x + if_so a n ≡ y + if_so b n → (if_so b 1 + x) + if_so a (1 + n) ≡ (if_so a 1 + y) + if_so b (1 + n)
    sum true true x y n h = omega arith
    sum true false x y n h = omega arith
    sum false true x y n h = omega arith
    sum false false x y n h = omega arith

    go : (e : Bool) → literal_eq k l ≡ e → how_many w (changed l s g) C + if_so (w (g l)) (times_in l C) ≡ how_many w g C + if_so (w s) (times_in l C) →
        (if_so (w (cond e s (g k))) 1 + how_many w (changed l s g) C) + if_so (w (g l)) (if_so e 1 + times_in l C)
        ≡ (if_so (w (g k)) 1 + how_many w g C) + if_so (w s) (if_so e 1 + times_in l C)
    go true e h =
        subst (λ (j : Literal). (if_so (w s) 1 + how_many w (changed l s g) C) + if_so (w (g l)) (1 + times_in l C) ≡ (if_so (w (g j)) 1 + how_many w g C) + if_so (w s) (1 + times_in l C))
        (sym (literal_eq-sound k l e)) (sum (w (g l)) (w s) (how_many w (changed l s g) C) (how_many w g C) (times_in l C) h)
    go false e h =
        subst (λ (n : ℕ). (if_so (w (g k)) 1 + how_many w (changed l s g) C) + if_so (w (g l)) n ≡ (if_so (w (g k)) 1 + how_many w g C) + if_so (w s) n)
        (sym (none-and (times_in l C))) (omega arith)

many-there : (w : Standing → Bool) (l : Literal) (g : Literal → Standing) (C : Clause) → if_so (w (g l)) (times_in l C) ≤ how_many w g C
many-there w l g [] = go (w (g l))
  where
    go : (a : Bool) → if_so a 0 ≤ 0
    go true = omega arith
    go false = omega arith
many-there w l g (k ∷ C) = go (literal_eq k l) refl (many-there w l g C)
  where
    sum : (a : Bool) (x n : ℕ) → if_so a n ≤ x → if_so a (1 + n) ≤ if_so a 1 + x
    sum true x n h = omega arith
    sum false x n h = omega arith

    go : (e : Bool) → literal_eq k l ≡ e → if_so (w (g l)) (times_in l C) ≤ how_many w g C →
        if_so (w (g l)) (if_so e 1 + times_in l C) ≤ if_so (w (g k)) 1 + how_many w g C
    go true e h = subst (λ (j : Literal). if_so (w (g l)) (1 + times_in l C) ≤ if_so (w (g j)) 1 + how_many w g C) (sym (literal_eq-sound k l e)) (sum (w (g l)) (how_many w g C) (times_in l C) h)
    go false e h = subst (λ (n : ℕ). if_so (w (g l)) n ≤ if_so (w (g k)) 1 + how_many w g C) (sym (none-and (times_in l C))) (omega arith)

many-few : (w : Standing → Bool) (g : Literal → Standing) (C : Clause) → how_many w g C ≤ length C
many-few w g [] = omega arith
many-few w g (k ∷ C) = go (w (g k)) (many-few w g C)
  where
    go : (a : Bool) → how_many w g C ≤ length C → if_so a 1 + how_many w g C ≤ suc (length C)
    go true h = omega arith
    go false h = omega arith

-- what is known may be told in another way
many-same : (w : Standing → Bool) (g h : Literal → Standing) (C : Clause) → ((k : Literal) → g k ≡ h k) → how_many w g C ≡ how_many w h C
many-same w g h [] e = refl
many-same w g h (k ∷ C) e = ap (λ (s : Standing). if_so (w s) 1 + how_many w g C) (e k) ∙ ap (λ (n : ℕ). if_so (w (h k)) 1 + n) (many-same w g h C e)

pub counts-same : (X : Matrix) (g h : Literal → Standing) (row : List Count) → ((k : Literal) → g k ≡ h k) → AreCounts X g row → AreCounts X h row
counts-same X g h row e c = record {
  as_many = c.as_many;
  each = λ i.
      c.each i
      ∙ ap (λ (n : ℕ). record { trues = n; opens = how_many is_chosen g (clause_at X i); both = is_tautology (clause_at X i) }) (many-same is_true g h (clause_at X i) e)
      ∙ ap (λ (n : ℕ). record { trues = how_many is_true h (clause_at X i); opens = n; both = is_tautology (clause_at X i) }) (many-same is_chosen g h (clause_at X i) e);
}

module _ (X : Matrix) (g : Literal → Standing) (row : List Count) (l : Literal) (at' : List ℕ) (from to : Standing) (c : AreCounts X g row) (h : AreHolders X l at') (f : g l ≡ from) where
  can-move : (w : Standing → Bool) (n t : ℕ) (C : Clause) → length C < 18446744073709551616 → n ≡ times_in l C → t ≡ how_many w g C →
      (if_so (w from) n ≤ t) × (t < 18446744073709551616) × (t + if_so (w to) n < 18446744073709551616 + if_so (w from) n)
  can-move w n t C z a b =
      let there = many-there w l g C in
      let moved = many-changed w l to g C in
      let few = many-few w (changed l to g) C in
      let all = many-few w g C in
      rw (a, b, ← f) (there, omega arith, omega arith)

  pub can-shift : ((i : ℕ) → length (clause_at X i) < 18446744073709551616) → CanShift row at' from to
  can-shift z = record {
    there = λ i p. h i ∙ ap (times_in l) (get_or_past X i [] (let e = c.as_many in omega arith));
    each = λ i.
        let t = can-move is_true (times i at') (count_at row i).trues (clause_at X i) (z i) (h i) (ap (λ (x : Count). x.trues) (c.each i)) in
        let o = can-move is_chosen (times i at') (count_at row i).opens (clause_at X i) (z i) (h i) (ap (λ (x : Count). x.opens) (c.each i)) in
        record { trues = t.0; opens = o.0; trues_small = t.1; opens_small = o.1; trues_fit = t.2; opens_fit = o.2 };
  }

  shift-one : (w : Standing → Bool) (n t u : ℕ) (C : Clause) → n ≡ times_in l C → t ≡ how_many w g C → u + if_so (w from) n ≡ t + if_so (w to) n → u ≡ how_many w (changed l to g) C
  shift-one w n t u C a b e =
      let moved : how_many w (changed l to g) C + if_so (w from) n ≡ t + if_so (w to) n = rw (a, b, ← f) (many-changed w l to g C) in
      omega arith

  pub counts-shifted : (new : List Count) → IsShifted row new at' from to → AreCounts X (changed l to g) new
  counts-shifted new s = record {
    as_many = s.as_many ∙ c.as_many;
    each = λ i.
        let m = s.each i in
        let old : count_at row i ≡ count_of g (clause_at X i) = c.each i in
        let t : (count_at new i).trues ≡ how_many is_true (changed l to g) (clause_at X i) =
        shift-one is_true (times i at') (count_at row i).trues (count_at new i).trues (clause_at X i) (h i) (ap (λ (x : Count). x.trues) old) m.trues in
        let o : (count_at new i).opens ≡ how_many is_chosen (changed l to g) (clause_at X i) =
        shift-one is_chosen (times i at') (count_at row i).opens (count_at new i).opens (clause_at X i) (h i) (ap (λ (x : Count). x.opens) old) m.opens in
        let b : (count_at new i).both ≡ is_tautology (clause_at X i) = m.both ∙ ap (λ (x : Count). x.both) old in
        λ j. record { trues = t j; opens = o j; both = b j };
  }
