-- What all dependents tells of an expansion.
use Rattle.std.proofs.Common.{◌≡◌, ◌⊎◌, ◌≤◌, ◌+◌, ℕ, zero, suc, Bool, true, false, not, cond, ◌&&◌, List, [], ◌∷◌, length, Some, refl, sym, ◌∙◌, ap, subst, inl, inr, arith, length-append}
use Rattle.q_logic.specs.Prelude.{Literal, negation, Clause, Matrix, IsIn, is_universal, has_variable, positive, literals_in, has, with_literal, OccursIn, size_of, standard, greatest, IsInLimits, slot, live, clauses_of, shares, expansion_vars, touched_neither, Expandable, expand_universal, change}
use Rattle.q_logic.proofs.Common.{weight, has-IsIn, IsIn-has, has_variable-IsIn, Once, next-once, expansion_vars-fixed, expansion_vars-inner, all_inner, all_e, above-greatest}
use Rattle.q_logic.proofs.LeastClosure.{expansion_vars-least}
use Rattle.q_logic.proofs.ExpandPrefix.{AllE, below}
use Rattle.q_logic.proofs.ExpandLinks.{minus}
use Rattle.q_logic.proofs.HintChains.{live-number}
use Rattle.q_kernel.specs.Lists.{Has}
use Rattle.q_kernel.specs.Prelude.{holders_of, Seen, slots, IsSound, formula_in}
use Rattle.q_kernel.proofs.TextCosts.{proper-in_order}
use Rattle.q_kernel.proofs.SlotLists.{size-parts}
use Rattle.q_expand.specs.Dependents.{Walked, tally, IsWhole}
use Rattle.q_expand.proofs.ClauseWeights.{tally-all}
use Rattle.q_expand.proofs.HolderIds.{holders-counted}
use Rattle.q_expand.proofs.ExpansionBounds.{has-in_list, once-apart, within-length, vars_of, vars-length, has-vars, vars-apart, shares-connected, variable-connected, if_neither, long, neither-size, neither-number, tally-neither, vars-within}
use Rattle.q_expand.proofs.ExpansionSizes.{greatest-all, expanded-clauses, expanded-lits}

pub own-counted : (k : Seen) (u : Literal) → u.negative ≡ false → IsSound k → length (holders_of k u) + length (holders_of k (negation u)) ≡ length (clauses_of u.var (live (slots k)))
own-counted k u s h =
    let e : u ≡ positive u.var = λ i. record { var = u.var; negative = s i } in
    let a : length (holders_of k u) ≡ length (with_literal (positive u.var) (live (slots k))) = holders-counted k u h ∙ ap (λ (l : Literal). length (with_literal l (live (slots k)))) e in
    let b : length (holders_of k (negation u)) ≡ length (with_literal (minus u.var) (live (slots k))) = holders-counted k (negation u) h ∙ ap (λ (l : Literal). length (with_literal (negation l) (live (slots k)))) e in
    let c = length-append (with_literal (positive u.var) (live (slots k))) (with_literal (minus u.var) (live (slots k))) in
    omega arith

with-occurs : (l : Literal) (X : Matrix) → 1 ≤ length (with_literal l X) → OccursIn l X
with-occurs l [] h = absurd (omega arith)
with-occurs l (D ∷ X) h = go (has l D) refl (with-occurs l X) h
  where
    go : (b : Bool) → has l D ≡ b → (1 ≤ length (with_literal l X) → OccursIn l X) → 1 ≤ length (cond b (D ∷ with_literal l X) (with_literal l X)) → OccursIn l (D ∷ X)
    go true e i h = (D, inl refl, has-IsIn l D e)
    go false e i h = let r = i h in (r.0, inr r.1, r.2)

occurs-with : (l : Literal) (X : Matrix) (D : Clause) → IsIn D X → IsIn l D → 1 ≤ length (with_literal l X)
occurs-with l [] D m i = absurd m
occurs-with l (E ∷ X) D (inl e) i = let h : has l E ≡ true = IsIn-has l E (subst (λ (x : Clause). IsIn l x) e i) in rw h (omega arith)
occurs-with l (E ∷ X) D (inr m) i = go (has l E) (occurs-with l X D m i)
  where
    go : (b : Bool) → 1 ≤ length (with_literal l X) → 1 ≤ length (cond b (E ∷ with_literal l X) (with_literal l X))
    go true h = omega arith
    go false h = h

own-occurs : (u : ℕ) (X : Matrix) → 1 ≤ length (clauses_of u X) → OccursIn (positive u) X ⊎ OccursIn (minus u) X
own-occurs u X h = go (length (with_literal (positive u) X)) refl
  where
    go : (n : ℕ) → length (with_literal (positive u) X) ≡ n → OccursIn (positive u) X ⊎ OccursIn (minus u) X
    go zero e = inr (with-occurs (minus u) X (let a = length-append (with_literal (positive u) X) (with_literal (minus u) X) in omega arith))
    go (suc n) e = inl (with-occurs (positive u) X (omega arith))

pub occurs-own : (u : ℕ) (X : Matrix) → OccursIn (positive u) X ⊎ OccursIn (minus u) X → 1 ≤ length (clauses_of u X)
occurs-own u X (inl o) = let a = length-append (with_literal (positive u) X) (with_literal (minus u) X) in let b = occurs-with (positive u) X o.0 o.1 o.2 in omega arith
occurs-own u X (inr o) = let a = length-append (with_literal (positive u) X) (with_literal (minus u) X) in let b = occurs-with (minus u) X o.0 o.1 o.2 in omega arith

module _ (k : Seen) (u : ℕ) (r : Walked) (s : IsSound k) (w : IsWhole k u r) where
  V : List ℕ
  V = expansion_vars k.prefix (live (slots k)) u

  pub vars-number : length r.vars ≡ length (expansion_vars k.prefix (live (slots k)) u)
  vars-number =
      let d = s.proper.formula.distinct in
      let X = live (slots k) in
      let o = once-apart (expansion_vars k.prefix X u) (subst Once (expansion_vars-fixed k.prefix X u) (next-once k.prefix k.prefix X u (expansion_vars k.prefix X u) d)) in
      let i = within-length (expansion_vars k.prefix X u) (vars_of r.vars) o (vars-apart r.vars (λ j m. (w.dependents.linked j m).0) w.dependents.lone)
      (λ v m. has-vars r.vars (positive v) (w.all_vars v ((expansion_vars-least k.prefix X u v).0 (has-in_list v (expansion_vars k.prefix X u) m)))) in
      let e = vars-length r.vars in
      let j = vars-within k u r w.dependents d in
      omega arith

  tally-whole : (f : Clause → ℕ) → tally (λ C. cond (has_variable u C) 0 (f C)) (slots k) r.met ≡ weight (if_neither f u (expansion_vars k.prefix (live (slots k)) u)) (live (slots k))
  tally-whole f = tally-neither k u r w.dependents f ∙ tally-all (if_neither f u (expansion_vars k.prefix (live (slots k)) u)) r.met (slots k) w.dependents.apart rest
    where
      rest : (c : ℕ) (C : Clause) → slot (slots k) c ≡ Some C → (Has r.met c → ⊥) → if_neither f u (expansion_vars k.prefix (live (slots k)) u) C ≡ 0
      rest c C e n = go (has_variable u C) (shares (expansion_vars k.prefix (live (slots k)) u) C) refl
        where
          go : (a b : Bool) → shares (expansion_vars k.prefix (live (slots k)) u) C ≡ b → cond (not a && b) (f C) 0 ≡ 0
          go true b q = refl
          go false false q = refl
          go false true q = absurd (n (w.all_met c C e (shares-connected k.prefix (live (slots k)) u C q)))

  pub size-whole : r.size ≡ size_of (touched_neither u (expansion_vars k.prefix (live (slots k)) u) (live (slots k)))
  size-whole = w.dependents.size ∙ (tally-whole long ∙ neither-size u (expansion_vars k.prefix (live (slots k)) u) (live (slots k)))

  pub others-whole : r.others ≡ length (touched_neither u (expansion_vars k.prefix (live (slots k)) u) (live (slots k)))
  others-whole = w.dependents.others ∙ (tally-whole (λ C. 1) ∙ neither-number u (expansion_vars k.prefix (live (slots k)) u) (live (slots k)))

  -- no clause holds u and its negation
  pub clean-whole : (D : Clause) → IsIn D (live (slots k)) → IsIn (positive u) D → IsIn (minus u) D → ⊥
  clean-whole D m p n =
      let c = live-number (slots k) D m in
      w.dependents.clean c.0 D (w.all_met c.0 D c.1 (variable-connected k.prefix (live (slots k)) u D (has_variable-IsIn D (positive u) p))) c.1 p n

  pub vars-existential : AllE k.prefix (expansion_vars k.prefix (live (slots k)) u)
  vars-existential = all_e k.prefix u (expansion_vars k.prefix (live (slots k)) u) (all_inner k.prefix u (expansion_vars k.prefix (live (slots k)) u) (expansion_vars-inner k.prefix (live (slots k)) u))

  pub change-vars : greatest (change k.prefix (slots k) (expand_universal u)).prefix ≡ greatest k.prefix + length r.vars
  change-vars = greatest-all (expansion_vars k.prefix (live (slots k)) u) (greatest k.prefix) k.prefix vars-existential (above-greatest k.prefix) refl ∙ ap (λ (n : ℕ). greatest k.prefix + n) (sym vars-number)

  pub change-clauses : length (change k.prefix (slots k) (expand_universal u)).matrix ≡ length (live (slots k)) + r.others
  change-clauses = expanded-clauses u (expansion_vars k.prefix (live (slots k)) u) (greatest k.prefix + 1) (live (slots k)) ∙ ap (λ (n : ℕ). length (live (slots k)) + n) (sym others-whole)

  pub change-lits : literals_in (change k.prefix (slots k) (expand_universal u)).matrix + length (clauses_of u (live (slots k))) + r.others + length (live (slots k)) ≡ size_of (live (slots k)) + r.size
  change-lits =
      let X = live (slots k) in
      let T = touched_neither u (expansion_vars k.prefix X u) X in
      let e = expanded-lits u (expansion_vars k.prefix X u) (greatest k.prefix + 1) X both (λ D m. proper-in_order (formula_in k) D s.proper m) (λ D m i j. below k.prefix (greatest k.prefix + 1) i.var (above-greatest k.prefix) (s.proper.formula.closed D m i j)) in
      let a = size-parts X in
      let b = size-parts T in
      let c = size-whole in
      let d = others-whole in
      omega arith
    where
      both : (D : Clause) → IsIn D (live (slots k)) → has (positive u) D ≡ true → has (minus u) D ≡ false
      both D m p = go (has (minus u) D) refl
        where
          go : (b : Bool) → has (minus u) D ≡ b → b ≡ false
          go true q = absurd (clean-whole D m (has-IsIn (positive u) D p) (has-IsIn (minus u) D q))
          go false q = refl

  pub limits-hold : greatest k.prefix + length r.vars ≤ 16777215 → length (live (slots k)) + r.others ≤ 33554432 → size_of (live (slots k)) + r.size ≤ 134217728 + (length (live (slots k)) + r.others) + length (clauses_of u (live (slots k)))
      → IsInLimits standard (change k.prefix (slots k) (expand_universal u))
  limits-hold a b c = record {
    vars = subst (λ (n : ℕ). n ≤ 16777215) (sym change-vars) a;
    clauses = subst (λ (n : ℕ). n ≤ 33554432) (sym change-clauses) b;
    lits = most (literals_in (change k.prefix (slots k) (expand_universal u)).matrix) (length (clauses_of u (live (slots k)))) r.others (length (live (slots k))) (size_of (live (slots k)) + r.size) change-lits c;
  }
    where
      most : (l n o m s : ℕ) → l + n + o + m ≡ s → s ≤ 134217728 + (m + o) + n → l ≤ 134217728
      most l n o m s e h = omega arith

  pub limits-told : IsInLimits standard (change k.prefix (slots k) (expand_universal u))
      → (greatest k.prefix + length r.vars ≤ 16777215) × (length (live (slots k)) + r.others ≤ 33554432) × (size_of (live (slots k)) + r.size ≤ 134217728 + (length (live (slots k)) + r.others) + length (clauses_of u (live (slots k))))
  limits-told h = (
    subst (λ (n : ℕ). n ≤ 16777215) change-vars h.vars,
    subst (λ (n : ℕ). n ≤ 33554432) change-clauses h.clauses,
    most (literals_in (change k.prefix (slots k) (expand_universal u)).matrix) (length (clauses_of u (live (slots k)))) r.others (length (live (slots k))) (size_of (live (slots k)) + r.size) change-lits h.lits,
  )
    where
      most : (l n o m s : ℕ) → l + n + o + m ≡ s → l ≤ 134217728 → s ≤ 134217728 + (m + o) + n
      most l n o m s e h = omega arith

  pub whole-expandable : (expand : ℕ) → is_universal k.prefix u ≡ true → 1 ≤ length (clauses_of u (live (slots k))) → length r.vars ≤ expand → r.size ≤ expand + length (clauses_of u (live (slots k))) → Expandable expand k.prefix (live (slots k)) u
  whole-expandable expand t o f m = record {
    universal = t;
    occurs = own-occurs u (live (slots k)) o;
    no_tautology = clean-whole;
    few = subst (λ (n : ℕ). n ≤ expand) vars-number f;
    small = subst (λ (n : ℕ). n ≤ expand + length (clauses_of u (live (slots k)))) size-whole m;
  }
