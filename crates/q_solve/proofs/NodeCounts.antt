-- What the counts of the clauses say of a node.
use Rattle.std.proofs.Common.{◌≡◌, ℕ, suc, ◌+◌, Bool, true, false, cond, not, ◌&&◌, ◌||◌, eqb, List, [], ◌∷◌, refl, sym, ap, ◌∙◌, arith}
use Rattle.q_logic.specs.Prelude.{Literal, negation, literal_eq, Clause, Matrix, Prefix, is_bound, is_universal, Assignment, literal_true, has, is_tautology, worse}
use Rattle.q_logic.specs.declared.verdict.Verdict.{Verdict}
use Rattle.q_logic.specs.declared.verdict.Verdict.TheVariants.{Lost, Won, Open}
use Rattle.q_logic.specs.declared.verdict.Standing.{Standing}
use Rattle.q_logic.specs.declared.verdict.Standing.TheVariants.{True, False, Chosen, Free}
use Rattle.q_logic.specs.Decisions.{standing, is_true, is_hopeless, has_true, all_hopeless, both_signs, clause_verdict, verdict}
use Rattle.q_logic.proofs.Common.{literal_eq-sound}
use Rattle.q_solve.proofs.CountChanges.{none-and}
use Rattle.q_solve.specs.declared.counts.Count.{Count}
use Rattle.q_solve.specs.Counting.{if_so, is_chosen, how_many, count_of, is_untrue, is_lost, number_of, verdict_of, AreCounts}

some-and : (n : ℕ) → eqb (1 + n) 0 ≡ false
some-and n = grind arith

-- a clause has a true literal where some are counted
has-counted : (P : Prefix) (A : Assignment) (C : Clause) → has_true P A C ≡ not (eqb (how_many is_true (standing P A) C) 0)
has-counted P A [] = refl
has-counted P A (k ∷ C) = go (is_true (standing P A k)) (has-counted P A C)
  where
    go : (b : Bool) → has_true P A C ≡ not (eqb (how_many is_true (standing P A) C) 0) → b || has_true P A C ≡ not (eqb (if_so b 1 + how_many is_true (standing P A) C) 0)
    go true h = ap not (sym (some-and (how_many is_true (standing P A) C)))
    go false h = h ∙ ap (λ (n : ℕ). not (eqb n 0)) (sym (none-and (how_many is_true (standing P A) C)))

-- without one it is hopeless where no choice is counted
hopeless-counted : (P : Prefix) (A : Assignment) (C : Clause) → has_true P A C ≡ false → all_hopeless P A C ≡ eqb (how_many is_chosen (standing P A) C) 0
hopeless-counted P A [] e = refl
hopeless-counted P A (k ∷ C) e = go (standing P A k) e (hopeless-counted P A C)
  where
    go : (s : Standing) → is_true s || has_true P A C ≡ false → (has_true P A C ≡ false → all_hopeless P A C ≡ eqb (how_many is_chosen (standing P A) C) 0) →
        is_hopeless s && all_hopeless P A C ≡ eqb (if_so (is_chosen s) 1 + how_many is_chosen (standing P A) C) 0
    go True e h = absurd (cc)
    go False e h = h e ∙ ap (λ (n : ℕ). eqb n 0) (sym (none-and (how_many is_chosen (standing P A) C)))
    go Chosen e h = sym (some-and (how_many is_chosen (standing P A) C))
    go Free e h = h e ∙ ap (λ (n : ℕ). eqb n 0) (sym (none-and (how_many is_chosen (standing P A) C)))

-- a clause that holds a true literal has one
has-member : (P : Prefix) (A : Assignment) (l : Literal) (C : Clause) → has l C ≡ true → is_true (standing P A l) ≡ true → has_true P A C ≡ true
has-member P A l [] h t = absurd (cc)
has-member P A l (k ∷ C) h t = go (literal_eq k l) refl h (has-member P A l C)
  where
    go : (b : Bool) → literal_eq k l ≡ b → b || has l C ≡ true → (has l C ≡ true → is_true (standing P A l) ≡ true → has_true P A C ≡ true) → is_true (standing P A k) || has_true P A C ≡ true
    go true e h f = ap (λ (j : Literal). is_true (standing P A j) || has_true P A C) (literal_eq-sound k l e) ∙ ap (λ (b : Bool). b || has_true P A C) t
    go false e h f = ap (λ (b : Bool). is_true (standing P A k) || b) (f h t) ∙ last (is_true (standing P A k))
      where
        last : (b : Bool) → b || true ≡ true
        last true = refl
        last false = refl

-- the negation of a false literal is true
false-negation : (P : Prefix) (A : Assignment) (k : Literal) → is_bound P k.var ≡ false → is_true (standing P A k) ≡ false → is_true (standing P A (negation k)) ≡ true
false-negation P A k b f =
    let e : standing P A k ≡ cond (literal_true A k) True False = ap (λ (x : Bool). cond x (cond (is_universal P k.var) Free Chosen) (cond (literal_true A k) True False)) b in
    let d : standing P A (negation k) ≡ cond (literal_true A (negation k)) True False = ap (λ (x : Bool). cond x (cond (is_universal P k.var) Free Chosen) (cond (literal_true A (negation k)) True False)) b in
    ap is_true d ∙ go k.negative (A k.var) (sym (ap is_true e) ∙ f)
  where
    go : (n v : Bool) → is_true (cond (literal_true (λ x. v) (record { var = k.var; negative = n })) True False) ≡ false → is_true (cond (literal_true (λ x. v) (record { var = k.var; negative = not n })) True False) ≡ true
    go true true h = refl
    go true false h = absurd (cc)
    go false true h = absurd (cc)
    go false false h = refl

-- without a true literal, a variable in both signs has no value
both-counted : (P : Prefix) (A : Assignment) (C : Clause) → has_true P A C ≡ false → both_signs P C ≡ is_tautology C
both-counted P A [] e = refl
both-counted P A (k ∷ C) e = go (is_bound P k.var) refl (is_true (standing P A k)) refl e (both-counted P A C)
  where
    go : (b : Bool) → is_bound P k.var ≡ b → (t : Bool) → is_true (standing P A k) ≡ t → t || has_true P A C ≡ false →
        (has_true P A C ≡ false → both_signs P C ≡ is_tautology C) → (b && has (negation k) C) || both_signs P C ≡ has (negation k) C || is_tautology C
    go b z true y e f = absurd (cc)
    go true z false y e f = ap (λ (x : Bool). has (negation k) C || x) (f e)
    go false z false y e f = f e ∙ ap (λ (x : Bool). x || is_tautology C) (sym (none (has (negation k) C) refl))
      where
        none : (x : Bool) → has (negation k) C ≡ x → x ≡ false
        none false h = refl
        none true h = absurd (let t = has-member P A (negation k) C h (false-negation P A k z y) in cc)

-- what a count says of its clause
abbrev told : Count → Verdict
told c = cond (is_untrue c) (cond (is_lost c) Lost Open) Won

clause-counted : (P : Prefix) (A : Assignment) (C : Clause) → clause_verdict P A C ≡ told (count_of (standing P A) C)
clause-counted P A C = go (has_true P A C) refl (eqb (how_many is_true (standing P A) C) 0) (has-counted P A C)
  where
    go : (b : Bool) → has_true P A C ≡ b → (z : Bool) → has_true P A C ≡ not z →
        cond b Won (cond (all_hopeless P A C && not (both_signs P C)) Lost Open)
        ≡ cond z (cond (not (is_tautology C) && (z && eqb (how_many is_chosen (standing P A) C) 0)) Lost Open) Won
    go true e true f = absurd (cc)
    go false e false f = absurd (cc)
    go true e false f = refl
    go false e true f = last (all_hopeless P A C) (eqb (how_many is_chosen (standing P A) C) 0) (both_signs P C) (is_tautology C) (hopeless-counted P A C e) (both-counted P A C e)
      where
        last : (h o s t : Bool) → h ≡ o → s ≡ t → cond (h && not s) Lost Open ≡ cond (not t && (true && o)) Lost Open
        last true true true true p q = refl
        last true true false false p q = refl
        last false false true true p q = refl
        last false false false false p q = refl
        last true false s t p q = absurd (cc)
        last false true s t p q = absurd (cc)
        last true true true false p q = absurd (cc)
        last true true false true p q = absurd (cc)
        last false false true false p q = absurd (cc)
        last false false false true p q = absurd (cc)

abbrev by-numbers : ℕ → ℕ → Verdict
by-numbers m n = cond (eqb m 0) (cond (eqb n 0) Won Open) Lost

row-told : (c : Count) (row : List Count) → verdict_of (c ∷ row) ≡ worse (told c) (verdict_of row)
row-told c row = go (eqb c.trues 0) (eqb c.opens 0) c.both (number_of is_lost row) (number_of is_untrue row)
  where
    zero-lost : (t : Bool) (m n : ℕ) → by-numbers (0 + m) (if_so t 1 + n) ≡ by-numbers m (if_so t 1 + n)
    zero-lost t m n = ap (λ (k : ℕ). by-numbers k (if_so t 1 + n)) (none-and m)

    zero-both : (m n : ℕ) → by-numbers (0 + m) (0 + n) ≡ by-numbers m n
    zero-both m n = ap (λ (k : ℕ). by-numbers k (0 + n)) (none-and m) ∙ ap (λ (k : ℕ). by-numbers m k) (none-and n)

    opened : (m n : ℕ) → by-numbers m (1 + n) ≡ worse Open (by-numbers m n)
    opened m n = ap (λ (b : Bool). cond (eqb m 0) (cond b Won Open) Lost) (some-and n) ∙ last (eqb m 0) (eqb n 0)
      where
        last : (b d : Bool) → cond b Open Lost ≡ worse Open (cond b (cond d Won Open) Lost)
        last true true = refl
        last true false = refl
        last false d = refl

    lost : (m n : ℕ) → by-numbers (1 + m) (1 + n) ≡ Lost
    lost m n = ap (λ (b : Bool). cond b (cond (eqb (1 + n) 0) Won Open) Lost) (some-and m)

    go : (t o b : Bool) (m n : ℕ) →
        by-numbers (if_so (not b && (t && o)) 1 + m) (if_so t 1 + n) ≡ worse (cond t (cond (not b && (t && o)) Lost Open) Won) (by-numbers m n)
    go true true false m n = lost m n
    go true true true m n = zero-lost true m n ∙ opened m n
    go true false false m n = zero-lost true m n ∙ opened m n
    go true false true m n = zero-lost true m n ∙ opened m n
    go false true false m n = zero-both m n
    go false true true m n = zero-both m n
    go false false false m n = zero-both m n
    go false false true m n = zero-both m n

-- a lost clause loses the node, and it is won if each clause has a true literal
pub counts-told : (P : Prefix) (A : Assignment) (X : Matrix) (row : List Count) → AreCounts X (standing P A) row → verdict X P A ≡ verdict_of row
counts-told P A [] [] h = refl
counts-told P A [] (c ∷ row) h = absurd (let e = h.as_many in omega arith)
counts-told P A (C ∷ X) [] h = absurd (let e = h.as_many in omega arith)
counts-told P A (C ∷ X) (c ∷ row) h =
    let here : c ≡ count_of (standing P A) C = h.each 0 in
    ap (λ (v : Verdict). worse v (verdict X P A)) (clause-counted P A C ∙ ap told (sym here))
    ∙ ap (worse (told c)) (counts-told P A X row (record { as_many = let e = h.as_many in omega arith; each = λ i. h.each (suc i) }))
    ∙ sym (row-told c row)
