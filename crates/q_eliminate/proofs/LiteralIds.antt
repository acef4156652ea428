-- The clauses of some ids, and the ids of the clauses with a literal.
use Rattle.std.proofs.lemmas.List.Elements.{All-contains}
use Rattle.std.proofs.lemmas.Option.{none-some}
use Rattle.std.proofs.lemmas.Bool.{cases_eq}
use Rattle.std.proofs.Common.{◌≡◌, ◌+◌, ℕ, All, Contains, zero, suc, Bool, true, false, cond, List, [], ◌∷◌, length, get_or, Option, None, Some, inl, inr, arith, refl, sym, ap, ◌∙◌, subst}
use Rattle.q_logic.specs.Prelude.{Literal, Clause, Matrix, IsIn, clause_eq, copies, has, with_literal, without_literal, OccursIn, Slots, slot, set_slot, live, others, put_first, clauses_at}
use Rattle.q_logic.proofs.Common.{SameClauses, alike-refl, alike-trans, alike-sym, alike-cons, clause_eq-sound, slot-alike, has-IsIn, IsIn-has, live-gone, slot-set_other, slot-set_none}
use Rattle.q_logic.proofs.HintChains.{live-number}
use Rattle.q_kernel.specs.Prelude.{Seen, slots, HoldsLiteral, AreOnce, IsHolder}
use Rattle.q_kernel.proofs.DistinctMembers.{Contains-none, Contains-here, Contains-further, Contains-first}
use Rattle.q_eliminate.specs.Sides.{AreIdsOf}

-- Clauses with and without a literal, as collections.
copies-with : (l : Literal) (X : Matrix) (C : Clause) → copies C (with_literal l X) ≡ cond (has l C) (copies C X) 0
copies-with l [] C = go (has l C)
  where
    go : (b : Bool) → ◌≡◌ {A = ℕ} 0 (cond b 0 0)
    go true = refl
    go false = refl
copies-with l (D ∷ X) C = go (has l D) refl (clause_eq D C) refl (copies-with l X C)
  where
    go : (a : Bool) → has l D ≡ a → (e : Bool) → clause_eq D C ≡ e → copies C (with_literal l X) ≡ cond (has l C) (copies C X) 0 → copies C (with_literal l (D ∷ X)) ≡ cond (has l C) (copies C (D ∷ X)) 0
    go a p true q ih = let h : has l C ≡ has l D = sym (ap (has l) (clause_eq-sound D C q)) in grind arith
    go a p false q ih = grind arith

copies-without : (l : Literal) (X : Matrix) (C : Clause) → copies C (without_literal l X) ≡ cond (has l C) 0 (copies C X)
copies-without l [] C = go (has l C)
  where
    go : (b : Bool) → ◌≡◌ {A = ℕ} 0 (cond b 0 0)
    go true = refl
    go false = refl
copies-without l (D ∷ X) C = go (has l D) refl (clause_eq D C) refl (copies-without l X C)
  where
    go : (a : Bool) → has l D ≡ a → (e : Bool) → clause_eq D C ≡ e → copies C (without_literal l X) ≡ cond (has l C) 0 (copies C X) → copies C (without_literal l (D ∷ X)) ≡ cond (has l C) 0 (copies C (D ∷ X))
    go a p true q ih = let h : has l C ≡ has l D = sym (ap (has l) (clause_eq-sound D C q)) in grind arith
    go a p false q ih = grind arith

pub with-same : (l : Literal) (X Y : Matrix) → SameClauses X Y → SameClauses (with_literal l X) (with_literal l Y)
with-same l X Y s C = copies-with l X C ∙ (ap (λ (n : ℕ). cond (has l C) n 0) (s C) ∙ sym (copies-with l Y C))

pub without-same : (l : Literal) (X Y : Matrix) → SameClauses X Y → SameClauses (without_literal l X) (without_literal l Y)
without-same l X Y s C = copies-without l X C ∙ (ap (λ (n : ℕ). cond (has l C) 0 n) (s C) ∙ sym (copies-without l Y C))

pub with-none : (l : Literal) (X : Matrix) → (OccursIn l X → ⊥) → with_literal l X ≡ []
with-none l [] h = refl
with-none l (D ∷ X) h = go (has l D) refl (with-none l X (λ (E, i, m). h (E, inr i, m)))
  where
    go : (a : Bool) → has l D ≡ a → with_literal l X ≡ [] → cond a (D ∷ with_literal l X) (with_literal l X) ≡ []
    go true p i = absurd (h (D, inl refl, has-IsIn l D p))
    go false p i = i

-- Ids of all clauses with a literal, each once.
at-others : (N : Slots) (c : ℕ) (cs : List ℕ) → (Contains cs c → ⊥) → clauses_at (set_slot c None N) cs ≡ clauses_at N cs
at-others N c [] m = refl
at-others N c (d ∷ cs) m =
    let e : slot (set_slot c None N) d ≡ slot N d = slot-set_other c d None N (λ f. m (subst (λ (x : ℕ). Contains (d ∷ cs) x) f (Contains-here d cs))) in
    let i : clauses_at (set_slot c None N) cs ≡ clauses_at N cs = at-others N c cs (λ h. m (Contains-further d cs c h)) in
    ap (λ (o : Option Clause). put_first o (clauses_at (set_slot c None N) cs)) e ∙ ap (put_first (slot N d)) i

with-first : (l : Literal) (N : Slots) (c : ℕ) (C : Clause) → slot N c ≡ Some C → IsIn l C → SameClauses (with_literal l (live N)) (C ∷ with_literal l (live (set_slot c None N)))
with-first l N c C e m = subst (λ (X : Matrix). SameClauses (with_literal l (live N)) (C ∷ with_literal l X)) (sym (live-gone N c))
    (subst (λ (b : Bool). SameClauses (with_literal l (live N)) (cond b (C ∷ with_literal l (others c N)) (with_literal l (others c N)))) (IsIn-has l C m)
    (with-same l (live N) (C ∷ others c N) (slot-alike N c C e)))

picked : (l : Literal) (ids : List ℕ) (N : Slots) → AreOnce ids → ((c : ℕ) → Contains ids c → (C : Clause) × (slot N c ≡ Some C) × IsIn l C) → ((c : ℕ) (C : Clause) → slot N c ≡ Some C → IsIn l C → Contains ids c) → SameClauses (clauses_at N ids) (with_literal l (live N))
picked l [] N a h g = subst (λ (X : Matrix). SameClauses [] X) (sym (with-none l (live N) (λ (D, i, m). let r = live-number N D i in Contains-none r.0 (g r.0 D r.1 m)))) (alike-refl [])
picked l (c ∷ cs) N a h g =
    let held = h c (Contains-here c cs) in
    let C = held.0 in
    let N' = set_slot c None N in
    let i : SameClauses (clauses_at N' cs) (with_literal l (live N')) = picked l cs N' a.1
    (λ d m. let r = h d (Contains-further c cs d m) in (r.0, slot-set_other c d None N (λ e. a.0 (subst (λ (x : ℕ). Contains cs x) e m)) ∙ r.1, r.2))
    (λ d D e m. elim (cases_eq d c) [
      | inl q ↦ absurd (none-some D (sym (slot-set_none c N) ∙ subst (λ (x : ℕ). slot N' x ≡ Some D) q e))
      | inr n ↦ elim (Contains-first c cs d (g d D (sym (slot-set_other c d None N n) ∙ e) m)) [ inl q ↦ absurd (n q) | inr r ↦ r ]
    ]) in
    let j : SameClauses (clauses_at N cs) (with_literal l (live N')) = subst (λ (X : Matrix). SameClauses X (with_literal l (live N'))) (at-others N c cs a.0) i in
    subst (λ (o : Option Clause). SameClauses (put_first o (clauses_at N cs)) (with_literal l (live N))) (sym held.1)
    (alike-trans (C ∷ clauses_at N cs) (C ∷ with_literal l (live N')) (with_literal l (live N)) (alike-cons C (clauses_at N cs) (with_literal l (live N')) j)
    (alike-sym (with_literal l (live N)) (C ∷ with_literal l (live N')) (with-first l N c C held.1 held.2)))

pub collected : (k : Seen) (l : Literal) (ids all : List ℕ) → ids ≡ all → AreOnce all → All (λ c. IsHolder k l c) all → ((c : ℕ) → HoldsLiteral k c l → Contains all c) → AreIdsOf k l ids
collected k l ids all e once hold has = subst (λ (xs : List ℕ). AreIdsOf k l xs) (sym e) (record {
  held = λ c m. held c (has-in all c m);
  clauses = picked l all (slots k) once held (λ c C f m. has c (C, f, m));
})
  where
    held : (c : ℕ) → Contains all c → HoldsLiteral k c l
    held c m = let h : IsHolder k l c = All-contains (λ d. IsHolder k l d) all c hold m in h.holds

    has-in : (xs : List ℕ) (c : ℕ) → IsIn c xs → Contains xs c
    has-in [] c m = absurd m
    has-in (x ∷ xs) c (inl e) = subst (λ (y : ℕ). Contains (x ∷ xs) y) (sym e) (Contains-here x xs)
    has-in (x ∷ xs) c (inr m) = Contains-further x xs c (has-in xs c m)
