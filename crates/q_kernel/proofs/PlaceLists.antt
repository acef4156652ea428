-- What the lists of places tell of the clauses: which hold a literal, and which variables occur.
use Rattle.std.proofs.Common.{◌≡◌, ◌≢◌, ◌≤◌, ◌<◌, ◌+◌, ℕ, suc, Bool, true, false, ◌&&◌, ◌||◌, eqb, List, [], ◌∷◌, length, get_or, inl, inr, arith, refl, sym, ap, ◌∙◌, subst, Some, None}
use Rattle.std.proofs.lemmas.Bool.Decides.{nat_tests}
use Rattle.q_logic.specs.Prelude.{Literal, literal_eq, bool_eq, Clause, Matrix, IsIn, without, has_variable, occurs, Slots, slot, set_slot, live, others}
use Rattle.q_logic.proofs.Common.{SameClauses, IsIn-alike, alike-sym, occurs_var-find, occurs_var-IsIn, without-IsIn, IsIn-without, slot-alike, has_variable-find, has_variable-IsIn, get_or-IsIn, live-slot}
use Rattle.q_logic.proofs.Booleans.{same_truth}
use Rattle.q_logic.proofs.HintedRuns.{live-changed}
use Rattle.q_logic.proofs.HintChains.{live-number}
use Rattle.q_arena.specs.Prelude.{Has, Chains, Clauses, start_at}
use Rattle.q_occ.specs.Places.{no_lit, places_of, IsPlaceIn, AreExact}
use Rattle.q_kernel.proofs.SlotLists.{slot-get, alike-added}

-- A literal at a place of a clause is one of its literals, and the other way round.
pub IsIn-get : (C : Clause) (l d : Literal) → IsIn l C → (i : ℕ) × (i < length C) × (get_or C i d ≡ l)
IsIn-get [] l d m = elim m [ ]
IsIn-get (k ∷ C) l d (inl e) = (0, omega arith, sym e)
IsIn-get (k ∷ C) l d (inr m) = let r : (i : ℕ) × (i < length C) × (get_or C i d ≡ l) = IsIn-get C l d m in (suc r.0, more r.0 (length C) r.1, r.2)
  where
    more : (i n : ℕ) → i < n → suc i < suc n
    more i n h = omega arith

-- The lists hold the places of all clauses.
abbrev pub AreAll : Chains → Clauses → Type 0
AreAll o a = AreExact o a (λ c. true)

no_length : (ys : List ℕ) → length ys ≡ 0 → ys ≡ []
no_length [] e = refl
no_length (y ∷ ys) e = absurd (omega arith)

module _ (o : Chains) (a : Clauses) (x : AreAll o a) where
  -- A place in a list is one of its literal in a clause.
  pub place-clause : (l : Literal) (p : ℕ) → Has (places_of o l) p → (C : Clause) × (slot a.clauses (get_or o.owners p 0) ≡ Some C) × IsIn l C
  place-clause l p h =
      let r : (id : ℕ) × (true ≡ true) × IsPlaceIn a id l p × (get_or o.owners p 0 ≡ id) = x.listed l p h in
      let i : IsPlaceIn a r.0 l p = r.2 in
      (i.clause, subst (λ (c : ℕ). slot a.clauses c ≡ Some i.clause) (sym r.3) (slot-get a.clauses r.0 ∙ i.live), subst (λ (k : Literal). IsIn k i.clause) i.of (get_or-IsIn i.clause i.at_index no_lit i.in_range))

  pub clause-place : (l : Literal) (c : ℕ) (C : Clause) → slot a.clauses c ≡ Some C → IsIn l C → (p : ℕ) × Has (places_of o l) p
  clause-place l c C e m =
      let r : (i : ℕ) × (i < length C) × (get_or C i no_lit ≡ l) = IsIn-get C l no_lit m in
      (start_at a c + r.0, x.all c l (start_at a c + r.0) refl (record { clause = C; live = sym (slot-get a.clauses c) ∙ e; at_index = r.0; in_range = r.1; is = refl; of = r.2 }))

  -- An empty list: no clause holds the literal.
  pub empty-none : (l : Literal) → places_of o l ≡ [] → (D : Clause) → IsIn D (live a.clauses) → IsIn l D → ⊥
  empty-none l e D m i =
      let s : (c : ℕ) × (slot a.clauses c ≡ Some D) = live-number a.clauses D m in
      let p : (p : ℕ) × Has (places_of o l) p = clause-place l s.0 D s.1 i in
      subst (λ (ys : List ℕ). Has ys p.0) e p.1

  pub counted-none : (l : Literal) → length (places_of o l) ≡ 0 → (D : Clause) → IsIn D (live a.clauses) → IsIn l D → ⊥
  counted-none l e = empty-none l (no_length (places_of o l) e)

  pub counted-some : (l : Literal) → 1 ≤ length (places_of o l) → (c : ℕ) × (C : Clause) × (slot a.clauses c ≡ Some C) × IsIn l C
  counted-some l h = go (places_of o l) refl
    where
      go : (ys : List ℕ) → places_of o l ≡ ys → (c : ℕ) × (C : Clause) × (slot a.clauses c ≡ Some C) × IsIn l C
      go [] e = let z : length (places_of o l) ≡ 0 = ap length e in absurd (omega arith)
      go (y ∷ ys) e = let r : (C : Clause) × (slot a.clauses (get_or o.owners y 0) ≡ Some C) × IsIn l C = place-clause l y (subst (λ (zs : List ℕ). Has zs y) (sym e) (inl refl)) in (get_or o.owners y 0, r.0, r.1, r.2)

  -- A variable occurs where one of its two literals has a place.
  pub place-occurs : (l : Literal) (p : ℕ) → Has (places_of o l) p → occurs l.var (live a.clauses) ≡ true
  place-occurs l p h = let r : (C : Clause) × (slot a.clauses (get_or o.owners p 0) ≡ Some C) × IsIn l C = place-clause l p h in occurs_var-IsIn (live a.clauses) r.0 l (live-slot a.clauses (get_or o.owners p 0) r.0 r.1) r.2

-- Variables occur by the clauses alone, and not by their order.
pub occurs-alike : (v : ℕ) (X Y : Matrix) → SameClauses X Y → occurs v X ≡ occurs v Y
occurs-alike v X Y s = same_truth (occurs v X) (occurs v Y) (over X Y s) (over Y X (alike-sym X Y s))
  where
    over : (A B : Matrix) → SameClauses A B → occurs v A ≡ true → occurs v B ≡ true
    over A B t h = let r : (D : Clause) × (k : Literal) × IsIn D A × IsIn k D × (k.var ≡ v) = occurs_var-find v A h in
        subst (λ (w : ℕ). occurs w B ≡ true) r.4 (occurs_var-IsIn B r.0 r.1 (IsIn-alike A B t r.0 r.2) r.3)

pub occurs-added : (v : ℕ) (N : Slots) (c : ℕ) (D : Clause) → slot N c ≡ None → c < length N → occurs v (live (set_slot c (Some D) N)) ≡ (has_variable v D || occurs v (live N))
occurs-added v N c D h b = occurs-alike v (live (set_slot c (Some D) N)) (D ∷ live N) (alike-added N c D h b)

pub occurs-replaced : (v : ℕ) (N : Slots) (c : ℕ) (C D : Clause) → slot N c ≡ Some C → occurs v (live (set_slot c (Some D) N)) ≡ (has_variable v D || occurs v (others c N))
occurs-replaced v N c C D h = occurs-alike v (live (set_slot c (Some D) N)) (D ∷ others c N) (live-changed N c C D h)

pub occurs-beside : (v : ℕ) (N : Slots) (c : ℕ) (C : Clause) → slot N c ≡ Some C → occurs v (live N) ≡ (has_variable v C || occurs v (others c N))
occurs-beside v N c C h = occurs-alike v (live N) (C ∷ others c N) (slot-alike N c C h)

other-literal : (k l : Literal) → k.var ≢ l.var → literal_eq k l ≡ false
other-literal k l n = let e : eqb k.var l.var ≡ false = grind (arith, nat_tests) in ap (λ (b : Bool). b && bool_eq k.negative l.negative) e

pub has_variable-without : (v : ℕ) (l : Literal) (C : Clause) → v ≢ l.var → has_variable v (without l C) ≡ has_variable v C
has_variable-without v l C n = same_truth (has_variable v (without l C)) (has_variable v C) back over
  where
    over : has_variable v C ≡ true → has_variable v (without l C) ≡ true
    over h = let r : (k : Literal) × IsIn k C × (k.var ≡ v) = has_variable-find v C h in
        subst (λ (w : ℕ). has_variable w (without l C) ≡ true) r.2 (has_variable-IsIn (without l C) r.0
        (IsIn-without l C r.0 r.1 (other-literal r.0 l (λ e. n (sym r.2 ∙ e)))))

    back : has_variable v (without l C) ≡ true → has_variable v C ≡ true
    back h = let r : (k : Literal) × IsIn k (without l C) × (k.var ≡ v) = has_variable-find v (without l C) h in
        subst (λ (w : ℕ). has_variable w C ≡ true) r.2 (has_variable-IsIn C r.0 (without-IsIn l C r.0 r.1))
