-- Parts that are lawful make a formula.
use Rattle.std.proofs.Common.{◌≡◌, ◌≢◌, ◌⊎◌, ℕ, Bool, true, false, cond, eqb, List, [], ◌∷◌, take, drop, slice_get, slice_range, Some, inl, inr, refl, sym, subst, arith, ◌-◌, ◌≤◌, ◌<◌, ◌^◌, ap, ◌∙◌, length, ◌+◌}
use Rattle.std.proofs.lemmas.List.{drop-drop, take-append-drop}
use Rattle.std.proofs.Math.Seq.{drop-length}
use Rattle.std.specs.List.{AllByRecursion}
use Rattle.q_logic.proofs.ClauseLemmas.{IsIn-append}
use Rattle.q_logic.proofs.Lists.{slice_get-IsIn, IsIn-drop, IsIn-take}
use Rattle.q_logic.specs.declared.formulas.Bound.{Bound}
use Rattle.q_logic.specs.Prelude.{Literal, IsBelow, Clause, Prefix, IsIn, PrenexFormula, is_bound, Distinct, AreEnds, AreLawful, ArePairs, IsBound, IsProper, clauses_between, Within}

pub IsBound-is_bound : (P : Prefix) (v : ℕ) → IsBound P v → is_bound P v ≡ true
IsBound-is_bound [] v h = elim h [ ]
IsBound-is_bound (b ∷ P) v (inl e) = grind arith
IsBound-is_bound (b ∷ P) v (inr h) = grind (arith, IsBound-is_bound P v h)

pub is_bound-IsBound : (P : Prefix) (v : ℕ) → is_bound P v ≡ true → IsBound P v
is_bound-IsBound [] v h = grind arith
is_bound-IsBound (b ∷ P) v h = go (eqb b.var v) refl h (is_bound-IsBound P v)
  where
    go : (t : Bool) → eqb b.var v ≡ t → cond t true (is_bound P v) ≡ true →
        (is_bound P v ≡ true → IsBound P v) → IsBound (b ∷ P) v
    go true e h ih = inl (grind arith)
    go false e h ih = inr (ih h)

-- variables that the code can hold
abbrev pub InRange : Prefix → Type 0
InRange P = AllByRecursion (λ q. (1 ≤ q.var) × (q.var < 2 ^ 31)) P

pub bound-range : (P : Prefix) (v : ℕ) → InRange P → is_bound P v ≡ true → (1 ≤ v) × (v < 2 ^ 31)
bound-range [] v h e = absurd (cc)
bound-range (b ∷ P) v h e = go (eqb b.var v) refl e (bound-range P v h.1)
  where
    go : (t : Bool) → eqb b.var v ≡ t → cond t true (is_bound P v) ≡ true → (is_bound P v ≡ true → (1 ≤ v) × (v < 2 ^ 31)) → (1 ≤ v) × (v < 2 ^ 31)
    go true q f ih = let z : b.var ≡ v = grind arith in subst (λ (n : ℕ). (1 ≤ n) × (n < 2 ^ 31)) z h.0
    go false q f ih = ih f

apart-unbound : (b : Bound) (P : Prefix) → AllByRecursion (λ r. b.var ≢ r.var) P → is_bound P b.var ≡ false
apart-unbound b [] h = refl
apart-unbound b (r ∷ P) h = let n : b.var ≢ r.var = h.0 in grind (arith, apart-unbound b P h.1)

pub pairs-Distinct : (P : Prefix) → ArePairs (λ q r. q.var ≢ r.var) P → Distinct P
pairs-Distinct [] h = tt
pairs-Distinct (b ∷ P) h = (apart-unbound b P h.0, pairs-Distinct P h.1)

-- members of a part are members of the whole

IsIn-slice_range : {X : Type 0} (x : X) (from to : ℕ) (xs : List X) → IsIn x (slice_range xs from to) →
    IsIn x xs
IsIn-slice_range x from to xs m = IsIn-drop xs from x (IsIn-take (drop from xs) _ x m)

pub IsIn-clauses_between : (lits : List Literal) (from : ℕ) (ends : List ℕ) (D : Clause) (k : Literal) →
    IsIn D (clauses_between lits from ends) → IsIn k D → IsIn k lits
IsIn-clauses_between lits from [] D k m h = elim m [ ]
IsIn-clauses_between lits from (e ∷ ends) D k (inl q) h =
    IsIn-slice_range k from e lits (subst (IsIn k) q h)
IsIn-clauses_between lits from (e ∷ ends) D k (inr m) h = IsIn-clauses_between lits e ends D k m h

pub AllByRecursion-IsIn : {X : Type 0} (R : X → Type 0) (xs : List X) (x : X) → AllByRecursion R xs →
    IsIn x xs → R x
AllByRecursion-IsIn R [] x a m = elim m [ ]
AllByRecursion-IsIn R (y ∷ xs) x a (inl e) = subst R (sym e) a.0
AllByRecursion-IsIn R (y ∷ xs) x a (inr m) = AllByRecursion-IsIn R xs x a.1 m

pub lawful-proper : (P : Prefix) (lits : List Literal) (ends : List ℕ) → AreLawful P lits ends →
    IsProper (record { prefix = P; matrix = clauses_between lits 0 ends })
lawful-proper P lits ends h =
    record {
      formula =
          record {
            distinct = pairs-Distinct P h.distinct;
            closed =
                λ D m k n. IsBound-is_bound P k.var
                (AllByRecursion-IsIn (λ (l : Literal). IsBound P l.var) lits k h.bound
                (IsIn-clauses_between lits 0 ends D k m n));
          };
      ranges = h.ranges;
      ordered = h.ordered;
    }

-- one clause of a matrix

pub proper-ordered : (F : PrenexFormula) (at : ℕ) (C : Clause) → IsProper F →
    slice_get F.matrix at ≡ Some C → ArePairs IsBelow C
proper-ordered F at C h e =
    AllByRecursion-IsIn (ArePairs IsBelow) F.matrix C h.ordered (slice_get-IsIn F.matrix at C e)

pub proper-bound : (F : PrenexFormula) (at : ℕ) (C : Clause) → IsProper F → slice_get F.matrix at ≡ Some C →
    Within F.prefix C
proper-bound F at C h e k m = h.formula.closed C (slice_get-IsIn F.matrix at C e) k m

-- the parts of a proper formula are lawful

IsIn-split : (k : Literal) (n : ℕ) (xs : List Literal) → IsIn k xs → IsIn k (take n xs) ⊎ IsIn k (drop n xs)
IsIn-split k n xs m = IsIn-append k (take n xs) (drop n xs) (subst (IsIn k) (sym (take-append-drop n xs)) m)

none-past : (k : Literal) (n : ℕ) (xs : List Literal) → n ≡ length xs → IsIn k (drop n xs) → ⊥
none-past k n xs e m = elim (subst (IsIn k) (ap (λ (i : ℕ). drop i xs) e ∙ drop-length xs) m) [ ]

clause-there : (lits : List Literal) (from : ℕ) (ends : List ℕ) (k : Literal) →
    AreEnds from ends (length lits) →
    IsIn k (drop from lits) → (D : Clause) × IsIn D (clauses_between lits from ends) × IsIn k D
clause-there lits from [] k h m = absurd (none-past k from lits h m)
clause-there lits from (e ∷ ends) k h m =
    go (IsIn-split k (e - from) (drop from lits) m) (clause-there lits e ends k h.1)
  where
    past : drop (e - from) (drop from lits) ≡ drop e lits
    past =
        let l : from ≤ e = h.0 in
        let there : from + (e - from) ≡ e = omega arith in
        drop-drop (e - from) from lits ∙ ap (λ (i : ℕ). drop i lits) there

    go : IsIn k (slice_range lits from e) ⊎ IsIn k (drop (e - from) (drop from lits)) →
        (IsIn k (drop e lits) → (D : Clause) × IsIn D (clauses_between lits e ends) × IsIn k D) →
        (D : Clause) × IsIn D (clauses_between lits from (e ∷ ends)) × IsIn k D
    go (inl a) ih = (slice_range lits from e, inl refl, a)
    go (inr b) ih =
        let r : (D : Clause) × IsIn D (clauses_between lits e ends) × IsIn k D =
        ih (subst (IsIn k) past b) in
        (r.0, inr r.1, r.2)

pub each-IsIn : {X : Type 0} (R : X → Type 0) (xs : List X) → ((x : X) → IsIn x xs → R x) → AllByRecursion R xs
each-IsIn R [] h = tt
each-IsIn R (x ∷ xs) h = (h x (inl refl), each-IsIn R xs (λ y m. h y (inr m)))

unbound-apart : (b : Bound) (P : Prefix) → is_bound P b.var ≡ false → AllByRecursion (λ r. b.var ≢ r.var) P
unbound-apart b [] h = tt
unbound-apart b (r ∷ P) h = ((λ e. differs e), unbound-apart b P (grind arith))
  where
    differs : b.var ≡ r.var → ⊥
    differs e = grind arith

pub Distinct-pairs : (P : Prefix) → Distinct P → ArePairs (λ q r. q.var ≢ r.var) P
Distinct-pairs [] h = tt
Distinct-pairs (b ∷ P) h = (unbound-apart b P h.0, Distinct-pairs P h.1)

pub proper-lawful : (P : Prefix) (lits : List Literal) (ends : List ℕ) → AreEnds 0 ends (length lits) →
    IsProper (record { prefix = P; matrix = clauses_between lits 0 ends }) → AreLawful P lits ends
proper-lawful P lits ends e h =
    record {
      distinct = Distinct-pairs P h.formula.distinct;
      ranges = h.ranges;
      in_order = e;
      ordered = h.ordered;
      bound = each-IsIn (λ (l : Literal). IsBound P l.var) lits bound_in;
    }
  where
    bound_in : (l : Literal) → IsIn l lits → IsBound P l.var
    bound_in l m =
        let r : (D : Clause) × IsIn D (clauses_between lits 0 ends) × IsIn l D =
        clause-there lits 0 ends l e (whole lits m) in
        is_bound-IsBound P l.var (h.formula.closed r.0 r.1 l r.2)
      where
        whole : (xs : List Literal) → IsIn l xs → IsIn l (drop 0 xs)
        whole [] m = m
        whole (x ∷ xs) m = m
