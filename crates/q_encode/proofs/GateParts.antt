-- Clauses of gates: which there are, and when a clause holds one of them.
use Rattle.std.proofs.Common.{◌≡◌, ◌⊎◌, ℕ, zero, suc, ◌+◌, ◌<◌, Bool, true, false, ◌||◌, ◌&&◌, List, [], ◌∷◌, length, slice_get, Some, refl, sym, ap, ◌∙◌, subst, inl, inr, arith}
use Rattle.std.proofs.lemmas.Option.{slice_get_within}
use Rattle.q_logic.specs.Prelude.{Literal, negation, Clause, Matrix, IsIn, Gate, has, is_tautology, IsTautology}
use Rattle.q_logic.specs.Sets.{all_in}
use Rattle.q_logic.proofs.Common.{IsIn-has, has-IsIn, is_tautology-whole, is_tautology-none}
use Rattle.q_aig.specs.Prelude.{Net}
use Rattle.q_miter.specs.Miters.{zero_literal, gate_literal, operand_literal, gate_clauses, gate_definitions, has_part}
use Rattle.q_encode.specs.Translations.{bare}
use Rattle.q_encode.specs.Needless.{is_gate_part}

pub part-there : (X : Matrix) (C R : Clause) → IsIn R X → all_in R C ≡ true → has_part X C ≡ true
part-there [] C R m a = elim m [ ]
part-there (S ∷ X) C R (inl e) a = let z : all_in S C ≡ true = subst (λ (x : Clause). all_in x C ≡ true) e a in rw z refl
part-there (S ∷ X) C R (inr m) a = go (all_in S C) (part-there X C R m a)
  where
    go : (t : Bool) → has_part X C ≡ true → t || has_part X C ≡ true
    go true h = refl
    go false h = h

pub part-of : (X : Matrix) (C : Clause) → has_part X C ≡ true → (R : Clause) × IsIn R X × (all_in R C ≡ true)
part-of [] C h = absurd (cc)
part-of (S ∷ X) C h = go (all_in S C) refl h (part-of X C)
  where
    go : (t : Bool) → all_in S C ≡ t → t || has_part X C ≡ true → (has_part X C ≡ true → (R : Clause) × IsIn R X × (all_in R C ≡ true)) →
        (R : Clause) × IsIn R (S ∷ X) × (all_in R C ≡ true)
    go true e h f = (S, inl refl, e)
    go false e h f = let r = f h in (r.0, inr r.1, r.2)

-- what a definition that begins with k has behind it: one of the gate g
abbrev pub IsTail : ℕ → List ℕ → ℕ → Gate → Literal → Clause → Type 0
IsTail top inputs g x k R =
    ((k ≡ negation (gate_literal top g)) × (R ≡ operand_literal top inputs x.left ∷ [])) ⊎
    ((k ≡ negation (gate_literal top g)) × (R ≡ operand_literal top inputs x.right ∷ [])) ⊎
    ((k ≡ gate_literal top g) × (R ≡ negation (operand_literal top inputs x.left) ∷ negation (operand_literal top inputs x.right) ∷ []))

-- a clause of one of the gates, of which n stand before
abbrev pub IsOfGates : ℕ → List ℕ → ℕ → List Gate → Literal → Clause → Type 0
IsOfGates top inputs n gates k R = (g : ℕ) × (x : Gate) × (slice_get gates g ≡ Some x) × IsTail top inputs (n + g) x k R

heads : (k j : Literal) (R S : Clause) → k ∷ R ≡ j ∷ S → (k ≡ j) × (R ≡ S)
heads k j R S e = (cc, cc)

pub gates-of : (top : ℕ) (inputs : List ℕ) (n : ℕ) (gates : List Gate) (k : Literal) (R : Clause) → IsIn (k ∷ R) (gate_clauses top inputs n gates) →
    IsOfGates top inputs n gates k R
gates-of top inputs n [] k R m = elim m [ ]
gates-of top inputs n (x ∷ gates) k R m = go m (gates-of top inputs (n + 1) gates k R)
  where
    here : IsTail top inputs n x k R → IsOfGates top inputs n (x ∷ gates) k R
    here t = (0, x, refl, (let e : n + 0 ≡ n = omega arith in rw e t))

    go : IsIn (k ∷ R) (gate_clauses top inputs n (x ∷ gates)) → (IsIn (k ∷ R) (gate_clauses top inputs (n + 1) gates) → IsOfGates top inputs (n + 1) gates k R) →
        IsOfGates top inputs n (x ∷ gates) k R
    go (inl e) f = here (inl (heads k (negation (gate_literal top n)) R (operand_literal top inputs x.left ∷ []) e))
    go (inr (inl e)) f = here (inr (inl (heads k (negation (gate_literal top n)) R (operand_literal top inputs x.right ∷ []) e)))
    go (inr (inr (inl e))) f =
        here (inr (inr (heads k (gate_literal top n) R (negation (operand_literal top inputs x.left) ∷ negation (operand_literal top inputs x.right) ∷ []) e)))
    go (inr (inr (inr m))) f =
        let r = f m in
        (suc r.0, r.1, r.2, (let e : n + suc r.0 ≡ (n + 1) + r.0 = omega arith in subst (λ (i : ℕ). IsTail top inputs i r.1 k R) (sym e) r.3))

pub of-gates : (top : ℕ) (inputs : List ℕ) (n : ℕ) (gates : List Gate) (g : ℕ) (x : Gate) (k : Literal) (R : Clause) → slice_get gates g ≡ Some x →
    IsTail top inputs (n + g) x k R → IsIn (k ∷ R) (gate_clauses top inputs n gates)
of-gates top inputs n [] g x k R q t = absurd (cc)
of-gates top inputs n (y ∷ gates) zero x k R q t =
    let e : n + 0 ≡ n = omega arith in
    let s : y ≡ x = cc in
    subst (λ (z : Gate). IsIn (k ∷ R) (gate_clauses top inputs n (z ∷ gates))) (sym s) (go (subst (λ (i : ℕ). IsTail top inputs i x k R) e t))
  where
    go : IsTail top inputs n x k R → IsIn (k ∷ R) (gate_clauses top inputs n (x ∷ gates))
    go (inl (a, b)) = inl (rw (a, b) refl)
    go (inr (inl (a, b))) = inr (inl (rw (a, b) refl))
    go (inr (inr (a, b))) = inr (inr (inl (rw (a, b) refl)))
of-gates top inputs n (y ∷ gates) (suc g) x k R q t =
    let e : n + suc g ≡ (n + 1) + g = omega arith in
    inr (inr (inr (of-gates top inputs (n + 1) gates g x k R q (subst (λ (i : ℕ). IsTail top inputs i x k R) e t))))

-- all definitions
pub definitions-of : (top : ℕ) (a : Net) (k : Literal) (R : Clause) → IsIn (k ∷ R) (gate_definitions top (bare a)) →
    ((k ≡ negation (zero_literal top)) × (R ≡ [])) ⊎ IsOfGates top a.inputs 0 a.gates k R
definitions-of top a k R (inl e) = inl (heads k (negation (zero_literal top)) R [] e)
definitions-of top a k R (inr m) = inr (gates-of top a.inputs 0 a.gates k R m)

tail-var : (top : ℕ) (inputs : List ℕ) (g : ℕ) (x : Gate) (k : Literal) (R : Clause) → IsTail top inputs g x k R → k.var ≡ top + (g + 2)
tail-var top inputs g x k R (inl (a, b)) = ap (λ (l : Literal). l.var) a
tail-var top inputs g x k R (inr (inl (a, b))) = ap (λ (l : Literal). l.var) a
tail-var top inputs g x k R (inr (inr (a, b))) = ap (λ (l : Literal). l.var) a

-- a definition's first literal lies behind the top
pub definition-behind : (top : ℕ) (a : Net) (k : Literal) (R : Clause) → IsIn (k ∷ R) (gate_definitions top (bare a)) → top < k.var
definition-behind top a k R m = go (definitions-of top a k R m)
  where
    go : ((k ≡ negation (zero_literal top)) × (R ≡ [])) ⊎ IsOfGates top a.inputs 0 a.gates k R → top < k.var
    go (inl (e, f)) = let v : k.var ≡ top + 1 = ap (λ (l : Literal). l.var) e in omega arith
    go (inr (g, x, q, t)) = let v : k.var ≡ top + (0 + g + 2) = tail-var top a.inputs (0 + g) x k R t in omega arith

-- it belongs to a gate or is the constant's
pub definition-gate : (top : ℕ) (a : Net) (k : Literal) (R : Clause) → IsIn (k ∷ R) (gate_definitions top (bare a)) →
    (k.var ≡ top + 1) ⊎ ((g : ℕ) × (k.var ≡ top + (g + 2)) × (g < length a.gates))
definition-gate top a k R m = go (definitions-of top a k R m)
  where
    go : ((k ≡ negation (zero_literal top)) × (R ≡ [])) ⊎ IsOfGates top a.inputs 0 a.gates k R →
        (k.var ≡ top + 1) ⊎ ((g : ℕ) × (k.var ≡ top + (g + 2)) × (g < length a.gates))
    go (inl (e, f)) = inl (ap (λ (l : Literal). l.var) e)
    go (inr (g, x, q, t)) =
        let v : k.var ≡ top + (0 + g + 2) = tail-var top a.inputs (0 + g) x k R t in
        inr (g, omega arith, slice_get_within a.gates g x q)

-- the constant
pub zero-part : (top : ℕ) (a : Net) (C : Clause) (k : Literal) → k.var ≡ top + 1 → k.negative ≡ true → IsIn k C →
    has_part (gate_definitions top (bare a)) C ≡ true
zero-part top a C k v n m =
    let e : k ≡ negation (zero_literal top) = grind arith in
    part-there (gate_definitions top (bare a)) C (negation (zero_literal top) ∷ []) (inl refl)
    (let z : has (negation (zero_literal top)) C ≡ true = subst (λ (l : Literal). has l C ≡ true) e (IsIn-has k C m) in rw z refl)

pub zero-none : (top : ℕ) (a : Net) (k : Literal) (R : Clause) → k.var ≡ top + 1 → IsIn (k ∷ R) (gate_definitions top (bare a)) → k.negative ≡ true
zero-none top a k R v m = go (definitions-of top a k R m)
  where
    go : ((k ≡ negation (zero_literal top)) × (R ≡ [])) ⊎ IsOfGates top a.inputs 0 a.gates k R → k.negative ≡ true
    go (inl (e, f)) = ap (λ (l : Literal). l.negative) e
    go (inr (g, x, q, t)) = absurd (let w : k.var ≡ top + (0 + g + 2) = tail-var top a.inputs (0 + g) x k R t in omega arith)

-- a gate
and-both : (a b : Bool) → (a && b) ≡ true → (a ≡ true) × (b ≡ true)
and-both true b h = (refl, h)
and-both false b h = absurd (cc)

pub gate-part : (top : ℕ) (a : Net) (C : Clause) (k : Literal) (g : ℕ) (x : Gate) → k.var ≡ top + (g + 2) → slice_get a.gates g ≡ Some x →
    is_gate_part top a.inputs x C k.negative ≡ true → IsIn k C → has_part (gate_definitions top (bare a)) C ≡ true
gate-part top a C k g x v q h m = go k.negative refl h
  where
    there : (R : Clause) → IsTail top a.inputs g x k R → all_in R C ≡ true → has_part (gate_definitions top (bare a)) C ≡ true
    there R t i =
        part-there (gate_definitions top (bare a)) C (k ∷ R)
        (inr (of-gates top a.inputs 0 a.gates g x k R q (let e : g ≡ 0 + g = omega arith in subst (λ (j : ℕ). IsTail top a.inputs j x k R) e t)))
        (let z : has k C ≡ true = IsIn-has k C m in rw z i)

    one : (l : Literal) → has l C ≡ true → all_in (l ∷ []) C ≡ true
    one l z = rw z refl

    below : k.negative ≡ true → k ≡ negation (gate_literal top g)
    below n = grind arith

    above : k.negative ≡ false → k ≡ gate_literal top g
    above n = grind arith

    either : k.negative ≡ true → (t : Bool) → has (operand_literal top a.inputs x.left) C ≡ t → (t || has (operand_literal top a.inputs x.right) C) ≡ true →
        has_part (gate_definitions top (bare a)) C ≡ true
    either n true e h = there (operand_literal top a.inputs x.left ∷ []) (inl (below n, refl)) (one (operand_literal top a.inputs x.left) e)
    either n false e h = there (operand_literal top a.inputs x.right ∷ []) (inr (inl (below n, refl))) (one (operand_literal top a.inputs x.right) h)

    go : (n : Bool) → k.negative ≡ n → is_gate_part top a.inputs x C n ≡ true → has_part (gate_definitions top (bare a)) C ≡ true
    go true n h = either n (has (operand_literal top a.inputs x.left) C) refl h
    go false n h =
        let z = and-both (has (negation (operand_literal top a.inputs x.left)) C) (has (negation (operand_literal top a.inputs x.right)) C) h in
        there (negation (operand_literal top a.inputs x.left) ∷ negation (operand_literal top a.inputs x.right) ∷ []) (inr (inr (above n, refl)))
        (rw (z.0, z.1) refl)

gate-same : (top g h : ℕ) → top + (g + 2) ≡ top + (0 + h + 2) → g ≡ h
gate-same top g h e = omega arith

pub gate-none : (top : ℕ) (a : Net) (C : Clause) (k : Literal) (R : Clause) (g : ℕ) (x : Gate) → k.var ≡ top + (g + 2) → slice_get a.gates g ≡ Some x →
    IsIn (k ∷ R) (gate_definitions top (bare a)) → all_in R C ≡ true → is_gate_part top a.inputs x C k.negative ≡ true
gate-none top a C k R g x v q m i = go (definitions-of top a k R m)
  where
    tail : IsTail top a.inputs g x k R → is_gate_part top a.inputs x C k.negative ≡ true
    tail (inl (e, f)) =
        let n : k.negative ≡ true = ap (λ (l : Literal). l.negative) e in
        let z = and-both (has (operand_literal top a.inputs x.left) C) true (subst (λ (S : Clause). all_in S C ≡ true) f i) in
        rw (n, z.0) refl
    tail (inr (inl (e, f))) =
        let n : k.negative ≡ true = ap (λ (l : Literal). l.negative) e in
        let z = and-both (has (operand_literal top a.inputs x.right) C) true (subst (λ (S : Clause). all_in S C ≡ true) f i) in
        rw n (right (has (operand_literal top a.inputs x.left) C) z.0)
      where
        right : (t : Bool) → has (operand_literal top a.inputs x.right) C ≡ true → (t || has (operand_literal top a.inputs x.right) C) ≡ true
        right true h = refl
        right false h = h
    tail (inr (inr (e, f))) =
        let n : k.negative ≡ false = ap (λ (l : Literal). l.negative) e in
        let z = and-both (has (negation (operand_literal top a.inputs x.left)) C) (has (negation (operand_literal top a.inputs x.right)) C && true)
        (subst (λ (S : Clause). all_in S C ≡ true) f i) in
        let w = and-both (has (negation (operand_literal top a.inputs x.right)) C) true z.1 in
        rw (n, z.0, w.0) refl

    go : ((k ≡ negation (zero_literal top)) × (R ≡ [])) ⊎ IsOfGates top a.inputs 0 a.gates k R → is_gate_part top a.inputs x C k.negative ≡ true
    go (inl (e, f)) = absurd (let w : k.var ≡ top + 1 = ap (λ (l : Literal). l.var) e in omega arith)
    go (inr (h, y, p, t)) =
        let w : k.var ≡ top + (0 + h + 2) = tail-var top a.inputs (0 + h) y k R t in
        let s : h ≡ g = omega arith in
        let r : y ≡ x = (let u : slice_get a.gates g ≡ Some y = subst (λ (j : ℕ). slice_get a.gates j ≡ Some y) s p in cc) in
        let z : 0 + h ≡ g = omega arith in
        tail (subst (λ (u : Gate). IsTail top a.inputs g u k R) r (subst (λ (j : ℕ). IsTail top a.inputs j y k R) z t))

-- where no literal of C begins a definition within C, there is none
pub none-begins : (top : ℕ) (a : Net) (C : Clause) →
    ((k : Literal) → IsIn k C → (R : Clause) → IsIn (k ∷ R) (gate_definitions top (bare a)) → all_in R C ≡ true → ⊥) →
    has_part (gate_definitions top (bare a)) C ≡ false
none-begins top a C f = go (has_part (gate_definitions top (bare a)) C) refl
  where
    not-empty : (n : ℕ) (gates : List Gate) → IsIn [] (gate_clauses top a.inputs n gates) → ⊥
    not-empty n [] m = m
    not-empty n (x ∷ gates) m = empty m (not-empty (n + 1) gates)
      where
        empty : IsIn [] (gate_clauses top a.inputs n (x ∷ gates)) → (IsIn [] (gate_clauses top a.inputs (n + 1) gates) → ⊥) → ⊥
        empty (inl e) g = cc
        empty (inr (inl e)) g = cc
        empty (inr (inr (inl e))) g = cc
        empty (inr (inr (inr m))) g = g m

    within : (R : Clause) → IsIn R (gate_definitions top (bare a)) → all_in R C ≡ true → ⊥
    within [] (inl e) i = cc
    within [] (inr m) i = not-empty 0 a.gates m
    within (k ∷ R) m i = let z = and-both (has k C) (all_in R C) i in f k (has-IsIn k C z.0) R m z.1

    go : (t : Bool) → has_part (gate_definitions top (bare a)) C ≡ t → t ≡ false
    go false e = refl
    go true e = absurd (let r = part-of (gate_definitions top (bare a)) C e in within r.0 r.1 r.2)

pub there-gate : (gates : List Gate) (g : ℕ) → g < length gates → (x : Gate) × (slice_get gates g ≡ Some x)
there-gate [] g h = absurd (omega arith)
there-gate (x ∷ gates) zero h = (x, refl)
there-gate (x ∷ gates) (suc g) h = there-gate gates g (omega arith)

-- whichever gate it is
pub some-part : (top : ℕ) (a : Net) (C : Clause) (k : Literal) (g : ℕ) (r n : Bool) → k.var ≡ top + (g + 2) → g < length a.gates → n ≡ k.negative →
    ((x : Gate) → slice_get a.gates g ≡ Some x → r ≡ is_gate_part top a.inputs x C n) → r ≡ true → IsIn k C → has_part (gate_definitions top (bare a)) C ≡ true
some-part top a C k g r n v l e f t m =
    let w = there-gate a.gates g l in
    gate-part top a C k g w.0 v w.1 (sym (ap (is_gate_part top a.inputs w.0 C) e) ∙ sym (f w.0 w.1) ∙ t) m

pub some-none : (top : ℕ) (a : Net) (C : Clause) (k : Literal) (R : Clause) (g : ℕ) (r n : Bool) → k.var ≡ top + (g + 2) → g < length a.gates → n ≡ k.negative →
    ((x : Gate) → slice_get a.gates g ≡ Some x → r ≡ is_gate_part top a.inputs x C n) → IsIn (k ∷ R) (gate_definitions top (bare a)) → all_in R C ≡ true → r ≡ true
some-none top a C k R g r n v l e f m i =
    let w = there-gate a.gates g l in
    f w.0 w.1 ∙ ap (is_gate_part top a.inputs w.0 C) e ∙ gate-none top a C k R g w.0 v w.1 m i

-- a clause that is true at once, or none
pub opposed-needless : (C : Clause) (b : Bool) → IsTautology C → true ≡ is_tautology C || b
opposed-needless C b t = let z : is_tautology C ≡ true = is_tautology-whole C t in rw z refl

pub part-needless : (a b : Bool) → b ≡ true → true ≡ a || b
part-needless true b e = refl
part-needless false b e = sym e

pub not-needless : (C : Clause) (b : Bool) → (IsTautology C → ⊥) → b ≡ false → false ≡ is_tautology C || b
not-needless C b n e = let z : is_tautology C ≡ false = is_tautology-none C n in rw (z, e) refl
