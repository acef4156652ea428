-- The variables of the dependents, as a walk over the prefix reads them.
use Rattle.std.proofs.Common.{◌≡◌, ◌+◌, ℕ, zero, suc, Bool, true, false, cond, List, [], ◌∷◌, ◌++◌, take, drop, slice_get, Some, None, refl, sym, ◌∙◌, ap, subst, add-one, append-nil}
use Rattle.q_logic.specs.declared.formulas.Bound.{Bound}
use Rattle.q_logic.specs.Prelude.{Literal, Prefix, IsIn, is_bound, Distinct, has, positive, live, expansion_vars}
use Rattle.q_logic.proofs.Common.{has-IsIn, IsIn-has}
use Rattle.q_logic.proofs.LeastClosure.{marked, expansion_vars-marked}
use Rattle.q_prefix.specs.Order.{bound_after}
use Rattle.q_kernel.specs.Prelude.{Seen, slots}
use Rattle.q_kernel.proofs.PrefixWalks.{after-front, bound-in}
use Rattle.q_expand.specs.Dependents.{Walked, IsWhole}

abbrev pub among : List Literal → ℕ → Bool
among vars v = has (positive v) vars

-- what was read of the prefix so far
abbrev pub marked_vars : List Literal → Prefix → List ℕ
marked_vars vars P = marked (among vars) P

marked-append : (f : ℕ → Bool) (P R : Prefix) → marked f (P ++ R) ≡ marked f P ++ marked f R
marked-append f [] R = refl
marked-append f (b ∷ P) R = go (f b.var) (marked-append f P R)
  where
    go : (c : Bool) → marked f (P ++ R) ≡ marked f P ++ marked f R → cond c (b.var ∷ marked f (P ++ R)) (marked f (P ++ R)) ≡ cond c (b.var ∷ marked f P) (marked f P) ++ marked f R
    go true i = ap (λ (xs : List ℕ). b.var ∷ xs) i
    go false i = i

pub here : (P : Prefix) (i : ℕ) (b : Bound) → slice_get P i ≡ Some b → (take (i + 1) P ≡ take i P ++ b ∷ []) × (P ≡ take i P ++ b ∷ drop (i + 1) P)
here P i b e = let r = go P i e in rw add-one r
  where
    one : (x : Bound) → Some x ≡ Some b → x ≡ b
    one x e = cc

    go : (P : Prefix) (i : ℕ) → slice_get P i ≡ Some b → (take (suc i) P ≡ take i P ++ b ∷ []) × (P ≡ take i P ++ b ∷ drop (suc i) P)
    go [] i e = absurd (let z : None ≡ Some b = e in cc)
    go (x ∷ P) zero e = (ap (λ (y : Bound). y ∷ []) (one x e), ap (λ (y : Bound). y ∷ P) (one x e))
    go (x ∷ P) (suc i) e = let r = go P i e in (ap (λ (xs : Prefix). x ∷ xs) r.0, ap (λ (xs : Prefix). x ∷ xs) r.1)

pub here-bound : (P : Prefix) (i : ℕ) (b : Bound) → slice_get P i ≡ Some b → is_bound P b.var ≡ true
here-bound P i b e = let r = here P i b e in subst (λ (R : Prefix). is_bound R b.var ≡ true) (sym r.1) (bound-in (take i P) (drop (i + 1) P) b)

get-drop : (P : Prefix) (i : ℕ) → slice_get (drop i P) 0 ≡ slice_get P i
get-drop [] zero = refl
get-drop [] (suc i) = refl
get-drop (x ∷ P) zero = refl
get-drop (x ∷ P) (suc i) = get-drop P i

pub here-after : (P : Prefix) (i : ℕ) (b : Bound) → Distinct P → slice_get P i ≡ Some b → bound_after P b.var ≡ slice_get P (i + 1)
here-after P i b d e =
    let r = here P i b e in
    subst (λ (R : Prefix). bound_after R b.var ≡ slice_get (drop (i + 1) P) 0) (sym r.1) (after-front (take i P) (drop (i + 1) P) b (subst Distinct r.1 d)) ∙ get-drop P (i + 1)

pub read-more : (vars : List Literal) (P : Prefix) (i : ℕ) (b : Bound) (got : List ℕ) → slice_get P i ≡ Some b → IsIn (positive b.var) vars → got ≡ marked_vars vars (take i P) → got ++ b.var ∷ [] ≡ marked_vars vars (take (i + 1) P)
read-more vars P i b got e m g =
    let r = here P i b e in
    let h : among vars b.var ≡ true = IsIn-has (positive b.var) vars m in
    ap (λ (xs : List ℕ). xs ++ b.var ∷ []) g ∙ sym (ap (marked_vars vars) r.0 ∙ (marked-append (among vars) (take i P) (b ∷ []) ∙ ap (λ (c : Bool). marked_vars vars (take i P) ++ cond c (b.var ∷ []) []) h))

pub read-past : (vars : List Literal) (P : Prefix) (i : ℕ) (b : Bound) (got : List ℕ) → slice_get P i ≡ Some b → (IsIn (positive b.var) vars → ⊥) → got ≡ marked_vars vars (take i P) → got ≡ marked_vars vars (take (i + 1) P)
read-past vars P i b got e n g =
    let r = here P i b e in
    g ∙ sym (ap (marked_vars vars) r.0 ∙ (marked-append (among vars) (take i P) (b ∷ []) ∙ (ap (λ (c : Bool). marked_vars vars (take i P) ++ cond c (b.var ∷ []) []) (no (among vars b.var) refl) ∙ append-nil (marked_vars vars (take i P)))))
  where
    no : (c : Bool) → among vars b.var ≡ c → among vars b.var ≡ false
    no true q = absurd (n (has-IsIn (positive b.var) vars q))
    no false q = q

-- all of it is the list of the definition
pub read-all : (k : Seen) (u : ℕ) (r : Walked) → IsWhole k u r → marked_vars r.vars k.prefix ≡ expansion_vars k.prefix (live (slots k)) u
read-all k u r w = expansion_vars-marked k.prefix (live (slots k)) u (among r.vars) (λ v b. (λ h. (w.dependents.linked (positive v) (has-IsIn (positive v) r.vars h)).1, λ s. IsIn-has (positive v) r.vars (w.all_vars v s)))
