-- What a walk has met is part of what the conditions of an expansion bound.
use Rattle.std.proofs.Common.{◌≡◌, ◌⊎◌, ◌≤◌, ◌<◌, ◌+◌, ℕ, suc, Bool, true, false, not, cond, eqb, ◌&&◌, ◌||◌, List, [], ◌∷◌, length, refl, sym, ◌∙◌, ap, subst, inl, inr, arith, true≢false}
use Rattle.std.proofs.lemmas.Option.{same_Some}
use Rattle.std.proofs.lemmas.Bool.Decides.{nat_tests}
use Rattle.q_logic.specs.Prelude.{Literal, Clause, Matrix, Prefix, IsIn, Distinct, has_variable, size_of, live, clauses_of, in_list, shares, expansion_vars, touched_neither, Spread, Expandable}
use Rattle.q_logic.proofs.Common.{weight, has_variable-IsIn, Once, next-once, expansion_vars-fixed, has_variable-find}
use Rattle.q_logic.proofs.LeastClosure.{expansion_vars-least, shares-of, find_shared}
use Rattle.q_kernel.specs.Lists.{Has, Misses, AreApart, without}
use Rattle.q_kernel.proofs.Basics.{Misses-not, Misses-from}
use Rattle.q_kernel.proofs.Basics.{AreApart-without, length-without}
use Rattle.q_kernel.proofs.Basics.{Has-kept}
use Rattle.q_kernel.specs.Prelude.{Seen, slots}
use Rattle.q_expand.specs.Dependents.{Walked, IsConnected, tally, Lone, AreDependents}
use Rattle.q_expand.specs.declared.dependents.Room.{Room}
use Rattle.q_expand.proofs.ClauseWeights.{tally-most, tally-same}

-- Lists of variables.
pub has-in_list : (v : ℕ) (V : List ℕ) → Has V v → in_list v V ≡ true
has-in_list v [] h = absurd h
has-in_list v (w ∷ V) (inl e) = let f : w ≡ v = sym e in grind (arith, nat_tests)
has-in_list v (w ∷ V) (inr h) = let i : in_list v V ≡ true = has-in_list v V h in grind arith

pub in_list-has : (v : ℕ) (V : List ℕ) → in_list v V ≡ true → Has V v
in_list-has v [] h = absurd (true≢false (sym h))
in_list-has v (w ∷ V) h = go (eqb w v) refl (in_list-has v V) h
  where
    go : (b : Bool) → eqb w v ≡ b → (in_list v V ≡ true → Has V v) → (b || in_list v V) ≡ true → (v ≡ w) ⊎ Has V v
    go true e i h = inl (let f : w ≡ v = grind (arith, nat_tests) in sym f)
    go false e i h = inr (i h)

misses-list : (v : ℕ) (V : List ℕ) → in_list v V ≡ false → Misses v V
misses-list v V h = Misses-from v V (λ m. true≢false (sym (has-in_list v V m) ∙ h))

pub once-apart : (V : List ℕ) → Once V → AreApart V
once-apart [] o = tt
once-apart (v ∷ V) o = (misses-list v V o.0, once-apart V o.1)

pub within-length : (xs ys : List ℕ) → AreApart xs → AreApart ys → ((v : ℕ) → Has xs v → Has ys v) → length xs ≤ length ys
within-length [] ys a b f = omega arith
within-length (x ∷ xs) ys a b f =
    let i = within-length xs (without x ys) a.1 (AreApart-without x ys b) (λ v h. Has-kept x v ys (f v (inr h)) (λ e. Misses-not x v xs a.0 h (sym e))) in
    let e = length-without x ys (f x (inl refl)) in
    omega arith

-- The variables of literals.
abbrev pub vars_of : List Literal → List ℕ
vars_of [] = []
vars_of (k ∷ ks) = k.var ∷ vars_of ks

pub vars-length : (ks : List Literal) → length (vars_of ks) ≡ length ks
vars-length [] = refl
vars-length (k ∷ ks) = ap suc (vars-length ks)

pub vars-has : (ks : List Literal) (v : ℕ) → Has (vars_of ks) v → (k : Literal) × IsIn k ks × (k.var ≡ v)
vars-has [] v h = absurd h
vars-has (k ∷ ks) v (inl e) = (k, inl refl, sym e)
vars-has (k ∷ ks) v (inr h) = let r = vars-has ks v h in (r.0, inr r.1, r.2)

pub has-vars : (ks : List Literal) (k : Literal) → IsIn k ks → Has (vars_of ks) k.var
has-vars (j ∷ ks) k (inl e) = inl (ap (λ (x : Literal). x.var) e)
has-vars (j ∷ ks) k (inr m) = inr (has-vars ks k m)
has-vars [] k m = absurd m

pub vars-apart : (ks : List Literal) → ((k : Literal) → IsIn k ks → k.negative ≡ false) → Lone ks → AreApart (vars_of ks)
vars-apart [] n l = tt
vars-apart (k ∷ ks) n l = (
  Misses-from k.var (vars_of ks) (λ h. let r = vars-has ks k.var h in l.0 (subst (λ (x : Literal). IsIn x ks) (λ i. record { var = r.2 i; negative = (n r.0 (inr r.1) ∙ sym (n k (inl refl))) i }) r.1)),
  vars-apart ks (λ j m. n j (inr m)) l.1,
)

-- Connected clauses without u share.
pub connected-shares : (P : Prefix) (X : Matrix) (u : ℕ) (C : Clause) → IsConnected P X u C → has_variable u C ≡ false → shares (expansion_vars P X u) C ≡ true
connected-shares P X u C (j, m, inl e) n = absurd (true≢false (sym (subst (λ (x : ℕ). has_variable x C ≡ true) e (has_variable-IsIn C j m)) ∙ n))
connected-shares P X u C (j, m, inr s) n = shares-of (expansion_vars P X u) C j m ((expansion_vars-least P X u j.var).1 s)

pub shares-connected : (P : Prefix) (X : Matrix) (u : ℕ) (C : Clause) → shares (expansion_vars P X u) C ≡ true → IsConnected P X u C
shares-connected P X u C h = let r = find_shared (expansion_vars P X u) C h in (r.0, r.1, inr ((expansion_vars-least P X u r.0.var).0 r.2))

pub variable-connected : (P : Prefix) (X : Matrix) (u : ℕ) (C : Clause) → has_variable u C ≡ true → IsConnected P X u C
variable-connected P X u C h = let r = has_variable-find u C h in (r.0, r.1, inl r.2)

-- The weight of the touched clauses with neither.
abbrev pub if_neither : (Clause → ℕ) → ℕ → List ℕ → Clause → ℕ
if_neither w u V C = cond (not (has_variable u C) && shares V C) (w C) 0

abbrev pub long : Clause → ℕ
long C = length C + 1

pub neither-size : (u : ℕ) (V : List ℕ) (X : Matrix) → weight (if_neither long u V) X ≡ size_of (touched_neither u V X)
neither-size u V [] = refl
neither-size u V (D ∷ X) = go (not (has_variable u D) && shares V D) (neither-size u V X)
  where
    go : (b : Bool) → weight (if_neither long u V) X ≡ size_of (touched_neither u V X) → cond b (length D + 1) 0 + weight (if_neither long u V) X ≡ size_of (cond b (D ∷ touched_neither u V X) (touched_neither u V X))
    go true i = omega arith
    go false i = omega arith

pub neither-number : (u : ℕ) (V : List ℕ) (X : Matrix) → weight (if_neither (λ C. 1) u V) X ≡ length (touched_neither u V X)
neither-number u V [] = refl
neither-number u V (D ∷ X) = go (not (has_variable u D) && shares V D) (neither-number u V X)
  where
    go : (b : Bool) → weight (if_neither (λ C. 1) u V) X ≡ length (touched_neither u V X) → cond b 1 0 + weight (if_neither (λ C. 1) u V) X ≡ length (cond b (D ∷ touched_neither u V X) (touched_neither u V X))
    go true i = omega arith
    go false i = omega arith

module _ (k : Seen) (u : ℕ) (r : Walked) (h : AreDependents k u r) where
  beside-neither : (w : Clause → ℕ) (C : Clause) → IsConnected k.prefix (live (slots k)) u C → cond (has_variable u C) 0 (w C) ≡ if_neither w u (expansion_vars k.prefix (live (slots k)) u) C
  beside-neither w C con = go (has_variable u C) refl
    where
      go : (b : Bool) → has_variable u C ≡ b → cond b 0 (w C) ≡ cond (not b && shares (expansion_vars k.prefix (live (slots k)) u) C) (w C) 0
      go true e = refl
      go false e = let s = connected-shares k.prefix (live (slots k)) u C con e in rw s refl

  pub tally-neither : (w : Clause → ℕ) → tally (λ C. cond (has_variable u C) 0 (w C)) (slots k) r.met ≡ tally (if_neither w u (expansion_vars k.prefix (live (slots k)) u)) (slots k) r.met
  tally-neither w = tally-same (λ C. cond (has_variable u C) 0 (w C)) (if_neither w u (expansion_vars k.prefix (live (slots k)) u)) r.met (slots k)
      (λ c C m e. beside-neither w C (let q = h.connected c m in subst (IsConnected k.prefix (live (slots k)) u) (same_Some q.0 C (sym q.1 ∙ e)) q.2))

  pub size-within : r.size ≤ size_of (touched_neither u (expansion_vars k.prefix (live (slots k)) u) (live (slots k)))
  size-within =
      let a = h.size in
      let b = tally-neither long in
      let c = tally-most (if_neither long u (expansion_vars k.prefix (live (slots k)) u)) r.met (slots k) h.apart in
      let d = neither-size u (expansion_vars k.prefix (live (slots k)) u) (live (slots k)) in
      omega arith

  pub vars-within : Distinct k.prefix → length r.vars ≤ length (expansion_vars k.prefix (live (slots k)) u)
  vars-within d =
      let V = expansion_vars k.prefix (live (slots k)) u in
      let o = once-apart V (subst Once (expansion_vars-fixed k.prefix (live (slots k)) u) (next-once k.prefix k.prefix (live (slots k)) u V d)) in
      let i = within-length (vars_of r.vars) V (vars-apart r.vars (λ j m. (h.linked j m).0) h.lone) o
      (λ v m. let q = vars-has r.vars v m in in_list-has v V ((expansion_vars-least k.prefix (live (slots k)) u v).1 (subst (Spread k.prefix (live (slots k)) u) q.2 (h.linked q.0 q.1).1))) in
      let e = vars-length r.vars in
      omega arith

  pub dependents-refused : (room : Room) → Distinct k.prefix → room.size ≡ room.vars + length (clauses_of u (live (slots k))) → (room.vars < length r.vars) ⊎ (room.size < r.size) → Expandable room.vars k.prefix (live (slots k)) u → ⊥
  dependents-refused room d e (inl over) x = let i = vars-within d in let f = x.few in omega arith
  dependents-refused room d e (inr over) x = let i = size-within in let f = x.small in omega arith
