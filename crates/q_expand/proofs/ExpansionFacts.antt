-- What an expansion stands on, over the prefix with the copies.
use Rattle.std.proofs.Common.{◌≡◌, ◌⊎◌, ◌<◌, ◌+◌, ℕ, Bool, true, false, ◌||◌, List, refl, sym, ◌∙◌, subst, inl, inr}
use Rattle.q_logic.specs.Prelude.{Literal, Clause, Matrix, Prefix, IsIn, is_bound, is_existential, outer_or_same, Distinct, has_variable, has, positive, greatest, shares, touches, inner_existential, expansion_vars, insert_all, Expandable}
use Rattle.q_logic.proofs.Common.{has-IsIn, has_variable-IsIn, expansion_vars-closed, expansion_vars-inner, expansion_vars-fixed, Once, next-once, above-greatest, inner-parts, all_inner, all_e, AllInner, originals-of, Expansion, universal-is_bound}
use Rattle.q_logic.proofs.ExpandPrefix.{Above, AllE, below, inserted-is_existential, inserted-is_universal, inserted-is_bound, inserted-outer, inserted-copies}
use Rattle.q_logic.proofs.ExpandLinks.{minus}

pub expansion-facts : (expand : ℕ) (P : Prefix) (X : Matrix) (u : ℕ) → Distinct P → ((D : Clause) → IsIn D X → (k : Literal) → IsIn k D → is_bound P k.var ≡ true) → Expandable expand P X u
    → Expansion (insert_all (expansion_vars P X u) (greatest P + 1) P) X u (expansion_vars P X u) (greatest P + 1)
expansion-facts expand P X u d bound h = record {
  universal = inserted-is_universal V t P e a u ul ∙ h.universal;
  u_bound = inserted-is_bound V t P e a u ul ∙ ub;
  u_below = ul;
  copies_there = inserted-copies V t P e a;
  originals = originals-of P u t V V e a h.universal ub inner once;
  below = under;
  all_bound = λ D m k i. inserted-is_bound V t P e a k.var (under D m k i) ∙ bound D m k i;
  closed = λ D m p k i q. expansion_vars-closed P X u D m (touched D p) k i (bound D m k i) (inner_old k.var (under D m k i) q);
  not_both = λ D m p. none D m p (has (minus u) D) refl;
}
  where
    V : List ℕ
    V = expansion_vars P X u

    t : ℕ
    t = greatest P + 1

    Q : Prefix
    Q = insert_all (expansion_vars P X u) (greatest P + 1) P

    a : Above P (greatest P + 1)
    a = above-greatest P

    inner : AllInner P u (expansion_vars P X u)
    inner = all_inner P u (expansion_vars P X u) (expansion_vars-inner P X u)

    e : AllE P (expansion_vars P X u)
    e = all_e P u (expansion_vars P X u) inner

    once : Once (expansion_vars P X u)
    once = subst Once (expansion_vars-fixed P X u) (next-once P P X u (expansion_vars P X u) d)

    ub : is_bound P u ≡ true
    ub = universal-is_bound P u h.universal

    ul : u < greatest P + 1
    ul = below P (greatest P + 1) u a ub

    under : (D : Clause) → IsIn D X → (k : Literal) → IsIn k D → k.var < greatest P + 1
    under D m k i = below P (greatest P + 1) k.var a (bound D m k i)

    touched : (D : Clause) → (has (positive u) D ≡ true) ⊎ ((has (minus u) D ≡ true) ⊎ (shares (expansion_vars P X u) D ≡ true)) → touches u (expansion_vars P X u) D ≡ true
    touched D (inl p) = let z : has_variable u D ≡ true = has_variable-IsIn D (positive u) (has-IsIn (positive u) D p) in rw z refl
    touched D (inr (inl p)) = let z : has_variable u D ≡ true = has_variable-IsIn D (minus u) (has-IsIn (minus u) D p) in rw z refl
    touched D (inr (inr p)) = go (has_variable u D)
      where
        go : (b : Bool) → (b || shares (expansion_vars P X u) D) ≡ true
        go true = refl
        go false = p

    inner_old : (v : ℕ) → v < greatest P + 1 → inner_existential (insert_all (expansion_vars P X u) (greatest P + 1) P) u v ≡ true → inner_existential P u v ≡ true
    inner_old v l i = let s : is_existential Q v ≡ is_existential P v = inserted-is_existential V t P e a v l in let o : outer_or_same Q v u ≡ outer_or_same P v u = inserted-outer V t P e a v u l ul in
        let p : (is_existential Q v ≡ true) × (outer_or_same Q v u ≡ false) = inner-parts Q u v i in
        let x : is_existential P v ≡ true = sym s ∙ p.0 in let y : outer_or_same P v u ≡ false = sym o ∙ p.1 in rw (x, y) refl

    none : (D : Clause) → IsIn D X → has (positive u) D ≡ true → (b : Bool) → has (minus u) D ≡ b → has (minus u) D ≡ false
    none D m p true q = absurd (h.no_tautology D m (has-IsIn (positive u) D p) (has-IsIn (minus u) D q))
    none D m p false q = q
