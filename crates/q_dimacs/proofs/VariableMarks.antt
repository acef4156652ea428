-- Marks of variables, and lists with one more at their end.
use Rattle.std.proofs.Common.{◌≡◌, ◌≢◌, ℕ, ◌<◌, ◌==◌, ◌||◌, Bool, true, false, List, [], ◌∷◌, ◌++◌, length, get_or, set, slice_index_or, refl, ap, sym, ◌∙◌, arith, inl, inr, get_or-set_same, get_or-set_other}
use Rattle.std.proofs.lemmas.Bool.Decides.{nat_tests, eqb_tells}
use Rattle.std.specs.List.{AllByRecursion}
use Rattle.q_logic.specs.declared.formulas.Bound.{Bound}
use Rattle.q_logic.specs.Prelude.{Literal, Matrix, Prefix, Clause, ArePairs, is_bound}
use Rattle.q_logic.proofs.Common.{cond-or}
use Rattle.q_dimacs.specs.Building.{occurs, occurs_in}

pub or_false : (a : Bool) → a || false ≡ a
or_false true = refl
or_false false = refl

or-assoc : (a b c : Bool) → (a || b) || c ≡ a || (b || c)
or-assoc true b c = refl
or-assoc false b c = refl

or-comm : (a b : Bool) → a || b ≡ b || a
or-comm true true = refl
or-comm true false = refl
or-comm false true = refl
or-comm false false = refl

-- one more mark
pub marked : (marks : List Bool) (i v : ℕ) → i < length marks → slice_index_or (set marks i true) v false ≡ (slice_index_or marks v false || (i == v))
marked marks i v h = elim (eqb_tells i v) [
  | inl e ↦ (let f : i ≡ v = e.1 in rw (e.0, ← f, get_or-set_same) (sym (or-comm (get_or marks i false) true)))
  | inr e ↦ (let n : v ≢ i = λ x. e.1 (sym x) in rw (e.0, get_or-set_other) (sym (or_false (get_or marks v false))))
]

pub is_bound-push : (p : Prefix) (q : Bound) (v : ℕ) → is_bound (p ++ q ∷ []) v ≡ (is_bound p v || (q.var == v))
is_bound-push [] q v = cond-or (q.var == v) false ∙ or_false (q.var == v)
is_bound-push (r ∷ p) q v =
    cond-or (r.var == v) (is_bound (p ++ q ∷ []) v)
    ∙ (ap (λ x. (r.var == v) || x) (is_bound-push p q v)
    ∙ (sym (or-assoc (r.var == v) (is_bound p v) (q.var == v)) ∙ ap (λ x. x || (q.var == v)) (sym (cond-or (r.var == v) (is_bound p v)))))

pub occurs_in-push : (ls : List Literal) (l : Literal) (v : ℕ) → occurs_in (ls ++ l ∷ []) v ≡ (occurs_in ls v || (l.var == v))
occurs_in-push [] l v = or_false (l.var == v)
occurs_in-push (k ∷ ls) l v = ap (λ x. (k.var == v) || x) (occurs_in-push ls l v) ∙ sym (or-assoc (k.var == v) (occurs_in ls v) (l.var == v))

pub occurs-push : (x : Matrix) (c : Clause) (v : ℕ) → occurs (x ++ c ∷ []) v ≡ (occurs x v || occurs_in c v)
occurs-push [] c v = or_false (occurs_in c v)
occurs-push (d ∷ x) c v = ap (λ y. occurs_in d v || y) (occurs-push x c v) ∙ sym (or-assoc (occurs_in d v) (occurs x v) (occurs_in c v))

pub or_more : (a b c : Bool) → (a || b) || c ≡ a || (b || c)
or_more = or-assoc

pub All-push : {X : Type 0} (P : X → Type 0) (xs : List X) (y : X) → AllByRecursion P xs → P y → AllByRecursion P (xs ++ y ∷ [])
All-push P [] y h p = (p, tt)
All-push P (x ∷ xs) y h p = (h.0, All-push P xs y h.1 p)

pub Pairs-push : {X : Type 0} (R : X → X → Type 0) (xs : List X) (y : X) → ArePairs R xs → AllByRecursion (λ x. R x y) xs → ArePairs R (xs ++ y ∷ [])
Pairs-push R [] y h a = (tt, tt)
Pairs-push R (x ∷ xs) y h a = (All-push (R x) xs y h.0 a.0, Pairs-push R xs y h.1 a.1)

or-left : (a b : Bool) → a || b ≡ false → a ≡ false
or-left true b e = e
or-left false b e = refl

or-right : (a b : Bool) → a || b ≡ false → b ≡ false
or-right true b e = absurd (cc)
or-right false b e = e

pub differs : (p : Prefix) (q : Bound) → is_bound p q.var ≡ false → AllByRecursion (λ r. r.var ≢ q.var) p
differs [] q e = tt
differs (r ∷ p) q e = ((λ f. first f (or-left (r.var == q.var) (is_bound p q.var) (sym (cond-or (r.var == q.var) (is_bound p q.var)) ∙ e))), differs p q (or-right (r.var == q.var) (is_bound p q.var) (sym (cond-or (r.var == q.var) (is_bound p q.var)) ∙ e))) where
  first : r.var ≡ q.var → (r.var == q.var) ≡ false → ⊥
  first f g = grind (arith, nat_tests)
