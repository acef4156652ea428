-- Literals that join others, each once; and literals of a list, one further.
use Rattle.std.proofs.Common.{◌≡◌, ℕ, ◌<◌, ◌≤◌, Bool, true, false, cond, nat_lt, List, [], ◌∷◌, ◌++◌, inl, inr, map, arith, refl, sym, ap, ◌∙◌, subst}
use Rattle.std.proofs.lemmas.List.{append_assoc}
use Rattle.q_logic.specs.Prelude.{Literal, negation, literal_eq, Prefix, IsIn, without}
use Rattle.q_logic.specs.Prefixes.{place}
use Rattle.q_logic.proofs.Common.{IsIn-append, IsIn-append_left, IsIn-append_right, literal_eq-sound, literal_eq-itself}
use Rattle.q_derive.specs.Traces.{resolvent}
use Rattle.q_resolve.specs.declared.leaves.Owner.{Owner}
use Rattle.q_resolve.specs.Sides.{sided}
use Rattle.q_resolve.specs.Reduced.{front_of, back_of, IsJoined, IsSame}

pub joined-none : (old : List Literal) → IsJoined old [] old
joined-none old k = (λ m. inl m, λ m. elim m [ inl i ↦ i | inr i ↦ absurd i ])

pub joined-had : (old : List Literal) (l : Literal) → IsIn l old → IsJoined old (l ∷ []) old
joined-had old l h k = (
  λ m. inl m,
  λ m. elim m [
    | inl i ↦ i
    | inr i ↦ elim i [ inl e ↦ subst (λ (x : Literal). IsIn x old) (sym e) h | inr n ↦ absurd n ]
  ],
)

pub joined-one : (old new : List Literal) (l : Literal) → new ≡ old ++ l ∷ [] → IsJoined old (l ∷ []) new
joined-one old new l e k = (
  λ m. IsIn-append k old (l ∷ []) (subst (IsIn k) e m),
  λ m. subst (IsIn k) (sym e) (elim m [
    | inl i ↦ IsIn-append_left k old (l ∷ []) i
    | inr i ↦ IsIn-append_right k old (l ∷ []) i
  ]),
)

pub joined-then : (a b c xs ys zs : List Literal) → xs ++ ys ≡ zs → IsJoined a xs b → IsJoined b ys c → IsJoined a zs c
joined-then a b c xs ys zs e f g k = (
  λ m. elim ((g k).0 m) [
    | inl i ↦ elim ((f k).0 i) [ inl x ↦ inl x | inr x ↦ inr (subst (IsIn k) e (IsIn-append_left k xs ys x)) ]
    | inr i ↦ inr (subst (IsIn k) e (IsIn-append_right k xs ys i))
  ],
  λ m. elim m [
    | inl i ↦ (g k).1 (inl ((f k).1 (inl i)))
    | inr i ↦ elim (IsIn-append k xs ys (subst (IsIn k) (sym e) i)) [
      | inl x ↦ (g k).1 (inl ((f k).1 (inr x)))
      | inr x ↦ (g k).1 (inr x)
    ]
  ],
)

pub without-last : (l : Literal) (xs : List Literal) (x : Literal) → without l (xs ++ x ∷ []) ≡ without l xs ++ without l (x ∷ [])
without-last l [] x = refl
without-last l (y ∷ xs) x = go (literal_eq y l) (without-last l xs x)
  where
    go : (b : Bool) → without l (xs ++ x ∷ []) ≡ without l xs ++ without l (x ∷ []) →
        cond b (without l (xs ++ x ∷ [])) (y ∷ without l (xs ++ x ∷ [])) ≡ cond b (without l xs) (y ∷ without l xs) ++ without l (x ∷ [])
    go true i = i
    go false i = ap (λ (zs : List Literal). y ∷ zs) i

pub without-it : (l x : Literal) → x ≡ l → without l (x ∷ []) ≡ []
without-it l x e = let h : literal_eq x l ≡ true = subst (λ (y : Literal). literal_eq x y ≡ true) e (literal_eq-itself x) in rw h refl

pub without-not : (l x : Literal) → (x ≡ l → ⊥) → without l (x ∷ []) ≡ x ∷ []
without-not l x n = go (literal_eq x l) refl
  where
    go : (b : Bool) → literal_eq x l ≡ b → cond b [] (x ∷ []) ≡ x ∷ []
    go true e = absurd (n (literal_eq-sound x l e))
    go false e = refl

pub resolved : (S U : List Literal) (k : Literal) (empty mid new : List Literal) → empty ≡ [] → IsJoined empty (without k S) mid →
    IsJoined mid (without (negation k) U) new → IsSame (resolvent S U k) new
resolved S U k empty mid new z f g j =
    let h = joined-then empty mid new (without k S) (without (negation k) U) (resolvent S U k) refl f g j in (
      λ m. elim (h.0 m) [ inl i ↦ absurd (subst (IsIn j) z i) | inr i ↦ i ],
      λ m. h.1 (inr m),
    )

-- before a place, and not
pub front-last : (P : Prefix) (at : ℕ) (xs : List Literal) (x : Literal) → front_of P at (xs ++ x ∷ []) ≡ front_of P at xs ++ front_of P at (x ∷ [])
front-last P at [] x = refl
front-last P at (y ∷ xs) x = go (nat_lt (place P y.var) at) (front-last P at xs x)
  where
    go : (b : Bool) → front_of P at (xs ++ x ∷ []) ≡ front_of P at xs ++ front_of P at (x ∷ []) →
        cond b (y ∷ front_of P at (xs ++ x ∷ [])) (front_of P at (xs ++ x ∷ [])) ≡ cond b (y ∷ front_of P at xs) (front_of P at xs) ++ front_of P at (x ∷ [])
    go true i = ap (λ (zs : List Literal). y ∷ zs) i
    go false i = i

pub back-last : (P : Prefix) (at : ℕ) (xs : List Literal) (x : Literal) → back_of P at (xs ++ x ∷ []) ≡ back_of P at xs ++ back_of P at (x ∷ [])
back-last P at [] x = refl
back-last P at (y ∷ xs) x = go (nat_lt (place P y.var) at) (back-last P at xs x)
  where
    go : (b : Bool) → back_of P at (xs ++ x ∷ []) ≡ back_of P at xs ++ back_of P at (x ∷ []) →
        cond b (back_of P at (xs ++ x ∷ [])) (y ∷ back_of P at (xs ++ x ∷ [])) ≡ cond b (back_of P at xs) (y ∷ back_of P at xs) ++ back_of P at (x ∷ [])
    go true i = i
    go false i = ap (λ (zs : List Literal). y ∷ zs) i

map-both : (f : Literal → Literal) (xs ys : List Literal) → map f (xs ++ ys) ≡ map f xs ++ map f ys
map-both f [] ys = refl
map-both f (x ∷ xs) ys = ap (λ (zs : List Literal). f x ∷ zs) (map-both f xs ys)

-- a row with what a list gives, one literal further
pub row-more : (F : List Literal → List Literal) → ((xs : List Literal) → (x : Literal) → F (xs ++ x ∷ []) ≡ F xs ++ F (x ∷ [])) →
    (o : Owner) (old row new xs more : List Literal) (x : Literal) → more ≡ xs ++ x ∷ [] → row ≡ old ++ map (sided o) (F xs) →
    new ≡ row ++ map (sided o) (F (x ∷ [])) → new ≡ old ++ map (sided o) (F more)
row-more F last o old row new xs more x m r n =
    n ∙ ap (λ (zs : List Literal). zs ++ map (sided o) (F (x ∷ []))) r ∙ append_assoc old (map (sided o) (F xs)) (map (sided o) (F (x ∷ []))) ∙
    ap (λ (zs : List Literal). old ++ zs) (sym (ap (map (sided o)) (ap F m ∙ last xs x) ∙ map-both (sided o) (F xs) (F (x ∷ []))))

pub front-yes : (P : Prefix) (at : ℕ) (x : Literal) → place P x.var < at → front_of P at (x ∷ []) ≡ x ∷ []
front-yes P at x h = let e : nat_lt (place P x.var) at ≡ true = grind arith in rw e refl

pub front-no : (P : Prefix) (at : ℕ) (x : Literal) → at ≤ place P x.var → front_of P at (x ∷ []) ≡ []
front-no P at x h = let e : nat_lt (place P x.var) at ≡ false = grind arith in rw e refl

pub back-yes : (P : Prefix) (at : ℕ) (x : Literal) → at ≤ place P x.var → back_of P at (x ∷ []) ≡ x ∷ []
back-yes P at x h = let e : nat_lt (place P x.var) at ≡ false = grind arith in rw e refl

pub back-no : (P : Prefix) (at : ℕ) (x : Literal) → place P x.var < at → back_of P at (x ∷ []) ≡ []
back-no P at x h = let e : nat_lt (place P x.var) at ≡ true = grind arith in rw e refl
