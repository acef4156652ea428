-- Lists read from the front and from the back.
use Rattle.std.proofs.Common.{◌≡◌, ◌≢◌, ◌⊎◌, ℕ, List, [], ◌∷◌, ◌++◌, slice_get, Option, None, Some, refl, sym, ◌∙◌, ap, subst, inl, inr}
use Rattle.std.specs.Prelude.{reverse}
use Rattle.std.proofs.lemmas.Grind.{reverse_onto}
use Rattle.std.proofs.lemmas.Option.{same_Some, none-some}
use Rattle.std.proofs.lemmas.Bool.{cases_eq}
use Rattle.q_arena.specs.Prelude.{Has, Misses, AreApart, without, following, preceding, preceding_from}
use Rattle.q_arena.specs.Gaps.{or_else}
use Rattle.q_arena.proofs.RingPaths.{Misses-not, Misses-from, without-first, without-later}
use Rattle.q_arena.proofs.RingLemmas.{Has-without}
use Rattle.q_arena.proofs.ListNeighbours.{following-here, following-later, preceding-here, preceding-later, preceding-none, preceding-first}

has-append : (xs : List ℕ) (j v : ℕ) → Has (xs ++ (j ∷ [])) v → Has xs v ⊎ (v ≡ j)
has-append [] j v h = elim h [ inl e ↦ inr e | inr i ↦ absurd i ]
has-append (x ∷ xs) j v h = elim h [
  | inl e ↦ inl (inl e)
  | inr i ↦ elim (has-append xs j v i) [ inl k ↦ inl (inr k) | inr e ↦ inr e ]
]

append-has : (xs : List ℕ) (j v : ℕ) → Has xs v ⊎ (v ≡ j) → Has (xs ++ (j ∷ [])) v
append-has [] j v h = elim h [ inl i ↦ absurd i | inr e ↦ inl e ]
append-has (x ∷ xs) j v h = elim h [
  | inl i ↦ elim i [ inl e ↦ inl e | inr k ↦ inr (append-has xs j v (inl k)) ]
  | inr e ↦ inr (append-has xs j v (inr e))
]

pub reverse-has : (vars : List ℕ) (v : ℕ) → Has (reverse vars) v → Has vars v
reverse-has [] v h = h
reverse-has (u ∷ vars) v h = elim (has-append (reverse vars) u v (subst (λ (xs : List ℕ). Has xs v) (reverse_onto vars u []) h)) [
  | inl i ↦ inr (reverse-has vars v i)
  | inr e ↦ inl e
]

pub has-reverse : (vars : List ℕ) (v : ℕ) → Has vars v → Has (reverse vars) v
has-reverse [] v h = h
has-reverse (u ∷ vars) v h = rw (reverse_onto vars u []) (append-has (reverse vars) u v (elim h [
  | inl e ↦ inr e
  | inr i ↦ inl (has-reverse vars v i)
]))

-- each variable stands so to those after it
abbrev pub AreOrdered : (ℕ → ℕ → Type 0) → List ℕ → Type 0
AreOrdered R [] = Unit {0}
AreOrdered R (u ∷ vars) = ((v : ℕ) → Has vars v → R u v) × AreOrdered R vars

pub ordered-without : (R : ℕ → ℕ → Type 0) (p : ℕ) (vars : List ℕ) → AreOrdered R vars → AreOrdered R (without p vars)
ordered-without R p [] o = tt
ordered-without R p (u ∷ vars) o = elim (cases_eq u p) [
  | inl e ↦ rw (without-first p u vars e) o.1
  | inr n ↦ rw (without-later p u vars n) ((λ v h. o.0 v (Has-without p v vars h)), ordered-without R p vars o.1)
]

ordered-append : (R : ℕ → ℕ → Type 0) (xs : List ℕ) (j : ℕ) → AreOrdered R xs → ((v : ℕ) → Has xs v → R v j) → AreOrdered R (xs ++ (j ∷ []))
ordered-append R [] j o f = ((λ v h. absurd h), tt)
ordered-append R (x ∷ xs) j o f = (
  λ v h. elim (has-append xs j v h) [ inl i ↦ o.0 v i | inr e ↦ subst (R x) (sym e) (f x (inl refl)) ],
  ordered-append R xs j o.1 (λ v h. f v (inr h)),
)

pub ordered-reverse : (R : ℕ → ℕ → Type 0) (vars : List ℕ) → AreOrdered R vars → AreOrdered (λ u v. R v u) (reverse vars)
ordered-reverse R [] o = tt
ordered-reverse R (u ∷ vars) o = rw (reverse_onto vars u []) (ordered-append (λ a b. R b a) (reverse vars) u (ordered-reverse R vars o.1) (λ v h. o.0 v (reverse-has vars v h)))

apart-ordered : (vars : List ℕ) → AreApart vars → AreOrdered (λ u v. u ≢ v) vars
apart-ordered [] a = tt
apart-ordered (u ∷ vars) a = ((λ v h. Misses-not u v vars a.0 h), apart-ordered vars a.1)

ordered-apart : (vars : List ℕ) → AreOrdered (λ u v. v ≢ u) vars → AreApart vars
ordered-apart [] o = tt
ordered-apart (u ∷ vars) o = (Misses-from u vars (λ h. o.0 u h refl), ordered-apart vars o.1)

pub apart-reverse : (vars : List ℕ) → AreApart vars → AreApart (reverse vars)
apart-reverse vars a = ordered-apart (reverse vars) (ordered-reverse (λ u v. u ≢ v) vars (apart-ordered vars a))

following-append : (v j : ℕ) (xs : List ℕ) → Has xs v → following v (xs ++ (j ∷ [])) ≡ or_else (following v xs) (Some j)
following-append v j [] h = absurd h
following-append v j (x ∷ xs) h = elim (cases_eq x v) [
  | inl e ↦ following-here v x (xs ++ (j ∷ [])) e ∙ first xs ∙ ap (λ (o : Option ℕ). or_else o (Some j)) (sym (following-here v x xs e))
  | inr n ↦ elim h [
    | inl e ↦ absurd (n (sym e))
    | inr i ↦ following-later v x (xs ++ (j ∷ [])) n ∙ following-append v j xs i ∙ ap (λ (o : Option ℕ). or_else o (Some j)) (sym (following-later v x xs n))
  ]
]
  where
    first : (xs : List ℕ) → slice_get (xs ++ (j ∷ [])) 0 ≡ or_else (slice_get xs 0) (Some j)
    first [] = refl
    first (y ∷ ys) = refl

following-last : (v : ℕ) (xs : List ℕ) → (Has xs v → ⊥) → following v (xs ++ (v ∷ [])) ≡ None
following-last v [] f = following-here v v [] refl
following-last v (x ∷ xs) f = following-later v x (xs ++ (v ∷ [])) (λ e. f (inl (sym e))) ∙ following-last v xs (λ h. f (inr h))

-- what precedes a variable follows it from the back
pub preceding-reverse : (vars : List ℕ) (v : ℕ) → AreApart vars → Has vars v → preceding v vars ≡ following v (reverse vars)
preceding-reverse [] v a h = absurd h
preceding-reverse (j ∷ js) v a h = elim h [
  | inl e ↦
      let miss : Misses v js = subst (λ (n : ℕ). Misses n js) (sym e) a.0 in
      let f : Has (reverse js) v → ⊥ = λ i. Misses-not v v js miss (reverse-has js v i) refl in
      preceding-none v j js miss ∙ sym (following-last v (reverse js) f) ∙ ap (λ (k : ℕ). following v (reverse js ++ (k ∷ []))) e ∙ ap (following v) (sym (reverse_onto js j []))
  | inr i ↦ preceding-first v j js a.1 i ∙ ap (λ (o : Option ℕ). or_else o (Some j)) (preceding-reverse js v a.1 i) ∙ sym (following-append v j (reverse js) (has-reverse js v i)) ∙ ap (following v) (sym (reverse_onto js j []))
]

-- a variable precedes what follows it
pub following-preceding : (vars : List ℕ) (x y : ℕ) → AreApart vars → following x vars ≡ Some y → preceding y vars ≡ Some x
following-preceding [] x y a e = absurd (none-some y e)
following-preceding (u ∷ us) x y a e = elim (cases_eq u x) [
  | inl q ↦ first us (sym (following-here x u us q) ∙ e) ∙ ap (λ (k : ℕ). Some k) q
  | inr n ↦ later us (following-preceding us x y a.1 (sym (following-later x u us n) ∙ e)) a.1
]
  where
    first : (us : List ℕ) → slice_get us 0 ≡ Some y → preceding_from y u us ≡ Some u
    first [] e = absurd (none-some y e)
    first (c ∷ cs) e = preceding-here y u c cs (same_Some c y e)

    later : (us : List ℕ) → preceding y us ≡ Some x → AreApart us → preceding_from y u us ≡ Some x
    later [] e a = absurd (none-some x e)
    later (c ∷ cs) e a = elim (cases_eq c y) [
      | inl q ↦ absurd (none-some x (sym (preceding-none y c cs (subst (λ (k : ℕ). Misses k cs) q a.0)) ∙ e))
      | inr n ↦ preceding-later y u c cs n ∙ e
    ]

-- the neighbours of a variable that goes stand side by side
pub preceding-has : (v u x : ℕ) (us : List ℕ) → preceding_from v u us ≡ Some x → Has (u ∷ us) x
preceding-has v u x [] e = absurd (none-some x e)
preceding-has v u x (c ∷ cs) e = elim (cases_eq c v) [
  | inl q ↦ inl (same_Some x u (sym e ∙ preceding-here v u c cs q))
  | inr n ↦ inr (preceding-has v c x cs (sym (preceding-later v u c cs n) ∙ e))
]

meeting : (gone u : ℕ) (us : List ℕ) (x y : ℕ) → AreApart (u ∷ us) → preceding_from gone u us ≡ Some x → following gone us ≡ Some y → following x (u ∷ without gone us) ≡ Some y
meeting gone u [] x y a p f = absurd (none-some x p)
meeting gone u (c ∷ cs) x y a p f = elim (cases_eq c gone) [
  | inl q ↦
      let ux : u ≡ x = same_Some u x (sym (preceding-here gone u c cs q) ∙ p) in
      rw (without-first gone c cs q) (following-here x u cs ux ∙ sym (following-here gone c cs q) ∙ f)
  | inr n ↦
      let p' : preceding_from gone c cs ≡ Some x = sym (preceding-later gone u c cs n) ∙ p in
      let ux : u ≢ x = Misses-not u x (c ∷ cs) a.0 (preceding-has gone c x cs p') in
      rw (without-later gone c cs n) (following-later x u (c ∷ without gone cs) ux ∙ meeting gone c cs x y a.1 p' (sym (following-later gone c cs n) ∙ f))
]

pub meet-beside : (vars : List ℕ) (gone x y : ℕ) → AreApart vars → preceding gone vars ≡ Some x → following gone vars ≡ Some y → following x (without gone vars) ≡ Some y
meet-beside [] gone x y a p f = absurd (none-some x p)
meet-beside (u ∷ us) gone x y a p f = elim (cases_eq u gone) [
  | inl e ↦ absurd (none-some x (sym (preceding-none gone u us (subst (λ (k : ℕ). Misses k us) e a.0)) ∙ p))
  | inr n ↦ rw (without-later gone u us n) (meeting gone u us x y a p (sym (following-later gone u us n) ∙ f))
]
