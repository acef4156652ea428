-- Ways along nodes, under joins.
use Rattle.std.proofs.Common.{◌≡◌, ◌≢◌, ◌⊎◌, ℕ, List, [], ◌∷◌, length, refl, sym, ◌∙◌, ap, subst, inl, inr, arith}
use Rattle.std.proofs.lemmas.Bool.Decides.{nat_tests}
use Rattle.std.proofs.lemmas.Bool.{cases_eq}
use Rattle.q_arena.specs.declared.rings.Link.{Link}
use Rattle.q_arena.specs.Nodes.{IsJoined}
use Rattle.q_arena.specs.Rings.{IsPath, walk, Has, Misses, AreApart, without}
use Rattle.q_arena.proofs.RingJoins.{next_joined, next_other, prev_joined, prev_other}

pub Misses-not : (x y : ℕ) (ys : List ℕ) → Misses x ys → Has ys y → x ≢ y
Misses-not x y [] m h e = h
Misses-not x y (w ∷ ws) m (inl h) e = m.0 (e ∙ h)
Misses-not x y (w ∷ ws) m (inr h) e = Misses-not x y ws m.1 h e

pub Misses-from : (x : ℕ) (ys : List ℕ) → (Has ys x → ⊥) → Misses x ys
Misses-from x [] f = tt
Misses-from x (y ∷ ys) f = (λ e. f (inl e), Misses-from x ys (λ h. f (inr h)))

-- a join of two nodes away from the way leaves it
pub IsPath-kept : (s t : ℕ → Link) (a b : ℕ) → IsJoined s t a b → (x : ℕ) (ys : List ℕ) (z : ℕ) → x ≢ a → Misses a ys → Misses b ys → b ≢ z → IsPath s x ys z → IsPath t x ys z
IsPath-kept s t a b j x [] z xa ma mb bz p =
    (next_other s t a b x j xa ∙ p.0, prev_other s t a b z j (λ e. bz (sym e)) ∙ p.1)
IsPath-kept s t a b j x (y ∷ ys) z xa ma mb bz p = (
  next_other s t a b x j xa ∙ p.0,
  prev_other s t a b y j (λ e. mb.0 (sym e)) ∙ p.1,
  IsPath-kept s t a b j y ys z (λ e. ma.0 (sym e)) ma.1 mb.1 bz p.2,
)

-- equal neighbours, equal ways
pub IsPath-along : (s t : ℕ → Link) → ((k : ℕ) → (t k).next ≡ (s k).next) → ((k : ℕ) → (t k).prev ≡ (s k).prev) → (x : ℕ) (ys : List ℕ) (z : ℕ) → IsPath s x ys z → IsPath t x ys z
IsPath-along s t n v x [] z p = (n x ∙ p.0, v z ∙ p.1)
IsPath-along s t n v x (y ∷ ys) z p = (n x ∙ p.0, v y ∙ p.1, IsPath-along s t n v y ys z p.2)

pub walk-path : (s : ℕ → Link) (x : ℕ) (ys : List ℕ) (z : ℕ) → IsPath s x ys z → walk s (length ys) (s x).next ≡ ys
walk-path s x [] z p = refl
walk-path s x (y ∷ ys) z p =
    rw p.0 (ap (λ (w : List ℕ). y ∷ w) (walk-path s y ys z p.2))

-- the node before one of the way is on the way
pub prev_in : (s : ℕ → Link) (x : ℕ) (ys : List ℕ) (z p : ℕ) → IsPath s x ys z → Has ys p → Has (x ∷ ys) (s p).prev
prev_in s x [] z p w h = absurd h
prev_in s x (y ∷ ys) z p w (inl h) = inl (ap (λ (k : ℕ). (s k).prev) h ∙ w.1)
prev_in s x (y ∷ ys) z p w (inr h) = inr (prev_in s y ys z p w.2 h)

-- the node after one of the way is on the way, or the last
pub next_in : (s : ℕ → Link) (x : ℕ) (ys : List ℕ) (z p : ℕ) → IsPath s x ys z → Has ys p → Has ys (s p).next ⊎ ((s p).next ≡ z)
next_in s x [] z p w h = absurd h
next_in s x (y ∷ []) z p w (inl h) = inr (ap (λ (k : ℕ). (s k).next) h ∙ w.2.0)
next_in s x (y ∷ v ∷ vs) z p w (inl h) = inl (inr (inl (ap (λ (k : ℕ). (s k).next) h ∙ w.2.0)))
next_in s x (y ∷ ys) z p w (inr h) = elim (next_in s y ys z p w.2 h) [
  | inl i ↦ inl (inr i)
  | inr e ↦ inr e
]

pub without-first : (p y : ℕ) (ys : List ℕ) → y ≡ p → without p (y ∷ ys) ≡ ys
without-first p y ys e = grind (arith, nat_tests)

pub without-later : (p y : ℕ) (ys : List ℕ) → y ≢ p → without p (y ∷ ys) ≡ y ∷ without p ys
without-later p y ys n = grind (arith, nat_tests)

-- a node is taken out where its neighbours are joined
taken_first : (s t : ℕ → Link) (p x : ℕ) (ys : List ℕ) (z : ℕ) → IsJoined s t (s p).prev (s p).next → Misses x ys → AreApart ys → Misses z ys → (s p).prev ≡ x → IsPath s p ys z → IsPath t x ys z
taken_first s t p x [] z j mx ap' mz e w = (
  let h = next_joined s t (s p).prev (s p).next j in rw (← e) (h ∙ w.0),
  let h = prev_joined s t (s p).prev (s p).next j in rw (← w.0) (h ∙ e),
)
taken_first s t p x (y ∷ ys) z j mx ap' mz e w =
    let j' : IsJoined s t x y = subst (λ (k : ℕ). IsJoined s t x k) w.0 (subst (λ (k : ℕ). IsJoined s t k (s p).next) e j) in (
      next_joined s t x y j',
      prev_joined s t x y j',
      IsPath-kept s t x y j' y ys z (λ h. mx.0 (sym h)) mx.1 ap'.0 (λ h. mz.0 (sym h)) w.2,
    )

pub IsPath-without : (s t : ℕ → Link) (p : ℕ) → IsJoined s t (s p).prev (s p).next → (x : ℕ) (ys : List ℕ) (z : ℕ) → Misses x ys → AreApart ys → Misses z ys → Has ys p → IsPath s x ys z → IsPath t x (without p ys) z
IsPath-without s t p j x [] z mx a mz h w = absurd h
IsPath-without s t p j x (y ∷ ys) z mx a mz h w =
    let here : y ≡ p → IsPath t x (without p (y ∷ ys)) z = λ e.
    rw (without-first p y ys e) (taken_first s t p x ys z j mx.1 a.1 mz.1 (ap (λ (k : ℕ). (s k).prev) (sym e) ∙ w.1) (subst (λ (k : ℕ). IsPath s k ys z) e w.2)) in
    let later : y ≢ p → Has ys p → IsPath t x (without p (y ∷ ys)) z = λ n i.
    let before : x ≢ (s p).prev = Misses-not x (s p).prev (y ∷ ys) mx (prev_in s y ys z p w.2 i) in
    let after : y ≢ (s p).next = elim (next_in s y ys z p w.2 i) [
      | inl k ↦ Misses-not y (s p).next ys a.0 k
      | inr e ↦ λ q. mz.0 (sym (q ∙ e))
    ] in
    rw (without-later p y ys n) (
      next_other s t (s p).prev (s p).next x j before ∙ w.0,
      prev_other s t (s p).prev (s p).next y j after ∙ w.1,
      IsPath-without s t p j y ys z a.0 a.1 mz.1 i w.2,
    ) in
    elim (cases_eq y p) [
      | inl e ↦ here e
      | inr n ↦ elim h [
        | inl e ↦ here (sym e)
        | inr i ↦ later n i
      ]
    ]

-- a node is put first
pub IsPath-with : (s t u : ℕ → Link) (h p : ℕ) → IsJoined s t h p → IsJoined t u p (s h).next → (ys : List ℕ) → h ≢ p → Misses h ys → Misses p ys → AreApart ys → IsPath s h ys h → IsPath u h (p ∷ ys) h
IsPath-with s t u h p j k [] hp mh mp a w =
    let k' : IsJoined t u p h = subst (λ (q : ℕ). IsJoined t u p q) w.0 k in (
      next_other t u p h h k' hp ∙ next_joined s t h p j,
      prev_other t u p h p k' (λ e. hp (sym e)) ∙ prev_joined s t h p j,
      (next_joined t u p h k', prev_joined t u p h k'),
    )
IsPath-with s t u h p j k (y ∷ ys) hp mh mp a w =
    let k' : IsJoined t u p y = subst (λ (q : ℕ). IsJoined t u p q) w.0 k in
    let rest = IsPath-kept s t h p j y ys h (λ e. mh.0 (sym e)) mh.1 mp.1 (λ e. hp (sym e)) w.2 in (
      next_other t u p y h k' hp ∙ next_joined s t h p j,
      prev_other t u p y p k' mp.0 ∙ prev_joined s t h p j,
      (
        next_joined t u p y k',
        prev_joined t u p y k',
        IsPath-kept t u p y k' y ys h (λ e. mp.0 (sym e)) mp.1 a.0 (λ e. mh.0 (sym e)) rest,
      ),
    )
