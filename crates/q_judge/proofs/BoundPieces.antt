-- What a prefix binds, and how it falls into pieces.
use Rattle.std.proofs.Common.{◌≡◌, ◌≢◌, ◌⊎◌, ℕ, zero, suc, ◌<◌, ◌≤◌, Bool, true, false, cond, not, eqb, [], ◌∷◌, ◌++◌, Some, Option, length, refl, sym, ◌∙◌, ap, subst, inl, inr, arith, true≢false}
use Rattle.std.proofs.lemmas.Bool.Decides.{nat_tests}
use Rattle.std.proofs.lemmas.Bool.{cases_eq, ne_eqb}
use Rattle.q_logic.specs.declared.formulas.Quant.TheVariants.{Exists}
use Rattle.q_logic.specs.declared.formulas.Bound.{Bound}
use Rattle.q_logic.specs.Prelude.{Prefix, is_bound, is_existential, is_universal, is_exists, Distinct, removed_from, insert_after}
use Rattle.q_judge.specs.Scopes.{last_or, HaveRoom}
use Rattle.q_logic.proofs.Common.{removed-distinct, removed-is_bound, removed-unbound, is_bound-first, is_bound-later}

pub universal-not : (P : Prefix) (v : ℕ) → is_bound P v ≡ true → is_universal P v ≡ not (is_existential P v)
universal-not [] v h = absurd (true≢false (sym h))
universal-not (b ∷ P) v h = go (eqb b.var v) refl h (universal-not P v)
  where
    go : (s : Bool) → eqb b.var v ≡ s → cond s true (is_bound P v) ≡ true → (is_bound P v ≡ true → is_universal P v ≡ not (is_existential P v)) → cond s (not (is_exists b.quant)) (is_universal P v) ≡ not (cond s (is_exists b.quant) (is_existential P v))
    go true e j ih = refl
    go false e j ih = ih j

pub bound-cases : (b : Bound) (P : Prefix) (a : ℕ) → is_bound (b ∷ P) a ≡ true → (b.var ≡ a) ⊎ ((b.var ≢ a) × (is_bound P a ≡ true))
bound-cases b P a i = go (eqb b.var a) refl i
  where
    go : (c : Bool) → eqb b.var a ≡ c → cond c true (is_bound P a) ≡ true → (b.var ≡ a) ⊎ ((b.var ≢ a) × (is_bound P a ≡ true))
    go true e k = inl (grind (arith, nat_tests))
    go false e k = inr ((λ f. grind (arith, nat_tests)), k)

pub bound-left : (A C : Prefix) (v : ℕ) → is_bound A v ≡ true → is_bound (A ++ C) v ≡ true
bound-left [] C v h = absurd (true≢false (sym h))
bound-left (b ∷ A) C v h = elim (bound-cases b A v h) [
  | inl e ↦ subst (λ (w : ℕ). is_bound (b ∷ A ++ C) w ≡ true) e (is_bound-first b (A ++ C))
  | inr k ↦ is_bound-later b (A ++ C) v (bound-left A C v k.1)
]

pub bound-right : (A C : Prefix) (v : ℕ) → is_bound C v ≡ true → is_bound (A ++ C) v ≡ true
bound-right [] C v h = h
bound-right (b ∷ A) C v h = is_bound-later b (A ++ C) v (bound-right A C v h)

pub bound-either : (A C : Prefix) (v : ℕ) → is_bound (A ++ C) v ≡ true → (is_bound A v ≡ true) ⊎ (is_bound C v ≡ true)
bound-either [] C v h = inr h
bound-either (b ∷ A) C v h = elim (bound-cases b (A ++ C) v h) [
  | inl e ↦ inl (subst (λ (w : ℕ). is_bound (b ∷ A) w ≡ true) e (is_bound-first b A))
  | inr k ↦ elim (bound-either A C v k.1) [
    | inl m ↦ inl (is_bound-later b A v m)
    | inr m ↦ inr m
  ]
]

pub not-bound : (P : Prefix) (v : ℕ) → (is_bound P v ≡ true → ⊥) → is_bound P v ≡ false
not-bound P v n = go (is_bound P v) refl
  where
    go : (b : Bool) → is_bound P v ≡ b → b ≡ false
    go true e = absurd (n e)
    go false e = refl

-- two pieces of a prefix of distinct variables have none in common
pub distinct-apart : (A C : Prefix) → Distinct (A ++ C) → (v : ℕ) → is_bound A v ≡ true → is_bound C v ≡ false
distinct-apart [] C d v h = absurd (true≢false (sym h))
distinct-apart (b ∷ A) C d v h = elim (bound-cases b A v h) [
  | inl e ↦ not-bound C v (λ k. true≢false (sym (bound-right A C b.var (subst (λ (w : ℕ). is_bound C w ≡ true) (sym e) k)) ∙ d.0))
  | inr k ↦ distinct-apart A C d.1 v k.1
]

pub distinct-left : (A C : Prefix) → Distinct (A ++ C) → Distinct A
distinct-left [] C d = tt
distinct-left (b ∷ A) C d = (not-bound A b.var (λ k. true≢false (sym (bound-left A C b.var k) ∙ d.0)), distinct-left A C d.1)

pub distinct-right : (A C : Prefix) → Distinct (A ++ C) → Distinct C
distinct-right [] C d = d
distinct-right (b ∷ A) C d = distinct-right A C d.1

-- where a variable stands in a prefix
pub record IsSplit (P : Prefix) (v : ℕ) : Type 0 where
  pub outer : Prefix
  pub bound : Bound
  pub inner : Prefix
  pub whole : P ≡ outer ++ bound ∷ inner
  pub var : bound.var ≡ v
  pub first : is_bound outer v ≡ false

pub split-at : (P : Prefix) (v : ℕ) → is_bound P v ≡ true → IsSplit P v
split-at [] v h = absurd (true≢false (sym h))
split-at (b ∷ P) v h = elim (bound-cases b P v h) [
  | inl e ↦ record { outer = []; bound = b; inner = P; whole = refl; var = e; first = refl }
  | inr k ↦
      let s = split-at P v k.1 in
      record {
        outer = b ∷ s.outer;
        bound = s.bound;
        inner = s.inner;
        whole = ap (λ (Q : Prefix). b ∷ Q) s.whole;
        var = s.var;
        first = (let f = s.first in let n = k.0 in grind (arith, nat_tests));
      }
]

pub removed-split : (A : Prefix) (b : Bound) (C : Prefix) (v : ℕ) → b.var ≡ v → is_bound A v ≡ false → removed_from v (A ++ b ∷ C) ≡ A ++ C
removed-split [] b C v e h = let z : eqb b.var v ≡ true = grind (arith, nat_tests) in rw z refl
removed-split (a ∷ A) b C v e h = go (eqb a.var v) refl h (removed-split A b C v e)
  where
    go : (s : Bool) → eqb a.var v ≡ s → cond s true (is_bound A v) ≡ false → (is_bound A v ≡ false → removed_from v (A ++ b ∷ C) ≡ A ++ C) → cond s (A ++ b ∷ C) (a ∷ removed_from v (A ++ b ∷ C)) ≡ a ∷ A ++ C
    go true q k ih = absurd (true≢false k)
    go false q k ih = ap (λ (Q : Prefix). a ∷ Q) (ih k)

pub inserted-split : (A : Prefix) (b : Bound) (C : Prefix) (w v : ℕ) → b.var ≡ w → is_bound A w ≡ false → insert_after w v (A ++ b ∷ C) ≡ A ++ b ∷ record { quant = Exists; var = v } ∷ C
inserted-split [] b C w v e h = let z : eqb b.var w ≡ true = grind (arith, nat_tests) in rw z refl
inserted-split (a ∷ A) b C w v e h = go (eqb a.var w) refl h (inserted-split A b C w v e)
  where
    go : (s : Bool) → eqb a.var w ≡ s → cond s true (is_bound A w) ≡ false → (is_bound A w ≡ false → insert_after w v (A ++ b ∷ C) ≡ A ++ b ∷ record { quant = Exists; var = v } ∷ C) → cond s (a ∷ record { quant = Exists; var = v } ∷ A ++ b ∷ C) (a ∷ insert_after w v (A ++ b ∷ C)) ≡ a ∷ A ++ b ∷ record { quant = Exists; var = v } ∷ C
    go true q k ih = absurd (true≢false k)
    go false q k ih = ap (λ (Q : Prefix). a ∷ Q) (ih k)

pub last-append : (A C : Prefix) (o : Option Bound) → last_or (A ++ C) o ≡ last_or C (last_or A o)
last-append [] C o = refl
last-append (b ∷ A) C o = last-append A C (Some b)

-- the last variable is in the prefix
pub last-bound : (b : Bound) (A : Prefix) (o : Option Bound) → (x : Bound) × (last_or (b ∷ A) o ≡ Some x) × (is_bound (b ∷ A) x.var ≡ true)
last-bound b [] o = (b, refl, is_bound-first b [])
last-bound b (c ∷ A) o = let r = last-bound c A (Some b) in (r.0, r.1, is_bound-later b (c ∷ A) r.0.var r.2)

-- distinct variables below a number are no more than it
pub few-below : (n : ℕ) (P : Prefix) → Distinct P → HaveRoom P n → length P ≤ n
few-below zero [] d h = omega arith
few-below zero (b ∷ P) d h = let z : b.var < 0 = h b.var (is_bound-first b P) in absurd (omega arith)
few-below (suc n) P d h = go (is_bound P n) refl (few-below n)
  where
    shorter : (Q : Prefix) (v : ℕ) → is_bound Q v ≡ true → length Q ≡ suc (length (removed_from v Q))
    shorter [] v i = absurd (true≢false (sym i))
    shorter (b ∷ Q) v i = turn (eqb b.var v) refl i (shorter Q v)
      where
        turn : (s : Bool) → eqb b.var v ≡ s → cond s true (is_bound Q v) ≡ true → (is_bound Q v ≡ true → length Q ≡ suc (length (removed_from v Q))) → suc (length Q) ≡ suc (length (cond s Q (b ∷ removed_from v Q)))
        turn true q k ih = refl
        turn false q k ih = ap suc (ih k)

    under : (Q : Prefix) → ((v : ℕ) → is_bound Q v ≡ true → v < suc n) → is_bound Q n ≡ false → HaveRoom Q n
    under Q g f v i = elim (cases_eq v n) [
      | inl e ↦ absurd (true≢false (sym i ∙ ap (is_bound Q) e ∙ f))
      | inr e ↦ let l : v < suc n = g v i in omega arith
    ]

    go : (b : Bool) → is_bound P n ≡ b → ((Q : Prefix) → Distinct Q → HaveRoom Q n → length Q ≤ n) → length P ≤ suc n
    go false e ih = let i : length P ≤ n = ih P d (under P h e) in omega arith
    go true e ih =
        let gone = removed-unbound n P d in
        let kept : (v : ℕ) → is_bound (removed_from n P) v ≡ true → v < suc n = λ v i. elim (cases_eq v n) [
          | inl q ↦ absurd (true≢false (sym i ∙ ap (is_bound (removed_from n P)) q ∙ gone))
          | inr q ↦ h v (sym (removed-is_bound n P v (ne_eqb v n q)) ∙ i)
        ] in
        let i : length (removed_from n P) ≤ n = ih (removed_from n P) (removed-distinct n P d) (under (removed_from n P) kept gone) in
        let s = shorter P n e in
        omega arith
