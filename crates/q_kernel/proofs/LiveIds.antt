-- The ids that a walk over the live clauses has still to give.
use Rattle.std.proofs.Common.{◌≡◌, ℕ, zero, suc, ◌+◌, ◌<◌, ◌≤◌, All, Contains, List, [], ◌∷◌, ◌++◌, length, drop, Option, None, Some, refl, sym, ◌∙◌, ap, subst, inl, inr, arith}
use Rattle.std.proofs.Math.Seq.{drop-drop}
use Rattle.std.proofs.lemmas.Option.{none-some}
use Rattle.q_logic.specs.Prelude.{Clause, Matrix, Slots, slot, live, clauses_at, put_first}
use Rattle.q_arena.specs.Prelude.{Has, AreApart}
use Rattle.q_arena.proofs.RingPaths.{Misses-from}
use Rattle.q_kernel.specs.Visits.{IsLive, AreOnce, live_from}
use Rattle.q_kernel.proofs.DistinctMembers.{once-apart}

slot-drop : (N : Slots) (from j : ℕ) → slot (drop from N) j ≡ slot N (from + j)
slot-drop N zero j = ap (slot N) (omega arith)
slot-drop [] (suc from) j = refl
slot-drop (o ∷ N) (suc from) j = slot-drop N from j ∙ ap (slot (o ∷ N)) (the from j)
  where
    the : (a b : ℕ) → suc (a + b) ≡ suc a + b
    the a b = omega arith

beyond : (a b : ℕ) → a ≤ b → (j : ℕ) × (b ≡ a + j)
beyond zero b h = (b, omega arith)
beyond (suc a) zero h = absurd (omega arith)
beyond (suc a) (suc b) h = let r = beyond a b (omega arith) in (r.0, omega (arith, r.1))

first-live : (N : Slots) (b j id : ℕ) (C : Clause) → id ≡ b + j → slot N j ≡ Some C → ((c : ℕ) → c < j → slot N c ≡ None) → live_from b N ≡ id ∷ live_from (id + 1) (drop (suc j) N)
first-live [] b j id C q e f = absurd (none-some C e)
first-live (None ∷ N) b zero id C q e f = absurd (none-some C e)
first-live (Some D ∷ N) b zero id C q e f = ap (λ (n : ℕ). n ∷ live_from (n + 1) N) (omega (arith, q))
first-live (None ∷ N) b (suc j) id C q e f = first-live N (b + 1) j id C (omega (arith, q)) e (λ c h. f (suc c) (omega arith))
first-live (Some D ∷ N) b (suc j) id C q e f = absurd (none-some D (sym (f zero (omega arith))))

none-live : (N : Slots) (b : ℕ) → ((c : ℕ) → slot N c ≡ None) → live_from b N ≡ []
none-live [] b f = refl
none-live (None ∷ N) b f = none-live N (b + 1) (λ c. f (suc c))
none-live (Some D ∷ N) b f = absurd (none-some D (sym (f zero)))

-- The next live id comes, and then those after it.
pub ids-step : (N : Slots) (from id : ℕ) (C : Clause) → from ≤ id → slot N id ≡ Some C → ((c : ℕ) → from ≤ c → c < id → slot N c ≡ None) → live_from from (drop from N) ≡ id ∷ live_from (id + 1) (drop (id + 1) N)
ids-step N from id C h e f = go (beyond from id h)
  where
    go : (r : (j : ℕ) × (id ≡ from + j)) → live_from from (drop from N) ≡ id ∷ live_from (id + 1) (drop (id + 1) N)
    go r =
        let j = r.0 in
        let here : slot (drop from N) j ≡ Some C = slot-drop N from j ∙ (ap (slot N) (sym r.1) ∙ e) in
        let before : (c : ℕ) → c < j → slot (drop from N) c ≡ None = λ c b. slot-drop N from c ∙ f (from + c) (omega arith) (omega (arith, r.1)) in
        let rest : drop (suc j) (drop from N) ≡ drop (id + 1) N = drop-drop (suc j) from N ∙ ap (λ (n : ℕ). drop n N) (omega (arith, r.1)) in
        first-live (drop from N) from j id C r.1 here before ∙ ap (λ (M : Slots). id ∷ live_from (id + 1) M) rest

pub ids-end : (N : Slots) (from : ℕ) → ((c : ℕ) → from ≤ c → slot N c ≡ None) → live_from from (drop from N) ≡ []
ids-end N from f = none-live (drop from N) from (λ c. slot-drop N from c ∙ f (from + c) (omega arith))

-- What the ids are.
pub ids-all : (Q : ℕ → Type 0) (N : Slots) (b : ℕ) → ((j : ℕ) (C : Clause) → slot N j ≡ Some C → Q (b + j)) → All Q (live_from b N)
ids-all Q [] b f k d h = absurd (omega arith)
ids-all Q (None ∷ N) b f k d h = ids-all Q N (b + 1) (λ j C e. subst Q (the b j) (f (suc j) C e)) k d h
  where
    the : (b j : ℕ) → b + suc j ≡ b + 1 + j
    the b j = omega arith
ids-all Q (Some D ∷ N) b f zero d h = subst Q (the b) (f zero D refl)
  where
    the : (b : ℕ) → b + zero ≡ b
    the b = omega arith
ids-all Q (Some D ∷ N) b f (suc k) d h = ids-all Q N (b + 1) (λ j C e. subst Q (the b j) (f (suc j) C e)) k d (omega arith)
  where
    the : (b j : ℕ) → b + suc j ≡ b + 1 + j
    the b j = omega arith

pub ids-has : (N : Slots) (b j id : ℕ) (C : Clause) → id ≡ b + j → slot N j ≡ Some C → Contains (live_from b N) id
ids-has [] b j id C q e = absurd (none-some C e)
ids-has (None ∷ N) b zero id C q e = absurd (none-some C e)
ids-has (Some D ∷ N) b zero id C q e = (0, omega arith, omega (arith, q))
ids-has (None ∷ N) b (suc j) id C q e = ids-has N (b + 1) j id C (omega (arith, q)) e
ids-has (Some D ∷ N) b (suc j) id C q e = let r = ids-has N (b + 1) j id C (omega (arith, q)) e in (suc r.0, (let h : r.0 < length (live_from (b + 1) N) = r.1 in omega arith), r.2)

ids-above : (N : Slots) (b c : ℕ) → Has (live_from b N) c → b ≤ c
ids-above [] b c h = absurd h
ids-above (None ∷ N) b c h = let i : b + 1 ≤ c = ids-above N (b + 1) c h in omega arith
ids-above (Some D ∷ N) b c (inl e) = omega (arith, e)
ids-above (Some D ∷ N) b c (inr h) = let i : b + 1 ≤ c = ids-above N (b + 1) c h in omega arith

pub ids-once : (N : Slots) (b : ℕ) → AreApart (live_from b N)
ids-once [] b = tt
ids-once (None ∷ N) b = ids-once N (b + 1)
ids-once (Some D ∷ N) b = (Misses-from b (live_from (b + 1) N) (λ h. let i : b + 1 ≤ b = ids-above N (b + 1) b h in absurd (omega arith)), ids-once N (b + 1))

-- The same of those from a number on.
pub since-live : (N : Slots) (from : ℕ) → All (λ c. IsLive N c) (live_from from (drop from N))
since-live N from = ids-all (λ c. IsLive N c) (drop from N) from (λ j C e. record { there = (C, sym (slot-drop N from j) ∙ e) })

pub since-above : (N : Slots) (from : ℕ) → All (λ c. from ≤ c) (live_from from (drop from N))
since-above N from = ids-all (λ c. from ≤ c) (drop from N) from (λ j C e. omega arith)

pub since-all : (N : Slots) (from c : ℕ) → from ≤ c → IsLive N c → Contains (live_from from (drop from N)) c
since-all N from c h i = let r = beyond from c h in ids-has (drop from N) from r.0 c i.there.0 r.1 (slot-drop N from r.0 ∙ (ap (slot N) (sym r.1) ∙ i.there.1))

pub since-once : (N : Slots) (from : ℕ) → AreOnce (live_from from (drop from N))
since-once N from = once-apart (live_from from (drop from N)) (ids-once (drop from N) from)

-- The clauses of the ids are those of the formula, in their order.
clauses-from : (N M : Slots) (b : ℕ) → ((j : ℕ) → slot N (b + j) ≡ slot M j) → clauses_at N (live_from b M) ≡ live M
clauses-from N [] b f = refl
clauses-from N (None ∷ M) b f = clauses-from N M (b + 1) (λ j. ap (slot N) (the b j) ∙ f (suc j))
  where
    the : (b j : ℕ) → b + 1 + j ≡ b + suc j
    the b j = omega arith
clauses-from N (Some C ∷ M) b f =
    ap (λ (o : Option Clause). put_first o (clauses_at N (live_from (b + 1) M))) (ap (slot N) (zeroth b) ∙ f zero)
    ∙ ap (λ (X : Matrix). C ∷ X) (clauses-from N M (b + 1) (λ j. ap (slot N) (the b j) ∙ f (suc j)))
  where
    the : (b j : ℕ) → b + 1 + j ≡ b + suc j
    the b j = omega arith

    zeroth : (b : ℕ) → b ≡ b + zero
    zeroth b = omega arith

pub clauses-live : (N : Slots) → clauses_at N (live_from 0 N) ≡ live N
clauses-live N = clauses-from N N 0 (λ j. ap (slot N) (the j))
  where
    the : (j : ℕ) → 0 + j ≡ j
    the j = omega arith

pub clauses-more : (N : Slots) (xs : List ℕ) (d : ℕ) (C : Clause) → slot N d ≡ Some C → clauses_at N (xs ++ d ∷ []) ≡ clauses_at N xs ++ C ∷ []
clauses-more N [] d C e = ap (λ (o : Option Clause). put_first o []) e
clauses-more N (x ∷ xs) d C e = go (slot N x) (clauses-more N xs d C e)
  where
    go : (o : Option Clause) → clauses_at N (xs ++ d ∷ []) ≡ clauses_at N xs ++ C ∷ [] → put_first o (clauses_at N (xs ++ d ∷ [])) ≡ put_first o (clauses_at N xs) ++ C ∷ []
    go None h = h
    go (Some D) h = ap (λ (X : Matrix). D ∷ X) h
