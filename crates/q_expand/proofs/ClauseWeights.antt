-- Weights of clauses, by ids and in all.
use Rattle.std.proofs.Common.{◌≡◌, ◌≤◌, ℕ, zero, suc, ◌+◌, List, [], ◌∷◌, ◌++◌, sym, ◌∙◌, ap, subst, refl, inl, inr, arith, Some, None, Option}
use Rattle.std.proofs.lemmas.Bool.{cases_eq}
use Rattle.q_logic.specs.Prelude.{Clause, Matrix, IsIn, Slots, slot, set_slot, live}
use Rattle.q_kernel.specs.Lists.{Has, Misses, AreApart}
use Rattle.q_logic.proofs.Common.{weight, slot-set_other, slot-set_none}
use Rattle.q_logic.proofs.HintChains.{live-number}
use Rattle.q_expand.specs.Dependents.{weigh, tally}

pub tally-append : (w : Clause → ℕ) (N : Slots) (xs ys : List ℕ) → tally w N (xs ++ ys) ≡ tally w N xs + tally w N ys
tally-append w N [] ys = omega arith
tally-append w N (x ∷ xs) ys = let i = tally-append w N xs ys in omega arith

pub tally-end : (w : Clause → ℕ) (N : Slots) (xs : List ℕ) (c : ℕ) (C : Clause) → slot N c ≡ Some C → tally w N (xs ++ c ∷ []) ≡ tally w N xs + w C
tally-end w N xs c C e = let i = tally-append w N xs (c ∷ []) in let j : weigh w (slot N c) ≡ w C = ap (weigh w) e in omega arith

pub weight-gone : (w : Clause → ℕ) (N : Slots) (c : ℕ) → weight w (live N) ≡ weigh w (slot N c) + weight w (live (set_slot c None N))
weight-gone w [] c = omega arith
weight-gone w (None ∷ N) zero = omega arith
weight-gone w (Some C ∷ N) zero = refl
weight-gone w (None ∷ N) (suc c) = weight-gone w N c
weight-gone w (Some C ∷ N) (suc c) = let i = weight-gone w N c in omega arith

pub tally-without : (w : Clause → ℕ) (N : Slots) (c : ℕ) (cs : List ℕ) → Misses c cs → tally w (set_slot c None N) cs ≡ tally w N cs
tally-without w N c [] m = refl
tally-without w N c (d ∷ cs) m =
    let e : slot (set_slot c None N) d ≡ slot N d = slot-set_other c d None N (λ z. m.0 (sym z)) in
    let i = tally-without w N c cs m.1 in
    ap (λ (n : ℕ). n + tally w (set_slot c None N) cs) (ap (weigh w) e) ∙ ap (λ (n : ℕ). weigh w (slot N d) + n) i

-- some ids weigh no more than all
pub tally-most : (w : Clause → ℕ) (cs : List ℕ) (N : Slots) → AreApart cs → tally w N cs ≤ weight w (live N)
tally-most w [] N a = omega arith
tally-most w (c ∷ cs) N a =
    let i = tally-most w cs (set_slot c None N) a.1 in
    let e = tally-without w N c cs a.0 in
    let f = weight-gone w N c in
    omega arith

none-weighs : (w : Clause → ℕ) (X : Matrix) → ((C : Clause) → IsIn C X → w C ≡ 0) → weight w X ≡ 0
none-weighs w [] h = refl
none-weighs w (C ∷ X) h = let i = none-weighs w X (λ D m. h D (inr m)) in let e = h C (inl refl) in omega arith

pub slot-fewer : (c d : ℕ) (N : Slots) (C : Clause) → slot (set_slot c None N) d ≡ Some C → (d ≡ c → ⊥) × (slot N d ≡ Some C)
slot-fewer c d N C e = elim (cases_eq d c) [
  | inl f ↦ absurd (none_some C (sym (subst (λ (x : ℕ). slot (set_slot c None N) x ≡ None) (sym f) (slot-set_none c N)) ∙ e))
  | inr n ↦ (n, sym (slot-set_other c d None N n) ∙ e)
]
  where
    none_some : (C : Clause) → None ≡ Some C → ⊥
    none_some C e = cc

-- ids that have all that weighs anything weigh as much as all
pub tally-all : (w : Clause → ℕ) (cs : List ℕ) (N : Slots) → AreApart cs → ((c : ℕ) (C : Clause) → slot N c ≡ Some C → (Has cs c → ⊥) → w C ≡ 0) → tally w N cs ≡ weight w (live N)
tally-all w [] N a h = sym (none-weighs w (live N) (λ C m. let r = live-number N C m in h r.0 C r.1 (λ x. x)))
tally-all w (c ∷ cs) N a h =
    let i = tally-all w cs (set_slot c None N) a.1 (λ d C e n. let r = slot-fewer c d N C e in h d C r.1 (λ m. elim m [ inl f ↦ r.0 f | inr g ↦ n g ])) in
    let e = tally-without w N c cs a.0 in
    let f = weight-gone w N c in
    omega arith

-- where two weights agree on the clauses of the ids
pub tally-same : (v w : Clause → ℕ) (cs : List ℕ) (N : Slots) → ((c : ℕ) (C : Clause) → Has cs c → slot N c ≡ Some C → v C ≡ w C) → tally v N cs ≡ tally w N cs
tally-same v w [] N h = refl
tally-same v w (c ∷ cs) N h =
    let i = tally-same v w cs N (λ d C m e. h d C (inr m) e) in
    let f = one (slot N c) refl in
    omega arith
  where
    one : (o : Option Clause) → slot N c ≡ o → weigh v (slot N c) ≡ weigh w (slot N c)
    one None e = ap (weigh v) e ∙ sym (ap (weigh w) e)
    one (Some C) e = ap (weigh v) e ∙ (h c C (inl refl) e ∙ sym (ap (weigh w) e))
