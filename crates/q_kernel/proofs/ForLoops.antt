-- A `for` over an iterator that is seen as the list of what is left.
use Rattle.std.proofs.Common.{◌≡◌, ℕ, zero, suc, ◌<◌, All, Contains, List, [], ◌∷◌, ◌++◌, length, Option, Some, refl, sym, ◌∙◌, ap, subst, arith, length-append}
use Rattle.q_logic.specs.Prelude.{Literal, Clause, Slots, slot}
use Rattle.q_kernel.specs.Kernels.{Seen, HoldsLiteral}
use Rattle.q_kernel.specs.Visits.{IsLive, IsHolder}
use Rattle.std.specs.Iterator.{Yields, YieldsFirst}
use Rattle.std.proofs.lemmas.List.{append-nil}
use Rattle.std.proofs.lemmas.List.Elements.{All-contains}

abbrev pub firsts : List ℕ → Option ℕ → List ℕ → Type 0
firsts = YieldsFirst (λ rest. rest)

walked : (s xs t : List ℕ) → Yields firsts s xs t → s ≡ xs ++ t
walked s [] t y = y
walked s (x ∷ xs) t y = y.1 ∙ ap (λ (zs : List ℕ). x ∷ zs) (walked y.0 xs t y.2)

-- the item of this turn is one of the list
item-in : (xs : List ℕ) (d : ℕ) (u : List ℕ) → Contains (xs ++ d ∷ u) d
item-in [] d u = (0, omega arith, refl)
item-in (x ∷ xs) d u = let r = item-in xs d u in (suc r.0, (let h : r.0 < length (xs ++ d ∷ u) = r.1 in omega arith), r.2)

-- In a turn: what holds of all that the list has holds of the item.
pub turn : (Q : ℕ → Type 0) (xs : List ℕ) {L s t : List ℕ} {d : ℕ} {u : List ℕ} → All Q L → s ≡ L → Yields firsts s xs t → t ≡ d ∷ u → Q d
turn Q xs {L} {s} {t} {d} {u} h e y f = All-contains Q (xs ++ d ∷ u) d (subst (All Q) (sym e ∙ (walked s xs t y ∙ ap (λ (zs : List ℕ). xs ++ zs) f)) h) (item-in xs d u)

pub live-turn : (N : Slots) (xs : List ℕ) {L s t : List ℕ} {d : ℕ} {u : List ℕ} → All (λ c. IsLive N c) L → s ≡ L → Yields firsts s xs t → t ≡ d ∷ u → (C : Clause) × (slot N d ≡ Some C)
live-turn N xs {L} {s} {t} {d} {u} h e y f = let i : IsLive N d = turn (λ c. IsLive N c) xs h e y f in i.there

pub holder-turn : (k : Seen) (l : Literal) (xs : List ℕ) {L s t : List ℕ} {d : ℕ} {u : List ℕ} → All (λ c. IsHolder k l c) L → s ≡ L → Yields firsts s xs t → t ≡ d ∷ u → HoldsLiteral k d l
holder-turn k l xs {L} {s} {t} {d} {u} h e y f = let i : IsHolder k l d = turn (λ c. IsHolder k l c) xs h e y f in i.holds

-- Behind the loop: all have come.
pub all-came : (xs : List ℕ) {L s t : List ℕ} → s ≡ L → Yields firsts s xs t → t ≡ [] → xs ≡ L
all-came xs {L} {s} {t} e y f = sym (append-nil xs) ∙ (ap (λ (zs : List ℕ). xs ++ zs) (sym f) ∙ (sym (walked s xs t y) ∙ e))

-- Behind the loop: what holds of each item holds of each that the list has.
pub each-came : (P Q : ℕ → Type 0) (xs : List ℕ) {L s t : List ℕ} → ((c : ℕ) → P c → Contains L c) → s ≡ L → Yields firsts s xs t → t ≡ [] → All Q xs → (c : ℕ) → P c → Q c
each-came P Q xs {L} {s} {t} has e y f h c p = All-contains Q xs c h (subst (λ (zs : List ℕ). Contains zs c) (sym (all-came xs e y f)) (has c p))

-- What holds of all items so far holds of one more.
pub All-more : (Q : ℕ → Type 0) (xs : List ℕ) (d : ℕ) → All Q xs → Q d → All Q (xs ++ d ∷ [])
All-more Q [] d h q zero e b = q
All-more Q [] d h q (suc k) e b = absurd (omega arith)
All-more Q (x ∷ xs) d h q zero e b = h zero e (omega arith)
All-more Q (x ∷ xs) d h q (suc k) e b = All-more Q xs d (λ j f c. h (suc j) f (omega arith)) q k e (let n = length-append xs (d ∷ []) in omega arith)
