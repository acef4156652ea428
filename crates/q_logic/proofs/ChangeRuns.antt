-- Runs of deletions, additions, replacements and drops, without a name for the matrices in between.
use Rattle.std.proofs.Common.{◌≡◌, true, List, [], ◌∷◌, ◌++◌, ◌⊎◌, inl, inr, refl, sym, ap, subst, Option, Some, None}
use Rattle.q_logic.specs.Prelude.{Literal, Clause, Matrix, Prefix, IsIn, PrenexFormula, is_bound, Implied, ForallPivot, without, Reducible, ProofStep, add, delete, drop_literal, FirstPivot, copies, formula_of}
use Rattle.q_logic.proofs.JustifiedRuns.{SameClauses, Reaches}
use Rattle.q_logic.proofs.ClauseLemmas.{IsIn-append_left, IsIn-append, IsIn-append_right}
use Rattle.q_logic.proofs.JustifiedRuns.{one_less-first, alike-refl, reaches-alike, alike-trans, alike-sym, alike-swap, alike-cons, reaches-end}

abbrev pub Each : {X : Type 0} → (X → Type 0) → List X → Type 0
Each Q [] = Unit {0}
Each Q (x ∷ xs) = Q x × Each Q xs

abbrev pub deletes : (Clause → Option Literal) → Matrix → List ProofStep
deletes p [] = []
deletes p (C ∷ X) = delete (p C) C ∷ deletes p X

-- Valid to delete over Y.
abbrev pub MayGo : Prefix → (Clause → Option Literal) → Clause → Matrix → Type 0
MayGo P p C Y = Implied Y C ⊎ FirstPivot P Y C (p C)

pub step-first : (P : Prefix) (p : Option Literal) (C : Clause) (X : Matrix) (ss : List ProofStep) (G : PrenexFormula) → Implied X C ⊎ FirstPivot P X C p → Reaches (formula_of P X) ss G → Reaches (formula_of P (C ∷ X)) (delete p C ∷ ss) G
step-first P p C X ss G h r = ((inl refl, subst (λ Y. Implied Y C ⊎ FirstPivot P Y C p) (sym (one_less-first C X)) h), subst (λ Y. Reaches (formula_of P Y) ss G) (sym (one_less-first C X)) r)

-- The clauses X go, one after the other, and Y stays.
pub reaches-deletes : (P : Prefix) (p : Clause → Option Literal) (X Y : Matrix) → ((C : Clause) → IsIn C X → (Z : Matrix) → ((D : Clause) → IsIn D Y → IsIn D Z) → ((D : Clause) → IsIn D Z → IsIn D (X ++ Y)) → MayGo P p C Z) → Reaches (formula_of P (X ++ Y)) (deletes p X) (formula_of P Y)
reaches-deletes P p [] Y h = (refl, alike-refl Y)
reaches-deletes P p (C ∷ X) Y h = step-first P (p C) C (X ++ Y) (deletes p X) (formula_of P Y) (h C (inl refl) (X ++ Y) (λ D m. there D m) (λ D m. inr m))
    (reaches-deletes P p X Y (λ D m Z f g. h D (inr m) Z f (λ E n. inr (g E n))))
  where
    there : (D : Clause) → IsIn D Y → IsIn D (X ++ Y)
    there D m = go X
      where
        go : (W : Matrix) → IsIn D (W ++ Y)
        go [] = m
        go (E ∷ W) = inr (go W)

abbrev pub adds : (Clause → Option Literal) → Matrix → List ProofStep
adds p [] = []
adds p (C ∷ X) = add (p C) C ∷ adds p X

pub alike-turned : (C : Clause) (X Y : Matrix) → SameClauses (X ++ (C ∷ Y)) (C ∷ (X ++ Y))
alike-turned C [] Y = alike-refl (C ∷ Y)
alike-turned C (D ∷ X) Y = alike-trans (D ∷ (X ++ (C ∷ Y))) (D ∷ C ∷ (X ++ Y)) (C ∷ D ∷ (X ++ Y)) (alike-cons D (X ++ (C ∷ Y)) (C ∷ (X ++ Y)) (alike-turned C X Y)) (alike-swap D C (X ++ Y))

-- The clauses X come.
pub reaches-adds : (P : Prefix) (p : Clause → Option Literal) (X Y : Matrix) → ((C : Clause) → IsIn C X → (k : Literal) → IsIn k C → is_bound P k.var ≡ true) → ((C : Clause) → IsIn C X → (Z : Matrix) → ((D : Clause) → IsIn D Y → IsIn D Z) → ((D : Clause) → IsIn D Z → IsIn D (X ++ Y)) → MayGo P p C Z) → Reaches (formula_of P Y) (adds p X) (formula_of P (X ++ Y))
reaches-adds P p [] Y w h = (refl, alike-refl Y)
reaches-adds P p (C ∷ X) Y w h = (
  (w C (inl refl), h C (inl refl) Y (λ D m. m) (λ D m. inr (there D m))),
  reaches-end P (X ++ (C ∷ Y)) ((C ∷ X) ++ Y) (formula_of P (C ∷ Y)) (adds p X) (alike-turned C X Y)
      (reaches-adds P p X (C ∷ Y) (λ D m. w D (inr m)) (λ D m Z f g. h D (inr m) Z (λ E n. f E (inr n)) (λ E n. turned E (g E n)))),
)
  where
    there : (D : Clause) → IsIn D Y → IsIn D (X ++ Y)
    there D m = go X
      where
        go : (W : Matrix) → IsIn D (W ++ Y)
        go [] = m
        go (E ∷ W) = inr (go W)

    turned : (D : Clause) → IsIn D (X ++ (C ∷ Y)) → IsIn D (C ∷ (X ++ Y))
    turned D m = elim (IsIn-append D X (C ∷ Y) m) [ inl a ↦ inr (IsIn-append_left D X Y a) | inr (inl e) ↦ inl e | inr (inr a) ↦ inr (there D a) ]

abbrev pub mapped : (Clause → Clause) → Matrix → Matrix
mapped f [] = []
mapped f (C ∷ X) = f C ∷ mapped f X

abbrev pub least : Clause → Option Literal
least [] = None
least (k ∷ C) = Some k

abbrev pub replaces : (Clause → Clause) → Matrix → List ProofStep
replaces f [] = []
replaces f (C ∷ X) = add (least (f C)) (f C) ∷ delete (least C) C ∷ replaces f X

pub IsIn-turned : (C : Clause) (X Y : Matrix) (D : Clause) → IsIn D (X ++ (C ∷ Y)) → IsIn D (C ∷ (X ++ Y))
IsIn-turned C X Y D m = elim (IsIn-append D X (C ∷ Y) m) [ inl a ↦ inr (IsIn-append_left D X Y a) | inr (inl e) ↦ inl e | inr (inr a) ↦ inr (IsIn-append_right D X Y a) ]

-- Each clause of X becomes another one.
pub reaches-replaces : (P : Prefix) (f : Clause → Clause) (X Y : Matrix)
    → ((C : Clause) → IsIn C X → (k : Literal) → IsIn k (f C) → is_bound P k.var ≡ true)
    → ((C : Clause) → IsIn C X → (Z : Matrix) → IsIn C Z → ((D : Clause) → IsIn D Y → IsIn D Z) → Implied Z (f C))
    → ((C : Clause) → IsIn C X → (Z : Matrix) → IsIn (f C) Z → ((D : Clause) → IsIn D Y → IsIn D Z) → Implied Z C)
    → Reaches (formula_of P (X ++ Y)) (replaces f X) (formula_of P (mapped f X ++ Y))
reaches-replaces P f [] Y w h g = (refl, alike-refl Y)
reaches-replaces P f (C ∷ X) Y w h g = (
  (w C (inl refl), inl (h C (inl refl) (C ∷ (X ++ Y)) (inl refl) (λ D m. inr (IsIn-append_right D X Y m)))),
  reaches-alike P (C ∷ f C ∷ (X ++ Y)) (f C ∷ C ∷ (X ++ Y)) (delete (least C) C ∷ replaces f X) (formula_of P (mapped f (C ∷ X) ++ Y)) (alike-swap C (f C) (X ++ Y))
      (step-first P (least C) C (f C ∷ (X ++ Y)) (replaces f X) (formula_of P (mapped f (C ∷ X) ++ Y))
      (inl (g C (inl refl) (f C ∷ (X ++ Y)) (inl refl) (λ D m. inr (IsIn-append_right D X Y m))))
      (reaches-alike P (X ++ (f C ∷ Y)) (f C ∷ (X ++ Y)) (replaces f X) (formula_of P (mapped f (C ∷ X) ++ Y)) (alike-turned (f C) X Y)
      (reaches-end P (mapped f X ++ (f C ∷ Y)) (mapped f (C ∷ X) ++ Y) (formula_of P (X ++ (f C ∷ Y))) (replaces f X) (alike-turned (f C) (mapped f X) Y)
      (reaches-replaces P f X (f C ∷ Y) (λ D m. w D (inr m)) (λ D m Z i s. h D (inr m) Z i (λ E n. s E (inr n))) (λ D m Z i s. g D (inr m) Z i (λ E n. s E (inr n))))))),
)

abbrev pub drops : Literal → Matrix → List ProofStep
drops l [] = []
drops l (C ∷ X) = drop_literal l C ∷ drops l X

abbrev pub MayDrop : Prefix → Literal → Clause → Matrix → Type 0
MayDrop P l C Y = ForallPivot P Y C l ⊎ Reducible P Y C l

-- The literal l goes from each clause of X.
pub reaches-drops : (P : Prefix) (l : Literal) (X Y : Matrix)
    → ((C : Clause) → IsIn C X → (Z : Matrix) → ((D : Clause) → IsIn D Z → IsIn D (mapped (without l) X ++ (X ++ Y))) → MayDrop P l C Z)
    → Reaches (formula_of P (X ++ Y)) (drops l X) (formula_of P (mapped (without l) X ++ Y))
reaches-drops P l [] Y h = (refl, alike-refl Y)
reaches-drops P l (C ∷ X) Y h = (
  (inl refl, subst (λ W. MayDrop P l C W) (sym (one_less-first C (X ++ Y))) (h C (inl refl) (X ++ Y) (λ D m. inr (IsIn-append_right D (mapped (without l) X) ((C ∷ X) ++ Y) (inr m))))),
  subst (λ W. Reaches (formula_of P (without l C ∷ W)) (drops l X) (formula_of P (mapped (without l) (C ∷ X) ++ Y))) (sym (one_less-first C (X ++ Y)))
      (reaches-alike P (X ++ (without l C ∷ Y)) (without l C ∷ (X ++ Y)) (drops l X) (formula_of P (mapped (without l) (C ∷ X) ++ Y)) (alike-turned (without l C) X Y)
      (reaches-end P (mapped (without l) X ++ (without l C ∷ Y)) (mapped (without l) (C ∷ X) ++ Y) (formula_of P (X ++ (without l C ∷ Y))) (drops l X) (alike-turned (without l C) (mapped (without l) X) Y)
      (reaches-drops P l X (without l C ∷ Y) (λ D m Z s. h D (inr m) Z (λ E n. place E (s E n)))))),
)
  where
    place : (E : Clause) → IsIn E (mapped (without l) X ++ (X ++ (without l C ∷ Y))) → IsIn E (mapped (without l) (C ∷ X) ++ ((C ∷ X) ++ Y))
    place E m = elim (IsIn-append E (mapped (without l) X) (X ++ (without l C ∷ Y)) m) [
      | inl a ↦ inr (IsIn-append_left E (mapped (without l) X) ((C ∷ X) ++ Y) a)
      | inr b ↦ elim (IsIn-turned (without l C) X Y E b) [ inl e ↦ inl e | inr n ↦ inr (IsIn-append_right E (mapped (without l) X) ((C ∷ X) ++ Y) (inr n)) ]
    ]

-- One step.
pub reaches-delete : (P : Prefix) (p : Option Literal) (C : Clause) (X W : Matrix) → SameClauses W (C ∷ X) → Implied X C ⊎ FirstPivot P X C p → Reaches (formula_of P W) (delete p C ∷ []) (formula_of P X)
reaches-delete P p C X W a h = reaches-alike P (C ∷ X) W (delete p C ∷ []) (formula_of P X) (alike-sym W (C ∷ X) a) (step-first P p C X [] (formula_of P X) h (refl, alike-refl X))

pub reaches-drop : (P : Prefix) (l : Literal) (C : Clause) (X W : Matrix) → SameClauses W (C ∷ X) → MayDrop P l C X → Reaches (formula_of P W) (drop_literal l C ∷ []) (formula_of P (without l C ∷ X))
reaches-drop P l C X W a h = reaches-alike P (C ∷ X) W (drop_literal l C ∷ []) (formula_of P (without l C ∷ X)) (alike-sym W (C ∷ X) a)
    ((inl refl, subst (λ Y. MayDrop P l C Y) (sym (one_less-first C X)) h), (refl, λ D. ap (λ Y. copies D (without l C ∷ Y)) (one_less-first C X)))

pub reaches-replace : (P : Prefix) (C D : Clause) (X W : Matrix) → SameClauses W (C ∷ X) → ((k : Literal) → IsIn k D → is_bound P k.var ≡ true) → Implied (C ∷ X) D → Implied (D ∷ X) C → Reaches (formula_of P W) (add (least D) D ∷ delete (least C) C ∷ []) (formula_of P (D ∷ X))
reaches-replace P C D X W a w h g = reaches-alike P (C ∷ X) W (add (least D) D ∷ delete (least C) C ∷ []) (formula_of P (D ∷ X)) (alike-sym W (C ∷ X) a)
    ((w, inl h), reaches-delete P (least C) C (D ∷ X) (D ∷ C ∷ X) (alike-swap D C X) (inl g))
