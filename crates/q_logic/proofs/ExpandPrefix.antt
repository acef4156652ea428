-- The prefix of an expansion: each copy stands in the block of its original.
use Rattle.std.proofs.Common.{◌≡◌, ◌≤◌, ◌<◌, ℕ, ◌+◌, Bool, true, false, cond, eqb, List, [], ◌∷◌, arith, refl, ◌∙◌, subst}
use Rattle.q_logic.specs.declared.formulas.Quant.{Quant}
use Rattle.q_logic.specs.Prelude.{Prefix, Matrix, is_bound, is_existential, is_universal, outer_or_same, run_to, Distinct, ProofStep, fresh, insert_after, formula_of, insert_all, in_list, copy_of}
use Rattle.q_logic.proofs.JustifiedRuns.{Reaches}
use Rattle.q_logic.proofs.Prefixes.{insert-is_bound, insert-is_existential, insert-itself, insert-distinct, insert-is_universal}
use Rattle.q_logic.proofs.PrefixOrder.{existential-is_bound}
use Rattle.q_logic.proofs.JustifiedRuns.{alike-refl}

run_to-insert : (q : Quant) (w v : ℕ) (P : Prefix) (a : ℕ) → is_existential P w ≡ true → eqb a v ≡ false → run_to q (insert_after w v P) a ≡ run_to q P a
run_to-insert q w v [] a e n = refl
run_to-insert q w v (b ∷ P) a e n = grind (arith, run_to-insert q w v P a)

pub insert-outer : (w v : ℕ) (P : Prefix) (a c : ℕ) → is_existential P w ≡ true → eqb a v ≡ false → eqb c v ≡ false → outer_or_same (insert_after w v P) a c ≡ outer_or_same P a c
insert-outer w v [] a c e n m = refl
insert-outer w v (b ∷ P) a c e n m = grind (arith, insert-outer w v P a c, run_to-insert b.quant w v P a)

pub outer_or_same-inner : (P : Prefix) (x u : ℕ) → is_bound P x ≡ true → is_bound P u ≡ true → outer_or_same P x u ≡ false → outer_or_same P u x ≡ true
outer_or_same-inner [] x u b c h = b
outer_or_same-inner (a ∷ P) x u b c h = grind (arith, outer_or_same-inner P x u)

pub insert-before : (w v : ℕ) (P : Prefix) → is_bound P v ≡ false → is_existential P w ≡ true → outer_or_same (insert_after w v P) w v ≡ true
insert-before w v [] n e = e
insert-before w v (b ∷ P) n e = grind (arith, insert-before w v P)

pub insert-same : (w v : ℕ) (P : Prefix) → is_bound P v ≡ false → is_existential P w ≡ true → outer_or_same (insert_after w v P) v w ≡ true
insert-same w v [] n e = e
insert-same w v (b ∷ P) n e = grind (arith, insert-same w v P)

-- No variable from t on.
abbrev pub Above : Prefix → ℕ → Type 0
Above P t = (w : ℕ) → t ≤ w → is_bound P w ≡ false

abbrev pub AllE : Prefix → List ℕ → Type 0
AllE P [] = Unit {0}
AllE P (x ∷ V) = (is_existential P x ≡ true) × AllE P V

abbrev pub Copies : (ℕ → ℕ → Type 0) → List ℕ → ℕ → Type 0
Copies Q [] t = Unit {0}
Copies Q (x ∷ V) t = Q x t × Copies Q V (t + 1)

pub below : (P : Prefix) (t w : ℕ) → Above P t → is_bound P w ≡ true → w < t
below P t w a b = let f : t ≤ w → is_bound P w ≡ false = a w in by f
  where
    by : (t ≤ w → is_bound P w ≡ false) → w < t
    by f = grind (arith, f)

pub above-insert : (P : Prefix) (x t : ℕ) → Above P t → Above (insert_after x t P) (t + 1)
above-insert P x t a w h = let n : eqb w t ≡ false = grind arith in insert-is_bound x t P w n ∙ a w (grind arith)

pub alle-insert : (P : Prefix) (x t : ℕ) (V : List ℕ) → Above P t → AllE P V → AllE (insert_after x t P) V
alle-insert P x t [] a h = tt
alle-insert P x t (y ∷ V) a h = let l : y < t = below P t y a (existential-is_bound P y h.0) in let n : eqb y t ≡ false = grind arith in (insert-is_existential x t P y n ∙ h.0, alle-insert P x t V a h.1)

pub inserted-is_existential : (V : List ℕ) (t : ℕ) (P : Prefix) → AllE P V → Above P t → (w : ℕ) → w < t → is_existential (insert_all V t P) w ≡ is_existential P w
inserted-is_existential [] t P h a w l = refl
inserted-is_existential (x ∷ V) t P h a w l = let n : eqb w t ≡ false = grind arith in inserted-is_existential V (t + 1) (insert_after x t P) (alle-insert P x t V a h.1) (above-insert P x t a) w (grind arith) ∙ insert-is_existential x t P w n

pub inserted-is_bound : (V : List ℕ) (t : ℕ) (P : Prefix) → AllE P V → Above P t → (w : ℕ) → w < t → is_bound (insert_all V t P) w ≡ is_bound P w
inserted-is_bound [] t P h a w l = refl
inserted-is_bound (x ∷ V) t P h a w l = let n : eqb w t ≡ false = grind arith in inserted-is_bound V (t + 1) (insert_after x t P) (alle-insert P x t V a h.1) (above-insert P x t a) w (grind arith) ∙ insert-is_bound x t P w n

pub inserted-is_universal : (V : List ℕ) (t : ℕ) (P : Prefix) → AllE P V → Above P t → (w : ℕ) → w < t → is_universal (insert_all V t P) w ≡ is_universal P w
inserted-is_universal [] t P h a w l = refl
inserted-is_universal (x ∷ V) t P h a w l = let n : eqb w t ≡ false = grind arith in inserted-is_universal V (t + 1) (insert_after x t P) (alle-insert P x t V a h.1) (above-insert P x t a) w (grind arith) ∙ insert-is_universal x t P w n

pub inserted-outer : (V : List ℕ) (t : ℕ) (P : Prefix) → AllE P V → Above P t → (v w : ℕ) → v < t → w < t → outer_or_same (insert_all V t P) v w ≡ outer_or_same P v w
inserted-outer [] t P h a v w k l = refl
inserted-outer (x ∷ V) t P h a v w k l = let m : eqb v t ≡ false = grind arith in let n : eqb w t ≡ false = grind arith in
    inserted-outer V (t + 1) (insert_after x t P) (alle-insert P x t V a h.1) (above-insert P x t a) v w (grind arith) (grind arith) ∙ insert-outer x t P v w h.0 m n

pub inserted-distinct : (V : List ℕ) (t : ℕ) (P : Prefix) → AllE P V → Above P t → Distinct P → Distinct (insert_all V t P)
inserted-distinct [] t P h a d = d
inserted-distinct (x ∷ V) t P h a d = inserted-distinct V (t + 1) (insert_after x t P) (alle-insert P x t V a h.1) (above-insert P x t a) (insert-distinct x t P (a t (grind arith)) d)

-- The copy of x: existential, in the block of x.
abbrev pub CopyOf : Prefix → ℕ → ℕ → Type 0
CopyOf Q x c = (is_existential Q c ≡ true) × (outer_or_same Q x c ≡ true) × (outer_or_same Q c x ≡ true)

pub inserted-copies : (V : List ℕ) (t : ℕ) (P : Prefix) → AllE P V → Above P t → Copies (CopyOf (insert_all V t P)) V t
inserted-copies [] t P h a = tt
inserted-copies (x ∷ V) t P h a = (here, inserted-copies V (t + 1) (insert_after x t P) (alle-insert P x t V a h.1) (above-insert P x t a))
  where
    P1 : Prefix
    P1 = insert_after x t P

    n : is_bound P t ≡ false
    n = a t (grind arith)

    l : x < t
    l = below P t x a (existential-is_bound P x h.0)

    e1 : AllE P1 V
    e1 = alle-insert P x t V a h.1

    a1 : Above P1 (t + 1)
    a1 = above-insert P x t a

    here : CopyOf (insert_all V (t + 1) P1) x t
    here =
        let l0 : x < t = l in
        let l1 : x < t + 1 = grind arith in
        let l2 : t < t + 1 = grind arith in (
          inserted-is_existential V (t + 1) P1 e1 a1 t l2 ∙ insert-itself x t P n h.0,
          inserted-outer V (t + 1) P1 e1 a1 x t l1 l2 ∙ insert-before x t P n h.0,
          inserted-outer V (t + 1) P1 e1 a1 t x l2 l1 ∙ insert-same x t P n h.0,
        )

abbrev pub freshes : List ℕ → ℕ → List ProofStep
freshes [] t = []
freshes (x ∷ V) t = fresh t x ∷ freshes V (t + 1)

pub reaches-freshes : (V : List ℕ) (t : ℕ) (P : Prefix) (X : Matrix) → AllE P V → Above P t → Reaches (formula_of P X) (freshes V t) (formula_of (insert_all V t P) X)
reaches-freshes [] t P X h a = (refl, alike-refl X)
reaches-freshes (x ∷ V) t P X h a = ((a t (grind arith), h.0), reaches-freshes V (t + 1) (insert_after x t P) X (alle-insert P x t V a h.1) (above-insert P x t a))

-- Copies by number.
pub copy_of-in : (Q : ℕ → ℕ → Type 0) (V : List ℕ) (t x : ℕ) → Copies Q V t → in_list x V ≡ true → Q x (copy_of V t x) × (t ≤ copy_of V t x)
copy_of-in Q [] t x c h = grind arith
copy_of-in Q (y ∷ V) t x c h = go (eqb y x) refl (λ k. copy_of-in Q V (t + 1) x c.1 k)
  where
    go : (b : Bool) → eqb y x ≡ b → (in_list x V ≡ true → Q x (copy_of V (t + 1) x) × (t + 1 ≤ copy_of V (t + 1) x)) → Q x (cond b t (copy_of V (t + 1) x)) × (t ≤ cond b t (copy_of V (t + 1) x))
    go true q ih = let e : y ≡ x = grind arith in (subst (λ z. Q z t) e c.0, grind arith)
    go false q ih = let r : Q x (copy_of V (t + 1) x) × (t + 1 ≤ copy_of V (t + 1) x) = ih (grind arith) in let l : t + 1 ≤ copy_of V (t + 1) x = r.1 in (r.0, grind arith)

pub copy_of-out : (V : List ℕ) (t x : ℕ) → in_list x V ≡ false → copy_of V t x ≡ x
copy_of-out [] t x h = refl
copy_of-out (y ∷ V) t x h = let i : copy_of V (t + 1) x ≡ x = copy_of-out V (t + 1) x (grind arith) in let n : eqb y x ≡ false = grind arith in rw n i
