-- Existentials alone: a formula is true where some assignment satisfies its clauses.
use Rattle.std.proofs.Common.{◌≡◌, ℕ, Bool, true, false, cond, eqb, [], ◌∷◌, ◌++◌, inl, inr, arith, refl, sym, ap, ◌∙◌, subst, length}
use Rattle.q_logic.specs.declared.formulas.Quant.{Quant}
use Rattle.q_logic.specs.declared.formulas.Quant.TheVariants.{Exists, Forall}
use Rattle.q_logic.specs.Prelude.{Prefix, Clause, Matrix, PrenexFormula, is_bound, is_exists, Closed, clause_of, Assignment, ClauseTrue, signed, with_value, Holds}
use Rattle.q_logic.specs.Truth.{MatrixTrue, by_quant, Game}
use Rattle.q_logic.proofs.Common.{IsIn-clause_of, clause_of-IsIn, IsIn-append, IsIn-append_left, IsIn-append_right, MatrixTrue-agree}
use Rattle.q_miter.specs.Miters.{AllExist, in_order}

pub game-some : (P : Prefix) (W : Assignment → Type 0) (A : Assignment) → AllExist P → Game P W A → (B : Assignment) × W B
game-some [] W A e g = (A, g)
game-some (b ∷ P) W A (q, e) g = go b.quant q g (game-some P W (with_value A b.var false) e) (game-some P W (with_value A b.var true) e)
  where
    go : (t : Quant) → is_exists t ≡ true → by_quant t (Game P W (with_value A b.var false)) (Game P W (with_value A b.var true)) →
        (Game P W (with_value A b.var false) → (B : Assignment) × W B) → (Game P W (with_value A b.var true) → (B : Assignment) × W B) →
        (B : Assignment) × W B
    go Exists h (inl w) f k = f w
    go Exists h (inr w) f k = k w
    go Forall h w f k = absurd (cc)

pub some-game : (P : Prefix) (X : Matrix) (A B : Assignment) → AllExist P → ((x : ℕ) → is_bound P x ≡ false → A x ≡ B x) → MatrixTrue B X →
    Game P (λ C. MatrixTrue C X) A
some-game [] X A B e h w = MatrixTrue-agree B A X (λ x. sym (h x refl)) w
some-game (b ∷ P) X A B (q, e) h w =
    go b.quant q (B b.var) refl (λ v k. some-game P X (with_value A b.var v) B e k w)
  where
    outside : (v : Bool) → B b.var ≡ v → (x : ℕ) → is_bound P x ≡ false → with_value A b.var v x ≡ B x
    outside v z x n = at (eqb x b.var) refl
      where
        at : (t : Bool) → eqb x b.var ≡ t → cond t v (A x) ≡ B x
        at true r = let y : x ≡ b.var = grind arith in sym (ap B y ∙ z)
        at false r = h x (let k : eqb b.var x ≡ false = grind arith in rw k n)

    go : (t : Quant) → is_exists t ≡ true → (v : Bool) → B b.var ≡ v →
        ((v : Bool) → ((x : ℕ) → is_bound P x ≡ false → with_value A b.var v x ≡ B x) → Game P (λ C. MatrixTrue C X) (with_value A b.var v)) →
        by_quant t (Game P (λ C. MatrixTrue C X) (with_value A b.var false)) (Game P (λ C. MatrixTrue C X) (with_value A b.var true))
    go Exists k false z f = inl (f false (outside false z))
    go Exists k true z f = inr (f true (outside true z))
    go Forall k v z f = absurd (cc)

-- 0 outside the prefix
abbrev within : Prefix → Assignment → Assignment
within P B x = cond (is_bound P x) (B x) false

pub satisfied-holds : (G : PrenexFormula) (B : Assignment) → AllExist G.prefix → Closed G.prefix G.matrix → MatrixTrue B G.matrix → Holds G
satisfied-holds G B e closed t =
    some-game G.prefix G.matrix (λ x. false) (within G.prefix B) e (λ x n. rw n refl)
    (λ D m. let w : ClauseTrue B D = t D m in (
      w.0,
      w.1,
      let k : is_bound G.prefix w.0.var ≡ true = closed D m w.0 w.1 in
          subst (λ (v : Bool). signed w.0.negative (cond v (B w.0.var) false) ≡ true) (sym k) w.2,
    ))

pub holds-satisfied : (G : PrenexFormula) → AllExist G.prefix → Holds G → (B : Assignment) × MatrixTrue B G.matrix
holds-satisfied G e t = game-some G.prefix (λ C. MatrixTrue C G.matrix) (λ x. false) e t

-- Clauses in order.
clause-ordered : (A : Assignment) (D : Clause) → ClauseTrue A D → ClauseTrue A (clause_of D)
clause-ordered A D w = (w.0, clause_of-IsIn w.0 D w.1, w.2)

ordered-clause : (A : Assignment) (D : Clause) → ClauseTrue A (clause_of D) → ClauseTrue A D
ordered-clause A D w = (w.0, IsIn-clause_of w.0 D w.1, w.2)

pub true-first : (A : Assignment) (D : Clause) (X : Matrix) → ClauseTrue A D → MatrixTrue A X → MatrixTrue A (D ∷ X)
true-first A D X w t E (inl e) = subst (ClauseTrue A) (sym e) w
true-first A D X w t E (inr m) = t E m

pub true-append : (A : Assignment) (X Y : Matrix) → MatrixTrue A X → MatrixTrue A Y → MatrixTrue A (X ++ Y)
true-append A X Y s t D m = elim (IsIn-append D X Y m) [ inl i ↦ s D i | inr i ↦ t D i ]

pub append-left : (A : Assignment) (X Y : Matrix) → MatrixTrue A (X ++ Y) → MatrixTrue A X
append-left A X Y t D m = t D (IsIn-append_left D X Y m)

pub append-right : (A : Assignment) (X Y : Matrix) → MatrixTrue A (X ++ Y) → MatrixTrue A Y
append-right A X Y t D m = t D (IsIn-append_right D X Y m)

pub in_order-true : (A : Assignment) (X : Matrix) → MatrixTrue A (in_order X) → MatrixTrue A X
in_order-true A [] t = t
in_order-true A (D ∷ X) t =
    true-first A D X (ordered-clause A D (t (clause_of D) (inl refl))) (in_order-true A X (λ E m. t E (inr m)))

pub true-in_order : (A : Assignment) (X : Matrix) → MatrixTrue A X → MatrixTrue A (in_order X)
true-in_order A [] t = t
true-in_order A (D ∷ X) t =
    true-first A (clause_of D) (in_order X) (clause-ordered A D (t D (inl refl))) (true-in_order A X (λ E m. t E (inr m)))

pub length-in_order : (X : Matrix) → length (in_order X) ≡ length X
length-in_order [] = refl
length-in_order (D ∷ X) = let h = length-in_order X in omega arith
