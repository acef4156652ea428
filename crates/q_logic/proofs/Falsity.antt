-- A formula is false exactly where it has Herbrand functions.
use Rattle.std.proofs.Common.{◌≡◌, ◌↔◌, ℕ, Bool, true, false, [], ◌∷◌, ◌⊎◌, inl, inr, arith, refl, sym, ap, ◌∙◌, subst}
use Rattle.q_logic.specs.declared.formulas.Quant.{Quant}
use Rattle.q_logic.specs.declared.formulas.Quant.TheVariants.{Exists, Forall}
use Rattle.q_logic.specs.Prelude.{Prefix, Clause, Matrix, PrenexFormula, is_bound, IsFormula, Closed, Strategy, outcome, Lawful}
use Rattle.q_logic.specs.Truth.{Assignment, ClauseTrue, MatrixTrue, signed, with_value, by_quant, Game, Holds, clause_true}
use Rattle.q_logic.specs.Herbrands.{MatrixFalse, HerbrandOf}
use Rattle.q_logic.specs.Exchanging.{other_quant, exchanged}
use Rattle.q_logic.proofs.TruthDecided.{clause_true-sound, clause_true-complete}
use Rattle.q_logic.proofs.Truth.{game_has-strategy, strategy_wins-game}
use Rattle.q_logic.proofs.Exchanged.{exchanged-bound, exchanged-distinct, lawful-exchanged, exchanged-lawful}

pub matrix_either : (A : Assignment) (X : Matrix) → MatrixTrue A X ⊎ MatrixFalse A X
matrix_either A [] = inl (λ D m. elim m [ ])
matrix_either A (C ∷ X) = go (clause_true A C) refl (matrix_either A X)
  where
    first : ClauseTrue A C → MatrixTrue A X → MatrixTrue A (C ∷ X)
    first t r D (inl e) = subst (ClauseTrue A) (sym e) t
    first t r D (inr m) = r D m

    go : (b : Bool) → clause_true A C ≡ b → MatrixTrue A X ⊎ MatrixFalse A X →
        MatrixTrue A (C ∷ X) ⊎ MatrixFalse A (C ∷ X)
    go true e (inl t) = inl (first (clause_true-sound A C e) t)
    go true e (inr f) = inr (f.0, inr f.1, f.2)
    go false e r = inr (C, inl refl, λ t. let z : clause_true A C ≡ true = clause_true-complete A C t in grind arith)

-- One side wins the game, for any end that is decided.
either_by : (q : Quant) (S T U V : Type 0) → S ⊎ U → T ⊎ V → by_quant q S T ⊎ by_quant (other_quant q) U V
either_by Exists S T U V (inl s) r = inl (inl s)
either_by Exists S T U V (inr u) (inl t) = inl (inr t)
either_by Exists S T U V (inr u) (inr v) = inr (u, v)
either_by Forall S T U V (inr u) r = inr (inl u)
either_by Forall S T U V (inl s) (inr v) = inr (inr v)
either_by Forall S T U V (inl s) (inl t) = inl (s, t)

pub one_wins : (P : Prefix) (W V : Assignment → Type 0) → ((A : Assignment) → W A ⊎ V A) → (A : Assignment) →
    Game P W A ⊎ Game (exchanged P) V A
one_wins [] W V d A = d A
one_wins (b ∷ P) W V d A =
    either_by b.quant (Game P W (with_value A b.var false)) (Game P W (with_value A b.var true))
    (Game (exchanged P) V (with_value A b.var false)) (Game (exchanged P) V (with_value A b.var true))
    (one_wins P W V d (with_value A b.var false)) (one_wins P W V d (with_value A b.var true))

both_by : (q : Quant) (S T U V : Type 0) → (S → U → ⊥) → (T → V → ⊥) → by_quant q S T →
    by_quant (other_quant q) U V → ⊥
both_by Exists S T U V f g (inl s) h = f s h.0
both_by Exists S T U V f g (inr t) h = g t h.1
both_by Forall S T U V f g h (inl u) = f h.0 u
both_by Forall S T U V f g h (inr v) = g h.1 v

pub not_both-win : (P : Prefix) (W V : Assignment → Type 0) → ((A : Assignment) → W A → V A → ⊥) →
    (A : Assignment) → Game P W A → Game (exchanged P) V A → ⊥
not_both-win [] W V d A w v = d A w v
not_both-win (b ∷ P) W V d A w v =
    both_by b.quant (Game P W (with_value A b.var false)) (Game P W (with_value A b.var true))
    (Game (exchanged P) V (with_value A b.var false)) (Game (exchanged P) V (with_value A b.var true))
    (not_both-win P W V d (with_value A b.var false)) (not_both-win P W V d (with_value A b.var true)) w v

pub ClauseTrue-agree : (A B : Assignment) (D : Clause) → ((x : ℕ) → A x ≡ B x) → ClauseTrue A D → ClauseTrue B D
ClauseTrue-agree A B D e w = (w.0, w.1, ap (signed w.0.negative) (sym (e w.0.var)) ∙ w.2)

pub MatrixFalse-closed : (P : Prefix) (A B : Assignment) (X : Matrix) → Closed P X →
    ((x : ℕ) → is_bound P x ≡ true → A x ≡ B x) → MatrixFalse A X → MatrixFalse B X
MatrixFalse-closed P A B X cl e f = (
  f.0,
  f.1,
  λ w. f.2 (w.0, w.1, ap (signed w.0.negative) (e w.0.var (cl f.0 f.1 w.0 w.1)) ∙ w.2),
)

pub MatrixFalse-agree : (A B : Assignment) (X : Matrix) → ((x : ℕ) → A x ≡ B x) → MatrixFalse A X → MatrixFalse B X
MatrixFalse-agree A B X e f = (f.0, f.1, λ w. f.2 (ClauseTrue-agree B A f.0 (λ x. sym (e x)) w))

pub false-herbrand : (F : PrenexFormula) → IsFormula F → (Holds F → ⊥) → (c : Strategy) × HerbrandOf F c
false-herbrand F f n = go (one_wins F.prefix won lost (λ A. matrix_either A F.matrix) (λ x. false))
  where
    won : Assignment → Type 0
    won A = MatrixTrue A F.matrix

    lost : Assignment → Type 0
    lost A = MatrixFalse A F.matrix

    closed : (A B : Assignment) → ((x : ℕ) → is_bound (exchanged F.prefix) x ≡ true → A x ≡ B x) → lost A → lost B
    closed A B e = MatrixFalse-closed F.prefix A B F.matrix f.closed (λ x h. e x (exchanged-bound F.prefix x ∙ h))

    given : (c : Strategy) × Lawful (exchanged F.prefix) c × ((A : Assignment) → lost (outcome c A)) →
        (c : Strategy) × HerbrandOf F c
    given (c, l, w) = (c, record { lawful = exchanged-lawful F.prefix c l; loses = w })

    go : Game F.prefix won (λ x. false) ⊎ Game (exchanged F.prefix) lost (λ x. false) →
        (c : Strategy) × HerbrandOf F c
    go (inl t) = absurd (n t)
    go (inr g) = given (game_has-strategy (exchanged F.prefix) (exchanged-distinct F.prefix f.distinct) lost closed g)

pub herbrand-false : (F : PrenexFormula) → (c : Strategy) → IsFormula F → HerbrandOf F c → Holds F → ⊥
herbrand-false F c f h t =
    not_both-win F.prefix (λ A. MatrixTrue A F.matrix) (λ A. MatrixFalse A F.matrix)
    (λ A w v. v.2 (w v.0 v.1)) (λ x. false) t
    (strategy_wins-game (exchanged F.prefix) (exchanged-distinct F.prefix f.distinct)
    (λ A. MatrixFalse A F.matrix) (λ A B e. MatrixFalse-agree A B F.matrix e) c
    (lawful-exchanged F.prefix c h.lawful) h.loses)
