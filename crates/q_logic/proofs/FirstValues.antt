-- First values set, and the game on the rest of the prefix.
use Rattle.std.proofs.Common.{◌≡◌, ◌↔◌, ℕ, Bool, true, false, cond, eqb, [], ◌∷◌, ◌++◌, ◌⊎◌, inl, inr, arith, refl, sym, ◌∙◌, subst}
use Rattle.q_logic.specs.declared.formulas.Quant.{Quant}
use Rattle.q_logic.specs.declared.formulas.Bound.{Bound}
use Rattle.q_logic.specs.declared.formulas.Quant.TheVariants.{Exists, Forall}
use Rattle.q_logic.specs.Prelude.{Prefix, PrenexFormula, is_exists, is_bound, run_to, Distinct, IsFormula}
use Rattle.q_logic.specs.Truth.{Assignment, MatrixTrue, with_value, by_quant, Game, HoldsUnder}
use Rattle.q_logic.proofs.Truth.{MatrixTrue-closed}
use Rattle.q_logic.specs.Moves.{later, first_values, Wins}
use Rattle.q_logic.proofs.ClauseLemmas.{IsIn-append, IsIn-append_left, IsIn-append_right}
use Rattle.q_logic.proofs.FirstMoves.{values-set, set-values}

-- Both are played alike.
abbrev Outside : Prefix → Assignment → Assignment → Type 0
Outside P A C = (x : ℕ) → is_bound P x ≡ false → C x ≡ A x

abbrev Alike : Prefix → Assignment → Assignment → Type 0
Alike P C D = (x : ℕ) → is_bound P x ≡ true → C x ≡ D x

outside-more : (b : Bound) (P : Prefix) (A C : Assignment) (w : Bool) → Outside P (with_value A b.var w) C →
    Outside (b ∷ P) A C
outside-more b P A C w o x h =
    let n : eqb x b.var ≡ false = grind arith in
    let z : C x ≡ cond (eqb x b.var) w (A x) = o x (grind arith) in
    grind arith

outside-at : (b : Bound) (P : Prefix) (A C : Assignment) (w : Bool) → is_bound P b.var ≡ false →
    Outside P (with_value A b.var w) C → C b.var ≡ w
outside-at b P A C w n o =
    let z : C b.var ≡ cond (eqb b.var b.var) w (A b.var) = o b.var n in
    let e : eqb b.var b.var ≡ true = grind arith in grind arith

alike-more : (b : Bound) (P : Prefix) (A B C D : Assignment) (w : Bool) → is_bound P b.var ≡ false →
    Outside P (with_value A b.var w) C → Outside P (with_value B b.var w) D → Alike P C D → Alike (b ∷ P) C D
alike-more b P A B C D w n o p i x h = go (eqb b.var x) refl
  where
    go : (z : Bool) → eqb b.var x ≡ z → C x ≡ D x
    go true q =
        let s : b.var ≡ x = grind arith in
        subst (λ y. C y ≡ D y) s (outside-at b P A C w n o ∙ sym (outside-at b P B D w n p))
    go false q = i x (grind arith)

game-map : (P : Prefix) → Distinct P → (W V : Assignment → Type 0) (A B : Assignment) →
    ((C D : Assignment) → Outside P A C → Outside P B D → Alike P C D → W C → V D) → Game P W A → Game P V B
game-map [] d W V A B h t = h A B (λ x e. refl) (λ x e. refl) (λ x e. absurd (grind arith)) t
game-map (b ∷ P) d W V A B h t = go b.quant (step false (λ k. game-map P d.1 W V (with_value A b.var false)
    (with_value B b.var false) k)) (step true (λ k. game-map P d.1 W V (with_value A b.var true)
    (with_value B b.var true) k)) t
  where
    step : (w : Bool) → (((C D : Assignment) → Outside P (with_value A b.var w) C →
        Outside P (with_value B b.var w) D → Alike P C D → W C → V D) → Game P W (with_value A b.var w) →
        Game P V (with_value B b.var w)) → Game P W (with_value A b.var w) → Game P V (with_value B b.var w)
    step w ih = ih (λ C D o p i. h C D (outside-more b P A C w o) (outside-more b P B D w p)
        (alike-more b P A B C D w d.0 o p i))

    go : (q : Quant) →
        (Game P W (with_value A b.var false) → Game P V (with_value B b.var false)) →
        (Game P W (with_value A b.var true) → Game P V (with_value B b.var true)) →
        by_quant q (Game P W (with_value A b.var false)) (Game P W (with_value A b.var true)) →
        by_quant q (Game P V (with_value B b.var false)) (Game P V (with_value B b.var true))
    go Exists f g (inl t) = inl (f t)
    go Exists f g (inr t) = inr (g t)
    go Forall f g t = (f t.0, g t.1)

-- What is not of the rest is a first one.
pub later-or_first : (P : Prefix) (x : ℕ) → is_bound P x ≡ true → is_bound (later P) x ≡ false →
    run_to Exists P x ≡ true
later-or_first [] x h n = h
later-or_first (b ∷ P) x h n = grind (arith, later-or_first P x)

-- The first values are left out of the game.
strip : (P : Prefix) → Distinct P → (V W : Assignment → Type 0) (A a : Assignment) →
    ((C D : Assignment) → Outside (later P) a D → Alike (later P) C D → V C → W D) → Game P V A →
    Game (later P) W a
strip [] d V W A a h t = h A a (λ x e. refl) (λ x e. absurd (grind arith)) t
strip (b ∷ P) d V W A a h t = go b.quant refl (λ w k. strip P d.1 V W (with_value A b.var w) a k) h t
  where
    go : (q : Quant) → b.quant ≡ q →
        ((w : Bool) → ((C D : Assignment) → Outside (later P) a D → Alike (later P) C D → V C → W D) →
        Game P V (with_value A b.var w) → Game (later P) W a) →
        ((C D : Assignment) → Outside (cond (is_exists q) (later P) (b ∷ P)) a D →
        Alike (cond (is_exists q) (later P) (b ∷ P)) C D → V C → W D) →
        by_quant q (Game P V (with_value A b.var false)) (Game P V (with_value A b.var true)) →
        Game (cond (is_exists q) (later P) (b ∷ P)) W a
    go Exists e ih h (inl t) = ih false h t
    go Exists e ih h (inr t) = ih true h t
    go Forall e ih h t =
        game-map (b ∷ P) d V W A a (λ C D o p i. h C D p i)
        (subst (λ q. by_quant q (Game P V (with_value A b.var false)) (Game P V (with_value A b.var true)))
        (sym e) t)

abbrev First : Prefix → Assignment → Assignment → Type 0
First P a D = (x : ℕ) → run_to Exists P x ≡ true → D x ≡ a x

-- The first values are chosen.
fill : (P : Prefix) → Distinct P → (W V : Assignment → Type 0) (A a : Assignment) →
    ((C D : Assignment) → Outside (later P) a C → Outside P A D → First P a D → Alike (later P) C D → W C → V D) →
    Game (later P) W a → Game P V A
fill [] d W V A a h t =
    h a A (λ x e. refl) (λ x e. refl) (λ x e. absurd (grind arith)) (λ x e. absurd (grind arith)) t
fill (b ∷ P) d W V A a h t =
    go b.quant refl (λ w k. fill P d.1 W V (with_value A b.var w) a k) h t
  where
    go : (q : Quant) → b.quant ≡ q →
        ((w : Bool) → ((C D : Assignment) → Outside (later P) a C → Outside P (with_value A b.var w) D →
        First P a D → Alike (later P) C D → W C → V D) →
        Game (later P) W a → Game P V (with_value A b.var w)) →
        ((C D : Assignment) → Outside (cond (is_exists q) (later P) (b ∷ P)) a C → Outside (b ∷ P) A D →
        First (b ∷ P) a D → Alike (cond (is_exists q) (later P) (b ∷ P)) C D → W C → V D) →
        Game (cond (is_exists q) (later P) (b ∷ P)) W a →
        by_quant q (Game P V (with_value A b.var false)) (Game P V (with_value A b.var true))
    go Exists e ih h t = choose (a b.var) refl
      where
        more : (w : Bool) → a b.var ≡ w → (D : Assignment) → Outside P (with_value A b.var w) D → First P a D →
            First (b ∷ P) a D
        more w s D p f x r = at (eqb b.var x) refl
          where
            at : (z : Bool) → eqb b.var x ≡ z → D x ≡ a x
            at true q =
                let i : b.var ≡ x = grind arith in
                subst (λ y. D y ≡ a y) i (outside-at b P A D w d.0 p ∙ sym s)
            at false q = f x (grind arith)

        played : (w : Bool) → a b.var ≡ w → Game P V (with_value A b.var w)
        played w s = ih w (λ C D o p f i. h C D o (outside-more b P A D w p) (more w s D p f) i) t

        choose : (w : Bool) → a b.var ≡ w →
            Game P V (with_value A b.var false) ⊎ Game P V (with_value A b.var true)
        choose false s = inl (played false s)
        choose true s = inr (played true s)
    go Forall e ih h t =
        subst (λ q. by_quant q (Game P V (with_value A b.var false)) (Game P V (with_value A b.var true))) e
        (game-map (b ∷ P) d W V a A (λ C D o p i. h C D o p (none D) i) t)
      where
        none : (D : Assignment) → First (b ∷ P) a D
        none D x r = absurd (grind arith)

pub wins-game : (F : PrenexFormula) (a : Assignment) → IsFormula F →
    Wins F a ↔ HoldsUnder (later F.prefix) F.matrix a
wins-game F a f = (
  strip P f.distinct V W (λ x. false) a there,
  fill P f.distinct W V (λ x. false) a back,
)
  where
    P : Prefix
    P = F.prefix

    V : Assignment → Type 0
    V B = MatrixTrue B (first_values P a ++ F.matrix)

    W : Assignment → Type 0
    W B = MatrixTrue B F.matrix

    there : (C D : Assignment) → Outside (later P) a D → Alike (later P) C D → V C → W D
    there C D p i t = MatrixTrue-closed P C D F.matrix f.closed alike (λ E m. t E (IsIn-append_right E (first_values P a) F.matrix m))
      where
        alike : Alike P C D
        alike x b = go (is_bound (later P) x) refl
          where
            go : (z : Bool) → is_bound (later P) x ≡ z → C x ≡ D x
            go true q = i x q
            go false q =
                values-set P a C (λ E m. t E (IsIn-append_left E (first_values P a) F.matrix m)) x (later-or_first P x b q) ∙
                sym (p x q)

    back : (C D : Assignment) → Outside (later P) a C → Outside P (λ x. false) D → First P a D →
        Alike (later P) C D → W C → V D
    back C D o p first i t E m = elim (IsIn-append E (first_values P a) F.matrix m) [
      | inl n ↦ set-values P a D first E n
      | inr n ↦ MatrixTrue-closed P C D F.matrix f.closed alike t E n
    ]
      where
        alike : Alike P C D
        alike x b = go (is_bound (later P) x) refl
          where
            go : (z : Bool) → is_bound (later P) x ≡ z → C x ≡ D x
            go true q = i x q
            go false q = o x q ∙ sym (first x (later-or_first P x b q))
