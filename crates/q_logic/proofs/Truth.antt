-- A formula is true exactly where it has Skolem functions.
use Rattle.std.proofs.Common.{◌≡◌, ℕ, Bool, true, false, cond, eqb, [], ◌∷◌, ◌⊎◌, inl, inr, arith, refl, sym, ap, ◌∙◌, subst, Option, Some, None}
use Rattle.q_logic.specs.declared.formulas.Quant.{Quant}
use Rattle.q_logic.specs.declared.formulas.Bound.{Bound}
use Rattle.q_logic.specs.declared.formulas.Quant.TheVariants.{Exists, Forall}
use Rattle.q_logic.specs.Prelude.{Prefix, Matrix, is_existential, universal_before, is_bound, Distinct, Closed, Circuit, constant, choice, value_of, Reads, replaced}
use Rattle.q_logic.specs.Truth.{Assignment, ClauseTrue, MatrixTrue, signed, with_value, HoldsUnder, by_quant, Game}
use Rattle.q_logic.specs.Skolems.{Skolem, Strategy, circuit_of, or_input, given, outcome, Lawful, where_true, strategy_of}
use Rattle.q_logic.proofs.TreeValues.{value_of-agree, value_of-replaced, Reads-replaced, MatrixTrue-agree}
use Rattle.q_logic.proofs.PrefixOrder.{existential-is_bound}

abbrev pub play : Prefix → (ℕ → Circuit) → Assignment → Assignment
play P c A v = cond (is_existential P v) (value_of (c v) A) (A v)

abbrev pub Agrees : (Assignment → Type 0) → Type 0
Agrees W = (A B : Assignment) → ((x : ℕ) → A x ≡ B x) → W A → W B

pub record SkolemAt (P : Prefix) (W : Assignment → Type 0) (c : ℕ → Circuit) (A : Assignment) : Type 0 where
  pub reads : (x : ℕ) → is_existential P x ≡ true → (u : ℕ) → Reads (c x) u → universal_before P u x ≡ true
  pub wins : (B : Assignment) → ((x : ℕ) → is_bound P x ≡ false → B x ≡ A x) → W (play P c B)

pub universal_before-is_bound : (P : Prefix) (u x : ℕ) → universal_before P u x ≡ true → is_bound P u ≡ true
universal_before-is_bound [] u x h = h
universal_before-is_bound (b ∷ P) u x h = grind (arith, universal_before-is_bound P u x)

universal_before-more : (b : Bound) (P : Prefix) (u x : ℕ) → is_bound P b.var ≡ false →
    is_existential P x ≡ true → universal_before P u x ≡ true → universal_before (b ∷ P) u x ≡ true
universal_before-more b P u x d e h = grind (arith, universal_before-is_bound P u x, existential-is_bound P x)

-- Under an existential with the value w.
pub exists_to : (v : ℕ) (P : Prefix) (W : Assignment → Type 0) (ag : Agrees W) (A : Assignment) (w : Bool) →
    is_bound P v ≡ false → (c : ℕ → Circuit) → SkolemAt P W c (with_value A v w) →
    SkolemAt (record { quant = Exists; var = v } ∷ P) W (λ x. cond (eqb x v) (constant w) (c x)) A
exists_to v P W ag A w d c sk = record { reads = reading; wins = winning }
  where
    c1 : ℕ → Circuit
    c1 x = cond (eqb x v) (constant w) (c x)

    Q : Prefix
    Q = record { quant = Exists; var = v } ∷ P

    reading : (x : ℕ) → is_existential Q x ≡ true → (u : ℕ) → Reads (c1 x) u → universal_before Q u x ≡ true
    reading x e u r = go (eqb x v) refl r
      where
        go : (b : Bool) → eqb x v ≡ b → Reads (cond b (constant w) (c x)) u → universal_before Q u x ≡ true
        go true q r = elim r [ ]
        go false q r =
            let e1 : is_existential P x ≡ true = grind arith in
            universal_before-more (record { quant = Exists; var = v }) P u x d e1 (sk.reads x e1 u r)

    same : (B : Assignment) (x : ℕ) → play P c (with_value B v w) x ≡ play Q c1 B x
    same B x = go (eqb x v) refl (eqb v x) refl (is_existential P x) refl
      where
        unread : is_existential P x ≡ true → (u : ℕ) → Reads (c x) u → with_value B v w u ≡ B u
        unread e u r =
            let z : universal_before P u x ≡ true = sk.reads x e u r in
            let y : is_bound P u ≡ true = universal_before-is_bound P u x z in grind arith

        go : (b : Bool) → eqb x v ≡ b → (b2 : Bool) → eqb v x ≡ b2 → (e : Bool) → is_existential P x ≡ e →
            cond e (value_of (c x) (with_value B v w)) (cond b w (B x)) ≡
            cond (cond b2 true e) (value_of (cond b (constant w) (c x)) B) (B x)
        go true p true p2 true q = absurd (grind (arith, existential-is_bound P x))
        go true p true p2 false q = refl
        go true p false p2 e q = absurd (grind arith)
        go false p true p2 e q = absurd (grind arith)
        go false p false p2 true q = value_of-agree (c x) (with_value B v w) B (unread q)
        go false p false p2 false q = refl

    winning : (B : Assignment) → ((x : ℕ) → is_bound Q x ≡ false → B x ≡ A x) → W (play Q c1 B)
    winning B h =
        ag (play P c (with_value B v w)) (play Q c1 B) (same B)
        (sk.wins (with_value B v w) (λ x p. agree x p (h x)))
      where
        agree : (x : ℕ) → is_bound P x ≡ false → (is_bound Q x ≡ false → B x ≡ A x) →
            with_value B v w x ≡ with_value A v w x
        agree x p q = go (eqb x v) refl
          where
            go : (b : Bool) → eqb x v ≡ b → cond b w (B x) ≡ cond b w (A x)
            go true e = refl
            go false e = q (grind arith)

-- Under a universal, by the functions for both of its values.
pub forall_to : (v : ℕ) (P : Prefix) (W : Assignment → Type 0) (ag : Agrees W) (A : Assignment) →
    is_bound P v ≡ false → (c0 c1 : ℕ → Circuit) → SkolemAt P W c0 (with_value A v false) →
    SkolemAt P W c1 (with_value A v true) → SkolemAt (record { quant = Forall; var = v } ∷ P) W
    (λ x. choice v (c1 x) (c0 x)) A
forall_to v P W ag A d c0 c1 s0 s1 = record { reads = reading; wins = winning }
  where
    c2 : ℕ → Circuit
    c2 x = choice v (c1 x) (c0 x)

    Q : Prefix
    Q = record { quant = Forall; var = v } ∷ P

    reading : (x : ℕ) → is_existential Q x ≡ true → (u : ℕ) → Reads (c2 x) u → universal_before Q u x ≡ true
    reading x e u r = go r
      where
        e1 : is_existential P x ≡ true
        e1 = grind arith

        more : universal_before P u x ≡ true → universal_before Q u x ≡ true
        more = universal_before-more (record { quant = Forall; var = v }) P u x d e1

        itself : v ≡ u → universal_before Q u x ≡ true
        itself q = let b : is_bound P x ≡ true = existential-is_bound P x e1 in grind arith

        go : Reads (c2 x) u → universal_before Q u x ≡ true
        go (inl (inl q)) = itself q
        go (inl (inr q)) = more (s1.reads x e1 u q)
        go (inr (inl q)) = itself q
        go (inr (inr q)) = more (s0.reads x e1 u q)

    winning : (B : Assignment) → ((x : ℕ) → is_bound Q x ≡ false → B x ≡ A x) → W (play Q c2 B)
    winning B h = go (B v) refl
      where
        agree : (w : Bool) → B v ≡ w → (x : ℕ) → is_bound P x ≡ false → B x ≡ with_value A v w x
        agree w p x q = step (eqb x v) refl (h x)
          where
            step : (b : Bool) → eqb x v ≡ b → (is_bound Q x ≡ false → B x ≡ A x) → B x ≡ cond b w (A x)
            step true e k = let z : x ≡ v = grind arith in rw z p
            step false e k = k (grind arith)

        same : (w : Bool) → B v ≡ w → (x : ℕ) → play P (λ y. cond w (c1 y) (c0 y)) B x ≡ play Q c2 B x
        same w p x = step (eqb v x) refl (is_existential P x) refl w p
          where
            step : (b : Bool) → eqb v x ≡ b → (e : Bool) → is_existential P x ≡ e → (w : Bool) → B v ≡ w →
                cond e (value_of (cond w (c1 x) (c0 x)) B) (B x) ≡
                cond (cond b false e) (value_of (c2 x) B) (B x)
            step true q true z w p = absurd (grind (arith, existential-is_bound P x))
            step true q false z w p = refl
            step false q true z true p = grind arith
            step false q true z false p = grind arith
            step false q false z w p = refl

        go : (w : Bool) → B v ≡ w → W (play Q c2 B)
        go true p = ag (play P c1 B) (play Q c2 B) (same true p) (s1.wins B (agree true p))
        go false p = ag (play P c0 B) (play Q c2 B) (same false p) (s0.wins B (agree false p))

to_skolem : (P : Prefix) → Distinct P → (W : Assignment → Type 0) (ag : Agrees W) (A : Assignment) →
    Game P W A → (c : ℕ → Circuit) × SkolemAt P W c A
to_skolem [] d W ag A t = (
  λ x. constant false,
  record {
    reads = λ x e. absurd (grind arith);
    wins = λ B h. ag A (play [] (λ x. constant false) B) (λ x. sym (h x refl)) t;
  },
)
to_skolem (b ∷ P) d W ag A t =
    go b.quant refl t (to_skolem P d.1 W ag (with_value A b.var false))
    (to_skolem P d.1 W ag (with_value A b.var true))
  where
    whole : (q : Quant) → b.quant ≡ q → (c : ℕ → Circuit) ×
        SkolemAt (record { quant = q; var = b.var } ∷ P) W c A → (c : ℕ → Circuit) × SkolemAt (b ∷ P) W c A
    whole q e s =
        subst (λ z. (c : ℕ → Circuit) × SkolemAt (z ∷ P) W c A)
        (λ i. record { quant = sym e i; var = b.var }) s

    go : (q : Quant) → b.quant ≡ q → by_quant q (Game P W (with_value A b.var false))
        (Game P W (with_value A b.var true)) →
        (Game P W (with_value A b.var false) → (c : ℕ → Circuit) ×
        SkolemAt P W c (with_value A b.var false)) →
        (Game P W (with_value A b.var true) → (c : ℕ → Circuit) ×
        SkolemAt P W c (with_value A b.var true)) → (c : ℕ → Circuit) × SkolemAt (b ∷ P) W c A
    go Exists e (inl t) f g =
        let s : (c : ℕ → Circuit) × SkolemAt P W c (with_value A b.var false) = f t in
        whole Exists e (
          λ x. cond (eqb x b.var) (constant false) (s.0 x),
          exists_to b.var P W ag A false d.0 s.0 s.1,
        )
    go Exists e (inr t) f g =
        let s : (c : ℕ → Circuit) × SkolemAt P W c (with_value A b.var true) = g t in
        whole Exists e (
          λ x. cond (eqb x b.var) (constant true) (s.0 x),
          exists_to b.var P W ag A true d.0 s.0 s.1,
        )
    go Forall e t f g =
        let s : (c : ℕ → Circuit) × SkolemAt P W c (with_value A b.var false) = f t.0 in
        let r : (c : ℕ → Circuit) × SkolemAt P W c (with_value A b.var true) = g t.1 in
        whole Forall e (λ x. choice b.var (r.0 x) (s.0 x), forall_to b.var P W ag A d.0 s.0 r.0 s.1 r.1)

-- The other direction.
exists_from : (v : ℕ) (P : Prefix) (W : Assignment → Type 0) (ag : Agrees W) (A : Assignment) →
    is_bound P v ≡ false → (c : ℕ → Circuit) → SkolemAt (record { quant = Exists; var = v } ∷ P) W c A →
    SkolemAt P W c (with_value A v (value_of (c v) A))
exists_from v P W ag A d c sk = record { reads = reading; wins = winning }
  where
    Q : Prefix
    Q = record { quant = Exists; var = v } ∷ P

    reading : (x : ℕ) → is_existential P x ≡ true → (u : ℕ) → Reads (c x) u → universal_before P u x ≡ true
    reading x e u r =
        let b : is_bound P x ≡ true = existential-is_bound P x e in
        let z : universal_before Q u x ≡ true = sk.reads x (grind arith) u r in grind arith

    first : (B : Assignment) → value_of (c v) B ≡ value_of (c v) A
    first B =
        value_of-agree (c v) B A (λ u r. let z : universal_before Q u v ≡ true =
        sk.reads v (grind arith) u r in absurd (grind arith))

    winning : (B : Assignment) → ((x : ℕ) → is_bound P x ≡ false →
        B x ≡ with_value A v (value_of (c v) A) x) → W (play P c B)
    winning B h = ag (play Q c B) (play P c B) same (sk.wins B agree)
      where
        agree : (x : ℕ) → is_bound Q x ≡ false → B x ≡ A x
        agree x p = let z : B x ≡ cond (eqb x v) (value_of (c v) A) (A x) = h x (grind arith) in grind arith

        at_first : (x : ℕ) → eqb v x ≡ true → value_of (c x) B ≡ B x
        at_first x q =
            let s : v ≡ x = grind arith in subst (λ y. value_of (c y) B ≡ B y) s (first B ∙
            sym (let z : B v ≡ cond (eqb v v) (value_of (c v) A) (A v) = h v d in grind arith))

        same : (x : ℕ) → play Q c B x ≡ play P c B x
        same x = step (eqb v x) refl (is_existential P x) refl
          where
            step : (b : Bool) → eqb v x ≡ b → (e : Bool) → is_existential P x ≡ e →
                cond (cond b true e) (value_of (c x) B) (B x) ≡ cond e (value_of (c x) B) (B x)
            step true q true z = refl
            step true q false z = at_first x q
            step false q e z = refl

forall_from : (v : ℕ) (P : Prefix) (W : Assignment → Type 0) (ag : Agrees W) (A : Assignment) (w : Bool) →
    is_bound P v ≡ false → (c : ℕ → Circuit) → SkolemAt (record { quant = Forall; var = v } ∷ P) W c A →
    SkolemAt P W (λ x. replaced v (constant w) (c x)) (with_value A v w)
forall_from v P W ag A w d c sk = record { reads = reading; wins = winning }
  where
    Q : Prefix
    Q = record { quant = Forall; var = v } ∷ P

    c1 : ℕ → Circuit
    c1 x = replaced v (constant w) (c x)

    reading : (x : ℕ) → is_existential P x ≡ true → (u : ℕ) → Reads (c1 x) u → universal_before P u x ≡ true
    reading x e u r = go (Reads-replaced v (constant w) (c x) u r)
      where
        go : (Reads (c x) u × (eqb u v ≡ false)) ⊎ (Reads (c x) v × ⊥) → universal_before P u x ≡ true
        go (inl p) =
            let b : is_bound P x ≡ true = existential-is_bound P x e in
            let z : universal_before Q u x ≡ true = sk.reads x (grind arith) u p.0 in grind arith
        go (inr p) = absurd p.1

    winning : (B : Assignment) → ((x : ℕ) → is_bound P x ≡ false → B x ≡ with_value A v w x) →
        W (play P c1 B)
    winning B h = ag (play Q c B) (play P c1 B) same (sk.wins B agree)
      where
        agree : (x : ℕ) → is_bound Q x ≡ false → B x ≡ A x
        agree x p = let z : B x ≡ cond (eqb x v) w (A x) = h x (grind arith) in grind arith

        at_v : B v ≡ w
        at_v = let z : B v ≡ cond (eqb v v) w (A v) = h v d in grind arith

        kept : (x : ℕ) → B x ≡ with_value B v w x
        kept x = go (eqb x v) refl
          where
            go : (b : Bool) → eqb x v ≡ b → B x ≡ cond b w (B x)
            go true q = let s : x ≡ v = grind arith in rw s at_v
            go false q = refl

        same : (x : ℕ) → play Q c B x ≡ play P c1 B x
        same x = step (eqb v x) refl (is_existential P x) refl
          where
            step : (b : Bool) → eqb v x ≡ b → (e : Bool) → is_existential P x ≡ e →
                cond (cond b false e) (value_of (c x) B) (B x) ≡ cond e (value_of (c1 x) B) (B x)
            step true q true z = absurd (grind (arith, existential-is_bound P x))
            step true q false z = refl
            step false q true z =
                value_of-agree (c x) B (with_value B v w) (λ u r. kept u) ∙
                sym (value_of-replaced v (constant w) (c x) B)
            step false q false z = refl

from_skolem : (P : Prefix) → Distinct P → (W : Assignment →
    Type 0) (ag : Agrees W) (A : Assignment) (c : ℕ → Circuit) → SkolemAt P W c A → Game P W A
from_skolem [] d W ag A c sk = ag (play [] c A) A (λ x. refl) (sk.wins A (λ x h. refl))
from_skolem (b ∷ P) d W ag A c sk = go b.quant refl (from_skolem P d.1 W ag)
  where
    whole : (q : Quant) → b.quant ≡ q → SkolemAt (record { quant = q; var = b.var } ∷ P) W c A
    whole q e = subst (λ z. SkolemAt (z ∷ P) W c A) (λ i. record { quant = e i; var = b.var }) sk

    go : (q : Quant) → b.quant ≡ q → ((B : Assignment) (c : ℕ → Circuit) → SkolemAt P W c B → Game P W B) →
        by_quant q (Game P W (with_value A b.var false)) (Game P W (with_value A b.var true))
    go Exists e f = pick (value_of (c b.var) A) (exists_from b.var P W ag A d.0 c (whole Exists e))
      where
        pick : (w : Bool) → SkolemAt P W c (with_value A b.var w) →
            Game P W (with_value A b.var false) ⊎ Game P W (with_value A b.var true)
        pick true s = inr (f (with_value A b.var true) c s)
        pick false s = inl (f (with_value A b.var false) c s)
    go Forall e f = (
      f (with_value A b.var false) (λ x. replaced b.var (constant false) (c x))
          (forall_from b.var P W ag A false d.0 c (whole Forall e)),
      f (with_value A b.var true) (λ x. replaced b.var (constant true) (c x))
          (forall_from b.var P W ag A true d.0 c (whole Forall e)),
    )

-- The whole.
pub none_bound : (P : Prefix) (x : ℕ) → is_bound P x ≡ false → is_existential P x ≡ false
none_bound P x h = go (is_existential P x) refl
  where
    go : (b : Bool) → is_existential P x ≡ b → is_existential P x ≡ false
    go true e = absurd (grind (arith, existential-is_bound P x))
    go false e = e

pub MatrixTrue-closed : (P : Prefix) (A B : Assignment) (X : Matrix) → Closed P X →
    ((x : ℕ) → is_bound P x ≡ true → A x ≡ B x) → MatrixTrue A X → MatrixTrue B X
MatrixTrue-closed P A B X cl e t D m =
    let w : ClauseTrue A D = t D m in (
      w.0,
      w.1,
      ap (signed w.0.negative)
          (sym (e w.0.var (cl D m w.0 w.1))) ∙ w.2,
    )

-- Circuits that win, as those of the existentials alone.
pub strategy-wins : (P : Prefix) (W : Assignment → Type 0) (c : ℕ → Circuit) →
    ((A B : Assignment) → ((x : ℕ) → is_bound P x ≡ true → A x ≡ B x) → W A → W B) →
    SkolemAt P W c (λ x. false) →
    Lawful P (strategy_of P c) × ((A : Assignment) → W (outcome (strategy_of P c) A))
strategy-wins P W c agb sk = (record { trees = trees; reads = reading }, winning)
  where
    trees : (x : ℕ) → given (strategy_of P c x) ≡ is_existential P x
    trees x = cases (is_existential P x)
      where
        cases : (b : Bool) → given (where_true b (c x)) ≡ b
        cases true = refl
        cases false = refl

    reading : (x : ℕ) → is_existential P x ≡ true → (u : ℕ) → Reads (circuit_of (strategy_of P c) x) u →
        universal_before P u x ≡ true
    reading x e u r = sk.reads x e u (subst (λ b. Reads (or_input x (where_true b (c x))) u) e r)

    winning : (A : Assignment) → W (outcome (strategy_of P c) A)
    winning A = agb (play P c B) (outcome (strategy_of P c) A) same (sk.wins B outside)
      where
        B : Assignment
        B x = cond (is_bound P x) (A x) false

        outside : (x : ℕ) → is_bound P x ≡ false → B x ≡ false
        outside x h = rw h refl

        inside : (x : ℕ) → is_bound P x ≡ true → B x ≡ A x
        inside x h = rw h refl

        same : (x : ℕ) → is_bound P x ≡ true → play P c B x ≡ outcome (strategy_of P c) A x
        same x h = cases (is_existential P x) refl
          where
            cases : (b : Bool) → is_existential P x ≡ b →
                cond b (value_of (c x) B) (B x) ≡ value_of (or_input x (where_true b (c x))) A
            cases true e =
                value_of-agree (c x) B A (λ u r. inside u
                (universal_before-is_bound P u x (sk.reads x e u r)))
            cases false e = inside x h

pub game_has-strategy : (P : Prefix) → Distinct P → (W : Assignment → Type 0) →
    ((A B : Assignment) → ((x : ℕ) → is_bound P x ≡ true → A x ≡ B x) → W A → W B) → Game P W (λ x. false) →
    (c : Strategy) × Lawful P c × ((A : Assignment) → W (outcome c A))
game_has-strategy P d W agb t = go (to_skolem P d W (λ A B e. agb A B (λ x h. e x)) (λ x. false) t)
  where
    go : (c : ℕ → Circuit) × SkolemAt P W c (λ x. false) →
        (c : Strategy) × Lawful P c × ((A : Assignment) → W (outcome c A))
    go (c, sk) =
        let r : Lawful P (strategy_of P c) × ((A : Assignment) → W (outcome (strategy_of P c) A)) =
        strategy-wins P W c agb sk in (strategy_of P c, r.0, r.1)

pub strategy_wins-game : (P : Prefix) → Distinct P → (W : Assignment → Type 0) → Agrees W → (c : Strategy) →
    Lawful P c → ((A : Assignment) → W (outcome c A)) → Game P W (λ x. false)
strategy_wins-game P d W ag c sk wins =
    from_skolem P d W ag (λ x. false) (circuit_of c) (record { reads = sk.reads; wins = winning })
  where
    winning : (B : Assignment) → ((x : ℕ) → is_bound P x ≡ false → B x ≡ false) →
        W (play P (circuit_of c) B)
    winning B h = ag (outcome c B) (play P (circuit_of c) B) same (wins B)
      where
        same : (x : ℕ) → outcome c B x ≡ play P (circuit_of c) B x
        same x = cases (is_existential P x) (c x) (sk.trees x)
          where
            cases : (b : Bool) (o : Option Circuit) → given o ≡ b →
                value_of (or_input x o) B ≡ cond b (value_of (or_input x o) B) (B x)
            cases true o e = refl
            cases false None e = refl
            cases false (Some t) e = grind arith

pub true_has-skolem : (P : Prefix) → Distinct P → (X : Matrix) → Closed P X → HoldsUnder P X (λ x. false) →
    (c : Strategy) × Skolem P X c
true_has-skolem P d X cl t =
    let s : (c : Strategy) × Lawful P c × ((A : Assignment) → MatrixTrue (outcome c A) X) =
    game_has-strategy P d (λ B. MatrixTrue B X) (λ A B e. MatrixTrue-closed P A B X cl e) t in
    (s.0, record { lawful = s.1; wins = s.2 })

pub skolem_makes-true : (P : Prefix) → Distinct P → (X : Matrix) → (c : Strategy) → Skolem P X c →
    HoldsUnder P X (λ x. false)
skolem_makes-true P d X c sk =
    strategy_wins-game P d (λ B. MatrixTrue B X) (λ A B e. MatrixTrue-agree A B X e) c sk.lawful sk.wins
