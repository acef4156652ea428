-- The measure of smaller formulas, and of swept ones.
use Rattle.std.proofs.Common.{◌≡◌, ◌≤◌, ℕ, ◌+◌, ◌*◌, Bool, true, false, cond, ◌&&◌, not, eqb, [], ◌∷◌, ◌⊎◌, inl, inr, arith, refl, sym, ap, ◌∙◌, subst, length}
use Rattle.q_logic.specs.declared.rule_bounds.Bounds.{Bounds}
use Rattle.std.proofs.Math.Nat.{mul-le-mul_left}
use Rattle.q_logic.specs.Prelude.{Literal, Clause, Prefix, Matrix, IsIn, PrenexFormula, is_existential, is_exists, one_less, clause_eq, formula_of, size_of, measure_of, one_if, existentials_in, universals_in, occurring, swept, has_empty, occurs, has_variable}
use Rattle.q_logic.proofs.JustifiedRuns.{SameClauses}
use Rattle.q_logic.proofs.Runs.{clause_eq-sound, clause_eq-itself}
use Rattle.q_logic.proofs.JustifiedRuns.{IsIn-alike, alike-sym, alike-trans, alike-uncons, one_less-alike}
use Rattle.q_logic.proofs.ClauseLemmas.{has_variable-find, has_variable-IsIn}

-- The variables of Y occur in X.
abbrev pub VarsIn : Matrix → Matrix → Type 0
VarsIn Y X = (v : ℕ) → occurs v Y ≡ true → occurs v X ≡ true

pub occurs_var-find : (v : ℕ) (X : Matrix) → occurs v X ≡ true → (D : Clause) × (k : Literal) × IsIn D X × IsIn k D × (k.var ≡ v)
occurs_var-find v [] h = grind arith
occurs_var-find v (E ∷ X) h = go (has_variable v E) refl (occurs_var-find v X)
  where
    go : (b : Bool) → has_variable v E ≡ b → (occurs v X ≡ true → (D : Clause) × (k : Literal) × IsIn D X × IsIn k D × (k.var ≡ v)) → (D : Clause) × (k : Literal) × IsIn D (E ∷ X) × IsIn k D × (k.var ≡ v)
    go true q ih = let r : (k : Literal) × IsIn k E × (k.var ≡ v) = has_variable-find v E q in (E, r.0, inl refl, r.1, r.2)
    go false q ih = let r : (D : Clause) × (k : Literal) × IsIn D X × IsIn k D × (k.var ≡ v) = ih (grind arith) in (r.0, r.1, inr r.2, r.3, r.4)

pub occurs_var-IsIn : (X : Matrix) (D : Clause) (k : Literal) → IsIn D X → IsIn k D → occurs k.var X ≡ true
occurs_var-IsIn [] D k m i = elim m [ ]
occurs_var-IsIn (E ∷ X) D k (inl e) i = let a : has_variable k.var E ≡ true = has_variable-IsIn E k (subst (IsIn k) e i) in rw a refl
occurs_var-IsIn (E ∷ X) D k (inr m) i = let a : occurs k.var X ≡ true = occurs_var-IsIn X D k m i in grind arith

pub vars-in : (Y X : Matrix) → ((D : Clause) → IsIn D Y → (k : Literal) → IsIn k D → occurs k.var X ≡ true) → VarsIn Y X
vars-in Y X h v o = let r : (D : Clause) × (k : Literal) × IsIn D Y × IsIn k D × (k.var ≡ v) = occurs_var-find v Y o in subst (λ w. occurs w X ≡ true) r.4 (h r.0 r.2 r.1 r.3)

-- Sizes of collections.
size-one_less : (C : Clause) (X : Matrix) → IsIn C X → size_of X ≡ length C + 1 + size_of (one_less C X)
size-one_less C [] m = elim m [ ]
size-one_less C (E ∷ X) m = go (clause_eq E C) refl m (size-one_less C X)
  where
    go : (b : Bool) → clause_eq E C ≡ b → (C ≡ E) ⊎ IsIn C X → (IsIn C X → size_of X ≡ length C + 1 + size_of (one_less C X)) → size_of (E ∷ X) ≡ length C + 1 + size_of (cond b X (E ∷ one_less C X))
    go true q n ih = ap (λ y. length y + 1 + size_of X) (clause_eq-sound E C q)
    go false q (inl e) ih = let z : clause_eq E C ≡ true = subst (λ y. clause_eq y C ≡ true) e (clause_eq-itself C) in grind arith
    go false q (inr n) ih = let i : size_of X ≡ length C + 1 + size_of (one_less C X) = ih n in grind arith

pub size-alike : (X Y : Matrix) → SameClauses X Y → size_of X ≡ size_of Y
size-alike [] [] s = refl
size-alike [] (D ∷ Y) s = elim (IsIn-alike (D ∷ Y) [] (alike-sym [] (D ∷ Y) s) D (inl refl)) [ ]
size-alike (C ∷ X) Y s =
    let m : IsIn C Y = IsIn-alike (C ∷ X) Y s C (inl refl) in
    let i : size_of X ≡ size_of (one_less C Y) = size-alike X (one_less C Y) (alike-uncons C X (one_less C Y) (alike-trans (C ∷ X) Y (C ∷ one_less C Y) s (one_less-alike C Y m))) in
    let e : size_of Y ≡ length C + 1 + size_of (one_less C Y) = size-one_less C Y m in
    grind arith

-- Fewer variables occur.
pub existentials-le : (P : Prefix) (X Y : Matrix) → VarsIn Y X → existentials_in P Y ≤ existentials_in P X
existentials-le [] X Y h = grind arith
existentials-le (b ∷ P) X Y h = go (is_exists b.quant) (occurs b.var Y) refl (occurs b.var X) refl (existentials-le P X Y h) (h b.var)
  where
    go : (e c : Bool) → occurs b.var Y ≡ c → (d : Bool) → occurs b.var X ≡ d → existentials_in P Y ≤ existentials_in P X → (occurs b.var Y ≡ true → occurs b.var X ≡ true)
        → one_if (e && c) + existentials_in P Y ≤ one_if (e && d) + existentials_in P X
    go false c p d q i f = grind arith
    go true false p d q i f = grind arith
    go true true p true q i f = grind arith
    go true true p false q i f = let z : true ≡ false = sym (f p) ∙ q in grind arith

pub universals-le : (P : Prefix) (X Y : Matrix) → VarsIn Y X → universals_in P Y ≤ universals_in P X
universals-le [] X Y h = grind arith
universals-le (b ∷ P) X Y h = go (not (is_exists b.quant)) (occurs b.var Y) refl (occurs b.var X) refl (universals-le P X Y h) (h b.var)
  where
    go : (e c : Bool) → occurs b.var Y ≡ c → (d : Bool) → occurs b.var X ≡ d → universals_in P Y ≤ universals_in P X → (occurs b.var Y ≡ true → occurs b.var X ≡ true)
        → one_if (e && c) + universals_in P Y ≤ one_if (e && d) + universals_in P X
    go false c p d q i f = grind arith
    go true false p d q i f = grind arith
    go true true p true q i f = grind arith
    go true true p false q i f = let z : true ≡ false = sym (f p) ∙ q in grind arith

-- One existential less occurs.
pub existentials-less : (P : Prefix) (X Y : Matrix) (v : ℕ) → VarsIn Y X → is_existential P v ≡ true → occurs v X ≡ true → occurs v Y ≡ false → existentials_in P Y + 1 ≤ existentials_in P X
existentials-less [] X Y v h e o n = grind arith
existentials-less (b ∷ P) X Y v h e o n = go (eqb b.var v) refl (is_exists b.quant) refl (occurs b.var Y) refl (occurs b.var X) refl (λ k. existentials-less P X Y v h k o n) (existentials-le P X Y h) (h b.var) e
  where
    go : (a : Bool) → eqb b.var v ≡ a → (i : Bool) → is_exists b.quant ≡ i → (c : Bool) → occurs b.var Y ≡ c → (d : Bool) → occurs b.var X ≡ d
        → (is_existential P v ≡ true → existentials_in P Y + 1 ≤ existentials_in P X) → existentials_in P Y ≤ existentials_in P X → (occurs b.var Y ≡ true → occurs b.var X ≡ true)
        → cond a i (is_existential P v) ≡ true → one_if (i && c) + existentials_in P Y + 1 ≤ one_if (i && d) + existentials_in P X
    go true p true i c q d r ih l f e =
        let z : b.var ≡ v = grind arith in
        let x : occurs b.var X ≡ true = subst (λ w. occurs w X ≡ true) (sym z) o in
        let y : occurs b.var Y ≡ false = subst (λ w. occurs w Y ≡ false) (sym z) n in
        let c0 : c ≡ false = sym q ∙ y in let d1 : d ≡ true = sym r ∙ x in
        rw (c0, d1) (grind arith)
    go true p false i c q d r ih l f e = grind arith
    go false p false i c q d r ih l f e = let k : existentials_in P Y + 1 ≤ existentials_in P X = ih e in grind arith
    go false p true i false q d r ih l f e = let k : existentials_in P Y + 1 ≤ existentials_in P X = ih e in grind arith
    go false p true i true q true r ih l f e = let k : existentials_in P Y + 1 ≤ existentials_in P X = ih e in grind arith
    go false p true i true q false r ih l f e = let z : true ≡ false = sym (f q) ∙ r in grind arith

pub measure-smaller : (B : Bounds) (P : Prefix) (X Y : Matrix) → VarsIn Y X → size_of Y + 1 ≤ size_of X → measure_of B (formula_of P Y) + 1 ≤ measure_of B (formula_of P X)
measure-smaller B P X Y h s = count B.grow (B.expand + (B.grow + 1) * B.expand + 1) (size_of X) (size_of Y) (existentials_in P X) (existentials_in P Y) (universals_in P X) (universals_in P Y) s (existentials-le P X Y h) (universals-le P X Y h)
  where
    count : (g w sx sy ex ey ux uy : ℕ) → sy + 1 ≤ sx → ey ≤ ex → uy ≤ ux → sy + (g + 1) * ey + w * uy + 1 ≤ sx + (g + 1) * ex + w * ux
    count g w sx sy ex ey ux uy a b c = let d : (g + 1) * ey ≤ (g + 1) * ex = mul-le-mul_left (g + 1) b in let e : w * uy ≤ w * ux = mul-le-mul_left w c in omega arith

-- The size may rise by grow where an existential less occurs.
pub measure-fewer : (B : Bounds) (P : Prefix) (X Y : Matrix) (v : ℕ) → VarsIn Y X → size_of Y ≤ size_of X + B.grow → is_existential P v ≡ true → occurs v X ≡ true → occurs v Y ≡ false → measure_of B (formula_of P Y) + 1 ≤ measure_of B (formula_of P X)
measure-fewer B P X Y v h s i o n = count B.grow (B.expand + (B.grow + 1) * B.expand + 1) (size_of X) (size_of Y) (existentials_in P X) (existentials_in P Y) (universals_in P X) (universals_in P Y) s (existentials-less P X Y v h i o n) (universals-le P X Y h)
  where
    count : (g w sx sy ex ey ux uy : ℕ) → sy ≤ sx + g → ey + 1 ≤ ex → uy ≤ ux → sy + (g + 1) * ey + w * uy + 1 ≤ sx + (g + 1) * ex + w * ux
    count g w sx sy ex ey ux uy a b c = let d : (g + 1) * (ey + 1) ≤ (g + 1) * ex = mul-le-mul_left (g + 1) b in let f : (g + 1) * (ey + 1) ≡ (g + 1) * ey + (g + 1) = grind arith in let e : w * uy ≤ w * ux = mul-le-mul_left w c in omega arith

-- Sweeping.
occurring-existentials : (P : Prefix) (X : Matrix) → existentials_in (occurring P X) X ≡ existentials_in P X
occurring-existentials [] X = refl
occurring-existentials (b ∷ P) X = go (occurs b.var X) refl (is_exists b.quant) (occurring-existentials P X)
  where
    go : (c : Bool) → occurs b.var X ≡ c → (e : Bool) → existentials_in (occurring P X) X ≡ existentials_in P X → existentials_in (cond c (b ∷ occurring P X) (occurring P X)) X ≡ one_if (is_exists b.quant && c) + existentials_in P X
    go true p e i = rw p (ap (λ n. one_if (is_exists b.quant && true) + n) i)
    go false p e i = none (is_exists b.quant) i
      where
        none : (e : Bool) → existentials_in (occurring P X) X ≡ existentials_in P X → existentials_in (occurring P X) X ≡ one_if (e && false) + existentials_in P X
        none true i = grind arith
        none false i = grind arith

occurring-universals : (P : Prefix) (X : Matrix) → universals_in (occurring P X) X ≡ universals_in P X
occurring-universals [] X = refl
occurring-universals (b ∷ P) X = go (occurs b.var X) refl (occurring-universals P X)
  where
    go : (c : Bool) → occurs b.var X ≡ c → universals_in (occurring P X) X ≡ universals_in P X → universals_in (cond c (b ∷ occurring P X) (occurring P X)) X ≡ one_if (not (is_exists b.quant) && c) + universals_in P X
    go true p i = rw p (ap (λ n. one_if (not (is_exists b.quant) && true) + n) i)
    go false p i = none (not (is_exists b.quant)) i
      where
        none : (e : Bool) → universals_in (occurring P X) X ≡ universals_in P X → universals_in (occurring P X) X ≡ one_if (e && false) + universals_in P X
        none true i = grind arith
        none false i = grind arith

size-some : (X : Matrix) → has_empty X ≡ true → 1 ≤ size_of X
size-some [] h = grind arith
size-some (C ∷ X) h = grind arith

pub measure-sweep : (B : Bounds) (F : PrenexFormula) → measure_of B (swept F) ≤ measure_of B F
measure-sweep B F = go (has_empty F.matrix) refl
  where
    go : (b : Bool) → has_empty F.matrix ≡ b → measure_of B (cond b (formula_of [] ([] ∷ [])) (formula_of (occurring F.prefix F.matrix) F.matrix)) ≤ measure_of B F
    go true q = let s : 1 ≤ size_of F.matrix = size-some F.matrix q in one (B.grow + 1) (B.expand + (B.grow + 1) * B.expand + 1) (size_of F.matrix) (existentials_in F.prefix F.matrix) (universals_in F.prefix F.matrix) s
      where
        one : (g w s e u : ℕ) → 1 ≤ s → 0 + 1 + 0 + g * 0 + w * 0 ≤ s + g * e + w * u
        one g w s e u h = grind arith
    go false q = let a : existentials_in (occurring F.prefix F.matrix) F.matrix ≡ existentials_in F.prefix F.matrix = occurring-existentials F.prefix F.matrix in let b : universals_in (occurring F.prefix F.matrix) F.matrix ≡ universals_in F.prefix F.matrix = occurring-universals F.prefix F.matrix in rw (a, b) (grind arith)
