-- The miter without the clauses of IN that are true at once.
use Rattle.std.proofs.Common.{◌≡◌, ◌↔◌, ℕ, ◌+◌, ◌≤◌, Bool, true, false, cond, not, ◌&&◌, ◌||◌, [], ◌∷◌, ◌++◌, ◌⊎◌, inl, inr, arith, refl, sym, ap, ◌∙◌, subst, length}
use Rattle.std.proofs.lemmas.List.{length-append}
use Rattle.q_logic.specs.Prelude.{Literal, negation, Clause, Matrix, IsIn, PrenexFormula, IsFormula, is_bound, Holds, CertificateView, trees_of, outcome, Lawful, SkolemOf, literals_in, has, is_tautology, IsTautology, Assignment, ClauseTrue, signed, literal_true}
use Rattle.q_logic.specs.Sets.{all_in}
use Rattle.q_logic.specs.Truth.{MatrixTrue}
use Rattle.q_logic.specs.Herbrands.{MatrixFalse}
use Rattle.q_logic.proofs.TruthDecided.{true_decided}
use Rattle.q_logic.proofs.Falsity.{matrix_either}
use Rattle.q_logic.proofs.Common.{is_bound-greatest, is_tautology-sound, has-IsIn}
use Rattle.q_miter.specs.Miters.{AreCircuits, greatest_name, top_of, selector, gate_definitions, translated, translated_clause, selections, selectors, skolem_miter, IsCnf, has_part, is_needless, needed, lean_miter}
use Rattle.q_miter.proofs.Satisfied.{satisfied-holds, holds-satisfied, in_order-true, true-in_order, true-first, true-append, append-left, append-right, length-in_order}
use Rattle.q_miter.proofs.GateValues.{Agrees, negation-true, translated-value}
use Rattle.q_miter.proofs.Extended.{trees_in, wide_over, extended-zero, extended-selector, extended-agrees, extended-outcome}
use Rattle.q_miter.proofs.Miters.{definitions-zero, definitions-agree, agree-definitions, IsIn-translated, Translates, Marks, under, selected-false, selections-true, selectors-true, length-selections}

-- Clauses that are needed.
pub needed-IsIn : (top : ℕ) (c : CertificateView) (X : Matrix) (D : Clause) → IsIn D (needed top c X) → IsIn D X
needed-IsIn top c [] D m = m
needed-IsIn top c (E ∷ X) D m = go (is_needless top c E) m (needed-IsIn top c X D)
  where
    go : (b : Bool) → IsIn D (cond b (needed top c X) (E ∷ needed top c X)) → (IsIn D (needed top c X) → IsIn D X) → IsIn D (E ∷ X)
    go true m f = inr (f m)
    go false (inl e) f = inl e
    go false (inr m) f = inr (f m)

IsIn-needed : (top : ℕ) (c : CertificateView) (X : Matrix) (D : Clause) → IsIn D X → is_needless top c D ≡ false → IsIn D (needed top c X)
IsIn-needed top c [] D m n = m
IsIn-needed top c (E ∷ X) D m n = go (is_needless top c E) refl m (λ k. IsIn-needed top c X D k n)
  where
    go : (b : Bool) → is_needless top c E ≡ b → (D ≡ E) ⊎ IsIn D X → (IsIn D X → IsIn D (needed top c X)) →
        IsIn D (cond b (needed top c X) (E ∷ needed top c X))
    go true e (inl q) f = absurd (let z : is_needless top c D ≡ true = ap (is_needless top c) q ∙ e in cc)
    go true e (inr m) f = f m
    go false e (inl q) f = inl q
    go false e (inr m) f = inr (f m)

part-subset : (R T : Clause) → all_in R T ≡ true → (k : Literal) → IsIn k R → IsIn k T
part-subset [] T h k m = elim m [ ]
part-subset (j ∷ R) T h k m = go (has j T) refl h m (part-subset R T)
  where
    go : (b : Bool) → has j T ≡ b → b && all_in R T ≡ true → (k ≡ j) ⊎ IsIn k R → (all_in R T ≡ true → (k : Literal) → IsIn k R → IsIn k T) →
        IsIn k T
    go true e h (inl q) f = subst (λ (l : Literal). IsIn l T) (sym q) (has-IsIn j T e)
    go true e h (inr m) f = f h k m
    go false e h m f = absurd (cc)

part-true : (B : Assignment) (X : Matrix) (T : Clause) → MatrixTrue B X → has_part X T ≡ true → ClauseTrue B T
part-true B [] T t h = absurd (cc)
part-true B (R ∷ X) T t h = go (all_in R T) refl h (λ n. part-true B X T (λ D m. t D (inr m)) n)
  where
    go : (b : Bool) → all_in R T ≡ b → b || has_part X T ≡ true → (has_part X T ≡ true → ClauseTrue B T) → ClauseTrue B T
    go true e h f = let w : ClauseTrue B R = t R (inl refl) in (w.0, part-subset R T e w.0 w.1, w.2)
    go false e h f = f h

tautology-true : (B : Assignment) (T : Clause) → IsTautology T → ClauseTrue B T
tautology-true B T (k, m, n) = go (literal_true B k) refl
  where
    go : (b : Bool) → literal_true B k ≡ b → ClauseTrue B T
    go true e = (k, m, e)
    go false e = (negation k, n, negation-true B k ∙ ap not e)

needless-true : (top : ℕ) (c : CertificateView) (B : Assignment) (D : Clause) → MatrixTrue B (gate_definitions top c) →
    is_needless top c D ≡ true → ClauseTrue B (translated_clause top c D)
needless-true top c B D t h = go (is_tautology (translated_clause top c D)) refl h
  where
    go : (b : Bool) → is_tautology (translated_clause top c D) ≡ b → b || has_part (gate_definitions top c) (translated_clause top c D) ≡ true →
        ClauseTrue B (translated_clause top c D)
    go true e h = tautology-true B (translated_clause top c D) (is_tautology-sound (translated_clause top c D) e)
    go false e h = part-true B (gate_definitions top c) (translated_clause top c D) t h

module _ (F : PrenexFormula) (c : CertificateView) (f : IsFormula F) (h : AreCircuits c) where
  low : greatest_name c.inputs ≤ top_of F c
  low = omega arith

  low_bound : (x : ℕ) → is_bound F.prefix x ≡ true → x ≤ top_of F c
  low_bound x b = let k = is_bound-greatest F.prefix x b in omega arith

  given-translates : (B : Assignment) → MatrixTrue B (gate_definitions (top_of F c) c) → Translates (top_of F c) c B (outcome (trees_of c) B)
  given-translates B t k =
      translated-value (top_of F c) c B k h (definitions-zero (top_of F c) c B t) (definitions-agree (top_of F c) c B h t)

  satisfied-false : (B : Assignment) → MatrixTrue B (lean_miter F c) → MatrixFalse (outcome (trees_of c) B) F.matrix
  satisfied-false B t =
      let X = needed (top_of F c) c F.matrix in
      let u = in_order-true B (gate_definitions (top_of F c) c ++ selectors (top_of F c) c 0 X ∷ selections (top_of F c) c 0 X) t in
      let d = append-left B (gate_definitions (top_of F c) c) (selectors (top_of F c) c 0 X ∷ selections (top_of F c) c 0 X) u in
      let r = append-right B (gate_definitions (top_of F c) c) (selectors (top_of F c) c 0 X ∷ selections (top_of F c) c 0 X) u in
      let w : MatrixFalse (outcome (trees_of c) B) (needed (top_of F c) c F.matrix) =
      selected-false (top_of F c) c B (outcome (trees_of c) B) 0 X (given-translates B d)
      (r (selectors (top_of F c) c 0 X) (inl refl)) (λ E m. r E (inr m)) in
      (w.0, needed-IsIn (top_of F c) c F.matrix w.0 w.1, w.2)

  module _ (A : Assignment) where
    wide-zero : wide_over (top_of F c) c (under c A) A (needed (top_of F c) c F.matrix) (top_of F c + 1) ≡ false
    wide-zero = extended-zero (top_of F c) (length c.gates) (trees_in c) (under c A) A (needed (top_of F c) c F.matrix)

    wide-agrees : Agrees (top_of F c) (wide_over (top_of F c) c (under c A) A (needed (top_of F c) c F.matrix)) (trees_in c)
    wide-agrees = extended-agrees (top_of F c) c (under c A) A (needed (top_of F c) c F.matrix) h low

    wide-definitions : MatrixTrue (wide_over (top_of F c) c (under c A) A (needed (top_of F c) c F.matrix)) (gate_definitions (top_of F c) c)
    wide-definitions =
        agree-definitions (top_of F c) c (wide_over (top_of F c) c (under c A) A (needed (top_of F c) c F.matrix)) h wide-zero wide-agrees

    wide-translates : (D : Clause) → IsIn D F.matrix → (k : Literal) → IsIn k D →
        literal_true (wide_over (top_of F c) c (under c A) A (needed (top_of F c) c F.matrix)) (translated (top_of F c) c k) ≡
        literal_true (under c A) k
    wide-translates D m k i =
        translated-value (top_of F c) c (wide_over (top_of F c) c (under c A) A (needed (top_of F c) c F.matrix)) k h wide-zero wide-agrees ∙
        ap (signed k.negative) (extended-outcome (top_of F c) c (under c A) A (needed (top_of F c) c F.matrix) h low k.var
        (low_bound k.var (f.closed D m k i)))

    wide-marks : Marks (top_of F c) c (wide_over (top_of F c) c (under c A) A (needed (top_of F c) c F.matrix)) (under c A) 0
        (needed (top_of F c) c F.matrix)
    wide-marks i k =
        let e : 0 + i ≡ i = omega arith in
        ap (λ (m : ℕ). literal_true (wide_over (top_of F c) c (under c A) A (needed (top_of F c) c F.matrix))
        (selector (top_of F c) (length c.gates) m)) e ∙
        extended-selector (top_of F c) (length c.gates) (trees_in c) (under c A) A (needed (top_of F c) c F.matrix) i

    false-needed : MatrixFalse (under c A) F.matrix → MatrixFalse (under c A) (needed (top_of F c) c F.matrix)
    false-needed (D, m, n) = go (is_needless (top_of F c) c D) refl
      where
        go : (b : Bool) → is_needless (top_of F c) c D ≡ b → MatrixFalse (under c A) (needed (top_of F c) c F.matrix)
        go false e = (D, IsIn-needed (top_of F c) c F.matrix D m e, n)
        go true e =
            let w = needless-true (top_of F c) c (wide_over (top_of F c) c (under c A) A (needed (top_of F c) c F.matrix)) D wide-definitions e in
            let r = IsIn-translated (top_of F c) c w.0 D w.1 in
            absurd (n (
              r.0,
              r.1,
              sym (wide-translates D m r.0 r.1) ∙
                  sym (ap (literal_true (wide_over (top_of F c) c (under c A) A (needed (top_of F c) c F.matrix))) r.2) ∙ w.2,
            ))

    false-satisfies : MatrixFalse (under c A) F.matrix →
        MatrixTrue (wide_over (top_of F c) c (under c A) A (needed (top_of F c) c F.matrix)) (lean_miter F c)
    false-satisfies l =
        let X = needed (top_of F c) c F.matrix in
        let B = wide_over (top_of F c) c (under c A) A (needed (top_of F c) c F.matrix) in
        true-in_order B (gate_definitions (top_of F c) c ++ selectors (top_of F c) c 0 X ∷ selections (top_of F c) c 0 X)
        (true-append B (gate_definitions (top_of F c) c) (selectors (top_of F c) c 0 X ∷ selections (top_of F c) c 0 X) wide-definitions
        (true-first B (selectors (top_of F c) c 0 X) (selections (top_of F c) c 0 X)
        (selectors-true (top_of F c) c B (under c A) 0 X wide-marks (false-needed l))
        (selections-true (top_of F c) c B (under c A) 0 X (λ D m. wide-translates D (needed-IsIn (top_of F c) c F.matrix D m)) wide-marks)))

  pub lean-decided : (G : PrenexFormula) → Lawful F.prefix (trees_of c) → IsCnf (lean_miter F c) G →
      (SkolemOf F (trees_of c) ↔ ¬ Holds G) × (Holds G ↔ ¬ SkolemOf F (trees_of c))
  lean-decided G l g = ((valid, skolem), (λ t s. valid s t, refuted))
    where
      valid : SkolemOf F (trees_of c) → Holds G → ⊥
      valid s t =
          let w = holds-satisfied G g.existential t in
          let m : MatrixFalse (outcome (trees_of c) w.0) F.matrix =
          satisfied-false w.0 (subst (MatrixTrue w.0) g.matrix w.1) in m.2 (s.wins w.0 m.0 m.1)

      skolem : ¬ Holds G → SkolemOf F (trees_of c)
      skolem n = record { lawful = l; wins = λ A. go A (matrix_either (outcome (trees_of c) A) F.matrix) }
        where
          go : (A : Assignment) → MatrixTrue (outcome (trees_of c) A) F.matrix ⊎ MatrixFalse (outcome (trees_of c) A) F.matrix →
              MatrixTrue (outcome (trees_of c) A) F.matrix
          go A (inl t) = t
          go A (inr m) =
              absurd (n (satisfied-holds G (wide_over (top_of F c) c (under c A) A (needed (top_of F c) c F.matrix)) g.existential g.closed
              (subst (MatrixTrue (wide_over (top_of F c) c (under c A) A (needed (top_of F c) c F.matrix))) (sym g.matrix) (false-satisfies A m))))

      refuted : ¬ SkolemOf F (trees_of c) → Holds G
      refuted n = elim (true_decided G.prefix G.matrix (λ x. false)) [ inl t ↦ t | inr k ↦ absurd (n (skolem k)) ]

-- Sizes.
pub literals-needed : (top : ℕ) (c : CertificateView) (X : Matrix) → literals_in (needed top c X) ≤ literals_in X
literals-needed top c [] = omega arith
literals-needed top c (D ∷ X) = go (is_needless top c D) (literals-needed top c X)
  where
    go : (b : Bool) → literals_in (needed top c X) ≤ literals_in X → literals_in (cond b (needed top c X) (D ∷ needed top c X)) ≤ literals_in (D ∷ X)
    go true h = omega arith
    go false h = omega arith

pub length-needed : (top : ℕ) (c : CertificateView) (X : Matrix) → length (needed top c X) ≤ length X
length-needed top c [] = omega arith
length-needed top c (D ∷ X) = go (is_needless top c D) (length-needed top c X)
  where
    go : (b : Bool) → length (needed top c X) ≤ length X → length (cond b (needed top c X) (D ∷ needed top c X)) ≤ length (D ∷ X)
    go true h = omega arith
    go false h = omega arith

pub lean-smaller : (F : PrenexFormula) (c : CertificateView) → length (lean_miter F c) ≤ length (skolem_miter F c)
lean-smaller F c =
    let t = top_of F c in
    let X = needed t c F.matrix in
    let o = length-in_order (gate_definitions t c ++ selectors t c 0 F.matrix ∷ selections t c 0 F.matrix) in
    let p = length-in_order (gate_definitions t c ++ selectors t c 0 X ∷ selections t c 0 X) in
    let a : length (gate_definitions t c ++ selectors t c 0 F.matrix ∷ selections t c 0 F.matrix) ≡
    length (gate_definitions t c) + length (selectors t c 0 F.matrix ∷ selections t c 0 F.matrix) =
    length-append (gate_definitions t c) (selectors t c 0 F.matrix ∷ selections t c 0 F.matrix) in
    let b : length (gate_definitions t c ++ selectors t c 0 X ∷ selections t c 0 X) ≡
    length (gate_definitions t c) + length (selectors t c 0 X ∷ selections t c 0 X) =
    length-append (gate_definitions t c) (selectors t c 0 X ∷ selections t c 0 X) in
    let s = length-selections t c 0 F.matrix in
    let r = length-selections t c 0 X in
    let l = literals-needed t c F.matrix in omega arith
