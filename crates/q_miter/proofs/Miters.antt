-- A miter is satisfied exactly where the circuits fail.
use Rattle.std.proofs.Common.{◌≡◌, ◌↔◌, ℕ, suc, ◌+◌, ◌*◌, ◌<◌, ◌≤◌, Bool, true, false, not, ◌||◌, List, [], ◌∷◌, ◌++◌, ◌⊎◌, inl, inr, arith, refl, sym, ap, ◌∙◌, subst, length, get_or}
use Rattle.std.proofs.lemmas.List.{length-append}
use Rattle.q_logic.specs.Prelude.{Literal, negation, Clause, Matrix, IsIn, PrenexFormula, IsFormula, is_bound, Holds, CertificateView, Gate, gate_trees, trees_of, outcome, Lawful, SkolemOf, literals_in, Assignment, ClauseTrue, signed, literal_true}
use Rattle.q_logic.specs.Truth.{MatrixTrue, clause_true}
use Rattle.q_logic.specs.Herbrands.{MatrixFalse, LawfulHerbrand, HerbrandOf}
use Rattle.q_logic.proofs.TruthDecided.{clause_true-sound, clause_true-complete, true_decided}
use Rattle.q_logic.proofs.Falsity.{matrix_either}
use Rattle.q_logic.proofs.Common.{is_bound-greatest}
use Rattle.q_miter.specs.Miters.{AreCircuits, greatest_name, top_of, zero_literal, selector, gate_clauses, gate_definitions, translated, translated_clause, translated_matrix, denials, selections, selectors, skolem_miter, herbrand_miter, IsCnf}
use Rattle.q_miter.proofs.Satisfied.{satisfied-holds, holds-satisfied, in_order-true, true-in_order, true-first, true-append, append-left, append-right, length-in_order}
use Rattle.q_miter.proofs.GateValues.{Agrees, negation-true, clauses-agree, agree-clauses, translated-value}
use Rattle.q_miter.proofs.Extended.{trees_in, wide_over, extended-zero, extended-selector, extended-agrees, extended-outcome}

-- What the clauses of the gates say.
pub definitions-zero : (top : ℕ) (c : CertificateView) (A : Assignment) → MatrixTrue A (gate_definitions top c) → A (top + 1) ≡ false
definitions-zero top c A t = go (A (top + 1)) (clause_true-complete A (negation (zero_literal top) ∷ []) (t (negation (zero_literal top) ∷ []) (inl refl)))
  where
    go : (b : Bool) → not b || false ≡ true → b ≡ false
    go true e = absurd (cc)
    go false e = refl

pub definitions-agree : (top : ℕ) (c : CertificateView) (A : Assignment) → AreCircuits c → MatrixTrue A (gate_definitions top c) →
    Agrees top A (gate_trees c.inputs [] c.gates)
definitions-agree top c A h t =
    clauses-agree top c.inputs A c.gates 0 [] (definitions-zero top c A t) refl h.gates (λ i k. absurd (omega arith)) (λ D m. t D (inr m))

pub agree-definitions : (top : ℕ) (c : CertificateView) (A : Assignment) → AreCircuits c → A (top + 1) ≡ false →
    Agrees top A (gate_trees c.inputs [] c.gates) → MatrixTrue A (gate_definitions top c)
agree-definitions top c A h z g =
    true-first A (negation (zero_literal top) ∷ []) (gate_clauses top c.inputs 0 c.gates)
    (clause_true-sound A (negation (zero_literal top) ∷ []) (rw z refl))
    (agree-clauses top c.inputs A c.gates 0 [] z refl h.gates g)

-- Clauses under the circuits.
pub translated-IsIn : (top : ℕ) (c : CertificateView) (k : Literal) (D : Clause) → IsIn k D → IsIn (translated top c k) (translated_clause top c D)
translated-IsIn top c k [] m = elim m [ ]
translated-IsIn top c k (j ∷ D) (inl e) = inl (ap (translated top c) e)
translated-IsIn top c k (j ∷ D) (inr m) = inr (translated-IsIn top c k D m)

pub IsIn-translated : (top : ℕ) (c : CertificateView) (l : Literal) (D : Clause) → IsIn l (translated_clause top c D) →
    (k : Literal) × IsIn k D × (l ≡ translated top c k)
IsIn-translated top c l [] m = elim m [ ]
IsIn-translated top c l (j ∷ D) (inl e) = (j, inl refl, e)
IsIn-translated top c l (j ∷ D) (inr m) = let r = IsIn-translated top c l D m in (r.0, inr r.1, r.2)

-- the values of translated literals are those under M
abbrev pub Translates : ℕ → CertificateView → Assignment → Assignment → Type 0
Translates top c B M = (k : Literal) → literal_true B (translated top c k) ≡ literal_true M k

matrix-translated : (top : ℕ) (c : CertificateView) (B M : Assignment) (X : Matrix) →
    ((D : Clause) → IsIn D X → (k : Literal) → IsIn k D → literal_true B (translated top c k) ≡ literal_true M k) →
    MatrixTrue M X → MatrixTrue B (translated_matrix top c X)
matrix-translated top c B M [] e t = λ D m. elim m [ ]
matrix-translated top c B M (D ∷ X) e t =
    let w : ClauseTrue M D = t D (inl refl) in
    true-first B (translated_clause top c D) (translated_matrix top c X)
    (translated top c w.0, translated-IsIn top c w.0 D w.1, e D (inl refl) w.0 w.1 ∙ w.2)
    (matrix-translated top c B M X (λ E m. e E (inr m)) (λ E m. t E (inr m)))

translated-matrix : (top : ℕ) (c : CertificateView) (B M : Assignment) (X : Matrix) → Translates top c B M →
    MatrixTrue B (translated_matrix top c X) → MatrixTrue M X
translated-matrix top c B M [] e t = λ D m. elim m [ ]
translated-matrix top c B M (D ∷ X) e t =
    let w : ClauseTrue B (translated_clause top c D) = t (translated_clause top c D) (inl refl) in
    let r = IsIn-translated top c w.0 D w.1 in
    true-first M D X (r.0, r.1, sym (e r.0) ∙ sym (ap (literal_true B) r.2) ∙ w.2)
    (translated-matrix top c B M X e (λ E m. t E (inr m)))

-- Selectors.
denied : (top : ℕ) (c : CertificateView) (B M : Assignment) (q : Literal) (D : Clause) → Translates top c B M → literal_true B q ≡ true →
    MatrixTrue B (denials top c q D) → ClauseTrue M D → ⊥
denied top c B M q [] e s t w = w.1
denied top c B M q (k ∷ D) e s t (j, inr m, h) = denied top c B M q D e s (λ E n. t E (inr n)) (j, m, h)
denied top c B M q (k ∷ D) e s t (j, inl x, h) =
    let a : clause_true B (negation q ∷ negation (translated top c k) ∷ []) ≡ true =
    clause_true-complete B (negation q ∷ negation (translated top c k) ∷ []) (t (negation q ∷ negation (translated top c k) ∷ []) (inl refl)) in
    let v : literal_true B (translated top c k) ≡ true = e k ∙ sym (ap (literal_true M) x) ∙ h in
    go (literal_true B q) s (literal_true B (translated top c k)) v
    (subst (λ (b : Bool). b || (not (literal_true B (translated top c k)) || false) ≡ true) (negation-true B q)
    (subst (λ (b : Bool). literal_true B (negation q) || (b || false) ≡ true) (negation-true B (translated top c k)) a))
  where
    go : (x : Bool) → x ≡ true → (y : Bool) → y ≡ true → not x || (not y || false) ≡ true → ⊥
    go true a true b h = cc
    go true a false b h = cc
    go false a y b h = cc

pub selected-false : (top : ℕ) (c : CertificateView) (B M : Assignment) (n : ℕ) (X : Matrix) → Translates top c B M →
    ClauseTrue B (selectors top c n X) → MatrixTrue B (selections top c n X) → MatrixFalse M X
selected-false top c B M n [] e s t = absurd s.1
selected-false top c B M n (D ∷ X) e (q, inl x, h) t = (
  D,
  inl refl,
  denied top c B M (selector top (length c.gates) n) D e (sym (ap (literal_true B) x) ∙ h)
      (append-left B (denials top c (selector top (length c.gates) n) D) (selections top c (n + 1) X) t),
)
selected-false top c B M n (D ∷ X) e (q, inr m, h) t =
    let r = selected-false top c B M (n + 1) X e (q, m, h)
    (append-right B (denials top c (selector top (length c.gates) n) D) (selections top c (n + 1) X) t) in
    (r.0, inr r.1, r.2)

-- each selector says whether its clause is false
abbrev pub Marks : ℕ → CertificateView → Assignment → Assignment → ℕ → Matrix → Type 0
Marks top c B M n X = (i : ℕ) → i < length X → literal_true B (selector top (length c.gates) (n + i)) ≡ not (clause_true M (get_or X i []))

marks-rest : (top : ℕ) (c : CertificateView) (B M : Assignment) (n : ℕ) (D : Clause) (X : Matrix) → Marks top c B M n (D ∷ X) →
    Marks top c B M (n + 1) X
marks-rest top c B M n D X h i k =
    ap (λ (m : ℕ). literal_true B (selector top (length c.gates) m)) (omega arith) ∙ h (suc i) (omega arith)

marks-first : (top : ℕ) (c : CertificateView) (B M : Assignment) (n : ℕ) (D : Clause) (X : Matrix) → Marks top c B M n (D ∷ X) →
    literal_true B (selector top (length c.gates) n) ≡ not (clause_true M D)
marks-first top c B M n D X h =
    ap (λ (m : ℕ). literal_true B (selector top (length c.gates) m)) (omega arith) ∙ h 0 (omega arith)

denials-true : (top : ℕ) (c : CertificateView) (B M : Assignment) (q : Literal) (D : Clause) →
    ((k : Literal) → IsIn k D → literal_true B (translated top c k) ≡ literal_true M k) →
    (literal_true B q ≡ true → (k : Literal) → IsIn k D → literal_true M k ≡ false) → MatrixTrue B (denials top c q D)
denials-true top c B M q [] e h = λ E m. elim m [ ]
denials-true top c B M q (k ∷ D) e h =
    true-first B (negation q ∷ negation (translated top c k) ∷ []) (denials top c q D)
    (clause_true-sound B (negation q ∷ negation (translated top c k) ∷ []) whole)
    (denials-true top c B M q D (λ j m. e j (inr m)) (λ s j m. h s j (inr m)))
  where
    go : (x : Bool) → literal_true B q ≡ x → not x || (not (literal_true B (translated top c k)) || false) ≡ true
    go true s = let v : literal_true B (translated top c k) ≡ false = e k (inl refl) ∙ h s k (inl refl) in rw v refl
    go false s = refl

    whole : clause_true B (negation q ∷ negation (translated top c k) ∷ []) ≡ true
    whole =
        subst (λ (b : Bool). b || (literal_true B (negation (translated top c k)) || false) ≡ true) (sym (negation-true B q))
        (subst (λ (b : Bool). not (literal_true B q) || (b || false) ≡ true) (sym (negation-true B (translated top c k)))
        (go (literal_true B q) refl))

false-literals : (M : Assignment) (D : Clause) → clause_true M D ≡ false → (k : Literal) → IsIn k D → literal_true M k ≡ false
false-literals M D h k m = go (literal_true M k) refl
  where
    go : (x : Bool) → literal_true M k ≡ x → literal_true M k ≡ false
    go true e = absurd (let z : clause_true M D ≡ true = clause_true-complete M D (k, m, e) in cc)
    go false e = e

pub selections-true : (top : ℕ) (c : CertificateView) (B M : Assignment) (n : ℕ) (X : Matrix) →
    ((D : Clause) → IsIn D X → (k : Literal) → IsIn k D → literal_true B (translated top c k) ≡ literal_true M k) →
    Marks top c B M n X → MatrixTrue B (selections top c n X)
selections-true top c B M n [] e h = λ E m. elim m [ ]
selections-true top c B M n (D ∷ X) e h =
    true-append B (denials top c (selector top (length c.gates) n) D) (selections top c (n + 1) X)
    (denials-true top c B M (selector top (length c.gates) n) D (e D (inl refl))
    (λ s. false-literals M D (turned (clause_true M D) (sym s ∙ marks-first top c B M n D X h))))
    (selections-true top c B M (n + 1) X (λ E m. e E (inr m)) (marks-rest top c B M n D X h))
  where
    turned : (x : Bool) → true ≡ not x → x ≡ false
    turned true e = absurd (cc)
    turned false e = refl

pub selectors-true : (top : ℕ) (c : CertificateView) (B M : Assignment) (n : ℕ) (X : Matrix) → Marks top c B M n X → MatrixFalse M X →
    ClauseTrue B (selectors top c n X)
selectors-true top c B M n [] h (D, m, f) = absurd m
selectors-true top c B M n (E ∷ X) h (D, inl e, f) =
    (selector top (length c.gates) n, inl refl, marks-first top c B M n E X h ∙ go (clause_true M E) refl)
  where
    go : (x : Bool) → clause_true M E ≡ x → not x ≡ true
    go true z = absurd (f (subst (ClauseTrue M) (sym e) (clause_true-sound M E z)))
    go false z = refl
selectors-true top c B M n (E ∷ X) h (D, inr m, f) =
    let r = selectors-true top c B M (n + 1) X (marks-rest top c B M n E X h) (D, m, f) in (r.0, inr r.1, r.2)

-- Both miters: the outcome of values, and the assignment that goes with them.
abbrev pub under : CertificateView → Assignment → Assignment
under c A = outcome (trees_of c) A

abbrev wide_of : PrenexFormula → CertificateView → Assignment → Assignment
wide_of F c A = wide_over (top_of F c) c (outcome (trees_of c) A) A F.matrix

abbrev skolem_rows : PrenexFormula → CertificateView → Matrix
skolem_rows F c = selectors (top_of F c) c 0 F.matrix ∷ selections (top_of F c) c 0 F.matrix

module _ (F : PrenexFormula) (c : CertificateView) (f : IsFormula F) (h : AreCircuits c) where
  low : greatest_name c.inputs ≤ top_of F c
  low = omega arith

  low_bound : (x : ℕ) → is_bound F.prefix x ≡ true → x ≤ top_of F c
  low_bound x b = let k = is_bound-greatest F.prefix x b in omega arith

  wide-zero : (A : Assignment) → wide_of F c A (top_of F c + 1) ≡ false
  wide-zero A = extended-zero (top_of F c) (length c.gates) (trees_in c) (under c A) A F.matrix

  wide-agrees : (A : Assignment) → Agrees (top_of F c) (wide_of F c A) (trees_in c)
  wide-agrees A = extended-agrees (top_of F c) c (under c A) A F.matrix h low

  wide-definitions : (A : Assignment) → MatrixTrue (wide_of F c A) (gate_definitions (top_of F c) c)
  wide-definitions A = agree-definitions (top_of F c) c (wide_of F c A) h (wide-zero A) (wide-agrees A)

  wide-translates : (A : Assignment) (D : Clause) → IsIn D F.matrix → (k : Literal) → IsIn k D →
      literal_true (wide_of F c A) (translated (top_of F c) c k) ≡ literal_true (under c A) k
  wide-translates A D m k i =
      translated-value (top_of F c) c (wide_of F c A) k h (wide-zero A) (wide-agrees A) ∙
      ap (signed k.negative) (extended-outcome (top_of F c) c (under c A) A F.matrix h low k.var (low_bound k.var (f.closed D m k i)))

  wide-marks : (A : Assignment) → Marks (top_of F c) c (wide_of F c A) (under c A) 0 F.matrix
  wide-marks A i k =
      let e : 0 + i ≡ i = omega arith in
      ap (λ (m : ℕ). literal_true (wide_of F c A) (selector (top_of F c) (length c.gates) m)) e ∙
      extended-selector (top_of F c) (length c.gates) (trees_in c) (under c A) A F.matrix i

  given-translates : (B : Assignment) → MatrixTrue B (gate_definitions (top_of F c) c) → Translates (top_of F c) c B (outcome (trees_of c) B)
  given-translates B t k =
      translated-value (top_of F c) c B k h (definitions-zero (top_of F c) c B t) (definitions-agree (top_of F c) c B h t)

  false-satisfies : (A : Assignment) → MatrixFalse (outcome (trees_of c) A) F.matrix → MatrixTrue (wide_of F c A) (skolem_miter F c)
  false-satisfies A l =
      true-in_order (wide_of F c A) (gate_definitions (top_of F c) c ++ (skolem_rows F c))
      (true-append (wide_of F c A) (gate_definitions (top_of F c) c) (skolem_rows F c) (wide-definitions A)
      (true-first (wide_of F c A) (selectors (top_of F c) c 0 F.matrix) (selections (top_of F c) c 0 F.matrix)
      (selectors-true (top_of F c) c (wide_of F c A) (under c A) 0 F.matrix (wide-marks A) l)
      (selections-true (top_of F c) c (wide_of F c A) (under c A) 0 F.matrix (wide-translates A) (wide-marks A))))

  satisfied-false : (B : Assignment) → MatrixTrue B (skolem_miter F c) → MatrixFalse (outcome (trees_of c) B) F.matrix
  satisfied-false B t =
      let u = in_order-true B (gate_definitions (top_of F c) c ++ (skolem_rows F c)) t in
      let d = append-left B (gate_definitions (top_of F c) c) (skolem_rows F c) u in
      let r = append-right B (gate_definitions (top_of F c) c) (skolem_rows F c) u in
      selected-false (top_of F c) c B (outcome (trees_of c) B) 0 F.matrix (given-translates B d)
      (r (selectors (top_of F c) c 0 F.matrix) (inl refl)) (λ E m. r E (inr m))

  pub skolem-decided : (G : PrenexFormula) → Lawful F.prefix (trees_of c) → IsCnf (skolem_miter F c) G →
      (SkolemOf F (trees_of c) ↔ ¬ Holds G) × (Holds G ↔ ¬ SkolemOf F (trees_of c))
  skolem-decided G l g = ((valid, skolem), (λ t s. valid s t, refuted))
    where
      valid : SkolemOf F (trees_of c) → Holds G → ⊥
      valid s t =
          let w = holds-satisfied G g.existential t in
          let m : MatrixFalse (outcome (trees_of c) w.0) F.matrix =
          satisfied-false w.0 (subst (MatrixTrue w.0) g.matrix w.1) in m.2 (s.wins w.0 m.0 m.1)

      skolem : ¬ Holds G → SkolemOf F (trees_of c)
      skolem n = record { lawful = l; wins = λ A. go A (matrix_either (outcome (trees_of c) A) F.matrix) }
        where
          go : (A : Assignment) → MatrixTrue (outcome (trees_of c) A) F.matrix ⊎ MatrixFalse (outcome (trees_of c) A) F.matrix →
              MatrixTrue (outcome (trees_of c) A) F.matrix
          go A (inl t) = t
          go A (inr m) =
              absurd (n (satisfied-holds G (wide_of F c A) g.existential g.closed (subst (MatrixTrue (wide_of F c A)) (sym g.matrix) (false-satisfies A m))))

      refuted : ¬ SkolemOf F (trees_of c) → Holds G
      refuted n = elim (true_decided G.prefix G.matrix (λ x. false)) [ inl t ↦ t | inr k ↦ absurd (n (skolem k)) ]

  true-satisfies : (A : Assignment) → MatrixTrue (outcome (trees_of c) A) F.matrix → MatrixTrue (wide_of F c A) (herbrand_miter F c)
  true-satisfies A t =
      true-in_order (wide_of F c A) (gate_definitions (top_of F c) c ++ translated_matrix (top_of F c) c F.matrix)
      (true-append (wide_of F c A) (gate_definitions (top_of F c) c) (translated_matrix (top_of F c) c F.matrix) (wide-definitions A)
      (matrix-translated (top_of F c) c (wide_of F c A) (under c A) F.matrix (wide-translates A) t))

  satisfied-true : (B : Assignment) → MatrixTrue B (herbrand_miter F c) → MatrixTrue (outcome (trees_of c) B) F.matrix
  satisfied-true B t =
      let u = in_order-true B (gate_definitions (top_of F c) c ++ translated_matrix (top_of F c) c F.matrix) t in
      let d = append-left B (gate_definitions (top_of F c) c) (translated_matrix (top_of F c) c F.matrix) u in
      translated-matrix (top_of F c) c B (outcome (trees_of c) B) F.matrix (given-translates B d)
      (append-right B (gate_definitions (top_of F c) c) (translated_matrix (top_of F c) c F.matrix) u)

  pub herbrand-decided : (G : PrenexFormula) → LawfulHerbrand F.prefix (trees_of c) → IsCnf (herbrand_miter F c) G →
      (HerbrandOf F (trees_of c) ↔ ¬ Holds G) × (Holds G ↔ ¬ HerbrandOf F (trees_of c))
  herbrand-decided G l g = ((valid, herbrand), (λ t s. valid s t, refuted))
    where
      valid : HerbrandOf F (trees_of c) → Holds G → ⊥
      valid s t =
          let w = holds-satisfied G g.existential t in
          let m : MatrixTrue (outcome (trees_of c) w.0) F.matrix =
          satisfied-true w.0 (subst (MatrixTrue w.0) g.matrix w.1) in
          let k : MatrixFalse (outcome (trees_of c) w.0) F.matrix = s.loses w.0 in k.2 (m k.0 k.1)

      herbrand : ¬ Holds G → HerbrandOf F (trees_of c)
      herbrand n = record { lawful = l; loses = λ A. go A (matrix_either (outcome (trees_of c) A) F.matrix) }
        where
          go : (A : Assignment) → MatrixTrue (outcome (trees_of c) A) F.matrix ⊎ MatrixFalse (outcome (trees_of c) A) F.matrix →
              MatrixFalse (outcome (trees_of c) A) F.matrix
          go A (inr m) = m
          go A (inl t) =
              absurd (n (satisfied-holds G (wide_of F c A) g.existential g.closed (subst (MatrixTrue (wide_of F c A)) (sym g.matrix) (true-satisfies A t))))

      refuted : ¬ HerbrandOf F (trees_of c) → Holds G
      refuted n = elim (true_decided G.prefix G.matrix (λ x. false)) [ inl t ↦ t | inr k ↦ absurd (n (herbrand k)) ]

-- Sizes.
pub length-gates : (top : ℕ) (inputs : List ℕ) (n : ℕ) (gates : List Gate) → length (gate_clauses top inputs n gates) ≡ 3 * length gates
length-gates top inputs n [] = refl
length-gates top inputs n (g ∷ gates) = let k = length-gates top inputs (n + 1) gates in omega arith

length-denials : (top : ℕ) (c : CertificateView) (q : Literal) (D : Clause) → length (denials top c q D) ≡ length D
length-denials top c q [] = refl
length-denials top c q (k ∷ D) = let h = length-denials top c q D in omega arith

pub length-selections : (top : ℕ) (c : CertificateView) (n : ℕ) (X : Matrix) → length (selections top c n X) ≡ literals_in X
length-selections top c n [] = refl
length-selections top c n (D ∷ X) =
    let a : length (denials top c (selector top (length c.gates) n) D ++ selections top c (n + 1) X) ≡
    length (denials top c (selector top (length c.gates) n) D) + length (selections top c (n + 1) X) =
    length-append (denials top c (selector top (length c.gates) n) D) (selections top c (n + 1) X) in
    let h = length-denials top c (selector top (length c.gates) n) D in
    let k = length-selections top c (n + 1) X in omega arith

length-translated : (top : ℕ) (c : CertificateView) (X : Matrix) → length (translated_matrix top c X) ≡ length X
length-translated top c [] = refl
length-translated top c (D ∷ X) = let h = length-translated top c X in omega arith

pub skolem-length : (F : PrenexFormula) (c : CertificateView) → length (skolem_miter F c) ≡ 3 * length c.gates + literals_in F.matrix + 2
skolem-length F c =
    let t = top_of F c in
    let o = length-in_order (gate_definitions t c ++ selectors t c 0 F.matrix ∷ selections t c 0 F.matrix) in
    let a : length (gate_definitions t c ++ selectors t c 0 F.matrix ∷ selections t c 0 F.matrix) ≡
    length (gate_definitions t c) + length (selectors t c 0 F.matrix ∷ selections t c 0 F.matrix) =
    length-append (gate_definitions t c) (selectors t c 0 F.matrix ∷ selections t c 0 F.matrix) in
    let g = length-gates t c.inputs 0 c.gates in
    let s = length-selections t c 0 F.matrix in omega arith

pub herbrand-length : (F : PrenexFormula) (c : CertificateView) → length (herbrand_miter F c) ≡ 3 * length c.gates + length F.matrix + 1
herbrand-length F c =
    let t = top_of F c in
    let o = length-in_order (gate_definitions t c ++ translated_matrix t c F.matrix) in
    let a : length (gate_definitions t c ++ translated_matrix t c F.matrix) ≡
    length (gate_definitions t c) + length (translated_matrix t c F.matrix) =
    length-append (gate_definitions t c) (translated_matrix t c F.matrix) in
    let g = length-gates t c.inputs 0 c.gates in
    let s = length-translated t c F.matrix in omega arith
