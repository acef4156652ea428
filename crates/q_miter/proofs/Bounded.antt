-- The numbers and the literals of a miter.
use Rattle.std.proofs.Common.{◌≡◌, ℕ, ◌+◌, ◌*◌, ◌<◌, ◌≤◌, Bool, true, false, cond, List, [], ◌∷◌, ◌++◌, inl, inr, arith, refl, sym, subst, length, Option, Some, None}
use Rattle.q_logic.specs.Prelude.{Literal, negation, Clause, Matrix, IsIn, PrenexFormula, IsFormula, is_bound, CertificateView, Gate, GateNode, falsum, input_at, gate_at, Operand, IsThere, AreGates, output_named, literals_in, clause_of}
use Rattle.q_logic.proofs.Common.{IsIn-clause_of, IsIn-append, clause_of-length, is_bound-greatest}
use Rattle.q_miter.specs.Miters.{AreCircuits, VarsUpTo, greatest_name, top_of, zero_literal, gate_literal, selector, node_literal, operand_literal, gate_clauses, gate_definitions, literal_by, translated, translated_clause, translated_matrix, denials, selections, selectors, in_order, skolem_miter, herbrand_miter, needed, lean_miter}
use Rattle.q_miter.proofs.Extended.{name-greatest}
use Rattle.q_miter.proofs.Lean.{needed-IsIn, length-needed, literals-needed}

-- Variables.
abbrev UpTo : ℕ → Clause → Type 0
UpTo n D = (k : Literal) → IsIn k D → k.var ≤ n

up-none : (n : ℕ) → UpTo n []
up-none n k m = elim m [ ]

up-more : (n : ℕ) (j : Literal) (D : Clause) → j.var ≤ n → UpTo n D → UpTo n (j ∷ D)
up-more n j D h d k (inl e) = subst (λ (l : Literal). l.var ≤ n) (sym e) h
up-more n j D h d k (inr m) = d k m

all-none : (n : ℕ) → VarsUpTo n []
all-none n D m = elim m [ ]

all-more : (n : ℕ) (D : Clause) (X : Matrix) → UpTo n D → VarsUpTo n X → VarsUpTo n (D ∷ X)
all-more n D X h x E (inl e) = subst (UpTo n) (sym e) h
all-more n D X h x E (inr m) = x E m

all-append : (n : ℕ) (X Y : Matrix) → VarsUpTo n X → VarsUpTo n Y → VarsUpTo n (X ++ Y)
all-append n X Y x y D m = elim (IsIn-append D X Y m) [ inl i ↦ x D i | inr i ↦ y D i ]

all-further : (m n : ℕ) (X : Matrix) → m ≤ n → VarsUpTo m X → VarsUpTo n X
all-further m n X h x D d k i = let z = x D d k i in omega arith

all-in_order : (n : ℕ) (X : Matrix) → VarsUpTo n X → VarsUpTo n (in_order X)
all-in_order n [] x = x
all-in_order n (D ∷ X) x =
    all-more n (clause_of D) (in_order X) (λ k m. x D (inl refl) k (IsIn-clause_of k D m)) (all-in_order n X (λ E m. x E (inr m)))

node-up : (n top gates : ℕ) (inputs : List ℕ) (m : GateNode) → greatest_name inputs ≤ top → top + gates + 1 ≤ n →
    IsThere (length inputs) gates m → (node_literal top inputs m).var ≤ n
node-up n top gates inputs falsum l h t = omega arith
node-up n top gates inputs (input_at i) l h t = let k = name-greatest inputs i t in omega arith
node-up n top gates inputs (gate_at g) l h t = let k : g < gates = t in omega arith

operand-up : (n top gates : ℕ) (inputs : List ℕ) (o : Operand) → greatest_name inputs ≤ top → top + gates + 1 ≤ n →
    IsThere (length inputs) gates o.node → (operand_literal top inputs o).var ≤ n
operand-up n top gates inputs o l h t = go o.negated
  where
    go : (b : Bool) → (cond b (negation (node_literal top inputs o.node)) (node_literal top inputs o.node)).var ≤ n
    go true = node-up n top gates inputs o.node l h t
    go false = node-up n top gates inputs o.node l h t

there-later : (inputs m gates : ℕ) (n : GateNode) → m ≤ gates → IsThere inputs m n → IsThere inputs gates n
there-later inputs m gates falsum h t = t
there-later inputs m gates (input_at i) h t = t
there-later inputs m gates (gate_at g) h t = let k : g < m = t in omega arith

gates-up : (n top count : ℕ) (inputs : List ℕ) (m : ℕ) (gates : List Gate) → greatest_name inputs ≤ top → top + count + 1 ≤ n →
    m + length gates ≤ count → AreGates (length inputs) m gates → VarsUpTo n (gate_clauses top inputs m gates)
gates-up n top count inputs m [] l h c a = all-none n
gates-up n top count inputs m (x ∷ gates) l h c a =
    all-more n (negation (gate_literal top m) ∷ operand_literal top inputs x.left ∷ [])
    ((negation (gate_literal top m) ∷ operand_literal top inputs x.right ∷ []) ∷
    (gate_literal top m ∷ negation (operand_literal top inputs x.left) ∷ negation (operand_literal top inputs x.right) ∷ []) ∷
    gate_clauses top inputs (m + 1) gates)
    (up-more n (negation (gate_literal top m)) (operand_literal top inputs x.left ∷ []) own
    (up-more n (operand_literal top inputs x.left) [] left (up-none n)))
    (all-more n (negation (gate_literal top m) ∷ operand_literal top inputs x.right ∷ [])
    ((gate_literal top m ∷ negation (operand_literal top inputs x.left) ∷ negation (operand_literal top inputs x.right) ∷ []) ∷
    gate_clauses top inputs (m + 1) gates)
    (up-more n (negation (gate_literal top m)) (operand_literal top inputs x.right ∷ []) own
    (up-more n (operand_literal top inputs x.right) [] right (up-none n)))
    (all-more n (gate_literal top m ∷ negation (operand_literal top inputs x.left) ∷ negation (operand_literal top inputs x.right) ∷ [])
    (gate_clauses top inputs (m + 1) gates)
    (up-more n (gate_literal top m) (negation (operand_literal top inputs x.left) ∷ negation (operand_literal top inputs x.right) ∷ []) own
    (up-more n (negation (operand_literal top inputs x.left)) (negation (operand_literal top inputs x.right) ∷ []) left
    (up-more n (negation (operand_literal top inputs x.right)) [] right (up-none n))))
    (gates-up n top count inputs (m + 1) gates l h (omega arith) a.2)))
  where
    below : m ≤ count
    below = omega arith

    own : (gate_literal top m).var ≤ n
    own = omega arith

    left : (operand_literal top inputs x.left).var ≤ n
    left = operand-up n top count inputs x.left l h (there-later (length inputs) m count x.left.node below a.0)

    right : (operand_literal top inputs x.right).var ≤ n
    right = operand-up n top count inputs x.right l h (there-later (length inputs) m count x.right.node below a.1)

module _ (F : PrenexFormula) (c : CertificateView) (f : IsFormula F) (h : AreCircuits c) where
  low : greatest_name c.inputs ≤ top_of F c
  low = omega arith

  definitions-up : (n : ℕ) → top_of F c + length c.gates + 1 ≤ n → VarsUpTo n (gate_definitions (top_of F c) c)
  definitions-up n k =
      all-more n (negation (zero_literal (top_of F c)) ∷ []) (gate_clauses (top_of F c) c.inputs 0 c.gates)
      (up-more n (negation (zero_literal (top_of F c))) [] (omega arith) (up-none n))
      (gates-up n (top_of F c) (length c.gates) c.inputs 0 c.gates low k (omega arith) h.gates)

  translated-up : (n : ℕ) → top_of F c + length c.gates + 1 ≤ n → (k : Literal) → is_bound F.prefix k.var ≡ true →
      (translated (top_of F c) c k).var ≤ n
  translated-up n l k b = go (output_named k.var c.outputs) (h.outputs k.var)
    where
      go : (x : Option Operand) → ((o : Operand) → x ≡ Some o → IsThere (length c.inputs) (length c.gates) o.node) →
          (literal_by (top_of F c) c.inputs k x).var ≤ n
      go None t = let i = is_bound-greatest F.prefix k.var b in omega arith
      go (Some o) t = sign k.negative
        where
          plain : (operand_literal (top_of F c) c.inputs o).var ≤ n
          plain = operand-up n (top_of F c) (length c.gates) c.inputs o low l (t o refl)

          sign : (s : Bool) → (cond s (negation (operand_literal (top_of F c) c.inputs o)) (operand_literal (top_of F c) c.inputs o)).var ≤ n
          sign true = plain
          sign false = plain

  clause-up : (n : ℕ) → top_of F c + length c.gates + 1 ≤ n → (D : Clause) → ((k : Literal) → IsIn k D → is_bound F.prefix k.var ≡ true) →
      UpTo n (translated_clause (top_of F c) c D)
  clause-up n l [] b = up-none n
  clause-up n l (k ∷ D) b =
      up-more n (translated (top_of F c) c k) (translated_clause (top_of F c) c D) (translated-up n l k (b k (inl refl)))
      (clause-up n l D (λ j m. b j (inr m)))

  matrix-up : (n : ℕ) → top_of F c + length c.gates + 1 ≤ n → (X : Matrix) →
      ((D : Clause) → IsIn D X → (k : Literal) → IsIn k D → is_bound F.prefix k.var ≡ true) → VarsUpTo n (translated_matrix (top_of F c) c X)
  matrix-up n l [] b = all-none n
  matrix-up n l (D ∷ X) b =
      all-more n (translated_clause (top_of F c) c D) (translated_matrix (top_of F c) c X) (clause-up n l D (b D (inl refl)))
      (matrix-up n l X (λ E m. b E (inr m)))

  denials-up : (n : ℕ) → top_of F c + length c.gates + 1 ≤ n → (q : Literal) → q.var ≤ n → (D : Clause) →
      ((k : Literal) → IsIn k D → is_bound F.prefix k.var ≡ true) → VarsUpTo n (denials (top_of F c) c q D)
  denials-up n l q s [] b = all-none n
  denials-up n l q s (k ∷ D) b =
      all-more n (negation q ∷ negation (translated (top_of F c) c k) ∷ []) (denials (top_of F c) c q D)
      (up-more n (negation q) (negation (translated (top_of F c) c k) ∷ []) s
      (up-more n (negation (translated (top_of F c) c k)) [] (translated-up n l k (b k (inl refl))) (up-none n)))
      (denials-up n l q s D (λ j m. b j (inr m)))

  selections-up : (n : ℕ) (m : ℕ) (X : Matrix) → top_of F c + length c.gates + (m + length X) + 1 ≤ n →
      ((D : Clause) → IsIn D X → (k : Literal) → IsIn k D → is_bound F.prefix k.var ≡ true) → VarsUpTo n (selections (top_of F c) c m X)
  selections-up n m [] l b = all-none n
  selections-up n m (D ∷ X) l b =
      all-append n (denials (top_of F c) c (selector (top_of F c) (length c.gates) m) D) (selections (top_of F c) c (m + 1) X)
      (denials-up n (omega arith) (selector (top_of F c) (length c.gates) m) (omega arith) D (b D (inl refl)))
      (selections-up n (m + 1) X (omega arith) (λ E i. b E (inr i)))

  selectors-up : (n : ℕ) (m : ℕ) (X : Matrix) → top_of F c + length c.gates + (m + length X) + 1 ≤ n → UpTo n (selectors (top_of F c) c m X)
  selectors-up n m [] l = up-none n
  selectors-up n m (D ∷ X) l =
      up-more n (selector (top_of F c) (length c.gates) m) (selectors (top_of F c) c (m + 1) X) (omega arith) (selectors-up n (m + 1) X (omega arith))

  -- the definitions, and selectors of some clauses
  selected-up : (X : Matrix) → ((D : Clause) → IsIn D X → (k : Literal) → IsIn k D → is_bound F.prefix k.var ≡ true) →
      VarsUpTo (top_of F c + length c.gates + length X + 1)
      (in_order (gate_definitions (top_of F c) c ++ selectors (top_of F c) c 0 X ∷ selections (top_of F c) c 0 X))
  selected-up X b =
      all-in_order (top_of F c + length c.gates + length X + 1)
      (gate_definitions (top_of F c) c ++ selectors (top_of F c) c 0 X ∷ selections (top_of F c) c 0 X)
      (all-append (top_of F c + length c.gates + length X + 1) (gate_definitions (top_of F c) c)
      (selectors (top_of F c) c 0 X ∷ selections (top_of F c) c 0 X)
      (definitions-up (top_of F c + length c.gates + length X + 1) (omega arith))
      (all-more (top_of F c + length c.gates + length X + 1) (selectors (top_of F c) c 0 X) (selections (top_of F c) c 0 X)
      (selectors-up (top_of F c + length c.gates + length X + 1) 0 X (omega arith))
      (selections-up (top_of F c + length c.gates + length X + 1) 0 X (omega arith) b)))

  pub skolem-up : VarsUpTo (top_of F c + length c.gates + length F.matrix + 1) (skolem_miter F c)
  skolem-up = selected-up F.matrix f.closed

  pub lean-up : VarsUpTo (top_of F c + length c.gates + length F.matrix + 1) (lean_miter F c)
  lean-up =
      let X = needed (top_of F c) c F.matrix in
      let l = length-needed (top_of F c) c F.matrix in
      all-further (top_of F c + length c.gates + length X + 1) (top_of F c + length c.gates + length F.matrix + 1) (lean_miter F c) (omega arith)
      (selected-up X (λ D m. f.closed D (needed-IsIn (top_of F c) c F.matrix D m)))

  pub herbrand-up : VarsUpTo (top_of F c + length c.gates + 1) (herbrand_miter F c)
  herbrand-up =
      all-in_order (top_of F c + length c.gates + 1) (gate_definitions (top_of F c) c ++ translated_matrix (top_of F c) c F.matrix)
      (all-append (top_of F c + length c.gates + 1) (gate_definitions (top_of F c) c) (translated_matrix (top_of F c) c F.matrix)
      (definitions-up (top_of F c + length c.gates + 1) (omega arith))
      (matrix-up (top_of F c + length c.gates + 1) (omega arith) F.matrix f.closed))

-- Literals.
literals-append : (X Y : Matrix) → literals_in (X ++ Y) ≡ literals_in X + literals_in Y
literals-append [] Y = omega arith
literals-append (D ∷ X) Y = let h = literals-append X Y in omega arith

literals-in_order : (X : Matrix) → literals_in (in_order X) ≤ literals_in X
literals-in_order [] = omega arith
literals-in_order (D ∷ X) = let h = literals-in_order X in let k : length (clause_of D) ≤ length D = clause_of-length D in omega arith

literals-gates : (top : ℕ) (inputs : List ℕ) (m : ℕ) (gates : List Gate) → literals_in (gate_clauses top inputs m gates) ≡ 7 * length gates
literals-gates top inputs m [] = refl
literals-gates top inputs m (x ∷ gates) = let h = literals-gates top inputs (m + 1) gates in omega arith

literals-denials : (top : ℕ) (c : CertificateView) (q : Literal) (D : Clause) → literals_in (denials top c q D) ≡ 2 * length D
literals-denials top c q [] = refl
literals-denials top c q (k ∷ D) = let h = literals-denials top c q D in omega arith

literals-selections : (top : ℕ) (c : CertificateView) (m : ℕ) (X : Matrix) → literals_in (selections top c m X) ≡ 2 * literals_in X
literals-selections top c m [] = refl
literals-selections top c m (D ∷ X) =
    let a = literals-append (denials top c (selector top (length c.gates) m) D) (selections top c (m + 1) X) in
    let h = literals-denials top c (selector top (length c.gates) m) D in
    let k = literals-selections top c (m + 1) X in omega arith

length-selectors : (top : ℕ) (c : CertificateView) (m : ℕ) (X : Matrix) → length (selectors top c m X) ≡ length X
length-selectors top c m [] = refl
length-selectors top c m (D ∷ X) = let h = length-selectors top c (m + 1) X in omega arith

length-clause : (top : ℕ) (c : CertificateView) (D : Clause) → length (translated_clause top c D) ≡ length D
length-clause top c [] = refl
length-clause top c (k ∷ D) = let h = length-clause top c D in omega arith

literals-translated : (top : ℕ) (c : CertificateView) (X : Matrix) → literals_in (translated_matrix top c X) ≡ literals_in X
literals-translated top c [] = refl
literals-translated top c (D ∷ X) = let h = length-clause top c D in let k = literals-translated top c X in omega arith

pub skolem-literals : (F : PrenexFormula) (c : CertificateView) →
    literals_in (skolem_miter F c) ≤ 7 * length c.gates + 2 * literals_in F.matrix + length F.matrix + 1
skolem-literals F c =
    let t = top_of F c in
    let o = literals-in_order (gate_definitions t c ++ selectors t c 0 F.matrix ∷ selections t c 0 F.matrix) in
    let a = literals-append (gate_definitions t c) (selectors t c 0 F.matrix ∷ selections t c 0 F.matrix) in
    let g = literals-gates t c.inputs 0 c.gates in
    let l = length-selectors t c 0 F.matrix in
    let s = literals-selections t c 0 F.matrix in omega arith

pub herbrand-literals : (F : PrenexFormula) (c : CertificateView) →
    literals_in (herbrand_miter F c) ≤ 7 * length c.gates + literals_in F.matrix + 1
herbrand-literals F c =
    let t = top_of F c in
    let o = literals-in_order (gate_definitions t c ++ translated_matrix t c F.matrix) in
    let a = literals-append (gate_definitions t c) (translated_matrix t c F.matrix) in
    let g = literals-gates t c.inputs 0 c.gates in
    let s = literals-translated t c F.matrix in omega arith

pub lean-literals : (F : PrenexFormula) (c : CertificateView) →
    literals_in (lean_miter F c) ≤ 7 * length c.gates + 2 * literals_in F.matrix + length F.matrix + 1
lean-literals F c =
    let t = top_of F c in
    let X = needed t c F.matrix in
    let o = literals-in_order (gate_definitions t c ++ selectors t c 0 X ∷ selections t c 0 X) in
    let a = literals-append (gate_definitions t c) (selectors t c 0 X ∷ selections t c 0 X) in
    let g = literals-gates t c.inputs 0 c.gates in
    let l = length-selectors t c 0 X in
    let s = literals-selections t c 0 X in
    let m = length-needed t c F.matrix in
    let n = literals-needed t c F.matrix in omega arith
