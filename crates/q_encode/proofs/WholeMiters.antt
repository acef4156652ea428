-- All clauses of a miter, put one after the other.
use Rattle.std.proofs.Common.{◌≡◌, ℕ, ◌≤◌, [], ◌∷◌, ◌++◌, length, refl, sym, ap, ◌∙◌, arith}
use Rattle.q_logic.specs.Prelude.{Clause, Matrix, PrenexFormula, CertificateView, clause_of}
use Rattle.q_aig.specs.Prelude.{Net, net_of}
use Rattle.q_miter.specs.Miters.{top_of, gate_definitions, translated_matrix, selections, selectors, in_order, needed, lean_miter, herbrand_miter}
use Rattle.q_miter.proofs.Lean.{length-needed}
use Rattle.q_encode.specs.Selected.{selector_row}
use Rattle.q_encode.specs.Translations.{bare}
use Rattle.q_encode.proofs.MadeRows.{in_order-append, selectors-row}

definitions-put : (top : ℕ) (c : CertificateView) (a : Net) (r1 r2 : Matrix) → a ≡ net_of c → r1 ≡ [] → r2 ≡ r1 ++ in_order (gate_definitions top (bare a)) →
    r2 ≡ in_order (gate_definitions top c)
definitions-put top c a r1 r2 e f g =
    g ∙ ap (λ (X : Matrix). X ++ in_order (gate_definitions top (bare a))) f ∙ ap (λ (b : Net). in_order (gate_definitions top (bare b))) e

pub herbrand-made : (F : PrenexFormula) (c : CertificateView) (top : ℕ) (a : Net) (r1 r2 r3 : Matrix) → top ≡ top_of F c → a ≡ net_of c → r1 ≡ [] →
    r2 ≡ r1 ++ in_order (gate_definitions top (bare a)) → r3 ≡ r2 ++ in_order (translated_matrix top c F.matrix) → r3 ≡ herbrand_miter F c
herbrand-made F c top a r1 r2 r3 t e f g h =
    h ∙ ap (λ (X : Matrix). X ++ in_order (translated_matrix top c F.matrix)) (definitions-put top c a r1 r2 e f g) ∙
    sym (in_order-append (gate_definitions top c) (translated_matrix top c F.matrix)) ∙
    ap (λ (n : ℕ). in_order (gate_definitions n c ++ translated_matrix n c F.matrix)) t

pub skolem-made : (F : PrenexFormula) (c : CertificateView) (top n k : ℕ) (a : Net) (r1 r2 r3 r4 kept : Matrix) (s : Clause) → top ≡ top_of F c → a ≡ net_of c →
    n ≡ length c.gates → k ≡ length kept → r1 ≡ [] → r2 ≡ r1 ++ in_order (gate_definitions top (bare a)) → kept ≡ needed top c F.matrix →
    s ≡ selector_row top n 0 k → r3 ≡ r2 ++ clause_of s ∷ [] → r4 ≡ r3 ++ in_order (selections top c 0 kept) → r4 ≡ lean_miter F c
skolem-made F c top n k a r1 r2 r3 r4 kept s t e m l f g w z h i =
    let q : s ≡ selectors top c 0 kept =
    z ∙ ap (λ (x : ℕ). selector_row top x 0 k) m ∙ ap (selector_row top (length c.gates) 0) l ∙ sym (selectors-row top c 0 kept) in
    let p : r3 ≡ in_order (gate_definitions top c) ++ clause_of (selectors top c 0 kept) ∷ [] =
    h ∙ ap (λ (X : Matrix). X ++ clause_of s ∷ []) (definitions-put top c a r1 r2 e f g) ∙
    ap (λ (C : Clause). in_order (gate_definitions top c) ++ clause_of C ∷ []) q in
    i ∙ ap (λ (X : Matrix). X ++ in_order (selections top c 0 kept)) p ∙
    one (in_order (gate_definitions top c)) (clause_of (selectors top c 0 kept)) (in_order (selections top c 0 kept)) ∙
    sym (in_order-append (gate_definitions top c) (selectors top c 0 kept ∷ selections top c 0 kept)) ∙
    ap (λ (X : Matrix). in_order (gate_definitions top c ++ selectors top c 0 X ∷ selections top c 0 X)) w ∙
    ap (λ (x : ℕ). in_order (gate_definitions x c ++ selectors x c 0 (needed x c F.matrix) ∷ selections x c 0 (needed x c F.matrix))) t
  where
    one : (X : Matrix) (D : Clause) (Y : Matrix) → (X ++ D ∷ []) ++ Y ≡ X ++ D ∷ Y
    one [] D Y = refl
    one (E ∷ X) D Y = ap (λ (Z : Matrix). E ∷ Z) (one X D Y)

-- the clauses that are kept
pub kept-room : (F : PrenexFormula) (c : CertificateView) (top : ℕ) (kept : Matrix) → kept ≡ needed top c F.matrix → length kept ≤ length F.matrix
kept-room F c top kept e = let z : length kept ≡ length (needed top c F.matrix) = ap (λ (X : Matrix). length X) e in let l = length-needed top c F.matrix in omega arith
