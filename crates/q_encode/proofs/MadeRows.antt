-- Clauses that are put one after the other.
use Rattle.std.proofs.Common.{◌≡◌, ℕ, zero, suc, ◌+◌, ◌≤◌, ◌<◌, Bool, true, false, cond, ◌||◌, ◌&&◌, List, [], ◌∷◌, ◌++◌, length, take, drop, get_or, slice_get, Some, refl, sym, ap, ◌∙◌, arith, append_assoc}
use Rattle.q_logic.specs.Prelude.{Literal, negation, Clause, Matrix, Gate, CertificateView, clause_of, has, is_tautology, IsTautology}
use Rattle.q_logic.specs.Sets.{all_in}
use Rattle.q_logic.proofs.Common.{taken, IsIn-has, has-IsIn, IsIn-clause_of, clause_of-IsIn, is_tautology-sound, is_tautology-whole, is_tautology-none}
use Rattle.q_miter.specs.Miters.{selector, gate_literal, operand_literal, gate_clauses, gate_definitions, translated, translated_clause, translated_matrix, denials, selections, selectors, in_order, has_part, is_needless, needed}
use Rattle.q_aig.specs.Prelude.{Net, net_of}
use Rattle.q_encode.specs.Translations.{bare}
use Rattle.q_encode.specs.Selected.{selector_row}

pub drop-at : {X : Type 0} (xs : List X) (i : ℕ) (x : X) → slice_get xs i ≡ Some x → drop i xs ≡ x ∷ drop (i + 1) xs
drop-at [] i x e = absurd (cc)
drop-at {X} (y ∷ xs) zero x e = let z : y ≡ x = cc in ap (λ (w : X). w ∷ xs) z
drop-at (y ∷ xs) (suc i) x e =
    let z : suc i + 1 ≡ suc (i + 1) = omega arith in
    drop-at xs i x e ∙ ap (λ (n : ℕ). x ∷ drop n (y ∷ xs)) (sym z)

pub drop-all : {X : Type 0} (xs : List X) (n : ℕ) → length xs ≤ n → drop n xs ≡ []
drop-all [] zero h = refl
drop-all [] (suc n) h = refl
drop-all (x ∷ xs) zero h = absurd (omega arith)
drop-all (x ∷ xs) (suc n) h = drop-all xs n (omega arith)

pub in_order-append : (X Y : Matrix) → in_order (X ++ Y) ≡ in_order X ++ in_order Y
in_order-append [] Y = refl
in_order-append (D ∷ X) Y = ap (λ (Z : Matrix). clause_of D ∷ Z) (in_order-append X Y)

-- what was put, and what is left
pub put-more : (rows next all part rest : Matrix) → next ≡ rows ++ part → rows ++ (part ++ rest) ≡ all → next ++ rest ≡ all
put-more rows next all part rest e h = ap (λ (X : Matrix). X ++ rest) e ∙ append_assoc rows part rest ∙ h

three-rows : (r0 r1 r2 r3 : Matrix) (a b c x y z : Clause) → r1 ≡ r0 ++ a ∷ [] → r2 ≡ r1 ++ b ∷ [] → r3 ≡ r2 ++ c ∷ [] → a ≡ x → b ≡ y → c ≡ z →
    r3 ≡ r0 ++ x ∷ y ∷ z ∷ []
three-rows r0 r1 r2 r3 a b c x y z e f g p q r =
    g ∙ ap (λ (X : Matrix). X ++ c ∷ []) (f ∙ ap (λ (X : Matrix). X ++ b ∷ []) e) ∙
    append_assoc (r0 ++ a ∷ []) (b ∷ []) (c ∷ []) ∙ append_assoc r0 (a ∷ []) (b ∷ c ∷ []) ∙
    ap (λ (D : Clause). r0 ++ D ∷ b ∷ c ∷ []) p ∙ ap (λ (D : Clause). r0 ++ x ∷ D ∷ c ∷ []) q ∙ ap (λ (D : Clause). r0 ++ x ∷ y ∷ D ∷ []) r

-- gates
pub gate-put : (top : ℕ) (inputs : List ℕ) (gates : List Gate) (g : ℕ) (x y : Gate) (r0 r1 r2 r3 : Matrix) (k m n l r u v : Literal) →
    slice_get gates g ≡ Some y → slice_get gates g ≡ Some x → k ≡ gate_literal top g → m ≡ negation k → n ≡ negation k →
    l ≡ operand_literal top inputs y.left → r ≡ operand_literal top inputs y.right → u ≡ negation l → v ≡ negation r →
    r1 ≡ r0 ++ clause_of (m ∷ l ∷ []) ∷ [] → r2 ≡ r1 ++ clause_of (n ∷ r ∷ []) ∷ [] → r3 ≡ r2 ++ clause_of (k ∷ u ∷ v ∷ []) ∷ [] →
    r3 ≡ r0 ++ in_order (gate_clauses top inputs g (x ∷ []))
gate-put top inputs gates g x y r0 r1 r2 r3 k m n l r u v p q a b c d e f h i j w =
    let s : y ≡ x = cc in
    let nk : negation k ≡ negation (gate_literal top g) = ap negation a in
    let le : l ≡ operand_literal top inputs x.left = d ∙ ap (λ (z : Gate). operand_literal top inputs z.left) s in
    let ri : r ≡ operand_literal top inputs x.right = e ∙ ap (λ (z : Gate). operand_literal top inputs z.right) s in
    three-rows r0 r1 r2 r3 (clause_of (m ∷ l ∷ [])) (clause_of (n ∷ r ∷ [])) (clause_of (k ∷ u ∷ v ∷ []))
    (clause_of (negation (gate_literal top g) ∷ operand_literal top inputs x.left ∷ []))
    (clause_of (negation (gate_literal top g) ∷ operand_literal top inputs x.right ∷ []))
    (clause_of (gate_literal top g ∷ negation (operand_literal top inputs x.left) ∷ negation (operand_literal top inputs x.right) ∷ []))
    i j w
    (ap clause_of (two m l (negation (gate_literal top g)) (operand_literal top inputs x.left) (b ∙ nk) le))
    (ap clause_of (two n r (negation (gate_literal top g)) (operand_literal top inputs x.right) (c ∙ nk) ri))
    (ap clause_of (ap (λ (z : Literal). z ∷ u ∷ v ∷ []) a ∙
    ap (λ (D : Clause). gate_literal top g ∷ D) (two u v (negation (operand_literal top inputs x.left)) (negation (operand_literal top inputs x.right)) (f ∙ ap negation le) (h ∙ ap negation ri))))
  where
    two : (a b c d : Literal) → a ≡ c → b ≡ d → a ∷ b ∷ [] ≡ c ∷ d ∷ []
    two a b c d e f = ap (λ (z : Literal). z ∷ b ∷ []) e ∙ ap (λ (z : Literal). c ∷ z ∷ []) f

pub gates-next : (top : ℕ) (inputs : List ℕ) (gates : List Gate) (g : ℕ) (x : Gate) → slice_get gates g ≡ Some x →
    in_order (gate_clauses top inputs g (drop g gates)) ≡
    in_order (gate_clauses top inputs g (x ∷ [])) ++ in_order (gate_clauses top inputs (g + 1) (drop (g + 1) gates))
gates-next top inputs gates g x e = ap (λ (gs : List Gate). in_order (gate_clauses top inputs g gs)) (drop-at gates g x e)

-- selectors
pub selectors-next : (top gates n k : ℕ) → selector_row top gates n (k + 1) ≡ selector_row top gates n k ++ selector top gates (n + k) ∷ []
selectors-next top gates n zero = let e : n + 0 ≡ n = omega arith in rw e refl
selectors-next top gates n (suc k) =
    let z : suc k + 1 ≡ suc (k + 1) = omega arith in
    let e : (n + 1) + k ≡ n + suc k = omega arith in
    ap (selector_row top gates n) z ∙
    ap (λ (D : Clause). selector top gates n ∷ D) (selectors-next top gates (n + 1) k ∙
    ap (λ (m : ℕ). selector_row top gates (n + 1) k ++ selector top gates m ∷ []) e)

pub selectors-more : (top gates k : ℕ) (row next : Clause) (l : Literal) → row ≡ selector_row top gates 0 k → l ≡ selector top gates k →
    next ≡ row ++ l ∷ [] → next ≡ selector_row top gates 0 (k + 1)
selectors-more top gates k row next l h e n =
    let z : 0 + k ≡ k = omega arith in
    n ∙ ap (λ (D : Clause). D ++ l ∷ []) h ∙ ap (λ (x : Literal). selector_row top gates 0 k ++ x ∷ []) (e ∙ ap (selector top gates) (sym z)) ∙
    sym (selectors-next top gates 0 k)

pub selectors-row : (top : ℕ) (c : CertificateView) (n : ℕ) (X : Matrix) → selectors top c n X ≡ selector_row top (length c.gates) n (length X)
selectors-row top c n [] = refl
selectors-row top c n (D ∷ X) = ap (λ (E : Clause). selector top (length c.gates) n ∷ E) (selectors-row top c (n + 1) X)

-- denials
denials-last : (top : ℕ) (c : CertificateView) (q : Literal) (D : Clause) (k : Literal) →
    denials top c q (D ++ k ∷ []) ≡ denials top c q D ++ (negation q ∷ negation (translated top c k) ∷ []) ∷ []
denials-last top c q [] k = refl
denials-last top c q (j ∷ D) k = ap (λ (X : Matrix). (negation q ∷ negation (translated top c j) ∷ []) ∷ X) (denials-last top c q D k)

pub denials-more : (top : ℕ) (c : CertificateView) (q k l m n : Literal) (rows next first : Matrix) (D : Clause) (i : ℕ) → i < length D → k ≡ get_or D i k →
    l ≡ translated top c k → m ≡ negation q → n ≡ negation l → next ≡ rows ++ clause_of (m ∷ n ∷ []) ∷ [] →
    rows ≡ first ++ in_order (denials top c q (take i D)) → next ≡ first ++ in_order (denials top c q (take (i + 1) D))
denials-more top c q k l m n rows next first D i b e f u v h g =
    let one : Matrix = (negation q ∷ negation (translated top c k) ∷ []) ∷ [] in
    let w : m ∷ n ∷ [] ≡ negation q ∷ negation (translated top c k) ∷ [] = denial q (translated top c k) l m n f u v in
    h ∙ ap (λ (C : Clause). rows ++ clause_of C ∷ []) w ∙ ap (λ (X : Matrix). X ++ in_order one) g ∙
    append_assoc first (in_order (denials top c q (take i D))) (in_order one) ∙
    ap (λ (X : Matrix). first ++ X) (sym (in_order-append (denials top c q (take i D)) one)) ∙
    ap (λ (X : Matrix). first ++ in_order X) (sym (ap (denials top c q) (taken D i k b e) ∙ denials-last top c q (take i D) k))
  where
    denial : (q t l m n : Literal) → l ≡ t → m ≡ negation q → n ≡ negation l → m ∷ n ∷ [] ≡ negation q ∷ negation t ∷ []
    denial q t l m n f u v = ap (λ (x : Literal). x ∷ n ∷ []) u ∙ ap (λ (x : Literal). negation q ∷ x ∷ []) (v ∙ ap negation f)

-- selections
pub selections-next : (top : ℕ) (c : CertificateView) (X : Matrix) (at : ℕ) (D : Clause) → slice_get X at ≡ Some D →
    in_order (selections top c at (drop at X)) ≡
    in_order (denials top c (selector top (length c.gates) at) D) ++ in_order (selections top c (at + 1) (drop (at + 1) X))
selections-next top c X at D e =
    ap (λ (Y : Matrix). in_order (selections top c at Y)) (drop-at X at D e) ∙
    in_order-append (denials top c (selector top (length c.gates) at) D) (selections top c (at + 1) (drop (at + 1) X))

-- translated clauses
pub translated-next : (top : ℕ) (c : CertificateView) (X : Matrix) (at : ℕ) (D : Clause) → slice_get X at ≡ Some D →
    in_order (translated_matrix top c (drop at X)) ≡ clause_of (translated_clause top c D) ∷ in_order (translated_matrix top c (drop (at + 1) X))
translated-next top c X at D e = ap (λ (Y : Matrix). in_order (translated_matrix top c Y)) (drop-at X at D e)

-- the order of a clause is no matter to what it holds
has-same : (l : Literal) (T : Clause) → has l (clause_of T) ≡ has l T
has-same l T = go (has l (clause_of T)) (has l T) refl refl
  where
    go : (s t : Bool) → has l (clause_of T) ≡ s → has l T ≡ t → s ≡ t
    go true true e f = refl
    go false false e f = refl
    go true false e f = absurd (let z : has l T ≡ true = IsIn-has l T (IsIn-clause_of l T (has-IsIn l (clause_of T) e)) in cc)
    go false true e f = absurd (let z : has l (clause_of T) ≡ true = IsIn-has l (clause_of T) (clause_of-IsIn l T (has-IsIn l T f)) in cc)

all_in-same : (R T : Clause) → all_in R (clause_of T) ≡ all_in R T
all_in-same [] T = refl
all_in-same (k ∷ R) T = ap (λ (b : Bool). b && all_in R (clause_of T)) (has-same k T) ∙ ap (λ (b : Bool). has k T && b) (all_in-same R T)

part-same : (X : Matrix) (T : Clause) → has_part X (clause_of T) ≡ has_part X T
part-same [] T = refl
part-same (R ∷ X) T = ap (λ (b : Bool). b || has_part X (clause_of T)) (all_in-same R T) ∙ ap (λ (b : Bool). all_in R T || b) (part-same X T)

tautology-same : (T : Clause) → is_tautology (clause_of T) ≡ is_tautology T
tautology-same T = go (is_tautology T) refl
  where
    go : (b : Bool) → is_tautology T ≡ b → is_tautology (clause_of T) ≡ b
    go true e =
        let w : IsTautology T = is_tautology-sound T e in
        is_tautology-whole (clause_of T) (w.0, clause_of-IsIn w.0 T w.1, clause_of-IsIn (negation w.0) T w.2)
    go false e =
        is_tautology-none (clause_of T) (λ w.
        let z : is_tautology T ≡ true = is_tautology-whole T (w.0, IsIn-clause_of w.0 T w.1, IsIn-clause_of (negation w.0) T w.2) in cc)

pub needless-same : (X : Matrix) (T : Clause) → (is_tautology (clause_of T) || has_part X (clause_of T)) ≡ (is_tautology T || has_part X T)
needless-same X T = ap (λ (b : Bool). b || has_part X (clause_of T)) (tautology-same T) ∙ ap (λ (b : Bool). is_tautology T || b) (part-same X T)

-- clauses that are needed
pub needed-kept : (top : ℕ) (c : CertificateView) (X kept next all : Matrix) (at : ℕ) (D : Clause) → slice_get X at ≡ Some D → is_needless top c D ≡ false →
    next ≡ kept ++ D ∷ [] → kept ++ needed top c (drop at X) ≡ all → next ++ needed top c (drop (at + 1) X) ≡ all
needed-kept top c X kept next all at D e n q h =
    ap (λ (Y : Matrix). Y ++ needed top c (drop (at + 1) X)) q ∙
    append_assoc kept (D ∷ []) (needed top c (drop (at + 1) X)) ∙
    ap (λ (Y : Matrix). kept ++ Y) (sym (ap (needed top c) (drop-at X at D e) ∙ ap (λ (b : Bool). cond b (needed top c (drop (at + 1) X)) (D ∷ needed top c (drop (at + 1) X))) n)) ∙
    h

pub needed-passed : (top : ℕ) (c : CertificateView) (X kept all : Matrix) (at : ℕ) (D : Clause) → slice_get X at ≡ Some D → is_needless top c D ≡ true →
    kept ++ needed top c (drop at X) ≡ all → kept ++ needed top c (drop (at + 1) X) ≡ all
needed-passed top c X kept all at D e n h =
    ap (λ (Y : Matrix). kept ++ Y) (sym (ap (needed top c) (drop-at X at D e) ∙ ap (λ (b : Bool). cond b (needed top c (drop (at + 1) X)) (D ∷ needed top c (drop (at + 1) X))) n)) ∙
    h

pub needless-is : (top : ℕ) (c : CertificateView) (a : Net) (D made S : Clause) (r : Bool) → a ≡ net_of c → made ≡ translated_clause top c D → S ≡ clause_of made →
    r ≡ (is_tautology S || has_part (gate_definitions top (bare a)) S) → r ≡ is_needless top c D
needless-is top c a D made S r e f g h =
    h ∙ ap (λ (T : Clause). is_tautology T || has_part (gate_definitions top (bare a)) T) (g ∙ ap clause_of f) ∙
    ap (λ (b : Net). is_tautology (clause_of (translated_clause top c D)) || has_part (gate_definitions top (bare b)) (clause_of (translated_clause top c D))) e ∙
    needless-same (gate_definitions top (bare (net_of c))) (translated_clause top c D)
