-- An expansion lowers the measure.
use Rattle.std.proofs.Common.{◌≡◌, ◌≤◌, ◌<◌, ℕ, ◌+◌, ◌*◌, Bool, true, false, cond, ◌||◌, ◌&&◌, not, eqb, List, [], ◌∷◌, ◌++◌, ◌⊎◌, inl, inr, arith, refl, sym, ap, ◌∙◌, subst, length}
use Rattle.q_logic.specs.Prelude.{insert, has_variable, occurs, positive, Literal, literal_eq, Clause, Prefix, Matrix, IsIn, is_bound, is_universal, is_exists, without, insert_after, has, with_literal, formula_of, measure_of, size_of, one_if, existentials_in, universals_in, clauses_of, in_list, shares, copied, copied_literal, copy_of, expanded, touched_neither, insert_all, expansion_vars, Expandable, greatest}
use Rattle.q_logic.specs.declared.rule_bounds.Bounds.{Bounds}
use Rattle.std.proofs.Math.Nat.{mul-le-mul_left}
use Rattle.q_logic.specs.declared.formulas.Quant.TheVariants.{Exists}
use Rattle.q_logic.proofs.ClauseLemmas.{literal_eq-itself, has-IsIn}
use Rattle.q_logic.proofs.UniversalPivot.{without-IsIn}
use Rattle.q_logic.proofs.NumberedClauses.{IsIn-has_not, without-same}
use Rattle.q_logic.proofs.JoinedClauses.{without-other, insert-length}
use Rattle.q_logic.proofs.Measures.{occurs_var-IsIn, occurs_var-find}
use Rattle.q_logic.proofs.ExpandPrefix.{Above, AllE, Copies, CopyOf, below, copy_of-in, copy_of-out, inserted-copies}
use Rattle.q_logic.proofs.ExpandLinks.{minus}
use Rattle.q_logic.proofs.ExpandRun.{copied-IsIn}
use Rattle.q_logic.proofs.ExpandClosure.{all_inner, all_e, above-greatest, expansion_vars-inner}
use Rattle.q_logic.proofs.MeasureFalls.{without-less, var_is}
use Rattle.q_logic.proofs.PrefixOrder.{universal-is_bound}
use Rattle.q_logic.proofs.Prefixes.{is_bound-first, is_bound-later}

pub copied-length : (V : List ℕ) (t : ℕ) (C : Clause) → length (copied V t C) ≤ length C
copied-length V t [] = grind arith
copied-length V t (k ∷ C) = let i : length (copied V t C) ≤ length C = copied-length V t C in let j : length (insert (copied_literal V t k) (copied V t C)) ≤ length (copied V t C) + 1 = insert-length (copied_literal V t k) (copied V t C) in grind arith

pub has_var-none : (u : ℕ) (D : Clause) → has (positive u) D ≡ false → has (minus u) D ≡ false → has_variable u D ≡ false
has_var-none u [] p q = refl
has_var-none u (k ∷ D) p q = let i : has_variable u D ≡ false = has_var-none u D (grind arith) (grind arith) in go k.negative refl i
  where
    go : (b : Bool) → k.negative ≡ b → has_variable u D ≡ false → (eqb k.var u || has_variable u D) ≡ false
    go true s i = grind arith
    go false s i = grind arith

abbrev Rows : ℕ → List ℕ → ℕ → Matrix → Type 0
Rows u V t X = size_of (expanded u V t X) + (length (with_literal (positive u) X) + length (with_literal (minus u) X)) ≤ size_of X + size_of (touched_neither u V X)

expanded-size : (u : ℕ) (V : List ℕ) (t : ℕ) (X : Matrix) → ((D : Clause) → IsIn D X → has (positive u) D ≡ true → has (minus u) D ≡ false) → Rows u V t X
expanded-size u V t [] h = grind arith
expanded-size u V t (D ∷ X) h = go (has (positive u) D) refl (has (minus u) D) refl (shares V D) refl (has_variable u D) refl (expanded-size u V t X (λ E m. h E (inr m)))
  where
    go : (a : Bool) → has (positive u) D ≡ a → (b : Bool) → has (minus u) D ≡ b → (c : Bool) → shares V D ≡ c → (v : Bool) → has_variable u D ≡ v → Rows u V t X
        → size_of (cond a (without (positive u) D ∷ expanded u V t X) (cond b (copied V t (without (minus u) D) ∷ expanded u V t X) (cond c (D ∷ copied V t D ∷ expanded u V t X) (D ∷ expanded u V t X))))
        + (length (cond a (D ∷ with_literal (positive u) X) (with_literal (positive u) X)) + length (cond b (D ∷ with_literal (minus u) X) (with_literal (minus u) X)))
        ≤ size_of (D ∷ X) + size_of (cond (not v && c) (D ∷ touched_neither u V X) (touched_neither u V X))
    go true p true q c r v w i = let z : has (minus u) D ≡ false = h D (inl refl) p in let y : true ≡ false = sym q ∙ z in grind arith
    go true p false q c r v w i = let l : length (without (positive u) D) + 1 ≤ length D = without-less (positive u) D p in more (not v && c) l i
      where
        more : (x : Bool) → length (without (positive u) D) + 1 ≤ length D → Rows u V t X → size_of (without (positive u) D ∷ expanded u V t X) + (length (D ∷ with_literal (positive u) X) + length (with_literal (minus u) X)) ≤ size_of (D ∷ X) + size_of (cond x (D ∷ touched_neither u V X) (touched_neither u V X))
        more true l i = grind arith
        more false l i = grind arith
    go false p true q c r v w i = let l : length (without (minus u) D) + 1 ≤ length D = without-less (minus u) D q in let k : length (copied V t (without (minus u) D)) ≤ length (without (minus u) D) = copied-length V t (without (minus u) D) in more (not v && c) l k i
      where
        more : (x : Bool) → length (without (minus u) D) + 1 ≤ length D → length (copied V t (without (minus u) D)) ≤ length (without (minus u) D) → Rows u V t X → size_of (copied V t (without (minus u) D) ∷ expanded u V t X) + (length (with_literal (positive u) X) + length (D ∷ with_literal (minus u) X)) ≤ size_of (D ∷ X) + size_of (cond x (D ∷ touched_neither u V X) (touched_neither u V X))
        more true l k i = grind arith
        more false l k i = grind arith
    go false p false q true r true w i = let z : has_variable u D ≡ false = has_var-none u D p q in let y : true ≡ false = sym w ∙ z in grind arith
    go false p false q true r false w i = let k : length (copied V t D) ≤ length D = copied-length V t D in grind arith
    go false p false q false r true w i = grind arith
    go false p false q false r false w i = grind arith

-- The prefix with one more existential.
insert-existentials : (x t : ℕ) (P : Prefix) (Y : Matrix) → existentials_in (insert_after x t P) Y ≤ existentials_in P Y + 1
insert-existentials x t [] Y = grind arith
insert-existentials x t (b ∷ P) Y = go (eqb b.var x) (one_if (is_exists b.quant && occurs b.var Y)) (insert-existentials x t P Y) (small (occurs t Y))
  where
    small : (c : Bool) → one_if c ≤ 1
    small true = grind arith
    small false = grind arith

    go : (c : Bool) → (n : ℕ) → existentials_in (insert_after x t P) Y ≤ existentials_in P Y + 1 → one_if (occurs t Y) ≤ 1 → existentials_in (cond c (b ∷ record { quant = Exists; var = t } ∷ P) (b ∷ insert_after x t P)) Y ≤ one_if (is_exists b.quant && occurs b.var Y) + existentials_in P Y + 1
    go true n i s = grind arith
    go false n i s = grind arith

insert-universals : (x t : ℕ) (P : Prefix) (Y : Matrix) → universals_in (insert_after x t P) Y ≡ universals_in P Y
insert-universals x t [] Y = refl
insert-universals x t (b ∷ P) Y = go (eqb b.var x) (insert-universals x t P Y)
  where
    go : (c : Bool) → universals_in (insert_after x t P) Y ≡ universals_in P Y → universals_in (cond c (b ∷ record { quant = Exists; var = t } ∷ P) (b ∷ insert_after x t P)) Y ≡ universals_in (b ∷ P) Y
    go true i = grind arith
    go false i = grind arith

all-existentials : (V : List ℕ) (t : ℕ) (P : Prefix) (Y : Matrix) → existentials_in (insert_all V t P) Y ≤ existentials_in P Y + length V
all-existentials [] t P Y = grind arith
all-existentials (x ∷ V) t P Y = let i : existentials_in (insert_all V (t + 1) (insert_after x t P)) Y ≤ existentials_in (insert_after x t P) Y + length V = all-existentials V (t + 1) (insert_after x t P) Y in let j : existentials_in (insert_after x t P) Y ≤ existentials_in P Y + 1 = insert-existentials x t P Y in grind arith

all-universals : (V : List ℕ) (t : ℕ) (P : Prefix) (Y : Matrix) → universals_in (insert_all V t P) Y ≡ universals_in P Y
all-universals [] t P Y = refl
all-universals (x ∷ V) t P Y = all-universals V (t + 1) (insert_after x t P) Y ∙ insert-universals x t P Y

-- Only the variables of the prefix count.
abbrev BoundIn : Prefix → Matrix → Matrix → Type 0
BoundIn P Y X = (v : ℕ) → is_bound P v ≡ true → occurs v Y ≡ true → occurs v X ≡ true

existentials-is_bound : (P : Prefix) (X Y : Matrix) → BoundIn P Y X → existentials_in P Y ≤ existentials_in P X
existentials-is_bound [] X Y h = grind arith
existentials-is_bound (b ∷ P) X Y h = go (is_exists b.quant) (occurs b.var Y) refl (occurs b.var X) refl (existentials-is_bound P X Y (λ v k. h v (is_bound-later b P v k))) (h b.var (is_bound-first b P))
  where
    go : (e c : Bool) → occurs b.var Y ≡ c → (d : Bool) → occurs b.var X ≡ d → existentials_in P Y ≤ existentials_in P X → (occurs b.var Y ≡ true → occurs b.var X ≡ true)
        → one_if (e && c) + existentials_in P Y ≤ one_if (e && d) + existentials_in P X
    go false c p d q i f = grind arith
    go true false p d q i f = grind arith
    go true true p true q i f = grind arith
    go true true p false q i f = let z : true ≡ false = sym (f p) ∙ q in grind arith

universals-is_bound : (P : Prefix) (X Y : Matrix) → BoundIn P Y X → universals_in P Y ≤ universals_in P X
universals-is_bound [] X Y h = grind arith
universals-is_bound (b ∷ P) X Y h = go (not (is_exists b.quant)) (occurs b.var Y) refl (occurs b.var X) refl (universals-is_bound P X Y (λ v k. h v (is_bound-later b P v k))) (h b.var (is_bound-first b P))
  where
    go : (e c : Bool) → occurs b.var Y ≡ c → (d : Bool) → occurs b.var X ≡ d → universals_in P Y ≤ universals_in P X → (occurs b.var Y ≡ true → occurs b.var X ≡ true)
        → one_if (e && c) + universals_in P Y ≤ one_if (e && d) + universals_in P X
    go false c p d q i f = grind arith
    go true false p d q i f = grind arith
    go true true p true q i f = grind arith
    go true true p false q i f = let z : true ≡ false = sym (f p) ∙ q in grind arith

universals-less : (P : Prefix) (X Y : Matrix) (v : ℕ) → BoundIn P Y X → is_universal P v ≡ true → occurs v X ≡ true → occurs v Y ≡ false → universals_in P Y + 1 ≤ universals_in P X
universals-less [] X Y v h e o n = grind arith
universals-less (b ∷ P) X Y v h e o n = go (eqb b.var v) refl (not (is_exists b.quant)) (occurs b.var Y) refl (occurs b.var X) refl (λ k. universals-less P X Y v (λ w m. h w (is_bound-later b P w m)) k o n) (universals-is_bound P X Y (λ w m. h w (is_bound-later b P w m))) (h b.var (is_bound-first b P)) e
  where
    go : (a : Bool) → eqb b.var v ≡ a → (i : Bool) → (c : Bool) → occurs b.var Y ≡ c → (d : Bool) → occurs b.var X ≡ d
        → (is_universal P v ≡ true → universals_in P Y + 1 ≤ universals_in P X) → universals_in P Y ≤ universals_in P X → (occurs b.var Y ≡ true → occurs b.var X ≡ true)
        → cond a i (is_universal P v) ≡ true → one_if (i && c) + universals_in P Y + 1 ≤ one_if (i && d) + universals_in P X
    go true p true c q d r ih l f e =
        let z : b.var ≡ v = grind arith in
        let x : occurs b.var X ≡ true = subst (λ w. occurs w X ≡ true) (sym z) o in
        let y : occurs b.var Y ≡ false = subst (λ w. occurs w Y ≡ false) (sym z) n in
        let c0 : c ≡ false = sym q ∙ y in let d1 : d ≡ true = sym r ∙ x in
        rw (c0, d1) (grind arith)
    go true p false c q d r ih l f e = grind arith
    go false p false c q d r ih l f e = let k : universals_in P Y + 1 ≤ universals_in P X = ih e in grind arith
    go false p true false q d r ih l f e = let k : universals_in P Y + 1 ≤ universals_in P X = ih e in grind arith
    go false p true true q true r ih l f e = let k : universals_in P Y + 1 ≤ universals_in P X = ih e in grind arith
    go false p true true q false r ih l f e = let z : true ≡ false = sym (f q) ∙ r in grind arith

abbrev From : ℕ → List ℕ → ℕ → Clause → Clause → Type 0
From u V t D E = ((has (positive u) D ≡ true) × (E ≡ without (positive u) D)) ⊎ (((has (positive u) D ≡ false) × (E ≡ copied V t (without (minus u) D))) ⊎ ((has (positive u) D ≡ false) × (has (minus u) D ≡ false) × (E ≡ D)))

expanded-IsIn : (u : ℕ) (V : List ℕ) (t : ℕ) (X : Matrix) (E : Clause) → IsIn E (expanded u V t X) → (D : Clause) × IsIn D X × From u V t D E
expanded-IsIn u V t [] E m = elim m [ ]
expanded-IsIn u V t (D ∷ X) E m = go (has (positive u) D) refl (has (minus u) D) refl (shares V D) m (λ n. later (expanded-IsIn u V t X E n))
  where
    later : ((F : Clause) × IsIn F X × From u V t F E) → (F : Clause) × IsIn F (D ∷ X) × From u V t F E
    later (F, i, f) = (F, inr i, f)

    go : (a : Bool) → has (positive u) D ≡ a → (b : Bool) → has (minus u) D ≡ b → (c : Bool)
        → IsIn E (cond a (without (positive u) D ∷ expanded u V t X) (cond b (copied V t (without (minus u) D) ∷ expanded u V t X) (cond c (D ∷ copied V t D ∷ expanded u V t X) (D ∷ expanded u V t X))))
        → (IsIn E (expanded u V t X) → (F : Clause) × IsIn F (D ∷ X) × From u V t F E) → (F : Clause) × IsIn F (D ∷ X) × From u V t F E
    go true p b q c (inl e) ih = (D, inl refl, inl (p, e))
    go true p b q c (inr n) ih = ih n
    go false p true q c (inl e) ih = (D, inl refl, inr (inl (p, e)))
    go false p true q c (inr n) ih = ih n
    go false p false q true (inl e) ih = (D, inl refl, inr (inr (p, q, e)))
    go false p false q true (inr (inl e)) ih = (D, inl refl, inr (inl (p, e ∙ ap (copied V t) (sym (without-same (minus u) D q)))))
    go false p false q true (inr (inr n)) ih = ih n
    go false p false q false (inl e) ih = (D, inl refl, inr (inr (p, q, e)))
    go false p false q false (inr n) ih = ih n

-- A variable below t that occurs afterwards occurred before, and is not u.
old-variable : (Q : Prefix) (u : ℕ) (V : List ℕ) (t : ℕ) (X : Matrix) → u < t → Copies (CopyOf Q) V t → ((D : Clause) → IsIn D X → has (positive u) D ≡ true → has (minus u) D ≡ false)
    → (E : Clause) → IsIn E (expanded u V t X) → (k : Literal) → IsIn k E → k.var < t → (occurs k.var X ≡ true) × (k.var ≡ u → ⊥)
old-variable Q u V t X ul c both E m k i l = go (expanded-IsIn u V t X E m)
  where
    Goal : Type 0
    Goal = (occurs k.var X ≡ true) × (k.var ≡ u → ⊥)

    not_u : (j : Literal) → (D : Clause) → IsIn j D → (has (positive u) D ≡ false) ⊎ (literal_eq j (positive u) ≡ false) → (has (minus u) D ≡ false) ⊎ (literal_eq j (minus u) ≡ false) → j.var ≡ u → ⊥
    not_u j D i a b e = elim (var_is j u e) [
      | inl f ↦ elim a [ inl h ↦ IsIn-has_not (positive u) D h (subst (λ y. IsIn y D) f i) | inr h ↦ let z : literal_eq j (positive u) ≡ true = subst (λ y. literal_eq y (positive u) ≡ true) (sym f) (literal_eq-itself (positive u)) in grind arith ]
      | inr f ↦ elim b [ inl h ↦ IsIn-has_not (minus u) D h (subst (λ y. IsIn y D) f i) | inr h ↦ let z : literal_eq j (minus u) ≡ true = subst (λ y. literal_eq y (minus u) ≡ true) (sym f) (literal_eq-itself (minus u)) in grind arith ]
    ]

    one : (D : Clause) → IsIn D X → has (positive u) D ≡ false → (j : Literal) → IsIn j (without (minus u) D) → k ≡ copied_literal V t j → (b : Bool) → in_list j.var V ≡ b → (occurs k.var X ≡ true) × (k.var ≡ u → ⊥)
    one D n p j a e true q = let g : t ≤ copy_of V t j.var = (copy_of-in (CopyOf Q) V t j.var c q).1 in let w : k.var ≡ copy_of V t j.var = ap (λ y. y.var) e in absurd (no g w)
      where
        no : t ≤ copy_of V t j.var → k.var ≡ copy_of V t j.var → ⊥
        no g w = grind arith
    one D n p j a e false q = let w : j.var ≡ k.var = sym (ap (λ y. y.var) e ∙ copy_of-out V t j.var q) in (
      subst (λ v. occurs v X ≡ true) w (occurs_var-IsIn X D j n (without-IsIn (minus u) D j a)),
      λ f. not_u j D (without-IsIn (minus u) D j a) (inl p) (inr (without-other (minus u) D j a)) (w ∙ f),
    )

    go : ((D : Clause) × IsIn D X × From u V t D E) → (occurs k.var X ≡ true) × (k.var ≡ u → ⊥)
    go (D, n, inl (p, e)) = let i2 : IsIn k (without (positive u) D) = subst (IsIn k) e i in
        (occurs_var-IsIn X D k n (without-IsIn (positive u) D k i2), not_u k D (without-IsIn (positive u) D k i2) (inr (without-other (positive u) D k i2)) (inl (both D n p)))
    go (D, n, inr (inl (p, e))) = let r : (j : Literal) × IsIn j (without (minus u) D) × (k ≡ copied_literal V t j) = copied-IsIn V t (without (minus u) D) k (subst (IsIn k) e i) in one D n p r.0 r.1 r.2 (in_list r.0.var V) refl
    go (D, n, inr (inr (p, q, e))) = let i2 : IsIn k D = subst (IsIn k) e i in (occurs_var-IsIn X D k n i2, not_u k D i2 (inl p) (inl q))

length-append : (X Y : Matrix) → length (X ++ Y) ≡ length X + length Y
length-append [] Y = grind arith
length-append (C ∷ X) Y = let i : length (X ++ Y) ≡ length X + length Y = length-append X Y in grind arith

pub falls-expand : (B : Bounds) (P : Prefix) (X : Matrix) (u : ℕ) → Expandable B.expand P X u →
    measure_of B (formula_of (insert_all (expansion_vars P X u) (greatest P + 1) P) (expanded u (expansion_vars P X u) (greatest P + 1) X)) + 1 ≤ measure_of B (formula_of P X)
falls-expand B P X u h = count B.grow B.expand (size_of X) (size_of X1) (existentials_in P X) (existentials_in Q X1) (universals_in P X) (universals_in Q X1) sizes existentials universals
  where
    V : List ℕ
    V = expansion_vars P X u

    t : ℕ
    t = greatest P + 1

    Q : Prefix
    Q = insert_all (expansion_vars P X u) (greatest P + 1) P

    X1 : Matrix
    X1 = expanded u (expansion_vars P X u) (greatest P + 1) X

    a : Above P (greatest P + 1)
    a = above-greatest P

    e : AllE P (expansion_vars P X u)
    e = all_e P u (expansion_vars P X u) (all_inner P u (expansion_vars P X u) (expansion_vars-inner P X u))

    c : Copies (CopyOf (insert_all (expansion_vars P X u) (greatest P + 1) P)) (expansion_vars P X u) (greatest P + 1)
    c = inserted-copies V t P e a

    ub : is_bound P u ≡ true
    ub = universal-is_bound P u h.universal

    both : (D : Clause) → IsIn D X → has (positive u) D ≡ true → has (minus u) D ≡ false
    both D m p = go (has (minus u) D) refl
      where
        go : (b : Bool) → has (minus u) D ≡ b → has (minus u) D ≡ false
        go true q = absurd (h.no_tautology D m (has-IsIn (positive u) D p) (has-IsIn (minus u) D q))
        go false q = q

    old : (v : ℕ) → is_bound P v ≡ true → occurs v (expanded u (expansion_vars P X u) (greatest P + 1) X) ≡ true → (occurs v X ≡ true) × (v ≡ u → ⊥)
    old v b o = go (occurs_var-find v X1 o)
      where
        go : ((D : Clause) × (k : Literal) × IsIn D (expanded u (expansion_vars P X u) (greatest P + 1) X) × IsIn k D × (k.var ≡ v)) → (occurs v X ≡ true) × (v ≡ u → ⊥)
        go (D, k, m, i, f) = subst (λ w. (occurs w X ≡ true) × (w ≡ u → ⊥)) f (old-variable Q u V t X (below P t u a ub) c both D m k i (subst (λ w. w < greatest P + 1) (sym f) (below P t v a b)))

    u_occurs : occurs u X ≡ true
    u_occurs = elim h.occurs [ inl o ↦ occurs_var-IsIn X o.0 (positive u) o.1 o.2 | inr o ↦ occurs_var-IsIn X o.0 (minus u) o.1 o.2 ]

    u_gone : (b : Bool) → occurs u (expanded u (expansion_vars P X u) (greatest P + 1) X) ≡ b → occurs u (expanded u (expansion_vars P X u) (greatest P + 1) X) ≡ false
    u_gone false q = q
    u_gone true q = absurd ((old u ub q).1 refl)

    sizes : size_of (expanded u (expansion_vars P X u) (greatest P + 1) X) ≤ size_of X + B.expand
    sizes =
        let r : size_of X1 + (length (with_literal (positive u) X) + length (with_literal (minus u) X)) ≤ size_of X + size_of (touched_neither u (expansion_vars P X u) X) = expanded-size u V t X both in
        let s : size_of (touched_neither u (expansion_vars P X u) X) ≤ B.expand + length (clauses_of u X) = h.small in
        let l : length (clauses_of u X) ≡ length (with_literal (positive u) X) + length (with_literal (minus u) X) = length-append (with_literal (positive u) X) (with_literal (minus u) X) in
        grind arith

    existentials : existentials_in (insert_all (expansion_vars P X u) (greatest P + 1) P) (expanded u (expansion_vars P X u) (greatest P + 1) X) ≤ existentials_in P X + B.expand
    existentials =
        let r : existentials_in Q X1 ≤ existentials_in P X1 + length (expansion_vars P X u) = all-existentials V t P X1 in
        let s : existentials_in P X1 ≤ existentials_in P X = existentials-is_bound P X X1 (λ v b o. (old v b o).0) in
        let f : length (expansion_vars P X u) ≤ B.expand = h.few in
        grind arith

    universals : universals_in (insert_all (expansion_vars P X u) (greatest P + 1) P) (expanded u (expansion_vars P X u) (greatest P + 1) X) + 1 ≤ universals_in P X
    universals =
        let r : universals_in Q X1 ≡ universals_in P X1 = all-universals V t P X1 in
        let s : universals_in P X1 + 1 ≤ universals_in P X = universals-less P X X1 u (λ v b o. (old v b o).0) h.universal u_occurs (u_gone (occurs u X1) refl) in
        grind arith

    count : (g k sx sy ex ey ux uy : ℕ) → sy ≤ sx + k → ey ≤ ex + k → uy + 1 ≤ ux → sy + (g + 1) * ey + (k + (g + 1) * k + 1) * uy + 1 ≤ sx + (g + 1) * ex + (k + (g + 1) * k + 1) * ux
    count g k sx sy ex ey ux uy p q r =
        let d : (g + 1) * ey ≤ (g + 1) * (ex + k) = mul-le-mul_left (g + 1) q in
        let d1 : (g + 1) * (ex + k) ≡ (g + 1) * ex + (g + 1) * k = grind arith in
        let f : (k + (g + 1) * k + 1) * (uy + 1) ≤ (k + (g + 1) * k + 1) * ux = mul-le-mul_left (k + (g + 1) * k + 1) r in
        let f1 : (k + (g + 1) * k + 1) * (uy + 1) ≡ (k + (g + 1) * k + 1) * uy + (k + (g + 1) * k + 1) = grind arith in
        omega arith
