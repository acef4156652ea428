-- The variables that an expansion copies are the least set that is closed under links.
use Rattle.std.proofs.Common.{◌≡◌, ◌↔◌, ℕ, zero, suc, Bool, true, false, cond, ◌||◌, ◌&&◌, eqb, List, [], ◌∷◌, ◌⊎◌, inl, inr, arith, refl, sym, ◌∙◌, subst, length}
use Rattle.q_logic.specs.Prelude.{has_variable, Literal, Clause, Prefix, Matrix, IsIn, is_bound}
use Rattle.q_logic.specs.Expanding.{in_list, shares, touched_with, next_vars, grown_vars, expansion_vars, inner_existential, Spread}
use Rattle.q_logic.proofs.PrefixOrder.{existential-is_bound}
use Rattle.q_logic.proofs.ExpandClosure.{next-in, expansion_vars-fixed, next-inner, inner-parts, expansion_vars-closed}
use Rattle.q_logic.proofs.Booleans.{same_truth}
use Rattle.q_logic.proofs.ClauseLemmas.{has_variable-find, has_variable-IsIn}

pub find_shared : (V : List ℕ) (D : Clause) → shares V D ≡ true → (k : Literal) × IsIn k D × (in_list k.var V ≡ true)
find_shared V [] h = grind arith
find_shared V (j ∷ C) h = go (in_list j.var V) refl (find_shared V C)
  where
    go : (b : Bool) → in_list j.var V ≡ b → (shares V C ≡ true → (k : Literal) × IsIn k C × (in_list k.var V ≡ true)) → (k : Literal) × IsIn k (j ∷ C) × (in_list k.var V ≡ true)
    go true q ih = (j, inl refl, q)
    go false q ih = let r : (k : Literal) × IsIn k C × (in_list k.var V ≡ true) = ih (grind arith) in (r.0, inr r.1, r.2)

find_touched : (v u : ℕ) (V : List ℕ) (X : Matrix) → touched_with v u V X ≡ true → (D : Clause) × IsIn D X × (has_variable v D ≡ true) × ((has_variable u D ≡ true) ⊎ (shares V D ≡ true))
find_touched v u V [] h = grind arith
find_touched v u V (D ∷ X) h = go (has_variable v D) refl (has_variable u D) refl (shares V D) refl (find_touched v u V X) h
  where
    Found : Type 0
    Found = (E : Clause) × IsIn E (D ∷ X) × (has_variable v E ≡ true) × ((has_variable u E ≡ true) ⊎ (shares V E ≡ true))

    later : ((E : Clause) × IsIn E X × (has_variable v E ≡ true) × ((has_variable u E ≡ true) ⊎ (shares V E ≡ true))) → Found
    later r = (r.0, inr r.1, r.2, r.3)

    go : (a : Bool) → has_variable v D ≡ a → (b : Bool) → has_variable u D ≡ b → (c : Bool) → shares V D ≡ c
        → (touched_with v u V X ≡ true → (E : Clause) × IsIn E X × (has_variable v E ≡ true) × ((has_variable u E ≡ true) ⊎ (shares V E ≡ true)))
        → ((a && (b || c)) || touched_with v u V X) ≡ true → Found
    go true p true q c r ih h = (D, inl refl, p, inl q)
    go true p false q true r ih h = (D, inl refl, p, inr r)
    go true p false q false r ih h = later (ih h)
    go false p b q c r ih h = later (ih h)

next-touched : (Q P : Prefix) (X : Matrix) (u : ℕ) (V : List ℕ) (v : ℕ) → in_list v (next_vars Q P X u V) ≡ true → touched_with v u V X ≡ true
next-touched [] P X u V v h = grind arith
next-touched (b ∷ Q) P X u V v h = go (inner_existential P u b.var) (touched_with b.var u V X) refl (eqb b.var v) refl (next-touched Q P X u V v) h
  where
    go : (i c : Bool) → touched_with b.var u V X ≡ c → (e : Bool) → eqb b.var v ≡ e → (in_list v (next_vars Q P X u V) ≡ true → touched_with v u V X ≡ true)
        → in_list v (cond (i && c) (b.var ∷ next_vars Q P X u V) (next_vars Q P X u V)) ≡ true → touched_with v u V X ≡ true
    go true true p true q ih h = let z : b.var ≡ v = grind arith in subst (λ y. touched_with y u V X ≡ true) z p
    go true true p false q ih h = ih (grind arith)
    go true false p e q ih h = ih h
    go false c p e q ih h = ih h

grown-spread : (n : ℕ) (P : Prefix) (X : Matrix) (u v : ℕ) → in_list v (grown_vars n P X u) ≡ true → Spread P X u v
grown-spread zero P X u v h = grind arith
grown-spread (suc n) P X u v h = go (find_touched v u (grown_vars n P X u) X (next-touched P P X u (grown_vars n P X u) v h)) (λ w k. grown-spread n P X u w k)
  where
    i : inner_existential P u v ≡ true
    i = (next-inner P P X u (grown_vars n P X u) v h).0

    go : ((D : Clause) × IsIn D X × (has_variable v D ≡ true) × ((has_variable u D ≡ true) ⊎ (shares (grown_vars n P X u) D ≡ true))) → ((w : ℕ) → in_list w (grown_vars n P X u) ≡ true → Spread P X u w) → Spread P X u v
    go (D, m, a, inl b) ih = let k : (k : Literal) × IsIn k D × (k.var ≡ v) = has_variable-find v D a in let j : (k : Literal) × IsIn k D × (k.var ≡ u) = has_variable-find u D b in
        subst (Spread P X u) k.2 (Spread.starts D j.0 k.0 m j.1 j.2 k.1 (subst (λ y. inner_existential P u y ≡ true) (sym k.2) i))
    go (D, m, a, inr b) ih = let k : (k : Literal) × IsIn k D × (k.var ≡ v) = has_variable-find v D a in let j : (k : Literal) × IsIn k D × (in_list k.var (grown_vars n P X u) ≡ true) = find_shared (grown_vars n P X u) D b in
        subst (Spread P X u) k.2 (Spread.spreads D j.0 k.0 m j.1 refl k.1 (subst (λ y. inner_existential P u y ≡ true) (sym k.2) i) (ih j.0.var j.2))

pub shares-of : (V : List ℕ) (D : Clause) (j : Literal) → IsIn j D → in_list j.var V ≡ true → shares V D ≡ true
shares-of V [] j m h = elim m [ ]
shares-of V (i ∷ D) j (inl e) h = let z : in_list i.var V ≡ true = subst (λ y. in_list y.var V ≡ true) e h in grind arith
shares-of V (i ∷ D) j (inr m) h = let z : shares V D ≡ true = shares-of V D j m h in grind arith

spread-in : (P : Prefix) (X : Matrix) (u v : ℕ) → Spread P X u v → in_list v (expansion_vars P X u) ≡ true
spread-in P X u v (Spread.starts D j k m a e b i) =
    let z : has_variable u D ≡ true = subst (λ y. has_variable y D ≡ true) e (has_variable-IsIn D j a) in
    expansion_vars-closed P X u D m (rw z refl) k b (existential-is_bound P k.var (inner-parts P u k.var i).0) i
spread-in P X u v (Spread.spreads {w = w} D j k m a e b i s) =
    let z : in_list j.var (expansion_vars P X u) ≡ true = subst (λ y. in_list y (expansion_vars P X u) ≡ true) (sym e) (spread-in P X u w s) in
    let y : shares (expansion_vars P X u) D ≡ true = shares-of (expansion_vars P X u) D j a z in
    expansion_vars-closed P X u D m (go (has_variable u D) y) k b (existential-is_bound P k.var (inner-parts P u k.var i).0) i
  where
    go : (c : Bool) → shares (expansion_vars P X u) D ≡ true → (c || shares (expansion_vars P X u) D) ≡ true
    go true y = refl
    go false y = y

pub expansion_vars-least : (P : Prefix) (X : Matrix) (u v : ℕ) → (in_list v (expansion_vars P X u) ≡ true) ↔ Spread P X u v
expansion_vars-least P X u v = (grown-spread (length P) P X u v, spread-in P X u v)

-- Any marking of these variables gives the list.
abbrev pub marked : (ℕ → Bool) → Prefix → List ℕ
marked f [] = []
marked f (b ∷ P) = cond (f b.var) (b.var ∷ marked f P) (marked f P)

marked-next : (f : ℕ → Bool) (Q P : Prefix) (X : Matrix) (u : ℕ) (V : List ℕ) → ((v : ℕ) → is_bound Q v ≡ true → f v ≡ (inner_existential P u v && touched_with v u V X)) → marked f Q ≡ next_vars Q P X u V
marked-next f [] P X u V h = refl
marked-next f (b ∷ Q) P X u V h = let i : marked f Q ≡ next_vars Q P X u V = marked-next f Q P X u V (λ v k. h v (later v k)) in let e : f b.var ≡ (inner_existential P u b.var && touched_with b.var u V X) = h b.var (let z : eqb b.var b.var ≡ true = grind arith in rw z refl) in
    (λ j. cond (e j) (b.var ∷ i j) (i j))
  where
    later : (v : ℕ) → is_bound Q v ≡ true → is_bound (b ∷ Q) v ≡ true
    later v k = go (eqb b.var v)
      where
        go : (c : Bool) → cond c true (is_bound Q v) ≡ true
        go true = refl
        go false = k

pub expansion_vars-marked : (P : Prefix) (X : Matrix) (u : ℕ) (f : ℕ → Bool) → ((v : ℕ) → is_bound P v ≡ true → (f v ≡ true) ↔ Spread P X u v) → marked f P ≡ expansion_vars P X u
expansion_vars-marked P X u f h = marked-next f P P X u (expansion_vars P X u) (λ v b. same_truth (f v) (inner_existential P u v && touched_with v u (expansion_vars P X u) X) (there v b) (back v b)) ∙ expansion_vars-fixed P X u
  where
    there : (v : ℕ) → is_bound P v ≡ true → f v ≡ true → (inner_existential P u v && touched_with v u (expansion_vars P X u) X) ≡ true
    there v b m =
        let k : in_list v (expansion_vars P X u) ≡ true = spread-in P X u v ((h v b).0 m) in
        let n : in_list v (next_vars P P X u (expansion_vars P X u)) ≡ true = subst (λ V. in_list v V ≡ true) (sym (expansion_vars-fixed P X u)) k in
        let i : inner_existential P u v ≡ true = (next-inner P P X u (expansion_vars P X u) v n).0 in
        let t : touched_with v u (expansion_vars P X u) X ≡ true = next-touched P P X u (expansion_vars P X u) v n in
        rw (i, t) refl

    back : (v : ℕ) → is_bound P v ≡ true → (inner_existential P u v && touched_with v u (expansion_vars P X u) X) ≡ true → f v ≡ true
    back v b m = go (inner_existential P u v) refl (touched_with v u (expansion_vars P X u) X) refl m
      where
        go : (i : Bool) → inner_existential P u v ≡ i → (t : Bool) → touched_with v u (expansion_vars P X u) X ≡ t → (i && t) ≡ true → f v ≡ true
        go true p true q m = (h v b).1 (grown-spread (length P) P X u v (subst (λ V. in_list v V ≡ true) (expansion_vars-fixed P X u) (next-in P P X u (expansion_vars P X u) v b p q)))
        go true p false q m = grind arith
        go false p t q m = grind arith
