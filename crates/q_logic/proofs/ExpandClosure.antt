-- The variables of an expansion are closed under links, and an expansion is a run.
use Rattle.std.proofs.Common.{◌≡◌, ◌≤◌, ◌<◌, ℕ, zero, suc, ◌+◌, ◌-◌, Bool, true, false, cond, ◌||◌, ◌&&◌, not, eqb, List, [], ◌∷◌, ◌++◌, ◌⊎◌, inl, inr, arith, refl, sym, ap, ◌∙◌, subst, length, ◌*◌}
use Rattle.q_logic.specs.Prelude.{has_variable, positive, Literal, Clause, Prefix, Matrix, IsIn, is_bound, is_existential, is_universal, outer_or_same, Distinct, has, formula_of, Slots, live, expand_universal, greatest, IsInLimits, standard, Fits, change}
use Rattle.q_logic.specs.declared.rule_bounds.Bounds.{Bounds}
use Rattle.q_logic.specs.Expanding.{Expandable, in_list, shares, touches, touched_with, next_vars, grown_vars, expansion_vars, inner_existential, insert_all, expanded}
use Rattle.q_logic.proofs.JustifiedRuns.{Reaches}
use Rattle.q_logic.proofs.PrefixOrder.{existential-is_bound, universal-not_existential, universal-is_bound}
use Rattle.q_logic.proofs.JustifiedRuns.{reaches-append}
use Rattle.q_logic.proofs.LiteralOrder.{is_bound-greatest}
use Rattle.q_logic.proofs.ExpandPrefix.{Above, AllE, below, inserted-is_existential, inserted-is_universal, inserted-is_bound, inserted-outer, inserted-copies, inserted-distinct, freshes, reaches-freshes, outer_or_same-inner}
use Rattle.q_logic.proofs.ExpandLinks.{minus, Originals}
use Rattle.q_logic.proofs.Heights.{weight, one, Way, modest-append, modest-more, weight-one, weight-length}
use Rattle.q_logic.proofs.ExpandSize.{steps-modest, greatest-inserted, freshes-modest}
use Rattle.q_logic.proofs.ExpandRun.{Expansion, expand_steps, expand_from}
use Rattle.q_logic.proofs.ClauseLemmas.{has-IsIn, has_variable-IsIn}

abbrev InOf : List ℕ → List ℕ → Type 0
InOf V W = (v : ℕ) → in_list v V ≡ true → in_list v W ≡ true

shares-more : (V W : List ℕ) (D : Clause) → InOf V W → shares V D ≡ true → shares W D ≡ true
shares-more V W [] f h = h
shares-more V W (k ∷ D) f h = go (in_list k.var V) refl (shares-more V W D f)
  where
    go : (b : Bool) → in_list k.var V ≡ b → (shares V D ≡ true → shares W D ≡ true) → (in_list k.var W || shares W D) ≡ true
    go true q ih = let a : in_list k.var W ≡ true = f k.var q in rw a refl
    go false q ih = let a : shares W D ≡ true = ih (grind arith) in grind arith

touched_with-more : (v u : ℕ) (V W : List ℕ) (X : Matrix) → InOf V W → touched_with v u V X ≡ true → touched_with v u W X ≡ true
touched_with-more v u V W [] f h = h
touched_with-more v u V W (D ∷ X) f h =
    let s : shares V D ≡ true → shares W D ≡ true = shares-more V W D f in
    let i : touched_with v u V X ≡ true → touched_with v u W X ≡ true = touched_with-more v u V W X f in
    go (has_variable v D) (has_variable u D) (shares V D) refl (shares W D) refl (touched_with v u V X) refl (touched_with v u W X) refl s i h
  where
    go : (a b c : Bool) → shares V D ≡ c → (d : Bool) → shares W D ≡ d → (e : Bool) → touched_with v u V X ≡ e → (g : Bool) → touched_with v u W X ≡ g
        → (shares V D ≡ true → shares W D ≡ true) → (touched_with v u V X ≡ true → touched_with v u W X ≡ true)
        → ((a && (b || c)) || e) ≡ true → ((a && (b || d)) || g) ≡ true
    go a b c p d q e r g w s i h = grind (arith, s, i)

next-more : (Q P : Prefix) (X : Matrix) (u : ℕ) (V W : List ℕ) → InOf V W → InOf (next_vars Q P X u V) (next_vars Q P X u W)
next-more [] P X u V W f v h = h
next-more (b ∷ Q) P X u V W f v h = go (inner_existential P u b.var) (touched_with b.var u V X) refl (touched_with b.var u W X) refl (next-more Q P X u V W f v) (touched_with-more b.var u V W X f) h
  where
    go : (i c : Bool) → touched_with b.var u V X ≡ c → (d : Bool) → touched_with b.var u W X ≡ d
        → (in_list v (next_vars Q P X u V) ≡ true → in_list v (next_vars Q P X u W) ≡ true)
        → (touched_with b.var u V X ≡ true → touched_with b.var u W X ≡ true)
        → in_list v (cond (i && c) (b.var ∷ next_vars Q P X u V) (next_vars Q P X u V)) ≡ true → in_list v (cond (i && d) (b.var ∷ next_vars Q P X u W) (next_vars Q P X u W)) ≡ true
    go false c p d q ih m h = ih h
    go true false p false q ih m h = ih h
    go true false p true q ih m h = let a : in_list v (next_vars Q P X u W) ≡ true = ih h in grind arith
    go true true p false q ih m h = let a : touched_with b.var u W X ≡ true = m p in grind arith
    go true true p true q ih m h = rest (eqb b.var v) refl
      where
        rest : (e : Bool) → eqb b.var v ≡ e → (eqb b.var v || in_list v (next_vars Q P X u W)) ≡ true
        rest true z = rw z refl
        rest false z = let y : in_list v (next_vars Q P X u V) ≡ true = grind arith in let a : in_list v (next_vars Q P X u W) ≡ true = ih y in grind arith

-- More members, or the same list.
next-longer : (Q P : Prefix) (X : Matrix) (u : ℕ) (V W : List ℕ) → InOf V W → (length (next_vars Q P X u V) ≤ length (next_vars Q P X u W)) × (length (next_vars Q P X u W) ≤ length (next_vars Q P X u V) → next_vars Q P X u W ≡ next_vars Q P X u V)
next-longer [] P X u V W f = (grind arith, λ h. refl)
next-longer (b ∷ Q) P X u V W f = go (inner_existential P u b.var) (touched_with b.var u V X) refl (touched_with b.var u W X) refl (next-longer Q P X u V W f) (touched_with-more b.var u V W X f)
  where
    A : List ℕ
    A = next_vars Q P X u V

    B : List ℕ
    B = next_vars Q P X u W

    go : (i c : Bool) → touched_with b.var u V X ≡ c → (d : Bool) → touched_with b.var u W X ≡ d
        → ((length (next_vars Q P X u V) ≤ length (next_vars Q P X u W)) × (length (next_vars Q P X u W) ≤ length (next_vars Q P X u V) → next_vars Q P X u W ≡ next_vars Q P X u V))
        → (touched_with b.var u V X ≡ true → touched_with b.var u W X ≡ true)
        → (length (cond (i && c) (b.var ∷ next_vars Q P X u V) (next_vars Q P X u V)) ≤ length (cond (i && d) (b.var ∷ next_vars Q P X u W) (next_vars Q P X u W)))
        × (length (cond (i && d) (b.var ∷ next_vars Q P X u W) (next_vars Q P X u W)) ≤ length (cond (i && c) (b.var ∷ next_vars Q P X u V) (next_vars Q P X u V))
        → cond (i && d) (b.var ∷ next_vars Q P X u W) (next_vars Q P X u W) ≡ cond (i && c) (b.var ∷ next_vars Q P X u V) (next_vars Q P X u V))
    go false c p d q ih m = ih
    go true false p false q ih m = ih
    go true false p true q ih m = let l : length A ≤ length B = ih.0 in (grind arith, λ h. absurd (strict l h))
      where
        strict : length (next_vars Q P X u V) ≤ length (next_vars Q P X u W) → length (b.var ∷ next_vars Q P X u W) ≤ length (next_vars Q P X u V) → ⊥
        strict l h = grind arith
    go true true p false q ih m = let a : touched_with b.var u W X ≡ true = m p in absurd (no a)
      where
        no : touched_with b.var u W X ≡ true → ⊥
        no a = grind arith
    go true true p true q ih m = let l : length A ≤ length B = ih.0 in (grind arith, λ h. ap (λ Z. b.var ∷ Z) (ih.1 (grind arith)))

next-short : (Q P : Prefix) (X : Matrix) (u : ℕ) (V : List ℕ) → length (next_vars Q P X u V) ≤ length Q
next-short [] P X u V = grind arith
next-short (b ∷ Q) P X u V = let i : length (next_vars Q P X u V) ≤ length Q = next-short Q P X u V in go (inner_existential P u b.var && touched_with b.var u V X) i
  where
    go : (c : Bool) → length (next_vars Q P X u V) ≤ length Q → length (cond c (b.var ∷ next_vars Q P X u V) (next_vars Q P X u V)) ≤ length (b ∷ Q)
    go true i = grind arith
    go false i = grind arith

grown-more : (n : ℕ) (P : Prefix) (X : Matrix) (u : ℕ) → InOf (grown_vars n P X u) (grown_vars (suc n) P X u)
grown-more zero P X u v h = grind arith
grown-more (suc n) P X u v h = next-more P P X u (grown_vars n P X u) (grown_vars (suc n) P X u) (grown-more n P X u) v h

abbrev Fixed : ℕ → Prefix → Matrix → ℕ → Type 0
Fixed n P X u = grown_vars (suc n) P X u ≡ grown_vars n P X u

-- No longer: the same.
grown-stops : (n : ℕ) (P : Prefix) (X : Matrix) (u : ℕ) → length (grown_vars (suc n) P X u) ≤ length (grown_vars n P X u) → Fixed n P X u
grown-stops zero P X u h = empty (grown_vars (suc zero) P X u) h
  where
    empty : (V : List ℕ) → length V ≤ 0 → V ≡ []
    empty [] h = refl
    empty (v ∷ V) h = grind arith
grown-stops (suc n) P X u h = (next-longer P P X u (grown_vars n P X u) (grown_vars (suc n) P X u) (grown-more n P X u)).1 h

fixed_or_long : (n : ℕ) (P : Prefix) (X : Matrix) (u : ℕ) → Fixed n P X u ⊎ (n ≤ length (grown_vars n P X u))
fixed_or_long zero P X u = inr (grind arith)
fixed_or_long (suc n) P X u = go (fixed_or_long n P X u)
  where
    compare : (a b : ℕ) → (a ≤ b) ⊎ (suc b ≤ a)
    compare a b = split (eqb (a - b) 0) refl
      where
        split : (c : Bool) → eqb (a - b) 0 ≡ c → (a ≤ b) ⊎ (suc b ≤ a)
        split true q = inl (grind arith)
        split false q = inr (grind arith)

    go : Fixed n P X u ⊎ (n ≤ length (grown_vars n P X u)) → Fixed (suc n) P X u ⊎ (suc n ≤ length (grown_vars (suc n) P X u))
    go (inl e) = inl (ap (next_vars P P X u) e)
    go (inr l) = elim (compare (length (grown_vars (suc n) P X u)) (length (grown_vars n P X u)))
        [ inl h ↦ inl (ap (next_vars P P X u) (grown-stops n P X u h)) | inr h ↦ inr (grind arith) ]

pub expansion_vars-fixed : (P : Prefix) (X : Matrix) (u : ℕ) → next_vars P P X u (expansion_vars P X u) ≡ expansion_vars P X u
expansion_vars-fixed P X u = go (fixed_or_long (length P) P X u)
  where
    go : Fixed (length P) P X u ⊎ (length P ≤ length (grown_vars (length P) P X u)) → Fixed (length P) P X u
    go (inl e) = e
    go (inr l) = grown-stops (length P) P X u (let s : length (grown_vars (suc (length P)) P X u) ≤ length P = next-short P P X u (grown_vars (length P) P X u) in grind arith)

pub next-inner : (Q P : Prefix) (X : Matrix) (u : ℕ) (V : List ℕ) (v : ℕ) → in_list v (next_vars Q P X u V) ≡ true → (inner_existential P u v ≡ true) × (is_bound Q v ≡ true)
next-inner [] P X u V v h = grind arith
next-inner (b ∷ Q) P X u V v h = go (inner_existential P u b.var) refl (touched_with b.var u V X) (eqb b.var v) refl (next-inner Q P X u V v) h
  where
    go : (i : Bool) → inner_existential P u b.var ≡ i → (c : Bool) → (e : Bool) → eqb b.var v ≡ e
        → (in_list v (next_vars Q P X u V) ≡ true → (inner_existential P u v ≡ true) × (is_bound Q v ≡ true))
        → in_list v (cond (i && c) (b.var ∷ next_vars Q P X u V) (next_vars Q P X u V)) ≡ true → (inner_existential P u v ≡ true) × (is_bound (b ∷ Q) v ≡ true)
    go true p true true q ih h = let z : b.var ≡ v = grind arith in (subst (λ y. inner_existential P u y ≡ true) z p, rw q refl)
    go true p true false q ih h = let y : in_list v (next_vars Q P X u V) ≡ true = grind arith in ((ih y).0, rw q (ih y).1)
    go true p false true q ih h = ((ih h).0, rw q refl)
    go true p false false q ih h = ((ih h).0, rw q (ih h).1)
    go false p c true q ih h = ((ih h).0, rw q refl)
    go false p c false q ih h = ((ih h).0, rw q (ih h).1)

-- A variable of a touched clause comes in.
pub next-in : (Q P : Prefix) (X : Matrix) (u : ℕ) (V : List ℕ) (v : ℕ) → is_bound Q v ≡ true → inner_existential P u v ≡ true → touched_with v u V X ≡ true → in_list v (next_vars Q P X u V) ≡ true
next-in [] P X u V v b i h = b
next-in (a ∷ Q) P X u V v b i h = go (eqb a.var v) refl (inner_existential P u a.var) refl (touched_with a.var u V X) refl (λ k. next-in Q P X u V v k i h)
  where
    go : (e : Bool) → eqb a.var v ≡ e → (c : Bool) → inner_existential P u a.var ≡ c → (d : Bool) → touched_with a.var u V X ≡ d → (is_bound Q v ≡ true → in_list v (next_vars Q P X u V) ≡ true)
        → in_list v (cond (c && d) (a.var ∷ next_vars Q P X u V) (next_vars Q P X u V)) ≡ true
    go true q true p true r ih = rw q refl
    go true q true p false r ih = let z : v ≡ a.var = grind arith in let t : touched_with a.var u V X ≡ true = subst (λ y. touched_with y u V X ≡ true) z h in grind arith
    go true q false p d r ih = let z : v ≡ a.var = grind arith in let t : inner_existential P u a.var ≡ true = subst (λ y. inner_existential P u y ≡ true) z i in absurd (no t)
      where
        no : inner_existential P u a.var ≡ true → ⊥
        no t = let w : true ≡ false = sym t ∙ p in grind arith
    go false q c p d r ih = let y : in_list v (next_vars Q P X u V) ≡ true = ih (grind arith) in rest c d y
      where
        rest : (c d : Bool) → in_list v (next_vars Q P X u V) ≡ true → in_list v (cond (c && d) (a.var ∷ next_vars Q P X u V) (next_vars Q P X u V)) ≡ true
        rest true true y = rw q y
        rest true false y = y
        rest false d y = y

touched_with-of : (v u : ℕ) (V : List ℕ) (X : Matrix) (D : Clause) → IsIn D X → has_variable v D ≡ true → touches u V D ≡ true → touched_with v u V X ≡ true
touched_with-of v u V [] D m h t = elim m [ ]
touched_with-of v u V (E ∷ X) D (inl e) h t = let a : has_variable v E ≡ true = subst (λ y. has_variable v y ≡ true) e h in let b : touches u V E ≡ true = subst (λ y. touches u V y ≡ true) e t in rw (a, b) refl
touched_with-of v u V (E ∷ X) D (inr m) h t = let i : touched_with v u V X ≡ true = touched_with-of v u V X D m h t in go (has_variable v E && touches u V E) i
  where
    go : (b : Bool) → touched_with v u V X ≡ true → (b || touched_with v u V X) ≡ true
    go true i = refl
    go false i = i

-- The computed list is closed.
pub expansion_vars-closed : (P : Prefix) (X : Matrix) (u : ℕ) (D : Clause) → IsIn D X → touches u (expansion_vars P X u) D ≡ true → (k : Literal) → IsIn k D → is_bound P k.var ≡ true → inner_existential P u k.var ≡ true → in_list k.var (expansion_vars P X u) ≡ true
expansion_vars-closed P X u D m t k i b h = subst (λ V. in_list k.var V ≡ true) (expansion_vars-fixed P X u)
    (next-in P P X u (expansion_vars P X u) k.var b h (touched_with-of k.var u (expansion_vars P X u) X D m (has_variable-IsIn D k i) t))

pub expansion_vars-inner : (P : Prefix) (X : Matrix) (u v : ℕ) → in_list v (expansion_vars P X u) ≡ true → inner_existential P u v ≡ true
expansion_vars-inner P X u v h = (next-inner P P X u (expansion_vars P X u) v (subst (λ V. in_list v V ≡ true) (sym (expansion_vars-fixed P X u)) h)).0

-- No variable twice.
abbrev pub Once : List ℕ → Type 0
Once [] = Unit {0}
Once (v ∷ V) = (in_list v V ≡ false) × Once V

pub next-once : (Q P : Prefix) (X : Matrix) (u : ℕ) (V : List ℕ) → Distinct Q → Once (next_vars Q P X u V)
next-once [] P X u V d = tt
next-once (b ∷ Q) P X u V d = go (inner_existential P u b.var && touched_with b.var u V X) (next-once Q P X u V d.1)
  where
    not_in : in_list b.var (next_vars Q P X u V) ≡ false
    not_in = test (in_list b.var (next_vars Q P X u V)) refl
      where
        test : (c : Bool) → in_list b.var (next_vars Q P X u V) ≡ c → in_list b.var (next_vars Q P X u V) ≡ false
        test true q = let r : is_bound Q b.var ≡ true = (next-inner Q P X u V b.var q).1 in let n : is_bound Q b.var ≡ false = d.0 in let w : true ≡ false = sym r ∙ n in grind arith
        test false q = q

    go : (c : Bool) → Once (next_vars Q P X u V) → Once (cond c (b.var ∷ next_vars Q P X u V) (next_vars Q P X u V))
    go true o = (not_in, o)
    go false o = o

-- The greatest variable.
pub above-greatest : (P : Prefix) → Above P (greatest P + 1)
above-greatest P w h = go (is_bound P w) refl
  where
    go : (b : Bool) → is_bound P w ≡ b → is_bound P w ≡ false
    go true q = let l : w ≤ greatest P = is_bound-greatest P w q in grind arith
    go false q = q

pub inner-parts : (P : Prefix) (u v : ℕ) → inner_existential P u v ≡ true → (is_existential P v ≡ true) × (outer_or_same P v u ≡ false)
inner-parts P u v h = go (is_existential P v) refl (outer_or_same P v u) refl h
  where
    go : (a : Bool) → is_existential P v ≡ a → (b : Bool) → outer_or_same P v u ≡ b → (a && not b) ≡ true → (is_existential P v ≡ true) × (outer_or_same P v u ≡ false)
    go true p true q h = grind arith
    go true p false q h = (p, q)
    go false p b q h = grind arith

abbrev pub AllInner : Prefix → ℕ → List ℕ → Type 0
AllInner P u [] = Unit {0}
AllInner P u (x ∷ V) = (inner_existential P u x ≡ true) × AllInner P u V

pub all_inner : (P : Prefix) (u : ℕ) (V : List ℕ) → ((v : ℕ) → in_list v V ≡ true → inner_existential P u v ≡ true) → AllInner P u V
all_inner P u [] h = tt
all_inner P u (x ∷ V) h = (h x (let e : eqb x x ≡ true = grind arith in rw e refl), all_inner P u V (λ v m. h v (go v (eqb x v) m)))
  where
    go : (v : ℕ) (b : Bool) → in_list v V ≡ true → (b || in_list v V) ≡ true
    go v true m = refl
    go v false m = m

pub all_e : (P : Prefix) (u : ℕ) (V : List ℕ) → AllInner P u V → AllE P V
all_e P u [] h = tt
all_e P u (x ∷ V) h = ((inner-parts P u x h.0).0, all_e P u V h.1)

pub originals-of : (P : Prefix) (u t : ℕ) (W V : List ℕ) → AllE P W → Above P t → is_universal P u ≡ true → is_bound P u ≡ true → AllInner P u V → Once V → Originals (insert_all W t P) u t V
originals-of P u t W [] e a q b h o = tt
originals-of P u t W (x ∷ V) e a q b h o = (
  (
    inserted-is_existential W t P e a x l ∙ r.0,
    inserted-outer W t P e a u x (below P t u a b) l ∙ outer_or_same-inner P x u (existential-is_bound P x r.0) b r.1,
    l,
    differ (eqb x u) refl,
    o.0,
  ),
  originals-of P u t W V e a q b h.1 o.1,
)
  where
    r : (is_existential P x ≡ true) × (outer_or_same P x u ≡ false)
    r = inner-parts P u x h.0

    l : x < t
    l = below P t x a (existential-is_bound P x (inner-parts P u x h.0).0)

    differ : (c : Bool) → eqb x u ≡ c → eqb x u ≡ false
    differ true z = let y : u ≡ x = grind arith in let w : is_universal P x ≡ true = subst (λ v. is_universal P v ≡ true) y q in let n : is_existential P x ≡ false = universal-not_existential P x w in let m : is_existential P x ≡ true = (inner-parts P u x h.0).0 in grind arith
    differ false z = z

pub expand_on : (expand : ℕ) (P : Prefix) (X : Matrix) (u : ℕ) → Distinct P → ((D : Clause) → IsIn D X → (k : Literal) → IsIn k D → is_bound P k.var ≡ true) → Expandable expand P X u →
    Reaches (formula_of P X) (freshes (expansion_vars P X u) (greatest P + 1) ++ expand_steps u (expansion_vars P X u) (greatest P + 1) X) (formula_of (insert_all (expansion_vars P X u) (greatest P + 1) P) (expanded u (expansion_vars P X u) (greatest P + 1) X))
expand_on expand P X u d closed h =
    reaches-append (formula_of P X) (freshes V t) (expand_steps u V t X) (formula_of Q X) (formula_of Q (expanded u V t X)) (reaches-freshes V t P X e a) (expand_from Q X u V t facts)
  where
    V : List ℕ
    V = expansion_vars P X u

    t : ℕ
    t = greatest P + 1

    Q : Prefix
    Q = insert_all (expansion_vars P X u) (greatest P + 1) P

    a : Above P (greatest P + 1)
    a = above-greatest P

    inner : AllInner P u (expansion_vars P X u)
    inner = all_inner P u (expansion_vars P X u) (expansion_vars-inner P X u)

    e : AllE P (expansion_vars P X u)
    e = all_e P u (expansion_vars P X u) inner

    once : Once (expansion_vars P X u)
    once = subst Once (expansion_vars-fixed P X u) (next-once P P X u (expansion_vars P X u) d)

    ub : is_bound P u ≡ true
    ub = universal-is_bound P u h.universal

    ul : u < greatest P + 1
    ul = below P (greatest P + 1) u a ub

    under : (D : Clause) → IsIn D X → (k : Literal) → IsIn k D → k.var < greatest P + 1
    under D m k i = below P (greatest P + 1) k.var a (closed D m k i)

    touched : (D : Clause) → (has (positive u) D ≡ true) ⊎ ((has (minus u) D ≡ true) ⊎ (shares (expansion_vars P X u) D ≡ true)) → touches u (expansion_vars P X u) D ≡ true
    touched D (inl p) = let z : has_variable u D ≡ true = has_variable-IsIn D (positive u) (has-IsIn (positive u) D p) in rw z refl
    touched D (inr (inl p)) = let z : has_variable u D ≡ true = has_variable-IsIn D (minus u) (has-IsIn (minus u) D p) in rw z refl
    touched D (inr (inr p)) = go (has_variable u D)
      where
        go : (b : Bool) → (b || shares (expansion_vars P X u) D) ≡ true
        go true = refl
        go false = p

    inner_old : (v : ℕ) → v < greatest P + 1 → inner_existential (insert_all (expansion_vars P X u) (greatest P + 1) P) u v ≡ true → inner_existential P u v ≡ true
    inner_old v l i = let s : is_existential Q v ≡ is_existential P v = inserted-is_existential V t P e a v l in let o : outer_or_same Q v u ≡ outer_or_same P v u = inserted-outer V t P e a v u l ul in
        let p : (is_existential Q v ≡ true) × (outer_or_same Q v u ≡ false) = inner-parts Q u v i in
        let x : is_existential P v ≡ true = sym s ∙ p.0 in let y : outer_or_same P v u ≡ false = sym o ∙ p.1 in rw (x, y) refl

    facts : Expansion (insert_all (expansion_vars P X u) (greatest P + 1) P) X u (expansion_vars P X u) (greatest P + 1)
    facts = record {
      universal = inserted-is_universal V t P e a u ul ∙ h.universal;
      u_bound = inserted-is_bound V t P e a u ul ∙ ub;
      u_below = ul;
      copies_there = inserted-copies V t P e a;
      originals = originals-of P u t V V e a h.universal ub inner once;
      below = under;
      all_bound = λ D m k i. inserted-is_bound V t P e a k.var (under D m k i) ∙ closed D m k i;
      closed = λ D m p k i q. expansion_vars-closed P X u D m (touched D p) k i (closed D m k i) (inner_old k.var (under D m k i) q);
      not_both = λ D m p. none D m p (has (minus u) D) refl;
    }
      where
        none : (D : Clause) → IsIn D X → has (positive u) D ≡ true → (b : Bool) → has (minus u) D ≡ b → has (minus u) D ≡ false
        none D m p true q = absurd (h.no_tautology D m (has-IsIn (positive u) D p) (has-IsIn (minus u) D q))
        none D m p false q = q

all_old : (P : Prefix) (X : Matrix) (u : ℕ) → AllE P (expansion_vars P X u)
all_old P X u = all_e P u (expansion_vars P X u) (all_inner P u (expansion_vars P X u) (expansion_vars-inner P X u))

pub expand-run : (B : Bounds) (P : Prefix) (N : Slots) (u : ℕ) → Distinct P → ((D : Clause) → IsIn D (live N) → (k : Literal) → IsIn k D → is_bound P k.var ≡ true) → Fits B P N (expand_universal u) → IsInLimits standard (change P N (expand_universal u))
    → Way (3 * standard.clauses) (3 * standard.lits) (formula_of P (live N)) (change P N (expand_universal u))
expand-run B P N u d closed h m = (
  freshes V t ++ expand_steps u V t (live N),
  expand_on B.expand P (live N) u d closed h,
  modest-more (0 + (2 * length V + weight one E)) (0 + (6 * length V + (weight length E + weight one E))) (3 * standard.clauses) (3 * standard.lits) (freshes V t ++ expand_steps u V t (live N))
      (clauses (length V) (weight one E) few (subst (λ n. n ≤ 33554432) (sym (weight-one E)) m.clauses))
      (lits (length V) (weight length E) (weight one E) few (subst (λ n. n ≤ 33554432) (sym (weight-one E)) m.clauses) (subst (λ n. n ≤ 134217728) (sym (weight-length E)) m.lits))
      (modest-append 0 0 (2 * length V + weight one E) (6 * length V + (weight length E + weight one E)) (freshes V t) (expand_steps u V t (live N)) (freshes-modest V t (omega arith) room) (steps-modest u V t (live N))),
)
  where
    V : List ℕ
    V = expansion_vars P (live N) u

    t : ℕ
    t = greatest P + 1

    E : Matrix
    E = expanded u (expansion_vars P (live N) u) (greatest P + 1) (live N)

    room : greatest P + 1 + length (expansion_vars P (live N) u) ≤ 16777215 + 1
    room = most (greatest P + 1 + length V) (greatest (insert_all V t P)) (greatest-inserted V t P (all_old P (live N) u) (above-greatest P) (omega arith)) m.vars
      where
        most : (a g : ℕ) → a ≤ g + 1 → g ≤ 16777215 → a ≤ 16777215 + 1
        most a g i j = omega arith

    few : length (expansion_vars P (live N) u) ≤ 16777215
    few = least_of (greatest P) (length V) room
      where
        least_of : (g v : ℕ) → g + 1 + v ≤ 16777215 + 1 → v ≤ 16777215
        least_of g v i = omega arith

    clauses : (v e : ℕ) → v ≤ 16777215 → e ≤ 33554432 → 0 + (2 * v + e) ≤ 3 * 33554432
    clauses v e i j = omega arith

    lits : (v l e : ℕ) → v ≤ 16777215 → e ≤ 33554432 → l ≤ 134217728 → 0 + (6 * v + (l + e)) ≤ 3 * 134217728
    lits v l e i j k = omega arith

pub expand-distinct : (P : Prefix) (X : Matrix) (u : ℕ) → Distinct P → Distinct (insert_all (expansion_vars P X u) (greatest P + 1) P)
expand-distinct P X u d = inserted-distinct (expansion_vars P X u) (greatest P + 1) P (all_e P u (expansion_vars P X u) (all_inner P u (expansion_vars P X u) (expansion_vars-inner P X u))) (above-greatest P) d
