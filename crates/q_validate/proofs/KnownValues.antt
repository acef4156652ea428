-- What is known of inputs and gates.
use Rattle.std.proofs.Common.{◌≡◌, ℕ, zero, suc, ◌+◌, ◌<◌, ◌≤◌, Bool, true, false, cond, eqb, List, [], ◌∷◌, ◌++◌, length, get_or, slice_get, Option, Some, None, refl, sym, ap, ◌∙◌, subst, inl, inr, arith}
use Rattle.std.proofs.lemmas.List.{length_push, get_or_push, get_or_append_left}
use Rattle.std.proofs.lemmas.Option.{get_or_from_slice_get, slice_get_within, slice_get-get_or, slice_get_past}
use Rattle.std.proofs.lemmas.Bool.{cases_lt}
use Rattle.std.proofs.lemmas.List.{get_or_past, get_or_default}
use Rattle.std.specs.List.{Contains}
use Rattle.q_logic.specs.Prefixes.{is_bound, place, Distinct}
use Rattle.q_logic.specs.Prelude.{Circuit, input, Gate, gate_tree, gate_trees, Literal, PrenexFormula, is_existential, CertificateView, Node, Assignment, with_value, nothing, Prefix}
use Rattle.q_aig.specs.Prelude.{Net, IsNet, AreDistinct, gate_of, tree_at}
use Rattle.q_aig.proofs.Nets.{tree-at-gate}
use Rattle.q_search.specs.Paths.{rest_of, node_at}
use Rattle.q_search.specs.Paths.{along}
use Rattle.q_search.specs.Walks.{AreUniversal}
use Rattle.q_logic.specs.declared.formulas.Quant.TheVariants.{Forall}
use Rattle.q_search.proofs.PathValues.{set-unbound, set-value, open-bound}
use Rattle.q_logic.specs.Branches.{known, known_both, known_signed, as_prefix, claim_of, literal_value, search_of, true_literals, counter_at, counter}
use Rattle.q_validate.specs.Stands.{unset, values, known_along, AreTold, Spot, claim_at, node_of}

tail-distinct : (u : ℕ) (us : List ℕ) → AreDistinct (u ∷ us) → AreDistinct us
tail-distinct u us d i j h k e = let z : suc i ≡ suc j = d (suc i) (suc j) (omega arith) (omega arith) e in omega arith

pub place-input : (us : List ℕ) (i : ℕ) → AreDistinct us → i < length us → place (as_prefix us) (get_or us i 0) ≡ i
place-input [] i d h = absurd (omega arith)
place-input (u ∷ us) zero d h = let e : eqb u u ≡ true = grind arith in rw e refl
place-input (u ∷ us) (suc i) d h = go (eqb u (get_or us i 0)) refl (place-input us i (tail-distinct u us d) (omega arith))
  where
    go : (x : Bool) → eqb u (get_or us i 0) ≡ x → place (as_prefix us) (get_or us i 0) ≡ i → cond x 0 (suc (place (as_prefix us) (get_or us i 0))) ≡ suc i
    go true e f =
        let s : u ≡ get_or us i 0 = grind arith in
        absurd (let z : 0 ≡ suc i = d 0 (suc i) (omega arith) (omega arith) s in omega arith)
    go false e f = ap suc f

pub bound-input : (us : List ℕ) (i : ℕ) → i < length us → is_bound (as_prefix us) (get_or us i 0) ≡ true
bound-input [] i h = absurd (omega arith)
bound-input (u ∷ us) zero h = let e : eqb u u ≡ true = grind arith in rw e refl
bound-input (u ∷ us) (suc i) h = let z : is_bound (as_prefix us) (get_or us i 0) ≡ true = bound-input us i (omega arith) in grind arith

unbound-other : (us : List ℕ) (u : ℕ) → ((i : ℕ) → i < length us → get_or us i 0 ≡ u → ⊥) → is_bound (as_prefix us) u ≡ false
unbound-other [] u h = refl
unbound-other (v ∷ us) u h = go (eqb v u) refl (unbound-other us u (λ i l e. h (suc i) (omega arith) e))
  where
    go : (x : Bool) → eqb v u ≡ x → is_bound (as_prefix us) u ≡ false → cond x true (is_bound (as_prefix us) u) ≡ false
    go true e f = absurd (h 0 (omega arith) (grind arith))
    go false e f = f

pub distinct-inputs : (us : List ℕ) → AreDistinct us → Distinct (as_prefix us)
distinct-inputs [] d = tt
distinct-inputs (u ∷ us) d = (
  unbound-other us u (λ i l e. let z : suc i ≡ 0 = d (suc i) 0 (omega arith) (omega arith) e in absurd (omega arith)),
  distinct-inputs us (tail-distinct u us d),
)

-- An input has the value that the path has at its place.
pub known-input : (us : List ℕ) (vs : List Bool) (i : ℕ) → AreDistinct us → i < length us →
    slice_get vs i ≡ known (unset us vs) (values us vs) (input (get_or us i 0))
known-input us vs i d h = elim (cases_lt i (length vs)) [
  | inl l ↦
      let p : place (as_prefix us) (get_or us i 0) ≡ i = place-input us i d h in
      let q : place (as_prefix us) (get_or us i 0) < length vs = omega arith in
      let b : is_bound (unset us vs) (get_or us i 0) ≡ false = set-unbound (as_prefix us) vs (get_or us i 0) (distinct-inputs us d) q in
      let v : values us vs (get_or us i 0) ≡ get_or vs (place (as_prefix us) (get_or us i 0)) false = set-value (as_prefix us) vs nothing (get_or us i 0) (distinct-inputs us d) q (bound-input us i h) in
      slice_get-get_or vs i false l ∙ ap (λ (j : ℕ). Some (get_or vs j false)) (sym p) ∙ ap (λ (x : Bool). Some x) (sym v)
      ∙ sym (ap (λ (x : Bool). cond x None (Some (values us vs (get_or us i 0)))) b)
  | inr l ↦
      let p : place (as_prefix us) (get_or us i 0) ≡ i = place-input us i d h in
      let b : is_bound (unset us vs) (get_or us i 0) ≡ true = open-bound (as_prefix us) vs (get_or us i 0) (omega arith) ∙ bound-input us i h in
      slice_get_past vs i l ∙ sym (ap (λ (x : Bool). cond x None (Some (values us vs (get_or us i 0)))) b)
]

-- One more gate.
pub told-more : {T : Type 0} (Says : T → (List Bool → Option Bool) → Type 0) (a : Net) (path : List Bool) (row more : List T) (l r : ℕ) (z : T) →
    IsNet a → AreTold Says a path row → slice_get a.gates (length row) ≡ Some (gate_of (l, r)) →
    Says z (λ w. known_both (known_along a.inputs (path ++ w) (tree_at a l)) (known_along a.inputs (path ++ w) (tree_at a r))) →
    more ≡ row ++ z ∷ [] → AreTold Says a path more
told-more {T} Says a path row more l r z net k s q m g v e = elim (cases_lt g (length row)) [
  | inl w ↦
      k g v (slice_get-get_or row g z w ∙ ap (λ (x : T). Some x) (sym (get_or_append_left row (z ∷ []) z g w) ∙ ap (λ (t : List T). get_or t g z) (sym m))
      ∙ sym (slice_get-get_or more g z (slice_get_within more g v e)) ∙ e)
  | inr w ↦
      let n : length more ≡ length row + 1 = ap length m ∙ length_push row z in
      let b : g < length more = slice_get_within more g v e in
      let i : length row ≡ g = omega arith in
      let t : Some z ≡ Some v =
      ap (λ (x : T). Some x) (sym (ap (λ (j : ℕ). get_or more j z) (sym i) ∙ ap (λ (t : List T). get_or t (length row) z) m ∙ get_or_push row z z (length row) refl))
      ∙ sym (slice_get-get_or more g z b) ∙ e in
      let y : z ≡ v = (cc) in
      subst (λ (x : T). Says x (λ w. known_along a.inputs (path ++ w) (get_or (gate_trees a.inputs [] a.gates) g (Circuit.constant false)))) y
      (subst (λ (j : ℕ). Says z (λ w. known_along a.inputs (path ++ w) (get_or (gate_trees a.inputs [] a.gates) j (Circuit.constant false)))) i last)
]
  where
    d : Gate
    d = gate_of (l, r)

    within : length row < length a.gates
    within = slice_get_within a.gates (length row) d s

    is : get_or a.gates (length row) d ≡ d
    is = get_or_from_slice_get a.gates (length row) d d s

    tree : get_or (gate_trees a.inputs [] a.gates) (length row) (Circuit.constant false) ≡ gate_tree a.inputs (gate_trees a.inputs [] a.gates) d
    tree =
        let t = tree-at-gate a.inputs [] a.gates (length row) d net.ordered within in
        let o : 0 + length row ≡ length row = omega arith in
        subst (λ (j : ℕ). get_or (gate_trees a.inputs [] a.gates) j (Circuit.constant false) ≡ gate_tree a.inputs (gate_trees a.inputs [] a.gates) d) o
        (subst (λ (x : Gate). get_or (gate_trees a.inputs [] a.gates) (0 + length row) (Circuit.constant false) ≡ gate_tree a.inputs (gate_trees a.inputs [] a.gates) x) is t)

    last : Says z (λ w. known_along a.inputs (path ++ w) (get_or (gate_trees a.inputs [] a.gates) (length row) (Circuit.constant false)))
    last = subst (λ (t : Circuit). Says z (λ w. known_along a.inputs (path ++ w) t)) (sym tree) q

-- The name at the place of an input.
pub name-at : (us : List ℕ) (v : ℕ) → place (as_prefix us) v < length us → (get_or us (place (as_prefix us) v) 0 ≡ v) × (is_bound (as_prefix us) v ≡ true)
name-at [] v h = absurd (omega arith)
name-at (u ∷ us) v h = go (eqb u v) refl h (name-at us v)
  where
    go : (x : Bool) → eqb u v ≡ x → cond x 0 (suc (place (as_prefix us) v)) < suc (length us) →
        (place (as_prefix us) v < length us → (get_or us (place (as_prefix us) v) 0 ≡ v) × (is_bound (as_prefix us) v ≡ true)) →
        (get_or (u ∷ us) (cond x 0 (suc (place (as_prefix us) v))) 0 ≡ v) × (cond x true (is_bound (as_prefix us) v) ≡ true)
    go true e h f = (grind arith, refl)
    go false e h f = f (omega arith)

pub no-name : (us : List ℕ) (v : ℕ) → length us ≤ place (as_prefix us) v → is_bound (as_prefix us) v ≡ false
no-name [] v h = refl
no-name (u ∷ us) v h = go (eqb u v) h (no-name us v)
  where
    go : (x : Bool) → suc (length us) ≤ cond x 0 (suc (place (as_prefix us) v)) → (length us ≤ place (as_prefix us) v → is_bound (as_prefix us) v ≡ false) →
        cond x true (is_bound (as_prefix us) v) ≡ false
    go true h f = absurd (omega arith)
    go false h f = f (omega arith)

-- A literal of an input.
pub literal-by_input : (F : PrenexFormula) (c : CertificateView) (path : List Bool) (k : Literal) (n : ℕ) (v : Option Bool) → AreDistinct c.inputs →
    is_existential F.prefix k.var ≡ false → n ≡ place (as_prefix c.inputs) k.var → n < length c.inputs → v ≡ slice_get path n →
    known_signed k.negative v ≡ literal_value (claim_of F c) (unset c.inputs path) (values c.inputs path) k
literal-by_input F c path k n v d x e l h =
    let r : (get_or c.inputs (place (as_prefix c.inputs) k.var) 0 ≡ k.var) × (is_bound (as_prefix c.inputs) k.var ≡ true) = name-at c.inputs k.var (omega arith) in
    let i : is_bound (as_prefix c.inputs) k.var ≡ true = r.1 in
    let z : get_or c.inputs n 0 ≡ k.var = ap (λ (j : ℕ). get_or c.inputs j 0) e ∙ r.0 in
    rw (x, i) (ap (known_signed k.negative) (h ∙ known-input c.inputs path n d l ∙ ap (λ (u : ℕ). known (unset c.inputs path) (values c.inputs path) (input u)) z))

pub all-universal : (us : List ℕ) → AreUniversal (as_prefix us)
all-universal [] = tt
all-universal (u ∷ us) = (refl, all-universal us)

pub universal-at : (us : List ℕ) (vs : List Bool) → length vs < length us →
    (v : ℕ) × (R : Prefix) × (rest_of (as_prefix us) vs ≡ record { quant = Forall; var = v } ∷ R)
universal-at [] vs h = absurd (omega arith)
universal-at (u ∷ us) [] h = (u, as_prefix us, refl)
universal-at (u ∷ us) (w ∷ vs) h = universal-at us vs (omega arith)

along-later : (P : Prefix) (vs : List Bool) (A : Assignment) (v : ℕ) → length vs ≤ place P v → along P vs A v ≡ A v
along-later [] vs A v h = refl
along-later (b ∷ P) [] A v h = refl
along-later (b ∷ P) (w ∷ vs) A v h = go (eqb b.var v) refl (eqb v b.var) refl h (along-later P vs (with_value A b.var w) v)
  where
    go : (x : Bool) → eqb b.var v ≡ x → (y : Bool) → eqb v b.var ≡ y → suc (length vs) ≤ cond x 0 (suc (place P v)) →
        (length vs ≤ place P v → along P vs (with_value A b.var w) v ≡ with_value A b.var w v) → along P vs (with_value A b.var w) v ≡ A v
    go true e y f h k = absurd (omega arith)
    go false e true f h k = absurd (grind arith)
    go false e false f h k = k (omega arith) ∙ ap (λ (c : Bool). cond c w (A v)) f

-- an input has the value that the path has, and 0 without one
pub values-at : (us : List ℕ) (vs : List Bool) (v : ℕ) → AreDistinct us → place (as_prefix us) v < length us →
    values us vs v ≡ get_or vs (place (as_prefix us) v) false
values-at us vs v d h = elim (cases_lt (place (as_prefix us) v) (length vs)) [
  | inl l ↦ set-value (as_prefix us) vs nothing v (distinct-inputs us d) l (name-at us v h).1
  | inr l ↦ along-later (as_prefix us) vs nothing v l ∙ sym (get_or_past vs (place (as_prefix us) v) false l)
]

-- The literals that the first lost node gives.
pub counter-is : (F : PrenexFormula) (C : CertificateView) (new : Spot) (lits : List Literal) → new.formula ≡ F → new.certificate ≡ C →
    (search_of (claim_of F C)).won ≡ false → node_at (as_prefix C.inputs) new.path nothing ≡ (search_of (claim_of F C)).last →
    lits ≡ true_literals new.formula.prefix (counter_at (claim_at new) (node_of new)) → counter (claim_of F C) ≡ Some lits
counter-is F C new lits f c w n h =
    ap (λ (b : Bool). cond b None (Some (true_literals F.prefix (counter_at (claim_of F C) (search_of (claim_of F C)).last)))) w
    ∙ ap (λ (ls : List Literal). Some ls) (sym (h
    ∙ ap (λ (G : PrenexFormula). true_literals G.prefix (counter_at (claim_of G new.certificate) (node_of new))) f
    ∙ ap (λ (D : CertificateView). true_literals F.prefix (counter_at (claim_of F D) (record { rest = unset D.inputs new.path; values = values D.inputs new.path }))) c
    ∙ ap (λ (m : Node). true_literals F.prefix (counter_at (claim_of F C) m)) n))

-- The inputs as a prefix, one by one.
pub as_prefix-push : (us : List ℕ) (u : ℕ) → as_prefix (us ++ u ∷ []) ≡ as_prefix us ++ record { quant = Forall; var = u } ∷ []
as_prefix-push [] u = refl
as_prefix-push (v ∷ us) u = ap (λ (P : Prefix). record { quant = Forall; var = v } ∷ P) (as_prefix-push us u)

-- What is among the inputs is an input.
pub named-bound : (us : List ℕ) (u : ℕ) → Contains us u → is_bound (as_prefix us) u ≡ true
named-bound us u h =
    subst (λ (v : ℕ). is_bound (as_prefix us) v ≡ true) (get_or_default us h.0 0 u h.1 ∙ h.2) (bound-input us h.0 h.1)
