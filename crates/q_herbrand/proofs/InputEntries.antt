-- Inputs, one further.
use Rattle.std.proofs.Common.{◌≡◌, ◌⊎◌, ℕ, ◌+◌, ◌<◌, Bool, true, false, cond, eqb, List, [], ◌∷◌, ◌++◌, length, get_or, take, map, inl, inr, arith, refl, sym, ap, ◌∙◌, subst, Option, Some, None}
use Rattle.std.proofs.lemmas.List.{length_push, length-map, get_or-map, get_or_append_left, get_or_push, take_more}
use Rattle.std.proofs.lemmas.Bool.{cases_lt}
use Rattle.std.proofs.lemmas.Option.{same_Some}
use Rattle.q_logic.specs.declared.formulas.Bound.{Bound}
use Rattle.q_logic.specs.Prelude.{Prefix, is_exists, is_existential, input, input_at, Operand, IsThere, operand_tree, gate_trees}
use Rattle.q_logic.proofs.Common.{IsIn-append}
use Rattle.q_aig.specs.Prelude.{Net, tree_at, operand_of, IsNew}
use Rattle.q_certificate.specs.Prelude.{look_at, AreLiterals, InputsAt, is_there}
use Rattle.q_logic.specs.Reversals.{Reversal, freshened}
use Rattle.q_herbrand.specs.Inputs.{has_input, AreInputs, IsAdded, AreOpened, AreFreshAdded, fresh_var}

pub there-is : (m : Option ℕ) → is_there m ≡ true → (l : ℕ) × (m ≡ Some l)
there-is None h = absurd (cc)
there-is (Some l) h = (l, refl)

pub added-there : (a : Net) (ins : List (Option ℕ)) (v l : ℕ) → AreInputs a.inputs ins → look_at ins v ≡ Some l →
    IsAdded a a ins ins v
added-there a ins v l i e = record { inputs = i; gates = refl; here = ap is_there e; kept = λ x h. h }

pub added-new : (a b : Net) (ins ins2 : List (Option ℕ)) (v l : ℕ) → AreInputs a.inputs ins →
    b.inputs ≡ a.inputs ++ v ∷ [] → b.gates ≡ a.gates →
    operand_of l ≡ record { node = input_at (length a.inputs); negated = false } →
    ((x : ℕ) → look_at ins2 x ≡ cond (eqb x v) (Some l) (look_at ins x)) → IsAdded a b ins ins2 v
added-new a b ins ins2 v l i ei eg o put = record {
  inputs = record {
    sound = λ x m e. sound x m e (eqb x v) refl;
    all = λ k lt. subst (λ (xs : List ℕ). has_input ins2 (get_or xs k 0) ≡ true) (sym ei)
        (all k (subst (λ (xs : List ℕ). k < length xs) ei lt));
  };
  gates = eg;
  here = here;
  kept = kept;
}
  where
    len : length (a.inputs ++ v ∷ []) ≡ length a.inputs + 1
    len = length_push a.inputs v

    itself : (x : ℕ) → eqb x v ≡ true → look_at ins2 x ≡ Some l
    itself x q = put x ∙ ap (λ (t : Bool). cond t (Some l) (look_at ins x)) q

    other : (x : ℕ) → eqb x v ≡ false → look_at ins2 x ≡ look_at ins x
    other x q = put x ∙ ap (λ (t : Bool). cond t (Some l) (look_at ins x)) q

    here : has_input ins2 v ≡ true
    here = ap is_there (itself v (grind arith))

    kept : (x : ℕ) → has_input ins x ≡ true → has_input ins2 x ≡ true
    kept x h = go (eqb x v) refl
      where
        go : (t : Bool) → eqb x v ≡ t → has_input ins2 x ≡ true
        go true q = ap is_there (itself x q)
        go false q = ap is_there (other x q) ∙ h

    sound : (x m : ℕ) → look_at ins2 x ≡ Some m → (t : Bool) → eqb x v ≡ t →
        (k : ℕ) × (k < length b.inputs) × (get_or b.inputs k 0 ≡ x) ×
        (operand_of m ≡ record { node = input_at k; negated = false })
    sound x m e true q =
        let z : l ≡ m = same_Some l m (sym (itself x q) ∙ e) in
        let y : v ≡ x = grind arith in (
          length a.inputs,
          subst (λ (xs : List ℕ). length a.inputs < length xs) (sym ei) (omega (arith, len)),
          ap (λ (xs : List ℕ). get_or xs (length a.inputs) 0) ei ∙ get_or_push a.inputs v 0 (length a.inputs) refl
              ∙ y,
          subst (λ (n : ℕ). operand_of n ≡ record { node = input_at (length a.inputs); negated = false }) z o,
        )
    sound x m e false q =
        let r = i.sound x m (sym (other x q) ∙ e) in (
          r.0,
          subst (λ (xs : List ℕ). r.0 < length xs) (sym ei) (omega (arith, len, r.1)),
          ap (λ (xs : List ℕ). get_or xs r.0 0) ei ∙ get_or_append_left a.inputs (v ∷ []) 0 r.0 r.1 ∙ r.2,
          r.3,
        )

    all : (k : ℕ) → k < length (a.inputs ++ v ∷ []) → has_input ins2 (get_or (a.inputs ++ v ∷ []) k 0) ≡ true
    all k lt = elim (cases_lt k (length a.inputs)) [
      | inl h ↦ subst (λ (x : ℕ). has_input ins2 x ≡ true) (sym (get_or_append_left a.inputs (v ∷ []) 0 k h))
          (kept (get_or a.inputs k 0) (i.all k h))
      | inr h ↦ subst (λ (x : ℕ). has_input ins2 x ≡ true)
          (sym (get_or_push a.inputs v 0 k (omega (arith, len, lt)))) here
    ]

pub input-new : (names : List ℕ) (ins : List (Option ℕ)) (v : ℕ) → AreInputs names ins → look_at ins v ≡ None →
    IsNew names v
input-new names ins v i n k lt e =
    let h : is_there (look_at ins v) ≡ true = subst (λ (x : ℕ). has_input ins x ≡ true) e (i.all k lt) in
    let f : false ≡ true = sym (ap is_there n) ∙ h in absurd (cc)

is_existential-last : (Q : Prefix) (b : Bound) (x : ℕ) → is_existential (Q ++ b ∷ []) x ≡ true →
    (is_existential Q x ≡ true) ⊎ ((x ≡ b.var) × (is_exists b.quant ≡ true))
is_existential-last [] b x h = go (eqb b.var x) refl h
  where
    go : (t : Bool) → eqb b.var x ≡ t → cond t (is_exists b.quant) false ≡ true →
        (false ≡ true) ⊎ ((x ≡ b.var) × (is_exists b.quant ≡ true))
    go true e h = inr (grind arith, h)
    go false e h = inl h
is_existential-last (a ∷ Q) b x h = go (eqb a.var x) h (is_existential-last Q b x)
  where
    go : (t : Bool) → cond t (is_exists a.quant) (is_existential (Q ++ b ∷ []) x) ≡ true →
        (is_existential (Q ++ b ∷ []) x ≡ true → (is_existential Q x ≡ true) ⊎
        ((x ≡ b.var) × (is_exists b.quant ≡ true))) →
        (cond t (is_exists a.quant) (is_existential Q x) ≡ true) ⊎ ((x ≡ b.var) × (is_exists b.quant ≡ true))
    go true h f = inl h
    go false h f = f h

pub opened-other : (a : Net) (ins : List (Option ℕ)) (Q : Prefix) (b : Bound) → is_exists b.quant ≡ false →
    AreOpened a ins Q [] → AreOpened a ins (Q ++ b ∷ []) []
opened-other a ins Q b n o = record {
  inputs = o.inputs;
  gates = o.gates;
  existentials = λ x h. elim (is_existential-last Q b x h) [
    | inl e ↦ o.existentials x e
    | inr e ↦
        absurd (let z = e.1 in cc)
  ];
  fresh = λ v m. elim m [ ];
}

pub opened-more : (a c : Net) (ins ins2 : List (Option ℕ)) (Q : Prefix) (b : Bound) → IsAdded a c ins ins2 b.var →
    AreOpened a ins Q [] → AreOpened c ins2 (Q ++ b ∷ []) []
opened-more a c ins ins2 Q b d o = record {
  inputs = d.inputs;
  gates = d.gates ∙ o.gates;
  existentials = λ x h. elim (is_existential-last Q b x h) [
    | inl e ↦ d.kept x (o.existentials x e)
    | inr e ↦
        subst (λ (y : ℕ). has_input ins2 y ≡ true) (sym e.0) d.here
  ];
  fresh = λ v m. elim m [ ];
}

pub opened-fresh : (a c : Net) (ins ins2 : List (Option ℕ)) (P : Prefix) (rs : List Reversal) →
    AreFreshAdded a c ins ins2 rs → AreOpened a ins P [] → AreOpened c ins2 P rs
opened-fresh a c ins ins2 P rs f o = record {
  inputs = f.inputs;
  gates = f.gates ∙ o.gates;
  existentials = λ x h. f.kept x (o.existentials x h);
  fresh = f.fresh;
}

pub fresh-none : (a : Net) (ins : List (Option ℕ)) → AreInputs a.inputs ins → AreFreshAdded a a ins ins []
fresh-none a ins i = record { inputs = i; gates = refl; fresh = λ v m. elim m [ ]; kept = λ x h. h }

fresh-is : (r : Reversal) (v : ℕ) → freshened v ≡ r → fresh_var r ≡ Some v
fresh-is r v e = ap fresh_var (sym e)

pub fresh-other : (a b : Net) (ins ins2 : List (Option ℕ)) (rs : List Reversal) (r : Reversal) →
    fresh_var r ≡ None → AreFreshAdded a b ins ins2 rs → AreFreshAdded a b ins ins2 (rs ++ r ∷ [])
fresh-other a b ins ins2 rs r n f = record {
  inputs = f.inputs;
  gates = f.gates;
  fresh = λ v m. elim (IsIn-append (freshened v) rs (r ∷ []) m) [
    | inl h ↦ f.fresh v h
    | inr h ↦ elim h [ inl e ↦ absurd (let z = fresh-is r v e in cc) | inr e ↦ absurd e ]
  ];
  kept = f.kept;
}

pub fresh-more : (a b c : Net) (ins ins1 ins2 : List (Option ℕ)) (rs : List Reversal) (r : Reversal) (v : ℕ) →
    fresh_var r ≡ Some v → AreFreshAdded a b ins ins1 rs → IsAdded b c ins1 ins2 v →
    AreFreshAdded a c ins ins2 (rs ++ r ∷ [])
fresh-more a b c ins ins1 ins2 rs r v is f d = record {
  inputs = d.inputs;
  gates = d.gates ∙ f.gates;
  fresh = λ w m. elim (IsIn-append (freshened w) rs (r ∷ []) m) [
    | inl h ↦ d.kept w (f.fresh w h)
    | inr h ↦ elim h [
      | inl e ↦ let z : v ≡ w = same_Some v w (sym is ∙ fresh-is r w e) in
          subst (λ (y : ℕ). has_input ins2 y ≡ true) z d.here
      | inr e ↦ absurd e
    ]
  ];
  kept = λ x h. d.kept x (f.kept x h);
}

pub take-mapped : {X Y : Type 0} (f : X → Y) (xs : List X) (ys : List Y) (i : ℕ) (x : X) → map f xs ≡ ys →
    i < length xs → x ≡ get_or xs i x → take (i + 1) ys ≡ take i ys ++ f x ∷ []
take-mapped f xs ys i x e h is =
    let len : length (map f xs) ≡ length xs = length-map xs f in
    let len2 : length ys ≡ length xs = ap length (sym e) ∙ len in
    let more : take (i + 1) ys ≡ take i ys ++ get_or ys i (f x) ∷ [] = take_more ys i (f x) (omega arith) in
    let at : get_or ys i (f x) ≡ f x = ap (λ zs. get_or zs i (f x)) (sym e) ∙ get_or-map f xs i x (f x) h
    ∙ ap f (sym is) in
    more ∙ ap (λ y. take i ys ++ y ∷ []) at

-- What the row of inputs says in a graph of these inputs.
pub inputs-literals : (a : Net) (names : List ℕ) (ins : List (Option ℕ)) → AreInputs names ins → a.inputs ≡ names →
    AreLiterals a ins
inputs-literals a names ins i e x l h =
    let r = i.sound x l h in
    subst (λ (o : Operand). IsThere (length a.inputs) (length a.gates) o.node) (sym r.3)
    (subst (λ (xs : List ℕ). r.0 < length xs) (sym e) r.1)

pub input-tree : (a : Net) (names : List ℕ) (ins : List (Option ℕ)) (x l : ℕ) → AreInputs names ins →
    a.inputs ≡ names → look_at ins x ≡ Some l → tree_at a l ≡ input x
input-tree a names ins x l i e h =
    let r = i.sound x l h in
    ap (operand_tree a.inputs (gate_trees a.inputs [] a.gates)) r.3
    ∙ ap (λ (xs : List ℕ). input (get_or xs r.0 0)) e ∙ ap input r.2

pub inputs-at : (a : Net) (names : List ℕ) (ins : List (Option ℕ)) → AreInputs names ins → a.inputs ≡ names →
    InputsAt a ins (has_input ins)
inputs-at a names ins i e u h =
    let r = there-is (look_at ins u) h in (r.0, r.1, input-tree a names ins u r.0 i e r.1)
