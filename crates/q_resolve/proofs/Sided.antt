-- Lines as values, where more merges come.
use Rattle.std.proofs.Common.{◌≡◌, ℕ, zero, suc, ◌+◌, ◌<◌, List, [], ◌∷◌, ◌++◌, inl, inr, length, take, drop, slice_get, arith, refl, sym, ap, ap₂, ◌∙◌, Option, Some, None}
use Rattle.std.proofs.lemmas.List.{length_push, take-append-drop, length-take}
use Rattle.std.proofs.lemmas.Option.{slice_get_within}
use Rattle.q_logic.specs.Prelude.{Literal, negation, IsIn, Circuit}
use Rattle.q_long.specs.Valued.{Value, value_for, picked}
use Rattle.q_extract.specs.declared.said.Said.{Said}
use Rattle.q_extract.specs.declared.said.Said.TheVariants.{Constant, Merged}
use Rattle.q_extract.specs.declared.said.Merge.{Merge}
use Rattle.q_extract.specs.Merges.{circuit_in, said_circuit, merge_circuit, circuits_after, merge_circuits, IsSaidBelow, AreMerges, value_by, value_at}
use Rattle.q_extract.proofs.Merged.{circuits-length, slice-before, value-plain, value-var}
use Rattle.q_derive.proofs.Following.{slice-at}
use Rattle.q_resolve.specs.declared.leaves.Owner.{Owner}
use Rattle.q_resolve.specs.declared.leaves.Owner.TheVariants.{Exists, Forall}
use Rattle.q_resolve.specs.Sides.{sided, side_values, line_values}

pub side-var : (o : Owner) (k : Literal) → (sided o k).var ≡ k.var
side-var Exists k = refl
side-var Forall k = refl

pub side-turned : (o : Owner) (k : Literal) → sided o (negation k) ≡ negation (sided o k)
side-turned Exists k = refl
side-turned Forall k = refl

pub line-in : (cs : List Circuit) (f : ℕ → Option ℕ) (o : Owner) (T : List Literal) (k : Literal) → IsIn k T →
    IsIn (value_at cs f (sided o k)) (line_values cs f o T)
line-in cs f o [] k m = absurd m
line-in cs f o (j ∷ T) k (inl e) = inl (ap (λ (x : Literal). value_at cs f (sided o x)) e)
line-in cs f o (j ∷ T) k (inr m) = inr (line-in cs f o T k m)

pub line-out : (cs : List Circuit) (f : ℕ → Option ℕ) (o : Owner) (T : List Literal) (v : Value) → IsIn v (line_values cs f o T) →
    (k : Literal) × IsIn k T × (v ≡ value_at cs f (sided o k))
line-out cs f o [] v m = absurd m
line-out cs f o (j ∷ T) v (inl e) = (j, inl refl, e)
line-out cs f o (j ∷ T) v (inr m) = let r = line-out cs f o T v m in (r.0, inr r.1, r.2)

pub side-plain : (cs : List Circuit) (f : ℕ → Option ℕ) (o : Owner) (k : Literal) → f k.var ≡ None → value_at cs f (sided o k) ≡ value_for (sided o k)
side-plain cs f o k e = value-plain cs f (sided o k) (ap f (side-var o k) ∙ e)

pub side-merged : (cs : List Circuit) (f : ℕ → Option ℕ) (o : Owner) (k : Literal) (i : ℕ) → f k.var ≡ Some i →
    value_at cs f (sided o k) ≡ record { var = k.var; circuit = circuit_in (slice_get cs i) }
side-merged cs f o k i e =
    ap (λ (r : Option ℕ). value_by cs r (sided o k)) (ap f (side-var o k) ∙ e) ∙
    ap (λ (x : ℕ). record { var = x; circuit = circuit_in (slice_get cs i) }) (side-var o k)

pub at-var : (cs : List Circuit) (f : ℕ → Option ℕ) (o : Owner) (k : Literal) → (value_at cs f (sided o k)).var ≡ k.var
at-var cs f o k = value-var cs f (sided o k) ∙ side-var o k

-- values of a variable, by what is said of it
pub side-same : (cs : List Circuit) (f g : ℕ → Option ℕ) (o : Owner) (k : Literal) → f k.var ≡ g k.var → value_at cs f (sided o k) ≡ value_at cs g (sided o k)
side-same cs f g o k e = ap (λ (r : Option ℕ). value_by cs r (sided o k)) (ap f (side-var o k) ∙ e ∙ sym (ap g (side-var o k)))

pub line-plain : (cs : List Circuit) (f : ℕ → Option ℕ) (o : Owner) (T : List Literal) → ((x : ℕ) → f x ≡ None) → line_values cs f o T ≡ side_values o T
line-plain cs f o [] h = refl
line-plain cs f o (k ∷ T) h = ap₂ (λ (v : Value) (vs : List Value). v ∷ vs) (side-plain cs f o k (h k.var)) (line-plain cs f o T h)

pub line-same : (cs ds : List Circuit) (f g : ℕ → Option ℕ) (o : Owner) (T : List Literal) → ((k : Literal) → value_at ds g (sided o k) ≡ value_at cs f (sided o k)) →
    line_values ds g o T ≡ line_values cs f o T
line-same cs ds f g o [] h = refl
line-same cs ds f g o (k ∷ T) h = ap₂ (λ (v : Value) (vs : List Value). v ∷ vs) (h k) (line-same cs ds f g o T h)

-- more merges
after-append : (cs : List Circuit) (ms more : List Merge) → circuits_after cs (ms ++ more) ≡ circuits_after (circuits_after cs ms) more
after-append cs [] more = refl
after-append cs (m ∷ ms) more = after-append (cs ++ merge_circuit cs m ∷ []) ms more

after-before : (cs : List Circuit) (ms : List Merge) (i : ℕ) → i < length cs → slice_get (circuits_after cs ms) i ≡ slice_get cs i
after-before cs [] i h = refl
after-before cs (m ∷ ms) i h =
    after-before (cs ++ merge_circuit cs m ∷ []) ms i (let n = length_push cs (merge_circuit cs m) in omega arith) ∙
    slice-before cs (merge_circuit cs m ∷ []) i h

pub grown-circuit : (ms more : List Merge) (i : ℕ) → i < length ms → slice_get (merge_circuits (ms ++ more)) i ≡ slice_get (merge_circuits ms) i
grown-circuit ms more i h =
    ap (λ (cs : List Circuit). slice_get cs i) (after-append [] ms more) ∙
    after-before (merge_circuits ms) more i (let z = circuits-length ms in omega arith)

pub grown-value : (ms more : List Merge) (f : ℕ → Option ℕ) (o : Owner) (k : Literal) → ((i : ℕ) → f k.var ≡ Some i → i < length ms) →
    value_at (merge_circuits (ms ++ more)) f (sided o k) ≡ value_at (merge_circuits ms) f (sided o k)
grown-value ms more f o k h = go (f k.var) refl
  where
    go : (r : Option ℕ) → f k.var ≡ r → value_at (merge_circuits (ms ++ more)) f (sided o k) ≡ value_at (merge_circuits ms) f (sided o k)
    go None e = side-plain (merge_circuits (ms ++ more)) f o k e ∙ sym (side-plain (merge_circuits ms) f o k e)
    go (Some i) e =
        side-merged (merge_circuits (ms ++ more)) f o k i e ∙
        ap (λ (c : Option Circuit). record { var = k.var; circuit = circuit_in c }) (grown-circuit ms more i (h i e)) ∙
        sym (side-merged (merge_circuits ms) f o k i e)

-- the circuit of a merge
after-at : (cs : List Circuit) (ms : List Merge) (i : ℕ) (m : Merge) → slice_get ms i ≡ Some m →
    slice_get (circuits_after cs ms) (length cs + i) ≡ Some (merge_circuit (circuits_after cs (take i ms)) m)
after-at cs [] zero m h = absurd (cc)
after-at cs [] (suc i) m h = absurd (cc)
after-at cs (x ∷ ms) zero m h =
    let n = length_push cs (merge_circuit cs x) in
    let e : x ≡ m = cc in
    ap (slice_get (circuits_after (cs ++ merge_circuit cs x ∷ []) ms)) (let z : length cs + 0 ≡ length cs = omega arith in z) ∙
    after-before (cs ++ merge_circuit cs x ∷ []) ms (length cs) (omega arith) ∙
    slice-at cs (merge_circuit cs x) ∙ ap (λ (y : Merge). Some (merge_circuit cs y)) e
after-at cs (x ∷ ms) (suc i) m h =
    let n = length_push cs (merge_circuit cs x) in
    ap (slice_get (circuits_after (cs ++ merge_circuit cs x ∷ []) ms)) (let z : length cs + suc i ≡ length (cs ++ merge_circuit cs x ∷ []) + i = omega arith in z) ∙
    after-at (cs ++ merge_circuit cs x ∷ []) ms i m h

said-grown : (ms : List Merge) (i : ℕ) (s : Said) → i < length ms → IsSaidBelow i s → said_circuit (merge_circuits (take i ms)) s ≡ said_circuit (merge_circuits ms) s
said-grown ms i (Constant b) l h = refl
said-grown ms i (Merged j) l h =
    let n : length (take i ms) ≡ i = simp length-take (omega arith) in
    sym (ap (λ (xs : List Merge). circuit_in (slice_get (merge_circuits xs) j)) (sym (take-append-drop i ms)) ∙
    ap circuit_in (grown-circuit (take i ms) (drop i ms) j (omega arith)))

pub merge-at : (ms : List Merge) (i : ℕ) (m : Merge) → AreMerges ms → slice_get ms i ≡ Some m →
    circuit_in (slice_get (merge_circuits ms) i) ≡ picked m.pivot (said_circuit (merge_circuits ms) m.first) (said_circuit (merge_circuits ms) m.second)
merge-at ms i m a h =
    let l : i < length ms = slice_get_within ms i m h in
    let b = a i m h in
    ap (λ (j : ℕ). circuit_in (slice_get (merge_circuits ms) j)) (let z : i ≡ 0 + i = omega arith in z) ∙
    ap circuit_in (after-at [] ms i m h) ∙
    ap₂ (λ (s t : Circuit). picked m.pivot s t) (said-grown ms i m.first l b.0) (said-grown ms i m.second l b.1)
