-- Drops that are linked, one further.
use Rattle.std.proofs.Common.{◌≡◌, ℕ, zero, suc, ◌+◌, ◌<◌, ◌≤◌, Bool, true, false, cond, ◌&&◌, eqb, List, [], ◌∷◌, ◌++◌, ◌⊎◌, inl, inr, length, map, slice_get, arith, refl, sym, ap, ap₂, ◌∙◌, subst, Option, Some, None}
use Rattle.std.proofs.lemmas.List.{length_push, map_push, append_assoc, append-nil}
use Rattle.q_logic.specs.Prelude.{Literal, Circuit}
use Rattle.q_logic.proofs.Common.{slice_get-append}
use Rattle.q_certificate.specs.Prelude.{look_at}
use Rattle.q_derive.proofs.Following.{slice-last as slice-last-of}
use Rattle.q_long.specs.Valued.{Value}
use Rattle.q_long.specs.Decided.{Drop, drops_of}
use Rattle.q_extract.specs.declared.drops.Fall.{Fall}
use Rattle.q_extract.specs.declared.drops.Drops.{Drops}
use Rattle.q_extract.specs.declared.said.Merge.{Merge}
use Rattle.q_extract.specs.Saying.{said_in}
use Rattle.q_extract.specs.Merges.{circuit_in, merge_circuit, merge_circuits, AreMerges, IsSaidBelow, value_by, value_at}
use Rattle.q_extract.specs.Rows.{IsHere, IsLast, AreChained, AreWithin, AreSound, kept_in, guards_from, guards_in, fall_value, drop_of, drops_in, IsMore, IsMoreOver, IsMergeMore, IsSayingMore}
use Rattle.q_extract.proofs.Merged.{after-last, circuits-length, slice-before}

slice-last : (row : List Fall) (f : Fall) (i : ℕ) (g : Fall) → slice_get (row ++ f ∷ []) i ≡ Some g →
    ((slice_get row i ≡ Some g) × (i < length row)) ⊎ ((i ≡ length row) × (f ≡ g))
slice-last [] f zero g e = inr (refl, cc)
slice-last [] f (suc i) g e = absurd (cc)
slice-last (x ∷ row) f zero g e = inl (e, omega arith)
slice-last (x ∷ row) f (suc i) g e = elim (slice-last row f i g e) [
  | inl r ↦ inl (r.0, let h = r.1 in omega arith)
  | inr r ↦ inr (let h = r.0 in omega arith, r.1)
]

slice-at : (row : List Fall) (f : Fall) → slice_get (row ++ f ∷ []) (length row) ≡ Some f
slice-at [] f = refl
slice-at (x ∷ row) f = slice-at row f

last-kept : (row : List Fall) (f : Fall) (x n : ℕ) (o : Option ℕ) → n ≤ length row → IsLast row x n o →
    IsLast (row ++ f ∷ []) x n o
last-kept row f x n None le h = none
  where
    none : (i : ℕ) → i < n → IsHere (row ++ f ∷ []) x i → ⊥
    none i lt (g, e, v) = elim (slice-last row f i g e) [
      | inl r ↦ h i lt (g, r.0, v)
      | inr r ↦ absurd (let q = r.0 in omega arith)
    ]
last-kept row f x n (Some j) le (lt, (g, e, v), h) = (lt, (g, slice_get-append row (f ∷ []) j g e, v), none)
  where
    none : (i : ℕ) → j < i → i < n → IsHere (row ++ f ∷ []) x i → ⊥
    none i a b (k, p, w) = elim (slice-last row f i k p) [
      | inl r ↦ h i a b (k, r.0, w)
      | inr r ↦ absurd (let q = r.0 in omega arith)
    ]

last-other : (row : List Fall) (f : Fall) (x n : ℕ) (o : Option ℕ) → eqb x f.lit.var ≡ false → n ≡ length row + 1 →
    IsLast row x (length row) o → IsLast (row ++ f ∷ []) x n o
last-other row f x n None d m h = none
  where
    none : (i : ℕ) → i < n → IsHere (row ++ f ∷ []) x i → ⊥
    none i lt (g, e, v) = elim (slice-last row f i g e) [
      | inl r ↦ h i r.1 (g, r.0, v)
      | inr r ↦ absurd (let q : f.lit.var ≡ x = ap (λ (z : Fall). z.lit.var) r.1 ∙ v in grind arith)
    ]
last-other row f x n (Some j) d m (lt, (g, e, v), h) = (omega arith, (g, slice_get-append row (f ∷ []) j g e, v), none)
  where
    none : (i : ℕ) → j < i → i < n → IsHere (row ++ f ∷ []) x i → ⊥
    none i a b (k, p, w) = elim (slice-last row f i k p) [
      | inl r ↦ h i a r.1 (k, r.0, w)
      | inr r ↦ absurd (let q : f.lit.var ≡ x = ap (λ (z : Fall). z.lit.var) r.1 ∙ w in grind arith)
    ]

pub chained-push : (row : List Fall) (last last2 : List (Option ℕ)) (f : Fall) → AreChained row last →
    f.before ≡ look_at last f.lit.var →
    ((x : ℕ) → look_at last2 x ≡ cond (eqb x f.lit.var) (Some (length row)) (look_at last x)) →
    AreChained (row ++ f ∷ []) last2
chained-push row last last2 f h b put = record { heads = heads; links = links }
  where
    len : length (row ++ f ∷ []) ≡ length row + 1
    len = length_push row f

    heads : (x : ℕ) → IsLast (row ++ f ∷ []) x (length (row ++ f ∷ [])) (look_at last2 x)
    heads x = go (eqb x f.lit.var) refl
      where
        go : (t : Bool) → eqb x f.lit.var ≡ t → IsLast (row ++ f ∷ []) x (length (row ++ f ∷ [])) (look_at last2 x)
        go true e =
            let p : look_at last2 x ≡ Some (length row) = put x ∙ ap (λ (t : Bool). cond t (Some (length row)) (look_at last x)) e in
            let v : f.lit.var ≡ x = grind arith in
            subst (IsLast (row ++ f ∷ []) x (length (row ++ f ∷ []))) (sym p)
            (let n = len in omega arith, (f, slice-at row f, v), λ i a c. absurd (let n = len in omega arith))
        go false e =
            let p : look_at last2 x ≡ look_at last x = put x ∙ ap (λ (t : Bool). cond t (Some (length row)) (look_at last x)) e in
            subst (IsLast (row ++ f ∷ []) x (length (row ++ f ∷ []))) (sym p)
            (last-other row f x (length (row ++ f ∷ [])) (look_at last x) e len (h.heads x))

    links : (i : ℕ) → (g : Fall) → slice_get (row ++ f ∷ []) i ≡ Some g → IsLast (row ++ f ∷ []) g.lit.var i g.before
    links i g e = elim (slice-last row f i g e) [
      | inl r ↦ last-kept row f g.lit.var i g.before (let q = r.1 in omega arith) (h.links i g r.0)
      | inr r ↦
          subst (λ (z : Fall). IsLast (row ++ f ∷ []) z.lit.var i z.before) r.1
          (last-kept row f f.lit.var i f.before (let q = r.0 in omega arith)
          (subst (IsLast row f.lit.var i) (sym b)
          (subst (λ k. IsLast row f.lit.var k (look_at last f.lit.var)) (sym r.0) (h.heads f.lit.var))))
    ]

-- values of a guard, one after the other
guards-at : (cs : List Circuit) (f : ℕ → ℕ → Option ℕ) (n : ℕ) (guards : List (List Literal)) (i : ℕ) (T : List Literal) →
    slice_get guards i ≡ Some T → slice_get (guards_from cs f n guards) i ≡ Some (map (value_at cs (f (n + i))) T)
guards-at cs f n [] i T e = absurd (cc)
guards-at cs f n (S ∷ guards) zero T e =
    let s : S ≡ T = cc in
    let z : n + 0 ≡ n = omega arith in
    ap (λ (X : List Literal). Some (map (value_at cs (f n)) X)) s ∙ ap (λ m. Some (map (value_at cs (f m)) T)) (sym z)
guards-at cs f n (S ∷ guards) (suc i) T e =
    let z : suc n + i ≡ n + suc i = omega arith in
    guards-at cs f (suc n) guards i T e ∙ ap (λ m. Some (map (value_at cs (f m)) T)) z

pub guard-at : (d : Drops) (i : ℕ) (T : List Literal) → slice_get d.guards i ≡ Some T →
    kept_in (slice_get (guards_in d) i) ≡ map (value_at (merge_circuits d.merges.items) ((said_in d.said) i)) T
guard-at d i T e =
    let z : 0 + i ≡ i = omega arith in
    ap kept_in (guards-at (merge_circuits d.merges.items) (said_in d.said) 0 d.guards i T e) ∙
    ap (λ m. map (value_at (merge_circuits d.merges.items) ((said_in d.said) m)) T) z

guards-length : (cs : List Circuit) (f : ℕ → ℕ → Option ℕ) (n : ℕ) (guards : List (List Literal)) →
    length (guards_from cs f n guards) ≡ length guards
guards-length cs f n [] = refl
guards-length cs f n (T ∷ guards) = ap suc (guards-length cs f (suc n) guards)

pub guards-many : (d : Drops) → length (guards_in d) ≡ length d.guards
guards-many d = guards-length (merge_circuits d.merges.items) (said_in d.said) 0 d.guards

-- the same values
abbrev pub AreSame : List Circuit → List Circuit → (ℕ → ℕ → Option ℕ) → (ℕ → ℕ → Option ℕ) → ℕ → Type 0
AreSame cs ds f g n = (i : ℕ) → i < n → (k : Literal) → value_at ds (g i) k ≡ value_at cs (f i) k

map-same : (v w : Literal → Value) (T : List Literal) → ((k : Literal) → w k ≡ v k) → map w T ≡ map v T
map-same v w [] h = refl
map-same v w (k ∷ T) h = ap₂ (λ (x : Value) (xs : List Value). x ∷ xs) (h k) (map-same v w T h)

from-same : (cs ds : List Circuit) (f g : ℕ → ℕ → Option ℕ) (n m : ℕ) (guards : List (List Literal)) → AreSame cs ds f g m → n + length guards ≤ m →
    guards_from ds g n guards ≡ guards_from cs f n guards
from-same cs ds f g n m [] h le = refl
from-same cs ds f g n m (T ∷ guards) h le =
    ap₂ (λ (x : List Value) (xs : List (List Value)). x ∷ xs) (map-same (value_at cs (f n)) (value_at ds (g n)) T (h n (omega arith)))
    (from-same cs ds f g (suc n) m guards h (omega arith))

row-same : (cs ds : List Circuit) (f g : ℕ → ℕ → Option ℕ) (m : ℕ) (gs hs : List (List Value)) (row : List Fall) → AreSame cs ds f g m →
    ((i : ℕ) → (x : Fall) → slice_get row i ≡ Some x → x.guard < m) → hs ≡ gs →
    map (drop_of (fall_value ds g) hs) row ≡ map (drop_of (fall_value cs f) gs) row
row-same cs ds f g m gs hs [] h w e = refl
row-same cs ds f g m gs hs (x ∷ row) h w e =
    ap₂ (λ (d : Drop) (xs : List Drop). d ∷ xs)
    (ap₂ (λ (v : Value) (T : List Value). record { value = v; kept = T }) (h x.guard (w 0 x refl) x.lit) (ap (λ (ys : List (List Value)). kept_in (slice_get ys x.guard)) e))
    (row-same cs ds f g m gs hs row h (λ i y q. w (suc i) y q) e)

drops-same : (old new : Drops) → AreWithin old.guards old.row.items → new.guards ≡ old.guards → new.row ≡ old.row →
    AreSame (merge_circuits old.merges.items) (merge_circuits new.merges.items) (said_in old.said) (said_in new.said) (length old.guards) → drops_in new ≡ drops_in old
drops-same old new w g r h =
    ap (λ row. map (drop_of (fall_value (merge_circuits new.merges.items) (said_in new.said)) (guards_in new)) row.items) r ∙
    row-same (merge_circuits old.merges.items) (merge_circuits new.merges.items) (said_in old.said) (said_in new.said) (length old.guards) (guards_in old) (guards_in new) old.row.items h w
    (ap (guards_from (merge_circuits new.merges.items) (said_in new.said) 0) g ∙
    from-same (merge_circuits old.merges.items) (merge_circuits new.merges.items) (said_in old.said) (said_in new.said) 0 (length old.guards) old.guards h (omega arith))

-- one drop more
pub more-one : (old new : Drops) (f : Fall) → AreSound old → f.guard < length old.guards → new.guards ≡ old.guards → new.merges ≡ old.merges → new.said ≡ old.said →
    new.row.items ≡ old.row.items ++ f ∷ [] → f.before ≡ look_at old.last.items f.lit.var →
    ((x : ℕ) → look_at new.last.items x ≡ cond (eqb x f.lit.var) (Some (length old.row.items)) (look_at old.last.items x)) →
    IsMoreOver old new (drop_of (fall_value (merge_circuits old.merges.items) (said_in old.said)) (guards_in old) f ∷ [])
more-one old new f h lt g m s e b put = record {
  guards = g;
  more = record {
    drops =
        ap (λ gs. map (drop_of (fall_value (merge_circuits new.merges.items) (said_in new.said)) (guards_from (merge_circuits new.merges.items) (said_in new.said) 0 gs)) new.row.items) g ∙
        ap (λ ms. map (drop_of (fall_value (merge_circuits ms.items) (said_in new.said)) (guards_from (merge_circuits ms.items) (said_in new.said) 0 old.guards)) new.row.items) m ∙
        ap (λ q. map (drop_of (fall_value (merge_circuits old.merges.items) (said_in q)) (guards_from (merge_circuits old.merges.items) (said_in q) 0 old.guards)) new.row.items) s ∙
        ap (map (drop_of (fall_value (merge_circuits old.merges.items) (said_in old.said)) (guards_in old))) e ∙
        map_push (drop_of (fall_value (merge_circuits old.merges.items) (said_in old.said)) (guards_in old)) old.row.items f;
    merges = m;
    said = s;
    sound = record {
      chained = subst (λ row. AreChained row new.last.items) (sym e)
          (chained-push old.row.items old.last.items new.last.items f h.chained b put);
      within = subst (λ gs. AreWithin gs new.row.items) (sym g) (subst (AreWithin old.guards) (sym e) all);
      merges = subst (λ ms. AreMerges ms.items) (sym m) h.merges;
      said = λ y x i q. subst (λ ms. i < length ms.items) (sym m) (h.said y x i (ap (λ z. said_in z y x) (sym s) ∙ q));
      fresh = λ y x l. ap (λ z. said_in z y x) s ∙ h.fresh y x (subst (λ gs. length gs < y) g l);
    };
  };
}
  where
    all : AreWithin old.guards (old.row.items ++ f ∷ [])
    all i x p = elim (slice-last old.row.items f i x p) [
      | inl r ↦ h.within i x r.0
      | inr r ↦ subst (λ (z : Fall). z.guard < length old.guards) r.1 lt
    ]

-- one more row of kept literals
from-front : (cs : List Circuit) (f : ℕ → ℕ → Option ℕ) (n : ℕ) (guards more : List (List Literal)) (i : ℕ) → i < length guards →
    slice_get (guards_from cs f n (guards ++ more)) i ≡ slice_get (guards_from cs f n guards) i
from-front cs f n [] more i h = absurd (omega arith)
from-front cs f n (T ∷ guards) more zero h = refl
from-front cs f n (T ∷ guards) more (suc i) h = from-front cs f (suc n) guards more i (omega arith)

same-over : (cs : List Circuit) (f : ℕ → ℕ → Option ℕ) (guards more : List (List Literal)) (row : List Fall) → AreWithin guards row →
    map (drop_of (fall_value cs f) (guards_from cs f 0 (guards ++ more))) row ≡ map (drop_of (fall_value cs f) (guards_from cs f 0 guards)) row
same-over cs f guards more [] w = refl
same-over cs f guards more (x ∷ row) w =
    ap₂ (λ (d : Drop) (ds : List Drop). d ∷ ds) (ap (λ (T : Option (List Value)). record { value = fall_value cs f x; kept = kept_in T }) (from-front cs f 0 guards more x.guard (w 0 x refl)))
    (same-over cs f guards more row (λ i g e. w (suc i) g e))

pub more-guards : (old new : Drops) (T : List Literal) → AreSound old → new.guards ≡ old.guards ++ T ∷ [] →
    new.row ≡ old.row → new.last ≡ old.last → new.merges ≡ old.merges → new.said ≡ old.said →
    IsMore old new [] × (slice_get new.guards (length old.guards) ≡ Some T) × (length old.guards < length new.guards)
more-guards old new T h g r l m s = (
  record {
    drops =
        ap (λ row. map (drop_of (fall_value (merge_circuits new.merges.items) (said_in new.said)) (guards_in new)) row.items) r ∙
        ap (λ gs. map (drop_of (fall_value (merge_circuits new.merges.items) (said_in new.said)) (guards_from (merge_circuits new.merges.items) (said_in new.said) 0 gs)) old.row.items) g ∙
        same-over (merge_circuits new.merges.items) (said_in new.said) old.guards (T ∷ []) old.row.items h.within ∙
        ap (λ ms. map (drop_of (fall_value (merge_circuits ms.items) (said_in new.said)) (guards_from (merge_circuits ms.items) (said_in new.said) 0 old.guards)) old.row.items) m ∙
        ap (λ q. map (drop_of (fall_value (merge_circuits old.merges.items) (said_in q)) (guards_from (merge_circuits old.merges.items) (said_in q) 0 old.guards)) old.row.items) s ∙
        sym (append-nil (drops_in old));
    merges = m;
    said = s;
    sound = record {
      chained = subst (λ row. AreChained row.items new.last.items) (sym r) (subst (λ last. AreChained old.row.items last.items) (sym l) h.chained);
      within = λ i f e. let z : f.guard < length old.guards = h.within i f (subst (λ row. slice_get row.items i ≡ Some f) r e) in
          let n : length new.guards ≡ length old.guards + 1 = ap length g ∙ length_push old.guards T in omega arith;
      merges = subst (λ ms. AreMerges ms.items) (sym m) h.merges;
      said = λ y x i q. subst (λ ms. i < length ms.items) (sym m) (h.said y x i (ap (λ z. said_in z y x) (sym s) ∙ q));
      fresh = λ y x u. ap (λ z. said_in z y x) s ∙ h.fresh y x (let n : length new.guards ≡ length old.guards + 1 = ap length g ∙ length_push old.guards T in omega arith);
    };
  },
  ap (λ gs. slice_get gs (length old.guards)) g ∙ at-end old.guards,
  let n : length new.guards ≡ length old.guards + 1 = ap length g ∙ length_push old.guards T in omega arith,
)
  where
    at-end : (gs : List (List Literal)) → slice_get (gs ++ T ∷ []) (length gs) ≡ Some T
    at-end [] = refl
    at-end (x ∷ gs) = at-end gs

-- one merge more
said-kept : (cs : List Circuit) (t : Circuit) (f : ℕ → Option ℕ) (k : Literal) → ((i : ℕ) → f k.var ≡ Some i → i < length cs) →
    value_at (cs ++ t ∷ []) f k ≡ value_at cs f k
said-kept cs t f k h = go (f k.var) refl
  where
    go : (o : Option ℕ) → f k.var ≡ o → value_by (cs ++ t ∷ []) o k ≡ value_by cs o k
    go None e = refl
    go (Some i) e = ap (λ (o : Option Circuit). record { var = k.var; circuit = circuit_in o }) (slice-before cs (t ∷ []) i (h i e))

pub merge-more : (old new : Drops) (m : Merge) → AreSound old → IsSaidBelow (length old.merges.items) m.first → IsSaidBelow (length old.merges.items) m.second →
    new.merges.items ≡ old.merges.items ++ m ∷ [] → new.guards ≡ old.guards → new.row ≡ old.row → new.last ≡ old.last → new.said ≡ old.said →
    (i : ℕ) → i ≡ length old.merges.items → IsMergeMore old new m i
merge-more old new m h a b e g r l s i p = record {
  place = p;
  merges = e;
  guards = g;
  said = s;
  drops = drops-same old new h.within g r same;
  sound = record {
    chained = subst (λ row. AreChained row.items new.last.items) (sym r) (subst (λ last. AreChained old.row.items last.items) (sym l) h.chained);
    within = subst (λ row. AreWithin new.guards row.items) (sym r) (subst (λ gs. AreWithin gs old.row.items) (sym g) h.within);
    merges = subst AreMerges (sym e) all;
    said = λ y x j q.
        let z : j < length old.merges.items = h.said y x j (ap (λ w. said_in w y x) (sym s) ∙ q) in
        let n : length new.merges.items ≡ length old.merges.items + 1 = ap length e ∙ length_push old.merges.items m in omega arith;
    fresh = λ y x u. ap (λ w. said_in w y x) s ∙ h.fresh y x (subst (λ gs. length gs < y) g u);
  };
}
  where
    cs : List Circuit
    cs = merge_circuits old.merges.items

    more : merge_circuits new.merges.items ≡ cs ++ merge_circuit cs m ∷ []
    more = ap merge_circuits e ∙ after-last [] old.merges.items m

    same : AreSame cs (merge_circuits new.merges.items) (said_in old.said) (said_in new.said) (length old.guards)
    same j lt k =
        ap (λ (xs : List Circuit). value_at xs ((said_in new.said) j) k) more ∙
        ap (λ w. value_at (cs ++ merge_circuit cs m ∷ []) (said_in w j) k) s ∙
        said-kept cs (merge_circuit cs m) ((said_in old.said) j) k (λ n q. let z = h.said j k.var n q in let y = circuits-length old.merges.items in omega arith)

    all : AreMerges (old.merges.items ++ m ∷ [])
    all j x q = elim (slice-last-of old.merges.items m j x q) [
      | inl w ↦ h.merges j x w
      | inr w ↦
          subst (λ (y : Merge). IsSaidBelow j y.first × IsSaidBelow j y.second) w.1
          (subst (λ n. IsSaidBelow n m.first × IsSaidBelow n m.second) (sym w.0) (a, b))
    ]

-- what is said of one variable more
pub saying-more : (old new : Drops) (var i : ℕ) → AreSound old → i < length old.merges.items → new.merges ≡ old.merges → new.guards ≡ old.guards →
    new.row ≡ old.row → new.last ≡ old.last →
    ((g x : ℕ) → (said_in new.said) g x ≡ cond (eqb g (length old.guards) && eqb x var) (Some i) ((said_in old.said) g x)) → IsSayingMore old new var i
saying-more old new var i h lt m g r l s = record {
  merges = m;
  guards = g;
  said = s;
  drops = drops-same old new h.within g r same;
  sound = record {
    chained = subst (λ row. AreChained row.items new.last.items) (sym r) (subst (λ last. AreChained old.row.items last.items) (sym l) h.chained);
    within = subst (λ row. AreWithin new.guards row.items) (sym r) (subst (λ gs. AreWithin gs old.row.items) (sym g) h.within);
    merges = subst (λ ms. AreMerges ms.items) (sym m) h.merges;
    said = λ y x j q. subst (λ ms. j < length ms.items) (sym m) (below y x j (eqb y (length old.guards) && eqb x var) (sym (s y x) ∙ q));
    fresh = λ y x u. later y x (subst (λ gs. length gs < y) g u);
  };
}
  where
    below : (y x j : ℕ) (b : Bool) → cond b (Some i) ((said_in old.said) y x) ≡ Some j → j < length old.merges.items
    below y x j true q = let z : i ≡ j = cc in subst (λ n. n < length old.merges.items) z lt
    below y x j false q = h.said y x j q

    other : (y x : ℕ) → eqb y (length old.guards) ≡ false → (said_in new.said) y x ≡ (said_in old.said) y x
    other y x q = s y x ∙ ap (λ (b : Bool). cond (b && eqb x var) (Some i) ((said_in old.said) y x)) q

    later : (y x : ℕ) → length old.guards < y → (said_in new.said) y x ≡ None
    later y x u = other y x (let z : eqb y (length old.guards) ≡ false = grind arith in z) ∙ h.fresh y x u

    same : AreSame (merge_circuits old.merges.items) (merge_circuits new.merges.items) (said_in old.said) (said_in new.said) (length old.guards)
    same j lt k =
        ap (λ ms. value_at (merge_circuits ms.items) ((said_in new.said) j) k) m ∙
        ap (λ (o : Option ℕ). value_by (merge_circuits old.merges.items) o k) (other j k.var (let z : eqb j (length old.guards) ≡ false = grind arith in z))

pub more-then : (a b c : Drops) (ds es fs : List Drop) → ds ++ es ≡ fs → IsMore a b ds → IsMore b c es → IsMore a c fs
more-then a b c ds es fs e f g = record {
  drops = g.drops ∙ ap (λ xs. xs ++ es) f.drops ∙ append_assoc (drops_in a) ds es ∙ ap (λ xs. drops_in a ++ xs) e;
  merges = g.merges ∙ f.merges;
  said = g.said ∙ f.said;
  sound = g.sound;
}

pub drops_of-last : (S : List Value) (v : Value) (T : List Value) →
    drops_of S T ++ record { value = v; kept = T } ∷ [] ≡ drops_of (S ++ v ∷ []) T
drops_of-last [] v T = refl
drops_of-last (w ∷ S) v T = ap (λ (ds : List Drop). record { value = w; kept = T } ∷ ds) (drops_of-last S v T)

pub chained-none : (row : List Fall) (last : List (Option ℕ)) → row ≡ [] → last ≡ [] → AreChained row last
chained-none row last e f = subst (λ r. AreChained r last) (sym e) (subst (AreChained []) (sym f) (record {
  heads = λ x. subst (IsLast [] x 0) (sym (nothing x)) (λ i lt. absurd (omega arith));
  links = λ i f h. absurd (cc);
}))
  where
    nothing : (x : ℕ) → look_at [] x ≡ None
    nothing zero = refl
    nothing (suc x) = refl

no-fall : (row : List Fall) → row ≡ [] → (i : ℕ) → (f : Fall) → slice_get row i ≡ Some f → ⊥
no-fall [] e zero f h = cc
no-fall [] e (suc i) f h = cc
no-fall (x ∷ row) e i f h = cc

pub none-sound : (d : Drops) → d.row.items ≡ [] → d.last.items ≡ [] → d.merges.items ≡ [] → ((g x : ℕ) → (said_in d.said) g x ≡ None) →
    AreSound d × (drops_in d ≡ [])
none-sound d e f m s = (
  record {
    chained = chained-none d.row.items d.last.items e f;
    within = λ i g h. absurd (no-fall d.row.items e i g h);
    merges = subst AreMerges (sym m) (λ i x h. absurd (cc));
    said = λ g x i h. absurd (let z = s g x in cc);
    fresh = λ g x l. s g x;
  },
  ap (map (drop_of (fall_value (merge_circuits d.merges.items) (said_in d.said)) (guards_in d))) e,
)

-- values of the next line, while it is put
pub at-next : (old now : Drops) (i : ℕ) → i ≡ length old.guards → now.merges ≡ old.merges → now.said ≡ old.said → (k : Literal) →
    value_at (merge_circuits now.merges.items) ((said_in now.said) i) k ≡ value_at (merge_circuits old.merges.items) ((said_in old.said) (length old.guards)) k
at-next old now i e m s k =
    ap (λ ms. value_at (merge_circuits ms.items) ((said_in now.said) i) k) m ∙
    ap (λ w. value_at (merge_circuits old.merges.items) (said_in w i) k) s ∙
    ap (λ n. value_at (merge_circuits old.merges.items) ((said_in old.said) n) k) e
