-- Circuits over the drops of a variable, from the last to the first.
use Rattle.std.proofs.Common.{◌≡◌, ℕ, zero, suc, ◌+◌, ◌<◌, ◌≤◌, Bool, true, false, cond, eqb, List, [], ◌∷◌, ◌++◌, inl, inr, length, map, drop, take, get_or, slice_get, arith, refl, sym, ap, ap₂, ◌∙◌, subst, Option, Some, None}
use Rattle.std.proofs.lemmas.List.{length-map, drop_all}
use Rattle.std.proofs.lemmas.Option.{slice_get_within}
use Rattle.q_logic.specs.Prelude.{IsIn, value_of, conjunction, Strategy, circuit_of, falsum}
use Rattle.q_logic.proofs.Common.{IsIn-append_left}
use Rattle.q_aig.specs.Prelude.{Net, IsLiteral, tree_at, operand_of, Keeps, Serves, IsConjunction}
use Rattle.q_aig.proofs.Substitutes.{serves-self, serves-same, serves-then, serves-conjunction}
use Rattle.q_certificate.specs.Prelude.{look_at, AreLiterals, IsAt, IsGrown}
use Rattle.q_certificate.specs.Tabled.{is_there}
use Rattle.q_certificate.proofs.Folds.{and-start, and-assoc, IsIn-last}
use Rattle.q_certificate.proofs.LiteralRows.{literals-kept, at-kept, literals-put}
use Rattle.q_certificate.proofs.CircuitParts.{grown-none, grown-then, grown-by, true-serves, false-serves, constant-there}
use Rattle.q_long.specs.Valued.{Value}
use Rattle.q_long.specs.Decided.{Drop, alike, every_circuit, either, decided}
use Rattle.q_extract.specs.declared.drops.Fall.{Fall}
use Rattle.q_extract.specs.Merges.{extra, weight, weights}
use Rattle.q_extract.specs.Rows.{IsHere, IsLast, drop_of, kept_in}
use Rattle.q_extract.specs.Built.{AreGiven, IsAlike, IsEvery, AreHeld, HeldServe, unmade, IsShared, whole_weight, IsGuard, IsGiving, IsMade, cost_of, whole, beside, AllCovered, IsDecided}
use Rattle.q_extract.proofs.Merged.{serves-either}

pub get-is : {X : Type 0} (xs : List X) (i : ℕ) (x : X) → i < length xs → x ≡ get_or xs i x → slice_get xs i ≡ Some x
get-is [] i x h e = absurd (omega arith)
get-is (y ∷ xs) zero x h e = ap Some (sym e)
get-is (y ∷ xs) (suc i) x h e = get-is xs i x (omega arith) e

pub any-default : {X : Type 0} (xs : List X) (i : ℕ) (d e : X) → i < length xs → get_or xs i d ≡ get_or xs i e
any-default [] i d e h = absurd (omega arith)
any-default (x ∷ xs) zero d e h = refl
any-default (x ∷ xs) (suc i) d e h = any-default xs i d e (omega arith)

-- values
every-last : (c : Strategy) (T : List Value) (v : Value) →
    Serves (conjunction (every_circuit c T) (alike (circuit_of c v.var) v.circuit)) (every_circuit c (T ++ v ∷ []))
every-last c [] v = record {
  values = λ A. and-start (value_of (alike (circuit_of c v.var) v.circuit) A);
  reads = λ u h. elim h [ inl a ↦ absurd a | inr b ↦ inl b ];
}
every-last c (w ∷ T) v =
    let turn : Serves (conjunction (conjunction (alike (circuit_of c w.var) w.circuit) (every_circuit c T)) (alike (circuit_of c v.var) v.circuit)) (conjunction (alike (circuit_of c w.var) w.circuit) (conjunction (every_circuit c T) (alike (circuit_of c v.var) v.circuit))) = record {
      values = λ A. and-assoc (value_of (alike (circuit_of c w.var) w.circuit) A) (value_of (every_circuit c T) A) (value_of (alike (circuit_of c v.var) v.circuit) A);
      reads = λ u h. elim h [ inl a ↦ elim a [ inl d ↦ inl d | inr e ↦ inr (inl e) ] | inr b ↦ inr (inr b) ];
    } in
    serves-then _ _ _ turn (serves-conjunction _ _ _ _ (serves-self (alike (circuit_of c w.var) w.circuit)) (every-last c T v))

weights-last : (T : List Value) (v : Value) → weights (T ++ v ∷ []) ≡ weights T + weight v
weights-last [] v = omega arith
weights-last (w ∷ T) v = let i = weights-last T v in omega arith

pub every-none : (a : Net) (ins tb : List (Option ℕ)) (l : ℕ) → (operand_of l).node ≡ falsum → (operand_of l).negated ≡ true →
    IsEvery a a ins tb [] l
every-none a ins tb l e f = record {
  grown = grown-none a;
  there = constant-there a l e;
  serves = λ U c h v. true-serves a l e f;
}

pub every-more : (old now mid new : Net) (ins tb : List (Option ℕ)) (T : List Value) (v : Value) (l m r : ℕ) →
    AreLiterals old ins → AreLiterals old tb → IsEvery old now ins tb T l → IsAlike now mid ins tb v m →
    IsConjunction mid new l m r → IsEvery old new ins tb (T ++ v ∷ []) r
every-more old now mid new ins tb T v l m r li lt s e d = record {
  grown =
      let w = weights-last T v in
      grown-then old mid new (weights T + extra v.circuit) 1 (weights (T ++ v ∷ []))
      (grown-then old now mid (weights T) (extra v.circuit) (weights T + extra v.circuit) s.grown e.grown (omega arith))
      (grown-by mid new l m r d) (omega arith);
  there = d.there;
  serves = λ U c h g.
      let x = at-kept old now ins tb U c s.grown.kept li lt h in
      let a = s.serves U c h (λ w i. g w (IsIn-append_left w T (v ∷ []) i)) in
      let a2 : Serves (tree_at mid l) (every_circuit c T) = serves-then _ _ _ (serves-same _ _ (e.grown.kept l s.there).1) a in
      let b = e.serves U c x (g v (IsIn-last v T)) in
      serves-then _ _ _ d.serves (serves-then _ _ _ (serves-conjunction _ _ _ _ a2 b) (every-last c T v));
}

-- guards
pub there-is : (o : Option ℕ) (l : ℕ) → o ≡ Some l → is_there o ≡ true
there-is o l e = ap is_there e

unmade-same : (guards : List (List Value)) (f g : ℕ → Option ℕ) → ((x : ℕ) → g x ≡ f x) → unmade guards g ≡ unmade guards f
unmade-same [] f g h = refl
unmade-same (T ∷ guards) f g h =
    ap₂ (λ (o : Option ℕ) (n : ℕ). cond (is_there o) 0 (weights T) + n) (h 0) (unmade-same guards (λ x. f (x + 1)) (λ x. g (x + 1)) (λ x. h (x + 1)))

add-one : (n : ℕ) → n + 1 ≡ suc n
add-one n = omega arith

first-not : (x : ℕ) → eqb (x + 1) 0 ≡ false
first-not x = grind arith

next-same : (x n : ℕ) → eqb (x + 1) (suc n) ≡ eqb x n
next-same x n = grind arith

unmade-less : (guards : List (List Value)) (f g : ℕ → Option ℕ) (n l : ℕ) (T : List Value) → slice_get guards n ≡ Some T → f n ≡ None →
    ((x : ℕ) → g x ≡ cond (eqb x n) (Some l) (f x)) → unmade guards g + weights T ≡ unmade guards f
unmade-less [] f g n l T e z h = absurd (cc)
unmade-less (S ∷ guards) f g zero l T e z h =
    let a : is_there (g 0) ≡ true = ap is_there (h 0) in
    let b : is_there (f 0) ≡ false = ap is_there z in
    let s : S ≡ T = cc in
    let m : weights S ≡ weights T = ap weights s in
    let r : unmade guards (λ x. g (x + 1)) ≡ unmade guards (λ x. f (x + 1)) = unmade-same guards (λ x. f (x + 1)) (λ x. g (x + 1)) (λ x. h (x + 1) ∙ ap (λ (t : Bool). cond t (Some l) (f (x + 1))) (first-not x)) in
    rw (a, b, r) (omega arith)
unmade-less (S ∷ guards) f g (suc n) l T e z h =
    let a : g 0 ≡ f 0 = h 0 ∙ ap (λ (t : Bool). cond t (Some l) (f 0)) (let q : eqb 0 (suc n) ≡ false = grind arith in q) in
    let r : unmade guards (λ x. g (x + 1)) + weights T ≡ unmade guards (λ x. f (x + 1)) = unmade-less guards (λ x. f (x + 1)) (λ x. g (x + 1)) n l T e (ap f (add-one n) ∙ z) (λ x. h (x + 1) ∙ ap (λ (t : Bool). cond t (Some l) (f (x + 1))) (next-same x n)) in
    rw a (omega arith)

pub unmade-none : (guards : List (List Value)) (f : ℕ → Option ℕ) → ((x : ℕ) → f x ≡ None) → unmade guards f ≡ whole_weight guards
unmade-none [] f h = refl
unmade-none (T ∷ guards) f h =
    let a : is_there (f 0) ≡ false = ap is_there (h 0) in
    let r = unmade-none guards (λ x. f (x + 1)) (λ x. h (x + 1)) in
    rw (a, r) refl

pub held-serve-kept : (a b : Net) (guards : List (List Value)) (held : List (Option ℕ)) (U : ℕ → Bool) (c : Strategy) → Keeps a b →
    AreLiterals a held → HeldServe a guards held U c → HeldServe b guards held U c
held-serve-kept a b guards held U c k lits h g l e =
    let r = h g l e in (r.0, serves-then _ _ _ (serves-same _ _ (k l (lits g l e)).1) r.1)

pub guard-held : (a : Net) (ins tb : List (Option ℕ)) (guards : List (List Value)) (held : List (Option ℕ)) (g l : ℕ) →
    AreHeld a guards held → look_at held g ≡ Some l → IsGuard a a ins tb guards held held (kept_in (slice_get guards g)) l
guard-held a ins tb guards held g l h e = record {
  grown = grown-then a a a 0 0 (weights (kept_in (slice_get guards g))) (grown-none a) (grown-none a) (omega arith);
  shared = omega arith;
  there = h.literals g l e;
  sound = h;
  serves = λ U c at v w. (v, (v g l e).1);
}

pub guard-made : (old new : Net) (ins tb : List (Option ℕ)) (guards : List (List Value)) (held held2 : List (Option ℕ)) (g l : ℕ) (T : List Value) →
    AreHeld old guards held → look_at held g ≡ None → slice_get guards g ≡ Some T → IsEvery old new ins tb T l → length held2 ≡ length held →
    ((x : ℕ) → look_at held2 x ≡ cond (eqb x g) (Some l) (look_at held x)) →
    IsGuard old new ins tb guards held held2 (kept_in (slice_get guards g)) l
guard-made old new ins tb guards held held2 g l T h none at e size put =
    subst (λ (S : List Value). IsGuard old new ins tb guards held held2 S l) (sym own) (record {
      grown = e.grown;
      shared =
          let u : unmade guards (look_at held2) + weights T ≡ unmade guards (look_at held) = unmade-less guards (look_at held) (look_at held2) g l T at none put in
          let n : length new.gates ≤ length old.gates + weights T = e.grown.gates in
          omega arith;
      there = e.there;
      sound = record {
        size = size ∙ h.size;
        literals = literals-put new held held2 g (Some l) put (λ m q. let s : l ≡ m = cc in subst (IsLiteral new) s e.there) (literals-kept old new held e.grown.kept h.literals);
      };
      serves = λ U c a v w. (all U c a v w, e.serves U c a w);
    })
  where
    own : kept_in (slice_get guards g) ≡ T
    own = ap kept_in at

    all : (U : ℕ → Bool) (c : Strategy) → IsAt old ins tb U c → HeldServe old guards held U c → AreGiven U c T → HeldServe new guards held2 U c
    all U c a v w x m q = go (eqb x g) refl (sym (put x) ∙ q)
      where
        go : (b : Bool) → eqb x g ≡ b → cond b (Some l) (look_at held x) ≡ Some m →
            AreGiven U c (kept_in (slice_get guards x)) × Serves (tree_at new m) (every_circuit c (kept_in (slice_get guards x)))
        go true s f =
            let i : x ≡ g = grind arith in
            let k : l ≡ m = cc in
            let o : kept_in (slice_get guards x) ≡ T = ap (λ n. kept_in (slice_get guards n)) i ∙ own in
            subst (λ (S : List Value). AreGiven U c S × Serves (tree_at new m) (every_circuit c S)) (sym o)
            (w, subst (λ n. Serves (tree_at new n) (every_circuit c T)) k (e.serves U c a w))
        go false s f = held-serve-kept old new guards held U c e.grown.kept h.literals v x m f

-- one drop
pub made-is : (old mid new : Net) (ins tb : List (Option ℕ)) (guards : List (List Value)) (held held2 : List (Option ℕ)) (v : Value) (T : List Value) (a h r : ℕ) → IsLiteral old a →
    IsGuard old mid ins tb guards held held2 T h → IsGiving mid new v h a r → IsMade old new ins tb guards held held2 v T a r
made-is old mid new ins tb guards held held2 v T a h r la e d = record {
  grown = grown-then old mid new (weights T) (weight v) (weights T + weight v) e.grown d.grown (omega arith);
  shared =
      let x : IsShared old mid guards held held2 0 = e.shared in
      let y : length new.gates ≤ length mid.gates + weight v = d.grown.gates in
      omega arith;
  there = d.there;
  sound = record {
    size = e.sound.size;
    literals = literals-kept mid new held2 d.grown.kept e.sound.literals;
  };
  serves = λ U c t g w u s.
      let x : Serves (tree_at mid a) t = serves-then _ _ _ (serves-same _ _ (e.grown.kept a la).1) s in
      let y = e.serves U c g w u in (
        held-serve-kept mid new guards held2 U c d.grown.kept e.sound.literals y.0,
        serves-then _ _ _ d.serves (serves-either _ _ _ _ _ _ y.1 (serves-self v.circuit) x),
      );
}

-- drops of other variables
module _ {Y : Type 0} (F : List Drop → Y) (e : ℕ) (skip : (d : Drop) (ds : List Drop) → eqb d.value.var e ≡ false → F (d ∷ ds) ≡ F ds) (v : Fall → Value) (same : (f : Fall) → (v f).var ≡ f.lit.var) (guards : List (List Value)) where
  apart : (f : Fall) (row : List Fall) → (IsHere (f ∷ row) e 0 → ⊥) → eqb (v f).var e ≡ false
  apart f row h = go (eqb (v f).var e) refl
    where
      go : (b : Bool) → eqb (v f).var e ≡ b → eqb (v f).var e ≡ false
      go true p = absurd (h (f, refl, let z : (v f).var ≡ e = grind arith in sym (same f) ∙ z))
      go false p = p

  pub skip-front : (row : List Fall) (n : ℕ) → ((i : ℕ) → i < n → IsHere row e i → ⊥) →
      F (map (drop_of v guards) row) ≡ F (drop n (map (drop_of v guards) row))
  skip-front [] n h = ap F (sym (drop_all n [] (omega arith)))
  skip-front (f ∷ row) zero h = refl
  skip-front (f ∷ row) (suc n) h =
      skip (drop_of v guards f) (map (drop_of v guards) row) (apart f row (h 0 (omega arith))) ∙
      skip-front row n (λ i lt. h (suc i) (omega arith))

  pub skip-between : (row : List Fall) (j n : ℕ) → j ≤ n → ((i : ℕ) → j ≤ i → i < n → IsHere row e i → ⊥) →
      F (drop j (map (drop_of v guards) row)) ≡ F (drop n (map (drop_of v guards) row))
  skip-between [] j n le h = ap F (drop_all j [] (omega arith) ∙ sym (drop_all n [] (omega arith)))
  skip-between (f ∷ row) zero n le h = skip-front (f ∷ row) n (λ i lt. h i (omega arith) lt)
  skip-between (f ∷ row) (suc j) zero le h = absurd (omega arith)
  skip-between (f ∷ row) (suc j) (suc n) le h =
      skip-between row j n (omega arith) (λ i a b. h (suc i) (omega arith) (omega arith))

drop-none : {X : Type 0} (xs : List X) → drop 0 xs ≡ xs
drop-none [] = refl
drop-none (x ∷ xs) = refl

drop-here : (v : Fall → Value) (guards : List (List Value)) (row : List Fall) (j : ℕ) (f : Fall) → slice_get row j ≡ Some f →
    drop j (map (drop_of v guards) row) ≡ drop_of v guards f ∷ drop (suc j) (map (drop_of v guards) row)
drop-here v guards [] j f e = absurd (cc)
drop-here v guards (x ∷ row) zero f e =
    let s : x ≡ f = cc in
    ap (λ (y : Fall). drop_of v guards y ∷ map (drop_of v guards) row) s ∙
    ap (λ (ds : List Drop). drop_of v guards f ∷ ds) (sym (drop-none (map (drop_of v guards) row)))
drop-here v guards (x ∷ row) (suc j) f e = drop-here v guards row j f e

drop-in : (v : Fall → Value) (guards : List (List Value)) (row : List Fall) (j : ℕ) (f : Fall) → slice_get row j ≡ Some f →
    IsIn (drop_of v guards f) (map (drop_of v guards) row)
drop-in v guards [] j f e = absurd (cc)
drop-in v guards (x ∷ row) zero f e = let s : x ≡ f = cc in inl (ap (drop_of v guards) (sym s))
drop-in v guards (x ∷ row) (suc j) f e = inr (drop-in v guards row j f e)

-- the circuit over the drops from a place on
pub record IsPart (old new : Net) (ins tb : List (Option ℕ)) (guards : List (List Value)) (held held2 : List (Option ℕ)) (e : ℕ) (ds : List Drop) (n l : ℕ) : Type 0 where
  pub grown : IsGrown old new (cost_of whole e (drop n ds))
  pub shared : IsShared old new guards held held2 (cost_of beside e (drop n ds))
  pub there : IsLiteral new l
  pub sound : AreHeld new guards held2
  pub serves : (U : ℕ → Bool) → (c : Strategy) → IsAt old ins tb U c → HeldServe old guards held U c → AllCovered U c e ds →
      HeldServe new guards held2 U c × Serves (tree_at new l) (decided (drop n ds) c e)

pub part-start : (a : Net) (ins tb : List (Option ℕ)) (held : List (Option ℕ)) (e : ℕ) (v : Fall → Value) (guards : List (List Value)) (row : List Fall) (n l : ℕ) → n ≡ length row →
    AreHeld a guards held → (operand_of l).node ≡ falsum → (operand_of l).negated ≡ false → IsPart a a ins tb guards held held e (map (drop_of v guards) row) n l
part-start a ins tb held e v guards row n l m h f g =
    let len : length (map (drop_of v guards) row) ≡ length row = length-map row (drop_of v guards) in
    let z : drop n (map (drop_of v guards) row) ≡ [] = drop_all n (map (drop_of v guards) row) (omega arith) in
    record {
      grown = rw z (grown-none a);
      shared = rw z (omega arith);
      there = constant-there a l f;
      sound = h;
      serves = λ U c at x w. (x, rw z (false-serves a l f g));
    }

skip-decided : (c : Strategy) (e : ℕ) (d : Drop) (ds : List Drop) → eqb d.value.var e ≡ false → decided (d ∷ ds) c e ≡ decided ds c e
skip-decided c e d ds h = rw h refl

skip-cost : (w : Drop → ℕ) (e : ℕ) (d : Drop) (ds : List Drop) → eqb d.value.var e ≡ false → cost_of w e (d ∷ ds) ≡ cost_of w e ds
skip-cost w e d ds h = rw h refl

pub part-more : (old now new : Net) (ins tb : List (Option ℕ)) (held held2 held3 : List (Option ℕ)) (e : ℕ) (v : Fall → Value) (guards : List (List Value)) (row : List Fall) (n j a r : ℕ) (f : Fall) →
    ((g : Fall) → (v g).var ≡ g.lit.var) → AreLiterals old ins → AreLiterals old tb → IsPart old now ins tb guards held held2 e (map (drop_of v guards) row) n a → IsLast row e n (Some j) →
    slice_get row j ≡ Some f → IsMade now new ins tb guards held2 held3 (v f) (kept_in (slice_get guards f.guard)) a r →
    IsPart old new ins tb guards held held3 e (map (drop_of v guards) row) j r
part-more old now new ins tb held held2 held3 e v guards row n j a r f same li lt p (below, (g, q, u), none) at m = record {
  grown = grown-then old now new (cost_of whole e (drop n ds)) (weights d.kept + weight d.value) (cost_of whole e (drop j ds)) p.grown m.grown (let z = heavy whole in omega arith);
  shared =
      let z : cost_of beside e (drop j ds) ≡ weight d.value + cost_of beside e (drop n ds) = heavy beside in
      let x : IsShared old now guards held held2 (cost_of beside e (drop n ds)) = p.shared in
      let y : IsShared now new guards held2 held3 (weight d.value) = m.shared in
      omega arith;
  there = m.there;
  sound = m.sound;
  serves = λ U c h w x.
      let y = at-kept old now ins tb U c p.grown.kept li lt h in
      let z = p.serves U c h w x in
      let o = m.serves U c (decided (drop n ds) c e) y z.0 (x d (drop-in v guards row j f at) own) z.1 in
      (o.0, subst (Serves (tree_at new r)) (sym (circuit c)) o.1);
}
  where
    ds : List Drop
    ds = map (drop_of v guards) row

    d : Drop
    d = drop_of v guards f

    own : eqb (v f).var e ≡ true
    own = let s : g ≡ f = cc in let z : f.lit.var ≡ e = subst (λ (y : Fall). y.lit.var ≡ e) s u in let y : (v f).var ≡ e = same f ∙ z in grind arith

    circuit : (c : Strategy) → decided (drop j ds) c e ≡ either (every_circuit c d.kept) d.value.circuit (decided (drop n ds) c e)
    circuit c =
        ap (λ (xs : List Drop). decided xs c e) (drop-here v guards row j f at) ∙
        ap (λ (b : Bool). cond b (either (every_circuit c d.kept) d.value.circuit (decided (drop (suc j) ds) c e)) (decided (drop (suc j) ds) c e)) own ∙
        ap (either (every_circuit c d.kept) d.value.circuit) (skip-between (λ (xs : List Drop). decided xs c e) e (skip-decided c e) v same guards row (suc j) n (omega arith) (λ i x y. none i (omega arith) y))

    heavy : (w : Drop → ℕ) → cost_of w e (drop j ds) ≡ w d + cost_of w e (drop n ds)
    heavy w =
        ap (cost_of w e) (drop-here v guards row j f at) ∙
        ap (λ (b : Bool). cond b (w d + cost_of w e (drop (suc j) ds)) (cost_of w e (drop (suc j) ds))) own ∙
        ap (λ k. w d + k) (skip-between (cost_of w e) e (skip-cost w e) v same guards row (suc j) n (omega arith) (λ i x y. none i (omega arith) y))

pub part-end : (old new : Net) (ins tb : List (Option ℕ)) (held held2 : List (Option ℕ)) (e : ℕ) (v : Fall → Value) (guards : List (List Value)) (row : List Fall) (ds : List Drop) (n l : ℕ) →
    ((g : Fall) → (v g).var ≡ g.lit.var) → map (drop_of v guards) row ≡ ds → IsPart old new ins tb guards held held2 e (map (drop_of v guards) row) n l → IsLast row e n None →
    IsDecided old new ins tb guards held held2 e ds l
part-end old new ins tb held held2 e v guards row ds n l same q p none = subst (λ (xs : List Drop). IsDecided old new ins tb guards held held2 e xs l) q (record {
  grown = subst (IsGrown old new) (sym (skip-front (cost_of whole e) e (skip-cost whole e) v same guards row n none)) p.grown;
  shared = subst (IsShared old new guards held held2) (sym (skip-front (cost_of beside e) e (skip-cost beside e) v same guards row n none)) p.shared;
  there = p.there;
  sound = p.sound;
  serves = λ U c h u w. let y = p.serves U c h u w in
      (y.0, subst (Serves (tree_at new l)) (sym (skip-front (λ (xs : List Drop). decided xs c e) e (skip-decided c e) v same guards row n none)) y.1);
})

pub last-below : (row : List Fall) (e n : ℕ) (at : Option ℕ) (j : ℕ) → IsLast row e n at → at ≡ Some j → j < length row
last-below row e n at j l q = let h : IsLast row e n (Some j) = subst (IsLast row e n) q l in slice_get_within row j h.1.0 h.1.1

pub last-var : (row : List Fall) (e n : ℕ) (at : Option ℕ) (j : ℕ) (f : Fall) → IsLast row e n at → at ≡ Some j → slice_get row j ≡ Some f →
    f.lit.var ≡ e
last-var row e n at j f l q p =
    let h : IsLast row e n (Some j) = subst (IsLast row e n) q l in
    let s : h.1.0 ≡ f = let z : Some h.1.0 ≡ Some f = sym h.1.1 ∙ p in cc in
    subst (λ (y : Fall). y.lit.var ≡ e) s h.1.2

pub ended : (at : Option ℕ) → ((j : ℕ) → at ≡ Some j → ⊥) → at ≡ None
ended None h = refl
ended (Some j) h = absurd (h j refl)

pub take-none : {X : Type 0} (xs : List X) → take 0 xs ≡ []
take-none [] = refl
take-none (x ∷ xs) = refl

pub some-kept : (xs : List (List Value)) (i : ℕ) → i < length xs → slice_get xs i ≡ Some (kept_in (slice_get xs i))
some-kept [] i h = absurd (omega arith)
some-kept (x ∷ xs) zero h = refl
some-kept (x ∷ xs) (suc i) h = some-kept xs i (omega arith)
