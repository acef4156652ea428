-- The circuits of a prefix, one variable further.
use Rattle.std.proofs.Common.{◌≡◌, ℕ, zero, suc, ◌+◌, ◌<◌, ◌≤◌, Bool, true, false, cond, ◌||◌, eqb, List, [], ◌∷◌, ◌++◌, inl, inr, length, map, take, drop, get_or, slice_get, arith, refl, sym, ap, ap₂, ◌∙◌, subst, Option, Some, None}
use Rattle.std.proofs.lemmas.List.{take_all}
use Rattle.q_logic.specs.declared.formulas.Bound.{Bound}
use Rattle.q_logic.specs.Prelude.{IsIn, Circuit, conjunction, circuit_of, or_input, given, Prefix, is_exists, is_existential, is_universal, is_bound, Distinct, Strategy, with_circuit, CertificateView, NamedOutput}
use Rattle.q_logic.specs.Prefixes.{place}
use Rattle.q_logic.proofs.PrefixOrder.{existential-is_bound, is_bound-universal, universal-not_existential}
use Rattle.q_aig.specs.Prelude.{Net, IsLiteral, tree_at, Serves}
use Rattle.q_certificate.specs.Prelude.{look_at, AreLiterals, IsAt, Stands, InputsAt, IsGrown, IsOpened, IsNamed, universals}
use Rattle.q_certificate.proofs.LiteralRows.{inputs-kept, literals-kept, at-kept, stands-put, literals-put}
use Rattle.q_certificate.proofs.CircuitParts.{grown-none, grown-then}
use Rattle.q_certificate.proofs.NamedCertificates.{existentials-named, made-serves, made-lawful}
use Rattle.q_derive.proofs.Layers.{place-bound}
use Rattle.q_long.specs.Valued.{Value}
use Rattle.q_long.specs.Decided.{Drop, alike, every_circuit, decided, with_next, with_all, circuits_by, AreBehind}
use Rattle.q_long.proofs.Layers.{all-given}
use Rattle.q_long.proofs.Winning.{lawful-by}
use Rattle.q_extract.specs.Merges.{no_circuits}
use Rattle.q_extract.specs.Rows.{kept_in}
use Rattle.q_extract.specs.Built.{IsNoneHeld, AreHeld, HeldServe, unmade, IsShared, IsGiven, whole_weight, cost_of, cost, whole, beside, AllCovered, IsDecided, IsNext, IsExtracted}
use Rattle.q_extract.proofs.Walked.{unmade-none}

-- one variable
pub next-forall : (a : Net) (ins tb : List (Option ℕ)) (guards : List (List Value)) (held : List (Option ℕ)) (b : Bound) (ds : List Drop) → is_exists b.quant ≡ false →
    AreLiterals a tb → AreHeld a guards held → IsNext a a ins tb tb guards held held b ds
next-forall a ins tb guards held b ds e lt h = record {
  grown = subst (λ t. IsGrown a a (cond t (cost_of whole b.var ds) 0)) (sym e) (grown-none a);
  shared = subst (λ t. IsShared a a guards held held (cond t (cost_of beside b.var ds) 0)) (sym e) (omega arith);
  literals = lt;
  sound = h;
  at = λ U c at u v. (u, subst (λ t. IsAt a ins tb U (cond t (with_circuit b.var (Some (decided ds c b.var)) c) c)) (sym e) at);
}

pub next-exists : (old new : Net) (ins tb tb2 : List (Option ℕ)) (guards : List (List Value)) (held held2 : List (Option ℕ)) (b : Bound) (ds : List Drop) (r : ℕ) → is_exists b.quant ≡ true →
    AreLiterals old ins → AreLiterals old tb → IsDecided old new ins tb guards held held2 b.var ds r →
    ((x : ℕ) → look_at tb2 x ≡ cond (eqb x b.var) (Some r) (look_at tb x)) → IsNext old new ins tb tb2 guards held held2 b ds
next-exists old new ins tb tb2 guards held held2 b ds r e li lt d put = record {
  grown = subst (λ t. IsGrown old new (cond t (cost_of whole b.var ds) 0)) (sym e) d.grown;
  shared = subst (λ t. IsShared old new guards held held2 (cond t (cost_of beside b.var ds) 0)) (sym e) d.shared;
  literals = literals-put new tb tb2 b.var (Some r) put (λ l q. let s : r ≡ l = cc in subst (IsLiteral new) s d.there)
      (literals-kept old new tb d.grown.kept lt);
  sound = d.sound;
  at = λ U c h u v. let y = d.serves U c h u (v e) in (
    y.0,
    subst (λ t. IsAt new ins tb2 U (cond t (with_circuit b.var (Some (decided ds c b.var)) c) c)) (sym e)
        (stands-put new ins tb tb2 U c (with_circuit b.var (Some (decided ds c b.var)) c) b.var (Some r) put
        (λ x q. ap (λ (t : Bool). cond t (Some (decided ds c b.var)) (c x)) q)
        (λ x q. subst (λ (t : Bool). Stands new (cond t (Some (decided ds c b.var)) (c x)) (Some r)) (sym q) y.1)
        (at-kept old new ins tb U c d.grown.kept li lt h)),
  );
}

-- the first variables
abbrev pub cost_upto : (Drop → ℕ) → Prefix → List Drop → ℕ
cost_upto w [] ds = 0
cost_upto w (b ∷ P) ds = cond (is_exists b.quant) (cost_of w b.var ds) 0 + cost_upto w P ds

cost-last : (w : Drop → ℕ) (Q : Prefix) (b : Bound) (ds : List Drop) →
    cost_upto w (Q ++ b ∷ []) ds ≡ cost_upto w Q ds + cond (is_exists b.quant) (cost_of w b.var ds) 0
cost-last w [] b ds = omega arith
cost-last w (a ∷ Q) b ds = let i = cost-last w Q b ds in omega arith

all-last : (Q : Prefix) (b : Bound) (ds : List Drop) (c : Strategy) →
    with_all (decided ds) (Q ++ b ∷ []) c ≡ with_next (decided ds) (with_all (decided ds) Q c) b
all-last [] b ds c = refl
all-last (a ∷ Q) b ds c = all-last Q b ds (with_next (decided ds) c a)

distinct-front : (Q R : Prefix) → Distinct (Q ++ R) → Distinct Q
distinct-front [] R d = tt
distinct-front (a ∷ Q) R d = (free Q d.0, distinct-front Q R d.1)
  where
    free : (Q : Prefix) → is_bound (Q ++ R) a.var ≡ false → is_bound Q a.var ≡ false
    free [] h = refl
    free (b ∷ Q) h = go (eqb b.var a.var) h (free Q)
      where
        go : (t : Bool) → cond t true (is_bound (Q ++ R) a.var) ≡ false →
            (is_bound (Q ++ R) a.var ≡ false → is_bound Q a.var ≡ false) → cond t true (is_bound Q a.var) ≡ false
        go true h ih = h
        go false h ih = ih h

front-existential : (Q : Prefix) (b : Bound) (R : Prefix) (k : ℕ) → place (Q ++ b ∷ R) k < place (Q ++ b ∷ R) b.var →
    is_existential (Q ++ b ∷ R) k ≡ true → is_existential Q k ≡ true
front-existential [] b R k h e = absurd (let z : place (b ∷ R) b.var ≡ 0 = first in omega arith)
  where
    first : place (b ∷ R) b.var ≡ 0
    first = let q : eqb b.var b.var ≡ true = grind arith in rw q refl
front-existential (a ∷ Q) b R k h e = go (eqb a.var k) (eqb a.var b.var) h e (front-existential Q b R k)
  where
    go : (t s : Bool) → cond t 0 (suc (place (Q ++ b ∷ R) k)) < cond s 0 (suc (place (Q ++ b ∷ R) b.var)) →
        cond t (is_exists a.quant) (is_existential (Q ++ b ∷ R) k) ≡ true →
        (place (Q ++ b ∷ R) k < place (Q ++ b ∷ R) b.var → is_existential (Q ++ b ∷ R) k ≡ true → is_existential Q k ≡ true) →
        cond t (is_exists a.quant) (is_existential Q k) ≡ true
    go true s h e ih = e
    go false true h e ih = absurd (omega arith)
    go false false h e ih = ih (omega arith) e

split-at : (P : Prefix) (i : ℕ) (b : Bound) → i < length P → b ≡ get_or P i b → P ≡ take i P ++ b ∷ drop (suc i) P
split-at [] i b h e = absurd (omega arith)
split-at (a ∷ P) zero b h e = ap (λ (x : Bound). x ∷ P) (sym e) ∙ ap (λ (xs : Prefix). b ∷ xs) (sym (whole P))
  where
    whole : (xs : Prefix) → drop 0 xs ≡ xs
    whole [] = refl
    whole (x ∷ xs) = refl
split-at (a ∷ P) (suc i) b h e = ap (λ (xs : Prefix). a ∷ xs) (split-at P i b (omega arith) e)

-- the graph before the first variable: inputs, and the circuits of n merges
pub record IsBase (a : Net) (ins : List (Option ℕ)) (P : Prefix) (n : ℕ) : Type 0 where
  pub inputs : a.inputs ≡ universals P
  pub gates : length a.gates ≤ n + n + n
  pub at : InputsAt a ins (is_universal P)

pub record IsBuilt (P : Prefix) (guards : List (List Value)) (ds : List Drop) (n : ℕ) (base now : Net) (ins tb : List (Option ℕ)) (none held : List (Option ℕ)) : Type 0 where
  pub grown : IsGrown base now (cost_upto whole (take n P) ds)
  pub shared : IsShared base now guards none held (cost_upto beside (take n P) ds)
  pub literals : AreLiterals now tb
  pub sound : AreHeld now guards held
  pub serve : HeldServe now guards held (is_universal P) (with_all (decided ds) (take n P) (λ x. None))
  pub at : IsAt now ins tb (is_universal P) (with_all (decided ds) (take n P) (λ x. None))

look-nothing : (x : ℕ) → look_at [] x ≡ None
look-nothing zero = refl
look-nothing (suc x) = refl

start : (P : Prefix) (guards : List (List Value)) (ds : List Drop) (base : Net) (ins held : List (Option ℕ)) (n : ℕ) → IsBase base ins P n →
    IsNoneHeld (length guards) held → IsBuilt P guards ds 0 base base ins [] held held
start P guards ds base ins held n o h = record {
  grown = subst (λ (Q : Prefix). IsGrown base base (cost_upto whole Q ds)) (sym (none P)) (grown-none base);
  shared = omega arith;
  literals = λ x l e. absurd (let z = look-nothing x in cc);
  sound = record {
    size = h.size;
    literals = λ x l e. absurd (let z = h.none x in cc);
  };
  serve = λ x l e. absurd (let z = h.none x in cc);
  at = record {
    inputs = o.at;
    circuits = λ x. subst (λ m. Stands base (with_all (decided ds) (take 0 P) (λ y. None) x) m) (sym (look-nothing x))
        (subst (λ (Q : Prefix). Stands base (with_all (decided ds) Q (λ y. None) x) None) (sym (none P)) tt);
  };
}
  where
    none : (Q : Prefix) → take 0 Q ≡ []
    none [] = refl
    none (b ∷ Q) = refl

pub built-start : (P : Prefix) (guards : List (List Value)) (ds : List Drop) (base : Net) (ins tb held : List (Option ℕ)) (n : ℕ) → tb ≡ [] → IsBase base ins P n →
    IsNoneHeld (length guards) held → IsBuilt P guards ds 0 base base ins tb held held
built-start P guards ds base ins tb held n e o h = subst (λ (xs : List (Option ℕ)). IsBuilt P guards ds 0 base base ins xs held held) (sym e) (start P guards ds base ins held n o h)

covered : (P : Prefix) (ds : List Drop) (Q : Prefix) (b : Bound) (R : Prefix) → P ≡ Q ++ b ∷ R → Distinct P → AreBehind P ds →
    AllCovered (is_universal P) (with_all (decided ds) Q (λ x. None)) b.var ds
covered P ds Q b R e di a d m q k i = go (is_existential P k.var) refl
  where
    same : d.value.var ≡ b.var
    same = grind arith

    before : place P k.var < place P b.var
    before = subst (λ v. place P k.var < place P v) same ((a d m).behind k i)

    front : Distinct Q
    front = distinct-front Q (b ∷ R) (subst Distinct e di)

    go : (t : Bool) → is_existential P k.var ≡ t → IsGiven (is_universal P) (with_all (decided ds) Q (λ x. None)) k.var
    go true h =
        let z : is_existential Q k.var ≡ true = front-existential Q b R k.var (subst (λ (X : Prefix). place X k.var < place X b.var) e before) (subst (λ (X : Prefix). is_existential X k.var ≡ true) e h) in
        inl (all-given (decided ds) Q (λ x. None) k.var front ∙ ap (λ t. t || false) z)
    go false h = inr (is_bound-universal P k.var (place-bound P k.var b.var before) h)

-- one more circuit leaves alone what has its circuit
same-circuit : (c : Strategy) (x : ℕ) (t : Option Circuit) (v : Value) → eqb v.var x ≡ false →
    alike (circuit_of (with_circuit x t c) v.var) v.circuit ≡ alike (circuit_of c v.var) v.circuit
same-circuit c x t v e = ap (λ (o : Option Circuit). alike (or_input v.var o) v.circuit) (ap (λ (b : Bool). cond b t (c v.var)) e)

same-every : (c : Strategy) (x : ℕ) (t : Option Circuit) (T : List Value) → ((v : Value) → IsIn v T → eqb v.var x ≡ false) →
    every_circuit (with_circuit x t c) T ≡ every_circuit c T
same-every c x t [] h = refl
same-every c x t (v ∷ T) h =
    ap₂ (λ (a b : Circuit). conjunction a b) (same-circuit c x t v (h v (inl refl))) (same-every c x t T (λ w i. h w (inr i)))

still-serve : (a : Net) (guards : List (List Value)) (held : List (Option ℕ)) (U : ℕ → Bool) (c : Strategy) (x : ℕ) (t : Circuit) →
    given (c x) ≡ false → U x ≡ false → HeldServe a guards held U c → HeldServe a guards held U (with_circuit x (Some t) c)
still-serve a guards held U c x t g u h y l e =
    let r = h y l e in
    let apart : (k : Value) → IsIn k (kept_in (slice_get guards y)) → eqb k.var x ≡ false = λ k i. away k (r.0 k i) in
    (λ k i. here k (apart k i) (r.0 k i), subst (Serves (tree_at a l)) (sym (same-every c x (Some t) (kept_in (slice_get guards y)) apart)) r.1)
  where
    away : (k : Value) → IsGiven U c k.var → eqb k.var x ≡ false
    away k v = go (eqb k.var x) refl v
      where
        go : (b : Bool) → eqb k.var x ≡ b → IsGiven U c k.var → b ≡ false
        go false q w = refl
        go true q (inl w) = absurd (let s : k.var ≡ x = grind arith in let z : given (c x) ≡ true = subst (λ v. given (c v) ≡ true) s w in cc)
        go true q (inr w) = absurd (let s : k.var ≡ x = grind arith in let z : U x ≡ true = subst (λ v. U v ≡ true) s w in cc)

    here : (k : Value) → eqb k.var x ≡ false → IsGiven U c k.var → IsGiven U (with_circuit x (Some t) c) k.var
    here k q (inl w) = inl (ap (λ (b : Bool). given (cond b (Some t) (c k.var))) q ∙ w)
    here k q (inr w) = inr w

serve-next : (a : Net) (guards : List (List Value)) (held : List (Option ℕ)) (U : ℕ → Bool) (c : Strategy) (ds : List Drop) (b : Bound) →
    (is_exists b.quant ≡ true → (given (c b.var) ≡ false) × (U b.var ≡ false)) → HeldServe a guards held U c →
    HeldServe a guards held U (with_next (decided ds) c b)
serve-next a guards held U c ds b new h = go (is_exists b.quant) refl
  where
    go : (q : Bool) → is_exists b.quant ≡ q → HeldServe a guards held U (cond q (with_circuit b.var (Some (decided ds c b.var)) c) c)
    go false e = h
    go true e = still-serve a guards held U c b.var (decided ds c b.var) (new e).0 (new e).1 h

-- a variable is new behind those before it
front-free : (Q : Prefix) (b : Bound) (R : Prefix) → Distinct (Q ++ b ∷ R) → is_bound Q b.var ≡ false
front-free [] b R d = refl
front-free (a ∷ Q) b R d =
    let n : eqb a.var b.var ≡ false = apart Q d.0 in
    ap (λ (t : Bool). cond t true (is_bound Q b.var)) n ∙ front-free Q b R d.1
  where
    apart : (Q : Prefix) → is_bound (Q ++ b ∷ R) a.var ≡ false → eqb a.var b.var ≡ false
    apart [] h = grind arith
    apart (x ∷ Q) h = apart Q (rest (eqb x.var a.var) h)
      where
        rest : (t : Bool) → cond t true (is_bound (Q ++ b ∷ R) a.var) ≡ false → is_bound (Q ++ b ∷ R) a.var ≡ false
        rest true h = absurd (cc)
        rest false h = h

here-exists : (Q : Prefix) (b : Bound) (R : Prefix) → is_bound Q b.var ≡ false → is_exists b.quant ≡ true → is_existential (Q ++ b ∷ R) b.var ≡ true
here-exists [] b R n e = let q : eqb b.var b.var ≡ true = grind arith in rw q e
here-exists (a ∷ Q) b R n e = go (eqb a.var b.var) n (here-exists Q b R)
  where
    go : (t : Bool) → cond t true (is_bound Q b.var) ≡ false → (is_bound Q b.var ≡ false → is_exists b.quant ≡ true → is_existential (Q ++ b ∷ R) b.var ≡ true) →
        cond t (is_exists a.quant) (is_existential (Q ++ b ∷ R) b.var) ≡ true
    go true h ih = absurd (cc)
    go false h ih = ih h e

exists-alone : (P : Prefix) (x : ℕ) → is_existential P x ≡ true → is_universal P x ≡ false
exists-alone P x e = go (is_universal P x) refl
  where
    go : (t : Bool) → is_universal P x ≡ t → is_universal P x ≡ false
    go false h = h
    go true h = absurd (let z = universal-not_existential P x h in cc)

is-new : (P : Prefix) (ds : List Drop) (Q : Prefix) (b : Bound) (R : Prefix) → P ≡ Q ++ b ∷ R → Distinct P → is_exists b.quant ≡ true →
    (given (with_all (decided ds) Q (λ x. None) b.var) ≡ false) × (is_universal P b.var ≡ false)
is-new P ds Q b R e di x =
    let d : Distinct (Q ++ b ∷ R) = subst Distinct e di in
    let n : is_bound Q b.var ≡ false = front-free Q b R d in
    let z : is_existential Q b.var ≡ false = grind (arith, existential-is_bound Q b.var) in (
      all-given (decided ds) Q (λ y. None) b.var (distinct-front Q (b ∷ R) d) ∙ ap (λ t. t || false) z,
      exists-alone P b.var (subst (λ (X : Prefix). is_existential X b.var ≡ true) (sym e) (here-exists Q b R n x)),
    )

pub built-more : (P : Prefix) (guards : List (List Value)) (ds : List Drop) (i : ℕ) (b : Bound) (base now new : Net) (ins tb tb2 none held held2 : List (Option ℕ)) →
    Distinct P → AreBehind P ds → i < length P → b ≡ get_or P i b → take (i + 1) P ≡ take i P ++ b ∷ [] →
    IsBuilt P guards ds i base now ins tb none held → IsNext now new ins tb tb2 guards held held2 b ds → IsBuilt P guards ds (i + 1) base new ins tb2 none held2
built-more P guards ds i b base now new ins tb tb2 none held held2 di a lt is t built n = record {
  grown = grown-then base now new (cost_upto whole (take i P) ds) (cond (is_exists b.quant) (cost_of whole b.var ds) 0) (cost_upto whole (take (i + 1) P) ds) built.grown n.grown
      (let w = more whole in omega arith);
  shared =
      let w : cost_upto beside (take (i + 1) P) ds ≡ cost_upto beside (take i P) ds + cond (is_exists b.quant) (cost_of beside b.var ds) 0 = more beside in
      let x : IsShared base now guards none held (cost_upto beside (take i P) ds) = built.shared in
      let y : IsShared now new guards held held2 (cond (is_exists b.quant) (cost_of beside b.var ds) 0) = n.shared in
      omega arith;
  literals = n.literals;
  sound = n.sound;
  serve = subst (HeldServe new guards held2 (is_universal P)) (sym circuits)
      (serve-next new guards held2 (is_universal P) front ds b (is-new P ds (take i P) b (drop (suc i) P) split di) next.0);
  at = subst (IsAt new ins tb2 (is_universal P)) (sym circuits) next.1;
}
  where
    more : (w : Drop → ℕ) → cost_upto w (take (i + 1) P) ds ≡ cost_upto w (take i P) ds + cond (is_exists b.quant) (cost_of w b.var ds) 0
    more w = ap (λ (Q : Prefix). cost_upto w Q ds) t ∙ cost-last w (take i P) b ds

    split : P ≡ take i P ++ b ∷ drop (suc i) P
    split = split-at P i b lt is

    front : Strategy
    front = with_all (decided ds) (take i P) (λ x. None)

    circuits : with_all (decided ds) (take (i + 1) P) (λ x. None) ≡ with_next (decided ds) front b
    circuits = ap (λ (Q : Prefix). with_all (decided ds) Q (λ x. None)) t ∙ all-last (take i P) b ds (λ x. None)

    next : HeldServe new guards held2 (is_universal P) front × IsAt new ins tb2 (is_universal P) (with_next (decided ds) front b)
    next = n.at (is_universal P) front built.at built.serve (λ e. covered P ds (take i P) b (drop (suc i) P) split di a)

-- What all of them cost.
upto-free : (w : Drop → ℕ) (P : Prefix) (d : Drop) (ds : List Drop) → is_bound P d.value.var ≡ false → cost_upto w P (d ∷ ds) ≡ cost_upto w P ds
upto-free w [] d ds h = refl
upto-free w (b ∷ P) d ds h =
    let n : eqb d.value.var b.var ≡ false = grind arith in
    let m : is_bound P d.value.var ≡ false = grind arith in
    let i : cost_upto w P (d ∷ ds) ≡ cost_upto w P ds = upto-free w P d ds m in
    rw (n, i) refl

upto-one : (w : Drop → ℕ) (P : Prefix) (d : Drop) (ds : List Drop) → Distinct P → cost_upto w P (d ∷ ds) ≤ w d + cost_upto w P ds
upto-one w [] d ds h = omega arith
upto-one w (b ∷ P) d ds h = step (eqb d.value.var b.var) refl (is_exists b.quant) (upto-one w P d ds h.1)
  where
    step : (t : Bool) → eqb d.value.var b.var ≡ t → (e : Bool) → cost_upto w P (d ∷ ds) ≤ w d + cost_upto w P ds →
        cond e (cond t (w d + cost_of w b.var ds) (cost_of w b.var ds)) 0 + cost_upto w P (d ∷ ds) ≤
        w d + (cond e (cost_of w b.var ds) 0 + cost_upto w P ds)
    step true q true ih =
        let s : b.var ≡ d.value.var = grind arith in
        let f : cost_upto w P (d ∷ ds) ≡ cost_upto w P ds = upto-free w P d ds (subst (λ v. is_bound P v ≡ false) s h.0) in
        omega arith
    step true q false ih = omega arith
    step false q true ih = omega arith
    step false q false ih = omega arith

upto-nothing : (w : Drop → ℕ) (P : Prefix) → cost_upto w P [] ≡ 0
upto-nothing w [] = refl
upto-nothing w (b ∷ P) = step (is_exists b.quant) (upto-nothing w P)
  where
    step : (e : Bool) → cost_upto w P [] ≡ 0 → cond e 0 0 + cost_upto w P [] ≡ 0
    step true i = omega arith
    step false i = omega arith

upto-all : (w : Drop → ℕ) (P : Prefix) (ds : List Drop) → Distinct P → cost_upto w P ds ≤ cost w ds
upto-all w P [] d = let z = upto-nothing w P in omega arith
upto-all w P (x ∷ ds) d = let i = upto-all w P ds d in let o = upto-one w P x ds d in omega arith

pub extracted : (P : Prefix) (guards : List (List Value)) (ds : List Drop) (base last : Net) (made : CertificateView) (ins tb none held : List (Option ℕ)) (n m : ℕ) → Distinct P →
    AreBehind P ds → IsBase base ins P m → length P ≤ n → IsBuilt P guards ds n base last ins tb none held → IsNamed last made tb P →
    IsExtracted P ds m made
extracted P guards ds base last made ins tb none held n m di de opened le built named =
    let all : take n P ≡ P = take_all n P le in
    let law = lawful-by P ds di de in
    let at : IsAt last ins tb (is_universal P) (circuits_by P ds) = subst (λ (Q : Prefix). IsAt last ins tb (is_universal P) (with_all (decided ds) Q (λ x. None))) all built.at in
    record {
      inputs = named.inputs ∙ built.grown.inputs ∙ opened.inputs;
      outputs = ap (map (λ (o : NamedOutput). o.name)) named.outputs ∙ existentials-named tb P;
      values = λ x e A. (made-serves P di (is_universal P) last made ins tb (circuits_by P ds) named at law x e).values A;
      lawful = made-lawful P di (is_universal P) last made ins tb (circuits_by P ds) named at law;
      gates =
          let a : length last.gates ≤ length base.gates + cost_upto whole P ds = subst (λ (Q : Prefix). length last.gates ≤ length base.gates + cost_upto whole Q ds) all built.grown.gates in
          let b = upto-all whole P ds di in
          let z : length base.gates ≤ m + m + m = opened.gates in
          let y : length made.gates ≡ length last.gates = ap length named.gates in
          omega arith;
    }

-- what the guards cost, each once, what the drops do, and three for each merge
pub extracted-shared : (P : Prefix) (guards : List (List Value)) (ds : List Drop) (base last : Net) (made : CertificateView) (ins tb none held : List (Option ℕ)) (n m : ℕ) → Distinct P →
    IsBase base ins P m → length P ≤ n → IsBuilt P guards ds n base last ins tb none held → IsNamed last made tb P → IsNoneHeld (length guards) none →
    length made.gates ≤ whole_weight guards + cost beside ds + (m + m + m)
extracted-shared P guards ds base last made ins tb none held n m di opened le built named h =
    let all : take n P ≡ P = take_all n P le in
    let a : IsShared base last guards none held (cost_upto beside P ds) = subst (λ (Q : Prefix). IsShared base last guards none held (cost_upto beside Q ds)) all built.shared in
    let b = upto-all beside P ds di in
    let z : length base.gates ≤ m + m + m = opened.gates in
    let g : length made.gates ≡ length last.gates = ap length named.gates in
    let u : unmade guards (look_at none) ≡ whole_weight guards = unmade-none guards (look_at none) h.none in
    omega arith

-- after the merges
pub base-is : (P : Prefix) (old now : Net) (ins : List (Option ℕ)) (n : ℕ) → IsOpened old ins P → IsGrown old now (n + n + n) → IsBase now ins P n
base-is P old now ins n o g = record {
  inputs = g.inputs ∙ o.inputs;
  gates = let z : length old.gates ≡ 0 = ap length o.gates in let y : length now.gates ≤ length old.gates + (n + n + n) = g.gates in omega arith;
  at = inputs-kept old now ins (is_universal P) g.kept o.literals o.at;
}

pub opened-at : (P : Prefix) (a : Net) (ins tb : List (Option ℕ)) → IsOpened a ins P → tb ≡ [] → IsAt a ins tb (is_universal P) no_circuits
opened-at P a ins tb o e = subst (λ (xs : List (Option ℕ)). IsAt a ins xs (is_universal P) no_circuits) (sym e) (record {
  inputs = o.at;
  circuits = λ x. subst (λ m. Stands a None m) (sym (look-nothing x)) tt;
})
