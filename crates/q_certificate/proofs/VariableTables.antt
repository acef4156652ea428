-- Tables by variable, one entry further.
use Rattle.std.proofs.Common.{◌≡◌, ℕ, zero, suc, ◌+◌, ◌<◌, ◌&&◌, Bool, true, false, not, cond, eqb, List, [], ◌∷◌, ◌++◌, length, get_or, take, drop, set, inl, inr, arith, refl, sym, ap, ◌∙◌, subst, Option, Some, None}
use Rattle.std.proofs.lemmas.Bool.{cases_Bool, both_ways, cases_lt}
use Rattle.std.proofs.lemmas.List.{take_more, get_or-set_same, get_or-set_other, drop_more}
use Rattle.q_logic.specs.declared.formulas.Quant.{Quant}
use Rattle.q_logic.specs.declared.formulas.Quant.TheVariants.{Exists, Forall}
use Rattle.q_logic.specs.declared.formulas.Bound.{Bound}
use Rattle.q_logic.specs.Prelude.{Prefix, is_exists, is_existential, is_universal, is_bound, universal_before, Distinct, Circuit, CertificateView, trees_of, given}
use Rattle.q_aig.specs.Prelude.{Net, AreDistinct}
use Rattle.q_logic.proofs.Truth.{none_bound}
use Rattle.q_logic.proofs.Common.{unbound-universal, get_or-is_bound, distinct-at}
use Rattle.q_certificate.specs.Standing.{look_at}
use Rattle.q_certificate.specs.Tabled.{Matches, ArePlacesUpto, ArePlaces, is_there, AreExistentials, AreAllowedBy}
use Rattle.q_certificate.specs.Refusals.{first_missing}
use Rattle.q_certificate.proofs.PrefixInputs.{no_bound}

pub is_existential-last : (Q : Prefix) (b : Bound) (x : ℕ) → is_bound Q b.var ≡ false → is_existential (Q ++ b ∷ []) x ≡ cond (eqb x b.var) (is_exists b.quant) (is_existential Q x)
is_existential-last [] b x h = go (eqb b.var x) refl
  where
    go : (t : Bool) → eqb b.var x ≡ t → cond t (is_exists b.quant) false ≡ cond (eqb x b.var) (is_exists b.quant) false
    go true e = let f : eqb x b.var ≡ true = grind arith in ap (λ (c : Bool). cond c (is_exists b.quant) false) (sym f)
    go false e = let f : eqb x b.var ≡ false = grind arith in ap (λ (c : Bool). cond c (is_exists b.quant) false) (sym f)
is_existential-last (a ∷ Q) b x h = go (eqb a.var x) refl (eqb a.var b.var) refl h (is_existential-last Q b x)
  where
    go : (t : Bool) → eqb a.var x ≡ t → (s : Bool) → eqb a.var b.var ≡ s → cond s true (is_bound Q b.var) ≡ false → (is_bound Q b.var ≡ false → is_existential (Q ++ b ∷ []) x ≡ cond (eqb x b.var) (is_exists b.quant) (is_existential Q x)) → cond t (is_exists a.quant) (is_existential (Q ++ b ∷ []) x) ≡ cond (eqb x b.var) (is_exists b.quant) (cond t (is_exists a.quant) (is_existential Q x))
    go t e true f h ih = absurd (cc)
    go true e false f h ih = let g : eqb x b.var ≡ false = grind arith in ap (λ (c : Bool). cond c (is_exists b.quant) (is_exists a.quant)) (sym g)
    go false e false f h ih = ih h

pub is_universal-last2 : (Q : Prefix) (b : Bound) (x : ℕ) → is_bound Q b.var ≡ false → is_universal (Q ++ b ∷ []) x ≡ cond (eqb x b.var) (not (is_exists b.quant)) (is_universal Q x)
is_universal-last2 [] b x h = go (eqb b.var x) refl
  where
    go : (t : Bool) → eqb b.var x ≡ t → cond t (not (is_exists b.quant)) false ≡ cond (eqb x b.var) (not (is_exists b.quant)) false
    go true e = let f : eqb x b.var ≡ true = grind arith in ap (λ (c : Bool). cond c (not (is_exists b.quant)) false) (sym f)
    go false e = let f : eqb x b.var ≡ false = grind arith in ap (λ (c : Bool). cond c (not (is_exists b.quant)) false) (sym f)
is_universal-last2 (a ∷ Q) b x h = go (eqb a.var x) refl (eqb a.var b.var) refl h (is_universal-last2 Q b x)
  where
    go : (t : Bool) → eqb a.var x ≡ t → (s : Bool) → eqb a.var b.var ≡ s → cond s true (is_bound Q b.var) ≡ false → (is_bound Q b.var ≡ false → is_universal (Q ++ b ∷ []) x ≡ cond (eqb x b.var) (not (is_exists b.quant)) (is_universal Q x)) → cond t (not (is_exists a.quant)) (is_universal (Q ++ b ∷ []) x) ≡ cond (eqb x b.var) (not (is_exists b.quant)) (cond t (not (is_exists a.quant)) (is_universal Q x))
    go t e true f h ih = absurd (cc)
    go true e false f h ih = let g : eqb x b.var ≡ false = grind arith in ap (λ (c : Bool). cond c (not (is_exists b.quant)) (not (is_exists a.quant))) (sym g)
    go false e false f h ih = ih h

pub existentials-exists : (P : Prefix) (i : ℕ) (tb tb2 : List (Option ℕ)) → Distinct P → i < length P → (get_or P i no_bound).quant ≡ Exists → AreExistentials (take i P) tb → ((x : ℕ) → look_at tb2 x ≡ cond (eqb x (get_or P i no_bound).var) (Some 0) (look_at tb x)) → AreExistentials (take (i + 1) P) tb2
existentials-exists P i tb tb2 d lt q h put x =
    let b : Bound = get_or P i no_bound in
    let e : take (i + 1) P ≡ take i P ++ get_or P i no_bound ∷ [] = take_more P i no_bound lt in
    let l : is_existential (take i P ++ get_or P i no_bound ∷ []) x ≡ cond (eqb x (get_or P i no_bound).var) (is_exists (get_or P i no_bound).quant) (is_existential (take i P) x) = is_existential-last (take i P) (get_or P i no_bound) x (distinct-at P i no_bound d lt) in
    let m : is_existential (take (i + 1) P) x ≡ cond (eqb x (get_or P i no_bound).var) true (is_existential (take i P) x) = ap (λ (Q : Prefix). is_existential Q x) e ∙ l ∙ ap (λ (c : Quant). cond (eqb x (get_or P i no_bound).var) (is_exists c) (is_existential (take i P) x)) q in
    ap is_there (put x) ∙ go (eqb x (get_or P i no_bound).var) ∙ sym m
  where
    go : (t : Bool) → is_there (cond t (Some 0) (look_at tb x)) ≡ cond t true (is_existential (take i P) x)
    go true = refl
    go false = h x

pub existentials-forall : (P : Prefix) (i : ℕ) (tb : List (Option ℕ)) → Distinct P → i < length P → (get_or P i no_bound).quant ≡ Forall → AreExistentials (take i P) tb → AreExistentials (take (i + 1) P) tb
existentials-forall P i tb d lt q h x =
    let e : take (i + 1) P ≡ take i P ++ get_or P i no_bound ∷ [] = take_more P i no_bound lt in
    let n : is_bound (take i P) (get_or P i no_bound).var ≡ false = distinct-at P i no_bound d lt in
    let l : is_existential (take i P ++ get_or P i no_bound ∷ []) x ≡ cond (eqb x (get_or P i no_bound).var) (is_exists (get_or P i no_bound).quant) (is_existential (take i P) x) = is_existential-last (take i P) (get_or P i no_bound) x n in
    let m : is_existential (take (i + 1) P) x ≡ cond (eqb x (get_or P i no_bound).var) false (is_existential (take i P) x) = ap (λ (Q : Prefix). is_existential Q x) e ∙ l ∙ ap (λ (c : Quant). cond (eqb x (get_or P i no_bound).var) (is_exists c) (is_existential (take i P) x)) q in
    h x ∙ go (eqb x (get_or P i no_bound).var) refl n ∙ sym m
  where
    go : (t : Bool) → eqb x (get_or P i no_bound).var ≡ t → is_bound (take i P) (get_or P i no_bound).var ≡ false → is_existential (take i P) x ≡ cond t false (is_existential (take i P) x)
    go true s n = let g : (get_or P i no_bound).var ≡ x = grind arith in none_bound (take i P) x (subst (λ (v : ℕ). is_bound (take i P) v ≡ false) g n)
    go false s n = refl

pub places-more : (names : List ℕ) (i : ℕ) (tb tb2 : List (Option ℕ)) → AreDistinct names → i < length names → ArePlacesUpto names i tb → ((x : ℕ) → look_at tb2 x ≡ cond (eqb x (get_or names i 0)) (Some i) (look_at tb x)) → ArePlacesUpto names (i + 1) tb2
places-more names i tb tb2 d lt p put = record {
  sound = λ x k e. down x k (eqb x (get_or names i 0)) refl e;
  all = λ k h. up k h (eqb (get_or names k 0) (get_or names i 0)) refl;
}
  where
    down : (x k : ℕ) (t : Bool) → eqb x (get_or names i 0) ≡ t → look_at tb2 x ≡ Some k → (k < length names) × (get_or names k 0 ≡ x)
    down x k true s e =
        let q : Some i ≡ Some k = sym (put x ∙ ap (λ (c : Bool). cond c (Some i) (look_at tb x)) s) ∙ e in
        let j : i ≡ k = cc in
        let y : get_or names i 0 ≡ x = grind arith in
        (subst (λ (n : ℕ). n < length names) j lt, subst (λ (n : ℕ). get_or names n 0 ≡ x) j y)
    down x k false s e = p.sound x k (sym (put x ∙ ap (λ (c : Bool). cond c (Some i) (look_at tb x)) s) ∙ e)

    up : (k : ℕ) → k < i + 1 → (t : Bool) → eqb (get_or names k 0) (get_or names i 0) ≡ t → look_at tb2 (get_or names k 0) ≡ Some k
    up k h true s =
        let y : get_or names k 0 ≡ get_or names i 0 = grind arith in
        let j : k ≡ i = d k i (omega arith) lt y in
        put (get_or names k 0) ∙ ap (λ (c : Bool). cond c (Some i) (look_at tb (get_or names k 0))) s ∙ ap Some (sym j)
    up k h false s = elim (cases_lt k i) [
      | inl a ↦ put (get_or names k 0) ∙ ap (λ (c : Bool). cond c (Some i) (look_at tb (get_or names k 0))) s ∙ p.all k a
      | inr a ↦ absurd (let j : k ≡ i = omega arith in let y : get_or names k 0 ≡ get_or names i 0 = ap (λ (n : ℕ). get_or names n 0) j in grind arith)
    ]

-- matches
pub matched-given : (a : Net) (o : Option Circuit) (m : Option ℕ) → Matches a o m → given o ≡ is_there m
matched-given a None None h = refl
matched-given a None (Some l) h = absurd h
matched-given a (Some t) None h = absurd h
matched-given a (Some t) (Some l) h = refl

pub missing-skip : (P : Prefix) (c : CertificateView) (i : ℕ) → i < length P → (is_exists (get_or P i no_bound).quant && not (given (trees_of c (get_or P i no_bound).var))) ≡ false → first_missing (drop i P) c ≡ first_missing (drop (i + 1) P) c
missing-skip P c i lt h = ap (λ (Q : Prefix). first_missing Q c) (drop_more P i no_bound lt) ∙ ap (λ (t : Bool). cond t (Some (get_or P i no_bound).var) (first_missing (drop (i + 1) P) c)) h

pub missing-here : (P : Prefix) (c : CertificateView) (i : ℕ) → i < length P → (is_exists (get_or P i no_bound).quant && not (given (trees_of c (get_or P i no_bound).var))) ≡ true → first_missing (drop i P) c ≡ Some (get_or P i no_bound).var
missing-here P c i lt h = ap (λ (Q : Prefix). first_missing Q c) (drop_more P i no_bound lt) ∙ ap (λ (t : Bool). cond t (Some (get_or P i no_bound).var) (first_missing (drop (i + 1) P) c)) h

-- universals before a place
pub before-take : (P : Prefix) (p u : ℕ) → Distinct P → p < length P → universal_before P u (get_or P p no_bound).var ≡ is_universal (take p P) u
before-take [] p u d lt = absurd (omega arith)
before-take (b ∷ P) zero u d lt = let e : eqb b.var b.var ≡ true = grind arith in ap (λ (t : Bool). cond t false (cond (eqb b.var u) (not (is_exists b.quant) && is_bound P b.var) (universal_before P u b.var))) e
before-take (b ∷ P) (suc p) u d lt =
    let r = before-take P p u d.1 (omega arith) in
    let bd : is_bound P (get_or P p no_bound).var ≡ true = get_or-is_bound P p no_bound (omega arith) in
    let n : is_bound P b.var ≡ false = d.0 in
    let e : eqb b.var (get_or P p no_bound).var ≡ false = differ bd n in
    ap (λ (t : Bool). cond t false (cond (eqb b.var u) (not (is_exists b.quant) && is_bound P (get_or P p no_bound).var) (universal_before P u (get_or P p no_bound).var))) e ∙ go (eqb b.var u) bd r
  where
    differ : is_bound P (get_or P p no_bound).var ≡ true → is_bound P b.var ≡ false → eqb b.var (get_or P p no_bound).var ≡ false
    differ bd n = elim (cases_Bool (eqb b.var (get_or P p no_bound).var)) [
      | inl e ↦ absurd (let s : (get_or P p no_bound).var ≡ b.var = grind arith in both_ways (is_bound P b.var) n (subst (λ (v : ℕ). is_bound P v ≡ true) s bd))
      | inr e ↦ e
    ]

    and-yes : (a t : Bool) → t ≡ true → (a && t) ≡ a
    and-yes true t e = e
    and-yes false t e = refl

    go : (t : Bool) → is_bound P (get_or P p no_bound).var ≡ true → universal_before P u (get_or P p no_bound).var ≡ is_universal (take p P) u → cond t (not (is_exists b.quant) && is_bound P (get_or P p no_bound).var) (universal_before P u (get_or P p no_bound).var) ≡ cond t (not (is_exists b.quant)) (is_universal (take p P) u)
    go true bd r = and-yes (not (is_exists b.quant)) (is_bound P (get_or P p no_bound).var) bd
    go false bd r = r

-- allowed inputs
pub allowed-exists : (P : Prefix) (i : ℕ) (names : List ℕ) (al : List Bool) → Distinct P → i < length P → (get_or P i no_bound).quant ≡ Exists → AreAllowedBy (take i P) names al → AreAllowedBy (take (i + 1) P) names al
allowed-exists P i names al d lt q h k hk =
    let x : ℕ = get_or names k 0 in
    let e : take (i + 1) P ≡ take i P ++ get_or P i no_bound ∷ [] = take_more P i no_bound lt in
    let n : is_bound (take i P) (get_or P i no_bound).var ≡ false = distinct-at P i no_bound d lt in
    let m : is_universal (take (i + 1) P) (get_or names k 0) ≡ cond (eqb (get_or names k 0) (get_or P i no_bound).var) false (is_universal (take i P) (get_or names k 0)) = ap (λ (Q : Prefix). is_universal Q (get_or names k 0)) e ∙ is_universal-last2 (take i P) (get_or P i no_bound) (get_or names k 0) n ∙ ap (λ (c : Quant). cond (eqb (get_or names k 0) (get_or P i no_bound).var) (not (is_exists c)) (is_universal (take i P) (get_or names k 0))) q in
    h k hk ∙ go (eqb (get_or names k 0) (get_or P i no_bound).var) refl n ∙ sym m
  where
    go : (t : Bool) → eqb (get_or names k 0) (get_or P i no_bound).var ≡ t → is_bound (take i P) (get_or P i no_bound).var ≡ false → is_universal (take i P) (get_or names k 0) ≡ cond t false (is_universal (take i P) (get_or names k 0))
    go true s n = let g : (get_or P i no_bound).var ≡ get_or names k 0 = grind arith in unbound-universal (take i P) (get_or names k 0) (subst (λ (v : ℕ). is_bound (take i P) v ≡ false) g n)
    go false s n = refl

pub allowed-forall : (P : Prefix) (i : ℕ) (names : List ℕ) (al al2 : List Bool) → Distinct P → i < length P → (get_or P i no_bound).quant ≡ Forall → AreAllowedBy (take i P) names al → ((k : ℕ) → k < length names → get_or al2 k false ≡ cond (eqb (get_or names k 0) (get_or P i no_bound).var) true (get_or al k false)) → AreAllowedBy (take (i + 1) P) names al2
allowed-forall P i names al al2 d lt q h put k hk =
    let e : take (i + 1) P ≡ take i P ++ get_or P i no_bound ∷ [] = take_more P i no_bound lt in
    let n : is_bound (take i P) (get_or P i no_bound).var ≡ false = distinct-at P i no_bound d lt in
    let m : is_universal (take (i + 1) P) (get_or names k 0) ≡ cond (eqb (get_or names k 0) (get_or P i no_bound).var) true (is_universal (take i P) (get_or names k 0)) = ap (λ (Q : Prefix). is_universal Q (get_or names k 0)) e ∙ is_universal-last2 (take i P) (get_or P i no_bound) (get_or names k 0) n ∙ ap (λ (c : Quant). cond (eqb (get_or names k 0) (get_or P i no_bound).var) (not (is_exists c)) (is_universal (take i P) (get_or names k 0))) q in
    put k hk ∙ ap (λ (b : Bool). cond (eqb (get_or names k 0) (get_or P i no_bound).var) true b) (h k hk) ∙ sym m

-- one input allowed
pub allow-some : (names : List ℕ) (tb : List (Option ℕ)) (al : List Bool) (v i : ℕ) → AreDistinct names → ArePlaces names tb → length al ≡ length names → look_at tb v ≡ Some i → (k : ℕ) → k < length names → get_or (set al i true) k false ≡ cond (eqb (get_or names k 0) v) true (get_or al k false)
allow-some names tb al v i d p len e k hk = go (eqb (get_or names k 0) v) refl
  where
    s : (i < length names) × (get_or names i 0 ≡ v)
    s = p.sound v i e

    go : (t : Bool) → eqb (get_or names k 0) v ≡ t → get_or (set al i true) k false ≡ cond t true (get_or al k false)
    go true q =
        let r : i < length names = s.0 in
        let f : get_or names k 0 ≡ get_or names i 0 = (let g : get_or names k 0 ≡ v = grind arith in g ∙ sym s.1) in
        let j : i ≡ k = sym (d k i hk r f) in
        subst (λ (n : ℕ). get_or (set al i true) n false ≡ true) j (get_or-set_same al i true false (omega arith))
    go false q = get_or-set_other al i k true false (λ j. absurd (let g : get_or names k 0 ≡ v = ap (λ (n : ℕ). get_or names n 0) j ∙ s.1 in grind arith))

pub allow-none : (names : List ℕ) (tb : List (Option ℕ)) (al : List Bool) (v : ℕ) → ArePlaces names tb → look_at tb v ≡ None → (k : ℕ) → k < length names → get_or al k false ≡ cond (eqb (get_or names k 0) v) true (get_or al k false)
allow-none names tb al v p e k hk = go (eqb (get_or names k 0) v) refl
  where
    go : (t : Bool) → eqb (get_or names k 0) v ≡ t → get_or al k false ≡ cond t true (get_or al k false)
    go true q = absurd (let g : get_or names k 0 ≡ v = grind arith in let a : look_at tb v ≡ Some k = subst (λ (n : ℕ). look_at tb n ≡ Some k) g (p.all k hk) in clash (look_at tb v) k e a)
      where
        clash : (m : Option ℕ) (k : ℕ) → m ≡ None → m ≡ Some k → ⊥
        clash m k a b = cc
    go false q = refl
