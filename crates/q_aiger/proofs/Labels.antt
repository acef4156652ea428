-- Names that are given one by one are the names of the labels.
use Rattle.std.proofs.Common.{◌≡◌, ◌≢◌, ◌⊎◌, ℕ, suc, ◌<◌, ◌≤◌, ◌==◌, ◌||◌, not, cond, Bool, true, false, nat_lt, nat_le, eqb, List, [], ◌∷◌, length, get_or, set, replicate, refl, ap, sym, ◌∙◌, arith, subst, inl, inr, Result, Ok, Err}
use Rattle.std.specs.List.{AllByRecursion}
use Rattle.std.proofs.lemmas.List.{length-set, length-replicate, get_or-set_same, get_or-set_other, ext_get_or}
use Rattle.std.proofs.lemmas.Bool.Decides.{nat_tests}
use Rattle.std.proofs.lemmas.Bool.{cases_eq}
use Rattle.q_logic.specs.Prelude.{ArePairs}
use Rattle.q_aiger.specs.Symbols.{is_used, is_free_name, with_name, all_named, AreApart}
use Rattle.q_aiger.specs.Grammar.{IsLabelled, AreNames}
use Rattle.q_aiger.proofs.LongerNames.{IsFree, free, apart-none, apart-more, zero-at}
use Rattle.q_aiger.proofs.ResolvedOperands.{variables}
use Rattle.q_aiger.proofs.LineParts.{all-weaker}

abbrev pub given : Result (List ℕ) ℕ → List (ℕ × ℕ) → Result (List ℕ) ℕ
given (Err c) es = Err c
given (Ok ns) [] = Ok ns
given (Ok ns) (p ∷ es) = given (with_name ns p.0 p.1) es

all-both : {X : Type 0} (P Q R : X → Type 0) (xs : List X) → ((x : X) → P x → Q x → R x) → AllByRecursion P xs → AllByRecursion Q xs → AllByRecursion R xs
all-both P Q R [] f h k = tt
all-both P Q R (x ∷ xs) f h k = (f x h.0 k.0, all-both P Q R xs f h.1 k.1)

-- a name that was taken
pub record IsNamed (ns : List ℕ) (i v : ℕ) (t : List ℕ) : Type 0 where
  pub free : IsFree ns i v
  pub is : t ≡ set ns i v

pub named : (ns : List ℕ) (i v : ℕ) (t : List ℕ) → with_name ns i v ≡ Ok t → IsNamed ns i v t
named ns i v t e = go (is_free_name ns i v) refl
  where
    go : (b : Bool) → is_free_name ns i v ≡ b → IsNamed ns i v t
    go true p =
        let f : Ok (set ns i v) ≡ Ok t = ap (λ x. cond x (Ok (set ns i v)) (Err 7)) (sym p) ∙ e in
        let z : set ns i v ≡ t = cc in
        record { free = free ns i v p; is = sym z }
    go false p = absurd (let f : Err 7 ≡ Ok t = ap (λ x. cond x (Ok (set ns i v)) (Err 7)) (sym p) ∙ e in cc)

record IsGiven (ns : List ℕ) (es : List (ℕ × ℕ)) (t : List ℕ) : Type 0 where
  size : length t ≡ length ns
  kept : (j : ℕ) → 1 ≤ get_or ns j 0 → get_or t j 0 ≡ get_or ns j 0
  once : ArePairs (λ p q. p.0 ≢ q.0) es
  unnamed : AllByRecursion (λ p. get_or ns p.0 0 ≡ 0) es
  labels : AllByRecursion (λ p. (p.0 < length t) × (get_or t p.0 0 ≡ p.1)) es
  source : (j : ℕ) → (get_or t j 0 ≡ get_or ns j 0) ⊎ IsLabelled es j
  small : ((j : ℕ) → get_or ns j 0 ≤ 16777215) → (j : ℕ) → get_or t j 0 ≤ 16777215
  apart : AreApart ns → AreApart t

names-given : (es : List (ℕ × ℕ)) (ns t : List ℕ) → given (Ok ns) es ≡ Ok t → IsGiven ns es t
names-given [] ns t e =
    let z : ns ≡ t = cc in
    subst (IsGiven ns []) z (record {
      size = refl;
      kept = λ j h. refl;
      once = tt;
      unnamed = tt;
      labels = tt;
      source = λ j. inl refl;
      small = λ h. h;
      apart = λ a. a;
    })
names-given (p ∷ es) ns t e = go (with_name ns p.0 p.1) refl (names-given es)
  where
    go : (r : Result (List ℕ) ℕ) → with_name ns p.0 p.1 ≡ r → ((ms u : List ℕ) → given (Ok ms) es ≡ Ok u → IsGiven ms es u) → IsGiven ns (p ∷ es) t
    go (Err c) q ih = absurd (let f : Err c ≡ Ok t = ap (λ r. given r es) (sym q) ∙ e in cc)
    go (Ok ms) q ih =
        let n = named ns p.0 p.1 ms q in
        let g : IsGiven ms es t = ih ms t (ap (λ r. given r es) (sym q) ∙ e) in
        let there : p.0 < length ns = n.free.there in
        let variable : 1 ≤ p.1 = n.free.variable in
        let most : p.1 ≤ 16777215 = n.free.most in
        let size : length ms ≡ length ns = ap length n.is ∙ length-set ns p.0 p.1 in
        let size2 : length t ≡ length ms = g.size in
        let here : get_or ms p.0 0 ≡ p.1 = ap (λ (x : List ℕ). get_or x p.0 0) n.is ∙ get_or-set_same ns p.0 p.1 0 there in
        let other : (j : ℕ) → j ≢ p.0 → get_or ms j 0 ≡ get_or ns j 0 = λ j ne. ap (λ (x : List ℕ). get_or x j 0) n.is ∙ get_or-set_other ns p.0 j p.1 0 ne in
        let was : get_or ns p.0 0 ≡ 0 = n.free.unnamed in
        record {
          size = g.size ∙ size;
          kept = λ j h.
              let ne : j ≢ p.0 = λ q. absurd (let z : get_or ns j 0 ≡ 0 = subst (λ (k : ℕ). get_or ns k 0 ≡ 0) (sym q) was in omega arith) in
              let o = other j ne in
              g.kept j (omega arith) ∙ o;
          once = (all-weaker (λ q. get_or ms q.0 0 ≡ 0) (λ q. p.0 ≢ q.0) es (λ q z eq. absurd (let y : get_or ms p.0 0 ≡ 0 = subst (λ (k : ℕ). get_or ms k 0 ≡ 0) (sym eq) z in omega arith)) g.unnamed, g.once);
          unnamed = (
            was,
            all-weaker (λ q. get_or ms q.0 0 ≡ 0) (λ q. get_or ns q.0 0 ≡ 0) es (λ q z. elim (cases_eq q.0 p.0) [
              | inl eq ↦ subst (λ (k : ℕ). get_or ns k 0 ≡ 0) (sym eq) was
              | inr ne ↦ sym (other q.0 ne) ∙ z
            ]) g.unnamed,
          );
          labels = ((omega arith, g.kept p.0 (omega arith) ∙ here), g.labels);
          source = λ j. elim (g.source j) [
            | inl s ↦ elim (cases_eq j p.0) [ inl eq ↦ inr (inl (sym eq)) | inr ne ↦ inl (s ∙ other j ne) ]
            | inr s ↦ inr (inr s)
          ];
          small = λ h. g.small (λ j. elim (cases_eq j p.0) [
            | inl eq ↦ subst (λ (k : ℕ). get_or ms k 0 ≤ 16777215) (sym eq) (omega arith)
            | inr ne ↦ let o = other j ne in let k = h j in omega arith
          ]);
          apart = λ a. g.apart (subst AreApart (sym n.is) (apart-more ns p.0 p.1 a n.free.unused));
        }

pub names-are : (es : List (ℕ × ℕ)) (n : ℕ) (t : List ℕ) → given (Ok (replicate n 0)) es ≡ Ok t → all_named t ≡ true → AreNames es t × (length t ≡ n)
names-are es n t e a =
    let g = names-given es (replicate n 0) t e in
    let v = variables t a in
    let none : (j : ℕ) → get_or (replicate n 0) j 0 ≤ 16777215 = λ j. let z = zero-at n j in omega arith in (
      record {
        once = g.once;
        given = g.labels;
        all_there = λ i lt. elim (g.source i) [
          | inl s ↦ absurd (let z = zero-at n i in let low : 1 ≤ get_or t i 0 = v i lt in omega arith)
          | inr s ↦ s
        ];
        variables = λ i lt. (v i lt, g.small none i);
        apart = g.apart (apart-none n);
      },
      g.size ∙ length-replicate n 0,
    )

-- The other way.
used-is : (ns : List ℕ) (v : ℕ) → is_used ns v ≡ true → (j : ℕ) × (j < length ns) × (get_or ns j 0 ≡ v)
used-is [] v e = absurd (cc)
used-is (n ∷ ns) v e = go (eqb n v) refl (used-is ns v)
  where
    same : (a b : ℕ) → eqb a b ≡ true → a ≡ b
    same a b e = grind arith

    go : (b : Bool) → eqb n v ≡ b → (is_used ns v ≡ true → (j : ℕ) × (j < length ns) × (get_or ns j 0 ≡ v)) → (j : ℕ) × (j < length (n ∷ ns)) × (get_or (n ∷ ns) j 0 ≡ v)
    go true p ih = (0, omega arith, same n v p)
    go false p ih =
        let u : is_used ns v ≡ true = ap (λ b. b || is_used ns v) (sym p) ∙ e in
        let r = ih u in
        let lt : r.0 < length ns = r.1 in
        (suc r.0, omega arith, r.2)

unused : (ns : List ℕ) (v : ℕ) → ((j : ℕ) → j < length ns → get_or ns j 0 ≢ v) → is_used ns v ≡ false
unused ns v f = go (is_used ns v) refl
  where
    go : (b : Bool) → is_used ns v ≡ b → b ≡ false
    go false e = refl
    go true e = let u = used-is ns v e in absurd (f u.0 u.1 u.2)

is-free : (ns : List ℕ) (i v : ℕ) → i < length ns → 1 ≤ v → v ≤ 16777215 → get_or ns i 0 ≡ 0 → is_used ns v ≡ false → is_free_name ns i v ≡ true
is-free ns i v a b c d e =
    let a2 : nat_lt i (length ns) ≡ true = lt-true i (length ns) a in
    let b2 : nat_le 1 v ≡ true = le-true 1 v b in
    let c2 : nat_le v 16777215 ≡ true = le-true v 16777215 c in
    let d2 : (get_or ns i 0 == 0) ≡ true = ap (λ k. k == 0) d in
    rw (a2, b2, c2, d2, e) refl
  where
    lt-true : (a b : ℕ) → a < b → nat_lt a b ≡ true
    lt-true a b h = grind (arith, nat_tests)

    le-true : (a b : ℕ) → a ≤ b → nat_le a b ≡ true
    le-true a b h = grind (arith, nat_tests)

record IsPartial (ns : List ℕ) (es : List (ℕ × ℕ)) (t : List ℕ) : Type 0 where
  size : length ns ≡ length t
  part : (j : ℕ) → (get_or ns j 0 ≡ 0) ⊎ (get_or ns j 0 ≡ get_or t j 0)
  once : ArePairs (λ p q. p.0 ≢ q.0) es
  unnamed : AllByRecursion (λ p. get_or ns p.0 0 ≡ 0) es
  labels : AllByRecursion (λ p. (p.0 < length t) × (get_or t p.0 0 ≡ p.1)) es
  source : (j : ℕ) → j < length t → (get_or ns j 0 ≡ get_or t j 0) ⊎ IsLabelled es j

give : (es : List (ℕ × ℕ)) (ns t : List ℕ) → ((j : ℕ) → j < length t → (1 ≤ get_or t j 0) × (get_or t j 0 ≤ 16777215)) → AreApart t → IsPartial ns es t → given (Ok ns) es ≡ Ok t
give [] ns t v a h =
    let z : ns ≡ t = ext_get_or 0 ns t h.size (λ j lt. let s : length ns ≡ length t = h.size in elim (h.source j (omega arith)) [ inl q ↦ q | inr q ↦ absurd q ]) in
    let r : List ℕ → Result (List ℕ) ℕ = λ (x : List ℕ). Ok x in
    ap r z
give (p ∷ es) ns t v a h =
    let s : length ns ≡ length t = h.size in
    let lt : p.0 < length t = h.labels.0.0 in
    let is : get_or t p.0 0 ≡ p.1 = h.labels.0.1 in
    let b = v p.0 lt in
    let low : 1 ≤ get_or t p.0 0 = b.0 in
    let high : get_or t p.0 0 ≤ 16777215 = b.1 in
    let was : get_or ns p.0 0 ≡ 0 = h.unnamed.0 in
    let no : is_used ns p.1 ≡ false = unused ns p.1 (λ j lj e. elim (h.part j) [
      | inl z ↦ absurd (omega arith)
      | inr z ↦ absurd (let y : j ≡ p.0 = a j p.0 (omega arith) lt (omega arith) (sym z ∙ e ∙ sym is) in let w : get_or ns j 0 ≡ 0 = subst (λ (k : ℕ). get_or ns k 0 ≡ 0) (sym y) was in omega arith)
    ]) in
    let f = is-free ns p.0 p.1 (omega arith) (omega arith) (omega arith) was no in
    let here : get_or (set ns p.0 p.1) p.0 0 ≡ p.1 = get_or-set_same ns p.0 p.1 0 (omega arith) in
    let other : (j : ℕ) → j ≢ p.0 → get_or (set ns p.0 p.1) j 0 ≡ get_or ns j 0 = λ j ne. get_or-set_other ns p.0 j p.1 0 ne in
    let r = give es (set ns p.0 p.1) t v a (record {
      size = length-set ns p.0 p.1 ∙ s;
      part = λ j. elim (cases_eq j p.0) [
        | inl eq ↦ inr (subst (λ (k : ℕ). get_or (set ns p.0 p.1) k 0 ≡ get_or t k 0) (sym eq) (here ∙ sym is))
        | inr ne ↦ elim (h.part j) [ inl z ↦ inl (other j ne ∙ z) | inr z ↦ inr (other j ne ∙ z) ]
      ];
      once = h.once.1;
      unnamed = all-both (λ q. p.0 ≢ q.0) (λ q. get_or ns q.0 0 ≡ 0) (λ q. get_or (set ns p.0 p.1) q.0 0 ≡ 0) es (λ q ne z. other q.0 (λ e. ne (sym e)) ∙ z) h.once.0 h.unnamed.1;
      labels = h.labels.1;
      source = λ j lj. elim (cases_eq j p.0) [
        | inl eq ↦ inl (subst (λ (k : ℕ). get_or (set ns p.0 p.1) k 0 ≡ get_or t k 0) (sym eq) (here ∙ sym is))
        | inr ne ↦ elim (h.source j lj) [
          | inl z ↦ inl (other j ne ∙ z)
          | inr z ↦ elim z [ inl eq ↦ absurd (ne (sym eq)) | inr y ↦ inr y ]
        ]
      ];
    }) in
    ap (λ x. given (cond x (Ok (set ns p.0 p.1)) (Err 7)) es) f ∙ r

all-zero : (es : List (ℕ × ℕ)) (n : ℕ) → AllByRecursion (λ p. ◌≡◌ {A = ℕ} (get_or (replicate n 0) p.0 0) 0) es
all-zero [] n = tt
all-zero (p ∷ es) n = (zero-at n p.0, all-zero es n)

pub are-given : (es : List (ℕ × ℕ)) (n : ℕ) (t : List ℕ) → length t ≡ n → AreNames es t → given (Ok (replicate n 0)) es ≡ Ok t
are-given es n t l h = give es (replicate n 0) t h.variables h.apart (record {
  size = length-replicate n 0 ∙ sym l;
  part = λ j. inl (zero-at n j);
  once = h.once;
  unnamed = all-zero es n;
  labels = h.given;
  source = λ j lj. inr (h.all_there j lj);
})

pub all-named : (es : List (ℕ × ℕ)) (t : List ℕ) → AreNames es t → all_named t ≡ true
all-named es t h = ap not (unused t 0 (λ j lj e. let v : 1 ≤ get_or t j 0 = (h.variables j lj).0 in omega arith))
