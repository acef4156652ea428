-- Names that are given, one label more: the reader's lists say which labels may come.
use Rattle.std.proofs.Common.{◌≡◌, ◌≢◌, ◌⊎◌, inl, inr, ℕ, suc, ◌<◌, ◌≤◌, ◌==◌, ◌||◌, not, nat_lt, nat_le, Bool, true, false, cond, eqb, List, [], ◌∷◌, ◌++◌, length, get_or, set, replicate, refl, ap, sym, ◌∙◌, arith, subst, Result, Ok, Err}
use Rattle.std.specs.List.{AllByRecursion}
use Rattle.std.proofs.lemmas.List.{length-set, length-replicate, get_or-set_same, get_or-set_other}
use Rattle.std.proofs.lemmas.Bool.Decides.{nat_tests}
use Rattle.std.proofs.lemmas.Bool.{cases_eq, eqb-true}
use Rattle.q_logic.specs.Prelude.{ArePairs}
use Rattle.q_dimacs.proofs.VariableMarks.{All-push, Pairs-push}
use Rattle.q_dimacs.proofs.RoundTrip.{all-left}
use Rattle.q_aiger.specs.Symbols.{is_used, is_free_name, with_name, all_named}
use Rattle.q_aiger.specs.Grammar.{IsLabelled}
use Rattle.q_aiger.proofs.LongerNames.{IsFree, free, used-more, used-at, unused-none, zero-at}
use Rattle.q_offences.specs.CircuitTable.{MayName, AllNamed}
use Rattle.q_offences.proofs.FrontStates.{all-last}

-- the list has of each place the name that some label gives it
pub record AreGiven (n : ℕ) (labels : List (ℕ × ℕ)) (ns : List ℕ) : Type 0 where
  pub size : length ns ≡ n
  pub may : MayName n labels
  pub unnamed : (i : ℕ) → get_or ns i 0 ≡ 0 → AllByRecursion (λ p. p.0 ≢ i) labels
  pub free_place : (i : ℕ) → AllByRecursion (λ p. p.0 ≢ i) labels → get_or ns i 0 ≡ 0
  pub unused : (v : ℕ) → 1 ≤ v → is_used ns v ≡ false → AllByRecursion (λ p. p.1 ≢ v) labels
  pub free_name : (v : ℕ) → 1 ≤ v → AllByRecursion (λ p. p.1 ≢ v) labels → is_used ns v ≡ false

pub none-given : (n : ℕ) → AreGiven n [] (replicate n 0)
none-given n = record {
  size = length-replicate n 0;
  may = record { there = tt; once = tt; apart = tt };
  unnamed = λ i e. tt;
  free_place = λ i a. zero-at n i;
  unused = λ v h e. tt;
  free_name = λ v h a. unused-none n v h;
}

or-false : (a b : Bool) → a || b ≡ false → (a ≡ false) × (b ≡ false)
or-false true b e = cc
or-false false b e = (refl, e)

both-false : (a b : Bool) → a ≡ false → b ≡ false → a || b ≡ false
both-false a b e f = rw (e, f) refl

eqb-no : (a b : ℕ) → eqb a b ≡ false → a ≢ b
eqb-no a b e = grind arith

no-eqb : (a b : ℕ) → a ≢ b → eqb a b ≡ false
no-eqb a b e = grind arith

-- a free name is given
one-given : (n : ℕ) (labels : List (ℕ × ℕ)) (ns : List ℕ) (i v : ℕ) → AreGiven n labels ns → IsFree ns i v → AreGiven n (labels ++ (i, v) ∷ []) (set ns i v)
one-given n labels ns i v g f =
    let there : i < length ns = f.there in
    let size = g.size in
    let variable : 1 ≤ v = f.variable in
    record {
      size = length-set ns i v ∙ g.size;
      may = record {
        there = All-push (λ p. (p.0 < n) × (1 ≤ p.1) × (p.1 ≤ 16777215)) labels (i, v) g.may.there (omega arith, f.variable, f.most);
        once = Pairs-push (λ p q. p.0 ≢ q.0) labels (i, v) g.may.once (g.unnamed i f.unnamed);
        apart = Pairs-push (λ p q. p.1 ≢ q.1) labels (i, v) g.may.apart (g.unused v f.variable f.unused);
      };
      unnamed = λ j e. elim (cases_eq j i) [
        | inl q ↦ absurd (let h : get_or (set ns i v) i 0 ≡ v = get_or-set_same ns i v 0 f.there in let k : get_or (set ns i v) i 0 ≡ 0 = subst (λ (x : ℕ). get_or (set ns i v) x 0 ≡ 0) q e in omega arith)
        | inr q ↦ All-push (λ p. p.0 ≢ j) labels (i, v) (g.unnamed j (sym (get_or-set_other ns i j v 0 q) ∙ e)) (λ z. q (sym z))
      ];
      free_place = λ j a. (let q : j ≢ i = λ z. all-last (λ p. p.0 ≢ j) labels (i, v) a (sym z) in get_or-set_other ns i j v 0 q ∙ g.free_place j (all-left (λ p. p.0 ≢ j) labels ((i, v) ∷ []) a));
      unused = λ w h e.
          (let s = or-false (eqb v w) (is_used ns w) (sym (used-more ns i v w f.there f.unnamed h) ∙ e) in
          All-push (λ p. p.1 ≢ w) labels (i, v) (g.unused w h s.1) (eqb-no v w s.0));
      free_name = λ w h a.
          used-more ns i v w f.there f.unnamed h ∙ both-false (eqb v w) (is_used ns w) (no-eqb v w (all-last (λ p. p.1 ≢ w) labels (i, v) a)) (g.free_name w h (all-left (λ p. p.1 ≢ w) labels ((i, v) ∷ []) a));
    }

-- of labels that may come the last is free

last-apart : {X : Type 0} (Q : X → X → Type 0) (xs : List X) (y : X) → ArePairs Q (xs ++ y ∷ []) → AllByRecursion (λ x. Q x y) xs
last-apart Q [] y h = tt
last-apart Q (x ∷ xs) y h = (all-last (Q x) xs y h.0, last-apart Q xs y h.1)

free-is : (ns : List ℕ) (i v : ℕ) → IsFree ns i v → is_free_name ns i v ≡ true
free-is ns i v f =
    let there = f.there in
    let variable = f.variable in
    let most = f.most in
    let unnamed = f.unnamed in
    let a : nat_lt i (length ns) ≡ true = grind (arith, nat_tests) in
    let b : nat_le 1 v ≡ true = grind (arith, nat_tests) in
    let d : nat_le v 16777215 ≡ true = grind (arith, nat_tests) in
    let e : (get_or ns i 0 == 0) ≡ true = grind arith in
    let u = f.unused in
    rw (a, b, d, e, u) refl

may-free : (n : ℕ) (labels : List (ℕ × ℕ)) (ns : List ℕ) (i v : ℕ) → AreGiven n labels ns → MayName n (labels ++ (i, v) ∷ []) → IsFree ns i v
may-free n labels ns i v g m =
    let t = all-last (λ p. (p.0 < n) × (1 ≤ p.1) × (p.1 ≤ 16777215)) labels (i, v) m.there in
    let lt : i < n = t.0 in
    let size = g.size in
    record {
      there = omega arith;
      variable = t.1;
      most = t.2;
      unnamed = g.free_place i (last-apart (λ p q. p.0 ≢ q.0) labels (i, v) m.once);
      unused = g.free_name v t.1 (last-apart (λ p q. p.1 ≢ q.1) labels (i, v) m.apart);
    }

-- the reader's answer to a label
pub data NameSaid (n : ℕ) (labels : List (ℕ × ℕ)) (ns : List ℕ) (i v : ℕ) : Result (List ℕ) ℕ → Type 0 where
  no_name : ¬ MayName n (labels ++ (i, v) ∷ []) → NameSaid n labels ns i v (Err 7)
  name_given : AreGiven n (labels ++ (i, v) ∷ []) (set ns i v) → NameSaid n labels ns i v (Ok (set ns i v))

pub name-said : (n : ℕ) (labels : List (ℕ × ℕ)) (ns : List ℕ) (i v : ℕ) → AreGiven n labels ns → NameSaid n labels ns i v (with_name ns i v)
name-said n labels ns i v g = go (is_free_name ns i v) refl where
  go : (b : Bool) → is_free_name ns i v ≡ b → NameSaid n labels ns i v (cond b (Ok (set ns i v)) (Err 7))
  go true e = name_given (one-given n labels ns i v g (free ns i v e))
  go false e = no_name (λ m. let f = free-is ns i v (may-free n labels ns i v g m) in cc)

-- all places are named exactly where the list has no 0

labelled : (labels : List (ℕ × ℕ)) (i : ℕ) → IsLabelled labels i ⊎ AllByRecursion (λ p. p.0 ≢ i) labels
labelled [] i = inr tt
labelled (p ∷ ps) i = elim (cases_eq p.0 i) [
  | inl e ↦ inl (inl e)
  | inr n ↦ elim (labelled ps i) [ inl h ↦ inl (inr h) | inr h ↦ inr (n, h) ]
]

not-labelled : (labels : List (ℕ × ℕ)) (i : ℕ) → IsLabelled labels i → AllByRecursion (λ p. p.0 ≢ i) labels → ⊥
not-labelled [] i h a = h
not-labelled (p ∷ ps) i (inl e) a = a.0 e
not-labelled (p ∷ ps) i (inr h) a = not-labelled ps i h a.1

-- a 0 stands somewhere
zero-used : (ns : List ℕ) → is_used ns 0 ≡ true → (i : ℕ) × (i < length ns) × (get_or ns i 0 ≡ 0)
zero-used [] e = cc
zero-used (n ∷ ns) e = go (eqb n 0) refl e (zero-used ns) where
  go : (b : Bool) → eqb n 0 ≡ b → b || is_used ns 0 ≡ true → (is_used ns 0 ≡ true → (i : ℕ) × (i < length ns) × (get_or ns i 0 ≡ 0)) → (i : ℕ) × (i < length (n ∷ ns)) × (get_or (n ∷ ns) i 0 ≡ 0)
  go true p f ih = (0, omega arith, eqb-true n 0 p)
  go false p f ih = let r = ih f in let l = r.1 in (suc r.0, omega arith, r.2)

pub named-all : (n : ℕ) (labels : List (ℕ × ℕ)) (ns : List ℕ) → AreGiven n labels ns → all_named ns ≡ true → AllNamed n labels
named-all n labels ns g e i lt = elim (labelled labels i) [
  | inl h ↦ h
  | inr a ↦ absurd (let size = g.size in let u = used-at ns i 0 (omega arith) (g.free_place i a) in let f : not true ≡ true = ap not (sym u) ∙ e in cc)
]

pub all-is-named : (n : ℕ) (labels : List (ℕ × ℕ)) (ns : List ℕ) → AreGiven n labels ns → AllNamed n labels → all_named ns ≡ true
all-is-named n labels ns g h = go (is_used ns 0) refl where
  go : (b : Bool) → is_used ns 0 ≡ b → not b ≡ true
  go false e = refl
  go true e =
      let size = g.size in
      let r = zero-used ns e in
      let l = r.1 in
      absurd (not-labelled labels r.0 (h r.0 (omega arith)) (g.unnamed r.0 r.2))
