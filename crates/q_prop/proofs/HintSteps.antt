-- What hints say, step by step.
use Rattle.std.proofs.Common.{◌≡◌, ◌≢◌, ◌↔◌, ◌<◌, ◌+◌, ℕ, zero, suc, Bool, false, List, [], ◌∷◌, ◌++◌, Option, None, Some, Contains, drop, map, length, get_or, refl, sym, ap, ◌∙◌, subst, inl, inr, arith, IsTrue, add-one, drop-cons, eqb, eq-eqb, ◌≤◌, Result, Ok, Err, IfOk, zero-le, suc-le-suc, le_of_suc-le-suc, not-suc-le-zero}
use Rattle.std.proofs.lemmas.Bool.{false≢true}
use Rattle.std.proofs.lemmas.Bool.Decides.{nat_tests}
use Rattle.std.proofs.lemmas.List.Elements.{Contains-append_left, Contains-push, Contains-push_cases}
use Rattle.q_logic.specs.Prelude.{Literal, negation, Clause, IsIn, Slots, slot, negations, IsTautology, IsRefuted, LeavesOne, Follows, Chained}
use Rattle.q_logic.proofs.Common.{negation-negation, IsIn-inverter, IsIn-Contains, Contains-IsIn}
use Rattle.q_logic.proofs.HintChains.{follows-last, follows-one, follows-open, follows-none, follows-same}
use Rattle.q_prop.specs.Chains.{IsFalsified}
use Rattle.q_prop.specs.Search.{IsOpen}
use Rattle.q_prop.specs.Slots.{Holds}
use Rattle.q_prop.specs.Working.{Clashes, IsAssumed}
use Rattle.q_prop.specs.declared.chain.Left.TheVariants.{Nothing, One}
use Rattle.q_prop.specs.Hinting.{IsLeft, left_in, IsOther, IsNoOther, IsLearned}
use Rattle.q_prop.proofs.ListMembers.{Contains-along, Contains-nil, Contains-map_cases}

pub left-known : (known : List Literal) (c : Clause) (o : Option Literal) (l : Literal) → IsLeft known c (left_in o) → Contains known (negation l) → IsLeft known (c ++ l ∷ []) (left_in o)
left-known known c None l h m = λ k i. elim (Contains-push_cases c l k i) [
  | inl a ↦ h k a
  | inr e ↦ Contains-along known (negation l) (negation k) (ap negation e) m
]
left-known known c (Some j) l h m = (
  Contains-append_left c (l ∷ []) j h.0,
  h.1,
  λ k i n. elim (Contains-push_cases c l k i) [
    | inl a ↦ h.2 k a n
    | inr e ↦ Contains-along known (negation l) (negation k) (ap negation e) m
  ],
)

pub left-one : (known : List Literal) (c : Clause) (o : Option Literal) (l : Literal) → IsLeft known c (left_in o) → IsNoOther o l → (Contains known (negation l) → ⊥) → IsLeft known (c ++ l ∷ []) (One l)
left-one known c o l h same m = (
  Contains-push c l,
  m,
  λ k i n. elim (Contains-push_cases c l k i) [
    | inl a ↦ before o h same k a n
    | inr e ↦ absurd (n (sym e))
  ],
)
  where
    before : (o : Option Literal) → IsLeft known c (left_in o) → IsNoOther o l → (k : Literal) → Contains c k → k ≢ l → Contains known (negation k)
    before None h same k a n = h k a
    before (Some j) h same k a n = h.2 k a (λ e. n (e ∙ same j refl))

pub left-open : (known : List Literal) (c d : Clause) (o : Option Literal) (l : Literal) → IsLeft known c (left_in o) → IsOther o l → (Contains known (negation l) → ⊥) →
    ((k : Literal) → Contains c k → Contains d k) → Contains d l → IsOpen known d
left-open known c d None l h (k, e, n) m w i = cc
left-open known c d (Some j) l h (k, e, n) m w i = record {
  first = j;
  second = l;
  has_first = w j h.0;
  has_second = i;
  differ = λ q. n (let z : j ≡ k = cc in sym z ∙ q);
  first_open = h.1;
  second_open = m;
}

-- The slot's clause, in both ways to tell it.
pub slot-Holds : (s : Slots) (n : ℕ) (c : Clause) → slot s n ≡ Some c → Holds s n c
slot-Holds [] n c e = cc
slot-Holds (o ∷ s) zero c e = ap Some e
slot-Holds (o ∷ s) (suc n) c e = slot-Holds s n c e

pub Holds-slot : (s : Slots) (n : ℕ) (c : Clause) → Holds s n c → slot s n ≡ Some c
Holds-slot [] n c e = cc
Holds-slot (o ∷ s) zero c e = cc
Holds-slot (o ∷ s) (suc n) c e = Holds-slot s n c e

pub refuted : (known : List Literal) (c : Clause) → IsFalsified known c → IsRefuted known c
refuted known c f j i = Contains-IsIn (negation j) known (f j (IsIn-Contains j c i))

pub leaves_one : (known : List Literal) (c : Clause) (l : Literal) → IsLeft known c (One l) → LeavesOne known c l
leaves_one known c l h = record {
  held = Contains-IsIn l c h.0;
  left = λ m. h.1 (IsIn-Contains (negation l) known m);
  others = λ j i n. Contains-IsIn (negation j) known (h.2 j (IsIn-Contains j c i) n);
}

-- what hints from one place on decide is what all of them decide
abbrev pub Decides : Slots → List Literal → List ℕ → List Literal → List ℕ → Type 0
Decides s start all known rest = Follows s start all ↔ Follows s known rest

pub decided-last : (s : Slots) (start known : List Literal) (all hs : List ℕ) (h : ℕ) (c : Clause) → Decides s start all known (h ∷ hs) → Holds s h c →
    IsLeft known c Nothing → Follows s start all ↔ (hs ≡ [])
decided-last s start known all hs h c d e f =
    let r = follows-last s known h hs c (Holds-slot s h c e) (refuted known c f) in
    (λ x. r.0 (d.0 x), λ x. d.1 (r.1 x))

pub decided-one : (s : Slots) (start known more : List Literal) (all hs : List ℕ) (h : ℕ) (c : Clause) (l : Literal) → Decides s start all known (h ∷ hs) → Holds s h c →
    IsLeft known c (One l) → IsLearned l known more → Decides s start all more hs
decided-one s start known more all hs h c l d e f learned =
    let r = follows-one s known h hs c (Holds-slot s h c e) l (leaves_one known c l f) in
    (λ x. follows-same s (l ∷ known) more hs forth back (r.0 (d.0 x)), λ x. d.1 (r.1 (follows-same s more (l ∷ known) hs back forth x)))
  where
    forth : (k : Literal) → IsIn k (l ∷ known) → IsIn k more
    forth k (inl q) = Contains-IsIn k more ((learned k).1 (inl q))
    forth k (inr m) = Contains-IsIn k more ((learned k).1 (inr (IsIn-Contains k known m)))

    back : (k : Literal) → IsIn k more → IsIn k (l ∷ known)
    back k m = elim ((learned k).0 (IsIn-Contains k more m)) [ inl q ↦ inl q | inr n ↦ inr (Contains-IsIn k known n) ]

pub decided-open : (s : Slots) (start known : List Literal) (all hs : List ℕ) (h : ℕ) (c : Clause) → Decides s start all known (h ∷ hs) → Holds s h c →
    IsOpen known c → ¬ Follows s start all
decided-open s start known all hs h c d e o x =
    follows-open s known h hs c (Holds-slot s h c e) o.first o.second (Contains-IsIn o.first c o.has_first) (Contains-IsIn o.second c o.has_second) o.differ
    (λ m. o.first_open (IsIn-Contains (negation o.first) known m))
    (λ m. o.second_open (IsIn-Contains (negation o.second) known m))
    (d.0 x)

pub decided-none : (s : Slots) (start known : List Literal) (all hs : List ℕ) (h : ℕ) → Decides s start all known (h ∷ hs) → ((c : Clause) → Holds s h c → ⊥) → ¬ Follows s start all
decided-none s start known all hs h d n x = follows-none s known h hs (λ c e. n c (slot-Holds s h c e)) (d.0 x)

-- From the negations of the literals.
IsIn-negations : (S : Clause) (k : Literal) → Contains (map negation S) k → IsIn k (negations S)
IsIn-negations S k m = let r = Contains-map_cases negation S k m in subst (λ y. IsIn y (negations S)) r.2 (IsIn-inverter S r.0 (Contains-IsIn r.0 S r.1))

negations-in : (S : Clause) (k : Literal) → IsIn k (negations S) → (j : Literal) × IsIn j S × (negation j ≡ k)
negations-in [] k m = elim m [ ]
negations-in (j ∷ S) k (inl e) = (j, inl refl, sym e)
negations-in (j ∷ S) k (inr m) = let r = negations-in S k m in (r.0, inr r.1, r.2)

pub clash-tautology : (S : Clause) → Clashes [] S → IsTautology S
clash-tautology S (inl h) = absurd (Contains-nil h.0 h.2)
clash-tautology S (inr o) = (negation o.0, member o.0 o.1, member (negation o.0) o.2)
  where
    member : (k : Literal) → Contains (map negation S) k → IsIn (negation k) S
    member k m = let r = Contains-map_cases negation S k m in
        subst (λ y. IsIn y S) (sym (negation-negation r.0) ∙ ap negation r.2) (Contains-IsIn r.0 S r.1)

pub assumed-no_tautology : (S : Clause) (known : List Literal) → IsAssumed [] S known → ¬ IsTautology S
assumed-no_tautology S known a t = a.consistent (negation t.0, a.assumed t.0 (IsIn-Contains t.0 S t.1), a.assumed (negation t.0) (IsIn-Contains (negation t.0) S t.2))

pub assumed-chained : (s : Slots) (S : Clause) (known : List Literal) (hints : List ℕ) (r : Type 0) → IsAssumed [] S known → r ↔ Follows s known hints → r ↔ Chained s S hints
assumed-chained s S known hints r a e = (λ x. inr (assumed-no_tautology S known a, follows-same s known (negations S) hints forth back (e.0 x)), chained)
  where
    forth : (k : Literal) → IsIn k known → IsIn k (negations S)
    forth k m = elim (a.no_other k (IsIn-Contains k known m)) [ inl n ↦ absurd (Contains-nil k n) | inr n ↦ IsIn-negations S k n ]

    back : (k : Literal) → IsIn k (negations S) → IsIn k known
    back k m = let n = negations-in S k m in subst (λ y. IsIn y known) n.2 (Contains-IsIn (negation n.0) known (a.assumed n.0 (IsIn-Contains n.0 S n.1)))

    chained : Chained s S hints → r
    chained (inl t) = absurd (assumed-no_tautology S known a t.0)
    chained (inr f) = e.1 (follows-same s (negations S) known hints back forth f.1)

pub tautology-chained : (s : Slots) (S : Clause) (hints : List ℕ) (r : Type 0) → IsTautology S → r ↔ (hints ≡ []) → r ↔ Chained s S hints
tautology-chained s S hints r t e = (λ x. inl (t, e.0 x), chained)
  where
    chained : Chained s S hints → r
    chained (inl u) = e.1 u.1
    chained (inr f) = absurd (f.0 t)

pub item-in : (xs : List Literal) (i : ℕ) (l : Literal) → i < length xs → l ≡ get_or xs i l → Contains xs l
item-in xs i l room e = (i, room, sym e)

-- The items from a place on.
pub drop-item : (xs : List ℕ) (i : ℕ) → i < length xs → drop i xs ≡ get_or xs i 0 ∷ drop (i + 1) xs
drop-item xs i room = rw (add-one, drop-cons xs i 0) refl

pub no-case : {A : Type 0} → ¬ A → (IsTrue false → A) × (A → IsTrue false)
no-case n = (λ e. absurd (false≢true e), λ a. absurd (n a))

drop-past : (xs : List ℕ) (i : ℕ) → length xs ≤ i → drop i xs ≡ []
drop-past [] zero h = refl
drop-past [] (suc i) h = refl
drop-past (x ∷ xs) zero h = absurd (not-suc-le-zero h)
drop-past (x ∷ xs) (suc i) h = drop-past xs i (le_of_suc-le-suc h)

past-drop : (xs : List ℕ) (i : ℕ) → drop i xs ≡ [] → length xs ≤ i
past-drop [] i e = zero-le
past-drop (x ∷ xs) zero e = cc
past-drop (x ∷ xs) (suc i) e = suc-le-suc (past-drop xs i e)

equal-test : (a b : ℕ) → IsTrue (eqb a b) → a ≡ b
equal-test a b h = grind (arith, nat_tests)

pub last-hint : {A : Type 0} (xs : List ℕ) (i : ℕ) → A ↔ (drop i xs ≡ []) → i ≤ length xs → (IsTrue (eqb i (length xs)) → A) × (A → IsTrue (eqb i (length xs)))
last-hint xs i d room = (
  λ e. d.1 (drop-past xs i (let q : i ≡ length xs = equal-test i (length xs) e in omega arith)),
  λ a. eq-eqb i (length xs) (let h : length xs ≤ i = past-drop xs i (d.0 a) in omega arith),
)

pub decided-end : (s : Slots) (start known : List Literal) (all : List ℕ) (i : ℕ) → Decides s start all known (drop i all) → length all ≤ i → ¬ Follows s start all
decided-end s start known all i d past f = no_hints (subst (λ (hs : List ℕ). Follows s known hs) (drop-past all i past) (d.0 f))
  where
    no_hints : ¬ Follows s known []
    no_hints g = elim g [ ]

pub empty-list : (xs : List ℕ) (b : Bool) → b ≡ eqb (length xs) 0 → IsTrue b ↔ (xs ≡ [])
empty-list [] b e = (λ t. refl, λ q. e)
empty-list (x ∷ xs) b e = (λ t. absurd (let q : suc (length xs) ≡ 0 = equal-test (suc (length xs)) 0 (sym e ∙ t) in omega arith), λ q. cc)

pub ok-chained : {E : Type 0} (s : Slots) (S : Clause) (known : List Literal) (hints : List ℕ) (r : Result Bool E) → IsAssumed [] S known →
    IfOk r (λ yes. IsTrue yes ↔ Follows s known hints) → IfOk r (λ yes. IsTrue yes ↔ Chained s S hints)
ok-chained s S known hints (Ok b) a e = assumed-chained s S known hints (IsTrue b) a e
ok-chained s S known hints (Err x) a e = tt
