-- Hints found by looking at all clauses again and again.
use Rattle.std.proofs.Common.{◌≡◌, ◌↔◌, ◌<◌, ◌≤◌, ◌+◌, ℕ, Bool, true, false, List, [], ◌∷◌, ◌++◌, Option, None, Some, Contains, length, refl, sym, ap, ◌∙◌, subst, inl, inr, arith, append_assoc, append-nil, length-append, length-set, IsTrue}
use Rattle.std.proofs.lemmas.List.Elements.{Contains-append_left, Contains-push, Contains-push_cases}
use Rattle.q_logic.specs.Prelude.{Literal, negation, Clause, Matrix, IsIn, Slots, live, Implied, IsTautology, Follows, Chained}
use Rattle.q_logic.proofs.Common.{IsIn-Contains, Contains-IsIn, same_or_not}
use Rattle.std.proofs.lemmas.Bool.{false≢true, cases_eq}
use Rattle.std.proofs.lemmas.Option.{slice_get_within}
use Rattle.q_logic.proofs.HintChains.{follows-same, chained-implied}
use Rattle.q_prop.specs.Chains.{IsFalsified, HasOpposites}
use Rattle.q_prop.specs.Search.{IsOpen, IsQuiet, AreQuiet}
use Rattle.q_prop.specs.Slots.{Holds, filled, without}
use Rattle.q_prop.specs.Working.{IsReached, IsAssumed}
use Rattle.q_prop.specs.Hinting.{IsLeft}
use Rattle.q_prop.specs.declared.chain.Left.TheVariants.{One}
use Rattle.q_prop.specs.Plain.{IsNoted, IsLed, IsEnded, IsPassed, IsPass, answer_of, IsSearching, IsExplained}
use Rattle.q_prop.proofs.ListMembers.{Contains-along, Contains-map_cases}
use Rattle.q_prop.proofs.ChainDefinition.{implied_of}
use Rattle.q_prop.proofs.CompleteRoot.{complete_not_implied}
use Rattle.q_prop.proofs.UnknownLiterals.{missing}
use Rattle.q_prop.proofs.Chains.{no_opposites-push}
use Rattle.q_prop.proofs.HintSteps.{Holds-slot, refuted, leaves_one, assumed-chained}
use Rattle.q_prop.proofs.PropagationEnd.{IsReached-refl, IsReached-trans, IsReached-budget, IsReached-within}
use Rattle.q_prop.proofs.SlotLemmas.{filled-in, filled-cases}

pub led-refl : (s : Slots) (k : List Literal) (h : List ℕ) → (HasOpposites k → ⊥) → IsLed s k h k h
led-refl s k h c = record { added = []; is = sym (append-nil h); follows = λ hs f. f; reached = IsReached-refl (filled s) k; consistent = c }

pub led-trans : (s : Slots) (k m n : List Literal) (h i j : List ℕ) → IsLed s k h m i → IsLed s m i n j → IsLed s k h n j
led-trans s k m n h i j a b = record {
  added = a.added ++ b.added;
  is = b.is ∙ ap (λ (xs : List ℕ). xs ++ b.added) a.is ∙ append_assoc h a.added b.added;
  follows = λ hs f. rw append_assoc (a.follows (b.added ++ hs) (b.follows hs f));
  reached = IsReached-trans (filled s) k m n a.reached b.reached;
  consistent = b.consistent;
}

pub ended-after : (s : Slots) (k m : List Literal) (h i j : List ℕ) → IsLed s k h m i → IsEnded s m i j → IsEnded s k h j
ended-after s k m h i j a b = record {
  added = a.added ++ b.added;
  is = b.is ∙ ap (λ (xs : List ℕ). xs ++ b.added) a.is ∙ append_assoc h a.added b.added;
  follows = a.follows b.added b.follows;
}

pub led-noted : (s : Slots) (n : ℕ) (k m : List Literal) (h i : List ℕ) → (HasOpposites k → ⊥) → IsNoted s n k h m i → IsLed s k h m i
led-noted s n k m h i c a = record {
  added = n ∷ [];
  is = a.hints_are;
  follows = λ hs f. (a.clause, Holds-slot s n a.clause a.holds, inr (a.literal, leaves_one k a.clause a.literal a.forced, follows-same s m (a.literal ∷ k) hs forth back f));
  reached = record {
    added = a.literal ∷ [];
    is = a.known_is;
    each = (
      (
        record {
          clause = a.clause;
          of_matrix = filled-in s n a.clause a.holds;
          of_clause = a.forced.0;
          others = a.forced.2;
        },
        a.new,
        a.forced.1,
      ),
      tt,
    );
  };
  consistent = rw a.known_is (no_opposites-push k a.literal c a.forced.1);
}
  where
    forth : (j : Literal) → IsIn j m → IsIn j (a.literal ∷ k)
    forth j p = elim (Contains-push_cases k a.literal j (rw a.known_is at (IsIn-Contains j m p))) [
      | inl q ↦ inr (Contains-IsIn j k q)
      | inr e ↦ inl (sym e)
    ]

    back : (j : Literal) → IsIn j (a.literal ∷ k) → IsIn j m
    back j (inl e) = Contains-IsIn j m (rw a.known_is (Contains-along (k ++ a.literal ∷ []) a.literal j (sym e) (Contains-push k a.literal)))
    back j (inr p) = Contains-IsIn j m (rw a.known_is (Contains-append_left k (a.literal ∷ []) j (IsIn-Contains j k p)))

pub longer-noted : (s : Slots) (n : ℕ) (k m : List Literal) (h i : List ℕ) → IsNoted s n k h m i → length k < length m
longer-noted s n k m h i a = rw a.known_is (omega (arith, length-append k (a.literal ∷ [])))

pub ended-look : (s : Slots) (n : ℕ) (k : List Literal) (h i : List ℕ) → i ≡ h ++ n ∷ [] → ((c : Clause) × Holds s n c × IsFalsified k c) → IsEnded s k h i
ended-look s n k h i e f = record { added = n ∷ []; is = e; follows = (f.0, Holds-slot s n f.0 f.1, inl (refl, refuted k f.0 f.2)) }

pub quiet-open : (k : List Literal) (c : Clause) → IsOpen k c → IsQuiet k c
quiet-open k c o = record {
  not_falsified = λ f. o.first_open (f o.first o.has_first);
  nothing_new = λ l i u. elim (same_or_not o.first l) [
    | inl e ↦ absurd (o.second_open (u o.second o.has_second (λ q. o.differ (e ∙ sym q))))
    | inr n ↦ absurd (o.first_open (u o.first o.has_first n))
  ];
}

pub quiet-one : (k : List Literal) (c : Clause) (l : Literal) → IsLeft k c (One l) → Contains k l → IsQuiet k c
quiet-one k c l h m = record {
  not_falsified = λ f. h.1 (f l h.0);
  nothing_new = λ j i u. elim (same_or_not l j) [
    | inl e ↦ Contains-along k l j e m
    | inr n ↦ absurd (h.1 (u l h.0 n))
  ];
}

module _ (s : Slots) (i : ℕ) (k : List Literal) (h : List ℕ) (m : List Literal) (j : List ℕ) where
  pub passed-new : (n : List Literal) (l : List ℕ) (g : Bool) → (HasOpposites k → ⊥) → IsPassed s i k h m j g → IsNoted s i m j n l → IsPassed s (i + 1) k h n l true
  passed-new n l true c p a = (
    led-trans s k m n h j l p.0 (led-noted s i m n j l p.0.consistent a),
    let one = longer-noted s i m n j l a in omega (arith, p.1, one),
  )
  passed-new n l false c p a =
      let b : IsNoted s i k h n l = rw (p.0, p.1) at a in
      (led-noted s i k n h l c b, longer-noted s i k n h l b)

  pub passed-quiet : (n : List Literal) (l : List ℕ) (g : Bool) → IsPassed s i k h m j g → (n ≡ m) × (l ≡ j) × ((c : Clause) → Holds s i c → IsQuiet m c) → IsPassed s (i + 1) k h n l g
  passed-quiet n l true p q = rw (q.0, q.1) p
  passed-quiet n l false p q = (
    q.0 ∙ p.0,
    q.1 ∙ p.1,
    λ b c below holds. elim (cases_eq b i) [
      | inl e ↦ rw p.0 at (q.2 c (rw e at holds))
      | inr ne ↦ p.2 b c (omega arith) holds
    ],
  )

  pub passed-conflict : (l : List ℕ) (g : Bool) → IsPassed s i k h m j g → (l ≡ j ++ i ∷ []) × ((c : Clause) × Holds s i c × IsFalsified m c) → IsEnded s k h l
  passed-conflict l true p q = ended-after s k m h j l p.0 (ended-look s i m j l q.0 q.1)
  passed-conflict l false p q = ended-look s i k h l (rw p.1 at q.0) (rw p.0 at q.1)

  pub passed-end : (g : Bool) → IsPassed s i k h m j g → length s ≤ i → IsPass s k h m j (answer_of g)
  passed-end true p past = p
  passed-end false p past = (
    p.0,
    p.1,
    λ c inside. let n = filled-cases s c inside in
        let room = slice_get_within s n.0 (Some c) n.1 in p.2 n.0 c (omega arith) n.1,
  )

pub without-length : (s : Slots) (skip : Option ℕ) → length (without s skip) ≡ length s
without-length s None = refl
without-length s (Some n) = length-set s n None

-- The clause of a slot is one.
pub quiet-there : (s : Slots) (n : ℕ) (k : List Literal) (c : Clause) → Holds s n c → IsQuiet k c → (d : Clause) → Holds s n d → IsQuiet k d
quiet-there s n k c h q d g = subst (λ (e : Clause). IsQuiet k e) (let e : c ≡ d = cc in e) q

pub searching-new : (s : Slots) (k m n : List Literal) (i j : List ℕ) (g : Bool) → g ≡ true → IsSearching s k m i g → IsLed s m i n j × (length m < length n) → IsSearching s k n j true
searching-new s k m n i j g e p a = led-trans s k m n [] i j (rw e at p) a.0

pub searching-quiet : (s : Slots) (k m n : List Literal) (i j : List ℕ) (g : Bool) → g ≡ true → IsSearching s k m i g → (n ≡ m) × (j ≡ i) × AreQuiet m (filled s) → IsSearching s k n j false
searching-quiet s k m n i j g e p a =
    let led : IsLed s k [] m i = rw e at p in
    rw a.0 (led.reached, led.consistent, a.2)

pub searching-consistent : (s : Slots) (k m : List Literal) (i : List ℕ) (g : Bool) → IsSearching s k m i g → HasOpposites m → ⊥
searching-consistent s k m i true p = p.consistent
searching-consistent s k m i false p = p.1

pub searching-ended : (s : Slots) (k m : List Literal) (i j : List ℕ) (g : Bool) → g ≡ true → IsSearching s k m i g → IsEnded s m i j → Follows s k j
searching-ended s k m i j g e p a =
    let b = ended-after s k m [] i j (rw e at p) a in
    rw b.is b.follows

pub searching-end : (s : Slots) (k m : List Literal) (i : List ℕ) (g : Bool) → g ≡ false → IsSearching s k m i g → IsExplained s k m i false
searching-end s k m i g e p = rw e at p

pub led-smaller : (s : Slots) (m n : List Literal) (i j : List ℕ) → IsLed s m i n j × (length m < length n) → missing n (filled s) < missing m (filled s)
led-smaller s m n i j a = omega (arith, IsReached-budget (filled s) m n a.0.reached, a.1)

pub not-implied : (s : Slots) (S : Clause) (known more : List Literal) → IsAssumed [] S known → IsReached (filled s) known more → (HasOpposites more → ⊥) → AreQuiet more (filled s) → ¬ Implied (filled s) S
not-implied s S known more a r c q i =
    complete_not_implied (filled s) more S q c
    (λ l m. let n = Contains-map_cases negation S l m in
    IsReached-within (filled s) known more r l (Contains-along known (negation n.0) l n.2 (a.assumed n.0 n.1)))
    (implied_of (filled s) S i)

pub follows-implied : (s : Slots) (S : Clause) (known : List Literal) (hints : List ℕ) → IsAssumed [] S known → Follows s known hints → Chained s S hints
follows-implied s S known hints a f = (assumed-chained s S known hints (Follows s known hints) a (λ x. x, λ x. x)).0 f

pub chained-filled : (s : Slots) (S : Clause) (hints : List ℕ) → Chained s S hints → Implied (filled s) S
chained-filled s S hints h = subst (λ (X : Matrix). Implied X S) (live-filled s) (chained-implied s S hints h)
  where
    live-filled : (s : Slots) → live s ≡ filled s
    live-filled [] = refl
    live-filled (None ∷ s) = live-filled s
    live-filled (Some c ∷ s) = ap (λ (X : Matrix). c ∷ X) (live-filled s)

pub tautology-shown : (s : Slots) (S : Clause) → IsTautology S → Chained s S []
tautology-shown s S t = inl (t, refl)

pub yes-implied : (s : Slots) (S : Clause) (hints : List ℕ) → Chained s S hints → IsTrue true ↔ Implied (filled s) S
yes-implied s S hints h = (λ e. chained-filled s S hints h, λ i. refl)

pub no-implied : (s : Slots) (S : Clause) → ¬ Implied (filled s) S → IsTrue false ↔ Implied (filled s) S
no-implied s S n = (λ e. absurd (false≢true e), λ i. absurd (n i))
