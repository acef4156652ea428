-- What a search has seen.
use Rattle.std.proofs.Common.{◌≡◌, ◌≢◌, ◌⊎◌, ◌≤◌, ◌<◌, ◌+◌, ◌++◌, ℕ, List, Bool, true, false, cond, [], ◌∷◌, Option, Some, None, length, refl, sym, ap, ◌∙◌, subst, inl, inr, arith, true≢false}
use Rattle.std.specs.Option.{is_some}
use Rattle.std.proofs.lemmas.Bool.{cases_lt}
use Rattle.q_logic.specs.declared.rule_bounds.Bounds.{Bounds}
use Rattle.q_logic.specs.Prelude.{Literal, IsBelow, negation, Clause, Matrix, Prefix, IsIn, ArePairs, IsSubset, Slots, slot, live, others, formula_of, IsSwept, has_empty, occurring, falsity, place, Fits}
use Rattle.q_logic.proofs.Common.{same_or_not, negation-negation, live-slot, others-slot, before_or_at}
use Rattle.q_kernel.specs.Prelude.{Seen, slots, formula_in, HoldsLiteral, IsLive}
use Rattle.q_kernel.proofs.SlotLists.{length-others, IsIn-has_empty}
use Rattle.q_subsume.specs.declared.target.Target.{Target}
use Rattle.q_subsume.specs.declared.target.Target.TheVariants.{Subsumed, Strengthen}
use Rattle.q_subsume.specs.Targets.{target_of, inner_of}
use Rattle.q_subsume.specs.Looks.{IsTurnedWithin}
use Rattle.q_subsume.specs.Searches.{IsBetween, IsBy, IsBehind, IsBefore, IsAmong}
use Rattle.q_rule.specs.Searching.{IsFound}
use Rattle.q_rule.proofs.RuleSearch.{found-none, is_some-not}
use Rattle.q_rule.proofs.IdClauses.{slot-one, slot-none}
use Rattle.q_subsume.proofs.ClauseLengths.{within-length, turned-length}

-- what a target says of the clauses of its numbers
pub record Says (C D : Clause) (t : Target) : Type 0 where
  pub told : (IsSubset C D) ⊎ ((l : Literal) × (t ≡ Strengthen (inner_of t) (place (target_of t)) l) × IsIn (negation l) C × IsTurnedWithin C D l)

pub told : (B : Bounds) (P : Prefix) (N : Slots) (c d : ℕ) (C D : Clause) (t : Target) → slot N c ≡ Some C → slot N d ≡ Some D → IsBetween c d t → Fits B P N (target_of t) → Says C D t
told B P N c d C D (Subsumed a b) e f q (E, G, n, g, i, w) =
    let u : E ≡ C = slot-one N c E C (subst (λ (x : ℕ). slot N x ≡ Some E) q.inner g) e in
    let v : G ≡ D = slot-one N d G D (subst (λ (x : ℕ). slot N x ≡ Some G) q.other i) f in
    record { told = inl (subst (λ (x : Clause). IsSubset x D) u (subst (λ (x : Clause). IsSubset E x) v w)) }
told B P N c d C D (Strengthen a b l) e f q (E, G, n, g, i, inD, inC, w) =
    let u : E ≡ C = slot-one N c E C (subst (λ (x : ℕ). slot N x ≡ Some E) q.inner g) e in
    let v : G ≡ D = slot-one N d G D (subst (λ (x : ℕ). slot N x ≡ Some G) q.other i) f in
    let h : IsTurnedWithin E G l = record { held = inD; rest = w } in
    record { told = inr (l, refl, subst (λ (x : Clause). IsIn (negation l) x) u inC, subst (λ (x : Clause). IsTurnedWithin x D l) u (subst (λ (x : Clause). IsTurnedWithin E x l) v h)) }

-- a longer clause lies in no shorter slot-one
pub longer-none : (k : Seen) (c d : ℕ) (C D : Clause) → slot (slots k) c ≡ Some C → slot (slots k) d ≡ Some D → ArePairs IsBelow C → ArePairs IsBelow D → length D < length C → (t : Target) → IsBetween c d t → (B : Bounds) → Fits B k.prefix (slots k) (target_of t) → ⊥
longer-none k c d C D e f o p h t q B g = elim ((told B k.prefix (slots k) c d C D t e f q g).told) [
  | inl w ↦ let z = within-length C D o p w in absurd (omega arith)
  | inr r ↦ let z = turned-length C D r.0 o p r.2 r.3 in absurd (omega arith)
]

-- a literal of C that D lacks is the slot-one that is turned
missing-turned : (C D : Clause) (m l : Literal) → IsIn m C → (IsIn m D → ⊥) → IsTurnedWithin C D l → negation m ≡ l
missing-turned C D m l i n w = elim (same_or_not m (negation l)) [
  | inl e ↦ ap negation e ∙ negation-negation l
  | inr d ↦ absurd (n (w.rest m i d).0)
]

pub missing-none : (k : Seen) (c d : ℕ) (C D : Clause) (m : Literal) → slot (slots k) c ≡ Some C → slot (slots k) d ≡ Some D → IsIn m C → (IsIn m D → ⊥) → (IsTurnedWithin C D (negation m) → ⊥) → (t : Target) → IsBetween c d t → (B : Bounds) → Fits B k.prefix (slots k) (target_of t) → ⊥
missing-none k c d C D m e f i n h t q B g = elim ((told B k.prefix (slots k) c d C D t e f q g).told) [
  | inl w ↦ n (w m i)
  | inr r ↦ h (subst (λ (x : Literal). IsTurnedWithin C D x) (sym (missing-turned C D m r.0 i n r.3)) r.3)
]

-- no clause lies in itself
pub itself-none : (k : Seen) (c d : ℕ) → d ≡ c → (t : Target) → IsBetween c d t → (B : Bounds) → Fits B k.prefix (slots k) (target_of t) → ⊥
itself-none k c d e (Subsumed a b) q B f = f.2 (q.inner ∙ (sym e ∙ sym q.other))
itself-none k c d e (Strengthen a b l) q B f = f.2 (q.inner ∙ (sym e ∙ sym q.other))

-- One other clause, where its number is large enough.
pub record IsSeen (k : Seen) (c from d : ℕ) : Type 0 where
  pub none : from ≤ d → (t : Target) → IsBetween c d t → (B : Bounds) → Fits B k.prefix (slots k) (target_of t) → ⊥

pub seen-all : (k : Seen) (c from : ℕ) (l : Literal) → ((d : ℕ) → HoldsLiteral k d l → IsSeen k c from d) → IsFound target_of k (IsAmong k c from l) None
seen-all k c from l h = found-none target_of k (IsAmong k c from l) (λ t q B f. (h (place (target_of t)) q.holds).none q.by_clause.order t (record { inner = q.by_clause.inner; other = refl }) B f)

pub found-among : (k : Seen) (c from d : ℕ) (l : Literal) (o : Option Target) → is_some o ≡ true → HoldsLiteral k d l → ((t : Target) → o ≡ Some t → IsBetween c d t × (from ≤ d) × ((B : Bounds) → Fits B k.prefix (slots k) (target_of t))) → IsFound target_of k (IsAmong k c from l) o
found-among k c from d l o s held h = record {
  some = λ t e. let r = h t e in (record { by_clause = record { inner = r.0.inner; order = subst (λ (x : ℕ). from ≤ x) (sym r.0.other) r.1 }; holds = subst (λ (x : ℕ). HoldsLiteral k x l) (sym r.0.other) held }, r.2);
  none = λ e. absurd (is_some-not o s e);
}

-- Where c lies in d, d holds a literal of c or its negation.
either : (B : Bounds) (k : Seen) (c : ℕ) (C : Clause) (m : Literal) (t : Target) → slot (slots k) c ≡ Some C → IsIn m C → inner_of t ≡ c → Fits B k.prefix (slots k) (target_of t) → HoldsLiteral k (place (target_of t)) m ⊎ HoldsLiteral k (place (target_of t)) (negation m)
either B k c C m (Subsumed a b) e i q (E, G, n, g, j, w) =
    let u : C ≡ E = slot-one (slots k) c C E e (subst (λ (x : ℕ). slot (slots k) x ≡ Some E) q g) in
    inl (G, j, w m (subst (λ (x : Clause). IsIn m x) u i))
either B k c C m (Strengthen a b l) e i q (E, G, n, g, j, inD, inC, w) =
    let u : C ≡ E = slot-one (slots k) c C E e (subst (λ (x : ℕ). slot (slots k) x ≡ Some E) q g) in
    elim (same_or_not m (negation l)) [
      | inl f ↦ inr (G, j, subst (λ (x : Literal). IsIn x G) (sym (ap negation f ∙ negation-negation l)) inD)
      | inr d ↦ inl (G, j, (w m (subst (λ (x : Clause). IsIn m x) u i) d).0)
    ]

pub found-by : (k : Seen) (c from : ℕ) (C : Clause) (m : Literal) (o : Option Target) → slot (slots k) c ≡ Some C → IsIn m C → IsFound target_of k (IsAmong k c from m) None → IsFound target_of k (IsAmong k c from (negation m)) o → IsFound target_of k (IsBy c from) o
found-by k c from C m o e i a b = record {
  some = λ t f. let r = b.some t f in (r.0.by_clause, r.1);
  none = λ f t q B g. elim (either B k c C m t e i q.inner g) [
    | inl h ↦ a.none refl t (record { by_clause = q; holds = h }) B g
    | inr h ↦ b.none f t (record { by_clause = q; holds = h }) B g
  ];
}

-- A swept formula with an empty clause has no other.
swept-alone : (P : Prefix) (X : Matrix) → IsSwept (formula_of P X) → IsIn [] X → X ≡ [] ∷ []
swept-alone P X s m = go (has_empty X) (IsIn-has_empty X m) s
  where
    go : (b : Bool) → b ≡ true → cond b falsity (formula_of (occurring P X) X) ≡ formula_of P X → X ≡ [] ∷ []
    go true e s = sym (ap (λ F. F.matrix) s)
    go false e s = absurd (true≢false (sym e))

pub empty-none : (k : Seen) (c from : ℕ) → IsSwept (formula_in k) → slot (slots k) c ≡ Some [] → (t : Target) → IsBy c from t → (B : Bounds) → Fits B k.prefix (slots k) (target_of t) → ⊥
empty-none k c from s e t q B f = two t q.inner f
  where
    alone : live (slots k) ≡ [] ∷ []
    alone = swept-alone k.prefix (live (slots k)) s (live-slot (slots k) c [] e)

    few : (d : ℕ) (D : Clause) → c ≢ d → slot (slots k) d ≡ Some D → ⊥
    few d D n g =
        let a : length (live (slots k)) ≡ 1 = ap length alone in
        let b = length-others (slots k) d D g in
        let h : IsIn [] (others d (slots k)) = others-slot (slots k) c d [] n e in
        some (others d (slots k)) h (omega arith)
      where
        some : (X : Matrix) → IsIn [] X → length X ≡ 0 → ⊥
        some [] m e = m
        some (E ∷ X) m e = omega arith

    two : (t : Target) → inner_of t ≡ c → Fits B k.prefix (slots k) (target_of t) → ⊥
    two (Subsumed a b) q f = few b f.1 (λ z. f.2 (q ∙ z)) f.4
    two (Strengthen a b l) q f = few b f.1 (λ z. f.2 (q ∙ z)) f.4

-- One clause that lies within no other.
pub record IsTried (k : Seen) (from c : ℕ) : Type 0 where
  pub none : IsFound target_of k (IsBy c from) None

inner-live : (B : Bounds) (k : Seen) (t : Target) → Fits B k.prefix (slots k) (target_of t) → IsLive (slots k) (inner_of t)
inner-live B k (Subsumed a b) f = record { there = (f.0, f.3) }
inner-live B k (Strengthen a b l) f = record { there = (f.0, f.3) }

pub tried-behind : (k : Seen) (start from : ℕ) → ((c : ℕ) → (start ≤ c) × IsLive (slots k) c → IsTried k from c) → IsFound target_of k (IsBehind start from) None
tried-behind k start from h = found-none target_of k (IsBehind start from) (λ t q B f. (h (inner_of t) (q.behind, inner-live B k t f)).none.none refl t (record { inner = refl; order = q.order }) B f)

-- Clauses slot-one after the other: those from slot-one number on and before another.
pub record ArePassed (k : Seen) (start from at' : ℕ) : Type 0 where
  pub order : start ≤ at'
  pub none : (t : Target) → start ≤ inner_of t → inner_of t < at' → from ≤ place (target_of t) → (B : Bounds) → Fits B k.prefix (slots k) (target_of t) → ⊥

pub passed-begun : (k : Seen) (start from : ℕ) → ArePassed k start from start
passed-begun k start from = record { order = omega arith; none = λ t l h m B f. absurd (omega arith) }

-- a target whose inner number has no clause does not fit
inner-none : (B : Bounds) (k : Seen) (t : Target) → slot (slots k) (inner_of t) ≡ None → Fits B k.prefix (slots k) (target_of t) → ⊥
inner-none B k (Subsumed a b) e f = slot-none (slots k) a f.0 e f.3
inner-none B k (Strengthen a b l) e f = slot-none (slots k) a f.0 e f.3

pub dead-none : (k : Seen) (c from : ℕ) → (((C : Clause) × (slot (slots k) c ≡ Some C)) → ⊥) → (t : Target) → IsBy c from t → (B : Bounds) → Fits B k.prefix (slots k) (target_of t) → ⊥
dead-none k c from n (Subsumed a b) q B f = n (f.0, subst (λ (x : ℕ). slot (slots k) x ≡ Some f.0) q.inner f.3)
dead-none k c from n (Strengthen a b l) q B f = n (f.0, subst (λ (x : ℕ). slot (slots k) x ≡ Some f.0) q.inner f.3)

pub passed-more : (k : Seen) (start from at' c : ℕ) → at' ≤ c → ((d : ℕ) → at' ≤ d → d < c → slot (slots k) d ≡ None) → IsFound target_of k (IsBy c from) None → ArePassed k start from at' → ArePassed k start from (c + 1)
passed-more k start from at' c up between h d = record {
  order = let z = d.order in omega arith;
  none = λ t s n m B f. elim (before_or_at (inner_of t) c n) [
    | inl before ↦ elim (cases_lt (inner_of t) at') [
      | inl low ↦ d.none t s low m B f
      | inr high ↦ inner-none B k t (between (inner_of t) high before) f
    ]
    | inr here ↦ h.none refl t (record { inner = here; order = m }) B f
  ];
}

pub passed-before : (k : Seen) (end from at' : ℕ) → end ≤ at' → ArePassed k 0 from at' → IsFound target_of k (IsBefore end from) None
passed-before k end from at' l d = found-none target_of k (IsBefore end from) (λ t q B f. d.none t (omega arith) (let h = q.before in omega arith) q.order B f)

-- Once round all clauses.
pub passed-round : (k : Seen) (start from : ℕ) → IsFound target_of k (IsBehind start from) None → IsFound target_of k (IsBefore start from) None → IsFound target_of k (λ t. from ≤ place (target_of t)) None
passed-round k start from a b = found-none target_of k (λ t. from ≤ place (target_of t)) (λ t m B f. elim (cases_lt (inner_of t) start) [
  | inl low ↦ b.none refl t (record { before = low; order = m }) B f
  | inr high ↦ a.none refl t (record { behind = high; order = m }) B f
])
