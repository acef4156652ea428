-- Covered literals, clause by clause.
use Rattle.std.proofs.Common.{◌≡◌, ◌⊎◌, ℕ, Bool, true, false, List, [], ◌∷◌, ◌++◌, Contains, Some, inl, inr, refl, sym, ◌∙◌, subst, true≢false}
use Rattle.q_logic.specs.Prelude.{Literal, negation, Clause, Matrix, Prefix, IsIn, is_existential, keeps, outer, Slots, slot, others}
use Rattle.q_logic.specs.Blocking.{Clashes}
use Rattle.q_logic.specs.Covering.{InEach, Covered}
use Rattle.q_logic.proofs.Common.{others-slot, IsIn-outer, IsIn-append, IsIn-append_left, IsIn-append_right, IsIn-outer_in}
use Rattle.q_logic.proofs.CoverRun.{in_or_not}
use Rattle.q_blocked.specs.Walks.{IsOpen, IsOpenAt, CoversNothing, IsCutBy, IsNarrowed, IsLooked}
use Rattle.q_rule.proofs.IdClauses.{slot-one}
use Rattle.q_blocked.proofs.PassedClauses.{HasPassed, passed-begun, passed-one, passed-map, passed-all}

-- what the literals that are found so far keep to of a clause
abbrev pub IsMet : Prefix → Literal → Clause → List Literal → Clause → Type 0
IsMet P l S K D = Clashes P l S D ⊎ ((k : Literal) → IsIn k K → IsIn k (outer P (negation l) D))

pub record IsCut (P : Prefix) (N : Slots) (c : ℕ) (seen : List ℕ) (l : Literal) (S : Clause) (met : Bool) (K : List Literal) : Type 0 where
  pub none : met ≡ false → HasPassed N c seen (λ D. Clashes P l S D)
  pub some : met ≡ true → IsOpen P (others c N) l S
  pub each : met ≡ true → HasPassed N c seen (λ D. IsMet P l S K D)
  pub kept : met ≡ true → (k : Literal) → IsIn k K → (keeps P (negation l) k ≡ true) × (IsIn k S → ⊥)
  pub has : met ≡ true → (k : Literal) → InEach P (others c N) l S k → (IsIn k S → ⊥) → IsIn k K

pub cut-begun : (P : Prefix) (N : Slots) (c : ℕ) (l : Literal) (S : Clause) (K : List Literal) → IsCut P N c [] l S false K
cut-begun P N c l S K = record {
  none = λ e. passed-begun N c (λ D. Clashes P l S D);
  some = λ e. absurd (true≢false (sym e));
  each = λ e. absurd (true≢false (sym e));
  kept = λ e. absurd (true≢false (sym e));
  has = λ e. absurd (true≢false (sym e));
}

cut-by : (P : Prefix) (N : Slots) (c : ℕ) (seen : List ℕ) (d : ℕ) (l : Literal) (S : Clause) (was now : Bool) (old new : List Literal) → IsCutBy P N c d l S was old now new → IsCut P N c seen l S was old → (b : Bool) → was ≡ b → IsCut P N c (seen ++ d ∷ []) l S now new
cut-by P N c seen d l S was now old new h s false e = record {
  none = λ q. absurd (true≢false (sym h.opened ∙ q));
  some = λ q. (h.by, others-slot N d c h.by h.beside.0 h.beside.1, h.holds, h.clear);
  each = λ q. passed-one N c seen d (λ D. IsMet P l S new D)
      (λ D b. inr (λ k m. let r = (h.first e k).0 m in subst (λ (x : Clause). IsIn k (outer P (negation l) x)) (slot-one N d h.by D h.beside.1 b.1) (IsIn-outer_in P (negation l) h.by k r.0 r.1)))
      (passed-map N c seen (λ D. Clashes P l S D) (λ D. IsMet P l S new D) (λ D m. inl m) (s.none e));
  kept = λ q k m. let r = (h.first e k).0 m in (r.1, r.2);
  has = λ q k i n. let r = IsIn-outer P (negation l) h.by k (i h.by (others-slot N d c h.by h.beside.0 h.beside.1) h.holds h.clear) in (h.first e k).1 (r.0, r.1, n);
}
cut-by P N c seen d l S was now old new h s true e = record {
  none = λ q. absurd (true≢false (sym h.opened ∙ q));
  some = λ q. s.some e;
  each = λ q. passed-one N c seen d (λ D. IsMet P l S new D)
      (λ D b. inr (λ k m. let r = (h.next e k).0 m in subst (λ (x : Clause). IsIn k (outer P (negation l) x)) (slot-one N d h.by D h.beside.1 b.1) (IsIn-outer_in P (negation l) h.by k r.1 (s.kept e k r.0).0)))
      (passed-map N c seen (λ D. IsMet P l S old D) (λ D. IsMet P l S new D) (λ D m. elim m [ inl x ↦ inl x | inr f ↦ inr (λ k i. f k ((h.next e k).0 i).0) ]) (s.each e));
  kept = λ q k m. s.kept e k ((h.next e k).0 m).0;
  has = λ q k i n. let r = IsIn-outer P (negation l) h.by k (i h.by (others-slot N d c h.by h.beside.0 h.beside.1) h.holds h.clear) in (h.next e k).1 (s.has e k i n, r.0);
}

pub cut-more : (P : Prefix) (N : Slots) (c : ℕ) (seen : List ℕ) (d : ℕ) (l : Literal) (S : Clause) (was now : Bool) (old new : List Literal) → IsNarrowed P N c d l S was old now new → IsCut P N c seen l S was old → IsCut P N c (seen ++ d ∷ []) l S now new
cut-more P N c seen d l S was now old new (inr h) s = cut-by P N c seen d l S was now old new h s was refl
cut-more P N c seen d l S was now old new (inl (f, e, q)) s = record {
  none = λ r. passed-one N c seen d (λ D. Clashes P l S D) f (s.none (sym e ∙ r));
  some = λ r. s.some (sym e ∙ r);
  each = λ r. subst (λ (K : List Literal). HasPassed N c (seen ++ d ∷ []) (λ D. IsMet P l S K D)) (sym q) (passed-one N c seen d (λ D. IsMet P l S old D) (λ D b. inl (f D b)) (s.each (sym e ∙ r)));
  kept = λ r k m. s.kept (sym e ∙ r) k (subst (λ (K : List Literal). IsIn k K) q m);
  has = λ r k i n. subst (λ (K : List Literal). IsIn k K) (sym q) (s.has (sym e ∙ r) k i n);
}

-- nothing is left to find
pub cut-empty : (P : Prefix) (N : Slots) (c : ℕ) (seen : List ℕ) (l : Literal) (S : Clause) (met : Bool) (K : List Literal) → met ≡ true → ((k : Literal) → IsIn k K → ⊥) → IsCut P N c seen l S met K → IsLooked P (others c N) l S K true
cut-empty P N c seen l S met K e n s = (s.some e, λ k. ((λ m. absurd (n k m)), λ m. s.has e k m.0 m.1))

pub cut-done : (P : Prefix) (N : Slots) (c : ℕ) (seen : List ℕ) (l : Literal) (S : Clause) (met : Bool) (K : List Literal) → ((d : ℕ) (E : Clause) → slot N d ≡ Some E → IsIn (negation l) E → Contains seen d) → IsCut P N c seen l S met K → IsLooked P (others c N) l S K met
cut-done P N c seen l S false K all s = passed-all N c (negation l) seen (λ D. Clashes P l S D) all (s.none refl)
cut-done P N c seen l S true K all s = (
  s.some refl,
  λ k. (
    (λ m. ((λ D i h n. elim (passed-all N c (negation l) seen (λ E. IsMet P l S K E) all (s.each refl) D i h) [ inl x ↦ absurd (n x) | inr f ↦ f k m ]), (s.kept refl k m).1)),
    λ m. s.has refl k m.0 m.1,
  ),
)

-- two clauses that have nothing in common beyond the set
pub closed-parted : (P : Prefix) (N : Slots) (c : ℕ) (l : Literal) (S : Clause) (d e : ℕ) → IsOpenAt P N c d l S → IsOpenAt P N c e l S → ((C D : Clause) → slot N d ≡ Some C → slot N e ≡ Some D → (k : Literal) → IsIn k C → keeps P (negation l) k ≡ true → IsIn k D → (IsIn k S → ⊥) → ⊥) → CoversNothing P (others c N) l S
closed-parted P N c l S d e a b h = (
  (a.0, others-slot N d c a.0 a.1.0 a.1.1, a.2, a.3),
  λ k i.
      let r = IsIn-outer P (negation l) a.0 k (i a.0 (others-slot N d c a.0 a.1.0 a.1.1) a.2 a.3) in
      let s = IsIn-outer P (negation l) b.0 k (i b.0 (others-slot N e c b.0 b.1.0 b.1.1) b.2 b.3) in
      elim (in_or_not k S) [ inl m ↦ m | inr n ↦ absurd (h a.0 b.0 a.1.1 b.1.1 k r.0 r.1 s.0 n) ],
)

-- the set grows by them
abbrev pub covered-growth : (P : Prefix) (X : Matrix) (l : Literal) (S : Clause) (k : Literal) (K : List Literal) → is_existential P l.var ≡ true → IsIn l S → IsIn k K → IsLooked P X l S K true → Covered P X S (S ++ K)
covered-growth P X l S k K e m i h = record {
  on = l;
  existential = e;
  there = m;
  some = h.0;
  new = let r = (h.1 k).0 i in (k, r.0, r.1);
  grown = λ j. (
    (λ a. elim (IsIn-append j S K a) [ inl b ↦ inr b | inr b ↦ inl ((h.1 j).0 b).0 ]),
    λ a. elim a [
      | inr b ↦ IsIn-append_left j S K b
      | inl b ↦ elim (in_or_not j S) [ inl x ↦ IsIn-append_left j S K x | inr n ↦ IsIn-append_right j S K ((h.1 j).1 (b, n)) ]
    ],
  );
}
