-- Sets that are reached by stages and hidden literals.
use Rattle.std.proofs.Common.{◌≡◌, ◌≤◌, ◌⊎◌, ℕ, true, List, [], ◌∷◌, ◌++◌, take, length, inl, inr, arith, refl, sym, ◌∙◌, subst, Some, None, length-append}
use Rattle.std.proofs.lemmas.List.{take-append-le}
use Rattle.q_logic.specs.Prelude.{Literal, negation, literal_eq, Clause, Matrix, Prefix, IsIn, is_bound, is_existential, Implied, keeps, outer, ExistsPivot, IsSubset, IsTautology, Within}
use Rattle.q_logic.specs.Blocking.{Clashes, AllClash}
use Rattle.q_logic.specs.Covering.{Covered, InEach, Covers}
use Rattle.q_logic.proofs.Common.{literal_eq-itself, IsIn-append, IsIn-append_left, IsIn-outer, IsIn-append_right, implied-longer, implied-subsumed, implied-tautology, implied-hidden_new, taken-all, IsIn-take}
use Rattle.q_logic.proofs.CoverRun.{clash_or_not}
use Rattle.q_blocked.specs.declared.plan.Stage.{Stage}
use Rattle.q_blocked.specs.Plans.{front, MayGo, IsWay}
use Rattle.q_blocked.specs.Growths.{Falls, IsReached, IsCovered}
use Rattle.q_blocked.specs.Walks.{Gives}
use Rattle.q_blocked.proofs.ClauseFronts.{front-in, in-front}
use Rattle.q_blocked.proofs.HiddenLiterals.{hidden-growth}

-- Ways over longer lists, and longer ways.
front-more : (S K : List Literal) (n : ℕ) → n ≤ length S → front (S ++ K) n ≡ front S n
front-more S K n h = let e : take n (S ++ K) ≡ take n S = take-append-le n S K h in rw e refl

pub way-more : (P : Prefix) (X : Matrix) (S K : List Literal) (from to : ℕ) (ss : List Stage) → IsWay P X S from ss to → IsWay P X (S ++ K) from ss to
way-more P X S K from to [] w = w
way-more P X S K from to (s ∷ ss) w = (
  w.0,
  (let z = w.1 in let l = length-append S K in omega arith),
  subst (λ (T : Clause). MayGo P (T ∷ X) (front (S ++ K) from) s.on) (sym (front-more S K s.to w.1))
      (subst (λ (A : Clause). MayGo P (front S s.to ∷ X) A s.on) (sym (front-more S K from (let y = w.0 in let z = w.1 in omega arith))) w.2),
  way-more P X S K s.to to ss w.3,
)

pub way-longer : (P : Prefix) (X : Matrix) (S : List Literal) (from to : ℕ) (ss : List Stage) (s : Stage) → to ≤ s.to → s.to ≤ length S → MayGo P (front S s.to ∷ X) (front S to) s.on → IsWay P X S from ss to → IsWay P X S from (ss ++ s ∷ []) s.to
way-longer P X S from to [] s a b g w = (subst (λ (n : ℕ). n ≤ s.to) (sym w) a, b, subst (λ (n : ℕ). MayGo P (front S s.to ∷ X) (front S n) s.on) (sym w) g, refl)
way-longer P X S from to (r ∷ ss) s a b g w = (w.0, w.1, w.2, way-longer P X S r.to to ss s a b g w.3)

-- where all literals are there already
pub falls-all : (X : Matrix) (S : Clause) → Falls X (take (length S) S) S
falls-all X S Y f U w i = implied-longer Y (U ++ S) U (λ k m. elim (IsIn-append k U S m) [ inl a ↦ a | inr b ↦ w k (subst (λ (T : Clause). IsIn k T) (sym (taken-all S (length S) (omega arith))) b) ]) i

-- The clause itself.
pub reached-begun : (P : Prefix) (X : Matrix) (C : Clause) → Within P C → IsReached P X C C [] (length C)
reached-begun P X C w = record {
  back = λ c. c;
  begins = taken-all C (length C) (omega arith);
  within = w;
  far = omega arith;
  near = omega arith;
  way = refl;
  falls = falls-all X C;
}

-- by a hidden literal
falls-hidden : (X : Matrix) (A S D : Clause) (new : Literal) → IsIn D X → Gives S D new → Falls X A S → Falls X A (S ++ new ∷ [])
falls-hidden X A S D new m g h Y f U w i = h Y f U w (implied-hidden_new Y D (U ++ S) new (f D m) g.negated (λ j x d. IsIn-append_right j U S (g.others_in j x d))
    (implied-longer Y (U ++ (S ++ new ∷ [])) (new ∷ (U ++ S)) sub i))
  where
    sub : IsSubset (U ++ (S ++ new ∷ [])) (new ∷ (U ++ S))
    sub k x = elim (IsIn-append k U (S ++ new ∷ []) x) [
      | inl a ↦ inr (IsIn-append_left k U S a)
      | inr b ↦ elim (IsIn-append k S (new ∷ []) b) [
        | inl a ↦ inr (IsIn-append_right k U S a)
        | inr e ↦ elim e [ inl q ↦ inl q | inr none ↦ absurd none ]
      ]
    ]

module _ (P : Prefix) (X : Matrix) (C S : Clause) (ss : List Stage) (base : ℕ) (r : IsReached P X C S ss base) where
  start-near : length C ≤ length S
  start-near = let a = r.far in let b = r.near in omega arith

  -- what a longer list keeps
  begins-more : (K : Clause) → take (length C) (S ++ K) ≡ C
  begins-more K = take-append-le (length C) S K start-near ∙ r.begins

  base-more : (K : Clause) → take base (S ++ K) ≡ take base S
  base-more K = take-append-le base S K r.near

  within-more : (K : Clause) → Within P K → Within P (S ++ K)
  within-more K w k m = elim (IsIn-append k S K m) [ inl a ↦ r.within k a | inr b ↦ w k b ]

  in-base : (k : Literal) → IsIn k (take base S) → IsIn k (front S base)
  in-base k m = in-front S base k m

  -- a hidden literal comes
  pub reached-hidden : (D : Clause) (new : Literal) → IsIn D X → Gives S D new → is_bound P new.var ≡ true → IsReached P X C (S ++ new ∷ []) ss base
  reached-hidden D new m g b = record {
    back = λ c. r.back (Covers.grown S (inl (hidden-growth X S D new m g)) c);
    begins = begins-more (new ∷ []);
    within = within-more (new ∷ []) (λ k i. elim i [ inl e ↦ subst (λ (l : Literal). is_bound P l.var ≡ true) (sym e) b | inr none ↦ absurd none ]);
    far = r.far;
    near = let n = r.near in let l = length-append S (new ∷ []) in omega arith;
    way = way-more P X S (new ∷ []) (length C) base ss r.way;
    falls = subst (λ (A : Clause). Falls X A (S ++ new ∷ [])) (sym (base-more (new ∷ []))) (falls-hidden X (take base S) S D new m g r.falls);
  }

  -- the clause of the set comes
  pub reached-staged : IsReached P X C S (ss ++ record { to = length S; on = None } ∷ []) (length S)
  reached-staged = record {
    back = r.back;
    begins = r.begins;
    within = r.within;
    far = start-near;
    near = omega arith;
    way = way-longer P X S (length C) base ss (record { to = length S; on = None }) r.near (omega arith) goes r.way;
    falls = falls-all X S;
  }
    where
      goes : Implied (front S (length S) ∷ X) (front S base)
      goes = r.falls (front S (length S) ∷ X) (λ D m. inr m) (front S base) (λ k m. in-base k m)
          (implied-subsumed (front S (length S) ∷ X) (front S (length S)) (front S base ++ S) (inl refl) (λ k m. IsIn-append_right k (front S base) S (IsIn-take S (length S) k (front-in S (length S) k m))))

  -- a tautology ends it
  pub covered-tautology : IsTautology S → IsCovered P X C S ss base None
  covered-tautology (k, a, b) = record {
    covers = r.back (Covers.ended S (inl (k, a, b)));
    begins = r.begins;
    within = r.within;
    way = r.way;
    goes = r.falls X (λ D m. m) (front S base) (λ j m. in-base j m) (implied-tautology X (front S base ++ S) (k, IsIn-append_right k (front S base) S a, IsIn-append_right (negation k) (front S base) S b));
  }

  -- a pivot of the last stage, where all clauses clash
  pub covered-blocked : (l : Literal) → IsIn l (take base S) → is_existential P l.var ≡ true → AllClash P X l S → IsCovered P X C S ss base (Some l)
  covered-blocked l m e all = record {
    covers = r.back (Covers.ended S (inr (l, IsIn-take S base l m, e, all)));
    begins = r.begins;
    within = r.within;
    way = r.way;
    goes = record {
      existential_pivot = e;
      in_clause = in-base l m;
      implied = λ D i n. let c : Clashes P l S D = all D i n in
          r.falls X (λ E x. x) (front S base ++ outer P (negation l) D) (λ k x. IsIn-append_left k (front S base) (outer P (negation l) D) (in-base k x))
          (implied-tautology X ((front S base ++ outer P (negation l) D) ++ S)
          (c.0, IsIn-append_left c.0 (front S base ++ outer P (negation l) D) S (IsIn-append_right c.0 (front S base) (outer P (negation l) D) c.1), IsIn-append_right (negation c.0) (front S base ++ outer P (negation l) D) S c.2));
    };
  }

  -- covered literals come, on a literal of the last stage
  module _ (K : Clause) (h : Covered P X S (S ++ K)) (m : IsIn h.on (take base S)) (closed : (D : Clause) → IsIn D X → Within P D) where
    abbrev T : Clause
    T = S ++ K

    within-K : Within P T
    within-K k i = elim ((h.grown k).0 i) [
      | inl e ↦ closed h.some.0 h.some.1 k (IsIn-outer P (negation h.on) h.some.0 k (e h.some.0 h.some.1 h.some.2 h.some.3)).0
      | inr j ↦ r.within k j
    ]

    in-A : (k : Literal) → IsIn k (take base S) → IsIn k (front T base)
    in-A k i = in-front T base k (subst (λ (L : Clause). IsIn k L) (sym (base-more K)) i)

    -- not the pivot's negation
    not_negated : InEach P X h.on S (negation h.on) → ⊥
    not_negated e = let z : keeps P (negation h.on) (negation h.on) ≡ true = (IsIn-outer P (negation h.on) h.some.0 (negation h.on) (e h.some.0 h.some.1 h.some.2 h.some.3)).1 in let y : literal_eq (negation h.on) (negation h.on) ≡ true = literal_eq-itself (negation h.on) in grind arith

    -- beside the clause of all literals
    pub pivot-covered : ExistsPivot P (front T (length T) ∷ X) (front T base) h.on
    pivot-covered = record {
      existential_pivot = h.existential;
      in_clause = in-A h.on m;
      implied = λ D i n. r.falls (front T (length T) ∷ X) (λ E x. inr x) (front T base ++ outer P (negation h.on) D) (λ k x. IsIn-append_left k (front T base) (outer P (negation h.on) D) (in-A k x)) (held D i n);
    }
      where
        whole : (k : Literal) → IsIn k (front T (length T)) → IsIn k T
        whole k x = IsIn-take T (length T) k (front-in T (length T) k x)

        held : (D : Clause) → IsIn D (front T (length T) ∷ X) → IsIn (negation h.on) D → Implied (front T (length T) ∷ X) ((front T base ++ outer P (negation h.on) D) ++ S)
        held D (inl e) n = implied-tautology (front T (length T) ∷ X) ((front T base ++ outer P (negation h.on) D) ++ S) (
          h.on,
          IsIn-append_right h.on (front T base ++ outer P (negation h.on) D) S h.there,
          IsIn-append_right (negation h.on) (front T base ++ outer P (negation h.on) D) S (elim ((h.grown (negation h.on)).0 (whole (negation h.on) (subst (λ (E : Clause). IsIn (negation h.on) E) e n))) [ inl a ↦ absurd (not_negated a) | inr b ↦ b ]),
        )
        held D (inr i) n = elim (clash_or_not P h.on S D) [
          | inl c ↦ implied-tautology (front T (length T) ∷ X) ((front T base ++ outer P (negation h.on) D) ++ S)
              (c.0, IsIn-append_left c.0 (front T base ++ outer P (negation h.on) D) S (IsIn-append_right c.0 (front T base) (outer P (negation h.on) D) c.1), IsIn-append_right (negation c.0) (front T base ++ outer P (negation h.on) D) S c.2)
          | inr c ↦ implied-subsumed (front T (length T) ∷ X) (front T (length T)) ((front T base ++ outer P (negation h.on) D) ++ S) (inl refl) (λ k x. elim ((h.grown k).0 (whole k x)) [
            | inl e ↦ IsIn-append_left k (front T base ++ outer P (negation h.on) D) S (IsIn-append_right k (front T base) (outer P (negation h.on) D) (e D i n c))
            | inr j ↦ IsIn-append_right k (front T base ++ outer P (negation h.on) D) S j
          ])
        ]

    pub reached-covered : IsReached P X C T (ss ++ record { to = length T; on = Some h.on } ∷ []) (length T)
    reached-covered = record {
      back = λ c. r.back (Covers.grown S (inr h) c);
      begins = begins-more K;
      within = within-K;
      far = let a = start-near in let l = length-append S K in omega arith;
      near = omega arith;
      way = way-longer P X T (length C) base ss (record { to = length T; on = Some h.on }) (let a = r.near in let l = length-append S K in omega arith) (omega arith) pivot-covered (way-more P X S K (length C) base ss r.way);
      falls = falls-all X T;
    }

    -- they make it a tautology
    pub covered-opposed : IsTautology T → IsCovered P X C T ss base (Some h.on)
    covered-opposed (k, a, b) = record {
      covers = r.back (Covers.grown S (inr h) (Covers.ended T (inl (k, a, b))));
      begins = begins-more K;
      within = within-K;
      way = way-more P X S K (length C) base ss r.way;
      goes = record {
        existential_pivot = h.existential;
        in_clause = in-A h.on m;
        implied = λ D i n. r.falls X (λ E x. x) (front T base ++ outer P (negation h.on) D) (λ j x. IsIn-append_left j (front T base) (outer P (negation h.on) D) (in-A j x))
            (implied-tautology X ((front T base ++ outer P (negation h.on) D) ++ S) (opposite D i n (clash_or_not P h.on S D)));
      };
    }
      where
        there : (D : Clause) → IsIn D X → IsIn (negation h.on) D → (Clashes P h.on S D → ⊥) → (j : Literal) → IsIn j T → IsIn j ((front T base ++ outer P (negation h.on) D) ++ S)
        there D i n c j x = elim ((h.grown j).0 x) [
          | inl e ↦ IsIn-append_left j (front T base ++ outer P (negation h.on) D) S (IsIn-append_right j (front T base) (outer P (negation h.on) D) (e D i n c))
          | inr y ↦ IsIn-append_right j (front T base ++ outer P (negation h.on) D) S y
        ]

        opposite : (D : Clause) → IsIn D X → IsIn (negation h.on) D → Clashes P h.on S D ⊎ (Clashes P h.on S D → ⊥) → IsTautology ((front T base ++ outer P (negation h.on) D) ++ S)
        opposite D i n (inl c) = (c.0, IsIn-append_left c.0 (front T base ++ outer P (negation h.on) D) S (IsIn-append_right c.0 (front T base) (outer P (negation h.on) D) c.1), IsIn-append_right (negation c.0) (front T base ++ outer P (negation h.on) D) S c.2)
        opposite D i n (inr c) = (k, there D i n c k a, there D i n c (negation k) b)
