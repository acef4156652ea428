-- What a search for targets has found, or passed by.
use Rattle.std.proofs.Common.{◌≡◌, ◌≤◌, ◌<◌, ◌+◌, ℕ, true, Option, Some, None, refl, sym, subst, inl, inr, arith, true≢false}
use Rattle.std.specs.Option.{is_some}
use Rattle.std.proofs.lemmas.Bool.{cases_lt}
use Rattle.q_logic.specs.declared.rule_bounds.Bounds.{Bounds}
use Rattle.q_logic.specs.Prelude.{Target, place, Fits}
use Rattle.q_logic.proofs.Common.{before_or_at}
use Rattle.q_kernel.specs.Prelude.{Seen, slots}
use Rattle.q_rule.specs.Searching.{IsAt, IsFound}

pub is_some-not : {T : Type 0} (o : Option T) → is_some o ≡ true → o ≡ None → ⊥
is_some-not None h e = true≢false (sym h)
is_some-not (Some t) h e = let z : Some t ≡ None = e in cc

pub found-one : {T : Type 0} (target_of : T → Target) (k : Seen) (Q : T → Type 0) (u : T) → Q u → ((B : Bounds) → Fits B k.prefix (slots k) (target_of u)) → IsFound target_of k Q (Some u)
found-one target_of k Q u q f = record {
  some = λ t e. let s : u ≡ t = cc in (subst Q s q, λ B. subst (λ (x : _). Fits B k.prefix (slots k) (target_of x)) s (f B));
  none = λ e. absurd (is_some-not (Some u) refl e);
}

pub found-none : {T : Type 0} (target_of : T → Target) (k : Seen) (Q : T → Type 0) → ((t : T) → Q t → (B : Bounds) → Fits B k.prefix (slots k) (target_of t) → ⊥) → IsFound target_of k Q None
found-none target_of k Q h = record { some = λ t e. absurd (is_some-not (Some t) refl (sym e)); none = λ e. h }

-- a target that was found is one of another kind as well
pub found-more : {T : Type 0} (target_of : T → Target) (k : Seen) (P Q : T → Type 0) (o : Option T) → is_some o ≡ true → ((t : T) → P t → Q t) → IsFound target_of k P o → IsFound target_of k Q o
found-more target_of k P Q o s f h = record { some = λ t e. let r = h.some t e in (f t r.0, r.1); none = λ e. absurd (is_some-not o s e) }

-- no target fits whose place is from one number on and below another
pub record IsPassed {T : Type 0} (target_of : T → Target) (k : Seen) (from at' : ℕ) : Type 0 where
  pub order : from ≤ at'
  pub none : (t : T) → from ≤ place (target_of t) → place (target_of t) < at' → (B : Bounds) → Fits B k.prefix (slots k) (target_of t) → ⊥

pub passed-begun : {T : Type 0} (target_of : T → Target) (k : Seen) (from : ℕ) → IsPassed target_of k from from
passed-begun target_of k from = record { order = omega arith; none = λ t l m B f. absurd (omega arith) }

-- nothing fits between the two places, and nothing at the second
pub passed-more : {T : Type 0} (target_of : T → Target) (k : Seen) (from at' p : ℕ) → at' ≤ p → ((t : T) → at' ≤ place (target_of t) → place (target_of t) < p → (B : Bounds) → Fits B k.prefix (slots k) (target_of t) → ⊥) → IsFound target_of k (IsAt target_of p) None → IsPassed target_of k from at' → IsPassed target_of k from (p + 1)
passed-more target_of k from at' p l between h d = record {
  order = let z = d.order in omega arith;
  none = λ t m n B f. elim (before_or_at (place (target_of t)) p n) [
    | inl before ↦ elim (cases_lt (place (target_of t)) at') [
      | inl low ↦ d.none t m low B f
      | inr high ↦ between t high before B f
    ]
    | inr here ↦ h.none refl t here B f
  ];
}

pub passed-found : {T : Type 0} (target_of : T → Target) (k : Seen) (from at' p : ℕ) (o : Option T) → at' ≤ p → is_some o ≡ true → IsFound target_of k (IsAt target_of p) o → IsPassed target_of k from at' → IsFound target_of k (λ t. from ≤ place (target_of t)) o
passed-found target_of k from at' p o l s h d = found-more target_of k (IsAt target_of p) (λ t. from ≤ place (target_of t)) o s (λ t z. let y = d.order in omega arith) h

pub passed-all : {T : Type 0} (target_of : T → Target) (k : Seen) (from at' : ℕ) → ((t : T) → at' ≤ place (target_of t) → (B : Bounds) → Fits B k.prefix (slots k) (target_of t) → ⊥) → IsPassed target_of k from at' → IsFound target_of k (λ t. from ≤ place (target_of t)) None
passed-all target_of k from at' rest d = found-none target_of k (λ t. from ≤ place (target_of t)) (λ t m B f. elim (cases_lt (place (target_of t)) at') [
  | inl low ↦ d.none t m low B f
  | inr high ↦ rest t high B f
])
