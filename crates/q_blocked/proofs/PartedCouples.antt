-- Clauses of two literals.
use Rattle.std.proofs.Common.{arith, ◌≡◌, ◌≢◌, ℕ, true, inl, inr, sym, ◌∙◌, subst}
use Rattle.q_logic.specs.Prelude.{Literal, literal_eq, negation, Clause, Prefix, IsIn, keeps, Slots, others}
use Rattle.q_logic.specs.Blocking.{Clashes}
use Rattle.q_logic.proofs.Common.{IsIn-outer, literal_eq-itself}
use Rattle.q_rule.proofs.IdClauses.{slot-one}
use Rattle.q_blocked.specs.Walks.{IsCouple, IsCoupleAt, IsOpenAt, CoversNothing}
use Rattle.q_blocked.proofs.CoveredLiterals.{closed-parted}

itself-kept : (P : Prefix) (m : Literal) → keeps P m m ≡ true → ⊥
itself-kept P m z = let y : literal_eq m m ≡ true = literal_eq-itself m in grind arith

-- what is kept of such a clause is its other literal
kept-partner : (P : Prefix) (m a : Literal) (D : Clause) (k : Literal) → IsCouple m a D → IsIn k D → keeps P m k ≡ true → k ≡ a
kept-partner P m a D k h i z = elim (h.1 k i) [
  | inl e ↦ absurd (itself-kept P m (subst (λ (x : Literal). keeps P m x ≡ true) e z))
  | inr e ↦ e
]

couple-clear : (P : Prefix) (l a : Literal) (S D : Clause) → IsCouple (negation l) a D → (IsIn (negation a) S → ⊥) → Clashes P l S D → ⊥
couple-clear P l a S D h n z =
    let r = IsIn-outer P (negation l) D z.0 z.1 in
    n (subst (λ (x : Literal). IsIn (negation x) S) (kept-partner P (negation l) a D z.0 h r.0 r.1) z.2)

couple-open : (P : Prefix) (N : Slots) (c d : ℕ) (l a : Literal) (S : Clause) → IsCoupleAt N c d (negation l) a → (IsIn (negation a) S → ⊥) → IsOpenAt P N c d l S
couple-open P N c d l a S h n = (h.0, h.1, h.2.0, couple-clear P l a S h.0 h.2 n)

-- two of them with different literals beside the common one
pub couples-parted : (P : Prefix) (N : Slots) (c d e : ℕ) (l a b : Literal) (S : Clause) → IsCoupleAt N c d (negation l) a → IsCoupleAt N c e (negation l) b → b ≢ a → (IsIn (negation a) S → ⊥) → (IsIn (negation b) S → ⊥) → CoversNothing P (others c N) l S
couples-parted P N c d e l a b S x y n f g =
    closed-parted P N c l S d e (couple-open P N c d l a S x f) (couple-open P N c e l b S y g) (λ C D s t k i z j _.
    let p = slot-one N d C x.0 s x.1.1 in
    let q = slot-one N e D y.0 t y.1.1 in
    let u = kept-partner P (negation l) a x.0 k x.2 (subst (λ (E : Clause). IsIn k E) p i) z in
    let v = kept-partner P (negation l) b y.0 k y.2 (subst (λ (E : Clause). IsIn k E) q j) z in
    n (sym v ∙ u))
