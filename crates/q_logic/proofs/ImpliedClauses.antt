-- The three ways in which the clauses of the rules are implied: by a clause within, as a tautology, by a hidden literal.
use Rattle.std.proofs.Common.{◌≡◌, ◌≢◌, Bool, true, false, not, List, [], ◌∷◌, ◌⊎◌, inl, inr, arith, refl, sym, ap, subst}
use Rattle.q_logic.specs.Prelude.{Literal, negation, literal_eq, Clause, Matrix, IsIn, Chain, begin, more, negations, Implied, IsSubset, IsTautology}
use Rattle.q_logic.proofs.ClauseLemmas.{literal_eq-sound, literal_eq-itself}
use Rattle.q_logic.proofs.Propagation.{implied-same}

pub negation-negation : (k : Literal) → negation (negation k) ≡ k
negation-negation k = λ i. record { var = k.var; negative = twice k.negative i }
  where
    twice : (b : Bool) → not (not b) ≡ b
    twice true = refl
    twice false = refl

pub IsIn-inverter : (S : Clause) (k : Literal) → IsIn k S → IsIn (negation k) (negations S)
IsIn-inverter [] k m = elim m [ ]
IsIn-inverter (j ∷ S) k (inl e) = inl (ap negation e)
IsIn-inverter (j ∷ S) k (inr m) = inr (IsIn-inverter S k m)

-- Equal or not.
pub same_or_not : (j k : Literal) → (j ≡ k) ⊎ (j ≢ k)
same_or_not j k = go (literal_eq j k) refl
  where
    go : (b : Bool) → literal_eq j k ≡ b → (j ≡ k) ⊎ (j ≢ k)
    go true q = inl (literal_eq-sound j k q)
    go false q = inr (λ e. let z : literal_eq j k ≡ true = subst (λ y. literal_eq j y ≡ true) e (literal_eq-itself j) in grind arith)

pub implied-longer : (X : Matrix) (S T : Clause) → IsSubset S T → Implied X S → Implied X T
implied-longer X S T w i = implied-same X X S T (λ D m. m) w i

pub implied-more_clauses : (X Y : Matrix) (S : Clause) → ((D : Clause) → IsIn D X → IsIn D Y) → Implied X S → Implied Y S
implied-more_clauses X Y S f i = implied-same X Y S S f (λ k m. m) i

pub implied-subsumed : (X : Matrix) (D S : Clause) → IsIn D X → IsSubset D S → Implied X S
implied-subsumed X D S m w = (negations S, begin, inr (D, m, λ j i. IsIn-inverter S j (w j i)))

pub implied-tautology : (X : Matrix) (S : Clause) → IsTautology S → Implied X S
implied-tautology X S (k, a, b) = (negations S, begin, inl (negation k, IsIn-inverter S k a, IsIn-inverter S (negation k) b))

chain-trans : (X : Matrix) (S K L : List Literal) → Chain X S K → Chain X K L → Chain X S L
chain-trans X S K L a begin = a
chain-trans X S K L a (more {K = M} h D inX inD rest ch) = more h D inX inD rest (chain-trans X S K M a ch)

-- A clause of which all other literals are in S: the negation of the last one may come into S.
pub implied-hidden : (X : Matrix) (D S : Clause) (k : Literal) → IsIn D X → IsIn k D → ((j : Literal) → IsIn j D → j ≢ k → IsIn j S) → Implied X (negation k ∷ S) → Implied X S
implied-hidden X D S k inX inD rest (K, ch, conflict) = (K, chain-trans X (negations S) (k ∷ negations S) K (more k D inX inD (λ j m n. IsIn-inverter S j (rest j m n)) begin) from_k, conflict)
  where
    from_k : Chain X (k ∷ negations S) K
    from_k = subst (λ y. Chain X (y ∷ negations S) K) (negation-negation k) ch

-- The same, told by the new literal.
pub implied-hidden_new : (X : Matrix) (D S : Clause) (k : Literal) → IsIn D X → IsIn (negation k) D → ((j : Literal) → IsIn j D → j ≢ negation k → IsIn j S) → Implied X (k ∷ S) → Implied X S
implied-hidden_new X D S k inX inD rest i = implied-hidden X D S (negation k) inX inD rest (subst (λ y. Implied X (y ∷ S)) (sym (negation-negation k)) i)
