-- A long-distance refutation with each literal turned round; and what both kinds of proof show.
use Rattle.std.proofs.Common.{◌≡◌, ℕ, Bool, true, false, not, List, [], ◌∷◌, inl, inr, refl, sym, ap, ◌∙◌, subst, slice_get, Option, Some, None}
use Rattle.std.specs.Option.{option_map}
use Rattle.std.proofs.lemmas.Option.{slice_get-map}
use Rattle.q_logic.specs.Prelude.{Literal, negation, Prefix, Matrix, IsIn, Distinct, Assignment, signed, PrenexFormula, IsFormula, Holds, SkolemOf, Strategy, outcome}
use Rattle.q_logic.specs.Truth.{ClauseTrue, MatrixTrue}
use Rattle.q_logic.specs.Exchanging.{exchanged}
use Rattle.q_logic.specs.Herbrands.{MatrixFalse, HerbrandOf}
use Rattle.q_logic.proofs.ImpliedClauses.{negation-negation}
use Rattle.q_logic.proofs.Exchanged.{exchanged-distinct, exchanged-lawful}
use Rattle.q_logic.proofs.Falsity.{herbrand-false}
use Rattle.q_logic.proofs.Truth.{skolem_makes-true}
use Rattle.q_derive.specs.Derivations.{TermTrue, Line, Reason, leaf, resolve, reduce, IsBefore, IsRest, IsHitting, HoldsClause}
use Rattle.q_derive.specs.Extracted.{turned_all, turned_line, turned_reason, turned}
use Rattle.q_derive.proofs.Turning.{Turned}
use Rattle.q_derive.proofs.Winning.{hitting-true}
use Rattle.q_long.specs.Decided.{circuits_of}
use Rattle.q_long.specs.Distant.{IsTaken, IsReduced, Follows, IsLongDerivation, IsLongTermProof, IsLongRefutation, valued}
use Rattle.q_long.proofs.Distant.{long-lawful, long-wins}

turned-in : (T : List Literal) (k : Literal) → IsIn k T → IsIn (negation k) (turned_all T)
turned-in [] k m = elim m [ ]
turned-in (j ∷ T) k (inl e) = inl (ap negation e)
turned-in (j ∷ T) k (inr m) = inr (turned-in T k m)

turned-out : (T : List Literal) (k : Literal) → IsIn k (turned_all T) → IsIn (negation k) T
turned-out [] k m = elim m [ ]
turned-out (j ∷ T) k (inl e) = inl (ap negation e ∙ negation-negation j)
turned-out (j ∷ T) k (inr m) = inr (turned-out T k m)

turned-from : (lines : List Line) (n : ℕ) (x : Line) → slice_get (turned lines) n ≡ Some x →
    (line : Line) × (slice_get lines n ≡ Some line) × (turned_line line ≡ x)
turned-from lines n x h = go (slice_get lines n) refl (sym (slice_get-map turned_line lines n) ∙ h)
  where
    go : (o : Option Line) → slice_get lines n ≡ o → option_map turned_line o ≡ Some x →
        (line : Line) × (slice_get lines n ≡ Some line) × (turned_line line ≡ x)
    go None p q = absurd (cc)
    go (Some line) p q = (line, p, cc)

turned-got : (lines : List Line) (n : ℕ) (line : Line) → slice_get lines n ≡ Some line →
    slice_get (turned lines) n ≡ Some (turned_line line)
turned-got lines n line h = slice_get-map turned_line lines n ∙ ap (option_map turned_line) h

turned-before : (lines : List Line) (n i : ℕ) (S : List Literal) → IsBefore lines n i S →
    IsBefore (turned lines) n i (turned_all S)
turned-before lines n i S (line, h, p, q) = (turned_line line, h, turned-got lines i line p, ap turned_all q)

turned-rest : (S : List Literal) (k : Literal) (T : List Literal) → IsRest S k T → IsRest (turned_all S) (negation k) (turned_all T)
turned-rest S k T r j m = elim (r (negation j) (turned-out S j m)) [
  | inl s ↦ inl (sym (negation-negation j) ∙ ap negation s)
  | inr o ↦ inr (subst (λ (z : Literal). IsIn z (turned_all T)) (negation-negation j) (turned-in T (negation j) o))
]

turned-taken : (P : Prefix) (T : List Literal) (g : Literal) → IsTaken P T (negation g) → IsTaken P (turned_all T) g
turned-taken P T g t = record { owned = t.owned; behind = λ k m. t.behind (negation k) (turned-out T k m) }

turned-reduced : (P : Prefix) (S T : List Literal) → IsReduced P S T → IsReduced P (turned_all S) (turned_all T)
turned-reduced P S T r g m = elim (r (negation g) (turned-out S g m)) [
  | inl o ↦ inl (subst (λ (z : Literal). IsIn z (turned_all T)) (negation-negation g) (turned-in T (negation g) o))
  | inr t ↦ inr (turned-taken P T g t)
]

turned-follows : (P : Prefix) (L : List Literal → Type 0) (lines : List Line) (n : ℕ) (T : List Literal) (r : Reason) →
    Follows P L lines n T r → Follows P (Turned L) (turned lines) n (turned_all T) (turned_reason r)
turned-follows P L lines n T leaf (f, s) = (
  (T, f, refl),
  λ m. let (g, e, a, b) = m in s (negation g, e, turned-out T g a, turned-out T (negation g) b),
)
turned-follows P L lines n T (resolve i j k) (S, U, b, d, ku, rs, ru, mm) = (
  turned_all S,
  turned_all U,
  turned-before lines n i S b,
  turned-before lines n j U d,
  ku,
  turned-rest S k T rs,
  turned-rest U (negation k) T ru,
  λ g a c e. mm (negation g) (turned-out S g a) (turned-out U (negation g) c) e,
)
turned-follows P L lines n T (reduce i) (S, b, r) = (turned_all S, turned-before lines n i S b, turned-reduced P S T r)

turned-derivation : (P : Prefix) (L : List Literal → Type 0) (lines : List Line) → IsLongDerivation P L lines →
    IsLongDerivation P (Turned L) (turned lines)
turned-derivation P L lines d n x h = go (turned-from lines n x h)
  where
    go : (line : Line) × (slice_get lines n ≡ Some line) × (turned_line line ≡ x) →
        Follows P (Turned L) (turned lines) n x.literals x.reason
    go (line, p, e) =
        subst (λ (y : Line). Follows P (Turned L) (turned lines) n y.literals y.reason) e
        (turned-follows P L lines n line.literals line.reason (d n line p))

-- A clause is false where its negation is true.
not-both : (n b : Bool) → signed n b ≡ true → signed (not n) b ≡ true → ⊥
not-both true true h k = cc
not-both true false h k = cc
not-both false true h k = cc
not-both false false h k = cc

pub clause-false : (X : Matrix) (B : Assignment) (T : List Literal) → Turned (HoldsClause X) T → TermTrue B T → MatrixFalse B X
clause-false X B T (S, (D, m, w), e) t = (D, m, none)
  where
    none : ClauseTrue B D → ⊥
    none (k, i, h) =
        not-both k.negative (B k.var) h
        (t (negation k) (subst (IsIn (negation k)) (sym e) (turned-in S k (w k i))))

-- Proofs.
pub long-skolem : (F : PrenexFormula) (lines : List Line) → IsFormula F → IsLongTermProof F lines →
    SkolemOf F (circuits_of F.prefix (valued F.prefix lines))
long-skolem F lines f p = record {
  lawful = long-lawful F.prefix (IsHitting F.matrix) lines p.follows f.distinct;
  wins = λ A. long-wins F.prefix (IsHitting F.matrix) lines p.follows A (MatrixTrue (outcome (circuits_of F.prefix (valued F.prefix lines)) A) F.matrix)
      f.distinct p.ends (hitting-true F.matrix (outcome (circuits_of F.prefix (valued F.prefix lines)) A));
}

pub long-true : (F : PrenexFormula) (lines : List Line) → IsFormula F → IsLongTermProof F lines → Holds F
long-true F lines f p =
    skolem_makes-true F.prefix f.distinct F.matrix (circuits_of F.prefix (valued F.prefix lines)) (long-skolem F lines f p)

pub long-herbrand : (F : PrenexFormula) (lines : List Line) → IsFormula F → IsLongRefutation F lines →
    HerbrandOf F (circuits_of (exchanged F.prefix) (valued (exchanged F.prefix) (turned lines)))
long-herbrand F lines f p = record {
  lawful = exchanged-lawful F.prefix c (long-lawful Q (Turned (HoldsClause F.matrix)) (turned lines) d ds);
  loses = λ A. long-wins Q (Turned (HoldsClause F.matrix)) (turned lines) d A (MatrixFalse (outcome c A) F.matrix) ds
      (p.ends.0, turned_line p.ends.1, turned-got lines p.ends.0 p.ends.1 p.ends.2, ap turned_all p.ends.3) (clause-false F.matrix (outcome c A));
}
  where
    Q : Prefix
    Q = exchanged F.prefix

    c : Strategy
    c = circuits_of Q (valued Q (turned lines))

    ds : Distinct Q
    ds = exchanged-distinct F.prefix f.distinct

    d : IsLongDerivation Q (Turned (HoldsClause F.matrix)) (turned lines)
    d = turned-derivation Q (HoldsClause F.matrix) lines p.follows

pub long-false : (F : PrenexFormula) (lines : List Line) → IsFormula F → IsLongRefutation F lines → Holds F → ⊥
long-false F lines f p h =
    herbrand-false F (circuits_of (exchanged F.prefix) (valued (exchanged F.prefix) (turned lines))) f (long-herbrand F lines f p) h
