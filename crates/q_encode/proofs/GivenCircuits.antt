-- Circuits copied over the inputs of their side: they have the values of the given ones, so they are the functions of their side alike.
use Rattle.std.proofs.Common.{◌≡◌, ◌↔◌, ℕ, zero, suc, ◌+◌, ◌*◌, ◌≤◌, ◌<◌, ◌^◌, Bool, true, false, cond, List, [], ◌∷◌, ◌++◌, length, get_or, Option, Some, None, refl, sym, ap, ◌∙◌, subst, arith}
use Rattle.std.specs.List.{AllByRecursion}
use Rattle.q_logic.specs.Prelude.{IsBelow, Clause, Matrix, Prefix, PrenexFormula, IsFormula, IsProper, Distinct, ArePairs, is_exists, is_existential, greatest, Assignment, ClauseTrue, Holds, value_of, Circuit, given as is_given, or_input, outcome, Lawful, CertificateView, trees_of, literals_in, standard, signed}
use Rattle.q_logic.specs.Exchanging.{exchanged}
use Rattle.q_logic.specs.Herbrands.{MatrixFalse}
use Rattle.q_logic.proofs.Common.{MatrixTrue-agree, clause_of-ordered}
use Rattle.q_logic.proofs.Exchanged.{exchanged-lawful, exchanged-distinct}
use Rattle.q_certificate.specs.Made.{universals}
use Rattle.q_certificate.specs.Narrowed.{IsNarrowed}
use Rattle.q_miter.specs.Miters.{AreCircuits, VarsUpTo, greatest_name, top_of, in_order, IsCnf, lean_miter, herbrand_miter, gate_definitions, selectors, selections, needed, translated_matrix}
use Rattle.q_miter.proofs.Lean.{lean-decided, lean-smaller}
use Rattle.q_miter.proofs.Miters.{herbrand-decided, skolem-length, herbrand-length}
use Rattle.q_miter.proofs.Bounded.{lean-up, herbrand-up, lean-literals, herbrand-literals}
use Rattle.q_encode.specs.declared.side.Side.{Side}
use Rattle.q_encode.specs.declared.side.Side.TheVariants.{Skolem, Herbrand}
use Rattle.q_encode.specs.Translations.{AreNames}
use Rattle.q_encode.specs.Sides.{turned, AreFunctionsOf, miter_of}
use Rattle.q_encode.specs.Sums.{IsSmall}
use Rattle.q_encode.specs.Encoded.{IsMiter, AreWithin}

-- values
no-circuit : (o : Option Circuit) → is_given o ≡ false → o ≡ None
no-circuit None e = refl
no-circuit (Some t) e = absurd (cc)

same-outcome : (P : Prefix) (c d : CertificateView) → Lawful P (trees_of c) → IsNarrowed P c d → (A : Assignment) (x : ℕ) →
    outcome (trees_of d) A x ≡ outcome (trees_of c) A x
same-outcome P c d l n A x = go (is_existential P x) refl
  where
    go : (b : Bool) → is_existential P x ≡ b → outcome (trees_of d) A x ≡ outcome (trees_of c) A x
    go true e = (n.serves x e).values A
    go false e =
        let p : trees_of d x ≡ None = no-circuit (trees_of d x) (n.lawful.trees x ∙ e) in
        let q : trees_of c x ≡ None = no-circuit (trees_of c x) (l.trees x ∙ e) in
        ap (λ (o : Option Circuit). value_of (or_input x o) A) (p ∙ sym q)

clause-agree : (A B : Assignment) (D : Clause) → ((x : ℕ) → A x ≡ B x) → ClauseTrue A D → ClauseTrue B D
clause-agree A B D e w = (w.0, w.1, ap (signed w.0.negative) (sym (e w.0.var)) ∙ w.2)

false-agree : (A B : Assignment) (X : Matrix) → ((x : ℕ) → A x ≡ B x) → MatrixFalse A X → MatrixFalse B X
false-agree A B X e m = (m.0, m.1, λ t. m.2 (clause-agree B A m.0 (λ x. sym (e x)) t))

-- from one to the other
pub functions-given : (side : Side) (F : PrenexFormula) (c d : CertificateView) → Lawful (turned side F.prefix) (trees_of c) → IsNarrowed (turned side F.prefix) c d →
    AreFunctionsOf side F (trees_of d) → AreFunctionsOf side F (trees_of c)
functions-given Skolem F c d l n s =
    record { lawful = l; wins = λ A. MatrixTrue-agree (outcome (trees_of d) A) (outcome (trees_of c) A) F.matrix (same-outcome F.prefix c d l n A) (s.wins A) }
functions-given Herbrand F c d l n s = record {
  lawful = exchanged-lawful F.prefix (trees_of c) l;
  loses = λ A. false-agree (outcome (trees_of d) A) (outcome (trees_of c) A) F.matrix (same-outcome (exchanged F.prefix) c d l n A) (s.loses A);
}

pub functions-made : (side : Side) (F : PrenexFormula) (c d : CertificateView) → Lawful (turned side F.prefix) (trees_of c) → IsNarrowed (turned side F.prefix) c d →
    AreFunctionsOf side F (trees_of c) → AreFunctionsOf side F (trees_of d)
functions-made Skolem F c d l n s = record {
  lawful = n.lawful;
  wins = λ A. MatrixTrue-agree (outcome (trees_of c) A) (outcome (trees_of d) A) F.matrix (λ x. sym (same-outcome F.prefix c d l n A x)) (s.wins A);
}
functions-made Herbrand F c d l n s = record {
  lawful = exchanged-lawful F.prefix (trees_of d) n.lawful;
  loses = λ A. false-agree (outcome (trees_of c) A) (outcome (trees_of d) A) F.matrix (λ x. sym (same-outcome (exchanged F.prefix) c d l n A x)) (s.loses A);
}

made-decided : (side : Side) (F : PrenexFormula) (d : CertificateView) (G : PrenexFormula) → IsFormula F → AreCircuits d → Lawful (turned side F.prefix) (trees_of d) →
    IsCnf (miter_of side F d) G → (AreFunctionsOf side F (trees_of d) ↔ ¬ Holds G) × (Holds G ↔ ¬ AreFunctionsOf side F (trees_of d))
made-decided Skolem F d G f h l g = lean-decided F d f h G l g
made-decided Herbrand F d G f h l g = herbrand-decided F d f h G (exchanged-lawful F.prefix (trees_of d) l) g

pub given-decided : (side : Side) (F : PrenexFormula) (c : CertificateView) (X : Matrix) (G : PrenexFormula) → IsFormula F → Lawful (turned side F.prefix) (trees_of c) →
    IsMiter side F c X → IsCnf X G → (AreFunctionsOf side F (trees_of c) ↔ ¬ Holds G) × (Holds G ↔ ¬ AreFunctionsOf side F (trees_of c))
given-decided side F c X G f l m g =
    let d = m.made in
    let r = made-decided side F d G f m.circuits m.narrowed.lawful (subst (λ (Y : Matrix). IsCnf Y G) m.clauses g) in (
      ((λ s. r.0.0 (functions-made side F c d l m.narrowed s)), (λ n. functions-given side F c d l m.narrowed (r.0.1 n))),
      ((λ t s. r.1.0 t (functions-made side F c d l m.narrowed s)), (λ n. r.1.1 (λ s. n (functions-given side F c d l m.narrowed s)))),
    )

-- names
names-all : (P : ℕ → Type 0) (Q : Prefix) → AllByRecursion (λ b. P b.var) Q → AllByRecursion P (universals Q)
names-all P [] h = tt
names-all P (b ∷ Q) h = go (is_exists b.quant) (names-all P Q h.1)
  where
    go : (t : Bool) → AllByRecursion P (universals Q) → AllByRecursion P (cond t (universals Q) (b.var ∷ universals Q))
    go true k = k
    go false k = (h.0, k)

exchanged-all : (P : ℕ → Type 0) (Q : Prefix) → AllByRecursion (λ b. P b.var) Q → AllByRecursion (λ b. P b.var) (exchanged Q)
exchanged-all P [] h = tt
exchanged-all P (b ∷ Q) h = (h.0, exchanged-all P Q h.1)

turned-all : (P : ℕ → Type 0) (side : Side) (Q : Prefix) → AllByRecursion (λ b. P b.var) Q → AllByRecursion (λ b. P b.var) (turned side Q)
turned-all P Skolem Q h = h
turned-all P Herbrand Q h = exchanged-all P Q h

all-at : (P : ℕ → Type 0) (xs : List ℕ) (i : ℕ) → AllByRecursion P xs → i < length xs → P (get_or xs i 0)
all-at P [] i h l = absurd (omega arith)
all-at P (x ∷ xs) zero h l = h.0
all-at P (x ∷ xs) (suc i) h l = all-at P xs i h.1 (omega arith)

up-to : (n : ℕ) (Q : Prefix) → greatest Q ≤ n → AllByRecursion (λ b. b.var ≤ n) Q
up-to n [] h = tt
up-to n (b ∷ Q) h = (omega arith, up-to n Q (omega arith))

name-up : (n : ℕ) (xs : List ℕ) → AllByRecursion (λ x. x ≤ n) xs → greatest_name xs ≤ n
name-up n [] h = omega arith
name-up n (x ∷ xs) h = let k = name-up n xs h.1 in let l = h.0 in omega arith

pub made-names : (side : Side) (F : PrenexFormula) (c d : CertificateView) → IsProper F → IsNarrowed (turned side F.prefix) c d → AreNames d.inputs
made-names side F c d p n i l =
    let a = names-all (λ v. (1 ≤ v) × (v < 2 ^ 31)) (turned side F.prefix) (turned-all (λ v. (1 ≤ v) × (v < 2 ^ 31)) side F.prefix p.ranges) in
    let b = subst (λ (xs : List ℕ). AllByRecursion (λ v. (1 ≤ v) × (v < 2 ^ 31)) xs) (sym n.inputs) a in
    all-at (λ v. (1 ≤ v) × (v < 2 ^ 31)) d.inputs i b l

pub made-top : (side : Side) (F : PrenexFormula) (c d : CertificateView) → IsNarrowed (turned side F.prefix) c d → top_of F d ≡ greatest F.prefix
made-top side F c d n =
    let a = names-all (λ v. v ≤ greatest F.prefix) (turned side F.prefix) (turned-all (λ v. v ≤ greatest F.prefix) side F.prefix (up-to (greatest F.prefix) F.prefix (omega arith))) in
    let b = subst (λ (xs : List ℕ). AllByRecursion (λ v. v ≤ greatest F.prefix) xs) (sym n.inputs) a in
    let k = name-up (greatest F.prefix) d.inputs b in
    omega arith

-- limits
ordered-in : (X : Matrix) → AllByRecursion (ArePairs IsBelow) (in_order X)
ordered-in [] = tt
ordered-in (D ∷ X) = (clause_of-ordered D, ordered-in X)

further : (m n : ℕ) (X : Matrix) → m ≤ n → VarsUpTo m X → VarsUpTo n X
further m n X h x D d k i = let z = x D d k i in omega arith

made-within : (side : Side) (F : PrenexFormula) (c d : CertificateView) → IsFormula F → AreCircuits d → IsNarrowed (turned side F.prefix) c d → IsSmall side F c →
    AreWithin standard (miter_of side F d)
made-within Skolem F c d f h n s =
    let t = made-top Skolem F c d n in
    let g = n.gates in
    let v : greatest F.prefix + length c.gates + length F.matrix + 1 ≤ 16777215 = s.vars in
    let x : 3 * length c.gates + literals_in F.matrix + 2 ≤ 33554432 = s.clauses in
    let y : 7 * length c.gates + 2 * literals_in F.matrix + length F.matrix + 1 ≤ 134217728 = s.lits in
    let a = lean-smaller F d in
    let b = skolem-length F d in
    let e = lean-literals F d in
    record {
      ordered = ordered-in (gate_definitions (top_of F d) d ++ selectors (top_of F d) d 0 (needed (top_of F d) d F.matrix) ∷ selections (top_of F d) d 0 (needed (top_of F d) d F.matrix));
      vars = further (top_of F d + length d.gates + length F.matrix + 1) 16777215 (lean_miter F d) (omega arith) (lean-up F d f h);
      clauses = omega arith;
      lits = omega arith;
    }
made-within Herbrand F c d f h n s =
    let t = made-top Herbrand F c d n in
    let g = n.gates in
    let v : greatest F.prefix + length c.gates + 1 ≤ 16777215 = s.vars in
    let x : 3 * length c.gates + length F.matrix + 1 ≤ 33554432 = s.clauses in
    let y : 7 * length c.gates + literals_in F.matrix + 1 ≤ 134217728 = s.lits in
    let b = herbrand-length F d in
    let e = herbrand-literals F d in
    record {
      ordered = ordered-in (gate_definitions (top_of F d) d ++ translated_matrix (top_of F d) d F.matrix);
      vars = further (top_of F d + length d.gates + 1) 16777215 (herbrand_miter F d) (omega arith) (herbrand-up F d f h);
      clauses = omega arith;
      lits = omega arith;
    }

pub miter-within : (side : Side) (F : PrenexFormula) (c : CertificateView) (X : Matrix) → IsFormula F → IsMiter side F c X → IsSmall side F c → AreWithin standard X
miter-within side F c X f m s = subst (AreWithin standard) (sym m.clauses) (made-within side F c m.made f m.circuits m.narrowed s)

-- room for the numbers of the variables
pub small-room : (side : Side) (F : PrenexFormula) (c d : CertificateView) → IsNarrowed (turned side F.prefix) c d → IsSmall side F c →
    greatest F.prefix + length d.gates + length F.matrix + 2 < 2 ^ 31
small-room Skolem F c d n s =
    let g = n.gates in let v : greatest F.prefix + length c.gates + length F.matrix + 1 ≤ 16777215 = s.vars in omega arith
small-room Herbrand F c d n s =
    let g = n.gates in
    let v : greatest F.prefix + length c.gates + 1 ≤ 16777215 = s.vars in
    let x : 3 * length c.gates + length F.matrix + 1 ≤ 33554432 = s.clauses in omega arith

pub turned-distinct : (side : Side) (P : Prefix) → Distinct P → Distinct (turned side P)
turned-distinct Skolem P d = d
turned-distinct Herbrand P d = exchanged-distinct P d
