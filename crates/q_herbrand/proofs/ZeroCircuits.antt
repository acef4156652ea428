-- Circuits that are 0, and what comes out of them.
use Rattle.std.proofs.Common.{◌≡◌, ◌≤◌, ℕ, ◌+◌, Bool, true, false, cond, eqb, List, [], ◌∷◌, ◌++◌, length, take, arith, inl, inr, refl, sym, ap, ◌∙◌, subst, Option, Some, None}
use Rattle.std.proofs.Math.Path.{fun_ext}
use Rattle.std.proofs.lemmas.Bool.{cases_Bool}
use Rattle.q_logic.specs.declared.formulas.Bound.{Bound}
use Rattle.q_logic.specs.declared.formulas.Quant.TheVariants.{Exists}
use Rattle.q_logic.specs.Prelude.{Prefix, PrenexFormula, IsFormula, Distinct, is_bound, is_universal, Assignment, Circuit, constant, where_true, value_of, NamedOutput, Operand, CertificateView, output_named, tree_of, tree_of_some, trees_of, Strategy, circuit_of, outcome, ProofStep, AreAlike, standard}
use Rattle.q_logic.specs.Herbrands.{HerbrandOf, LawfulHerbrand}
use Rattle.q_logic.specs.Exchanging.{exchanged}
use Rattle.q_logic.specs.Reversals.{Forth}
use Rattle.q_logic.proofs.Common.{universal-is_bound, circuit_of-none, alike_swapped}
use Rattle.q_logic.proofs.Exchanged.{exchanged-existential, exchanged-lawful}
use Rattle.q_logic.proofs.Falsity.{MatrixFalse-agree}
use Rattle.q_refutation.specs.Refutations.{IsLost, zeros}
use Rattle.q_refutation.proofs.Refuting.{steps-carry, zeros-herbrand}
use Rattle.q_refutation.proofs.FirstEmpty.{alike_lost}
use Rattle.q_aig.specs.Prelude.{Net, operand_of}
use Rattle.q_certificate.specs.Prelude.{IsNamed}
use Rattle.q_certificate.specs.Made.{outputs_for}
use Rattle.q_certificate.specs.Narrowed.{IsNarrowed}
use Rattle.q_herbrand.specs.Covered.{weights}
use Rattle.q_herbrand.specs.Drafted.{IsLawfulRun}
use Rattle.q_herbrand.specs.Refuted.{IsWide}
use Rattle.q_herbrand.specs.Trails.{Trailed, HasMade}
use Rattle.q_herbrand.specs.Disproved.{universals_in, AreZerosOf, AreZeros, IsDisproved}
use Rattle.q_herbrand.proofs.RunCircuits.{universals-exchanged, existentials-exchanged}

-- both ways the same
same-both : (k : Bool) (o : Option Operand) → cond k o o ≡ o
same-both true o = refl
same-both false o = refl

in-bound : (P Q : Prefix) (x : ℕ) → is_bound Q x ≡ false → is_bound (universals_in P Q) x ≡ false
in-bound P [] x h = refl
in-bound P (b ∷ Q) x h = go (is_universal P b.var) (eqb b.var x) refl h (in-bound P Q x)
  where
    go : (t : Bool) (e : Bool) → eqb b.var x ≡ e → cond e true (is_bound Q x) ≡ false →
        (is_bound Q x ≡ false → is_bound (universals_in P Q) x ≡ false) →
        is_bound (cond t (record { quant = Exists; var = b.var } ∷ universals_in P Q) (universals_in P Q)) x ≡ false
    go true true q h r = absurd (cc)
    go true false q h r = ap (λ (z : Bool). cond z true (is_bound (universals_in P Q) x)) q ∙ r h
    go false true q h r = absurd (cc)
    go false false q h r = r h

pub in-distinct : (P Q : Prefix) → Distinct Q → Distinct (universals_in P Q)
in-distinct P [] d = tt
in-distinct P (b ∷ Q) d = go (is_universal P b.var) (in-distinct P Q d.1)
  where
    go : (t : Bool) → Distinct (universals_in P Q) →
        Distinct (cond t (record { quant = Exists; var = b.var } ∷ universals_in P Q) (universals_in P Q))
    go true r = (in-bound P Q b.var d.0, r)
    go false r = r

pub in-more : (P Q : Prefix) (b : Bound) → universals_in P (Q ++ b ∷ []) ≡ universals_in P Q ++ universals_in P (b ∷ [])
in-more P [] b = refl
in-more P (d ∷ Q) b = go (is_universal P d.var) (in-more P Q b)
  where
    go : (t : Bool) → universals_in P (Q ++ b ∷ []) ≡ universals_in P Q ++ universals_in P (b ∷ []) →
        cond t (record { quant = Exists; var = d.var } ∷ universals_in P (Q ++ b ∷ [])) (universals_in P (Q ++ b ∷ [])) ≡
        cond t (record { quant = Exists; var = d.var } ∷ universals_in P Q) (universals_in P Q) ++ universals_in P (b ∷ [])
    go true r = ap (λ (xs : Prefix). record { quant = Exists; var = d.var } ∷ xs) r
    go false r = r

pub in-next : (P Q : Prefix) (i : ℕ) (b : Bound) (made new : Prefix) → take (i + 1) Q ≡ take i Q ++ b ∷ [] →
    made ≡ universals_in P (take i Q) → new ≡ made ++ universals_in P (b ∷ []) → new ≡ universals_in P (take (i + 1) Q)
in-next P Q i b made new t m n =
    n ∙ (ap (λ (xs : Prefix). xs ++ universals_in P (b ∷ [])) m ∙ (sym (in-more P (take i Q) b) ∙ sym (ap (universals_in P) t)))

-- each of them is an output, and stands for 0
in-named : (P Q : Prefix) (u : ℕ) →
    output_named u (outputs_for [] (universals_in P Q)) ≡ cond (is_bound Q u) (cond (is_universal P u) (Some (operand_of 0)) None) None
in-named P [] u = refl
in-named P (b ∷ Q) u = go (is_universal P b.var) refl (eqb b.var u) refl (in-named P Q u)
  where
    same : eqb b.var u ≡ true → is_universal P b.var ≡ is_universal P u
    same q = let z : b.var ≡ u = grind arith in ap (is_universal P) z

    none : (t : Bool) → t ≡ false → cond (is_bound Q u) (cond t (Some (operand_of 0)) None) None ≡ None
    none true z = absurd (cc)
    none false z = same-both (is_bound Q u) None

    go : (t : Bool) → is_universal P b.var ≡ t → (e : Bool) → eqb b.var u ≡ e →
        (output_named u (outputs_for [] (universals_in P Q))) ≡ cond (is_bound Q u) (cond (is_universal P u) (Some (operand_of 0)) None) None →
        output_named u (outputs_for [] (cond t (record { quant = Exists; var = b.var } ∷ universals_in P Q) (universals_in P Q))) ≡
        cond (cond e true (is_bound Q u)) (cond (is_universal P u) (Some (operand_of 0)) None) None
    go true p true q r =
        ap (λ (z : Bool). cond z (Some (operand_of 0)) (output_named u (outputs_for [] (universals_in P Q)))) q ∙
        sym (ap (λ (z : Bool). cond z (Some (operand_of 0)) None) (sym (same q) ∙ p))
    go true p false q r = ap (λ (z : Bool). cond z (Some (operand_of 0)) (output_named u (outputs_for [] (universals_in P Q)))) q ∙ r
    go false p true q r = r ∙ none (is_universal P u) (sym (same q) ∙ p) ∙ sym (ap (λ (z : Bool). cond z (Some (operand_of 0)) None) (sym (same q) ∙ p))
    go false p false q r = r

pub zeros-of : (P Q : Prefix) (a : Net) (made : CertificateView) → a ≡ record { inputs = []; gates = [] } →
    ((u : ℕ) → is_universal P u ≡ true → is_universal Q u ≡ true) → IsNamed a made [] (universals_in P Q) → AreZerosOf P made
zeros-of P Q a made e among n = record { gates = n.gates ∙ ap (λ (x : Net). x.gates) e; trees = trees }
  where
    bound : (u : ℕ) (t : Bool) → is_universal P u ≡ t →
        cond (is_bound Q u) (cond t (Some (operand_of 0)) None) None ≡ cond t (Some (operand_of 0)) None
    bound u true h = ap (λ (z : Bool). cond z (Some (operand_of 0)) None) (universal-is_bound Q u (among u h))
    bound u false h = same-both (is_bound Q u) None

    tree : (t : Bool) → tree_of_some made (cond t (Some (operand_of 0)) None) ≡ where_true t (constant false)
    tree true = refl
    tree false = refl

    trees : (u : ℕ) → trees_of made u ≡ where_true (is_universal P u) (constant false)
    trees u =
        ap (tree_of_some made) (ap (output_named u) n.outputs ∙ (in-named P Q u ∙ bound u (is_universal P u) refl)) ∙ tree (is_universal P u)

-- What is carried back from them.
pub zeros-are : (F : PrenexFormula) (c : CertificateView) → AreZeros F c → trees_of c ≡ zeros F
zeros-are F c z = fun_ext z.trees

zeros-alike : (E F : PrenexFormula) → AreAlike E F → zeros F ≡ zeros E
zeros-alike E F a = fun_ext (λ u. ap (λ (P : Prefix). where_true (is_universal P u) (constant false)) (sym a.prefix))

module _ (F : PrenexFormula) (ss : List ProofStep) (t : Trailed) (c : CertificateView) (f : IsFormula F) (h : HasMade F ss t) (z : AreZeros t.formula c) where
  last-zeros : trees_of c ≡ zeros h.last
  last-zeros = zeros-are t.formula c z ∙ zeros-alike h.last t.formula h.alike

  last-herbrand : IsLost t.formula → HerbrandOf h.last (trees_of c)
  last-herbrand l =
      subst (HerbrandOf h.last) (sym last-zeros)
      (zeros-herbrand h.last (alike_lost t.formula h.last (alike_swapped h.last t.formula h.alike) l))

  pub zeros-run : IsLost t.formula → IsLawfulRun F t.reversals c
  zeros-run l = record {
    last = h.last;
    steps = ss;
    made = h.steps;
    reversals = h.reversals;
    lawful = (last-herbrand l).lawful;
  }

  pub disproved : (wide made : CertificateView) → IsLost t.formula → IsWide F t.reversals c wide →
      IsNarrowed (exchanged F.prefix) wide made → IsDisproved F t made
  disproved wide made l w n = record {
    inputs = n.inputs ∙ universals-exchanged F.prefix;
    outputs = n.outputs ∙ existentials-exchanged F.prefix;
    values = λ u e A. values u e A ∙ ap (λ (s : Strategy). value_of (circuit_of (Forth t.reversals s) u) A) (zeros-are t.formula c z);
    herbrand = record {
      lawful = made_law;
      loses = λ A. MatrixFalse-agree (outcome back A) (outcome (trees_of made) A) F.matrix (same A) (carried.loses A);
    };
    gates =
        let a : length made.gates ≤ length wide.gates = n.gates in
        let b : length wide.gates ≤ length c.gates + weights t.reversals = w.gates in
        let e : length c.gates ≡ 0 = ap length z.gates in
        omega arith;
  }
    where
      back : Strategy
      back = Forth t.reversals (trees_of c)

      carried : HerbrandOf F (Forth t.reversals (trees_of c))
      carried = steps-carry false standard F h.last ss t.reversals (trees_of c) f h.steps h.reversals (last-herbrand l)

      made_law : LawfulHerbrand F.prefix (trees_of made)
      made_law = exchanged-lawful F.prefix (trees_of made) n.lawful

      values : (u : ℕ) → is_universal F.prefix u ≡ true → (A : Assignment) →
          value_of (circuit_of (trees_of made) u) A ≡ value_of (circuit_of (Forth t.reversals (trees_of c)) u) A
      values u e A = (n.serves u (exchanged-existential F.prefix u ∙ e)).values A ∙ (w.serves u e).values A

      same : (A : Assignment) (x : ℕ) → outcome back A x ≡ outcome (trees_of made) A x
      same A x = elim (cases_Bool (is_universal F.prefix x)) [
        | inl e ↦ sym (values x e A)
        | inr e ↦ ap (λ (q : Circuit). value_of q A) (circuit_of-none back x (carried.lawful.trees x ∙ e))
            ∙ sym (ap (λ (q : Circuit). value_of q A) (circuit_of-none (trees_of made) x (made_law.trees x ∙ e)))
      ]
