-- What comes out, from the parts.
use Rattle.std.proofs.Common.{◌≡◌, ℕ, ◌+◌, ◌≤◌, Bool, cond, List, length, map, inl, inr, arith, sym, ap, ◌∙◌, subst, Option, Some, None}
use Rattle.std.proofs.lemmas.Bool.{cases_Bool}
use Rattle.q_logic.specs.Prelude.{PrenexFormula, is_existential, is_universal, IsFormula, Assignment, Circuit, value_of, NamedOutput, CertificateView, trees_of, Strategy, or_input, outcome, Lawful, SkolemOf, ProofStep, Run, UndoEntry, Undos, Back}
use Rattle.q_logic.proofs.Common.{JustifiedRun, Run-justified, MatrixTrue-agree, rebuilt-skolem, rebuilt-lawful}
use Rattle.q_logic.proofs.Blocks.{lawful-same}
use Rattle.q_aig.specs.declared.output.Output.{Output}
use Rattle.q_aig.specs.Prelude.{Net, tree_at, output_of, net_of, AreOutputs}
use Rattle.q_certificate.specs.Prelude.{look_at, IsAt, or_zero, marked_upto, AreMarked, AreCopied, ArePlaced, strategy_of, IsOpened, IsNamed}
use Rattle.q_certificate.proofs.MarkedGates.{upto-most, cones-count}
use Rattle.q_certificate.proofs.NamedCertificates.{outputs-read, existentials-named, not-given, made-is, made-serves, made-lawful}
use Rattle.q_rebuild.specs.TakenBack.{weights, AreUndone}
use Rattle.q_rebuild.specs.Rebuilt.{IsRebuilt}
use Rattle.q_rebuild.proofs.EntryCircuits.{run-covered, steps-universal}

module _ (F : PrenexFormula) (f : IsFormula F) (last : Net) (made : CertificateView) (ins tb : List (Option ℕ)) (back : Strategy) (n : IsNamed last made tb F.prefix) (at : IsAt last ins tb (is_universal F.prefix) back) (law : Lawful F.prefix back) where
  made-outcome : (A : Assignment) (x : ℕ) → outcome back A x ≡ outcome (trees_of made) A x
  made-outcome A x = elim (cases_Bool (is_existential F.prefix x)) [
    | inl e ↦ sym ((made-serves F.prefix f.distinct (is_universal F.prefix) last made ins tb back n at law x e).values A)
    | inr e ↦
        let m : trees_of made x ≡ None = made-is F.prefix f.distinct (is_universal F.prefix) last made ins tb back n at law x ∙ ap (λ (b : Bool). cond b (Some (tree_at last (or_zero (look_at tb x)))) None) e in
        let b : back x ≡ None = not-given (back x) (law.trees x ∙ e) in
        ap (λ (o : Option Circuit). value_of (or_input x o) A) b ∙ sym (ap (λ (o : Option Circuit). value_of (or_input x o) A) m)
  ]

  pub made-skolem : SkolemOf F back → SkolemOf F (trees_of made)
  made-skolem s = record {
    lawful = made-lawful F.prefix f.distinct (is_universal F.prefix) last made ins tb back n at law;
    wins = λ A. MatrixTrue-agree (outcome back A) (outcome (trees_of made) A) F.matrix (made-outcome A) (s.wins A);
  }

pub rebuilt : (F G : PrenexFormula) (ss : List ProofStep) (us : List UndoEntry) (gave made : CertificateView) (os : List Output) (base copy last : Net) (ins tb tb2 : List (Option ℕ)) (marks : List Bool) (row : List ℕ) →
    IsFormula F → Run F ss G → Undos F ss us → Lawful G.prefix (trees_of gave) → map output_of os ≡ gave.outputs → AreOutputs (net_of gave) os →
    IsOpened base ins F.prefix → AreMarked gave.gates os marks → AreCopied (net_of gave) marks ins base copy row (length gave.gates) → ArePlaced (net_of gave) ins row os os tb → AreUndone copy last ins tb tb2 us → IsNamed last made tb2 F.prefix → IsRebuilt F G us gave made
rebuilt F G ss us gave made os base copy last ins tb tb2 marks row f run undos lawful eo outs opened marked copied placed undone named =
    let j : JustifiedRun F ss G = Run-justified F ss G run in
    let same : strategy_of (net_of gave) os ≡ trees_of gave = ap (λ (xs : List NamedOutput). trees_of (record { inputs = gave.inputs; gates = gave.gates; outputs = xs })) eo in
    let end : Lawful j.last.prefix (trees_of gave) = lawful-same j.last G (trees_of gave) j.same lawful in
    let end2 : Lawful j.last.prefix (strategy_of (net_of gave) os) = subst (Lawful j.last.prefix) (sym same) end in
    let ro = outputs-read (is_universal F.prefix) j.last.prefix (net_of gave) os outs end2 (steps-universal F ss j.last f j.steps) in
    let at0 : IsAt copy ins tb (is_universal F.prefix) (strategy_of (net_of gave) os) = placed.at base copy marks (is_universal F.prefix) marked copied opened.literals opened.at ro in
    let at1 : IsAt copy ins tb (is_universal F.prefix) (trees_of gave) = subst (IsAt copy ins tb (is_universal F.prefix)) same at0 in
    let cov = run-covered F ss G us (trees_of gave) f j undos lawful in
    let at2 : IsAt last ins tb2 (is_universal F.prefix) (Back us (trees_of gave)) = undone.at (is_universal F.prefix) (trees_of gave) at1 cov in
    let law : Lawful F.prefix (Back us (trees_of gave)) = rebuilt-lawful F ss G us (trees_of gave) f j undos lawful in
    record {
      inputs = named.inputs ∙ undone.grown.inputs ∙ copied.grown.inputs ∙ opened.inputs;
      outputs = ap (map (λ (o : NamedOutput). o.name)) named.outputs ∙ existentials-named tb2 F.prefix;
      values = λ x e A. (made-serves F.prefix f.distinct (is_universal F.prefix) last made ins tb2 (Back us (trees_of gave)) named at2 law x e).values A;
      lawful = made-lawful F.prefix f.distinct (is_universal F.prefix) last made ins tb2 (Back us (trees_of gave)) named at2 law;
      skolem = λ s. made-skolem F f last made ins tb2 (Back us (trees_of gave)) named at2 law (rebuilt-skolem F ss G us (trees_of gave) f j undos s);
      gates =
          let a : length copy.gates ≤ length base.gates + marked_upto marks (length gave.gates) = copied.grown.gates in
          let k = upto-most marks (length gave.gates) in
          let b : length last.gates ≤ length copy.gates + weights us = undone.grown.gates in
          let z : length base.gates ≡ 0 = ap length opened.gates in
          let m : length made.gates ≡ length last.gates = ap length named.gates in
          omega arith;
      cones = λ ns h.
          let a : length copy.gates ≤ length base.gates + marked_upto marks (length gave.gates) = copied.grown.gates in
          let k = cones-count gave os marks ns (length gave.gates) eo marked h in
          let b : length last.gates ≤ length copy.gates + weights us = undone.grown.gates in
          let z : length base.gates ≡ 0 = ap length opened.gates in
          let m : length made.gates ≡ length last.gates = ap length named.gates in
          omega arith;
    }
