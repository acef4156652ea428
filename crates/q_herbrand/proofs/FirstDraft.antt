-- The draft before any entry.
use Rattle.std.proofs.Common.{◌≡◌, ◌⊎◌, ℕ, ◌+◌, ◌<◌, ◌≤◌, Bool, true, List, [], length, get_or, inl, inr, arith, refl, sym, ap, ◌∙◌, subst, Option, Some, None, map}
use Rattle.q_logic.specs.Prelude.{Circuit, input, NamedOutput, CertificateView, trees_of, Strategy, given, or_input, Lawful}
use Rattle.q_logic.specs.Exchanging.{exchanged}
use Rattle.q_logic.specs.Reversals.{Reversal}
use Rattle.q_logic.proofs.Exchanged.{exchanged-universal}
use Rattle.q_aig.specs.declared.output.Output.{Output}
use Rattle.q_aig.specs.Prelude.{Net, IsLiteral, tree_at, output_of, net_of, AreOutputs, Serves}
use Rattle.q_aig.proofs.Substitutes.{serves-same, serves-then}
use Rattle.q_certificate.specs.Prelude.{look_at, AreLiterals, IsAt, Stands, is_there, AreMarked, AreCopied, ArePlaced, marked_upto, strategy_of}
use Rattle.q_certificate.proofs.MarkedGates.{upto-most, cones-count}
use Rattle.q_certificate.proofs.NamedCertificates.{outputs-read}
use Rattle.q_certificate.proofs.LiteralRows.{literals-kept}
use Rattle.q_herbrand.specs.declared.slots.Slots.{Slots}
use Rattle.q_herbrand.specs.Under.{under}
use Rattle.q_herbrand.specs.Slots.{IsBegun, owner_at}
use Rattle.q_herbrand.specs.declared.drafting.Draft.{Draft}
use Rattle.q_herbrand.specs.Inputs.{has_input, AreInputs}
use Rattle.q_herbrand.specs.Covered.{weights}
use Rattle.q_herbrand.specs.Following.{tree_of_literal, Follows, IsReady, AreTaken}
use Rattle.q_herbrand.specs.Drafted.{either, AreMerged, IsByPlaces, variable_at, IsCopiedInto, IsDrafted}
use Rattle.q_herbrand.proofs.InputEntries.{inputs-literals, inputs-at}

pub begun-ready : (named a : Net) (names : List ℕ) (ins row : List (Option ℕ)) (z : Slots) → AreInputs names ins →
    named.inputs ≡ names → IsByPlaces named a → AreLiterals named row → IsBegun names z → IsReady a ins row z
begun-ready named a names ins row z i e p l b =
    let n : length z.definitions.items ≡ length names = b.room in
    let m : length z.owners.items ≡ length names = ap length b.owners in
    record {
      slots = record {
        room = omega arith;
        literals = λ x q h. absurd (let f : None ≡ Some q = sym (b.definitions x) ∙ h in cc);
        names = λ j lt. let r = placed j lt in omega arith;
      };
      current = record {
        same = λ v. same v (look_at z.current.items v) refl (look_at ins v) refl;
        there = λ v s h. let r = (b.named v s h).0 in omega arith;
        empty = λ v s h. b.definitions s;
        owned = λ v s h. ap (λ (xs : List ℕ). owner_at xs s) b.owners ∙ (b.named v s h).1;
        last = λ s lt h.
            ap (look_at z.current.items) (ap (λ (xs : List ℕ). owner_at xs s) b.owners) ∙ b.current s (omega arith);
      };
      owned = λ j lt.
          let r = placed j lt in
          ap (has_input ins) (ap (owner_at z.owners.items) r.1 ∙ ap (λ (xs : List ℕ). owner_at xs j) b.owners)
          ∙ i.all j r.0;
      literals = λ x k h. (p.trees k (inputs-literals named names ins i e x k h)).0;
      circuits = λ x k h. (p.trees k (l x k h)).0;
    }
  where
    placed : (j : ℕ) → j < length a.inputs → (j < length names) × (get_or a.inputs j 0 ≡ j)
    placed j lt =
        let r : length a.inputs ≡ length named.inputs = p.inputs.room in
        let k : length named.inputs ≡ length names = ap length e in
        ((omega arith), p.inputs.each j (omega arith))

    same : (v : ℕ) (o : Option ℕ) → look_at z.current.items v ≡ o → (q : Option ℕ) → look_at ins v ≡ q →
        is_there (look_at z.current.items v) ≡ is_there (look_at ins v)
    same v (Some s) f q g =
        let r = b.named v s f in ap is_there f ∙ sym (i.all s r.0) ∙ ap (has_input ins) r.1
    same v None f None g = ap is_there f ∙ sym (ap is_there g)
    same v None f (Some k) g =
        let r = i.sound v k g in
        let h : None ≡ Some r.0 = sym f ∙ ap (look_at z.current.items) (sym r.2) ∙ b.current r.0 r.1 in
        absurd (cc)

-- The row has a circuit or an input for what is covered.
begun-under : (named a : Net) (x : ℕ) (U : Bool) (o : Option Circuit) (m n p : Option ℕ) → IsByPlaces named a →
    ((l : ℕ) → p ≡ Some l → IsLiteral named l) → p ≡ either m n → Stands named o m →
    (given o ≡ true) ⊎ (U ≡ true) → (U ≡ true → (l : ℕ) × (n ≡ Some l) × (tree_at named l ≡ input x)) →
    (t : Circuit) × (tree_of_literal a p ≡ Some t) × Serves (under (variable_at named.inputs) t) (or_input x o)
begun-under named a x U (Some t) (Some l) n p b k e s v f = (
  tree_at a l,
  ap (tree_of_literal a) e,
  serves-then _ _ _ (serves-same _ _ (b.trees l (k l e)).1) s,
)
begun-under named a x U (Some t) None n p b k e s v f = absurd s
begun-under named a x U None (Some l) n p b k e s v f = absurd s
begun-under named a x U None None n p b k e s (inl g) f = absurd (cc)
begun-under named a x U None None n p b k e s (inr g) f =
    let i = f g in
    let q : p ≡ Some i.0 = e ∙ i.1 in (
      tree_at a i.0,
      ap (tree_of_literal a) q,
      serves-same _ _ ((b.trees i.0 (k i.0 q)).1 ∙ i.2),
    )

pub begun-follows : (named a : Net) (names : List ℕ) (ins tb row : List (Option ℕ)) (z : Slots) (c : Strategy) →
    named.inputs ≡ names → IsByPlaces named a → AreLiterals named row → AreMerged tb ins row →
    IsAt named ins tb (has_input ins) c → IsBegun names z → Follows a ins row z c
begun-follows named a names ins tb row z c e p l m at b = record {
  resolution = variable_at named.inputs;
  resolved = record {
    empty = λ s lt h. ap (λ (xs : List ℕ). input (get_or xs s 0)) (e ∙ sym b.owners);
    filled = λ s k h. absurd (let f : None ≡ Some k = sym (b.definitions s) ∙ h in cc);
  };
  circuits = λ x h. begun-under named a x (has_input ins x) (c x) (look_at tb x) (look_at ins x) (look_at row x) p
      (l x) (m x) (at.circuits x) h (at.inputs x);
}

merged-literals : (a : Net) (tb ins row : List (Option ℕ)) → AreMerged tb ins row → AreLiterals a tb →
    AreLiterals a ins → AreLiterals a row
merged-literals a tb ins row m lt li x k e = go (look_at tb x) refl (sym (m x) ∙ e)
  where
    go : (o : Option ℕ) → look_at tb x ≡ o → either o (look_at ins x) ≡ Some k → IsLiteral a k
    go (Some l) q h = lt x k (q ∙ h)
    go None q h = li x k h

pub copied-into : (old new : Net) (ins tb row : List (Option ℕ)) (gave : CertificateView) (os : List Output)
    (marks : List Bool) (gates : List ℕ) → AreInputs old.inputs ins → map output_of os ≡ gave.outputs →
    AreOutputs (net_of gave) os → AreMarked gave.gates os marks →
    AreCopied (net_of gave) marks ins old new gates (length gave.gates) →
    ArePlaced (net_of gave) ins gates os os tb → AreMerged tb ins row → IsCopiedInto old new ins gave row
copied-into old new ins tb row gave os marks gates i eo outs marked copied placed merged =
    let li : AreLiterals old ins = inputs-literals old old.inputs ins i refl in
    let ln : AreLiterals new ins = literals-kept old new ins copied.grown.kept li in
    let same : strategy_of (net_of gave) os ≡ trees_of gave =
    ap (λ (xs : List NamedOutput). trees_of (record { inputs = gave.inputs; gates = gave.gates; outputs = xs }))
    eo in
    record {
      inputs = copied.grown.inputs;
      gates =
          let a : length new.gates ≤ length old.gates + marked_upto marks (length gave.gates) =
          copied.grown.gates in
          let k = upto-most marks (length gave.gates) in
          omega arith;
      cones = λ ns h.
          let a : length new.gates ≤ length old.gates + marked_upto marks (length gave.gates) =
          copied.grown.gates in
          let k = cones-count gave os marks ns (length gave.gates) eo marked h in
          omega arith;
      literals = merged-literals new tb ins row merged (placed.literals new ln copied.there) ln;
      at = λ P law ex.
          let law2 : Lawful (exchanged P) (strategy_of (net_of gave) os) =
          subst (Lawful (exchanged P)) (sym same) law in
          let ro = outputs-read (has_input ins) (exchanged P) (net_of gave) os outs law2
          (λ x h. ex x (sym (exchanged-universal P x) ∙ h)) in
          let at0 : IsAt new ins tb (has_input ins) (strategy_of (net_of gave) os) =
          placed.at old new marks (has_input ins) marked copied li (inputs-at old old.inputs ins i refl) ro in
          (tb, merged, subst (IsAt new ins tb (has_input ins)) same at0);
    }

pub drafted : (opened base named draft : Net) (ins row : List (Option ℕ)) (z : Slots) (gave : CertificateView) (rs :
    List Reversal) (d : Draft) → base.inputs ≡ opened.inputs → base.gates ≡ [] →
    IsCopiedInto base named ins gave row → IsByPlaces named draft → IsBegun opened.inputs z →
    d.tables.inputs.items ≡ ins → AreTaken draft d.aig ins row d.tables.circuits.items z d.slots rs →
    IsDrafted opened ins gave rs d
drafted opened base named draft ins row z gave rs d ei eg c p b same t =
    let zero : length base.gates ≡ 0 = ap length eg in
    let placed : length draft.gates ≡ length named.gates = p.gates in
    record {
      inputs = same;
      ready = t.ready;
      gates =
          let x : length named.gates ≤ length base.gates + length gave.gates = c.gates in
          let y : length d.aig.gates ≤ length draft.gates + weights rs = t.gates in
          omega arith;
      cones = λ marks h.
          let x = c.cones marks h in
          let y : length d.aig.gates ≤ length draft.gates + weights rs = t.gates in
          omega arith;
      follows = λ P law ex cov.
          let a = c.at P law ex in
          t.follows (trees_of gave)
          (begun-follows named draft opened.inputs ins a.0 row z (trees_of gave) (c.inputs ∙ ei) p c.literals a.1 a.2 b)
          cov;
    }
