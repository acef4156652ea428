-- Entries that put a circuit in place of an input: its slot is filled.
use Rattle.std.proofs.Common.{◌≡◌, ◌≢◌, ◌⊎◌, ℕ, ◌+◌, ◌-◌, ◌<◌, ◌≤◌, Bool, true, false, cond, eqb, List, length, set, inl, inr, arith, refl, sym, ap, ◌∙◌, subst, Option, Some, None}
use Rattle.std.proofs.lemmas.Option.{same_Some}
use Rattle.std.proofs.lemmas.Bool.{cases_eq, ne_eqb, eq-eqb}
use Rattle.q_logic.specs.Prelude.{Literal, Clause, IsIn, Circuit, constant, input, inverter, conjunction, disjunction, Reads, Strategy, circuit_of, given, or_input, literals_in, all_of, falsum}
use Rattle.q_logic.specs.Reversals.{Reversal, added, freshened, lifted}
use Rattle.q_logic.proofs.Common.{Reads-all_of, none_or_some}
use Rattle.q_aig.specs.Prelude.{Net, IsLiteral, tree_at, operand_of, IsNet, Serves}
use Rattle.q_aig.proofs.Substitutes.{serves-same, serves-then}
use Rattle.q_certificate.specs.Prelude.{OutersCovered, look_at, is_there, AreLiterals, IsGrown, IsAllOf, IsRaised}
use Rattle.q_certificate.proofs.InputReads.{net-inputs}
use Rattle.q_certificate.proofs.LiteralRows.{literals-kept, literals-put}
use Rattle.q_certificate.proofs.CircuitParts.{grown-none, keeps-then, raise-more, constant-there, false-serves, same-gates}
use Rattle.q_certificate.proofs.NamedCertificates.{not-given}
use Rattle.q_herbrand.specs.declared.slots.Slots.{Slots}
use Rattle.q_herbrand.specs.Under.{under}
use Rattle.q_herbrand.specs.Slots.{IsRenewed}
use Rattle.q_herbrand.proofs.ReplacedInputs.{under-same, Reads-through, serves-under}
use Rattle.q_herbrand.specs.Inputs.{has_input}
use Rattle.q_herbrand.specs.Covered.{EntryCovered, OutersClear}
use Rattle.q_herbrand.specs.Following.{tree_of_literal, standing, AreUnder, Follows, IsReady, IsTaken}
use Rattle.q_herbrand.proofs.SlotCircuits.{no_inputs, standing-at, under-covered, all-under, raised-under}
use Rattle.q_herbrand.proofs.FilledSlots.{with_slot, with-same, with-other, ready-next, follows-next}

pub renewed-literals : (a b : Net) (tb tb1 : List (Option ℕ)) (z z1 : Slots) (v l : ℕ) → AreLiterals a tb →
    IsRenewed a b tb tb1 z z1 v l → AreLiterals b tb1
renewed-literals a b tb tb1 z z1 v l h r = literals-put b tb tb1 v (Some l) r.circuits
    (λ k e. subst (IsLiteral b) (same_Some l k e) r.there) (literals-kept a b tb r.kept h)

-- An entry on a variable that has no slot asks for what cannot be.
pub taken-absent : (a : Net) (ins tb : List (Option ℕ)) (z : Slots) (r : Reversal) (v : ℕ) → IsReady a ins tb z →
    ((c : Strategy) → EntryCovered (has_input ins) r c → has_input ins v ≡ true) →
    look_at z.current.items v ≡ None → IsTaken a a ins tb tb z z r
taken-absent a ins tb z r v q f h = record {
  ready = q;
  gates = omega arith;
  follows = λ c w u o.
      let e : false ≡ true = sym (ap is_there h) ∙ q.current.same v ∙ f c u in
      absurd (cc);
}

pub taken-fresh : (a b : Net) (ins tb tb1 : List (Option ℕ)) (z z1 z2 : Slots) (v place lit to : ℕ) → IsNet a →
    IsReady a ins tb z → look_at z.current.items v ≡ Some place → IsRenewed a b tb tb1 z z1 v lit →
    (operand_of to).node ≡ falsum → (operand_of to).negated ≡ false → z2.current.items ≡ z1.current.items →
    z2.owners.items ≡ z1.owners.items →
    z2.definitions.items ≡ set z1.definitions.items place (Some to) →
    IsTaken a b ins tb tb1 z z2 (freshened v)
taken-fresh a b ins tb tb1 z z1 z2 v place lit to net q vl new en ef ec eo ed =
    let lt : IsLiteral b to = constant-there b to en in
    let s : Serves (tree_at b to) (constant false) = false-serves b to en ef in
    record {
      ready = ready-next a b b ins tb tb1 z z1 z2 v place lit to 0 net q vl new (grown-none b) lt ec eo ed;
      gates = let e : length b.gates ≡ length a.gates = ap length new.gates in omega arith;
      follows = λ c w cov o. follows-next a b b ins tb tb1 z z1 z2 v place lit to 0 net q vl new (grown-none b) lt ec eo
          ed c w (constant false) o
          (serves-under (with_slot (length z.definitions.items) (input v) w.resolution) _ _ s)
          (λ x r. absurd (s.reads x r));
    }

reads-lifted : (n : Bool) (t h : Circuit) (x : ℕ) →
    Reads (cond n (conjunction t (inverter h)) (disjunction t h)) x → Reads t x ⊎ Reads h x
reads-lifted true t h x r = r
reads-lifted false t h x r = r

module _ (a a1 mid b : Net) (ins tb tb1 : List (Option ℕ)) (z z1 z2 : Slots) (l : Literal) (Os : List Clause) (place
    lit all to : ℕ) (net : IsNet a) (q : IsReady a ins tb z) (vl : look_at z.current.items l.var ≡ Some place) (new : IsRenewed a a1 tb tb1 z z1 l.var lit) (al : IsAllOf a1 mid ins tb1 Os all) (ra : IsRaised
    mid b l.negative lit all to) (free : (operand_of all).node ≡ falsum → b ≡ mid) (ec : z2.current.items ≡
    z1.current.items) (eo : z2.owners.items ≡ z1.owners.items) (ed : z2.definitions.items ≡ set z1.definitions.items
    place (Some to)) where
  costs : length b.gates ≤ length a1.gates + (literals_in Os + length Os)
  costs =
      let x : length mid.gates ≤ length a1.gates + (literals_in Os + (length Os - 1)) = al.grown.gates in
      let y : length b.gates ≤ length mid.gates + 1 = ra.grown.gates in
      elim (none_or_some (length Os)) [
        | inl e ↦ let f : length b.gates ≡ length mid.gates = same-gates b mid (free (al.constant e)) in omega arith
        | inr e ↦ omega arith
      ]

  grown : IsGrown a1 b (literals_in Os + length Os)
  grown = record {
    inputs = ra.grown.inputs ∙ al.grown.inputs;
    gates = costs;
    kept = keeps-then a1 mid b al.grown.kept ra.grown.kept;
  }

  module _ (c : Strategy) (w : Follows a ins tb z c) (covered : OutersCovered (has_input ins) c Os) (clear :
      OutersClear l.var c Os) (none : given (c l.var) ≡ false) where
    abbrev now : ℕ → Circuit
    now = with_slot (length z.definitions.items) (input l.var) w.resolution

    here : standing a1 tb1 l.var ≡ Some (input (length z.definitions.items))
    here =
        let e : eqb l.var l.var ≡ true = eq-eqb l.var l.var refl in
        let p : look_at tb1 l.var ≡ Some lit =
        new.circuits l.var ∙ ap (λ (s : Bool). cond s (Some lit) (look_at tb l.var)) e in
        ap (tree_of_literal a1) p ∙ ap Some new.tree

    -- another variable has its circuit of before, which reads old slots alone
    there : (x : ℕ) → x ≢ l.var → (t : Circuit) → standing a tb x ≡ Some t →
        (standing a1 tb1 x ≡ Some t) × ((u : ℕ) → Reads t u → u < length z.definitions.items)
    there x n t e = go (look_at tb x) refl e
      where
        go : (m : Option ℕ) → look_at tb x ≡ m → tree_of_literal a m ≡ Some t →
            (standing a1 tb1 x ≡ Some t) × ((u : ℕ) → Reads t u → u < length z.definitions.items)
        go None f g = absurd (cc)
        go (Some k) f g =
            let il : IsLiteral a k = q.circuits x k f in
            let p : look_at tb1 x ≡ Some k = new.circuits x
            ∙ ap (λ (s : Bool). cond s (Some lit) (look_at tb x)) (ne_eqb x l.var n) ∙ f in
            let t2 : tree_at a k ≡ t = cc in (
              ap (tree_of_literal a1) p ∙ ap Some ((new.kept k il).1 ∙ t2),
              λ u r.
                  let i = net-inputs a k u net.ordered il (subst (λ (s : Circuit). Reads s u) (sym t2) r) in
                  let s = q.slots.names i.0 i.1 in
                  let j = i.2 in
                  omega arith,
            )

    under-now : AreUnder now (has_input ins) (standing a1 tb1) c
    under-now x h = elim (cases_eq x l.var) [
      | inl e ↦ subst (λ (y : ℕ). (t : Circuit) × (standing a1 tb1 y ≡ Some t) × Serves (under now t)
          (circuit_of c y)) (sym e) (
            input (length z.definitions.items),
            here,
            serves-same _ _ (with-same (length z.definitions.items) (input l.var) w.resolution
                ∙ sym (ap (or_input l.var) (not-given (c l.var) none))),
          )
      | inr n ↦
          let u = w.circuits x h in
          let t = there x n u.0 u.1 in (
            u.0,
            t.0,
            serves-then _ _ _ (serves-same _ _ (under-same now w.resolution u.0 (λ y r.
                with-other (length z.definitions.items) (input l.var) w.resolution y
                (λ e. let s = t.1 y r in absurd (omega arith))))) u.2,
          )
    ]

    own-covered : OutersCovered no_inputs (standing a1 tb1) Os
    own-covered O i k j =
        under-covered now (has_input ins) no_inputs (standing a1 tb1) c k under-now (covered O i k j)

    all-serves : Serves (tree_at mid all) (all_of (standing a1 tb1) Os)
    all-serves = al.serves no_inputs (standing a1 tb1) (standing-at a1 ins tb1) own-covered

    lit-tree : tree_at mid lit ≡ input (length z.definitions.items)
    lit-tree = (al.grown.kept lit new.there).1 ∙ new.tree

    to-serves : Serves (under now (tree_at b to)) (lifted l (all_of c Os))
    to-serves =
        serves-then _ _ _ (serves-under now _ _ ra.serves) (serves-then _ _ _
        (serves-same _ _ (raised-under now l.negative (tree_at mid lit) (tree_at mid all)))
        (raise-more l.negative (under now (tree_at mid lit)) (input l.var) (under now (tree_at mid all)) (all_of c Os)
        (serves-same _ _ (ap (under now) lit-tree
        ∙ with-same (length z.definitions.items) (input l.var) w.resolution))
        (serves-then _ _ _ (serves-under now _ _ all-serves)
        (all-under now (has_input ins) (standing a1 tb1) c under-now Os covered))))

    to-clear : (x : ℕ) → Reads (tree_at b to) x →
        (x ≡ length z.definitions.items) ⊎ (Reads (w.resolution x) l.var → ⊥)
    to-clear x r = elim (reads-lifted l.negative (tree_at mid lit) (tree_at mid all) x (ra.serves.reads x r)) [
      | inl h ↦
          let e : length z.definitions.items ≡ x = subst (λ (t : Circuit). Reads t x) lit-tree h in
          inl (sym e)
      | inr h ↦
          let s = Reads-all_of (standing a1 tb1) Os x (all-serves.reads x h) in
          through s.0 s.1 s.2 s.3 s.4
    ]
      where
        through : (O : Clause) → IsIn O Os → (k : Literal) → IsIn k O →
            Reads (circuit_of (standing a1 tb1) k.var) x →
            (x ≡ length z.definitions.items) ⊎ (Reads (w.resolution x) l.var → ⊥)
        through O i k j g = elim (cases_eq k.var l.var) [
          | inl e ↦
              let y : circuit_of (standing a1 tb1) k.var ≡ input (length z.definitions.items) =
              ap (circuit_of (standing a1 tb1)) e ∙ ap (or_input l.var) here in
              let n : length z.definitions.items ≡ x = subst (λ (t : Circuit). Reads t x) y g in
              inl (sym n)
          | inr n ↦
              let u = w.circuits k.var (covered O i k j) in
              let t = there k.var n u.0 u.1 in
              let y : circuit_of (standing a1 tb1) k.var ≡ u.0 = ap (or_input k.var) t.0 in
              let g2 : Reads u.0 x = subst (λ (t : Circuit). Reads t x) y g in
              inr (λ m. no-way k (c k.var) refl n (covered O i k j) (clear O i k j)
              (u.2.reads l.var (Reads-through w.resolution u.0 x l.var g2 m)))
        ]
          where
            no-way : (k : Literal) (o : Option Circuit) → c k.var ≡ o → k.var ≢ l.var →
                (given (c k.var) ≡ true) ⊎ (has_input ins k.var ≡ true) →
                (given (c k.var) ≡ true → Reads (circuit_of c k.var) l.var → ⊥) →
                Reads (circuit_of c k.var) l.var → ⊥
            no-way k None e n v f m =
                let z : k.var ≡ l.var = subst (λ (p : Option Circuit). Reads (or_input k.var p) l.var) e m in n z
            no-way k (Some t) e n v f m = f (ap given e) m

  pub taken-added : IsTaken a b ins tb tb1 z z2 (added l Os)
  taken-added = record {
    ready = ready-next a a1 b ins tb tb1 z z1 z2 l.var place lit to (literals_in Os + length Os) net q vl new
        grown ra.there ec eo ed;
    gates =
        let e : length a1.gates ≡ length a.gates = ap length new.gates in
        let f = costs in
        omega arith;
    follows = λ c w cov o. follows-next a a1 b ins tb tb1 z z1 z2 l.var place lit to (literals_in Os + length Os) net q
        vl new grown ra.there ec eo ed c w (lifted l (all_of c Os)) o (to-serves c w cov.1 cov.2 o)
        (to-clear c w cov.1 cov.2 o);
  }
