-- Circuits over slots, one entry further.
use Rattle.std.proofs.Common.{◌≡◌, ◌⊎◌, ℕ, ◌+◌, ◌≤◌, ◌<◌, Bool, true, false, not, cond, eqb, List, [], ◌∷◌, length, get_or, inl, inr, arith, refl, sym, ap, ◌∙◌, subst, Option, Some, None}
use Rattle.q_logic.specs.Prelude.{Literal, negation, Clause, IsIn, Circuit, constant, inverter, conjunction, disjunction, Strategy, circuit_of, given, or_input, literal_circuit, some_of, all_of, raised, with_circuit}
use Rattle.q_logic.specs.Reversals.{Reversal, none_of, lowered_by, turned, plain, removed, carried, Forth}
use Rattle.q_aig.specs.Prelude.{Net, tree_at, Keeps, Serves}
use Rattle.q_aig.proofs.Substitutes.{serves-self, serves-same, serves-then, serves-inverter, serves-conjunction}
use Rattle.q_certificate.specs.Prelude.{IsCovered, ClauseCovered, OutersCovered, look_at, AreLiterals, IsAt, Stands, IsGrown}
use Rattle.q_certificate.proofs.Folds.{serves-disjunction}
use Rattle.q_certificate.proofs.LiteralRows.{literals-kept}
use Rattle.q_certificate.proofs.CircuitParts.{raise-more}
use Rattle.q_herbrand.specs.declared.slots.Slots.{Slots}
use Rattle.q_herbrand.specs.Under.{under, twice}
use Rattle.q_herbrand.specs.Slots.{AreSlots, AreOwned, IsResolved}
use Rattle.q_herbrand.proofs.ReplacedInputs.{under-operand, serves-under}
use Rattle.q_herbrand.specs.Inputs.{has_input}
use Rattle.q_herbrand.specs.Covered.{EntryCovered, EntryOwned, weight, weights}
use Rattle.q_herbrand.specs.Carried.{IsCarried}
use Rattle.q_herbrand.specs.Following.{tree_of_literal, standing, AreUnder, IsReady, IsTaken, AreTaken}

-- no variable is an input
abbrev pub no_inputs : ℕ → Bool
no_inputs x = false

-- The row stands for its own circuits. Over slots no variable is an input.
pub standing-at : (a : Net) (ins tb : List (Option ℕ)) → IsAt a ins tb no_inputs (standing a tb)
standing-at a ins tb = record { inputs = λ u e. absurd (cc); circuits = λ x. go (look_at tb x) }
  where
    go : (m : Option ℕ) → Stands a (tree_of_literal a m) m
    go None = tt
    go (Some l) = serves-self (tree_at a l)

stands-some : (a : Net) (o : Option Circuit) (m : Option ℕ) (t : Circuit) → Stands a o m → o ≡ Some t →
    (l : ℕ) × (m ≡ Some l) × Serves (tree_at a l) t
stands-some a None m t s e = absurd (cc)
stands-some a (Some u) None t s e = absurd s
stands-some a (Some u) (Some l) t s e = let q : u ≡ t = cc in (l, refl, subst (Serves (tree_at a l)) q s)

-- What stands for circuits stands under the slots for what they stand for.
pub restand : (a : Net) (ins tb : List (Option ℕ)) (V U : ℕ → Bool) (r : ℕ → Circuit) (own c : Strategy) →
    IsAt a ins tb V own → AreUnder r U own c → AreUnder r U (standing a tb) c
restand a ins tb V U r own c at u x h =
    let w = u x h in
    let s = stands-some a (own x) (look_at tb x) w.0 (at.circuits x) w.1 in
    (tree_at a s.0, ap (tree_of_literal a) s.1, serves-then _ _ _ (serves-under r _ _ s.2) w.2)

pub under-covered : (r : ℕ → Circuit) (U V : ℕ → Bool) (own c : Strategy) (k : Literal) → AreUnder r U own c →
    IsCovered U c k → IsCovered V own k
under-covered r U V own c k u h = let w = u k.var h in inl (ap given w.1)

-- Under circuits for the slots.
module _ (r : ℕ → Circuit) (U : ℕ → Bool) (own c : Strategy) (u : AreUnder r U own c) where
  pub literal-under : (k : Literal) → IsCovered U c k →
      Serves (under r (literal_circuit own k)) (literal_circuit c k)
  literal-under k h =
      let w = u k.var h in
      let e : circuit_of own k.var ≡ w.0 = ap (or_input k.var) w.1 in
      let s : Serves (under r (circuit_of own k.var)) (circuit_of c k.var) =
      serves-then _ _ _ (serves-same _ _ (ap (under r) e)) w.2 in
      serves-then _ _ _ (serves-same _ _ (under-operand r k.negative (circuit_of own k.var))) (turn k.negative s)
    where
      turn : (b : Bool) → Serves (under r (circuit_of own k.var)) (circuit_of c k.var) →
          Serves (cond b (inverter (under r (circuit_of own k.var))) (under r (circuit_of own k.var)))
          (cond b (inverter (circuit_of c k.var)) (circuit_of c k.var))
      turn true s = serves-inverter _ _ s
      turn false s = s

  pub some-under : (O : Clause) → ClauseCovered U c O → Serves (under r (some_of own O)) (some_of c O)
  some-under [] h = serves-self (constant false)
  some-under (k ∷ O) h =
      serves-disjunction _ _ _ _ (literal-under k (h k (inl refl))) (some-under O (λ j i. h j (inr i)))

  pub all-under : (Os : List Clause) → OutersCovered U c Os → Serves (under r (all_of own Os)) (all_of c Os)
  all-under [] h = serves-self (constant true)
  all-under (O ∷ Os) h =
      serves-conjunction _ _ _ _ (some-under O (h O (inl refl))) (all-under Os (λ N i. h N (inr i)))

  pub none-under : (C : Clause) → ClauseCovered U c C → Serves (under r (none_of own C)) (none_of c C)
  none-under [] h = serves-self (constant true)
  none-under (k ∷ C) h =
      serves-conjunction _ _ _ _ (serves-inverter _ _ (literal-under k (h k (inl refl))))
      (none-under C (λ j i. h j (inr i)))

pub raised-under : (r : ℕ → Circuit) (n : Bool) (t g : Circuit) →
    under r (cond n (conjunction t (inverter g)) (disjunction t g)) ≡ cond n
    (conjunction (under r t) (inverter (under r g))) (disjunction (under r t) (under r g))
raised-under r true t g = refl
raised-under r false t g = refl

given-some : (o : Option Circuit) → given o ≡ true → (t : Circuit) × (o ≡ Some t)
given-some None e = absurd (cc)
given-some (Some t) e = (t, refl)

-- One circuit raised or cut.
abbrev lifted_at : Bool → ℕ → Circuit → Strategy → Strategy
lifted_at n k h c w = cond (eqb w k) (raised n h (c w)) (c w)

given-lifted : (n : Bool) (k : ℕ) (h : Circuit) (c : Strategy) (x : ℕ) → given (lifted_at n k h c x) ≡ given (c x)
given-lifted n k h c x = go (eqb x k) (c x)
  where
    go : (b : Bool) (o : Option Circuit) → given (cond b (raised n h o) o) ≡ given o
    go true None = refl
    go true (Some t) = refl
    go false o = refl

lifted-under : (r : ℕ → Circuit) (U : ℕ → Bool) (own c : Strategy) (n : Bool) (k : ℕ) (g h : Circuit) →
    AreUnder r U own c → given (c k) ≡ true → Serves (under r g) h →
    AreUnder r U (lifted_at n k g own) (lifted_at n k h c)
lifted-under r U own c n k g h u gi s x v = go (eqb x k) refl
  where
    here : (t t2 : Circuit) → own x ≡ Some t → c x ≡ Some t2 → Serves (under r t) t2 →
        (q : Circuit) × (raised n g (own x) ≡ Some q) × Serves (under r q) (or_input x (raised n h (c x)))
    here t t2 e e2 f = (
      cond n (conjunction t (inverter g)) (disjunction t g),
      ap (raised n g) e,
      subst (λ (o : Option Circuit). Serves (under r (cond n (conjunction t (inverter g)) (disjunction t g)))
          (or_input x (raised n h o))) (sym e2)
          (serves-then _ _ _ (serves-same _ _ (raised-under r n t g)) (raise-more n (under r t) t2 (under r g) h f s)),
    )

    go : (b : Bool) → eqb x k ≡ b → (t : Circuit) × (cond (eqb x k) (raised n g (own x)) (own x) ≡ Some t) ×
        Serves (under r t) (or_input x (cond (eqb x k) (raised n h (c x)) (c x)))
    go true e =
        let z : k ≡ x = grind arith in
        let gx : given (c x) ≡ true = subst (λ (y : ℕ). given (c y) ≡ true) z gi in
        let o = given-some (c x) gx in
        let w = u x (inl gx) in
        subst (λ (b : Bool). (t : Circuit) × (cond b (raised n g (own x)) (own x) ≡ Some t) × Serves (under r t)
        (or_input x (cond b (raised n h (c x)) (c x)))) (sym e)
        (here w.0 o.0 w.1 o.1 (subst (λ (p : Option Circuit). Serves (under r w.0) (or_input x p)) o.1 w.2))
    go false e =
        let old : (given (c x) ≡ true) ⊎ (U x ≡ true) =
        elim v [ inl a ↦ inl (sym (given-lifted n k h c x) ∙ a) | inr b ↦ inr b ] in
        subst (λ (b : Bool). (t : Circuit) × (cond b (raised n g (own x)) (own x) ≡ Some t) × Serves (under r t)
        (or_input x (cond b (raised n h (c x)) (c x)))) (sym e) (u x old)

lowered-under : (r : ℕ → Circuit) (U : ℕ → Bool) (own c : Strategy) (g h : Circuit) (ks : List Literal) →
    AreUnder r U own c → Serves (under r g) h → ((k : Literal) → IsIn k ks → given (c k.var) ≡ true) →
    AreUnder r U (lowered_by g ks own) (lowered_by h ks c) ×
    ((x : ℕ) → given (lowered_by h ks c x) ≡ given (c x))
lowered-under r U own c g h [] u s v = (u, λ x. refl)
lowered-under r U own c g h (k ∷ ks) u s v =
    let w = lowered-under r U own c g h ks u s (λ j i. v j (inr i)) in (
      lifted-under r U (lowered_by g ks own) (lowered_by h ks c) (not k.negative) k.var g h w.0
          (w.1 k.var ∙ v k (inl refl)) s,
      λ x. given-lifted (not k.negative) k.var h (lowered_by h ks c) x ∙ w.1 x,
    )

put-under : (r : ℕ → Circuit) (U : ℕ → Bool) (own c : Strategy) (v : ℕ) (t : Circuit) → AreUnder r U own c →
    Serves (under r t) t → AreUnder r U (with_circuit v (Some t) own) (with_circuit v (Some t) c)
put-under r U own c v t u s x h = go (eqb x v) h (u x)
  where
    go : (b : Bool) → (given (cond b (Some t) (c x)) ≡ true) ⊎ (U x ≡ true) →
        ((given (c x) ≡ true) ⊎ (U x ≡ true) → (t : Circuit) × (own x ≡ Some t) × Serves (under r t)
        (circuit_of c x)) → (q : Circuit) × (cond b (Some t) (own x) ≡ Some q) × Serves (under r q)
        (or_input x (cond b (Some t) (c x)))
    go true h w = (t, refl, s)
    go false h w = w h

-- Entries that leave the slots as they are.
slots-kept : (a b : Net) (n : ℕ) (z : Slots) → IsGrown a b n → AreSlots a z → AreSlots b z
slots-kept a b n z g s = record {
  room = s.room;
  literals = literals-kept a b z.definitions.items g.kept s.literals;
  names = subst (λ (xs : List ℕ). (i : ℕ) → i < length xs → get_or xs i 0 < length z.definitions.items)
      (sym g.inputs) s.names;
}

pub ready-kept : (a b : Net) (n : ℕ) (ins tb tb2 : List (Option ℕ)) (z : Slots) → IsGrown a b n →
    AreLiterals b tb2 → IsReady a ins tb z → IsReady b ins tb2 z
ready-kept a b n ins tb tb2 z g l q = record {
  slots = slots-kept a b n z g q.slots;
  current = q.current;
  owned = subst (λ (xs : List ℕ). AreOwned xs ins z) (sym g.inputs) q.owned;
  literals = literals-kept a b ins g.kept q.literals;
  circuits = l;
}

pub resolved-kept : (a b : Net) (z : Slots) (r : ℕ → Circuit) → Keeps a b → AreLiterals a z.definitions.items →
    IsResolved a z r → IsResolved b z r
resolved-kept a b z r k l q = record {
  empty = q.empty;
  filled = λ s m e. q.filled s m e ∙ ap (λ (t : Circuit). twice (under r t)) (sym (k m (l s m e)).1);
}

taken-standing : (a b : Net) (ins tb tb2 : List (Option ℕ)) (z : Slots) (e : Reversal) → IsReady a ins tb z →
    IsCarried a b ins tb tb2 e →
    ((r : ℕ → Circuit) (own c : Strategy) → AreUnder r (has_input ins) own c → EntryCovered (has_input ins) e c →
    EntryOwned e c → EntryCovered no_inputs e own × AreUnder r (has_input ins) (carried e own)
    (carried e c)) → IsTaken a b ins tb tb2 z z e
taken-standing a b ins tb tb2 z e q d f = record {
  ready = ready-kept a b (weight e) ins tb tb2 z d.grown d.literals q;
  gates = d.grown.gates;
  follows = λ c w v o.
      let s = f w.resolution (standing a tb) c w.circuits v o in
      record {
        resolution = w.resolution;
        resolved = resolved-kept a b z w.resolution d.grown.kept q.slots.literals w.resolved;
        circuits = restand b ins tb2 no_inputs (has_input ins) w.resolution (carried e (standing a tb)) (carried e c)
            (d.at no_inputs (standing a tb) (standing-at a ins tb) s.0) s.1;
      };
}

pub taken-turned : (a b : Net) (ins tb tb2 : List (Option ℕ)) (z : Slots) (l : Literal) (Os : List Clause) →
    IsReady a ins tb z → IsCarried a b ins tb tb2 (turned l Os) → IsTaken a b ins tb tb2 z z (turned l Os)
taken-turned a b ins tb tb2 z l Os q d = taken-standing a b ins tb tb2 z (turned l Os) q d
    (λ r own c u v o. (
      (λ O i k j. under-covered r (has_input ins) no_inputs own c k u (v O i k j)),
      lifted-under r (has_input ins) own c (negation l).negative l.var (all_of own Os) (all_of c Os) u o
          (all-under r (has_input ins) own c u Os v),
    ))

pub taken-plain : (a b : Net) (ins tb tb2 : List (Option ℕ)) (z : Slots) (l : Literal) (same within : Clause) →
    IsReady a ins tb z → IsCarried a b ins tb tb2 (plain l same within) →
    IsTaken a b ins tb tb2 z z (plain l same within)
taken-plain a b ins tb tb2 z l same within q d = taken-standing a b ins tb tb2 z (plain l same within) q d
    (λ r own c u v o. (
      (λ k j. under-covered r (has_input ins) no_inputs own c k u (v k j)),
      (lowered-under r (has_input ins) own c (none_of own same) (none_of c same) (l ∷ within) u
          (none-under r (has_input ins) own c u same v) o).0,
    ))

pub taken-removed : (a b : Net) (ins tb tb2 : List (Option ℕ)) (z : Slots) (v : ℕ) → IsReady a ins tb z →
    IsCarried a b ins tb tb2 (removed v) → IsTaken a b ins tb tb2 z z (removed v)
taken-removed a b ins tb tb2 z v q d = taken-standing a b ins tb tb2 z (removed v) q d
    (λ r own c u w o. (tt, put-under r (has_input ins) own c v (constant false) u (serves-self (constant false))))

-- Entries, one further.
pub taken-none : (a : Net) (ins tb : List (Option ℕ)) (z : Slots) → IsReady a ins tb z → AreTaken a a ins tb tb z z []
taken-none a ins tb z q = record { ready = q; gates = omega arith; follows = λ c w v. w }

pub taken-more : (old now new : Net) (ins tb tb1 tb2 : List (Option ℕ)) (z z1 z2 : Slots) (e : Reversal) (es :
    List Reversal) → AreTaken old now ins tb tb1 z z1 es → IsTaken now new ins tb1 tb2 z1 z2 e →
    AreTaken old new ins tb tb2 z z2 (e ∷ es)
taken-more old now new ins tb tb1 tb2 z z1 z2 e es s t = record {
  ready = t.ready;
  gates =
      let x : length now.gates ≤ length old.gates + weights es = s.gates in
      let y : length new.gates ≤ length now.gates + weight e = t.gates in
      omega arith;
  follows = λ c w v. t.follows (Forth es c) (s.follows c w v.2) v.0 v.1;
}
