-- Nodes that are hit or closed, and what they say of all values of the inputs.
use Rattle.std.proofs.Common.{◌≡◌, ℕ, suc, ◌<◌, ◌^◌, Bool, true, false, true≢false, cond, not, ◌&&◌, ◌||◌, eqb, List, [], ◌∷◌, inl, inr, length, Option, Some, None, refl, sym, ap, ◌∙◌, subst, arith}
use Rattle.q_logic.specs.declared.formulas.Quant.TheVariants.{Forall}
use Rattle.q_logic.specs.declared.formulas.Bound.{Bound}
use Rattle.q_logic.specs.Prelude.{Literal, negation, literal_eq, bool_eq, Clause, Matrix, Prefix, IsIn, is_bound, is_existential, has, Circuit, constant, input, inverter, conjunction, value_of, Reads, Test, Node, Tally, explored, one_more, plus, then_second, by_verdict, leaf, worse, nothing}
use Rattle.q_logic.specs.Truth.{Assignment, signed, with_value, ClauseTrue, MatrixTrue}
use Rattle.q_logic.specs.Skolems.{circuit_of, or_input, given, outcome, Lawful, Skolem}
use Rattle.q_logic.specs.declared.verdict.Verdict.{Verdict}
use Rattle.q_logic.specs.declared.verdict.Verdict.TheVariants.{Lost, Won, Open}
use Rattle.q_logic.proofs.SearchCounts.{few}
use Rattle.q_logic.proofs.ClauseLemmas.{has-IsIn}
use Rattle.q_logic.proofs.WonSearch.{both-won, own-sign}
use Rattle.q_logic.specs.Branches.{known_both, known_signed, known, Claim, as_prefix, is_input, is_missing, literal_value, is_one, is_zero, has_one, all_zero, both_missing, clause_verdict, verdict, search_of, branches, is_false, first_false, denial, counter_at, AreFed}

-- the assignments agree where the prefix binds nothing
abbrev pub AgreesBut : Prefix → Assignment → Assignment → Type 0
AgreesBut P A B = (v : ℕ) → is_bound P v ≡ false → B v ≡ A v

both-known : (x y : Option Bool) (b c d : Bool) → ((e : Bool) → x ≡ Some e → b ≡ e) → ((e : Bool) → y ≡ Some e → c ≡ e) →
    known_both x y ≡ Some d → b && c ≡ d
both-known None None b c d f g h = absurd (cc)
both-known None (Some false) b c d f g h = rw (g false refl) (last b d h)
  where
    last : (b d : Bool) → Some false ≡ Some d → b && false ≡ d
    last true d h = cc
    last false d h = cc
both-known None (Some true) b c d f g h = absurd (cc)
both-known (Some false) y b c d f g h = rw (f false refl) (cc)
both-known (Some true) y b c d f g h = rw (f true refl) (g d h)

-- A known value is the value under each assignment that agrees where values are given.
pub known-value : (t : Circuit) (P : Prefix) (A B : Assignment) (b : Bool) →
    ((u : ℕ) → Reads t u → is_bound P u ≡ false → B u ≡ A u) → known P A t ≡ Some b → value_of t B ≡ b
known-value (constant c) P A B b h e = cc
known-value (input u) P A B b h e = go (is_bound P u) refl e
  where
    go : (x : Bool) → is_bound P u ≡ x → cond x None (Some (A u)) ≡ Some b → B u ≡ b
    go true q e = absurd (cc)
    go false q e = let z : B u ≡ A u = h u refl q in cc
known-value (inverter t) P A B b h e = go (known P A t) e (λ c q. known-value t P A B c h q)
  where
    go : (x : Option Bool) → known_signed true x ≡ Some b → ((c : Bool) → x ≡ Some c → value_of t B ≡ c) → not (value_of t B) ≡ b
    go None e f = absurd (cc)
    go (Some c) e f = rw (f c refl) (cc)
known-value (conjunction s t) P A B b h e =
    both-known (known P A s) (known P A t) (value_of s B) (value_of t B) b
    (λ c q. known-value s P A B c (λ u r. h u (inl r)) q)
    (λ c q. known-value t P A B c (λ u r. h u (inr r)) q)
    e

-- Nothing is open where each variable has a value.
full-known : (t : Circuit) (A : Assignment) → known [] A t ≡ Some (value_of t A)
full-known (constant b) A = refl
full-known (input u) A = refl
full-known (inverter t) A = ap (known_signed true) (full-known t A)
full-known (conjunction s t) A = rw (full-known s A, full-known t A) (go (value_of s A))
  where
    go : (x : Bool) → known_both (Some x) (Some (value_of t A)) ≡ Some (x && value_of t A)
    go true = refl
    go false = refl

full-value : (q : Claim) (A : Assignment) (k : Literal) → (b : Bool) × (literal_value q [] A k ≡ Some b)
full-value q A k = go (is_existential q.formula.prefix k.var) (is_input q k.var)
  where
    go : (x y : Bool) → (b : Bool) × (cond x (known_signed k.negative (known [] A (circuit_of q.circuits k.var)))
        (cond y (known_signed k.negative (known [] A (input k.var))) (Some false)) ≡ Some b)
    go true y = (signed k.negative (value_of (circuit_of q.circuits k.var) A), ap (known_signed k.negative) (full-known (circuit_of q.circuits k.var) A))
    go false true = (signed k.negative (A k.var), refl)
    go false false = (false, refl)

zero-end : (q : Claim) (A : Assignment) (C : Clause) → has_one q [] A C ≡ false → all_zero q [] A C ≡ true
zero-end q A [] h = refl
zero-end q A (k ∷ C) h = go (literal_value q [] A k) (full-value q A k) h (zero-end q A C)
  where
    go : (x : Option Bool) → (b : Bool) × (x ≡ Some b) → is_one x || has_one q [] A C ≡ false →
        (has_one q [] A C ≡ false → all_zero q [] A C ≡ true) → is_zero x && all_zero q [] A C ≡ true
    go None r h f = absurd (let e : None ≡ Some r.0 = r.1 in cc)
    go (Some true) r h f = absurd (cc)
    go (Some false) r h f = f h

closed-clause : (q : Claim) (A : Assignment) (C : Clause) → clause_verdict q [] A C ≡ Open → ⊥
closed-clause q A C h = go (has_one q [] A C) refl (both_missing q C) h
  where
    go : (x : Bool) → has_one q [] A C ≡ x → (y : Bool) → cond (x || y) Won (cond (all_zero q [] A C) Lost Open) ≡ Open → ⊥
    go true e y h = cc
    go false e true h = cc
    go false e false h =
        let z : all_zero q [] A C ≡ true = zero-end q A C e in
        let r : Lost ≡ Open = (rw z at h) in cc

pub closed-end : (q : Claim) (A : Assignment) (X : Matrix) → verdict q X [] A ≡ Open → ⊥
closed-end q A [] h = cc
closed-end q A (C ∷ X) h = go (clause_verdict q [] A C) (verdict q X [] A) (closed-clause q A C) (closed-end q A X) h
  where
    go : (v w : Verdict) → (v ≡ Open → ⊥) → (w ≡ Open → ⊥) → worse v w ≡ Open → ⊥
    go Lost w f g h = cc
    go Won w f g h = g h
    go Open w f g h = f refl

-- A universal is its own circuit.
universal-outcome : (q : Claim) (B : Assignment) (v : ℕ) → Lawful q.formula.prefix q.circuits → is_existential q.formula.prefix v ≡ false →
    outcome q.circuits B v ≡ B v
universal-outcome q B v l e = go (q.circuits v) (l.trees v ∙ e)
  where
    go : (o : Option Circuit) → given o ≡ false → value_of (or_input v o) B ≡ B v
    go None h = refl
    go (Some t) h = absurd (cc)

-- What is known of a literal holds.
literal-known : (q : Claim) (P : Prefix) (A B : Assignment) (k : Literal) (b : Bool) → Lawful q.formula.prefix q.circuits → AreFed q →
    ((u : ℕ) → is_input q u ≡ true → is_bound P u ≡ false → B u ≡ A u) → is_missing q k.var ≡ false →
    literal_value q P A k ≡ Some b → signed k.negative (outcome q.circuits B k.var) ≡ b
literal-known q P A B k b l fed ag m h = go (is_existential q.formula.prefix k.var) refl (is_input q k.var) refl m h
  where
    turn : (x : Option Bool) (c : Bool) → ((d : Bool) → x ≡ Some d → c ≡ d) → known_signed k.negative x ≡ Some b → signed k.negative c ≡ b
    turn None c f h = absurd (cc)
    turn (Some d) c f h = let z : c ≡ d = f d refl in rw z (cc)

    go : (x : Bool) → is_existential q.formula.prefix k.var ≡ x → (y : Bool) → is_input q k.var ≡ y → not x && not y ≡ false →
        cond x (known_signed k.negative (known P A (circuit_of q.circuits k.var)))
        (cond y (known_signed k.negative (known P A (input k.var))) (Some false)) ≡ Some b →
        signed k.negative (outcome q.circuits B k.var) ≡ b
    go true e y i m h =
        turn (known P A (circuit_of q.circuits k.var)) (value_of (circuit_of q.circuits k.var) B)
        (λ d z. known-value (circuit_of q.circuits k.var) P A B d (λ u r. ag u (fed k.var u e r)) z) h
    go false e true i m h =
        let z : outcome q.circuits B k.var ≡ B k.var = universal-outcome q B k.var l e in
        rw z (turn (known P A (input k.var)) (B k.var) (λ d w. known-value (input k.var) P A B d (λ u r. subst (λ n. is_bound P n ≡ false → B n ≡ A n) r (ag k.var i)) w) h)
    go false e false i m h = absurd (cc)

one-true : (x : Option Bool) → is_one x ≡ true → x ≡ Some true
one-true None h = absurd (cc)
one-true (Some b) h = ap (λ (c : Bool). Some c) h

zero-false : (x : Option Bool) → is_zero x ≡ true → x ≡ Some false
zero-false None h = absurd (cc)
zero-false (Some true) h = absurd (cc)
zero-false (Some false) h = refl

one-literal : (q : Claim) (P : Prefix) (A : Assignment) (C : Clause) → has_one q P A C ≡ true →
    (k : Literal) × IsIn k C × (literal_value q P A k ≡ Some true)
one-literal q P A [] h = absurd (cc)
one-literal q P A (k ∷ C) h = go (is_one (literal_value q P A k)) refl h (one-literal q P A C)
  where
    go : (x : Bool) → is_one (literal_value q P A k) ≡ x → x || has_one q P A C ≡ true →
        (has_one q P A C ≡ true → (j : Literal) × IsIn j C × (literal_value q P A j ≡ Some true)) →
        (j : Literal) × IsIn j (k ∷ C) × (literal_value q P A j ≡ Some true)
    go true e h f = (k, inl refl, one-true (literal_value q P A k) e)
    go false e h f = let r : (j : Literal) × IsIn j C × (literal_value q P A j ≡ Some true) = f h in (r.0, inr r.1, r.2)

both-literal : (q : Claim) (C : Clause) → both_missing q C ≡ true →
    (k : Literal) × IsIn k C × IsIn (negation k) C × (is_missing q k.var ≡ true)
both-literal q [] h = absurd (cc)
both-literal q (k ∷ C) h = go (is_missing q k.var) refl (has (negation k) C) refl h (both-literal q C)
  where
    go : (x : Bool) → is_missing q k.var ≡ x → (y : Bool) → has (negation k) C ≡ y → (x && y) || both_missing q C ≡ true →
        (both_missing q C ≡ true → (j : Literal) × IsIn j C × IsIn (negation j) C × (is_missing q j.var ≡ true)) →
        (j : Literal) × IsIn j (k ∷ C) × IsIn (negation j) (k ∷ C) × (is_missing q j.var ≡ true)
    go true e true i h f = (k, inl refl, inr (has-IsIn (negation k) C i), e)
    go true e false i h f = let r : (j : Literal) × IsIn j C × IsIn (negation j) C × (is_missing q j.var ≡ true) = f h in (r.0, inr r.1, inr r.2, r.3)
    go false e y i h f = let r : (j : Literal) × IsIn j C × IsIn (negation j) C × (is_missing q j.var ≡ true) = f h in (r.0, inr r.1, inr r.2, r.3)

one-not_missing : (q : Claim) (P : Prefix) (A : Assignment) (k : Literal) → literal_value q P A k ≡ Some true → is_missing q k.var ≡ false
one-not_missing q P A k h = go (is_existential q.formula.prefix k.var) (is_input q k.var) h
  where
    go : (x y : Bool) → cond x (known_signed k.negative (known P A (circuit_of q.circuits k.var)))
        (cond y (known_signed k.negative (known P A (input k.var))) (Some false)) ≡ Some true → not x && not y ≡ false
    go true y h = refl
    go false true h = refl
    go false false h = absurd (cc)

missing-not_existential : (q : Claim) (v : ℕ) → is_missing q v ≡ true → is_existential q.formula.prefix v ≡ false
missing-not_existential q v h = go (is_existential q.formula.prefix v) h
  where
    go : (x : Bool) → not x && not (is_input q v) ≡ true → x ≡ false
    go true h = absurd (cc)
    go false h = refl

missing-not_input : (q : Claim) (v : ℕ) → is_missing q v ≡ true → is_input q v ≡ false
missing-not_input q v h = go (is_existential q.formula.prefix v) (is_input q v) h
  where
    go : (x y : Bool) → not x && not y ≡ true → y ≡ false
    go true y h = absurd (cc)
    go false true h = absurd (cc)
    go false false h = refl

-- A closed clause is true.
won-clause : (q : Claim) (P : Prefix) (A B : Assignment) (C : Clause) → Lawful q.formula.prefix q.circuits → AreFed q →
    ((u : ℕ) → is_input q u ≡ true → is_bound P u ≡ false → B u ≡ A u) → clause_verdict q P A C ≡ Won →
    ClauseTrue (outcome q.circuits B) C
won-clause q P A B C l fed ag h = go (has_one q P A C) refl (both_missing q C) refl h
  where
    pick : (k : Literal) → IsIn k C → IsIn (negation k) C → (b : Bool) → signed k.negative (outcome q.circuits B k.var) ≡ b → ClauseTrue (outcome q.circuits B) C
    pick k i j true e = (k, i, e)
    pick k i j false e = (negation k, j, turn k.negative (outcome q.circuits B k.var) e)
      where
        turn : (x y : Bool) → signed x y ≡ false → signed (not x) y ≡ true
        turn true true e = refl
        turn true false e = absurd (cc)
        turn false true e = absurd (cc)
        turn false false e = refl

    none : (z : Bool) → cond z Lost Open ≡ Won → ⊥
    none true h = cc
    none false h = cc

    go : (x : Bool) → has_one q P A C ≡ x → (y : Bool) → both_missing q C ≡ y → cond (x || y) Won (cond (all_zero q P A C) Lost Open) ≡ Won →
        ClauseTrue (outcome q.circuits B) C
    go true e y i h =
        let r : (k : Literal) × IsIn k C × (literal_value q P A k ≡ Some true) = one-literal q P A C e in
        (r.0, r.1, literal-known q P A B r.0 true l fed ag (one-not_missing q P A r.0 r.2) r.2)
    go false e true i h =
        let r : (k : Literal) × IsIn k C × IsIn (negation k) C × (is_missing q k.var ≡ true) = both-literal q C i in
        pick r.0 r.1 r.2 (signed r.0.negative (outcome q.circuits B r.0.var)) refl
    go false e false i h = absurd (none (all_zero q P A C) h)

won-matrix : (q : Claim) (P : Prefix) (A B : Assignment) (X : Matrix) → Lawful q.formula.prefix q.circuits → AreFed q →
    ((u : ℕ) → is_input q u ≡ true → is_bound P u ≡ false → B u ≡ A u) → verdict q X P A ≡ Won →
    MatrixTrue (outcome q.circuits B) X
won-matrix q P A B [] l fed ag h D i = elim i [ ]
won-matrix q P A B (C ∷ X) l fed ag h D (inl e) =
    let p : (clause_verdict q P A C ≡ Won) × (verdict q X P A ≡ Won) = both-won (clause_verdict q P A C) (verdict q X P A) h in
    subst (λ (E : Clause). ClauseTrue (outcome q.circuits B) E) (sym e) (won-clause q P A B C l fed ag p.0)
won-matrix q P A B (C ∷ X) l fed ag h D (inr i) =
    let p : (clause_verdict q P A C ≡ Won) × (verdict q X P A ≡ Won) = both-won (clause_verdict q P A C) (verdict q X P A) h in
    won-matrix q P A B X l fed ag p.1 D i

-- Where no node is hit, all clauses are true.
no-hit : (q : Claim) (us : List ℕ) (A B : Assignment) (X : Matrix) → Lawful q.formula.prefix q.circuits → AreFed q →
    ((u : ℕ) → is_input q u ≡ true → is_bound (as_prefix us) u ≡ false → B u ≡ A u) →
    (explored (verdict q X) (as_prefix us) A).won ≡ true → MatrixTrue (outcome q.circuits B) X
no-hit q [] A B X l fed ag h = go (verdict q X [] A) refl h
  where
    n : Node
    n = record { rest = []; values = A }

    go : (v : Verdict) → verdict q X [] A ≡ v → (by_verdict v n (leaf false n)).won ≡ true → MatrixTrue (outcome q.circuits B) X
    go Lost e h = absurd (cc)
    go Won e h = won-matrix q [] A B X l fed ag e
    go Open e h = absurd (cc)
no-hit q (u ∷ us) A B X l fed ag h =
    go (verdict q X P A) refl h (no-hit q us (with_value A u false) B X l fed) (no-hit q us (with_value A u true) B X l fed)
  where
    b : Bound
    b = record { quant = Forall; var = u }

    P : Prefix
    P = b ∷ as_prefix us

    n : Node
    n = record { rest = P; values = A }

    f : Test
    f = verdict q X

    Side : Bool → Type 0
    Side w = ((v : ℕ) → is_input q v ≡ true → is_bound (as_prefix us) v ≡ false → B v ≡ with_value A u w v) →
        (explored f (as_prefix us) (with_value A u w)).won ≡ true → MatrixTrue (outcome q.circuits B) X

    agree : (w : Bool) → B u ≡ w → (v : ℕ) → is_input q v ≡ true → is_bound (as_prefix us) v ≡ false → B v ≡ with_value A u w v
    agree w e v i m = step (eqb u v) refl (eqb v u) refl (ag v i)
      where
        step : (x : Bool) → eqb u v ≡ x → (y : Bool) → eqb v u ≡ y → (cond x true (is_bound (as_prefix us) v) ≡ false → B v ≡ A v) → B v ≡ cond y w (A v)
        step true c true d k = let s : v ≡ u = grind arith in rw s e
        step true c false d k = absurd (grind arith)
        step false c true d k = absurd (grind arith)
        step false c false d k = k m

    both : (s t : Tally) → (then_second Forall s t).won ≡ true → (s.won ≡ true) × (t.won ≡ true)
    both s t h = split s.won refl h
      where
        split : (x : Bool) → s.won ≡ x → (cond x (plus s.decisions t) s).won ≡ true → (s.won ≡ true) × (t.won ≡ true)
        split true e h = (e, h)
        split false e h = absurd (true≢false (sym h ∙ e))

    go : (v : Verdict) → verdict q X P A ≡ v →
        (by_verdict v n (one_more (then_second Forall (explored f (as_prefix us) (with_value A u false)) (explored f (as_prefix us) (with_value A u true))))).won ≡ true →
        Side false → Side true → MatrixTrue (outcome q.circuits B) X
    go Lost e h s t = absurd (cc)
    go Won e h s t = won-matrix q P A B X l fed ag e
    go Open e h s t = pick (B u) refl
      where
        r : ((explored f (as_prefix us) (with_value A u false)).won ≡ true) × ((explored f (as_prefix us) (with_value A u true)).won ≡ true)
        r = both (explored f (as_prefix us) (with_value A u false)) (explored f (as_prefix us) (with_value A u true)) h

        pick : (w : Bool) → B u ≡ w → MatrixTrue (outcome q.circuits B) X
        pick true e = t (agree true e) r.1
        pick false e = s (agree false e) r.0

-- The last node of a search that is lost is hit.
pub last-hit : (q : Claim) (us : List ℕ) (A : Assignment) (X : Matrix) → (explored (verdict q X) (as_prefix us) A).won ≡ false →
    verdict q X (explored (verdict q X) (as_prefix us) A).last.rest (explored (verdict q X) (as_prefix us) A).last.values ≡ Lost
last-hit q [] A X h = go (verdict q X [] A) refl h
  where
    n : Node
    n = record { rest = []; values = A }

    f : Test
    f = verdict q X

    go : (v : Verdict) → verdict q X [] A ≡ v → (by_verdict v n (leaf false n)).won ≡ false →
        f (by_verdict v n (leaf false n)).last.rest (by_verdict v n (leaf false n)).last.values ≡ Lost
    go Lost e h = e
    go Won e h = absurd (cc)
    go Open e h = absurd (closed-end q A X e)
last-hit q (u ∷ us) A X h = go (verdict q X P A) refl h (last-hit q us (with_value A u false) X) (last-hit q us (with_value A u true) X)
  where
    P : Prefix
    P = record { quant = Forall; var = u } ∷ as_prefix us

    n : Node
    n = record { rest = P; values = A }

    f : Test
    f = verdict q X

    Hit : Tally → Type 0
    Hit t = t.won ≡ false → f t.last.rest t.last.values ≡ Lost

    side : (s t : Tally) → Hit s → Hit t → Hit (one_more (then_second Forall s t))
    side s t k m = split s.won refl
      where
        split : (x : Bool) → s.won ≡ x → Hit (one_more (cond x (plus s.decisions t) s))
        split true e = m
        split false e = k

    go : (v : Verdict) → verdict q X P A ≡ v →
        (by_verdict v n (one_more (then_second Forall (explored f (as_prefix us) (with_value A u false)) (explored f (as_prefix us) (with_value A u true))))).won ≡ false →
        Hit (explored f (as_prefix us) (with_value A u false)) → Hit (explored f (as_prefix us) (with_value A u true)) →
        f (by_verdict v n (one_more (then_second Forall (explored f (as_prefix us) (with_value A u false)) (explored f (as_prefix us) (with_value A u true))))).last.rest
        (by_verdict v n (one_more (then_second Forall (explored f (as_prefix us) (with_value A u false)) (explored f (as_prefix us) (with_value A u true))))).last.values ≡ Lost
    go Lost e h k m = e
    go Won e h k m = absurd (cc)
    go Open e h k m = side (explored f (as_prefix us) (with_value A u false)) (explored f (as_prefix us) (with_value A u true)) k m h

-- The first false clause of a node that is hit.
false-first : (q : Claim) (n : Node) (X : Matrix) → verdict q X n.rest n.values ≡ Lost →
    IsIn (first_false q n X) X × (clause_verdict q n.rest n.values (first_false q n X) ≡ Lost)
false-first q n [] h = absurd (cc)
false-first q n (C ∷ X) h = go (clause_verdict q n.rest n.values C) refl h (false-first q n X)
  where
    Q : Clause → Type 0
    Q D = IsIn D (C ∷ X) × (clause_verdict q n.rest n.values D ≡ Lost)

    go : (v : Verdict) → clause_verdict q n.rest n.values C ≡ v → worse v (verdict q X n.rest n.values) ≡ Lost →
        (verdict q X n.rest n.values ≡ Lost → IsIn (first_false q n X) X × (clause_verdict q n.rest n.values (first_false q n X) ≡ Lost)) →
        Q (cond (is_false v) C (first_false q n X))
    go Lost e h f = (inl refl, e)
    go Won e h f = let r : IsIn (first_false q n X) X × (clause_verdict q n.rest n.values (first_false q n X) ≡ Lost) = f h in (inr r.0, r.1)
    go Open e h f = let r : IsIn (first_false q n X) X × (clause_verdict q n.rest n.values (first_false q n X) ≡ Lost) = f (later (verdict q X n.rest n.values) h) in (inr r.0, r.1)
      where
        later : (w : Verdict) → worse Open w ≡ Lost → w ≡ Lost
        later Lost h = refl
        later Won h = absurd (cc)
        later Open h = absurd (cc)

by_zeros : (q : Claim) (P : Prefix) (A : Assignment) (C : Clause) → clause_verdict q P A C ≡ Lost →
    (all_zero q P A C ≡ true) × (both_missing q C ≡ false)
by_zeros q P A C h = go (has_one q P A C) (both_missing q C) (all_zero q P A C) h
  where
    go : (x y z : Bool) → cond (x || y) Won (cond z Lost Open) ≡ Lost → (z ≡ true) × (y ≡ false)
    go true y z h = absurd (cc)
    go false true z h = absurd (cc)
    go false false true h = (refl, refl)
    go false false false h = absurd (cc)

zero-at : (q : Claim) (P : Prefix) (A : Assignment) (C : Clause) (k : Literal) → all_zero q P A C ≡ true → IsIn k C →
    literal_value q P A k ≡ Some false
zero-at q P A [] k h i = elim i [ ]
zero-at q P A (j ∷ C) k h (inl e) =
    let z : is_zero (literal_value q P A j) ≡ true = grind arith in
    subst (λ (x : Literal). literal_value q P A x ≡ Some false) (sym e) (zero-false (literal_value q P A j) z)
zero-at q P A (j ∷ C) k h (inr i) = zero-at q P A C k (grind arith) i

-- The denial makes the literals of a missing universal false.
sign-after : (j : Literal) (C : Clause) (k : Literal) → has (negation j) C ≡ false → IsIn k C → eqb j.var k.var ≡ true → signed k.negative j.negative ≡ false
sign-after j [] k h i e = elim i [ ]
sign-after j (m ∷ C) k h (inl s) e =
    let p : literal_eq m (negation j) ≡ false = grind arith in
    let t : literal_eq k (negation j) ≡ false = subst (λ (x : Literal). literal_eq x (negation j) ≡ false) (sym s) p in
    let z : eqb k.var j.var ≡ true = grind arith in
    same k.negative j.negative (let w : bool_eq k.negative (not j.negative) ≡ false = grind arith in w)
  where
    same : (x y : Bool) → bool_eq x (not y) ≡ false → signed x y ≡ false
    same true true h = refl
    same true false h = absurd (cc)
    same false true h = absurd (cc)
    same false false h = refl
sign-after j (m ∷ C) k h (inr i) e = sign-after j C k (grind arith) i e

denial-denies : (q : Claim) (C : Clause) (k : Literal) → both_missing q C ≡ false → is_missing q k.var ≡ true → IsIn k C →
    signed k.negative (denial C k.var) ≡ false
denial-denies q [] k h m i = elim i [ ]
denial-denies q (j ∷ C) k h m i = go (eqb j.var k.var) refl i (denial-denies q C k)
  where
    go : (x : Bool) → eqb j.var k.var ≡ x → IsIn k (j ∷ C) → (both_missing q C ≡ false → is_missing q k.var ≡ true → IsIn k C → signed k.negative (denial C k.var) ≡ false) →
        signed k.negative (cond x j.negative (denial C k.var)) ≡ false
    go true e (inl s) f = subst (λ (y : Literal). signed y.negative j.negative ≡ false) (sym s) (own-sign j.negative)
    go true e (inr i) f =
        let v : k.var ≡ j.var = grind arith in
        let n : is_missing q j.var ≡ true = subst (λ (y : ℕ). is_missing q y ≡ true) v m in
        let a : (is_missing q j.var && has (negation j) C) || both_missing q C ≡ false = h in
        let b : true && has (negation j) C || both_missing q C ≡ false = (rw n at a) in
        sign-after j C k (first (has (negation j) C) (both_missing q C) b) i e
      where
        first : (x y : Bool) → (true && x) || y ≡ false → x ≡ false
        first true y h = absurd (cc)
        first false y h = refl
    go false e (inl s) f = absurd (let v : j.var ≡ k.var = ap (λ (y : Literal). y.var) (sym s) in grind arith)
    go false e (inr i) f = f (grind arith) m i

-- A node that is hit denies a clause.
pub hit-denies : (q : Claim) (n : Node) → Lawful q.formula.prefix q.circuits → AreFed q → verdict q q.formula.matrix n.rest n.values ≡ Lost →
    (C : Clause) × IsIn C q.formula.matrix × (¬ ClauseTrue (outcome q.circuits (counter_at q n)) C)
hit-denies q n l fed h = (D, r.0, λ t. true≢false (sym t.2 ∙ all_false t.0 t.1))
  where
    D : Clause
    D = first_false q n q.formula.matrix

    r : IsIn D q.formula.matrix × (clause_verdict q n.rest n.values D ≡ Lost)
    r = false-first q n q.formula.matrix h

    z : (all_zero q n.rest n.values D ≡ true) × (both_missing q D ≡ false)
    z = by_zeros q n.rest n.values D r.1

    B : Assignment
    B = counter_at q n

    all_false : (k : Literal) → IsIn k D → signed k.negative (outcome q.circuits B k.var) ≡ false
    all_false k i = go (is_missing q k.var) refl
      where
        go : (x : Bool) → is_missing q k.var ≡ x → signed k.negative (outcome q.circuits B k.var) ≡ false
        go true m =
            let o : outcome q.circuits B k.var ≡ B k.var = universal-outcome q B k.var l (missing-not_existential q k.var m) in
            let p : is_input q k.var ≡ false = missing-not_input q k.var m in
            let e : B k.var ≡ denial D k.var = rw p refl in
            ap (signed k.negative) (o ∙ e) ∙ denial-denies q D k z.1 m i
        go false m =
            literal-known q n.rest n.values B k false l fed (λ u a b. rw a refl) m (zero-at q n.rest n.values D k z.0 i)

pub valid-skolem : (q : Claim) → Lawful q.formula.prefix q.circuits → AreFed q → (search_of q).won ≡ true → Skolem q.formula.prefix q.formula.matrix q.circuits
valid-skolem q l fed h = record {
  lawful = l;
  wins = λ B. no-hit q q.inputs nothing B q.formula.matrix l fed (λ u i m. absurd (true≢false (sym i ∙ m))) h;
}

pub counter-denies : (q : Claim) → Lawful q.formula.prefix q.circuits → AreFed q → (search_of q).won ≡ false →
    (C : Clause) × IsIn C q.formula.matrix × (¬ ClauseTrue (outcome q.circuits (counter_at q (search_of q).last)) C)
counter-denies q l fed h = hit-denies q (search_of q).last l fed (last-hit q q.inputs nothing q.formula.matrix h)

pub skolem-valid : (q : Claim) → Lawful q.formula.prefix q.circuits → AreFed q → Skolem q.formula.prefix q.formula.matrix q.circuits → (search_of q).won ≡ true
skolem-valid q l fed s = go (search_of q).won refl
  where
    go : (x : Bool) → (search_of q).won ≡ x → x ≡ true
    go true e = refl
    go false e =
        let r : (C : Clause) × IsIn C q.formula.matrix × (¬ ClauseTrue (outcome q.circuits (counter_at q (search_of q).last)) C) = counter-denies q l fed e in
        absurd (r.2 (s.wins (counter_at q (search_of q).last) r.0 r.1))

pub length-inputs : (us : List ℕ) → length (as_prefix us) ≡ length us
length-inputs [] = refl
length-inputs (u ∷ us) = ap (λ n. suc n) (length-inputs us)

pub few-branches : (q : Claim) → branches q < 2 ^ length q.inputs
few-branches q = subst (λ n. branches q < 2 ^ n) (length-inputs q.inputs) (few (verdict q q.formula.matrix) (as_prefix q.inputs) nothing)
