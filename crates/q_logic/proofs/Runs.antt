-- Runs keep the truth, and undo lists give Skolem functions back.
use Rattle.std.proofs.Common.{◌≡◌, ℕ, Bool, true, false, cond, eqb, [], ◌∷◌, ◌⊎◌, inl, inr, arith, refl, sym, ap, ◌∙◌, subst, Option, Some, None, ◌≤◌, List, ◌++◌}
use Rattle.q_logic.specs.Prelude.{Literal, Prefix, Clause, Matrix, IsIn, is_existential, is_bound, universal_before, Distinct, Closed, Circuit, constant, value_of, Reads, replaced, without, clause_eq, one_less, insert_after, removed_from, with_circuit, literal_eq, copies, Block, SameBlocks, PrenexFormula, ProofStep, ValidSteps, Valid, after}
use Rattle.q_logic.specs.Truth.{Assignment, ClauseTrue, MatrixTrue, signed, with_value}
use Rattle.q_logic.specs.Skolems.{Strategy, circuit_of, or_input, given, map_circuit, reread, outcome, Skolem, Lawful}
use Rattle.q_logic.proofs.ClauseLemmas.{literal_eq-sound, literal_eq-itself}
use Rattle.q_logic.proofs.UniversalPivot.{without-IsIn, given-reread, outcome-reread}
use Rattle.q_logic.proofs.Truth.{none_bound, universal_before-is_bound}
use Rattle.q_logic.proofs.TreeValues.{Reads-replaced}
use Rattle.q_logic.proofs.Prefixes.{insert-is_existential, insert-itself, insert-universal_before, insert-not_before, removed-is_existential, removed-unbound, removed-universal_before}
use Rattle.q_logic.specs.declared.limits.Limits.{Limits}

pub clause_eq-sound : (C D : Clause) → clause_eq C D ≡ true → C ≡ D
clause_eq-sound [] [] h = refl
clause_eq-sound [] (k ∷ D) h = grind arith
clause_eq-sound (j ∷ C) [] h = grind arith
clause_eq-sound (j ∷ C) (k ∷ D) h =
    let e : j ≡ k = literal_eq-sound j k (grind arith) in
    let f : C ≡ D = clause_eq-sound C D (grind arith) in λ i. e i ∷ f i

pub one_less-IsIn : (C : Clause) (X : Matrix) (D : Clause) → IsIn D (one_less C X) → IsIn D X
one_less-IsIn C [] D m = m
one_less-IsIn C (E ∷ X) D m = go (clause_eq E C) m (one_less-IsIn C X D)
  where
    go : (b : Bool) → IsIn D (cond b X (E ∷ one_less C X)) → (IsIn D (one_less C X) → IsIn D X) →
        IsIn D (E ∷ X)
    go true m ih = inr m
    go false (inl e) ih = inl e
    go false (inr m) ih = inr (ih m)

pub IsIn-one_less : (C : Clause) (X : Matrix) (D : Clause) → IsIn D X → IsIn D (C ∷ one_less C X)
IsIn-one_less C [] D m = elim m [ ]
IsIn-one_less C (E ∷ X) D m = go (clause_eq E C) refl m (IsIn-one_less C X D)
  where
    go : (b : Bool) → clause_eq E C ≡ b → (D ≡ E) ⊎ IsIn D X → (IsIn D X → IsIn D (C ∷ one_less C X)) →
        IsIn D (C ∷ cond b X (E ∷ one_less C X))
    go true q (inl e) ih = inl (e ∙ clause_eq-sound E C q)
    go true q (inr m) ih = inr m
    go false q (inl e) ih = inr (inl e)
    go false q (inr m) ih = elim (ih m) [ inl e ↦ inl e | inr n ↦ inr (inr n) ]

pub Skolem-fewer : (P : Prefix) (X Y : Matrix) (c : Strategy) → ((D : Clause) → IsIn D Y → IsIn D X) →
    Skolem P X c → Skolem P Y c
Skolem-fewer P X Y c h sk = record { lawful = sk.lawful; wins = λ A D m. sk.wins A D (h D m) }

pub Skolem-first : (P : Prefix) (X : Matrix) (C : Clause) (c : Strategy) →
    ((A : Assignment) → MatrixTrue (outcome c A) X → ClauseTrue (outcome c A) C) → Skolem P X c →
    Skolem P (C ∷ X) c
Skolem-first P X C c h sk = record { lawful = sk.lawful; wins = winning }
  where
    winning : (A : Assignment) → MatrixTrue (outcome c A) (C ∷ X)
    winning A D (inl e) = subst (ClauseTrue (outcome c A)) (sym e) (h A (sk.wins A))
    winning A D (inr m) = sk.wins A D m

-- The clause C in place of a shorter one.
pub Skolem-longer : (P : Prefix) (X : Matrix) (l : Literal) (C : Clause) (c : Strategy) →
    Skolem P (without l C ∷ X) c → Skolem P (C ∷ X) c
Skolem-longer P X l C c sk =
    Skolem-first P X C c (λ A t. let w : ClauseTrue (outcome c A) (without l C) =
    sk.wins A (without l C) (inl refl) in (w.0, without-IsIn l C w.0 w.1, w.2))
    (Skolem-fewer P (without l C ∷ X) X c (λ D m. inr m) sk)

-- Other trees, at variables that no clause has.
Skolem-aside : (P Q : Prefix) (X : Matrix) (c d : Strategy) (v : ℕ) →
    ((D : Clause) → IsIn D X → (k : Literal) → IsIn k D → eqb k.var v ≡ false) →
    ((x : ℕ) → eqb x v ≡ false → d x ≡ c x) → Lawful Q d → Skolem P X c → Skolem Q X d
Skolem-aside P Q X c d v free same lawful sk = record { lawful = lawful; wins = winning }
  where
    winning : (A : Assignment) → MatrixTrue (outcome d A) X
    winning A D m = let w : ClauseTrue (outcome c A) D = sk.wins A D m in (
      w.0,
      w.1,
      subst (λ o. signed w.0.negative (value_of (or_input w.0.var o) A) ≡ true)
          (sym (same w.0.var (free D m w.0 w.1))) w.2,
    )

pub with_circuit-other : (v : ℕ) (o : Option Circuit) (c : Strategy) (x : ℕ) → eqb x v ≡ false →
    with_circuit v o c x ≡ c x
with_circuit-other v o c x n = rw n refl

pub unbound_free : (P : Prefix) (X : Matrix) (v : ℕ) → Closed P X → is_bound P v ≡ false → (D : Clause) →
    IsIn D X → (k : Literal) → IsIn k D → eqb k.var v ≡ false
unbound_free P X v cl n D m k i = go (eqb k.var v) refl
  where
    go : (b : Bool) → eqb k.var v ≡ b → eqb k.var v ≡ false
    go true q =
        let e : k.var ≡ v = grind arith in let z : is_bound P v ≡ true =
        subst (λ x. is_bound P x ≡ true) e (cl D m k i) in grind arith
    go false q = q

-- A variable is v or another one.
pub at_or_other : (v : ℕ) (Q : ℕ → Type 0) → Q v → ((x : ℕ) → eqb x v ≡ false → Q x) → (x : ℕ) → Q x
at_or_other v Q here there x = go (eqb x v) refl
  where
    go : (b : Bool) → eqb x v ≡ b → Q x
    go true q = let e : v ≡ x = grind arith in subst Q e here
    go false q = there x q

with_circuit-itself : (v : ℕ) (o : Option Circuit) (c : Strategy) → with_circuit v o c v ≡ o
with_circuit-itself v o c = let e : eqb v v ≡ true = grind arith in rw e refl

unread_by_const : (v : ℕ) (b : Bool) (c : Strategy) (u : ℕ) →
    Reads (circuit_of (with_circuit v (Some (constant b)) c) v) u → ⊥
unread_by_const v b c u r = subst (λ o. Reads (or_input v o) u) (with_circuit-itself v (Some (constant b)) c) r

-- A fresh variable, back and forth.
pub fresh-lawful : (P : Prefix) (v w : ℕ) (c : Strategy) → is_bound P v ≡ false →
    Lawful (insert_after w v P) c → Lawful P (with_circuit v None c)
fresh-lawful P v w c n sk = record { trees = trees; reads = reading }
  where
    not_e : is_existential P v ≡ false
    not_e = none_bound P v n

    trees : (x : ℕ) → given (with_circuit v None c x) ≡ is_existential P x
    trees =
        at_or_other v (λ x. given (with_circuit v None c x) ≡ is_existential P x)
        (ap given (with_circuit-itself v None c) ∙ sym not_e) (λ x q. ap given (with_circuit-other v None c x q) ∙
        (sk.trees x ∙ insert-is_existential w v P x q))

    reading : (x : ℕ) → is_existential P x ≡ true → (u : ℕ) →
        Reads (circuit_of (with_circuit v None c) x) u → universal_before P u x ≡ true
    reading =
        at_or_other v (λ x. is_existential P x ≡ true → (u : ℕ) →
        Reads (circuit_of (with_circuit v None c) x) u →
        universal_before P u x ≡ true) (λ f. let z : is_existential P v ≡ false = not_e in
        absurd (grind arith)) other
      where
        other : (x : ℕ) → eqb x v ≡ false → is_existential P x ≡ true → (u : ℕ) →
            Reads (circuit_of (with_circuit v None c) x) u → universal_before P u x ≡ true
        other x q f u r =
            let z : universal_before (insert_after w v P) u x ≡ true =
            sk.reads x (insert-is_existential w v P x q ∙
            f) u (subst (λ o. Reads (or_input x o) u) (with_circuit-other v None c x q) r) in
            go (eqb u v) refl z
          where
            go : (b : Bool) → eqb u v ≡ b → universal_before (insert_after w v P) u x ≡ true →
                universal_before P u x ≡ true
            go true p z =
                let i : u ≡ v = grind arith in let y : universal_before (insert_after w v P) v x ≡ true =
                subst (λ t. universal_before (insert_after w v P) t x ≡ true) i z in
                let h : universal_before (insert_after w v P) v x ≡ false = insert-not_before w v P x n in
                grind arith
            go false p z = sym (insert-universal_before w v P u x q p) ∙ z

pub fresh-back : (P : Prefix) (X : Matrix) (v w : ℕ) (c : Strategy) → Closed P X → is_bound P v ≡ false →
    is_existential P w ≡ true → Skolem (insert_after w v P) X c → Skolem P X (with_circuit v None c)
fresh-back P X v w c cl n e sk =
    Skolem-aside (insert_after w v P) P X c (with_circuit v None c) v (unbound_free P X v cl n)
    (with_circuit-other v None c) (fresh-lawful P v w c n sk.lawful) sk

pub fresh-on : (P : Prefix) (X : Matrix) (v w : ℕ) (c : Strategy) → Closed P X → is_bound P v ≡ false →
    is_existential P w ≡ true → Skolem P X c → Skolem (insert_after w v P) X
    (with_circuit v (Some (constant false)) c)
fresh-on P X v w c cl n e sk =
    Skolem-aside P (insert_after w v P) X c d v (unbound_free P X v cl n)
    (with_circuit-other v (Some (constant false)) c) (record { trees = trees; reads = reading }) sk
  where
    d : Strategy
    d = with_circuit v (Some (constant false)) c

    trees : (x : ℕ) → given (d x) ≡ is_existential (insert_after w v P) x
    trees =
        at_or_other v (λ x. given (d x) ≡ is_existential (insert_after w v P) x)
        (ap given (with_circuit-itself v (Some (constant false)) c) ∙
        sym (insert-itself w v P n e)) (λ x q. ap given (with_circuit-other v (Some (constant false)) c x q) ∙
        (sk.trees x ∙ sym (insert-is_existential w v P x q)))

    reading : (x : ℕ) → is_existential (insert_after w v P) x ≡ true → (u : ℕ) → Reads (circuit_of d x) u →
        universal_before (insert_after w v P) u x ≡ true
    reading =
        at_or_other v (λ x. is_existential (insert_after w v P) x ≡ true → (u : ℕ) →
        Reads (circuit_of d x) u → universal_before (insert_after w v P) u x ≡ true)
        (λ f u r. absurd (unread_by_const v false c u r)) other
      where
        other : (x : ℕ) → eqb x v ≡ false → is_existential (insert_after w v P) x ≡ true → (u : ℕ) →
            Reads (circuit_of d x) u → universal_before (insert_after w v P) u x ≡ true
        other x q f u r =
            let z : universal_before P u x ≡ true =
            sk.reads x (sym (insert-is_existential w v P x q) ∙
            f) u (subst (λ o. Reads (or_input x o) u)
            (with_circuit-other v (Some (constant false)) c x q) r) in
            insert-universal_before w v P u x q (differs (universal_before-is_bound P u x z)) ∙ z
          where
            differs : is_bound P u ≡ true → eqb u v ≡ false
            differs h = go (eqb u v) refl
              where
                go : (b : Bool) → eqb u v ≡ b → eqb u v ≡ false
                go true p =
                    let i : u ≡ v = grind arith in
                    let y : is_bound P v ≡ true = subst (λ t. is_bound P t ≡ true) i h in grind arith
                go false p = p

-- A removed variable.
pub removed-lawful : (P : Prefix) (v : ℕ) (c : Strategy) → Distinct P → Lawful (removed_from v P) c →
    Lawful P (cond (is_existential P v) (with_circuit v (Some (constant false)) c) c)
removed-lawful P v c di sk = go (is_existential P v) refl
  where
    Q : Prefix
    Q = removed_from v P

    not_there : is_bound Q v ≡ false
    not_there = removed-unbound v P di

    old : (x : ℕ) → eqb x v ≡ false → is_existential P x ≡ true → (u : ℕ) → Reads (circuit_of c x) u →
        universal_before P u x ≡ true
    old x q f u r =
        let z : universal_before Q u x ≡ true = sk.reads x (removed-is_existential v P x q ∙ f) u r in
        sym (removed-universal_before v P u x q (differs (universal_before-is_bound Q u x z))) ∙ z
      where
        differs : is_bound Q u ≡ true → eqb u v ≡ false
        differs h = step (eqb u v) refl
          where
            step : (b : Bool) → eqb u v ≡ b → eqb u v ≡ false
            step true p =
                let i : u ≡ v = grind arith in let y : is_bound Q v ≡ true =
                subst (λ t. is_bound Q t ≡ true) i h in let z : is_bound Q v ≡ false = not_there in
                grind arith
            step false p = p

    go : (b : Bool) → is_existential P v ≡ b → Lawful P
        (cond b (with_circuit v (Some (constant false)) c) c)
    go false e = record {
      trees =
          (at_or_other v (λ x. given (c x) ≡ is_existential P x) (sk.trees v ∙
          (none_bound Q v not_there ∙ sym e)) (λ x q. sk.trees x ∙ removed-is_existential v P x q));
      reads =
          (at_or_other v (λ x. is_existential P x ≡ true → (u : ℕ) → Reads (circuit_of c x) u →
          universal_before P u x ≡ true) (λ f. absurd (grind arith)) old);
    }
    go true e = record {
      trees =
          (at_or_other v (λ x. given (with_circuit v (Some (constant false)) c x) ≡ is_existential P x)
          (ap given (with_circuit-itself v (Some (constant false)) c) ∙
          sym e) (λ x q. ap given (with_circuit-other v (Some (constant false)) c x q) ∙
          (sk.trees x ∙ removed-is_existential v P x q)));
      reads =
          (at_or_other v (λ x. is_existential P x ≡ true → (u : ℕ) →
          Reads (circuit_of (with_circuit v (Some (constant false)) c) x) u →
          universal_before P u x ≡ true) (λ f u r. absurd (unread_by_const v false c u r))
          (λ x q f u r. old x q f u (subst (λ o. Reads (or_input x o) u)
          (with_circuit-other v (Some (constant false)) c x q) r)));
    }

pub removed-back : (P : Prefix) (X : Matrix) (v : ℕ) (c : Strategy) → Distinct P →
    ((D : Clause) → IsIn D X → (k : Literal) → IsIn k D → eqb k.var v ≡ false) →
    Skolem (removed_from v P) X c →
    Skolem P X (cond (is_existential P v) (with_circuit v (Some (constant false)) c) c)
removed-back P X v c di free sk =
    Skolem-aside (removed_from v P) P X c (cond (is_existential P v)
    (with_circuit v (Some (constant false)) c) c) v free same (removed-lawful P v c di sk.lawful) sk
  where
    same : (x : ℕ) → eqb x v ≡ false → cond (is_existential P v)
        (with_circuit v (Some (constant false)) c) c x ≡ c x
    same x q = go (is_existential P v)
      where
        go : (b : Bool) → cond b (with_circuit v (Some (constant false)) c) c x ≡ c x
        go true = with_circuit-other v (Some (constant false)) c x q
        go false = refl

pub removed-on : (P : Prefix) (X : Matrix) (v : ℕ) (c : Strategy) → Distinct P →
    ((D : Clause) → IsIn D X → (k : Literal) → IsIn k D → eqb k.var v ≡ false) → Skolem P X c →
    Skolem (removed_from v P) X (with_circuit v None (reread v (constant false) c))
removed-on P X v c di free sk =
    record { lawful = record { trees = trees; reads = reading }; wins = winning }
  where
    Q : Prefix
    Q = removed_from v P

    r0 : Strategy
    r0 = reread v (constant false) c

    d : Strategy
    d = with_circuit v None r0

    not_e : is_existential Q v ≡ false
    not_e = none_bound Q v (removed-unbound v P di)

    trees : (x : ℕ) → given (d x) ≡ is_existential Q x
    trees =
        at_or_other v (λ x. given (d x) ≡ is_existential Q x) (ap given (with_circuit-itself v None r0) ∙
        sym not_e) (λ x q. ap given (with_circuit-other v None r0 x q) ∙
        (given-reread v (constant false) c x ∙ (sk.trees x ∙ sym (removed-is_existential v P x q))))

    reading : (x : ℕ) → is_existential Q x ≡ true → (u : ℕ) → Reads (circuit_of d x) u →
        universal_before Q u x ≡ true
    reading =
        at_or_other v (λ x. is_existential Q x ≡ true → (u : ℕ) → Reads (circuit_of d x) u →
        universal_before Q u x ≡ true) (λ f. let z : is_existential Q v ≡ false = not_e in
        absurd (grind arith)) other
      where
        other : (x : ℕ) → eqb x v ≡ false → is_existential Q x ≡ true → (u : ℕ) → Reads (circuit_of d x) u →
            universal_before Q u x ≡ true
        other x q f u r =
            go (c x) (sk.trees x ∙ (sym (removed-is_existential v P x q) ∙ f))
            (sk.reads x (sym (removed-is_existential v P x q) ∙ f))
            (subst (λ o. Reads (or_input x o) u) (with_circuit-other v None r0 x q) r)
          where
            go : (o : Option Circuit) → given o ≡ true →
                ((w : ℕ) → Reads (or_input x o) w → universal_before P w x ≡ true) →
                Reads (or_input x (map_circuit (replaced v (constant false)) o)) u →
                universal_before Q u x ≡ true
            go None g h r = absurd (grind arith)
            go (Some t) g h r =
                elim (Reads-replaced v (constant false) t u r)
                [ inl p ↦ removed-universal_before v P u x q p.1 ∙ h u p.0 | inr p ↦ elim p.1 [ ] ]

    winning : (A : Assignment) → MatrixTrue (outcome d A) X
    winning A D m =
        let w : ClauseTrue (outcome c (with_value A v false)) D = sk.wins (with_value A v false) D m in
        let q : eqb w.0.var v ≡ false = free D m w.0 w.1 in
        let e : outcome d A w.0.var ≡ outcome c (with_value A v false) w.0.var =
        ap (λ o. value_of (or_input w.0.var o) A) (with_circuit-other v None r0 w.0.var q) ∙
        outcome-reread v (constant false) c A w.0.var q in
        (w.0, w.1, ap (signed w.0.negative) e ∙ w.2)

pub clause_eq-itself : (C : Clause) → clause_eq C C ≡ true
clause_eq-itself [] = refl
clause_eq-itself (k ∷ C) = let a : literal_eq k k ≡ true = literal_eq-itself k in let i : clause_eq C C ≡ true = clause_eq-itself C in grind arith

pub IsIn-copies : (C : Clause) (X : Matrix) → IsIn C X → 1 ≤ copies C X
IsIn-copies C [] m = elim m [ ]
IsIn-copies C (D ∷ X) (inl e) = let z : clause_eq D C ≡ true = subst (λ y. clause_eq y C ≡ true) e (clause_eq-itself C) in grind arith
IsIn-copies C (D ∷ X) (inr m) = let z : 1 ≤ copies C X = IsIn-copies C X m in grind arith

pub copies-IsIn : (C : Clause) (X : Matrix) → 1 ≤ copies C X → IsIn C X
copies-IsIn C [] h = grind arith
copies-IsIn C (D ∷ X) h = go (clause_eq D C) refl (copies-IsIn C X)
  where
    go : (b : Bool) → clause_eq D C ≡ b → (1 ≤ copies C X → IsIn C X) → IsIn C (D ∷ X)
    go true q ih = inl (sym (clause_eq-sound D C q))
    go false q ih = inr (ih (grind arith))

pub SameBlocks-refl : (Bs : List Block) → SameBlocks Bs Bs
SameBlocks-refl [] = tt
SameBlocks-refl (B ∷ Bs) = (refl, (λ x. ((λ m. m), (λ m. m))), SameBlocks-refl Bs)

-- One step more.
pub valid_more : (m : Limits) (F : PrenexFormula) (ss : List ProofStep) (E : PrenexFormula) (s : ProofStep) → ValidSteps m F ss E → Valid m E s → ValidSteps m F (ss ++ s ∷ []) (after E s)
valid_more m F [] E s v w = (subst (λ (G : PrenexFormula). Valid m G s) (sym v) w, ap (λ (G : PrenexFormula). after G s) v)
valid_more m F (t ∷ ss) E s v w = (v.0, valid_more m (after F t) ss E s v.1 w)
