-- Fresh and removed variables carry Herbrand functions over.
use Rattle.std.proofs.Common.{◌≡◌, ℕ, Bool, true, false, cond, eqb, [], ◌∷◌, arith, refl, sym, ap, ◌∙◌, subst, Option, Some, None}
use Rattle.q_logic.specs.declared.formulas.Quant.TheVariants.{Exists, Forall}
use Rattle.q_logic.specs.Prelude.{Literal, Prefix, Clause, Matrix, IsIn, is_existential, is_universal, is_bound, Distinct, Closed, Assignment, signed, with_value, Circuit, constant, value_of, replaced, insert_after, removed_from, with_circuit}
use Rattle.q_logic.specs.Skolems.{Strategy, or_input, given, map_circuit, reread, outcome, Skolem, Lawful}
use Rattle.q_logic.specs.Herbrands.{MatrixFalse, LawfulHerbrand, Herbrand}
use Rattle.q_logic.specs.Exchanging.{other_quant, exchanged}
use Rattle.q_logic.proofs.Prefixes.{insert-distinct, inserted-not_universal}
use Rattle.q_logic.proofs.Runs.{unbound_free, removed-lawful, removed-on, with_circuit-other}
use Rattle.q_logic.proofs.UniversalPivot.{outcome-reread}
use Rattle.q_logic.proofs.Exchanged.{exchanged-existential, exchanged-distinct, lawful-exchanged, exchanged-lawful}

-- The prefix with v in it, exchanged, loses v again.
exchanged-inserted : (w v : ℕ) (P : Prefix) → is_bound P v ≡ false →
    removed_from v (exchanged (insert_after w v P)) ≡ exchanged P
exchanged-inserted w v [] n = refl
exchanged-inserted w v (b ∷ P) n = go (eqb b.var w) refl (eqb b.var v) refl n (exchanged-inserted w v P)
  where
    here : (Q : Prefix) → cond (eqb v v) Q (record { quant = Forall; var = v } ∷ removed_from v Q) ≡ Q
    here Q = let z : eqb v v ≡ true = grind arith in rw z refl

    go : (c : Bool) → eqb b.var w ≡ c → (d : Bool) → eqb b.var v ≡ d → cond d true (is_bound P v) ≡ false →
        (is_bound P v ≡ false → removed_from v (exchanged (insert_after w v P)) ≡ exchanged P) →
        removed_from v (exchanged (cond c (b ∷ record { quant = Exists; var = v } ∷ P) (b ∷ insert_after w v P))) ≡
        exchanged (b ∷ P)
    go c e true f n ih = absurd (grind arith)
    go true e false f n ih =
        rw f (ap (λ (Q : Prefix). record { quant = other_quant b.quant; var = b.var } ∷ Q) (here (exchanged P)))
    go false e false f n ih =
        rw f (ap (λ (Q : Prefix). record { quant = other_quant b.quant; var = b.var } ∷ Q) (ih n))

exchanged-removed : (v : ℕ) (P : Prefix) → exchanged (removed_from v P) ≡ removed_from v (exchanged P)
exchanged-removed v [] = refl
exchanged-removed v (b ∷ P) = go (eqb b.var v) (exchanged-removed v P)
  where
    go : (c : Bool) → exchanged (removed_from v P) ≡ removed_from v (exchanged P) →
        exchanged (cond c P (b ∷ removed_from v P)) ≡
        cond c (exchanged P) (record { quant = other_quant b.quant; var = b.var } ∷ removed_from v (exchanged P))
    go true i = refl
    go false i = ap (λ (Q : Prefix). record { quant = other_quant b.quant; var = b.var } ∷ Q) i

pub fresh-lawful : (P : Prefix) (v w : ℕ) (c : Strategy) → Distinct P → is_bound P v ≡ false →
    LawfulHerbrand (insert_after w v P) c → LawfulHerbrand P (reread v (constant false) c)
fresh-lawful P v w c d n h =
    subst (LawfulHerbrand P) same (exchanged-lawful P kept there)
  where
    Q : Prefix
    Q = exchanged (insert_after w v P)

    kept : Strategy
    kept = with_circuit v None (reread v (constant false) c)

    whole : Skolem Q [] c
    whole = record { lawful = lawful-exchanged (insert_after w v P) c h; wins = λ A D m. elim m [ ] }

    gone : Skolem (removed_from v Q) [] kept
    gone = removed-on Q [] v c (exchanged-distinct (insert_after w v P) (insert-distinct w v P n d)) (λ D m. elim m [ ]) whole

    there : Lawful (exchanged P) kept
    there = subst (λ R. Lawful R kept) (exchanged-inserted w v P n) gone.lawful

    none : (o : Option Circuit) → given o ≡ false → None ≡ map_circuit (replaced v (constant false)) o
    none None e = refl
    none (Some t) e = absurd (grind arith)

    at : (x : ℕ) → kept x ≡ reread v (constant false) c x
    at x = go (eqb x v) refl
      where
        go : (b : Bool) → eqb x v ≡ b →
            cond b None (reread v (constant false) c x) ≡ map_circuit (replaced v (constant false)) (c x)
        go true e =
            let z : v ≡ x = grind arith in
            none (c x) (subst (λ y. given (c y) ≡ false) z (h.trees v ∙ inserted-not_universal w v P n))
        go false e = refl

    same : kept ≡ reread v (constant false) c
    same = λ i x. at x i

pub fresh-carries : (P : Prefix) (X : Matrix) (v w : ℕ) (c : Strategy) → Distinct P → Closed P X →
    is_bound P v ≡ false → Herbrand (insert_after w v P) X c → Herbrand P X (reread v (constant false) c)
fresh-carries P X v w c d cl n h =
    record { lawful = fresh-lawful P v w c d n h.lawful; loses = λ A. losing A (h.loses (with_value A v false)) }
  where
    losing : (A : Assignment) → MatrixFalse (outcome c (with_value A v false)) X →
        MatrixFalse (outcome (reread v (constant false) c) A) X
    losing A (D, m, f) = (
      D,
      m,
      λ t. f (
        t.0,
        t.1,
        ap (signed t.0.negative)
            (sym (outcome-reread v (constant false) c A t.0.var (unbound_free P X v cl n D m t.0 t.1))) ∙ t.2,
      ),
    )

pub removed-carries_lawful : (P : Prefix) (v : ℕ) (c : Strategy) → Distinct P →
    LawfulHerbrand (removed_from v P) c →
    LawfulHerbrand P (cond (is_universal P v) (with_circuit v (Some (constant false)) c) c)
removed-carries_lawful P v c d h =
    subst (λ b. LawfulHerbrand P (cond b (with_circuit v (Some (constant false)) c) c)) (exchanged-existential P v)
    (exchanged-lawful P (cond (is_existential (exchanged P) v) (with_circuit v (Some (constant false)) c) c)
    (removed-lawful (exchanged P) v c (exchanged-distinct P d)
    (subst (λ R. Lawful R c) (exchanged-removed v P) (lawful-exchanged (removed_from v P) c h))))

pub removed-carries : (P : Prefix) (X : Matrix) (v : ℕ) (c : Strategy) → Distinct P →
    ((D : Clause) → IsIn D X → (k : Literal) → IsIn k D → eqb k.var v ≡ false) →
    Herbrand (removed_from v P) X c →
    Herbrand P X (cond (is_universal P v) (with_circuit v (Some (constant false)) c) c)
removed-carries P X v c d free h =
    record { lawful = removed-carries_lawful P v c d h.lawful; loses = λ A. losing A (h.loses A) }
  where
    e : Strategy
    e = cond (is_universal P v) (with_circuit v (Some (constant false)) c) c

    same : (x : ℕ) → eqb x v ≡ false → e x ≡ c x
    same x q = go (is_universal P v)
      where
        go : (b : Bool) → cond b (with_circuit v (Some (constant false)) c) c x ≡ c x
        go true = with_circuit-other v (Some (constant false)) c x q
        go false = refl

    losing : (A : Assignment) → MatrixFalse (outcome c A) X → MatrixFalse (outcome e A) X
    losing A (D, m, f) = (
      D,
      m,
      λ t. f (
        t.0,
        t.1,
        subst (λ o. signed t.0.negative (value_of (or_input t.0.var o) A) ≡ true)
            (same t.0.var (free D m t.0 t.1)) t.2,
      ),
    )
