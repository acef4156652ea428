-- The circuits that a won search picks.
use Rattle.std.proofs.Common.{◌≡◌, ℕ, Bool, true, false, cond, ◌||◌, [], ◌∷◌, inl, inr, refl, sym, ap, ◌∙◌, subst}
use Rattle.q_logic.specs.declared.formulas.Quant.{Quant}
use Rattle.q_logic.specs.declared.formulas.Quant.TheVariants.{Exists, Forall}
use Rattle.q_logic.specs.declared.verdict.Verdict.{Verdict}
use Rattle.q_logic.specs.declared.verdict.Verdict.TheVariants.{Lost, Won, Open}
use Rattle.q_logic.specs.declared.verdict.Standing.TheVariants.{True, False, Chosen, Free}
use Rattle.q_logic.specs.Prelude.{Literal, Clause, Matrix, Prefix, PrenexFormula, IsIn, is_existential, is_universal, is_bound, Distinct, IsFormula, Circuit, constant, choice, Test, Node, explored, goes_on, one_more, plus, then_second, by_verdict, leaf, nothing}
use Rattle.q_logic.specs.Truth.{Assignment, ClauseTrue, MatrixTrue, signed, with_value, literal_true}
use Rattle.q_logic.specs.Skolems.{Skolem, outcome, Lawful}
use Rattle.q_logic.specs.Decisions.{standing, is_true, has_true, clause_verdict, verdict, search_of, picked, joined, is_open, circuits_at, circuits_of}
use Rattle.q_logic.proofs.TreeValues.{MatrixTrue-agree}
use Rattle.q_logic.proofs.Truth.{play, Agrees, SkolemAt, exists_to, forall_to, strategy-wins, none_bound, MatrixTrue-closed}
use Rattle.q_logic.proofs.WonSearch.{by_true, both-won}

-- A literal that is true has a value.
true-literal : (P : Prefix) (A : Assignment) (C : Clause) → has_true P A C ≡ true →
    (k : Literal) × IsIn k C × (is_bound P k.var ≡ false) × (literal_true A k ≡ true)
true-literal P A [] h = absurd (cc)
true-literal P A (k ∷ C) h = go (is_true (standing P A k)) refl h (true-literal P A C)
  where
    free : (y : Bool) → is_true (cond y Free Chosen) ≡ true → ⊥
    free true h = cc
    free false h = cc

    here : (x y z : Bool) → is_bound P k.var ≡ x → literal_true A k ≡ z → is_true (cond x (cond y Free Chosen) (cond z True False)) ≡ true →
        (is_bound P k.var ≡ false) × (literal_true A k ≡ true)
    here true y z e f h = absurd (free y h)
    here false y true e f h = (e, f)
    here false y false e f h = absurd (cc)

    go : (x : Bool) → is_true (standing P A k) ≡ x → x || has_true P A C ≡ true →
        (has_true P A C ≡ true → (j : Literal) × IsIn j C × (is_bound P j.var ≡ false) × (literal_true A j ≡ true)) →
        (j : Literal) × IsIn j (k ∷ C) × (is_bound P j.var ≡ false) × (literal_true A j ≡ true)
    go true e h f = let r : (is_bound P k.var ≡ false) × (literal_true A k ≡ true) = here (is_bound P k.var) (is_universal P k.var) (literal_true A k) refl refl e in (k, inl refl, r.0, r.1)
    go false e h f = let r : (j : Literal) × IsIn j C × (is_bound P j.var ≡ false) × (literal_true A j ≡ true) = f h in (r.0, inr r.1, r.2, r.3)

-- At a node that is won all circuits will do.
won-plays : (P : Prefix) (X : Matrix) (A B : Assignment) (c : ℕ → Circuit) → verdict X P A ≡ Won →
    ((x : ℕ) → is_bound P x ≡ false → B x ≡ A x) → MatrixTrue (play P c B) X
won-plays P [] A B c h ag D i = elim i [ ]
won-plays P (C ∷ X) A B c h ag D (inl e) =
    let p : (clause_verdict P A C ≡ Won) × (verdict X P A ≡ Won) = both-won (clause_verdict P A C) (verdict X P A) h in
    let r : (k : Literal) × IsIn k C × (is_bound P k.var ≡ false) × (literal_true A k ≡ true) = true-literal P A C (by_true C P A p.0) in
    let n : is_existential P r.0.var ≡ false = none_bound P r.0.var r.2 in
    let v : play P c B r.0.var ≡ A r.0.var = rw n (ag r.0.var r.2) in
    subst (λ (E : Clause). ClauseTrue (play P c B) E) (sym e) (r.0, r.1, ap (signed r.0.negative) v ∙ r.3)
won-plays P (C ∷ X) A B c h ag D (inr i) =
    let p : (clause_verdict P A C ≡ Won) × (verdict X P A ≡ Won) = both-won (clause_verdict P A C) (verdict X P A) h in
    won-plays P X A B c p.1 ag D i

idle : (P : Prefix) (X : Matrix) (A : Assignment) → verdict X P A ≡ Won → SkolemAt P (λ B. MatrixTrue B X) (λ x. constant false) A
idle P X A h = record {
  reads = λ x e u r. elim r [ ];
  wins = λ B ag. won-plays P X A B (λ x. constant false) h ag;
}

same-end : (X : Matrix) → Agrees (λ B. MatrixTrue B X)
same-end X A B e t = MatrixTrue-agree A B X e t

-- The circuits that a won search picks win.
pub circuits-win : (P : Prefix) (X : Matrix) (A : Assignment) → Distinct P → (explored (verdict X) P A).won ≡ true →
    SkolemAt P (λ B. MatrixTrue B X) (circuits_at (verdict X) P A) A
circuits-win [] X A d h = go (verdict X [] A) refl h
  where
    n : Node
    n = record { rest = []; values = A }

    go : (v : Verdict) → verdict X [] A ≡ v → (by_verdict v n (leaf false n)).won ≡ true → SkolemAt [] (λ B. MatrixTrue B X) (λ x. constant false) A
    go Lost e h = absurd (cc)
    go Won e h = idle [] X A e
    go Open e h = absurd (cc)
circuits-win (b ∷ P) X A d h =
    go (verdict X (b ∷ P) A) refl h (circuits-win P X (with_value A b.var false) d.1) (circuits-win P X (with_value A b.var true) d.1)
  where
    f : Test
    f = verdict X

    W : Assignment → Type 0
    W B = MatrixTrue B X

    n : Node
    n = record { rest = b ∷ P; values = A }

    A0 : Assignment
    A0 = with_value A b.var false

    A1 : Assignment
    A1 = with_value A b.var true

    whole : (q : Quant) → b.quant ≡ q → (c : ℕ → Circuit) → SkolemAt (record { quant = q; var = b.var } ∷ P) W c A → SkolemAt (b ∷ P) W c A
    whole q e c s = subst (λ z. SkolemAt (z ∷ P) W c A) (λ i. record { quant = sym e i; var = b.var }) s

    both : (q : Quant) → b.quant ≡ q → (w : Bool) → (explored f P A0).won ≡ w → (cond (goes_on q w) (plus (explored f P A0).decisions (explored f P A1)) (explored f P A0)).won ≡ true →
        ((explored f P A0).won ≡ true → SkolemAt P W (circuits_at f P A0) A0) →
        ((explored f P A1).won ≡ true → SkolemAt P W (circuits_at f P A1) A1) →
        SkolemAt (b ∷ P) W (joined q b.var w (circuits_at f P A0) (circuits_at f P A1)) A
    both Exists e true w h s t = whole Exists e (picked b.var false (circuits_at f P A0)) (exists_to b.var P W (same-end X) A false d.0 (circuits_at f P A0) (s w))
    both Exists e false w h s t = whole Exists e (picked b.var true (circuits_at f P A1)) (exists_to b.var P W (same-end X) A true d.0 (circuits_at f P A1) (t h))
    both Forall e true w h s t = whole Forall e (λ x. choice b.var (circuits_at f P A1 x) (circuits_at f P A0 x)) (forall_to b.var P W (same-end X) A d.0 (circuits_at f P A0) (circuits_at f P A1) (s w) (t h))
    both Forall e false w h s t = absurd (let z : true ≡ false = sym h ∙ w in cc)

    go : (v : Verdict) → verdict X (b ∷ P) A ≡ v → (by_verdict v n (one_more (then_second b.quant (explored f P A0) (explored f P A1)))).won ≡ true →
        ((explored f P A0).won ≡ true → SkolemAt P W (circuits_at f P A0) A0) →
        ((explored f P A1).won ≡ true → SkolemAt P W (circuits_at f P A1) A1) →
        SkolemAt (b ∷ P) W (cond (is_open v) (joined b.quant b.var (explored f P A0).won (circuits_at f P A0) (circuits_at f P A1)) (λ x. constant false)) A
    go Lost e h s t = absurd (cc)
    go Won e h s t = idle (b ∷ P) X A e
    go Open e h s t = both b.quant refl (explored f P A0).won refl h s t

pub circuits-skolem : (F : PrenexFormula) → IsFormula F → (search_of F).won ≡ true → Skolem F.prefix F.matrix (circuits_of F)
circuits-skolem F f h =
    let r : Lawful F.prefix (circuits_of F) × ((A : Assignment) → MatrixTrue (outcome (circuits_of F) A) F.matrix) =
    strategy-wins F.prefix (λ B. MatrixTrue B F.matrix) (circuits_at (verdict F.matrix) F.prefix nothing)
    (λ A B e. MatrixTrue-closed F.prefix A B F.matrix f.closed e) (circuits-win F.prefix F.matrix nothing f.distinct h) in
    record { lawful = r.0; wins = r.1 }
