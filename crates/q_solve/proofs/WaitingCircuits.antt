-- Circuits that wait along a path.
use Rattle.std.proofs.Common.{◌≡◌, ℕ, suc, Bool, true, false, cond, not, eqb, List, [], ◌∷◌, ◌++◌, length, refl, sym, ap, ◌∙◌, subst, arith}
use Rattle.std.proofs.lemmas.List.{same_from_push}
use Rattle.std.proofs.lemmas.Bool.{eqb-true}
use Rattle.q_logic.specs.declared.formulas.Quant.{Quant}
use Rattle.q_logic.specs.declared.formulas.Quant.TheVariants.{Exists, Forall}
use Rattle.q_logic.specs.declared.formulas.Bound.{Bound}
use Rattle.q_logic.specs.declared.verdict.Verdict.{Verdict}
use Rattle.q_logic.specs.declared.verdict.Verdict.TheVariants.{Won, Lost, Open}
use Rattle.q_logic.specs.Prelude.{Prefix, Assignment, with_value, Circuit, constant, Test, Tally, explored, goes_on, then_second, by_verdict, one_more, plus, leaf, nothing}
use Rattle.q_logic.specs.Prefixes.{is_exists, is_bound, is_universal, place, Distinct}
use Rattle.q_logic.specs.Decisions.{circuits_at, joined, is_open}
use Rattle.q_logic.proofs.Common.{universal-is_bound}
use Rattle.q_aig.specs.Prelude.{Net, Keeps}
use Rattle.q_aig.proofs.Substitutes.{serves-then}
use Rattle.q_search.specs.Paths.{rest_of, said}
use Rattle.q_solve.specs.declared.picks.Pick.{Pick}
use Rattle.q_solve.specs.Picks.{lit_at}
use Rattle.q_solve.specs.Waiting.{IsServing, IsWaiting, side_won, side_circuits}
use Rattle.q_solve.proofs.JoinedCircuits.{kept-serves}

-- later gates change nothing
pub serving-kept : (a b : Net) (P : Prefix) (low : ℕ) (row : List Pick) (c : ℕ → Circuit) → Keeps a b → IsServing a P low row c → IsServing b P low row c
serving-kept a b P low row c k s = record {
  order = s.order;
  within = s.within;
  literals = λ d. (k (lit_at row d) (s.literals d)).0;
  serves = λ x h. serves-then _ _ _ (kept-serves a b (lit_at row (suc (place P x))) k (s.literals (suc (place P x)))) (s.serves x h);
}

pub waiting-kept : (a b : Net) (f : Test) (P : Prefix) (vs : List Bool) (rows : List (List Pick)) → Keeps a b → IsWaiting a f P vs rows → IsWaiting b f P vs rows
waiting-kept a b f P vs rows k (IsWaiting.root) = IsWaiting.root
waiting-kept a b f P vs rows k (IsWaiting.first ws rs o w) = IsWaiting.first ws rs o (waiting-kept a b f P ws rs k w)
waiting-kept a b f P vs rows k (IsWaiting.choice ws rs v R e o l w) = IsWaiting.choice ws rs v R e o l (waiting-kept a b f P ws rs k w)
waiting-kept a b f P vs rows k (IsWaiting.second ws rs v R row e o l s w) =
    IsWaiting.second ws rs v R row e o l (serving-kept a b P (suc (suc (length ws))) row (side_circuits f P ws R v false) k s) (waiting-kept a b f P ws rs k w)

-- what waits for a second side
pub record FirstWaits (a : Net) (f : Test) (P : Prefix) (vs : List Bool) (x : ℕ) (R : Prefix) (rows : List (List Pick)) : Type 0 where
  pub before : List (List Pick)
  pub row : List Pick
  pub rows_are : rows ≡ before ++ row ∷ []
  pub won : side_won f P vs R x false ≡ true
  pub serving : IsServing a P (suc (suc (length vs))) row (side_circuits f P vs R x false)
  pub waiting : IsWaiting a f P vs before

abbrev pub SecondWaits : Net → Test → Prefix → List Bool → Quant → ℕ → Prefix → List (List Pick) → Type 0
SecondWaits a f P vs Exists x R rows = (side_won f P vs R x false ≡ false) × IsWaiting a f P vs rows
SecondWaits a f P vs Forall x R rows = FirstWaits a f P vs x R rows

abbrev pub LastWaits : Net → Test → Prefix → List Bool → Bool → Quant → ℕ → Prefix → List (List Pick) → Type 0
LastWaits a f P vs false q x R rows = (said f P vs nothing ≡ Open) × IsWaiting a f P vs rows
LastWaits a f P vs true q x R rows = (said f P vs nothing ≡ Open) × SecondWaits a f P vs q x R rows

no-push : {X : Type 0} (xs : List X) (x : X) → [] ≡ xs ++ x ∷ [] → ⊥
no-push [] x e = cc
no-push (y ∷ xs) x e = cc

-- the last of what waits
pub waiting-last : (a : Net) (f : Test) (P : Prefix) (now : List Bool) (rows : List (List Pick)) → IsWaiting a f P now rows →
    (vs : List Bool) (v : Bool) (q : Quant) (x : ℕ) (R : Prefix) → now ≡ vs ++ v ∷ [] → rest_of P vs ≡ record { quant = q; var = x } ∷ R → LastWaits a f P vs v q x R rows
waiting-last a f P now rows (IsWaiting.root) vs v q x R e u = absurd (no-push vs v e)
waiting-last a f P now rows (IsWaiting.first ws rs o w) vs v q x R e u =
    let s : (ws ≡ vs) × (false ≡ v) = same_from_push ws vs false v e in
    subst (λ (b : Bool). LastWaits a f P vs b q x R rs) s.1
    (subst (λ (us : List Bool). (said f P us nothing ≡ Open) × IsWaiting a f P us rs) s.0 (o, w))
waiting-last a f P now rows (IsWaiting.choice ws rs y S g o l w) vs v q x R e u =
    let s : (ws ≡ vs) × (true ≡ v) = same_from_push ws vs true v e in
    let h : record { quant = Exists; var = y } ∷ S ≡ record { quant = q; var = x } ∷ R = sym g ∙ ap (rest_of P) s.0 ∙ u in
    let b0 : Bound = record { quant = Exists; var = y } in
    let b1 : Bound = record { quant = q; var = x } in
    let hb : b0 ≡ b1 = cc in
    let hr : S ≡ R = cc in
    subst (λ (b : Bool). LastWaits a f P vs b q x R rs) s.1
    (subst (λ (z : Bound). (said f P vs nothing ≡ Open) × SecondWaits a f P vs z.quant z.var R rs) hb
    (subst (λ (T : Prefix). (said f P vs nothing ≡ Open) × ((side_won f P vs T y false ≡ false) × IsWaiting a f P vs rs)) hr
    (subst (λ (us : List Bool). (said f P us nothing ≡ Open) × ((side_won f P us S y false ≡ false) × IsWaiting a f P us rs)) s.0 (o, (l, w)))))
waiting-last a f P now rows (IsWaiting.second ws rs y S row g o l t w) vs v q x R e u =
    let s : (ws ≡ vs) × (true ≡ v) = same_from_push ws vs true v e in
    let h : record { quant = Forall; var = y } ∷ S ≡ record { quant = q; var = x } ∷ R = sym g ∙ ap (rest_of P) s.0 ∙ u in
    let b0 : Bound = record { quant = Forall; var = y } in
    let b1 : Bound = record { quant = q; var = x } in
    let hb : b0 ≡ b1 = cc in
    let hr : S ≡ R = cc in
    subst (λ (b : Bool). LastWaits a f P vs b q x R (rs ++ row ∷ [])) s.1
    (subst (λ (z : Bound). (said f P vs nothing ≡ Open) × SecondWaits a f P vs z.quant z.var R (rs ++ row ∷ [])) hb
    (subst (λ (T : Prefix). (said f P vs nothing ≡ Open) × FirstWaits a f P vs y T (rs ++ row ∷ [])) hr
    (subst (λ (us : List Bool). (said f P us nothing ≡ Open) × FirstWaits a f P us y S (rs ++ row ∷ [])) s.0
    (o, record { before = rs; row = row; rows_are = refl; won = l; serving = t; waiting = w }))))

-- what a decision finds
then-won : (q : Quant) (s t : Tally) → (then_second q s t).won ≡ cond (goes_on q s.won) t.won s.won
then-won q s t = go (goes_on q s.won)
  where
    go : (b : Bool) → (cond b (plus s.decisions t) s).won ≡ cond b t.won s.won
    go true = refl
    go false = refl

pub found-open : (f : Test) (b : Bound) (R : Prefix) (A : Assignment) → f (b ∷ R) A ≡ Open →
    (explored f (b ∷ R) A).won ≡ cond (goes_on b.quant (explored f R (with_value A b.var false)).won) (explored f R (with_value A b.var true)).won (explored f R (with_value A b.var false)).won
found-open f b R A e =
    ap (λ (v : Verdict). (by_verdict v (record { rest = b ∷ R; values = A }) (one_more (then_second b.quant (explored f R (with_value A b.var false)) (explored f R (with_value A b.var true))))).won) e
    ∙ then-won b.quant (explored f R (with_value A b.var false)) (explored f R (with_value A b.var true))

pub circuits-open : (f : Test) (b : Bound) (R : Prefix) (A : Assignment) (x : ℕ) → f (b ∷ R) A ≡ Open →
    circuits_at f (b ∷ R) A x ≡ joined b.quant b.var (explored f R (with_value A b.var false)).won (circuits_at f R (with_value A b.var false)) (circuits_at f R (with_value A b.var true)) x
circuits-open f b R A x e =
    ap (λ (v : Verdict). (cond (is_open v) (joined b.quant b.var (explored f R (with_value A b.var false)).won (circuits_at f R (with_value A b.var false)) (circuits_at f R (with_value A b.var true))) (λ y. constant false)) x) e

pub found-won : (f : Test) (Q : Prefix) (A : Assignment) → f Q A ≡ Won → (explored f Q A).won ≡ true
found-won f [] A e = ap (λ (v : Verdict). (by_verdict v (record { rest = []; values = A }) (leaf false (record { rest = []; values = A }))).won) e
found-won f (b ∷ Q) A e =
    ap (λ (v : Verdict). (by_verdict v (record { rest = b ∷ Q; values = A }) (one_more (then_second b.quant (explored f Q (with_value A b.var false)) (explored f Q (with_value A b.var true))))).won) e

pub found-lost : (f : Test) (Q : Prefix) (A : Assignment) → f Q A ≡ Lost → (explored f Q A).won ≡ false
found-lost f [] A e = ap (λ (v : Verdict). (by_verdict v (record { rest = []; values = A }) (leaf false (record { rest = []; values = A }))).won) e
found-lost f (b ∷ Q) A e =
    ap (λ (v : Verdict). (by_verdict v (record { rest = b ∷ Q; values = A }) (one_more (then_second b.quant (explored f Q (with_value A b.var false)) (explored f Q (with_value A b.var true))))).won) e

pub circuits-won : (f : Test) (Q : Prefix) (A : Assignment) (x : ℕ) → f Q A ≡ Won → circuits_at f Q A x ≡ constant false
circuits-won f [] A x e = refl
circuits-won f (b ∷ Q) A x e =
    ap (λ (v : Verdict). (cond (is_open v) (joined b.quant b.var (explored f Q (with_value A b.var false)).won (circuits_at f Q (with_value A b.var false)) (circuits_at f Q (with_value A b.var true))) (λ y. constant false)) x) e

-- the variable behind a path
apart : (P : Prefix) (m n : ℕ) → is_bound P m ≡ false → is_bound P n ≡ true → eqb m n ≡ false
apart P m n h k = go (eqb m n) refl
  where
    go : (t : Bool) → eqb m n ≡ t → t ≡ false
    go true q =
        let s : m ≡ n = grind arith in
        let z : is_bound P n ≡ false = subst (λ (y : ℕ). is_bound P y ≡ false) s h in
        let c : true ≡ false = sym k ∙ z in c
    go false q = refl

pub rest-bound : (P : Prefix) (vs : List Bool) (b : Bound) (R : Prefix) → rest_of P vs ≡ b ∷ R → is_bound P b.var ≡ true
rest-bound [] [] b R e = absurd (cc)
rest-bound (c ∷ P) [] b R e =
    let h : c ≡ b = cc in
    let k : c.var ≡ b.var = ap (λ (y : Bound). y.var) h in
    let g : eqb c.var b.var ≡ true = grind arith in
    ap (λ (t : Bool). cond t true (is_bound P b.var)) g
rest-bound [] (v ∷ vs) b R e = absurd (cc)
rest-bound (c ∷ P) (v ∷ vs) b R e =
    let i : is_bound P b.var ≡ true = rest-bound P vs b R e in
    go (eqb c.var b.var) i
  where
    go : (t : Bool) → is_bound P b.var ≡ true → cond t true (is_bound P b.var) ≡ true
    go true i = refl
    go false i = i

pub place-here : (P : Prefix) (vs : List Bool) (b : Bound) (R : Prefix) → Distinct P → rest_of P vs ≡ b ∷ R → place P b.var ≡ length vs
place-here [] [] b R d e = absurd (cc)
place-here (c ∷ P) [] b R d e =
    let h : c ≡ b = cc in
    let g : eqb c.var b.var ≡ true = (let k : c.var ≡ b.var = ap (λ (y : Bound). y.var) h in grind arith) in
    ap (λ (t : Bool). cond t 0 (suc (place P b.var))) g
place-here [] (v ∷ vs) b R d e = absurd (cc)
place-here (c ∷ P) (v ∷ vs) b R d e =
    let i : place P b.var ≡ length vs = place-here P vs b R d.1 e in
    let g : eqb c.var b.var ≡ false = apart P c.var b.var d.0 (rest-bound P vs b R e) in
    ap (λ (t : Bool). cond t 0 (suc (place P b.var))) g ∙ ap suc i

pub place-other : (P : Prefix) (x y : ℕ) → is_bound P x ≡ true → place P x ≡ place P y → x ≡ y
place-other [] x y b e = absurd (cc)
place-other (c ∷ P) x y b e = go (eqb c.var x) refl (eqb c.var y) refl b e (place-other P x y)
  where
    go : (s : Bool) → eqb c.var x ≡ s → (t : Bool) → eqb c.var y ≡ t → cond s true (is_bound P x) ≡ true → cond s 0 (suc (place P x)) ≡ cond t 0 (suc (place P y)) →
        (is_bound P x ≡ true → place P x ≡ place P y → x ≡ y) → x ≡ y
    go true p true q b e r = (let h : c.var ≡ x = eqb-true c.var x p in let g : c.var ≡ y = eqb-true c.var y q in sym h ∙ g)
    go true p false q b e r = absurd (omega arith)
    go false p true q b e r = absurd (omega arith)
    go false p false q b e r = r b (omega arith)

pub universal-here : (P : Prefix) (vs : List Bool) (x : ℕ) (R : Prefix) → Distinct P → rest_of P vs ≡ record { quant = Forall; var = x } ∷ R → is_universal P x ≡ true
universal-here [] [] x R d e = absurd (cc)
universal-here (c ∷ P) [] x R d e =
    let b : Bound = record { quant = Forall; var = x } in
    let h : c ≡ b = cc in
    subst (λ (z : Bound). is_universal (z ∷ P) x ≡ true) (sym h) (let g : eqb x x ≡ true = grind arith in ap (λ (t : Bool). cond t true (is_universal P x)) g)
universal-here [] (v ∷ vs) x R d e = absurd (cc)
universal-here (c ∷ P) (v ∷ vs) x R d e =
    let i : is_universal P x ≡ true = universal-here P vs x R d.1 e in
    let g : eqb c.var x ≡ false = apart P c.var x d.0 (universal-is_bound P x i) in
    ap (λ (t : Bool). cond t (not (is_exists c.quant)) (is_universal P x)) g ∙ i
