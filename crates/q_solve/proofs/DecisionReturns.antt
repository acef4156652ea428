-- From a side to its decision.
use Rattle.std.proofs.Common.{◌≡◌, ℕ, suc, ◌<◌, Bool, true, false, cond, not, eqb, List, [], ◌∷◌, ◌++◌, length, refl, sym, ap, ◌∙◌, subst, arith, Option, Some}
use Rattle.std.proofs.lemmas.List.{length_push}
use Rattle.std.proofs.lemmas.Bool.{eqb-true}
use Rattle.q_logic.specs.declared.formulas.Quant.{Quant}
use Rattle.q_logic.specs.declared.formulas.Quant.TheVariants.{Exists, Forall}
use Rattle.q_logic.specs.declared.verdict.Verdict.TheVariants.{Won, Lost, Open}
use Rattle.q_logic.specs.Prelude.{Prefix, Assignment, Circuit, constant, input, choice, Test, explored, goes_on, nothing}
use Rattle.q_logic.specs.Prefixes.{is_bound, is_universal, place}
use Rattle.q_logic.specs.Decisions.{circuits_at, joined, picked}
use Rattle.q_aig.specs.Prelude.{Net, IsLiteral, tree_at, Keeps, Serves}
use Rattle.q_aig.proofs.Substitutes.{serves-self, serves-same, serves-then, serves-inverter, serves-conjunction}
use Rattle.q_search.specs.Paths.{along, rest_of, said}
use Rattle.q_search.specs.Walks.{Walk, moved, said_here}
use Rattle.q_search.proofs.PathLemmas.{along-more, rest-more}
use Rattle.q_search.proofs.NodeSteps.{rest-some}
use Rattle.q_certificate.specs.Prelude.{look_at, AreLiterals, InputsAt}
use Rattle.q_certificate.proofs.LiteralRows.{literals-kept, inputs-kept}
use Rattle.q_certificate.proofs.Folds.{serves-disjunction}
use Rattle.q_solve.specs.declared.picks.Pick.{Pick}
use Rattle.q_solve.specs.declared.circuits.Circuits.{Circuits}
use Rattle.q_solve.specs.Picks.{lit_at, IsRow}
use Rattle.q_solve.specs.Joins.{IsJoined}
use Rattle.q_solve.specs.Waiting.{IsServing, IsWaiting, side_won, side_circuits, IsReady, found_here, IsWonAt, IsLostAt}
use Rattle.q_solve.specs.Passes.{SameGraph, IsMerged, IsPassed, CanPass, IsDropped, has_second}
use Rattle.q_solve.proofs.GrownRows.{below-push, row-weaker, row-push, lit-push, lit-above}
use Rattle.q_solve.proofs.WaitingCircuits.{waiting-kept, FirstWaits, LastWaits, waiting-last, found-open, circuits-open, found-won, found-lost, circuits-won, place-here, place-other, universal-here}

pub passed-at : (p q : Quant) (v w : Bool) (x depth : ℕ) (old new : Circuits) → p ≡ q → v ≡ w → IsPassed q w x depth old new → IsPassed p v x depth old new
passed-at p q v w x depth old new e f h =
    subst (λ (r : Quant). IsPassed r v x depth old new) (sym e) (subst (λ (u : Bool). IsPassed q u x depth old new) (sym f) h)

serving-same : (a : Net) (P : Prefix) (low : ℕ) (row : List Pick) (c d : ℕ → Circuit) → ((y : ℕ) → c y ≡ d y) → IsServing a P low row c → IsServing a P low row d
serving-same a P low row c d e s = record {
  order = s.order;
  within = s.within;
  literals = s.literals;
  serves = λ y h. subst (λ (t : Circuit). Serves (tree_at a (lit_at row (suc (place P y)))) t) (e y) (s.serves y h);
}

-- the existential x, before which m variables stand, is 0
serve-zero : (a : Net) (P : Prefix) (m x : ℕ) (row : List Pick) (c : ℕ → Circuit) → place P x ≡ m → IsServing a P (suc (suc m)) row c → IsServing a P (suc m) row (picked x false c)
serve-zero a P m x row c e s = record {
  order = row-weaker (suc (suc m)) (suc m) row s.order (omega arith);
  within = s.within;
  literals = s.literals;
  serves = λ y h. go y (eqb y x) refl (s.serves y h);
}
  where
    go : (y : ℕ) (t : Bool) → eqb y x ≡ t → Serves (tree_at a (lit_at row (suc (place P y)))) (c y) →
        Serves (tree_at a (lit_at row (suc (place P y)))) (cond t (constant false) (c y))
    go y true q r =
        let g : y ≡ x = eqb-true y x q in
        let k : suc (place P y) ≡ suc m = ap (λ (z : ℕ). suc (place P z)) g ∙ ap suc e in
        let n : lit_at row (suc (place P y)) ≡ 0 = lit-above (suc (suc m)) (suc (place P y)) row s.order (omega arith) in
        subst (λ (l : ℕ). Serves (tree_at a l) (constant false)) (sym n) (serves-self (constant false))
    go y false q r = r

one-serves : (a : Net) → Serves (tree_at a 1) (constant true)
one-serves a = record { values = λ A. refl; reads = λ u h. h }

-- it is 1
serve-one : (a : Net) (P : Prefix) (m x : ℕ) (row : List Pick) (c : ℕ → Circuit) → m < length P → place P x ≡ m → IsServing a P (suc (suc m)) row c →
    IsServing a P (suc m) (row ++ record { depth = suc m; lit = 1 } ∷ []) (picked x true c)
serve-one a P m x row c b e s = record {
  within = below-push (suc (length P)) row here s.within (omega arith);
  order = row-push (suc (suc m)) (suc m) row here s.order (omega arith) (omega arith);
  literals = λ k. subst (IsLiteral a) (sym (lit-push (suc (suc m)) k row here s.order (omega arith))) (there k (eqb (suc m) k));
  serves = λ y h. subst (λ (l : ℕ). Serves (tree_at a l) (cond (eqb y x) (constant true) (c y))) (sym (lit-push (suc (suc m)) (suc (place P y)) row here s.order (omega arith)))
      (go y h (eqb y x) refl (eqb (suc m) (suc (place P y))) refl (s.serves y h));
}
  where
    here : Pick
    here = record { depth = suc m; lit = 1 }

    there : (k : ℕ) (t : Bool) → IsLiteral a (cond t 1 (lit_at row k))
    there k true = tt
    there k false = s.literals k

    go : (y : ℕ) → is_bound P y ≡ true → (t : Bool) → eqb y x ≡ t → (r : Bool) → eqb (suc m) (suc (place P y)) ≡ r →
        Serves (tree_at a (lit_at row (suc (place P y)))) (c y) →
        Serves (tree_at a (cond r 1 (lit_at row (suc (place P y))))) (cond t (constant true) (c y))
    go y h true q true p z = one-serves a
    go y h true q false p z =
        let g : y ≡ x = eqb-true y x q in
        let k : place P y ≡ m = ap (place P) g ∙ e in
        absurd (apart m (place P y) (sym k) p)
      where
        apart : (i j : ℕ) → i ≡ j → eqb (suc i) (suc j) ≡ false → ⊥
        apart i j f n = grind arith
    go y h false q true p z =
        let k : suc m ≡ suc (place P y) = eqb-true (suc m) (suc (place P y)) p in
        let i : place P y ≡ place P x = omega arith in
        let g : y ≡ x = place-other P y x h i in
        absurd (apart y x g q)
      where
        apart : (i j : ℕ) → i ≡ j → eqb i j ≡ false → ⊥
        apart i j f n = grind arith
    go y h false q false p z = z

-- the sides of the universal x are joined
serve-both : (a b : Net) (P : Prefix) (m x u : ℕ) (second first row : List Pick) (c0 c1 : ℕ → Circuit) → tree_at a u ≡ input x →
    IsServing a P (suc (suc m)) second c1 → IsServing a P (suc (suc m)) first c0 → IsJoined a b u (suc (suc m)) second first row →
    IsServing b P (suc m) row (λ y. choice x (c1 y) (c0 y))
serve-both a b P m x u second first row c0 c1 e s t j = record {
  order = row-weaker (suc (suc m)) (suc m) row j.row (omega arith);
  within = j.within (suc (length P)) s.within t.within;
  literals = j.literals;
  serves = λ y h.
      serves-then _ _ _ (j.serves (suc (place P y)))
      (serves-disjunction _ _ _ _ (serves-conjunction _ _ _ _ su (s.serves y h)) (serves-conjunction _ _ _ _ (serves-inverter _ _ su) (t.serves y h)));
}
  where
    su : Serves (tree_at a u) (input x)
    su = serves-same _ _ e

module _ (f : Test) (P : Prefix) (vs : List Bool) (q : Quant) (x : ℕ) (R : Prefix) (u : rest_of P vs ≡ record { quant = q; var = x } ∷ R) where
  -- what is found at the end of a path with one value more
  pub found-side : (ws : List Bool) (v : Bool) → ws ≡ vs ++ v ∷ [] → (explored f (rest_of P ws) (along P ws nothing)).won ≡ side_won f P vs R x v
  found-side ws v e =
      ap (λ (us : List Bool). (explored f (rest_of P us) (along P us nothing)).won) e
      ∙ ap (λ (Q : Prefix). (explored f Q (along P (vs ++ v ∷ []) nothing)).won) (rest-more P R (record { quant = q; var = x }) vs v u)
      ∙ ap (λ (A : Assignment). (explored f R A).won) (along-more P R (record { quant = q; var = x }) vs v nothing u)

  pub circuits-side : (ws : List Bool) (v : Bool) → ws ≡ vs ++ v ∷ [] → (y : ℕ) → circuits_at f (rest_of P ws) (along P ws nothing) y ≡ side_circuits f P vs R x v y
  circuits-side ws v e y =
      ap (λ (us : List Bool). circuits_at f (rest_of P us) (along P us nothing) y) e
      ∙ ap (λ (Q : Prefix). circuits_at f Q (along P (vs ++ v ∷ []) nothing) y) (rest-more P R (record { quant = q; var = x }) vs v u)
      ∙ ap (λ (A : Assignment). circuits_at f R A y) (along-more P R (record { quant = q; var = x }) vs v nothing u)

  open-here : said f P vs nothing ≡ Open → f (record { quant = q; var = x } ∷ R) (along P vs nothing) ≡ Open
  open-here o = sym (ap (λ (Q : Prefix). f Q (along P vs nothing)) u) ∙ o

  pub found-up : said f P vs nothing ≡ Open → (explored f (rest_of P vs) (along P vs nothing)).won ≡ cond (goes_on q (side_won f P vs R x false)) (side_won f P vs R x true) (side_won f P vs R x false)
  found-up o =
      ap (λ (Q : Prefix). (explored f Q (along P vs nothing)).won) u
      ∙ found-open f (record { quant = q; var = x }) R (along P vs nothing) (open-here o)

  pub circuits-up : said f P vs nothing ≡ Open → (y : ℕ) → joined q x (side_won f P vs R x false) (side_circuits f P vs R x false) (side_circuits f P vs R x true) y ≡ circuits_at f (rest_of P vs) (along P vs nothing) y
  circuits-up o y =
      sym (circuits-open f (record { quant = q; var = x }) R (along P vs nothing) y (open-here o))
      ∙ sym (ap (λ (Q : Prefix). circuits_at f Q (along P vs nothing) y) u)

-- the graph is the same, or has grown
ready-same : (c c2 : Circuits) (w : Walk) (vs : List Bool) → IsReady c w → SameGraph c c2 → IsWaiting c.aig w.test w.prefix vs c2.aside.items → IsReady c2 (moved w vs)
ready-same c c2 w vs r s h = record {
  distinct = r.distinct;
  inputs = subst (λ (a : Net). a.inputs ≡ c.aig.inputs) (sym s.graph) refl ∙ r.inputs;
  literals = subst (λ (a : Net). AreLiterals a c2.inputs.items) (sym s.graph) (subst (AreLiterals c.aig) (sym s.universals) r.literals);
  at = subst (λ (a : Net). InputsAt a c2.inputs.items (is_universal w.prefix)) (sym s.graph) (subst (λ (xs : List (Option ℕ)). InputsAt c.aig xs (is_universal w.prefix)) (sym s.universals) r.at);
  waiting = subst (λ (a : Net). IsWaiting a w.test w.prefix vs c2.aside.items) (sym s.graph) h;
}

ready-grown : (c c2 : Circuits) (w : Walk) (vs : List Bool) → IsReady c w → c2.aig.inputs ≡ c.aig.inputs → Keeps c.aig c2.aig → c2.inputs.items ≡ c.inputs.items → IsWaiting c2.aig w.test w.prefix vs c2.aside.items → IsReady c2 (moved w vs)
ready-grown c c2 w vs r e k i h = record {
  distinct = r.distinct;
  inputs = e ∙ r.inputs;
  literals = subst (AreLiterals c2.aig) (sym i) (literals-kept c.aig c2.aig c.inputs.items k r.literals);
  at = subst (λ (xs : List (Option ℕ)). InputsAt c2.aig xs (is_universal w.prefix)) (sym i) (inputs-kept c.aig c2.aig c.inputs.items (is_universal w.prefix) k r.literals r.at);
  waiting = h;
}

-- a step up
module _ (c c2 : Circuits) (w : Walk) (vs : List Bool) (x n : ℕ) (R : Prefix) where
  abbrev serving-at : Net → List Pick → ℕ → (ℕ → Circuit) → Type 0
  serving-at a row low k = IsServing a w.prefix low row k

  low-here : (v : Bool) → w.path ≡ vs ++ v ∷ [] → suc (length w.path) ≡ suc (suc (length vs))
  low-here v e = let l = length_push vs v in let m : length w.path ≡ length (vs ++ v ∷ []) = ap length e in omega arith

  side-serving : (q : Quant) (v : Bool) → w.path ≡ vs ++ v ∷ [] → rest_of w.prefix vs ≡ record { quant = q; var = x } ∷ R → IsWonAt c w →
      IsServing c.aig w.prefix (suc (suc (length vs))) c.current (side_circuits w.test w.prefix vs R x v)
  side-serving q v e u won =
      subst (λ (l : ℕ). IsServing c.aig w.prefix l c.current (side_circuits w.test w.prefix vs R x v)) (low-here v e)
      (serving-same c.aig w.prefix (suc (length w.path)) c.current _ (side_circuits w.test w.prefix vs R x v) (circuits-side w.test w.prefix vs q x R u w.path v e) won.circuits)

  side-found : (q : Quant) (v : Bool) → w.path ≡ vs ++ v ∷ [] → rest_of w.prefix vs ≡ record { quant = q; var = x } ∷ R → (b : Bool) → found_here w ≡ b → side_won w.test w.prefix vs R x v ≡ b
  side-found q v e u b h = sym (found-side w.test w.prefix vs q x R u w.path v e) ∙ h

  pub can-pass : (q : Quant) (v : Bool) → w.path ≡ vs ++ v ∷ [] → n ≡ length w.path → rest_of w.prefix vs ≡ record { quant = q; var = x } ∷ R → IsWonAt c w → CanPass q v x n c
  can-pass Exists v e d u won = tt
  can-pass Forall false e d u won = tt
  can-pass Forall true e d u won =
      let l : LastWaits c.aig w.test w.prefix vs true Forall x R c.aside.items = waiting-last c.aig w.test w.prefix w.path c.aside.items won.ready.waiting vs true Forall x R e u in
      let g : FirstWaits c.aig w.test w.prefix vs x R c.aside.items = l.1 in
      let r : (m : ℕ) × (look_at c.inputs.items x ≡ Some m) × (tree_at c.aig m ≡ input x) = won.ready.at x (universal-here w.prefix vs x R won.ready.distinct u) in
      let k : suc n ≡ suc (suc (length vs)) = ap suc d ∙ low-here true e in (
        g.before,
        g.row,
        g.rows_are,
        record {
          literal = r.0;
          looked = r.1;
          there = won.ready.literals x r.0 r.1;
          row = subst (λ (z : ℕ). IsRow (suc z) c.current) (sym d) won.circuits.order;
          first_row = subst (λ (z : ℕ). IsRow z g.row) (sym k) g.serving.order;
          row_in = won.circuits.literals;
          first_in = g.serving.literals;
        },
      )

  pub won-up : (q : Quant) (v : Bool) → w.path ≡ vs ++ v ∷ [] → n ≡ length w.path → rest_of w.prefix vs ≡ record { quant = q; var = x } ∷ R → IsWonAt c w → IsPassed q v x n c c2 → has_second q v true ≡ false →
      IsWonAt c2 (moved w vs)
  won-up Exists false e d u won p h =
      let l : LastWaits c.aig w.test w.prefix vs false Exists x R c.aside.items = waiting-last c.aig w.test w.prefix w.path c.aside.items won.ready.waiting vs false Exists x R e u in
      let s : side_won w.test w.prefix vs R x false ≡ true = side-found Exists false e u true won.won in
      let here : place w.prefix x ≡ length vs = place-here w.prefix vs (record { quant = Exists; var = x }) R won.ready.distinct u in
      record {
        ready = ready-same c c2 w vs won.ready p.0 (subst (IsWaiting c.aig w.test w.prefix vs) (sym p.2) l.1);
        won = found-up w.test w.prefix vs Exists x R u l.0 ∙ ap (λ (b : Bool). cond (not b) (side_won w.test w.prefix vs R x true) b) s;
        circuits =
            subst (λ (a : Net). IsServing a w.prefix (suc (length vs)) c2.current (circuits_at w.test (rest_of w.prefix vs) (along w.prefix vs nothing))) (sym p.0.graph)
            (subst (λ (row : List Pick). IsServing c.aig w.prefix (suc (length vs)) row (circuits_at w.test (rest_of w.prefix vs) (along w.prefix vs nothing))) (sym p.1)
            (serving-same c.aig w.prefix (suc (length vs)) c.current _ _ (λ y. ap (λ (b : Bool). joined Exists x b (side_circuits w.test w.prefix vs R x false) (side_circuits w.test w.prefix vs R x true) y) (sym s) ∙ circuits-up w.test w.prefix vs Exists x R u l.0 y)
            (serve-zero c.aig w.prefix (length vs) x c.current (side_circuits w.test w.prefix vs R x false) here (side-serving Exists false e u won))));
      }
  won-up Exists true e d u won p h =
      let l : LastWaits c.aig w.test w.prefix vs true Exists x R c.aside.items = waiting-last c.aig w.test w.prefix w.path c.aside.items won.ready.waiting vs true Exists x R e u in
      let s : side_won w.test w.prefix vs R x false ≡ false = l.1.0 in
      let t : side_won w.test w.prefix vs R x true ≡ true = side-found Exists true e u true won.won in
      let here : place w.prefix x ≡ length vs = place-here w.prefix vs (record { quant = Exists; var = x }) R won.ready.distinct u in
      let k : n ≡ suc (length vs) = (let z : suc (length w.path) ≡ suc (suc (length vs)) = low-here true e in omega arith) in
      record {
        ready = ready-same c c2 w vs won.ready p.0 (subst (IsWaiting c.aig w.test w.prefix vs) (sym p.2) l.1.1);
        won = found-up w.test w.prefix vs Exists x R u l.0 ∙ ap (λ (b : Bool). cond (not b) (side_won w.test w.prefix vs R x true) b) s ∙ t;
        circuits =
            subst (λ (a : Net). IsServing a w.prefix (suc (length vs)) c2.current (circuits_at w.test (rest_of w.prefix vs) (along w.prefix vs nothing))) (sym p.0.graph)
            (subst (λ (row : List Pick). IsServing c.aig w.prefix (suc (length vs)) row (circuits_at w.test (rest_of w.prefix vs) (along w.prefix vs nothing))) (sym p.1)
            (subst (λ (z : ℕ). IsServing c.aig w.prefix (suc (length vs)) (c.current ++ record { depth = z; lit = 1 } ∷ []) (circuits_at w.test (rest_of w.prefix vs) (along w.prefix vs nothing))) (sym k)
            (serving-same c.aig w.prefix (suc (length vs)) _ _ _ (λ y. ap (λ (b : Bool). joined Exists x b (side_circuits w.test w.prefix vs R x false) (side_circuits w.test w.prefix vs R x true) y) (sym s) ∙ circuits-up w.test w.prefix vs Exists x R u l.0 y)
            (serve-one c.aig w.prefix (length vs) x c.current (side_circuits w.test w.prefix vs R x true) (rest-some w.prefix R (record { quant = Exists; var = x }) vs u) here (side-serving Exists true e u won)))));
      }
  won-up Forall false e d u won p h = absurd (cc)
  won-up Forall true e d u won p h =
      let l : LastWaits c.aig w.test w.prefix vs true Forall x R c.aside.items = waiting-last c.aig w.test w.prefix w.path c.aside.items won.ready.waiting vs true Forall x R e u in
      let g : FirstWaits c.aig w.test w.prefix vs x R c.aside.items = l.1 in
      let m : IsMerged c c2 x n g.before g.row = p g.before g.row g.rows_are in
      let t : side_won w.test w.prefix vs R x true ≡ true = side-found Forall true e u true won.won in
      let r : (i : ℕ) × (look_at c.inputs.items x ≡ Some i) × (tree_at c.aig i ≡ input x) = won.ready.at x (universal-here w.prefix vs x R won.ready.distinct u) in
      let same : m.literal ≡ r.0 = (let z : Some m.literal ≡ Some r.0 = sym m.looked ∙ r.1 in cc) in
      let tree : tree_at c.aig m.literal ≡ input x = ap (tree_at c.aig) same ∙ r.2 in
      let k : suc n ≡ suc (suc (length vs)) = ap suc d ∙ low-here true e in
      let j : IsJoined c.aig c2.aig m.literal (suc (suc (length vs))) c.current g.row c2.current = subst (λ (z : ℕ). IsJoined c.aig c2.aig m.literal z c.current g.row c2.current) k m.joined in
      record {
        ready = ready-grown c c2 w vs won.ready j.inputs j.kept m.universals (subst (IsWaiting c2.aig w.test w.prefix vs) (sym m.waiting) (waiting-kept c.aig c2.aig w.test w.prefix vs g.before j.kept g.waiting));
        won = found-up w.test w.prefix vs Forall x R u l.0 ∙ ap (λ (b : Bool). cond b (side_won w.test w.prefix vs R x true) b) g.won ∙ t;
        circuits =
            serving-same c2.aig w.prefix (suc (length vs)) c2.current _ _ (circuits-up w.test w.prefix vs Forall x R u l.0)
            (serve-both c.aig c2.aig w.prefix (length vs) x m.literal c.current g.row c2.current (side_circuits w.test w.prefix vs R x false) (side_circuits w.test w.prefix vs R x true) tree (side-serving Forall true e u won) g.serving j);
      }

  pub won-across : (q : Quant) (v : Bool) → w.path ≡ vs ++ v ∷ [] → rest_of w.prefix vs ≡ record { quant = q; var = x } ∷ R → IsWonAt c w → IsPassed q v x n c c2 → has_second q v true ≡ true →
      IsReady c2 (moved w (vs ++ true ∷ []))
  won-across Exists false e u won p h = absurd (cc)
  won-across Exists true e u won p h = absurd (cc)
  won-across Forall true e u won p h = absurd (cc)
  won-across Forall false e u won p h =
      let l : LastWaits c.aig w.test w.prefix vs false Forall x R c.aside.items = waiting-last c.aig w.test w.prefix w.path c.aside.items won.ready.waiting vs false Forall x R e u in
      let s : side_won w.test w.prefix vs R x false ≡ true = side-found Forall false e u true won.won in
      ready-same c c2 w (vs ++ true ∷ []) won.ready p.0
      (subst (IsWaiting c.aig w.test w.prefix (vs ++ true ∷ [])) (sym p.2) (IsWaiting.second vs c.aside.items x R c.current u l.0 s (side-serving Forall false e u won) l.1))

  pub lost-up : (q : Quant) (v : Bool) → w.path ≡ vs ++ v ∷ [] → rest_of w.prefix vs ≡ record { quant = q; var = x } ∷ R → IsLostAt c w → IsDropped q v c c2 → has_second q v false ≡ false →
      IsLostAt c2 (moved w vs)
  lost-up Exists false e u lost p h = absurd (cc)
  lost-up Exists true e u lost p h =
      let l : LastWaits c.aig w.test w.prefix vs true Exists x R c.aside.items = waiting-last c.aig w.test w.prefix w.path c.aside.items lost.ready.waiting vs true Exists x R e u in
      record {
        ready = ready-same c c2 w vs lost.ready p.0 (subst (IsWaiting c.aig w.test w.prefix vs) (sym p.1) l.1.1);
        lost = found-up w.test w.prefix vs Exists x R u l.0 ∙ ap (λ (b : Bool). cond (not b) (side_won w.test w.prefix vs R x true) b) l.1.0 ∙ side-found Exists true e u false lost.lost;
      }
  lost-up Forall false e u lost p h =
      let l : LastWaits c.aig w.test w.prefix vs false Forall x R c.aside.items = waiting-last c.aig w.test w.prefix w.path c.aside.items lost.ready.waiting vs false Forall x R e u in
      record {
        ready = ready-same c c2 w vs lost.ready p.0 (subst (IsWaiting c.aig w.test w.prefix vs) (sym p.1) l.1);
        lost = found-up w.test w.prefix vs Forall x R u l.0 ∙ ap (λ (b : Bool). cond b (side_won w.test w.prefix vs R x true) b) (side-found Forall false e u false lost.lost);
      }
  lost-up Forall true e u lost p h =
      let l : LastWaits c.aig w.test w.prefix vs true Forall x R c.aside.items = waiting-last c.aig w.test w.prefix w.path c.aside.items lost.ready.waiting vs true Forall x R e u in
      let g : FirstWaits c.aig w.test w.prefix vs x R c.aside.items = l.1 in
      record {
        ready = ready-same c c2 w vs lost.ready p.0 (subst (IsWaiting c.aig w.test w.prefix vs) (sym (p.1 g.before g.row g.rows_are)) g.waiting);
        lost = found-up w.test w.prefix vs Forall x R u l.0 ∙ ap (λ (b : Bool). cond b (side_won w.test w.prefix vs R x true) b) g.won ∙ side-found Forall true e u false lost.lost;
      }

  pub lost-across : (q : Quant) (v : Bool) → w.path ≡ vs ++ v ∷ [] → rest_of w.prefix vs ≡ record { quant = q; var = x } ∷ R → IsLostAt c w → IsDropped q v c c2 → has_second q v false ≡ true →
      IsReady c2 (moved w (vs ++ true ∷ []))
  lost-across Exists true e u lost p h = absurd (cc)
  lost-across Forall false e u lost p h = absurd (cc)
  lost-across Forall true e u lost p h = absurd (cc)
  lost-across Exists false e u lost p h =
      let l : LastWaits c.aig w.test w.prefix vs false Exists x R c.aside.items = waiting-last c.aig w.test w.prefix w.path c.aside.items lost.ready.waiting vs false Exists x R e u in
      let s : side_won w.test w.prefix vs R x false ≡ false = side-found Exists false e u false lost.lost in
      ready-same c c2 w (vs ++ true ∷ []) lost.ready p.0
      (subst (IsWaiting c.aig w.test w.prefix (vs ++ true ∷ [])) (sym p.1) (IsWaiting.choice vs c.aside.items x R u l.0 s l.1))

-- a decision is made
pub ready-down : (c : Circuits) (w new : Walk) → IsReady c w → said_here w ≡ Open → new ≡ moved w (w.path ++ false ∷ []) → IsReady c new
ready-down c w new r o e =
    subst (IsReady c) (sym e)
    (ready-same c c w (w.path ++ false ∷ []) r (record { graph = refl; universals = refl }) (IsWaiting.first w.path c.aside.items o r.waiting))

-- a node that is won has circuits, all of them 0
pub ready-won : (c c2 : Circuits) (w : Walk) → IsReady c w → said_here w ≡ Won → SameGraph c c2 → c2.current ≡ [] → c2.aside.items ≡ c.aside.items → IsWonAt c2 w
ready-won c c2 w r o s e a = record {
  ready = ready-same c c2 w w.path r s (subst (IsWaiting c.aig w.test w.prefix w.path) (sym a) r.waiting);
  won = found-won w.test (rest_of w.prefix w.path) (along w.prefix w.path nothing) o;
  circuits = subst (λ (row : List Pick). IsServing c2.aig w.prefix (suc (length w.path)) row (circuits_at w.test (rest_of w.prefix w.path) (along w.prefix w.path nothing))) (sym e) (record {
    order = tt;
    within = tt;
    literals = λ k. tt;
    serves = λ y h. serves-same _ _ (sym (circuits-won w.test (rest_of w.prefix w.path) (along w.prefix w.path nothing) y o));
  });
}

pub ready-lost : (c : Circuits) (w : Walk) → IsReady c w → said_here w ≡ Lost → IsLostAt c w
ready-lost c w r o = record { ready = r; lost = found-lost w.test (rest_of w.prefix w.path) (along w.prefix w.path nothing) o }
