-- The table of circuits, one variable further, and the certificate that it gives.
use Rattle.std.proofs.Common.{◌≡◌, ℕ, zero, suc, ◌+◌, ◌-◌, ◌<◌, ◌≤◌, Bool, true, false, cond, ◌&&◌, eqb, inl, inr, List, [], ◌∷◌, length, drop, get_or, map, refl, sym, ap, ◌∙◌, subst, arith, Option, Some, None}
use Rattle.std.proofs.lemmas.List.{drop_more, drop_all}
use Rattle.std.proofs.lemmas.Bool.{cases_Bool, eqb-true}
use Rattle.q_logic.specs.declared.formulas.Bound.{Bound}
use Rattle.q_logic.specs.Prelude.{Prefix, PrenexFormula, Assignment, Circuit, value_of, NamedOutput, CertificateView, trees_of, Strategy, circuit_of, or_input, outcome, where_true, strategy_of, Lawful, SkolemOf, nothing}
use Rattle.q_logic.specs.Prefixes.{is_exists, is_existential, is_universal, is_bound, place, Distinct, IsFormula}
use Rattle.q_logic.specs.Decisions.{verdict, search_of, circuits_at, circuits_of}
use Rattle.q_logic.proofs.Truth.{none_bound}
use Rattle.q_logic.proofs.Common.{existential-is_bound, MatrixTrue-agree}
use Rattle.q_logic.proofs.PickedCircuits.{circuits-skolem}
use Rattle.q_aig.specs.Prelude.{Net, tree_at, Serves}
use Rattle.q_search.specs.Walks.{Walk}
use Rattle.q_search.proofs.NodeSteps.{along-none}
use Rattle.q_certificate.specs.Prelude.{look_at, Stands, IsAt}
use Rattle.q_certificate.proofs.NamedCertificates.{existentials-named, not-given, made-serves, made-lawful}
use Rattle.q_solve.specs.declared.picks.Pick.{Pick}
use Rattle.q_solve.specs.declared.circuits.Circuits.{Circuits}
use Rattle.q_solve.specs.Picks.{lit_at, AreBelow, IsRow, IsTaken}
use Rattle.q_solve.specs.Waiting.{IsServing, IsWonAt}
use Rattle.q_solve.specs.Written.{AreEntries, IsEntering, IsWritten}
use Rattle.q_solve.specs.Found.{IsAnswer}
use Rattle.q_solve.proofs.GrownRows.{below-more}

pub entering-start : (P : Prefix) (row : List Pick) (n : ℕ) (table : List (Option ℕ)) → n ≡ length P → table ≡ [] → IsRow 0 row → AreBelow (suc (length P)) row → IsEntering P row row n table
entering-start P row n table e t r b = record {
  bound = omega arith;
  entries = subst (λ (tb : List (Option ℕ)). AreEntries (drop n P) n row tb) (sym t)
      (subst (λ (Q : Prefix). AreEntries Q n row []) (sym (drop_all n P (omega arith))) (λ x. refl));
  order = r;
  within = below-more (suc (length P)) (suc n) row b (omega arith);
  rest = λ k le. refl;
}

entered-one : (b : Bound) (Q : Prefix) (row : List Pick) (m l : ℕ) (tb tb2 : List (Option ℕ)) → is_bound Q b.var ≡ false → AreEntries Q (suc m) row tb → l ≡ lit_at row (suc m) →
    ((x : ℕ) → look_at tb2 x ≡ cond (is_exists b.quant && eqb x b.var) (Some l) (look_at tb x)) → AreEntries (b ∷ Q) m row tb2
entered-one b Q row m l tb tb2 d h e put x = put x ∙ go (is_exists b.quant) (eqb x b.var) refl (eqb b.var x) refl (h x)
  where
    go : (q s : Bool) → eqb x b.var ≡ s → (t : Bool) → eqb b.var x ≡ t → look_at tb x ≡ cond (is_existential Q x) (Some (lit_at row (suc (suc m + place Q x)))) None →
        cond (q && s) (Some l) (look_at tb x) ≡ cond (cond t q (is_existential Q x)) (Some (lit_at row (suc (m + cond t 0 (suc (place Q x)))))) None
    go true true p true r k = ap Some (e ∙ ap (lit_at row) (let z : suc m ≡ suc (m + 0) = omega arith in z))
    go false true p true r k =
        let s : b.var ≡ x = eqb-true b.var x r in
        let n : is_existential Q x ≡ false = none_bound Q x (subst (λ (v : ℕ). is_bound Q v ≡ false) s d) in
        k ∙ ap (λ (c : Bool). cond c (Some (lit_at row (suc (suc m + place Q x)))) None) n
    go q true p false r k = absurd (apart x b.var p r)
      where
        apart : (i j : ℕ) → eqb i j ≡ true → eqb j i ≡ false → ⊥
        apart i j f g = grind arith
    go q false p true r k = absurd (apart b.var x r p)
      where
        apart : (i j : ℕ) → eqb i j ≡ true → eqb j i ≡ false → ⊥
        apart i j f g = grind arith
    go true false p false r k = k ∙ ap (λ (n : ℕ). cond (is_existential Q x) (Some (lit_at row (suc n))) None) (let z : suc m + place Q x ≡ m + suc (place Q x) = omega arith in z)
    go false false p false r k = k ∙ ap (λ (n : ℕ). cond (is_existential Q x) (Some (lit_at row (suc n))) None) (let z : suc m + place Q x ≡ m + suc (place Q x) = omega arith in z)

distinct-drop : (P : Prefix) (i : ℕ) (b : Bound) (Q : Prefix) → Distinct P → drop i P ≡ b ∷ Q → is_bound Q b.var ≡ false
distinct-drop [] zero b Q d e = absurd (cc)
distinct-drop [] (suc i) b Q d e = absurd (cc)
distinct-drop (c ∷ P) zero b Q d e =
    let h : c ≡ b = cc in
    let k : P ≡ Q = cc in
    subst (λ (S : Prefix). is_bound S b.var ≡ false) k (subst (λ (z : Bound). is_bound P z.var ≡ false) h d.0)
distinct-drop (c ∷ P) (suc i) b Q d e = distinct-drop P i b Q d.1 e

pub entering-more : (P : Prefix) (row left left2 : List Pick) (before m l : ℕ) (b none : Bound) (tb tb2 : List (Option ℕ)) → Distinct P → IsEntering P row left before tb → 0 < before → m ≡ before - 1 →
    IsTaken left left2 before l → b ≡ get_or P m none →
    ((x : ℕ) → look_at tb2 x ≡ cond (is_exists b.quant && eqb x b.var) (Some l) (look_at tb x)) → IsEntering P row left2 m tb2
entering-more P row left left2 before m l b none tb tb2 d h z e t eb put =
    let s : before ≡ suc m = omega arith in
    let lt : m < length P = (let k : before ≤ length P = h.bound in omega arith) in
    let dr : drop m P ≡ b ∷ drop (m + 1) P = drop_more P m none lt ∙ ap (λ (x : Bound). x ∷ drop (m + 1) P) (sym eb) in
    let one : m + 1 ≡ suc m = omega arith in
    let dr2 : drop m P ≡ b ∷ drop (suc m) P = dr ∙ ap (λ (i : ℕ). b ∷ drop i P) one in
    let old : AreEntries (drop (suc m) P) (suc m) row tb = subst (λ (i : ℕ). AreEntries (drop i P) i row tb) s h.entries in
    let lit : l ≡ lit_at row (suc m) = t.value ∙ h.rest before (omega arith) ∙ ap (lit_at row) s in
    record {
      bound = omega arith;
      entries = subst (λ (Q : Prefix). AreEntries Q m row tb2) (sym dr2) (entered-one b (drop (suc m) P) row m l tb tb2 (distinct-drop P m b (drop (suc m) P) d dr2) old lit put);
      order = t.row 0 h.order;
      within = subst (λ (i : ℕ). AreBelow i left2) s t.below;
      rest = λ k le. t.rest k (omega arith) ∙ h.rest k (omega arith);
    }

pub entering-end : (P : Prefix) (row left : List Pick) (before : ℕ) (tb : List (Option ℕ)) → IsEntering P row left before tb → before ≤ 0 → AreEntries P 0 row tb
entering-end P row left before tb h z =
    let e : before ≡ 0 = omega arith in
    subst (λ (i : ℕ). AreEntries (drop i P) i row tb) e h.entries

stands : (a : Net) (P : Prefix) (row : List Pick) (c : ℕ → Circuit) (tb : List (Option ℕ)) (low : ℕ) → IsServing a P low row c → AreEntries P 0 row tb → (x : ℕ) → Stands a (strategy_of P c x) (look_at tb x)
stands a P row c tb low s h x = subst (λ (m : Option ℕ). Stands a (where_true (is_existential P x) (c x)) m) (sym (h x)) (go (is_existential P x) refl)
  where
    go : (b : Bool) → is_existential P x ≡ b → Stands a (where_true b (c x)) (cond b (Some (lit_at row (suc (0 + place P x)))) None)
    go false e = tt
    go true e =
        let z : suc (0 + place P x) ≡ suc (place P x) = omega arith in
        subst (λ (k : ℕ). Serves (tree_at a (lit_at row k)) (c x)) (sym z) (s.serves x (existential-is_bound P x e))

outcomes : (P : Prefix) (c d : Strategy) → Lawful P c → Lawful P d → ((x : ℕ) → is_existential P x ≡ true → Serves (circuit_of d x) (circuit_of c x)) → (A : Assignment) (x : ℕ) → outcome c A x ≡ outcome d A x
outcomes P c d lc ld s A x = elim (cases_Bool (is_existential P x)) [
  | inl e ↦ sym ((s x e).values A)
  | inr e ↦
      let m : c x ≡ None = not-given (c x) (lc.trees x ∙ e) in
      let n : d x ≡ None = not-given (d x) (ld.trees x ∙ e) in
      ap (λ (o : Option Circuit). value_of (or_input x o) A) m ∙ sym (ap (λ (o : Option Circuit). value_of (or_input x o) A) n)
]

pub answered : (F : PrenexFormula) (c : Circuits) (w : Walk) (made : CertificateView) → IsFormula F → (search_of F).won ≡ true →
    w ≡ record { test = verdict F.matrix; prefix = F.prefix; path = w.path } → w.path ≡ [] → IsWonAt c w → IsWritten c.aig F.prefix c.current made → IsAnswer F made
answered F c w made f won ew ep h wr =
    let whole : w ≡ record { test = verdict F.matrix; prefix = F.prefix; path = [] } = ew ∙ ap (λ (p : List Bool). record { test = verdict F.matrix; prefix = F.prefix; path = p }) ep in
    let root : IsWonAt c (record { test = verdict F.matrix; prefix = F.prefix; path = [] }) = subst (IsWonAt c) whole h in
    let serving : IsServing c.aig F.prefix 1 c.current (circuits_at (verdict F.matrix) F.prefix nothing) = subst (λ (A : Assignment). IsServing c.aig F.prefix 1 c.current (circuits_at (verdict F.matrix) F.prefix A)) (along-none F.prefix nothing) root.circuits in
    let good : SkolemOf F (circuits_of F) = circuits-skolem F f won in
    let at : IsAt c.aig c.inputs.items wr.table (is_universal F.prefix) (circuits_of F) = record { inputs = root.ready.at; circuits = stands c.aig F.prefix c.current (circuits_at (verdict F.matrix) F.prefix nothing) wr.table 1 serving wr.entries } in
    let serves = made-serves F.prefix f.distinct (is_universal F.prefix) c.aig made c.inputs.items wr.table (circuits_of F) wr.named at good.lawful in
    let law : Lawful F.prefix (trees_of made) = made-lawful F.prefix f.distinct (is_universal F.prefix) c.aig made c.inputs.items wr.table (circuits_of F) wr.named at good.lawful in
    record {
      inputs = wr.named.inputs ∙ root.ready.inputs;
      outputs = ap (map (λ (o : NamedOutput). o.name)) wr.named.outputs ∙ existentials-named wr.table F.prefix;
      skolem = record {
        lawful = law;
        wins = λ A. MatrixTrue-agree (outcome (circuits_of F) A) (outcome (trees_of made) A) F.matrix (outcomes F.prefix (circuits_of F) (trees_of made) good.lawful law serves A) (good.wins A);
      };
      values = λ x e A. (serves x e).values A;
    }
