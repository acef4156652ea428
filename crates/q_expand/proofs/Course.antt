-- The steps of an expansion, all in one: they lead to the clauses that the universal variable keeps apart.
use Rattle.std.proofs.Common.{◌≡◌, ◌+◌, ℕ, Bool, true, false, List, [], ◌∷◌, ◌++◌, refl, sym, ◌∙◌, ap, subst, inl, inr, arith, Some, None, Option}
use Rattle.q_logic.specs.Prelude.{Clause, Matrix, Prefix, IsIn, copies, ProofStep, greatest, Slots, slot, live, put_first, formula_of, clauses_at, shares, expansion_vars, insert_all, Expandable}
use Rattle.q_logic.proofs.Common.{live-slot, SameClauses, Reaches, copies-append, reaches-alike, reaches-append, reaches-end, above-greatest, Expansion, IsIn-append_right}
use Rattle.q_logic.proofs.ExpandPrefix.{reaches-freshes}
use Rattle.q_logic.proofs.ExpandLinks.{links, reaches-links, reaches-unlinks}
use Rattle.q_kernel.specs.Prelude.{Seen, slots, IsSound}
use Rattle.q_expand.specs.Dependents.{Walked, IsWhole}
use Rattle.q_expand.specs.Steps.{each_with, copy_step, link_steps, unlink_steps, all_split, course}
use Rattle.q_expand.proofs.ExpansionBounds.{shares-connected}
use Rattle.q_expand.proofs.ExpansionFacts.{expansion-facts}
use Rattle.q_expand.proofs.Flattened.{apart_from, clauses-beside, beside-from, parted-same, parted-append, parted-stays}
use Rattle.q_expand.proofs.Origins.{kind-of, guarded-kinds}
use Rattle.q_expand.proofs.ExpansionRun.{copies-are, links-are, unlinks-are, parted, reaches-parted}
use Rattle.q_expand.proofs.AllDependents.{vars-existential}

abbrev pub vars_in : Seen → ℕ → List ℕ
vars_in k u = expansion_vars k.prefix (live (slots k)) u

abbrev pub first_in : Seen → ℕ
first_in k = greatest k.prefix + 1

abbrev pub prefix_in : Seen → ℕ → Prefix
prefix_in k u = insert_all (vars_in k u) (first_in k) k.prefix

abbrev pub parted_in : Seen → ℕ → Matrix
parted_in k u = parted u (vars_in k u) (first_in k) (live (slots k))

clauses-live : (N : Slots) (cs : List ℕ) (D : Clause) → IsIn D (clauses_at N cs) → IsIn D (live N)
clauses-live N [] D m = absurd m
clauses-live N (c ∷ cs) D m = go (slot N c) refl m (clauses-live N cs D)
  where
    go : (o : Option Clause) → slot N c ≡ o → IsIn D (put_first o (clauses_at N cs)) → (IsIn D (clauses_at N cs) → IsIn D (live N)) → IsIn D (live N)
    go None e m i = i m
    go (Some C) e (inl f) i = subst (λ (x : Clause). IsIn x (live N)) (sym f) (live-slot N c C e)
    go (Some C) e (inr m) i = i m

module _ (k : Seen) (u : ℕ) (r : Walked) (s : IsSound k) (w : IsWhole k u r) (bound : ℕ) (x : Expandable bound k.prefix (live (slots k)) u) where
  pub facts : Expansion (prefix_in k u) (live (slots k)) u (vars_in k u) (first_in k)
  facts = expansion-facts bound k.prefix (live (slots k)) u s.proper.formula.distinct s.proper.formula.closed x

  abbrev X : Matrix
  X = live (slots k)

  abbrev V : List ℕ
  V = vars_in k u

  abbrev t : ℕ
  t = first_in k

  abbrev Q : Prefix
  Q = prefix_in k u

  abbrev W : Matrix
  W = clauses_at (slots k) r.met

  abbrev R : Matrix
  R = live (apart_from r.met (slots k))

  abbrev L : Matrix
  L = links u (vars_in k u) (first_in k)

  rest-apart : (D : Clause) → IsIn D (live (apart_from r.met (slots k))) → shares (vars_in k u) D ≡ false
  rest-apart D m = go (shares (vars_in k u) D) refl
    where
      go : (b : Bool) → shares (vars_in k u) D ≡ b → shares (vars_in k u) D ≡ false
      go true q = let p = beside-from r.met (slots k) D m in absurd (p.2 (w.all_met p.0 D p.1 (shares-connected k.prefix (live (slots k)) u D q)))
      go false q = q

  all-parted : SameClauses (parted u V t X) (parted u V t W ++ R)
  all-parted C =
      parted-same u V t X (W ++ R) (clauses-beside r.met (slots k) w.dependents.apart) C
      ∙ ap (copies C) (parted-append u V t W R ∙ ap (λ (Y : Matrix). parted u V t W ++ Y) (parted-stays u V t R rest-apart))

  start : SameClauses (W ++ (R ++ L)) (L ++ X)
  start C =
      let a = copies-append C W (R ++ L) in
      let b = copies-append C R L in
      let c = copies-append C L X in
      let d : copies C X ≡ copies C (W ++ R) = clauses-beside r.met (slots k) w.dependents.apart C in
      let e = copies-append C W R in
      omega arith

  end : SameClauses (parted u V t W ++ (R ++ L)) (L ++ parted u V t X)
  end C =
      let a = copies-append C (parted u V t W) (R ++ L) in
      let b = copies-append C R L in
      let c = copies-append C L (parted u V t X) in
      let d : copies C (parted u V t X) ≡ copies C (parted u V t W ++ R) = all-parted C in
      let e = copies-append C (parted u V t W) R in
      omega arith

  splits : Reaches (formula_of Q (L ++ X)) (all_split u V t W) (formula_of Q (L ++ parted u V t X))
  splits =
      reaches-alike Q (W ++ (R ++ L)) (L ++ X) (all_split u V t W) (formula_of Q (L ++ parted u V t X)) start
      (reaches-end Q (parted u V t W ++ (R ++ L)) (L ++ parted u V t X) (formula_of Q (W ++ (R ++ L))) (all_split u V t W) end
      (reaches-parted Q X u V t facts W (R ++ L) (λ D m. clauses-live (slots k) r.met D m) (λ D m. IsIn-append_right D R L m)))

  begun : Reaches (formula_of k.prefix X) (each_with copy_step V t) (formula_of Q X)
  begun = subst (λ (ss : List ProofStep). Reaches (formula_of k.prefix X) ss (formula_of Q X)) (copies-are V t) (reaches-freshes V t k.prefix X (vars-existential k u r s w) (above-greatest k.prefix))

  linked : Reaches (formula_of Q X) (each_with (link_steps u) V t) (formula_of Q (L ++ X))
  linked = subst (λ (ss : List ProofStep). Reaches (formula_of Q X) ss (formula_of Q (L ++ X))) (links-are u V t) (reaches-links Q u V t X facts.u_bound facts.u_below facts.copies_there facts.originals facts.below)

  unlinked : Reaches (formula_of Q (L ++ parted u V t X)) (each_with (unlink_steps u) V t) (formula_of Q (parted u V t X))
  unlinked = subst (λ (ss : List ProofStep). Reaches (formula_of Q (L ++ parted u V t X)) ss (formula_of Q (parted u V t X))) (unlinks-are u V t)
      (reaches-unlinks Q u V t (parted u V t X) facts.u_below facts.copies_there facts.originals (guarded-kinds Q X u V t facts (parted u V t X) (kind-of Q X u V t facts X (λ D m. m))))

  pub reaches-course : Reaches (formula_of k.prefix (live (slots k))) (course u (vars_in k u) (first_in k) (clauses_at (slots k) r.met)) (formula_of (prefix_in k u) (parted_in k u))
  reaches-course =
      reaches-append (formula_of k.prefix X) (each_with copy_step V t) (each_with (link_steps u) V t ++ (all_split u V t W ++ each_with (unlink_steps u) V t)) (formula_of Q X) (formula_of Q (parted u V t X)) begun
      (reaches-append (formula_of Q X) (each_with (link_steps u) V t) (all_split u V t W ++ each_with (unlink_steps u) V t) (formula_of Q (L ++ X)) (formula_of Q (parted u V t X)) linked
      (reaches-append (formula_of Q (L ++ X)) (all_split u V t W) (each_with (unlink_steps u) V t) (formula_of Q (L ++ parted u V t X)) (formula_of Q (parted u V t X)) splits unlinked))
