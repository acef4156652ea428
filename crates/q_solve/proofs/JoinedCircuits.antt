-- Joins, place by place.
use Rattle.std.proofs.Common.{◌≡◌, ℕ, suc, ◌<◌, ◌≤◌, Bool, true, false, not, ◌&&◌, cond, eqb, max, List, [], ◌∷◌, ◌++◌, refl, sym, ◌∙◌, subst, inl, inr, arith}
use Rattle.std.proofs.lemmas.Bool.{cases_lt, eqb-true}
use Rattle.q_logic.specs.Prelude.{value_of, inverter, conjunction}
use Rattle.q_aig.specs.Prelude.{Net, IsLiteral, tree_at, operand_of, turned, Keeps, Serves, IsConjunction}
use Rattle.q_aig.proofs.Substitutes.{serves-same, serves-then, serves-inverter, serves-conjunction, turned-serves}
use Rattle.q_certificate.specs.Prelude.{IsDisjunction}
use Rattle.q_certificate.proofs.Folds.{serves-disjunction}
use Rattle.q_certificate.proofs.CircuitParts.{keeps-then}
use Rattle.q_solve.specs.declared.picks.Pick.{Pick}
use Rattle.q_solve.specs.Picks.{lit_at, AreBelow, IsRow, top_of, IsTaken}
use Rattle.q_solve.specs.Joins.{chosen, IsChosen, AreIn, IsJoined, IsJoining}
use Rattle.q_solve.proofs.GrownRows.{below-more, row-weaker, lit-below, lit-above, row-top, top-below, below-push, row-push, lit-push}

same-value : (u s : Bool) → s ≡ not (not (u && s) && not (not u && s))
same-value true true = refl
same-value true false = refl
same-value false true = refl
same-value false false = refl

-- equal literals are the choice between them
pub chosen-same : (a : Net) (u s t : ℕ) → s ≡ t → IsLiteral a s → IsChosen a a u s t s
chosen-same a u s t e h = record {
  inputs = refl;
  kept = λ l k. (k, refl);
  there = h;
  serves = subst (λ (x : ℕ). Serves (tree_at a s) (chosen a u s x)) e (record {
    values = λ A. same-value (value_of (tree_at a u) A) (value_of (tree_at a s) A);
    reads = λ v r. inl (inr r);
  });
}

-- a literal of the old net serves as before
pub kept-serves : (a b : Net) (l : ℕ) → Keeps a b → IsLiteral a l → Serves (tree_at b l) (tree_at a l)
kept-serves a b l k h = serves-same _ _ (k l h).1

-- two conjunctions and a disjunction are a choice
pub chosen-made : (a b c d : Net) (u n s t x y r : ℕ) → IsLiteral a u → IsLiteral a s → IsLiteral a t →
    operand_of n ≡ turned (operand_of u) → IsConjunction a b u s x → IsConjunction b c n t y → IsDisjunction c d x y r → IsChosen a d u s t r
chosen-made a b c d u n s t x y r hu hs ht en f g h =
    let ab : Keeps a b = f.kept in
    let ac : Keeps a c = keeps-then a b c f.kept g.kept in
    let no : Serves (tree_at b n) (inverter (tree_at a u)) = serves-then _ _ _ (turned-serves b u n en) (serves-inverter _ _ (kept-serves a b u ab hu)) in
    let left : Serves (tree_at c x) (conjunction (tree_at a u) (tree_at a s)) = serves-then _ _ _ (kept-serves b c x g.kept f.there) f.serves in
    let right : Serves (tree_at c y) (conjunction (inverter (tree_at a u)) (tree_at a t)) = serves-then _ _ _ g.serves (serves-conjunction _ _ _ _ no (kept-serves a b t ab ht)) in
    record {
      inputs = h.grown.inputs ∙ g.inputs ∙ f.inputs;
      kept = keeps-then a c d ac h.grown.kept;
      there = h.there;
      serves = serves-then _ _ _ h.serves (serves-disjunction _ _ _ _ left right);
    }

-- the constant 0 is the choice between two of it
zero-value : (u : Bool) → false ≡ not (not (u && false) && not (not u && false))
zero-value true = refl
zero-value false = refl

zero-serves : (a b : Net) (u : ℕ) → Serves (tree_at b 0) (chosen a u 0 0)
zero-serves a b u = record { values = λ A. zero-value (value_of (tree_at a u) A); reads = λ v r. absurd r }

gap : (a b : Net) (u x s t : ℕ) → x ≡ 0 → s ≡ 0 → t ≡ 0 → Serves (tree_at b x) (chosen a u s t)
gap a b u x s t e f g =
    subst (λ (y : ℕ). Serves (tree_at b y) (chosen a u s t)) (sym e)
    (subst (λ (y : ℕ). Serves (tree_at b 0) (chosen a u y t)) (sym f)
    (subst (λ (y : ℕ). Serves (tree_at b 0) (chosen a u 0 y)) (sym g) (zero-serves a b u)))

pub zero-in : (a : Net) → AreIn a []
zero-in a k = tt

pub joining-start : (a : Net) (u low end : ℕ) (second first : List Pick) → IsRow low second → IsRow low first → end ≡ max (top_of second) (top_of first) →
    IsJoining a a u low second first second first [] end
joining-start a u low end second first r q e = record {
  inputs = refl;
  kept = λ l k. (k, refl);
  second_row = r;
  first_row = q;
  ends = e;
  row = tt;
  row_low = tt;
  within = λ n b d. tt;
  second_deep = λ n b. b;
  first_deep = λ n b. b;
  literals = zero-in a;
  second_rest = λ k lt. refl;
  first_rest = λ k lt. refl;
  serves = λ k le. gap a a u 0 (lit_at second k) (lit_at first k) refl
      (lit-below (suc (top_of second)) k second (row-top low second r) (omega arith))
      (lit-below (suc (top_of first)) k first (row-top low first q) (omega arith));
}

pub joining-below : (old now : Net) (u low end : ℕ) (second first s t joined : List Pick) → IsJoining old now u low second first s t joined end →
    AreBelow (suc end) s × AreBelow (suc end) t × IsRow 0 s × IsRow 0 t
joining-below old now u low end second first s t joined j =
    let f : end ≡ max (top_of s) (top_of t) = j.ends in (
      below-more (suc (top_of s)) (suc end) s (row-top low s j.second_row) (omega arith),
      below-more (suc (top_of t)) (suc end) t (row-top low t j.first_row) (omega arith),
      row-weaker low 0 s j.second_row (omega arith),
      row-weaker low 0 t j.first_row (omega arith),
    )

chosen-kept : (a b : Net) (u s t : ℕ) → Keeps a b → IsLiteral a u → IsLiteral a s → IsLiteral a t → Serves (chosen b u s t) (chosen a u s t)
chosen-kept a b u s t k hu hs ht =
    let su : Serves (tree_at b u) (tree_at a u) = kept-serves a b u k hu in
    serves-disjunction _ _ _ _
    (serves-conjunction _ _ _ _ su (kept-serves a b s k hs))
    (serves-conjunction _ _ _ _ (serves-inverter _ _ su) (kept-serves a b t k ht))

top-low : (low : ℕ) (ps : List Pick) → IsRow low ps → 0 < top_of ps → low ≤ top_of ps
top-low low [] r z = absurd (omega arith)
top-low low (p ∷ ps) r z = r.0

least-of : (low end a b : ℕ) → end ≡ max a b → (0 < a → low ≤ a) → (0 < b → low ≤ b) → 0 < end → low ≤ end
least-of low end a b e f g z = elim (cases_lt a b) [
  | inl l ↦ let m : low ≤ b = g (omega arith) in omega arith
  | inr l ↦ let m : low ≤ a = f (omega arith) in omega arith
]

below-other : (k end : ℕ) → k ≤ end → eqb end k ≡ false → k < end
below-other k end le e = grind arith

top-deep : (n : ℕ) (ps : List Pick) → AreBelow n ps → 0 < top_of ps → top_of ps < n
top-deep n [] r z = absurd (omega arith)
top-deep n (p ∷ ps) r z = r.0

below-end : (n end a b : ℕ) → end ≡ max a b → (0 < a → a < n) → (0 < b → b < n) → 0 < end → end < n
below-end n end a b e f g z = elim (cases_lt a b) [
  | inl l ↦ let m : b < n = g (omega arith) in omega arith
  | inr l ↦ let m : a < n = f (omega arith) in omega arith
]

-- one depth more
pub joining-more : (old now new : Net) (u low end end2 l x y : ℕ) (second first s t s2 t2 joined joined2 : List Pick) →
    IsLiteral old u → AreIn old second → AreIn old first →
    IsJoining old now u low second first s t joined end → 0 < end →
    IsTaken s s2 end x → IsTaken t t2 end y → IsChosen now new u x y l →
    joined2 ≡ joined ++ record { depth = end; lit = l } ∷ [] → end2 ≡ max (top_of s2) (top_of t2) →
    IsJoining old new u low second first s2 t2 joined2 end2 × (end2 < end)
joining-more old now new u low end end2 l x y second first s t s2 t2 joined joined2 hu hs ht j z p q c ej e2 = (
  record {
    inputs = c.inputs ∙ j.inputs;
    kept = keeps-then old now new j.kept c.kept;
    second_row = p.row low j.second_row;
    first_row = q.row low j.first_row;
    ends = e2;
    row = subst (IsRow (suc end2)) (sym ej) (row-push (suc end) (suc end2) joined here j.row (omega arith) least);
    within = λ n b d. subst (AreBelow n) (sym ej) (below-push n joined here (j.within n b d) (deep-end n (j.second_deep n b) (j.first_deep n d)));
    second_deep = λ n b. p.deep n (j.second_deep n b);
    first_deep = λ n b. q.deep n (j.first_deep n b);
    row_low = subst (IsRow low) (sym ej) (row-push (suc end) low joined here j.row (omega arith) low-end);
    literals = λ k. subst (λ (row : List Pick). IsLiteral new (lit_at row k)) (sym ej) (there k);
    second_rest = λ k le. let m : end2 < end = least in p.rest k (omega arith) ∙ j.second_rest k (omega arith);
    first_rest = λ k le. let m : end2 < end = least in q.rest k (omega arith) ∙ j.first_rest k (omega arith);
    serves = λ k le. subst (λ (row : List Pick). Serves (tree_at new (lit_at row k)) (chosen old u (lit_at second k) (lit_at first k))) (sym ej) (serving k le);
  },
  least,
)
  where
    here : Pick
    here = record { depth = end; lit = l }

    least : end2 < end
    least = let a : top_of s2 < end = top-below end s2 p.below z in let b : top_of t2 < end = top-below end t2 q.below z in omega arith

    low-end : low ≤ end
    low-end = least-of low end (top_of s) (top_of t) j.ends (top-low low s j.second_row) (top-low low t j.first_row) z

    deep-end : (n : ℕ) → AreBelow n s → AreBelow n t → end < n
    deep-end n b d = below-end n end (top_of s) (top_of t) j.ends (top-deep n s b) (top-deep n t d) z

    there : (k : ℕ) → IsLiteral new (lit_at (joined ++ here ∷ []) k)
    there k = subst (IsLiteral new) (sym (lit-push (suc end) k joined here j.row (omega arith))) (go (eqb end k))
      where
        go : (b : Bool) → IsLiteral new (cond b l (lit_at joined k))
        go true = c.there
        go false = (c.kept (lit_at joined k) (j.literals k)).0

    x-is : x ≡ lit_at second end
    x-is = p.value ∙ j.second_rest end (omega arith)

    y-is : y ≡ lit_at first end
    y-is = q.value ∙ j.first_rest end (omega arith)

    now-there : Serves (tree_at new l) (chosen old u x y)
    now-there =
        serves-then _ _ _ c.serves
        (chosen-kept old now u x y j.kept hu (subst (IsLiteral old) (sym x-is) (hs end)) (subst (IsLiteral old) (sym y-is) (ht end)))

    placed : Serves (tree_at new l) (chosen old u (lit_at second end) (lit_at first end))
    placed =
        subst (λ (m : ℕ). Serves (tree_at new l) (chosen old u m (lit_at first end))) x-is
        (subst (λ (m : ℕ). Serves (tree_at new l) (chosen old u x m)) y-is now-there)

    second-none : (k : ℕ) → end2 < k → k < end → lit_at second k ≡ 0
    second-none k le lt =
        let n : suc (top_of s2) ≤ k = omega arith in
        sym (j.second_rest k (omega arith)) ∙ sym (p.rest k lt) ∙ lit-below (suc (top_of s2)) k s2 (row-top low s2 (p.row low j.second_row)) n

    first-none : (k : ℕ) → end2 < k → k < end → lit_at first k ≡ 0
    first-none k le lt =
        let n : suc (top_of t2) ≤ k = omega arith in
        sym (j.first_rest k (omega arith)) ∙ sym (q.rest k lt) ∙ lit-below (suc (top_of t2)) k t2 (row-top low t2 (q.row low j.first_row)) n

    other : (k : ℕ) → end2 < k → eqb end k ≡ false → Serves (tree_at new (lit_at joined k)) (chosen old u (lit_at second k) (lit_at first k))
    other k le e = elim (cases_lt end k) [
      | inl lt ↦ serves-then _ _ _ (kept-serves now new (lit_at joined k) c.kept (j.literals k)) (j.serves k lt)
      | inr ge ↦
          let n : k < end = below-other k end ge e in
          gap old new u (lit_at joined k) (lit_at second k) (lit_at first k) (lit-above (suc end) k joined j.row (omega arith)) (second-none k le n) (first-none k le n)
    ]

    serving : (k : ℕ) → end2 < k → Serves (tree_at new (lit_at (joined ++ here ∷ []) k)) (chosen old u (lit_at second k) (lit_at first k))
    serving k le =
        subst (λ (m : ℕ). Serves (tree_at new m) (chosen old u (lit_at second k) (lit_at first k))) (sym (lit-push (suc end) k joined here j.row (omega arith))) (go (eqb end k) refl)
      where
        go : (b : Bool) → eqb end k ≡ b → Serves (tree_at new (cond b l (lit_at joined k))) (chosen old u (lit_at second k) (lit_at first k))
        go true e =
            let f : end ≡ k = eqb-true end k e in
            subst (λ (m : ℕ). Serves (tree_at new l) (chosen old u (lit_at second m) (lit_at first m))) f placed
        go false e = other k le e

-- nothing is left
pub joining-end : (old now : Net) (u low end : ℕ) (second first s t joined : List Pick) → 0 < low → IsJoining old now u low second first s t joined end → end ≤ 0 → IsJoined old now u low second first joined
joining-end old now u low end second first s t joined z j n = record {
  inputs = j.inputs;
  kept = j.kept;
  row = j.row_low;
  within = j.within;
  literals = j.literals;
  serves = serving;
}
  where
    none : (ps left : List Pick) (k : ℕ) → IsRow low left → k < low → lit_at left k ≡ lit_at ps k → lit_at ps k ≡ 0
    none ps left k r lt e = sym e ∙ lit-above low k left r lt

    serving : (k : ℕ) → Serves (tree_at now (lit_at joined k)) (chosen old u (lit_at second k) (lit_at first k))
    serving k = elim (cases_lt end k) [
      | inl lt ↦ j.serves k lt
      | inr ge ↦
          gap old now u (lit_at joined k) (lit_at second k) (lit_at first k) (lit-above low k joined j.row_low (omega arith))
          (none second s k j.second_row (omega arith) (j.second_rest k ge)) (none first t k j.first_row (omega arith) (j.first_rest k ge))
    ]
