-- Clauses that are counted and entered.
use Rattle.std.proofs.Common.{IsTrue, ◌↔◌, ◌≡◌, ℕ, suc, ◌+◌, ◌<◌, ◌≤◌, inl, inr, Bool, true, false, cond, ◌&&◌, eqb, List, [], ◌∷◌, ◌++◌, length, drop, get_or, slice_get, Some, refl, sym, ap, ◌∙◌, subst, arith}
use Rattle.std.proofs.lemmas.Bool.{cases_lt, cases_eq}
use Rattle.std.proofs.lemmas.List.{get_or_past, length_push, get_or_push, get_or_append_left, drop_all}
use Rattle.std.proofs.lemmas.Option.{get_or_from_slice_get}
use Rattle.q_logic.specs.Prelude.{Literal, literal_eq, bool_eq, Clause, Prefix, PrenexFormula, is_tautology, IsTautology, nothing}
use Rattle.q_logic.specs.Prefixes.{is_bound, place}
use Rattle.q_logic.specs.declared.verdict.Standing.{Standing}
use Rattle.q_logic.specs.Decisions.{is_true, standing}
use Rattle.q_logic.proofs.Common.{is_tautology-sound, is_tautology-whole}
use Rattle.q_search.specs.Paths.{along, rest_of}
use Rattle.q_search.proofs.PathValues.{drop-step}
use Rattle.q_solve.specs.declared.counts.Count.{Count}
use Rattle.q_solve.specs.Counting.{if_so, is_chosen, how_many, count_of, times, times_in, clause_at, count_at, row_at, IsGrown}
use Rattle.q_solve.proofs.CountChanges.{times-append, none-and, so-few}
use Rattle.q_solve.specs.declared.sides.Sides.{Sides}
use Rattle.q_solve.specs.Counted.{side, row_of, IsCounted}

-- variables of a prefix stand at different places
same-place : (P : Prefix) (x y : ℕ) → is_bound P x ≡ true → is_bound P y ≡ true → place P x ≡ place P y → x ≡ y
same-place [] x y h k e = absurd (cc)
same-place (b ∷ P) x y h k e = go (eqb b.var x) refl (eqb b.var y) refl h k e (same-place P x y)
  where
    go : (s : Bool) → eqb b.var x ≡ s → (t : Bool) → eqb b.var y ≡ t → cond s true (is_bound P x) ≡ true → cond t true (is_bound P y) ≡ true →
        cond s 0 (suc (place P x)) ≡ cond t 0 (suc (place P y)) → (is_bound P x ≡ true → is_bound P y ≡ true → place P x ≡ place P y → x ≡ y) → x ≡ y
    go true p true q h k e f = grind arith
    go true p false q h k e f = absurd (omega arith)
    go false p true q h k e f = absurd (omega arith)
    go false p false q h k e f = f h k (omega arith)

places-eq : (P : Prefix) (x y : ℕ) → is_bound P x ≡ true → is_bound P y ≡ true → eqb (place P y) (place P x) ≡ eqb x y
places-eq P x y h k = go (eqb x y) refl
  where
    go : (e : Bool) → eqb x y ≡ e → eqb (place P y) (place P x) ≡ e
    go true p =
        let q : x ≡ y = grind arith in
        let r : place P y ≡ place P x = ap (place P) (sym q) in
        grind arith
    go false p = last (eqb (place P y) (place P x)) refl
      where
        last : (e : Bool) → eqb (place P y) (place P x) ≡ e → e ≡ false
        last false r = refl
        last true r = absurd (let q : place P y ≡ place P x = grind arith in let z : x ≡ y = sym (same-place P y x k h q) in grind arith)

here-same : (P : Prefix) (x k : Literal) → is_bound P x.var ≡ true → is_bound P k.var ≡ true →
    bool_eq k.negative x.negative && eqb (place P k.var) (place P x.var) ≡ literal_eq x k
here-same P x k h g = signs k.negative x.negative (eqb (place P k.var) (place P x.var)) ∙ ap (λ (t : Bool). t && bool_eq x.negative k.negative) (places-eq P x.var k.var h g)
  where
    signs : (m n t : Bool) → bool_eq m n && t ≡ t && bool_eq n m
    signs true true true = refl
    signs true true false = refl
    signs true false true = refl
    signs true false false = refl
    signs false true true = refl
    signs false true false = refl
    signs false false true = refl
    signs false false false = refl

-- a literal of a clause is entered
abbrev pub IsPushed : Prefix → Sides → Sides → Literal → ℕ → Type 0
IsPushed P old new x at' =
    (n : Bool) (m : ℕ) → row_at (side new n) m ≡ cond (bool_eq n x.negative && eqb m (place P x.var)) (row_at (side old n) m ++ at' ∷ []) (row_at (side old n) m)

pub enter-step : (P : Prefix) (C : Clause) (m : ℕ) (x : Literal) (at' : ℕ) (old new : Sides) (k : Literal) (i : ℕ) →
    is_bound P x.var ≡ true → is_bound P k.var ≡ true → m < length C → x ≡ get_or C m x → IsPushed P old new x at' →
    times i (row_of P new k) + if_so (eqb at' i) (times_in k (drop (m + 1) C)) ≡ times i (row_of P old k) + if_so (eqb at' i) (times_in k (drop m C))
enter-step P C m x at' old new k i h g l e p =
    let row = row_of P old k in
    let r : times i (row_of P new k) ≡ times i (cond (literal_eq x k) (row ++ at' ∷ []) row) =
    ap (times i) (p k.negative (place P k.var) ∙ ap (λ (b : Bool). cond b (row ++ at' ∷ []) row) (here-same P x k h g)) in
    let d : times_in k (drop m C) ≡ if_so (literal_eq x k) 1 + times_in k (drop (m + 1) C) = drop-step (times_in k) C m x l e in
    ap (λ (n : ℕ). n + if_so (eqb at' i) (times_in k (drop (m + 1) C))) r
    ∙ go (literal_eq x k) (eqb at' i) refl (times_in k (drop (m + 1) C))
    ∙ ap (λ (n : ℕ). times i row + if_so (eqb at' i) n) (sym d)
  where
    go : (b t : Bool) → eqb at' i ≡ t → (n : ℕ) → times i (cond b (row_of P old k ++ at' ∷ []) (row_of P old k)) + if_so t n ≡ times i (row_of P old k) + if_so t (if_so b 1 + n)
    go true t q n =
        let a : times i (row_of P old k ++ at' ∷ []) ≡ times i (row_of P old k) + (if_so t 1 + 0) =
        times-append i (row_of P old k) (at' ∷ []) ∙ ap (λ (c : Bool). times i (row_of P old k) + (if_so c 1 + 0)) q in
        ap (λ (z : ℕ). z + if_so t n) a ∙ sum t (times i (row_of P old k)) n
      where
        sum : (t : Bool) (z n : ℕ) → (z + (if_so t 1 + 0)) + if_so t n ≡ z + if_so t (1 + n)
        sum true z n = omega arith
        sum false z n = omega arith
    go false t q n = ap (λ (z : ℕ). times i (row_of P old k) + if_so t z) (sym (none-and n))

-- the literals of a clause are counted
pub record IsCounting (g : Literal → Standing) (C : Clause) (count : Count) (i : ℕ) : Type 0 where
  pub trues : count.trues + how_many is_true g (drop i C) ≡ how_many is_true g C
  pub opens : count.opens + how_many is_chosen g (drop i C) ≡ how_many is_chosen g C
  pub both : count.both ≡ is_tautology C
  pub few_trues : count.trues ≤ i
  pub few_opens : count.opens ≤ i

-- all clauses before a place are counted and entered
pub record IsLoaded (F : PrenexFormula) (s : Sides) (row : List Count) (j : ℕ) : Type 0 where
  pub held : (k : Literal) → is_bound F.prefix k.var ≡ true → (i : ℕ) → i < j → times i (row_of F.prefix s k) ≡ times_in k (clause_at F.matrix i)
  pub none : (k : Literal) → is_bound F.prefix k.var ≡ true → (i : ℕ) → j ≤ i → times i (row_of F.prefix s k) ≡ 0
  pub as_many : length row ≡ j
  pub each : (i : ℕ) → i < j → count_at row i ≡ count_of (standing (rest_of F.prefix []) (along F.prefix [] nothing)) (clause_at F.matrix i)
  pub small : (i : ℕ) → i < j → length (clause_at F.matrix i) < 18446744073709551616

pub loaded-none : (F : PrenexFormula) (s : Sides) → s.positive ≡ [] → s.negative ≡ [] → IsLoaded F s [] 0
loaded-none F s p n = record {
  held = λ k b i h. absurd (omega arith);
  none = λ k b i h. ap (λ (rows : List (List ℕ)). times i (row_at rows (place F.prefix k.var))) (none-side k.negative);
  as_many = refl;
  each = λ i h. absurd (omega arith);
  small = λ i h. absurd (omega arith);
}
  where
    none-side : (m : Bool) → side s m ≡ []
    none-side true = n
    none-side false = p

pub loaded-more : (F : PrenexFormula) (s t : Sides) (row new : List Count) (j : ℕ) (C : Clause) (c : Count) → IsLoaded F s row j → slice_get F.matrix j ≡ Some C →
    length C < 18446744073709551616 → c ≡ count_of (standing (rest_of F.prefix []) (along F.prefix [] nothing)) C → new ≡ row ++ c ∷ [] →
    ((k : Literal) → is_bound F.prefix k.var ≡ true → (i : ℕ) → times i (row_of F.prefix t k) ≡ times i (row_of F.prefix s k) + if_so (eqb j i) (times_in k C)) →
    IsLoaded F t new (j + 1)
loaded-more F s t row new j C c l g small count pushed entered = record {
  held = λ k b i h. elim (cases_eq i j) [
    | inl e ↦
        let z = l.none k b i (omega arith) in
        let q : eqb j i ≡ true = grind arith in
        let a : times i (row_of F.prefix t k) ≡ times i (row_of F.prefix s k) + times_in k C = entered k b i ∙ ap (λ (x : Bool). times i (row_of F.prefix s k) + if_so x (times_in k C)) q in
        let d : times_in k (clause_at F.matrix i) ≡ times_in k C = ap (λ (m : ℕ). times_in k (clause_at F.matrix m)) e ∙ ap (times_in k) here in
        omega arith
    | inr n ↦
        let z = l.held k b i (omega arith) in
        let q : eqb j i ≡ false = grind arith in
        let a : times i (row_of F.prefix t k) ≡ times i (row_of F.prefix s k) + 0 = entered k b i ∙ ap (λ (x : Bool). times i (row_of F.prefix s k) + if_so x (times_in k C)) q in
        omega arith
  ];
  none = λ k b i h.
      let z = l.none k b i (omega arith) in
      let q : eqb j i ≡ false = grind arith in
      let a : times i (row_of F.prefix t k) ≡ times i (row_of F.prefix s k) + 0 = entered k b i ∙ ap (λ (x : Bool). times i (row_of F.prefix s k) + if_so x (times_in k C)) q in
      omega arith;
  as_many = ap length pushed ∙ length_push row c ∙ ap (λ (n : ℕ). n + 1) l.as_many;
  each = λ i h. elim (cases_eq i j) [
    | inl e ↦
        ap (λ (xs : List Count). count_at xs i) pushed
        ∙ get_or_push row c (record { trues = 0; opens = 0; both = false }) i (l.as_many ∙ sym e)
        ∙ count
        ∙ ap (count_of (standing (rest_of F.prefix []) (along F.prefix [] nothing))) (sym (ap (clause_at F.matrix) e ∙ here))
    | inr n ↦
        let m = l.as_many in
        ap (λ (xs : List Count). count_at xs i) pushed
        ∙ get_or_append_left row (c ∷ []) (record { trues = 0; opens = 0; both = false }) i (omega arith)
        ∙ l.each i (omega arith)
  ];
  small = λ i h. elim (cases_eq i j) [
    | inl e ↦ subst (λ (D : Clause). length D < 18446744073709551616) (sym (ap (clause_at F.matrix) e ∙ here)) small
    | inr n ↦ l.small i (omega arith)
  ];
}
  where
    here : clause_at F.matrix j ≡ C
    here = get_or_from_slice_get F.matrix j C [] g

pub loaded-all : (F : PrenexFormula) (s : Sides) (row : List Count) (j : ℕ) → IsLoaded F s row j → j ≡ length F.matrix → IsCounted F s row []
loaded-all F s row j l e = record {
  held = λ k b i. elim (cases_lt i j) [
    | inl h ↦ l.held k b i h
    | inr h ↦ l.none k b i h ∙ sym (ap (times_in k) (get_or_past F.matrix i [] (omega arith)))
  ];
  small = λ i. elim (cases_lt i j) [
    | inl h ↦ l.small i h
    | inr h ↦ subst (λ (D : Clause). length D < 18446744073709551616) (sym (get_or_past F.matrix i [] (omega arith))) (omega arith)
  ];
  counted = record {
    as_many = l.as_many ∙ e;
    each = λ i. elim (cases_lt i j) [
      | inl h ↦ l.each i h
      | inr h ↦
          let m = l.as_many in
          get_or_past row i (record { trues = 0; opens = 0; both = false }) (omega arith)
          ∙ ap (count_of (standing (rest_of F.prefix []) (along F.prefix [] nothing))) (sym (get_or_past F.matrix i [] (omega arith)))
    ];
  };
  within = omega arith;
}

-- a clause that holds a variable in both signs
pub tautology-told : (C : Clause) (r : Bool) → (IsTrue r ↔ IsTautology C) → r ≡ is_tautology C
tautology-told C true h = sym (is_tautology-whole C (h.0 refl))
tautology-told C false h = go (is_tautology C) refl
  where
    go : (b : Bool) → is_tautology C ≡ b → false ≡ b
    go false e = refl
    go true e = absurd (let t : IsTrue false = h.1 (is_tautology-sound C e) in cc)

pub counting-none : (g : Literal → Standing) (C : Clause) (b : Bool) → (IsTrue b ↔ IsTautology C) → IsCounting g C (record { trues = 0; opens = 0; both = b }) 0
counting-none g C b h = record { trues = none-and (how_many is_true g C); opens = none-and (how_many is_chosen g C); both = tautology-told C b h; few_trues = omega arith; few_opens = omega arith }

pub counting-more : (g : Literal → Standing) (C : Clause) (c d : Count) (i : ℕ) (k : Literal) (s : Standing) → IsCounting g C c i → i < length C → k ≡ get_or C i k → s ≡ g k → IsGrown c d s → IsCounting g C d (i + 1)
counting-more g C c d i k s h l e q n =
    let t : how_many is_true g (drop i C) ≡ if_so (is_true s) 1 + how_many is_true g (drop (i + 1) C) = drop-step (how_many is_true g) C i k l e ∙ ap (λ (x : Standing). if_so (is_true x) 1 + how_many is_true g (drop (i + 1) C)) (sym q) in
    let o : how_many is_chosen g (drop i C) ≡ if_so (is_chosen s) 1 + how_many is_chosen g (drop (i + 1) C) = drop-step (how_many is_chosen g) C i k l e ∙ ap (λ (x : Standing). if_so (is_chosen x) 1 + how_many is_chosen g (drop (i + 1) C)) (sym q) in
    let a = so-few (is_true s) in
    let b = so-few (is_chosen s) in
    record {
      trues = (let x = h.trues in let y = n.trues in omega arith);
      opens = (let x = h.opens in let y = n.opens in omega arith);
      both = n.both ∙ h.both;
      few_trues = (let x = h.few_trues in let y = n.trues in omega arith);
      few_opens = (let x = h.few_opens in let y = n.opens in omega arith);
    }

pub counting-all : (g : Literal → Standing) (C : Clause) (c : Count) (i : ℕ) → IsCounting g C c i → length C ≤ i → c ≡ count_of g C
counting-all g C c i h l =
    let t : c.trues + 0 ≡ how_many is_true g C = ap (λ (D : Clause). c.trues + how_many is_true g D) (sym (drop_all i C l)) ∙ h.trues in
    let o : c.opens + 0 ≡ how_many is_chosen g C = ap (λ (D : Clause). c.opens + how_many is_chosen g D) (sym (drop_all i C l)) ∙ h.opens in
    let a : c.trues ≡ how_many is_true g C = omega arith in
    let b : c.opens ≡ how_many is_chosen g C = omega arith in
    let d : c.both ≡ is_tautology C = h.both in
    λ j. record { trues = a j; opens = b j; both = d j }
