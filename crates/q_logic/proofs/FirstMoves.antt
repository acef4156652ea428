-- Winning first moves are those that Skolem functions can complete.
use Rattle.std.proofs.Common.{◌≡◌, ℕ, Bool, true, false, cond, not, eqb, List, [], ◌∷◌, ◌++◌, ◌⊎◌, inl, inr, arith, refl, sym, ap, ◌∙◌, subst}
use Rattle.q_logic.specs.declared.formulas.Quant.TheVariants.{Exists}
use Rattle.q_logic.specs.Prelude.{Literal, Prefix, Clause, IsIn, PrenexFormula, is_exists, is_bound, run_to, universal_before, IsFormula, Strategy, circuit_of, outcome, Lawful, SkolemOf, ProofStep, UndoEntry, Back, Undos}
use Rattle.q_logic.specs.Truth.{Assignment, ClauseTrue, MatrixTrue, LiteralTrue, signed}
use Rattle.q_logic.proofs.Justified.{JustifiedRun}
use Rattle.q_logic.proofs.ClauseLemmas.{IsIn-append, IsIn-append_left, IsIn-append_right}
use Rattle.q_logic.proofs.PrefixOrder.{existential-is_bound}
use Rattle.q_logic.proofs.TreeValues.{value_of-agree}
use Rattle.q_logic.proofs.Soundness.{rebuilt-skolem, has_skolem, from_skolem}
use Rattle.q_logic.specs.Moves.{IsFirst, Agree, CanBeCompleted, first_values, set_first, Wins, HasFirst}
use Rattle.q_logic.proofs.PrefixRounds.{first-is-run, first-none_before}
use Rattle.q_logic.proofs.MovesBack.{Quiet, run-agree}

-- Completions are carried back.
pub completion-back : (F : PrenexFormula) (ss : List ProofStep) (G : PrenexFormula) (us : List UndoEntry)
    (n : ℕ) (c : Strategy) → IsFormula F → JustifiedRun F ss G → Undos F ss us →
    (n ≡ 0) ⊎ Lawful G.prefix c → CanBeCompleted G n c → CanBeCompleted F n (Back us c)
completion-back F ss G us n c f r u q (d, sk, h) = (
  Back us d,
  rebuilt-skolem F ss G us d f r u sk,
  λ A. run-agree F ss G us n c d A f r u quiet (h A),
)
  where
    quiet : Quiet G.prefix n c d
    quiet = elim q [ inl z ↦ inl z | inr l ↦ inr (l, sk.lawful) ]

-- The clause of a variable's value.
abbrev value_clause : ℕ → Assignment → Clause
value_clause x a = record { var = x; negative = not (a x) } ∷ []

value-there : (P : Prefix) (a : Assignment) (x : ℕ) → run_to Exists P x ≡ true →
    IsIn (value_clause x a) (first_values P a)
value-there [] a x r = absurd (grind arith)
value-there (b ∷ P) a x r = go (is_exists b.quant) refl (eqb b.var x) refl (value-there P a x)
  where
    go : (e : Bool) → is_exists b.quant ≡ e → (z : Bool) → eqb b.var x ≡ z →
        (run_to Exists P x ≡ true → IsIn (value_clause x a) (first_values P a)) →
        IsIn (value_clause x a) (cond e (value_clause b.var a ∷ first_values P a) [])
    go false e z q ih = absurd (grind arith)
    go true e true q ih =
        let s : x ≡ b.var = grind arith in inl (ap (λ y. value_clause y a) s)
    go true e false q ih = inr (ih (grind arith))

value-from : (P : Prefix) (a : Assignment) (D : Clause) → IsIn D (first_values P a) →
    (x : ℕ) × (run_to Exists P x ≡ true) × (D ≡ value_clause x a)
value-from [] a D i = elim i [ ]
value-from (b ∷ P) a D i = go (is_exists b.quant) refl i (value-from P a D)
  where
    go : (e : Bool) → is_exists b.quant ≡ e → IsIn D (cond e (value_clause b.var a ∷ first_values P a) []) →
        (IsIn D (first_values P a) → (x : ℕ) × (run_to Exists P x ≡ true) × (D ≡ value_clause x a)) →
        (x : ℕ) × (run_to Exists (b ∷ P) x ≡ true) × (D ≡ value_clause x a)
    go false e i ih = elim i [ ]
    go true e (inl s) ih = (b.var, grind arith, s)
    go true e (inr m) ih =
        let w : (x : ℕ) × (run_to Exists P x ≡ true) × (D ≡ value_clause x a) = ih m in
        (w.0, (let r : run_to Exists P w.0 ≡ true = w.1 in grind arith), w.2)

-- The formula with first values set is a formula.
set_first-formula : (F : PrenexFormula) (a : Assignment) → IsFormula F → IsFormula (set_first F a)
set_first-formula F a f =
    record {
      distinct = f.distinct;
      closed = λ D m. elim (IsIn-append D (first_values F.prefix a) F.matrix m) [
        | inl i ↦ of_value D (value-from F.prefix a D i)
        | inr i ↦ f.closed D i
      ];
    }
  where
    of_value : (D : Clause) → (x : ℕ) × (run_to Exists F.prefix x ≡ true) × (D ≡ value_clause x a) →
        (k : Literal) → IsIn k D → is_bound F.prefix k.var ≡ true
    of_value D (x, r, e) k i = elim (subst (IsIn k) e i) [
      | inl s ↦ (let b : is_bound F.prefix x ≡ true =
          existential-is_bound F.prefix x ((first-is-run F.prefix x).1 r).0 in
          subst (λ (j : Literal). is_bound F.prefix j.var ≡ true) (sym s) b)
      | inr z ↦ absurd z
    ]

pub signed-value : (b v : Bool) → signed (not b) v ≡ true → v ≡ b
signed-value true v h = h
signed-value false true h = absurd (grind arith)
signed-value false false h = refl

value-signed : (b v : Bool) → v ≡ b → signed (not b) v ≡ true
value-signed true v h = h
value-signed false true h = absurd (grind arith)
value-signed false false h = refl

-- What the clauses of first values say.
pub values-set : (P : Prefix) (a D : Assignment) → MatrixTrue D (first_values P a) → (x : ℕ) →
    run_to Exists P x ≡ true → D x ≡ a x
values-set P a D t x r = at (t (value_clause x a) (value-there P a x r))
  where
    at : ClauseTrue D (value_clause x a) → D x ≡ a x
    at (k, inl e, t) = signed-value (a x) (D x) (subst (LiteralTrue D) e t)
    at (k, inr z, t) = absurd z

pub set-values : (P : Prefix) (a D : Assignment) → ((x : ℕ) → run_to Exists P x ≡ true → D x ≡ a x) →
    MatrixTrue D (first_values P a)
set-values P a D h E m = go (value-from P a E m)
  where
    go : (x : ℕ) × (run_to Exists P x ≡ true) × (E ≡ value_clause x a) → ClauseTrue D E
    go (x, r, e) =
        subst (ClauseTrue D) (sym e)
        (record { var = x; negative = not (a x) }, inl refl, value-signed (a x) (D x) (h x r))

pub wins-skolem : (F : PrenexFormula) (a : Assignment) → IsFormula F → Wins F a →
    (d : Strategy) × SkolemOf F d × ((A : Assignment) (x : ℕ) → IsFirst F.prefix x → outcome d A x ≡ a x)
wins-skolem F a f w = go (has_skolem (set_first F a) (set_first-formula F a f) w)
  where
    go : (d : Strategy) × SkolemOf (set_first F a) d →
        (d : Strategy) × SkolemOf F d × ((A : Assignment) (x : ℕ) → IsFirst F.prefix x → outcome d A x ≡ a x)
    go (d, sk) = (
      d,
      record {
        lawful = sk.lawful;
        wins = λ A D m. sk.wins A D (IsIn-append_right D (first_values F.prefix a) F.matrix m);
      },
      values,
    )
      where
        values : (A : Assignment) (x : ℕ) → IsFirst F.prefix x → outcome d A x ≡ a x
        values A x i =
            values-set F.prefix a (outcome d A)
            (λ D m. sk.wins A D (IsIn-append_left D (first_values F.prefix a) F.matrix m)) x ((first-is-run F.prefix x).0 i)

pub skolem-wins : (F : PrenexFormula) (a : Assignment) (d : Strategy) → IsFormula F → SkolemOf F d →
    ((A : Assignment) (x : ℕ) → IsFirst F.prefix x → outcome d A x ≡ a x) → Wins F a
skolem-wins F a d f sk h =
    from_skolem (set_first F a) d (set_first-formula F a f) (record { lawful = sk.lawful; wins = winning })
  where
    winning : (A : Assignment) → MatrixTrue (outcome d A) (first_values F.prefix a ++ F.matrix)
    winning A D m = elim (IsIn-append D (first_values F.prefix a) F.matrix m) [
      | inl i ↦ set-values F.prefix a (outcome d A)
          (λ x r. h A x ((first-is-run F.prefix x).1 r)) D i
      | inr i ↦ sk.wins A D i
    ]

pub winning-back : (F : PrenexFormula) (ss : List ProofStep) (G : PrenexFormula) (us : List UndoEntry)
    (c : Strategy) (A : Assignment) → IsFormula F → IsFormula G → JustifiedRun F ss G → Undos F ss us →
    HasFirst G c → Wins G (outcome c A) → Wins F (outcome (Back us c) A)
winning-back F ss G us c A f g r u has w = go (wins-skolem G (outcome c A) g w)
  where
    go : (d : Strategy) × SkolemOf G d ×
        ((B : Assignment) (x : ℕ) → IsFirst G.prefix x → outcome d B x ≡ outcome c A x) →
        Wins F (outcome (Back us c) A)
    go (d, sk, h) = skolem-wins F (outcome (Back us c) A) (Back us d) f bk values
      where
        bk : SkolemOf F (Back us d)
        bk = rebuilt-skolem F ss G us d f r u sk

        agree : Agree G.prefix 0 c d A
        agree x i = (has x i ∙ sym (sk.lawful.trees x ∙ i.0), sym (h A x i))

        values : (B : Assignment) (x : ℕ) → IsFirst F.prefix x →
            outcome (Back us d) B x ≡ outcome (Back us c) A x
        values B x i =
            constant_at x i B ∙ sym (run-agree F ss G us 0 c d A f r u (inl refl) agree x i).1
          where
            constant_at : (x : ℕ) → IsFirst F.prefix x → (B : Assignment) →
                outcome (Back us d) B x ≡ outcome (Back us d) A x
            constant_at x i B =
                value_of-agree (circuit_of (Back us d) x) B A
                (λ v e. (let z : universal_before F.prefix v x ≡ true = bk.lawful.reads x i.0 v e in
                let y : universal_before F.prefix v x ≡ false =
                (first-none_before F.prefix x f.distinct i.0).0 i v in absurd (grind arith)))
