-- The definitions at small formulas.
use Rattle.std.proofs.Common.{◌≡◌, true, false, [], ◌∷◌, ◌++◌, refl, sym, inl, inr, arith, subst}
use Rattle.q_logic.specs.Prelude.{negation, Clause, PrenexFormula, outer_or_same, Implied, negations, begin, outer, without, positive}
use Rattle.q_logic.specs.Truth.{Holds, is_true}
use Rattle.q_logic.specs.Examples.{existential, universal, negative, of_two, guessed, guessed_less, CarelessPivot}
use Rattle.q_logic.proofs.TruthDecided.{is_true_under-sound, is_true_under-complete}

-- what the program answers is so

pub computed_true : (F : PrenexFormula) → is_true F ≡ true → Holds F
computed_true F h = is_true_under-sound F.prefix F.matrix (λ x. false) h

pub computed_false : (F : PrenexFormula) → is_true F ≡ false → ¬ Holds F
computed_false F h t =
    let z : is_true F ≡ true = is_true_under-complete F.prefix F.matrix (λ x. false) t in grind arith

-- the order of a prefix

same_block_after : outer_or_same (existential 1 ∷ existential 2 ∷ universal 3 ∷ existential 4 ∷ []) 2 1 ≡
    true
same_block_after = refl

later_universal : outer_or_same (existential 1 ∷ existential 2 ∷ universal 3 ∷ existential 4 ∷ []) 3 1 ≡
    false
later_universal = refl

over_universal : outer_or_same (existential 1 ∷ existential 2 ∷ universal 3 ∷ existential 4 ∷ []) 4 1 ≡
    false
over_universal = refl

before_all : outer_or_same (existential 1 ∷ existential 2 ∷ universal 3 ∷ existential 4 ∷ []) 1 4 ≡ true
before_all = refl

-- outer clauses

outer_of : outer (existential 1 ∷ universal 2 ∷ existential 3 ∷ []) (negative 2)
    (negative 1 ∷ negative 2 ∷ positive 3 ∷ []) ≡ negative 1 ∷ []
outer_of = refl

outer_tautology : outer (existential 1 ∷ universal 2 ∷ existential 3 ∷ []) (negative 2)
    (positive 2 ∷ negative 2 ∷ positive 3 ∷ []) ≡ positive 2 ∷ []
outer_tautology = refl

-- the careless pivot

opposites_implied : Implied guessed_less.matrix (positive 1 ∷ positive 2 ∷ negative 1 ∷ [])
opposites_implied = (
  negations (positive 1 ∷ positive 2 ∷ negative 1 ∷ []),
  begin,
  inl (positive 1, inr (inr (inl refl)), inl refl),
)

abbrev MayGo : Clause → Type 0
MayGo D =
    Implied guessed_less.matrix (of_two (positive 1) (positive 2) ++ without (negation (positive 2)) D)

pub careless : CarelessPivot guessed.prefix guessed_less.matrix (of_two (positive 1) (positive 2))
    (positive 2)
careless =
    record {
      existential_pivot = refl;
      in_clause = inr (inl refl);
      implied = λ D m k. elim m [ inl e ↦ subst MayGo (sym e) opposites_implied | inr n ↦ elim n [ ] ];
    }
