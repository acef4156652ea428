-- Expansion of a universal: the clauses for u true stay over copies of the inner existentials that are connected to u,
-- those for u false over the originals. (The conditions are this project's own.)
use Rattle.std.specs.Prelude.{◌≡◌, ℕ, zero, suc, ◌+◌, ◌≤◌, Bool, true, false, cond, not, ◌&&◌, ◌||◌, eqb, length, List, [], ◌∷◌, ◌⊎◌}
use Rattle.q_logic.specs.Clauses.{insert}
use Rattle.q_logic.specs.Sweep.{has_variable}
use Rattle.q_logic.specs.StepForms.{positive}
use Rattle.q_logic.specs.Literals.{Literal, negation}
use Rattle.q_logic.specs.Formulas.{Clause, Matrix, Prefix, IsIn}
use Rattle.q_logic.specs.Prefixes.{is_existential, is_universal, outer_or_same}
use Rattle.q_logic.specs.Pivots.{without}
use Rattle.q_logic.specs.Steps.{insert_after}
use Rattle.q_logic.specs.Sets.{has, OccursIn}
use Rattle.q_logic.specs.Measure.{size_of}
use Rattle.q_logic.specs.Eliminating.{clauses_of}

-- v is existential and inner to u
abbrev pub inner_existential : Prefix → ℕ → ℕ → Bool
inner_existential P u v = is_existential P v && not (outer_or_same P v u)

abbrev pub in_list : ℕ → List ℕ → Bool
in_list v [] = false
in_list v (w ∷ V) = eqb w v || in_list v V

-- the clause holds a variable of the list
abbrev pub shares : List ℕ → Clause → Bool
shares V [] = false
shares V (k ∷ C) = in_list k.var V || shares V C

-- the clause holds u or a variable of the list
abbrev pub touches : ℕ → List ℕ → Clause → Bool
touches u V D = has_variable u D || shares V D

-- a clause that holds v is touched
abbrev pub touched_with : ℕ → ℕ → List ℕ → Matrix → Bool
touched_with v u V [] = false
touched_with v u V (D ∷ X) = (has_variable v D && touches u V D) || touched_with v u V X

-- what is connected in one step, in prefix order
abbrev pub next_vars : Prefix → Prefix → Matrix → ℕ → List ℕ → List ℕ
next_vars [] P X u V = []
next_vars (b ∷ Q) P X u V =
    cond (inner_existential P u b.var && touched_with b.var u V X)
    (b.var ∷ next_vars Q P X u V) (next_vars Q P X u V)

abbrev pub grown_vars : ℕ → Prefix → Matrix → ℕ → List ℕ
grown_vars zero P X u = []
grown_vars (suc n) P X u = next_vars P P X u (grown_vars n P X u)

-- the inner existentials that are connected to u, in prefix order
abbrev pub expansion_vars : Prefix → Matrix → ℕ → List ℕ
expansion_vars P X u = grown_vars (length P) P X u

-- the first variable of the list becomes t, the second t + 1, and so on
abbrev pub copy_of : List ℕ → ℕ → ℕ → ℕ
copy_of [] t x = x
copy_of (y ∷ V) t x = cond (eqb y x) t (copy_of V (t + 1) x)

abbrev pub copied_literal : List ℕ → ℕ → Literal → Literal
copied_literal V t k = record { var = copy_of V t k.var; negative = k.negative }

abbrev pub copied : List ℕ → ℕ → Clause → Clause
copied V t [] = []
copied V t (k ∷ C) = insert (copied_literal V t k) (copied V t C)

-- each copy directly after its original
abbrev pub insert_all : List ℕ → ℕ → Prefix → Prefix
insert_all [] t P = P
insert_all (x ∷ V) t P = insert_all V (t + 1) (insert_after x t P)

-- a clause loses u; or it loses not u and takes the copies; or it stays, and comes once more over the copies if it
-- holds a copied variable
abbrev pub expanded_one : ℕ → List ℕ → ℕ → Clause → Matrix → Matrix
expanded_one u V t D X =
    cond (has (positive u) D) (without (positive u) D ∷ X)
    (cond (has (negation (positive u)) D) (copied V t (without (negation (positive u)) D) ∷ X)
    (cond (shares V D) (D ∷ copied V t D ∷ X) (D ∷ X)))

abbrev pub expanded : ℕ → List ℕ → ℕ → Matrix → Matrix
expanded u V t [] = []
expanded u V t (D ∷ X) = expanded_one u V t D (expanded u V t X)

-- the clauses that hold a copied variable but neither u nor not u
abbrev pub touched_neither : ℕ → List ℕ → Matrix → Matrix
touched_neither u V [] = []
touched_neither u V (D ∷ X) =
    cond (not (has_variable u D) && shares V D) (D ∷ touched_neither u V X) (touched_neither u V X)

pub record Expandable (expand : ℕ) (P : Prefix) (X : Matrix) (u : ℕ) : Type 0 where
  pub universal : is_universal P u ≡ true
  pub occurs : OccursIn (positive u) X ⊎ OccursIn (negation (positive u)) X
  pub no_tautology : (D : Clause) → IsIn D X → IsIn (positive u) D →
      IsIn (negation (positive u)) D → ⊥
  pub few : length (expansion_vars P X u) ≤ expand
  pub small :
      size_of (touched_neither u (expansion_vars P X u) X) ≤ expand + length (clauses_of u X)

-- the least set: inner existentials in a clause with u, or in a clause with one of them
pub data Spread (P : Prefix) (X : Matrix) (u : ℕ) : ℕ → Type 0 where
  starts : (D : Clause) → (j k : Literal) → IsIn D X → IsIn j D → j.var ≡ u → IsIn k D →
      inner_existential P u k.var ≡ true → Spread P X u k.var
  spreads : {w : ℕ} → (D : Clause) → (j k : Literal) → IsIn D X → IsIn j D → j.var ≡ w → IsIn k D →
      inner_existential P u k.var ≡ true → Spread P X u w → Spread P X u k.var

abbrev pub no_both : ℕ → Matrix → Bool
no_both u [] = true
no_both u (D ∷ X) = not (has (positive u) D && has (negation (positive u)) D) && no_both u X
