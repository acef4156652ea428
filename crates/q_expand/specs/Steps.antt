-- The steps of an expansion.
use Rattle.std.specs.Prelude.{◌≡◌, ◌↔◌, ℕ, ◌+◌, Bool, true, false, cond, List, [], ◌∷◌, ◌++◌, Some, ◌≢◌, ◌≤◌, ◌<◌, length, slice_get}
use Rattle.q_logic.specs.Prelude.{insert, positive, first_of, Literal, negation, Clause, Matrix, IsIn, without, ProofStep, add, delete, fresh, has, shares, in_list, copied}
use Rattle.q_expand.specs.declared.splitting.Part.{Part}
use Rattle.q_expand.specs.declared.splitting.Part.TheVariants.{Stays, Turns, Splits}

-- steps for each variable of a list and its copy
abbrev pub each_with : (ℕ → ℕ → List ProofStep) → List ℕ → ℕ → List ProofStep
each_with f [] t = []
each_with f (x ∷ V) t = f x t ++ each_with f V (t + 1)

abbrev pub copy_step : ℕ → ℕ → List ProofStep
copy_step x c = fresh c x ∷ []

abbrev pub of_sign : ℕ → Bool → Literal
of_sign x b = record { var = x; negative = b }

-- where u is true the first literal follows from the negation of the second
abbrev pub linked : ℕ → Literal → Literal → Clause
linked u a b = insert a (insert (negation (positive u)) (b ∷ []))

-- the copy becomes equal to its original where u is true
abbrev pub link_steps : ℕ → ℕ → ℕ → List ProofStep
link_steps u x c =
    add (Some (of_sign c false)) (linked u (of_sign c false) (of_sign x true)) ∷
    add (Some (of_sign c true)) (linked u (of_sign c true) (of_sign x false)) ∷ []

abbrev pub unlink_steps : ℕ → ℕ → ℕ → List ProofStep
unlink_steps u x c =
    delete (Some (of_sign x true)) (linked u (of_sign c false) (of_sign x true)) ∷
    delete (Some (of_sign x false)) (linked u (of_sign c true) (of_sign x false)) ∷ []

-- u is positive, and a clause of a, not u and b has its greatest variable at a
pub record AreLinkable (u a b : Literal) : Type 0 where
  pub sign : u.negative ≡ false
  pub u_below : u.var < a.var
  pub b_below : b.var < a.var
  pub other : b.var ≢ u.var

-- u is positive, and a variable beside it has the copy t, which is greater than both
pub record HasCopy (u : Literal) (x t : ℕ) : Type 0 where
  pub sign : u.negative ≡ false
  pub small : t < 16777216
  pub u_below : u.var < t
  pub x_below : (1 ≤ x) × (x < t)
  pub other : x ≢ u.var

-- u is positive, and variables beside it have the copies from t on, which are greater than all of them
pub record HaveCopies (u : Literal) (V : List ℕ) (t : ℕ) : Type 0 where
  pub sign : u.negative ≡ false
  pub small : t + length V ≤ 16777216
  pub u_below : u.var < t
  pub others : (i x : ℕ) → slice_get V i ≡ Some x → (1 ≤ x) × (x < t) × (x ≢ u.var)

-- the clause over the copies, with not u
abbrev pub over_copies : ℕ → List ℕ → ℕ → Clause → Clause
over_copies u V t D = insert (negation (positive u)) (copied V t (without (negation (positive u)) D))

-- a clause with copied variables and without u becomes one over the copies with not u; one without not u stays beside
-- it, with u
abbrev pub split_steps : ℕ → List ℕ → ℕ → Clause → List ProofStep
split_steps u V t D =
    cond (has (positive u) D) []
    (cond (shares V D)
    (add (first_of (over_copies u V t D)) (over_copies u V t D) ∷
    cond (has (negation (positive u)) D) (delete (first_of D) D ∷ [])
    (add (first_of (insert (positive u) D)) (insert (positive u) D) ∷ delete (first_of D) D ∷ []))
    [])

abbrev pub all_split : ℕ → List ℕ → ℕ → Matrix → List ProofStep
all_split u V t [] = []
all_split u V t (D ∷ X) = split_steps u V t D ++ all_split u V t X

-- all steps before u leaves its clauses, of which these are split
abbrev pub course : ℕ → List ℕ → ℕ → Matrix → List ProofStep
course u V t W = each_with copy_step V t ++ (each_with (link_steps u) V t ++ (all_split u V t W ++ each_with (unlink_steps u) V t))

-- the literals are the variables of the list
abbrev pub AreVars : List Literal → List ℕ → Type 0
AreVars ls V = (v : ℕ) → IsIn (positive v) ls ↔ (in_list v V ≡ true)

-- the steps of a clause, by what is to become of it
abbrev pub steps_for : Part → ℕ → List ℕ → ℕ → Clause → List ProofStep
steps_for Stays u V t D = []
steps_for Turns u V t D =
    add (first_of (over_copies u V t D)) (over_copies u V t D) ∷ delete (first_of D) D ∷ []
steps_for Splits u V t D =
    add (first_of (over_copies u V t D)) (over_copies u V t D) ∷
    add (first_of (insert (positive u) D)) (insert (positive u) D) ∷ delete (first_of D) D ∷ []
