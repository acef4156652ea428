-- The nodes of a line, to which zeros lead.
use Rattle.std.specs.Prelude.{◌≡◌, ℕ, zero, suc, Bool, false, cond, nat_lt, List, [], ◌∷◌, Option, Some, None}
use Rattle.q_validate.specs.declared.line.Since.{Since}
use Rattle.std.proofs.Common.{◌∙◌}

-- the way to a node
abbrev pub zeros : ℕ → List Bool
zeros zero = []
zeros (suc n) = false ∷ zeros n

-- what is known there
abbrev pub since : Since → ℕ → Option Bool
since s n = cond (nat_lt n s.after) None (Some s.value)

-- what is known at each node
abbrev pub Follows : Since → (List Bool → Option Bool) → Type 0
Follows s f = (n : ℕ) → since s n ≡ f (zeros n)

pub follows_same : (s : Since) (f g : List Bool → Option Bool) → Follows s f → ((w : List Bool) → f w ≡ g w) → Follows s g
follows_same s f g h e n = h n ∙ e (zeros n)
