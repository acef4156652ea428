-- What a search for literals answers.
use Rattle.std.specs.Prelude.{◌≡◌, Option, None, Some}
use Rattle.q_logic.specs.Prelude.{Literal, live, Mergeable}
use Rattle.q_kernel.specs.Prelude.{Seen, slots}

-- a literal that may take the place of gone, and none exactly where none may
pub record IsKept (k : Seen) (gone : Literal) (o : Option Literal) : Type 0 where
  pub some : (keep : Literal) → o ≡ Some keep → Mergeable k.prefix (live (slots k)) keep gone
  pub none : o ≡ None → (keep : Literal) → Mergeable k.prefix (live (slots k)) keep gone → ⊥
