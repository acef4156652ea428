-- What is called under a list without moves is called.
use Rattle.std.proofs.Common.{◌≡◌, ℕ, [], inl, inr}
use Rattle.std.proofs.lemmas.Option.{none-some}
use Rattle.q_command.specs.Statuses.{code_of}
use Rattle.q_command.specs.declared.status.Status.TheVariants as status
use Rattle.q_c_library.specs.Jobs.{ListedCalled}

pub unlisted : (wrong code : ℕ) (Called Untouched : Type 0) → ((code ≡ code_of status.NoMemory) × Untouched → Called) → ListedCalled [] wrong code Called Untouched → Called
unlisted wrong code Called Untouched wanting (inl called) = called.2
unlisted wrong code Called Untouched wanting (inr (inl refused)) = absurd (none-some wrong refused.0)
unlisted wrong code Called Untouched wanting (inr (inr h)) = wanting (h.1, h.2)
