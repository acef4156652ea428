-- What the reader of the lines behind the header answers.
use Rattle.std.specs.Prelude.{◌≡◌, ℕ, suc, ◌+◌, Bool, true, false, List, Result, Ok, Err}
use Rattle.std.specs.Borrow.{Bor}
use Rattle.q_aiger.specs.declared.error.AigerError.{AigerError}
use Rattle.q_aiger.specs.declared.body.Behind.{Behind as BehindCode}
use Rattle.q_aiger.specs.Lines.{lines_of}
use Rattle.q_aiger.specs.Headers.{Header}
use Rattle.q_aiger.specs.Items.{Items, Behind, items_from}
use Rattle.q_aiger.specs.Symbols.{Symbol, Names, symbol_turn}
use Rattle.q_aiger.specs.Standing.{FailsAs, Answers}

abbrev pub behind_view : BehindCode → Behind
behind_view b = record { items = b.items; line = b.line; lines = lines_of b.rest.now }

-- one line was taken, whatever number of them is still to come
abbrev pub TakesLine : Result (Bor (List ℕ)) AigerError → Header → ℕ → ℕ → Items → List (List ℕ) → Items → Type 0
TakesLine (Ok rest) h e n old ls new = (k : ℕ) → items_from h e n old (suc k) ls ≡ items_from h e (n + 1) new k (lines_of rest.now)
TakesLine (Err f) h e n old ls new = (k : ℕ) → FailsAs f (items_from h e n old (suc k) ls)

-- one symbol was taken, whatever lines are still to come
abbrev pub TakesSymbol : Result Bool AigerError → ℕ → Symbol → Names → Names → Type 0
TakesSymbol (Ok true) n y old new = (e : ℕ) → (later : Names → Result Names (ℕ × ℕ)) → symbol_turn e n old y later ≡ later new
TakesSymbol (Ok false) n y old new = (e : ℕ) → (later : Names → Result Names (ℕ × ℕ)) → symbol_turn e n old y later ≡ symbol_turn e n new Symbol.comment later
TakesSymbol (Err f) n y old new = (e : ℕ) → (later : Names → Result Names (ℕ × ℕ)) → FailsAs f (symbol_turn e n old y later)

abbrev pub ReadsNames : Result (Unit {0}) AigerError → Result Names (ℕ × ℕ) → List ℕ → List ℕ → Type 0
ReadsNames r answer inputs outputs = Answers r answer (λ _. record { inputs = inputs; outputs = outputs })
