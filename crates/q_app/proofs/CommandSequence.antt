-- Commands in turn.
use Rattle.std.proofs.Common.{◌≡◌, ◌∙◌, arith, inl, inr, refl, sym, true, false, List, [], ◌∷◌, subst}
use Rattle.q_command.specs.Statuses.{passes}
use Rattle.q_simplify.specs.declared.options.Options.{Options}
use Rattle.q_command.specs.Names.{ThreeNames}
use Rattle.q_app.specs.Words.{Command, simplifying}
use Rattle.q_command.specs.Devices.{Devices, AreLater}
use Rattle.q_command.specs.Told.{Runs}
use Rattle.q_app.specs.Told.{told}
use Rattle.q_app.specs.Says.{InTurn}
use Rattle.q_command.specs.declared.status.Status.{Status}
use Rattle.q_command.specs.declared.status.Status.TheVariants as status

pub later-same : (d : Devices) → AreLater d d
later-same d = record { read = λ q. omega arith; write = λ q. omega arith; sink = omega arith }

pub later-still : (c d e : Devices) → AreLater c d → AreLater d e → AreLater c e
later-still c d e l m = record {
  read = λ q. omega (arith, l.read q, m.read q);
  write = λ q. omega (arith, l.write q, m.write q);
  sink = omega (arith, l.sink, m.sink);
}

pub stops : (c d : Command) (cs : List Command) (before between : Devices) (given : Status) → Runs (told c) before given between → AreLater before between → passes given ≡ false → InTurn (c ∷ d ∷ cs) before given between
stops c d cs before between given r l p = (given, between, r, l, later-same between, inr (p, refl, refl))

pub goes_on : (c d : Command) (cs : List Command) (before between after : Devices) (first given : Status) → Runs (told c) before first between → AreLater before between → AreLater between after → passes first ≡ true → InTurn (d ∷ cs) between given after → InTurn (c ∷ d ∷ cs) before given after
goes_on c d cs before between after first given r l m p rest = (first, between, r, l, m, inl (p, rest))

-- no command answers that the words are none
pub in_turn-usage : (cs : List Command) (before after : Devices) (given : Status) → InTurn cs before given after → given ≡ status.Usage → ⊥
in_turn-usage [] before after given h e = h
in_turn-usage (c ∷ []) before after given h e = h.no_usage e
in_turn-usage (c ∷ d ∷ cs) before after given (first, between, r, l, m, inl (p, rest)) e = in_turn-usage (d ∷ cs) between after given rest e
in_turn-usage (c ∷ d ∷ cs) before after given (first, between, r, l, m, inr (p, q, s)) e = r.no_usage (sym q ∙ e)

-- a simplification with the same options
pub options-same : (n : ThreeNames) (p q : Options) (before after : Devices) (given : Status) → p ≡ q → Runs (told (simplifying n p)) before given after → Runs (told (simplifying n q)) before given after
options-same n p q before after given e r = subst (λ (o : Options). Runs (told (simplifying n o)) before given after) e r
