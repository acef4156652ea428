-- The two sides, of which each is the other over the prefix with its quantifiers exchanged.
use Rattle.q_logic.specs.declared.formulas.Quant.{Quant}
use Rattle.q_logic.specs.declared.formulas.Bound.{Bound}
use Rattle.q_logic.specs.Prelude.{Matrix, Prefix, PrenexFormula, Strategy, SkolemOf, CertificateView}
use Rattle.q_logic.specs.Exchanging.{other_quant, exchanged}
use Rattle.q_logic.specs.Herbrands.{HerbrandOf}
use Rattle.q_miter.specs.Miters.{lean_miter, herbrand_miter}
use Rattle.q_encode.specs.declared.side.Side.{Side}
use Rattle.q_encode.specs.declared.side.Side.TheVariants.{Skolem, Herbrand}

abbrev pub turned_quant : Side → Quant → Quant
turned_quant Skolem q = q
turned_quant Herbrand q = other_quant q

abbrev pub turned_bound : Side → Bound → Bound
turned_bound side b = record { quant = turned_quant side b.quant; var = b.var }

-- the prefix in which the variables with circuits are existential
abbrev pub turned : Side → Prefix → Prefix
turned Skolem P = P
turned Herbrand P = exchanged P

-- the circuits are the functions of their side
abbrev pub AreFunctionsOf : Side → PrenexFormula → Strategy → Type 0
AreFunctionsOf Skolem F c = SkolemOf F c
AreFunctionsOf Herbrand F c = HerbrandOf F c

-- the clauses that decide whether they are
abbrev pub miter_of : Side → PrenexFormula → CertificateView → Matrix
miter_of Skolem F c = lean_miter F c
miter_of Herbrand F c = herbrand_miter F c
