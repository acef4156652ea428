-- How it ended, by why no further turn comes.
use Rattle.std.proofs.Common.{◌≡◌, ◌↔◌, ℕ, [], ◌∷◌, refl, sym, ap, ◌∙◌, subst}
use Rattle.q_logic.specs.declared.rule_bounds.Bounds.{Bounds}
use Rattle.q_logic.specs.Prelude.{Matrix, PrenexFormula, live, numbered, formula_of, IsSwept, swept, falsity, measure_of}
use Rattle.q_logic.proofs.Common.{live-numbered}
use Rattle.q_kernel.specs.Prelude.{Seen, slots, formula_in}
use Rattle.q_simplify.specs.declared.options.Options.{Options}
use Rattle.q_simplify.specs.declared.report.Ending.{Ending}
use Rattle.q_simplify.specs.declared.report.Ending.TheVariants as ending
use Rattle.q_simplify.specs.declared.stop.Stop.{Stop}
use Rattle.q_simplify.specs.declared.stop.Stop.TheVariants.{Settled, Spent, Stopped}
use Rattle.q_sched.specs.Settled.{IsSettled, IsDone}
use Rattle.q_sched.specs.Drives.{IsSpentAt}
use Rattle.q_simplify.specs.Stops.{Stops}
use Rattle.q_simplify.specs.Results.{EndsAs, ends_as, by_clauses}
use Rattle.q_simplify.proofs.NumberIndependence.{none-numbered, numbered-none}

-- a formula is that of its clauses numbered in their order
pub swept-numbered : (F : PrenexFormula) → IsSwept F → swept (formula_of F.prefix (live (numbered F.matrix))) ≡ formula_of F.prefix (live (numbered F.matrix))
swept-numbered F s = subst (λ (X : Matrix). swept (formula_of F.prefix X) ≡ formula_of F.prefix X) (sym (live-numbered F.matrix)) s

settled-swept : (B : Bounds) (F : PrenexFormula) → IsSettled B F → IsSwept F
settled-swept B F s = subst (λ (X : Matrix). swept (formula_of F.prefix X) ≡ formula_of F.prefix X) (live-numbered F.matrix) s.0

pub done-settled : (B : Bounds) (k : Seen) → IsSwept (formula_in k) → IsDone B k → IsSettled B (formula_in k)
done-settled B k s d = (swept-numbered (formula_in k) s, none-numbered B k.prefix (slots k) d)

pub settled-done : (B : Bounds) (k : Seen) → IsSettled B (formula_in k) → IsDone B k
settled-done B k s = numbered-none B k.prefix (slots k) s.1

by-clauses : (o : Options) (F G : PrenexFormula) (X : Matrix) → G.matrix ≡ X → IsSettled o.bounds G → EndsAs (by_clauses X) o F G
by-clauses o F G [] e s = (s, e)
by-clauses o F G ([] ∷ X) e s = (s, sym (settled-swept o.bounds G s) ∙ only-empty G X e)
  where
    only-empty : (G : PrenexFormula) (X : Matrix) → G.matrix ≡ [] ∷ X → swept G ≡ falsity
    only-empty G X e = let f : swept (record { prefix = G.prefix; matrix = G.matrix }) ≡ swept (record { prefix = G.prefix; matrix = [] ∷ X }) = ap (λ (Y : Matrix). swept (record { prefix = G.prefix; matrix = Y })) e in f
by-clauses o F G ((k ∷ C) ∷ X) e s = (s, (λ n. let f : (k ∷ C) ∷ X ≡ [] = sym e ∙ n in cc), (λ n. let f : (k ∷ C) ∷ X ≡ [] ∷ [] = sym e ∙ ap (λ (H : PrenexFormula). H.matrix) n in cc))

-- the kernel may have gone on to another state with the same formula
pub ends : (last : Stop) (o : Options) (first : ℕ) (F G : PrenexFormula) (k : Seen) → first ≡ measure_of o.bounds F → G ≡ formula_in k → IsSwept (formula_in k) → Stops last o.bounds o.budget first k → EndsAs (ends_as last G) o F G
ends Settled o first F G k m g s h = by-clauses o F G G.matrix refl (subst (λ (H : PrenexFormula). IsSettled o.bounds H) (sym g) (done-settled o.bounds k s h))
ends Spent o first F G k m g s h = (
  (λ n. h.1 (settled-done o.bounds k (subst (λ (H : PrenexFormula). IsSettled o.bounds H) g n))),
  subst (λ (f : ℕ). IsSpentAt o.budget f (measure_of o.bounds G)) m (subst (λ (H : PrenexFormula). IsSpentAt o.budget first (measure_of o.bounds H)) (sym g) h.0),
)
ends Stopped o first F G k m g s h = absurd h

-- only a spent budget leaves a target that applies
pub spent-exactly : (x : Ending) (o : Options) (F G : PrenexFormula) → EndsAs x o F G → (x ≡ ending.Spent) ↔ (IsSpentAt o.budget (measure_of o.bounds F) (measure_of o.bounds G) × ¬ IsSettled o.bounds G)
spent-exactly ending.Settled o F G h = ((λ e. cc), (λ s. absurd (s.1 h.0)))
spent-exactly ending.True o F G h = ((λ e. cc), (λ s. absurd (s.1 h.0)))
spent-exactly ending.False o F G h = ((λ e. cc), (λ s. absurd (s.1 h.0)))
spent-exactly ending.Spent o F G h = ((λ e. (h.1, h.0)), (λ s. refl))
spent-exactly ending.Stopped o F G h = absurd h
