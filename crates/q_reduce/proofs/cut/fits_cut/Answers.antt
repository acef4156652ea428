use Rattle.std.proofs.Common.{◌≡◌, ◌∙◌, sym, subst, true≢false}
use Rattle.std.proofs.lemmas.Option.{same_Some}
use Rattle.q_logic.specs.Prelude.{negation, Clause, IsIn, Reached}
use Rattle.q_logic.proofs.Common.{test-false}
use Rattle.q_reduce.proofs.cut.fits_cut.Goals as goal
use Rattle.q_reduce.proofs.cut.fits_cut.Goals.{then-not-holds-via-then-not-holds, then-not-holds-via-else-not-holds+then-holds}

pub returns-then-not-holds-clause-fits : goal.returns-then-not-holds-clause-fits
returns-then-not-holds-clause-fits c = (
  λ t. absurd (true≢false (sym t)),
  λ (C, e, r).
      let q : c.lits-clause.result.now ≡ C = same_Some c.lits-clause.result.now C (sym c.lits-clause.ensures.clause ∙ e) in
      absurd (elim c.then-not-holds.branch [
        | then-not-holds-via-then-not-holds w ↦ test-false c.holds.result c.holds.ensures w.if-not-holds.true (subst (λ (x : Clause). IsIn c.args.l x) (sym q) r.in_clause)
        | then-not-holds-via-else-not-holds+then-holds w ↦
            let h = rw w.negated.ensures at w.holds-else-not-holds.ensures in
            r.no_negation C Reached.first (subst (λ (x : Clause). IsIn (negation c.args.l) x) q (h.0 w.if-holds.true))
      ]),
)
