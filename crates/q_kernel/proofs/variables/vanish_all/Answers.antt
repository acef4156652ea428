use Rattle.std.proofs.Common.{sym, ◌∙◌, subst, arith, take}
use Rattle.std.proofs.lemmas.List.{take_all}
use Rattle.q_logic.specs.Prelude.{Clause, IsIn, Literal}
use Rattle.q_logic.proofs.Common.{get_or-IsIn}
use Rattle.q_kernel.specs.Uses.{AreUses}
use Rattle.q_kernel.specs.Listing.{without_clause}
use Rattle.q_kernel.proofs.OccurrenceChanges.{vanish-more}
use Rattle.q_kernel.proofs.variables.vanish_all.Goals as goal

pub vanish-requires-clause-bound : goal.vanish-requires-clause-bound
vanish-requires-clause-bound c =
    let l = c.lit-item.result in
    (c.requires.within l (subst (λ (k : Literal). IsIn k c.args.lits.now) (sym c.lit-item.is) (get_or-IsIn c.args.lits.now c.loop-lit.lit-index l c.loop-lit-test.true)))

pub loop-lit-preserved : goal.loop-lit-preserved
loop-lit-preserved c =
    let g = c.loop-lit.invariant.grouped in
    record {
      grouped = (_, c.vanish.ensures.occurring g.0 g.1);
      occurring = λ occ u. vanish-more c.vanish.new.uses c.args.prefix.now.bounds c.args.lits.now occ c.loop-lit.lit-index c.lit-item.result c.loop-lit-test.true c.lit-item.is c.args.occ.now
          (c.vanish.ensures.occurring (without_clause (take c.loop-lit.lit-index c.args.lits.now) c.args.occ.now occ) (c.loop-lit.invariant.occurring occ u));
      room = c.vanish.ensures.room ∙ c.loop-lit.invariant.room;
    }

pub returns-clause-occurring : goal.returns-clause-occurring
returns-clause-occurring c = λ occ u.
    subst (λ (C : Clause). AreUses c.loop-lit.uses c.args.prefix.now.bounds (without_clause C c.args.occ.now occ)) (take_all c.loop-lit.lit-index c.args.lits.now (omega arith)) (c.loop-lit.invariant.occurring occ u)
