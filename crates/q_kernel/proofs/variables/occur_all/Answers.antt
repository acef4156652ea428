use Rattle.std.proofs.Common.{ℕ, true, sym, ◌∙◌, subst, arith, take}
use Rattle.std.proofs.lemmas.List.{take_all}
use Rattle.q_logic.specs.Prelude.{Clause, IsIn, Literal}
use Rattle.q_logic.proofs.Common.{get_or-IsIn}
use Rattle.q_kernel.specs.Uses.{AreUses, with_occurring}
use Rattle.q_kernel.specs.Listing.{with_clause}
use Rattle.q_kernel.proofs.OccurrenceChanges.{occur-more}
use Rattle.q_kernel.proofs.variables.occur_all.Goals as goal

pub start-requires-clause-bound : goal.start-requires-clause-bound
start-requires-clause-bound c =
    let l = c.lit-item.result in
    rw c.var.ensures.value (c.requires.within l (subst (λ (k : Literal). IsIn k c.args.lits.now) (sym c.lit-item.is) (get_or-IsIn c.args.lits.now c.loop-lit.lit-index l c.loop-lit-test.true)))

pub loop-lit-preserved : goal.loop-lit-preserved
loop-lit-preserved c =
    let g = c.loop-lit.invariant.grouped in
    record {
      grouped = (_, c.start.ensures.occurring g.0 g.1);
      occurring = λ occ u. occur-more c.start.new.uses c.args.prefix.now.bounds c.args.lits.now occ c.loop-lit.lit-index c.lit-item.result c.loop-lit-test.true c.lit-item.is
          (subst (λ (v : ℕ). AreUses c.start.new.uses c.args.prefix.now.bounds (with_occurring v true (with_clause (take c.loop-lit.lit-index c.args.lits.now) occ))) c.var.ensures.value (c.start.ensures.occurring (with_clause (take c.loop-lit.lit-index c.args.lits.now) occ) (c.loop-lit.invariant.occurring occ u)));
      room = c.start.ensures.room ∙ c.loop-lit.invariant.room;
    }

pub returns-clause-occurring : goal.returns-clause-occurring
returns-clause-occurring c = λ occ u.
    subst (λ (C : Clause). AreUses c.loop-lit.uses c.args.prefix.now.bounds (with_clause C occ)) (take_all c.loop-lit.lit-index c.args.lits.now (omega arith)) (c.loop-lit.invariant.occurring occ u)
