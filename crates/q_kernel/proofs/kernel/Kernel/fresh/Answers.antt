use Rattle.std.proofs.Common.{refl, sym, ◌∙◌, arith, ap, true≢false}
use Rattle.q_logic.specs.Prelude.{Literal, live, formula_of, is_bound}
use Rattle.q_logic.specs.declared.formulas.Quant.TheVariants.{Exists}
use Rattle.q_logic.proofs.Common.{existential-is_bound}
use Rattle.q_kernel.proofs.TextCosts.{proper-var}
use Rattle.q_kernel.proofs.GroupChanges.{not-grouped}
use Rattle.q_kernel.specs.Listing.{is_listed}
use Rattle.q_kernel.proofs.KernelRuns.{led-freshened}
use Rattle.q_kernel.proofs.KernelSteps.{quant-exists, with_after-inserted, kernel-freshened}
use Rattle.q_kernel.proofs.LoggedSteps.{logged-fresh}
use Rattle.q_kernel.proofs.kernel.Kernel.fresh.Goals as goal

pub new-requires-2-clause-positive : goal.new-requires-2-clause-positive
new-requires-2-clause-positive c =
    let k = c.self.inside in
    let m = rw (← c.self.view_is) at c.requires in
    (proper-var (formula_of k.prefix.bounds (live k.arena.clauses)) c.args.w c.self.invariant.proper (existential-is_bound k.prefix.bounds c.args.w m.step.valid.behind)).0

pub new-requires-2-clause-small : goal.new-requires-2-clause-small
new-requires-2-clause-small c =
    let k = c.self.inside in
    let m = rw (← c.self.view_is) at c.requires in
    (proper-var (formula_of k.prefix.bounds (live k.arena.clauses)) c.args.w c.self.invariant.proper (existential-is_bound k.prefix.bounds c.args.w m.step.valid.behind)).1

pub append-requires-clause-form : goal.append-requires-clause-form
append-requires-clause-form c =
    let k = c.self.inside in
    let m = rw (← c.self.view_is) at c.requires in (
      ap (λ (l : Literal). l.negative) c.new.ensures,
      ap (λ (l : Literal). l.negative) c.new-2.ensures,
      λ q.
          let same = sym (ap (λ (l : Literal). l.var) c.new.ensures) ∙ q ∙ ap (λ (l : Literal). l.var) c.new-2.ensures in
          true≢false (sym (existential-is_bound k.prefix.bounds c.args.w m.step.valid.behind) ∙ ap (is_bound k.prefix.bounds) (sym same) ∙ m.step.valid.absent),
    )

pub insert_after-requires-clause-present : goal.insert_after-requires-clause-present
insert_after-requires-clause-present c =
    let m = rw (← c.self.view_is) at c.requires in
    existential-is_bound c.self.inside.prefix.bounds c.args.w m.step.valid.behind

pub insert-requires-clause-absent : goal.insert-requires-clause-absent
insert-requires-clause-absent c =
    let k = c.self.inside in
    let m = rw (← c.self.view_is) at c.requires in
    not-grouped k.uses k.prefix.bounds (is_listed k.occ) c.self.invariant.grouped c.args.v m.step.valid.absent

pub invariant_of-self : goal.invariant_of-self
invariant_of-self c =
    let k = c.self.inside in
    let m = rw (← c.self.view_is) at c.requires in
    let q = c.insert_after.ensures.bounds Exists (quant-exists k.prefix.bounds c.args.w m.step.valid.behind) ∙ with_after-inserted c.args.v c.args.w k.prefix.bounds in
    kernel-freshened k.prefix c.insert_after.new.self k.arena k.occ k.uses c.insert.new.self k.count k.size k.empties k.units k.top k.greatest c.self.invariant c.insert.ensures.room c.insert_after.ensures.greatest
    c.args.v c.args.w m.step.valid m.reserved q c.insert.ensures.idle c.insert.ensures.existentials c.insert.ensures.universals _ (omega (arith, c.max-self-inside.ensures))

pub returns : goal.returns
returns c =
    let k = c.self.inside in
    let m = rw (← c.self.view_is) at c.requires in
    let q = c.insert_after.ensures.bounds Exists (quant-exists k.prefix.bounds c.args.w m.step.valid.behind) ∙ with_after-inserted c.args.v c.args.w k.prefix.bounds in
    let t = rw (c.new.ensures, c.new-2.ensures) at c.append.ensures.text in
    let b = rw (c.new.ensures, c.new-2.ensures) at c.append.ensures.spare in
    rw (← c.self.view_is) (record {
      prefix = q;
      change = refl;
      logged = record { text = t; bytes = b; led = led-freshened _ _ c.args.v c.args.w (logged-fresh _ c.args.v c.args.w c.self.invariant.proper m.step.valid (existential-is_bound k.prefix.bounds c.args.w m.step.valid.behind)) m.step.valid t q refl };
      words = omega arith;
      ids = omega arith;
      vars = c.insert_after.ensures.spare;
      greatest = omega arith;
    })
